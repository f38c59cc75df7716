-- The registers of a port are the port's own, whatever its number.
use Rattle.std.proofs.Common.{◌≡◌, ℕ, zero, suc, ◌<◌, refl, arith}
use Rattle.std.specs.Prelude.{slice_index}
use Rattle.avr_devices.specs.declared.devices.AvrDevices.{AvrDevices}
use Rattle.avr_devices.specs.Device.{port_of, with_port, pins}
use Rattle.avr_devices.specs.DeviceReads.{device_byte}
use Rattle.avr_devices.specs.DeviceWrites.{device_written}
use Rattle.avr_devices.specs.IoSpace.{latch_register, direction_register, level_register}

past : (k : ℕ) → suc (suc (suc (suc k))) < 4 → ⊥
past k h = omega (arith, h)

pub latch_read : (d : AvrDevices) (port : ℕ) → port < 4 → device_byte d (latch_register port) ≡ (port_of d port).latch
latch_read d zero h = refl
latch_read d (suc zero) h = refl
latch_read d (suc (suc zero)) h = refl
latch_read d (suc (suc (suc zero))) h = refl
latch_read d (suc (suc (suc (suc k)))) h = absurd (past k h)

pub direction_read : (d : AvrDevices) (port : ℕ) → port < 4 → device_byte d (direction_register port) ≡ (port_of d port).direction
direction_read d zero h = refl
direction_read d (suc zero) h = refl
direction_read d (suc (suc zero)) h = refl
direction_read d (suc (suc (suc zero))) h = refl
direction_read d (suc (suc (suc (suc k)))) h = absurd (past k h)

pub level_read : (d : AvrDevices) (port : ℕ) → port < 4 → device_byte d (level_register port) ≡ pins (port_of d port) (slice_index d.reading.levels port)
level_read d zero h = refl
level_read d (suc zero) h = refl
level_read d (suc (suc zero)) h = refl
level_read d (suc (suc (suc zero))) h = refl
level_read d (suc (suc (suc (suc k)))) h = absurd (past k h)

pub latch_written : (d : AvrDevices) (port x cycles : ℕ) → port < 4 → device_written d (latch_register port) x cycles ≡ with_port d port
    (record (port_of d port) { latch = x })
latch_written d zero x cycles h = refl
latch_written d (suc zero) x cycles h = refl
latch_written d (suc (suc zero)) x cycles h = refl
latch_written d (suc (suc (suc zero))) x cycles h = refl
latch_written d (suc (suc (suc (suc k)))) x cycles h = absurd (past k h)

pub direction_written : (d : AvrDevices) (port x cycles : ℕ) → port < 4 → device_written d (direction_register port) x cycles ≡ with_port d port
    (record (port_of d port) { direction = x })
direction_written d zero x cycles h = refl
direction_written d (suc zero) x cycles h = refl
direction_written d (suc (suc zero)) x cycles h = refl
direction_written d (suc (suc (suc zero))) x cycles h = refl
direction_written d (suc (suc (suc (suc k)))) x cycles h = absurd (past k h)

pub level_written : (d : AvrDevices) (port x cycles : ℕ) → port < 4 → device_written d (level_register port) x cycles ≡ d
level_written d zero x cycles h = refl
level_written d (suc zero) x cycles h = refl
level_written d (suc (suc zero)) x cycles h = refl
level_written d (suc (suc (suc zero))) x cycles h = refl
level_written d (suc (suc (suc (suc k)))) x cycles h = absurd (past k h)
