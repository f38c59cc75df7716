-- The machine at reset stands for the byte machine in front of its first step.
use Rattle.std.proofs.Common.{◌≡◌, ℕ, zero, suc, ◌<◌, List, [], ◌∷◌, length, refl, sym, ap, arith}
use Rattle.std.proofs.lemmas.Bool.{false≢true}
use Rattle.std.specs.Prelude.{slice_index}
use Rattle.chip_tables.specs.Scratch.{avr_scratch}
use Rattle.chip_tables.specs.declared.settings.Settings.{Settings}
use Rattle.chip_tables.specs.declared.target.Target.TheVariants.{Mega16}
use Rattle.byte_code.specs.State.{fresh}
use Rattle.avr_devices.specs.Device.{port_of}
use Rattle.avr_devices.specs.Reset.{reset_devices}
use Rattle.avr_mach.specs.Reset.{reset_state}
use Rattle.avr_code.specs.Stands.{HasCells, StandsAt}
use Rattle.avr_code.specs.Code.{Board}
use Rattle.avr_code.proofs.Standing.{wire_low}
use Rattle.chip_tables.specs.Bits.{bit_of}

past : (k : ℕ) → suc (suc (suc (suc k))) < 4 → ⊥
past k h = omega (arith, h)

latch_clear : (eeprom : List ℕ) (settings : Settings) (port : ℕ) → port < 4 →
    (port_of (reset_devices eeprom settings) port).latch ≡ slice_index (0 ∷ 0 ∷ 0 ∷ 0 ∷ 0 ∷ []) port
latch_clear eeprom settings zero h = refl
latch_clear eeprom settings (suc zero) h = refl
latch_clear eeprom settings (suc (suc zero)) h = refl
latch_clear eeprom settings (suc (suc (suc zero))) h = refl
latch_clear eeprom settings (suc (suc (suc (suc k)))) h = absurd (past k h)

pub reset_stands : (sram regs eeprom cells : List ℕ) (board : Board) (places : List ℕ) → length regs ≡ 32 → length sram ≡ 1024 →
    HasCells cells regs sram → slice_index places 0 ≡ 0 → StandsAt board places (reset_state sram regs eeprom board.settings)
    (fresh Mega16 cells eeprom avr_scratch).bytes
reset_stands sram regs eeprom cells board places all_regs all_ram h first = record {
  shows = record {
    regs = all_regs;
    sram = all_ram;
    all = h.all;
    scratch = refl;
    target = refl;
    ports = refl;
    file = λ r low free byte. h.file r low;
    wires = λ r e. ap (λ x. bit_of x 0) (h.file r (wire_low r e));
    ram = λ a lo hi. h.ram a lo (let top = hi in omega (arith, top));
    bytes = h.bytes;
    latches = latch_clear eeprom board.settings;
    reading = refl;
    eeprom = refl;
  };
  settings = refl;
  at = sym first;
  started = λ e. absurd (false≢true e);
  flag = tt;
  back = λ e. absurd (false≢true e);
  closed = λ e. refl;
}
