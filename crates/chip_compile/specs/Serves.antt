-- What a chip's crate gives, for a layout of variables, bits and pins.
use Rattle.std.specs.Prelude.{◌≡◌, ℕ, ◌<◌, ◌↔◌, true, false, List, length, map, slice_index, Contains, Some}
use Rattle.chip_tables.specs.Bits.{bit_of}
use Rattle.chip_tables.specs.Memory.{ram_address, eeprom_size}
use Rattle.chip_tables.specs.Pins.{port_bit_at}
use Rattle.chip_tables.specs.declared.outside.PinReading.{PinReading}
use Rattle.chip_tables.specs.declared.pins.PortBit.{PortBit}
use Rattle.runs.specs.Chip.{steps_over}
use Rattle.byte_code.specs.Store.{cell}
use Rattle.byte_code.specs.declared.state.Bytes.{Bytes}
use Rattle.byte_code.specs.declared.store.Store.{Store}
use Rattle.byte_lower.specs.Code.{IsFresh}
use Rattle.byte_lower.specs.Layout.{pin_at}
use Rattle.byte_lower.specs.declared.layout.Layout.{Layout}
use Rattle.target_core.specs.Law.{Target}
use Rattle.chip_meaning.specs.Chip.{Chip, Resets, View}

-- what is seen of the chip is what the byte machine holds: RAM, the latches of the outputs and the EEPROM; and it drives the outputs' pins alone
pub record HoldsStore (o : Layout) (v : View) (d : Store) : Type 0 where
  pub cells : (i a : ℕ) → ram_address o.plan.target i ≡ Some a → v.cell a ≡ cell d a
  pub latches : (k : ℕ) → k < length o.outputs → v.latch (pin_at o.outputs k) ≡ bit_of (slice_index d.latches (pin_at o.outputs k).port) (pin_at o.outputs k).bit
  pub drives : (pin : ℕ) (b : PortBit) → port_bit_at o.plan.target pin ≡ Some b → (v.drives b ≡ true) ↔ Contains (map Some o.outputs) (Some b)
  pub eeprom : (a : ℕ) → a < eeprom_size o.plan.target → v.eeprom a ≡ slice_index d.eeprom a

-- a machine that is reset stands for a fresh byte machine, wherever the code's primitives are in flash
pub record StandsFresh {M : Type 0} (t : Target M) (o : Layout) (eeprom : List ℕ) (m : M) : Type 0 where
  pub bytes : Bytes
  pub fresh : IsFresh o bytes
  pub stopped : bytes.started ≡ false
  pub kept : bytes.store.eeprom ≡ eeprom
  pub stands : (places : List ℕ) → slice_index places 0 ≡ 0 → t.stands places m bytes

-- the chip, reset like this, is the machine of a target of the assembler
pub record Serves {M : Type 0} (chip : Chip M) (resets : Resets M) (t : Target M) (o : Layout) : Type 1 where
  pub step : (flash : List ℕ) → t.step flash ≡ steps_over chip.step flash
  pub wait : t.wait ≡ chip.wait
  pub reads : (r : PinReading) → chip.reads r → t.reads r
  pub reset : (eeprom : List ℕ) (m : M) → resets eeprom m → StandsFresh t o eeprom m
  pub shows : (m : M) (s : Bytes) → t.shows m s → s.started ≡ true → HoldsStore o (chip.view m) s.store
