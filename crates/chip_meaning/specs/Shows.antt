-- When a chip shows a ladder's state.
use Rattle.std.specs.Prelude.{◌≡◌, ℕ, ◌+◌, ◌*◌, ◌<◌, ◌↔◌, Bool, true, false, [], length, map, slice_index_or, Contains, Some}
use Rattle.chip_tables.specs.Bits.{bit_of}
use Rattle.chip_tables.specs.Memory.{eeprom_size}
use Rattle.chip_tables.specs.Pins.{port_bit_at}
use Rattle.chip_tables.specs.declared.pins.PortBit.{PortBit}
use Rattle.chip_tables.specs.declared.target.Target.{Target}
use Rattle.ladder_tree.specs.Leaves.{all_leaves}
use Rattle.ladder_tree.specs.Names.{names_of}
use Rattle.ladder_tree.specs.Peripherals.{any_pwm}
use Rattle.ladder_tree.specs.declared.names.Names.{Names}
use Rattle.ladder_tree.specs.declared.project.Project.{Project}
use Rattle.ladder_meaning.specs.Device.{word_of}
use Rattle.ladder_meaning.specs.State.{State}
use Rattle.ladder_rules.specs.Assigned.{name_bit}
use Rattle.mem_plan.specs.Places.{low_byte, high_byte, byte_of_bit, bit_in_byte}
use Rattle.chip_meaning.specs.Chip.{View}

-- the kept bits of a project: its relays, its memories, and a start flag for each persistent variable
abbrev pub kept_bits : Names → ℕ
kept_bits n = length n.relays + (n.memories + length n.persistent)

-- the number, modulo 65536, stands in two bytes, the low one first
pub record HasNumber (target : Target) (v : View) (variable : ℕ) (word : ℕ) : Type 0 where
  pub low : ℕ
  pub high : ℕ
  pub at_low : low_byte target variable ≡ Some low
  pub at_high : high_byte target variable ≡ Some high
  pub holds : v.cell low + v.cell high * 256 ≡ word

-- the kept bit stands in a byte behind the variables
pub record HasBit (target : Target) (v : View) (variables bit : ℕ) (value : Bool) : Type 0 where
  pub address : ℕ
  pub at : byte_of_bit target variables bit ≡ Some address
  pub holds : bit_of (v.cell address) (bit_in_byte bit) ≡ value

-- The chip shows the state of the project's ladder: each variable and kept bit at its place in RAM, each output as the latch of its own pin, and every
-- byte of the EEPROM. It drives the pins of the outputs, and no other pin. What a duty comes to on a chip is not told yet: of a project that has a PWM no
-- chip shows a state.
pub record Shows (p : Project) (v : View) (s : State) : Type 0 where
  pub variables : (k : ℕ) → k < length (names_of p.rungs).variables →
      HasNumber p.target v k (word_of (s.number (slice_index_or (names_of p.rungs).variables k [])))
  pub relays : (k : ℕ) → k < length (names_of p.rungs).relays →
      HasBit p.target v (length (names_of p.rungs).variables) k (s.bit (slice_index_or (names_of p.rungs).relays k []))
  pub memories : (k : ℕ) → k < (names_of p.rungs).memories →
      HasBit p.target v (length (names_of p.rungs).variables) (length (names_of p.rungs).relays + k) (s.memory k)
  pub loaded : (k : ℕ) → k < length (names_of p.rungs).persistent →
      HasBit p.target v (length (names_of p.rungs).variables) (length (names_of p.rungs).relays + ((names_of p.rungs).memories + k))
      (s.loaded (slice_index_or (names_of p.rungs).persistent k []))
  pub outputs : (k : ℕ) (b : PortBit) → k < length (names_of p.rungs).outputs →
      name_bit p (slice_index_or (names_of p.rungs).outputs k []) ≡ Some b → v.latch b ≡ s.bit (slice_index_or (names_of p.rungs).outputs k [])
  pub drives : (pin : ℕ) (b : PortBit) → port_bit_at p.target pin ≡ Some b →
      (v.drives b ≡ true) ↔ Contains (map (name_bit p) (names_of p.rungs).outputs) (Some b)
  pub eeprom : (a : ℕ) → a < eeprom_size p.target → v.eeprom a ≡ s.eeprom a
  pub without_duty : any_pwm (all_leaves p.rungs) ≡ false
