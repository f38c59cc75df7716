-- What a chip shows of a project's names.
use Rattle.std.specs.Prelude.{◌≡◌, ℕ, Bool, false, ℤ, length, map, Option, Some, None}
use Rattle.chip_tables.specs.Bits.{bit_of}
use Rattle.chip_tables.specs.declared.pins.PortBit.{PortBit}
use Rattle.chip_tables.specs.declared.target.Target.{Target}
use Rattle.ladder_tree.specs.declared.names.Names.{Names}
use Rattle.ladder_tree.specs.declared.project.Project.{Project}
use Rattle.ladder_meaning.specs.Device.{number_of}
use Rattle.ladder_meaning.specs.View.{firsts, bytes_of}
use Rattle.ladder_meaning.specs.declared.reading.View as ladder
use Rattle.ladder_rules.specs.Assigned.{name_bit}
use Rattle.mem_plan.specs.Places.{IsChip, low_byte, high_byte, byte_of_bit, bit_in_byte}
use Rattle.mem_plan.specs.declared.places.Plan.{Plan}
use Rattle.chip_meaning.specs.Chip.{View}
use Rattle.chip_meaning.specs.Shows.{kept_bits}

-- what stands nowhere is low, or 0
abbrev pub latch_at : View → Option PortBit → Bool
latch_at v None = false
latch_at v (Some b) = v.latch b

abbrev pub cell_at : View → Option ℕ → ℕ
cell_at v None = 0
cell_at v (Some address) = v.cell address

-- a kept bit, in its byte behind so many variables
abbrev pub kept_bit : Target → ℕ → View → ℕ → Bool
kept_bit target variables v bit = bit_of (cell_at v (byte_of_bit target variables bit)) (bit_in_byte bit)

-- the number of a variable, in its two bytes
abbrev pub number_at : Target → View → ℕ → ℤ
number_at target v variable = number_of (cell_at v (low_byte target variable)) (cell_at v (high_byte target variable))

-- What is to be seen of a chip, by a project's names in their order: each output as the latch of its own pin, each relay, the first of the kept bits,
-- and each variable at its place in RAM, the byte that the cycle sent, and the EEPROM from address 0 on. No duty is shown.
abbrev pub shown_of : Project → Names → View → Option ℕ → ladder.View
shown_of p n v sent = record {
  outputs = map (λ name. latch_at v (name_bit p name)) n.outputs;
  relays = firsts (length n.relays) (kept_bit p.target (length n.variables) v);
  variables = firsts (length n.variables) (number_at p.target v);
  pwm = None;
  sent = sent;
  eeprom = bytes_of (length n.persistent) v.eeprom;
}

-- the plan of a project's names on its own target, which is a chip
pub record IsPlanOf (p : Project) (n : Names) (plan : Plan) : Type 0 where
  pub chip : IsChip p.target
  pub target : plan.target ≡ p.target
  pub variables : plan.sizes.variables ≡ length n.variables
  pub kept_bits : plan.sizes.kept_bits ≡ kept_bits n
  pub persistent : plan.sizes.persistent ≡ length n.persistent
