-- How many bytes of each memory are needed by what is kept from cycle to cycle.
use Rattle.std.specs.Prelude.{ℕ, ◌+◌, ◌*◌, ◌/◌, ◌^◌, ◌<◌}
use Rattle.int_code.specs.declared.op.IntProgram.{IntProgram}
use Rattle.mem_plan.specs.declared.sizes.Sizes.{Sizes}

-- Two bytes a variable, and then eight bits a byte. The bits are the kept ones: relays, memories and start flags. Wires have no place,
-- since they mean nothing from cycle to cycle.
abbrev pub ram_need : Sizes → ℕ
ram_need s = 2 * s.variables + (s.kept_bits + 7) / 8

-- two bytes a persistent variable
abbrev pub eeprom_need : Sizes → ℕ
eeprom_need s = 2 * s.persistent

abbrev pub sizes_of : IntProgram → Sizes
sizes_of p = record { variables = p.variables; kept_bits = p.kept_bits; persistent = p.persistent }

-- numbers of 32 bits can say the needs
pub record AreNumbers (s : Sizes) : Type 0 where
  pub ram : ram_need s < 2 ^ 32
  pub eeprom : eeprom_need s < 2 ^ 32
