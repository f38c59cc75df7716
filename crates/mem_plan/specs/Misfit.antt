-- Which memory of a target is too small for what is kept from cycle to cycle.
use Rattle.std.specs.Prelude.{nat_lt, if◌then◌else◌, Option, Some, None}
use Rattle.chip_tables.specs.Memory.{ram_size, eeprom_size}
use Rattle.chip_tables.specs.declared.target.Target.{Target}
use Rattle.mem_plan.specs.Needs.{ram_need, eeprom_need}
use Rattle.mem_plan.specs.declared.fault.PlanFault.{PlanFault}
use Rattle.mem_plan.specs.declared.fault.PlanFault.TheVariants.{RamFull, EepromFull}
use Rattle.mem_plan.specs.declared.sizes.Sizes.{Sizes}

-- RAM comes first
abbrev pub misfit : Sizes → Target → Option PlanFault
misfit s target =
    if nat_lt (ram_size target) (ram_need s) then Some (RamFull (ram_need s) (ram_size target))
    else if nat_lt (eeprom_size target) (eeprom_need s) then Some (EepromFull (eeprom_need s) (eeprom_size target))
    else None
