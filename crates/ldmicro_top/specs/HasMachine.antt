-- The targets whose code runs on a machine that is written here. A C text runs on none: a compiler takes it on.
use Rattle.std.specs.Prelude.{Bool, true, false}
use Rattle.chip_tables.specs.declared.target.Target.{Target}
use Rattle.chip_tables.specs.declared.target.Target.TheVariants.{F628, F877, Mega16, Interp, AnsiC}

abbrev pub has_machine : Target → Bool
has_machine F628 = true
has_machine F877 = true
has_machine Mega16 = true
has_machine Interp = true
has_machine AnsiC = false
