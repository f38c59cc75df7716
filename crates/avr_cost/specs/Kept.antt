-- The ATmega16's code keeps to the table of costs.
use Rattle.chip_tables.specs.declared.target.Target.TheVariants.{Mega16}
use Rattle.chip_cost.specs.Rows.{KeepsTable}
use Rattle.avr_cost.specs.Taken.{kind_words, kind_cycles}

abbrev pub KeepsItsTable : Type 0
KeepsItsTable = KeepsTable Mega16 kind_words kind_cycles
