use Rattle.avr_cost.proofs.Rows as rows
use Rattle.avr_cost.proofs.laws.keeps_table.Goals as goal

pub returns : goal.returns
returns c = rows.keeps_table
