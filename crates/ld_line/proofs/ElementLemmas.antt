-- The loop over a table's values.
use Rattle.std.proofs.Common.{Bool, true, false, ℤ, List, ◌++◌}
use Rattle.ld_line.specs.declared.said.Said.{Said}
use Rattle.ld_line.specs.declared.said.Said.TheVariants.{Bad, Range, Is}

-- what numbers say together behind others, of which one may be out of its range
abbrev pub after : Bool → List ℤ → Said (List ℤ) → Said (List ℤ)
after is_outside values Bad = Bad
after is_outside values Range = Range
after true values (Is others) = Range
after false values (Is others) = Is (values ++ others)
