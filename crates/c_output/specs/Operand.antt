-- The C text of operands.
use Rattle.std.specs.Prelude.{ℕ, List, [], codes}
use Rattle.std.specs.Fmt.{signed_decimal}
use Rattle.ladder_tree.specs.declared.element.Operand.{Operand}
use Rattle.ladder_tree.specs.declared.element.Operand.TheVariants.{Var, Num}
use Rattle.c_output.specs.Filled.{filled, named}

-- a variable or a number, as a long
abbrev pub operand_text : Operand → List ℕ
operand_text (Var name) = named (codes "((long)v_@)") name
operand_text (Num n) = filled (codes "(#L)") [] (signed_decimal n) []
