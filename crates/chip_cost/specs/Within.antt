-- Code that keeps to the public list is within what the rules count.
use Rattle.std.specs.Prelude.{◌≡◌, ℕ, ◌≤◌, true, None, List, sum_by}
use Rattle.ladder_tree.specs.Names.{names_of}
use Rattle.ladder_tree.specs.declared.project.Project.{Project}
use Rattle.ladder_rules.specs.Needs.{word_need, cycle_cap, boot_cap}
use Rattle.ladder_rules.specs.Pins.{is_chip}
use Rattle.ladder_rules.specs.Verdict.{rule}
use Rattle.ladder_lower.specs.Outcome.{IsLowered}
use Rattle.mem_plan.specs.Needs.{sizes_of}
use Rattle.int_code.specs.declared.op.IntProgram.{IntProgram}
use Rattle.byte_code.specs.Kinds.{PrimKind, kinds, boot_kinds, turn_kinds}
use Rattle.byte_code.specs.Lowered.{IsListed}
use Rattle.byte_code.specs.declared.prim.Paced.{Paced}
use Rattle.byte_lower.specs.Listed.{operations, routines_in, starts_in}
use Rattle.byte_lower.specs.declared.layout.Layout.{Layout}
use Rattle.chip_cost.specs.Rows.{KeepsTable}

-- the primitives of code weigh no more than the needs of a project, once each, as often as a cycle begins them, and in front of the first reading
pub record IsWithinNeeds (p : Project) (words cycles : PrimKind → ℕ) (prims : List Paced) : Type 0 where
  pub words_few : sum_by words (kinds p.target prims) ≤ word_need p
  pub cycles_few : sum_by cycles (turn_kinds p.target prims) ≤ cycle_cap p
  pub boot_few : sum_by cycles (boot_kinds p.target prims) ≤ boot_cap p

-- Of a chip whose weights keep to the table, and a project that keeps the rules: whatever code is listed for the project's program is within its needs.
abbrev pub ListedIsWithinTable : Type 0
ListedIsWithinTable =
    (p : Project) (o : Layout) (program : IntProgram) (words cycles : PrimKind → ℕ) (prims : List Paced) →
    is_chip p.target ≡ true → rule p ≡ None → KeepsTable p.target words cycles → IsLowered (names_of p.rungs) p program → o.plan.sizes ≡ sizes_of program →
    IsListed p.target (starts_in program.starts) (routines_in program.ops) (operations o program) prims → IsWithinNeeds p words cycles prims
