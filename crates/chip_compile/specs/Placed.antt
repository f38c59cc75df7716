-- The program of a project that keeps the rules has its places on the chip.
use Rattle.std.specs.Prelude.{◌≡◌, true, None, All}
use Rattle.ladder_tree.specs.Leaves.{all_leaves}
use Rattle.ladder_tree.specs.declared.project.Project.{Project}
use Rattle.ladder_rules.specs.Pins.{is_chip}
use Rattle.ladder_rules.specs.Verdict.{rule}
use Rattle.ladder_lower.specs.Fit.{all_fit}
use Rattle.int_code.specs.declared.op.IntProgram.{IntProgram}
use Rattle.byte_lower.specs.Code.{CanPlace}
use Rattle.byte_lower.specs.Lists.{is_built}
use Rattle.byte_lower.specs.declared.layout.Layout.{Layout}
use Rattle.chip_compile.specs.Linked.{IsLinked}

-- where all of its operations are lowered, and its numbers fit them
abbrev pub LinkedIsPlaced : Type 0
LinkedIsPlaced =
    (p : Project) (o : Layout) (program : IntProgram) → is_chip p.target ≡ true → rule p ≡ None → all_fit p.cycle (all_leaves p.rungs) ≡ true →
    IsLinked p o program → All (λ op. is_built op ≡ true) program.ops → CanPlace o program
