use Rattle.std.proofs.Common.{arith}
use Rattle.ladder_rules.specs.declared.cost.Column.TheVariants.{Cycles, Ops}
use Rattle.ladder_rules.proofs.NeedLemmas.{total_small}
use Rattle.ladder_rules.proofs.need.cycle_cap.Goals as goal

pub total-requires : goal.total-requires
total-requires c =
    let h = total_small Cycles c.args.legal.now.project.target c.args.legal.now.project.rungs c.args.legal.now.limits in
    rw (c.as_slice-rungs.ensures, c.project-project.ensures) (omega (arith, h))

pub total-requires-in-Interp : goal.total-requires-in-Interp
total-requires-in-Interp c =
    let h = total_small Ops c.args.legal.now.project.target c.args.legal.now.project.rungs c.args.legal.now.limits in
    rw (c.as_slice-rungs.ensures, c.project-project.ensures) (omega (arith, h))
