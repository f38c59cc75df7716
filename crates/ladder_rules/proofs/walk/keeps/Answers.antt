use Rattle.std.proofs.Common.{◌+◌, List, drop, Ok, Err, true, refl, ap, ◌∙◌}
use Rattle.std.proofs.lemmas.Result.{err_from_is_err_and}
use Rattle.ladder_tree.specs.Leaves.{all_leaves}
use Rattle.ladder_tree.specs.declared.project.Rung.{Rung}
use Rattle.ladder_rules.specs.Places.{placed_series, all_placed}
use Rattle.ladder_rules.specs.Rules.{fault_of}
use Rattle.ladder_rules.specs.Walk.{walk}
use Rattle.ladder_tree.proofs.FrontLemmas.{none_behind}
use Rattle.ladder_rules.proofs.FrontLemmas.{placed_front}
use Rattle.ladder_rules.proofs.WalkLemmas.{walk_step, room_step, room, whole_walk, refused, accepted}
use Rattle.ladder_rules.proofs.walk.keeps.Goals as goal

pub loop-rung-init : goal.loop-rung-init
loop-rung-init c = rw c.as_slice-rung-items.ensures (record { few = room c.args.ladder.now.project.now.rungs c.requires; walk = refl })

pub returns-in_err-passed : goal.returns-in_err-passed
returns-in_err-passed c =
    let p = err_from_is_err_and c.from_residual.result c.from_residual.ensures.1 in
    let gs = c.as_slice-rung-items.result.now in let i = c.loop-rung.rung-index in let g = c.rung-item.result in
    let broken = fault_of c.args.rule c.args.ladder.now.project.now in
    let all = all_leaves c.args.ladder.now.project.now.rungs in
    rw (p.1, p.2) (refused _ _ (whole_walk broken c.args.ladder.now.project.now.rungs (Err c.in_err-passed.field-0.0)
    (walk_step broken all c.loop-rung.passed (placed_series g.nodes true) (all_placed (drop (i + 1) gs)) (all_placed (drop i gs))
    (Err c.in_err-passed.field-0.0) _ (placed_front gs i g c.loop-rung-test.true c.rung-item.is) (rw c.as_slice.ensures at c.in_err-passed.ensures)
    c.loop-rung.invariant.walk)))

pub loop-rung-preserved : goal.loop-rung-preserved
loop-rung-preserved c =
    let gs = c.as_slice-rung-items.result.now in let i = c.loop-rung.rung-index in let g = c.rung-item.result in
    let broken = fault_of c.args.rule c.args.ladder.now.project.now in
    let all = all_leaves c.args.ladder.now.project.now.rungs in
    let front = placed_front gs i g c.loop-rung-test.true c.rung-item.is in
    record {
      few = room_step broken all c.loop-rung.passed c.in_ok-passed.passed (placed_series g.nodes true) (all_placed (drop (i + 1) gs)) (all_placed (drop i gs))
          front (rw c.as_slice.ensures at c.in_ok-passed.ensures) c.loop-rung.invariant.few;
      walk = walk_step broken all c.loop-rung.passed (placed_series g.nodes true) (all_placed (drop (i + 1) gs)) (all_placed (drop i gs))
          (Ok c.in_ok-passed.passed) _ front (rw c.as_slice.ensures at c.in_ok-passed.ensures) c.loop-rung.invariant.walk;
    }

pub returns : goal.returns
returns c =
    let gs = c.as_slice-rung-items.result.now in
    let broken = fault_of c.args.rule c.args.ladder.now.project.now in
    let all = all_leaves c.args.ladder.now.project.now.rungs in
    accepted _ (whole_walk broken c.args.ladder.now.project.now.rungs (Ok c.loop-rung.passed)
    (ap (λ (rest : List Rung). walk broken all c.loop-rung.passed (all_placed rest)) (none_behind gs c.loop-rung.rung-index c.loop-rung-test.false) ∙
    c.loop-rung.invariant.walk))
