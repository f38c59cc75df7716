use Rattle.std.proofs.Common.{arith}
use Rattle.ladder_tree.specs.Leaves.{all_leaves}
use Rattle.ladder_rules.specs.declared.cost.Column.TheVariants.{Words}
use Rattle.ladder_rules.proofs.NeedLemmas.{total_small, features_small}
use Rattle.ladder_rules.proofs.need.word_need.Goals as goal

pub total-requires : goal.total-requires
total-requires c =
    let h = total_small Words c.args.legal.now.project.target c.args.legal.now.project.rungs c.args.legal.now.limits in
    rw (c.as_slice.ensures, c.project-project.ensures) (omega (arith, h))

pub overflow_add-result : goal.overflow_add-result
overflow_add-result c =
    let h = total_small Words c.args.legal.now.project.target c.args.legal.now.project.rungs c.args.legal.now.limits in
    let k = features_small c.args.legal.now.project.target (all_leaves c.args.legal.now.project.rungs) in
    rw (c.total.ensures, c.feature_words.ensures, c.as_slice.ensures, c.project-project.ensures) (omega (arith, h, k))
