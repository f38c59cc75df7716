use Rattle.std.proofs.Common.{ap, ◌∙◌}
use Rattle.ladder_tree.specs.Leaves.{all_leaves}
use Rattle.ladder_rules.proofs.OwnerLemmas.{or_false, another_found}
use Rattle.ladder_rules.proofs.owners.is_anothers.Goals as goal

pub returns-in-Some : goal.returns-in-Some
returns-in-Some c =
    rw (c.as_slice.ensures, c.as_slice-2.ensures) at (ap (λ w. or_false w.0) c.in-Some.ensures ∙ another_found
    (record { pins = c.as_slice.result; pin = c.args.pin; name = c.args.name }) (all_leaves c.as_slice-2.result.now))

pub returns-in-None : goal.returns-in-None
returns-in-None c =
    rw (c.as_slice.ensures, c.as_slice-2.ensures) at (ap (λ w. or_false w.0) c.in-None.ensures ∙ another_found
    (record { pins = c.as_slice.result; pin = c.args.pin; name = c.args.name }) (all_leaves c.as_slice-2.result.now))
