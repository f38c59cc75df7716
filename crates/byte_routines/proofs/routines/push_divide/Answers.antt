use Rattle.std.proofs.Common.{◌++◌, ap, ◌∙◌, append_assoc}
use Rattle.byte_routines.specs.Routines.{divide_front, divide_steps}
use Rattle.byte_routines.proofs.routines.push_divide.Goals as goal

pub returns : goal.returns
returns c =
    c.in_ok-push_divide_steps.ensures ∙ ap (λ x. x ++ divide_steps c.args.scratch.now c.args.calls) c.in_ok-push_divide_front.ensures
    ∙ append_assoc c.args.into.now (divide_front c.args.scratch.now c.args.calls) (divide_steps c.args.scratch.now c.args.calls)
