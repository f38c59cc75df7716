use Rattle.std.proofs.Common.{◌∙◌, refl}
use Rattle.std.proofs.lemmas.Result.{on_ok_weaker}
use Rattle.ladder_lower.proofs.devices.emit_persist.Goals as goal

pub returns : goal.returns
returns c =
    on_ok_weaker c.push_all.result
    (λ e. e ∙ rw (c.power.ensures, c.spare-spare.ensures, c.flag_bit-flag.ensures, c.variable_of-v.ensures, c.persistent_of-a.ensures) refl)
    c.push_all.ensures
