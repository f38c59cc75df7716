use Rattle.std.proofs.Common.{not, ◌∙◌, arith, sym, ap}
use Rattle.intel_hex.specs.Areas.{is_in_area}
use Rattle.intel_hex.proofs.AreaLemmas.{any_step}
use Rattle.intel_hex.proofs.loaded.is_outside.Goals as goal

pub loop-address-preserved : goal.loop-address-preserved
loop-address-preserved c =
    any_step (λ a. not (is_in_area c.args.target a)) c.loop-address.address _ (omega arith) (ap not (sym c.is_in_area.ensures ∙ c.if-not-is_in_area.false))
    ∙ c.loop-address.invariant
