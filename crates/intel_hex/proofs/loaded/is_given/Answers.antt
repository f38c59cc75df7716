use Rattle.std.proofs.Common.{is_some, ◌∙◌, arith, sym}
use Rattle.intel_hex.specs.Loaded.{held}
use Rattle.intel_hex.proofs.AreaLemmas.{any_step}
use Rattle.intel_hex.proofs.loaded.is_given.Goals as goal

pub loop-address-preserved : goal.loop-address-preserved
loop-address-preserved c =
    any_step (λ a. is_some (held c.args.bytes.now a)) c.loop-address.address _ (omega arith) (sym c.is_some.ensures ∙ c.if-is_some.false)
    ∙ c.loop-address.invariant
