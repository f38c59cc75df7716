use Rattle.std.proofs.Common.{◌≡◌, refl, ap, ◌∙◌, ◌++◌, ◌∷◌, [], None, length, arith}
use Rattle.std.proofs.lemmas.List.{length-replicate, replicate_more}
use Rattle.intel_hex.specs.Loaded.{held}
use Rattle.intel_hex.proofs.AreaLemmas.{none_held}
use Rattle.intel_hex.proofs.loaded.Loaded.new.Goals as goal

pub loop-preserved : goal.loop-preserved
loop-preserved c =
    c.in_ok-push.ensures.items ∙ ap (λ bytes. bytes ++ None ∷ []) c.loop.invariant ∙ replicate_more c.loop.counter None

pub returns : goal.returns
returns c =
    let whole : c.loop.counter ≡ 17408 = omega arith in
    record {
      size = ap length c.loop.invariant ∙ length-replicate c.loop.counter None ∙ whole;
      bytes = λ a. ap (λ bytes. held bytes a) c.loop.invariant ∙ none_held c.loop.counter a;
      upper = refl;
      ended = refl;
    }
