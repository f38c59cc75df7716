use Rattle.std.proofs.Common.{◌∙◌, arith, ap, take, drop}
use Rattle.intel_hex.proofs.TextLemmas.{words_more}
use Rattle.intel_hex.proofs.write.push_words.Goals as goal

pub loop-place-preserved : goal.loop-place-preserved
loop-place-preserved c =
    let size = c.min.ensures in
    words_more _ c.loop-place.place c.loop-place.rest.now c.split_at.result.0.now c.split_at.result.1.now c.loop-place.text.items c.push_data.new.text.items
    (omega arith)
    (c.split_at.ensures.front ∙ ap (λ k. take k c.loop-place.rest.now) size)
    (c.split_at.ensures.back ∙ ap (λ k. drop k c.loop-place.rest.now) size)
    c.in_ok-push_data.ensures
    ∙ c.loop-place.invariant
