use Rattle.std.proofs.Common.{arith}
use Rattle.std.proofs.lemmas.List.FromFn.{map-range_with_len_more}
use Rattle.intel_hex.specs.Kept.{word_at}
use Rattle.intel_hex.specs.Loaded.{held}
use Rattle.intel_hex.proofs.kept.words.Goals as goal

pub loop-place-preserved : goal.loop-place-preserved
loop-place-preserved c =
    let more = map-range_with_len_more (word_at c.args.is_pic (held c.args.bytes.now)) 0 c.loop-place.place c.loop-place.place (omega arith) in
    let word = c.word.ensures in
    let v = c.loop-place.invariant in
    let pushed = c.in_ok-push.ensures.ok in
    rw (more, ← word, ← v) pushed
