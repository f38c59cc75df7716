use Rattle.intel_hex.proofs.TextLemmas.{few_bytes}
use Rattle.intel_hex.proofs.write.push_data.Goals as goal

pub push_line-requires : goal.push_line-requires
push_line-requires c = rw c.as_slice.ensures.value (few_bytes _ _ c.args.words.now c.requires c.loop-word.invariant)
