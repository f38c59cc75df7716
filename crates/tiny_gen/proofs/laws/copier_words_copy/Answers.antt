use Rattle.tiny_gen.proofs.Copying.{copies}
use Rattle.tiny_gen.proofs.laws.copier_words_copy.Goals as goal

pub returns : goal.returns
returns c = copies c.copier_copies.ensures.counts c.copier_copies.ensures.copies
