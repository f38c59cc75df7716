use Rattle.std.proofs.Common.{ap, ◌∙◌}
use Rattle.ld_line.specs.Words.{word_of}
use Rattle.ld_line.proofs.WordLemmas.{word_spelled, spelled_word}
use Rattle.ld_line.proofs.laws.words_are_spelled.Goals as goal

pub returns : goal.returns
returns c = λ token word. (spelled_word token word, λ same. ap word_of same ∙ word_spelled word)
