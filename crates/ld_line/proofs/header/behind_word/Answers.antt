use Rattle.ld_line.proofs.HeaderLemmas.{stripped}
use Rattle.ld_line.proofs.header.behind_word.Goals as goal

pub returns : goal.returns
returns c = stripped c.args.word.now c.args.bytes.now c.strip_prefix.result c.strip_prefix.ensures.cases
