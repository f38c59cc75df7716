use Rattle.intel_hex.proofs.WrittenLemmas.{reads_back}
use Rattle.intel_hex.proofs.laws.written_is_read.Goals as goal

pub returns : goal.returns
returns c = reads_back
