use Rattle.byte_code.proofs.SampleLemmas as samples
use Rattle.byte_code.proofs.laws.copier_copies.Goals as goal

pub returns : goal.returns
returns c = record {
  counts = λ s readings answers fresh. samples.copier_keeps readings s answers fresh;
  copies = λ s readings answers fresh. samples.copier_copies readings s answers fresh;
}
