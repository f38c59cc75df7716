use Rattle.std.proofs.Common.{refl}
use Rattle.byte_code.specs.Store.{word_at}
use Rattle.byte_code.proofs.SampleLemmas as samples
use Rattle.byte_code.proofs.laws.routine_is_called_twice.Goals as goal

pub returns : goal.returns
returns c = record {
  counts = λ s readings answers fresh. samples.twos_keep (word_at s.store 0x60) readings s answers fresh refl;
  counts_on = λ s readings answers fresh. samples.twos_count (word_at s.store 0x60) readings s answers fresh refl;
}
