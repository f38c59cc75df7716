use Rattle.byte_lower.proofs.SampleLemmas.{placed}
use Rattle.byte_lower.proofs.CycleLemmas.{carries}
use Rattle.byte_lower.specs.Samples.{rises}
use Rattle.byte_lower.proofs.laws.rises_are_counted.Goals as goal

pub returns : goal.returns
returns c = record {
  placed = placed;
  carried = λ o at. carries o rises (placed o at) o.chip o.plan.ram_fits;
}
