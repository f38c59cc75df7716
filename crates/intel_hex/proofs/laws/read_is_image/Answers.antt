use Rattle.intel_hex.proofs.ImageLemmas.{read_fits}
use Rattle.intel_hex.proofs.laws.read_is_image.Goals as goal

pub returns : goal.returns
returns c = read_fits
