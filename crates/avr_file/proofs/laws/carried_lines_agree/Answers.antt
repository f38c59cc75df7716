use Rattle.avr_file.proofs.AgreeLemmas.{file_agrees}
use Rattle.avr_file.proofs.laws.carried_lines_agree.Goals as goal

pub returns : goal.returns
returns c = file_agrees
