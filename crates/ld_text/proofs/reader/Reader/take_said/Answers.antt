use Rattle.ld_text.proofs.StandLemmas.{fits}
use Rattle.ld_text.proofs.reader.Reader.take_said.Goals as goal

pub take_form-requires-clause-fits : goal.take_form-requires-clause-fits
take_form-requires-clause-fits c = fits c.args.self.now c.args.number c.args.self.now.line.items c.args.said c.in-Is.form c.requires.said c.in-Is.is
