use Rattle.texts.specs.Digits.{digits}
use Rattle.ld_line.proofs.NumberLemmas.{no_size, some_size}
use Rattle.ld_line.proofs.number.with_sign.Goals as goal

pub returns-in-Some : goal.returns-in-Some
returns-in-Some c = some_size c.args.is_negative (digits c.args.token.now) c.in-Some.size c.in-Some.ensures

pub returns-in-None : goal.returns-in-None
returns-in-None c = no_size c.args.is_negative (digits c.args.token.now) c.in-None.ensures
