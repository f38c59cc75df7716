use Rattle.ld_line.proofs.TokenLemmas.{no_run, first_run_of}
use Rattle.std.proofs.Common.{arith, ◌<◌, length}
use Rattle.std.proofs.lemmas.Bool.Decides.{nat_tests}
use Rattle.ld_line.proofs.tokens.first_run.Goals as goal

pub returns-then-is_empty : goal.returns-then-is_empty
returns-then-is_empty c = no_run c.args.bytes.now (rw (← c.behind_blanks-rest.ensures) (grind (arith, nat_tests)))

pub returns : goal.returns
returns c =
    let rest = c.behind_blanks-rest.result.now in
    let some : 0 < length rest = grind (arith, nat_tests) in
    first_run_of c.args.bytes.now rest c.token_width-width.result c.behind_blanks-rest.ensures some c.token_width-width.ensures.value
