use Rattle.ld_print.proofs.KnownLemmas.{known}
use Rattle.ld_print.proofs.PrintedLemmas.{read_again}
use Rattle.ld_print.proofs.laws.printed_is_read.Goals as goal

pub returns : goal.returns
returns c text p h = let r = read_again p (known text p h) in (r.project, r.read, r.same)
