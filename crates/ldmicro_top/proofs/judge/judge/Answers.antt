use Rattle.std.proofs.Common.{sym, subst}
use Rattle.ladder_lower.specs.Outcome.{IsSmall}
use Rattle.ladder_lower.proofs.ProgramLemmas.{small}
use Rattle.ld_text.specs.Within.{IsWithin}
use Rattle.ldmicro_top.proofs.LegalLemmas.{within_limits, can_lower}
use Rattle.ldmicro_top.proofs.judge.judge.Goals as goal

pub check-requires-clause-limits : goal.check-requires-clause-limits
check-requires-clause-limits c = within_limits c.args.project c.requires

pub fit-requires : goal.fit-requires
fit-requires c =
    let legal = c.in-Ok.legal in
    let within = subst IsWithin (sym c.in-Ok.ensures.ok.1) c.requires in
    subst IsSmall (sym c.names.ensures)
    (small legal.names legal.project (can_lower legal.names legal.project legal.named within legal.rules c.in-Ok.ensures.kinds))

pub returns-in-Ok-fit-clause-judged : goal.returns-in-Ok-fit-clause-judged
returns-in-Ok-fit-clause-judged c =
    let legal = c.in-Ok.legal in
    let within = subst IsWithin (sym c.in-Ok.ensures.ok.1) c.requires in
    let can = can_lower legal.names legal.project legal.named within legal.rules c.in-Ok.ensures.kinds in
    record { can = can; within = within; small = small legal.names legal.project can; fits = rw (c.names.ensures, c.project.ensures) at c.in-Ok-fit.ensures.ok }
