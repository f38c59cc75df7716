use Rattle.texts.specs.Lines.{lines}
use Rattle.ladder_trace.specs.Held.{draft}
use Rattle.ladder_trace.proofs.FineLemmas.{read_fits}
use Rattle.ladder_trace.proofs.trace.read_trace.Goals as goal

pub returns-else-text-gt-FILE_BYTES-clause-fits : goal.returns-else-text-gt-FILE_BYTES-clause-fits
returns-else-text-gt-FILE_BYTES-clause-fits c =
    let outcome = rw c.in-All.is at c.in-Ok.ensures in
    read_fits c.args.names.now (lines c.judged.result.now) (draft c.in-All.reader) outcome.0
