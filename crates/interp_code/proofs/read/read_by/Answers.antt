use Rattle.std.proofs.Common.{◌∙◌, arith}
use Rattle.texts.specs.Lines.{lines}
use Rattle.texts.specs.Limits.{judged}
use Rattle.texts.specs.declared.limits.TheConstants.{CODE_BYTES}
use Rattle.texts.proofs.LineLemmas.{length-lines}
use Rattle.interp_code.specs.Held.{draft}
use Rattle.interp_code.proofs.RunnableLemmas.{runnable}
use Rattle.interp_code.proofs.WritableLemmas.{writable}
use Rattle.interp_code.proofs.Outcomes.{stopped_refused, behind_refused, whole_text, whole_length}
use Rattle.interp_code.proofs.read.read_by.Goals as goal

pub returns-in-Stopped-clause-error : goal.returns-in-Stopped-clause-error
returns-in-Stopped-clause-error c =
    let o = rw (c.in-Stopped.is, c.judged.ensures.front) at c.in-Ok.ensures in
    stopped_refused _ (lines (judged CODE_BYTES c.args.text.now)) c.in-Stopped.line o

pub fault_behind-requires : goal.fault_behind-requires
fault_behind-requires c =
    let o = rw c.in-All.is at c.in-Ok.ensures in
    let few = length-lines c.judged.result.now in
    let short = c.judged.ensures.short in
    let same = o.2 in
    omega arith

pub returns-in-Some-clause-error : goal.returns-in-Some-clause-error
returns-in-Some-clause-error c =
    let o = rw (c.in-All.is, c.judged.ensures.front) at c.in-Ok.ensures in
    behind_refused c.args.text.now (draft c.read_lines.new.reader) c.in-All.count c.in-Some.line o.0 o.1 o.2 c.in-Some.ensures.some

pub program-requires : goal.program-requires
program-requires c =
    let o = rw c.in-All.is at c.in-Ok.ensures in
    o.2 ∙ whole_length (lines c.judged.result.now) (draft c.read_lines.new.reader) o.0 c.in_default.ensures.none.1

pub returns-in-Ok-program-clause-program : goal.returns-in-Ok-program-clause-program
returns-in-Ok-program-clause-program c =
    let o = rw (c.in-All.is, c.judged.ensures.front) at c.in-Ok.ensures in
    let fine = c.in_default.ensures.none in
    rw c.in-Ok-program.ensures (whole_text c.args.text.now (draft c.read_lines.new.reader) fine.0 o.0 o.1 fine.1)

pub returns-in-Ok-program-clause-runnable : goal.returns-in-Ok-program-clause-runnable
returns-in-Ok-program-clause-runnable c =
    let o = rw (c.in-All.is, c.judged.ensures.front) at c.in-Ok.ensures in
    let fine = c.in_default.ensures.none in
    rw c.in-Ok-program.ensures (runnable (lines c.args.text.now) _ (whole_text c.args.text.now (draft c.read_lines.new.reader) fine.0 o.0 o.1 fine.1))

pub returns-in-Ok-program-clause-writable : goal.returns-in-Ok-program-clause-writable
returns-in-Ok-program-clause-writable c =
    let o = rw (c.in-All.is, c.judged.ensures.front) at c.in-Ok.ensures in
    let fine = c.in_default.ensures.none in
    rw c.in-Ok-program.ensures (writable (lines c.args.text.now) _ (whole_text c.args.text.now (draft c.read_lines.new.reader) fine.0 o.0 o.1 fine.1))
