use Rattle.std.proofs.Common.{◌≡◌, ◌++◌, ◌∷◌, [], true, false, sym, ap, ◌∙◌, append_assoc, length-append, arith}
use Rattle.texts.specs.Lines.{lines}
use Rattle.interp_code.specs.Draft.{step_line}
use Rattle.interp_code.specs.Held.{draft}
use Rattle.interp_code.proofs.Outcomes.{took, missed, read_push, stops_unread, stops_past}
use Rattle.interp_code.proofs.read.read_lines.Goals as goal

pub returns-then-not-branch : goal.returns-then-not-branch
returns-then-not-branch c =
    let v = c.loop-bytes.invariant in
    let line = c.in-Some.bytes.now in
    let refused : c.in_ok-read.field-0 ≡ false = c.if-not-branch.true in
    stops_unread (lines c.args.text.now) v.0 (lines c.in-Some.behind.now) line c.loop-bytes.line (draft c.loop-bytes.reader)
    (v.1 ∙ ap (λ ls. v.0 ++ ls) c.in-Some.ensures.line.lines) v.2 v.4 v.5
    (missed (step_line (draft c.loop-bytes.reader) line) c.in_ok-read.field-0 (draft c.read.new.self) c.in_ok-read.ensures refused)

pub returns-then-len-gt-MOST_OPERATIONS : goal.returns-then-len-gt-MOST_OPERATIONS
returns-then-len-gt-MOST_OPERATIONS c =
    let v = c.loop-bytes.invariant in
    let line = c.in-Some.bytes.now in
    let taken : c.in_ok-read.field-0 ≡ true = c.if-not-branch.false in
    stops_past (lines c.args.text.now) v.0 (lines c.in-Some.behind.now) line c.loop-bytes.line (draft c.loop-bytes.reader) (draft c.read.new.self)
    (v.1 ∙ ap (λ ls. v.0 ++ ls) c.in-Some.ensures.line.lines) v.2 v.4 v.5
    (took (step_line (draft c.loop-bytes.reader) line) c.in_ok-read.field-0 (draft c.read.new.self) c.in_ok-read.ensures taken)
    (omega arith)

pub loop-bytes-preserved : goal.loop-bytes-preserved
loop-bytes-preserved c =
    let v = c.loop-bytes.invariant in
    let line = c.in-Some.bytes.now in
    let size = length-append v.0 (line ∷ []) in
    let shorter = c.in-Some.ensures.line.shorter in
    let taken : c.in_ok-read.field-0 ≡ true = c.if-not-branch.false in (
      v.0 ++ line ∷ [],
      v.1 ∙ ap (λ ls. v.0 ++ ls) c.in-Some.ensures.line.lines ∙ sym (append_assoc v.0 (line ∷ []) (lines c.in-Some.behind.now)),
      omega (arith, size),
      omega (arith, shorter),
      read_push (draft c.loop-bytes.reader) v.0 line _ v.4
          (took (step_line (draft c.loop-bytes.reader) line) c.in_ok-read.field-0 (draft c.read.new.self) c.in_ok-read.ensures taken),
      omega arith,
    )
