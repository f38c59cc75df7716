use Rattle.std.proofs.Common.{◌≡◌, ◌==◌, ◌&&◌, ◌∷◌, false, refl, Ok, length, sym, ap, ◌∙◌, arith}
use Rattle.texts.specs.Lines.{lines}
use Rattle.intel_hex.specs.Said.{said_of}
use Rattle.intel_hex.specs.Kept.{image_of}
use Rattle.intel_hex.specs.Loaded.{held}
use Rattle.intel_hex.specs.Verdict.{hex_verdict, sayings, verdict}
use Rattle.texts.specs.Limits.{is_over}
use Rattle.texts.specs.declared.limits.TheConstants.{FILE_BYTES}
use Rattle.intel_hex.proofs.VerdictLemmas.{stops, goes_on, is_last, is_not_long, is_not_last, plain_line, last_line, at_end}
use Rattle.intel_hex.proofs.read.read_hex.Goals as goal
use Rattle.intel_hex.proofs.read.read_hex.Goals.{else-is_long-via-then-is_long+else-is_empty, else-is_long-via-else-is_long}

pub returns-then-is_empty-clause-error : goal.returns-then-is_empty-clause-error
returns-then-is_empty-clause-error c =
    let v = c.loop-bytes.invariant in
    let last =
    is_last (length c.args.text.now) (length c.in-Some.behind.now) c.if-is_long.true (sym c.is_empty.ensures ∙ c.if-is_empty.true) in
    rw c.fault.ensures
    (last_line c.args.target v.0 (is_over FILE_BYTES c.args.text.now) c.loop-bytes.rest.now c.in-Some.bytes.now c.in-Some.behind.now
    (hex_verdict c.args.target c.args.text.now) c.loop-bytes.line
    v.2 c.in-Some.ensures.line.lines last v.3)

pub returns-in-Some-2-clause-error : goal.returns-in-Some-2-clause-error
returns-in-Some-2-clause-error c =
    let v = c.loop-bytes.invariant in
    let long = is_over FILE_BYTES c.args.text.now in
    let size = length c.args.text.now in
    let rest = length c.in-Some.behind.now in
    let plain : (long && (rest == 0)) ≡ false =
    elim c.else-is_long.branch [
      | else-is_long-via-then-is_long+else-is_empty w ↦ is_not_last size rest (sym w.is_empty.ensures ∙ w.if-is_empty.false)
      | else-is_long-via-else-is_long w ↦ is_not_long size rest w.if-is_long.false
    ] in
    let said = plain_line long c.loop-bytes.rest.now c.in-Some.bytes.now c.in-Some.behind.now c.in-Some.ensures.line.lines plain in
    let took = c.in_ok-cause.ensures v.0 v.1 in
    let is = sym (ap (verdict c.args.target v.0) said) ∙ v.2 in
    rw c.fault-in-Some-2.ensures
    (stops c.args.target v.0 (said_of c.in-Some.bytes.now) (sayings long (lines c.in-Some.behind.now)) (hex_verdict c.args.target c.args.text.now)
    c.loop-bytes.line c.in-Some-2.cause is (sym took.0 ∙ c.in-Some-2.is) v.3)

pub loop-bytes-preserved : goal.loop-bytes-preserved
loop-bytes-preserved c =
    let v = c.loop-bytes.invariant in
    let long = is_over FILE_BYTES c.args.text.now in
    let size = length c.args.text.now in
    let rest = length c.in-Some.behind.now in
    let plain : (long && (rest == 0)) ≡ false =
    elim c.else-is_long.branch [
      | else-is_long-via-then-is_long+else-is_empty w ↦ is_not_last size rest (sym w.is_empty.ensures ∙ w.if-is_empty.false)
      | else-is_long-via-else-is_long w ↦ is_not_long size rest w.if-is_long.false
    ] in
    let said = plain_line long c.loop-bytes.rest.now c.in-Some.bytes.now c.in-Some.behind.now c.in-Some.ensures.line.lines plain in
    let took = c.in_ok-cause.ensures v.0 v.1 in
    let is = sym (ap (verdict c.args.target v.0) said) ∙ v.2 in
    let shorter = c.in-Some.ensures.line.shorter in
    let counted = v.3 in
    let few = v.4 in (
      said_of c.in-Some.bytes.now ∷ v.0,
      took.1 (rw c.in_default-2.is refl),
      goes_on c.args.target v.0 (said_of c.in-Some.bytes.now) (sayings long (lines c.in-Some.behind.now)) (hex_verdict c.args.target c.args.text.now) is
          (sym took.0 ∙ c.in_default-2.is),
      omega arith,
      omega arith,
    )

pub returns-clause-image : goal.returns-clause-image
returns-clause-image c =
    let v = c.loop-bytes.invariant in
    at_end c.args.target v.0 (is_over FILE_BYTES c.args.text.now) c.loop-bytes.rest.now (hex_verdict c.args.target c.args.text.now)
    c.loop-bytes.loaded.bytes.items
    v.2 (c.in_default.ensures.none.0 refl) (sym v.1.ended ∙ c.if-not-loaded.false) v.1.bytes
    ∙ ap Ok (ap (λ bytes. image_of c.args.target (held bytes)) (sym c.bytes.ensures) ∙ sym c.in_ok-image.ensures)
