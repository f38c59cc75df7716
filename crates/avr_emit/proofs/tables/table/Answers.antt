use Rattle.std.proofs.Common.{◌≤◌, length, arith, append_assoc, append-nil, refl}
use Rattle.std.proofs.lemmas.List.{at_drop_all}
use Rattle.avr_code.specs.Code.{values_from, words_of}
use Rattle.avr_emit.proofs.Words.{table_first, table_next}
use Rattle.avr_emit.proofs.tables.table.Goals as goal

pub loop-i-init : goal.loop-i-init
loop-i-init c =
    rw (c.in_ok-first_value.ensures, append_assoc, ← (table_first c.args.values.now c.get-before.result.now c.get-before.ensures)) refl

pub loop-i-preserved : goal.loop-i-preserved
loop-i-preserved c =
    rw (
      c.in_ok-value_behind.ensures,
      append_assoc,
      ← (table_next c.loop-i.i c.loop-i.before c.args.values.now c.get-x.result.now c.get-x.ensures),
    ) c.loop-i.invariant

pub returns : goal.returns
returns c =
    let all : length c.args.values.now ≤ c.loop-i.i = omega (arith, c.loop-i-test.false, c.len-i-end.ensures) in
    let none = at_drop_all (λ vs. words_of (values_from c.loop-i.i c.loop-i.before vs)) c.args.values.now c.loop-i.i all in
    rw (none, append-nil) at c.loop-i.invariant
