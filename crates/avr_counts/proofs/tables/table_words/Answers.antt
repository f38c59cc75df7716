use Rattle.std.proofs.Common.{◌≤◌, length, take, arith}
use Rattle.std.proofs.lemmas.List.{length-take, at_drop_all}
use Rattle.avr_code.specs.Code.{values_from, size_in}
use Rattle.avr_counts.proofs.Sizes.{size_next}
use Rattle.avr_counts.proofs.tables.table_words.Goals as goal

pub loop-i-preserved : goal.loop-i-preserved
loop-i-preserved c =
    let low = c.loop-i-test.true in (
      size_next c.args.values.now c.loop-i.i c.loop-i.before c.get-x.result.now c.loop-i.count c.next_words-count.result _ (omega (arith, low, c.min-end.ensures))
          c.get-x.ensures (c.next_words-count.ensures.value c.loop-i.i) c.loop-i.invariant.0,
      omega (arith, c.loop-i.invariant.1, c.next_words-count.ensures.few),
    )

pub returns-clause-value : goal.returns-clause-value
returns-clause-value c =
    let high = c.loop-i-test.false in
    let all : length (take 256 c.args.values.now) ≤ c.loop-i.i =
    omega (arith, high, length-take 256 c.args.values.now, c.min-end.ensures, c.len.ensures)
    in
    let none = at_drop_all (λ vs. size_in (values_from c.loop-i.i c.loop-i.before vs)) (take 256 c.args.values.now) c.loop-i.i all in
    omega (arith, none, c.loop-i.invariant.0)
