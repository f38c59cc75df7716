use Rattle.std.proofs.Common.{arith}
use Rattle.avr_counts.proofs.Sizes.{size_put_if}
use Rattle.avr_counts.proofs.bits.put_if_words.Goals as goal

pub returns-clause-value : goal.returns-clause-value
returns-clause-value c = λ is.
    let whole = size_put_if c.args.from is c.args.to c.args.x in
    let behind = c.put_where_words.ensures.value c.args.from is in
    omega (arith, whole, behind, c.fetch_words.ensures.value)
