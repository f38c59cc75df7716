use Rattle.avr_counts.proofs.Sizes.{size_of_level, size_of_latch}
use Rattle.avr_counts.proofs.bits.copy_wire_words.Goals as goal

pub returns-in-Level-clause-value : goal.returns-in-Level-clause-value
returns-in-Level-clause-value c = λ a.
    size_of_level a c.args.from c.in-Level.port c.in-Level.bit c.args.inverted c.take_wire_words-in-Level.result c.in-Level.is
    (c.take_wire_words-in-Level.ensures.value a c.args.inverted)

pub returns-in-Latch-clause-value : goal.returns-in-Latch-clause-value
returns-in-Latch-clause-value c = λ a.
    size_of_latch a c.args.from c.in-Latch.port c.in-Latch.bit c.args.inverted c.take_wire_words-in-Latch.result c.in-Latch.is
    (c.take_wire_words-in-Latch.ensures.value a c.args.inverted)
