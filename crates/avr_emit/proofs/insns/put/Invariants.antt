use Rattle.std.proofs.Common.{◌≡◌, ◌++◌, drop}
use Rattle.avr_emit.specs.Emit.{insn_words}
use Rattle.avr_emit.proofs.insns.put.Given as goal

abbrev pub invariant-loop-i : goal.invariant-loop-i
invariant-loop-i l = l.words ++ insn_words (drop l.i-index l.insns) ≡ l.initial.words ++ insn_words l.insns
