use Rattle.avr_emit.proofs.chip.AvrMachine16.emit.Goals as goal

pub code-requires-clause-labels : goal.code-requires-clause-labels
code-requires-clause-labels c = λ l named. (c.requires.labels l named).0
