use Rattle.std.proofs.Common.{ap, subst}
use Rattle.std.proofs.lemmas.List.{take_all}
use Rattle.target_core.specs.Law.{label_named}
use Rattle.avr_code.specs.Target.{Admits}
use Rattle.avr_emit.specs.Chip.{board_of}
use Rattle.avr_emit.proofs.chip.Avr.code.Goals as goal

pub place-requires : goal.place-requires
place-requires c = c.requires.labels c.in-Jump.label (ap label_named c.in-Jump.is)

pub place-requires-in-Call : goal.place-requires-in-Call
place-requires-in-Call c = c.requires.labels c.in-Call.label (ap label_named c.in-Call.is)

pub place-requires-in-JumpWhere : goal.place-requires-in-JumpWhere
place-requires-in-JumpWhere c = c.requires.labels c.in-JumpWhere.label (ap label_named c.in-JumpWhere.is)

pub returns-in-Table : goal.returns-in-Table
returns-in-Table c =
    let admitted = subst (Admits (board_of c.args.self.now)) c.in-Table.is c.requires.admitted in
    rw (c.in-Table.is, take_all 256 c.in-Table.values admitted.1) c.table.ensures
