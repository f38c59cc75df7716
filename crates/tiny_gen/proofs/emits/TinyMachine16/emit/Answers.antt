use Rattle.std.proofs.Common.{ap}
use Rattle.target_core.specs.Law.{label_named}
use Rattle.tiny_gen.proofs.emits.TinyMachine16.emit.Goals as goal

pub place-requires : goal.place-requires
place-requires c = (c.requires.labels c.in-Jump.label (ap label_named c.in-Jump.is)).0

pub place-requires-in-Call : goal.place-requires-in-Call
place-requires-in-Call c = (c.requires.labels c.in-Call.label (ap label_named c.in-Call.is)).0

pub place-requires-in-JumpWhere-NoByte-default : goal.place-requires-in-JumpWhere-NoByte-default
place-requires-in-JumpWhere-NoByte-default c = (c.requires.labels c.in-JumpWhere-NoByte-default.label (ap label_named c.in-JumpWhere-NoByte-default.is)).0
