use Rattle.std.proofs.Common.{◌∙◌, sym}
use Rattle.texts.proofs.KeyLemmas.{among}
use Rattle.texts.proofs.keys.has_key.Goals as goal

pub returns : goal.returns
returns c = c.contains.ensures ∙ sym (among c.args.key.now c.args.keys.now.keys)
