use Rattle.texts.proofs.KeyLemmas.{key_added}
use Rattle.texts.proofs.keys.add_key.Goals as goal

pub returns : goal.returns
returns c = key_added c.args.key c.args.keys.now.keys c.insert.new.self.keys c.in_ok-insert.field-0 c.in_ok-insert.ensures.added c.in_ok-insert.ensures.keys
