use Rattle.std.proofs.Common.{◌∙◌, arith}
use Rattle.int_sim.proofs.ShownLemmas.{saved_bytes}
use Rattle.int_sim.proofs.sim.saved.Goals as goal

pub returns : goal.returns
returns c = saved_bytes c.args.persistent c.args.eeprom.now c.from_vec.result (omega arith) (omega arith) (c.from_vec.ensures ∙ c.in_ok-bytes.ensures.items_if_clones_equal (λ x y e. e))
