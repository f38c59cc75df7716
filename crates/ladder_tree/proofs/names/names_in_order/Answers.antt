use Rattle.ladder_tree.specs.Names.{firsts, all_named, variable_names, analog_names, persistent_names, memories_in}
use Rattle.ladder_tree.proofs.NameLemmas.{listed, bits, collected}
use Rattle.ladder_tree.proofs.names.names_in_order.Goals as goal

pub returns : goal.returns
returns c =
    let all = c.in_ok-leaves.ensures in
    collected c.args.project.now.rungs _ _ _ _ _ _ _
    (listed (bits 88) _ _ _ _ c.in_ok-first_bits.ensures c.deref.ensures.value all)
    (listed (bits 89) _ _ _ _ c.in_ok-first_bits-2.ensures c.deref-2.ensures.value all)
    (listed (bits 82) _ _ _ _ c.in_ok-first_bits-3.ensures c.deref-3.ensures.value all)
    (listed (λ ls. firsts (all_named variable_names ls)) _ _ _ _ c.in_ok-first_variables.ensures c.deref-4.ensures.value all)
    (listed (λ ls. firsts (all_named analog_names ls)) _ _ _ _ c.in_ok-first_analog.ensures c.deref-5.ensures.value all)
    (listed (λ ls. firsts (all_named persistent_names ls)) _ _ _ _ c.in_ok-first_persistent.ensures c.deref-6.ensures.value all)
    (listed memories_in _ _ _ _ c.count_memories.ensures c.deref-7.ensures.value all)
