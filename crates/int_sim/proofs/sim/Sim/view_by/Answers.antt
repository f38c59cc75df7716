use Rattle.std.proofs.Common.{◌≡◌, length, take, ◌∙◌}
use Rattle.int_sim.proofs.ShownLemmas.{shown}
use Rattle.int_sim.proofs.sim.Sim.view_by.Goals as goal

pub returns : goal.returns
returns c =
    let m = c.self.inside in
    let outputs : c.from_vec.result ≡ m.state.outputs.items =
    c.from_vec.ensures ∙ c.in_ok-outputs.ensures.items_if_clones_equal (λ x y e. e) ∙ c.deref.ensures.value in
    let relays : c.from_vec-2.result ≡ take (length c.args.n.now.relays) m.state.bits.items =
    rw (← c.len.ensures, ← c.deref-2.ensures.value) (c.from_vec-2.ensures ∙ c.in_ok-relays.ensures.items_if_clones_equal (λ x y e. e)) in
    let variables : c.from_vec-3.result ≡ m.state.numbers.items =
    c.from_vec-3.ensures ∙ c.in_ok-variables.ensures.items_if_clones_equal (λ x y e. e) ∙ c.deref-3.ensures.value in
    rw (← c.self.view_is) (shown c.args.duty c.args.n.now m.program m.state c.from_vec.result c.from_vec-2.result c.from_vec-3.result c.shown.result c.in_ok-eeprom.eeprom c.self.invariant.0 (rw (← c.self.view_is) at c.requires) outputs relays variables c.shown.ensures c.in_ok-eeprom.ensures)
