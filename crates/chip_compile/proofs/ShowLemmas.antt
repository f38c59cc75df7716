-- A chip that has what the byte machine has shows the ladder's state.
use Rattle.std.proofs.Common.{◌≡◌, ℕ, ◌+◌, ◌*◌, ◌/◌, ◌%◌, ◌<◌, ◌≤◌, Bool, true, List, [], length, map, Option, Some, refl, sym, ap, subst, arith, ◌∙◌}
use Rattle.std.specs.Prelude.{slice_index, slice_index_or, ◌↔◌, Contains}
use Rattle.chip_tables.specs.Bits.{bit_of}
use Rattle.chip_tables.specs.Memory.{ram_address, eeprom_size}
use Rattle.chip_tables.specs.Pins.{port_bit_at}
use Rattle.chip_tables.specs.declared.pins.PortBit.{PortBit}
use Rattle.chip_tables.specs.declared.scratch.TheConstants.{WIRES}
use Rattle.chip_tables.specs.declared.target.Target.{Target}
use Rattle.ladder_lower.specs.Correct as lower
use Rattle.ladder_meaning.specs.Device.{word_of}
use Rattle.ladder_meaning.specs.State.{State}
use Rattle.ladder_rules.specs.Assigned.{name_bit}
use Rattle.ladder_tree.specs.Names.{names_of}
use Rattle.ladder_tree.specs.declared.names.Names.{Names}
use Rattle.ladder_tree.specs.declared.project.Project.{Project}
use Rattle.int_code.specs.Store as int
use Rattle.int_code.specs.declared.op.IntProgram.{IntProgram}
use Rattle.mem_plan.specs.Places.{low_byte, high_byte, byte_of_bit}
use Rattle.byte_code.specs.Store.{cell, word_at}
use Rattle.byte_code.specs.declared.store.Store.{Store}
use Rattle.byte_lower.specs.Layout.{word_cell, bit_cell, pin_at}
use Rattle.byte_lower.specs.Stands.{Stands}
use Rattle.byte_lower.specs.declared.layout.Layout.{Layout}
use Rattle.byte_lower.proofs.PlaceLemmas.{word_places, kept_at}
use Rattle.chip_meaning.specs.Chip.{View}
use Rattle.chip_meaning.specs.Shows.{Shows, HasNumber, HasBit}
use Rattle.chip_compile.specs.Linked.{IsLinked}
use Rattle.chip_compile.specs.Serves.{HoldsStore}
use Rattle.chip_compile.proofs.SeenLemmas.{pin_of_name, pins_length}

words_same : (a b c d : ℕ) → a ≡ c → b ≡ d → a + b * 256 ≡ c + d * 256
words_same a b c d e f = omega (arith, e, f)

module _ (p : Project) (o : Layout) (program : IntProgram) (linked : IsLinked p o program) (v : View) (d : Store) (t : int.Store) (s : State)
    (holds : HoldsStore o v d) (stands : Stands o d t) (shows : lower.Shows (names_of p.rungs) s t) where
  abbrev n : Names
  n = names_of p.rungs

  variables : o.plan.sizes.variables ≡ length n.variables
  variables = ap (λ z. z.variables) linked.sizes ∙ linked.lowered.sizes.variables

  kept_bits : o.plan.sizes.kept_bits ≡ length n.relays + (n.memories + length n.persistent)
  kept_bits = ap (λ z. z.kept_bits) linked.sizes ∙ linked.lowered.sizes.kept

  number_shown : (k : ℕ) → k < length n.variables → HasNumber p.target v k (word_of (s.number (slice_index_or n.variables k [])))
  number_shown k lt =
      let below : k < o.plan.sizes.variables = omega (arith, lt, variables) in
      let a = word_cell o k in
      let at = word_places o o.chip o.plan.ram_fits k below in
      record {
        low = a;
        high = a + 1;
        at_low = subst (λ (x : Target). low_byte x k ≡ Some a) linked.target at.0;
        at_high = subst (λ (x : Target). high_byte x k ≡ Some (a + 1)) linked.target at.1;
        holds = words_same _ _ _ _ (holds.cells (2 * k) a at.0) (holds.cells (2 * k + 1) (a + 1) at.1) ∙ (stands.numbers k below).word
            ∙ ap word_of (shows.variables k lt);
      }

  bit_shown : (k : ℕ) (x : Bool) → k < length n.relays + (n.memories + length n.persistent) → t.bit k ≡ x → HasBit p.target v (length n.variables) k x
  bit_shown k x lt is =
      let below : k < o.plan.sizes.kept_bits = omega (arith, lt, kept_bits) in
      let at = kept_at o o.chip o.plan.ram_fits k below in
      let here : byte_of_bit o.plan.target o.plan.sizes.variables k ≡ Some (bit_cell o k).address = at.0 in
      record {
        address = (bit_cell o k).address;
        at = subst (λ (y : Target). byte_of_bit y (length n.variables) k ≡ Some (bit_cell o k).address) linked.target
            (subst (λ (m : ℕ). byte_of_bit o.plan.target m k ≡ Some (bit_cell o k).address) variables here);
        holds = ap (λ b. bit_of b (k % 8)) (holds.cells (2 * o.plan.sizes.variables + k / 8) (bit_cell o k).address at.0)
            ∙ ap (bit_of (cell d (bit_cell o k).address)) (sym at.1) ∙ stands.bits k (omega (arith, below)) ∙ is;
      }

  output_shown : (k : ℕ) (b : PortBit) → k < length n.outputs → name_bit p (slice_index_or n.outputs k []) ≡ Some b → v.latch b ≡ s.bit (slice_index_or n.outputs k [])
  output_shown k b lt is =
      let few : k < length o.outputs = omega (arith, lt, pins_length (name_bit p) o.outputs n.outputs linked.outputs) in
      let same : b ≡ pin_at o.outputs k = cc (sym is ∙ pin_of_name (name_bit p) o.outputs n.outputs linked.outputs k lt) in
      ap v.latch same ∙ holds.latches k few ∙ stands.outputs k few ∙ shows.outputs k lt

  pub state_shown : Shows p v s
  state_shown = record {
    variables = number_shown;
    relays = λ k lt. bit_shown k _ (omega (arith, lt)) (shows.relays k lt);
    memories = λ k lt. bit_shown (length n.relays + k) _ (omega (arith, lt)) (shows.memories k lt);
    loaded = λ k lt. bit_shown (length n.relays + (n.memories + k)) _ (omega (arith, lt)) (shows.loaded k lt);
    outputs = output_shown;
    drives = λ pin b is. subst (λ (pins : List (Option PortBit)). (v.drives b ≡ true) ↔ Contains pins (Some b)) linked.outputs
        (holds.drives pin b (subst (λ (x : Target). port_bit_at x pin ≡ Some b) (sym linked.target) is));
    eeprom = λ a lt. holds.eeprom a (subst (λ (x : Target). a < eeprom_size x) (sym linked.target) lt) ∙ ap (λ f. f a) stands.eeprom ∙ ap (λ f. f a) shows.eeprom;
    without_duty = linked.no_duty;
  }
