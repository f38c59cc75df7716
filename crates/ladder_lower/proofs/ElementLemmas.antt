-- The operations of each element do what the element does.
use Rattle.std.proofs.Common.{◌≡◌, ℕ, ◌+◌, ◌<◌, ◌≤◌, ◌&&◌, not, Bool, true, false, cond, List, [], ◌∷◌, ◌++◌, refl, sym, ap, ◌∙◌, subst, append-nil, arith, pos}
use Rattle.std.proofs.Math.Bool.{and-false, and-true, not-not}
use Rattle.std.specs.Prelude.{slice_index_or}
use Rattle.ladder_tree.specs.Names.{is_output, is_input, memories, operand_names}
use Rattle.ladder_tree.specs.declared.element.CoilMode.TheVariants as mode
use Rattle.ladder_tree.specs.declared.element.CoilMode.{CoilMode}
use Rattle.ladder_tree.specs.declared.element.LeafKind.TheVariants.{Contacts, Coil, Osr, Osf, Short, Open, MasterRelay, Placeholder, Comment, Timer, Counter}
use Rattle.ladder_tree.specs.declared.element.LeafKind.TheVariants.{Reset, Move, Math, Compare, Shift, Table, ReadAdc, SetPwm, Recv, Send, Persist, Linear}
use Rattle.ladder_tree.specs.declared.element.LeafKind.TheVariants.{Formatted}
use Rattle.ladder_tree.specs.declared.element.LeafKind.{LeafKind}
use Rattle.ladder_tree.specs.declared.element.MathHow.{MathHow}
use Rattle.ladder_tree.specs.declared.element.Operand.{Operand}
use Rattle.ladder_meaning.specs.Element.{element, coil, operand, set_where}
use Rattle.ladder_meaning.specs.Numbers.{period, computed}
use Rattle.ladder_meaning.specs.State as ladder
use Rattle.ladder_meaning.specs.State.{Seen, Now, with_bit, with_memory, with_master, place_of}
use Rattle.ladder_meaning.specs.declared.reading.Reading.{Reading}
use Rattle.int_code.specs.Meaning.{Moment, all_run, run}
use Rattle.int_code.specs.Store.{Store, value_of, with}
use Rattle.int_code.specs.WellFormed.{nests}
use Rattle.int_code.specs.declared.op.BitDest.TheVariants as dest
use Rattle.int_code.specs.declared.op.BitSource.TheVariants as source
use Rattle.int_code.specs.declared.op.IntOp.TheVariants.{Set, Clr, Cpy, Not, Ifs, Ifc, Lit, Adc}
use Rattle.ladder_lower.specs.ElementCode.{where_power, move_op, math_op, element_code, contact_code, coil_code}
use Rattle.ladder_lower.specs.Wires.{master, spare, power, source_by, source_of, dest_of, variable_of, number_of, memory_bit}
use Rattle.ladder_lower.specs.declared.layout.Layout.{Layout}
use Rattle.ladder_lower.proofs.AfterLemmas.{after, one_after, where_done, cut_by}
use Rattle.int_code.proofs.AsleepLemmas.{asleep}
use Rattle.ladder_lower.proofs.CounterLemmas.{counter_done, shift_done}
use Rattle.ladder_lower.proofs.DeviceLemmas.{pwm_done, receive_done, send_done}
use Rattle.ladder_lower.proofs.Lowers.{After, levels, terms_of}
use Rattle.ladder_lower.proofs.NumberLemmas.{held_front, held_back, operand_value, set_done, move_writes, math_writes, table_done, compare_done}
use Rattle.ladder_lower.proofs.PersistLemmas.{persist_done}
use Rattle.ladder_lower.proofs.NestLemmas.{element_closes}
use Rattle.ladder_lower.proofs.Stands.{Stands, IsHeld, IsNamed, AllHeld}
use Rattle.ladder_lower.proofs.TimerLemmas.{timer_done}
use Rattle.ladder_lower.proofs.WriteLemmas.{same, other}
use Rattle.ladder_lower.proofs.WroteLemmas.{Wrote, nothing_wrote, power_wrote, memory_wrote, spare_wrote, master_wrote, name_wrote, output_is}

-- what closes by itself nests by itself
pub element_nests : (p : Layout) (kind : LeafKind) (k : ℕ) → nests (element_code p kind k) [] ≡ true
element_nests p kind k = ap (λ ops. nests ops []) (sym (append-nil (element_code p kind k))) ∙ (element_closes p kind k).same [] []

pub element_asleep : (p : Layout) (r : Reading) (kind : LeafKind) (k : ℕ) (m : Moment) → all_run m.ifs ≡ false → run r (element_code p kind k) m ≡ m
element_asleep p r kind k m e = asleep r (element_code p kind k) m (element_nests p kind k) e

value_by : (p : Layout) (r : Reading) (s : Now) (t : Store) (name : List ℕ) (x y : Bool) → is_input name ≡ x → is_output name ≡ y
    → (is_input name ≡ false → IsHeld p name) → Stands p s t
    → value_of r t (source_by x y p name) ≡ cond x (slice_index_or r.inputs (place_of p.inputs name) false) (s.kept.bit name)
value_by p r s t name true y e f h sh = refl
value_by p r s t name false true e f h sh = sh.outputs name f (rw f at (h e))
value_by p r s t name false false e f h sh = sh.relays name f (rw f at (h e))

-- a contact reads what the name means
source_value : (p : Layout) (r : Reading) (g : Seen) (s : Now) (t : Store) (name : List ℕ) → (is_input name ≡ false → IsHeld p name) → Stands p s t
    → value_of r t (source_of p name) ≡ ladder.value_of (levels p g r) s name
source_value p r g s t name h sh = value_by p r s t name (is_input name) (is_output name) refl refl h sh

module _ (p : Layout) (r : Reading) (d : ℕ) (m : Moment) (s : Now) where
  contact_done : (neg : Bool) (name : List ℕ) (b : Bool) → value_of r m.store (source_of p name) ≡ b → all_run m.ifs ≡ true → Stands p s m.store
      → After p d m (run r (contact_code p neg name) m) (record { now = s; output = m.store.bit (power p) && cond neg (not b) b })
  contact_done true name b v on sh = cut_by p r (Ifs (source_of p name)) d m s b (record { opens = refl; writes_none = refl; runs = v }) on sh
  contact_done false name b v on sh =
      rw not-not at (cut_by p r (Ifc (source_of p name)) d m s (not b) (record { opens = refl; writes_none = refl; runs = ap not v }) on sh)

  coil_done : (how : CoilMode) (name : List ℕ) → IsHeld p name → all_run m.ifs ≡ true → Stands p s m.store
      → After p d m (run r (coil_code p how name) m) (record { now = coil how name s (m.store.bit (power p)); output = m.store.bit (power p) })
  coil_done mode.Plain name h on sh =
      one_after p r (Cpy (dest_of p name) (source.B (power p))) d m _ refl on (name_wrote name (m.store.bit (power p)) h (nothing_wrote s m.store _ refl sh))
  coil_done mode.Negated name h on sh =
      one_after p r (Not (dest_of p name) (source.B (power p))) d m _ refl on
      (name_wrote name (not (m.store.bit (power p))) h (nothing_wrote s m.store _ refl sh))
  coil_done mode.Set name h on sh =
      where_done p r (Set (dest_of p name)) d m s (with_bit s name true) (m.store.bit (power p)) refl refl on sh
      (λ e. name_wrote name true h (nothing_wrote s m.store true e sh))
  coil_done mode.Reset name h on sh =
      where_done p r (Clr (dest_of p name)) d m s (with_bit s name false) (m.store.bit (power p)) refl refl on sh
      (λ e. name_wrote name false h (nothing_wrote s m.store true e sh))

  -- OSR and OSF, once the power is kept on the spare wire: a test of the memory, and the memory's write
  edge : (t : Store) (k : ℕ) (x q b : Bool) → k < p.memories → t.bit (spare p) ≡ x → Wrote p m.store t (record { now = s; output = q })
      → Wrote p m.store (with (cond b (with t (dest.B (power p)) false) t) (dest.B (memory_bit p k))
      ((cond b (with t (dest.B (power p)) false) t).bit (spare p))) (record { now = with_memory s k x; output = q && not b })
  edge t k x q true lt saved f =
      rw (other (power p) (spare p) false (t.bit (spare p)) (omega arith), saved)
      (output_is (q && false) (sym (and-false q)) (memory_wrote k x lt (power_wrote false f)))
  edge t k x q false lt saved f = rw saved (output_is (q && true) (sym (and-true q)) (memory_wrote k x lt f))

  osr_done : (k : ℕ) → k < p.memories → all_run m.ifs ≡ true → Stands p s m.store
      → After p d m (run r (element_code p Osr k) m)
      (record { now = with_memory s k (m.store.bit (power p)); output = m.store.bit (power p) && not (s.kept.memory k) })
  osr_done k lt on sh =
      let x = m.store.bit (power p) in
      let t = with m.store (dest.B (spare p)) x in
      let kept : t.bit (memory_bit p k) ≡ s.kept.memory k = other (spare p) (memory_bit p k) x _ (omega arith) ∙ sh.memories k lt in
      rw (on, kept) (after d m _ (edge t k x x (s.kept.memory k) lt (same (spare p) x _) (spare_wrote x (omega arith) (nothing_wrote s m.store x refl sh))))

  osf_done : (k : ℕ) → k < p.memories → all_run m.ifs ≡ true → Stands p s m.store
      → After p d m (run r (element_code p Osf k) m)
      (record { now = with_memory s k (m.store.bit (power p)); output = not (m.store.bit (power p)) && s.kept.memory k })
  osf_done k lt on sh =
      let x = m.store.bit (power p) in
      let t0 = with m.store (dest.B (spare p)) x in
      let unmoved : t0.bit (power p) ≡ x = other (spare p) (power p) x _ (omega arith) in
      let t = with t0 (dest.B (power p)) (not x) in
      let kept : t.bit (memory_bit p k) ≡ s.kept.memory k = other (power p) (memory_bit p k) (not x) _ (omega arith)
      ∙ other (spare p) (memory_bit p k) x _ (omega arith) ∙ sh.memories k lt in
      let saved : t.bit (spare p) ≡ x = other (power p) (spare p) (not x) _ (omega arith) ∙ same (spare p) x _ in
      subst (λ (o : Bool). After p d m (run r (element_code p Osf k) m) (record { now = with_memory s k x; output = not x && o })) (not-not (s.kept.memory k))
      (rw (on, unmoved, kept)
      (after d m _ (edge t k x (not x) (not (s.kept.memory k)) lt saved
      (power_wrote (not x) (spare_wrote x (omega arith) (nothing_wrote s m.store x refl sh))))))

  -- by the bit and the power
  master_by : (b x : Bool) → p.has_master ≡ true → m.store.bit (master p) ≡ b → m.store.bit (power p) ≡ x → all_run m.ifs ≡ true → Stands p s m.store
      → After p d m (run r (element_code p MasterRelay 0) m) (record { now = with_master s (cond b x true); output = x })
  master_by true true has v w on sh =
      rw (on, w, same (master p) false (m.store.bit (master p)))
      (after d m _ (master_wrote true has (master_wrote false has (nothing_wrote s m.store true w sh))))
  master_by false true has v w on sh =
      rw (on, w, same (master p) false (m.store.bit (master p)))
      (after d m _ (master_wrote true has (master_wrote false has (nothing_wrote s m.store true w sh))))
  master_by true false has v w on sh = rw (on, w, v) (after d m _ (master_wrote false has (nothing_wrote s m.store false w sh)))
  master_by false false has v w on sh = rw (on, w, v) (after d m _ (master_wrote true has (nothing_wrote s m.store false w sh)))

  none_done : Stands p s m.store → After p d m m (record { now = s; output = m.store.bit (power p) })
  none_done sh = record { ifs = refl; shows = sh; power = refl; wires = λ j lo hi. refl }

  math_done : (how : MathHow) (dest : List ℕ) (a b : Operand) → AllHeld p.variables (dest ∷ (operand_names a ++ operand_names b)) → all_run m.ifs ≡ true
      → Stands p s m.store
      → After p d m (run r (where_power p (math_op how (variable_of p dest) (number_of p a) (number_of p b))) m)
      (record { now = set_where (m.store.bit (power p)) s dest (computed how (operand s a) (operand s b)); output = m.store.bit (power p) })
  math_done how dest a b h on sh =
      let w = math_writes r m.store how (variable_of p dest) (number_of p a) (number_of p b) in
      let e = operand_value p s m.store a (held_front p.variables (operand_names a) (operand_names b) h.1) sh in
      let f = operand_value p s m.store b (held_back p.variables (operand_names a) (operand_names b) h.1) sh in
      set_done p r (math_op how (variable_of p dest) (number_of p a) (number_of p b)) d m s dest (computed how (operand s a) (operand s b)) w.0
      (rw (← e, ← f) w.1) h.0 on sh

  move_done : (dest : List ℕ) (a : Operand) → AllHeld p.variables (dest ∷ operand_names a) → all_run m.ifs ≡ true → Stands p s m.store
      → After p d m (run r (where_power p (move_op (variable_of p dest) (number_of p a))) m)
      (record { now = set_where (m.store.bit (power p)) s dest (operand s a); output = m.store.bit (power p) })
  move_done dest a h on sh =
      let w = move_writes r m.store (variable_of p dest) (number_of p a) in
      let e = operand_value p s m.store a h.1 sh in
      set_done p r (move_op (variable_of p dest) (number_of p a)) d m s dest (operand s a) w.0 (rw (← e) w.1) h.0 on sh

pub element_awake : (p : Layout) (r : Reading) (g : Seen) (kind : LeafKind) (d k : ℕ) (m : Moment) (s : Now) → IsNamed p kind → k + memories kind ≤ p.memories
    → all_run m.ifs ≡ true → Stands p s m.store
    → After p d m (run r (element_code p kind k) m) (element (terms_of p) (levels p g r) kind k s (m.store.bit (power p)))
element_awake p r g (Contacts name neg) d k m s h lt on sh =
    contact_done p r d m s neg name (ladder.value_of (levels p g r) s name) (source_value p r g s m.store name (λ e. rw e at h.place) sh) on sh
element_awake p r g (Coil name how) d k m s h lt on sh = coil_done p r d m s how name h.place on sh
element_awake p r g Osr d k m s h lt on sh = osr_done p r d m s k (omega arith) on sh
element_awake p r g Osf d k m s h lt on sh = osf_done p r d m s k (omega arith) on sh
element_awake p r g Short d k m s h lt on sh = none_done p r d m s sh
element_awake p r g Open d k m s h lt on sh =
    one_after p r (Clr (dest.B (power p))) d m (record { now = s; output = false }) refl on (power_wrote false (nothing_wrote s m.store _ refl sh))
element_awake p r g MasterRelay d k m s h lt on sh = master_by p r d m s s.master (m.store.bit (power p)) h.place (sh.master h.place) refl on sh
element_awake p r g Placeholder d k m s h lt on sh = none_done p r d m s sh
element_awake p r g (Comment text) d k m s h lt on sh = none_done p r d m s sh
element_awake p r g (Timer how name delay) d k m s h lt on sh = timer_done p r d m s name (pos (period p.cycle delay)) how h.variables.0 on sh
element_awake p r g (Counter how name max) d k m s h lt on sh = counter_done p r how k d m s name max (omega arith) h.variables.0 on sh
element_awake p r g (Reset name) d k m s h lt on sh = set_done p r (Lit (variable_of p name) (pos 0)) d m s name (pos 0) refl refl h.variables.0 on sh
element_awake p r g (Move dest src) d k m s h lt on sh = move_done p r d m s dest src h.variables on sh
element_awake p r g (Math how dest a b) d k m s h lt on sh = math_done p r d m s how dest a b h.variables on sh
element_awake p r g (Compare how a b) d k m s h lt on sh =
    let e = operand_value p s m.store a (held_front p.variables (operand_names a) (operand_names b) h.variables) sh in
    let f = operand_value p s m.store b (held_back p.variables (operand_names a) (operand_names b) h.variables) sh in
    compare_done p r d m s how (number_of p a) (number_of p b) (operand s a) (operand s b) e f on sh
element_awake p r g (Shift name places) d k m s h lt on sh = shift_done p r k d m s name places (omega arith) h.variables on sh
element_awake p r g (Table dest index as_text values) d k m s h lt on sh = table_done p r d m s dest index values h.variables.0 h.variables.1 on sh
element_awake p r g (ReadAdc name) d k m s h lt on sh =
    set_done p r (Adc (variable_of p name) (place_of p.analog name)) d m s name ((levels p g r).analog name) refl refl h.variables.0 on sh
element_awake p r g (SetPwm name hz) d k m s h lt on sh = pwm_done p r d m s name hz h.variables.0 on sh
element_awake p r g (Recv name) d k m s h lt on sh = receive_done p r d m s name h.variables.0 on sh
element_awake p r g (Send name) d k m s h lt on sh = send_done p r d m s name h.variables.0 on sh
element_awake p r g (Persist name) d k m s h lt on sh = persist_done p r name d h.place h.variables.0 m s on sh
element_awake p r g (Linear dest index points) d k m s h lt on sh = none_done p r d m s sh
element_awake p r g (Formatted name text) d k m s h lt on sh = none_done p r d m s sh
