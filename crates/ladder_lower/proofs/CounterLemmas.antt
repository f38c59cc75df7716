-- Counters and shift registers: what they do where their input becomes true.
use Rattle.std.proofs.Common.{◌≡◌, ℕ, zero, suc, ◌<◌, ◌&&◌, not, Bool, true, false, cond, List, [], ◌∷◌, ◌++◌, refl, ap, ◌∙◌, pos, append_assoc}
use Rattle.std.specs.Fmt.{decimal}
use Rattle.std.specs.Prelude.{ℤ, int_lt, int_le, ◌-ℤ◌}
use Rattle.ld_base.specs.Wrap.{wrap}
use Rattle.ladder_tree.specs.Names.{numbered_names}
use Rattle.ladder_tree.specs.declared.element.CounterHow.TheVariants.{Ctu, Ctd, Ctc}
use Rattle.ladder_tree.specs.declared.element.CounterHow.{CounterHow}
use Rattle.ladder_meaning.specs.Device.{Went}
use Rattle.ladder_meaning.specs.Element.{rises, set_where, counter, shifted}
use Rattle.ladder_meaning.specs.Numbers.{next}
use Rattle.ladder_meaning.specs.State.{Now, with_number, with_memory}
use Rattle.ladder_meaning.specs.declared.reading.Reading.{Reading}
use Rattle.int_code.specs.Meaning.{Moment, all_run, store_after, run}
use Rattle.int_code.specs.Shapes.{shape_of}
use Rattle.int_code.specs.Store as store
use Rattle.int_code.specs.WellFormed.{nests}
use Rattle.int_code.specs.declared.op.BitDest.TheVariants as dest
use Rattle.int_code.specs.declared.op.BitSource.TheVariants as source
use Rattle.int_code.specs.declared.op.IntOp.TheVariants.{Cpy, Ifs, Ifc, Iflt, Els, Fi, Lit, Mov, Inc, Dec}
use Rattle.int_code.specs.declared.op.IntOp.{IntOp}
use Rattle.int_code.specs.declared.op.NumSource.TheVariants.{V, N}
use Rattle.int_code.specs.declared.op.Shape.TheVariants.{Plain}
use Rattle.ladder_lower.specs.ElementCode.{on_rise, reached, counter_code, moves}
use Rattle.ladder_lower.specs.Wires.{variable_of, memory_bit, power}
use Rattle.ladder_lower.specs.declared.layout.Layout.{Layout}
use Rattle.ladder_lower.proofs.AfterLemmas.{after, one_after, then_after, inside, block_by}
use Rattle.ladder_lower.proofs.Lowers.{After}
use Rattle.ladder_lower.proofs.NumberLemmas.{at_most, held_front, held_back}
use Rattle.ladder_lower.proofs.OpenLemmas.{nests_behind}
use Rattle.ladder_lower.proofs.Stands.{Stands, AllHeld, held}
use Rattle.ladder_lower.proofs.WroteLemmas.{nothing_wrote, power_wrote, number_wrote, memory_wrote}

-- the ifs of on_rise, and its last operation
abbrev if_quiet : Layout → ℕ → List IntOp → List IntOp
if_quiet p k ops = Ifc (source.B (memory_bit p k)) ∷ (ops ++ Fi ∷ [])

abbrev if_powered : Layout → List IntOp → List IntOp
if_powered p ops = Ifs (source.B (power p)) ∷ (ops ++ Fi ∷ [])

abbrev keeps_power : Layout → ℕ → List IntOp
keeps_power p k = Cpy (dest.B (memory_bit p k)) (source.B (power p)) ∷ []

on_rise_is : (p : Layout) (k : ℕ) (ops : List IntOp) → on_rise p k ops ≡ if_powered p (if_quiet p k ops) ++ keeps_power p k
on_rise_is p k ops = simp append_assoc

on_rise_nests : (p : Layout) (k : ℕ) (ops : List IntOp) → nests ops [] ≡ true → nests (if_quiet p k ops) [] ≡ true
on_rise_nests p k ops is = nests_behind (Fi ∷ []) (false ∷ []) ops [] is

pub moves_nest : (p : Layout) (name : List ℕ) (places : ℕ) → nests (moves p name places) [] ≡ true
moves_nest p name zero = refl
moves_nest p name (suc zero) = refl
moves_nest p name (suc (suc k)) = moves_nest p name (suc k)

twice_if : (x b : Bool) (l s : Now)
    → cond {A = Went} x (cond (not b) (record { now = l; output = x }) (record { now = s; output = x }))
    (record { now = s; output = x }) ≡ record { now = cond (x && not b) l s; output = x }
twice_if true true l s = refl
twice_if true false l s = refl
twice_if false b l s = refl

module _ (p : Layout) (r : Reading) where
  -- the ifs run the operations where the input becomes true
  rise_by : (k : ℕ) (ops : List IntOp) (d : ℕ) (m : Moment) (s l : Now) (x b : Bool) → m.store.bit (power p) ≡ x → m.store.bit (memory_bit p k) ≡ b
      → nests ops [] ≡ true → all_run m.ifs ≡ true → Stands p s m.store
      → After p d (inside (inside m)) (run r ops (inside (inside m))) (record { now = l; output = x })
      → After p d m (run r (if_powered p (if_quiet p k ops)) m) (record { now = cond (x && not b) l s; output = x })
  rise_by k ops d m s l x b v w is on sh body =
      let on1 : all_run (inside m).ifs ≡ true = rw on refl in
      let inner = block_by p r (Ifc (source.B (memory_bit p k))) ops d (inside m) s (record { now = l; output = x }) (not b)
      (record { opens = refl; writes_none = refl; runs = ap not w }) is on1 sh (λ e. body) in
      let outer = block_by p r (Ifs (source.B (power p))) (if_quiet p k ops) d m s
      (cond (not b) (record { now = l; output = x }) (record { now = s; output = x })) x (record { opens = refl; writes_none = refl; runs = v })
      (on_rise_nests p k ops is) on sh (λ e. rw v at inner) in
      rw (← twice_if x b l s) (rw v at outer)

  -- what the operations make of the state is what the element does where its input becomes true
  on_rise_after : (k : ℕ) (ops : List IntOp) (d : ℕ) (m : Moment) (s l : Now) (x : Bool) → m.store.bit (power p) ≡ x → k < p.memories → nests ops [] ≡ true
      → all_run m.ifs ≡ true → Stands p s m.store → After p d (inside (inside m)) (run r ops (inside (inside m))) (record { now = l; output = x })
      → After p d m (run r (on_rise p k ops) m) (record { now = with_memory (cond (rises s k x) l s) k x; output = x })
  on_rise_after k ops d m s l x v lt is on sh body =
      let f = rise_by k ops d m s l x (s.kept.memory k) v (sh.memories k lt) is on sh body in
      let n = run r (if_powered p (if_quiet p k ops)) m in
      let t = cond (rises s k x) l s in
      rw on_rise_is (then_after p r (if_powered p (if_quiet p k ops)) (keeps_power p k) d m (record { now = t; output = x })
      (record { now = with_memory t k x; output = x }) f
      (one_after p r (Cpy (dest.B (memory_bit p k)) (source.B (power p))) d n (record { now = with_memory t k x; output = x }) refl (ap all_run f.ifs ∙ on)
      (rw f.power (memory_wrote k x lt (nothing_wrote t n.store x f.power f.shows)))))

  -- the power becomes whether the variable is at the limit or past it
  reached_by : (d : ℕ) (m : Moment) (s : Now) (name : List ℕ) (limit : ℤ) (below : Bool) → int_lt (s.kept.number name) limit ≡ below
      → m.store.number (variable_of p name) ≡ s.kept.number name → all_run m.ifs ≡ true → Stands p s m.store
      → After p d m (run r (reached p (variable_of p name) limit) m) (record { now = s; output = not below })
  reached_by d m s name limit true e n on sh = rw (on, n, e) (after d m _ (power_wrote false (power_wrote true (nothing_wrote s m.store _ refl sh))))
  reached_by d m s name limit false e n on sh = rw (on, n, e) (after d m _ (power_wrote true (nothing_wrote s m.store _ refl sh)))

  reached_after : (d : ℕ) (m : Moment) (s : Now) (name : List ℕ) (limit : ℤ) → held p.variables name ≡ true → all_run m.ifs ≡ true → Stands p s m.store
      → After p d m (run r (reached p (variable_of p name) limit) m) (record { now = s; output = int_le limit (s.kept.number name) })
  reached_after d m s name limit h on sh =
      rw (at_most limit (s.kept.number name)) (reached_by d m s name limit (int_lt (s.kept.number name) limit) refl (sh.numbers name h) on sh)

  counts_by : (d : ℕ) (m : Moment) (s : Now) (name : List ℕ) (max : ℤ) (x below : Bool) → m.store.bit (power p) ≡ x → int_lt (s.kept.number name) max ≡ below
      → m.store.number (variable_of p name) ≡ s.kept.number name → held p.variables name ≡ true → all_run m.ifs ≡ true → Stands p s m.store
      → After p d m (run r (Iflt (V (variable_of p name)) (N max) ∷ Inc (variable_of p name) ∷ Els ∷ Lit (variable_of p name) (pos 0) ∷ Fi ∷ []) m)
      (record { now = with_number s name (cond (not below) (pos 0) (next (s.kept.number name))); output = x })
  counts_by d m s name max x true v e n h on sh = rw (on, n, e) (after d m _ (number_wrote name (next (s.kept.number name)) h (nothing_wrote s m.store x v sh)))
  counts_by d m s name max x false v e n h on sh = rw (on, n, e) (after d m _ (number_wrote name (pos 0) h (nothing_wrote s m.store x v sh)))

  twice_on : (m : Moment) → all_run m.ifs ≡ true → all_run (inside (inside m)).ifs ≡ true
  twice_on m on = rw on refl

  -- a counter that gives whether its limit is reached
  count_done : (op : IntOp) (k d : ℕ) (m : Moment) (s : Now) (name : List ℕ) (n max : ℤ) → shape_of op ≡ Plain → nests (op ∷ []) [] ≡ true
      → store_after r op m.store ≡ store.with_number m.store (variable_of p name) n → k < p.memories → held p.variables name ≡ true → all_run m.ifs ≡ true
      → Stands p s m.store
      → After p d m (run r (on_rise p k (op ∷ []) ++ reached p (variable_of p name) max) m)
      (let x = m.store.bit (power p) in let t = set_where (rises s k x) s name n in
      record { now = with_memory t k x; output = int_le max (t.kept.number name) })
  count_done op k d m s name n max plain nest writes lt h on sh =
      let x = m.store.bit (power p) in
      let t = with_number s name n in
      let f = on_rise_after k (op ∷ []) d m s t x refl lt nest on sh
      (one_after p r op d (inside (inside m)) (record { now = t; output = x }) plain (twice_on m on)
      (rw writes (number_wrote name n h (nothing_wrote s m.store x refl sh)))) in
      let t1 = with_memory (cond (rises s k x) t s) k x in
      then_after p r (on_rise p k (op ∷ [])) (reached p (variable_of p name) max) d m (record { now = t1; output = x })
      (record { now = t1; output = int_le max (t1.kept.number name) }) f
      (reached_after d (run r (on_rise p k (op ∷ [])) m) t1 name max h (ap all_run f.ifs ∙ on) f.shows)

  pub counter_done : (how : CounterHow) (k d : ℕ) (m : Moment) (s : Now) (name : List ℕ) (max : ℤ) → k < p.memories → held p.variables name ≡ true
      → all_run m.ifs ≡ true → Stands p s m.store
      → After p d m (run r (counter_code p how (variable_of p name) max k) m) (counter how name max k s (m.store.bit (power p)))
  counter_done Ctu k d m s name max lt h on sh =
      count_done (Inc (variable_of p name)) k d m s name (next (s.kept.number name)) max refl refl (rw (sh.numbers name h) refl) lt h on sh
  counter_done Ctd k d m s name max lt h on sh =
      count_done (Dec (variable_of p name)) k d m s name (wrap (s.kept.number name -ℤ pos 1)) max refl refl (rw (sh.numbers name h) refl) lt h on sh
  counter_done Ctc k d m s name max lt h on sh =
      let x = m.store.bit (power p) in
      let below = int_lt (s.kept.number name) max in
      let ops = Iflt (V (variable_of p name)) (N max) ∷ Inc (variable_of p name) ∷ Els ∷ Lit (variable_of p name) (pos 0) ∷ Fi ∷ [] in
      rw at_most (on_rise_after k ops d m s (with_number s name (cond (not below) (pos 0) (next (s.kept.number name)))) x refl lt refl on sh
      (counts_by d (inside (inside m)) s name max x below refl refl (sh.numbers name h) h (twice_on m on) sh))

  moves_after : (name : List ℕ) (places d : ℕ) (m : Moment) (s : Now) (x : Bool) → AllHeld p.variables (numbered_names name places) → m.store.bit (power p) ≡ x
      → all_run m.ifs ≡ true → Stands p s m.store → After p d m (run r (moves p name places) m) (record { now = shifted name places s; output = x })
  moves_after name zero d m s x h v on sh = record { ifs = refl; shows = sh; power = v; wires = λ j lo hi. refl }
  moves_after name (suc zero) d m s x h v on sh = record { ifs = refl; shows = sh; power = v; wires = λ j lo hi. refl }
  moves_after name (suc (suc k)) d m s x h v on sh =
      let to = name ++ decimal (suc k) in
      let from = name ++ decimal k in
      let t = with_number s to (s.kept.number from) in
      let front = held_front p.variables (numbered_names name (suc k)) (to ∷ []) h in
      let is_to : held p.variables to ≡ true = (held_back p.variables (numbered_names name (suc k)) (to ∷ []) h).0 in
      let is_from : held p.variables from ≡ true = (held_back p.variables (numbered_names name k) (from ∷ []) front).0 in
      let op = Mov (variable_of p to) (variable_of p from) in
      let f = one_after p r op d m (record { now = t; output = x }) refl on
      (rw (sh.numbers from is_from) (number_wrote to (s.kept.number from) is_to (nothing_wrote s m.store x v sh))) in
      then_after p r (op ∷ []) (moves p name (suc k)) d m (record { now = t; output = x }) (record { now = shifted name (suc k) t; output = x }) f
      (moves_after name (suc k) d (run r (op ∷ []) m) t x front f.power (ap all_run f.ifs ∙ on) f.shows)

  pub shift_done : (k d : ℕ) (m : Moment) (s : Now) (name : List ℕ) (places : ℕ) → k < p.memories → AllHeld p.variables (numbered_names name places)
      → all_run m.ifs ≡ true → Stands p s m.store
      → After p d m (run r (on_rise p k (moves p name places)) m)
      (let x = m.store.bit (power p) in record { now = with_memory (cond (rises s k x) (shifted name places s) s) k x; output = x })
  shift_done k d m s name places lt h on sh =
      let x = m.store.bit (power p) in
      on_rise_after k (moves p name places) d m s (shifted name places s) x refl lt (moves_nest p name places) on sh
      (moves_after name places d (inside (inside m)) s x h refl (twice_on m on) sh)
