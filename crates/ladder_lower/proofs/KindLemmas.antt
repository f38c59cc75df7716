-- The operations of each part are of the kinds that the public list has for it.
use Rattle.std.proofs.Common.{◌≡◌, ℕ, zero, suc, ◌+◌, ◌<◌, ◌≤◌, Bool, true, false, cond, List, [], ◌∷◌, ◌++◌, ℤ, length, nat_le, refl, ap, subst, arith}
use Rattle.std.proofs.Common.{append_assoc, append-nil}
use Rattle.std.proofs.lemmas.Bool.Decides.{nat_tests}
use Rattle.std.proofs.lemmas.List.Concat.{flat_map-append}
use Rattle.std.proofs.lemmas.List.Sums.{sum_by-append}
use Rattle.std.specs.List.{flat_map, sum_by}
use Rattle.ladder_tree.specs.Names.{is_input, is_output, memories}
use Rattle.ladder_tree.specs.declared.element.CoilMode.TheVariants as mode
use Rattle.ladder_tree.specs.declared.element.CoilMode.{CoilMode}
use Rattle.ladder_tree.specs.declared.element.CompareHow.TheVariants.{Equ, Neq, Grt, Geq, Les, Leq}
use Rattle.ladder_tree.specs.declared.element.CompareHow.{CompareHow}
use Rattle.ladder_tree.specs.declared.element.CounterHow.TheVariants.{Ctu, Ctd, Ctc}
use Rattle.ladder_tree.specs.declared.element.CounterHow.{CounterHow}
use Rattle.ladder_tree.specs.declared.element.Leaf as leaf
use Rattle.ladder_tree.specs.declared.element.LeafKind.TheVariants.{Contacts, Coil, Osr, Osf, Short, Open, MasterRelay, Placeholder, Comment, Timer, Counter}
use Rattle.ladder_tree.specs.declared.element.LeafKind.TheVariants.{Reset, Move, Math, Compare, Shift, Table, ReadAdc, SetPwm, Recv, Send, Persist, Linear}
use Rattle.ladder_tree.specs.declared.element.LeafKind.TheVariants.{Formatted}
use Rattle.ladder_tree.specs.declared.element.LeafKind.{LeafKind}
use Rattle.ladder_tree.specs.declared.element.MathHow.TheVariants as math
use Rattle.ladder_tree.specs.declared.element.MathHow.{MathHow}
use Rattle.ladder_tree.specs.declared.element.Operand.TheVariants.{Var, Num}
use Rattle.ladder_tree.specs.declared.element.Operand.{Operand}
use Rattle.ladder_tree.specs.declared.element.TimerHow.TheVariants.{Ton, Tof, Rto}
use Rattle.ladder_tree.specs.declared.element.TimerHow.{TimerHow}
use Rattle.ladder_tree.specs.declared.project.Rung.{Rung}
use Rattle.int_code.specs.Kinds as kind
use Rattle.int_code.specs.Kinds.{Kind, kinds, is_wire, reads_wire, ops_of, IsWithin}
use Rattle.int_code.specs.Lowered as part
use Rattle.int_code.specs.Lowered.{Part, part_kinds, element_kinds, coil_kinds, timer_kinds, counter_kinds, compare_kinds, where_kinds, move_kind, math_kind}
use Rattle.int_code.specs.Lowered.{rise_kinds, moves_kinds, all_parts, allowed}
use Rattle.int_code.specs.declared.op.BitDest.TheVariants as dest
use Rattle.int_code.specs.declared.op.BitSource.TheVariants as source
use Rattle.int_code.specs.declared.op.IntOp.TheVariants.{Set, Clr, Cpy, Ifs, Fi}
use Rattle.int_code.specs.declared.op.IntOp.TheVariants as op
use Rattle.int_code.specs.declared.op.IntOp.{IntOp}
use Rattle.int_code.specs.declared.op.NumSource.{NumSource}
use Rattle.ladder_lower.specs.ElementCode.{coil_code, contact_code, timer_code, on_rise, counter_code, where_power, move_op, math_op, compare_code, moves}
use Rattle.ladder_lower.specs.ElementCode.{element_code}
use Rattle.ladder_lower.specs.Nesting.{nesting_of_all}
use Rattle.ladder_lower.specs.NodeCode.{join, rung_start_by, start_by, program_code}
use Rattle.ladder_lower.specs.Wires.{dest_by, dest_of, source_by, source_of, number_of, memory_bit, flag_bit, wire, power, masters, wires}
use Rattle.ladder_lower.specs.declared.layout.Layout.{Layout}
use Rattle.ladder_meaning.specs.State.{place_of}
use Rattle.ladder_lower.proofs.LeafLemmas.{IsApt}
use Rattle.ladder_lower.proofs.PartLemmas.{IsJoined, Ready, parts_hold}
use Rattle.ladder_lower.proofs.PlaceLemmas.{place_below}
use Rattle.ladder_lower.proofs.Stands.{IsHeld, held}

module _ (p : Layout) where
  -- how many bits are kept
  abbrev pub kept : ℕ
  kept = length p.relays + (p.memories + length p.persistent)

  -- behind them stand the wires
  own : (j : ℕ) → nat_le kept (wire p j) ≡ true
  own j = grind (arith, nat_tests)

  before : (k : ℕ) → k < kept → nat_le kept k ≡ false
  before k lt = grind (arith, nat_tests, lt)

  memory_kept : (k : ℕ) → k + 1 ≤ p.memories → nat_le kept (memory_bit p k) ≡ false
  memory_kept k le = before (memory_bit p k) (omega arith)

  flag_kept : (name : List ℕ) → held p.persistent name ≡ true → nat_le kept (flag_bit p name) ≡ false
  flag_kept name h = let lt = place_below p.persistent name h in before (flag_bit p name) (omega arith)

  relay_kept : (name : List ℕ) → held p.relays name ≡ true → nat_le kept (place_of p.relays name) ≡ false
  relay_kept name h = let lt = place_below p.relays name h in before (place_of p.relays name) (omega arith)

  dest_kept_by : (y : Bool) (name : List ℕ) → is_output name ≡ y → IsHeld p name → is_wire kept (dest_by y p name) ≡ false
  dest_kept_by true name e h = refl
  dest_kept_by false name e h = relay_kept name (rw e at h)

  -- a named bit is no wire
  dest_kept : (name : List ℕ) → IsHeld p name → is_wire kept (dest_of p name) ≡ false
  dest_kept name = dest_kept_by (is_output name) name refl

  source_kept_by : (x y : Bool) (name : List ℕ) → cond x (held p.inputs name) (cond y (held p.outputs name) (held p.relays name)) ≡ true
      → reads_wire kept (source_by x y p name) ≡ false
  source_kept_by true y name h = refl
  source_kept_by false true name h = refl
  source_kept_by false false name h = relay_kept name h

  abbrev Spells : List IntOp → List Kind → Type 0
  Spells ops ks = (rest : List IntOp) → kinds kept (ops ++ rest) ≡ ks ++ kinds kept rest

  contact_spells : (neg : Bool) (name : List ℕ) → reads_wire kept (source_of p name) ≡ false
      → Spells (contact_code p neg name) (element_kinds (Contacts name neg))
  contact_spells true name h rest = rw (h, own 0) refl
  contact_spells false name h rest = rw (h, own 0) refl

  coil_spells : (how : CoilMode) (name : List ℕ) → is_wire kept (dest_of p name) ≡ false → Spells (coil_code p how name) (coil_kinds how)
  coil_spells mode.Plain name h rest = rw (h, own 0) refl
  coil_spells mode.Negated name h rest = rw (h, own 0) refl
  coil_spells mode.Set name h rest = rw (h, own 0) refl
  coil_spells mode.Reset name h rest = rw (h, own 0) refl

  timer_spells : (how : TimerHow) (v : ℕ) (limit : ℤ) → Spells (timer_code p how v limit) (timer_kinds how)
  timer_spells Ton v limit rest = rw (own 0) refl
  timer_spells Tof v limit rest = rw (own 0) refl
  timer_spells Rto v limit rest = rw (own 0) refl

  counter_spells : (how : CounterHow) (v : ℕ) (max : ℤ) (k : ℕ) → k + 1 ≤ p.memories → Spells (counter_code p how v max k) (counter_kinds how)
  counter_spells Ctu v max k le rest = rw (own 0, memory_kept k le) refl
  counter_spells Ctd v max k le rest = rw (own 0, memory_kept k le) refl
  counter_spells Ctc v max k le rest = rw (own 0, memory_kept k le) refl

  move_spells : (v : ℕ) (x : Operand) → Spells (where_power p (move_op v (number_of p x))) (where_kinds (move_kind x))
  move_spells v (Var name) rest = rw (own 0) refl
  move_spells v (Num n) rest = rw (own 0) refl

  math_spells : (how : MathHow) (v : ℕ) (w u : NumSource) → Spells (where_power p (math_op how v w u)) (where_kinds (math_kind how))
  math_spells math.Add v w u rest = rw (own 0) refl
  math_spells math.Sub v w u rest = rw (own 0) refl
  math_spells math.Mul v w u rest = rw (own 0) refl
  math_spells math.Div v w u rest = rw (own 0) refl

  compare_spells : (how : CompareHow) (w u : NumSource) → Spells (compare_code p how w u) (compare_kinds how)
  compare_spells Equ w u rest = rw (own 0) refl
  compare_spells Neq w u rest = rw (own 0) refl
  compare_spells Grt w u rest = rw (own 0) refl
  compare_spells Geq w u rest = rw (own 0) refl
  compare_spells Les w u rest = rw (own 0) refl
  compare_spells Leq w u rest = rw (own 0) refl

  moves_spell : (name : List ℕ) (places : ℕ) (rest : List IntOp)
      → kinds kept (moves p name places ++ op.Fi ∷ rest) ≡ moves_kinds places ++ kinds kept (op.Fi ∷ rest)
  moves_spell name zero rest = refl
  moves_spell name (suc zero) rest = refl
  moves_spell name (suc (suc k)) rest = ap (λ ks. kind.Mov ∷ ks) (moves_spell name (suc k) rest)

  shift_spells : (name : List ℕ) (places k : ℕ) → k + 1 ≤ p.memories → Spells (on_rise p k (moves p name places)) (rise_kinds (moves_kinds places))
  shift_spells name zero k le rest = rw (own 0, memory_kept k le) refl
  shift_spells name (suc zero) k le rest = rw (own 0, memory_kept k le) refl
  shift_spells name (suc (suc j)) k le rest =
      let tail : List IntOp = Fi ∷ Cpy (dest.B (memory_bit p k)) (source.B (power p)) ∷ rest in
      let ends : kinds kept (Fi ∷ tail) ≡ kind.Fi ∷ kind.Fi ∷ kind.Cpy false true ∷ kinds kept rest = rw (own 0, memory_kept k le) refl in
      let more = moves_spell name (suc j) tail in
      rw (own 0, memory_kept k le, append_assoc (moves p name (suc j)) _ rest, append_assoc (moves_kinds (suc j)) _ (kinds kept rest), more, ends) refl

  element_spells : (x : LeafKind) (k : ℕ) → IsApt p x → k + memories x ≤ p.memories → Spells (element_code p x k) (element_kinds x)
  element_spells (Contacts name neg) k a le rest = contact_spells neg name (source_kept_by (is_input name) (is_output name) name a.named.place) rest
  element_spells (Coil name how) k a le rest = coil_spells how name (dest_kept name a.named.place) rest
  element_spells Osr k a le rest = rw (own 0, own (1 + masters p), memory_kept k le) refl
  element_spells Osf k a le rest = rw (own 0, own (1 + masters p), memory_kept k le) refl
  element_spells Short k a le rest = refl
  element_spells Open k a le rest = rw (own 0) refl
  element_spells MasterRelay k a le rest = rw (own 0, own 1) refl
  element_spells Placeholder k a le rest = refl
  element_spells (Comment text) k a le rest = refl
  element_spells (Timer how name delay) k a le rest = timer_spells how _ _ rest
  element_spells (Counter how name max) k a le rest = counter_spells how _ max k le rest
  element_spells (Reset name) k a le rest = rw (own 0) refl
  element_spells (Move to src) k a le rest = move_spells _ src rest
  element_spells (Math how to x y) k a le rest = math_spells how _ _ _ rest
  element_spells (Compare how x y) k a le rest = compare_spells how _ _ rest
  element_spells (Shift name places) k a le rest = shift_spells name places k le rest
  element_spells (Table to index as_text values) k a le rest = rw (own 0) refl
  element_spells (ReadAdc name) k a le rest = rw (own 0) refl
  element_spells (SetPwm name hz) k a le rest = rw (own 0) refl
  element_spells (Recv name) k a le rest = rw (own 0) refl
  element_spells (Send name) k a le rest = rw (own 0) refl
  element_spells (Persist name) k a le rest = rw (own 0, own (1 + masters p), flag_kept name a.named.place) refl
  element_spells (Linear to index points) k a le rest = refl
  element_spells (Formatted name text) k a le rest = refl

  -- whatever the kinds cost and whatever stands behind
  abbrev Lists : List Part → List IntOp → Type 0
  Lists xs ops =
      (cost : Kind → ℕ) (rest : List IntOp) → sum_by cost (kinds kept (ops ++ rest)) ≤ sum_by cost (flat_map part_kinds xs) + sum_by cost (kinds kept rest)

  lists : (xs : List Part) (ops : List IntOp) (ks : List Kind) → Spells ops ks → ((cost : Kind → ℕ) → sum_by cost ks ≤ sum_by cost (flat_map part_kinds xs))
      → Lists xs ops
  lists xs ops ks is few cost rest = rw (is rest, sum_by-append cost ks (kinds kept rest)) (let f = few cost in omega arith)

  both_list : (xs ys : List Part) (a b : List IntOp) → Lists xs a → Lists ys b → Lists (xs ++ ys) (a ++ b)
  both_list xs ys a b f g cost rest =
      let x = f cost (b ++ rest) in
      let y = g cost rest in
      rw (append_assoc a b rest, flat_map-append part_kinds xs ys, sum_by-append cost (flat_map part_kinds xs) (flat_map part_kinds ys)) (omega arith)

  base_lists : (b : Bool) → p.has_master ≡ b → Lists (part.Base ∷ []) (start_by b p)
  base_lists true has = lists (part.Base ∷ []) (start_by true p) (kind.Set true ∷ []) (λ rest. rw (own 1) refl) (λ cost. omega arith)
  base_lists false has = lists (part.Base ∷ []) (start_by false p) [] (λ rest. refl) (λ cost. omega arith)

  rung_lists : (b : Bool) → p.has_master ≡ b → Lists (part.Rung ∷ []) (rung_start_by b p ∷ [])
  rung_lists true has = lists (part.Rung ∷ []) (rung_start_by true p ∷ []) (kind.Cpy true true ∷ []) (λ rest. rw (own 0, own 1) refl) (λ cost. omega arith)
  rung_lists false has = lists (part.Rung ∷ []) (rung_start_by false p ∷ []) (kind.Set true ∷ []) (λ rest. rw (own 0) refl) (λ cost. omega arith)

  abbrev copies : ℕ → ℕ → IntOp
  copies i j = Cpy (dest.B (wire p i)) (source.B (wire p j))

  joined : (deep : ℕ) → IsJoined p deep Lists
  joined deep = record {
    none = λ cost rest. omega arith;
    both = both_list;
    base = base_lists;
    rung = rung_lists;
    empty = lists (part.Parallel ∷ []) (Clr (dest.B (power p)) ∷ []) (kind.Clr true ∷ []) (λ rest. rw (own 0) refl) (λ cost. omega arith);
    only = λ cost rest. omega arith;
    fork =
        λ d le. lists (part.Parallel ∷ []) (copies (wires p d) 0 ∷ []) (kind.Cpy true true ∷ []) (λ rest. rw (own 0, own (wires p d)) refl)
        (λ cost. omega arith);
    alone = λ cost rest. omega arith;
    first =
        λ d le. lists (part.Branch ∷ []) (copies (wires p d + 1) 0 ∷ copies 0 (wires p d) ∷ []) (kind.Cpy true true ∷ kind.Cpy true true ∷ [])
        (λ rest. rw (own 0, own (wires p d), own (wires p d + 1)) refl) (λ cost. omega arith);
    between =
        λ d le. lists (part.Branch ∷ []) (join false p d ++ copies 0 (wires p d) ∷ []) (kind.Guarded true true ∷ kind.Cpy true true ∷ [])
        (λ rest. rw (own 0, own (wires p d), own (wires p d + 1)) refl) (λ cost. omega arith);
    last = λ d le. lists (part.Branch ∷ []) (join true p d) (kind.Guarded true true ∷ []) (λ rest. rw (own 0, own (wires p d + 1)) refl) (λ cost. omega arith);
  }

  element_lists : (l : leaf.Leaf) (k : ℕ) → IsApt p l.kind → k + memories l.kind ≤ p.memories → Lists (part.Element l ∷ []) (element_code p l.kind k)
  element_lists l k a le =
      lists (part.Element l ∷ []) (element_code p l.kind k) (element_kinds l.kind) (element_spells l.kind k a le)
      (λ cost. rw (append-nil (element_kinds l.kind)) (omega arith))

  -- the operations of a ladder are within the public list
  pub program_within : (gs : List Rung) → Ready p gs → IsWithin (kinds kept (program_code p gs)) (allowed gs)
  program_within gs ready cost =
      let h : sum_by cost (kinds kept (program_code p gs ++ [])) ≤ sum_by cost (allowed gs) + sum_by cost (kinds kept []) =
      parts_hold p (nesting_of_all gs) Lists (joined (nesting_of_all gs)) element_lists gs (omega arith) ready cost [] in
      subst (λ (ops : List IntOp). sum_by cost (kinds kept ops) ≤ sum_by cost (allowed gs)) (append-nil (program_code p gs)) (omega (arith, h))
