-- The operations of each part nest by themselves.
use Rattle.std.proofs.Common.{◌≡◌, ℕ, zero, suc, Bool, true, false, List, [], ◌∷◌, ◌++◌, ℤ, refl, sym, ap, ◌∙◌, append_assoc, append-nil, arith}
use Rattle.ladder_tree.specs.declared.element.CoilMode.TheVariants as mode
use Rattle.ladder_tree.specs.declared.element.CoilMode.{CoilMode}
use Rattle.ladder_tree.specs.declared.element.CompareHow.TheVariants.{Equ, Neq, Grt, Geq, Les, Leq}
use Rattle.ladder_tree.specs.declared.element.CompareHow.{CompareHow}
use Rattle.ladder_tree.specs.declared.element.CounterHow.TheVariants.{Ctu, Ctd, Ctc}
use Rattle.ladder_tree.specs.declared.element.CounterHow.{CounterHow}
use Rattle.ladder_tree.specs.declared.element.LeafKind.TheVariants.{Contacts, Coil, Osr, Osf, Open, MasterRelay, Timer, Counter, Reset, Move, Math, Compare}
use Rattle.ladder_tree.specs.declared.element.LeafKind.TheVariants.{Shift, Table, ReadAdc, SetPwm, Recv, Send, Persist}
use Rattle.ladder_tree.specs.declared.element.LeafKind.{LeafKind}
use Rattle.ladder_tree.specs.declared.element.MathHow.TheVariants as math
use Rattle.ladder_tree.specs.declared.element.MathHow.{MathHow}
use Rattle.ladder_tree.specs.declared.element.TimerHow.TheVariants.{Ton, Tof, Rto}
use Rattle.ladder_tree.specs.declared.element.TimerHow.{TimerHow}
use Rattle.ladder_tree.specs.declared.project.Rung.{Rung}
use Rattle.int_code.specs.Shapes.{shape_of}
use Rattle.int_code.specs.WellFormed.{nests}
use Rattle.int_code.specs.declared.op.BitDest.TheVariants as dest
use Rattle.int_code.specs.declared.op.BitSource.TheVariants as source
use Rattle.int_code.specs.declared.op.IntOp.TheVariants.{Cpy, Fi}
use Rattle.int_code.specs.declared.op.IntOp.{IntOp}
use Rattle.int_code.specs.declared.op.NumSource.TheVariants.{V, N}
use Rattle.int_code.specs.declared.op.NumSource.{NumSource}
use Rattle.int_code.specs.declared.op.Shape.TheVariants.{Plain}
use Rattle.ladder_lower.specs.ElementCode.{where_power, coil_code, contact_code, timer_code, on_rise, counter_code, move_op, math_op, compare_code, moves}
use Rattle.ladder_lower.specs.ElementCode.{element_code}
use Rattle.ladder_lower.specs.Nesting.{nesting_of_all}
use Rattle.ladder_lower.specs.NodeCode.{program_code}
use Rattle.ladder_lower.specs.Wires.{number_of, memory_bit, power}
use Rattle.ladder_lower.specs.declared.layout.Layout.{Layout}
use Rattle.ladder_lower.proofs.PartLemmas.{IsShared, Ready, program_holds}

-- behind it, the open ifs are those before it
pub record Closes (ops : List IntOp) : Type 0 where
  pub same : (rest : List IntOp) (es : List Bool) → nests (ops ++ rest) es ≡ nests rest es

two_close : (a b : List IntOp) → Closes a → Closes b → Closes (a ++ b)
two_close a b f g = record { same = λ rest es. ap (λ o. nests o es) (append_assoc a b rest) ∙ f.same (b ++ rest) es ∙ g.same rest es }

closes_shared : (p : Layout) (deep : ℕ) → IsShared p deep (λ ls ops. Closes ops)
closes_shared p deep = record {
  none = record { same = λ rest es. refl };
  both = λ ls ms. two_close;
  set = λ i lt. record { same = λ rest es. refl };
  clear = λ i lt. record { same = λ rest es. refl };
  copy = λ i j lt le. record { same = λ rest es. refl };
  set_where = λ i j lt le. record { same = λ rest es. refl };
}

module _ (p : Layout) where
  contact_closes : (neg : Bool) (name : List ℕ) → Closes (contact_code p neg name)
  contact_closes true name = record { same = λ rest es. refl }
  contact_closes false name = record { same = λ rest es. refl }

  coil_closes : (how : CoilMode) (name : List ℕ) → Closes (coil_code p how name)
  coil_closes mode.Plain name = record { same = λ rest es. refl }
  coil_closes mode.Negated name = record { same = λ rest es. refl }
  coil_closes mode.Set name = record { same = λ rest es. refl }
  coil_closes mode.Reset name = record { same = λ rest es. refl }

  timer_closes : (how : TimerHow) (v : ℕ) (limit : ℤ) → Closes (timer_code p how v limit)
  timer_closes Ton v limit = record { same = λ rest es. refl }
  timer_closes Tof v limit = record { same = λ rest es. refl }
  timer_closes Rto v limit = record { same = λ rest es. refl }

  rise_closes : (k : ℕ) (ops : List IntOp) → Closes ops → Closes (on_rise p k ops)
  rise_closes k ops f =
      let tail : List IntOp = Fi ∷ Fi ∷ Cpy (dest.B (memory_bit p k)) (source.B (power p)) ∷ [] in
      record { same = λ rest es. ap (λ o. nests o (false ∷ false ∷ es)) (append_assoc ops tail rest) ∙ f.same (tail ++ rest) (false ∷ false ∷ es) }

  counter_closes : (how : CounterHow) (v : ℕ) (max : ℤ) (k : ℕ) → Closes (counter_code p how v max k)
  counter_closes Ctu v max k = record { same = λ rest es. refl }
  counter_closes Ctd v max k = record { same = λ rest es. refl }
  counter_closes Ctc v max k = record { same = λ rest es. refl }

  where_closes : (op : IntOp) → shape_of op ≡ Plain → Closes (where_power p op)
  where_closes op e = record { same = λ rest es. rw e refl }

  move_plain : (v : ℕ) (w : NumSource) → shape_of (move_op v w) ≡ Plain
  move_plain v (V from) = refl
  move_plain v (N n) = refl

  math_plain : (how : MathHow) (v : ℕ) (w u : NumSource) → shape_of (math_op how v w u) ≡ Plain
  math_plain math.Add v w u = refl
  math_plain math.Sub v w u = refl
  math_plain math.Mul v w u = refl
  math_plain math.Div v w u = refl

  compare_closes : (how : CompareHow) (w u : NumSource) → Closes (compare_code p how w u)
  compare_closes Equ w u = record { same = λ rest es. refl }
  compare_closes Neq w u = record { same = λ rest es. refl }
  compare_closes Grt w u = record { same = λ rest es. refl }
  compare_closes Geq w u = record { same = λ rest es. refl }
  compare_closes Les w u = record { same = λ rest es. refl }
  compare_closes Leq w u = record { same = λ rest es. refl }

  moves_close : (name : List ℕ) (places : ℕ) → Closes (moves p name places)
  moves_close name zero = record { same = λ rest es. refl }
  moves_close name (suc zero) = record { same = λ rest es. refl }
  moves_close name (suc (suc k)) = record { same = λ rest es. (moves_close name (suc k)).same rest es }

  pub element_closes : (kind : LeafKind) (k : ℕ) → Closes (element_code p kind k)
  element_closes (Contacts name neg) k = contact_closes neg name
  element_closes (Coil name how) k = coil_closes how name
  element_closes Osr k = record { same = λ rest es. refl }
  element_closes Osf k = record { same = λ rest es. refl }
  element_closes Open k = record { same = λ rest es. refl }
  element_closes MasterRelay k = record { same = λ rest es. refl }
  element_closes (Timer how name delay) k = timer_closes how _ _
  element_closes (Counter how name max) k = counter_closes how _ max k
  element_closes (Reset name) k = where_closes _ refl
  element_closes (Move dest src) k = where_closes _ (move_plain _ (number_of p src))
  element_closes (Math how dest a b) k = where_closes _ (math_plain how _ (number_of p a) (number_of p b))
  element_closes (Compare how a b) k = compare_closes how _ _
  element_closes (Shift name places) k = rise_closes k (moves p name places) (moves_close name places)
  element_closes (Table dest index as_text values) k = where_closes _ refl
  element_closes (ReadAdc name) k = where_closes _ refl
  element_closes (SetPwm name hz) k = where_closes _ refl
  element_closes (Recv name) k = where_closes _ refl
  element_closes (Send name) k = record { same = λ rest es. refl }
  element_closes (Persist name) k = record { same = λ rest es. refl }
  element_closes _ k = record { same = λ rest es. refl }

  pub program_nests : (gs : List Rung) → Ready p gs → nests (program_code p gs) [] ≡ true
  program_nests gs ready =
      let c = program_holds p (nesting_of_all gs) (λ ls ops. Closes ops) (closes_shared p (nesting_of_all gs)) (λ l k apt lt. element_closes l.kind k) gs
      (omega arith) ready in
      ap (λ o. nests o []) (sym (append-nil (program_code p gs))) ∙ c.same [] []
