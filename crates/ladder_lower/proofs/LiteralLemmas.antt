-- The numbers that stand in a program's operations have 16 bits.
use Rattle.std.proofs.Common.{◌≡◌, ℕ, zero, suc, ℤ, pos, Bool, true, false, cond, ◌&&◌, nat_le, List, [], ◌∷◌, ◌++◌, length, All, refl, arith}
use Rattle.std.proofs.lemmas.Bool.{and_parts}
use Rattle.std.proofs.lemmas.List.Elements.{All-nil, All-cons, All-from_recursion}
use Rattle.std.specs.List.{list_all, AllByRecursion}
use Rattle.std.specs.Str.{bytes_eq}
use Rattle.ladder_tree.specs.declared.element.CompareHow.{CompareHow}
use Rattle.ladder_tree.specs.declared.element.CompareHow.TheVariants.{Equ, Neq, Grt, Geq, Les, Leq}
use Rattle.ladder_tree.specs.declared.element.CounterHow.{CounterHow}
use Rattle.ladder_tree.specs.declared.element.CounterHow.TheVariants.{Ctu, Ctd, Ctc}
use Rattle.ladder_tree.specs.declared.element.CoilMode.{CoilMode}
use Rattle.ladder_tree.specs.declared.element.CoilMode.TheVariants as mode
use Rattle.ladder_tree.specs.declared.element.Leaf as leaf
use Rattle.ladder_tree.specs.declared.element.LeafKind.{LeafKind}
use Rattle.ladder_tree.specs.declared.element.LeafKind.TheVariants.{Contacts, Coil, Osr, Osf, Open, MasterRelay, Timer, Counter, Reset, Move, Math, Compare}
use Rattle.ladder_tree.specs.declared.element.LeafKind.TheVariants.{Shift, Table, ReadAdc, SetPwm, Recv, Send, Persist}
use Rattle.ladder_tree.specs.declared.element.MathHow.{MathHow}
use Rattle.ladder_tree.specs.declared.element.MathHow.TheVariants as math
use Rattle.ladder_tree.specs.declared.element.Operand.{Operand}
use Rattle.ladder_tree.specs.declared.element.Operand.TheVariants.{Var, Num}
use Rattle.ladder_tree.specs.declared.element.TimerHow.{TimerHow}
use Rattle.ladder_tree.specs.declared.element.TimerHow.TheVariants.{Ton, Tof, Rto}
use Rattle.ladder_tree.specs.declared.project.Rung.{Rung}
use Rattle.ladder_tree.specs.declared.limits.TheConstants.{TABLE_VALUES}
use Rattle.ladder_meaning.specs.Cycle.{start_by, start_number}
use Rattle.ladder_meaning.specs.Numbers.{period}
use Rattle.int_code.specs.declared.op.IntOp.{IntOp}
use Rattle.int_code.specs.declared.op.IntOp.TheVariants.{Iflt, Els, Fi, Lit, Inc, Dec}
use Rattle.int_code.specs.declared.op.NumSource.{NumSource}
use Rattle.int_code.specs.declared.op.NumSource.TheVariants.{V, N}
use Rattle.ladder_lower.specs.ElementCode.{element_code, timer_code, counter_code, on_rise, reached, moves, move_op, math_op, compare_code, coil_code}
use Rattle.ladder_lower.specs.ElementCode.{contact_code}
use Rattle.ladder_lower.specs.Fit.{is_fit_operand, is_fit, all_fit}
use Rattle.int_code.specs.Literals.{is_number, IsNumber, HoldsNumber, HoldsNumbers, AllHoldNumbers}
use Rattle.ladder_lower.specs.Nesting.{nesting_of_all}
use Rattle.ladder_lower.specs.NodeCode.{program_code}
use Rattle.ladder_lower.specs.Wires.{number_of}
use Rattle.ladder_lower.specs.declared.layout.Layout.{Layout}
use Rattle.ladder_lower.proofs.PartLemmas.{IsShared, Ready, program_holds}

abbrev AllNumbers : List IntOp → Type 0
AllNumbers = AllByRecursion HoldsNumbers

numbers_append : (a b : List IntOp) → AllNumbers a → AllNumbers b → AllNumbers (a ++ b)
numbers_append [] b f g = g
numbers_append (op ∷ a) b f g = (f.0, numbers_append a b f.1 g)

numbers_are : (ns : List ℤ) → list_all is_number ns ≡ true → All IsNumber ns
numbers_are [] h = All-nil IsNumber
numbers_are (n ∷ ns) h = let b = and_parts (is_number n) _ h in All-cons IsNumber n ns b.0 (numbers_are ns b.1)

limit_is : (n : ℕ) → nat_le n 32767 ≡ true → IsNumber (pos n)
limit_is n h = h

none_is : IsNumber (pos 0)
none_is = refl

module _ (p : Layout) where
  operand_is : (a : Operand) → is_fit_operand a ≡ true → HoldsNumber (number_of p a)
  operand_is (Var name) h = tt
  operand_is (Num n) h = h

  coil_numbers : (how : CoilMode) (name : List ℕ) → AllNumbers (coil_code p how name)
  coil_numbers mode.Plain name = (tt, tt)
  coil_numbers mode.Negated name = (tt, tt)
  coil_numbers mode.Set name = (tt, (tt, (tt, tt)))
  coil_numbers mode.Reset name = (tt, (tt, (tt, tt)))

  contact_numbers : (neg : Bool) (name : List ℕ) → AllNumbers (contact_code p neg name)
  contact_numbers true name = (tt, (tt, (tt, tt)))
  contact_numbers false name = (tt, (tt, (tt, tt)))

  timer_numbers : (how : TimerHow) (v : ℕ) (limit : ℤ) → IsNumber limit → AllNumbers (timer_code p how v limit)
  timer_numbers Ton v limit h = (tt, ((tt, h), (tt, (tt, (tt, (tt, (none_is, (tt, tt))))))))
  timer_numbers Tof v limit h = (tt, (none_is, (tt, ((tt, h), (tt, (tt, (tt, (tt, tt))))))))
  timer_numbers Rto v limit h = ((tt, h), (tt, (tt, (tt, (tt, (tt, (tt, (tt, tt))))))))

  rise_numbers : (k : ℕ) (ops : List IntOp) → AllNumbers ops → AllNumbers (on_rise p k ops)
  rise_numbers k ops h = (tt, (tt, numbers_append ops _ h (tt, (tt, (tt, tt)))))

  reached_numbers : (v : ℕ) (limit : ℤ) → IsNumber limit → AllNumbers (reached p v limit)
  reached_numbers v limit h = (tt, ((tt, h), (tt, (tt, tt))))

  counter_numbers : (how : CounterHow) (v : ℕ) (max : ℤ) (k : ℕ) → IsNumber max → AllNumbers (counter_code p how v max k)
  counter_numbers Ctu v max k h = numbers_append (on_rise p k (Inc v ∷ [])) (reached p v max) (rise_numbers k (Inc v ∷ []) (tt, tt)) (reached_numbers v max h)
  counter_numbers Ctd v max k h = numbers_append (on_rise p k (Dec v ∷ [])) (reached p v max) (rise_numbers k (Dec v ∷ []) (tt, tt)) (reached_numbers v max h)
  counter_numbers Ctc v max k h = rise_numbers k (Iflt (V v) (N max) ∷ Inc v ∷ Els ∷ Lit v (pos 0) ∷ Fi ∷ []) ((tt, h), (tt, (tt, (none_is, (tt, tt)))))

  move_numbers : (v : ℕ) (a : NumSource) → HoldsNumber a → HoldsNumbers (move_op v a)
  move_numbers v (V from) h = tt
  move_numbers v (N n) h = h

  math_numbers : (how : MathHow) (v : ℕ) (a b : NumSource) → HoldsNumber a → HoldsNumber b → HoldsNumbers (math_op how v a b)
  math_numbers math.Add v a b f g = (f, g)
  math_numbers math.Sub v a b f g = (f, g)
  math_numbers math.Mul v a b f g = (f, g)
  math_numbers math.Div v a b f g = (f, g)

  compare_numbers : (how : CompareHow) (a b : NumSource) → HoldsNumber a → HoldsNumber b → AllNumbers (compare_code p how a b)
  compare_numbers Equ a b f g = ((f, g), (tt, (tt, (tt, tt))))
  compare_numbers Neq a b f g = ((f, g), (tt, (tt, tt)))
  compare_numbers Grt a b f g = ((g, f), (tt, (tt, (tt, tt))))
  compare_numbers Geq a b f g = ((f, g), (tt, (tt, tt)))
  compare_numbers Les a b f g = ((f, g), (tt, (tt, (tt, tt))))
  compare_numbers Leq a b f g = ((g, f), (tt, (tt, tt)))

  moves_numbers : (name : List ℕ) (places : ℕ) → AllNumbers (moves p name places)
  moves_numbers name zero = tt
  moves_numbers name (suc zero) = tt
  moves_numbers name (suc (suc k)) = (tt, moves_numbers name (suc k))

  element_numbers : (kind : LeafKind) (k : ℕ) → is_fit p.cycle kind ≡ true → AllNumbers (element_code p kind k)
  element_numbers (Contacts name neg) k h = contact_numbers neg name
  element_numbers (Coil name how) k h = coil_numbers how name
  element_numbers Osr k h = (tt, (tt, (tt, (tt, (tt, tt)))))
  element_numbers Osf k h = (tt, (tt, (tt, (tt, (tt, (tt, tt))))))
  element_numbers Open k h = (tt, tt)
  element_numbers MasterRelay k h = (tt, (tt, (tt, (tt, tt))))
  element_numbers (Timer how name delay) k h = timer_numbers how _ _ (limit_is (period p.cycle delay) h)
  element_numbers (Counter how name max) k h = counter_numbers how _ max k h
  element_numbers (Reset name) k h = (tt, (none_is, (tt, tt)))
  element_numbers (Move dest src) k h = (tt, (move_numbers _ _ (operand_is src h), (tt, tt)))
  element_numbers (Math how dest a b) k h =
      let f = and_parts (is_fit_operand a) _ h in (tt, (math_numbers how _ _ _ (operand_is a f.0) (operand_is b f.1), (tt, tt)))
  element_numbers (Compare how a b) k h = let f = and_parts (is_fit_operand a) _ h in compare_numbers how _ _ (operand_is a f.0) (operand_is b f.1)
  element_numbers (Shift name places) k h = rise_numbers k (moves p name places) (moves_numbers name places)
  element_numbers (Table dest index as_text values) k h =
      let f = and_parts (nat_le (length values) TABLE_VALUES) _ h in
      let g = and_parts (is_fit_operand index) _ f.1 in
      (tt, ((operand_is index g.0, numbers_are values g.1), (tt, tt)))
  element_numbers (ReadAdc name) k h = (tt, (tt, (tt, tt)))
  element_numbers (SetPwm name hz) k h = (tt, ((tt, h), (tt, tt)))
  element_numbers (Recv name) k h = (tt, (tt, (tt, tt)))
  element_numbers (Send name) k h = (tt, tt)
  element_numbers (Persist name) k h = (tt, (tt, (tt, (tt, (tt, (tt, (tt, (tt, (tt, (tt, (tt, (tt, (tt, (tt, tt))))))))))))))
  element_numbers _ k h = tt

  shared : (deep : ℕ) → IsShared p deep (λ ls ops. AllNumbers ops)
  shared deep = record {
    none = tt;
    both = λ ls ms. numbers_append;
    set = λ i lt. (tt, tt);
    clear = λ i lt. (tt, tt);
    copy = λ i j lt le. (tt, tt);
    set_where = λ i j lt le. (tt, (tt, (tt, tt)));
  }

  pub program_numbers : (gs : List Rung) → Ready p gs → AllHoldNumbers (program_code p gs)
  program_numbers gs ready =
      All-from_recursion HoldsNumbers (program_code p gs)
      (program_holds p (nesting_of_all gs) (λ ls ops. AllNumbers ops) (shared (nesting_of_all gs)) (λ l k apt lt. element_numbers l.kind k apt.fit) gs
      (omega arith) ready)

-- variables start at numbers of 16 bits

chosen : (b : Bool) (m n : ℤ) → IsNumber m → IsNumber n → IsNumber (cond b m n)
chosen true m n f g = f
chosen false m n f g = g

start_by_number : (cycle : ℕ) (k : LeafKind) (name : List ℕ) (n : ℤ) → is_fit cycle k ≡ true → IsNumber n → IsNumber (start_by cycle k name n)
start_by_number cycle (Timer Tof timer delay) name n f h = chosen (bytes_eq timer name) (pos (period cycle delay)) n (limit_is (period cycle delay) f) h
start_by_number cycle (Timer Ton timer delay) name n f h = h
start_by_number cycle (Timer Rto timer delay) name n f h = h
start_by_number cycle _ name n f h = h

pub start_is_number : (cycle : ℕ) (ls : List leaf.Leaf) (name : List ℕ) → all_fit cycle ls ≡ true → IsNumber (start_number cycle ls name)
start_is_number cycle [] name h = none_is
start_is_number cycle (l ∷ ls) name h =
    let f = and_parts (is_fit cycle l.kind) _ h in start_by_number cycle l.kind name _ f.0 (start_is_number cycle ls name f.1)
