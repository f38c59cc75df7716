-- The numbers of bits, variables and all else are in range.
use Rattle.std.proofs.Common.{◌≡◌, ℕ, zero, suc, ◌+◌, ◌<◌, ◌≤◌, Bool, true, false, ◌&&◌, cond, List, [], ◌∷◌, ◌++◌, ℤ, pos, length, refl, ap, arith}
use Rattle.std.proofs.lemmas.Bool.{and_parts}
use Rattle.std.proofs.lemmas.Bool.Decides.{nat_tests}
use Rattle.std.proofs.lemmas.List.Elements.{All-from_recursion}
use Rattle.std.specs.Fmt.{decimal}
use Rattle.std.specs.List.{All, AllByRecursion}
use Rattle.std.specs.Prelude.{nat_le}
use Rattle.ladder_tree.specs.Names.{is_input, is_output, memories, operand_names, numbered_names}
use Rattle.ladder_tree.specs.declared.element.CoilMode.TheVariants as mode
use Rattle.ladder_tree.specs.declared.element.CoilMode.{CoilMode}
use Rattle.ladder_tree.specs.declared.element.CompareHow.TheVariants.{Equ, Neq, Grt, Geq, Les, Leq}
use Rattle.ladder_tree.specs.declared.element.CompareHow.{CompareHow}
use Rattle.ladder_tree.specs.declared.element.CounterHow.TheVariants.{Ctu, Ctd, Ctc}
use Rattle.ladder_tree.specs.declared.element.CounterHow.{CounterHow}
use Rattle.ladder_tree.specs.declared.element.LeafKind.TheVariants.{Contacts, Coil, Osr, Osf, Open, MasterRelay, Timer, Counter, Reset, Move, Math, Compare}
use Rattle.ladder_tree.specs.declared.element.LeafKind.TheVariants.{Shift, Table, ReadAdc, SetPwm, Recv, Send, Persist}
use Rattle.ladder_tree.specs.declared.element.LeafKind.{LeafKind}
use Rattle.ladder_tree.specs.declared.element.MathHow.TheVariants as math
use Rattle.ladder_tree.specs.declared.element.MathHow.{MathHow}
use Rattle.ladder_tree.specs.declared.element.Operand.TheVariants.{Var, Num}
use Rattle.ladder_tree.specs.declared.element.Operand.{Operand}
use Rattle.ladder_tree.specs.declared.element.TimerHow.TheVariants.{Ton, Tof, Rto}
use Rattle.ladder_tree.specs.declared.element.TimerHow.{TimerHow}
use Rattle.ladder_tree.specs.declared.project.Rung.{Rung}
use Rattle.ladder_tree.specs.declared.limits.TheConstants.{TABLE_VALUES}
use Rattle.ladder_meaning.specs.State.{place_of}
use Rattle.int_code.specs.WellFormed.{Sizes, IsDest, IsSource, IsNumSource, IsInRange}
use Rattle.int_code.specs.declared.op.BitDest.TheVariants as dest
use Rattle.int_code.specs.declared.op.IntOp.TheVariants.{Iflt, Els, Fi, Lit, Inc, Dec, Adc, Pwm, Rx, Tab}
use Rattle.int_code.specs.declared.op.IntOp.{IntOp}
use Rattle.int_code.specs.declared.op.NumSource.TheVariants.{V, N}
use Rattle.int_code.specs.declared.op.NumSource.{NumSource}
use Rattle.ladder_lower.specs.ElementCode.{coil_code, contact_code, timer_code, on_rise, reached, counter_code, where_power, move_op, math_op, compare_code}
use Rattle.ladder_lower.specs.ElementCode.{moves, persist_code, element_code}
use Rattle.ladder_lower.specs.Fit.{is_fit}
use Rattle.ladder_lower.specs.Nesting.{nesting_of_all}
use Rattle.ladder_lower.specs.NodeCode.{program_code}
use Rattle.ladder_lower.specs.Wires.{dest_by, dest_of, source_by, source_of, variable_of, number_of, wire, wires, power, masters}
use Rattle.ladder_lower.specs.declared.layout.Layout.{Layout}
use Rattle.ladder_lower.proofs.PartLemmas.{IsShared, Ready, program_holds}
use Rattle.ladder_lower.proofs.PlaceLemmas.{place_below}
use Rattle.ladder_lower.proofs.Stands.{held, AllHeld, IsHeld, IsNamed}

-- the sizes are those of the names, with wires for d PARALLELs in one another
pub record Spans (p : Layout) (d : ℕ) (z : Sizes) : Type 0 where
  pub bits : wire p (wires p d) ≤ z.bits
  pub outputs : length p.outputs ≤ z.outputs
  pub inputs : length p.inputs ≤ z.inputs
  pub analogs : length p.analog ≤ z.analogs
  pub variables : length p.variables ≤ z.variables
  pub persistent : length p.persistent ≤ z.persistent

all_held_front : (list xs ys : List (List ℕ)) → AllHeld list (xs ++ ys) → AllHeld list xs
all_held_front list [] ys h = tt
all_held_front list (x ∷ xs) ys h = (h.0, all_held_front list xs ys h.1)

all_held_back : (list xs ys : List (List ℕ)) → AllHeld list (xs ++ ys) → AllHeld list ys
all_held_back list [] ys h = h
all_held_back list (x ∷ xs) ys h = all_held_back list xs ys h.1

module _ (p : Layout) (z : Sizes) where
  abbrev AllIn : List IntOp → Type 0
  AllIn = AllByRecursion (IsInRange z)

  in_append : (a b : List IntOp) → AllIn a → AllIn b → AllIn (a ++ b)
  in_append [] b f g = g
  in_append (op ∷ a) b f g = (f.0, in_append a b f.1 g)

  dest_in_by : (d : ℕ) (y : Bool) (name : List ℕ) → is_output name ≡ y → IsHeld p name → Spans p d z → IsDest z (dest_by y p name)
  dest_in_by d true name e h s = let lt = place_below p.outputs name (rw e at h) in let o = s.outputs in omega arith
  dest_in_by d false name e h s = let lt = place_below p.relays name (rw e at h) in let b = s.bits in omega arith

  dest_in : (d : ℕ) (name : List ℕ) → IsHeld p name → Spans p d z → IsDest z (dest_of p name)
  dest_in d name = dest_in_by d (is_output name) name refl

  source_in_by : (d : ℕ) (x y : Bool) (name : List ℕ) → cond x (held p.inputs name) (cond y (held p.outputs name) (held p.relays name)) ≡ true → Spans p d z
      → IsSource z (source_by x y p name)
  source_in_by d true y name h s = let lt = place_below p.inputs name h in let i = s.inputs in omega arith
  source_in_by d false true name h s = let lt = place_below p.outputs name h in let o = s.outputs in omega arith
  source_in_by d false false name h s = let lt = place_below p.relays name h in let b = s.bits in omega arith

  variable_in : (d : ℕ) (name : List ℕ) → held p.variables name ≡ true → Spans p d z → variable_of p name < z.variables
  variable_in d name h s = let lt = place_below p.variables name h in let v = s.variables in omega arith

  operand_in : (d : ℕ) (a : Operand) → AllHeld p.variables (operand_names a) → Spans p d z → IsNumSource z (number_of p a)
  operand_in d (Var name) h s = variable_in d name h.0 s
  operand_in d (Num n) h s = tt

  coil_in : (d : ℕ) (how : CoilMode) (name : List ℕ) → IsHeld p name → Spans p d z → AllIn (coil_code p how name)
  coil_in d mode.Plain name h s = let b = s.bits in ((dest_in d name h s, omega arith), tt)
  coil_in d mode.Negated name h s = let b = s.bits in ((dest_in d name h s, omega arith), tt)
  coil_in d mode.Set name h s = let b = s.bits in (omega arith, (dest_in d name h s, (tt, tt)))
  coil_in d mode.Reset name h s = let b = s.bits in (omega arith, (dest_in d name h s, (tt, tt)))

  contact_in : (d : ℕ) (neg : Bool) (name : List ℕ) → IsSource z (source_of p name) → Spans p d z → AllIn (contact_code p neg name)
  contact_in d true name h s = let b = s.bits in (h, (omega arith, (tt, tt)))
  contact_in d false name h s = let b = s.bits in (h, (omega arith, (tt, tt)))

  timer_in : (d : ℕ) (how : TimerHow) (v : ℕ) (limit : ℤ) → v < z.variables → Spans p d z → AllIn (timer_code p how v limit)
  timer_in d Ton v limit lt s = let b = s.bits in (omega arith, ((lt, tt), (lt, (omega arith, (tt, (tt, (lt, (tt, tt))))))))
  timer_in d Tof v limit lt s = let b = s.bits in (omega arith, (lt, (tt, ((lt, tt), (lt, (omega arith, (tt, (tt, tt))))))))
  timer_in d Rto v limit lt s = let b = s.bits in ((lt, tt), (omega arith, (lt, (omega arith, (tt, (tt, (omega arith, (tt, tt))))))))

  rise_in : (d k : ℕ) (ops : List IntOp) → k + 1 ≤ p.memories → AllIn ops → Spans p d z → AllIn (on_rise p k ops)
  rise_in d k ops lt h s = let b = s.bits in (omega arith, (omega arith, in_append ops _ h (tt, (tt, ((omega arith, omega arith), tt)))))

  counter_in : (d : ℕ) (how : CounterHow) (v : ℕ) (max : ℤ) (k : ℕ) → v < z.variables → k + 1 ≤ p.memories → Spans p d z → AllIn (counter_code p how v max k)
  counter_in d Ctu v max k lt le s =
      let b = s.bits in in_append (on_rise p k (Inc v ∷ [])) (reached p v max) (rise_in d k (Inc v ∷ []) le (lt, tt) s)
      (omega arith, ((lt, tt), (omega arith, (tt, tt))))
  counter_in d Ctd v max k lt le s =
      let b = s.bits in in_append (on_rise p k (Dec v ∷ [])) (reached p v max) (rise_in d k (Dec v ∷ []) le (lt, tt) s)
      (omega arith, ((lt, tt), (omega arith, (tt, tt))))
  counter_in d Ctc v max k lt le s = rise_in d k (Iflt (V v) (N max) ∷ Inc v ∷ Els ∷ Lit v (pos 0) ∷ Fi ∷ []) le ((lt, tt), (lt, (tt, (lt, (tt, tt))))) s

  where_in : (d : ℕ) (op : IntOp) → IsInRange z op → Spans p d z → AllIn (where_power p op)
  where_in d op h s = let b = s.bits in (omega arith, (h, (tt, tt)))

  move_in : (v : ℕ) (w : NumSource) → v < z.variables → IsNumSource z w → IsInRange z (move_op v w)
  move_in v (V from) lt h = (lt, h)
  move_in v (N n) lt h = lt

  math_in : (how : MathHow) (v : ℕ) (w u : NumSource) → v < z.variables → IsNumSource z w → IsNumSource z u → IsInRange z (math_op how v w u)
  math_in math.Add v w u lt f g = (lt, f, g)
  math_in math.Sub v w u lt f g = (lt, f, g)
  math_in math.Mul v w u lt f g = (lt, f, g)
  math_in math.Div v w u lt f g = (lt, f, g)

  compare_in : (d : ℕ) (how : CompareHow) (w u : NumSource) → IsNumSource z w → IsNumSource z u → Spans p d z → AllIn (compare_code p how w u)
  compare_in d Equ w u f g s = let b = s.bits in ((f, g), (tt, (omega arith, (tt, tt))))
  compare_in d Neq w u f g s = let b = s.bits in ((f, g), (omega arith, (tt, tt)))
  compare_in d Grt w u f g s = let b = s.bits in ((g, f), (tt, (omega arith, (tt, tt))))
  compare_in d Geq w u f g s = let b = s.bits in ((f, g), (omega arith, (tt, tt)))
  compare_in d Les w u f g s = let b = s.bits in ((f, g), (tt, (omega arith, (tt, tt))))
  compare_in d Leq w u f g s = let b = s.bits in ((g, f), (omega arith, (tt, tt)))

  moves_in : (d : ℕ) (name : List ℕ) (places : ℕ) → AllHeld p.variables (numbered_names name places) → Spans p d z → AllIn (moves p name places)
  moves_in d name zero h s = tt
  moves_in d name (suc zero) h s = tt
  moves_in d name (suc (suc k)) h s =
      let front = all_held_front p.variables (numbered_names name (suc k)) ((name ++ decimal (suc k)) ∷ []) h in
      let to = (all_held_back p.variables (numbered_names name (suc k)) ((name ++ decimal (suc k)) ∷ []) h).0 in
      let from = (all_held_back p.variables (numbered_names name k) ((name ++ decimal k) ∷ []) front).0 in
      ((variable_in d (name ++ decimal (suc k)) to s, variable_in d (name ++ decimal k) from s), moves_in d name (suc k) front s)

  persist_in : (d : ℕ) (name : List ℕ) → held p.variables name ≡ true → held p.persistent name ≡ true → Spans p d z → AllIn (persist_code p name)
  persist_in d name h k s =
      let b = s.bits in
      let v = variable_in d name h s in
      let lt = place_below p.persistent name k in
      let q = s.persistent in (
        omega arith,
        (
          omega arith,
          (
            omega arith,
            (omega arith, ((v, omega arith), (tt, ((v, omega arith), (tt, (tt, ((v, omega arith), (omega arith, (tt, (tt, (tt, tt))))))))))),
          ),
        ),
      )

  table_in : (d : ℕ) (to : List ℕ) (index : Operand) (values : List ℤ) → AllHeld p.variables (to ∷ operand_names index) → nat_le (length values) TABLE_VALUES ≡
      true
      → Spans p d z → IsInRange z (Tab (variable_of p to) (number_of p index) values)
  table_in d to index values h e s = (variable_in d to h.0 s, operand_in d index h.1 s, grind (arith, nat_tests, e))

  element_in : (d : ℕ) (kind : LeafKind) (k : ℕ) → k + memories kind ≤ p.memories → IsNamed p kind → is_fit p.cycle kind ≡ true → Spans p d z
      → AllIn (element_code p kind k)
  element_in d (Contacts name neg) k lt h e s = contact_in d neg name (source_in_by d (is_input name) (is_output name) name h.place s) s
  element_in d (Coil name how) k lt h e s = coil_in d how name h.place s
  element_in d Osr k lt h e s = let b = s.bits in ((omega arith, omega arith), (omega arith, (omega arith, (tt, ((omega arith, omega arith), tt)))))
  element_in d Osf k lt h e s =
      let b = s.bits in ((omega arith, omega arith), ((omega arith, omega arith), (omega arith, (omega arith, (tt, ((omega arith, omega arith), tt))))))
  element_in d Open k lt h e s = let b = s.bits in (omega arith, tt)
  element_in d MasterRelay k lt h e s =
      let one : masters p ≡ 1 = ap (λ b. cond b 1 0) h.place in let b = s.bits in (omega arith, (omega arith, (tt, ((omega arith, omega arith), tt))))
  element_in d (Timer how name delay) k lt h e s = timer_in d how _ _ (variable_in d name h.variables.0 s) s
  element_in d (Counter how name max) k lt h e s = counter_in d how _ max k (variable_in d name h.variables.0 s) lt s
  element_in d (Reset name) k lt h e s = where_in d (Lit (variable_of p name) (pos 0)) (variable_in d name h.variables.0 s) s
  element_in d (Move to src) k lt h e s = where_in d _ (move_in _ (number_of p src) (variable_in d to h.variables.0 s) (operand_in d src h.variables.1 s)) s
  element_in d (Math how to a b) k lt h e s =
      let x = operand_in d a (all_held_front p.variables (operand_names a) (operand_names b) h.variables.1) s in
      let y = operand_in d b (all_held_back p.variables (operand_names a) (operand_names b) h.variables.1) s in
      where_in d _ (math_in how _ (number_of p a) (number_of p b) (variable_in d to h.variables.0 s) x y) s
  element_in d (Compare how a b) k lt h e s =
      let x = operand_in d a (all_held_front p.variables (operand_names a) (operand_names b) h.variables) s in
      let y = operand_in d b (all_held_back p.variables (operand_names a) (operand_names b) h.variables) s in
      compare_in d how _ _ x y s
  element_in d (Shift name places) k lt h e s = rise_in d k _ lt (moves_in d name places h.variables s) s
  element_in d (Table to index as_text values) k lt h e s =
      where_in d (Tab (variable_of p to) (number_of p index) values) (table_in d to index values h.variables (and_parts (nat_le (length values) TABLE_VALUES) _ e).0 s) s
  element_in d (ReadAdc name) k lt h e s =
      where_in d (Adc (variable_of p name) (place_of p.analog name))
      (variable_in d name h.variables.0 s, (let at = place_below p.analog name h.place in let a = s.analogs in omega arith)) s
  element_in d (SetPwm name hz) k lt h e s = where_in d (Pwm (V (variable_of p name)) hz) (variable_in d name h.variables.0 s) s
  element_in d (Recv name) k lt h e s =
      let b = s.bits in where_in d (Rx (variable_of p name) (dest.B (power p))) (variable_in d name h.variables.0 s, omega arith) s
  element_in d (Send name) k lt h e s = let b = s.bits in ((variable_in d name h.variables.0 s, omega arith, omega arith), tt)
  element_in d (Persist name) k lt h e s = persist_in d name h.variables.0 h.place s
  element_in d _ k lt h e s = tt

  module _ (deep : ℕ) (s : Spans p deep z) where
    shared : IsShared p deep (λ ls ops. AllIn ops)
    shared = record {
      none = tt;
      both = λ ls ms. in_append;
      set = λ i lt. ((let b = s.bits in omega arith), tt);
      clear = λ i lt. ((let b = s.bits in omega arith), tt);
      copy = λ i j lt le. (((let b = s.bits in omega arith), (let b = s.bits in omega arith)), tt);
      set_where = λ i j lt le. ((let b = s.bits in omega arith), ((let b = s.bits in omega arith), (tt, tt)));
    }

    pub program_in : (gs : List Rung) → nesting_of_all gs ≤ deep → Ready p gs → All (IsInRange z) (program_code p gs)
    program_in gs le ready =
        All-from_recursion (IsInRange z) (program_code p gs)
        (program_holds p deep (λ ls ops. AllIn ops) shared (λ l k apt lt. element_in deep l.kind k lt apt.named apt.fit s) gs le ready)
