-- The kinds' words and cycles keep to the table of costs.
use Rattle.std.proofs.Common.{◌≡◌, ℕ, zero, suc, ◌+◌, ◌-◌, ◌*◌, ◌≤◌, true, false, cond, List, [], ◌∷◌, ◌++◌, length, arith}
use Rattle.std.proofs.lemmas.List.Sums.{sum_by-cons, sum_by-append}
use Rattle.chip_tables.specs.declared.target.Target.TheVariants.{Mega16}
use Rattle.ladder_tree.specs.declared.element.CoilMode.{CoilMode}
use Rattle.ladder_tree.specs.declared.element.CoilMode.TheVariants as mode
use Rattle.ladder_tree.specs.declared.element.CompareHow.{CompareHow}
use Rattle.ladder_tree.specs.declared.element.CompareHow.TheVariants.{Equ, Neq, Grt, Geq, Les, Leq}
use Rattle.ladder_tree.specs.declared.element.CounterHow.{CounterHow}
use Rattle.ladder_tree.specs.declared.element.CounterHow.TheVariants.{Ctu, Ctd, Ctc}
use Rattle.ladder_tree.specs.declared.element.LeafKind.{LeafKind}
use Rattle.ladder_tree.specs.declared.element.LeafKind.TheVariants.{Coil, Timer, Counter, Move, Math, Compare, Shift, Table}
use Rattle.ladder_tree.specs.declared.element.MathHow.{MathHow}
use Rattle.ladder_tree.specs.declared.element.MathHow.TheVariants as math
use Rattle.ladder_tree.specs.declared.element.Operand.{Operand}
use Rattle.ladder_tree.specs.declared.element.Operand.TheVariants.{Var, Num}
use Rattle.ladder_tree.specs.declared.element.TimerHow.{TimerHow}
use Rattle.ladder_tree.specs.declared.element.TimerHow.TheVariants.{Ton, Tof, Rto}
use Rattle.ladder_rules.specs.Needs.{element_cost, is_tof}
use Rattle.ladder_rules.specs.declared.cost.Column.TheVariants.{Words, Cycles}
use Rattle.int_code.specs.Kinds as kind
use Rattle.int_code.specs.Kinds.{Kind}
use Rattle.int_code.specs.Lowered.{element_kinds, coil_kinds, timer_kinds, counter_kinds, compare_kinds, where_kinds, move_kind, math_kind, rise_kinds, moves_kinds}
use Rattle.chip_cost.specs.Rows.{op_weight, kinds_weight, code_weight, turn_weight}
use Rattle.avr_cost.specs.Kept.{KeepsItsTable}
use Rattle.avr_cost.specs.Taken.{kind_words, kind_cycles}

abbrev words_of : List Kind → ℕ
words_of ks = kinds_weight (code_weight kind_words) ks

abbrev cycles_of : List Kind → ℕ
cycles_of ks = kinds_weight (turn_weight kind_cycles) ks

-- each place of a shift register after the first is a move
moves_words : (places : ℕ) → words_of (moves_kinds places) ≡ 8 * (places - 1)
moves_words zero = omega arith
moves_words (suc zero) = omega arith
moves_words (suc (suc k)) =
    let more = moves_words (suc k) in
    let e = sum_by-cons (op_weight (code_weight kind_words)) kind.Mov (moves_kinds (suc k)) in
    omega (arith, more, e)

moves_cycles : (places : ℕ) → cycles_of (moves_kinds places) ≡ 8 * (places - 1)
moves_cycles zero = omega arith
moves_cycles (suc zero) = omega arith
moves_cycles (suc (suc k)) =
    let more = moves_cycles (suc k) in
    let e = sum_by-cons (op_weight (turn_weight kind_cycles)) kind.Mov (moves_kinds (suc k)) in
    omega (arith, more, e)

shift_words : (places : ℕ) → words_of (rise_kinds (moves_kinds places)) ≤ 40 + 12 * (places - 1)
shift_words places =
    let g = op_weight (code_weight kind_words) in
    let tail : List Kind = kind.Fi ∷ kind.Fi ∷ kind.Cpy false true ∷ [] in
    let a = sum_by-append g (kind.Ifs true ∷ kind.Ifc false ∷ []) (moves_kinds places ++ tail) in
    let b = sum_by-append g (moves_kinds places) tail in
    let c = moves_words places in
    omega (arith, a, b, c)

shift_cycles : (places : ℕ) → cycles_of (rise_kinds (moves_kinds places)) ≤ 60 + 20 * (places - 1)
shift_cycles places =
    let g = op_weight (turn_weight kind_cycles) in
    let tail : List Kind = kind.Fi ∷ kind.Fi ∷ kind.Cpy false true ∷ [] in
    let a = sum_by-append g (kind.Ifs true ∷ kind.Ifc false ∷ []) (moves_kinds places ++ tail) in
    let b = sum_by-append g (moves_kinds places) tail in
    let c = moves_cycles places in
    omega (arith, a, b, c)

table_words : (n : ℕ) → words_of (where_kinds (kind.Tab n)) ≤ 30 + 18 * n
table_words zero = omega arith
table_words (suc zero) = omega arith
table_words (suc (suc n)) = omega arith

table_cycles : (n : ℕ) → cycles_of (where_kinds (kind.Tab n)) ≤ 60 + 24 * n
table_cycles zero = omega arith
table_cycles (suc zero) = omega arith
table_cycles (suc (suc n)) = omega arith

coil_words : (how : CoilMode) → words_of (coil_kinds how) ≤ 22
coil_words mode.Plain = omega arith
coil_words mode.Negated = omega arith
coil_words mode.Set = omega arith
coil_words mode.Reset = omega arith

coil_cycles : (how : CoilMode) → cycles_of (coil_kinds how) ≤ 24
coil_cycles mode.Plain = omega arith
coil_cycles mode.Negated = omega arith
coil_cycles mode.Set = omega arith
coil_cycles mode.Reset = omega arith

-- an off-delay timer has a start value beside its operations
timer_words : (how : TimerHow) (name : List ℕ) (delay : ℕ) →
    words_of (timer_kinds how) + cond (is_tof (Timer how name delay)) 8 0 ≤ element_cost Words Mega16 (Timer how name delay)
timer_words Ton name delay = omega arith
timer_words Tof name delay = omega arith
timer_words Rto name delay = omega arith

timer_cycles : (how : TimerHow) (name : List ℕ) (delay : ℕ) →
    cycles_of (timer_kinds how) + cond (is_tof (Timer how name delay)) 0 0 ≤ element_cost Cycles Mega16 (Timer how name delay)
timer_cycles Ton name delay = omega arith
timer_cycles Tof name delay = omega arith
timer_cycles Rto name delay = omega arith

counter_words : (how : CounterHow) → words_of (counter_kinds how) ≤ 80
counter_words Ctu = omega arith
counter_words Ctd = omega arith
counter_words Ctc = omega arith

counter_cycles : (how : CounterHow) → cycles_of (counter_kinds how) ≤ 120
counter_cycles Ctu = omega arith
counter_cycles Ctd = omega arith
counter_cycles Ctc = omega arith

compare_words : (how : CompareHow) → words_of (compare_kinds how) ≤ 44
compare_words Equ = omega arith
compare_words Neq = omega arith
compare_words Grt = omega arith
compare_words Geq = omega arith
compare_words Les = omega arith
compare_words Leq = omega arith

compare_cycles : (how : CompareHow) → cycles_of (compare_kinds how) ≤ 70
compare_cycles Equ = omega arith
compare_cycles Neq = omega arith
compare_cycles Grt = omega arith
compare_cycles Geq = omega arith
compare_cycles Les = omega arith
compare_cycles Leq = omega arith

move_words : (x : Operand) → words_of (where_kinds (move_kind x)) ≤ 22
move_words (Var name) = omega arith
move_words (Num n) = omega arith

move_cycles : (x : Operand) → cycles_of (where_kinds (move_kind x)) ≤ 30
move_cycles (Var name) = omega arith
move_cycles (Num n) = omega arith

math_words : (how : MathHow) (to : List ℕ) (a b : Operand) → words_of (where_kinds (math_kind how)) ≤ element_cost Words Mega16 (Math how to a b)
math_words math.Add to a b = omega arith
math_words math.Sub to a b = omega arith
math_words math.Mul to a b = omega arith
math_words math.Div to a b = omega arith

math_cycles : (how : MathHow) (to : List ℕ) (a b : Operand) → cycles_of (where_kinds (math_kind how)) ≤ element_cost Cycles Mega16 (Math how to a b)
math_cycles math.Add to a b = omega arith
math_cycles math.Sub to a b = omega arith
math_cycles math.Mul to a b = omega arith
math_cycles math.Div to a b = omega arith

element_words : (x : LeafKind) → words_of (element_kinds x) + cond (is_tof x) 8 0 ≤ element_cost Words Mega16 x
element_words (Coil name how) = let h = coil_words how in omega (arith, h)
element_words (Timer how name delay) = timer_words how name delay
element_words (Counter how name max) = let h = counter_words how in omega (arith, h)
element_words (Move to src) = let h = move_words src in omega (arith, h)
element_words (Math how to a b) = let h = math_words how to a b in omega (arith, h)
element_words (Compare how a b) = let h = compare_words how in omega (arith, h)
element_words (Shift name places) = let h = shift_words places in omega (arith, h)
element_words (Table to index as_text values) = let h = table_words (length values) in omega (arith, h)
element_words _ = omega arith

element_cycles : (x : LeafKind) → cycles_of (element_kinds x) + cond (is_tof x) 0 0 ≤ element_cost Cycles Mega16 x
element_cycles (Coil name how) = let h = coil_cycles how in omega (arith, h)
element_cycles (Timer how name delay) = timer_cycles how name delay
element_cycles (Counter how name max) = let h = counter_cycles how in omega (arith, h)
element_cycles (Move to src) = let h = move_cycles src in omega (arith, h)
element_cycles (Math how to a b) = let h = math_cycles how to a b in omega (arith, h)
element_cycles (Compare how a b) = let h = compare_cycles how in omega (arith, h)
element_cycles (Shift name places) = let h = shift_cycles places in omega (arith, h)
element_cycles (Table to index as_text values) = let h = table_cycles (length values) in omega (arith, h)
element_cycles _ = omega arith

pub keeps_table : KeepsItsTable
keeps_table = record {
  word_rows = record {
    base = omega arith;
    rung = omega arith;
    parallel = omega arith;
    branch = omega arith;
    element = λ x own. element_words x;
  };
  products = omega arith;
  quotients = omega arith;
  cycle_rows = record {
    base = omega arith;
    rung = omega arith;
    parallel = omega arith;
    branch = omega arith;
    element = λ x own. element_cycles x;
  };
  boot = λ tofs. omega arith;
}
