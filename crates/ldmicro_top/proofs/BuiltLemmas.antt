-- All that a project for the ATmega16 does is built, where it was read: it has no element of a device.
use Rattle.std.proofs.Common.{◌≡◌, ℕ, zero, suc, ◌≤◌, Bool, true, false, not, cond, List, [], ◌∷◌, ◌++◌, refl, sym, ap, subst, ◌∙◌, arith}
use Rattle.std.specs.Prelude.{All}
use Rattle.std.specs.List.{sum_by, count_by, list_all, list_any}
use Rattle.std.proofs.lemmas.Bool.{and_parts, or_from}
use Rattle.std.proofs.lemmas.List.Elements.{All-nil, All-cons}
use Rattle.std.proofs.lemmas.List.Sums.{sum_by-cons, sum_by-append}
use Rattle.chip_tables.specs.declared.target.Target.{Target}
use Rattle.chip_tables.specs.declared.target.Target.TheVariants.{Mega16}
use Rattle.ladder_tree.specs.Leaves.{all_leaves}
use Rattle.ladder_tree.specs.Names.{names_of, all_named, analog_names, firsts}
use Rattle.ladder_tree.specs.Peripherals.{any_pwm, uses_pwm}
use Rattle.ladder_tree.specs.declared.element.CoilMode.{CoilMode}
use Rattle.ladder_tree.specs.declared.element.CoilMode.TheVariants as mode
use Rattle.ladder_tree.specs.declared.element.CompareHow.{CompareHow}
use Rattle.ladder_tree.specs.declared.element.CompareHow.TheVariants.{Equ, Neq, Grt, Geq, Les, Leq}
use Rattle.ladder_tree.specs.declared.element.CounterHow.{CounterHow}
use Rattle.ladder_tree.specs.declared.element.CounterHow.TheVariants.{Ctu, Ctd, Ctc}
use Rattle.ladder_tree.specs.declared.element.Leaf as leaf
use Rattle.ladder_tree.specs.declared.element.LeafKind.{LeafKind}
use Rattle.ladder_tree.specs.declared.element.LeafKind.TheVariants as element
use Rattle.ladder_tree.specs.declared.element.MathHow.{MathHow}
use Rattle.ladder_tree.specs.declared.element.MathHow.TheVariants as math
use Rattle.ladder_tree.specs.declared.element.Operand.{Operand}
use Rattle.ladder_tree.specs.declared.element.Operand.TheVariants.{Var, Num}
use Rattle.ladder_tree.specs.declared.element.TimerHow.{TimerHow}
use Rattle.ladder_tree.specs.declared.element.TimerHow.TheVariants.{Ton, Tof, Rto}
use Rattle.ladder_tree.specs.declared.project.Project.{Project}
use Rattle.ladder_tree.specs.declared.project.Rung.{Rung}
use Rattle.ld_line.specs.Kinds.{is_kind_built}
use Rattle.int_code.specs.Kinds as kind
use Rattle.int_code.specs.Kinds.{Kind, kinds, kind_of}
use Rattle.int_code.specs.Lowered as part
use Rattle.int_code.specs.Lowered.{Part, part_kinds, element_kinds, rise_kinds, moves_kinds, all_parts, parts_of_rungs, allowed}
use Rattle.int_code.specs.declared.op.IntOp.{IntOp}
use Rattle.int_code.specs.declared.op.IntOp.TheVariants as op
use Rattle.int_code.specs.declared.op.IntProgram.{IntProgram}
use Rattle.ladder_lower.specs.Outcome.{IsLowered}
use Rattle.byte_lower.specs.Lists.{is_built}
use Rattle.chip_cost.proofs.Calls.{passing}
use Rattle.chip_cost.proofs.Parts.{rungs_same}
use Rattle.chip_cost.proofs.Sums.{sum_flat}
use Rattle.avr_gen.specs.Firmware.{IsBuilt}

-- 1 for each operation of a device
abbrev device_weight : Kind → ℕ
device_weight kind.Ifee = 1
device_weight kind.Adc = 1
device_weight kind.Pwm = 1
device_weight (kind.Rx to) = 1
device_weight (kind.Tx from to) = 1
device_weight (kind.Eebusy to) = 1
device_weight kind.Eerd = 1
device_weight kind.Eewr = 1
device_weight x = 0

abbrev weighs : List Kind → ℕ
weighs ks = sum_by device_weight ks

coil_none : (how : CoilMode) → weighs (part.coil_kinds how) ≡ 0
coil_none mode.Plain = refl
coil_none mode.Negated = refl
coil_none mode.Set = refl
coil_none mode.Reset = refl

timer_none : (how : TimerHow) → weighs (part.timer_kinds how) ≡ 0
timer_none Ton = refl
timer_none Tof = refl
timer_none Rto = refl

counter_none : (how : CounterHow) → weighs (part.counter_kinds how) ≡ 0
counter_none Ctu = refl
counter_none Ctd = refl
counter_none Ctc = refl

compare_none : (how : CompareHow) → weighs (part.compare_kinds how) ≡ 0
compare_none Equ = refl
compare_none Neq = refl
compare_none Grt = refl
compare_none Geq = refl
compare_none Les = refl
compare_none Leq = refl

move_none : (x : Operand) → weighs (part.where_kinds (part.move_kind x)) ≡ 0
move_none (Var name) = refl
move_none (Num n) = refl

math_none : (how : MathHow) → weighs (part.where_kinds (part.math_kind how)) ≡ 0
math_none math.Add = refl
math_none math.Sub = refl
math_none math.Mul = refl
math_none math.Div = refl

moves_none : (places : ℕ) → weighs (moves_kinds places) ≡ 0
moves_none zero = refl
moves_none (suc zero) = refl
moves_none (suc (suc k)) = moves_none (suc k)

shift_none : (places : ℕ) → weighs (rise_kinds (moves_kinds places)) ≡ 0
shift_none places =
    let tail : List Kind = kind.Fi ∷ kind.Fi ∷ kind.Cpy false true ∷ [] in
    let a = moves_none places in
    let b = sum_by-append device_weight (moves_kinds places) tail in
    omega (arith, a, b)

abbrev IsMegaBuilt : LeafKind → Type 0
IsMegaBuilt k = is_kind_built Mega16 k ≡ true

element_none : (k : LeafKind) → IsMegaBuilt k → weighs (element_kinds k) ≡ 0
element_none (element.Coil name how) b = coil_none how
element_none (element.Timer how name delay) b = timer_none how
element_none (element.Counter how name max) b = counter_none how
element_none (element.Move to src) b = move_none src
element_none (element.Math how to x y) b = math_none how
element_none (element.Compare how x y) b = compare_none how
element_none (element.Shift name places) b = shift_none places
element_none (element.ReadAdc name) b = absurd cc
element_none (element.SetPwm name hz) b = absurd cc
element_none (element.Recv name) b = absurd cc
element_none (element.Send name) b = absurd cc
element_none (element.Persist name) b = absurd cc
element_none (element.Contacts name neg) b = refl
element_none element.Osr b = refl
element_none element.Osf b = refl
element_none element.Short b = refl
element_none element.Open b = refl
element_none element.MasterRelay b = refl
element_none element.Placeholder b = refl
element_none (element.Comment text) b = refl
element_none (element.Reset name) b = refl
element_none (element.Table to index as_text values) b = refl
element_none (element.Linear to index points) b = refl
element_none (element.Formatted name text) b = refl

abbrev AreMegaBuilt : List leaf.Leaf → Type 0
AreMegaBuilt ls = list_all (λ l. is_kind_built Mega16 l.kind) ls ≡ true

leaves_none : (ls : List leaf.Leaf) → AreMegaBuilt ls → sum_by (λ l. weighs (element_kinds l.kind)) ls ≡ 0
leaves_none [] b = refl
leaves_none (l ∷ ls) b =
    let both = and_parts (is_kind_built Mega16 l.kind) _ b in
    let own = element_none l.kind both.0 in
    let rest = leaves_none ls both.1 in
    let a = sum_by-cons (λ (l : leaf.Leaf). weighs (element_kinds l.kind)) l ls in
    omega (arith, own, rest, a)

allowed_none : (gs : List Rung) → AreMegaBuilt (all_leaves gs) → weighs (allowed gs) ≡ 0
allowed_none gs b =
    let h : Part → ℕ = λ x. weighs (part_kinds x) in
    let a = sum_flat device_weight part_kinds (all_parts gs) in
    let c = sum_by-cons h part.Base (parts_of_rungs gs) in
    let d = rungs_same h refl refl refl gs in
    let e = leaves_none (all_leaves gs) b in
    omega (arith, a, c, d, e)

unbuilt_one : (kept : ℕ) (x : IntOp) → cond (not (is_built x)) 1 0 ≤ device_weight (kind_of kept x)
unbuilt_one kept (op.Ifee v a) = omega arith
unbuilt_one kept (op.Adc v k) = omega arith
unbuilt_one kept (op.Pwm w hz) = omega arith
unbuilt_one kept (op.Rx v b) = omega arith
unbuilt_one kept (op.Tx w s b) = omega arith
unbuilt_one kept (op.Eebusy b) = omega arith
unbuilt_one kept (op.Eerd v a) = omega arith
unbuilt_one kept (op.Eewr w a) = omega arith
unbuilt_one kept _ = omega arith

built_by : (b : Bool) → ◌≡◌ {A = ℕ} (cond (not b) 1 0) 0 → b ≡ true
built_by true h = refl
built_by false h = absurd (omega (arith, h))

abbrev IsOpBuilt : IntOp → Type 0
IsOpBuilt x = is_built x ≡ true

all_built : (ops : List IntOp) → count_by (λ x. not (is_built x)) ops ≡ 0 → All IsOpBuilt ops
all_built [] h = All-nil IsOpBuilt
all_built (x ∷ ops) h =
    let a = sum_by-cons (λ (q : IntOp). cond (not (is_built q)) 1 0) x ops in
    All-cons IsOpBuilt x ops (built_by (is_built x) (omega (arith, a, h))) (all_built ops (omega (arith, a, h)))

no_converter : (k : LeafKind) → IsMegaBuilt k → analog_names k ≡ []
no_converter (element.ReadAdc name) b = absurd cc
no_converter (element.SetPwm name hz) b = refl
no_converter (element.Recv name) b = refl
no_converter (element.Send name) b = refl
no_converter (element.Persist name) b = refl
no_converter (element.Coil name how) b = refl
no_converter (element.Timer how name delay) b = refl
no_converter (element.Counter how name max) b = refl
no_converter (element.Move to src) b = refl
no_converter (element.Math how to x y) b = refl
no_converter (element.Compare how x y) b = refl
no_converter (element.Shift name places) b = refl
no_converter (element.Contacts name neg) b = refl
no_converter element.Osr b = refl
no_converter element.Osf b = refl
no_converter element.Short b = refl
no_converter element.Open b = refl
no_converter element.MasterRelay b = refl
no_converter element.Placeholder b = refl
no_converter (element.Comment text) b = refl
no_converter (element.Reset name) b = refl
no_converter (element.Table to index as_text values) b = refl
no_converter (element.Linear to index points) b = refl
no_converter (element.Formatted name text) b = refl

no_analog : (ls : List leaf.Leaf) → AreMegaBuilt ls → all_named analog_names ls ≡ []
no_analog [] b = refl
no_analog (l ∷ ls) b =
    let both = and_parts (is_kind_built Mega16 l.kind) _ b in
    ap (λ x. x ++ all_named analog_names ls) (no_converter l.kind both.0) ∙ no_analog ls both.1

no_modulator : (k : LeafKind) → IsMegaBuilt k → uses_pwm k ≡ false
no_modulator (element.SetPwm name hz) b = absurd cc
no_modulator (element.ReadAdc name) b = refl
no_modulator (element.Recv name) b = refl
no_modulator (element.Send name) b = refl
no_modulator (element.Persist name) b = refl
no_modulator (element.Coil name how) b = refl
no_modulator (element.Timer how name delay) b = refl
no_modulator (element.Counter how name max) b = refl
no_modulator (element.Move to src) b = refl
no_modulator (element.Math how to x y) b = refl
no_modulator (element.Compare how x y) b = refl
no_modulator (element.Shift name places) b = refl
no_modulator (element.Contacts name neg) b = refl
no_modulator element.Osr b = refl
no_modulator element.Osf b = refl
no_modulator element.Short b = refl
no_modulator element.Open b = refl
no_modulator element.MasterRelay b = refl
no_modulator element.Placeholder b = refl
no_modulator (element.Comment text) b = refl
no_modulator (element.Reset name) b = refl
no_modulator (element.Table to index as_text values) b = refl
no_modulator (element.Linear to index points) b = refl
no_modulator (element.Formatted name text) b = refl

no_duty : (ls : List leaf.Leaf) → AreMegaBuilt ls → any_pwm ls ≡ false
no_duty [] b = refl
no_duty (l ∷ ls) b =
    let both = and_parts (is_kind_built Mega16 l.kind) _ b in or_from (uses_pwm l.kind) (any_pwm ls) (no_modulator l.kind both.0) (no_duty ls both.1)

pub avr_built : (p : Project) (program : IntProgram) → p.target ≡ Mega16 → list_all (λ l. is_kind_built p.target l.kind) (all_leaves p.rungs) ≡ true
    → IsLowered (names_of p.rungs) p program → IsBuilt p program
avr_built p program e b lowered =
    let built : AreMegaBuilt (all_leaves p.rungs) = subst (λ (t : Target). list_all (λ l. is_kind_built t l.kind) (all_leaves p.rungs) ≡ true) e b in
    let a = passing (λ x. not (is_built x)) device_weight program.kept_bits (unbuilt_one program.kept_bits) (λ s. refl) (λ s. refl) (λ b. refl) (λ b. refl) refl
    program.ops in
    let c = lowered.within device_weight in
    let d = allowed_none p.rungs built in
    record {
      ops = all_built program.ops (omega (arith, a, c, d));
      no_analog = ap firsts (no_analog (all_leaves p.rungs) built);
      no_duty = no_duty (all_leaves p.rungs) built;
    }
