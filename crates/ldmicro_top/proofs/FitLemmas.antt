-- A project that is read and keeps the rules has only numbers that operations hold.
use Rattle.std.proofs.Common.{◌≡◌, ◌≢◌, ℕ, Bool, true, false, not, ◌&&◌, ◌||◌, nat_eq, nat_lt, nat_le, List, [], ◌∷◌, ◌++◌, Option, Some, None, refl, sym, ap, ◌∙◌, arith}
use Rattle.std.proofs.lemmas.Bool.{and_from, and_parts, or_parts}
use Rattle.std.proofs.lemmas.Bool.Decides.{nat_tests}
use Rattle.std.specs.Bool.{then_some}
use Rattle.std.specs.List.{list_all}
use Rattle.std.specs.Option.{option_or}
use Rattle.ladder_tree.specs.Leaves.{all_leaves}
use Rattle.ladder_tree.specs.Names.{is_name}
use Rattle.ladder_tree.specs.declared.element.Leaf as element
use Rattle.ladder_tree.specs.declared.element.LeafKind.{LeafKind}
use Rattle.ladder_tree.specs.declared.element.LeafKind.TheVariants as kind
use Rattle.ladder_tree.specs.declared.element.Operand.{Operand}
use Rattle.ladder_tree.specs.declared.element.Operand.TheVariants.{Var, Num}
use Rattle.ladder_tree.specs.declared.fault.ProjectFault.{ProjectFault}
use Rattle.ladder_tree.specs.declared.project.Project.{Project}
use Rattle.ladder_rules.specs.Places.{Placed, all_placed, spots_behind}
use Rattle.ladder_rules.specs.Rules.{is_long, fault_of}
use Rattle.ladder_rules.specs.Verdict.{first_fault, rule}
use Rattle.ladder_rules.specs.declared.rule.ElementRule.TheVariants.{TimerLong}
use Rattle.ladder_rules.proofs.RuleLemmas.{kept}
use Rattle.ladder_rules.proofs.WalkLemmas.{elements, all_kept}
use Rattle.ladder_meaning.specs.Numbers.{period}
use Rattle.int_code.specs.Literals.{is_number}
use Rattle.ladder_lower.specs.Fit.{is_fit_operand, is_fit, all_fit}
use Rattle.ld_line.specs.Range.{is_read_kind, is_read_operand}

neither : (x y : Option ProjectFault) → option_or x y ≡ None → (x ≡ None) × (y ≡ None)
neither None y e = (refl, e)
neither (Some f) y e = let clash : ⊥ = cc in absurd clash

not_so : (b : Bool) (f : ProjectFault) → then_some b f ≡ None → b ≡ false
not_so false f e = refl
not_so true f e = let clash : ⊥ = cc in absurd clash

abbrev none_long : ℕ → List element.Leaf → Bool
none_long cycle ls = list_all (λ l. not (is_long cycle l.kind)) ls

timers_by : (p : Project) (pre : List element.Leaf) (xs : List Placed) → first_fault (fault_of TimerLong p) (spots_behind pre xs) ≡ None
    → none_long p.cycle (elements xs) ≡ true
timers_by p pre [] e = refl
timers_by p pre (x ∷ xs) e =
    let two = neither (fault_of TimerLong p (record { leaf = x.leaf; before = pre; at_right_end = x.at_right_end })) _ e in
    rw (not_so (is_long p.cycle x.leaf.kind) _ two.0, timers_by p (pre ++ x.leaf ∷ []) xs two.1) refl

some_cycle : (n : ℕ) → nat_eq n 0 ≡ false → n ≢ 0
some_cycle n h e = grind (arith, nat_tests)

pub cycle_some : (p : Project) → rule p ≡ None → p.cycle ≢ 0
cycle_some p e = some_cycle p.cycle (or_parts (nat_eq p.cycle 0) _ (not_so _ _ (kept p e).cycle)).0

no_longer : (cycle periods : ℕ) → cycle ≢ 0 → (not (nat_eq cycle 0) && nat_lt 32767 periods) ≡ false → nat_le periods 32767 ≡ true
no_longer cycle periods ne h = grind (arith, nat_tests)

operand_fit : (a : Operand) → is_read_operand a ≡ true → is_fit_operand a ≡ true
operand_fit (Var name) h = refl
operand_fit (Num n) h = h

hertz_fit : (hz : ℕ) → nat_le hz 999999999 ≡ true → nat_le hz 4294967295 ≡ true
hertz_fit hz h = grind (arith, nat_tests)

not_false : (b : Bool) → not b ≡ true → b ≡ false
not_false false h = refl
not_false true h = absurd cc

kind_fit : (cycle : ℕ) (k : LeafKind) → cycle ≢ 0 → not (is_long cycle k) ≡ true → is_read_kind k ≡ true → is_fit cycle k ≡ true
kind_fit cycle (kind.Timer how name delay) ne l h = no_longer cycle (period cycle delay) ne (not_false _ l)
kind_fit cycle (kind.Counter how name max) ne l h = (and_parts (is_name name) _ h).1
kind_fit cycle (kind.Move dest src) ne l h = operand_fit src (and_parts (is_name dest) _ h).1
kind_fit cycle (kind.Math how dest a b) ne l h =
    let q = and_parts (is_read_operand a) _ (and_parts (is_name dest) _ h).1 in
    and_from _ _ (operand_fit a q.0) (operand_fit b q.1)
kind_fit cycle (kind.Compare how a b) ne l h = let q = and_parts (is_read_operand a) _ h in and_from _ _ (operand_fit a q.0) (operand_fit b q.1)
kind_fit cycle (kind.Shift name places) ne l h = (and_parts (nat_le 1 places) _ (and_parts (is_name name) _ h).1).1
kind_fit cycle (kind.Table dest index as_text values) ne l h =
    let q = and_parts (is_read_operand index && list_all is_number values) _ (and_parts (is_name dest) _ h).1 in
    let r = and_parts (is_read_operand index) _ q.0 in
    and_from _ _ q.1 (and_from _ _ (operand_fit index r.0) r.1)
kind_fit cycle (kind.SetPwm name hz) ne l h = hertz_fit hz (and_parts (is_name name) _ h).1
kind_fit cycle _ ne l h = refl

fit_by : (cycle : ℕ) (ls : List element.Leaf) → cycle ≢ 0 → none_long cycle ls ≡ true → list_all (λ l. is_read_kind l.kind) ls ≡ true → all_fit cycle ls ≡ true
fit_by cycle [] ne l h = refl
fit_by cycle (x ∷ xs) ne l h =
    let f = and_parts (not (is_long cycle x.kind)) _ l in
    let g = and_parts (is_read_kind x.kind) _ h in
    and_from _ _ (kind_fit cycle x.kind ne f.0 g.0) (fit_by cycle xs ne f.1 g.1)

pub fits_all : (p : Project) → rule p ≡ None → list_all (λ l. is_read_kind l.kind) (all_leaves p.rungs) ≡ true → all_fit p.cycle (all_leaves p.rungs) ≡ true
fits_all p e h =
    fit_by p.cycle (all_leaves p.rungs) (cycle_some p e)
    (ap (none_long p.cycle) (sym (all_kept p.rungs)) ∙ timers_by p [] (all_placed p.rungs) (kept p e).long)
    h
