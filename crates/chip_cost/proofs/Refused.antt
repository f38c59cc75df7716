-- A project that keeps the rules has no element that its chip refuses.
use Rattle.std.proofs.Common.{◌≡◌, Bool, true, false, List, [], ◌∷◌, Option, Some, None, refl, sym, ap, ◌∙◌}
use Rattle.std.proofs.lemmas.Bool.{or_parts, or_from}
use Rattle.std.specs.Prelude.{◌||◌, if◌then◌else◌}
use Rattle.std.specs.Bool.{then_some}
use Rattle.std.specs.List.{list_any}
use Rattle.std.specs.Option.{option_or}
use Rattle.ladder_tree.specs.Leaves.{all_leaves}
use Rattle.ladder_tree.specs.declared.element.Leaf as leaf
use Rattle.ladder_tree.specs.declared.element.LeafKind.{LeafKind}
use Rattle.ladder_tree.specs.declared.fault.ProjectFault.{ProjectFault}
use Rattle.ladder_tree.specs.declared.fault.ProjectFault.TheVariants as fault
use Rattle.ladder_tree.specs.declared.project.Project.{Project}
use Rattle.ladder_rules.proofs.RuleLemmas.{none_tells}
use Rattle.ladder_rules.specs.ChipRules.{chip_fault, lacks_adc, lacks_pwm}
use Rattle.ladder_rules.specs.Pins.{is_chip}
use Rattle.ladder_rules.specs.Places.{Spot}
use Rattle.ladder_rules.specs.Rules.{fault_of}
use Rattle.ladder_rules.specs.Verdict.{offence, rule}
use Rattle.ladder_rules.specs.declared.chip_rule.ChipRule.{ChipRule}
use Rattle.ladder_rules.specs.declared.chip_rule.ChipRule.TheVariants.{NoAdc, NoPwm}
use Rattle.ladder_rules.specs.declared.rule.ElementRule.TheVariants.{NotRightmost, WrongKind, TimerTwice, TimerShort, TimerLong, OnChip}
use Rattle.chip_cost.specs.Rows.{is_refused}

neither : (x y : Option ProjectFault) → option_or x y ≡ None → (x ≡ None) × (y ≡ None)
neither None y e = (refl, e)
neither (Some f) y e = absurd (cc)

not_so : (b : Bool) (f : ProjectFault) → then_some b f ≡ None → b ≡ false
not_so false f e = refl
not_so true f e = absurd (cc)

on_chip : (r : ChipRule) (p : Project) (s : Spot) → is_chip p.target ≡ true → fault_of (OnChip r) p s ≡ None → chip_fault r p s.leaf ≡ None
on_chip r p s chip e = sym (ap (λ b. if b then chip_fault r p s.leaf else None) chip) ∙ e

both_off : (a b : LeafKind → Bool) (ls : List leaf.Leaf) → list_any (λ l. a l.kind) ls ≡ false → list_any (λ l. b l.kind) ls ≡ false →
    list_any (λ l. a l.kind || b l.kind) ls ≡ false
both_off a b [] e f = refl
both_off a b (l ∷ ls) e f =
    let g = or_parts (a l.kind) (list_any (λ l. a l.kind) ls) e in
    let h = or_parts (b l.kind) (list_any (λ l. b l.kind) ls) f in
    or_from _ _ (or_from (a l.kind) (b l.kind) g.0 h.0) (both_off a b ls g.1 h.1)

pub none_refused : (p : Project) → is_chip p.target ≡ true → rule p ≡ None → list_any (λ l. is_refused p.target l.kind) (all_leaves p.rungs) ≡ false
none_refused p chip e =
    let a = neither (offence p NotRightmost) _ e in
    let b = neither (offence p WrongKind) _ a.1 in
    let c = neither (offence p TimerTwice) _ b.1 in
    let d = neither (offence p TimerShort) _ c.1 in
    let f = neither (offence p TimerLong) _ d.1 in
    let g = neither (offence p (OnChip NoAdc)) _ f.1 in
    let h = neither (offence p (OnChip NoPwm)) _ g.1 in
    let adc = none_tells (fault_of (OnChip NoAdc) p) (lacks_adc p.target)
    (λ s i. not_so (lacks_adc p.target s.leaf.kind) (fault.NoAdc s.leaf.line) (on_chip NoAdc p s chip i)) p g.0 in
    let pwm = none_tells (fault_of (OnChip NoPwm) p) (lacks_pwm p.target)
    (λ s i. not_so (lacks_pwm p.target s.leaf.kind) (fault.NoPwm s.leaf.line) (on_chip NoPwm p s chip i)) p h.0 in
    both_off (lacks_adc p.target) (lacks_pwm p.target) (all_leaves p.rungs) adc pwm
