-- What a project that keeps the rules has.
use Rattle.std.proofs.Common.{◌≡◌, ℕ, Bool, true, false, ◌&&◌, ◌||◌, nat_eq, cond, List, [], ◌∷◌, ◌++◌, Option, Some, None, refl, sym, ap, ◌∙◌}
use Rattle.std.proofs.lemmas.Bool.{or_from, or_parts}
use Rattle.std.specs.Prelude.{is_some, is_none, IfSome}
use Rattle.std.specs.Bool.{then_some}
use Rattle.std.specs.List.{list_any}
use Rattle.std.specs.Option.{option_map, option_and_then, option_or}
use Rattle.chip_tables.specs.Settings.{timer_of, baud_of, pwm_of}
use Rattle.chip_tables.specs.declared.settings.Settings.{Settings}
use Rattle.chip_tables.specs.declared.settings.TimerSetting.{TimerSetting}
use Rattle.chip_tables.specs.declared.settings.BaudSetting.{BaudSetting}
use Rattle.chip_tables.specs.declared.target.Target.{Target}
use Rattle.chip_tables.specs.declared.target.Target.TheVariants.{F628, F877, Mega16, Interp, AnsiC}
use Rattle.ladder_tree.specs.Leaves.{all_leaves}
use Rattle.ladder_tree.specs.declared.element.Leaf as element
use Rattle.ladder_tree.specs.declared.element.LeafKind.{LeafKind}
use Rattle.ladder_tree.specs.declared.element.LeafKind.TheVariants.{SetPwm}
use Rattle.ladder_tree.specs.declared.fault.ProjectFault.{ProjectFault}
use Rattle.ladder_tree.specs.declared.project.Project.{Project}
use Rattle.ladder_rules.specs.ChipRules.{lacks_baud, lacks_rate}
use Rattle.ladder_tree.specs.Peripherals.{uses_uart, uses_pwm, rate_of, any_uart, any_pwm}
use Rattle.ladder_rules.specs.Pins.{is_chip}
use Rattle.ladder_rules.specs.Places.{Placed, Spot, all_placed, spots, spots_behind}
use Rattle.ladder_rules.specs.Rules.{first_rate, fault_of}
use Rattle.ladder_rules.specs.Settings.{baud_in, pwm_in, settings_of}
use Rattle.ladder_rules.specs.Verdict.{first_fault, first_of, offence, pin_twice, cycle_range, rule}
use Rattle.ladder_rules.specs.declared.chip_rule.ChipRule.TheVariants.{NoAdc, NoPwm, PinUnassigned, NoSuchPin, PinTaken, BaudRange, PwmRange}
use Rattle.ladder_rules.specs.declared.rule.ElementRule.TheVariants.{NotRightmost, WrongKind, TimerTwice, TimerShort, TimerLong, PwmTwoRates, OnChip}
use Rattle.ladder_rules.proofs.WalkLemmas.{elements, all_kept}

neither : (x y : Option ProjectFault) → option_or x y ≡ None → (x ≡ None) × (y ≡ None)
neither None y e = (refl, e)
neither (Some f) y e = let clash : ⊥ = cc in absurd clash

-- no rule is broken
pub record Kept (p : Project) : Type 0 where
  pub right_ends : offence p NotRightmost ≡ None
  pub kinds : offence p WrongKind ≡ None
  pub timers : offence p TimerTwice ≡ None
  pub short : offence p TimerShort ≡ None
  pub long : offence p TimerLong ≡ None
  pub rates : offence p PwmTwoRates ≡ None
  pub assigned : offence p (OnChip PinUnassigned) ≡ None
  pub pins : pin_twice p ≡ None
  pub served : offence p (OnChip NoSuchPin) ≡ None
  pub cycle : cycle_range p ≡ None
  pub baud : offence p (OnChip BaudRange) ≡ None
  pub pwm : offence p (OnChip PwmRange) ≡ None

pub kept : (p : Project) → rule p ≡ None → Kept p
kept p e =
    let a = neither (offence p NotRightmost) _ e in
    let b = neither (offence p WrongKind) _ a.1 in
    let c = neither (offence p TimerTwice) _ b.1 in
    let d = neither (offence p TimerShort) _ c.1 in
    let f = neither (offence p TimerLong) _ d.1 in
    let g = neither (offence p (OnChip NoAdc)) _ f.1 in
    let h = neither (offence p (OnChip NoPwm)) _ g.1 in
    let i = neither (offence p PwmTwoRates) _ h.1 in
    let j = neither (offence p (OnChip PinUnassigned)) _ i.1 in
    let k = neither (pin_twice p) _ j.1 in
    let l = neither (offence p (OnChip NoSuchPin)) _ k.1 in
    let m = neither (offence p (OnChip PinTaken)) _ l.1 in
    let n = neither (cycle_range p) _ m.1 in
    let o = neither (offence p (OnChip BaudRange)) _ n.1 in
    let q = neither (offence p (OnChip PwmRange)) (first_of []) o.1 in
    record {
      right_ends = a.0;
      kinds = b.0;
      timers = c.0;
      short = d.0;
      long = f.0;
      rates = i.0;
      assigned = j.0;
      pins = k.0;
      served = l.0;
      cycle = n.0;
      baud = o.0;
      pwm = q.0;
    }

module _ (broken : Spot → Option ProjectFault) (test : LeafKind → Bool) (tells : (s : Spot) → broken s ≡ None → test s.leaf.kind ≡ false) where
  none_by : (pre : List element.Leaf) (xs : List Placed) → first_fault broken (spots_behind pre xs) ≡ None → list_any (λ l. test l.kind) (elements xs) ≡ false
  none_by pre [] e = refl
  none_by pre (x ∷ xs) e =
      let s : Spot = record { leaf = x.leaf; before = pre; at_right_end = x.at_right_end } in
      let both = neither (broken s) _ e in
      or_from _ _ (tells s both.0) (none_by (pre ++ x.leaf ∷ []) xs both.1)

  -- where no element breaks a rule, none is as it tells
  pub none_tells : (p : Project) → first_fault broken (spots p.rungs) ≡ None → list_any (λ l. test l.kind) (all_leaves p.rungs) ≡ false
  none_tells p e = ap (λ ls. list_any (λ l. test l.kind) ls) (sym (all_kept p.rungs)) ∙ none_by [] (all_placed p.rungs) e

not_so : (b : Bool) (f : ProjectFault) → then_some b f ≡ None → b ≡ false
not_so false f e = refl
not_so true f e = let clash : ⊥ = cc in absurd clash

some_map : {A B : Type 0} (f : A → B) (o : Option A) → is_some (option_map f o) ≡ is_some o
some_map f None = refl
some_map f (Some x) = refl

chip_by : (none chip : Bool) (o : Option TimerSetting) → (none || (chip && is_none o)) ≡ false → (chip ≡ false → o ≡ None) → is_some o ≡ chip
chip_by true chip o e f = let clash : ⊥ = cc in absurd clash
chip_by false true None e f = let clash : ⊥ = cc in absurd clash
chip_by false true (Some s) e f = refl
chip_by false false o e f = rw (f refl) refl

no_timer : (t : Target) (cycle hz : ℕ) → is_chip t ≡ false → timer_of t cycle hz ≡ None
no_timer F628 cycle hz e = let clash : ⊥ = cc in absurd clash
no_timer F877 cycle hz e = let clash : ⊥ = cc in absurd clash
no_timer Mega16 cycle hz e = let clash : ⊥ = cc in absurd clash
no_timer Interp cycle hz e = refl
no_timer AnsiC cycle hz e = refl

timer_there : (p : Project) → rule p ≡ None → is_some (timer_of p.target p.cycle p.crystal) ≡ is_chip p.target
timer_there p e =
    chip_by (nat_eq p.cycle 0) (is_chip p.target) (timer_of p.target p.cycle p.crystal) (not_so _ _ (kept p e).cycle) (no_timer p.target p.cycle p.crystal)

-- a chip's project has settings
pub settings_there : (p : Project) → rule p ≡ None → is_some (settings_of p) ≡ is_chip p.target
settings_there p e = some_map _ (timer_of p.target p.cycle p.crystal) ∙ timer_there p e

and_true : (f : element.Leaf → Bool) (ls : List element.Leaf) → list_any (λ l. f l && true) ls ≡ list_any f ls
and_true f [] = refl
and_true f (l ∷ ls) = rw (and_true f ls) (by_test (f l) (list_any f ls))
  where
    by_test : (a b : Bool) → ((a && true) || b) ≡ (a || b)
    by_test true b = refl
    by_test false b = refl

pub on_chip : (chip b : Bool) (f : ProjectFault) → chip ≡ true → cond chip (then_some b f) None ≡ None → b ≡ false
on_chip true b f t e = not_so b f e
on_chip false b f t e = let clash : ⊥ = cc in absurd clash

baud_by : (o : Option BaudSetting) (ls : List element.Leaf) → list_any (λ l. uses_uart l.kind && is_none o) ls ≡ false →
    is_some (cond (any_uart ls) o None) ≡ any_uart ls
baud_by None ls e = let none : any_uart ls ≡ false = sym (and_true (λ l. uses_uart l.kind) ls) ∙ e in rw none refl
baud_by (Some s) ls e = both (any_uart ls)
  where
    both : (b : Bool) → is_some (cond b (Some s) None) ≡ b
    both true = refl
    both false = refl

baud_there : (p : Project) → rule p ≡ None → is_chip p.target ≡ true → is_some (baud_in p) ≡ any_uart (all_leaves p.rungs)
baud_there p e chip =
    baud_by (baud_of p.target p.crystal p.baud) (all_leaves p.rungs)
    (none_tells (fault_of (OnChip BaudRange) p) (lacks_baud p) (λ s h. on_chip (is_chip p.target) (lacks_baud p s.leaf.kind) _ chip h) p (kept p e).baud)

some_false : {A : Type 0} (o : Option A) → is_none o ≡ false → is_some o ≡ true
some_false None e = let clash : ⊥ = cc in absurd clash
some_false (Some x) e = refl

pwm_kind : (p : Project) (k : LeafKind) (rest : Option ℕ) (more : Bool) → lacks_rate p k ≡ false →
    is_some (option_and_then (pwm_of p.target p.crystal) rest) ≡ more →
    is_some (option_and_then (pwm_of p.target p.crystal) (option_or (rate_of k) rest)) ≡ (uses_pwm k || more)
pwm_kind p (SetPwm name hz) rest more e f = some_false (pwm_of p.target p.crystal hz) e
pwm_kind p _ rest more e f = f

pwm_by : (p : Project) (ls : List element.Leaf) → list_any (λ l. lacks_rate p l.kind) ls ≡ false →
    is_some (option_and_then (pwm_of p.target p.crystal) (first_rate ls)) ≡ any_pwm ls
pwm_by p [] e = refl
pwm_by p (l ∷ ls) e =
    let h = or_parts (lacks_rate p l.kind) _ e in
    pwm_kind p l.kind (first_rate ls) (any_pwm ls) h.0 (pwm_by p ls h.1)

pwm_there : (p : Project) → rule p ≡ None → is_chip p.target ≡ true → is_some (pwm_in p) ≡ any_pwm (all_leaves p.rungs)
pwm_there p e chip =
    pwm_by p (all_leaves p.rungs)
    (none_tells (fault_of (OnChip PwmRange) p) (lacks_rate p) (λ s h. on_chip (is_chip p.target) (lacks_rate p s.leaf.kind) _ chip h) p (kept p e).pwm)

devices_by : (p : Project) (o : Option TimerSetting) → (is_some o ≡ true → (is_some (baud_in p) ≡ any_uart (all_leaves p.rungs)) ×
    (is_some (pwm_in p) ≡ any_pwm (all_leaves p.rungs))) → IfSome (option_map
    (λ timer. (let s : Settings = record { timer = timer; baud = baud_in p; pwm = pwm_in p } in s)) o) (λ s. (is_some s.baud ≡ any_uart (all_leaves p.rungs)) ×
    (is_some s.pwm ≡ any_pwm (all_leaves p.rungs)))
devices_by p None f = tt
devices_by p (Some t) f = f refl

-- the devices that have settings are those that the project uses
pub devices_there : (p : Project) → rule p ≡ None →
    IfSome (settings_of p) (λ s. (is_some s.baud ≡ any_uart (all_leaves p.rungs)) × (is_some s.pwm ≡ any_pwm (all_leaves p.rungs)))
devices_there p e =
    devices_by p (timer_of p.target p.cycle p.crystal)
    (λ t. let chip : is_chip p.target ≡ true = sym (timer_there p e) ∙ t in (baud_there p e chip, pwm_there p e chip))
