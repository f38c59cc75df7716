-- What the visitors that look for a rate or a timer, and the one that counts off-delay timers, come to.
use Rattle.std.proofs.Common.{◌≡◌, ℕ, zero, suc, ◌+◌, ◌-◌, ◌<◌, ◌^◌, min, nat_eq, Bool, true, false, cond, List, [], ◌∷◌, take, Bor, Option, Some, None, refl, ap, ◌∙◌, arith}
use Rattle.std.specs.Bool.{then_some}
use Rattle.std.specs.Option.{option_map, option_and_then, option_or}
use Rattle.std.proofs.lemmas.Bool.Decides.{nat_tests}
use Rattle.std.proofs.lemmas.List.Sums.{sum_by-cons}
use Rattle.ladder_tree.specs.Peripherals.{rate_of}
use Rattle.ladder_tree.specs.Visit.{goes_on, visits, seeks, first_given}
use Rattle.ladder_tree.specs.declared.element.Leaf as element
use Rattle.ladder_tree.proofs.SoughtLemmas.{given}
use Rattle.ladder_rules.specs.Needs.{is_tof, tofs_in}
use Rattle.ladder_rules.specs.Rules.{is_timer_of, first_timer, first_rate}
use Rattle.ladder_rules.specs.Sought.{seeks_timer, counts_tofs}
use Rattle.ladder_rules.specs.declared.search.TimerSought.{TimerSought}
use Rattle.ladder_rules.specs.declared.survey.TofsCounted.{TofsCounted}

rate_given : (ls : List element.Leaf) → first_given (λ l. rate_of l.kind) ls ≡ first_rate ls
rate_given [] = refl
rate_given (l ∷ ls) = ap (λ o. option_or (rate_of l.kind) o) (rate_given ls)

pub rate_found : {V : Type 0} (v : V) (ls : List element.Leaf) → (visits (seeks (λ (w : V) l. rate_of l.kind)) v ls).0 ≡ first_rate ls
rate_found v ls = given (λ w l. rate_of l.kind) v ls ∙ rate_given ls

abbrev pub line_of : Option element.Leaf → Option ℕ
line_of o = option_map (λ l. l.line) o

abbrev pub found_in : Option (Option ℕ) → Option ℕ
found_in o = option_and_then (λ line. line) o

module _ (name : Bor (List ℕ)) where
  abbrev sought : ℕ → TimerSought
  sought n = record { name = name; left = n }

  timer_by : (b : Bool) (l : element.Leaf) (w : TimerSought) (ls : List element.Leaf) (o : Option element.Leaf) →
      found_in (visits seeks_timer w ls).0 ≡ line_of o →
      found_in (goes_on (then_some b (Some l.line), w) (λ x. visits seeks_timer x ls)).0 ≡ line_of (cond b (Some l) o)
  timer_by true l w ls o h = refl
  timer_by false l w ls o h = h

  timer_within : (n : ℕ) (ls : List element.Leaf) → found_in (visits seeks_timer (sought n) ls).0 ≡ line_of (first_timer name.now (take n ls))
  timer_within zero [] = refl
  timer_within (suc n) [] = refl
  timer_within zero (l ∷ ls) = refl
  timer_within (suc n) (l ∷ ls) =
      let less : suc n - 1 ≡ n = omega arith in
      let more : nat_eq (suc n) 0 ≡ false = grind (arith, nat_tests) in
      rw (less, more) (timer_by (is_timer_of name.now l.kind) l (sought n) ls _ (timer_within n ls))

-- the line of the first timer with the name, among so many elements
pub timer_found : (v : TimerSought) (ls : List element.Leaf) → found_in (visits seeks_timer v ls).0 ≡ line_of (first_timer v.name.now (take v.left ls))
timer_found v ls = timer_within v.name v.left ls

abbrev counted : ℕ → TofsCounted
counted n = record { count = n }

count_by_test : (b : Bool) (n : ℕ) (ls : List element.Leaf) → n + (cond b 1 0 + tofs_in ls) < 2 ^ 32 →
    ((k : ℕ) → k + tofs_in ls < 2 ^ 32 → (visits counts_tofs (counted k) ls).1.count ≡ k + tofs_in ls) →
    (visits counts_tofs (counted (cond b (min (n + 1) (2 ^ 32 - 1)) n)) ls).1.count ≡ n + (cond b 1 0 + tofs_in ls)
count_by_test true n ls lt h =
    let more : min (n + 1) (2 ^ 32 - 1) ≡ n + 1 = omega arith in
    let rest = h (n + 1) (omega arith) in
    rw more (omega (arith, rest))
count_by_test false n ls lt h = let rest = h n (omega arith) in omega (arith, rest)

-- how many off-delay timers there are with those that were met before
tofs_from : (n : ℕ) (ls : List element.Leaf) → n + tofs_in ls < 2 ^ 32 → (visits counts_tofs (counted n) ls).1.count ≡ n + tofs_in ls
tofs_from n [] lt = omega arith
tofs_from n (l ∷ ls) lt =
    let sum = sum_by-cons (λ x. cond (is_tof x.kind) 1 0) l ls in
    rw sum (count_by_test (is_tof l.kind) n ls (rw sum at lt) (λ k h. tofs_from k ls h))

pub tofs_counted : (ls : List element.Leaf) → tofs_in ls < 2 ^ 32 → (visits counts_tofs (counted 0) ls).1.count ≡ tofs_in ls
tofs_counted ls lt = let all = tofs_from 0 ls (omega arith) in omega (arith, all)
