-- Calls of the routines as ways: where they end, and how often they begin each place of the code at most.
use Rattle.std.proofs.Common.{◌≡◌, ◌≢◌, ℕ, zero, suc, ◌+◌, ◌-◌, ◌≤◌, ◌<◌, Bool, true, false, cond, List, [], ◌∷◌, ◌++◌, drop, length, map, Some, None, refl, sym, ap, subst, ◌∙◌, arith}
use Rattle.std.specs.Prelude.{nat_lt, ◌==◌, if◌then◌else◌}
use Rattle.std.specs.List.{list_all}
use Rattle.std.proofs.lemmas.Bool.{and_parts}
use Rattle.std.proofs.lemmas.Bool.Decides.{nat_tests}
use Rattle.chip_tables.specs.Outside.{no_reading}
use Rattle.chip_tables.specs.Scratch.{scratch_of}
use Rattle.chip_tables.specs.declared.memory.TheConstants.{DATA_ADDRESSES}
use Rattle.chip_tables.specs.declared.scratch.Scratch.{Scratch}
use Rattle.chip_tables.specs.declared.target.Target.{Target}
use Rattle.byte_code.specs.declared.prim.Paced.{Paced}
use Rattle.byte_code.specs.declared.state.Bytes.{Bytes}
use Rattle.byte_code.specs.Machine.{act, label_place, next_with}
use Rattle.byte_code.specs.Store.{cell}
use Rattle.byte_code.specs.Table.{effect}
use Rattle.byte_code.proofs.Times.{times, times-cons}
use Rattle.byte_code.proofs.Ways.{Way, there, acts, waits}
use Rattle.byte_routines.proofs.GoLemmas.{up}
use Rattle.byte_routines.proofs.ProductLemmas.{rounds, multiplies}
use Rattle.byte_routines.proofs.QuotientLemmas.{divides, divide_places}
use Rattle.byte_routines.proofs.CallLemmas.{scratch_apart, up_is, same_test, AllAt, Back, called}
use Rattle.byte_routines.proofs.WorkLemmas.{IsApart}
use Rattle.byte_routines.specs.Calls.{IsWord, IsOther, IsCalled}
use Rattle.byte_routines.specs.Routines.{multiply, divide}
use Rattle.byte_routines.specs.Words.{product, quotient}

-- how often one call begins each primitive of a routine at most
abbrev pub product_costs : List ℕ
product_costs = 1 ∷ 1 ∷ 1 ∷ 8 ∷ 8 ∷ 8 ∷ 1 ∷ []

abbrev pub quotient_costs : List ℕ
quotient_costs = 1 ∷ 1 ∷ 1 ∷ 1 ∷ 1 ∷ 1 ∷ 1 ∷ 1 ∷ 16 ∷ 16 ∷ 16 ∷ 1 ∷ 1 ∷ 1 ∷ 1 ∷ 1 ∷ []

abbrev pub cost_of : List ℕ → ℕ → ℕ
cost_of [] k = 0
cost_of (c ∷ costs) zero = c
cost_of (c ∷ costs) (suc k) = cost_of costs k

-- and each place of the code, where the routine stands at a place
abbrev pub cost_at : List ℕ → ℕ → ℕ → ℕ
cost_at costs at i = if nat_lt i at then 0 else cost_of costs (i - at)

pub cost_before : (costs : List ℕ) (at i : ℕ) → i < at → cost_at costs at i ≡ 0
cost_before costs at i h = let e : nat_lt i at ≡ true = grind (arith, nat_tests, h) in ap (λ b. if b then 0 else cost_of costs (i - at)) e

pub cost_up : (costs : List ℕ) (at k : ℕ) → cost_at costs at (k + at) ≡ cost_of costs k
cost_up costs at k =
    let e : nat_lt (k + at) at ≡ false = grind (arith, nat_tests) in
    let f : k + at - at ≡ k = omega arith in
    ap (λ b. if b then 0 else cost_of costs (k + at - at)) e ∙ ap (cost_of costs) f

zero_and : (n : ℕ) → 0 + n ≡ n
zero_and n = omega arith

none_in : (at i : ℕ) (ks : List ℕ) → i < at → times i (map (λ j. up j at) ks) ≡ 0
none_in at i [] h = refl
none_in at i (j ∷ ks) h =
    let far : up j at ≢ i = (λ e. omega (arith, e, h, up_is j at)) in
    let apart : (up j at == i) ≡ false = grind (arith, nat_tests, far) in
    times-cons i (up j at) (map (λ k. up k at) ks) ∙ ap (λ b. cond b 1 0 + times i (map (λ k. up k at) ks)) apart ∙ zero_and (times i (map (λ k. up k at) ks)) ∙ none_in at i ks h

times_in : (at k : ℕ) (ks : List ℕ) → times (up k at) (map (λ j. up j at) ks) ≡ times k ks
times_in at k [] = refl
times_in at k (j ∷ ks) =
    times-cons (up k at) (up j at) (map (λ i. up i at) ks) ∙ ap (λ b. cond b 1 0 + times (up k at) (map (λ i. up i at) ks)) (same_test j k at)
    ∙ ap (λ n. cond (j == k) 1 0 + n) (times_in at k ks) ∙ sym (times-cons k j ks)

none_past : (n k : ℕ) (ks : List ℕ) → list_all (λ j. nat_lt j n) ks ≡ true → n ≤ k → times k ks ≡ 0
none_past n k [] e h = refl
none_past n k (j ∷ ks) e h =
    let parts = and_parts (nat_lt j n) (list_all (λ i. nat_lt i n) ks) e in
    let low : nat_lt j n ≡ true = parts.0 in
    let apart : (j == k) ≡ false = grind (arith, nat_tests, low, h) in
    times-cons k j ks ∙ ap (λ b. cond b 1 0 + times k ks) apart ∙ zero_and (times k ks) ∙ none_past n k ks parts.1 h

all_costs : (P : ℕ → ℕ → Type 0) (costs : List ℕ) → AllAt P costs → (k : ℕ) → k < length costs → P k (cost_of costs k)
all_costs P [] a k h = absurd (omega (arith, h))
all_costs P (c ∷ costs) a zero h = a.0
all_costs P (c ∷ costs) a (suc k) h = all_costs (λ i. P (suc i)) costs a.1 k (omega (arith, h))

-- no place is begun more often than the costs say
counts_at : (costs ks : List ℕ) (at i : ℕ) → AllAt (λ k c. times k ks ≤ c) costs → list_all (λ j. nat_lt j (length costs)) ks ≡ true →
    times i (map (λ j. up j at) ks) ≤ cost_at costs at i
counts_at costs ks at i few within = by (nat_lt i at) refl
  where
    past : (k : ℕ) (b : Bool) → nat_lt k (length costs) ≡ b → times k ks ≤ cost_of costs k
    past k true e = all_costs (λ j c. times j ks ≤ c) costs few k (grind (arith, nat_tests, e))
    past k false e = let h : length costs ≤ k = grind (arith, nat_tests, e) in omega (arith, none_past (length costs) k ks within h)

    by : (b : Bool) → nat_lt i at ≡ b → times i (map (λ j. up j at) ks) ≤ cost_at costs at i
    by true e = let h : i < at = grind (arith, nat_tests, e) in omega (arith, none_in at i ks h)
    by false e =
        let h : at ≤ i = grind (arith, nat_tests, e) in
        let is : up (i - at) at ≡ i = omega (arith, h, up_is (i - at) at) in
        let there_is : i - at + at ≡ i = omega (arith, h) in
        let one : times i (map (λ j. up j at) ks) ≡ times (i - at) ks = ap (λ n. times n (map (λ j. up j at) ks)) (sym is) ∙ times_in at (i - at) ks in
        let two : cost_at costs at i ≡ cost_of costs (i - at) = ap (cost_at costs at) (sym there_is) ∙ cost_up costs at (i - at) in
        omega (arith, one, two, past (i - at) (nat_lt (i - at) (length costs)) refl)

-- a way leads to one state
ended : (code : List Paced) (T : Bytes → Type 0) (s : Bytes) (begun sent : List ℕ) → Way code T s begun sent →
    (e : Bytes) × T e × Way code (λ x. x ≡ e) s begun sent
ended code T s _ _ (there h) = (s, h, there refl)
ended code T s _ _ (acts {begun = begun} {sent = sent} p h plain fits w) =
    let m = ended code T (act code p.prim s false no_reading).next begun sent w in (m.0, m.1, acts p h plain fits m.2)
ended code T s _ _ (waits {begun = begun} {sent = sent} p h polls fits w) =
    let m = ended code T (next_with s (effect p.prim s.store)) begun sent w in (m.0, m.1, waits p h polls fits m.2)

-- a call that has come to its routine, and the way from there to behind the call
pub record Called (code : List Paced) (s : Scratch) (costs : List ℕ) (at back to n : ℕ) (e : Bytes) : Type 0 where
  pub end : Bytes
  pub begun : List ℕ
  pub way : Way code (λ x. x ≡ end) e (begun ++ back ∷ []) []
  pub counts : (i : ℕ) → times i (at ∷ begun) ≤ cost_at costs at i
  pub place : end.place ≡ back
  pub closed : end.open_call ≡ None
  pub cells : length end.store.cells ≡ DATA_ADDRESSES
  pub result : IsWord end.store to n
  pub kept : (c : ℕ) → IsOther s c → cell end.store c ≡ cell e.store c
  pub rest : end.store ≡ record e.store { cells = end.store.cells; flag = end.store.flag }

called_by : (code : List Paced) (s : Scratch) (costs ks : List ℕ) (at back to n : ℕ) (e : Bytes) → AllAt (λ k c. times k (0 ∷ ks) ≤ c) costs →
    list_all (λ j. nat_lt j (length costs)) (0 ∷ ks) ≡ true → Way code (Back s e.store back to n) e (map (λ j. up j at) ks ++ back ∷ []) [] →
    Called code s costs at back to n e
called_by code s costs ks at back to n e few within way =
    let m = ended code (Back s e.store back to n) e (map (λ j. up j at) ks ++ back ∷ []) [] way in
    record {
      end = m.0;
      begun = map (λ j. up j at) ks;
      way = m.2;
      counts = λ i. counts_at costs (0 ∷ ks) at i few within;
      place = m.1.place;
      closed = m.1.closed;
      cells = m.1.cells;
      result = m.1.result;
      kept = m.1.kept;
      rest = m.1.rest;
    }

pub product_called : (t : Target) (s : Scratch) → scratch_of t ≡ Some s → (code : List Paced) (calls at back a b : ℕ) (rest : List Paced) →
    drop at code ≡ multiply s calls ++ rest → label_place code 2 ≡ at + 3 → (e : Bytes) → IsCalled s at back a b e →
    Called code s product_costs at back s.outcome (product a b) e
product_called t s is code calls at back a b rest ahead loop_is e c =
    let T = Back s e.store back s.outcome (product a b) in
    let loop_up : label_place code 2 ≡ up 3 at = omega (arith, loop_is, up_is 3 at) in
    let few : product a b < 65536 = omega arith in
    called_by code s product_costs (1 ∷ 2 ∷ 3 ∷ rounds 3 7 []) at back s.outcome (product a b) e
    (omega arith, (omega arith, (omega arith, (omega arith, (omega arith, (omega arith, (omega arith, tt))))))) refl
    (multiplies code T s (scratch_apart t s is) e.store calls at back rest ahead loop_up a b 65536 (cell e.store s.count) (cell e.store s.sign) e c.place c.opened
    (called s at back a b e c)
    (λ x m. there (record { place = m.place; closed = m.closed; cells = m.works.cells; result = m.works.outcome few; kept = m.works.kept; rest = m.works.rest })))

abbrev quotient_places : Bool → List ℕ
quotient_places true = 1 ∷ 2 ∷ 3 ∷ 4 ∷ 5 ∷ 6 ∷ 7 ∷ 13 ∷ 14 ∷ 15 ∷ []
quotient_places false = 1 ∷ 2 ∷ 3 ∷ 4 ∷ 5 ∷ 6 ∷ 7 ∷ 8 ∷ rounds 8 15 (12 ∷ [])

quotient_counted : (zero_by : Bool) → AllAt (λ k c. times k (0 ∷ quotient_places zero_by) ≤ c) quotient_costs
quotient_counted true = (
  omega arith,
  (
    omega arith,
    (
      omega arith,
      (
        omega arith,
        (
          omega arith,
          (
            omega arith,
            (
              omega arith,
              (
                omega arith,
                (
                  omega arith,
                  (
                    omega arith,
                    (
                      omega arith,
                      (
                        omega arith,
                        (omega arith, (omega arith, (omega arith, (omega arith, tt)))),
                      ),
                    ),
                  ),
                ),
              ),
            ),
          ),
        ),
      ),
    ),
  ),
)
quotient_counted false = (
  omega arith,
  (
    omega arith,
    (
      omega arith,
      (
        omega arith,
        (
          omega arith,
          (
            omega arith,
            (
              omega arith,
              (
                omega arith,
                (
                  omega arith,
                  (
                    omega arith,
                    (
                      omega arith,
                      (
                        omega arith,
                        (omega arith, (omega arith, (omega arith, (omega arith, tt)))),
                      ),
                    ),
                  ),
                ),
              ),
            ),
          ),
        ),
      ),
    ),
  ),
)

quotient_within : (zero_by : Bool) → list_all (λ j. nat_lt j (length quotient_costs)) (0 ∷ quotient_places zero_by) ≡ true
quotient_within true = refl
quotient_within false = refl

pub quotient_called : (t : Target) (s : Scratch) → scratch_of t ≡ Some s → (code : List Paced) (calls at back a b : ℕ) (rest : List Paced) →
    drop at code ≡ divide s calls ++ rest → label_place code 4 ≡ at + 8 → label_place code 5 ≡ at + 13 → (e : Bytes) → IsCalled s at back a b e →
    Called code s quotient_costs at back s.left (quotient a b) e
quotient_called t s is code calls at back a b rest ahead loop_is zero_is e c =
    let T = Back s e.store back s.left (quotient a b) in
    let apart = scratch_apart t s is in
    let loop_up : label_place code 4 ≡ up 8 at = omega (arith, loop_is, up_is 8 at) in
    let zero_up : label_place code 5 ≡ up 13 at = omega (arith, zero_is, up_is 13 at) in
    let way = divides code T s apart e.store calls at back rest ahead loop_up zero_up a b 65536 (cell e.store s.count) (cell e.store s.sign) e c.place c.opened
    (called s at back a b e c)
    (λ x m. there (record { place = m.place; closed = m.closed; cells = m.works.cells; result = m.works.left; kept = m.works.kept; rest = m.works.rest })) in
    called_by code s quotient_costs (quotient_places (b == 0)) at back s.left (quotient a b) e (quotient_counted (b == 0)) (quotient_within (b == 0))
    (subst (λ L. Way code T e L []) (places apart (b == 0) loop_up zero_up) way)
  where
    places : (apart : IsApart s) (zero_by : Bool) (loop_up : label_place code 4 ≡ up 8 at) (zero_up : label_place code 5 ≡ up 13 at) →
        divide_places code (Back s e.store back s.left (quotient a b)) s apart e.store calls at back rest ahead loop_up zero_up zero_by
        ≡ map (λ j. up j at) (quotient_places zero_by) ++ back ∷ []
    places apart true loop_up zero_up = refl
    places apart false loop_up zero_up = refl
