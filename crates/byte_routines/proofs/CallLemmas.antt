-- Calls of the routines come back with their results, and begin each place as often as is said.
use Rattle.std.proofs.Common.{◌≡◌, ◌≢◌, ℕ, zero, suc, ◌+◌, ◌<◌, ◌≤◌, Bool, true, false, cond, List, [], ◌∷◌, ◌++◌, drop, length, map, Some, None, refl, sym, ap, subst, ◌∙◌, arith}
use Rattle.std.specs.Prelude.{slice_get, ◌==◌}
use Rattle.std.proofs.lemmas.Bool.Decides.{nat_tests}
use Rattle.chip_tables.specs.Outside.{no_reading}
use Rattle.chip_tables.specs.Scratch.{pic_scratch, avr_scratch, scratch_of}
use Rattle.chip_tables.specs.declared.memory.TheConstants.{DATA_ADDRESSES}
use Rattle.chip_tables.specs.declared.outside.PinReading.{PinReading}
use Rattle.chip_tables.specs.declared.scratch.Scratch.{Scratch}
use Rattle.chip_tables.specs.declared.target.Target.{Target}
use Rattle.chip_tables.specs.declared.target.Target.TheVariants.{F628, F877, Mega16, Interp, AnsiC}
use Rattle.runs.specs.declared.ask.Ask.TheVariants as ask
use Rattle.byte_code.specs.declared.prim.BytePrim.{BytePrim}
use Rattle.byte_code.specs.declared.prim.Paced.{Paced}
use Rattle.byte_code.specs.declared.prim.Shape.{Shape}
use Rattle.byte_code.specs.declared.prim.Shape.TheVariants.{AtStart, AtPoll, AtDevice, Names, Jumps, Branches, Calls, Returns, Straight}
use Rattle.byte_code.specs.declared.state.Bytes.{Bytes}
use Rattle.byte_code.specs.declared.store.Store.{Store}
use Rattle.byte_code.specs.Machine.{act, acted, asked_in, byte_step, label_place, next_with, quiet, shaped}
use Rattle.byte_code.specs.Store.{cell}
use Rattle.byte_code.specs.Table.{effect, shape_of}
use Rattle.byte_code.proofs.Steps.{is_plain}
use Rattle.byte_code.proofs.Times.{times, times-cons}
use Rattle.byte_code.proofs.Ways.{Way, there, acts, waits}
use Rattle.byte_routines.proofs.GoLemmas.{up}
use Rattle.byte_routines.proofs.ProductLemmas.{rounds, multiplies}
use Rattle.byte_routines.proofs.QuotientLemmas.{divides, divide_places}
use Rattle.byte_routines.proofs.WorkLemmas.{IsApart, Works, pic_apart, avr_apart}
use Rattle.byte_routines.specs.Calls.{IsWord, IsOther, Leads, stays, goes, IsCalled, ProductsAreMade, QuotientsAreMade}
use Rattle.byte_routines.specs.Routines.{multiply, divide}
use Rattle.byte_routines.specs.Words.{product, quotient}

pub scratch_apart : (t : Target) (s : Scratch) → scratch_of t ≡ Some s → IsApart s
scratch_apart F628 s e = let same : pic_scratch ≡ s = cc e in subst IsApart same pic_apart
scratch_apart F877 s e = let same : pic_scratch ≡ s = cc e in subst IsApart same pic_apart
scratch_apart Mega16 s e = let same : avr_scratch ≡ s = cc e in subst IsApart same avr_apart
scratch_apart Interp s e = absurd (cc e)
scratch_apart AnsiC s e = absurd (cc e)

-- where nothing is asked for, the answer is of no account
any_answer : (code : List Paced) (p : BytePrim) (h : Shape) (s : Bytes) (d : Store) (r : PinReading) → asked_in h ≡ ask.Nothing →
    shaped code p h s d true r ≡ shaped code p h s d false r
any_answer code p AtStart s d r e = refl
any_answer code p AtPoll s d r e = absurd (cc)
any_answer code p AtDevice s d r e = absurd (cc)
any_answer code p (Names l) s d r e = refl
any_answer code p (Jumps l) s d r e = refl
any_answer code p (Branches l) s d r e = refl
any_answer code p (Calls l) s d r e = refl
any_answer code p Returns s d r e = refl
any_answer code p Straight s d r e = refl

step_at : (code : List Paced) (s : Bytes) (p : Paced) → slice_get code s.place ≡ Some p → byte_step code s true no_reading ≡ Some (act code p.prim s true no_reading)
unfolding byte_step
step_at code s p h = ap (λ o. acted code o s true no_reading) h

nothing_left : (xs ys : List ℕ) → xs ++ ys ≡ [] → (xs ≡ []) × (ys ≡ [])
nothing_left [] ys e = (refl, e)
nothing_left (x ∷ xs) ys e = absurd (cc)

-- a way that sends nothing leads to where it ends
leads : (code : List Paced) (T : Bytes → Type 0) (s : Bytes) (begun sent : List ℕ) → sent ≡ [] → Way code T s begun sent → (e : Bytes) × Leads code s e begun × T e
leads code T s _ _ none (there h) = (s, stays, h)
leads code T s _ _ none (acts {begun = begun} {sent = sent} p h plain fits w) =
    let x = act code p.prim s false no_reading in
    let parts = nothing_left x.sent sent none in
    let more = leads code T x.next begun sent parts.1 w in
    let is : byte_step code s true no_reading ≡ Some x = step_at code s p h ∙ ap Some (any_answer code p.prim (shape_of p.prim) s (effect p.prim s.store) no_reading plain) in
    (more.0, goes x is (is_plain code s p.prim plain) parts.0 more.1, more.2)
leads code T s _ _ none (waits {begun = begun} {sent = sent} p h polls fits w) =
    let d = effect p.prim s.store in
    let x = quiet (next_with s d) [] in
    let more = leads code T (next_with s d) begun sent none w in
    let is : byte_step code s true no_reading ≡ Some x = step_at code s p h ∙ ap (λ (k : Shape). Some (shaped code p.prim k s d true no_reading)) polls in
    (more.0, goes x is refl refl more.1, more.2)

pub up_is : (k at : ℕ) → up k at ≡ k + at
up_is zero at = omega arith
up_is (suc k) at = let e = up_is k at in omega (arith, e)

pub same_test : (j k at : ℕ) → (up j at == up k at) ≡ (j == k)
same_test j k at = by (j == k) refl
  where
    by : (b : Bool) → (j == k) ≡ b → (up j at == up k at) ≡ b
    by true e = let f : j ≡ k = grind (arith, nat_tests, e) in let g : up j at ≡ up k at = ap (λ n. up n at) f in grind (arith, nat_tests, g)
    by false e =
        let f : j ≢ k = λ g. grind (arith, nat_tests, e, g) in
        let g : up j at ≢ up k at = λ h. f (omega (arith, h, up_is j at, up_is k at)) in
        grind (arith, nat_tests, g)

-- counts of places, counted from where the routine stands; the place behind the call is in front of it
counted_from : (ks : List ℕ) (k at back : ℕ) → back < at → times (up k at) (map (λ j. up j at) ks ++ back ∷ []) ≡ times k ks
counted_from [] k at back h =
    let apart : (back == up k at) ≡ false = let far : back ≢ up k at = (λ e. omega (arith, e, h, up_is k at)) in grind (arith, nat_tests, far) in
    times-cons (up k at) back [] ∙ ap (λ b. cond b 1 0 + times (up k at) []) apart
counted_from (j ∷ ks) k at back h =
    times-cons (up k at) (up j at) (map (λ i. up i at) ks ++ back ∷ []) ∙ ap (λ b. cond b 1 0 + times (up k at) (map (λ i. up i at) ks ++ back ∷ [])) (same_test j k at)
    ∙ ap (λ n. cond (j == k) 1 0 + n) (counted_from ks k at back h) ∙ sym (times-cons k j ks)

-- a fact at each place of a list
abbrev pub AllAt : {X : Type 0} → (ℕ → X → Type 0) → List X → Type 0
AllAt P [] = Unit {0}
AllAt P (x ∷ xs) = P 0 x × AllAt (λ i. P (suc i)) xs

pub all_at : {X : Type 0} (P : ℕ → X → Type 0) (xs : List X) → AllAt P xs → (i : ℕ) (x : X) → slice_get xs i ≡ Some x → P i x
all_at P [] a i x e = absurd (cc)
all_at P (y ∷ xs) a zero x e = let f : y ≡ x = cc in subst (P 0) f a.0
all_at P (y ∷ xs) a (suc i) x e = all_at (λ i. P (suc i)) xs a.1 i x e

-- no place of a routine is begun more often than it says for one call
abbrev IsCounted : List Paced → List ℕ → Type 0
IsCounted routine ks = AllAt (λ k q. times k ks ≤ q.turns) routine

multiply_counted : (s : Scratch) → IsCounted (multiply s 1) (0 ∷ 1 ∷ 2 ∷ 3 ∷ rounds 3 7 [])
multiply_counted s = (omega arith, (omega arith, (omega arith, (omega arith, (omega arith, (omega arith, (omega arith, tt)))))))

counts : (routine : List Paced) (ks begun : List ℕ) (at back : ℕ) → back < at → IsCounted routine ks → at ∷ begun ≡ map (λ j. up j at) ks ++ back ∷ [] →
    (k : ℕ) (q : Paced) → slice_get routine k ≡ Some q → times (k + at) (at ∷ begun) ≤ q.turns
counts routine ks begun at back h c is k q e =
    let one : times k ks ≤ q.turns = all_at (λ i x. times i ks ≤ x.turns) routine c k q e in
    let two : times (k + at) (at ∷ begun) ≡ times k ks = ap (λ n. times n (at ∷ begun)) (sym (up_is k at)) ∙ ap (times (up k at)) is ∙ counted_from ks k at back h in
    omega (arith, one, two)

-- where a call ends
pub record Back (s : Scratch) (d : Store) (back to n : ℕ) (e : Bytes) : Type 0 where
  pub place : e.place ≡ back
  pub closed : e.open_call ≡ None
  pub cells : length e.store.cells ≡ DATA_ADDRESSES
  pub result : IsWord e.store to n
  pub kept : (c : ℕ) → IsOther s c → cell e.store c ≡ cell d c
  pub rest : e.store ≡ record d { cells = e.store.cells; flag = e.store.flag }

pub called : (s : Scratch) (at back a b : ℕ) (e : Bytes) → IsCalled s at back a b e → Works s e.store e.store a b 65536 (cell e.store s.count) (cell e.store s.sign)
called s at back a b e c = record {
  scratch = c.scratch;
  cells = c.cells;
  left = c.left;
  right = c.right;
  outcome = λ few. absurd (omega (arith, few));
  count = refl;
  sign = refl;
  kept = λ x o. refl;
  rest = refl;
}

pub products : ProductsAreMade
products t s is code calls at back a b rest ahead loop_is before e c =
    let T = Back s e.store back s.outcome (product a b) in
    let apart = scratch_apart t s is in
    let loop_up : label_place code 2 ≡ up 3 at = omega (arith, loop_is, up_is 3 at) in
    let few : product a b < 65536 = omega arith in
    let way = multiplies code T s apart e.store calls at back rest ahead loop_up a b 65536 (cell e.store s.count) (cell e.store s.sign) e c.place c.opened
    (called s at back a b e c)
    (λ x m. there (record { place = m.place; closed = m.closed; cells = m.works.cells; result = m.works.outcome few; kept = m.works.kept; rest = m.works.rest })) in
    let l = leads code T e _ [] refl way in
    record {
      end = l.0;
      begun = _;
      leads = l.1;
      place = l.2.place;
      closed = l.2.closed;
      result = l.2.result;
      kept = l.2.kept;
      rest = l.2.rest;
      counts = counts (multiply s 1) (0 ∷ 1 ∷ 2 ∷ 3 ∷ rounds 3 7 []) _ at back before (multiply_counted s) refl;
    }

abbrev divide_steps_of : Bool → List ℕ
divide_steps_of true = 0 ∷ 1 ∷ 2 ∷ 3 ∷ 4 ∷ 5 ∷ 6 ∷ 7 ∷ 13 ∷ 14 ∷ 15 ∷ []
divide_steps_of false = 0 ∷ 1 ∷ 2 ∷ 3 ∷ 4 ∷ 5 ∷ 6 ∷ 7 ∷ 8 ∷ rounds 8 15 (12 ∷ [])

divide_counted : (s : Scratch) (zero_by : Bool) → IsCounted (divide s 1) (divide_steps_of zero_by)
divide_counted s true = (
  omega arith,
  (
    omega arith,
    (
      omega arith,
      (
        omega arith,
        (
          omega arith,
          (
            omega arith,
            (
              omega arith,
              (
                omega arith,
                (
                  omega arith,
                  (
                    omega arith,
                    (
                      omega arith,
                      (omega arith, (omega arith, (omega arith, (omega arith, (omega arith, tt))))),
                    ),
                  ),
                ),
              ),
            ),
          ),
        ),
      ),
    ),
  ),
)
divide_counted s false = (
  omega arith,
  (
    omega arith,
    (
      omega arith,
      (
        omega arith,
        (
          omega arith,
          (
            omega arith,
            (
              omega arith,
              (
                omega arith,
                (
                  omega arith,
                  (
                    omega arith,
                    (
                      omega arith,
                      (omega arith, (omega arith, (omega arith, (omega arith, (omega arith, tt))))),
                    ),
                  ),
                ),
              ),
            ),
          ),
        ),
      ),
    ),
  ),
)

-- the places of a quotient, as the routine counts them
divide_is : (code : List Paced) (T : Bytes → Type 0) (s : Scratch) (apart : IsApart s) (d : Store) (calls at back : ℕ) (rest : List Paced)
    (ahead : drop at code ≡ divide s calls ++ rest) (loop_is : label_place code 4 ≡ up 8 at) (zero_is : label_place code 5 ≡ up 13 at) (c : Bool) →
    at ∷ divide_places code T s apart d calls at back rest ahead loop_is zero_is c ≡ map (λ j. up j at) (divide_steps_of c) ++ back ∷ []
divide_is code T s apart d calls at back rest ahead loop_is zero_is true = refl
divide_is code T s apart d calls at back rest ahead loop_is zero_is false = refl

pub quotients : QuotientsAreMade
quotients t s is code calls at back a b rest ahead loop_is zero_is before e c =
    let T = Back s e.store back s.left (quotient a b) in
    let apart = scratch_apart t s is in
    let loop_up : label_place code 4 ≡ up 8 at = omega (arith, loop_is, up_is 8 at) in
    let zero_up : label_place code 5 ≡ up 13 at = omega (arith, zero_is, up_is 13 at) in
    let way = divides code T s apart e.store calls at back rest ahead loop_up zero_up a b 65536 (cell e.store s.count) (cell e.store s.sign) e c.place c.opened
    (called s at back a b e c)
    (λ x m. there (record { place = m.place; closed = m.closed; cells = m.works.cells; result = m.works.left; kept = m.works.kept; rest = m.works.rest })) in
    let l = leads code T e _ [] refl way in
    record {
      end = l.0;
      begun = _;
      leads = l.1;
      place = l.2.place;
      closed = l.2.closed;
      result = l.2.result;
      kept = l.2.kept;
      rest = l.2.rest;
      counts = counts (divide s 1) (divide_steps_of (b == 0)) _ at back before (divide_counted s (b == 0))
          (divide_is code T s apart e.store calls at back rest ahead loop_up zero_up (b == 0));
    }
