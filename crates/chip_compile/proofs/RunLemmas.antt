-- A run takes its readings in order: those that it took and those that are left are all of them.
use Rattle.std.proofs.Common.{◌≡◌, ℕ, ◌+◌, ◌≤◌, List, [], ◌∷◌, length, Bool, true, false, Option, Some, None, refl, subst, arith, ◌∙◌, ap}
use Rattle.chip_tables.specs.declared.outside.PinReading.{PinReading}
use Rattle.runs.specs.declared.ask.Ask.{Ask}
use Rattle.runs.specs.declared.ask.Ask.TheVariants as ask
use Rattle.runs.specs.Run.{Stepper, Went, Moment, moment, first_moment, onward, answered, within, taking, ask_of, Goes, IsKept}
use Rattle.runs.proofs.RunLemmas.{keeps_on}

abbrev Counts : {M : Type 0} → ℕ → Moment M → Type 0
Counts n c = c.taken + length c.readings ≡ n

within_kept : {M : Type 0} (n : ℕ) (c d : Moment M) (more : ℕ) (bs : List Bool) (o : Option (Went M)) → Counts n c → within c more bs o ≡ Goes d → Counts n d
within_kept n c d more bs None h e = absurd (cc)
within_kept n c d more bs (Some w) h e =
    let taken : c.taken ≡ d.taken = cc in let left : c.readings ≡ d.readings = cc in subst (λ (rs : List PinReading). d.taken + length rs ≡ n) left (rw taken at h)

taking_kept : {M : Type 0} (n : ℕ) (c d : Moment M) (r : PinReading) (rs : List PinReading) (bs : List Bool) (o : Option (Went M)) → c.readings ≡ r ∷ rs → Counts n c →
    taking c rs bs o ≡ Goes d → Counts n d
taking_kept n c d r rs bs None same h e = absurd (cc)
taking_kept n c d r rs bs (Some w) same h e =
    let taken : c.taken + 1 ≡ d.taken = cc in
    let left : rs ≡ d.readings = cc in
    let all : c.taken + length (r ∷ rs) ≡ n = subst (λ (x : List PinReading). c.taken + length x ≡ n) same h in
    subst (λ (x : List PinReading). d.taken + length x ≡ n) left (omega (arith, taken, all))

answered_kept : {M : Type 0} (step : Stepper M) (n : ℕ) (c d : Moment M) (a : Ask) (rs : List PinReading) (bs : List Bool) → c.readings ≡ rs → Counts n c →
    answered step c a rs bs ≡ Goes d → Counts n d
answered_kept step n c d ask.Nothing rs bs same h e = within_kept n c d 0 bs _ h e
answered_kept step n c d ask.Device rs [] same h e = absurd (cc)
answered_kept step n c d ask.Device rs (true ∷ bs) same h e = within_kept n c d 0 bs _ h e
answered_kept step n c d ask.Device rs (false ∷ bs) same h e = within_kept n c d 1 bs _ h e
answered_kept step n c d ask.Reading rs [] same h e = absurd (cc)
answered_kept step n c d ask.Reading rs (false ∷ bs) same h e = within_kept n c d 1 bs _ h e
answered_kept step n c d ask.Reading [] (true ∷ bs) same h e = absurd (cc)
answered_kept step n c d ask.Reading (r ∷ rs) (true ∷ bs) same h e = taking_kept n c d r rs bs _ same h e

counts_kept : {M : Type 0} (step : Stepper M) (n : ℕ) → IsKept step (Counts n)
unfolding onward
counts_kept step n c d h e = answered_kept step n c d (ask_of step c.state) c.readings c.answers refl h e

-- no more readings are taken than there are
pub taken_few : {M : Type 0} (step : Stepper M) (m : M) (readings : List PinReading) (answers : List Bool) (n : ℕ) (c : Moment M) →
    moment step n (first_moment m readings answers) ≡ Some c → c.taken ≤ length readings
taken_few step m readings answers n c e =
    let h = keeps_on step (Counts (length readings)) (counts_kept step (length readings)) n (first_moment m readings answers) c (omega arith) e in omega (arith, h)
