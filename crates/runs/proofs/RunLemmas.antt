-- Lemmas on runs, for every machine.
use Rattle.std.proofs.Common.{◌≡◌, ℕ, zero, suc, ◌+◌, List, Some, Bool, refl, ap, subst, ◌∙◌, arith}
use Rattle.chip_tables.specs.declared.outside.PinReading.{PinReading}
use Rattle.runs.specs.declared.ask.Ask.{Ask}
use Rattle.runs.specs.Run.{Stepper, Onward, DriveEnds, IsStuck, Goes, Moment, moment, onward, answered, ask_of, then_at, IsKept}

-- what comes behind a moment, by what its state asks for and what is left of the drive
pub onward_is : {M : Type 0} (step : Stepper M) (c : Moment M) (a : Ask) (rs : List PinReading) (bs : List Bool) → ask_of step c.state ≡ a → c.readings ≡ rs →
    c.answers ≡ bs → onward step c ≡ answered step c a rs bs
unfolding onward
onward_is step c a rs bs e f g =
    ap (λ x. answered step c x c.readings c.answers) e ∙ ap (λ x. answered step c a x c.answers) f ∙ ap (λ x. answered step c a rs x) g

more_on : {M : Type 0} (step : Stepper M) (n : ℕ) (b b' : Moment M) → ((c : Moment M) → moment step n c ≡ Some b → moment step (suc n) c ≡ Some b') →
    (o : Onward (Moment M)) → then_at (moment step n) o ≡ Some b → then_at (moment step (suc n)) o ≡ Some b'
more_on step n b b' h DriveEnds e = cc
more_on step n b b' h IsStuck e = cc
more_on step n b b' h (Goes c) e = h c e

-- one step more
pub moment_more : {M : Type 0} (step : Stepper M) (b b' : Moment M) → onward step b ≡ Goes b' → (n : ℕ) (c : Moment M) → moment step n c ≡ Some b →
    moment step (suc n) c ≡ Some b'
moment_more step b b' on zero c e = let f : c ≡ b = cc in ap (then_at (moment step zero)) (ap (onward step) f ∙ on)
moment_more step b b' on (suc n) c e = more_on step n b b' (moment_more step b b' on n) (onward step c) e

kept_on : {M : Type 0} (step : Stepper M) (T : Moment M → Type 0) (n : ℕ) (d : Moment M) → ((c : Moment M) → T c → moment step n c ≡ Some d → T d) →
    (o : Onward (Moment M)) → ((c : Moment M) → o ≡ Goes c → T c) → then_at (moment step n) o ≡ Some d → T d
kept_on step T n d h DriveEnds t e = absurd (cc)
kept_on step T n d h IsStuck t e = absurd (cc)
kept_on step T n d h (Goes c) t e = h c (t c refl) e

-- what goes from each moment to the next holds at every moment
pub keeps_on : {M : Type 0} (step : Stepper M) (T : Moment M → Type 0) → IsKept step T → (n : ℕ) (c d : Moment M) → T c → moment step n c ≡ Some d → T d
keeps_on step T kept zero c d t e = let f : c ≡ d = cc in subst T f t
keeps_on step T kept (suc n) c d t e = kept_on step T n d (λ x. keeps_on step T kept n x d) (onward step c) (λ x. kept c x t) e

goes_on : {M : Type 0} (step : Stepper M) (n k : ℕ) (d : Moment M) → ((c : Moment M) → moment step n c ≡ Some d → moment step (n + k) c ≡ moment step k d) →
    (o : Onward (Moment M)) → then_at (moment step n) o ≡ Some d → then_at (moment step (n + k)) o ≡ moment step k d
goes_on step n k d h DriveEnds e = absurd (cc)
goes_on step n k d h IsStuck e = absurd (cc)
goes_on step n k d h (Goes c) e = h c e

-- so many steps and so many more
pub moment_from : {M : Type 0} (step : Stepper M) (n k : ℕ) (c d : Moment M) → moment step n c ≡ Some d → moment step (n + k) c ≡ moment step k d
moment_from step zero k c d e = let f : c ≡ d = cc in let z : 0 + k ≡ k = omega arith in ap (λ i. moment step i c) z ∙ ap (moment step k) f
moment_from step (suc n) k c d e =
    let s : suc n + k ≡ suc (n + k) = omega arith in
    ap (λ i. moment step i c) s ∙ goes_on step n k d (λ x. moment_from step n k x d) (onward step c) e
