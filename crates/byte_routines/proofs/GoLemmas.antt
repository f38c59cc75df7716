-- Single primitives at known places.
use Rattle.std.proofs.Common.{◌≡◌, ℕ, zero, suc, List, [], ◌∷◌, ◌++◌, drop, Some, false, refl, ap, ◌∙◌, subst}
use Rattle.std.specs.Prelude.{slice_get}
use Rattle.chip_tables.specs.Outside.{no_reading}
use Rattle.runs.specs.declared.ask.Ask.TheVariants as ask
use Rattle.byte_code.specs.declared.prim.Paced.{Paced}
use Rattle.byte_code.specs.declared.state.Bytes.{Bytes}
use Rattle.byte_code.specs.Counts.{Fits}
use Rattle.byte_code.specs.Machine.{act, asked_by}
use Rattle.byte_code.proofs.Ways.{Way, acts}

-- so many places on
abbrev pub up : ℕ → ℕ → ℕ
up zero at = at
up (suc k) at = suc (up k at)

up_next : (k at : ℕ) → up k (suc at) ≡ suc (up k at)
up_next zero at = refl
up_next (suc k) at = ap suc (up_next k at)

up_zero : (k : ℕ) → up k 0 ≡ k
up_zero zero = refl
up_zero (suc k) = ap suc (up_zero k)

-- what stands in a stretch stands in the code
dropped : (code : List Paced) (at : ℕ) (ps : List Paced) (k : ℕ) (p : Paced) → drop at code ≡ ps → slice_get ps k ≡ Some p → slice_get code (up k at) ≡ Some p
dropped code zero ps k p e h = ap (λ n. slice_get code n) (up_zero k) ∙ ap (λ xs. slice_get xs k) e ∙ h
dropped [] (suc at) ps k p e h = absurd (cc (ap (λ xs. slice_get xs k) e, h))
dropped (x ∷ code) (suc at) ps k p e h = ap (slice_get (x ∷ code)) (up_next k at) ∙ dropped code at ps k p e h

first_part : (ps rest : List Paced) (k : ℕ) (p : Paced) → slice_get ps k ≡ Some p → slice_get (ps ++ rest) k ≡ Some p
first_part [] rest k p e = absurd (cc)
first_part (x ∷ ps) rest zero p e = e
first_part (x ∷ ps) rest (suc k) p e = first_part ps rest k p e

pub place_of : (code : List Paced) (at k : ℕ) (ps rest : List Paced) (p : Paced) → drop at code ≡ ps ++ rest → slice_get ps k ≡ Some p →
    slice_get code (up k at) ≡ Some p
place_of code at k ps rest p e h = dropped code at (ps ++ rest) k p e (first_part ps rest k p h)

-- a way by a primitive that sends nothing, and leads to a place that is known
pub via : (code : List Paced) (T : Bytes → Type 0) (s : Bytes) (p : Paced) (x : ℕ) (L : List ℕ) → slice_get code s.place ≡ Some p →
    asked_by p.prim ≡ ask.Nothing → Fits p.prim s → (act code p.prim s false no_reading).sent ≡ [] → (act code p.prim s false no_reading).next.place ≡ x →
    Way code T (act code p.prim s false no_reading).next L [] → Way code T s (x ∷ L) []
via code T s p x L h plain fits quiet is w =
    subst (λ y. Way code T s (y ∷ L) []) is
    (subst (λ o. Way code T s ((act code p.prim s false no_reading).next.place ∷ L) (o ++ [])) quiet (acts p h plain fits w))
