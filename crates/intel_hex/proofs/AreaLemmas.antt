-- Addresses that pass a test, and those in areas.
use Rattle.std.proofs.Common.{◌≡◌, ℕ, zero, suc, ◌+◌, ◌-◌, ◌<◌, Bool, true, false, not, ◌||◌, None, replicate, refl, arith}
use Rattle.std.proofs.lemmas.Bool.{or_parts}
use Rattle.std.proofs.lemmas.Bool.Decides.{nat_tests}
use Rattle.std.specs.List.{range_with_len, list_any}
use Rattle.chip_tables.specs.declared.target.Target.{Target}
use Rattle.chip_tables.specs.declared.target.Target.TheVariants.{F628, F877, Mega16, Interp, AnsiC}
use Rattle.intel_hex.specs.Areas.{is_in_area}
use Rattle.intel_hex.specs.Loaded.{held}

-- the first address does not pass
pub any_step : (p : ℕ → Bool) (a end : ℕ) → a < end → p a ≡ false
    → list_any p (range_with_len (a + 1) (end - (a + 1))) ≡ list_any p (range_with_len a (end - a))
any_step p a end h fails =
    let more : end - a ≡ suc (end - (a + 1)) = omega arith in
    rw (more, fails) refl

-- none of the addresses passes
pub none_passes : (p : ℕ → Bool) (first n : ℕ) → list_any p (range_with_len first n) ≡ false → (k : ℕ) → k < n → p (first + k) ≡ false
none_passes p first zero none k h = absurd (omega arith)
none_passes p first (suc n) none zero h =
    let here : first + 0 ≡ first = omega arith in
    rw here (or_parts (p first) _ none).0
none_passes p first (suc n) none (suc k) h =
    let next : first + suc k ≡ first + 1 + k = omega arith in
    rw next (none_passes p (first + 1) n (or_parts (p first) _ none).1 k (omega arith))

small : (t : Target) (a : ℕ) → not (is_in_area t a) ≡ false → a < 17408
small F628 a h = grind (arith, nat_tests)
small F877 a h = grind (arith, nat_tests)
small Mega16 a h = grind (arith, nat_tests)
small Interp a h = grind (arith, nat_tests)
small AnsiC a h = grind (arith, nat_tests)

-- addresses in areas have a place in the memory
pub all_small : (t : Target) (first n : ℕ) → list_any (λ a. not (is_in_area t a)) (range_with_len first n) ≡ false → (k : ℕ) → k < n → first + k < 17408
all_small t first n none k h = small t (first + k) (none_passes (λ a. not (is_in_area t a)) first n none k h)

pub none_held : (n a : ℕ) → held (replicate n None) a ≡ None
none_held zero a = refl
none_held (suc n) zero = refl
none_held (suc n) (suc a) = none_held n a
