-- The first of so many numbers that passes a test.
use Rattle.std.proofs.Common.{◌≡◌, ◌≢◌, ℕ, zero, suc, ◌+◌, ◌-◌, ◌<◌, ◌≤◌, Bool, true, false, nat_lt, nat_eq, Some, None, refl, sym, ap, ◌∙◌, arith}
use Rattle.std.proofs.lemmas.Bool.Decides.{nat_tests}
use Rattle.std.specs.List.{find, range_with_len}
use Rattle.std.specs.Option.{unwrap_or}
use Rattle.chip_tables.specs.declared.settings.PwmSetting.{PwmSetting}
use Rattle.ladder_trace.specs.Duty.{duty_register, least_duty}
use Rattle.ladder_trace.specs.declared.duty.TheConstants.{DUTIES, NO_DUTY}

-- where a number does not pass, it is the first of those behind it
pub found_behind : (p : ℕ → Bool) (a end : ℕ) → a < end → p a ≡ false → find p (range_with_len (a + 1) (end - (a + 1))) ≡ find p (range_with_len a (end - a))
found_behind p a end lt fails =
    let more : end - a ≡ suc (end - (a + 1)) = omega arith in
    rw (more, fails) refl

-- where a number passes, it is the first
pub found_here : (p : ℕ → Bool) (a end : ℕ) → a < end → p a ≡ true → find p (range_with_len a (end - a)) ≡ Some a
found_here p a end lt passes =
    let more : end - a ≡ suc (end - (a + 1)) = omega arith in
    rw (more, passes) refl

-- where none is left, none passes
pub found_none : (p : ℕ → Bool) (a end : ℕ) → end ≤ a → find p (range_with_len a (end - a)) ≡ None
found_none p a end le =
    let none : end - a ≡ 0 = omega arith in
    rw none refl

-- a number that passes stands behind one that does not
past : (p : ℕ → Bool) (a k : ℕ) → a ≤ k → p a ≡ false → p k ≡ true → a + 1 ≤ k
past p a k le fails passes = by (nat_lt a k) refl
  where
    by : (b : Bool) → nat_lt a k ≡ b → a + 1 ≤ k
    by true e = grind (arith, nat_tests, e)
    by false e =
        let same : a ≡ k = grind (arith, nat_tests, e, le) in
        let both : false ≡ true = sym fails ∙ ap p same ∙ passes in
        absurd cc

-- the first number that passes, where one passes, does and is no greater
first_passes : (p : ℕ → Bool) (none a n k : ℕ) → a ≤ k → k < a + n → p k ≡ true
    → (p (unwrap_or (find p (range_with_len a n)) none) ≡ true) × (unwrap_or (find p (range_with_len a n)) none ≤ k)
first_passes p none a zero k le lt passes = absurd (omega (arith, le, lt))
first_passes p none a (suc n) k le lt passes = by (p a) refl (first_passes p none (a + 1) n k)
  where
    by : (b : Bool) → p a ≡ b
        → (a + 1 ≤ k → k < a + 1 + n → p k ≡ true → (p (unwrap_or (find p (range_with_len (a + 1) n)) none) ≡ true) ×
        (unwrap_or (find p (range_with_len (a + 1) n)) none ≤ k))
        → (p (unwrap_or (find p (range_with_len a (suc n))) none) ≡ true) × (unwrap_or (find p (range_with_len a (suc n))) none ≤ k)
    by true e rest = rw e (e, le)
    by false e rest = rw e (rest (past p a k le e passes) (omega (arith, lt)) passes)

-- tests of numbers

pub test_true : (a b : ℕ) → a ≡ b → nat_eq a b ≡ true
test_true a b same = grind (arith, nat_tests, same)

test_same : (a b : ℕ) → nat_eq a b ≡ true → a ≡ b
test_same a b e = grind (arith, nat_tests, e)

pub test_false : (a b : ℕ) → a ≢ b → nat_eq a b ≡ false
test_false a b differ = grind (arith, nat_tests, differ)

-- where a duty has a value of the register, the least one that has it does, and is no greater
pub least_passes : (s : PwmSetting) (value duty : ℕ) → duty < DUTIES → duty_register s duty ≡ value →
    (duty_register s (least_duty s value) ≡ value) × (least_duty s value ≤ duty)
least_passes s value duty lt has =
    let first = first_passes (λ d. nat_eq (duty_register s d) value) NO_DUTY 0 DUTIES duty (omega arith) (omega (arith, lt))
    (test_true (duty_register s duty) value has) in
    (test_same (duty_register s (least_duty s value)) value first.0, first.1)
