-- Ranges of even size hold each variable whole, and different bytes stand at different addresses.
use Rattle.std.proofs.Common.{◌≡◌, ℕ, ◌+◌, ◌-◌, ◌*◌, ◌/◌, ◌%◌, ◌<◌, ◌≤◌, inl, inr, Bool, true, false, cond, Option, Some, None, refl, sym, ap, ◌∙◌, arith}
use Rattle.std.specs.Prelude.{nat_lt}
use Rattle.std.proofs.lemmas.Bool.{ltb-true}
use Rattle.std.proofs.lemmas.Bool.Decides.{nat_tests}
use Rattle.chip_tables.specs.declared.target.Target.{Target}
use Rattle.chip_tables.specs.declared.target.Target.TheVariants.{F628, F877, Mega16, Interp, AnsiC}
use Rattle.chip_tables.specs.Memory.{ram_address}
use Rattle.chip_tables.proofs.RamLemmas.{alone}
use Rattle.mem_plan.specs.Places.{byte_of_bit}
use Rattle.mem_plan.specs.Apart.{Takes, AreApart}

-- the addresses of bytes by their numbers, `size` of them from `first` on and the others behind them
abbrev behind : ℕ → ℕ → (ℕ → Option ℕ) → ℕ → Option ℕ
behind first size rest k = cond (nat_lt k size) (Some (first + k)) (rest (k - size))

-- a byte of even number and the one behind it stand at addresses that follow one another
abbrev IsPaired : (ℕ → Option ℕ) → Type 0
IsPaired place = (i k a : ℕ) → k ≡ 2 * i → place k ≡ Some a → place (k + 1) ≡ Some (a + 1)

none_paired : IsPaired (λ k. None)
none_paired i k a even h =
    let clash : ⊥ = cc in absurd clash

below_too : (i k half n : ℕ) → k ≡ 2 * i → n ≡ 2 * half → nat_lt k n ≡ true → nat_lt (k + 1) n ≡ true
below_too i k half n even whole e =
    let lt : k < n = ltb-true k n e in
    let next : k + 1 < n = omega arith in
    grind (arith, nat_tests, next)

past_too : (k n : ℕ) → nat_lt k n ≡ false → nat_lt (k + 1) n ≡ false
past_too k n e = grind (arith, nat_tests, e)

step_past : (k n : ℕ) → nat_lt k n ≡ false → k + 1 - n ≡ k - n + 1
step_past k n e =
    let past : n ≤ k = grind (arith, nat_tests, e) in
    omega arith

half_past : (i k half n : ℕ) → k ≡ 2 * i → n ≡ 2 * half → k - n ≡ 2 * (i - half)
half_past i k half n even whole = omega arith

paired_by : (first n half : ℕ) (rest : ℕ → Option ℕ) (i k a : ℕ) (b : Bool) → nat_lt k n ≡ b → n ≡ 2 * half → IsPaired rest → k ≡ 2 * i →
    cond b (Some (first + k)) (rest (k - n)) ≡ Some a → behind first n rest (k + 1) ≡ Some (a + 1)
paired_by first n half rest i k a true e whole pairs even h =
    let same : first + k ≡ a = cc in
    let next : first + (k + 1) ≡ a + 1 = omega arith in
    ap (λ t. cond t (Some (first + (k + 1))) (rest (k + 1 - n))) (below_too i k half n even whole e) ∙ ap Some next
paired_by first n half rest i k a false e whole pairs even h =
    ap (λ t. cond t (Some (first + (k + 1))) (rest (k + 1 - n))) (past_too k n e) ∙ ap rest (step_past k n e) ∙ pairs (i - half) (k - n) a
    (half_past i k half n even whole) h

-- a range of an even number of bytes before others
paired : (first n half : ℕ) (rest : ℕ → Option ℕ) → n ≡ 2 * half → IsPaired rest → IsPaired (behind first n rest)
paired first n half rest whole pairs i k a even h = paired_by first n half rest i k a (nat_lt k n) refl whole pairs even h

ram_paired : (target : Target) → IsPaired (ram_address target)
ram_paired F628 = paired 0x20 80 40 _ refl (paired 0xa0 80 40 _ refl (paired 0x120 48 24 _ refl none_paired))
ram_paired F877 = paired 0x20 80 40 _ refl (paired 0xa0 80 40 _ refl (paired 0x110 96 48 _ refl (paired 0x190 96 48 _ refl none_paired)))
ram_paired Mega16 = paired 0x60 960 480 _ refl none_paired
ram_paired Interp = none_paired
ram_paired AnsiC = none_paired

one_byte : (target : Target) (i j a : ℕ) → ram_address target i ≡ Some a → ram_address target j ≡ Some a → i ≡ j
one_byte target i j a this that = alone target j (Some a) (sym that) i this

odd : (i j : ℕ) → 2 * i ≡ 2 * j + 1 → ⊥
odd i j e = omega arith

one_cell : (target : Target) (i j a : ℕ) → Takes target i a → Takes target j a → i ≡ j
one_cell target i j a (inl this) (inl that) =
    let e = one_byte target (2 * i) (2 * j) a this that in omega arith
one_cell target i j a (inl this) (inr that) = absurd (odd i j (one_byte target (2 * i) (2 * j + 1) a this that))
one_cell target i j a (inr this) (inl that) = absurd (odd j i (one_byte target (2 * j) (2 * i + 1) a that this))
one_cell target i j a (inr this) (inr that) =
    let e = one_byte target (2 * i + 1) (2 * j + 1) a this that in omega arith

same_bit : (n j k : ℕ) → n + j / 8 ≡ n + k / 8 → j % 8 ≡ k % 8 → j ≡ k
same_bit n j k e same = omega arith

no_bit : (target : Target) (variables i j a : ℕ) → i < variables → Takes target i a → byte_of_bit target variables j ≡ Some a → ⊥
no_bit target variables i j a lt (inl this) that =
    let e = one_byte target (2 * i) (2 * variables + j / 8) a this that in omega arith
no_bit target variables i j a lt (inr this) that =
    let e = one_byte target (2 * i + 1) (2 * variables + j / 8) a this that in omega arith

pub apart : (target : Target) (variables : ℕ) → AreApart target variables
apart target variables = record {
  whole = λ i low. ram_paired target i (2 * i) low refl;
  cells = one_cell target;
  bits = λ j k a this that. same_bit (2 * variables) j k (one_byte target (2 * variables + j / 8) (2 * variables + k / 8) a this that);
  cells_and_bits = no_bit target variables;
}
