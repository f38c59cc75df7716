-- One line more.
use Rattle.std.proofs.Common.{◌≡◌, ℕ, suc, ◌+◌, ◌<◌, ◌≤◌, nat_lt, ◌==◌, ◌&&◌, Bool, true, false, if◌then◌else◌, List, [], ◌∷◌, length, Option, Some, None, Result, Ok, Err, refl, sym, ap, ◌∙◌, arith}
use Rattle.std.proofs.lemmas.Bool.Decides.{nat_tests}
use Rattle.chip_tables.specs.declared.target.Target.{Target}
use Rattle.texts.specs.Lines.{lines, onto}
use Rattle.texts.specs.declared.limits.TheConstants.{FILE_BYTES}
use Rattle.intel_hex.specs.declared.image.Image.{Image}
use Rattle.intel_hex.specs.declared.fault.HexCause.{HexCause}
use Rattle.intel_hex.specs.declared.fault.HexCause.TheVariants.{BadRecord, NoEnd}
use Rattle.intel_hex.specs.declared.fault.HexFault.{HexFault}
use Rattle.intel_hex.specs.declared.said.Said.{Said}
use Rattle.intel_hex.specs.declared.said.Said.TheVariants.{Broken}
use Rattle.intel_hex.specs.Said.{said_of}
use Rattle.intel_hex.specs.Given.{is_ended, given, fault_of}
use Rattle.intel_hex.specs.Kept.{image_of}
use Rattle.intel_hex.specs.Loaded.{held}
use Rattle.intel_hex.specs.Verdict.{verdict, sayings, or_fault}

broken : (t : Target) (before : List Said) → fault_of t before (Broken BadRecord) ≡ Some BadRecord
broken t before = by (is_ended before) refl
  where
    by : (b : Bool) → is_ended before ≡ b → fault_of t before (Broken BadRecord) ≡ Some BadRecord
    by true e = rw e refl
    by false e = rw e refl

-- the line has a fault
pub stops : (t : Target) (before : List Said) (said : Said) (more : List Said) (v : Result Image HexFault) (count : ℕ) (cause : HexCause)
    → verdict t before (said ∷ more) ≡ v → fault_of t before said ≡ Some cause → count ≡ length before
    → v ≡ Err (record { line = count + 1; cause = cause })
stops t before said more v count cause is fault place =
    sym is
    ∙ ap (λ f. or_fault (length before + 1) f (verdict t (said ∷ before) more)) fault
    ∙ ap (λ n. Err (record { line = n + 1; cause = cause })) (sym place)

-- the line has no fault
pub goes_on : (t : Target) (before : List Said) (said : Said) (more : List Said) (v : Result Image HexFault)
    → verdict t before (said ∷ more) ≡ v → fault_of t before said ≡ None → verdict t (said ∷ before) more ≡ v
goes_on t before said more v is fault =
    sym (ap (λ f. or_fault (length before + 1) f (verdict t (said ∷ before) more)) fault) ∙ is

is_some_length : (n : ℕ) → (suc n == 0) ≡ false
is_some_length n = grind (arith, nat_tests)

-- there are lines where there are bytes
pub no_lines : (text : List ℕ) → (length (lines text) == 0) ≡ (length text == 0)
no_lines [] = refl
no_lines (x ∷ xs) = by (x == 10) (lines xs) ∙ sym (is_some_length (length xs))
  where
    by : (b : Bool) (ls : List (List ℕ)) → (length (if b then [] ∷ ls else onto x ls) == 0) ≡ false
    by true ls = is_some_length (length ls)
    by false [] = refl
    by false (l ∷ ls) = is_some_length (length ls)

pub is_last : (size rest : ℕ) → FILE_BYTES < size → (rest == 0) ≡ true → (nat_lt FILE_BYTES size && (rest == 0)) ≡ true
is_last size rest long none = grind (arith, nat_tests)

pub is_not_long : (size rest : ℕ) → size ≤ FILE_BYTES → (nat_lt FILE_BYTES size && (rest == 0)) ≡ false
is_not_long size rest short = grind (arith, nat_tests)

pub is_not_last : (size rest : ℕ) → (rest == 0) ≡ false → (nat_lt FILE_BYTES size && (rest == 0)) ≡ false
is_not_last size rest some = grind (arith, nat_tests)

-- what a line says that is not the last of a text that is too long
pub plain_line : (long : Bool) (text line rest : List ℕ) → lines text ≡ line ∷ lines rest → (long && (length rest == 0)) ≡ false
    → sayings long (lines text) ≡ said_of line ∷ sayings long (lines rest)
plain_line long text line rest is last =
    ap (sayings long) is
    ∙ ap (λ b. (if long && b then Broken BadRecord else said_of line) ∷ sayings long (lines rest)) (no_lines rest)
    ∙ ap (λ b. (if b then Broken BadRecord else said_of line) ∷ sayings long (lines rest)) last

-- the last line of a text that is too long
pub last_line : (t : Target) (before : List Said) (long : Bool) (text line rest : List ℕ) (v : Result Image HexFault) (count : ℕ)
    → verdict t before (sayings long (lines text)) ≡ v → lines text ≡ line ∷ lines rest → (long && (length rest == 0)) ≡ true → count ≡ length before
    → v ≡ Err (record { line = count + 1; cause = BadRecord })
last_line t before long text line rest v count is first last place =
    let said : sayings long (lines text) ≡ Broken BadRecord ∷ sayings long (lines rest) =
    ap (sayings long) first
    ∙ ap (λ b. (if long && b then Broken BadRecord else said_of line) ∷ sayings long (lines rest)) (no_lines rest)
    ∙ ap (λ b. (if b then Broken BadRecord else said_of line) ∷ sayings long (lines rest)) last in
    stops t before (Broken BadRecord) (sayings long (lines rest)) v count BadRecord (sym (ap (verdict t before) said) ∙ is) (broken t before) place

-- the text ends
pub at_end : (t : Target) (before : List Said) (long : Bool) (text : List ℕ) (v : Result Image HexFault) (bytes : List (Option ℕ))
    → verdict t before (sayings long (lines text)) ≡ v → text ≡ [] → is_ended before ≡ true → ((a : ℕ) → held bytes a ≡ given before a)
    → v ≡ Ok (image_of t (held bytes))
at_end t before long text v bytes is none ended same =
    let all : held bytes ≡ given before = λ i a. same a i in
    sym is
    ∙ ap (λ x. verdict t before (sayings long (lines x))) none
    ∙ ap (λ b. if b then Ok (image_of t (given before)) else Err (record { line = length before + 1; cause = NoEnd })) ended
    ∙ ap (λ f. Ok (image_of t f)) (sym all)

-- the text ends without an end record
pub no_end : (t : Target) (before : List Said) (long : Bool) (text : List ℕ) (v : Result Image HexFault) (count : ℕ)
    → verdict t before (sayings long (lines text)) ≡ v → text ≡ [] → is_ended before ≡ false → count ≡ length before
    → v ≡ Err (record { line = count + 1; cause = NoEnd })
no_end t before long text v count is none ended place =
    sym is
    ∙ ap (λ x. verdict t before (sayings long (lines x))) none
    ∙ ap (λ b. if b then Ok (image_of t (given before)) else Err (record { line = length before + 1; cause = NoEnd })) ended
    ∙ ap (λ n. Err (record { line = n + 1; cause = NoEnd })) (sym place)
