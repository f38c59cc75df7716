-- Lines that are too long for a record.
use Rattle.std.proofs.Common.{◌≡◌, ◌≢◌, ℕ, ◌+◌, ◌<◌, ◌==◌, true, false, List, [], ◌∷◌, length, take, if◌then◌else◌, Result, Ok, Err, None, refl, ap, arith}
use Rattle.std.proofs.lemmas.Bool.Decides.{nat_tests}
use Rattle.hex.specs.Hex.{IsBytes, decode_of}
use Rattle.hex.specs.declared.error.FromHexError.{FromHexError}
use Rattle.hex.proofs.HexLemmas.{decode_of-ok}
use Rattle.intel_hex.specs.declared.fault.HexCause.TheVariants.{BadRecord}
use Rattle.intel_hex.specs.declared.said.Said.TheVariants.{Broken}
use Rattle.intel_hex.specs.Said.{half, kind_said, unsummed, decoded, marked}

long_rest : (count rest : ℕ) → 260 < rest + 4 → count < 256 → (rest == count + 1) ≡ false
long_rest count rest h small = grind (arith, nat_tests)

long_bytes : (bytes : List ℕ) → 260 < length bytes → IsBytes bytes → unsummed bytes ≡ None
long_bytes [] h small = refl
long_bytes (a ∷ []) h small = refl
long_bytes (a ∷ b ∷ []) h small = refl
long_bytes (a ∷ b ∷ c ∷ []) h small = refl
long_bytes (a ∷ b ∷ c ∷ d ∷ rest) h small =
    ap (λ same. if same then kind_said d (half b c) (take a rest) else None) (long_rest a (length rest) (omega arith) (small 0))

-- more digits than a record can have
pub long_digits : (digits : List ℕ) → 520 < length digits → decoded (decode_of digits) ≡ Broken BadRecord
long_digits digits h = by (decode_of digits) refl
  where
    by : (r : Result (List ℕ) FromHexError) → decode_of digits ≡ r → decoded r ≡ Broken BadRecord
    by (Err e) is = refl
    by (Ok bytes) is =
        let ok = decode_of-ok digits bytes is in
        let size = ok.2 in
        rw (long_bytes bytes (omega arith) ok.3) refl

-- what has no colon in front
pub no_mark : (line : List ℕ) (mark : ℕ) (digits : List ℕ) → line ≡ mark ∷ digits → mark ≢ 58 → marked line ≡ Broken BadRecord
no_mark line mark digits is differs =
    let test : (mark == 58) ≡ false = grind (arith, nat_tests) in
    rw (is, test) refl

-- what has more digits than a record can have
pub long_line : (line : List ℕ) (mark : ℕ) (digits : List ℕ) → line ≡ mark ∷ digits → mark ≡ 58 → 520 < length digits → marked line ≡ Broken BadRecord
long_line line mark digits is same h =
    let test : (mark == 58) ≡ true = grind (arith, nat_tests) in
    rw (is, test) (long_digits digits h)
