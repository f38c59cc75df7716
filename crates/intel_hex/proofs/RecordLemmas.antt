-- The line of a record says what was written.
use Rattle.std.proofs.Common.{◌≡◌, ◌≢◌, ℕ, zero, suc, ◌+◌, ◌-◌, ◌/◌, ◌%◌, ◌<◌, ◌==◌, true, false, if◌then◌else◌, List, [], ◌∷◌, ◌++◌, length, take, reverse, sum, slice_index, Some, None, refl, sym, ap, ◌∙◌, arith, All, append_assoc, length-append}
use Rattle.std.proofs.lemmas.Bool.Decides.{nat_tests}
use Rattle.std.proofs.lemmas.List.{reverse-append, reverse-reverse}
use Rattle.std.proofs.lemmas.List.Elements.{All-cons, All-nil}
use Rattle.std.proofs.lemmas.List.Sums.{sum_by_push}
use Rattle.std.proofs.Math.Seq.{take-append_seam}
use Rattle.hex.specs.Hex.{IsBytes, encode_upper, encode_with, upper_digits, hex_digit_value}
use Rattle.hex.proofs.HexLemmas.{IsDigits-upper_digits, decode_of-encode_upper}
use Rattle.texts.specs.Lines.{lines, behind_return, without_return, IsLine}
use Rattle.texts.proofs.LineLemmas.{lines-line}
use Rattle.intel_hex.specs.declared.fault.HexCause.TheVariants.{BadSum}
use Rattle.intel_hex.specs.declared.said.Said.{Said}
use Rattle.intel_hex.specs.declared.said.Said.TheVariants.{Broken}
use Rattle.intel_hex.specs.Record.{bytes_of, closing, line_of}
use Rattle.intel_hex.specs.Said.{half, kind_said, unsummed, summed, said_by, decoded, marked, said_of}

-- a digit is no such byte
digit_other : (d c : ℕ) → d < 16 → hex_digit_value c ≡ None → slice_index upper_digits d ≢ c
digit_other d c h none e =
    let digit = IsDigits-upper_digits d h in let same : hex_digit_value (slice_index upper_digits d) ≡ hex_digit_value c = ap hex_digit_value e in absurd cc

-- nor is one of an encoding
encoding_other : (c : ℕ) (xs : List ℕ) → hex_digit_value c ≡ None → IsBytes xs → All (λ x. x ≢ c) (encode_upper xs)
unfolding encode_with
encoding_other c [] none fits = All-nil (λ x. x ≢ c)
encoding_other c (b ∷ rest) none fits =
    let byte : b < 256 = fits 0 in
    All-cons (λ x. x ≢ c) (slice_index upper_digits (b / 16)) (slice_index upper_digits (b % 16) ∷ encode_upper rest)
    (digit_other (b / 16) c (omega arith) none)
    (All-cons (λ x. x ≢ c) (slice_index upper_digits (b % 16)) (encode_upper rest) (digit_other (b % 16) c (omega arith) none)
    (encoding_other c rest none (λ k. fits (suc k))))

-- the last byte of an encoding is a digit
encoding_last : (c : ℕ) (xs : List ℕ) →
    encode_upper (xs ++ c ∷ []) ≡ (encode_upper xs ++ slice_index upper_digits (c / 16) ∷ []) ++ slice_index upper_digits (c % 16) ∷ []
unfolding encode_with
encoding_last c [] = refl
encoding_last c (b ∷ rest) = ap (λ l. slice_index upper_digits (b / 16) ∷ slice_index upper_digits (b % 16) ∷ l) (encoding_last c rest)

-- a line that ends with another byte is kept whole
kept : (front : List ℕ) (last : ℕ) → last ≢ 13 → without_return (front ++ last ∷ []) ≡ front ++ last ∷ []
kept front last other =
    let turned : reverse (front ++ last ∷ []) ≡ last ∷ reverse front = reverse-append front (last ∷ []) in
    let test : (last == 13) ≡ false = grind (arith, nat_tests) in
    ap (λ l. reverse (behind_return l)) turned
    ∙ ap (λ b. reverse (if b then reverse front else last ∷ reverse front)) test
    ∙ ap reverse (sym turned)
    ∙ reverse-reverse (front ++ last ∷ [])

-- what a line without its line feed is
abbrev pub record_line : ℕ → ℕ → List ℕ → List ℕ
record_line kind address bytes = 58 ∷ encode_upper (bytes_of kind address bytes ++ closing (bytes_of kind address bytes) ∷ [])

closes : (s : ℕ) → (s + (256 - s % 256) % 256) % 256 ≡ 0
closes s = omega arith

sum_closed : (xs : List ℕ) (c : ℕ) → sum (xs ++ c ∷ []) ≡ sum xs + c
sum_closed xs c = sum_by_push (λ x. x) xs c

add_up : (xs : List ℕ) → sum (xs ++ closing xs ∷ []) % 256 ≡ 0
add_up xs = ap (λ s. s % 256) (sum_closed xs (closing xs)) ∙ closes (sum xs)

length_closed : (xs : List ℕ) (c : ℕ) → (length (xs ++ c ∷ []) == length xs + 1) ≡ true
length_closed xs c = let size = length-append xs (c ∷ []) in grind (arith, nat_tests, size)

fits_closed : (xs : List ℕ) (c : ℕ) → c < 256 → IsBytes xs → IsBytes (xs ++ c ∷ [])
fits_closed [] c h fits zero = h
fits_closed [] c h fits (suc i) = omega arith
fits_closed (x ∷ xs) c h fits zero = fits 0
fits_closed (x ∷ xs) c h fits (suc i) = fits_closed xs c h (λ k. fits (suc k)) i

pub fits_cons : (x : ℕ) (xs : List ℕ) → x < 256 → IsBytes xs → IsBytes (x ∷ xs)
fits_cons x xs h fits zero = h
fits_cons x xs h fits (suc i) = fits i

fits_record : (kind address : ℕ) (bytes : List ℕ) → kind < 256 → address < 65536 → length bytes < 256 → IsBytes bytes
    → IsBytes (bytes_of kind address bytes ++ closing (bytes_of kind address bytes) ∷ [])
fits_record kind address bytes k a few fits =
    fits_closed (bytes_of kind address bytes) (closing (bytes_of kind address bytes)) (omega arith)
    (fits_cons (length bytes) (address / 256 ∷ address % 256 ∷ kind ∷ bytes) few
    (fits_cons (address / 256) (address % 256 ∷ kind ∷ bytes) (omega arith)
    (fits_cons (address % 256) (kind ∷ bytes) (omega arith) (fits_cons kind bytes k fits))))

-- what the bytes of the record say
bytes_said : (kind address : ℕ) (bytes : List ℕ) (said : Said) → kind_said kind address bytes ≡ Some said
    → said_by (bytes_of kind address bytes ++ closing (bytes_of kind address bytes) ∷ []) ≡ said
bytes_said kind address bytes said is =
    let c = closing (bytes_of kind address bytes) in
    let whole : half (address / 256) (address % 256) ≡ address = omega arith in
    let form : unsummed (bytes_of kind address bytes ++ c ∷ []) ≡ Some said =
    ap (λ b. if b then kind_said kind (half (address / 256) (address % 256)) (take (length bytes) (bytes ++ c ∷ [])) else None) (length_closed bytes c)
    ∙ ap (λ l. kind_said kind (half (address / 256) (address % 256)) l) (take-append_seam bytes (c ∷ []))
    ∙ ap (λ a. kind_said kind a bytes) whole
    ∙ is in
    let sums : (sum (bytes_of kind address bytes ++ c ∷ []) % 256 == 0) ≡ true = ap (λ s. s == 0) (add_up (bytes_of kind address bytes)) in
    ap (λ f. summed f (sum (bytes_of kind address bytes ++ c ∷ []) % 256 == 0)) form
    ∙ ap (λ b. if b then said else Broken BadSum) sums

-- what the record's line says
line_said : (kind address : ℕ) (bytes : List ℕ) (said : Said) → kind < 256 → address < 65536 → length bytes < 256 → IsBytes bytes
    → kind_said kind address bytes ≡ Some said → said_of (record_line kind address bytes) ≡ said
line_said kind address bytes said k a few fits is =
    let front = bytes_of kind address bytes in
    let c = closing front in
    let last = slice_index upper_digits (c % 16) in
    let snoc : record_line kind address bytes ≡ (58 ∷ encode_upper front ++ slice_index upper_digits (c / 16) ∷ []) ++ last ∷ [] =
    ap (λ l. 58 ∷ l) (encoding_last c front) in
    let same : without_return (record_line kind address bytes) ≡ record_line kind address bytes =
    ap without_return snoc ∙ kept (58 ∷ encode_upper front ++ slice_index upper_digits (c / 16) ∷ []) last (digit_other (c % 16) 13 (omega arith) refl) ∙ sym
    snoc in
    ap marked same
    ∙ ap decoded (decode_of-encode_upper (front ++ c ∷ []) (fits_record kind address bytes k a few fits))
    ∙ bytes_said kind address bytes said is

-- the lines of a text that a record begins
pub record_lines : (kind address : ℕ) (bytes rest : List ℕ) → kind < 256 → address < 65536 → length bytes < 256 → IsBytes bytes
    → lines (line_of kind address bytes ++ rest) ≡ record_line kind address bytes ∷ lines rest
record_lines kind address bytes rest k a few fits =
    let clean : IsLine (record_line kind address bytes) =
    All-cons (λ x. x ≢ 10) 58 _ (λ e. omega arith) (encoding_other 10 _ refl (fits_record kind address bytes k a few fits)) in
    ap lines (append_assoc (record_line kind address bytes) (10 ∷ []) rest)
    ∙ lines-line (record_line kind address bytes) rest clean

pub record_said : (kind address : ℕ) (bytes : List ℕ) (said : Said) → kind < 256 → address < 65536 → length bytes < 256 → IsBytes bytes
    → kind_said kind address bytes ≡ Some said → said_of (record_line kind address bytes) ≡ said
record_said = line_said
