-- An image that is read fits its chip.
use Rattle.std.proofs.Common.{◌≡◌, ℕ, zero, suc, ◌+◌, ◌-◌, ◌*◌, ◌/◌, ◌<◌, ◌≤◌, ◌==◌, ◌&&◌, ◌||◌, nat_le, Bool, true, false, if◌then◌else◌, List, [], ◌∷◌, length, take, get_or, slice_get, Option, Some, None, is_some, unwrap_or, Result, Ok, Err, refl, arith, subst}
use Rattle.std.specs.Prelude.{⊤}
use Rattle.std.proofs.lemmas.List.Elements.{All-map}
use Rattle.std.proofs.lemmas.List.FromFn.{length-map-range_with_len}
use Rattle.std.specs.List.{range_with_len}
use Rattle.chip_tables.specs.declared.target.Target.{Target}
use Rattle.hex.specs.Hex.{IsBytes, decode_of}
use Rattle.hex.specs.declared.error.FromHexError.{FromHexError}
use Rattle.hex.proofs.HexLemmas.{decode_of-ok}
use Rattle.texts.specs.Lines.{lines, without_return}
use Rattle.intel_hex.specs.declared.fault.HexCause.{HexCause}
use Rattle.intel_hex.specs.declared.fault.HexCause.TheVariants.{BadRecord, NoEnd}
use Rattle.intel_hex.specs.declared.fault.HexFault.{HexFault}
use Rattle.intel_hex.specs.declared.image.Image.{Image}
use Rattle.intel_hex.specs.declared.said.Said.{Said}
use Rattle.intel_hex.specs.declared.said.Said.TheVariants.{Nothing, Data, End, Upper, Broken}
use Rattle.intel_hex.specs.Areas.{is_pic, flash_of}
use Rattle.intel_hex.specs.Given.{is_ended, start, byte_of, or_else, given, fault_of}
use Rattle.intel_hex.specs.Image.{IsImage, IsConfig, word_limit}
use Rattle.intel_hex.specs.Kept.{word_at, word_count, config_place, config_of, image_of}
use Rattle.intel_hex.specs.Said.{half, end_said, upper_said, kind_said, unsummed, summed, decoded, marked, said_of}
use Rattle.intel_hex.specs.Verdict.{verdict, sayings, or_fault, hex_verdict}
use Rattle.texts.specs.Limits.{judged, is_over}
use Rattle.texts.specs.declared.limits.TheConstants.{FILE_BYTES}

-- ---- what lines say has bytes alone

SaidFits : Said → Type 0
SaidFits (Data low bytes) = IsBytes bytes
SaidFits other = ⊤

MaybeFits : Option Said → Type 0
MaybeFits (Some said) = SaidFits said
MaybeFits None = ⊤

end_fits : (bytes : List ℕ) → MaybeFits (end_said bytes)
unfolding MaybeFits SaidFits
end_fits [] = tt
end_fits (b ∷ bytes) = tt

upper_fits : (bytes : List ℕ) → MaybeFits (upper_said bytes)
unfolding MaybeFits SaidFits
upper_fits [] = tt
upper_fits (a ∷ []) = tt
upper_fits (a ∷ b ∷ []) = tt
upper_fits (a ∷ b ∷ c ∷ bytes) = tt

kind_fits : (kind address : ℕ) (bytes : List ℕ) → IsBytes bytes → MaybeFits (kind_said kind address bytes)
unfolding MaybeFits SaidFits
kind_fits kind address bytes fits = by (kind == 0) (kind == 1) (kind == 4)
  where
    by : (a b c : Bool) → MaybeFits (if a then Some (Data address bytes) else if b then end_said bytes else if c then upper_said bytes else None)
    by true b c = fits
    by false true c = end_fits bytes
    by false false true = upper_fits bytes
    by false false false = tt

take_fits : (n : ℕ) (xs : List ℕ) → IsBytes xs → IsBytes (take n xs)
take_fits zero xs fits k = omega arith
take_fits (suc n) [] fits k = omega arith
take_fits (suc n) (x ∷ xs) fits zero = fits 0
take_fits (suc n) (x ∷ xs) fits (suc k) = take_fits n xs (λ i. fits (suc i)) k

unsummed_fits : (bytes : List ℕ) → IsBytes bytes → MaybeFits (unsummed bytes)
unfolding MaybeFits
unsummed_fits [] fits = tt
unsummed_fits (a ∷ []) fits = tt
unsummed_fits (a ∷ b ∷ []) fits = tt
unsummed_fits (a ∷ b ∷ c ∷ []) fits = tt
unsummed_fits (a ∷ b ∷ c ∷ d ∷ rest) fits = by (length rest == a + 1)
  where
    by : (e : Bool) → MaybeFits (if e then kind_said d (half b c) (take a rest) else None)
    by true = kind_fits d (half b c) (take a rest) (take_fits a rest (λ k. fits (suc (suc (suc (suc k))))))
    by false = tt

summed_fits : (o : Option Said) (sums : Bool) → MaybeFits o → SaidFits (summed o sums)
unfolding MaybeFits SaidFits
summed_fits None sums fits = tt
summed_fits (Some said) true fits = fits
summed_fits (Some said) false fits = tt

decoded_fits : (digits : List ℕ) → SaidFits (decoded (decode_of digits))
unfolding SaidFits
decoded_fits digits = by (decode_of digits) refl
  where
    by : (r : Result (List ℕ) FromHexError) → decode_of digits ≡ r → SaidFits (decoded r)
    by (Err e) is = tt
    by (Ok bytes) is = let ok = decode_of-ok digits bytes is in summed_fits (unsummed bytes) _ (unsummed_fits bytes ok.3)

marked_fits : (line : List ℕ) → SaidFits (marked line)
unfolding SaidFits
marked_fits [] = tt
marked_fits (mark ∷ digits) = by (mark == 58)
  where
    by : (b : Bool) → SaidFits (if b then decoded (decode_of digits) else Broken BadRecord)
    by true = decoded_fits digits
    by false = tt

AllFit : List Said → Type 0
AllFit [] = ⊤
AllFit (said ∷ more) = SaidFits said × AllFit more

sayings_fit : (long : Bool) (ls : List (List ℕ)) → AllFit (sayings long ls)
unfolding AllFit SaidFits
sayings_fit long [] = tt
sayings_fit long (line ∷ more) = (by (long && (length more == 0)), sayings_fit long more)
  where
    by : (b : Bool) → SaidFits (if b then Broken BadRecord else said_of line)
    by true = tt
    by false = marked_fits (without_return line)

-- ---- what they give is bytes

AreSmall : (ℕ → Option ℕ) → Type 0
AreSmall byte = (a b : ℕ) → byte a ≡ Some b → b < 256

get_small : (bytes : List ℕ) (k b : ℕ) → IsBytes bytes → slice_get bytes k ≡ Some b → b < 256
get_small [] k b fits is = absurd cc
get_small (x ∷ xs) zero b fits is = let here = fits 0 in let same : x ≡ b = cc in omega arith
get_small (x ∷ xs) (suc k) b fits is = get_small xs k b (λ i. fits (suc i)) is

or_small : (o p : Option ℕ) (b : ℕ) → (o ≡ Some b → b < 256) → (p ≡ Some b → b < 256) → or_else o p ≡ Some b → b < 256
or_small (Some x) p b first second is = first is
or_small None p b first second is = second is

byte_small : (first : ℕ) (bytes : List ℕ) (a b : ℕ) → IsBytes bytes → byte_of first bytes a ≡ Some b → b < 256
byte_small first bytes a b fits is = by (nat_le first a) is
  where
    by : (t : Bool) → (if t then slice_get bytes (a - first) else None) ≡ Some b → b < 256
    by true e = get_small bytes (a - first) b fits e
    by false e = absurd cc

more_small : (said : Said) (before : List Said) → SaidFits said → AreSmall (given before) → AreSmall (given (said ∷ before))
unfolding AreSmall SaidFits
more_small Nothing before fits small = small
more_small (Data low bytes) before fits small =
    λ a b is. or_small (byte_of (start before low) bytes a) (given before a) b (byte_small (start before low) bytes a b fits) (small a b) is
more_small End before fits small = small
more_small (Upper bits) before fits small = small
more_small (Broken cause) before fits small = small

-- ---- the image that bytes make

unwrap_small : (o : Option ℕ) (d : ℕ) → ((b : ℕ) → o ≡ Some b → b < 256) → d < 256 → unwrap_or o d < 256
unwrap_small (Some b) d small h = small b refl
unwrap_small None d small h = h

word_small : (pic : Bool) (byte : ℕ → Option ℕ) → AreSmall byte → (place : ℕ) → word_at pic byte place < word_limit pic
unfolding AreSmall
word_small true byte small place = omega arith
word_small false byte small place =
    let low = unwrap_small (byte (2 * place)) 255 (small (2 * place)) (omega arith) in
    let high = unwrap_small (byte (2 * place + 1)) 255 (small (2 * place + 1)) (omega arith) in
    omega arith

count_few : (byte : ℕ → Option ℕ) (n : ℕ) → 2 * word_count byte n ≤ n + 1
unfolding word_count
count_few byte zero = omega arith
count_few byte (suc n) = let rest = count_few byte n in by (is_some (byte n)) rest
  where
    by : (b : Bool) → 2 * word_count byte n ≤ n + 1 → 2 * (if b then n / 2 + 1 else word_count byte n) ≤ suc n + 1
    by true rest = omega arith
    by false rest = omega arith

config_fits : (pic : Bool) (byte : ℕ → Option ℕ) → AreSmall byte → IsConfig pic (config_of pic byte)
config_fits false byte small = tt
config_fits true byte small = by (is_some (byte (2 * config_place)) || is_some (byte (2 * config_place + 1)))
  where
    by : (b : Bool) → IsConfig true (if b then Some (word_at true byte config_place) else None)
    by true = (refl, word_small true byte small config_place)
    by false = tt

made_fits : (t : Target) (byte : ℕ → Option ℕ) → AreSmall byte → IsImage (image_of t byte)
made_fits t byte small =
    let count = word_count byte (2 * flash_of t) in
    let few = count_few byte (2 * flash_of t) in
    let size = length-map-range_with_len (word_at (is_pic t) byte) 0 count in
    record {
      room = omega arith;
      words = All-map (λ w. w < word_limit (is_pic t)) (word_at (is_pic t) byte) (range_with_len 0 count) (λ k d h. word_small (is_pic t) byte small
          (get_or (range_with_len 0 count) k d));
      config = config_fits (is_pic t) byte small;
    }

-- ---- the verdict

Fits : Target → Result Image HexFault → Type 0
Fits t (Ok image) = (image.target ≡ t) × IsImage image
Fits t (Err fault) = ⊤

verdict_fits : (t : Target) (before says : List Said) → AreSmall (given before) → AllFit says → Fits t (verdict t before says)
unfolding Fits AllFit
verdict_fits t before [] small fits = by (is_ended before)
  where
    by : (b : Bool) → Fits t (if b then Ok (image_of t (given before)) else Err (record { line = length before + 1; cause = NoEnd }))
    by true = (refl, made_fits t (given before) small)
    by false = tt
verdict_fits t before (said ∷ more) small fits = by (fault_of t before said) (verdict_fits t (said ∷ before) more (more_small said before fits.0 small) fits.1)
  where
    by : (o : Option HexCause) → Fits t (verdict t (said ∷ before) more) → Fits t (or_fault (length before + 1) o (verdict t (said ∷ before) more))
    by (Some cause) rest = tt
    by None rest = rest

none_small : AreSmall (given [])
unfolding AreSmall
none_small = λ a b is. absurd cc

pub read_fits : (t : Target) (text : List ℕ) (image : Image) → hex_verdict t text ≡ Ok image → (image.target ≡ t) × IsImage image
unfolding Fits
read_fits t text image is =
    subst (Fits t) is (verdict_fits t [] (sayings (is_over FILE_BYTES text) (lines (judged FILE_BYTES text))) none_small
    (sayings_fit (is_over FILE_BYTES text) (lines (judged FILE_BYTES text))))
