-- The text of an image is read as the image.
use Rattle.std.proofs.Common.{◌≡◌, ℕ, zero, suc, ◌+◌, ◌-◌, ◌*◌, ◌/◌, ◌%◌, ◌<◌, ◌≤◌, nat_le, Bool, true, false, if◌then◌else◌, List, [], ◌∷◌, ◌++◌, length, take, map, get_or, Option, Some, None, is_some, unwrap_or, Ok, refl, sym, ap, ◌∙◌, arith, All, slice_get, drop, append-nil, length-append, length-take}
use Rattle.std.proofs.lemmas.Bool.Decides.{nat_tests}
use Rattle.std.proofs.lemmas.List.FromFn.{fill_by_all}
use Rattle.std.proofs.lemmas.Option.{slice_get_past, slice_get-get_or}
use Rattle.std.specs.List.{range_with_len}
use Rattle.chip_tables.specs.declared.target.Target.{Target}
use Rattle.chip_tables.specs.declared.target.Target.TheVariants.{F628, F877, Mega16, Interp, AnsiC}
use Rattle.hex.specs.Hex.{encode_upper, upper_digits}
use Rattle.hex.proofs.HexLemmas.{length-encode_with}
use Rattle.texts.specs.Lines.{lines}
use Rattle.intel_hex.specs.declared.image.Image.{Image}
use Rattle.intel_hex.specs.declared.said.Said.{Said}
use Rattle.intel_hex.specs.declared.said.Said.TheVariants.{Data, Upper, End}
use Rattle.intel_hex.specs.Areas.{is_pic, is_in_area, flash_of}
use Rattle.intel_hex.specs.Given.{is_ended, start, byte_of, or_else, given, fault_of}
use Rattle.intel_hex.specs.Image.{IsImage, IsConfig, word_limit}
use Rattle.intel_hex.specs.Kept.{erased, word_of, word_at, word_count, config_of, image_of}
use Rattle.intel_hex.specs.Record.{bytes_of, closing, line_of}
use Rattle.intel_hex.specs.Text.{word_bytes, data_lines, record_count, upper_line, config_line, hex_text}
use Rattle.intel_hex.specs.Verdict.{verdict, sayings, hex_verdict}
use Rattle.texts.specs.Limits.{judged, is_over}
use Rattle.texts.specs.declared.limits.TheConstants.{FILE_BYTES}
use Rattle.texts.proofs.LimitLemmas.{judged_all}
use Rattle.intel_hex.proofs.RecordLemmas.{fits_cons}
use Rattle.intel_hex.proofs.FilledLemmas.{Filled, one_read, data_read, data_passes, flash_small}
use Rattle.intel_hex.proofs.TextLemmas.{length-word_bytes}

-- ---- what the bytes of words make

-- the two bytes of a word
get_words : (ws : List ℕ) (k : ℕ) → k < length ws
    → (slice_get (word_bytes ws) (2 * k) ≡ Some (get_or ws k 0 % 256)) × (slice_get (word_bytes ws) (2 * k + 1) ≡ Some (get_or ws k 0 / 256))
get_words [] k h = absurd (omega arith)
get_words (w ∷ ws) zero h = (refl, refl)
get_words (w ∷ ws) (suc k) h =
    let low : 2 * suc k ≡ suc (suc (2 * k)) = omega arith in
    let high : 2 * suc k + 1 ≡ suc (suc (2 * k + 1)) = omega arith in
    let rest = get_words ws k (omega arith) in
    (ap (slice_get (word_bytes (w ∷ ws))) low ∙ rest.0, ap (slice_get (word_bytes (w ∷ ws))) high ∙ rest.1)

whole_word : (pic : Bool) (w : ℕ) → w < word_limit pic → word_of pic (w % 256) (w / 256) ≡ w
whole_word true w h = omega arith
whole_word false w h = omega arith

word_back : (pic : Bool) (byte : ℕ → Option ℕ) (place w : ℕ) → w < word_limit pic → byte (2 * place) ≡ Some (w % 256) → byte (2 * place + 1) ≡ Some (w / 256)
    → word_at pic byte place ≡ w
word_back pic byte place w fits low high =
    ap (λ b. word_of pic (unwrap_or b (erased pic % 256)) (unwrap_or (byte (2 * place + 1)) (erased pic / 256))) low
    ∙ ap (λ b. word_of pic (w % 256) (unwrap_or b (erased pic / 256))) high
    ∙ whole_word pic w fits

-- the last byte that is given counts
count_last : (byte : ℕ → Option ℕ) (n : ℕ) → ((a : ℕ) → a < 2 * n → is_some (byte a) ≡ true) → word_count byte (2 * n) ≡ n
unfolding word_count
count_last byte zero some = refl
count_last byte (suc n) some =
    let more : 2 * suc n ≡ suc (2 * n + 1) = omega arith in
    let place : (2 * n + 1) / 2 + 1 ≡ suc n = omega arith in
    ap (word_count byte) more
    ∙ ap (λ b. if b then (2 * n + 1) / 2 + 1 else word_count byte (2 * n + 1)) (some (2 * n + 1) (omega arith))
    ∙ place

-- those behind it do not
count_past : (byte : ℕ → Option ℕ) (end more : ℕ) → ((a : ℕ) → end ≤ a → a < end + more → byte a ≡ None) → word_count byte (end + more) ≡ word_count byte end
unfolding word_count
count_past byte end zero none = let same : end + 0 ≡ end = omega arith in ap (word_count byte) same
count_past byte end (suc more) none =
    let next : end + suc more ≡ suc (end + more) = omega arith in
    ap (word_count byte) next
    ∙ ap (λ b. if is_some b then (end + more) / 2 + 1 else word_count byte (end + more)) (none (end + more) (omega arith) (omega arith))
    ∙ count_past byte end more (λ a h l. none a h (omega arith))

-- the image of bytes that are those of the words, and of the configuration word
image_back : (image : Image) (byte : ℕ → Option ℕ) → IsImage image
    → ((a : ℕ) → a < 16384 → byte a ≡ slice_get (word_bytes image.words) a)
    → config_of (is_pic image.target) byte ≡ image.config
    → image_of image.target byte ≡ image
image_back image byte fits same config =
    let pic = is_pic image.target in
    let n = length image.words in
    let flash = flash_of image.target in
    let small = flash_small image.target in
    let room = fits.room in
    let size = length-word_bytes image.words in
    let split : 2 * flash ≡ 2 * n + (2 * flash - 2 * n) = omega arith in
    let some : (a : ℕ) → a < 2 * n → is_some (byte a) ≡ true =
    λ a h. ap is_some (same a (omega arith) ∙ slice_get-get_or (word_bytes image.words) a 0 (omega arith)) in
    let count : word_count byte (2 * flash) ≡ n =
    ap (word_count byte) split
    ∙ count_past byte (2 * n) (2 * flash - 2 * n) (λ a h l. same a (omega arith) ∙ slice_get_past (word_bytes image.words) a (omega arith))
    ∙ count_last byte n some in
    let words : image.words ≡ map (word_at pic byte) (range_with_len 0 n) =
    fill_by_all (word_at pic byte) image.words n 0 refl
    (λ k h.
    let back = get_words image.words k h in
    sym (word_back pic byte k (get_or image.words k 0) (fits.words k 0 h) (same (2 * k) (omega arith) ∙ back.0) (same (2 * k + 1) (omega arith) ∙ back.1))) in
    let all : map (word_at pic byte) (range_with_len 0 (word_count byte (2 * flash))) ≡ image.words =
    ap (λ k. map (word_at pic byte) (range_with_len 0 k)) count ∙ sym words in
    λ i. record { target = image.target; words = all i; config = config i }

-- ---- the other records

start_filled : Filled [] []
start_filled = record { upper = refl; unended = refl; given = λ a. refl }

upper_filled : Filled (Upper 0 ∷ []) []
upper_filled = record { upper = refl; unended = refl; given = λ a. refl }

upper_read : (t : Target) (pic : Bool)
    → (later : List Said) × Filled later []
    × ((rest : List ℕ) → verdict t [] (sayings false (lines (upper_line pic ++ rest))) ≡ verdict t later (sayings false (lines rest)))
upper_read t false = ([], start_filled, λ rest. refl)
upper_read t true = (
  Upper 0 ∷ [],
  upper_filled,
  λ rest. one_read t [] 4 0 (0 ∷ 0 ∷ []) rest (Upper 0) (omega arith) (omega arith) (omega arith)
      (fits_cons 0 (0 ∷ []) (omega arith) (fits_cons 0 [] (omega arith) (λ k. omega arith))) refl refl,
)

-- bytes from address 0 on, and those of the configuration word
with_config : Option ℕ → List ℕ → ℕ → Option ℕ
with_config None bytes a = slice_get bytes a
with_config (Some w) bytes a = or_else (byte_of 0x400e (w % 256 ∷ w / 256 ∷ []) a) (slice_get bytes a)

config_low : (config : Option ℕ) (bytes : List ℕ) (a : ℕ) → a < 16384 → with_config config bytes a ≡ slice_get bytes a
unfolding with_config
config_low None bytes a h = refl
config_low (Some w) bytes a h =
    let test : nat_le 0x400e a ≡ false = grind (arith, nat_tests) in
    ap (λ b. or_else (if b then slice_get (w % 256 ∷ w / 256 ∷ []) (a - 0x400e) else None) (slice_get bytes a)) test

config_back : (pic : Bool) (config : Option ℕ) (bytes : List ℕ) → IsConfig pic config → length bytes ≤ 16384 → config_of pic (with_config config bytes) ≡ config
unfolding with_config
config_back true None bytes fits room =
    let low = slice_get_past bytes 16398 (omega arith) in
    let high = slice_get_past bytes 16399 (omega arith) in
    rw (low, high) refl
config_back true (Some w) bytes fits room = ap Some (word_back true (with_config (Some w) bytes) 0x2007 w fits.1 refl refl)
config_back false None bytes fits room = refl
config_back false (Some w) bytes fits room = absurd cc

in_config : (t : Target) (a : ℕ) → is_pic t ≡ true → 16398 ≤ a → a < 16400 → is_in_area t a ≡ true
in_config F628 a pic low high = grind (arith, nat_tests)
in_config F877 a pic low high = grind (arith, nat_tests)
in_config Mega16 a pic low high = absurd cc
in_config Interp a pic low high = absurd cc
in_config AnsiC a pic low high = absurd cc

config_read : (t : Target) (pic : Bool) (config : Option ℕ) (before : List Said) (bytes : List ℕ) → is_pic t ≡ pic → IsConfig pic config →
    Filled before bytes → length bytes ≤ 16384
    → (later : List Said) × (is_ended later ≡ false) × ((a : ℕ) → given later a ≡ with_config config bytes a)
    × ((rest : List ℕ) → verdict t before (sayings false (lines (config_line pic config ++ rest))) ≡ verdict t later (sayings false (lines rest)))
unfolding with_config
config_read t false None before bytes is fits f room = (before, f.unended, f.given, λ rest. refl)
config_read t false (Some w) before bytes is fits f room = absurd cc
config_read t true None before bytes is fits f room = (before, f.unended, f.given, λ rest. refl)
config_read t true (Some w) before bytes is fits f room =
    let none = f.upper in
    let first : start before 0x400e ≡ 0x400e = omega arith in
    let small = fits.1 in
    let passes : fault_of t before (Data 0x400e (w % 256 ∷ w / 256 ∷ [])) ≡ None =
    data_passes t before 0x400e (w % 256 ∷ w / 256 ∷ []) f.upper f.unended (λ k h. in_config t (0x400e + k) is (omega arith) (omega arith))
    (λ k h. f.given (0x400e + k) ∙ slice_get_past bytes (0x400e + k) (omega arith)) in (
      Data 0x400e (w % 256 ∷ w / 256 ∷ []) ∷ before,
      f.unended,
      λ a.
          ap (λ s. or_else (byte_of s (w % 256 ∷ w / 256 ∷ []) a) (given before a)) first
          ∙ ap (or_else (byte_of 0x400e (w % 256 ∷ w / 256 ∷ []) a)) (f.given a),
      λ rest.
          one_read t before 0 0x400e (w % 256 ∷ w / 256 ∷ []) rest (Data 0x400e (w % 256 ∷ w / 256 ∷ [])) (omega arith) (omega arith) (omega arith)
          (fits_cons (w % 256) (w / 256 ∷ []) (omega arith) (fits_cons (w / 256) [] (omega arith) (λ k. omega arith))) refl passes,
    )

end_read : (t : Target) (before : List Said) → is_ended before ≡ false →
    verdict t before (sayings false (lines (line_of 1 0 []))) ≡ Ok (image_of t (given before))
end_read t before unended =
    ap (λ l. verdict t before (sayings false (lines l))) (sym (append-nil (line_of 1 0 [])))
    ∙ one_read t before 1 0 [] [] End (omega arith) (omega arith) (omega arith) (λ k. omega arith) refl (rw unended refl)

-- ---- the length of the text

line_length : (kind address : ℕ) (bytes : List ℕ) → length (line_of kind address bytes) ≡ 2 * length bytes + 12
line_length kind address bytes =
    let front = bytes_of kind address bytes in
    let whole = length-append (encode_upper (front ++ closing front ∷ [])) (10 ∷ []) in
    let digits = length-encode_with upper_digits (front ++ closing front ∷ []) in
    let closed = length-append front (closing front ∷ []) in
    omega arith

data_length : (n address : ℕ) (ws : List ℕ) → length (data_lines n address ws) ≤ 48 * n
data_length zero address ws = omega arith
data_length (suc n) address ws =
    let line = line_length 0 address (word_bytes (take 8 ws)) in
    let bytes = length-word_bytes (take 8 ws) in
    let few = length-take 8 ws in
    let both = length-append (line_of 0 address (word_bytes (take 8 ws))) (data_lines n (address + 16) (drop 8 ws)) in
    let rest = data_length n (address + 16) (drop 8 ws) in
    omega arith

upper_length : (pic : Bool) → length (upper_line pic) ≤ 16
upper_length true = let line = line_length 4 0 (0 ∷ 0 ∷ []) in omega arith
upper_length false = omega arith

config_length : (pic : Bool) (config : Option ℕ) → length (config_line pic config) ≤ 16
config_length true (Some w) = let line = line_length 0 0x400e (w % 256 ∷ w / 256 ∷ []) in omega arith
config_length true None = omega arith
config_length false config = omega arith

text_length : (image : Image) → IsImage image → length (hex_text image) ≤ FILE_BYTES
text_length image fits =
    let pic = is_pic image.target in
    let room = fits.room in
    let small = flash_small image.target in
    let upper = upper_length pic in
    let count = record_count (length image.words) in
    let words = data_length count 0 image.words in
    let config = config_length pic image.config in
    let end = line_length 1 0 [] in
    let all = length-append (upper_line pic) (data_lines count 0 image.words ++ (config_line pic image.config ++ line_of 1 0 [])) in
    let rest = length-append (data_lines count 0 image.words) (config_line pic image.config ++ line_of 1 0 []) in
    let last = length-append (config_line pic image.config) (line_of 1 0 []) in
    omega arith

-- ---- the whole text

fit_16 : (pic : Bool) (ws : List ℕ) → All (λ w. w < word_limit pic) ws → All (λ w. w < 65536) ws
fit_16 true ws h = λ k d l. let word = h k d l in omega arith
fit_16 false ws h = h

lines_read : (image : Image) → IsImage image → verdict image.target [] (sayings false (lines (hex_text image))) ≡ Ok image
lines_read image fits =
    let t = image.target in
    let pic = is_pic image.target in
    let room = fits.room in
    let small = flash_small image.target in
    let count = record_count (length image.words) in
    let size = length-word_bytes image.words in
    let first = upper_read t pic in
    let second = data_read t count 0 image.words first.0 [] first.1 refl (λ some. refl) (fit_16 pic image.words fits.words) (omega arith) in
    let third = config_read t pic image.config second.0 (word_bytes image.words) refl fits.config second.1 (omega arith) in
    let same : given third.0 ≡ with_config image.config (word_bytes image.words) = λ i a. third.2 a i in
    first.2 (data_lines count 0 image.words ++ (config_line pic image.config ++ line_of 1 0 []))
    ∙ second.2 (config_line pic image.config ++ line_of 1 0 [])
    ∙ third.3 (line_of 1 0 [])
    ∙ end_read t third.0 third.1
    ∙ ap (λ byte. Ok (image_of t byte)) same
    ∙ ap Ok (image_back image (with_config image.config (word_bytes image.words)) fits (config_low image.config (word_bytes image.words))
    (config_back pic image.config (word_bytes image.words) fits.config (omega arith)))

pub reads_back : (image : Image) → IsImage image → hex_verdict image.target (hex_text image) ≡ Ok image
reads_back image fits =
    let size = text_length image fits in
    let short : is_over FILE_BYTES (hex_text image) ≡ false = grind (arith, nat_tests) in
    let whole = judged_all FILE_BYTES (hex_text image) (omega arith) in
    ap (λ b. verdict image.target [] (sayings b (lines (judged FILE_BYTES (hex_text image))))) short
    ∙ ap (λ l. verdict image.target [] (sayings false (lines l))) whole
    ∙ lines_read image fits
