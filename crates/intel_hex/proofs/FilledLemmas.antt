-- Lines that give the bytes from address 0 on.
use Rattle.std.proofs.Common.{◌≡◌, ℕ, zero, suc, ◌+◌, ◌-◌, ◌*◌, ◌/◌, ◌%◌, ◌<◌, ◌≤◌, nat_le, Bool, true, false, not, if◌then◌else◌, ◌||◌, List, [], ◌∷◌, ◌++◌, length, take, drop, min, Option, Some, None, is_some, refl, sym, ap, ◌∙◌, arith, All, append_assoc, append-nil, length-append, length-take, length-drop, slice_get}
use Rattle.std.proofs.lemmas.List.{take-append-drop}
use Rattle.std.proofs.lemmas.Bool.Decides.{nat_tests}
use Rattle.std.proofs.lemmas.Option.{slice_get_past}
use Rattle.std.proofs.lemmas.List.Elements.{All-head, All-tail, All-take, All-drop}
use Rattle.std.specs.List.{range_with_len, list_any}
use Rattle.chip_tables.specs.declared.memory.TheConstants.{FLASH_MOST}
use Rattle.chip_tables.specs.declared.target.Target.{Target}
use Rattle.chip_tables.specs.declared.target.Target.TheVariants.{F628, F877, Mega16, Interp, AnsiC}
use Rattle.hex.specs.Hex.{IsBytes}
use Rattle.texts.specs.Lines.{lines}
use Rattle.intel_hex.specs.declared.fault.HexCause.TheVariants.{Outside, Overlap}
use Rattle.intel_hex.specs.declared.said.Said.{Said}
use Rattle.intel_hex.specs.declared.said.Said.TheVariants.{Data}
use Rattle.intel_hex.specs.Areas.{is_program, is_in_area, flash_of}
use Rattle.intel_hex.specs.Given.{upper, is_ended, start, byte_of, or_else, given, fault_of, open_fault, end_fault}
use Rattle.intel_hex.specs.Record.{line_of}
use Rattle.intel_hex.specs.Said.{kind_said}
use Rattle.intel_hex.specs.Text.{word_bytes, data_lines}
use Rattle.intel_hex.specs.Verdict.{verdict, sayings, or_fault}
use Rattle.intel_hex.proofs.RecordLemmas.{record_lines, record_said, fits_cons}
use Rattle.intel_hex.proofs.TextLemmas.{length-word_bytes}

-- ---- the byte at a place

pub get_front : (xs ys : List ℕ) (k : ℕ) → k < length xs → slice_get (xs ++ ys) k ≡ slice_get xs k
get_front [] ys k h = absurd (omega arith)
get_front (x ∷ xs) ys zero h = refl
get_front (x ∷ xs) ys (suc k) h = get_front xs ys k (omega arith)

get_behind : (xs ys : List ℕ) (k : ℕ) → length xs ≤ k → slice_get (xs ++ ys) k ≡ slice_get ys (k - length xs)
get_behind [] ys k h = let same : k - 0 ≡ k = omega arith in rw same refl
get_behind (x ∷ xs) ys zero h = absurd (omega arith)
get_behind (x ∷ xs) ys (suc k) h =
    let same : suc k - suc (length xs) ≡ k - length xs = omega arith in
    get_behind xs ys k (omega arith) ∙ ap (slice_get ys) (sym same)

pub or_none : (o : Option ℕ) → or_else o None ≡ o
or_none (Some b) = refl
or_none None = refl

-- bytes behind those that were given
joined_bytes : (bytes more : List ℕ) (a : ℕ) → or_else (byte_of (length bytes) more a) (slice_get bytes a) ≡ slice_get (bytes ++ more) a
joined_bytes bytes more a = by (nat_le (length bytes) a) refl
  where
    by : (b : Bool) → nat_le (length bytes) a ≡ b
        → or_else (if b then slice_get more (a - length bytes) else None) (slice_get bytes a) ≡ slice_get (bytes ++ more) a
    by true test =
        let past : length bytes ≤ a = grind (arith, nat_tests) in
        ap (or_else (slice_get more (a - length bytes))) (slice_get_past bytes a past)
        ∙ or_none (slice_get more (a - length bytes))
        ∙ sym (get_behind bytes more a past)
    by false test = let front : a < length bytes = grind (arith, nat_tests) in sym (get_front bytes more a front)

-- ---- data without a fault

any_fails : (p : ℕ → Bool) (first n : ℕ) → ((k : ℕ) → k < n → p (first + k) ≡ false) → list_any p (range_with_len first n) ≡ false
any_fails p first zero fails = refl
any_fails p first (suc n) fails =
    let here : first + 0 ≡ first = omega arith in
    ap (λ b. b || list_any p (range_with_len (first + 1) n)) (sym (ap p here) ∙ fails 0 (omega arith))
    ∙ any_fails p (first + 1) n (λ k h. let next : first + suc k ≡ first + 1 + k = omega arith in sym (ap p next) ∙ fails (suc k) (omega arith))

pub data_passes : (t : Target) (before : List Said) (low : ℕ) (bytes : List ℕ) → upper before ≡ 0 → is_ended before ≡ false
    → ((k : ℕ) → k < length bytes → is_in_area t (low + k) ≡ true)
    → ((k : ℕ) → k < length bytes → given before (low + k) ≡ None)
    → fault_of t before (Data low bytes) ≡ None
data_passes t before low bytes none unended inside new =
    let first : start before low ≡ low = omega arith in
    let within : list_any (λ a. not (is_in_area t a)) (range_with_len low (length bytes)) ≡ false =
    any_fails (λ a. not (is_in_area t a)) low (length bytes) (λ k h. ap not (inside k h)) in
    let fresh : list_any (λ a. is_some (given before a)) (range_with_len low (length bytes)) ≡ false =
    any_fails (λ a. is_some (given before a)) low (length bytes) (λ k h. ap is_some (new k h)) in
    ap (λ b. if b then end_fault (Data low bytes) else open_fault t before (Data low bytes)) unended
    ∙ ap (λ s. if list_any (λ a. not (is_in_area t a)) (range_with_len s (length bytes)) then Some Outside else if list_any (λ a. is_some (given before a))
    (range_with_len s (length bytes)) then Some Overlap else None) first
    ∙ ap (λ b. if b then Some Outside else if list_any (λ a. is_some (given before a)) (range_with_len low (length bytes)) then Some Overlap else None) within
    ∙ ap (λ b. if b then Some Overlap else None) fresh

-- ---- program bytes from address 0 on

pub record Filled (before : List Said) (bytes : List ℕ) : Type 0 where
  pub upper : upper before ≡ 0
  pub unended : is_ended before ≡ false
  pub given : (a : ℕ) → given before a ≡ slice_get bytes a

pub flash_small : (t : Target) → flash_of t ≤ FLASH_MOST
flash_small F628 = omega arith
flash_small F877 = omega arith
flash_small Mega16 = omega arith
flash_small Interp = omega arith
flash_small AnsiC = omega arith

in_program : (t : Target) (a : ℕ) → a < 2 * flash_of t → is_in_area t a ≡ true
in_program t a h =
    let test : is_program t a ≡ true = grind (arith, nat_tests) in
    rw test refl

more_given : (before : List Said) (bytes more : List ℕ) → Filled before bytes → Filled (Data (length bytes) more ∷ before) (bytes ++ more)
more_given before bytes more f =
    let none = f.upper in
    let first : start before (length bytes) ≡ length bytes = omega arith in
    record {
      upper = f.upper;
      unended = f.unended;
      given = λ a.
          ap (λ s. or_else (byte_of s more a) (given before a)) first
          ∙ ap (or_else (byte_of (length bytes) more a)) (f.given a)
          ∙ joined_bytes bytes more a;
    }

more_passes : (t : Target) (before : List Said) (bytes more : List ℕ) → Filled before bytes → length bytes + length more ≤ 2 * flash_of t
    → fault_of t before (Data (length bytes) more) ≡ None
more_passes t before bytes more f room =
    data_passes t before (length bytes) more f.upper f.unended (λ k h. in_program t (length bytes + k) (omega arith))
    (λ k h. f.given (length bytes + k) ∙ slice_get_past bytes (length bytes + k) (omega arith))

words_fit : (ws : List ℕ) → All (λ w. w < 65536) ws → IsBytes (word_bytes ws)
words_fit [] h = λ k. omega arith
words_fit (w ∷ ws) h =
    let word : w < 65536 = All-head (λ v. v < 65536) w ws h in
    fits_cons (w % 256) (w / 256 ∷ word_bytes ws) (omega arith) (fits_cons (w / 256) (word_bytes ws) (omega arith)
    (words_fit ws (All-tail (λ v. v < 65536) w ws h)))

word_bytes-append : (xs ys : List ℕ) → word_bytes (xs ++ ys) ≡ word_bytes xs ++ word_bytes ys
word_bytes-append [] ys = refl
word_bytes-append (x ∷ xs) ys = ap (λ l. x % 256 ∷ x / 256 ∷ l) (word_bytes-append xs ys)

-- one record, which has no fault
pub one_read : (t : Target) (before : List Said) (kind address : ℕ) (bytes rest : List ℕ) (said : Said) → kind < 256 → address < 65536 → length bytes < 256 →
    IsBytes bytes
    → kind_said kind address bytes ≡ Some said → fault_of t before said ≡ None
    → verdict t before (sayings false (lines (line_of kind address bytes ++ rest))) ≡ verdict t (said ∷ before) (sayings false (lines rest))
one_read t before kind address bytes rest said k a few fits is passes =
    ap (λ ls. verdict t before (sayings false ls)) (record_lines kind address bytes rest k a few fits)
    ∙ ap (λ s. verdict t before (s ∷ sayings false (lines rest))) (record_said kind address bytes said k a few fits is)
    ∙ ap (λ f. or_fault (length before + 1) f (verdict t (said ∷ before) (sayings false (lines rest)))) passes

no_words : (ws : List ℕ) → 0 ≡ (length ws + 7) / 8 → ws ≡ []
no_words [] h = refl
no_words (w ∷ ws) h = absurd (omega arith)

-- the records of words
pub data_read : (t : Target) (n address : ℕ) (ws : List ℕ) (before : List Said) (bytes : List ℕ) → Filled before bytes
    → n ≡ (length ws + 7) / 8 → (0 < n → address ≡ length bytes) → All (λ w. w < 65536) ws → length bytes + 2 * length ws ≤ 2 * flash_of t
    → (later : List Said) × Filled later (bytes ++ word_bytes ws)
    × ((rest : List ℕ) → verdict t before (sayings false (lines (data_lines n address ws ++ rest))) ≡ verdict t later (sayings false (lines rest)))
data_read t zero address ws before bytes f count place fit room =
    let none = no_words ws count in
    (before, rw (none, append-nil) f, λ rest. refl)
data_read t (suc n) address ws before bytes f count place fit room =
    let front = word_bytes (take 8 ws) in
    let size : length front ≡ 2 * min 8 (length ws) = length-word_bytes (take 8 ws) ∙ ap (λ k. 2 * k) (length-take 8 ws) in
    let left = length-drop 8 ws in
    let sum = length-append bytes front in
    let here : address ≡ length bytes = place (omega arith) in
    let small = flash_small t in
    let passes : fault_of t before (Data address front) ≡ None =
    ap (λ a. fault_of t before (Data a front)) here ∙ more_passes t before bytes front f (omega arith) in
    let filled : Filled (Data address front ∷ before) (bytes ++ front) = rw here (more_given before bytes front f) in
    let next =
    data_read t n (address + 16) (drop 8 ws) (Data address front ∷ before) (bytes ++ front) filled (omega arith) (λ some. omega arith)
    (All-drop (λ w. w < 65536) 8 ws fit) (omega arith) in
    let all : (bytes ++ front) ++ word_bytes (drop 8 ws) ≡ bytes ++ word_bytes ws =
    append_assoc bytes front (word_bytes (drop 8 ws)) ∙ ap (λ l. bytes ++ l) (sym (word_bytes-append (take 8 ws) (drop 8 ws)) ∙ ap word_bytes
    (take-append-drop 8 ws)) in (
      next.0,
      rw (← all) next.1,
      λ rest.
          ap (λ l. verdict t before (sayings false (lines l))) (append_assoc (line_of 0 address front) (data_lines n (address + 16) (drop 8 ws)) rest)
          ∙ one_read t before 0 address front (data_lines n (address + 16) (drop 8 ws) ++ rest) (Data address front) (omega arith) (omega arith) (omega arith)
          (words_fit (take 8 ws) (All-take (λ w. w < 65536) 8 ws fit)) refl passes
          ∙ next.2 rest,
    )
