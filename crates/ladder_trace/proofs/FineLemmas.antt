-- What is read of a trace has a level and a number for each name, no more cycles than there may be, and a whole EEPROM.
use Rattle.std.proofs.Common.{◌≡◌, ℕ, ◌+◌, ◌-◌, ◌<◌, ◌≤◌, Bool, true, false, ◌&&◌, if◌then◌else◌, nat_le, List, [], ◌∷◌, ◌++◌, length, replicate, codes, Option, Some, None, Result, Ok, Err, pos, refl, ap, ◌∙◌, arith, All, IfOk, IfSome}
use Rattle.std.proofs.lemmas.Bool.{leb-true}
use Rattle.std.proofs.lemmas.List.{length-append, length-replicate, length-set}
use Rattle.std.proofs.lemmas.List.Elements.{All-nil, All-push, All-set, All-append, All-replicate, All-from_get_or}
use Rattle.std.proofs.lemmas.List.Sums.{sum_by_push}
use Rattle.std.proofs.lemmas.Result.{IfOk-at_ok}
use Rattle.std.proofs.lemmas.Int.{ints}
use Rattle.std.specs.Prelude.{◌≤ℤ◌}
use Rattle.std.specs.List.{sum_by, list_all}
use Rattle.hex.proofs.HexLemmas.{decode_of-ok}
use Rattle.std.specs.Option.{option_map, option_and_then}
use Rattle.std.specs.Str.{bytes_eq}
use Rattle.hex.specs.Hex.{decode_of}
use Rattle.hex.specs.declared.error.FromHexError.{FromHexError}
use Rattle.ladder_tree.specs.declared.names.Names.{Names}
use Rattle.ladder_meaning.specs.declared.reading.Reading.{Reading}
use Rattle.ladder_trace.specs.Token.{level, place_in, most_analog, give_input, give_analog, give_at, give_byte, is_one, give, Given, pair_gives, token_gives, tokens_give, begun, IsReadingOf, IsMeasured, IsMeasuredReading}
use Rattle.texts.specs.Digits.{is_digit, value_behind, digits_to}
use Rattle.texts.specs.Lines.{cut, without_return}
use Rattle.texts.specs.Keys.{with_key}
use Rattle.ladder_trace.specs.Line.{is_skipped, tokens, Draft, eeprom_size, filled, start, eeprom_by, eeprom_alone, eeprom_says, most_cycles, timed, with_step, step_says, words_say, line_says}
use Rattle.ladder_trace.specs.Trace.{or_refused, read_from, read, trace_of, IsTraceOf}

-- nothing is said of the value
any : {A : Type 0} (o : Option A) → IfSome o (λ x. Unit {0})
any None = tt
any (Some x) = tt

-- what holds on both sides of a test
of_if : {A : Type 0} (P : A → Type 0) (b : Bool) (x y : Option A) → IfSome x P → IfSome y P → IfSome (if b then x else y) P
of_if P true x y h k = h
of_if P false x y h k = k

-- what holds of a value that is made of another
of_map : {A B : Type 0} (P : A → Type 0) (Q : B → Type 0) (f : A → B) (o : Option A) → IfSome o P → ((x : A) → P x → Q (f x)) → IfSome (option_map f o) Q
of_map P Q f None h k = tt
of_map P Q f (Some x) h k = k x h

-- what holds of a value that is tried behind another
of_then : {A B : Type 0} (P : A → Type 0) (Q : B → Type 0) (f : A → Option B) (o : Option A) → IfSome o P → ((x : A) → P x → IfSome (f x) Q) →
    IfSome (option_and_then f o) Q
of_then P Q f None h k = tt
of_then P Q f (Some x) h k = k x h

-- a reading of the names whose numbers are those that were measured
record Fits (n : Names) (r : Reading) : Type 0 where
  counts : IsReadingOf n r
  measured : IsMeasuredReading r

-- digits write no more than they may
digits_within : (most : ℕ) (ds : List ℕ) → IfSome (digits_to most ds) (λ k. k ≤ most)
digits_within most [] = tt
digits_within most (c ∷ cs) = by (list_all is_digit (c ∷ cs)) (nat_le (value_behind 0 (c ∷ cs)) most) refl
  where
    by : (a b : Bool) → nat_le (value_behind 0 (c ∷ cs)) most ≡ b → IfSome (if a && b then Some (value_behind 0 (c ∷ cs)) else None) (λ k. k ≤ most)
    by true true e = leb-true (value_behind 0 (c ∷ cs)) most e
    by true false e = tt
    by false b e = tt

abbrev IsByte : ℕ → Type 0
IsByte b = b < 256

-- pairs of hexadecimal digits write bytes
decoded_bytes : (digits : List ℕ) → IfOk (decode_of digits) (All IsByte)
decoded_bytes digits = by (decode_of digits) refl
  where
    by : (r : Result (List ℕ) FromHexError) → decode_of digits ≡ r → IfOk r (All IsByte)
    by (Ok bytes) e = let are = (decode_of-ok digits bytes e).3 in All-from_get_or IsByte bytes 0 (λ k lt. are k)
    by (Err x) e = tt

-- The tokens of a step.

-- an input that is given changes no count
input_fits : (n : Names) (place : ℕ) (value : List ℕ) (r : Reading) → Fits n r → IfSome (give_input place value r) (Fits n)
input_fits n place value r h =
    of_map _ (Fits n) _ (level value) (any (level value)) (λ on t. record {
      counts = record { inputs = length-set r.inputs place on ∙ h.counts.inputs; analog = h.counts.analog };
      measured = record { analog = h.measured.analog; received = h.measured.received };
    })

-- an analog input that is given changes no count
analog_fits : (n : Names) (place : ℕ) (value : List ℕ) (r : Reading) → Fits n r → IfSome (give_analog place value r) (Fits n)
analog_fits n place value r h =
    of_map (λ k. k ≤ most_analog) (Fits n) _ (digits_to most_analog value) (digits_within most_analog value)
    (λ k most. record {
      counts = record { inputs = h.counts.inputs; analog = length-set r.analog place (pos k) ∙ h.counts.analog };
      measured = record {
        analog = All-set IsMeasured r.analog place (pos k) (record { least = omega (arith, ints); most = omega (arith, ints, most) }) h.measured.analog;
        received = h.measured.received;
      };
    })

-- a byte that is received changes no count
byte_fits : (n : Names) (value : List ℕ) (r : Reading) → Fits n r → IfSome (give_byte value r) (Fits n)
byte_fits n value r h =
    of_map (λ k. k ≤ 255) (Fits n) _ (digits_to 255 value) (digits_within 255 value) (λ byte most. record {
      counts = record { inputs = h.counts.inputs; analog = h.counts.analog };
      measured = record { analog = h.measured.analog; received = omega (arith, most) };
    })

-- an input or an analog input, by the place of its name
at_fits : (n : Names) (input analog : Option ℕ) (value : List ℕ) (r : Reading) → Fits n r → IfSome (give_at input analog value r) (Fits n)
at_fits n (Some place) analog value r h = input_fits n place value r h
at_fits n None (Some place) value r h = analog_fits n place value r h
at_fits n None None value r h = tt

-- what a key is given changes no count
give_fits : (n : Names) (key value : List ℕ) (r : Reading) → Fits n r → IfSome (give n key value r) (Fits n)
give_fits n key value r h =
    of_if P (bytes_eq key (codes "rx")) _ _ (byte_fits n value r h)
    (of_if P (bytes_eq key (codes "tx")) _ _ (of_if P (is_one value) _ _ (same h) tt)
    (of_if P (bytes_eq key (codes "ee")) _ _ (of_if P (is_one value) _ _ (same h) tt)
    (at_fits n (place_in n.inputs key) (place_in n.analog key) value r h)))
  where
    P : Reading → Type 0
    P = Fits n

    -- what is busy does not count
    same : Fits n r → {tx ee : Bool} → Fits n (record r { tx_busy = tx; ee_busy = ee })
    same h = record {
      counts = record { inputs = h.counts.inputs; analog = h.counts.analog };
      measured = record { analog = h.measured.analog; received = h.measured.received };
    }

-- nor does it with its key among the others
pair_fits : (n : Names) (g : Given) (key value : List ℕ) → Fits n g.reading → IfSome (pair_gives n g key value) (λ e. Fits n e.reading)
pair_fits n g key value h =
    of_then _ (λ e. Fits n e.reading) _ (with_key key g.keys) (any (with_key key g.keys))
    (λ keys t. of_map (Fits n) (λ e. Fits n e.reading) (λ r. record { keys = keys; reading = r }) (give n key value g.reading)
    (give_fits n key value g.reading h) (λ r k. k))

-- a token changes no count
token_fits : (n : Names) (g : Given) (token : List ℕ) → Fits n g.reading → IfSome (token_gives n g token) (λ e. Fits n e.reading)
token_fits n g token h = of_then _ (λ e. Fits n e.reading) _ (cut 61 token) (any (cut 61 token)) (λ p t. pair_fits n g p.0 p.1 h)

-- all tokens of a step change no count
tokens_fit : (n : Names) (g : Given) (ts : List (List ℕ)) → Fits n g.reading → IfSome (tokens_give n g ts) (λ e. Fits n e.reading)
tokens_fit n g [] h = h
tokens_fit n g (t ∷ ts) h =
    of_then (λ e. Fits n e.reading) (λ e. Fits n e.reading) (λ e. tokens_give n e ts) (token_gives n g t) (token_fits n g t h)
    (λ e k. tokens_fit n e ts k)

-- The bytes of the EEPROM.

-- bytes that fit are filled up to a whole EEPROM
-- the bytes of an EEPROM, as many as there are
abbrev IsWhole : List ℕ → Type 0
IsWhole bytes = (length bytes ≡ eeprom_size) × All IsByte bytes

filled_whole : (bytes : List ℕ) → All IsByte bytes → length bytes ≤ eeprom_size → IsWhole (filled bytes)
filled_whole bytes are within = (
  length-append bytes (replicate (eeprom_size - length bytes) 255)
      ∙ ap (λ k. length bytes + k) (length-replicate (eeprom_size - length bytes) 255)
      ∙ omega arith,
  All-append IsByte bytes (replicate (eeprom_size - length bytes) 255) are (All-replicate IsByte (eeprom_size - length bytes) 255 (omega arith)),
)

-- an EEPROM that is read from digits is whole
eeprom_whole : (r : Result (List ℕ) FromHexError) → IfOk r (All IsByte) → IfSome (eeprom_by r) IsWhole
eeprom_whole (Err e) are = tt
eeprom_whole (Ok bytes) are = by (nat_le 1 (length bytes)) (nat_le (length bytes) eeprom_size) refl
  where
    by : (a b : Bool) → nat_le (length bytes) eeprom_size ≡ b → IfSome (if a && b then Some (filled bytes) else None) IsWhole
    by true true e = filled_whole bytes are (leb-true (length bytes) eeprom_size e)
    by true false e = tt
    by false b e = tt

-- an EEPROM that a line gives is whole
alone_whole : (words : List (List ℕ)) → IfSome (eeprom_alone words) IsWhole
alone_whole [] = tt
alone_whole (digits ∷ []) = eeprom_whole (decode_of digits) (decoded_bytes digits)
alone_whole (digits ∷ word ∷ words) = tt

-- The lines.

-- what was read so far makes a trace of the names
record IsFine (n : Names) (d : Draft) : Type 0 where
  reading : Fits n d.reading
  steps : All (λ s. Fits n s.reading) d.steps
  times : sum_by (λ s. s.times) d.steps ≡ d.cycles
  few : d.cycles ≤ most_cycles
  eeprom : IsWhole d.eeprom

-- before the first line
start_fine : (n : Names) → IsFine n (start n)
start_fine n = record {
  reading = record {
    counts = record { inputs = length-replicate (length n.inputs) false; analog = length-replicate (length n.analog) (pos 0) };
    measured = record {
      analog = All-replicate IsMeasured (length n.analog) (pos 0) (record { least = omega (arith, ints); most = omega (arith, ints) });
      received = tt;
    };
  };
  steps = All-nil (λ s. Fits n s.reading);
  times = refl;
  few = omega arith;
  eeprom = filled_whole [] (All-nil IsByte) (omega arith);
}

-- behind the line of the EEPROM
eeprom_fine : (n : Names) (d : Draft) (words : List (List ℕ)) → IsFine n d → IfSome (eeprom_says d words) (IsFine n)
eeprom_fine n d words h =
    of_if (IsFine n) d.begun _ _ tt
    (of_map IsWhole (IsFine n) _ (eeprom_alone words) (alone_whole words)
    (λ bytes whole. record { reading = h.reading; steps = h.steps; times = h.times; few = h.few; eeprom = whole }))

-- with one step more
added_fine : (n : Names) (d : Draft) (times : ℕ) (r : Reading) → IsFine n d → Fits n r → IfSome (with_step d times r) (IsFine n)
added_fine n d times r h fits = by (nat_le (d.cycles + times) most_cycles) refl
  where
    added : Draft
    added = record d { begun = true; reading = r; cycles = d.cycles + times; steps = d.steps ++ record { times = times; reading = r } ∷ [] }

    by : (b : Bool) → nat_le (d.cycles + times) most_cycles ≡ b → IfSome (if b then Some added else None) (IsFine n)
    by false e = tt
    by true e = record {
      reading = fits;
      steps = All-push (λ s. Fits n s.reading) d.steps record { times = times; reading = r } h.steps fits;
      times = sum_by_push (λ s. s.times) d.steps record { times = times; reading = r } ∙ ap (λ k. k + times) h.times;
      few = leb-true (d.cycles + times) most_cycles e;
      eeprom = h.eeprom;
    }

-- behind the words of a step
step_fine : (n : Names) (d : Draft) (words : List (List ℕ)) → IsFine n d → IfSome (step_says n d words) (IsFine n)
step_fine n d words h =
    of_then (λ g. Fits n g.reading) (IsFine n) _ (tokens_give n record { keys = []; reading = begun d.reading } (timed words).1)
    (tokens_fit n record { keys = []; reading = begun d.reading } (timed words).1 (record {
      counts = record { inputs = h.reading.counts.inputs; analog = h.reading.counts.analog };
      measured = record { analog = h.reading.measured.analog; received = tt };
    }))
    (λ g fits. added_fine n d (timed words).0 g.reading h fits)

-- behind the words of a line
words_fine : (n : Names) (d : Draft) (words : List (List ℕ)) → IsFine n d → IfSome (words_say n d words) (IsFine n)
words_fine n d [] h = step_fine n d [] h
words_fine n d (word ∷ words) h = of_if (IsFine n) (bytes_eq word (codes "eeprom")) _ _ (eeprom_fine n d words h) (step_fine n d (word ∷ words) h)

-- behind a line
line_fine : (n : Names) (d : Draft) (line : List ℕ) → IsFine n d → IfSome (line_says n d line) (IsFine n)
line_fine n d line h = of_if (IsFine n) (is_skipped (without_return line)) _ _ h (words_fine n d (tokens (without_return line)) h)

-- behind a line that may be refused
refused_fine : (n : Names) (line : ℕ) (go_on : Draft → Result Draft ℕ) (o : Option Draft) → IfSome o (IsFine n) →
    ((d : Draft) → IsFine n d → IfOk (go_on d) (IsFine n)) → IfOk (or_refused line go_on o) (IsFine n)
refused_fine n line go_on None h k = tt
refused_fine n line go_on (Some d) h k = k d h

-- behind all lines
lines_fine : (n : Names) (passed : ℕ) (d : Draft) (ls : List (List ℕ)) → IsFine n d → IfOk (read_from n passed d ls) (IsFine n)
lines_fine n passed d [] h = h
lines_fine n passed d (l ∷ ls) h =
    refused_fine n (passed + 1) (λ e. read_from n (passed + 1) e ls) (line_says n d l) (line_fine n d l h) (λ e k. lines_fine n (passed + 1) e ls k)

-- The trace.

-- what was read makes a trace of the names
fine_fits : (n : Names) (d : Draft) → IsFine n d → IsTraceOf n (trace_of d)
fine_fits n d h = record {
  readings = λ k s lt. (h.steps k s lt).counts;
  cycles = (let times = h.times in let few = h.few in omega arith);
  eeprom = h.eeprom.0;
  measured = λ k s lt. (h.steps k s lt).measured;
  bytes = h.eeprom.1;
}

-- what lines give is a trace of the names
pub read_fits : (n : Names) (ls : List (List ℕ)) (d : Draft) → read n ls ≡ Ok d → IsTraceOf n (trace_of d)
read_fits n ls d h = fine_fits n d (IfOk-at_ok (IsFine n) h (lines_fine n 0 (start n) ls (start_fine n)))
