-- What one line of a trace says.
use Rattle.std.specs.Prelude.{ℕ, ◌+◌, ◌-◌, Bool, true, false, ◌&&◌, ◌==◌, List, [], ◌∷◌, ◌++◌, length, filter, replicate, nat_le, codes, Option, None, Some, Result, Ok, Err, if◌then◌else◌}
use Rattle.std.specs.Option.{option_map, option_and_then}
use Rattle.std.specs.Str.{bytes_eq}
use Rattle.hex.specs.Hex.{decode_of}
use Rattle.hex.specs.declared.error.FromHexError.{FromHexError}
use Rattle.chip_tables.specs.declared.memory.TheConstants.{EEPROM_MOST}
use Rattle.texts.specs.Lines.{pieces, cut, without_return, is_some_bytes}
use Rattle.ladder_tree.specs.declared.names.Names.{Names}
use Rattle.ladder_meaning.specs.declared.reading.Reading.{Reading}
use Rattle.ladder_trace.specs.declared.trace.Step.{Step}
use Rattle.ladder_trace.specs.Token.{tokens_give, at_rest, begun}
use Rattle.texts.specs.Digits.{digits_to}

-- an empty line, or one that begins with # (35)
abbrev pub is_skipped : List ℕ → Bool
is_skipped [] = true
is_skipped (b ∷ bs) = b == 35

-- what stands between spaces (32) and is not empty
abbrev pub tokens : List ℕ → List (List ℕ)
tokens line = filter is_some_bytes (pieces 32 line)

-- what was read: whether a line was not skipped, the EEPROM, the reading of the last step, the cycles of all steps, the steps
pub record Draft : Type 0 where
  pub begun : Bool
  pub eeprom : List ℕ
  pub reading : Reading
  pub cycles : ℕ
  pub steps : List Step

-- how many bytes an EEPROM has: those of the largest of a chip
abbrev pub eeprom_size : ℕ
eeprom_size = EEPROM_MOST

-- the bytes, and FFh behind them
abbrev pub filled : List ℕ → List ℕ
filled bytes = bytes ++ replicate (eeprom_size - length bytes) 255

abbrev pub start : Names → Draft
start n = record { begun = false; eeprom = filled []; reading = at_rest n; cycles = 0; steps = [] }

-- at least one byte, and no more than there is room for
abbrev pub eeprom_by : Result (List ℕ) FromHexError → Option (List ℕ)
eeprom_by (Ok bytes) = if nat_le 1 (length bytes) && nat_le (length bytes) eeprom_size then Some (filled bytes) else None
eeprom_by (Err e) = None

-- the EEPROM of pairs of hexadecimal digits of either case, for addresses from 0
abbrev pub eeprom_of : List ℕ → Option (List ℕ)
eeprom_of digits = eeprom_by (decode_of digits)

abbrev pub eeprom_alone : List (List ℕ) → Option (List ℕ)
eeprom_alone (digits ∷ []) = eeprom_of digits
eeprom_alone words = None

-- `eeprom` stands in front of all steps and but once
abbrev pub eeprom_says : Draft → List (List ℕ) → Option Draft
eeprom_says d words = if d.begun then None else option_map (λ bytes. record d { begun = true; eeprom = bytes }) (eeprom_alone words)

-- how many cycles the steps of a trace may have
abbrev pub most_cycles : ℕ
most_cycles = 100000

-- a number that is not 0
abbrev pub some_times : Option ℕ → Option ℕ
some_times times = option_and_then (λ k. if k == 0 then None else Some k) times

-- `N:` alone (58 is :), with N of 1 to 100,000
abbrev pub count_of : List ℕ → Option ℕ
count_of token = option_and_then (λ p. if length p.1 == 0 then some_times (digits_to most_cycles p.0) else None) (cut 58 token)

abbrev pub timed_by : Option ℕ → List ℕ → List (List ℕ) → ℕ × List (List ℕ)
timed_by (Some times) token rest = (times, rest)
timed_by None token rest = (1, token ∷ rest)

-- for how many cycles a step holds, and its other tokens
abbrev pub timed : List (List ℕ) → ℕ × List (List ℕ)
timed [] = (1, [])
timed (token ∷ rest) = timed_by (count_of token) token rest

-- one step more, where the cycles of all steps are no more than they may be
abbrev pub with_step : Draft → ℕ → Reading → Option Draft
with_step d times r =
    if nat_le (d.cycles + times) most_cycles
    then Some (record d { begun = true; reading = r; cycles = d.cycles + times; steps = d.steps ++ record { times = times; reading = r } ∷ [] })
    else None

abbrev pub step_says : Names → Draft → List (List ℕ) → Option Draft
step_says n d words =
    option_and_then (λ g. with_step d (timed words).0 g.reading)
    (tokens_give n (record { keys = []; reading = begun d.reading }) (timed words).1)

abbrev pub words_say : Names → Draft → List (List ℕ) → Option Draft
words_say n d [] = step_says n d []
words_say n d (word ∷ words) = if bytes_eq word (codes "eeprom") then eeprom_says d words else step_says n d (word ∷ words)

abbrev pub clean_says : Names → Draft → List ℕ → Option Draft
clean_says n d line = if is_skipped line then Some d else words_say n d (tokens line)

-- what a line makes of what was read in front of it; none where it may not stand there
abbrev pub line_says : Names → Draft → List ℕ → Option Draft
line_says n d line = clean_says n d (without_return line)
