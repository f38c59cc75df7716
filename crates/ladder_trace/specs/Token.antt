-- What one token of a step gives.
use Rattle.std.specs.Prelude.{◌≡◌, ℕ, ◌+◌, Bool, true, false, ℤ, pos, ◌≤ℤ◌, ◌<◌, All, IfSome, List, [], ◌∷◌, length, replicate, slice_set, codes, Option, None, Some, if◌then◌else◌}
use Rattle.std.specs.Option.{option_map, option_and_then}
use Rattle.std.specs.Str.{bytes_eq}
use Rattle.texts.specs.Digits.{digits_to}
use Rattle.texts.specs.Lines.{cut}
use Rattle.texts.specs.Keys.{with_key}
use Rattle.ladder_tree.specs.declared.limits.TheConstants.{ANALOG_NUMBER}
use Rattle.ladder_tree.specs.declared.names.Names.{Names}
use Rattle.ladder_meaning.specs.declared.reading.Reading.{Reading}

-- 0 and 1 alone: 00 is no level
abbrev pub level : List ℕ → Option Bool
level value = if bytes_eq value (codes "0") then Some false else (if bytes_eq value (codes "1") then Some true else None)

-- the place of the first name that is the key, where the names begin at place k
abbrev pub place_from : ℕ → List (List ℕ) → List ℕ → Option ℕ
place_from k [] key = None
place_from k (n ∷ ns) key = if bytes_eq n key then Some k else place_from (k + 1) ns key

abbrev pub place_in : List (List ℕ) → List ℕ → Option ℕ
place_in names key = place_from 0 names key

-- the greatest number of an analog input
abbrev pub most_analog : ℕ
most_analog = ANALOG_NUMBER

-- an input has 0 or 1
abbrev pub give_input : ℕ → List ℕ → Reading → Option Reading
give_input place value r = option_map (λ on. record r { inputs = slice_set r.inputs place on }) (level value)

-- an analog input has 0 to 1023
abbrev pub give_analog : ℕ → List ℕ → Reading → Option Reading
give_analog place value r = option_map (λ n. record r { analog = slice_set r.analog place (pos n) }) (digits_to most_analog value)

abbrev pub give_at : Option ℕ → Option ℕ → List ℕ → Reading → Option Reading
give_at (Some input) analog value r = give_input input value r
give_at None (Some analog) value r = give_analog analog value r
give_at None None value r = None

-- a byte is received
abbrev pub give_byte : List ℕ → Reading → Option Reading
give_byte value r = option_map (λ byte. record r { rx = Some byte }) (digits_to 255 value)

abbrev pub is_one : List ℕ → Bool
is_one value = bytes_eq value (codes "1")

-- What `key=value` gives: `rx` a byte, `tx` and `ee` a device that is busy, and else an input or an analog input by its name.
abbrev pub give : Names → List ℕ → List ℕ → Reading → Option Reading
give n key value r =
    if bytes_eq key (codes "rx") then give_byte value r
    else (if bytes_eq key (codes "tx") then (if is_one value then Some (record r { tx_busy = true }) else None)
    else (if bytes_eq key (codes "ee") then (if is_one value then Some (record r { ee_busy = true }) else None)
    else give_at (place_in n.inputs key) (place_in n.analog key) value r))

-- what the tokens of a step gave so far, and their keys
pub record Given : Type 0 where
  pub keys : List (List ℕ)
  pub reading : Reading

abbrev pub pair_gives : Names → Given → List ℕ → List ℕ → Option Given
pair_gives n g key value = option_and_then (λ keys. option_map (λ r. record { keys = keys; reading = r }) (give n key value g.reading)) (with_key key g.keys)

-- A token is `key=value` (61 is =), and no token in front of it in its step has the key.
abbrev pub token_gives : Names → Given → List ℕ → Option Given
token_gives n g token = option_and_then (λ p. pair_gives n g p.0 p.1) (cut 61 token)

abbrev pub tokens_give : Names → Given → List (List ℕ) → Option Given
tokens_give n g [] = Some g
tokens_give n g (t ∷ ts) = option_and_then (λ h. tokens_give n h ts) (token_gives n g t)

-- before the first step: inputs and analog inputs are 0, no byte came, and no device is busy
abbrev pub at_rest : Names → Reading
at_rest n = record {
  inputs = replicate (length n.inputs) false;
  analog = replicate (length n.analog) (pos 0);
  rx = None;
  tx_busy = false;
  ee_busy = false;
}

-- where a step begins, inputs and analog inputs have what they had, and the rest is gone
abbrev pub begun : Reading → Reading
begun r = record r { rx = None; tx_busy = false; ee_busy = false }

-- a reading with a level and a number for each name
pub record IsReadingOf (n : Names) (r : Reading) : Type 0 where
  pub inputs : length r.inputs ≡ length n.inputs
  pub analog : length r.analog ≡ length n.analog

-- a number that an analog-to-digital converter of ten bits gives
pub record IsMeasured (number : ℤ) : Type 0 where
  pub least : pos 0 ≤ℤ number
  pub most : number ≤ℤ pos ANALOG_NUMBER

-- numbers of the converter, and a byte where one is received
pub record IsMeasuredReading (r : Reading) : Type 0 where
  pub analog : All IsMeasured r.analog
  pub received : IfSome r.rx (λ byte. byte < 256)
