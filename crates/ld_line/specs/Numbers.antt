-- Numbers: digits, with - in front or not.
use Rattle.std.specs.Prelude.{ℕ, Bool, true, false, ◌&&◌, ◌==◌, ℤ, pos, neg_ℤ, unsigned_abs, int_le, List, [], ◌∷◌, Option, None, Some, if◌then◌else◌}
use Rattle.std.specs.Option.{option_map}
use Rattle.texts.specs.Digits.{digits}
use Rattle.ld_line.specs.Said.{said_map}
use Rattle.ld_line.specs.declared.number.TheConstants.{MOST_SETTING, MOST_DELAY, MOST_PIN}
use Rattle.ld_line.specs.declared.said.Said.{Said}
use Rattle.ld_line.specs.declared.said.Said.TheVariants.{Bad, Range, Is}

abbrev pub signed : Bool → Option ℕ → Option ℤ
signed is_negative n = option_map (λ k. if is_negative then neg_ℤ (pos k) else pos k) n

-- 45 is -
abbrev pub number : List ℕ → Option ℤ
number [] = None
number (c ∷ cs) = if c == 45 then signed true (digits cs) else signed false (digits (c ∷ cs))

abbrev pub in_range : ℤ → ℤ → Option ℤ → Said ℤ
in_range low high None = Bad
in_range low high (Some n) = if int_le low n && int_le n high then Is n else Range

abbrev pub number_in : ℤ → ℤ → List ℕ → Said ℤ
number_in low high token = in_range low high (number token)

-- a number that is not below 0
unfoldable pub natural_in : ℕ → ℕ → List ℕ → Said ℕ
natural_in low high token = said_map unsigned_abs (number_in (pos low) (pos high) token)

-- a number of 16 bits with its sign: a counter's limit, a table's value
unfoldable pub integer : List ℕ → Said ℤ
integer token = number_in (neg_ℤ (pos 32768)) (pos 32767) token

-- the times, rates and frequencies of a project
abbrev pub most_setting : ℕ
most_setting = MOST_SETTING

-- microseconds of a timer
abbrev pub most_delay : ℕ
most_delay = MOST_DELAY

abbrev pub most_pin : ℕ
most_pin = MOST_PIN
