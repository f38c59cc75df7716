-- Products and quotients of words, which are numbers of 16 bits with a sign.
use Rattle.std.specs.Prelude.{ℕ, ◌*◌, ◌-◌, ◌/◌, ◌%◌, ◌==◌, nat_le, Bool, true, false, not, if◌then◌else◌}

abbrev pub product : ℕ → ℕ → ℕ
product a b = a * b % 65536

-- a word from 32768 on is a number below 0
abbrev pub is_negative : ℕ → Bool
is_negative a = nat_le 32768 a

abbrev pub negative : ℕ → ℕ
negative a = (65536 - a) % 65536

-- a number without its sign; that of -32768 is 32768
abbrev pub size : ℕ → ℕ
size a = if is_negative a then negative a else a

abbrev pub differ : Bool → Bool → Bool
differ true b = not b
differ false b = b

-- A quotient of words, truncated toward zero; by 0 it is 0. That of -32768 by -1 is the word 32768 again, which is -32768.
abbrev pub quotient : ℕ → ℕ → ℕ
quotient a b =
    if b == 0 then 0
    else if differ (is_negative a) (is_negative b) then negative (size a / size b) else size a / size b
