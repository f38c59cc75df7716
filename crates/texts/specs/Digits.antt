-- Decimal digits, and the numbers that they write.
use Rattle.std.specs.Prelude.{ℕ, ◌+◌, ◌-◌, ◌*◌, Bool, ◌&&◌, nat_le, List, [], ◌∷◌, Option, None, Some, if◌then◌else◌}
use Rattle.std.specs.List.{list_all}

-- the bytes 0 (48) to 9 (57)
abbrev pub is_digit : ℕ → Bool
is_digit b = nat_le 48 b && nat_le b 57

-- the number that digits write behind those of n
abbrev pub value_behind : ℕ → List ℕ → ℕ
value_behind n [] = n
value_behind n (c ∷ cs) = value_behind (10 * n + (c - 48)) cs

-- one digit or more, and what they write; leading zeros are digits
abbrev pub digits : List ℕ → Option ℕ
digits [] = None
digits (c ∷ cs) = if list_all is_digit (c ∷ cs) then Some (value_behind 0 (c ∷ cs)) else None

-- one digit or more that write a number of at most so much
abbrev pub digits_to : ℕ → List ℕ → Option ℕ
digits_to most [] = None
digits_to most (c ∷ cs) = if list_all is_digit (c ∷ cs) && nat_le (value_behind 0 (c ∷ cs)) most then Some (value_behind 0 (c ∷ cs)) else None
