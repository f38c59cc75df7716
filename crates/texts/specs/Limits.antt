-- How much of a text is looked at.
use Rattle.std.specs.Prelude.{ℕ, ◌+◌, Bool, List, length, take, nat_lt}

-- the bytes by which a text is judged: those up to its limit, and one more
abbrev pub judged : ℕ → List ℕ → List ℕ
judged most text = take (most + 1) text

abbrev pub is_over : ℕ → List ℕ → Bool
is_over most text = nat_lt most (length text)
