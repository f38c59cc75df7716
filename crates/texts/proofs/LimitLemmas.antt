-- Texts that are no longer than their limits.
use Rattle.std.proofs.Common.{◌≡◌, ℕ, ◌+◌, ◌≤◌, List, length, arith}
use Rattle.std.proofs.lemmas.List.{take_all}
use Rattle.texts.specs.Limits.{judged}

-- of a text within its limit all is looked at
pub judged_all : (most : ℕ) (text : List ℕ) → length text ≤ most → judged most text ≡ text
judged_all most text h = take_all (most + 1) text (omega arith)
