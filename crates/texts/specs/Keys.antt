-- Parts of a text that are kept in order, each once.
use Rattle.std.specs.Prelude.{◌≡◌, ℕ, Bool, true, false, List, [], ◌∷◌, ◌++◌, map, Option, None, Some, if◌then◌else◌}
use Rattle.std.specs.List.{list_any}
use Rattle.std.specs.Str.{bytes_eq}
use Rattle.std.specs.HashSet.{HashSet}
use Rattle.std.specs.Borrow.{Bor}

-- the list with a text that it does not have
abbrev pub with_key : List ℕ → List (List ℕ) → Option (List (List ℕ))
with_key key keys = if list_any (bytes_eq key) keys then None else Some (keys ++ key ∷ [])

-- what a set of borrowed texts holds
abbrev pub keys_of : {S : Type 0} → HashSet (Bor (List ℕ)) S → List (List ℕ)
keys_of set = map (λ k. k.now) set.keys

-- an answer, and what it leaves where it is yes
abbrev pub Takes : {A : Type 0} → Option A → Bool → A → Type 0
Takes o true a = o ≡ Some a
Takes o false a = o ≡ None
