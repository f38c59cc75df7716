-- Templates: C text with a mark where a name or a number stands.
use Rattle.std.specs.Prelude.{ℕ, zero, suc, ◌+◌, ◌==◌, List, [], ◌∷◌, ◌++◌, if◌then◌else◌}
use Rattle.std.specs.Fmt.{decimal}

-- what stands for a byte of a template: for @ (64) a name, for # (35) and $ (36) two other texts, and for any other byte itself
abbrev pub standing : List ℕ → List ℕ → List ℕ → ℕ → List ℕ
standing name first second c = if c == 64 then name else (if c == 35 then first else (if c == 36 then second else c ∷ []))

-- a template with a name for its @, and two texts for its # and $
abbrev pub filled : List ℕ → List ℕ → List ℕ → List ℕ → List ℕ
filled [] name first second = []
filled (c ∷ cs) name first second = standing name first second c ++ filled cs name first second

-- with a name alone
abbrev pub named : List ℕ → List ℕ → List ℕ
named template name = filled template name [] []

-- with a number for its #
abbrev pub numbered : List ℕ → ℕ → List ℕ
numbered template number = filled template [] (decimal number) []

-- for each name
abbrev pub each : List ℕ → List (List ℕ) → List ℕ
each template [] = []
each template (name ∷ names) = named template name ++ each template names

-- for each name, with its place, from a place on, for the #
abbrev pub each_at : List ℕ → ℕ → List (List ℕ) → List ℕ
each_at template place [] = []
each_at template place (name ∷ names) = filled template name (decimal place) [] ++ each_at template (place + 1) names

-- for each number from 0 on, so many
abbrev pub each_number : List ℕ → ℕ → List ℕ
each_number template zero = []
each_number template (suc k) = each_number template k ++ numbered template k
