-- Lines that begin a text of a form.
use Rattle.std.specs.Prelude.{ℕ, List, ◌++◌}

-- a text of the form begins with these lines
abbrev pub Begins : (List (List ℕ) → Type 0) → List (List ℕ) → Type 0
Begins Form ls = (more : List (List ℕ)) × Form (ls ++ more)
