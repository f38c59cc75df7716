-- What bytes say, and how the answers of several parts are joined.
use Rattle.std.specs.Prelude.{ℕ, List, [], ◌∷◌}
use Rattle.ld_line.specs.declared.said.Said.{Said}
use Rattle.ld_line.specs.declared.said.Said.TheVariants.{Bad, Range, Is}

abbrev pub IfIs : {A : Type 0} → Said A → (A → Type 0) → Type 0
IfIs (Is x) P = P x
IfIs Bad P = Unit {0}
IfIs Range P = Unit {0}

abbrev pub said_map : {A B : Type 0} → (A → B) → Said A → Said B
said_map f Bad = Bad
said_map f Range = Range
said_map f (Is x) = Is (f x)

-- a test that comes behind the shapes and the ranges
abbrev pub said_then : {A B : Type 0} → (A → Said B) → Said A → Said B
said_then f Bad = Bad
said_then f Range = Range
said_then f (Is x) = f x

-- a shape that is wrong comes first, then a number that is out of its range
abbrev pub both : {A B : Type 0} → Said A → Said B → Said (A × B)
both Bad b = Bad
both Range Bad = Bad
both Range Range = Range
both Range (Is y) = Range
both (Is x) Bad = Bad
both (Is x) Range = Range
both (Is x) (Is y) = Is (x, y)

abbrev pub all_said : {A : Type 0} → List (Said A) → Said (List A)
all_said [] = Is []
all_said (s ∷ ss) = said_map (λ p. p.0 ∷ p.1) (both s (all_said ss))

-- what a word says that has nothing behind it
abbrev pub bare : {A : Type 0} → A → List (List ℕ) → Said A
bare x [] = Is x
bare x (t ∷ ts) = Bad
