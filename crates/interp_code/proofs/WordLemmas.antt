-- What a line says by its words.
use Rattle.std.proofs.Common.{◌≡◌, ℕ, Bool, true, false, if◌then◌else◌, ◌==◌, List, [], ◌∷◌, Option, Some, Bor, refl, ap}
use Rattle.std.specs.Option.{option_map, option_or}
use Rattle.texts.specs.Lines.{onto, pieces}
use Rattle.interp_code.specs.Said.{words_of}
use Rattle.interp_code.specs.Line.{Line, Operation, op_of, table_of, head_of}

pub pieces-some : (s : ℕ) (text : List ℕ) → (x : List ℕ) × (xs : List (List ℕ)) × (pieces s text ≡ x ∷ xs)
pieces-some s [] = ([], [], refl)
pieces-some s (c ∷ cs) = by (c == s) (pieces-some s cs)
  where
    by : (b : Bool) → (x : List ℕ) × (xs : List (List ℕ)) × (pieces s cs ≡ x ∷ xs)
        → (x : List ℕ) × (xs : List (List ℕ)) × ((if b then [] ∷ pieces s cs else onto c (pieces s cs)) ≡ x ∷ xs)
    by true more = ([], pieces s cs, refl)
    by false more = (c ∷ more.0, more.1, ap (onto c) more.2)

-- what words say
abbrev pub words_say : List (List ℕ) → Option Line
words_say words = option_or (option_map Operation (op_of words)) (head_of words)

-- more words than four are a table
pub five_words : (word a b c : List ℕ) (behind : Option (Bor (List ℕ))) (text : Bor (List ℕ)) → behind ≡ Some text
    → table_of word a b c (words_of behind) ≡ op_of (word ∷ (a ∷ (b ∷ (c ∷ words_of behind))))
five_words word a b c behind text is = let some = pieces-some 32 text.now in rw (is, some.2) refl
