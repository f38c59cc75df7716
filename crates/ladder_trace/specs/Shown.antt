-- The line that is shown of a cycle.
use Rattle.std.specs.Prelude.{◌≡◌, ℕ, Bool, true, false, List, [], ◌∷◌, ◌++◌, length, codes, Option, None, Some}
use Rattle.std.specs.Fmt.{decimal, signed_decimal}
use Rattle.hex.specs.Hex.{encode_lower}
use Rattle.ladder_tree.specs.declared.names.Names.{Names}
use Rattle.ladder_meaning.specs.declared.reading.View.{View}

abbrev pub level_text : Bool → List ℕ
level_text false = codes "0"
level_text true = codes "1"

-- a name and what it has
abbrev pub named : List ℕ → List ℕ → List ℕ
named name text = codes " " ++ (name ++ (codes "=" ++ text))

-- each name and what it has, in order
abbrev pub all_named : {A : Type 0} → (A → List ℕ) → List (List ℕ) → List A → List ℕ
all_named text [] xs = []
all_named text (n ∷ ns) [] = []
all_named text (n ∷ ns) (x ∷ xs) = named n (text x) ++ all_named text ns xs

-- a word and what it has, where there is something
abbrev pub word_text : {A : Type 0} → List ℕ → (A → List ℕ) → Option A → List ℕ
word_text word text None = []
word_text word text (Some x) = word ++ text x

-- The line of the cycle of a number, with its line feed: the number, the outputs and then the relays, the variables, the
-- duty, the byte that was sent, and the bytes of the EEPROM as pairs of hexadecimal digits in lower case.
abbrev pub shown_text : Names → ℕ → View → List ℕ
shown_text n cycle v =
    decimal cycle
    ++ (all_named level_text n.outputs v.outputs
    ++ (all_named level_text n.relays v.relays
    ++ (all_named signed_decimal n.variables v.variables
    ++ (word_text (codes " pwm=") decimal v.pwm
    ++ (word_text (codes " sent=") decimal v.sent
    ++ (word_text (codes " ee=") encode_lower v.eeprom
    ++ codes "\n"))))))

-- a view with a level or a number for each name
pub record IsViewOf (n : Names) (v : View) : Type 0 where
  pub outputs : length v.outputs ≡ length n.outputs
  pub relays : length v.relays ≡ length n.relays
  pub variables : length v.variables ≡ length n.variables
