-- The names of a project's variables are short enough for an interpretable text.
use Rattle.std.proofs.Common.{◌≡◌, ℕ, zero, suc, ◌<◌, ◌≤◌, Bool, true, false, not, ◌&&◌, ◌||◌, ◌==◌, nat_le, List, [], ◌∷◌, ◌++◌, length, refl, arith, decimal, lit<, length-append}
use Rattle.std.proofs.lemmas.Bool.{and_from, and_parts}
use Rattle.std.proofs.lemmas.Bool.Decides.{nat_tests}
use Rattle.std.proofs.lemmas.Fmt.{length-decimal-le}
use Rattle.std.specs.List.{list_all}
use Rattle.interp_code.proofs.SpelledWords.{decimal_digits}
use Rattle.ladder_tree.specs.Names.{is_letter, is_name_byte, is_name_within, is_name, operand_names, numbered_names, analog_names, persistent_names, variable_names, all_named}
use Rattle.texts.specs.Digits.{is_digit}
use Rattle.ladder_tree.specs.declared.element.Leaf as leaf
use Rattle.ladder_tree.specs.declared.element.LeafKind.{LeafKind}
use Rattle.ladder_tree.specs.declared.element.LeafKind.TheVariants as kind
use Rattle.ladder_tree.specs.declared.element.Operand.{Operand}
use Rattle.ladder_tree.specs.declared.element.Operand.TheVariants.{Var, Num}
use Rattle.ladder_tree.specs.declared.limits.TheConstants.{NAME_BYTES, SHIFT_PLACES}
use Rattle.ld_line.specs.Range.{is_integer, is_read_kind, is_read_operand}

abbrev are_within : List (List ℕ) → Bool
are_within names = list_all (is_name_within 66) names

digit_byte : (b : ℕ) → is_digit b ≡ true → is_name_byte b ≡ true
digit_byte b h = by (is_letter b)
  where
    by : (x : Bool) → (x || (is_digit b || b == 95)) ≡ true
    by true = refl
    by false = rw h refl

digits_bytes : (ds : List ℕ) → list_all is_digit ds ≡ true → list_all is_name_byte ds ≡ true
digits_bytes [] h = refl
digits_bytes (d ∷ ds) h = let p = and_parts (is_digit d) _ h in and_from _ _ (digit_byte d p.0) (digits_bytes ds p.1)

bytes_joined : (a b : List ℕ) → list_all is_name_byte a ≡ true → list_all is_name_byte b ≡ true → list_all is_name_byte (a ++ b) ≡ true
bytes_joined [] b f g = g
bytes_joined (x ∷ a) b f g = let p = and_parts (is_name_byte x) _ f in and_from _ _ p.0 (bytes_joined a b p.1 g)

within : (n most : ℕ) → nat_le n most ≡ true → n ≤ most
within n most h = grind (arith, nat_tests)

is_within : (n most : ℕ) → n ≤ most → nat_le n most ≡ true
is_within n most h = grind (arith, nat_tests)

-- a name, and a number of two digits behind it
numbered_within : (name : List ℕ) (k : ℕ) → is_name name ≡ true → k < SHIFT_PLACES → is_name_within 66 (name ++ decimal k) ≡ true
numbered_within [] k h lt = absurd cc
numbered_within (b ∷ bs) k h lt =
    let p = and_parts (not (is_digit b)) _ h in
    let q = and_parts (list_all is_name_byte (b ∷ bs)) _ p.1 in
    let two = length-decimal-le 2 k (lit< tt) (omega (arith, lt)) (omega (arith, lt)) in
    let le = within (length (b ∷ bs)) NAME_BYTES q.1 in
    and_from _ _ p.0 (and_from _ _
    (bytes_joined (b ∷ bs) (decimal k) q.0 (digits_bytes (decimal k) (decimal_digits k (omega (arith, lt)))))
    (is_within _ 66 (omega (arith, two, le, length-append bs (decimal k)))))

within_66 : (name : List ℕ) → is_name name ≡ true → is_name_within 66 name ≡ true
within_66 [] h = cc
within_66 (b ∷ bs) h =
    let p = and_parts (not (is_digit b)) _ h in
    let q = and_parts (list_all is_name_byte (b ∷ bs)) _ p.1 in
    and_from _ _ p.0 (and_from _ _ q.0 (is_within (length (b ∷ bs)) 66 (let le = within (length (b ∷ bs)) NAME_BYTES q.1 in omega (arith, le))))

joined : (a b : List (List ℕ)) → are_within a ≡ true → are_within b ≡ true → are_within (a ++ b) ≡ true
joined [] b f g = g
joined (x ∷ a) b f g = let p = and_parts (is_name_within 66 x) _ f in and_from _ _ p.0 (joined a b p.1 g)

one : (name : List ℕ) → is_name name ≡ true → are_within (name ∷ []) ≡ true
one name h = and_from _ _ (within_66 name h) refl

operand_within : (a : Operand) → is_read_operand a ≡ true → are_within (operand_names a) ≡ true
operand_within (Var name) h = one name h
operand_within (Num n) h = refl

numbered_all : (name : List ℕ) (k : ℕ) → is_name name ≡ true → k ≤ SHIFT_PLACES → are_within (numbered_names name k) ≡ true
numbered_all name zero h le = refl
numbered_all name (suc k) h le =
    joined (numbered_names name k) _ (numbered_all name k h (omega (arith, le))) (and_from _ _ (numbered_within name k h (omega (arith, le))) refl)

with_operand : (dest : List ℕ) (a : Operand) → is_name dest ≡ true → is_read_operand a ≡ true → are_within (dest ∷ operand_names a) ≡ true
with_operand dest a h k = and_from _ _ (within_66 dest h) (operand_within a k)

names_within : (k : LeafKind) → is_read_kind k ≡ true → are_within (variable_names k) ≡ true
names_within (kind.Timer how name delay) h = one name (and_parts (is_name name) _ h).0
names_within (kind.Counter how name max) h = one name (and_parts (is_name name) _ h).0
names_within (kind.Reset name) h = one name h
names_within (kind.Move dest src) h = let p = and_parts (is_name dest) _ h in with_operand dest src p.0 p.1
names_within (kind.Math how dest a b) h =
    let p = and_parts (is_name dest) _ h in
    let q = and_parts (is_read_operand a) _ p.1 in
    and_from _ _ (within_66 dest p.0) (joined (operand_names a) (operand_names b) (operand_within a q.0) (operand_within b q.1))
names_within (kind.Compare how a b) h =
    let q = and_parts (is_read_operand a) _ h in joined (operand_names a) (operand_names b) (operand_within a q.0) (operand_within b q.1)
names_within (kind.Shift name places) h =
    let p = and_parts (is_name name) _ h in
    let q = and_parts (nat_le 1 places) _ p.1 in
    numbered_all name places p.0 (within places SHIFT_PLACES q.1)
names_within (kind.Table dest index as_text values) h =
    let p = and_parts (is_name dest) _ h in
    let q = and_parts (is_read_operand index && list_all is_integer values) _ p.1 in
    let r = and_parts (is_read_operand index) _ q.0 in
    with_operand dest index p.0 r.0
names_within (kind.ReadAdc name) h = one name h
names_within (kind.SetPwm name hz) h = one name (and_parts (is_name name) _ h).0
names_within (kind.Recv name) h = one name h
names_within (kind.Send name) h = one name h
names_within (kind.Persist name) h = one name h
names_within (kind.Linear dest index points) h = absurd cc
names_within (kind.Formatted name text) h = absurd cc
names_within _ h = refl

module _ (names : LeafKind → List (List ℕ)) (of_kind : (k : LeafKind) → is_read_kind k ≡ true → are_within (names k) ≡ true) where
  all_within : (ls : List leaf.Leaf) → list_all (λ l. is_read_kind l.kind) ls ≡ true → are_within (all_named names ls) ≡ true
  all_within [] h = refl
  all_within (l ∷ ls) h = let p = and_parts (is_read_kind l.kind) _ h in joined (names l.kind) (all_named names ls) (of_kind l.kind p.0) (all_within ls p.1)

analog_within : (k : LeafKind) → is_read_kind k ≡ true → are_within (analog_names k) ≡ true
analog_within (kind.ReadAdc name) h = one name h
analog_within _ h = refl

persistent_within : (k : LeafKind) → is_read_kind k ≡ true → are_within (persistent_names k) ≡ true
persistent_within (kind.Persist name) h = one name h
persistent_within _ h = refl

pub variables_within : (ls : List leaf.Leaf) → list_all (λ l. is_read_kind l.kind) ls ≡ true → list_all (is_name_within 66) (all_named variable_names ls) ≡ true
variables_within = all_within variable_names names_within

pub analogs_within : (ls : List leaf.Leaf) → list_all (λ l. is_read_kind l.kind) ls ≡ true → list_all (is_name_within 66) (all_named analog_names ls) ≡ true
analogs_within = all_within analog_names analog_within

pub persistents_within : (ls : List leaf.Leaf) → list_all (λ l. is_read_kind l.kind) ls ≡ true
    → list_all (is_name_within 66) (all_named persistent_names ls) ≡ true
persistents_within = all_within persistent_names persistent_within
