-- Names, flags, operands and lists of numbers are printed as tokens that are read again.
use Rattle.std.proofs.Common.{◌≡◌, ◌&&◌, ℕ, ◌≤◌, nat_le, Bool, true, false, not, if◌then◌else◌, ℤ, List, [], ◌∷◌, length, refl, ap, ◌∙◌, arith}
use Rattle.std.proofs.lemmas.Bool.{and_parts}
use Rattle.std.specs.List.{list_all}
use Rattle.std.proofs.lemmas.Bool.Decides.{nat_tests}
use Rattle.ladder_tree.specs.declared.element.CoilMode.{CoilMode}
use Rattle.ladder_tree.specs.declared.element.CoilMode.TheVariants as mode
use Rattle.ladder_tree.specs.declared.element.Operand.{Operand}
use Rattle.ladder_tree.specs.declared.element.Operand.TheVariants.{Var, Num}
use Rattle.ladder_tree.specs.Names.{is_name_byte, is_name}
use Rattle.ladder_tree.specs.declared.limits.TheConstants.{NAME_BYTES}
use Rattle.texts.specs.Digits.{is_digit}
use Rattle.ld_line.specs.Elements as elements
use Rattle.ld_line.specs.Operands as read
use Rattle.ld_line.specs.Range.{is_integer, is_read_operand}
use Rattle.ld_line.specs.Said.{said_map, both}
use Rattle.ld_line.specs.declared.said.Said.{Said}
use Rattle.ld_line.specs.declared.said.Said.TheVariants.{Bad, Is}
use Rattle.ld_print.specs.Words as words
use Rattle.ld_print.proofs.TokenLemmas.{is_plain, IsShort, AllShort}
use Rattle.ld_print.proofs.NumberLemmas.{integer_read, integer_short, integer_no_name, integer_no_character}

-- parts that are said, and what is made of them

pub both_said : {A B : Type 0} {a : Said A} {b : Said B} {x : A} {y : B} → a ≡ Is x → b ≡ Is y → both a b ≡ Is (x, y)
both_said {A} {B} {a} {b} {x} {y} e g = ap (λ s. both s b) e ∙ ap (both (Is x)) g

pub made_said : {A B C : Type 0} {a : Said A} {b : Said B} {x : A} {y : B} (f : A × B → C) → a ≡ Is x → b ≡ Is y → said_map f (both a b) ≡ Is (f (x, y))
made_said f e g = ap (said_map f) (both_said e g)

-- names

plain_name : (b : ℕ) → is_name_byte b ≡ true → is_plain b ≡ true
plain_name b h = grind (arith, nat_tests)

plain_names : (bs : List ℕ) → list_all is_name_byte bs ≡ true → list_all is_plain bs ≡ true
plain_names [] h = refl
plain_names (b ∷ bs) h = let g = and_parts (is_name_byte b) (list_all is_name_byte bs) h in rw (plain_name b g.0, plain_names bs g.1) refl

pub name_short : (n : List ℕ) → is_name n ≡ true → IsShort n
name_short [] h = absurd cc
name_short (b ∷ bs) h =
    let g = and_parts (not (is_digit b)) (list_all is_name_byte (b ∷ bs) && nat_le (length (b ∷ bs)) NAME_BYTES) h in
    let f = and_parts (list_all is_name_byte (b ∷ bs)) (nat_le (length (b ∷ bs)) NAME_BYTES) g.1 in
    record { token = record { some = omega arith; plain = plain_names (b ∷ bs) f.0 }; short = few (length (b ∷ bs)) f.1 }
  where
    few : (n : ℕ) → nat_le n NAME_BYTES ≡ true → n ≤ NAME_BYTES
    few n h = grind (arith, nat_tests)

pub name_read : (n : List ℕ) → is_name n ≡ true → read.name n ≡ Is n
name_read n h = ap (λ b. if b then Is n else Bad) h

-- flags

pub flag_short : (b : Bool) → IsShort (words.flag b)
flag_short true = record { token = record { some = omega arith; plain = refl }; short = omega arith }
flag_short false = record { token = record { some = omega arith; plain = refl }; short = omega arith }

pub flag_read : (b : Bool) → read.flag (words.flag b) ≡ Is b
flag_read true = refl
flag_read false = refl

pub flags_short : (m : CoilMode) → AllShort (words.mode_flags m)
flags_short mode.Plain = (flag_short false, (flag_short false, (flag_short false, tt)))
flags_short mode.Negated = (flag_short true, (flag_short false, (flag_short false, tt)))
flags_short mode.Set = (flag_short false, (flag_short true, (flag_short false, tt)))
flags_short mode.Reset = (flag_short false, (flag_short false, (flag_short true, tt)))

-- operands

pub operand_short : (o : Operand) → is_read_operand o ≡ true → IsShort (words.operand_text o)
operand_short (Var n) h = name_short n h
operand_short (Num n) h = integer_short n h

pub operand_read : (o : Operand) → is_read_operand o ≡ true → read.operand (words.operand_text o) ≡ Is o
unfolding read.operand
operand_read (Var n) h = rw h refl
operand_read (Num n) h = rw (integer_no_name n h, integer_no_character n h) (ap (said_map Num) (integer_read n h))

-- lists of numbers

pub integers_short : (ns : List ℤ) → list_all is_integer ns ≡ true → AllShort (words.integers ns)
integers_short [] h = tt
integers_short (n ∷ ns) h = let g = and_parts (is_integer n) (list_all is_integer ns) h in (integer_short n g.0, integers_short ns g.1)

pub integers_read : (ns : List ℤ) → list_all is_integer ns ≡ true → elements.integers (words.integers ns) ≡ Is ns
integers_read [] h = refl
integers_read (n ∷ ns) h = let g = and_parts (is_integer n) (list_all is_integer ns) h in made_said (λ p. p.0 ∷ p.1) (integer_read n g.0) (integers_read ns g.1)
