-- The words of code.
use Rattle.std.proofs.Common.{◌≡◌, ℕ, ◌+◌, ◌/◌, ◌%◌, Bool, true, false, drop, List, [], ◌∷◌, ◌++◌, refl, ap, ◌∙◌, sym, append_assoc}
use Rattle.std.specs.Prelude.{◌==◌, if◌then◌else◌, slice_get, Some}
use Rattle.target_core.proofs.Images.{drop_next}
use Rattle.byte_code.specs.declared.prim.BitSource.{BitSource}
use Rattle.byte_code.specs.declared.prim.BitDest.{BitDest}
use Rattle.byte_code.specs.declared.prim.BitDest.TheVariants as dest
use Rattle.avr_mach.specs.declared.insn.AvrInsn.TheVariants as insn
use Rattle.avr_mach.specs.Words.{size_of}
use Rattle.avr_code.specs.Code.{Piece, Plain, insn_of, fetch_code, put_if_code, wire_taken, next_value, values_from, table_code, words_by, words_of}
use Rattle.avr_counts.specs.Tested.{put_where}
use Rattle.avr_emit.specs.Emit.{wire_given}

-- the words of two parts are those of the first and those of the second
pub words_append : (a b : List Piece) → words_of (a ++ b) ≡ words_of a ++ words_of b
words_append [] b = refl
words_append (p ∷ ps) b =
    ap (λ w. words_by (size_of (insn_of p)) (insn_of p) ++ w) (words_append ps b)
    ∙ sym (append_assoc (words_by (size_of (insn_of p)) (insn_of p)) (words_of ps) (words_of b))

-- a test follows what its bit is fetched by
pub words_put_if : (from : BitSource) (is : Bool) (to : BitDest) (x : Bool) →
    words_of (put_if_code from is to x) ≡ words_of (fetch_code from) ++ words_of (put_where from is to x)
words_put_if from is (dest.Cell a b) x = words_append (fetch_code from) (put_where from is (dest.Cell a b) x)
words_put_if from is (dest.Latch port b) x = words_append (fetch_code from) (put_where from is (dest.Latch port b) x)

pub words_wire : (a : ℕ) (from : BitSource) (inverted : Bool) →
    words_of (wire_taken a from inverted) ≡ words_of (fetch_code from) ++ words_of (wire_given a from inverted)
words_wire a from inverted = words_append (fetch_code from) (wire_given a from inverted)

-- the words of the next value of a table stand in front of those behind it
chosen : ℕ → ℕ → Bool → Bool → List Piece → List Piece
chosen i x low high rest =
    if low then (if high then rest else Plain (insn.Cpi 30 i) ∷ Plain (insn.Brbs 0 1) ∷ Plain (insn.Ldi 25 (x / 256 % 256)) ∷ rest) else
    (if high then Plain (insn.Cpi 30 i) ∷ Plain (insn.Brbs 0 1) ∷ Plain (insn.Ldi 24 (x % 256)) ∷ rest else
    Plain (insn.Cpi 30 i) ∷ Plain (insn.Brbs 0 2) ∷ Plain (insn.Ldi 24 (x % 256)) ∷ Plain (insn.Ldi 25 (x / 256 % 256)) ∷ rest)

next_append : (i before x : ℕ) (rest : List Piece) → words_of (next_value i before x rest) ≡ words_of (next_value i before x []) ++ words_of rest
unfolding chosen
next_append i before x rest = by (x % 256 == before % 256) (x / 256 % 256 == before / 256 % 256)
  where
    by : (low high : Bool) → words_of (chosen i x low high rest) ≡ words_of (chosen i x low high []) ++ words_of rest
    by true true = refl
    by true false = words_append (chosen i x true false []) rest
    by false true = words_append (chosen i x false true []) rest
    by false false = words_append (chosen i x false false []) rest

pub table_next : (i before : ℕ) (values : List ℕ) (x : ℕ) → slice_get values i ≡ Some x →
    words_of (values_from i before (drop i values)) ≡ words_of (next_value i before x []) ++ words_of (values_from (i + 1) x (drop (i + 1) values))
table_next i before values x e =
    ap (λ vs. words_of (values_from i before vs)) (drop_next values i x e) ∙ next_append i before x (values_from (i + 1) x (drop (i + 1) values))

-- and those of its first value in front of all the others
pub table_first : (values : List ℕ) (x : ℕ) → slice_get values 0 ≡ Some x →
    words_of (table_code values) ≡ words_of (table_code (x ∷ [])) ++ words_of (values_from 1 x (drop 1 values))
table_first values x e =
    ap (λ vs. words_of (table_code vs)) (drop_next values 0 x e) ∙ words_append (table_code (x ∷ [])) (values_from 1 x (drop 1 values))
