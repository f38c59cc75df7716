-- Operations nest exactly where they balance and each if closes.
use Rattle.std.proofs.Common.{◌≡◌, ℕ, suc, Bool, true, false, not, ◌&&◌, List, [], ◌∷◌, length, refl, ap, ◌∙◌}
use Rattle.int_code.specs.declared.op.IntOp.{IntOp}
use Rattle.int_code.specs.declared.op.Shape.{Shape}
use Rattle.int_code.specs.declared.op.Shape.TheVariants.{Opens, Turns, Closes, Plain}
use Rattle.int_code.specs.Shapes.{shape_of}
use Rattle.int_code.specs.WellFormed.{nests_by, nests}
use Rattle.int_code.specs.Closes.{closes_by, closes, closes_behind, all_close, balances_by, balances}

-- each open if closes by the rest, the first with so many others open inside it
abbrev open_close : (ℕ → Bool → Bool) → ℕ → List Bool → Bool
open_close rest depth [] = true
open_close rest depth (e ∷ es) = rest depth e && open_close rest (suc depth) es

-- what one operation in front does to open ifs
module _ (rest : ℕ → Bool → Bool) where
  past_opening : (depth : ℕ) (es : List Bool) → open_close (closes_by Opens rest) depth es ≡ open_close rest (suc depth) es
  past_opening depth [] = refl
  past_opening depth (e ∷ es) = rw (past_opening (suc depth) es) refl

  past_turning : (depth : ℕ) (es : List Bool) → open_close (closes_by Turns rest) (suc depth) es ≡ open_close rest (suc depth) es
  past_turning depth [] = refl
  past_turning depth (e ∷ es) = rw (past_turning (suc depth) es) refl

  past_closing : (depth : ℕ) (es : List Bool) → open_close (closes_by Closes rest) (suc depth) es ≡ open_close rest depth es
  past_closing depth [] = refl
  past_closing depth (e ∷ es) = rw (past_closing (suc depth) es) refl

  past_plain : (depth : ℕ) (es : List Bool) → open_close (closes_by Plain rest) depth es ≡ open_close rest depth es
  past_plain depth [] = refl
  past_plain depth (e ∷ es) = rw (past_plain (suc depth) es) refl

inner_first : (a b c d : Bool) → (a && (b && (c && d))) ≡ (a && ((c && b) && d))
inner_first false b c d = refl
inner_first true false false d = refl
inner_first true false true d = refl
inner_first true true false d = refl
inner_first true true true d = refl

flag_in : (f a b c d : Bool) → (f && (a && (b && (c && d)))) ≡ (a && (b && ((f && c) && d)))
flag_in true a b c d = refl
flag_in false false b c d = refl
flag_in false true false c d = refl
flag_in false true true c d = refl

module _ (ops : List IntOp) where
  abbrev parts : List Bool → Bool
  parts es = balances ops (length es) && (all_close ops && open_close (closes ops) 0 es)

  abbrev parts_behind : Shape → List Bool → Bool
  parts_behind shape es =
      balances_by shape (balances ops) (length es) && ((closes_behind shape ops && all_close ops) && open_close (closes_by shape (closes ops)) 0 es)

  parts_by : ((es : List Bool) → nests ops es ≡ parts es) → (shape : Shape) (es : List Bool) → nests_by shape (nests ops) es ≡ parts_behind shape es
  parts_by rest Opens es =
      rw (past_opening (closes ops) 0 es) (rest (false ∷ es) ∙ inner_first (balances ops (length (false ∷ es))) (all_close ops) (closes ops 0 false)
      (open_close (closes ops) 1 es))
  parts_by rest Turns [] = refl
  parts_by rest Turns (e ∷ es) =
      rw (past_turning (closes ops) 0 es) (ap (λ x. not e && x) (rest (true ∷ es)) ∙ flag_in (not e) (balances ops (length (true ∷ es))) (all_close ops)
      (closes ops 0 true) (open_close (closes ops) 1 es))
  parts_by rest Closes [] = refl
  parts_by rest Closes (e ∷ es) = rw (past_closing (closes ops) 0 es) (rest es)
  parts_by rest Plain es = rw (past_plain (closes ops) 0 es) (rest es)

nests_parts : (ops : List IntOp) (es : List Bool) → nests ops es ≡ parts ops es
nests_parts [] [] = refl
nests_parts [] (e ∷ es) = refl
nests_parts (op ∷ ops) es = parts_by ops (nests_parts ops) (shape_of op) es

and_true : (a b : Bool) → (a && (b && true)) ≡ (a && b)
and_true false b = refl
and_true true false = refl
and_true true true = refl

pub nests_closes : (ops : List IntOp) → nests ops [] ≡ (balances ops 0 && all_close ops)
nests_closes ops = nests_parts ops [] ∙ and_true (balances ops 0) (all_close ops)
