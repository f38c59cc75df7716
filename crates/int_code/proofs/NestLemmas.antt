-- One operation of a list that nests.
use Rattle.std.proofs.Common.{◌≡◌, ℕ, suc, ◌+◌, ◌<◌, Bool, true, false, not, ◌&&◌, List, [], ◌∷◌, length, get_or, drop, sym, ap, ◌∙◌, arith, add-one, drop-cons}
use Rattle.std.proofs.lemmas.Bool.{and_parts}
use Rattle.int_code.specs.declared.op.IntOp.{IntOp}
use Rattle.int_code.specs.declared.op.Shape.{Shape}
use Rattle.int_code.specs.declared.op.Shape.TheVariants.{Opens, Turns, Closes, Plain}
use Rattle.int_code.specs.Meaning.{ifs_behind}
use Rattle.int_code.specs.Stands.{IsOpenForShape}
use Rattle.int_code.specs.WellFormed.{nests_by, nests}

-- what stands behind an operation of a shape, which opens an if whose first branch runs or not
pub record Nested (shape : Shape) (runs : Bool) (ops : List IntOp) (ifs : List Bool) : Type 0 where
  pub flags : List Bool
  pub count : length flags ≡ length (ifs_behind shape runs ifs)
  pub rest : nests ops flags ≡ true
  pub is_open : IsOpenForShape shape ifs

pub nests_step : (shape : Shape) (runs : Bool) (ops : List IntOp) (ifs es : List Bool) → nests_by shape (nests ops) es ≡ true → length es ≡ length ifs
    → Nested shape runs ops ifs
nests_step Opens runs ops ifs es h l = record { flags = false ∷ es; count = omega (arith, l); rest = h; is_open = tt }
nests_step Turns runs ops (b ∷ bs) (e ∷ es) h l = record { flags = true ∷ es; count = omega (arith, l); rest = (and_parts (not e) _ h).1; is_open = tt }
nests_step Turns runs ops [] (e ∷ es) h l = absurd (omega (arith, l))
nests_step Turns runs ops ifs [] h l = absurd cc
nests_step Closes runs ops (b ∷ bs) (e ∷ es) h l = record { flags = es; count = omega (arith, l); rest = h; is_open = tt }
nests_step Closes runs ops [] (e ∷ es) h l = absurd (omega (arith, l))
nests_step Closes runs ops ifs [] h l = absurd cc
nests_step Plain runs ops ifs es h l = record { flags = es; count = l; rest = h; is_open = tt }

pub op_front : (ops : List IntOp) (i : ℕ) (op : IntOp) → i < length ops → op ≡ get_or ops i op → drop i ops ≡ op ∷ drop (i + 1) ops
op_front ops i op lt is = rw add-one (drop-cons ops i op lt ∙ ap (λ x. x ∷ drop (suc i) ops) (sym is))
