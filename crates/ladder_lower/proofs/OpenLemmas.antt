-- Behind operations that nest, the open ifs are those before them.
use Rattle.std.proofs.Common.{◌≡◌, Bool, true, false, List, [], ◌∷◌, ◌++◌, refl}
use Rattle.int_code.specs.Shapes.{shape_of}
use Rattle.int_code.specs.WellFormed.{nests, nests_by}
use Rattle.int_code.specs.declared.op.IntOp.{IntOp}
use Rattle.int_code.specs.declared.op.Shape.TheVariants.{Opens, Turns, Closes, Plain}
use Rattle.int_code.specs.declared.op.Shape.{Shape}

module _ (rest : List IntOp) (outer : List Bool) where
  behind_by : (shape : Shape) (ops : List IntOp) (es : List Bool)
      → ((fs : List Bool) → nests ops fs ≡ true → nests (ops ++ rest) (fs ++ outer) ≡ nests rest outer) → nests_by shape (nests ops) es ≡ true
      → nests_by shape (nests (ops ++ rest)) (es ++ outer) ≡ nests rest outer
  behind_by Opens ops es ih is = ih (false ∷ es) is
  behind_by Turns ops [] ih is = absurd (cc)
  behind_by Turns ops (true ∷ es) ih is = absurd (cc)
  behind_by Turns ops (false ∷ es) ih is = ih (true ∷ es) is
  behind_by Closes ops [] ih is = absurd (cc)
  behind_by Closes ops (e ∷ es) ih is = ih es is
  behind_by Plain ops es ih is = ih es is

  pub nests_behind : (ops : List IntOp) (es : List Bool) → nests ops es ≡ true → nests (ops ++ rest) (es ++ outer) ≡ nests rest outer
  nests_behind [] [] is = refl
  nests_behind [] (e ∷ es) is = absurd (cc)
  nests_behind (op ∷ ops) es is = behind_by (shape_of op) ops es (nests_behind ops) is
