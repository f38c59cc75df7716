-- Operations that nest do nothing in a branch that does not run.
use Rattle.std.proofs.Common.{◌≡◌, ℕ, Bool, true, false, not, List, [], ◌∷◌, ◌++◌, length, refl, arith}
use Rattle.std.proofs.lemmas.Bool.{and_parts}
use Rattle.ladder_meaning.specs.declared.reading.Reading.{Reading}
use Rattle.int_code.specs.Meaning.{Moment, all_run, holds, step, run}
use Rattle.int_code.specs.Shapes.{shape_of}
use Rattle.int_code.specs.Store.{Store}
use Rattle.int_code.specs.WellFormed.{nests_by, nests}
use Rattle.int_code.specs.declared.op.IntOp.{IntOp}
use Rattle.int_code.specs.declared.op.Shape.{Shape}
use Rattle.int_code.specs.declared.op.Shape.TheVariants.{Opens, Turns, Closes, Plain}

-- some ifs are open inside the branch
module _ (r : Reading) (outer : List Bool) (t : Store) (n : ℕ) (off : all_run outer ≡ false) where
  abbrev inside : List Bool → Moment
  inside inner = record { ifs = inner ++ outer; store = t; count = n }

  still_off : (inner : List Bool) → all_run (inner ++ outer) ≡ false
  still_off [] = off
  still_off (b ∷ bs) = rw (still_off bs) refl

  abbrev Sleeps : List IntOp → Type 0
  Sleeps ops = (es inner : List Bool) → length es ≡ length inner → nests ops es ≡ true → run r ops (inside inner) ≡ inside []

  sleeps_by : (op : IntOp) (ops : List IntOp) → Sleeps ops → (shape : Shape) → shape_of op ≡ shape → (es inner : List Bool) → length es ≡ length inner
      → nests_by shape (nests ops) es ≡ true → run r ops (step r op (inside inner)) ≡ inside []
  sleeps_by op ops rest Opens e es inner l h = rw (e, still_off inner) (rest (false ∷ es) (holds r op t ∷ inner) (omega (arith, l)) h)
  sleeps_by op ops rest Turns e (d ∷ es) (b ∷ bs) l h = rw (e, still_off bs) (rest (true ∷ es) (not b ∷ bs) (omega (arith, l)) (and_parts (not d) _ h).1)
  sleeps_by op ops rest Turns e (d ∷ es) [] l h = absurd (omega (arith, l))
  sleeps_by op ops rest Turns e [] inner l h = absurd cc
  sleeps_by op ops rest Closes e (d ∷ es) (b ∷ bs) l h = rw (e, still_off bs) (rest es bs (omega (arith, l)) h)
  sleeps_by op ops rest Closes e (d ∷ es) [] l h = absurd (omega (arith, l))
  sleeps_by op ops rest Closes e [] inner l h = absurd cc
  sleeps_by op ops rest Plain e es inner l h = rw (e, still_off inner) (rest es inner l h)

  sleeps : (ops : List IntOp) → Sleeps ops
  sleeps [] [] [] l h = refl
  sleeps [] [] (b ∷ bs) l h = absurd (omega (arith, l))
  sleeps [] (e ∷ es) inner l h = absurd cc
  sleeps (op ∷ ops) es inner l h = sleeps_by op ops (sleeps ops) (shape_of op) refl es inner l h

pub asleep : (r : Reading) (ops : List IntOp) (m : Moment) → nests ops [] ≡ true → all_run m.ifs ≡ false → run r ops m ≡ m
asleep r ops m nested off = sleeps r m.ifs m.store m.count off ops [] [] refl nested
