-- A branch that does not run.
use Rattle.std.proofs.Common.{◌≡◌, ℕ, zero, suc, Bool, true, false, List, [], ◌∷◌, refl, sym, ◌∙◌, add-one}
use Rattle.ladder_meaning.specs.declared.reading.Reading.{Reading}
use Rattle.int_code.specs.declared.op.IntOp.{IntOp}
use Rattle.int_code.specs.declared.op.IntOp.TheVariants.{Ifs, Ifc, Iflt, Ifeq, Ifee, Els, Fi}
use Rattle.int_code.specs.declared.op.Shape.{Shape}
use Rattle.int_code.specs.declared.op.Shape.TheVariants.{Opens, Turns, Closes, Plain}
use Rattle.int_code.specs.declared.state.State.{State}
use Rattle.int_code.specs.Held.{store_of}
use Rattle.int_code.specs.Meaning.{all_run, store_after, step}
use Rattle.int_code.specs.Shapes.{shape_of}
use Rattle.int_code.specs.Stands.{Stands, IsOff, IsOpenFor, IsOpenForShape, skipped_at}
use Rattle.int_code.specs.Store.{Store}

off_stops : (depth : ℕ) (ifs : List Bool) → IsOff depth ifs → all_run ifs ≡ false
off_stops depth [] h = absurd h
off_stops zero (b ∷ bs) h = rw (h.0, h.1) refl
off_stops (suc depth) (b ∷ bs) h = rw (off_stops depth bs h) refl

-- an operation that is part of an if writes nothing
pub keeps : (r : Reading) (op : IntOp) (t : Store) → (shape_of op ≡ Plain → ⊥) → store_after r op t ≡ t
keeps r (Ifs s) t h = refl
keeps r (Ifc s) t h = refl
keeps r (Iflt w u) t h = refl
keeps r (Ifeq w u) t h = refl
keeps r (Ifee v a) t h = refl
keeps r Els t h = refl
keeps r Fi t h = refl
keeps r op t h = absurd (h refl)

module _ (r : Reading) (s : State) (t : Store) (n : ℕ) (same : store_of s ≡ t) where
  abbrev Skips : IntOp → Shape → ℕ → List Bool → Type 0
  Skips op shape depth ifs =
      Stands (step r op (record { ifs = ifs; store = t; count = n })) (skipped_at depth shape (record { skips = true; depth = depth; count = n })) s

  skips_by : (op : IntOp) (shape : Shape) → shape_of op ≡ shape → (depth : ℕ) (ifs : List Bool) → IsOff depth ifs → IsOpenForShape shape ifs
      → Skips op shape depth ifs
  skips_by op Opens e depth ifs off open_for = rw (e, off_stops depth ifs off, add-one) (record { mode = off; count = refl; store = same })
  skips_by op Turns e zero (b ∷ bs) off open_for = rw (e, off.0, off.1) (record { mode = rw off.1 refl; count = refl; store = same })
  skips_by op Turns e (suc depth) (b ∷ bs) off open_for = rw (e, off_stops depth bs off) (record { mode = off; count = refl; store = same })
  skips_by op Turns e depth [] off open_for = absurd off
  skips_by op Closes e zero (b ∷ bs) off open_for = rw (e, off.1) (record { mode = off.1; count = refl; store = same ∙ sym (keeps r op t (λ p. cc)) })
  skips_by op Closes e (suc depth) (b ∷ bs) off open_for = rw (e, off_stops depth bs off) (record { mode = off; count = refl; store = same })
  skips_by op Closes e depth [] off open_for = absurd off
  skips_by op Plain e depth ifs off open_for = rw (e, off_stops depth ifs off) (record { mode = off; count = refl; store = same })

  pub skips : (op : IntOp) (depth : ℕ) (ifs : List Bool) → IsOff depth ifs → IsOpenFor op ifs → Skips op (shape_of op) depth ifs
  skips op depth ifs off open_for = skips_by op (shape_of op) refl depth ifs off open_for
