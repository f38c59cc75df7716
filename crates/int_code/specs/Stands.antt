-- When a run that keeps no stack stands for a moment.
use Rattle.std.specs.Prelude.{◌≡◌, ℕ, zero, suc, ◌+◌, Bool, true, false, List, [], ◌∷◌, None}
use Rattle.int_code.specs.declared.cycle.Progress.{Progress}
use Rattle.int_code.specs.declared.op.IntOp.{IntOp}
use Rattle.int_code.specs.declared.op.Shape.{Shape}
use Rattle.int_code.specs.declared.op.Shape.TheVariants.{Opens, Turns, Closes, Plain}
use Rattle.int_code.specs.declared.state.State.{State}
use Rattle.int_code.specs.Held.{store_of}
use Rattle.int_code.specs.Meaning.{Moment, all_run}
use Rattle.int_code.specs.Shapes.{shape_of}

-- all branches run but one, which has depth more ifs inside
abbrev pub IsOff : ℕ → List Bool → Type 0
IsOff depth [] = ⊥
IsOff zero (b ∷ bs) = (b ≡ false) × (all_run bs ≡ true)
IsOff (suc depth) (b ∷ bs) = IsOff depth bs

abbrev pub IsMode : Bool → ℕ → List Bool → Type 0
IsMode true depth ifs = IsOff depth ifs
IsMode false depth ifs = all_run ifs ≡ true

-- a byte is sent where the transmitter sends
abbrev pub IsIdle : State → Type 0
IsIdle s = s.devices.sending ≡ false → s.devices.sent ≡ None

pub record Stands (m : Moment) (p : Progress) (s : State) : Type 0 where
  pub mode : IsMode p.skips p.depth m.ifs
  pub count : p.count ≡ m.count
  pub store : store_of s ≡ m.store

-- an `els` has an open if
abbrev pub IsOpenForShape : Shape → List Bool → Type 0
IsOpenForShape Opens ifs = Unit {0}
IsOpenForShape Turns [] = ⊥
IsOpenForShape Turns (b ∷ bs) = Unit {0}
IsOpenForShape Closes ifs = Unit {0}
IsOpenForShape Plain ifs = Unit {0}

abbrev pub IsOpenFor : IntOp → List Bool → Type 0
IsOpenFor op ifs = IsOpenForShape (shape_of op) ifs

-- an operation of a branch that does not run
abbrev pub skipped_at : ℕ → Shape → Progress → Progress
skipped_at depth Opens p = record { skips = p.skips; depth = depth + 1; count = p.count }
skipped_at zero Turns p = record { skips = false; depth = zero; count = p.count }
skipped_at zero Closes p = record { skips = false; depth = zero; count = p.count + 1 }
skipped_at (suc depth) Closes p = record { skips = p.skips; depth = depth; count = p.count }
skipped_at (suc depth) Turns p = p
skipped_at depth Plain p = p

abbrev pub skipped : IntOp → Progress → Progress
skipped op p = skipped_at p.depth (shape_of op) p
