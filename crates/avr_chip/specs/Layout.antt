-- Layouts whose pins are the ATmega16's.
use Rattle.std.specs.Prelude.{◌≡◌, ℕ, ◌<◌, List, [], ◌∷◌, length}
use Rattle.chip_tables.specs.declared.pins.PortBit.{PortBit}
use Rattle.chip_tables.specs.declared.target.Target.TheVariants.{Mega16}
use Rattle.byte_lower.specs.Layout.{pin_at}
use Rattle.byte_lower.specs.declared.layout.Layout.{Layout}
use Rattle.avr_code.specs.Code.{Board}

-- each is a bit of a byte
abbrev pub AreBits : List PortBit → Type 0
AreBits [] = Unit {0}
AreBits (p ∷ ps) = (p.bit < 8) × AreBits ps

-- the layout is one for this chip, with these outputs, at pins of its four ports
pub record IsAvrLayout (board : Board) (o : Layout) : Type 0 where
  pub target : o.plan.target ≡ Mega16
  pub outputs : board.outputs ≡ o.outputs
  pub ports : (k : ℕ) → k < length o.outputs → (pin_at o.outputs k).port < 4
  pub bits : AreBits o.outputs
