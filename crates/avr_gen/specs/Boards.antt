-- Boards of the ATmega16 for a layout.
use Rattle.std.specs.Prelude.{◌≢◌, ℕ, ◌<◌, length}
use Rattle.byte_lower.specs.Layout.{pin_at}
use Rattle.byte_lower.specs.declared.layout.Layout.{Layout}
use Rattle.avr_code.specs.Code.{Board}
use Rattle.avr_chip.specs.Layout.{IsAvrLayout}

-- The layout is one for this chip. Its inputs are at pins of the four ports, none of them at an output's, and the timer's setting fits its registers.
pub record IsBoardFor (o : Layout) (board : Board) : Type 0 where
  pub layout : IsAvrLayout board o
  pub inputs : (k : ℕ) → k < length o.inputs → ((pin_at o.inputs k).port < 4) × ((pin_at o.inputs k).bit < 8)
  pub crossed : (i j : ℕ) → i < length o.inputs → j < length o.outputs → pin_at o.inputs i ≢ pin_at o.outputs j
  pub control : board.settings.timer.control < 256
  pub compare : board.settings.timer.compare < 65536
