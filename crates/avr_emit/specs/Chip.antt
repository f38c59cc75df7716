-- What a chip's wiring is to the code.
use Rattle.avr_code.specs.Code.{Board}
use Rattle.avr_emit.specs.declared.chip.Avr.{Avr}

abbrev pub board_of : Avr → Board
board_of t = record { outputs = t.outputs; settings = t.settings }
