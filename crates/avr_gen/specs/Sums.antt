-- What the code of a program takes on the ATmega16 at most.
use Rattle.std.specs.Prelude.{◌^◌, ◌<◌}
use Rattle.int_code.specs.declared.op.IntProgram.{IntProgram}
use Rattle.target_core.specs.Whole.{words_sum, cycles_sum, boot_sum}
use Rattle.byte_lower.specs.Code.{CanPlace, code_of}
use Rattle.byte_lower.specs.declared.layout.Layout.{Layout}
use Rattle.avr_code.specs.Code.{Board}
use Rattle.avr_code.specs.Target.{avr_target}
use Rattle.avr_gen.specs.Boards.{IsBoardFor}

-- numbers of 32 bits can say its words, its cycles, and those in front of the first reading
abbrev pub SumsFit : Type 0
SumsFit =
    (o : Layout) (board : Board) → IsBoardFor o board → (p : IntProgram) → CanPlace o p →
    (words_sum (avr_target board) (code_of o p) < 2 ^ 32) × (cycles_sum (avr_target board) (code_of o p) < 2 ^ 32)
    × (boot_sum (avr_target board) (code_of o p) < 2 ^ 32)
