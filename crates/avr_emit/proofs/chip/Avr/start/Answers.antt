use Rattle.std.proofs.Common.{append_assoc}
use Rattle.avr_code.specs.Code.{clear_code, setup_code}
use Rattle.avr_emit.specs.Chip.{board_of}
use Rattle.avr_emit.proofs.Words.{words_append}
use Rattle.avr_emit.proofs.chip.Avr.start.Goals as goal

pub returns : goal.returns
returns c =
    rw (
      c.in_ok-clear.ensures,
      c.in_ok-put.ensures,
      c.ldi.ensures.value,
      append_assoc,
      append_assoc,
      ← (words_append (clear_code c.args.cells) (setup_code (board_of c.args.self.now))),
    ) at c.setup.ensures
