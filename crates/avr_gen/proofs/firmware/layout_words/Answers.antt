use Rattle.std.proofs.Common.{◌<◌, ◌^◌, IfOk, List, sym, subst}
use Rattle.byte_code.specs.declared.prim.Paced.{Paced}
use Rattle.target_core.specs.Whole.{words_sum, cycles_sum, boot_sum, RunsAs}
use Rattle.avr_code.specs.Target.{avr_target}
use Rattle.avr_gen.proofs.Costs.{sums_fit}
use Rattle.avr_gen.specs.Admission.{board_of}
use Rattle.avr_gen.proofs.firmware.layout_words.Goals as goal

pub avr_words-requires-clause-words : goal.avr_words-requires-clause-words
avr_words-requires-clause-words c =
    subst (λ (code : List Paced). words_sum (avr_target (board_of c.args.layout c.args.settings)) code < 2 ^ 32) (sym c.in-Ok.ensures.code)
    (sums_fit c.args.layout (board_of c.args.layout c.args.settings) c.requires.board c.args.program.now c.requires.can).0

pub avr_words-requires-clause-cycles : goal.avr_words-requires-clause-cycles
avr_words-requires-clause-cycles c =
    subst (λ (code : List Paced). cycles_sum (avr_target (board_of c.args.layout c.args.settings)) code < 2 ^ 32) (sym c.in-Ok.ensures.code)
    (sums_fit c.args.layout (board_of c.args.layout c.args.settings) c.requires.board c.args.program.now c.requires.can).1

pub avr_words-requires-clause-boot : goal.avr_words-requires-clause-boot
avr_words-requires-clause-boot c =
    subst (λ (code : List Paced). boot_sum (avr_target (board_of c.args.layout c.args.settings)) code < 2 ^ 32) (sym c.in-Ok.ensures.code)
    (sums_fit c.args.layout (board_of c.args.layout c.args.settings) c.requires.board c.args.program.now c.requires.can).2

pub returns-clause-runs : goal.returns-clause-runs
returns-clause-runs c =
    subst (λ (code : List Paced). IfOk c.avr_words.result (λ a. RunsAs (avr_target (board_of c.args.layout c.args.settings)) code a.words a.cycles a.boot))
    c.in-Ok.ensures.code c.avr_words.ensures.runs
