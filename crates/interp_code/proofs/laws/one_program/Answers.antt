use Rattle.std.proofs.Common.{◌≡◌, ℕ, List, Some, refl, sym, ap, ◌∙◌}
use Rattle.interp_code.specs.declared.program.InterpProgram.{InterpProgram}
use Rattle.interp_code.specs.Program.{IsSound, IsProgram, read_as}
use Rattle.interp_code.specs.Draft.{Draft}
use Rattle.interp_code.specs.Held.{program_of}
use Rattle.interp_code.proofs.Reading.{ended, says_ends}
use Rattle.interp_code.proofs.laws.one_program.Goals as goal

-- what was read at the end of the program's text
last_of : InterpProgram → Draft
last_of p = ended p.cycle (record p.names { memories = 0 }) p.program.starts p.program.bits p.program.ops

said_again : (p : InterpProgram) → IsSound p.names p.program → read_as p.cycle p.names p.program ≡ program_of (last_of p)
unfolding last_of
said_again p sound = rw (sound.input_count, sound.output_count, sound.analog_count, sound.variable_count, sound.persistent_count) refl

one : (ls : List (List ℕ)) (p q : InterpProgram) → IsProgram ls p → IsProgram ls q → p ≡ q
unfolding last_of
one ls p q hp hq =
    let same : Some (last_of p) ≡ Some (last_of q) = sym (says_ends ls p hp.says) ∙ says_ends ls q hq.says in
    let drafts : last_of p ≡ last_of q = cc in
    hp.says.whole ∙ said_again p hp.says.sound ∙ ap program_of drafts ∙ sym (said_again q hq.says.sound) ∙ sym hq.says.whole

pub returns : goal.returns
returns c = one
