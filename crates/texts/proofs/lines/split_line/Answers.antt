use Rattle.std.proofs.Common.{◌≡◌, [], length, take, drop, arith, ◌-◌}
use Rattle.std.proofs.lemmas.Grind.{common_steps}
use Rattle.texts.proofs.LineLemmas.{line_before, last_line}
use Rattle.texts.proofs.lines.split_line.Goals as goal

pub returns-in-Some-clause-line : goal.returns-in-Some-clause-line
returns-in-Some-clause-line c = line_before c.args.text.now c.in-Some.line.now c.in-Some.rest.now c.in-Some.ensures.piece

pub returns-in-None-clause-line : goal.returns-in-None-clause-line
returns-in-None-clause-line c =
    let text = c.args.text.now in
    let nothing : take (length text - length text) (drop (length text) text) ≡ [] = grind (arith, common_steps) in
    rw nothing (last_line text c.in-None.ensures.none c.if-is_empty.ensures)
