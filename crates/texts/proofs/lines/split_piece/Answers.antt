use Rattle.std.proofs.Common.{◌≡◌, ◌+◌, ◌-◌, length, take, drop, sym, arith, rules, length-drop}
use Rattle.std.proofs.lemmas.List.{take_all}
use Rattle.texts.proofs.LineLemmas.{cut_piece, cut_none}
use Rattle.texts.proofs.lines.split_piece.Goals as goal

pub returns-in_err-place-clause-cut : goal.returns-in_err-place-clause-cut
returns-in_err-place-clause-cut c = rw (cut_none c.args.separator c.args.text.now c.in_err-place.ensures.none) (search rules)

pub returns-clause-cut : goal.returns-clause-cut
returns-clause-cut c =
    let text = c.args.text.now in
    let place = c.in_ok-place.place in
    let behind = drop (place + 1) text in
    let all : take (length text - (place + 1)) behind ≡ behind = take_all _ behind (simp length-drop (omega arith)) in
    let found = c.in_ok-place.ensures.found in
    rw all (sym (cut_piece c.args.separator text (take place text) behind record { parts = found.0; clean = found.1 }))
