use Rattle.std.proofs.Common.{sym, ◌∙◌, ap, ◌++◌, [], ◌∷◌, reverse}
use Rattle.byte_lower.proofs.ListLemmas.{put_step, guard_places}
use Rattle.byte_lower.proofs.program.emit_next.Goals as goal

pub put_where-requires-clause-from : goal.put_where-requires-clause-from
put_where-requires-clause-from c =
    (guard_places c.args.layout.now c.args.ops.now c.args.k c.in-Some.guard (sym c.guard_at.ensures ∙ c.in-Some.is) c.requires.range).0

pub put_where-requires-clause-to : goal.put_where-requires-clause-to
put_where-requires-clause-to c =
    (guard_places c.args.layout.now c.args.ops.now c.args.k c.in-Some.guard (sym c.guard_at.ensures ∙ c.in-Some.is) c.requires.range).1

pub returns-in_ok-push-in-Some : goal.returns-in_ok-push-in-Some
returns-in_ok-push-in-Some c =
    put_step c.args.layout.now c.args.ops.now c.args.k (reverse c.args.labels.now.items) c.in-Some.guard c.push.new.self c.args.code.now c.requires.some
    (sym c.guard_at.ensures ∙ c.in-Some.is)
    (c.in_ok-push-in-Some.ensures.ok ∙ ap (λ p. c.args.code.now ++ p ∷ []) c.put_where.ensures)
