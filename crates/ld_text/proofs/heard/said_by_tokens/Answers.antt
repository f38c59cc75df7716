use Rattle.std.proofs.Common.{sym, ap, ◌∙◌, eqb, map}
use Rattle.std.proofs.lemmas.List.{length-map}
use Rattle.std.proofs.lemmas.Result.{IfOk-weaker}
use Rattle.ld_line.specs.Rungs.{rung_tokens_say}
use Rattle.ld_text.specs.Place.{between, said_in}
use Rattle.ld_text.proofs.SaidLemmas.{said_in-header}
use Rattle.ld_text.proofs.StandLemmas.{said_in-between}
use Rattle.ld_text.proofs.heard.said_by_tokens.Goals as goal

pub returns-in-Header : goal.returns-in-Header
returns-in-Header c =
    let some = ap (λ k. eqb k 0) (length-map c.args.words.now (λ t. t.now)) ∙ sym c.is_empty.ensures ∙ c.if-is_empty.false in
    IfOk-weaker c.header_said.result _ _
    (λ said h. h ∙ sym (said_in-header c.args.site c.args.number c.args.line.now (map (λ t. t.now) c.args.words.now) c.in-Header.is c.requires some))
    c.header_said.ensures

pub returns-in-First : goal.returns-in-First
returns-in-First c = c.first_said.ensures c.args.number ∙ sym (ap (λ x. said_in x c.args.number c.args.line.now) c.in-First.is)

pub returns-in_ok-said-in-Between : goal.returns-in_ok-said-in-Between
returns-in_ok-said-in-Between c =
    let some = ap (λ k. eqb k 0) (length-map c.args.words.now (λ t. t.now)) ∙ sym c.is_empty.ensures ∙ c.if-is_empty.false in
    c.between.ensures
    ∙ ap between (c.in_ok-said-in-Between.ensures ∙ ap (λ ts. rung_tokens_say ts c.args.line.now) c.requires)
    ∙ sym (said_in-between c.args.site c.args.number c.args.line.now (map (λ t. t.now) c.args.words.now) c.in-Between.is c.requires some)
