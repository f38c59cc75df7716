use Rattle.std.proofs.Common.{◌≡◌, IfOk, Option, subst}
use Rattle.int_code.specs.declared.op.IntOp.{IntOp}
use Rattle.interp_code.proofs.WordLemmas.{five_words}
use Rattle.interp_code.proofs.operation.op_with_more.Goals as goal

pub returns-in-Some : goal.returns-in-Some
returns-in-Some c =
    let P : Option IntOp → Type 0 = λ o. IfOk c.table-in-Some.result (λ op. op ≡ o) in
    subst P (five_words c.args.word.now c.args.a.now c.args.b.now c.args.c.now c.args.behind c.in-Some.field-0 c.in-Some.is) c.table-in-Some.ensures
