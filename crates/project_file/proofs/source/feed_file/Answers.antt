use Rattle.std.proofs.Common.{rules, ◌≡◌, ℕ, ◌+◌, ◌-◌, ◌≤◌, true, List, [], ◌++◌, length, take, arith, append_assoc, sym, ap, ◌∙◌, subst, length-append}
use Rattle.std.proofs.lemmas.Grind.{common_steps}
use Rattle.std.proofs.lemmas.List.{length-take, take-append-le}
use Rattle.texts.specs.declared.limits.TheConstants.{FILE_BYTES}
use Rattle.ld_text.specs.Text.{IsCause, early_fault}
use Rattle.project_file.proofs.SourceLemmas.{fed_whole, fed_over, fed_refused}
use Rattle.project_file.proofs.source.feed_file.Goals as goal

pub returns-then-n-eq0-clause-fed : goal.returns-then-n-eq0-clause-fed
returns-then-n-eq0-clause-fed g c =
    let F = g.F.Files in
    let fed = c.loop-taken.invariant.fed in
    let short = c.loop-taken.invariant.short in
    let empty : F.tells ≡ true → F.left c.loop-taken.files ≡ [] = search rules in
    (fed.0, fed.2, λ y. fed_whole FILE_BYTES fed.0 (F.left c.loop-taken.files) (F.left c.args.files.now) (fed.3 y) (empty y) (omega (arith, fed.1, short)))

pub returns-clause-fed : goal.returns-clause-fed
returns-clause-fed g c =
    let F = g.F.Files in
    let fed = c.loop-taken.invariant.fed in
    let short = c.loop-taken.invariant.short in
    let over = c.loop-taken-test.false in
    (fed.0, fed.2, λ y. fed_over FILE_BYTES fed.0 (F.left c.loop-taken.files) (F.left c.args.files.now) (fed.3 y) (omega (arith, fed.1, short, over)))

pub returns-in-Err-clause-refused : goal.returns-in-Err-clause-refused
returns-in-Err-clause-refused g c =
    let F = g.F.Files in
    let fed = c.loop-taken.invariant.fed in
    let piece = take c.in_ok-n.n c.read.new.buf in
    let most : length c.read.new.buf ≤ FILE_BYTES + 1 - c.loop-taken.taken = grind (arith, common_steps) in
    let short : length (fed.0 ++ piece) ≤ FILE_BYTES + 1 =
    omega (arith, length-append fed.0 piece, length-take c.in_ok-n.n c.read.new.buf, most, fed.1, c.loop-taken.invariant.short) in
    rw c.from.ensures
    (fed_refused (Unit {0}) F.tells (F.left c.args.files.now) fed.0 piece c.in-Err.e
    (λ y. (F.left c.read.new.self, fed.3 y ∙ ap (λ rest. fed.0 ++ rest) (c.in_ok-n.ensures.bytes y) ∙ sym (append_assoc fed.0 piece (F.left c.read.new.self))))
    short
    (subst (λ (p : List ℕ). IsCause (early_fault (fed.0 ++ p)) c.in-Err.e) (take-append-le c.in_ok-n.n c.read.new.buf _ c.in_ok-n.ensures.bound)
    (c.in-Err.ensures.refused fed.0 fed.2)))
