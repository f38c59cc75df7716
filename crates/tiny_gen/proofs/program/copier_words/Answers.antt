use Rattle.std.proofs.Common.{subst, sym}
use Rattle.std.proofs.lemmas.Result.{IfOk-weaker}
use Rattle.target_core.specs.Whole.{IsWhole, RunsAs}
use Rattle.tiny_gen.specs.Code.{tiny_target}
use Rattle.tiny_gen.specs.Copier.{Copies}
use Rattle.tiny_gen.proofs.Copying.{copier_is_whole}
use Rattle.tiny_gen.proofs.program.copier_words.Goals as goal

pub tiny_words-requires-clause-whole : goal.tiny_words-requires-clause-whole
tiny_words-requires-clause-whole c = subst (IsWhole tiny_target) (sym c.in-Ok.ensures) copier_is_whole

pub returns-in-Ok-clause-copies : goal.returns-in-Ok-clause-copies
returns-in-Ok-clause-copies c =
    IfOk-weaker c.tiny_words.result (λ a. RunsAs tiny_target c.in-Ok.code a.words a.cycles a.boot) (λ a. Copies a.words a.cycles a.boot)
    (λ a r. c.copier_words_copy.ensures a.words a.cycles a.boot (subst (λ code. RunsAs tiny_target code a.words a.cycles a.boot) c.in-Ok.ensures r))
    c.tiny_words.ensures.runs
