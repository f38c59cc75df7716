use Rattle.std.proofs.Common.{◌++◌, arith, append_assoc}
use Rattle.std.proofs.lemmas.Grind.{common_steps}
use Rattle.interp_code.proofs.TextLemmas.{joined_more}
use Rattle.interp_code.proofs.SpelledWords.{name_is_ascii}
use Rattle.interp_code.proofs.ReadsBack.{names_at}
use Rattle.interp_code.proofs.write.push_names.Goals as goal

pub push_ascii-requires : goal.push_ascii-requires
push_ascii-requires c =
    let valid = names_at c.args.names.now c.loop-name.name-index c.name-item.result c.requires c.loop-name-test.true c.name-item.is in
    rw c.as_slice.ensures (name_is_ascii c.name-item.result valid)

pub loop-name-preserved : goal.loop-name-preserved
loop-name-preserved c =
    let more = joined_more (λ n. c.args.word.now ++ n) c.args.names.now c.loop-name.name-index c.name-item.result c.loop-name-test.true in
    grind (arith, common_steps, append_assoc)
