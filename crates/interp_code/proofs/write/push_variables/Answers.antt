use Rattle.std.proofs.Common.{get_or, pos, arith, rules, append_assoc, FitsSigned}
use mir.Syntax.{w16}
use Rattle.std.proofs.lemmas.Grind.{common_steps}
use Rattle.std.proofs.lemmas.List.Elements.{All-more}
use Rattle.int_code.specs.Literals.{IsNumber}
use Rattle.interp_code.proofs.TextLemmas.{variables_more}
use Rattle.interp_code.proofs.SpelledWords.{name_is_ascii, number_fits}
use Rattle.interp_code.proofs.ReadsBack.{names_at}
use Rattle.interp_code.proofs.write.push_variables.Goals as goal

pub push_ascii-requires : goal.push_ascii-requires
push_ascii-requires c =
    let valid = names_at c.args.names.now c.loop-k.k c.index-names-k.result c.requires.names c.loop-k-test.true c.index-names-k.is in
    rw c.as_slice.ensures (name_is_ascii c.index-names-k.result valid)

pub loop-k-preserved : goal.loop-k-preserved
loop-k-preserved c =
    let starts = c.args.starts.now in
    let k = c.loop-k.k in
    let short : FitsSigned w16 (get_or starts k (pos 0)) = search rules in record {
      bytes =
          let more = variables_more c.args.names.now starts k c.index-names-k.result c.requires.starts c.loop-k-test.true c.index-names-k.is in
          let written = c.in_ok-writeln.ensures.bytes in
          grind (arith, common_steps, append_assoc);
      numbers = All-more IsNumber starts k (pos 0) (omega arith) c.loop-k.invariant.numbers (number_fits (get_or starts k (pos 0)) short);
    }
