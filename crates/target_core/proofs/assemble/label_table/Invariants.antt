use Rattle.std.proofs.Common.{◌≡◌, ◌+◌, [], drop}
use Rattle.target_core.specs.Whole.{words_sum}
use Rattle.target_core.specs.Image.{table_from}
use Rattle.target_core.proofs.assemble.label_table.Given as goal

abbrev pub invariant-loop-i : goal.invariant-loop-i
invariant-loop-i g l =
    let t = g.T.Machine16.target l.t in
    record {
      at : l.at + words_sum t (drop l.i l.code) ≡ words_sum t l.code;
      told : table_from t.words_in l.at l.labels (drop l.i l.code) ≡ table_from t.words_in 0 [] l.code;
    }
