use Rattle.std.proofs.Common.{◌≡◌, ◌+◌, ◌++◌, drop}
use Rattle.target_core.specs.Whole.{words_sum}
use Rattle.target_core.specs.Image.{image_from}
use Rattle.target_core.proofs.assemble.emit_all.Given as goal

abbrev pub invariant-loop-i : goal.invariant-loop-i
invariant-loop-i g l =
    let t = g.T.Machine16.target l.t in
    record {
      at : l.at + words_sum t (drop l.i l.code) ≡ words_sum t l.code;
      told : l.words ++ image_from t l.labels l.at (drop l.i l.code) ≡ image_from t l.labels 0 l.code;
    }
