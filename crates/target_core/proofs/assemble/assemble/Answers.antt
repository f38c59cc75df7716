use Rattle.std.proofs.Common.{◌≤◌, [], length, arith, sym, ap, ◌∙◌, subst}
use Rattle.target_core.specs.Whole.{words_sum, cycles_sum, RunsAs}
use Rattle.target_core.specs.Image.{image_from, table_from}
use Rattle.target_core.proofs.Assembly.{runs_as, length_whole}
use Rattle.target_core.proofs.assemble.assemble.Goals as goal

pub returns-in-Ok-emit_all-clause-runs : goal.returns-in-Ok-emit_all-clause-runs
returns-in-Ok-emit_all-clause-runs g c =
    let t = g.T.Machine16.target c.args.t.now in
    let fits : words_sum t c.args.code.now ≤ t.size = omega (arith, c.if-have-need.false, c.word_count-need.ensures, c.flash_words-have.ensures.size) in
    let words = c.in-Ok-emit_all.ensures ∙ ap (λ l. image_from t l 0 c.args.code.now) c.in-Ok.ensures in
    let all = runs_as t c.args.code.now c.requires.whole fits (g.met.T.Machine16.law c.args.t.now).0 in
    subst (λ w. RunsAs t c.args.code.now w c.cycle_count-cycles.result c.boot_count-boot.result) (sym words)
    (subst (λ n. RunsAs t c.args.code.now (image_from t (table_from t.words_in 0 [] c.args.code.now) 0 c.args.code.now) n c.boot_count-boot.result)
    (sym c.cycle_count-cycles.ensures)
    (subst (λ n. RunsAs t c.args.code.now (image_from t (table_from t.words_in 0 [] c.args.code.now) 0 c.args.code.now) (cycles_sum t c.args.code.now) n)
    (sym c.boot_count-boot.ensures) all))

pub returns-in-Ok-emit_all-clause-length : goal.returns-in-Ok-emit_all-clause-length
returns-in-Ok-emit_all-clause-length g c =
    let t = g.T.Machine16.target c.args.t.now in
    let fits : words_sum t c.args.code.now ≤ t.size = omega (arith, c.if-have-need.false, c.word_count-need.ensures, c.flash_words-have.ensures.size) in
    let words = c.in-Ok-emit_all.ensures ∙ ap (λ l. image_from t l 0 c.args.code.now) c.in-Ok.ensures in
    ap length words ∙ length_whole t c.args.code.now c.requires.whole fits (g.met.T.Machine16.law c.args.t.now).0
