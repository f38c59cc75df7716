use Rattle.std.proofs.Common.{rules, arith, ◌≡◌, ◌≢◌, ◌+◌, [], ◌∷◌, ◌++◌, drop, refl, ap, ◌∙◌}
use Rattle.std.proofs.lemmas.Result.{on_ok_weaker, IfOk-weaker}
use Rattle.ladder_lower.specs.NodeCode.{Piece, piece, others_of}
use Rattle.ladder_lower.proofs.NodeLemmas.{fork, keep}
use Rattle.std.proofs.lemmas.Grind.{common_steps}
use Rattle.ladder_tree.specs.declared.project.Node.TheViews.{the_lemmas}
use Rattle.ladder_lower.proofs.LoopLemmas.{nesting_at, fit_at, fits_less, series_step, series_count, others_step, others_count, last_at, behind, not_empty}
use Rattle.ladder_lower.proofs.LoopLemmas.{forks, fork_step}
use Rattle.ladder_lower.proofs.node.+emit.Goals as goal

pub emit_series-loop-node-preserved : goal.emit_series-loop-node-preserved
emit_series-loop-node-preserved t c =
    let p = c.args.layout.now in
    rw (c.in_ok-k.ensures.code, c.in_ok-k.ensures.memories) (record {
      code =
          series_step p c.args.nodes.now c.loop-node.node-index c.node-item.result c.args.depth c.loop-node.k c.loop-node.ops _ c.loop-node-test.true
          c.node-item.is c.loop-node.invariant.code;
      count =
          series_count p c.args.nodes.now c.loop-node.node-index c.node-item.result c.loop-node.k _ c.loop-node-test.true c.node-item.is
          c.loop-node.invariant.count;
    })

pub emit_series-emit_node-requires : goal.emit_series-emit_node-requires
emit_series-emit_node-requires t c =
    let below = nesting_at c.args.nodes.now c.loop-node.node-index c.node-item.result c.loop-node-test.true c.node-item.is in
    let count = series_count c.args.layout.now c.args.nodes.now c.loop-node.node-index c.node-item.result c.loop-node.k _ c.loop-node-test.true
    c.node-item.is c.loop-node.invariant.count in (
      search (rules, the_lemmas, common_steps),
      (
        fits_less c.args.layout.now _ _ (omega (arith, below)) c.requires.fits,
        (
          omega (arith, count, c.requires.room),
          (
            c.requires.cycle,
            fit_at c.args.layout.now.cycle c.args.nodes.now c.loop-node.node-index c.node-item.result c.loop-node-test.true c.node-item.is
                c.requires.fit,
          ),
        ),
      ),
    )

pub emit_parallel-returns-in_ok-push-in-len1-up-2-clause-code :
    goal.emit_parallel-returns-in_ok-push-in-len1-up-2-clause-code
emit_parallel-returns-in_ok-push-in-len1-up-2-clause-code t c =
    let p = c.args.layout.now in
    let ns = c.args.branches.now in
    let many : behind ns ≢ [] = not_empty (behind ns) c.is_empty.result c.is_empty.ensures c.if-is_empty.false in
    let forked = forks p ns c.first-item.result c.in-len1-up.len_at_least c.first-item.is many in
    let a = piece p c.first-item.result in
    let pushed : c.push-in-len1-up-2.new.self ≡ ((c.args.ops.now ++ fork p c.args.depth ∷ []) ++ a.code (c.args.depth + 1) c.args.memory) ++ keep p c.args.depth
    ∷ [] =
    rw (
      c.in_ok-push-in-len1-up-2.ensures.ok,
      c.in_ok-k-in-len1-up.ensures.code,
      c.in_ok-push-in-len1-up.ensures.ok,
      c.power-in-len1-up.ensures,
      c.in_wire.ensures,
      c.or_wire.ensures,
    ) refl in
    rw forked (on_ok_weaker c.emit_others.result
    (λ e. e ∙ fork_step p a
    (others_of p (drop 1 ns)) c.args.depth c.args.memory c.in_ok-k-in-len1-up.k c.args.ops.now _ c.in_ok-k-in-len1-up.ensures.memories pushed)
    c.emit_others.ensures.code)

pub emit_parallel-returns-in_ok-push-in-len1-up-2-clause-memories :
    goal.emit_parallel-returns-in_ok-push-in-len1-up-2-clause-memories
emit_parallel-returns-in_ok-push-in-len1-up-2-clause-memories t c =
    let p = c.args.layout.now in
    let ns = c.args.branches.now in
    let many : behind ns ≢ [] = not_empty (behind ns) c.is_empty.result c.is_empty.ensures c.if-is_empty.false in
    let count = ap (λ (a : Piece). a.memories) (forks p ns c.first-item.result c.in-len1-up.len_at_least c.first-item.is many) in
    IfOk-weaker c.emit_others.result _ _ (λ k e. omega (arith, e, count, c.in_ok-k-in-len1-up.ensures.memories)) c.emit_others.ensures.memories

pub emit_others-loop-i-preserved : goal.emit_others-loop-i-preserved
emit_others-loop-i-preserved t c =
    let p = c.args.layout.now in
    rw (c.in_ok-emit_join.ensures, c.in_ok-k.ensures.code, c.in_ok-push.ensures.ok, c.in_ok-k.ensures.memories, c.power-power.ensures, c.in_wire-input.ensures)
    (record {
      within = omega arith;
      code =
          others_step p c.args.branches.now c.loop-i.i c.index-branches-i.result c.args.depth c.loop-i.k c.loop-i.ops _ _
          (last_at p c.args.branches.now c.loop-i.i c.loop-i-test.true) c.loop-i-test.true c.index-branches-i.is c.loop-i.invariant.code;
      count =
          others_count p c.args.branches.now c.loop-i.i c.index-branches-i.result c.loop-i.k _ c.loop-i-test.true c.index-branches-i.is
          c.loop-i.invariant.count;
    })

pub emit_others-emit_node-requires : goal.emit_others-emit_node-requires
emit_others-emit_node-requires t c =
    let below = nesting_at c.args.branches.now c.loop-i.i c.index-branches-i.result c.loop-i-test.true c.index-branches-i.is in
    let count = others_count c.args.layout.now c.args.branches.now c.loop-i.i c.index-branches-i.result c.loop-i.k _ c.loop-i-test.true
    c.index-branches-i.is c.loop-i.invariant.count in (
      search (rules, the_lemmas, common_steps),
      (
        fits_less c.args.layout.now _ _ (omega (arith, below)) c.requires.fits,
        (
          omega (arith, count, c.requires.room),
          (
            c.requires.cycle,
            fit_at c.args.layout.now.cycle c.args.branches.now c.loop-i.i c.index-branches-i.result c.loop-i-test.true
                c.index-branches-i.is c.requires.fit,
          ),
        ),
      ),
    )
