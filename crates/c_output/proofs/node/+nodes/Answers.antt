use Rattle.std.proofs.Common.{rules, arith}
use Rattle.std.proofs.lemmas.Grind.{common_steps}
use Rattle.ladder_tree.specs.declared.project.Node.TheViews.{the_lemmas}
use Rattle.c_output.specs.Laid.{terms_of}
use Rattle.c_output.proofs.NodeLemmas.{series_step, series_count, branches_step, branches_count}
use Rattle.c_output.proofs.TextLemmas.{depth_at}
use Rattle.c_output.proofs.node.+nodes.Goals as goal

pub push_series-loop-node-preserved : goal.push_series-loop-node-preserved
push_series-loop-node-preserved t c =
    let p = terms_of c.args.layout.now in
    let ns = c.args.nodes.now in
    rw (c.in_ok-k.ensures.text, c.in_ok-k.ensures.memories) (record {
      text =
          series_step p ns c.loop-node.node-index c.node-item.result c.args.depth c.loop-node.k c.loop-node.text.items _ c.loop-node-test.true
          c.node-item.is c.loop-node.invariant.text;
      count = series_count p ns c.loop-node.node-index c.node-item.result c.loop-node.k _ c.loop-node-test.true c.node-item.is c.loop-node.invariant.count;
    })

pub push_series-push_node-requires : goal.push_series-push_node-requires
push_series-push_node-requires t c =
    let ns = c.args.nodes.now in
    let below = depth_at ns c.loop-node.node-index c.node-item.result c.loop-node-test.true c.node-item.is in
    let count = series_count (terms_of c.args.layout.now) ns c.loop-node.node-index c.node-item.result c.loop-node.k _ c.loop-node-test.true c.node-item.is
    c.loop-node.invariant.count in (
      search (rules, the_lemmas, common_steps),
      (c.requires.fits, (c.requires.cycle, (omega (arith, below, c.requires.depth), omega (arith, count, c.requires.room)))),
    )

pub push_branches-loop-node-preserved : goal.push_branches-loop-node-preserved
push_branches-loop-node-preserved t c =
    let p = terms_of c.args.layout.now in
    let ns = c.args.nodes.now in
    rw (c.in_ok-push_numbered-2.ensures, c.in_ok-k.ensures.text, c.in_ok-push_numbered.ensures, c.in_ok-k.ensures.memories) (record {
      text =
          branches_step p ns c.loop-node.node-index c.node-item.result c.args.depth c.loop-node.k c.loop-node.text.items _ c.loop-node-test.true
          c.node-item.is c.loop-node.invariant.text;
      count = branches_count p ns c.loop-node.node-index c.node-item.result c.loop-node.k _ c.loop-node-test.true c.node-item.is c.loop-node.invariant.count;
    })

pub push_branches-push_node-requires : goal.push_branches-push_node-requires
push_branches-push_node-requires t c =
    let ns = c.args.nodes.now in
    let below = depth_at ns c.loop-node.node-index c.node-item.result c.loop-node-test.true c.node-item.is in
    let count = branches_count (terms_of c.args.layout.now) ns c.loop-node.node-index c.node-item.result c.loop-node.k _ c.loop-node-test.true c.node-item.is
    c.loop-node.invariant.count in (
      search (rules, the_lemmas, common_steps),
      (c.requires.fits, (c.requires.cycle, (omega (arith, below, c.requires.depth), omega (arith, count, c.requires.room)))),
    )
