use Rattle.std.proofs.Common.{◌+◌, [], drop, refl, rules, arith}
use Rattle.std.proofs.lemmas.Grind.{common_steps}
use Rattle.int_code.specs.Held.{store_of}
use Rattle.int_code.specs.Meaning.{begin, holds, step}
use Rattle.int_code.specs.Shapes.{shape_of}
use Rattle.int_code.proofs.NestLemmas.{nests_step, op_front}
use Rattle.int_code.proofs.cycle.cycle.Goals as goal

pub loop-op-init : goal.loop-op-init
loop-op-init c = record {
  depth = omega arith;
  count = omega arith;
  sizes = c.open.ensures.sizes;
  idle = c.open.ensures.idle;
  stands = (
    begin c.args.reading.now (store_of c.args.state.now),
    [],
    record { mode = refl; count = refl; store = c.open.ensures.store },
    refl,
    c.requires.nests,
    refl,
  );
}

pub loop-op-preserved : goal.loop-op-preserved
loop-op-preserved c =
    let r = c.args.reading.now in
    let s = c.loop-op.invariant.stands in
    let op = c.op-item.result in
    let front = op_front c.args.ops.now c.loop-op.op-index op c.loop-op-test.true c.op-item.is in
    let n = nests_step (shape_of op) (holds r op s.0.store) (drop (c.loop-op.op-index + 1) c.args.ops.now) s.0.ifs s.1 (rw front at s.4) s.3 in
    record {
      depth = omega (arith, c.advance-p.ensures.depth, c.loop-op.invariant.depth);
      count = omega (arith, c.advance-p.ensures.count, c.loop-op.invariant.count);
      sizes = search (rules, common_steps);
      idle = c.advance-p.ensures.idle;
      stands = (step r op s.0, n.flags, c.advance-p.ensures.stands s.0 s.2 n.is_open, n.count, n.rest, rw front at s.5);
    }
