use Rattle.std.proofs.Common.{subst, Bool}
use Rattle.int_code.specs.Stands.{IsMode, IsOff}
use Rattle.int_code.proofs.SkipLemmas.{skips}
use Rattle.int_code.proofs.cycle.advance.Goals as goal

pub returns-then-p-clause-stands : goal.returns-then-p-clause-stands
returns-then-p-clause-stands c m s o =
    let off : IsOff c.args.p.depth m.ifs = subst (λ (b : Bool). IsMode b c.args.p.depth m.ifs) c.if-p.true s.mode in
    rw (c.skip.ensures, c.if-p.true, s.count) (skips c.args.reading.now c.args.state.now m.store m.count s.store c.args.op.now c.args.p.depth m.ifs off o)
