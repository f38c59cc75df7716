use Rattle.std.proofs.Common.{refl}
use Rattle.ld_text.specs.Reading.{next, standing_of, mind_of}
use Rattle.ld_text.proofs.ReaderLemmas.{goes_on, goes_early, fails_early, stays, failed_early, failed_stays}
use Rattle.ld_text.proofs.reader.Reader.feed.Goals as goal

pub returns-in-Some-clause-refused : goal.returns-in-Some-clause-refused
returns-in-Some-clause-refused c text h =
    failed_early c.args.self.now.first (mind_of c.args.self.now) text c.args.piece.now c.in-Some.e c.in-Some.is h

pub returns-in-Some-clause-kept : goal.returns-in-Some-clause-kept
returns-in-Some-clause-kept c text h = failed_stays c.args.self.now text c.args.piece.now c.in-Some.e c.in-Some.is h

pub returns-in-Ok-clause-stands : goal.returns-in-Ok-clause-stands
returns-in-Ok-clause-stands c text h =
    goes_on c.args.self.now.first c.take_bytes.new.self.first (mind_of c.args.self.now) (mind_of c.take_bytes.new.self) text c.args.piece.now c.in_default.is
    c.in-Ok.ensures.first h c.in-Ok.ensures.reads

pub returns-in-Ok-clause-taken : goal.returns-in-Ok-clause-taken
returns-in-Ok-clause-taken c text h =
    goes_early c.args.self.now.first (mind_of c.args.self.now) (next c.take_bytes.new.self.counts.lines) c.take_bytes.new.self.line.items
    (standing_of c.take_bytes.new.self) text c.args.piece.now c.in_default.is h c.in-Ok.ensures.reads

pub returns-in-Err-clause-refused : goal.returns-in-Err-clause-refused
returns-in-Err-clause-refused c text h =
    fails_early c.args.self.now.first (mind_of c.args.self.now) text c.args.piece.now c.in-Err.e c.in_default.is h c.in-Err.ensures.refused

pub returns-in-Err-clause-kept : goal.returns-in-Err-clause-kept
returns-in-Err-clause-kept c text h =
    stays _ c.args.self.now.first (mind_of c.args.self.now) text c.args.piece.now c.in-Err.e c.in_default.is h c.in-Err.ensures.refused refl
