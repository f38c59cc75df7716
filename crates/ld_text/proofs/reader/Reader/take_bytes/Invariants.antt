use Rattle.std.proofs.Common.{◌≡◌, drop}
use Rattle.ld_text.specs.Reading.{fed, mind_of}
use Rattle.ld_text.proofs.reader.Reader.take_bytes.Given as goal

abbrev pub invariant-loop-byte : goal.invariant-loop-byte
invariant-loop-byte l = (fed (mind_of l.self) (drop l.byte-index l.piece) ≡ fed (mind_of l.fn.self) l.piece) × (l.self.first ≡ l.fn.self.first)
