use Rattle.std.proofs.Common.{◌≡◌, ◌+◌, ◌-◌, ◌≤◌, true, ◌++◌, length}
use Rattle.ld_base.specs.Bytes.{SameHeld}
use Rattle.ld_base.proofs.whole.read_rest.Given as goal

abbrev pub invariant-loop-buf : goal.invariant-loop-buf
invariant-loop-buf g l =
    let f = g.F.Files in
    record {
      buffer : length l.buf ≡ 4096;
      opened : f.is_open l.files ≡ true;
      writing : f.is_writing l.files ≡ f.is_writing l.fn.files;
      reads : (f.counts l.fn.files).reads ≤ (f.counts l.files).reads;
      absences : (f.counts l.files).absences ≡ (f.counts l.fn.files).absences;
      writes : (f.counts l.files).writes ≡ (f.counts l.fn.files).writes;
      short : length l.all.items ≤ l.limit + 1;
      bytes : f.tells ≡ true → f.left l.fn.files ≡ l.all.items ++ f.left l.files;
      held : f.tells ≡ true → SameHeld (f.held l.fn.files) (f.held l.files);
    }

abbrev pub decreases-loop-buf : goal.decreases-loop-buf
decreases-loop-buf g l = l.limit + 1 - length l.all.items
