use Rattle.std.proofs.Common.{◌≡◌, ℕ, ◌+◌, ◌-◌, ◌≤◌, true, List, ◌++◌, length}
use Rattle.ld_base.specs.Bytes.{SameHeld}
use Rattle.texts.specs.declared.limits.TheConstants.{FILE_BYTES}
use Rattle.ld_text.specs.Reading.{Stands}
use Rattle.project_file.proofs.source.feed_file.Given as goal

abbrev pub invariant-loop-taken : goal.invariant-loop-taken
invariant-loop-taken g l =
    let f = g.F.Files in
    record {
      buffer : length l.buf ≡ 4096;
      opened : f.is_open l.files ≡ true;
      writing : f.is_writing l.files ≡ f.is_writing l.fn.files;
      reads : (f.counts l.fn.files).reads ≤ (f.counts l.files).reads;
      absences : (f.counts l.files).absences ≡ (f.counts l.fn.files).absences;
      writes : (f.counts l.files).writes ≡ (f.counts l.fn.files).writes;
      short : l.taken ≤ FILE_BYTES + 1;
      fed : (text : List ℕ) × (length text ≡ l.taken) × Stands l.reader text × (f.tells ≡ true → f.left l.fn.files ≡ text ++ f.left l.files);
      held : f.tells ≡ true → SameHeld (f.held l.fn.files) (f.held l.files);
    }

abbrev pub decreases-loop-taken : goal.decreases-loop-taken
decreases-loop-taken g l = FILE_BYTES + 1 - l.taken
