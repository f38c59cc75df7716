-- Files in memory: what they hold, what they count, and which of their calls are to fail.
use Rattle.std.specs.Prelude.{◌≡◌, ℕ, Bool, ◌==◌, List, [], drop, Option, unwrap_or}
use Rattle.std.specs.List.{list_any}
use Rattle.ld_base.specs.declared.mem_files.MemFiles.{MemFiles}
use Rattle.ld_base.specs.Counts.{Counts, one_more}
use Rattle.ld_base.specs.Entries.{held_in}

abbrev pub held_by : MemFiles → List ℕ → Option (List ℕ)
held_by m = held_in m.files.items

abbrev pub counts_of : MemFiles → Counts
counts_of m = record { reads = m.reads; absences = m.absences; writes = m.writes }

-- the unread rest of the opened file
abbrev pub left_of : MemFiles → List ℕ
left_of m = drop m.at (unwrap_or (held_by m m.source.items) [])

abbrev pub target_of : MemFiles → List ℕ
target_of m = m.target.items

abbrev pub is_open_of : MemFiles → Bool
is_open_of m = m.is_open

abbrev pub is_writing_of : MemFiles → Bool
is_writing_of m = m.is_writing

-- how many calls there were
abbrev pub calls_of : MemFiles → ℕ
calls_of m = m.calls

-- the numbers of the calls that are to fail
abbrev pub failing_of : MemFiles → List ℕ
failing_of m = m.failing.items

-- whether the next call is one of them
abbrev pub fails_next : MemFiles → Bool
fails_next m = list_any (λ n. n == one_more m.calls) m.failing.items

-- one call more, and the same numbers
pub record CountsCall (old new : MemFiles) : Type 0 where
  pub calls : calls_of new ≡ one_more (calls_of old)
  pub failing : failing_of new ≡ failing_of old

-- no call more, the same state and the same counts
pub record SameCalls (old new : MemFiles) : Type 0 where
  pub calls : calls_of new ≡ calls_of old
  pub counts : counts_of new ≡ counts_of old
  pub open_same : is_open_of new ≡ is_open_of old
  pub writing : is_writing_of new ≡ is_writing_of old
