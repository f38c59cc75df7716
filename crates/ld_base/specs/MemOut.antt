-- An output in memory: what was written, what it counts, and which of its calls are to fail.
use Rattle.std.specs.Prelude.{ℕ, ◌==◌, Bool, List}
use Rattle.std.specs.List.{list_any}
use Rattle.ld_base.specs.Counts.{one_more}
use Rattle.ld_base.specs.declared.mem_out.MemOut.{MemOut}

abbrev pub out_bytes : MemOut → List ℕ
out_bytes m = m.bytes.items

abbrev pub out_faults : MemOut → ℕ
out_faults m = m.faults

-- how many calls there were
abbrev pub out_calls : MemOut → ℕ
out_calls m = m.calls

-- the numbers of the calls that are to fail
abbrev pub out_failing : MemOut → List ℕ
out_failing m = m.failing.items

-- whether the next call is one of them
abbrev pub out_fails_next : MemOut → Bool
out_fails_next m = list_any (λ n. n == one_more m.calls) m.failing.items
