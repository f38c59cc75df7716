-- How many operations are executed.
use Rattle.std.proofs.Common.{ℕ, ◌+◌, ◌≤◌, Bool, true, false, cond, List, [], ◌∷◌, length, All, arith}
use Rattle.std.proofs.lemmas.List.Elements.{All-nil, All-cons}
use Rattle.ladder_meaning.specs.declared.reading.Reading.{Reading}
use Rattle.int_code.specs.declared.op.IntOp.{IntOp}
use Rattle.int_code.specs.Meaning.{Moment, step, run, is_reached, begin, cycle, history}
use Rattle.int_code.specs.Store.{Store}

count_step : (b : Bool) (n : ℕ) → cond b (n + 1) n ≤ n + 1
count_step true n = omega arith
count_step false n = omega arith

run_count : (r : Reading) (ops : List IntOp) (m : Moment) → (run r ops m).count ≤ m.count + length ops
run_count r [] m = omega arith
run_count r (op ∷ ops) m = let rest = run_count r ops (step r op m) in let one = count_step (is_reached op m.ifs) m.count in omega (arith, rest, one)

pub cycle_count : (r : Reading) (ops : List IntOp) (t : Store) → (cycle r ops t).count ≤ length ops
cycle_count r ops t = let run = run_count r ops (begin r t) in omega (arith, run)

pub history_count : (ops : List IntOp) (t : Store) (rs : List Reading) → All (λ (m : Moment). m.count ≤ length ops) (history ops t rs)
history_count ops t [] = All-nil (λ (m : Moment). m.count ≤ length ops)
history_count ops t (r ∷ rs) =
    All-cons (λ (m : Moment). m.count ≤ length ops) (cycle r ops t) (history ops (cycle r ops t).store rs) (cycle_count r ops t)
    (history_count ops (cycle r ops t).store rs)
