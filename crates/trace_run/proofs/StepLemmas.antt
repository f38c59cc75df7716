-- The steps of a trace, one by one.
use Rattle.std.proofs.Common.{◌≡◌, ℕ, ◌+◌, ◌-◌, ◌<◌, ◌≤◌, List, [], ◌∷◌, ◌++◌, length, get_or, drop, replicate, refl, ap, ◌∙◌, add-one, arith}
use Rattle.std.proofs.Math.Path.{fun_ext}
use Rattle.std.proofs.lemmas.List.{drop_more, at_drop_all, length-replicate}
use Rattle.ladder_tree.specs.declared.names.Names.{Names}
use Rattle.ladder_meaning.specs.declared.reading.Reading.{Reading}
use Rattle.ladder_trace.specs.declared.duty.DutyShown.{DutyShown}
use Rattle.ladder_trace.specs.Simulated.{readings, eeprom_of}
use Rattle.ladder_trace.specs.declared.trace.Step.{Step}
use Rattle.ladder_trace.specs.declared.trace.Trace.{Trace}
use Rattle.int_code.specs.declared.op.IntProgram.{IntProgram}
use Rattle.int_code.specs.Store.{Store, start}
use Rattle.int_sim.specs.Machine.{Running, state_of}
use Rattle.trace_run.specs.Run.{Point, before, behind, lines_of, run_lines, sim_lines}
use Rattle.trace_run.proofs.LineLemmas.{next}

-- one of the readings that are left is the next
pub one_left : (r : Reading) (times done : ℕ) → done < times → replicate (times - done) r ≡ r ∷ [] ++ replicate (times - (done + 1)) r
one_left r times done lt =
    let e : times - done ≡ times - (done + 1) + 1 = omega arith in
    rw (e, add-one (times - (done + 1))) refl

-- each reading is a cycle more
passed_behind : (p : IntProgram) (at : Point) (rs : List Reading) → (behind p at rs).passed ≡ at.passed + length rs
passed_behind p at [] = omega arith
passed_behind p at (r ∷ rs) = passed_behind p (next p at r) rs ∙ omega arith

-- a reading that holds for so many cycles is so many cycles more
pub passed_behind_step : (p : IntProgram) (at : Point) (times : ℕ) (r : Reading) → (behind p at (replicate times r)).passed ≡ at.passed + times
passed_behind_step p at times r = passed_behind p at (replicate times r) ∙ ap (λ k. at.passed + k) (length-replicate times r)

-- the readings of the steps that are left are those of the next and then those of the others
pub step_left : (steps : List Step) (k : ℕ) (s : Step) → k < length steps → s ≡ get_or steps k s
    → readings (drop k steps) ≡ replicate s.times s.reading ++ readings (drop (k + 1) steps)
step_left steps k s lt is = ap readings (rw (← is) at (drop_more steps k s lt))

-- behind the last step no reading is left
pub none_left : (steps : List Step) (k : ℕ) → length steps ≤ k → readings (drop k steps) ≡ []
none_left = at_drop_all readings

-- a program that begins with the bytes of a trace stands before its first cycle
begins : (p : IntProgram) (trace : Trace) (bytes : ℕ → ℕ) (s : Store) → s ≡ start p.starts bytes → ((k : ℕ) → bytes k ≡ eeprom_of trace k)
    → record { passed = 0; store = s } ≡ before p trace
begins p trace bytes s is same = ap (λ t. record { passed = 0; store = t }) (is ∙ ap (λ e. start p.starts e) (fun_ext same))

-- the lines of a simulator that begins with the bytes of a trace are those of the program's run
pub lines_from_start : (duty : DutyShown) (n : Names) (p : IntProgram) (m : Running) (trace : Trace) (bytes : ℕ → ℕ)
    → m.program ≡ p → state_of m ≡ start p.starts bytes → ((k : ℕ) → bytes k ≡ eeprom_of trace k) → sim_lines duty n m trace ≡ run_lines duty n p trace
lines_from_start duty n p m trace bytes same_program is same_bytes =
    ap (λ q. lines_of duty n q (record { passed = 0; store = state_of m }) (readings trace.steps)) same_program
    ∙ ap (λ at. lines_of duty n p at (readings trace.steps)) (begins p trace bytes (state_of m) is same_bytes)
