-- Each step of the ATmega16 takes a cycle at least.
use Rattle.std.proofs.Common.{◌≡◌, ℕ, ◌+◌, ◌<◌, Bool, true, false, List, Option, Some, None, refl, ap, arith, lit<}
use Rattle.std.specs.Prelude.{nat_lt, if◌then◌else◌}
use Rattle.chip_tables.specs.declared.outside.Env.{Env}
use Rattle.chip_tables.specs.declared.outside.StepEnd.TheVariants as end
use Rattle.chip_tables.specs.declared.outside.StuckCause.{StuckCause}
use Rattle.chip_tables.specs.declared.outside.StuckCause.TheVariants.{PastFlash}
use Rattle.chip_tables.specs.declared.outside.Went.{Went}
use Rattle.avr_devices.specs.Part.{AvrPart, mega16}
use Rattle.avr_mach.specs.declared.insn.AvrInsn.{AvrInsn}
use Rattle.avr_mach.specs.declared.insn.AvrInsn.TheVariants.{Brbs, Brbc, Sbrc, Sbrs}
use Rattle.avr_mach.specs.declared.state.Acted.{Acted}
use Rattle.avr_mach.specs.declared.state.AvrState.{AvrState}
use Rattle.avr_mach.specs.declared.state.Flow.{Flow}
use Rattle.avr_mach.specs.declared.state.Flow.TheVariants.{Next, Skip, To}
use Rattle.avr_mach.specs.Control.{branch, skip_if, obstacle}
use Rattle.avr_mach.specs.Exec.{exec}
use Rattle.avr_mach.specs.Step.{insn_at, settled, step_by, stuck, unless_stuck, width_of}
use Rattle.avr_mach.specs.Words.{size_of}
use Rattle.chip_run.specs.Agree.{TakesCycles}
use Rattle.avr_chip.specs.Machine.{avr_chip}

branch_takes : (part : AvrPart) (m : AvrState) (taken : Bool) (here k : ℕ) → 0 < (branch part m taken here k).acted.cycles
branch_takes part m true here k = lit< tt
branch_takes part m false here k = lit< tt

skip_takes : (m : AvrState) (test : Bool) → 0 < (skip_if m test).acted.cycles
skip_takes m true = lit< tt
skip_takes m false = lit< tt

exec_takes : (part : AvrPart) (env : Env) (i : AvrInsn) (here : ℕ) (m : AvrState) → 0 < (exec part env i here m).acted.cycles
exec_takes part env (Brbs s k) here m = branch_takes part m _ here k
exec_takes part env (Brbc s k) here m = branch_takes part m _ here k
exec_takes part env (Sbrc r b) here m = skip_takes m _
exec_takes part env (Sbrs r b) here m = skip_takes m _
exec_takes part env _ here m = lit< tt

settled_takes : (part : AvrPart) (flash : List ℕ) (next : ℕ) (m : AvrState) (flow : Flow) (a : Acted) (w : Went) → 0 < a.cycles →
    (settled part flash next m flow a).end ≡ end.Went w → 0 < w.cycles
settled_takes part flash next m Next a w h e = let same : a.cycles ≡ w.cycles = cc in omega (arith, h, same)
settled_takes part flash next m (To place) a w h e = let same : a.cycles ≡ w.cycles = cc in omega (arith, h, same)
settled_takes part flash next m Skip a w h e = let same : a.cycles + width_of (insn_at part flash next) ≡ w.cycles = cc in omega (arith, h, same)

unless_takes : (part : AvrPart) (flash : List ℕ) (env : Env) (m : AvrState) (i : AvrInsn) (o : Option StuckCause) (w : Went) →
    (unless_stuck part flash env m i o).end ≡ end.Went w → 0 < w.cycles
unless_takes part flash env m i (Some cause) w e = absurd (cc)
unless_takes part flash env m i None w e =
    let a = exec part env i m.place m in
    settled_takes part flash (m.place + size_of i) a.state a.acted.flow a.acted w (exec_takes part env i m.place m) e

by_takes : (part : AvrPart) (flash : List ℕ) (env : Env) (m : AvrState) (o : Option AvrInsn) (w : Went) → (step_by part flash env m o).end ≡ end.Went w → 0 < w.cycles
by_takes part flash env m None w e = absurd (cc)
by_takes part flash env m (Some i) w e = unless_takes part flash env m i (obstacle part i m) w e

place_takes : (flash : List ℕ) (env : Env) (m : AvrState) (b : Bool) (w : Went) →
    (if b then step_by mega16 flash env m (insn_at mega16 flash m.place) else stuck mega16 flash m PastFlash).end ≡ end.Went w → 0 < w.cycles
place_takes flash env m true w e = by_takes mega16 flash env m (insn_at mega16 flash m.place) w e
place_takes flash env m false w e = absurd (cc)

pub takes_cycles : (flash : List ℕ) → TakesCycles avr_chip flash
takes_cycles flash env m w e = place_takes flash env m (nat_lt m.place mega16.flash_words) w e
