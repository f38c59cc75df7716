use Rattle.std.proofs.Common.{◌≡◌, ℕ, true, List, Ok, refl, sym, ap, subst, ◌∙◌}
use Rattle.chip_tables.specs.declared.target.Target.{Target}
use Rattle.chip_tables.specs.declared.target.Target.TheVariants.{F628, F877, Mega16, Interp, AnsiC}
use Rattle.ladder_tree.specs.declared.project.Project.{Project}
use Rattle.ladder_trace.specs.Simulated.{simulated}
use Rattle.ladder_trace.specs.declared.trace.Trace.{Trace}
use Rattle.intel_hex.specs.declared.image.Image.{Image}
use Rattle.avr_file.specs.Carries.{CarriesHex}
use Rattle.avr_file.specs.Replays.{ReplaysImage}
use Rattle.avr_file.proofs.AgreeLemmas.{file_agrees}
use Rattle.avr_file.proofs.OnceLemmas.{somehow}
use Rattle.ldmicro_top.specs.Agree.{CanShow, MayShowOn}
use Rattle.ldmicro_top.specs.Carries.{CarriesOn, Carries}
use Rattle.ldmicro_top.specs.HasMachine.{has_machine}
use Rattle.ldmicro_top.specs.Replays.{status_of_run, ReplaysHex, ReplaysOn, Replays}
use Rattle.ldmicro_top.specs.declared.status.Status.{Status}
use Rattle.ldmicro_top.specs.declared.status.Status.TheVariants as status
use Rattle.ldmicro_top.proofs.AvrLemmas.{for_avr, trace_fits}
use Rattle.ldmicro_top.proofs.SimulatedLemmas.{carried_names, carried_lines}
use Rattle.ldmicro_top.proofs.TargetLemmas.{replays_on, replays_hex}
use Rattle.ldmicro_top.proofs.laws.replay_agrees.Goals as goal

-- a HEX file that carries a project shows its ladder, and nothing else
hex_only : (p : Project) (code : List ℕ) (cycles boot : ℕ) (trace : Trace) (printed : List ℕ) (ending : Status) → p.target ≡ Mega16
    → CanShow p trace cycles boot → CarriesHex p code cycles boot → ReplaysHex p code trace printed ending
    → (printed ≡ simulated p trace) × (ending ≡ status.Ok)
hex_only p code cycles boot trace printed ending e show h r =
    let both : Ok r.image ≡ Ok h.image = sym r.read ∙ h.read in
    let same : r.image ≡ h.image = cc in
    let agrees = file_agrees p code cycles boot trace (for_avr show.text p show.accepted e) (trace_fits _ show.file trace show.given) show.in_cycle show.in_boot h
    printed r.end (subst (λ (i : Image). ReplaysImage p i trace printed r.end) same r.runs) in
    (agrees.0, r.ends ∙ ap status_of_run agrees.1)

hex_runs : (p : Project) (code : List ℕ) (cycles boot : ℕ) (trace : Trace) → p.target ≡ Mega16 → CanShow p trace cycles boot
    → CarriesHex p code cycles boot → Replays p code trace (simulated p trace) status.Ok
hex_runs p code cycles boot trace e show h =
    let for = for_avr show.text p show.accepted e in
    let r = somehow p h.image trace for (trace_fits _ show.file trace show.given) in
    let ran : ReplaysHex p code trace r.0 (status_of_run r.1) = record { image = h.image; read = h.read; end = r.1; runs = r.2; ends = refl } in
    let is = hex_only p code cycles boot trace r.0 (status_of_run r.1) e show h ran in
    subst (λ (s : Status). Replays p code trace (simulated p trace) s) is.1
    (subst (λ (x : List ℕ). Replays p code trace x (status_of_run r.1)) is.0 (replays_hex p code trace r.0 (status_of_run r.1) e ran))

pub returns-clause-runs : goal.returns-clause-runs
returns-clause-runs c p code cycles boot trace m show h = by p.target refl m show h
  where
    by : (t : Target) → p.target ≡ t → has_machine t ≡ true → MayShowOn t p trace cycles boot → CarriesOn t p code cycles boot
        → Replays p code trace (simulated p trace) status.Ok
    by F628 e m show h = absurd h
    by F877 e m show h = absurd h
    by Mega16 e m show h = hex_runs p code cycles boot trace e show h
    by AnsiC e m show h = absurd cc
    by Interp e m show h = replays_on p code trace (simulated p trace) status.Ok e (record {
      said = h.program;
      text = (h.read, h.within);
      names = carried_names p code cycles h.program h (h.read, h.within);
      lines = sym (carried_lines p code cycles h.program trace h (h.read, h.within));
      ends = refl;
    })

pub returns-clause-only : goal.returns-clause-only
returns-clause-only c p code cycles boot trace printed ending show h r = by p.target refl show h r
  where
    by : (t : Target) → p.target ≡ t → MayShowOn t p trace cycles boot → CarriesOn t p code cycles boot → ReplaysOn t p code trace printed ending
        → (printed ≡ simulated p trace) × (ending ≡ status.Ok)
    by F628 e show h r = absurd h
    by F877 e show h r = absurd h
    by Mega16 e show h r = hex_only p code cycles boot trace printed ending e show h r
    by AnsiC e show h r = absurd r
    by Interp e show h r = (r.lines ∙ carried_lines p code cycles r.said trace h r.text, r.ends)
