-- Accepted projects and traces, as the ATmega16 asks for them.
use Rattle.std.proofs.Common.{◌≡◌, ℕ, Bool, true, false, List, length, Option, Some, None, Result, Ok, Err, refl, sym, ap, subst, ◌∙◌}
use Rattle.std.specs.Option.{option_or}
use Rattle.chip_tables.specs.declared.target.Target.TheVariants.{Mega16}
use Rattle.ladder_tree.specs.Names.{names_of}
use Rattle.ladder_tree.specs.declared.fault.ProjectFault.{ProjectFault}
use Rattle.ladder_tree.specs.declared.names.Names.{Names}
use Rattle.ladder_tree.specs.declared.project.Project.{Project}
use Rattle.ladder_rules.specs.Verdict.{rule}
use Rattle.ladder_trace.specs.Line.{Draft}
use Rattle.ladder_trace.specs.Trace as trace
use Rattle.ladder_trace.specs.Trace.{IsTraceOf}
use Rattle.ladder_trace.specs.declared.trace.Trace.{Trace}
use Rattle.ladder_trace.proofs.FineLemmas.{read_fits}
use Rattle.texts.specs.Lines.{lines}
use Rattle.texts.specs.Limits as limits
use Rattle.texts.specs.declared.limits.TheConstants.{FILE_BYTES}
use Rattle.ld_text.specs.Lines.{lines_of}
use Rattle.ld_text.specs.Text.{judged}
use Rattle.ld_text.specs.Within.{IsWithin}
use Rattle.ld_text.proofs.ProjectLemmas.{one_project}
use Rattle.ld_text.proofs.VerdictLemmas.{has_project}
use Rattle.avr_file.specs.Agree.{IsForAvr}
use Rattle.ldmicro_top.specs.Expected.{IsAccepted}
use Rattle.ldmicro_top.specs.Verdict.{misfit}
use Rattle.ldmicro_top.proofs.FitLemmas.{fits_all}
use Rattle.ldmicro_top.proofs.RoomLemmas.{eeprom_room}

both_none : (a b : Option ProjectFault) → option_or a b ≡ None → (a ≡ None) × (b ≡ None)
both_none None b h = (refl, h)
both_none (Some f) b h = absurd cc

-- a project that is accepted keeps the rules, fits, and holds numbers of 16 bits
pub for_avr : (text : List ℕ) (p : Project) → IsAccepted text p → p.target ≡ Mega16 → IsForAvr p
for_avr text p accepted e =
    let none = both_none (rule p) (misfit p.target (names_of p.rungs)) accepted.1 in
    let q = has_project (judged text) accepted.0.faultless in
    let within : IsWithin p = subst IsWithin (one_project (lines_of (judged text)) q.0 p q.1.project accepted.0.project) q.2 in
    record { target = e; kept = none.0; fit = fits_all p none.0 within.read; room = eeprom_room p none.1 }

-- a trace that is read is one of the names
pub trace_fits : (n : Names) (text : List ℕ) (t : Trace) → trace.verdict n text ≡ Ok t → IsTraceOf n t
trace_fits n text t h =
    by (limits.is_over FILE_BYTES text) (trace.read n (lines (limits.judged FILE_BYTES text))) refl h
  where
    by : (over : Bool) (r : Result Draft ℕ) → trace.read n (lines (limits.judged FILE_BYTES text)) ≡ r
        → trace.verdict_by over (length (lines (limits.judged FILE_BYTES text))) r ≡ Ok t → IsTraceOf n t
    by over (Err line) e k = absurd cc
    by true (Ok d) e k = absurd cc
    by false (Ok d) e k =
        let same : trace.trace_of d ≡ t = cc in subst (IsTraceOf n) same (read_fits n (lines (limits.judged FILE_BYTES text)) d e)
