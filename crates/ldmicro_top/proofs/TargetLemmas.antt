-- What is built of the targets: projects that are read are for the interpreter, the ATmega16 or C.
use Rattle.std.proofs.Common.{◌≡◌, ◌⊎◌, inl, inr, ℕ, ◌≤◌, true, List, None, refl, sym, ap, subst}
use Rattle.chip_tables.specs.Memory.{flash_size}
use Rattle.chip_tables.specs.declared.target.Target.{Target}
use Rattle.chip_tables.specs.declared.target.Target.TheVariants.{F628, F877, Mega16, Interp, AnsiC}
use Rattle.ladder_tree.specs.Names.{names_of}
use Rattle.ladder_tree.specs.declared.project.Project.{Project}
use Rattle.ladder_rules.specs.Needs.{word_need, cycle_cap_on, cycle_cap}
use Rattle.ladder_trace.specs.declared.trace.Trace.{Trace}
use Rattle.ld_line.specs.Words.{is_target_built}
use Rattle.ld_text.specs.Lines.{lines_of}
use Rattle.ld_text.specs.Text.{IsReadAs}
use Rattle.ld_text.specs.Within.{IsWithin}
use Rattle.ld_text.proofs.ProjectLemmas.{one_project}
use Rattle.ld_text.proofs.VerdictLemmas.{has_project}
use Rattle.c_output.specs.Text.{c_text}
use Rattle.ldmicro_top.specs.Carries.{CarriesInterp, CarriesOn, Carries}
use Rattle.avr_file.specs.Carries.{CarriesHex}
use Rattle.ldmicro_top.specs.Expected.{NoMachineAnswers, CodeAnswers, HexAnswers, FileAnswersOn, FileAnswers}
use Rattle.ldmicro_top.specs.Replays.{ReplaysInterp, ReplaysHex, ReplaysOn, Replays}
use Rattle.ldmicro_top.specs.Report.{report, c_report, ReportsHex, ReportsOn, Reports}
use Rattle.ldmicro_top.specs.Verdict.{over_flash, code_fault}
use Rattle.ldmicro_top.specs.declared.status.Status.{Status}

-- the targets that are built
pub built_cases : (t : Target) → is_target_built t ≡ true → (t ≡ Interp) ⊎ ((t ≡ Mega16) ⊎ (t ≡ AnsiC))
built_cases F628 h = absurd cc
built_cases F877 h = absurd cc
built_cases Mega16 h = inr (inl refl)
built_cases Interp h = inl refl
built_cases AnsiC h = inr (inr refl)

-- a project that a text stands for
pub read_target : (text : List ℕ) (p : Project) → IsReadAs text p → is_target_built p.target ≡ true
read_target text p h =
    let q = has_project text h.faultless in
    let within : IsWithin p = subst IsWithin (one_project (lines_of text) q.0 p q.1.project h.project) q.2 in
    within.target

-- the interpreter and C have room for any code
room_by : (t : Target) (p : Project) → flash_size t ≡ None → over_flash (word_need p) (flash_size t) ≡ None
room_by t p h = ap (over_flash (word_need p)) h

pub no_flash : (p : Project) → flash_size p.target ≡ None → code_fault p ≡ None
no_flash p h = room_by p.target p h

pub carries_c : (p : Project) (code : List ℕ) (cycles boot : ℕ) → p.target ≡ AnsiC → code ≡ c_text p → Carries p code cycles boot
carries_c p code cycles boot e h = subst (λ (t : Target). CarriesOn t p code cycles boot) (sym e) h

pub reports_c : (p : Project) (code : List ℕ) (cycles boot : ℕ) (printed : List ℕ) → p.target ≡ AnsiC → printed ≡ c_report (names_of p.rungs)
    → Reports p code cycles boot printed
reports_c p code cycles boot printed e h = subst (λ (t : Target). ReportsOn t p code cycles boot printed) (sym e) h

pub file_c : (p : Project) (go_on : Status → Type 0) (file : List ℕ) (answer : Status) → p.target ≡ AnsiC → NoMachineAnswers file answer
    → FileAnswers p go_on file answer
file_c p go_on file answer e h = subst (λ (t : Target). FileAnswersOn t (names_of p.rungs) go_on file answer) (sym e) h

pub carries_on : (p : Project) (code : List ℕ) (cycles boot : ℕ) → p.target ≡ Interp → CarriesInterp p code cycles → Carries p code cycles boot
carries_on p code cycles boot e h = subst (λ (t : Target). CarriesOn t p code cycles boot) (sym e) h

pub interp_carries : (p : Project) (code : List ℕ) (cycles boot : ℕ) → p.target ≡ Interp → Carries p code cycles boot → CarriesInterp p code cycles
interp_carries p code cycles boot e h = subst (λ (t : Target). CarriesOn t p code cycles boot) e h

pub cap_on : (p : Project) (cycles : ℕ) → p.target ≡ Interp → cycles ≤ cycle_cap_on Interp p.rungs → cycles ≤ cycle_cap p
cap_on p cycles e h = subst (λ (t : Target). cycles ≤ cycle_cap_on t p.rungs) (sym e) h

pub reports_on : (p : Project) (code : List ℕ) (cycles boot : ℕ) (printed : List ℕ) → p.target ≡ Interp → printed ≡ report (names_of p.rungs) cycles
    → Reports p code cycles boot printed
reports_on p code cycles boot printed e h = subst (λ (t : Target). ReportsOn t p code cycles boot printed) (sym e) h

pub replays_on : (p : Project) (code : List ℕ) (trace : Trace) (printed : List ℕ) (ending : Status) → p.target ≡ Interp
    → ReplaysInterp p code trace printed ending → Replays p code trace printed ending
replays_on p code trace printed ending e h = subst (λ (t : Target). ReplaysOn t p code trace printed ending) (sym e) h

pub replays_interp : (p : Project) (code : List ℕ) (trace : Trace) (printed : List ℕ) (ending : Status) → p.target ≡ Interp
    → Replays p code trace printed ending → ReplaysInterp p code trace printed ending
replays_interp p code trace printed ending e h = subst (λ (t : Target). ReplaysOn t p code trace printed ending) e h

pub file_on : (p : Project) (go_on : Status → Type 0) (file : List ℕ) (answer : Status) → p.target ≡ Interp → CodeAnswers (names_of p.rungs) go_on file answer
    → FileAnswers p go_on file answer
file_on p go_on file answer e h = subst (λ (t : Target). FileAnswersOn t (names_of p.rungs) go_on file answer) (sym e) h

-- the same for the ATmega16

pub carries_hex : (p : Project) (code : List ℕ) (cycles boot : ℕ) → p.target ≡ Mega16 → CarriesHex p code cycles boot → Carries p code cycles boot
carries_hex p code cycles boot e h = subst (λ (t : Target). CarriesOn t p code cycles boot) (sym e) h

pub hex_carries : (p : Project) (code : List ℕ) (cycles boot : ℕ) → p.target ≡ Mega16 → Carries p code cycles boot → CarriesHex p code cycles boot
hex_carries p code cycles boot e h = subst (λ (t : Target). CarriesOn t p code cycles boot) e h

pub reports_hex : (p : Project) (code : List ℕ) (cycles boot : ℕ) (printed : List ℕ) → p.target ≡ Mega16 → ReportsHex p code cycles boot printed
    → Reports p code cycles boot printed
reports_hex p code cycles boot printed e h = subst (λ (t : Target). ReportsOn t p code cycles boot printed) (sym e) h

pub replays_hex : (p : Project) (code : List ℕ) (trace : Trace) (printed : List ℕ) (ending : Status) → p.target ≡ Mega16
    → ReplaysHex p code trace printed ending → Replays p code trace printed ending
replays_hex p code trace printed ending e h = subst (λ (t : Target). ReplaysOn t p code trace printed ending) (sym e) h

pub hex_replays : (p : Project) (code : List ℕ) (trace : Trace) (printed : List ℕ) (ending : Status) → p.target ≡ Mega16
    → Replays p code trace printed ending → ReplaysHex p code trace printed ending
hex_replays p code trace printed ending e h = subst (λ (t : Target). ReplaysOn t p code trace printed ending) e h

pub file_hex : (p : Project) (go_on : Status → Type 0) (file : List ℕ) (answer : Status) → p.target ≡ Mega16 → HexAnswers go_on file answer
    → FileAnswers p go_on file answer
file_hex p go_on file answer e h = subst (λ (t : Target). FileAnswersOn t (names_of p.rungs) go_on file answer) (sym e) h

-- of what is run something is known by the target
pub data RanOn (p : Project) (code : List ℕ) (trace : Trace) (printed : List ℕ) (ending : Status) : Type 0 where
  OnInterp : p.target ≡ Interp → ReplaysInterp p code trace printed ending → RanOn p code trace printed ending
  OnAvr : p.target ≡ Mega16 → ReplaysHex p code trace printed ending → RanOn p code trace printed ending

pub ran_on : (p : Project) (code : List ℕ) (trace : Trace) (printed : List ℕ) (ending : Status) → Replays p code trace printed ending
    → RanOn p code trace printed ending
ran_on p code trace printed ending h = by p.target refl h
  where
    by : (t : Target) → p.target ≡ t → ReplaysOn t p code trace printed ending → RanOn p code trace printed ending
    by F628 e k = absurd k
    by F877 e k = absurd k
    by Mega16 e k = OnAvr e k
    by Interp e k = OnInterp e k
    by AnsiC e k = absurd k
