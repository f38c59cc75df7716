-- An image runs over a trace in exactly one way.
use Rattle.std.proofs.Common.{◌≡◌, ℕ, Bool, true, List, Option, Some, None, refl, sym, ap, subst, ◌∙◌}
use Rattle.std.specs.Prelude.{is_some}
use Rattle.chip_tables.specs.declared.outside.PinReading.{PinReading}
use Rattle.chip_tables.specs.declared.settings.Settings.{Settings}
use Rattle.chip_tables.specs.declared.target.Target.{Target}
use Rattle.chip_tables.specs.declared.target.Target.TheVariants.{Mega16}
use Rattle.ladder_tree.specs.Names.{names_of}
use Rattle.ladder_tree.specs.declared.project.Project.{Project}
use Rattle.ladder_rules.specs.Pins.{is_chip}
use Rattle.ladder_rules.specs.Settings.{settings_of}
use Rattle.ladder_rules.specs.Verdict.{rule}
use Rattle.ladder_rules.proofs.RuleLemmas.{settings_there}
use Rattle.ladder_trace.specs.Simulated.{readings}
use Rattle.ladder_trace.specs.Trace.{IsTraceOf}
use Rattle.ladder_trace.specs.declared.trace.Trace.{Trace}
use Rattle.intel_hex.specs.declared.image.Image.{Image}
use Rattle.chip_run.specs.Lines.{lines_of}
use Rattle.chip_run.specs.Replay.{Replayed, replayed}
use Rattle.chip_run.specs.declared.end.RunEnd.{RunEnd}
use Rattle.chip_run.proofs.OneLemmas.{one_at_pins}
use Rattle.chip_run.proofs.ExistLemmas.{readings_stand}
use Rattle.avr_mach.specs.declared.state.AvrState.{AvrState}
use Rattle.avr_chip.specs.Machine.{avr_chip}
use Rattle.avr_file.proofs.TraceLemmas.{trace_readings}
use Rattle.avr_file.specs.Replays.{fresh, ReplaysImage}
use Rattle.avr_file.specs.Agree.{IsForAvr}

pub same_settings : (p : Project) (a b : Settings) → settings_of p ≡ Some a → settings_of p ≡ Some b → a ≡ b
same_settings p a b h k = let both : Some a ≡ Some b = sym h ∙ k in cc

-- the run of an image from reset over readings at the pins
abbrev pub run : Image → Trace → Settings → List PinReading → Replayed AvrState
run image t settings pins = replayed avr_chip.step image.words (fresh settings t) pins

-- all that a run has is that of one with these settings and readings
pub run_is : (p : Project) (image : Image) (t : Trace) (printed : List ℕ) (end : RunEnd) (settings : Settings) (pins : List PinReading)
    → (r : ReplaysImage p image t printed end) → r.settings ≡ settings → r.pins ≡ pins
    → (printed ≡ lines_of p (names_of p.rungs) avr_chip.view 0 (run image t settings pins)) × (end ≡ (run image t settings pins).end)
run_is p image t printed end settings pins r s e =
    let same : run image t r.settings r.pins ≡ run image t settings pins = ap (λ x. run image t x r.pins) s ∙ ap (run image t settings) e in
    (r.lines ∙ ap (lines_of p (names_of p.rungs) avr_chip.view 0) same, r.ends ∙ ap (λ x. x.end) same)

pub once : (p : Project) (image : Image) (t : Trace) (a b : List ℕ) (e f : RunEnd) → ReplaysImage p image t a e → ReplaysImage p image t b f
    → (a ≡ b) × (e ≡ f)
once p image t a b e f r s =
    let settings = same_settings p r.settings s.settings r.set s.set in
    let pins = one_at_pins p (names_of p.rungs) (readings t.steps) r.pins s.pins r.at_pins s.at_pins in
    let x = run_is p image t a e s.settings s.pins r settings pins in
    (x.0 ∙ sym s.lines, x.1 ∙ sym s.ends)

chip : (t : Target) → t ≡ Mega16 → is_chip t ≡ true
chip t e = ap is_chip e

pub for_chip : (p : Project) → IsForAvr p → is_chip p.target ≡ true
for_chip p h = chip p.target h.target

pub has_settings : (p : Project) → p.target ≡ Mega16 → rule p ≡ None → (s : Settings) × (settings_of p ≡ Some s)
has_settings p e kept = by (settings_of p) refl (settings_there p kept ∙ chip p.target e)
  where
    by : (o : Option Settings) → settings_of p ≡ o → is_some (settings_of p) ≡ true → (s : Settings) × (settings_of p ≡ Some s)
    by (Some s) e k = (s, e)
    by None e k = let clash = sym k ∙ ap is_some e in absurd cc

pub somehow : (p : Project) (image : Image) (t : Trace) → IsForAvr p → IsTraceOf (names_of p.rungs) t
    → (printed : List ℕ) × (end : RunEnd) × ReplaysImage p image t printed end
somehow p image t h k =
    let settings = has_settings p h.target h.kept in
    let pins = readings_stand p (readings t.steps) (for_chip p h) h.kept (trace_readings (names_of p.rungs) t k) in
    let r = run image t settings.0 pins.0 in (
      lines_of p (names_of p.rungs) avr_chip.view 0 r,
      r.end,
      record { settings = settings.0; set = settings.1; pins = pins.0; at_pins = pins.1; lines = refl; ends = refl },
    )
