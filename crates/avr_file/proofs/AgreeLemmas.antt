-- A file that carries a project prints the lines of the ladder.
use Rattle.std.proofs.Common.{◌≡◌, ℕ, zero, suc, ◌*◌, ◌<◌, ◌≤◌, List, [], ◌∷◌, ◌++◌, length, map, get_or, replicate, refl, sym, ap, subst, ◌∙◌, arith, append-nil}
use Rattle.std.specs.Prelude.{All, slice_index, slice_index_or}
use Rattle.std.specs.List.{AllByRecursion}
use Rattle.std.proofs.lemmas.List.Elements.{recursion_from_All, All-nil, All-cons, All-head, All-tail}
use Rattle.chip_tables.specs.declared.mega16.TheConstants.{EEPROM_BYTES, SRAM_BYTES, IO_FIRST}
use Rattle.chip_tables.specs.declared.outside.PinReading.{PinReading}
use Rattle.chip_tables.specs.declared.settings.Settings.{Settings}
use Rattle.ladder_tree.specs.Leaves.{all_leaves}
use Rattle.ladder_tree.specs.Names.{names_of}
use Rattle.ladder_tree.specs.declared.project.Project.{Project}
use Rattle.ladder_meaning.specs.Bounds.{AreNumbers}
use Rattle.ladder_meaning.specs.Cycle.{Ended, start, history}
use Rattle.ladder_meaning.specs.State.{Seen, seen}
use Rattle.ladder_rules.proofs.AssignedLemmas.{have_pins}
use Rattle.ladder_trace.specs.Simulated.{readings, eeprom_of, simulated}
use Rattle.ladder_trace.specs.Trace.{IsTraceOf}
use Rattle.ladder_trace.specs.declared.trace.Trace.{Trace}
use Rattle.mem_plan.specs.Seen.{pins_seen}
use Rattle.chip_meaning.specs.Carries.{all_seen}
use Rattle.chip_run.specs.AtPins.{IsPlain}
use Rattle.chip_run.specs.Lines.{lines_of}
use Rattle.chip_run.specs.LinesAgree.{IsSetUp}
use Rattle.chip_run.specs.Replay.{replayed}
use Rattle.chip_run.specs.declared.end.RunEnd.{RunEnd}
use Rattle.chip_run.specs.declared.end.RunEnd.TheVariants as ends
use Rattle.chip_run.specs.declared.end.TheConstants.{CYCLES_MOST}
use Rattle.chip_run.proofs.AgreeLemmas.{lines_agree, seen_pins}
use Rattle.chip_run.proofs.CarryLemmas.{agrees}
use Rattle.avr_mach.specs.declared.state.AvrState.{AvrState}
use Rattle.avr_chip.specs.Machine.{AreBytes, IsReset, avr_chip}
use Rattle.avr_run.proofs.CycleLemmas.{takes_cycles}
use Rattle.avr_file.specs.Carries.{CarriesHex}
use Rattle.avr_file.specs.Replays.{fresh, ReplaysImage}
use Rattle.avr_file.specs.Agree.{IsForAvr}
use Rattle.avr_file.proofs.NumberLemmas.{short}
use Rattle.avr_file.proofs.TraceLemmas.{trace_readings, trace_received, trace_bytes}
use Rattle.avr_file.proofs.OnceLemmas.{same_settings, run, run_is, for_chip}

zero_bytes : (n : ℕ) → AreBytes (replicate n 0) n
zero_bytes n = record { all = size n; each = each n }
  where
    size : (n : ℕ) → ◌≡◌ {A = ℕ} (length {A = ℕ} (replicate n 0)) n
    size zero = refl
    size (suc n) = ap suc (size n)

    each : (n a : ℕ) → slice_index (replicate n 0) a < 256
    each zero a = omega arith
    each (suc n) zero = omega arith
    each (suc n) (suc a) = each n a

pub fresh_reset : (settings : Settings) (t : Trace) → AreBytes t.eeprom EEPROM_BYTES → IsReset settings t.eeprom (fresh settings t)
fresh_reset settings t bytes = record {
  sram = replicate SRAM_BYTES 0;
  regs = replicate IO_FIRST 0;
  sram_bytes = zero_bytes SRAM_BYTES;
  regs_bytes = zero_bytes IO_FIRST;
  eeprom_bytes = bytes;
  is = refl;
}

plain_reads : (p : Project) (rs : List PinReading) → All (IsPlain p (names_of p.rungs)) rs → All avr_chip.reads rs
plain_reads p [] h = All-nil avr_chip.reads
plain_reads p (r ∷ rs) h =
    All-cons avr_chip.reads r rs (All-head (IsPlain p (names_of p.rungs)) r rs h).converted (plain_reads p rs (All-tail (IsPlain p (names_of p.rungs)) r rs h))

module _ (p : Project) (t : Trace) (for : IsForAvr p) (given : IsTraceOf (names_of p.rungs) t) (settings : Settings) (rs : List PinReading) where
  abbrev m : AvrState
  m = fresh settings t

  module _ (sees : map (pins_seen p (names_of p.rungs)) rs ≡ readings t.steps) (plain : All (IsPlain p (names_of p.rungs)) rs) where
    ended : All (λ (e : Ended). AreNumbers e.state.number) (history p (start p (slice_index t.eeprom)) (all_seen p rs))
    ended =
        let n = names_of p.rungs in
        let all : all_seen p rs ≡ map (seen n) (readings t.steps) = seen_pins p rs ∙ ap (map (seen n)) sees in
        subst (λ (xs : List Seen). All (λ (e : Ended). AreNumbers e.state.number) (history p (start p (slice_index t.eeprom)) xs)) (sym all)
        (short p n (slice_index t.eeprom) (readings t.steps) for.fit (trace_readings n t given) (trace_received n t given))

    reads : AllByRecursion avr_chip.reads rs
    reads = recursion_from_All avr_chip.reads rs (plain_reads p rs plain)

    set_up : IsSetUp avr_chip (IsReset settings) p m t.eeprom rs t
    set_up = record {
      outputs = (have_pins p (for_chip p for) for.kept).outputs;
      room = for.room;
      reset = fresh_reset settings t (trace_bytes (names_of p.rungs) t given);
      reads = reads;
      bytes = λ a. refl;
      seen = sees;
      short = ended;
    }

pub file_agrees : (p : Project) (file : List ℕ) (cycles boot : ℕ) (t : Trace) → IsForAvr p → IsTraceOf (names_of p.rungs) t → cycles < CYCLES_MOST → boot < CYCLES_MOST
    → (h : CarriesHex p file cycles boot) (printed : List ℕ) (end : RunEnd) → ReplaysImage p h.image t printed end
    → (printed ≡ simulated p t) × (end ≡ ends.Done)
file_agrees p file cycles boot t for given in_cycle in_boot h printed end r =
    let same = same_settings p r.settings h.settings r.set h.set in
    let x = run_is p h.image t printed end h.settings r.pins r same refl in
    let ready = set_up p t for given h.settings r.pins r.at_pins.seen r.at_pins.plain in
    let whole : h.image.words ++ [] ≡ h.image.words = append-nil h.image.words in
    let m = fresh h.settings t in
    let takes = takes_cycles (h.image.words ++ []) in
    let lines = lines_agree avr_chip (IsReset h.settings) p h.image.words [] cycles boot h.carries in_cycle in_boot takes m t.eeprom r.pins t ready in
    let ran = agrees avr_chip (IsReset h.settings) p h.image.words [] cycles boot h.carries in_cycle in_boot takes m t.eeprom r.pins ready.reset ready.reads in (
      x.0 ∙ ap (λ f. lines_of p (names_of p.rungs) avr_chip.view 0 (replayed avr_chip.step f m r.pins)) (sym whole) ∙ lines,
      x.1 ∙ ap (λ f. (replayed avr_chip.step f m r.pins).end) (sym whole) ∙ ran.ends,
    )
