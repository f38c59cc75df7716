use Rattle.std.proofs.Common.{◌≡◌, ℕ, List, map, length, refl, sym, ap, subst, ◌∙◌, arith}
use Rattle.std.proofs.lemmas.List.{length-map}
use Rattle.chip_tables.specs.declared.outside.PinReading.{PinReading}
use Rattle.ladder_tree.specs.Names.{names_of}
use Rattle.ladder_tree.specs.declared.names.Names.{Names}
use Rattle.ladder_trace.specs.Simulated.{readings}
use Rattle.mem_plan.specs.Seen.{pins_seen}
use Rattle.avr_mach.specs.declared.state.AvrState.{AvrState}
use Rattle.avr_chip.specs.Machine.{avr_chip}
use Rattle.chip_run.specs.AtPins.{ArePinsOf}
use Rattle.chip_run.specs.Lines.{lines_of}
use Rattle.chip_run.specs.Replay.{replayed}
use Rattle.avr_file.specs.Replays.{fresh}
use Rattle.avr_file.proofs.TraceLemmas.{few_readings}
use Rattle.avr_file.proofs.run.AvrRun.new.Goals as goal

pub returns-clause-ready : goal.returns-clause-ready
returns-clause-ready c =
    let p = c.args.legal.project in
    let n = c.args.legal.names in
    let pins = c.in_ok-pins.pins in
    let count : length pins ≡ length (readings c.args.trace.now.steps) = sym (length-map pins (pins_seen p n)) ∙ ap length c.in_ok-pins.ensures.seen in
    let few = few_readings n c.args.trace.now c.requires.trace in
    record { plan = c.requires.plan; few = omega (arith, count, few) }

pub returns-clause-runs : goal.returns-clause-runs
returns-clause-runs c =
    let p = c.args.legal.project in
    let n = c.args.legal.names in
    let t = c.args.trace.now in
    let image = c.args.image in
    let pins = c.in_ok-pins.pins in
    let settings = c.unwrap-settings.result in
    let named = c.args.legal.named in
    let m = c.reset-machine.result in
    let reset : m ≡ fresh settings t =
    c.reset-machine.ensures.zero ∙ ap (λ (bytes : List ℕ). fresh settings (record t { eeprom = bytes })) c.eeprom.ensures.bytes in
    let same = ap (λ (x : AvrState). replayed avr_chip.step image.words x pins) reset in
    record {
      settings = settings;
      set = sym c.settings.ensures.value ∙ c.unwrap-settings.ensures;
      pins = pins;
      at_pins = subst (λ (x : Names). ArePinsOf p x (readings t.steps) pins) named c.in_ok-pins.ensures;
      lines =
          ap (λ (x : Names). lines_of p x avr_chip.view 0 (replayed avr_chip.step image.words m pins)) named
          ∙ ap (lines_of p (names_of p.rungs) avr_chip.view 0) same;
      ends = ap (λ x. x.end) same;
    }
