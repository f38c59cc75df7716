use Rattle.std.proofs.Common.{◌≡◌, ℕ, ◌≤◌, Err, refl, sym, ap, subst, ◌∙◌}
use Rattle.chip_tables.specs.declared.settings.Settings.{Settings}
use Rattle.avr_gen.proofs.Carry.{assembled_carry}
use Rattle.ladder_rules.specs.Needs.{word_need, cycle_cap, boot_cap}
use Rattle.avr_gen.proofs.Needed.{linked_is_within_need}
use Rattle.avr_gen.proofs.Words.{Given, board, linked, placed, same_settings}
use Rattle.avr_gen.specs.Firmware.{IsFirmware, IsCodeFull}
use Rattle.avr_gen.proofs.firmware.firmware.Goals as goal

pub layout_words-requires-clause-board : goal.layout_words-requires-clause-board
layout_words-requires-clause-board c =
    board c.args.legal.now.project c.args.legal.now.names c.in-Ok.layout c.args.program.now c.args.plan.now (record {
      target = c.requires.target;
      rules = c.args.legal.now.rules;
      fit = c.requires.fit;
      named = c.args.legal.now.named;
      lowered = c.requires.lowered;
      planned = c.requires.plan;
      sizes = c.requires.sizes;
      place = c.in-Ok.ensures.plan;
      inputs = c.in-Ok.ensures.inputs;
      outputs = c.in-Ok.ensures.outputs;
      built = c.if-not-is_covered.ensures.0 refl;
    })
    c.unwrap-settings.result (sym c.settings.ensures.value ∙ c.unwrap-settings.ensures)

pub returns-in-Ok-layout_words-clause-ok : goal.returns-in-Ok-layout_words-clause-ok
returns-in-Ok-layout_words-clause-ok c settings set =
    let p = c.args.legal.now.project in
    let o = c.in-Ok.layout in
    let program = c.args.program.now in
    let given : Given p c.args.legal.now.names o program c.args.plan.now = (record {
      target = c.requires.target;
      rules = c.args.legal.now.rules;
      fit = c.requires.fit;
      named = c.args.legal.now.named;
      lowered = c.requires.lowered;
      planned = c.requires.plan;
      sizes = c.requires.sizes;
      place = c.in-Ok.ensures.plan;
      inputs = c.in-Ok.ensures.inputs;
      outputs = c.in-Ok.ensures.outputs;
      built = c.if-not-is_covered.ensures.0 refl;
    }) in
    let own = sym c.settings.ensures.value ∙ c.unwrap-settings.ensures in
    let made = c.in-Ok-layout_words.words in
    let runs = c.in-Ok-layout_words.ensures in
    let joined = linked p c.args.legal.now.names o program c.args.plan.now given in
    let few = linked_is_within_need p o c.unwrap-settings.result program c.requires.target c.args.legal.now.rules joined
    (placed p c.args.legal.now.names o program c.args.plan.now given) in
    subst (λ (x : Settings). IsFirmware p program x made) (same_settings p c.unwrap-settings.result settings own set) (record {
      carries = assembled_carry p o c.unwrap-settings.result program made.words made.cycles made.boot c.requires.target c.args.legal.now.rules own joined
          (placed p c.args.legal.now.names o program c.args.plan.now given) runs.runs;
      layout = o;
      linked = joined;
      words = runs.length;
      cycles = runs.cycles;
      boot = runs.boot;
      words_few = subst (λ (n : ℕ). n ≤ word_need p) (sym runs.length) few.words_few;
      cycles_few = subst (λ (n : ℕ). n ≤ cycle_cap p) (sym runs.cycles) few.cycles_few;
      boot_few = subst (λ (n : ℕ). n ≤ boot_cap p) (sym runs.boot) few.boot_few;
    })

pub returns-in-Err-CodeFull-clause-full : goal.returns-in-Err-CodeFull-clause-full
returns-in-Err-CodeFull-clause-full c settings set need have e =
    let p = c.args.legal.now.project in
    let o = c.in-Ok.layout in
    let program = c.args.program.now in
    let given : Given p c.args.legal.now.names o program c.args.plan.now = (record {
      target = c.requires.target;
      rules = c.args.legal.now.rules;
      fit = c.requires.fit;
      named = c.args.legal.now.named;
      lowered = c.requires.lowered;
      planned = c.requires.plan;
      sizes = c.requires.sizes;
      place = c.in-Ok.ensures.plan;
      inputs = c.in-Ok.ensures.inputs;
      outputs = c.in-Ok.ensures.outputs;
      built = c.if-not-is_covered.ensures.0 refl;
    }) in
    let own = sym c.settings.ensures.value ∙ c.unwrap-settings.ensures in
    let same = same_settings p c.unwrap-settings.result settings own set in
    let full = c.in-Err-CodeFull.ensures.full c.in-Err-CodeFull.need c.in-Err-CodeFull.have (ap Err c.in-Err-CodeFull.field-0-is) in
    let n : c.in-Err-CodeFull.need ≡ need = cc in
    let joined = linked p c.args.legal.now.names o program c.args.plan.now given in
    let few = linked_is_within_need p o c.unwrap-settings.result program c.requires.target c.args.legal.now.rules joined
    (placed p c.args.legal.now.names o program c.args.plan.now given) in
    let h : c.in-Err-CodeFull.have ≡ have = cc in (
      subst (λ (x : ℕ). IsCodeFull p program settings x) n
          (subst (λ (x : Settings). IsCodeFull p program x c.in-Err-CodeFull.need) same (record {
            layout = o;
            linked = joined;
            words = full.0;
            more = full.2;
            needed = subst (λ (n : ℕ). n ≤ word_need p) (sym full.0) few.words_few;
          })),
      sym h ∙ full.1,
    )
