use Rattle.std.proofs.Common.{length, refl, sym, subst}
use Rattle.chip_tables.specs.declared.outside.PinReading.{PinReading}
use Rattle.ladder_rules.specs.Assigned.{HavePins}
use Rattle.ladder_rules.proofs.AssignedLemmas.{have_pins}
use Rattle.ladder_tree.specs.declared.names.Names.{Names}
use Rattle.mem_plan.specs.Shown.{ShowsLevels, ShowsNumbers}
use Rattle.mem_plan.proofs.SeenLemmas.{sees, zero_elsewhere}
use Rattle.mem_plan.proofs.pins.pin_reading.Goals as goal

module _ (c : goal.After-result-1) where
  pins : HavePins c.args.l.now.project c.args.l.now.names
  pins = subst (λ (n : Names). HavePins c.args.l.now.project n) (sym c.args.l.now.named) (have_pins c.args.l.now.project c.requires.chip c.args.l.now.rules)

  levels : ShowsLevels c.args.l.now.project c.args.l.now.names.inputs c.args.r.now.inputs (length c.args.l.now.names.inputs) c.levels_of.result
  levels = rw (c.as_slice.ensures, c.as_slice-2.ensures, c.names-names.ensures, c.project-project.ensures) at c.levels_of.ensures.shown

  numbers : ShowsNumbers c.args.l.now.project c.args.l.now.names.analog c.args.r.now.analog (length c.args.l.now.names.analog) c.numbers_of.result
  numbers = rw (c.as_slice-3.ensures, c.as_slice-4.ensures, c.names-names.ensures, c.project-project.ensures) at c.numbers_of.ensures.shown

  abbrev shown : PinReading
  shown = record {
    levels = c.levels_of.result;
    adc = c.numbers_of.result;
    rx = c.args.r.now.rx;
    tx_busy = c.args.r.now.tx_busy;
    ee_busy = c.args.r.now.ee_busy;
  }

pub returns-clause-seen : goal.returns-clause-seen
returns-clause-seen c =
    sees c.args.l.now.project c.args.l.now.names (pins c) c.args.r.now c.requires.sizes (shown c) (levels c) (numbers c) refl refl refl

pub returns-clause-elsewhere : goal.returns-clause-elsewhere
returns-clause-elsewhere c =
    zero_elsewhere c.args.l.now.project c.args.l.now.names (pins c) c.args.r.now c.requires.sizes (shown c) (levels c) (numbers c)
