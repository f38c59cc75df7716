use Rattle.std.proofs.Common.{◌≡◌, ◌+◌, ◌<◌, ℕ, List, [], Some, length, get_or, refl, sym, ap, subst, ◌∙◌, arith}
use Rattle.std.proofs.lemmas.Bool.{both_ways}
use Rattle.std.proofs.lemmas.List.{get_or_read, length-set}
use Rattle.ladder_rules.specs.Assigned.{name_bit}
use Rattle.mem_plan.specs.Shown.{ShowsLevels}
use Rattle.mem_plan.proofs.SeenLemmas.{kept_levels, more_levels, with_bit}
use Rattle.mem_plan.proofs.pins.levels_of.Goals.{then-inputs-place+in-Some, then-inputs-place+in_default, else-inputs-place}
use Rattle.mem_plan.proofs.pins.levels_of.Goals as goal

pub loop-place-preserved : goal.loop-place-preserved
loop-place-preserved c =
    let p = c.args.project.now in
    let names = c.args.names.now in
    let inputs = c.args.inputs.now in
    let k = c.loop-place.place in
    let old = c.loop-place.levels in
    let before = c.loop-place.invariant in
    let done : List ℕ → Type 0 = λ levels. record { size : length levels ≡ 5; shown : ShowsLevels p names inputs (k + 1) levels } in
    elim c.if-inputs-place.branch [
      | then-inputs-place+in-Some w ↦
          let b = w.in-Some.b in
          let name = get_or_read names k w.index-names-place.result c.loop-place-test.true w.index-names-place.is [] in
          let there : name_bit p (get_or names k []) ≡ Some b = ap (name_bit p) (sym name) ∙ sym w.name_bit.ensures.value ∙ w.in-Some.is in
          let written : c.if-inputs-place.levels ≡ with_bit old b = w.levels-is ∙ rw (w.from.ensures, w.bit_mask.ensures) refl in
          let size : length old ≡ 5 = before.size in
          let ports : b.port < 5 = w.in-Some.ensures.in_ports.0 in
          subst done (sym written) (record {
            size = length-set old b.port _ ∙ size;
            shown = more_levels p names inputs k old b (omega arith) (there, w.if-inputs-place.true) before.shown;
          })
      | then-inputs-place+in_default w ↦
          let name = get_or_read names k w.index-names-place.result c.loop-place-test.true w.index-names-place.is [] in
          subst done (sym w.levels-is) (record {
            size = before.size;
            shown = kept_levels p names inputs k old (λ b at. w.in_default.not-Some b (w.name_bit.ensures.value ∙ ap (name_bit p) name ∙ at.0)) before.shown;
          })
      | else-inputs-place w ↦
          subst done (sym w.levels-is) (record {
            size = before.size;
            shown = kept_levels p names inputs k old (λ b at. both_ways _ w.if-inputs-place.false at.1) before.shown;
          })
    ]
