use Rattle.std.proofs.Common.{◌≡◌, ◌+◌, ◌<◌, ◌≤◌, ℕ, List, [], Some, length, get_or, set, refl, sym, ap, subst, ◌∙◌, arith}
use Rattle.std.specs.Prelude.{All, pos, unsigned_abs}
use Rattle.std.specs.Int.{w16}
use Rattle.std.proofs.lemmas.Int.{to_z-of_z}
use Rattle.std.proofs.lemmas.List.{get_or_read, length-set}
use Rattle.std.proofs.lemmas.List.Elements.{All-set}
use Rattle.ladder_rules.specs.Assigned.{name_channel}
use Rattle.mem_plan.specs.Shown.{ShowsNumbers}
use Rattle.ladder_tree.specs.declared.limits.TheConstants.{ANALOG_NUMBER}
use Rattle.mem_plan.proofs.SeenLemmas.{kept_numbers, more_numbers, abs_same, abs_most, converted_fits}
use Rattle.mem_plan.proofs.pins.numbers_of.Goals.{in-Some, in_default}
use Rattle.mem_plan.proofs.pins.numbers_of.Goals as goal

pub loop-place-preserved : goal.loop-place-preserved
loop-place-preserved c =
    let p = c.args.project.now in
    let names = c.args.names.now in
    let numbers = c.args.numbers.now in
    let k = c.loop-place.place in
    let old = c.loop-place.adc in
    let before = c.loop-place.invariant in
    let name = get_or_read names k c.index-names-place.result c.loop-place-test.true c.index-names-place.is [] in
    let done : List ℕ → Type 0 =
    λ adc. record { size : length adc ≡ 8; shown : ShowsNumbers p names numbers (k + 1) adc; converted : All (λ n. n ≤ ANALOG_NUMBER) adc } in
    elim c.match-name_channel.branch [
      | in-Some w ↦
          let channel = w.in-Some.channel in
          let there : name_channel p (get_or names k []) ≡ Some channel = ap (name_channel p) (sym name) ∙ sym c.name_channel.ensures.value ∙ w.in-Some.is in
          let sizes : length numbers ≡ length names = c.requires.sizes in
          let test : k < length names = c.loop-place-test.true in
          let given = c.requires.converted k (pos 0) (omega arith) in
          let number = get_or numbers k (pos 0) in
          let value : w.unsigned_abs.result ≡ unsigned_abs number =
          w.unsigned_abs.ensures.value ∙ ap unsigned_abs (to_z-of_z w16 number (converted_fits number given)) in
          let written : c.match-name_channel.adc ≡ set old channel (unsigned_abs number) = w.adc-is ∙ rw (w.from.ensures, value) refl in
          let size : length old ≡ 8 = before.size in
          let channels : channel < 8 = w.in-Some.ensures.in_channels in
          subst done (sym written) (record {
            size = length-set old channel (unsigned_abs number) ∙ size;
            shown = more_numbers p names numbers k old channel (unsigned_abs number) (omega arith) there (abs_same number given.least) before.shown;
            converted = All-set (λ n. n ≤ ANALOG_NUMBER) old channel _ (abs_most number ANALOG_NUMBER given.least given.most) before.converted;
          })
      | in_default w ↦
          let none = λ (channel : ℕ) (at : name_channel p (get_or names k []) ≡ Some channel).
          w.in_default.not-Some channel (c.name_channel.ensures.value ∙ ap (name_channel p) name ∙ at) in
          subst done (sym w.adc-is) (record {
            size = before.size;
            shown = kept_numbers p names numbers k old none before.shown;
            converted = before.converted;
          })
    ]
