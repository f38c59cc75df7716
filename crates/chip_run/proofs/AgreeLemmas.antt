-- The lines of a run that agrees with a ladder.
use Rattle.std.proofs.Common.{◌≡◌, ℕ, suc, ◌+◌, ◌*◌, ◌<◌, ◌≤◌, List, [], ◌∷◌, ◌++◌, length, map, drop, All, refl, sym, ap, subst, ◌∙◌, arith}
use Rattle.std.specs.Prelude.{slice_index}
use Rattle.std.proofs.Math.Path.{fun_ext}
use Rattle.std.proofs.lemmas.List.{at_drop_all, drop_more, length-map}
use Rattle.std.proofs.lemmas.List.Elements.{All-get_or}
use Rattle.std.proofs.lemmas.Option.{get_or_from_slice_get}
use Rattle.chip_tables.specs.Memory.{eeprom_size}
use Rattle.chip_tables.specs.declared.outside.PinReading.{PinReading}
use Rattle.chip_tables.specs.declared.pins.PortBit.{PortBit}
use Rattle.ladder_tree.specs.Names.{names_of}
use Rattle.ladder_tree.specs.declared.project.Project.{Project}
use Rattle.ladder_meaning.specs.Bounds.{AreNumbers}
use Rattle.ladder_meaning.specs.Cycle.{Ended, start, history, cycle}
use Rattle.ladder_meaning.specs.State.{Seen, State, seen}
use Rattle.ladder_rules.specs.Assigned.{HavePlaces, name_bit}
use Rattle.ladder_trace.specs.Simulated.{readings, eeprom_of, lines_from, view_with, duty_shown}
use Rattle.mem_plan.specs.Seen.{pins_seen}
use Rattle.chip_meaning.specs.Chip.{Chip, Resets}
use Rattle.chip_meaning.specs.Carries.{all_seen}
use Rattle.chip_run.specs.Agree.{IsCycle, AreCycles}
use Rattle.chip_run.specs.LinesAgree.{LinesAgree}
use Rattle.chip_run.specs.Replay.{Done, replayed}
use Rattle.chip_run.specs.Shown.{shown_of}
use Rattle.chip_run.proofs.CarryLemmas.{agrees}
use Rattle.chip_run.proofs.ShownLemmas.{shown_agrees}

length-history : (p : Project) (s : State) (rs : List Seen) → length (history p s rs) ≡ length rs
length-history p s [] = refl
length-history p s (r ∷ rs) = ap suc (length-history p (cycle p s r).state rs)

pub seen_pins : (p : Project) (rs : List PinReading) → all_seen p rs ≡ map (seen (names_of p.rungs)) (map (pins_seen p (names_of p.rungs)) rs)
seen_pins p [] = refl
seen_pins p (r ∷ rs) = ap (λ xs. seen (names_of p.rungs) (pins_seen p (names_of p.rungs) r) ∷ xs) (seen_pins p rs)

module _ {M : Type 0} (chip : Chip M) (p : Project) (places : HavePlaces PortBit (name_bit p) (names_of p.rungs).outputs)
    (room : 2 * length (names_of p.rungs).persistent ≤ eeprom_size p.target) (ends : List Ended)
    (short : All (λ (e : Ended). AreNumbers e.state.number) ends) where
  -- what is shown of a cycle that ends as the ladder's
  cycle_shown : (k : ℕ) (d : Done M) (c : IsCycle chip p ends k d) → k < length ends →
      shown_of p (names_of p.rungs) (chip.view d.state) d.sent ≡ view_with (duty_shown p) (names_of p.rungs) c.end
  cycle_shown k d c lt =
      let number : AreNumbers c.end.state.number = subst (λ (e : Ended). AreNumbers e.state.number) (get_or_from_slice_get ends k c.end c.end c.is)
      (All-get_or (λ (e : Ended). AreNumbers e.state.number) ends k c.end lt short) in
      ap (λ b. shown_of p (names_of p.rungs) (chip.view d.state) b) c.sent ∙ shown_agrees p (chip.view d.state) c.end places room number c.shows

  views_agree : (k : ℕ) (ds : List (Done M)) → AreCycles chip p ends k ds → k + length ds ≡ length ends →
      map (λ d. shown_of p (names_of p.rungs) (chip.view d.state) d.sent) ds ≡ map (view_with (duty_shown p) (names_of p.rungs)) (drop k ends)
  views_agree k [] are size = sym (at_drop_all (map (view_with (duty_shown p) (names_of p.rungs))) ends k (omega (arith, size)))
  views_agree k (d ∷ ds) are size =
      let c = are.0 in
      let n = names_of p.rungs in
      let lt : k < length ends = omega (arith, size) in
      let left : drop k ends ≡ c.end ∷ drop (k + 1) ends =
      drop_more ends k c.end lt ∙ ap (λ e. e ∷ drop (k + 1) ends) (get_or_from_slice_get ends k c.end c.end c.is) in
      let rest = views_agree (k + 1) ds are.1 (omega (arith, size)) in
      ap (λ v. v ∷ map (λ x. shown_of p n (chip.view x.state) x.sent) ds) (cycle_shown k d c lt)
      ∙ ap (λ vs. view_with (duty_shown p) n c.end ∷ vs) rest ∙ ap (map (view_with (duty_shown p) n)) (sym left)

pub lines_agree : {M : Type 0} (chip : Chip M) (resets : Resets M) → LinesAgree chip resets
lines_agree chip resets p words rest cycles boot carries in_cycle in_boot takes m eeprom rs trace f =
    let n = names_of p.rungs in
    let a = agrees chip resets p words rest cycles boot carries in_cycle in_boot takes m eeprom rs f.reset f.reads in
    let all = all_seen p rs in
    let es = history p (start p (slice_index eeprom)) all in
    let r = replayed chip.step (words ++ rest) m rs in
    let size : 0 + length r.cycles ≡ length es =
    omega (arith, a.count, length-history p (start p (slice_index eeprom)) all, length-map rs (λ q. seen n (pins_seen p n q))) in
    let bytes : slice_index eeprom ≡ eeprom_of trace = fun_ext f.bytes in
    let saw : all ≡ map (seen n) (readings trace.steps) = seen_pins p rs ∙ ap (map (seen n)) f.seen in
    ap (lines_from n 0) (views_agree chip p f.outputs f.room es f.short 0 r.cycles a.cycles size)
    ∙ ap (λ b. lines_from n 0 (map (view_with (duty_shown p) n) (history p (start p b) all))) bytes
    ∙ ap (λ qs. lines_from n 0 (map (view_with (duty_shown p) n) (history p (start p (eeprom_of trace)) qs))) saw
