-- What a ladder sees of a chip's pins, and what its program does.
use Rattle.std.proofs.Common.{◌≡◌, ℕ, zero, suc, ◌<◌, Bool, List, [], ◌∷◌, length, map, Option, Some, refl, sym, ap, arith, ◌∙◌}
use Rattle.std.specs.Prelude.{slice_index_or}
use Rattle.chip_tables.specs.declared.outside.PinReading.{PinReading}
use Rattle.chip_tables.specs.declared.pins.PortBit.{PortBit}
use Rattle.ladder_meaning.specs.State.{Seen}
use Rattle.ladder_meaning.specs.State as ladder
use Rattle.ladder_meaning.specs.declared.reading.Reading.{Reading}
use Rattle.ladder_rules.specs.Assigned.{name_bit, name_channel}
use Rattle.ladder_tree.specs.Names.{names_of}
use Rattle.ladder_tree.specs.declared.names.Names.{Names}
use Rattle.ladder_tree.specs.declared.project.Project.{Project}
use Rattle.mem_plan.specs.Seen.{pins_seen, level_at, number_at, is_high}
use Rattle.byte_lower.specs.Layout.{pin_at}
use Rattle.byte_lower.specs.Stands.{seen}
use Rattle.byte_lower.specs.declared.layout.Layout.{Layout}
use Rattle.chip_meaning.specs.Carries.{all_seen}

-- the pin of the name at each place
pub pin_of_name : (f : List ℕ → Option PortBit) (pins : List PortBit) (names : List (List ℕ)) → map Some pins ≡ map f names → (k : ℕ) → k < length names →
    f (slice_index_or names k []) ≡ Some (pin_at pins k)
pin_of_name f pins [] e k lt = absurd (omega arith)
pin_of_name f [] (n ∷ names) e k lt = absurd (cc)
pin_of_name f (b ∷ pins) (n ∷ names) e zero lt = let same : Some b ≡ f n = cc in sym same
pin_of_name f (b ∷ pins) (n ∷ names) e (suc k) lt =
    let rest : map Some pins ≡ map f names = cc in pin_of_name f pins names rest k (omega (arith, lt))

-- there are as many pins as names
pub pins_length : (f : List ℕ → Option PortBit) (pins : List PortBit) (names : List (List ℕ)) → map Some pins ≡ map f names → length pins ≡ length names
pins_length f [] [] e = refl
pins_length f [] (n ∷ names) e = absurd (cc)
pins_length f (b ∷ pins) [] e = absurd (cc)
pins_length f (b ∷ pins) (n ∷ names) e = let rest : map Some pins ≡ map f names = cc in ap suc (pins_length f pins names rest)

levels_same : (r : PinReading) (f : List ℕ → Option PortBit) (pins : List PortBit) (names : List (List ℕ)) → map Some pins ≡ map f names →
    map (is_high r.levels) pins ≡ map (λ name. level_at r (f name)) names
levels_same r f [] [] e = refl
levels_same r f [] (n ∷ names) e = absurd (cc)
levels_same r f (b ∷ pins) [] e = absurd (cc)
levels_same r f (b ∷ pins) (n ∷ names) e =
    let same : Some b ≡ f n = cc in
    let rest : map Some pins ≡ map f names = cc in
    ap (λ x. level_at r x ∷ map (is_high r.levels) pins) same ∙ ap (λ ls. level_at r (f n) ∷ ls) (levels_same r f pins names rest)

no_numbers : (r : PinReading) (f : List ℕ → Option ℕ) (names : List (List ℕ)) → names ≡ [] → [] ≡ map (λ name. number_at r (f name)) names
no_numbers r f names e = rw e refl

module _ (p : Project) (o : Layout) (inputs : map Some o.inputs ≡ map (name_bit p) (names_of p.rungs).inputs) (none : (names_of p.rungs).analog ≡ []) where
  same_reading : (r : PinReading) → seen o r ≡ pins_seen p (names_of p.rungs) r
  same_reading r =
      rw (levels_same r (name_bit p) o.inputs (names_of p.rungs).inputs inputs, no_numbers r (name_channel p) (names_of p.rungs).analog none) refl

  -- the ladder sees of the pins what the program is given
  pub seen_same : (readings : List PinReading) → map (ladder.seen (names_of p.rungs)) (map (seen o) readings) ≡ all_seen p readings
  seen_same [] = refl
  seen_same (r ∷ rs) =
      ap (λ x. ladder.seen (names_of p.rungs) x ∷ map (ladder.seen (names_of p.rungs)) (map (seen o) rs)) (same_reading r)
      ∙ ap (λ ls. ladder.seen (names_of p.rungs) (pins_seen p (names_of p.rungs) r) ∷ ls) (seen_same rs)
