-- One reading at most stands at the pins where the ladder sees a reading.
use Rattle.std.proofs.Common.{◌≡◌, ℕ, ◌<◌, Bool, true, false, eqb, List, [], ◌∷◌, length, get_or, map, Option, Some, None, inl, inr, refl, sym, ap, subst, ◌∙◌, arith}
use Rattle.std.specs.Prelude.{◌⊎◌, ◌≢◌, ℤ, pos, All, Contains}
use Rattle.std.specs.Int.{bit_at}
use Rattle.std.proofs.lemmas.Bool.{cases_eq}
use Rattle.std.proofs.lemmas.List.{length-map, get_or-map, ext_get_or}
use Rattle.std.proofs.lemmas.List.Elements.{All-head, All-tail}
use Rattle.std.proofs.lemmas.Nat.Bits.{bit_at-lt, same_from_bits}
use Rattle.std.proofs.lemmas.Bool.Decides.{nat_tests}
use Rattle.chip_tables.specs.Bits.{bit_of}
use Rattle.chip_tables.specs.declared.outside.PinReading.{PinReading}
use Rattle.chip_tables.specs.declared.pins.PortBit.{PortBit}
use Rattle.ladder_meaning.specs.declared.reading.Reading.{Reading}
use Rattle.ladder_rules.specs.Assigned.{name_bit, name_channel}
use Rattle.ladder_tree.specs.declared.names.Names.{Names}
use Rattle.ladder_tree.specs.declared.project.Project.{Project}
use Rattle.mem_plan.specs.Seen.{is_high, level_at, number_at, pins_seen}
use Rattle.chip_run.specs.AtPins.{ArePinsOf, IsPlain}

same_bits : (x y : ℕ) → eqb x 1 ≡ eqb y 1 → x < 2 → y < 2 → x ≡ y
same_bits x y e lx ly = by (eqb x 1) refl (eqb y 1) refl
  where
    by : (b : Bool) → eqb x 1 ≡ b → (d : Bool) → eqb y 1 ≡ d → x ≡ y
    by true h true g = grind (arith, nat_tests)
    by false h false g = grind (arith, nat_tests)
    by true h false g = let clash : true ≡ false = sym h ∙ e ∙ g in absurd cc
    by false h true g = let clash : true ≡ false = sym g ∙ sym e ∙ h in absurd cc

same_from_levels : (a b : ℕ) → ((i : ℕ) → bit_of a i ≡ bit_of b i) → a ≡ b
same_from_levels a b h = same_from_bits a b (λ i. same_bits (bit_at a i) (bit_at b i) (h i) (bit_at-lt a i) (bit_at-lt b i))

module _ (p : Project) (n : Names) where
  module _ (r s : PinReading) (seen : pins_seen p n r ≡ pins_seen p n s) (plain : IsPlain p n r) where
    level_named : (k : ℕ) (q : PortBit) → k < length n.inputs → name_bit p (get_or n.inputs k []) ≡ Some q → is_high r.levels q ≡ is_high s.levels q
    level_named k q lt there =
        ap (level_at r) (sym there)
        ∙ sym (get_or-map (λ name. level_at r (name_bit p name)) n.inputs k [] false lt)
        ∙ ap (λ x. get_or x.inputs k false) seen
        ∙ get_or-map (λ name. level_at s (name_bit p name)) n.inputs k [] false lt
        ∙ ap (level_at s) there

    high_too : (q : PortBit) → is_high r.levels q ≡ true → is_high s.levels q ≡ true
    high_too q t =
        let h = plain.elsewhere.levels q t in
        let lt : h.0 < length n.inputs = rw (← length-map n.inputs (name_bit p)) h.1 in
        sym (level_named h.0 q lt (sym (get_or-map (name_bit p) n.inputs h.0 [] (Some q) lt) ∙ h.2)) ∙ t

    number_named : (k channel : ℕ) → k < length n.analog → name_channel p (get_or n.analog k []) ≡ Some channel
        → get_or r.adc channel 0 ≡ get_or s.adc channel 0
    number_named k channel lt there =
        let same : pos (get_or r.adc channel 0) ≡ pos (get_or s.adc channel 0) =
        ap (number_at r) (sym there)
        ∙ sym (get_or-map (λ name. number_at r (name_channel p name)) n.analog k [] (pos 0) lt)
        ∙ ap (λ x. get_or x.analog k (pos 0)) seen
        ∙ get_or-map (λ name. number_at s (name_channel p name)) n.analog k [] (pos 0) lt
        ∙ ap (number_at s) there in
        cc

    number_too : (channel : ℕ) → get_or r.adc channel 0 ≢ 0 → get_or r.adc channel 0 ≡ get_or s.adc channel 0
    number_too channel some =
        let h = plain.elsewhere.numbers channel some in
        let lt : h.0 < length n.analog = rw (← length-map n.analog (name_channel p)) h.1 in
        number_named h.0 channel lt (sym (get_or-map (name_channel p) n.analog h.0 [] (Some channel) lt) ∙ h.2)

  one_reading : (r s : PinReading) → pins_seen p n r ≡ pins_seen p n s → IsPlain p n r → IsPlain p n s → r ≡ s
  one_reading r s seen a b = same levels numbers (ap (λ x. x.rx) seen) (ap (λ x. x.tx_busy) seen) (ap (λ x. x.ee_busy) seen)
    where
      level : (q : PortBit) → is_high r.levels q ≡ is_high s.levels q
      level q = both (is_high r.levels q) (is_high s.levels q) (high_too r s seen a q) (high_too s r (sym seen) b q)
        where
          both : (x y : Bool) → (x ≡ true → y ≡ true) → (y ≡ true → x ≡ true) → x ≡ y
          both true y h g = sym (h refl)
          both false true h g = g refl
          both false false h g = refl

      byte : (port : ℕ) → get_or r.levels port 0 ≡ get_or s.levels port 0
      byte port = same_from_levels (get_or r.levels port 0) (get_or s.levels port 0) (λ bit. level (record { port = port; bit = bit }))

      levels : r.levels ≡ s.levels
      levels = ext_get_or 0 r.levels s.levels (a.ports ∙ sym b.ports) (λ j lt. byte j)

      number : (channel : ℕ) → get_or r.adc channel 0 ≡ get_or s.adc channel 0
      number channel = by (cases_eq (get_or r.adc channel 0) 0) (cases_eq (get_or s.adc channel 0) 0)
        where
          by : (get_or r.adc channel 0 ≡ 0) ⊎ (get_or r.adc channel 0 ≡ 0 → ⊥) → (get_or s.adc channel 0 ≡ 0) ⊎ (get_or s.adc channel 0 ≡ 0 → ⊥)
              → get_or r.adc channel 0 ≡ get_or s.adc channel 0
          by (inr some) none = number_too r s seen a channel some
          by (inl none) (inr some) = sym (number_too s r (sym seen) b channel some)
          by (inl none) (inl too) = none ∙ sym too

      numbers : r.adc ≡ s.adc
      numbers = ext_get_or 0 r.adc s.adc (a.channels ∙ sym b.channels) (λ j lt. number j)

      same : r.levels ≡ s.levels → r.adc ≡ s.adc → r.rx ≡ s.rx → r.tx_busy ≡ s.tx_busy → r.ee_busy ≡ s.ee_busy → r ≡ s
      same le ad rx tx ee =
          ap (λ (x : List ℕ). record { levels = x; adc = r.adc; rx = r.rx; tx_busy = r.tx_busy; ee_busy = r.ee_busy }) le
          ∙ ap (λ (x : List ℕ). record { levels = s.levels; adc = x; rx = r.rx; tx_busy = r.tx_busy; ee_busy = r.ee_busy }) ad
          ∙ ap (λ (x : Option ℕ). record { levels = s.levels; adc = s.adc; rx = x; tx_busy = r.tx_busy; ee_busy = r.ee_busy }) rx
          ∙ ap (λ (x : Bool). record { levels = s.levels; adc = s.adc; rx = s.rx; tx_busy = x; ee_busy = r.ee_busy }) tx
          ∙ ap (λ (x : Bool). record { levels = s.levels; adc = s.adc; rx = s.rx; tx_busy = s.tx_busy; ee_busy = x }) ee

  pub readings_once : (a b : List PinReading) → map (pins_seen p n) a ≡ map (pins_seen p n) b → All (IsPlain p n) a → All (IsPlain p n) b → a ≡ b
  readings_once [] [] h pa pb = refl
  readings_once [] (y ∷ ys) h pa pb = absurd cc
  readings_once (x ∷ xs) [] h pa pb = absurd cc
  readings_once (x ∷ xs) (y ∷ ys) h pa pb =
      let head : pins_seen p n x ≡ pins_seen p n y = cc in
      let tail : map (pins_seen p n) xs ≡ map (pins_seen p n) ys = cc in
      let one = one_reading x y head (All-head (IsPlain p n) x xs pa) (All-head (IsPlain p n) y ys pb) in
      let rest = readings_once xs ys tail (All-tail (IsPlain p n) x xs pa) (All-tail (IsPlain p n) y ys pb) in
      ap (λ (z : PinReading). z ∷ xs) one ∙ ap (λ (zs : List PinReading). y ∷ zs) rest

  pub one_at_pins : (readings : List Reading) (a b : List PinReading) → ArePinsOf p n readings a → ArePinsOf p n readings b → a ≡ b
  one_at_pins readings a b ha hb = readings_once a b (ha.seen ∙ sym hb.seen) ha.plain hb.plain
