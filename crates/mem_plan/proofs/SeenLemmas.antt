-- A byte for each port with the bits of high inputs, and a number for each channel, show what the ladder is to see.
use Rattle.std.proofs.Common.{◌≡◌, ◌≢◌, ℕ, ◌+◌, ◌^◌, ◌<◌, ◌≤◌, max, Bool, true, false, eqb, List, [], length, get_or, set, map, Option, Some, None, inl, inr, refl, sym, ap, subst, ◌∙◌, arith}
use Rattle.std.specs.Prelude.{◌↔◌, ◌⊎◌, ℤ, pos, negsuc, Contains, is_some, unsigned_abs, ◌≤ℤ◌}
use Rattle.std.specs.Int.{bit_at, w16}
use Rattle.std.specs.Int.RustNames.{bit_or, FitsSigned}
use Rattle.std.proofs.lemmas.Bool.{cases_eq, both_ways, false_from_ne_true}
use Rattle.std.proofs.lemmas.List.{get_or-set_same, get_or-set_other, length-map, get_or-map, ext_get_or}
use Rattle.std.proofs.lemmas.Grind.{get_or-set_at}
use Rattle.std.proofs.lemmas.Int.{ints}
use Rattle.std.proofs.lemmas.Nat.Bits.{bit_at_or, bit_at-pow_same, bit_at-pow_other, bit_at-lt}
use Rattle.chip_tables.specs.Bits.{bit_of}
use Rattle.chip_tables.specs.declared.outside.PinReading.{PinReading}
use Rattle.chip_tables.specs.declared.pins.PortBit.{PortBit}
use Rattle.ladder_meaning.specs.declared.reading.Reading.{Reading}
use Rattle.ladder_rules.specs.Assigned.{name_bit, name_channel, HavePins}
use Rattle.ladder_tree.specs.declared.names.Names.{Names}
use Rattle.ladder_tree.specs.declared.project.Project.{Project}
use Rattle.ladder_tree.specs.declared.limits.TheConstants.{ANALOG_NUMBER}
use Rattle.mem_plan.specs.Seen.{IsConverted, IsForChip, IsZeroElsewhere, is_high, level_at, number_at, pins_seen}
use Rattle.mem_plan.specs.Shown.{HighInput, ShowsLevels, AnalogInput, NoInput, ShowsNumbers}

abbrev Texts : Type 0
Texts = List (List ℕ)

-- a bit stays where another is set
other_bit : (n k i : ℕ) → i ≢ k → bit_of (bit_or n (2 ^ k)) i ≡ bit_of n i
other_bit n k i ne =
    let most : max (bit_at n i) 0 ≡ bit_at n i = omega arith in
    ap (λ m. eqb m 1) (bit_at_or n (2 ^ k) i ∙ ap (max (bit_at n i)) (bit_at-pow_other k i ne) ∙ most)

set_bit : (n k : ℕ) → bit_of (bit_or n (2 ^ k)) k ≡ true
set_bit n k =
    let below : bit_at n k < 2 = bit_at-lt n k in
    let most : max (bit_at n k) 1 ≡ 1 = omega arith in
    ap (λ m. eqb m 1) (bit_at_or n (2 ^ k) k ∙ ap (max (bit_at n k)) (bit_at-pow_same k) ∙ most)

abbrev port_bit : ℕ → ℕ → PortBit
port_bit port bit = record { port = port; bit = bit }

same_parts : (a b : PortBit) → a.port ≡ b.port → a.bit ≡ b.bit → a ≡ b
same_parts a b port bit = ap (λ (k : ℕ). port_bit k a.bit) port ∙ ap (port_bit b.port) bit

-- the levels with one more bit
abbrev pub with_bit : List ℕ → PortBit → List ℕ
with_bit levels b = set levels b.port (bit_or (get_or levels b.port 0) (2 ^ b.bit))

high_now : (levels : List ℕ) (b : PortBit) → b.port < length levels → is_high (with_bit levels b) b ≡ true
high_now levels b lt =
    ap (λ n. bit_of n b.bit) (get_or-set_same levels b.port _ 0 lt) ∙ set_bit (get_or levels b.port 0) b.bit

-- no other port bit changes
same_high : (levels : List ℕ) (b q : PortBit) → b.port < length levels → (b ≡ q → ⊥) → is_high (with_bit levels b) q ≡ is_high levels q
same_high levels b q lt ne = by (cases_eq q.port b.port) (cases_eq q.bit b.bit)
  where
    by : (q.port ≡ b.port) ⊎ (q.port ≡ b.port → ⊥) → (q.bit ≡ b.bit) ⊎ (q.bit ≡ b.bit → ⊥) → is_high (with_bit levels b) q ≡ is_high levels q
    by (inr other) bit = ap (λ n. bit_of n q.bit) (get_or-set_other levels b.port q.port _ 0 other)
    by (inl same) (inl bit) = absurd (ne (same_parts b q (sym same) (sym bit)))
    by (inl same) (inr other) =
        ap (λ n. bit_of n q.bit) (ap (λ k. get_or (with_bit levels b) k 0) same ∙ get_or-set_same levels b.port _ 0 lt)
        ∙ other_bit (get_or levels b.port 0) b.bit q.bit other ∙ ap (λ k. bit_of (get_or levels k 0) q.bit) (sym same)

module _ (p : Project) (names : Texts) where
  module _ (inputs : List Bool) where
    abbrev Lit : ℕ → PortBit → Type 0
    Lit many b = HighInput p names inputs many b

    abbrev LitAt : ℕ → PortBit → Type 0
    LitAt k b = (name_bit p (get_or names k []) ≡ Some b) × (get_or inputs k false ≡ true)

    more_lit : (k : ℕ) (b : PortBit) → Lit k b → Lit (k + 1) b
    more_lit k b h = record { place = h.place; before = let lt : h.place < k = h.before in omega arith; there = h.there; high = h.high }

    now_lit : (k : ℕ) (b : PortBit) → LitAt k b → Lit (k + 1) b
    now_lit k b h = record { place = k; before = omega arith; there = h.0; high = h.1 }

    lit_cases : (k : ℕ) (b : PortBit) → Lit (k + 1) b → Lit k b ⊎ LitAt k b
    lit_cases k b h = by (cases_eq h.place k)
      where
        by : (h.place ≡ k) ⊎ (h.place ≡ k → ⊥) → Lit k b ⊎ LitAt k b
        by (inl same) = inr (subst (λ (j : ℕ). LitAt j b) same (h.there, h.high))
        by (inr other) = inl (record { place = h.place; before = let lt : h.place < k + 1 = h.before in omega arith; there = h.there; high = h.high })

    pub kept_levels : (k : ℕ) (levels : List ℕ) → ((b : PortBit) → LitAt k b → ⊥) → ShowsLevels p names inputs k levels →
        ShowsLevels p names inputs (k + 1) levels
    kept_levels k levels none shows b = (λ t. more_lit k b ((shows b).0 t), λ h. by (lit_cases k b h))
      where
        by : Lit k b ⊎ LitAt k b → is_high levels b ≡ true
        by (inl h) = (shows b).1 h
        by (inr h) = absurd (none b h)

    same_bit : (a b : PortBit) → (a ≡ b) ⊎ (a ≡ b → ⊥)
    same_bit a b = by (cases_eq a.port b.port) (cases_eq a.bit b.bit)
      where
        by : (a.port ≡ b.port) ⊎ (a.port ≡ b.port → ⊥) → (a.bit ≡ b.bit) ⊎ (a.bit ≡ b.bit → ⊥) → (a ≡ b) ⊎ (a ≡ b → ⊥)
        by (inl port) (inl bit) = inl (same_parts a b port bit)
        by (inr port) bit = inr (λ e. port (ap (λ b. b.port) e))
        by (inl port) (inr bit) = inr (λ e. bit (ap (λ b. b.bit) e))

    pub more_levels : (k : ℕ) (levels : List ℕ) (b : PortBit) → b.port < length levels → LitAt k b → ShowsLevels p names inputs k levels →
        ShowsLevels p names inputs (k + 1) (with_bit levels b)
    more_levels k levels b lt at shows q = by (same_bit b q)
      where
        back : (b ≡ q → ⊥) → Lit k q ⊎ LitAt k q → is_high (with_bit levels b) q ≡ true
        back other (inl h) = same_high levels b q lt other ∙ (shows q).1 h
        back other (inr h) = let same : b ≡ q = cc (at.0, h.0) in absurd (other same)

        by : (b ≡ q) ⊎ (b ≡ q → ⊥) → (is_high (with_bit levels b) q ≡ true) ↔ Lit (k + 1) q
        by (inl same) = subst (λ (q : PortBit). (is_high (with_bit levels b) q ≡ true) ↔ Lit (k + 1) q) same (λ t. now_lit k b at, λ h. high_now levels b lt)
        by (inr other) = (λ t. more_lit k q ((shows q).0 (sym (same_high levels b q lt other) ∙ t)), λ h. back other (lit_cases k q h))

  module _ (numbers : List ℤ) where
    abbrev Shown : ℕ → ℕ → ℕ → Type 0
    Shown many channel number = AnalogInput p names numbers many channel number ⊎ NoInput p names many channel number

    more_shown : (k channel number : ℕ) → (name_channel p (get_or names k []) ≡ Some channel → ⊥) → Shown k channel number → Shown (k + 1) channel number
    more_shown k channel number other (inl h) =
        inl (record { place = h.place; before = let lt : h.place < k = h.before in omega arith; there = h.there; shown = h.shown })
    more_shown k channel number other (inr h) = inr (record { zero = h.zero; none = λ j lt there. by j lt there (cases_eq j k) })
      where
        by : (j : ℕ) → j < k + 1 → name_channel p (get_or names j []) ≡ Some channel → (j ≡ k) ⊎ (j ≡ k → ⊥) → ⊥
        by j lt there (inl same) = other (subst (λ (j : ℕ). name_channel p (get_or names j []) ≡ Some channel) same there)
        by j lt there (inr before) = h.none j (omega arith) there

    pub kept_numbers : (k : ℕ) (adc : List ℕ) → ((channel : ℕ) → name_channel p (get_or names k []) ≡ Some channel → ⊥) → ShowsNumbers p names numbers k adc →
        ShowsNumbers p names numbers (k + 1) adc
    kept_numbers k adc none shows channel = more_shown k channel (get_or adc channel 0) (none channel) (shows channel)

    pub more_numbers : (k : ℕ) (adc : List ℕ) (channel number : ℕ) → channel < length adc → name_channel p (get_or names k []) ≡ Some channel →
        get_or numbers k (pos 0) ≡ pos number → ShowsNumbers p names numbers k adc → ShowsNumbers p names numbers (k + 1) (set adc channel number)
    more_numbers k adc channel number lt there shown shows q = by (cases_eq q channel)
      where
        by : (q ≡ channel) ⊎ (q ≡ channel → ⊥) → Shown (k + 1) q (get_or (set adc channel number) q 0)
        by (inl same) =
            let now = get_or-set_at adc channel q number 0 same lt in
            inl (record { place = k; before = omega arith; there = there ∙ ap Some (sym same); shown = shown ∙ ap pos (sym now) })
        by (inr other) =
            let kept = get_or-set_other adc channel q number 0 other in
            subst (Shown (k + 1) q) (sym kept) (more_shown k q (get_or adc q 0) (λ h. let same : q ≡ channel = cc (there, h) in other same) (shows q))

pub abs_same : (n : ℤ) → pos 0 ≤ℤ n → n ≡ pos (unsigned_abs n)
abs_same (pos k) least = refl
abs_same (negsuc k) least = absurd (omega (arith, ints))

pub abs_most : (n : ℤ) (most : ℕ) → pos 0 ≤ℤ n → n ≤ℤ pos most → unsigned_abs n ≤ most
abs_most (pos k) most least h = omega (arith, ints)
abs_most (negsuc k) most least h = absurd (omega (arith, ints))

fits_by : (n : ℤ) (most : ℕ) → most < 2 ^ 15 → pos 0 ≤ℤ n → n ≤ℤ pos most → FitsSigned w16 n
fits_by (pos k) most small least h = record { sfits = omega (arith, ints) }
fits_by (negsuc k) most small least h = absurd (omega (arith, ints))

pub converted_fits : (n : ℤ) → IsConverted n → FitsSigned w16 n
converted_fits n h = fits_by n ANALOG_NUMBER (omega arith) h.least h.most

module _ (p : Project) (n : Names) (pins : HavePins p n) (r : Reading) (fits : IsForChip n r) (s : PinReading) where
  module _ (levels : ShowsLevels p n.inputs r.inputs (length n.inputs) s.levels) where
    level_by : (j : ℕ) (o : Option PortBit) (v : Bool) → j < length n.inputs → name_bit p (get_or n.inputs j []) ≡ o → is_some o ≡ true →
        get_or r.inputs j false ≡ v → level_at s o ≡ v
    level_by j None v lt there some is = let clash : ⊥ = cc in absurd clash
    level_by j (Some b) true lt there some is = (levels b).1 (record { place = j; before = lt; there = there; high = is })
    level_by j (Some b) false lt there some is = false_from_ne_true (is_high s.levels b) (λ t. low ((levels b).0 t))
      where
        low : HighInput p n.inputs r.inputs (length n.inputs) b → ⊥
        low h =
            let same = pins.inputs.apart h.place j h.before lt (h.there ∙ sym there) in
            both_ways _ is (ap (λ k. get_or r.inputs k false) (sym same) ∙ h.high)

    level_is : (j : ℕ) → j < length n.inputs → get_or (map (λ name. level_at s (name_bit p name)) n.inputs) j false ≡ get_or r.inputs j false
    level_is j lt =
        get_or-map (λ name. level_at s (name_bit p name)) n.inputs j [] false lt
        ∙ level_by j (name_bit p (get_or n.inputs j [])) (get_or r.inputs j false) lt refl (pins.inputs.each j [] lt) refl

    same_levels : map (λ name. level_at s (name_bit p name)) n.inputs ≡ r.inputs
    same_levels =
        let count = length-map n.inputs (λ name. level_at s (name_bit p name)) in
        ext_get_or false _ r.inputs (count ∙ sym fits.inputs) (λ j lt. level_is j (rw count at lt))

    high_inputs : (b : PortBit) → is_high s.levels b ≡ true → Contains (map (name_bit p) n.inputs) (Some b)
    high_inputs b t =
        let h = (levels b).0 t in
        (h.place, rw (length-map n.inputs (name_bit p)) h.before, get_or-map (name_bit p) n.inputs h.place [] (Some b) h.before ∙ h.there)

  module _ (numbers : ShowsNumbers p n.analog r.analog (length n.analog) s.adc) where
    number_by : (j : ℕ) (o : Option ℕ) → j < length n.analog → name_channel p (get_or n.analog j []) ≡ o → is_some o ≡ true →
        number_at s o ≡ get_or r.analog j (pos 0)
    number_by j None lt there some = let clash : ⊥ = cc in absurd clash
    number_by j (Some channel) lt there some = by (numbers channel)
      where
        by : Shown p n.analog r.analog (length n.analog) channel (get_or s.adc channel 0) →
            pos (get_or s.adc channel 0) ≡ get_or r.analog j (pos 0)
        by (inl h) =
            let same = pins.analog.apart h.place j h.before lt (h.there ∙ sym there) in
            sym h.shown ∙ ap (λ k. get_or r.analog k (pos 0)) same
        by (inr h) = absurd (h.none j lt there)

    number_is : (j : ℕ) → j < length n.analog → get_or (map (λ name. number_at s (name_channel p name)) n.analog) j (pos 0) ≡ get_or r.analog j (pos 0)
    number_is j lt =
        get_or-map (λ name. number_at s (name_channel p name)) n.analog j [] (pos 0) lt
        ∙ number_by j (name_channel p (get_or n.analog j [])) lt refl (pins.analog.each j [] lt)

    same_numbers : map (λ name. number_at s (name_channel p name)) n.analog ≡ r.analog
    same_numbers =
        let count = length-map n.analog (λ name. number_at s (name_channel p name)) in
        ext_get_or (pos 0) _ r.analog (count ∙ sym fits.analog) (λ j lt. number_is j (rw count at lt))

    numbered_inputs : (channel : ℕ) → get_or s.adc channel 0 ≢ 0 → Contains (map (name_channel p) n.analog) (Some channel)
    numbered_inputs channel some = by (numbers channel)
      where
        by : Shown p n.analog r.analog (length n.analog) channel (get_or s.adc channel 0) →
            Contains (map (name_channel p) n.analog) (Some channel)
        by (inl h) =
            let there = get_or-map (name_channel p) n.analog h.place [] (Some channel) h.before ∙ h.there in
            (h.place, rw (length-map n.analog (name_channel p)) h.before, there)
        by (inr h) = absurd (some h.zero)

  module _ (levels : ShowsLevels p n.inputs r.inputs (length n.inputs) s.levels) (numbers : ShowsNumbers p n.analog r.analog (length n.analog) s.adc) where
    pub sees : s.rx ≡ r.rx → s.tx_busy ≡ r.tx_busy → s.ee_busy ≡ r.ee_busy → pins_seen p n s ≡ r
    sees rx tx ee = rw (same_levels levels, same_numbers numbers, rx, tx, ee) refl

    pub zero_elsewhere : IsZeroElsewhere p n s
    zero_elsewhere = record { levels = high_inputs levels; numbers = numbered_inputs numbers }
