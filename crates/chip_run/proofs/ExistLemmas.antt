-- Where the names have pins, each reading of a chip stands at the pins.
use Rattle.std.proofs.Common.{◌≡◌, ℕ, zero, suc, ◌+◌, ◌<◌, ◌≤◌, Bool, true, false, eqb, List, [], ◌∷◌, length, get_or, set, map, replicate, Option, Some, None, inl, inr, refl, sym, ap, subst, ◌∙◌, arith}
use Rattle.std.specs.Prelude.{◌↔◌, ◌≢◌, ℤ, pos, unsigned_abs, All, is_some}
use Rattle.std.specs.Option.{option_and_then}
use Rattle.std.proofs.lemmas.List.{length-set, get_or-replicate, get_or_past}
use Rattle.std.proofs.lemmas.List.Elements.{All-set, All-replicate, All-nil, All-cons, All-head, All-tail}
use Rattle.std.proofs.lemmas.Nat.Bits.{bit_at-zero}
use Rattle.std.proofs.lemmas.Bool.{cases_eq, both_ways}
use Rattle.chip_tables.specs.Bits.{bit_of}
use Rattle.chip_tables.specs.Pins.{port_bit_at, channel_at}
use Rattle.chip_tables.specs.declared.outside.PinReading.{PinReading}
use Rattle.chip_tables.specs.declared.pins.PortBit.{PortBit}
use Rattle.chip_tables.proofs.PinLemmas.{in_ports, in_channels}
use Rattle.ladder_meaning.specs.declared.reading.Reading.{Reading}
use Rattle.ladder_rules.specs.Assigned.{name_bit, name_channel, HavePins}
use Rattle.ladder_rules.specs.Pins.{is_chip, pin_of}
use Rattle.ladder_rules.specs.Verdict.{rule}
use Rattle.ladder_rules.proofs.AssignedLemmas.{have_pins, within_ports}
use Rattle.ladder_tree.specs.Names.{names_of}
use Rattle.ladder_tree.specs.declared.limits.TheConstants.{ANALOG_NUMBER}
use Rattle.ladder_tree.specs.declared.names.Names.{Names}
use Rattle.ladder_tree.specs.declared.project.Project.{Project}
use Rattle.mem_plan.specs.Seen.{pins_seen, is_high, IsForChip}
use Rattle.mem_plan.specs.Shown.{HighInput, ShowsLevels, NoInput, ShowsNumbers}
use Rattle.mem_plan.proofs.SeenLemmas.{with_bit, kept_levels, more_levels, kept_numbers, more_numbers, abs_same, abs_most, sees, zero_elsewhere}
use Rattle.chip_run.specs.AtPins.{ArePinsOf, IsPlain}

-- the port bit of a name is on one of five ports, and its channel one of eight
port_in : (p : Project) (name : List ℕ) (b : PortBit) → name_bit p name ≡ Some b → b.port < 5
port_in p name b h = by (pin_of p.pins name) h
  where
    by : (o : Option ℕ) → option_and_then (port_bit_at p.target) o ≡ Some b → b.port < 5
    by None h = absurd cc
    by (Some pin) h = (within_ports p.target (Some b) (in_ports p.target pin (Some b) (sym h))).0

channel_in : (p : Project) (name : List ℕ) (channel : ℕ) → name_channel p name ≡ Some channel → channel < 8
channel_in p name channel h = by (pin_of p.pins name) h
  where
    by : (o : Option ℕ) → option_and_then (channel_at p.target) o ≡ Some channel → channel < 8
    by None h = absurd cc
    by (Some pin) h = in_channels p.target pin (Some channel) (sym h)

all_zero : (n k : ℕ) → ◌≡◌ {A = ℕ} (get_or (replicate n 0) k 0) 0
all_zero zero k = refl
all_zero (suc n) zero = refl
all_zero (suc n) (suc k) = all_zero n k

module _ (p : Project) (n : Names) (r : Reading) (fits : IsForChip n r) where
  record Levels (k : ℕ) : Type 0 where
    levels : List ℕ
    size : length levels ≡ 5
    shown : ShowsLevels p n.inputs r.inputs k levels

  no_levels : Levels 0
  no_levels = record { levels = replicate 5 0; size = refl; shown = λ b. (λ t. absurd (dark b t), λ h. absurd (none b h)) }
    where
      dark : (b : PortBit) → is_high (replicate 5 0) b ≡ true → ⊥
      dark b t = let low : bit_of (get_or (replicate 5 0) b.port 0) b.bit ≡ false = ap (λ x. bit_of x b.bit) (all_zero 5 b.port) ∙ ap (λ x. eqb x 1) (bit_at-zero b.bit) in
          both_ways _ low t

      none : (b : PortBit) → HighInput p n.inputs r.inputs 0 b → ⊥
      none b h = let lt : h.place < 0 = h.before in omega arith

  one_level : (k : ℕ) → Levels k → Levels (k + 1)
  one_level k l = by (get_or r.inputs k false) (name_bit p (get_or n.inputs k [])) refl refl
    where
      by : (v : Bool) (o : Option PortBit) → get_or r.inputs k false ≡ v → name_bit p (get_or n.inputs k []) ≡ o → Levels (k + 1)
      by false o low at = record {
        levels = l.levels;
        size = l.size;
        shown = kept_levels p n.inputs r.inputs k l.levels (λ b h. both_ways _ low h.1) l.shown;
      }
      by true None high at = record {
        levels = l.levels;
        size = l.size;
        shown = kept_levels p n.inputs r.inputs k l.levels (λ b h. let no : None ≡ Some b = sym at ∙ h.0 in absurd cc) l.shown;
      }
      by true (Some b) high at = record {
        levels = with_bit l.levels b;
        size = length-set l.levels b.port _ ∙ l.size;
        shown = more_levels p n.inputs r.inputs k l.levels b (omega (arith, l.size, port_in p (get_or n.inputs k []) b at)) (at, high) l.shown;
      }

  levels_of : (k : ℕ) → Levels k
  levels_of zero = no_levels
  levels_of (suc k) = let same : k + 1 ≡ suc k = omega arith in subst Levels same (one_level k (levels_of k))

  record Numbers (k : ℕ) : Type 0 where
    adc : List ℕ
    size : length adc ≡ 8
    shown : ShowsNumbers p n.analog r.analog k adc
    converted : All (λ m. m ≤ ANALOG_NUMBER) adc

  no_numbers : Numbers 0
  no_numbers = record {
    adc = replicate 8 0;
    size = refl;
    shown = λ channel. inr (record { zero = all_zero 8 channel; none = λ place lt there. absurd (omega (arith, lt)) });
    converted = All-replicate (λ m. m ≤ ANALOG_NUMBER) 8 0 (omega arith);
  }

  one_number : (k : ℕ) → k < length n.analog → Numbers k → Numbers (k + 1)
  one_number k lt m = by (name_channel p (get_or n.analog k [])) refl
    where
      by : (o : Option ℕ) → name_channel p (get_or n.analog k []) ≡ o → Numbers (k + 1)
      by None at = record {
        adc = m.adc;
        size = m.size;
        shown = kept_numbers p n.analog r.analog k m.adc (λ channel h. let no : None ≡ Some channel = sym at ∙ h in absurd cc) m.shown;
        converted = m.converted;
      }
      by (Some channel) at =
          let given = fits.converted k (pos 0) (omega (arith, fits.analog, lt)) in
          let number : ℤ = get_or r.analog k (pos 0) in
          record {
            adc = set m.adc channel (unsigned_abs number);
            size = length-set m.adc channel (unsigned_abs number) ∙ m.size;
            shown = more_numbers p n.analog r.analog k m.adc channel (unsigned_abs number)
                (omega (arith, m.size, channel_in p (get_or n.analog k []) channel at)) at (abs_same number given.least) m.shown;
            converted = All-set (λ x. x ≤ ANALOG_NUMBER) m.adc channel _ (abs_most number ANALOG_NUMBER given.least given.most) m.converted;
          }

  numbers_of : (k : ℕ) → k ≤ length n.analog → Numbers k
  numbers_of zero le = no_numbers
  numbers_of (suc k) le =
      let same : k + 1 ≡ suc k = omega arith in subst Numbers same (one_number k (omega (arith, le)) (numbers_of k (omega (arith, le))))

  record AtPins : Type 0 where
    pins : PinReading
    seen : pins_seen p n pins ≡ r
    plain : IsPlain p n pins

  at_pins : HavePins p n → AtPins
  at_pins have =
      let l = levels_of (length n.inputs) in
      let m = numbers_of (length n.analog) (omega arith) in
      let s : PinReading = record { levels = l.levels; adc = m.adc; rx = r.rx; tx_busy = r.tx_busy; ee_busy = r.ee_busy } in
      record {
        pins = s;
        seen = sees p n have r fits s l.shown m.shown refl refl refl;
        plain = record {
          ports = l.size;
          channels = m.size;
          elsewhere = zero_elsewhere p n have r fits s l.shown m.shown;
          converted = m.converted;
        };
      }

all_at_pins : (p : Project) (n : Names) → HavePins p n → (readings : List Reading) → All (IsForChip n) readings
    → (pins : List PinReading) × ArePinsOf p n readings pins
all_at_pins p n have [] h = ([], record { seen = refl; plain = All-nil (IsPlain p n) })
all_at_pins p n have (r ∷ rs) h =
    let one = at_pins p n r (All-head (IsForChip n) r rs h) have in
    let rest = all_at_pins p n have rs (All-tail (IsForChip n) r rs h) in (
      one.pins ∷ rest.0,
      record {
        seen = ap (λ (x : Reading). x ∷ map (pins_seen p n) rest.0) one.seen ∙ ap (λ (xs : List Reading). r ∷ xs) rest.1.seen;
        plain = All-cons (IsPlain p n) one.pins rest.0 one.plain rest.1.plain;
      },
    )

pub readings_stand : (p : Project) (readings : List Reading) → is_chip p.target ≡ true → rule p ≡ None → All (IsForChip (names_of p.rungs)) readings
    → (pins : List PinReading) × ArePinsOf p (names_of p.rungs) readings pins
readings_stand p readings chip kept h = all_at_pins p (names_of p.rungs) (have_pins p chip kept) readings h
