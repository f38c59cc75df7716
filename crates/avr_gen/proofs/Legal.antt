-- The board of a project that keeps the rules.
use Rattle.std.proofs.Common.{◌≡◌, ℕ, zero, suc, ◌-◌, ◌<◌, ◌≤◌, Bool, true, false, cond, List, [], ◌∷◌, length, map, Option, Some, None, refl, sym, ap, subst, ◌∙◌, arith}
use Rattle.std.proofs.lemmas.Bool.Decides.{nat_tests}
use Rattle.std.specs.Prelude.{◌==◌, nat_le, if◌then◌else◌, find, slice_index_or}
use Rattle.std.specs.Option.{option_and_then, option_map}
use Rattle.chip_tables.proofs.PinLemmas.{carried}
use Rattle.chip_tables.specs.Pins.{port_bit_at}
use Rattle.chip_tables.specs.Settings.{ticks, ending_at, timer_of, avr_timer}
use Rattle.chip_tables.specs.declared.pins.PortBit.{PortBit}
use Rattle.chip_tables.specs.declared.settings.Settings.{Settings}
use Rattle.chip_tables.specs.declared.settings.TimerSetting.{TimerSetting}
use Rattle.chip_tables.specs.declared.target.Target.{Target}
use Rattle.chip_tables.specs.declared.target.Target.TheVariants.{Mega16}
use Rattle.ladder_tree.specs.Names.{names_of}
use Rattle.ladder_tree.specs.declared.project.Project.{Project}
use Rattle.ladder_rules.proofs.AssignedLemmas.{have_pins}
use Rattle.ladder_rules.specs.Assigned.{name_bit}
use Rattle.ladder_rules.specs.Pins.{is_chip, pin_of}
use Rattle.ladder_rules.specs.Settings.{settings_of, baud_in, pwm_in}
use Rattle.byte_lower.proofs.PinLemmas.{there, as_many}
use Rattle.byte_lower.specs.Layout.{pin_at}
use Rattle.avr_chip.specs.Layout.{AreBits}
use Rattle.avr_gen.specs.Admission.{LegalHasBoard}

-- the timer's registers hold the setting
record FitsTimer (t : TimerSetting) : Type 0 where
  control : t.control < 256
  compare : t.compare < 65536

ended : (control n : ℕ) (t : TimerSetting) → control < 256 → n ≤ 65536 → ending_at control n ≡ Some t → FitsTimer t
ended control n t small few e = by (n == 0) refl
  where
    by : (b : Bool) → (n == 0) ≡ b → FitsTimer t
    by true f =
        let none : None ≡ Some t = sym (ap (λ x. if x then None else Some (record { control = control; compare = n - 1 })) f) ∙ e in absurd (cc)
    by false f =
        let some : 1 ≤ n = grind (arith, nat_tests, f) in
        let found : Some (record { control = control; compare = n - 1 }) ≡ Some t =
        sym (ap (λ x. if x then None else Some (record { control = control; compare = n - 1 })) f) ∙ e in
        let is : record { control = control; compare = n - 1 } ≡ t = cc in
        record {
          control = subst (λ (x : TimerSetting). x.control < 256) is small;
          compare = subst (λ (x : TimerSetting). x.compare < 65536) is (omega (arith, few, some));
        }

-- a fact of each of a list
abbrev Each : {X : Type 0} → (X → Type 0) → List X → Type 0
Each P [] = Unit {0}
Each P (x ∷ xs) = P x × Each P xs

-- what the first of a list that passes gives, where each that passes gives a timer that fits
module _ {X : Type 0} (passes : X → Bool) (gives : X → Option TimerSetting) where
  chosen : (xs : List X) → Each (λ x. passes x ≡ true → (t : TimerSetting) → gives x ≡ Some t → FitsTimer t) xs →
      (t : TimerSetting) → option_and_then gives (find passes xs) ≡ Some t → FitsTimer t
  chosen [] each t e = absurd (cc)
  chosen (x ∷ xs) each t e = by (passes x) refl (chosen xs each.1 t)
    where
      by : (b : Bool) → passes x ≡ b → (option_and_then gives (find passes xs) ≡ Some t → FitsTimer t) → FitsTimer t
      by true f later = each.0 f t (sym (ap (λ b. option_and_then gives (cond b (Some x) (find passes xs))) f) ∙ e)
      by false f later = later (sym (ap (λ b. option_and_then gives (cond b (Some x) (find passes xs))) f) ∙ e)

module _ (cycle hz : ℕ) where
  fits_at : (control ratio : ℕ) → control < 256 → nat_le (ticks cycle hz 1 ratio) 65536 ≡ true → (t : TimerSetting) →
      ending_at control (ticks cycle hz 1 ratio) ≡ Some t → FitsTimer t
  fits_at control ratio small f t e =
      let few : ticks cycle hz 1 ratio ≤ 65536 = grind (arith, nat_tests, f) in
      ended control (ticks cycle hz 1 ratio) t small few e

  avr_timed : (t : TimerSetting) → timer_of Mega16 cycle hz ≡ Some t → FitsTimer t
  avr_timed t e =
      chosen (λ p. nat_le (ticks cycle hz 1 p.ratio) 65536) (λ p. ending_at p.control (ticks cycle hz 1 p.ratio)) avr_timer (
        fits_at 0x09 1 (omega arith),
        (fits_at 0x0a 8 (omega arith), (fits_at 0x0b 64 (omega arith), (fits_at 0x0c 256 (omega arith), (fits_at 0x0d 1024 (omega arith), tt)))),
      ) t e

-- a board's settings are those of a timer that the chip has
timer_fits : (p : Project) (settings : Settings) → p.target ≡ Mega16 → settings_of p ≡ Some settings → FitsTimer settings.timer
timer_fits p settings target e = by (timer_of p.target p.cycle p.crystal) refl e
  where
    with_timer : Option TimerSetting → Option Settings
    with_timer x = option_map (λ timer. record { timer = timer; baud = baud_in p; pwm = pwm_in p }) x

    by : (x : Option TimerSetting) → timer_of p.target p.cycle p.crystal ≡ x → with_timer x ≡ Some settings → FitsTimer settings.timer
    by None f g = absurd (cc)
    by (Some t) f g =
        let is : record { timer = t; baud = baud_in p; pwm = pwm_in p } ≡ settings = cc in
        subst FitsTimer (ap (λ (s : Settings). s.timer) is)
        (avr_timed p.cycle p.crystal t (sym (ap (λ (x : Target). timer_of x p.cycle p.crystal) target) ∙ f))

-- a name's port bit is one of the four ports
name_in_ports : (p : Project) (name : List ℕ) (b : PortBit) → p.target ≡ Mega16 → name_bit p name ≡ Some b → (b.port < 4) × (b.bit < 8)
name_in_ports p name b target e = by (pin_of p.pins name) e
  where
    by : (x : Option ℕ) → option_and_then (port_bit_at p.target) x ≡ Some b → (b.port < 4) × (b.bit < 8)
    by None f = absurd (cc)
    by (Some q) f =
        let at = carried Mega16 q b (subst (λ (x : Target). port_bit_at x q ≡ Some b) target f) in (at.port, at.bit)

are_bits : (ps : List PortBit) → ((k : ℕ) → k < length ps → (pin_at ps k).bit < 8) → AreBits ps
are_bits [] h = tt
are_bits (p ∷ ps) h = (h zero (omega arith), are_bits ps (λ k lt. h (suc k) (omega (arith, lt))))

pins_in_ports : (p : Project) (names : List (List ℕ)) (pins : List PortBit) → p.target ≡ Mega16 → map Some pins ≡ map (name_bit p) names →
    (k : ℕ) → k < length pins → ((pin_at pins k).port < 4) × ((pin_at pins k).bit < 8)
pins_in_ports p names pins target e k h =
    name_in_ports p (slice_index_or names k []) (pin_at pins k) target (there (name_bit p) pins names k e h)

pub board_of_legal : LegalHasBoard
board_of_legal p o settings target kept same ins outs set =
    let names = names_of p.rungs in
    let pins = have_pins p (ap is_chip target) kept in
    let fits = timer_fits p settings target set in
    let at_outputs = pins_in_ports p names.outputs o.outputs target outs in
    record {
      layout = record {
        target = same ∙ target;
        outputs = refl;
        ports = λ k h. (at_outputs k h).0;
        bits = are_bits o.outputs (λ k h. (at_outputs k h).1);
      };
      inputs = pins_in_ports p names.inputs o.inputs target ins;
      crossed = λ i j h g e. pins.crossed i j (subst (λ m. i < m) (as_many (name_bit p) o.inputs names.inputs ins) h)
          (subst (λ m. j < m) (as_many (name_bit p) o.outputs names.outputs outs) g)
          (there (name_bit p) o.inputs names.inputs i ins h ∙ ap Some e ∙ sym (there (name_bit p) o.outputs names.outputs j outs g));
      control = fits.control;
      compare = fits.compare;
    }
