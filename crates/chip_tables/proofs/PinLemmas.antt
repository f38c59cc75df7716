-- Each port bit stands at one pin, and each analog channel too.
use Rattle.std.proofs.Common.{◌≡◌, ℕ, ◌<◌, Bool, true, false, ◌&&◌, cond, List, [], ◌∷◌, length, get_or, Option, Some, None, refl, sym, ap, subst, ◌∙◌, arith}
use Rattle.std.specs.Prelude.{nat_lt, find, option_map, ◌==◌, IfSome}
use Rattle.std.specs.List.{list_all, position, position_or_len}
use Rattle.std.proofs.lemmas.Bool.{and_parts, false≢true, eqb-true, ltb-true}
use Rattle.std.proofs.lemmas.Bool.Decides.{nat_tests}
use Rattle.std.proofs.lemmas.List.Sums.{passes_at_first}
use Rattle.chip_tables.specs.declared.target.Target.{Target}
use Rattle.chip_tables.specs.declared.target.Target.TheVariants.{F628, F877, Mega16, Interp, AnsiC}
use Rattle.chip_tables.specs.declared.pins.PinRow.{PinRow}
use Rattle.chip_tables.specs.declared.pins.PortBit.{PortBit}
use Rattle.chip_tables.specs.Pins.{io_pins, is_at, port_bit_of, port_bit_at, port_count, analog_pins, channel_at}

-- an element that is found passes each test that all elements pass
found_by : {X : Type 0} (p good : X → Bool) (x y : X) (ys : List X) (b : Bool) → p y ≡ b →
    (find p ys ≡ Some x → list_all good ys ≡ true → (p x ≡ true) × (good x ≡ true)) → cond b (Some y) (find p ys) ≡ Some x →
    (good y && list_all good ys) ≡ true → (p x ≡ true) × (good x ≡ true)
found_by p good x y ys true e later h t =
    let same : y ≡ x = cc in
    (ap p (sym same) ∙ e, ap good (sym same) ∙ (and_parts _ _ t).0)
found_by p good x y ys false e later h t = later h (and_parts _ _ t).1

found : {X : Type 0} (p good : X → Bool) (xs : List X) (x : X) → find p xs ≡ Some x → list_all good xs ≡ true → (p x ≡ true) × (good x ≡ true)
found p good [] x h t =
    let clash : ⊥ = cc in absurd clash
found p good (y ∷ ys) x h t = found_by p good x y ys (p y) refl (found p good ys x) h t

-- the pin of the first row that carries the bit
abbrev pin_with : List PinRow → PortBit → Option ℕ
pin_with rows b = option_map (λ r. r.pin) (find (λ r. r.port == b.port && r.bit == b.bit) rows)

abbrev is_pin : ℕ → Option ℕ → Bool
is_pin pin None = false
is_pin pin (Some p) = p == pin

-- the row's bit is in the ports, and the row is the first that carries it
abbrev is_sound : Target → PinRow → Bool
is_sound target r =
    (nat_lt r.port (port_count target) && nat_lt r.bit 8) && is_pin r.pin (pin_with (io_pins target) (port_bit_of r))

all_sound : (target : Target) → list_all (is_sound target) (io_pins target) ≡ true
all_sound F628 = refl
all_sound F877 = refl
all_sound Mega16 = refl
all_sound Interp = refl
all_sound AnsiC = refl

is_pin-some : (pin : ℕ) (o : Option ℕ) → is_pin pin o ≡ true → o ≡ Some pin
is_pin-some pin None t = absurd (false≢true t)
is_pin-some pin (Some p) t = ap (λ n. Some n) (eqb-true p pin t)

pub record Carries (target : Target) (pin : ℕ) (b : PortBit) : Type 0 where
  pub port : b.port < port_count target
  pub bit : b.bit < 8
  pub first : pin_with (io_pins target) b ≡ Some pin

of_row : (target : Target) (pin : ℕ) (r : PinRow) → find (is_at pin) (io_pins target) ≡ Some r → Carries target pin (port_bit_of r)
of_row target pin r h =
    let passed = found (is_at pin) (is_sound target) (io_pins target) r h (all_sound target) in
    let port = nat_lt r.port (port_count target) in
    let bit = nat_lt r.bit 8 in
    let carrier = pin_with (io_pins target) (port_bit_of r) in
    let tests = and_parts (port && bit) (is_pin r.pin carrier) passed.1 in
    let within = and_parts port bit tests.0 in
    record {
      port = ltb-true r.port (port_count target) within.0;
      bit = ltb-true r.bit 8 within.1;
      first = is_pin-some r.pin carrier tests.1 ∙ ap (λ n. Some n) (eqb-true r.pin pin passed.0);
    }

carried_by : (target : Target) (pin : ℕ) (b : PortBit) (o : Option PinRow) → find (is_at pin) (io_pins target) ≡ o → option_map port_bit_of o ≡ Some b →
    Carries target pin b
carried_by target pin b None e h =
    let clash : ⊥ = cc in absurd clash
carried_by target pin b (Some r) e h =
    let same : port_bit_of r ≡ b = cc in
    subst (λ (x : PortBit). Carries target pin x) same (of_row target pin r e)

pub carried : (target : Target) (pin : ℕ) (b : PortBit) → port_bit_at target pin ≡ Some b → Carries target pin b
carried target pin b h = carried_by target pin b _ refl h

pub in_ports : (target : Target) (pin : ℕ) (o : Option PortBit) → o ≡ port_bit_at target pin → IfSome o (λ b. (b.port < port_count target) × (b.bit < 8))
in_ports target pin None e = tt
in_ports target pin (Some b) e =
    let c = carried target pin b (sym e) in (c.port, c.bit)

pub alone : (target : Target) (pin : ℕ) (o : Option PortBit) → o ≡ port_bit_at target pin →
    IfSome o (λ b. (other : ℕ) → port_bit_at target other ≡ Some b → other ≡ pin)
alone target pin None e = tt
alone target pin (Some b) e = λ other h.
    let here = (carried target pin b (sym e)).first in
    let there = (carried target other b h).first in
    cc

-- what stands at the place that is found passes
at_place_by : (xs : List ℕ) (p : ℕ → Bool) (k n : ℕ) (b : Bool) → nat_lt n (length xs) ≡ b → (n < length xs → p (get_or xs n 0) ≡ true) →
    cond b (Some n) None ≡ Some k → (k < length xs) × (p (get_or xs k 0) ≡ true)
at_place_by xs p k n true e passes h =
    let within : n < length xs = grind (arith, nat_tests, e) in
    let same : n ≡ k = cc in
    (subst (λ (i : ℕ). i < length xs) same within, ap (λ i. p (get_or xs i 0)) (sym same) ∙ passes within)
at_place_by xs p k n false e passes h =
    let clash : ⊥ = cc in absurd clash

at_place : (xs : List ℕ) (p : ℕ → Bool) (k : ℕ) → position p xs ≡ Some k → (k < length xs) × (p (get_or xs k 0) ≡ true)
at_place xs p k h = at_place_by xs p k (position_or_len p xs) _ refl (passes_at_first p xs 0) h

few_channels : (target : Target) (k : ℕ) → k < length (analog_pins target) → k < 8
few_channels F628 k h = omega arith
few_channels F877 k h = omega arith
few_channels Mega16 k h = omega arith
few_channels Interp k h = omega arith
few_channels AnsiC k h = omega arith

pub in_channels : (target : Target) (pin : ℕ) (o : Option ℕ) → o ≡ channel_at target pin → IfSome o (λ channel. channel < 8)
in_channels target pin None e = tt
in_channels target pin (Some k) e =
    few_channels target k (at_place (analog_pins target) (λ input. input == pin) k (sym e)).0

pub alone_channel : (target : Target) (pin : ℕ) (o : Option ℕ) → o ≡ channel_at target pin →
    IfSome o (λ channel. (other : ℕ) → channel_at target other ≡ Some channel → other ≡ pin)
alone_channel target pin None e = tt
alone_channel target pin (Some k) e = λ other h.
    let here = eqb-true _ pin (at_place (analog_pins target) (λ input. input == pin) k (sym e)).1 in
    let there = eqb-true _ other (at_place (analog_pins target) (λ input. input == other) k h).1 in
    sym there ∙ here
