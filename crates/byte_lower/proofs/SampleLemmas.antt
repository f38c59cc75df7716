-- The small program can be placed.
use Rattle.std.proofs.Common.{◌≡◌, ℕ, zero, suc, ◌+◌, ◌<◌, List, [], ◌∷◌, length, true, refl, sym, ap, subst, ◌∙◌, arith}
use Rattle.std.proofs.lemmas.List.Elements.{All-from_recursion}
use Rattle.int_code.specs.Literals.{IsNumber, HoldsNumbers}
use Rattle.int_code.specs.WellFormed.{IsInRange}
use Rattle.chip_tables.specs.declared.pins.PortBit.{PortBit}
use Rattle.byte_lower.specs.Code.{CanPlace}
use Rattle.byte_lower.specs.Layout.{room_of, pin_at, HasPins}
use Rattle.byte_lower.specs.Lists.{is_built}
use Rattle.byte_lower.specs.Samples.{pin, rises, IsAtPortB}
use Rattle.byte_lower.specs.declared.layout.Layout.{Layout}

one_pin : (xs : List PortBit) (p : PortBit) (k : ℕ) → xs ≡ p ∷ [] → k < length xs → pin_at xs k ≡ p
one_pin xs p k e h = ap (λ ys. pin_at ys k) e ∙ by k (subst (λ ys. k < length ys) e h)
  where
    by : (n : ℕ) → n < 1 → pin_at (p ∷ []) n ≡ p
    by zero lt = refl
    by (suc n) lt = absurd (omega (arith, lt))

in_port : (p q : PortBit) → p ≡ q → (q.port < 5) × (q.bit < 8) → (p.port < 5) × (p.bit < 8)
in_port p q e h = subst (λ (x : PortBit). (x.port < 5) × (x.bit < 8)) (sym e) h

pins : (o : Layout) → IsAtPortB o → HasPins o
pins o at = record {
  inputs = λ k h. in_port _ (pin 1 0) (one_pin o.inputs (pin 1 0) k at.inputs h) (omega arith, omega arith);
  outputs = λ k h. in_port _ (pin 1 1) (one_pin o.outputs (pin 1 1) k at.outputs h) (omega arith, omega arith);
  apart = λ j k h g e. let many : length o.outputs ≡ 1 = ap length at.outputs in omega (arith, h, g, many);
}

pub placed : (o : Layout) → IsAtPortB o → CanPlace o rises
placed o at =
    let ins : length o.inputs ≡ 1 = ap length at.inputs in
    let outs : length o.outputs ≡ 1 = ap length at.outputs in
    let bit : 0 < o.plan.sizes.kept_bits + 48 = omega arith in
    let variable : 0 < o.plan.sizes.variables = omega (arith, at.variables) in
    let input : 0 < length o.inputs = omega (arith, ins) in
    let output : 0 < length o.outputs = omega (arith, outs) in
    record {
      built = All-from_recursion (λ op. is_built op ≡ true) rises.ops (
        refl,
        (refl, (refl, (refl, (refl, (refl, (refl, (refl, (refl, (refl, (refl, tt)))))))))),
      );
      nests = refl;
      range = All-from_recursion (IsInRange (room_of o)) rises.ops
          (input, (bit, (variable, (tt, (tt, ((bit, input), ((variable, tt), (output, (tt, (output, (tt, tt)))))))))));
      numbers = All-from_recursion HoldsNumbers rises.ops (tt, (tt, (tt, (tt, (tt, (tt, ((tt, refl), (tt, (tt, (tt, (tt, tt)))))))))));
      starts = omega (arith, at.variables);
      start_numbers = All-from_recursion IsNumber rises.starts (refl, tt);
      few = omega arith;
      pins = pins o at;
    }
