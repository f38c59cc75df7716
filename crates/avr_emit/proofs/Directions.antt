-- The directions of a port's pins, from the last output on.
use Rattle.std.proofs.Common.{◌≡◌, ◌≢◌, ℕ, ◌+◌, ◌-◌, ◌^◌, ◌%◌, ◌<◌, List, drop, ap, ◌∙◌, sym, arith, eq-eqb}
use Rattle.std.proofs.lemmas.Bool.{ne_eqb}
use Rattle.std.specs.Prelude.{if◌then◌else◌, ◌==◌, slice_get, Some, true, bit_or}
use Rattle.chip_tables.specs.declared.pins.PortBit.{PortBit}
use Rattle.byte_code.specs.Store.{in_byte, with_bit}
use Rattle.target_core.proofs.Images.{drop_next}
use Rattle.avr_code.specs.Code.{direction}

next : (outputs : List PortBit) (port i : ℕ) (pin : PortBit) → 0 < i → slice_get outputs (i - 1) ≡ Some pin →
    direction (drop (i - 1) outputs) port
    ≡ (if pin.port == port then with_bit (direction (drop i outputs) port) (in_byte pin.bit) true else direction (drop i outputs) port)
next outputs port i pin some e =
    let j : i - 1 + 1 ≡ i = omega (arith, some) in
    ap (λ ps. direction ps port) (drop_next outputs (i - 1) pin e)
    ∙ ap
    (λ k. if pin.port == port then with_bit (direction (drop k outputs) port) (in_byte pin.bit) true else direction (drop k outputs) port) j

pub at_port : (outputs : List PortBit) (port i mask : ℕ) (pin : PortBit) → 0 < i → slice_get outputs (i - 1) ≡ Some pin →
    mask ≡ direction (drop i outputs) port → pin.port ≡ port → bit_or mask (2 ^ (pin.bit % 8)) ≡ direction (drop (i - 1) outputs) port
at_port outputs port i mask pin some e h p =
    ap (λ n. bit_or n (2 ^ (pin.bit % 8))) h
    ∙ sym (
    ap (λ t. if t then with_bit (direction (drop i outputs) port) (in_byte pin.bit) true else direction (drop i outputs) port)
    (eq-eqb pin.port port p)
    )
    ∙ sym (next outputs port i pin some e)

pub at_other : (outputs : List PortBit) (port i mask : ℕ) (pin : PortBit) → 0 < i → slice_get outputs (i - 1) ≡ Some pin →
    mask ≡ direction (drop i outputs) port → pin.port ≢ port → mask ≡ direction (drop (i - 1) outputs) port
at_other outputs port i mask pin some e h p =
    h
    ∙ sym (
    ap (λ t. if t then with_bit (direction (drop i outputs) port) (in_byte pin.bit) true else direction (drop i outputs) port)
    (ne_eqb pin.port port p)
    )
    ∙ sym (next outputs port i pin some e)
