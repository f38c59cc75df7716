-- The compiler's cells are scratch.
use Rattle.std.proofs.Common.{◌≡◌, ℕ, ◌+◌, ◌-◌, ◌<◌, ◌≤◌, Bool, true, false, nat_lt, Some, None, refl, subst, arith}
use Rattle.std.specs.Prelude.{◌/◌, ◌%◌, ◌==◌, if◌then◌else◌}
use Rattle.std.proofs.lemmas.Bool.Decides.{nat_tests}
use Rattle.chip_tables.specs.Scratch.{at_bit, avr_wire, pic_wire, scratch_of, wire_of}
use Rattle.chip_tables.specs.declared.scratch.CellBit.{CellBit}
use Rattle.chip_tables.specs.declared.scratch.Scratch.{Scratch}
use Rattle.chip_tables.specs.declared.scratch.TheConstants.{WIRES}
use Rattle.chip_tables.specs.declared.target.Target.{Target}
use Rattle.chip_tables.specs.declared.target.Target.TheVariants.{F628, F877, Mega16, Interp, AnsiC}
use Rattle.byte_code.specs.Admitted.{is_scratch, keeps_to_scratch}

abbrev IsOwn : Target → CellBit → Type 0
IsOwn t c = (is_scratch t c.address ≡ true) × (c.bit < 8)

pic_low : (a : ℕ) → 112 ≤ a → a < 128 → is_scratch F628 a ≡ true
pic_low a h k = grind (arith, nat_tests)

avr_low : (a : ℕ) → 2 ≤ a → a < 16 → is_scratch Mega16 a ≡ true
avr_low a h k = grind (arith, nat_tests)

wire_few : (w : ℕ) → nat_lt w WIRES ≡ true → w < 48
wire_few w h = grind (arith, nat_tests)

pic_own : (w : ℕ) → w < 48 → IsOwn F628 (pic_wire w)
pic_own w h = (pic_low (112 + w / 8) (omega arith) (omega arith), omega arith)

avr_by : (w : ℕ) (x y : Bool) → (w == 0) ≡ x → nat_lt w 9 ≡ y → w < 48 →
    IsOwn Mega16 (if x then at_bit 20 0 else if y then at_bit (w + 1) 0 else at_bit (10 + (w - 9) / 8) ((w - 9) % 8))
avr_by w true y e f h = (refl, omega arith)
avr_by w false true e f h =
    let more : 1 ≤ w = grind (arith, nat_tests) in let less : w < 9 = grind (arith, nat_tests) in
    (avr_low (w + 1) (omega (arith, more)) (omega (arith, less)), omega arith)
avr_by w false false e f h = (avr_low (10 + (w - 9) / 8) (omega arith) (omega (arith, h)), omega arith)

found : (t : Target) (b : Bool) (x c : CellBit) → (b ≡ true → IsOwn t x) → (if b then Some x else None) ≡ Some c → IsOwn t c
found t true x c h e = let same : x ≡ c = cc e in subst (IsOwn t) same (h refl)
found t false x c h e = absurd cc

pub wires : (t : Target) (w : ℕ) (c : CellBit) → wire_of t w ≡ Some c → (is_scratch t c.address ≡ true) × (c.bit < 8)
wires F628 w c e = found F628 (nat_lt w WIRES) (pic_wire w) c (λ h. pic_own w (wire_few w h)) e
wires F877 w c e = found F877 (nat_lt w WIRES) (pic_wire w) c (λ h. pic_own w (wire_few w h)) e
wires Mega16 w c e = found Mega16 (nat_lt w WIRES) (avr_wire w) c (λ h. avr_by w (w == 0) (nat_lt w 9) refl refl (wire_few w h)) e
wires Interp w c e = absurd cc
wires AnsiC w c e = absurd cc

kept : (t : Target) (x s : Scratch) → keeps_to_scratch t x ≡ true → Some x ≡ Some s → keeps_to_scratch t s ≡ true
kept t x s h e = let same : x ≡ s = cc e in subst (λ y. keeps_to_scratch t y ≡ true) same h

pub cells : (t : Target) (s : Scratch) → scratch_of t ≡ Some s → keeps_to_scratch t s ≡ true
cells F628 s e = kept F628 _ s refl e
cells F877 s e = kept F877 _ s refl e
cells Mega16 s e = kept Mega16 _ s refl e
cells Interp s e = absurd cc
cells AnsiC s e = absurd cc
