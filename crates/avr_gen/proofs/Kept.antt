-- What keeps to a layout of the ATmega16 is admitted by its target.
use Rattle.std.proofs.Common.{◌≡◌, ◌≢◌, ◌⊎◌, inl, inr, ℕ, zero, suc, ◌+◌, ◌-◌, ◌/◌, ◌<◌, ◌≤◌, true, false, ◌&&◌, List, [], ◌∷◌, length, Some, refl, sym, ap, subst, ◌∙◌, arith, eq-eqb}
use Rattle.std.proofs.lemmas.Bool.{and_from, or_right, cases_eq, ne_eqb}
use Rattle.std.proofs.lemmas.Bool.Decides.{nat_tests}
use Rattle.std.proofs.lemmas.List.Elements.{All-head, All-tail}
use Rattle.std.specs.Prelude.{◌==◌, ◌||◌, nat_le, slice_get, All}
use Rattle.std.specs.List.{list_any}
use Rattle.chip_tables.specs.Bits.{bit_of}
use Rattle.chip_tables.specs.Memory.{ram_address, ram_size}
use Rattle.chip_tables.specs.Scratch.{avr_scratch, avr_wire, wire_of}
use Rattle.chip_tables.specs.declared.pins.PortBit.{PortBit}
use Rattle.chip_tables.specs.declared.scratch.CellBit.{CellBit}
use Rattle.chip_tables.specs.declared.scratch.Scratch.{Scratch}
use Rattle.chip_tables.specs.declared.scratch.TheConstants.{WIRES}
use Rattle.chip_tables.specs.declared.target.Target.{Target}
use Rattle.mem_plan.specs.Needs.{ram_need}
use Rattle.byte_code.specs.Store.{in_byte}
use Rattle.byte_code.specs.declared.prim.BytePrim.{BytePrim}
use Rattle.byte_code.specs.declared.prim.BytePrim.TheVariants.{Start, CyclePoll, AdcPoll, Label, Jump, Call, Return, JumpWhere, Bit, Byte, Word, Compare, Device, Eeprom, Table}
use Rattle.byte_code.specs.declared.prim.BitDest.{BitDest}
use Rattle.byte_code.specs.declared.prim.BitDest.TheVariants as dest
use Rattle.byte_code.specs.declared.prim.BitOp.{BitOp}
use Rattle.byte_code.specs.declared.prim.BitOp.TheVariants as bits
use Rattle.byte_code.specs.declared.prim.BitSource.{BitSource}
use Rattle.byte_code.specs.declared.prim.BitSource.TheVariants as source
use Rattle.byte_code.specs.declared.prim.ByteOp.{ByteOp}
use Rattle.byte_code.specs.declared.prim.ByteOp.TheVariants as bytes
use Rattle.byte_code.specs.declared.prim.CompareOp.{CompareOp}
use Rattle.byte_code.specs.declared.prim.CompareOp.TheVariants as compares
use Rattle.byte_code.specs.declared.prim.Paced.{Paced}
use Rattle.byte_code.specs.declared.prim.Test.{Test}
use Rattle.byte_code.specs.declared.prim.Test.TheVariants as test
use Rattle.byte_code.specs.declared.prim.WordOp.{WordOp}
use Rattle.byte_code.specs.declared.prim.WordOp.TheVariants as words
use Rattle.byte_code.specs.declared.prim.WordSource.{WordSource}
use Rattle.byte_code.specs.declared.prim.WordSource.TheVariants as operand
use Rattle.byte_lower.proofs.BitLemmas.{in_byte_is}
use Rattle.byte_lower.proofs.PlaceLemmas.{AvrWire, power, alone, shared, avr_view, wire_found, BitView, kept, wired, bit_view, Listed, kept_listed, low_listed, high_listed}
use Rattle.byte_lower.proofs.NameLemmas.{whole}
use Rattle.byte_lower.proofs.UseLemmas.{used as all_used}
use Rattle.byte_lower.specs.Code.{code_of}
use Rattle.byte_lower.specs.Layout.{word_cell, bit_cell, own_cells, pin_at}
use Rattle.byte_lower.specs.Uses as used
use Rattle.byte_lower.specs.Uses.{UsesWord, UsesByte, UsesBit, IsPinOf, UsesInTest, UsesInBit, UsesInByte, UsesInWord, UsesInCompare, Uses}
use Rattle.byte_lower.specs.declared.layout.Layout.{Layout}
use Rattle.avr_code.proofs.Driven.{driven}
use Rattle.avr_code.specs.Code.{Board, direction, is_wire}
use Rattle.avr_code.specs.Stands.{IsCell, is_work, is_pin}
use Rattle.avr_code.specs.Target.{IsWord, ReadsWord, IsWireBit, ReadsBit, WritesBit, AdmitsBit, AdmitsTest, AdmitsByte, AdmitsWord, AdmitsCompare, Admits}
use Rattle.avr_chip.proofs.Served.{sram_at}
use Rattle.avr_chip.specs.Layout.{AreBits}
use Rattle.avr_gen.specs.Admission.{KeptIsAdmitted, KeptIsWhole, PlacedIsWhole}
use Rattle.avr_gen.specs.Boards.{IsBoardFor}

abbrev pin : ℕ → ℕ → PortBit
pin port b = record { port = port; bit = b }

-- a byte, or a wire by its bit
abbrev IsBit : ℕ → ℕ → Type 0
IsBit a b = IsCell a ⊎ IsWireBit a b

wire_register : (r : ℕ) → 2 ≤ r → r < 10 → is_wire r ≡ true
wire_register r h g =
    let low : nat_le 2 r ≡ true = grind (arith, nat_tests, h) in
    let high : nat_le r 9 ≡ true = grind (arith, nat_tests, g) in
    or_right (r == 20) _ (and_from (nat_le 2 r) (nat_le r 9) low high)

-- the registers of the wires that share bytes
shared_register : (r : ℕ) → 10 ≤ r → r < 15 → IsCell r
shared_register r h g = inl (omega (arith, g), work, wire)
  where
    work : is_work r ≡ false
    work =
        let one : (r == 1) ≡ false = grind (arith, nat_tests, h) in
        let low : nat_le 16 r ≡ false = grind (arith, nat_tests, g) in
        rw (one, low) refl

    wire : is_wire r ≡ false
    wire =
        let twenty : (r == 20) ≡ false = grind (arith, nat_tests, g) in
        let two : nat_le 2 r ≡ true = grind (arith, nat_tests, h) in
        let nine : nat_le r 9 ≡ false = grind (arith, nat_tests, h) in
        rw (twenty, two, nine) refl

wire_at : (w : ℕ) → w < 48 → AvrWire w → IsBit (avr_wire w).address (avr_wire w).bit
wire_at w h (power e f) = subst (λ (p : CellBit). IsBit p.address p.bit) (sym f) (inr (refl, refl))
wire_at w h (alone e g f) =
    subst (λ (p : CellBit). IsBit p.address p.bit) (sym f) (inr (wire_register (w + 1) (omega (arith, e)) (omega (arith, g)), refl))
wire_at w h (shared e f) =
    subst (λ (p : CellBit). IsBit p.address p.bit) (sym f) (inl (shared_register (10 + (w - 9) / 8) (omega arith) (omega (arith, e, h))))

-- no pin of the list is this one
other_pin : (p : PortBit) (port b : ℕ) → p.bit < 8 → p ≢ pin port b → is_pin port b p ≡ false
other_pin p port b low ne = by (cases_eq p.port port) (cases_eq p.bit b)
  where
    by : (p.port ≡ port) ⊎ (p.port ≢ port) → (p.bit ≡ b) ⊎ (p.bit ≢ b) → is_pin port b p ≡ false
    by (inr n) other = ap (λ t. t && (in_byte p.bit == b)) (ne_eqb p.port port n)
    by (inl e) (inr n) =
        ap (λ t. t && (in_byte p.bit == b)) (eq-eqb p.port port e) ∙ ap (λ k. k == b) (in_byte_is p.bit low) ∙ ne_eqb p.bit b n
    by (inl e) (inl f) = absurd (ne (ap (λ n. pin n p.bit) e ∙ ap (pin port) f))

none_is : (pins : List PortBit) → AreBits pins → (port b : ℕ) → ((j : ℕ) → j < length pins → pin_at pins j ≢ pin port b) →
    list_any (is_pin port b) pins ≡ false
none_is [] low port b ne = refl
none_is (p ∷ ps) low port b ne =
    ap (λ t. t || list_any (is_pin port b) ps) (other_pin p port b low.0 (ne zero (omega arith)))
    ∙ none_is ps low.1 port b (λ j h. ne (suc j) (omega (arith, h)))

module _ (o : Layout) (board : Board) (fits : IsBoardFor o board) where
  own : own_cells o.plan.target ≡ avr_scratch
  own = ap own_cells fits.layout.target

  listed_cell : (a : ℕ) → Listed o o.chip o.plan.ram_fits a → IsCell a
  listed_cell a l = inr (sram_at l.index a (subst (λ (t : Target). ram_address t l.index ≡ Some a) fits.layout.target l.is))

  variable : (v : ℕ) → v < o.plan.sizes.variables → IsWord (word_cell o v)
  variable v h = (
    listed_cell (word_cell o v) (low_listed o o.chip o.plan.ram_fits v h),
    listed_cell (word_cell o v + 1) (high_listed o o.chip o.plan.ram_fits v h),
  )

  word : (a : ℕ) → UsesWord o a → IsWord a
  word a (inl x) = subst IsWord (sym x.2) (variable x.0 x.1)
  word a (inr (inl e)) =
      subst IsWord (sym (e ∙ ap (λ (s : Scratch). s.left) own)) (inl (omega arith, refl, refl), inl (omega arith, refl, refl))
  word a (inr (inr (inl e))) =
      subst IsWord (sym (e ∙ ap (λ (s : Scratch). s.right) own)) (inl (omega arith, refl, refl), inl (omega arith, refl, refl))
  word a (inr (inr (inr e))) =
      subst IsWord (sym (e ∙ ap (λ (s : Scratch). s.outcome) own)) (inl (omega arith, refl, refl), inl (omega arith, refl, refl))

  byte_of : (a w : ℕ) → UsesWord o w → (a ≡ w) ⊎ (a ≡ w + 1) → IsCell a
  byte_of a w h (inl e) = subst IsCell (sym e) (word w h).0
  byte_of a w h (inr e) = subst IsCell (sym e) (word w h).1

  byte : (a : ℕ) → UsesByte o a → IsCell a
  byte a (inl x) = byte_of a x.0 x.1 x.2
  byte a (inr (inl e)) = subst IsCell (sym (e ∙ ap (λ (s : Scratch). s.count) own)) (inl (omega arith, refl, refl))
  byte a (inr (inr e)) = subst IsCell (sym (e ∙ ap (λ (s : Scratch). s.sign) own)) (inl (omega arith, refl, refl))

  reads_word : (w : WordSource) → used.ReadsWord o w → ReadsWord w
  reads_word (operand.Cells a) h = word a h
  reads_word (operand.Number low high) h = h

  bit_at : (k : ℕ) → k < o.plan.sizes.kept_bits + WIRES → BitView o o.chip o.plan.ram_fits k → IsBit (bit_cell o k).address (bit_cell o k).bit
  bit_at k h (kept lt b e) = inl (listed_cell (bit_cell o k).address (kept_listed o o.chip o.plan.ram_fits k lt))
  bit_at k h (wired past w e) =
      let number = k - o.plan.sizes.kept_bits in
      let low : number < 48 = omega (arith, past, h) in
      let at : Some w.place ≡ Some (avr_wire number) =
      sym w.is ∙ ap (λ (t : Target). wire_of t number) fits.layout.target ∙ wire_found number (avr_wire number) low in
      let place : w.place ≡ avr_wire number = cc in
      subst (λ (p : CellBit). IsBit p.address p.bit) (sym (e ∙ place)) (wire_at number low (avr_view number))

  bit : (a b : ℕ) → UsesBit o a b → IsBit a b
  bit a b x =
      subst (λ n. IsBit n b) (sym x.2)
      (subst (IsBit (bit_cell o x.0).address) (sym x.3) (bit_at x.0 x.1 (bit_view o o.chip o.plan.ram_fits x.0 x.1)))

  level : (port b : ℕ) → IsPinOf o.inputs port b → (port < 4) × (bit_of (direction board.outputs port) (in_byte b) ≡ false)
  level port b x =
      let at = fits.inputs x.0 x.1 in
      let low : b < 8 = subst (λ n. n < 8) (sym x.3) at.1 in
      let same : pin_at o.inputs x.0 ≡ pin port b = ap (λ n. pin n (pin_at o.inputs x.0).bit) (sym x.2) ∙ ap (pin port) (sym x.3) in (
        subst (λ n. n < 4) (sym x.2) at.0,
        ap (λ (ps : List PortBit). bit_of (direction ps port) (in_byte b)) fits.layout.outputs ∙ driven o.outputs port (in_byte b)
            ∙ ap (λ n. list_any (is_pin port n) o.outputs) (in_byte_is b low)
            ∙ none_is o.outputs fits.layout.bits port b (λ j h e. fits.crossed x.0 j x.1 h (same ∙ sym e)),
      )

  latch : (port b : ℕ) → IsPinOf o.outputs port b → port < 4
  latch port b x = subst (λ n. n < 4) (sym x.2) (fits.layout.ports x.0 x.1)

  reads_bit : (f : BitSource) → used.ReadsBit o f → ReadsBit board f
  reads_bit (source.Cell a b) h = bit a b h
  reads_bit (source.Level port b) h = level port b h
  reads_bit (source.Latch port b) h = latch port b h

  writes_bit : (d : BitDest) → used.WritesBit o d → WritesBit d
  writes_bit (dest.Cell a b) h = bit a b h
  writes_bit (dest.Latch port b) h = latch port b h

  on_test : (t : Test) → UsesInTest o t → AdmitsTest board t
  on_test test.LoopsOn h = tt
  on_test (test.Bit from is) h = reads_bit from h
  on_test (test.Flag kind is) h = tt
  on_test test.NoByte h = h
  on_test test.Sends h = h
  on_test test.Writes h = h
  on_test test.NoneWaits h = h

  on_bit : (op : BitOp) → UsesInBit o op → AdmitsBit board op
  on_bit (bits.Put to x) h = writes_bit to h
  on_bit (bits.Copy to from inverted) h = (writes_bit to h.0, reads_bit from h.1)
  on_bit (bits.PutIf from is to x) h = (reads_bit from h.0, writes_bit to h.1)
  on_bit (bits.PutOnFlag kind is to x) h = absurd h

  on_byte : (op : ByteOp) → UsesInByte o op → AdmitsByte op
  on_byte (bytes.Put to x) h = (byte to h.0, h.1)
  on_byte (bytes.Copy to from) h = (byte to h.0, byte from h.1)
  on_byte (bytes.Xor to a b) h = (byte to h.0, byte a h.1, byte b h.2)

  on_word : (op : WordOp) → UsesInWord o op → AdmitsWord op
  on_word (words.Move to from) h = (word to h.0, reads_word from h.1)
  on_word (words.Increment to) h = word to h
  on_word (words.Decrement to) h = word to h
  on_word (words.Add to a b) h = (word to h.0, word a h.1, reads_word b h.2)
  on_word (words.Subtract to a b) h = (word to h.0, reads_word a h.1, reads_word b h.2)
  on_word (words.NegateIf to sign) h = (word to h.0, byte sign h.1)
  on_word words.MultiplyStep h = tt
  on_word words.DivideStep h = tt

  on_compare : (op : CompareOp) → UsesInCompare o op → AdmitsCompare op
  on_compare (compares.Less a b) h = (word a h.0, reads_word b h.1)
  on_compare (compares.Equal a b) h = (word a h.0, reads_word b h.1)
  on_compare (compares.Below a n) h = (word a h.0, h.1)

  pub cleared : (n : ℕ) → n ≡ ram_need o.plan.sizes → n ≤ 960
  cleared n e =
      let room : ram_need o.plan.sizes ≤ 960 = subst (λ (t : Target). ram_need o.plan.sizes ≤ ram_size t) fits.layout.target o.plan.ram_fits in
      subst (λ m. m ≤ 960) (sym e) room

  admitted : (p : BytePrim) → Uses o p → Admits board p
  admitted (Start n) h = (cleared n h, fits.control, fits.compare)
  admitted (CyclePoll l) h = tt
  admitted (AdcPoll l) h = h
  admitted (Label l) h = tt
  admitted (Jump l) h = tt
  admitted (Call l) h = tt
  admitted Return h = tt
  admitted (JumpWhere by l) h = on_test by h
  admitted (Bit op) h = on_bit op h
  admitted (Byte op) h = on_byte op h
  admitted (Word op) h = on_word op h
  admitted (Compare op) h = on_compare op h
  admitted (Device op) h = h
  admitted (Eeprom op) h = h
  admitted (Table values l) h = (h.0, omega (arith, h.1))

-- what holds of all holds of the one that stands there
at_place : (P : Paced → Type 0) (ps : List Paced) → All P ps → (i : ℕ) (p : Paced) → slice_get ps i ≡ Some p → P p
at_place P [] h i p e = absurd (cc)
at_place P (q ∷ ps) h zero p e = let same : q ≡ p = cc in subst P same (All-head P q ps h)
at_place P (q ∷ ps) h (suc i) p e = at_place P ps (All-tail P q ps h) i p e

pub kept_is_admitted : KeptIsAdmitted
kept_is_admitted o board fits p h = admitted o board fits p h

pub kept_is_whole : KeptIsWhole
kept_is_whole o board fits code labels uses = record {
  first = labels.first;
  others = labels.others;
  admitted = λ i p e. admitted o board fits p.prim (at_place (λ q. Uses o q.prim) code uses i p e);
  labels = labels.labels;
}

pub placed_is_whole : PlacedIsWhole
placed_is_whole o board fits p can = kept_is_whole o board fits (code_of o p) (whole o p can) (all_used o p can)
