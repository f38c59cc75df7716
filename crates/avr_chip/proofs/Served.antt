-- The ATmega16 serves the theorem on chips.
use Rattle.std.proofs.Common.{◌≡◌, ℕ, ◌+◌, ◌-◌, ◌<◌, ◌≤◌, Bool, true, false, List, length, map, Option, Some, None, refl, sym, ap, subst, ◌∙◌, arith}
use Rattle.std.proofs.lemmas.Bool.Decides.{nat_tests}
use Rattle.std.specs.Prelude.{nat_le, nat_lt, if◌then◌else◌, slice_index, Contains, ◌↔◌}
use Rattle.chip_tables.proofs.PinLemmas.{carried}
use Rattle.chip_tables.specs.Bits.{bit_of}
use Rattle.chip_tables.specs.Memory.{ram_address}
use Rattle.chip_tables.specs.Pins.{port_bit_at}
use Rattle.chip_tables.specs.Scratch.{avr_scratch, scratch_of}
use Rattle.chip_tables.specs.declared.mega16.TheConstants.{IO_FIRST, SRAM_FIRST}
use Rattle.chip_tables.specs.declared.pins.PortBit.{PortBit}
use Rattle.chip_tables.specs.declared.target.Target.{Target}
use Rattle.chip_tables.specs.declared.target.Target.TheVariants.{Mega16}
use Rattle.byte_code.specs.State.{fresh}
use Rattle.byte_code.specs.Store.{cell}
use Rattle.byte_code.specs.declared.state.Bytes.{Bytes}
use Rattle.byte_code.specs.declared.store.Store.{Store}
use Rattle.byte_lower.specs.Code.{IsFresh}
use Rattle.byte_lower.specs.Layout.{pin_at}
use Rattle.byte_lower.specs.declared.layout.Layout.{Layout}
use Rattle.avr_mach.specs.declared.state.AvrState.{AvrState}
use Rattle.avr_code.proofs.Resets.{reset_stands}
use Rattle.avr_code.specs.Code.{Board, direction}
use Rattle.avr_code.specs.Stands.{ShowsAt, StandsAt}
use Rattle.avr_code.specs.Target.{avr_target}
use Rattle.chip_compile.specs.Serves.{HoldsStore, StandsFresh, Serves}
use Rattle.avr_chip.specs.Machine.{view_of, IsReset, avr_chip}
use Rattle.avr_chip.proofs.Cells.{cells_of, has_cells}
use Rattle.avr_chip.proofs.Directions.{driven}
use Rattle.avr_chip.specs.Layout.{IsAvrLayout}

-- the bytes of RAM are in the SRAM, in front of the compiler's own
pub sram_at : (i a : ℕ) → ram_address Mega16 i ≡ Some a → (96 ≤ a) × (a < 1056)
sram_at i a e = by (nat_lt i 960) refl
  where
    by : (b : Bool) → nat_lt i 960 ≡ b → (96 ≤ a) × (a < 1056)
    by true f =
        let lt : i < 960 = grind (arith, nat_tests, f) in
        let is : 96 + i ≡ a = cc (sym (ap (λ b. if b then Some (96 + i) else None) f) ∙ e) in (omega (arith, is), omega (arith, is, lt))
    by false f = absurd (cc (sym (ap (λ b. if b then Some (96 + i) else None) f) ∙ e))

module _ (board : Board) (o : Layout) (fits : IsAvrLayout board o) where
  module _ (m : AvrState) (s : Bytes) (h : ShowsAt board m s) (started : s.started ≡ true) where
    cells : (i a : ℕ) → ram_address o.plan.target i ≡ Some a → (view_of m).cell a ≡ cell s.store a
    cells i a e =
        let at = sram_at i a (subst (λ (t : Target). ram_address t i ≡ Some a) fits.target e) in
        let from : nat_le 96 a ≡ true = grind (arith, nat_tests, at.0) in
        let to : nat_lt a 1120 ≡ true = grind (arith, nat_tests, at.1) in
        rw (from, to) (h.shows.ram a at.0 at.1)

    latches : (k : ℕ) → k < length o.outputs →
        (view_of m).latch (pin_at o.outputs k) ≡ bit_of (slice_index s.store.latches (pin_at o.outputs k).port) (pin_at o.outputs k).bit
    latches k lt = ap (λ n. bit_of n (pin_at o.outputs k).bit) (h.shows.latches (pin_at o.outputs k).port (fits.ports k lt))

    drives : (pin : ℕ) (b : PortBit) → port_bit_at o.plan.target pin ≡ Some b → ((view_of m).drives b ≡ true) ↔ Contains (map Some o.outputs) (Some b)
    drives pin b e =
        let at = carried Mega16 pin b (subst (λ (t : Target). port_bit_at t pin ≡ Some b) fits.target e) in
        let is = (h.started started).directions b.port at.port in
        subst (λ n. (bit_of n b.bit ≡ true) ↔ Contains (map Some o.outputs) (Some b)) (sym (is ∙ ap (λ (ps : List PortBit). direction ps b.port) fits.outputs))
        (driven b at.bit o.outputs fits.bits)

    pub held : HoldsStore o (view_of m) s.store
    held = record { cells = cells; latches = latches; drives = drives; eeprom = λ a lt. ap (λ (bs : List ℕ). slice_index bs a) h.shows.eeprom }

  fresh_at : (eeprom : List ℕ) (m : AvrState) → IsReset board.settings eeprom m → StandsFresh (avr_target board) o eeprom m
  fresh_at eeprom m r =
      let cells = cells_of r.regs r.sram in
      let has = has_cells r.regs r.sram r.regs_bytes r.sram_bytes in
      record {
        bytes = (fresh Mega16 cells eeprom avr_scratch).bytes;
        fresh = record {
          place = refl;
          closed = refl;
          target = sym fits.target;
          scratch = ap scratch_of fits.target;
          shown = refl;
          cells = has.all;
          latches = refl;
        };
        stopped = refl;
        kept = refl;
        stands = λ places first. subst (λ (x : AvrState). StandsAt board places x (fresh Mega16 cells eeprom avr_scratch).bytes) (sym r.is)
            (reset_stands r.sram r.regs eeprom cells board places r.regs_bytes.all r.sram_bytes.all has first);
      }

  pub served : Serves avr_chip (IsReset board.settings) (avr_target board) o
  served = record { step = λ flash. refl; wait = refl; reads = λ r h. tt; reset = fresh_at; shows = held }
