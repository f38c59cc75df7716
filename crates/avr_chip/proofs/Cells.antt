-- The data memory of an ATmega16 as one list of cells.
use Rattle.std.proofs.Common.{◌≡◌, ℕ, ◌+◌, ◌-◌, ◌<◌, ◌≤◌, Bool, true, false, List, ◌++◌, length, replicate, get_or, refl, sym, ap, subst, ◌∙◌, arith}
use Rattle.std.proofs.lemmas.Bool.Decides.{nat_tests}
use Rattle.std.proofs.lemmas.List.{get_or_append_left, get_or-append_right, get_or-replicate, length-append, length-replicate}
use Rattle.std.specs.Prelude.{nat_lt, slice_index}
use Rattle.chip_tables.specs.declared.mega16.TheConstants.{IO_FIRST, SRAM_BYTES, SRAM_END, SRAM_FIRST}
use Rattle.avr_code.specs.Stands.{HasCells}
use Rattle.avr_chip.specs.Machine.{AreBytes}

-- the registers, the addresses of I/O, which are no cells, and the SRAM
abbrev pub cells_of : List ℕ → List ℕ → List ℕ
cells_of regs sram = regs ++ (replicate 64 0 ++ sram)

module _ (regs sram : List ℕ) (r : AreBytes regs IO_FIRST) (s : AreBytes sram SRAM_BYTES) where
  all : length (cells_of regs sram) ≡ SRAM_END
  all =
      let whole = length-append regs (replicate 64 0 ++ sram) in
      let part = length-append (replicate 64 0) sram in
      let none = length-replicate {A = ℕ} 64 0 in
      let few : length regs ≡ 32 = r.all in
      let many : length sram ≡ 1024 = s.all in
      omega (arith, whole, part, none, few, many)

  file : (i : ℕ) → i < IO_FIRST → slice_index regs i ≡ slice_index (cells_of regs sram) i
  file i lt = let few : length regs ≡ 32 = r.all in sym (get_or_append_left regs (replicate 64 0 ++ sram) 0 i (omega (arith, lt, few)))

  beyond : (a : ℕ) → 32 ≤ a → slice_index (cells_of regs sram) a ≡ get_or (replicate 64 0 ++ sram) (a - 32) 0
  beyond a le = get_or-append_right regs (replicate 64 0 ++ sram) 32 a 0 r.all le

  ram : (a : ℕ) → SRAM_FIRST ≤ a → a < SRAM_END → slice_index sram (a - SRAM_FIRST) ≡ slice_index (cells_of regs sram) a
  ram a le lt =
      let far : 96 ≤ a = le in
      let at : a - 32 - 64 ≡ a - 96 = omega (arith, far) in
      sym (beyond a (omega (arith, far)) ∙ get_or-append_right (replicate 64 0) sram 64 (a - 32) 0 (length-replicate {A = ℕ} 64 0) (omega (arith, far))
      ∙ ap (λ i. get_or sram i 0) at)

  bytes : (a : ℕ) → slice_index (cells_of regs sram) a < 256
  bytes a = by (nat_lt a 32) (nat_lt a 96) refl refl
    where
      by : (b d : Bool) → nat_lt a 32 ≡ b → nat_lt a 96 ≡ d → slice_index (cells_of regs sram) a < 256
      by true d e f = let lt : a < 32 = grind (arith, nat_tests, e) in subst (λ x. x < 256) (file a lt) (r.each a)
      by false true e f =
          let le : 32 ≤ a = grind (arith, nat_tests, e) in
          let lt : a < 96 = grind (arith, nat_tests, f) in
          let none : length {A = ℕ} (replicate 64 0) ≡ 64 = length-replicate {A = ℕ} 64 0 in
          let is = beyond a le ∙ get_or_append_left (replicate 64 0) sram 0 (a - 32) (omega (arith, lt, none))
          ∙ get_or-replicate 64 (a - 32) 0 0 (omega (arith, lt, le)) in
          omega (arith, is)
      by false false e f =
          let far : 96 ≤ a = grind (arith, nat_tests, f) in
          let is = beyond a (omega (arith, far)) ∙ get_or-append_right (replicate 64 0) sram 64 (a - 32) 0 (length-replicate {A = ℕ} 64 0) (omega (arith, far)) in
          subst (λ x. x < 256) (sym is) (s.each (a - 32 - 64))

  pub has_cells : HasCells (cells_of regs sram) regs sram
  has_cells = record { all = all; bytes = bytes; file = file; ram = ram }
