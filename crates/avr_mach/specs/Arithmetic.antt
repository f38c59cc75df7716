-- Sums, differences and shifts with their flags: AVR Instruction Set Manual, the flags of each instruction.
use Rattle.std.specs.Prelude.{ℕ, ◌+◌, ◌-◌, ◌%◌, ◌==◌, nat_lt, nat_le, ◌&&◌, ◌||◌, not, Bool, slice_set}
use Rattle.avr_mach.specs.declared.state.AvrState.{AvrState}
use Rattle.chip_tables.specs.Bits.{bit_of}
use Rattle.avr_mach.specs.State.{with_reg}

-- exactly one of two
abbrev pub differ : Bool → Bool → Bool
differ a b = a && not b || not a && b

-- d := x + y + k, with its flags
abbrev pub with_sum : AvrState → ℕ → ℕ → ℕ → ℕ → AvrState
with_sum m d x y k =
    let r = (x + y + k) % 256 in
    let x7 = nat_le 128 x in
    let y7 = nat_le 128 y in
    let n = nat_le 128 r in
    let v = x7 && (y7 && not n) || not x7 && (not y7 && n) in
    record m {
      regs = slice_set m.regs d r;
      carry = nat_lt 255 (x + y + k);
      zero = r == 0;
      negative = n;
      overflow = v;
      sign = differ n v;
      half_carry = nat_lt 15 (x % 16 + y % 16 + k);
    }

abbrev pub difference : ℕ → ℕ → ℕ → ℕ
difference x y k = (x + 256 - (y + k)) % 256

-- the flags of x - y - k; a chain of bytes is zero where the bytes before were zero too
abbrev pub with_compared : AvrState → ℕ → ℕ → ℕ → Bool → AvrState
with_compared m x y k zero =
    let r = difference x y k in
    let x7 = nat_le 128 x in
    let y7 = nat_le 128 y in
    let n = nat_le 128 r in
    let v = x7 && (not y7 && not n) || not x7 && (y7 && n) in
    record m {
      carry = nat_lt x (y + k);
      zero = zero && r == 0;
      negative = n;
      overflow = v;
      sign = differ n v;
      half_carry = nat_lt (x % 16) (y % 16 + k);
    }

-- d := x - y - k, with its flags
abbrev pub with_difference : AvrState → ℕ → ℕ → ℕ → ℕ → Bool → AvrState
with_difference m d x y k zero = with_reg (with_compared m x y k zero) d (difference x y k)

-- d := r, with zero, negative, overflow and sign
abbrev pub with_result : AvrState → ℕ → ℕ → Bool → AvrState
with_result m d r v =
    let n = nat_le 128 r in
    record m { regs = slice_set m.regs d r; zero = r == 0; negative = n; overflow = v; sign = differ n v }

-- the same and the carry
abbrev pub with_carry : AvrState → Bool → AvrState
with_carry m c = record m { carry = c }

-- d := r, what a shift to the right leaves of x; bit 0 goes to the carry
abbrev pub with_shifted : AvrState → ℕ → ℕ → ℕ → AvrState
with_shifted m d x r = with_carry (with_result m d r (differ (nat_le 128 r) (bit_of x 0))) (bit_of x 0)
