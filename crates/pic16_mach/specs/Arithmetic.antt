-- Sums and differences with their flags: PIC16F87X Data Sheet, "Instruction Descriptions", and "STATUS Register" for the borrow.
use Rattle.std.specs.Prelude.{ℕ, ◌+◌, ◌-◌, ◌%◌, ◌==◌, nat_lt, nat_le}
use Rattle.pic16_mach.specs.declared.state.PicState.{PicState}

abbrev pub sum_of : ℕ → ℕ → ℕ
sum_of x y = (x + y) % 256

-- the flags of x + y: a carry out of bit 7, one out of bit 3, and whether the sum is 0
abbrev pub with_sum : PicState → ℕ → ℕ → PicState
with_sum m x y =
    record m { carry = nat_lt 255 (x + y); digit_carry = nat_lt 15 (x % 16 + y % 16); zero = sum_of x y == 0 }

abbrev pub difference_of : ℕ → ℕ → ℕ
difference_of x y = (x + 256 - y) % 256

-- the flags of x - y: for a subtraction both carries are the opposite of a borrow
abbrev pub with_difference : PicState → ℕ → ℕ → PicState
with_difference m x y =
    record m { carry = nat_le y x; digit_carry = nat_le (y % 16) (x % 16); zero = difference_of x y == 0 }

-- Z alone, by a result
abbrev pub with_zero : PicState → ℕ → PicState
with_zero m r = record m { zero = r == 0 }
