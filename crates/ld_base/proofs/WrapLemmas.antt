-- What is left of a number at 16 bits.
use Rattle.std.proofs.Common.{◌≡◌, ℕ, suc, ◌+◌, ◌-◌, ◌*◌, ◌/◌, ◌%◌, ◌<◌, ◌≤◌, ⊎_elim, ap, ◌∙◌, arith, ℤ, pos, negsuc, ◌+ℤ◌}
use Rattle.std.specs.Int.{int_wrap, w16, cast_signed}
use Rattle.std.proofs.lemmas.Int.{SFits-int_wrap, ints}
use Rattle.std.proofs.lemmas.Bool.{cases_lt}
use Rattle.std.proofs.Math.Facts.{to_z-neg}
use Rattle.ld_base.specs.Wrap.{wrap, IsWrapped}

upper_half : (n : ℕ) → 32768 ≤ n → n < 65536 → cast_signed w16 n ≡ negsuc (65535 - n)
upper_half n large small =
    let here : n ≡ 65536 - suc (65535 - n) = omega arith in
    ap (cast_signed w16) here ∙ to_z-neg w16 (65535 - n) (omega arith)

-- a number below 65536 at 16 bits
read : (n : ℕ) → n < 65536 → (up : ℕ) × (cast_signed w16 n +ℤ pos (up * 65536) ≡ pos n)
read n h = ⊎_elim (λ small. (0, omega (arith, ints))) (λ large. (1, let e = upper_half n large h in omega (arith, ints, e))) (cases_lt n 32768)

equal : (z : ℤ) → (up : ℕ) × (down : ℕ) × (wrap z +ℤ pos (up * 65536) ≡ z +ℤ pos (down * 65536))
unfolding int_wrap
equal (pos a) = let r = read (a % 65536) (omega arith) in (r.0 + a / 65536, 0, let e = r.1 in omega (arith, ints))
equal (negsuc a) = let r = read (65535 - a % 65536) (omega arith) in (r.0, a / 65536 + 1, let e = r.1 in omega (arith, ints))

pub wraps : (z : ℤ) → IsWrapped z (wrap z)
wraps z = let fits = SFits-int_wrap w16 z in record { low = omega (arith, ints); high = omega (arith, ints); equal = equal z }
