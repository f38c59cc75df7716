-- The quotient of two numbers of 16 bits, computed at 64.
use Rattle.std.proofs.Common.{◌≡◌, ℕ, suc, ◌/◌, ◌≤◌, Bool, true, false, cond, ℤ, pos, negsuc, refl, arith}
use Rattle.std.specs.Int.{w16, w64, cast_signed, cast_unsigned}
use Rattle.std.specs.Int.RustNames.{FitsSigned, int_div}
use Rattle.std.specs.Ordering.{int_eq}
use Rattle.std.proofs.lemmas.Bool.Decides.{Decides-int_eq}
use Rattle.ladder_meaning.specs.Numbers.{computed}
use Rattle.ladder_tree.specs.declared.element.MathHow.TheVariants.{Div}
use Rattle.ld_base.specs.Wrap.{wrap}
use Rattle.std.proofs.lemmas.Int.{ints, fits_signed_from_abs, quot_is}

at_most : (a b : ℕ) → a / b ≤ a
at_most a b = grind arith

quotient_fits : (a b : ℤ) → FitsSigned w16 a → FitsSigned w64 (int_div a b)
quotient_fits (pos a) (pos b) f = record { sfits = omega (arith, ints, at_most a b, f.sfits) }
quotient_fits (pos a) (negsuc b) f = fits_signed_from_abs w64 _ (omega (arith, ints, at_most a (suc b), f.sfits))
quotient_fits (negsuc a) (pos b) f = fits_signed_from_abs w64 _ (omega (arith, ints, at_most (suc a) b, f.sfits))
quotient_fits (negsuc a) (negsuc b) f = record { sfits = omega (arith, ints, at_most (suc a) (suc b), f.sfits) }

wider : (a : ℤ) → FitsSigned w16 a → FitsSigned w64 a
wider a f = record { sfits = omega (arith, f.sfits) }

pub quotient_is : (a b : ℤ) → FitsSigned w16 a → FitsSigned w16 b
    → cast_signed w64 (cast_unsigned w64 (int_div (cast_signed w64 (cast_unsigned w64 a)) (cast_signed w64 (cast_unsigned w64 b)))) ≡ int_div a b
quotient_is a b f g = quot_is w64 a b (wider a f) (wider b g) (quotient_fits a b f)

divided_by : (z : Bool) (a b r : ℤ) → (z ≡ true → ⊥) → r ≡ wrap (int_div a b) → r ≡ cond z (pos 0) (wrap (int_div a b))
divided_by true a b r some h = absurd (some refl)
divided_by false a b r some h = h

pub divided : (a b r : ℤ) → (b ≡ pos 0 → ⊥) → r ≡ wrap (int_div a b) → r ≡ computed Div a b
divided a b r some h = divided_by (int_eq b (pos 0)) a b r (λ e. some ((Decides-int_eq b (pos 0)).0 e)) h
