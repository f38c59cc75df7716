-- The copier has what the list allows to an operation that copies a bit.
use Rattle.std.proofs.Common.{◌≡◌, inl, inr, false, List, [], ◌∷◌, refl, arith}
use Rattle.std.specs.List.{flat_map, sum_by}
use Rattle.chip_tables.specs.declared.target.Target.TheVariants.{Mega16}
use Rattle.byte_code.specs.Kinds as kind
use Rattle.byte_code.specs.Kinds.{PrimKind, kinds, IsWithin}
use Rattle.byte_code.specs.Lowered.{Entry, IsListed, AreChosen, Cpy, Fi, plain, whole}
use Rattle.byte_code.specs.Samples.{copier}

pub listed : IsListed Mega16 0 [] (Cpy false false ∷ []) copier
listed = record {
  choice = plain (kind.CopyBit false false ∷ []) ∷ [];
  chosen = (inl refl, tt);
  primitives = λ cost. omega arith;
  boot = λ cost. omega arith;
  turns = λ cost. omega arith;
}

codes : List Entry → List PrimKind
codes choice = flat_map (λ e. e.code) (whole 0 [] choice)

empty_code : (e : Entry) → e ≡ plain [] → sum_by (λ k. 1) (codes (e ∷ [])) ≡ 3
unfolding codes
empty_code e x = rw x refl

few : (choice : List Entry) → AreChosen (Fi ∷ []) choice → IsWithin (kinds Mega16 copier) (codes choice) → ⊥
few [] h w = h
few (e ∷ []) (inl x, h) w =
    let have : sum_by (λ k. 1) (kinds Mega16 copier) ≡ 4 = refl in
    let may = empty_code e x in
    let most = w (λ k. 1) in
    omega (arith, have, may, most)
few (e ∷ []) (inr x, h) w = x
few (e ∷ f ∷ es) (x, h) w = h

pub not_less : IsListed Mega16 0 [] (Fi ∷ []) copier → ⊥
unfolding codes
not_less h = few h.choice h.chosen h.primitives
