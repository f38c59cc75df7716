-- Loops over cells and over code.
use Rattle.std.proofs.Common.{◌≡◌, ℕ, zero, suc, ◌+◌, List, [], ◌∷◌, drop, Some, true, false, sym, ap, ◌∙◌, add-one, slice_get}
use Rattle.std.specs.Prelude.{if◌then◌else◌}
use Rattle.chip_tables.specs.Memory.{ram_address}
use Rattle.byte_code.specs.declared.prim.Paced.{Paced}
use Rattle.byte_code.specs.declared.store.Store.{Store}
use Rattle.byte_code.specs.Table.{cell_cleared, cleared, shape_of}
use Rattle.byte_code.specs.Machine.{is_name, label_place}

-- one cell more
pub cleared_more : (k : ℕ) (d : Store) → cell_cleared (ram_address (cleared k d).target k) (cleared k d) ≡ cleared (k + 1) d
cleared_more k d = ap (λ n. cleared n d) (sym (add-one k))

-- a primitive that is not the label
pub label_passed : (code : List Paced) (i l : ℕ) (p : Paced) → slice_get code i ≡ Some p → is_name (shape_of p.prim) l ≡ false →
    label_place (drop i code) l ≡ suc (label_place (drop (suc i) code) l)
label_passed [] i l p e other = absurd (cc)
label_passed (x ∷ xs) zero l p e other =
    let f : x ≡ p = cc in ap (λ b. if b then 0 else suc (label_place xs l)) (ap (λ y. is_name (shape_of y.prim) l) f ∙ other)
label_passed (x ∷ xs) (suc i) l p e other = label_passed xs i l p e other

-- one that is
pub label_found : (code : List Paced) (i l : ℕ) (p : Paced) → slice_get code i ≡ Some p → is_name (shape_of p.prim) l ≡ true → label_place (drop i code) l ≡ 0
label_found [] i l p e is = absurd (cc)
label_found (x ∷ xs) zero l p e is = let f : x ≡ p = cc in ap (λ b. if b then 0 else suc (label_place xs l)) (ap (λ y. is_name (shape_of y.prim) l) f ∙ is)
label_found (x ∷ xs) (suc i) l p e is = label_found xs i l p e is
