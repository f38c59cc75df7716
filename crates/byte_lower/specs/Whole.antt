-- What an assembler asks of code, whatever its chip is.
use Rattle.std.specs.Prelude.{◌≡◌, ℕ, suc, true, false, List, Some, slice_get}
use Rattle.byte_code.specs.declared.prim.Paced.{Paced}
use Rattle.target_core.specs.Law.{is_start, label_named}
use Rattle.target_core.specs.Whole.{IsPlaced}

-- The start stands first and nowhere else, and each label that is named stands once, and behind it a primitive that has words.
pub record HasLabels (code : List Paced) : Type 0 where
  pub first : (p : Paced) × (slice_get code 0 ≡ Some p) × (is_start p.prim ≡ true)
  pub others : (i : ℕ) (p : Paced) → slice_get code (suc i) ≡ Some p → is_start p.prim ≡ false
  pub labels : (i l : ℕ) (p : Paced) → slice_get code i ≡ Some p → label_named p.prim ≡ Some l → IsPlaced code l
