-- How many words parts of code have.
use Rattle.std.proofs.Common.{◌≡◌, ℕ, zero, suc, ◌+◌, ◌<◌, List, [], ◌∷◌, ◌++◌, take, drop, refl, ap, ◌∙◌, arith}
use Rattle.std.specs.Prelude.{Bool, slice_get, Some}
use Rattle.target_core.proofs.Images.{drop_next}
use Rattle.byte_code.specs.declared.prim.BitSource.{BitSource}
use Rattle.byte_code.specs.declared.prim.BitSource.TheVariants as bit
use Rattle.byte_code.specs.declared.prim.BitDest.{BitDest}
use Rattle.byte_code.specs.declared.prim.BitDest.TheVariants as dest
use Rattle.avr_code.specs.Code.{Piece, fetch_code, put_if_code, wire_taken, copy_wire, next_value, values_from, table_code, size_in}
use Rattle.avr_counts.specs.Tested.{put_where}

-- two parts are as many as both have
pub size_append : (a b : List Piece) → size_in (a ++ b) ≡ size_in a + size_in b
size_append [] b = omega arith
size_append (p ∷ ps) b = let h = size_append ps b in omega (arith, h)

-- a test follows what its bit is fetched by
pub size_put_if : (from : BitSource) (is : Bool) (to : BitDest) (x : Bool) →
    size_in (put_if_code from is to x) ≡ size_in (fetch_code from) + size_in (put_where from is to x)
size_put_if from is (dest.Cell a b) x = size_append (fetch_code from) (put_where from is (dest.Cell a b) x)
size_put_if from is (dest.Latch port b) x = size_append (fetch_code from) (put_where from is (dest.Latch port b) x)

-- a level or a latch goes by way of R16
pub size_of_level : (a : ℕ) (from : BitSource) (port b : ℕ) (inverted : Bool) (n : ℕ) → from ≡ bit.Level port b →
    size_in (wire_taken a from inverted) ≡ n → size_in (copy_wire a from inverted) ≡ n
size_of_level a from port b inverted n e h = rw e (rw e at h)

pub size_of_latch : (a : ℕ) (from : BitSource) (port b : ℕ) (inverted : Bool) (n : ℕ) → from ≡ bit.Latch port b →
    size_in (wire_taken a from inverted) ≡ n → size_in (copy_wire a from inverted) ≡ n
size_of_latch a from port b inverted n e h = rw e (rw e at h)

-- the first values of a list are its own
pub get_taken : (n : ℕ) (xs : List ℕ) (i : ℕ) → i < n → slice_get (take n xs) i ≡ slice_get xs i
get_taken zero xs i h = absurd (omega (arith, h))
get_taken (suc n) [] i h = refl
get_taken (suc n) (x ∷ xs) zero h = refl
get_taken (suc n) (x ∷ xs) (suc i) h = get_taken n xs i (omega (arith, h))

-- a table has the words of its first value, and of those behind it
pub size_first : (values : List ℕ) (x : ℕ) → slice_get (take 256 values) 0 ≡ Some x →
    2 + size_in (values_from 1 x (drop 1 (take 256 values))) ≡ size_in (table_code (take 256 values))
size_first values x e = let whole = ap (λ vs. size_in (table_code vs)) (drop_next (take 256 values) 0 x e) in omega (arith, whole)

-- and those behind it have the words of the next value, and of those behind that
pub size_next : (values : List ℕ) (i before x count next total : ℕ) → i < 256 → slice_get values i ≡ Some x →
    ((rest : List Piece) → size_in (next_value i before x rest) ≡ next + size_in rest) →
    count + size_in (values_from i before (drop i (take 256 values))) ≡ total →
    count + next + size_in (values_from (i + 1) x (drop (i + 1) (take 256 values))) ≡ total
size_next values i before x count next total few e each h =
    let here : slice_get (take 256 values) i ≡ Some x = get_taken 256 values i few ∙ e in
    let rest : List Piece = values_from (i + 1) x (drop (i + 1) (take 256 values)) in
    let split = ap (λ vs. size_in (values_from i before vs)) (drop_next (take 256 values) i x here) in
    let those = each rest in
    omega (arith, split, those, h)
