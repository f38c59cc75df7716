-- The cycles of a history by their numbers.
use Rattle.std.proofs.Common.{◌≡◌, ℕ, zero, suc, ◌+◌, ◌<◌, List, [], ◌∷◌, length, Some, refl, sym, ap, arith, ◌∙◌}
use Rattle.std.specs.Prelude.{slice_get}
use Rattle.ladder_tree.specs.declared.names.Names.{Names}
use Rattle.ladder_meaning.specs.Cycle.{Ended}
use Rattle.ladder_meaning.specs.declared.reading.Reading.{Reading}
use Rattle.int_code.specs.Meaning.{Moment}
use Rattle.int_code.specs.Meaning as int
use Rattle.int_code.specs.Store.{Store}
use Rattle.int_code.specs.declared.op.IntOp.{IntOp}
use Rattle.ladder_lower.specs.Correct.{ShowsEnd, ShowsAll}
use Rattle.byte_lower.specs.Code.{store_behind}

-- cycle k of both histories ends alike
pub record EndsAlike (n : Names) (es : List Ended) (ms : List Moment) (k : ℕ) : Type 0 where
  pub end : Ended
  pub moment : Moment
  pub is_end : slice_get es k ≡ Some end
  pub is_moment : slice_get ms k ≡ Some moment
  pub shows : ShowsEnd n end moment

pub ends_alike : (n : Names) (es : List Ended) (ms : List Moment) (k : ℕ) → ShowsAll n es ms → k < length ms → EndsAlike n es ms k
ends_alike n [] [] k h lt = absurd (omega arith)
ends_alike n [] (m ∷ ms) k h lt = absurd h
ends_alike n (e ∷ es) [] k h lt = absurd h
ends_alike n (e ∷ es) (m ∷ ms) zero h lt = record { end = e; moment = m; is_end = refl; is_moment = refl; shows = h.0 }
ends_alike n (e ∷ es) (m ∷ ms) (suc k) h lt =
    let a = ends_alike n es ms k h.1 (omega (arith, lt)) in
    record { end = a.end; moment = a.moment; is_end = a.is_end; is_moment = a.is_moment; shows = a.shows }

pub length_history : (ops : List IntOp) (t : Store) (rs : List Reading) → length (int.history ops t rs) ≡ length rs
length_history ops t [] = refl
length_history ops t (r ∷ rs) = ap suc (length_history ops (int.cycle r ops t).store rs)

-- what is behind cycle k is the store behind k + 1 cycles
pub store_at : (ops : List IntOp) (t : Store) (rs : List Reading) (k : ℕ) (m : Moment) → slice_get (int.history ops t rs) k ≡ Some m → m.store ≡ store_behind ops t rs (suc k)
store_at ops t [] k m e = absurd (cc)
store_at ops t (r ∷ []) zero m e = let same : int.cycle r ops t ≡ m = cc in sym (ap (λ x. x.store) same)
store_at ops t (r ∷ q ∷ rs) zero m e = let same : int.cycle r ops t ≡ m = cc in sym (ap (λ x. x.store) same)
store_at ops t (r ∷ rs) (suc k) m e = store_at ops (int.cycle r ops t).store rs k m e
