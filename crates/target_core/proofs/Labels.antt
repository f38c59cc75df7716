-- The table of the labels' places.
use Rattle.std.proofs.Common.{◌≡◌, ◌≢◌, ℕ, zero, suc, ◌+◌, ◌-◌, ◌<◌, List, [], ◌∷◌, length, replicate, Some, true, refl, sym, ap, subst, ◌∙◌, arith, length-append, length-set}
use Rattle.std.specs.Prelude.{slice_get, slice_index, slice_set}
use Rattle.std.proofs.lemmas.List.{get_or-set_same, get_or-set_other, length-replicate}
use Rattle.std.proofs.Math.ListN.{get_or-append}
use borrow.Author.Tests.{eqb-true, eq-eqb}
use Rattle.byte_code.specs.declared.prim.BytePrim.{BytePrim}
use Rattle.byte_code.specs.declared.prim.Paced.{Paced}
use Rattle.byte_code.specs.declared.prim.Shape.{Shape}
use Rattle.byte_code.specs.declared.prim.Shape.TheVariants.{AtStart, AtPoll, AtDevice, Names, Jumps, Branches, Calls, Returns, Straight}
use Rattle.byte_code.specs.Table.{shape_of}
use Rattle.byte_code.specs.Machine.{is_name}
use Rattle.target_core.specs.Whole.{places_from}
use Rattle.target_core.specs.Image.{table_from, marked, marked_in, padded}

-- a label, where the test says so
label_is : (h : Shape) (l : ℕ) → is_name h l ≡ true → h ≡ Names l
label_is (Names k) l e = ap Names (eqb-true k l e)
label_is AtStart l e = cc
label_is AtPoll l e = cc
label_is AtDevice l e = cc
label_is (Jumps k) l e = cc
label_is (Branches k) l e = cc
label_is (Calls k) l e = cc
label_is Returns l e = cc
label_is Straight l e = cc

length-padded : (labels : List ℕ) (n : ℕ) → length (padded labels n) ≡ length labels + (n - length labels)
length-padded labels n = omega (arith, length-append labels (replicate (n - length labels) 0), length-replicate {A = ℕ} (n - length labels) 0)

-- another primitive leaves what the table has
record Keeps (labels more : List ℕ) (l : ℕ) : Type 0 where
  same : slice_index more l ≡ slice_index labels l
  inside : l < length more

marked_keeps : (h : Shape) (at : ℕ) (labels : List ℕ) (l : ℕ) → l < length labels → (is_name h l ≡ true → ⊥) → Keeps labels (marked_in h at labels) l
marked_keeps (Names k) at labels l h n =
    let other : l ≢ k = λ e. n (eq-eqb k l (sym e)) in
    record {
      same = get_or-set_other (padded labels (suc k)) k l at 0 other ∙ get_or-append labels (replicate (suc k - length labels) 0) 0 l h;
      inside = omega (arith, length-set (padded labels (suc k)) k at, length-padded labels (suc k));
    }
marked_keeps AtStart at labels l h n = record { same = refl; inside = h }
marked_keeps AtPoll at labels l h n = record { same = refl; inside = h }
marked_keeps AtDevice at labels l h n = record { same = refl; inside = h }
marked_keeps (Jumps k) at labels l h n = record { same = refl; inside = h }
marked_keeps (Branches k) at labels l h n = record { same = refl; inside = h }
marked_keeps (Calls k) at labels l h n = record { same = refl; inside = h }
marked_keeps Returns at labels l h n = record { same = refl; inside = h }
marked_keeps Straight at labels l h n = record { same = refl; inside = h }

module _ (words : BytePrim → ℕ) (l : ℕ) where
  table_keeps : (at : ℕ) (labels : List ℕ) (code : List Paced) → l < length labels →
      ((i : ℕ) (x : Paced) → slice_get code i ≡ Some x → is_name (shape_of x.prim) l ≡ true → ⊥) → Keeps labels (table_from words at labels code) l
  table_keeps at labels [] h n = record { same = refl; inside = h }
  table_keeps at labels (p ∷ ps) h n =
      let first = marked_keeps (shape_of p.prim) at labels l h (n 0 p refl) in
      let rest = table_keeps (at + words p.prim) (marked p.prim at labels) ps first.inside (λ i x e. n (suc i) x e) in
      record { same = rest.same ∙ first.same; inside = rest.inside }

  set_at : (at : ℕ) (labels : List ℕ) → (slice_index (slice_set (padded labels (suc l)) l at) l ≡ at) × (l < length (slice_set (padded labels (suc l)) l at))
  set_at at labels =
      let long : l < length (padded labels (suc l)) = omega (arith, length-padded labels (suc l)) in
      (get_or-set_same (padded labels (suc l)) l at 0 long, omega (arith, length-set (padded labels (suc l)) l at, long))

  -- a label that stands once has its place in the table
  pub table_has : (at : ℕ) (labels : List ℕ) (code : List Paced) (k : ℕ) (q : Paced) → slice_get code k ≡ Some q → is_name (shape_of q.prim) l ≡ true →
      ((i : ℕ) (x : Paced) → slice_get code i ≡ Some x → is_name (shape_of x.prim) l ≡ true → i ≡ k) →
      (slice_index (table_from words at labels code) l ≡ slice_index (places_from words at code) k) × (l < length (table_from words at labels code))
  table_has at labels [] k q e is once = absurd (cc)
  table_has at labels (p ∷ ps) zero q e is once =
      let f : p ≡ q = cc in
      let here' : shape_of p.prim ≡ Names l = ap (λ x. shape_of x.prim) f ∙ label_is (shape_of q.prim) l is in
      let s = set_at at labels in
      let kept = table_keeps (at + words p.prim) (slice_set (padded labels (suc l)) l at) ps s.1
      (λ i x g h. let z : suc i ≡ 0 = once (suc i) x g h in absurd (omega (arith, z))) in
      subst (λ x. (slice_index (table_from words (at + words p.prim) (marked_in x at labels) ps) l ≡ at) × (l < length
      (table_from words (at + words p.prim) (marked_in x at labels) ps))) (sym here') (kept.same ∙ s.0, kept.inside)
  table_has at labels (p ∷ ps) (suc k) q e is once =
      table_has (at + words p.prim) (marked p.prim at labels) ps k q e is (λ i x g h. let z : suc i ≡ suc k = once (suc i) x g h in omega (arith, z))
