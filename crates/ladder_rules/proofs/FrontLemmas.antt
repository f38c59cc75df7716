-- What is left of a tree, in its places, at a step of a loop: the step's node, and the nodes behind it.
use Rattle.std.proofs.Common.{◌≡◌, ℕ, zero, suc, ◌+◌, ◌<◌, Bool, true, false, ◌&&◌, nat_eq, List, [], ◌∷◌, ◌++◌, length, get_or, drop, map, sym, ap, ◌∙◌, arith, add-one}
use Rattle.std.proofs.lemmas.Bool.Decides.{nat_tests}
use Rattle.ladder_tree.specs.declared.project.Node.{Node}
use Rattle.ladder_tree.specs.declared.project.Rung.{Rung}
use Rattle.ladder_tree.proofs.FrontLemmas.{at_front}
use Rattle.ladder_rules.specs.Places.{placed, placed_series, placed_parallel, all_placed, is_last}

same_test : (a b : ℕ) → nat_eq (suc a) (suc b) ≡ nat_eq a b
same_test a b = grind (arith, nat_tests)

last_by : (ns : List Node) (i : ℕ) → i < length ns → nat_eq (suc i) (length ns) ≡ is_last (map placed (drop (suc i) ns))
last_by [] i lt = absurd (omega arith)
last_by (n ∷ []) zero lt = grind (arith, nat_tests)
last_by (n ∷ o ∷ ns) zero lt = grind (arith, nat_tests)
last_by (n ∷ ns) (suc i) lt = same_test (suc i) (length ns) ∙ last_by ns i (omega arith)

-- whether a place is the last
last_at : (ns : List Node) (i : ℕ) → i < length ns → nat_eq (i + 1) (length ns) ≡ is_last (map placed (drop (i + 1) ns))
last_at ns i lt = rw add-one (last_by ns i lt)

pub series_front : (ns : List Node) (i : ℕ) (n : Node) (end : Bool) → i < length ns → n ≡ get_or ns i n →
    placed_series (drop i ns) end ≡ placed n (end && nat_eq (i + 1) (length ns)) ++ placed_series (drop (i + 1) ns) end
series_front ns i n end lt is =
    ap (λ xs. placed_series xs end) (at_front ns i n lt is) ∙ ap (λ b. placed n (end && b) ++ placed_series (drop (i + 1) ns) end) (sym (last_at ns i lt))

pub parallel_front : (ns : List Node) (i : ℕ) (n : Node) (end : Bool) → i < length ns → n ≡ get_or ns i n →
    placed_parallel (drop i ns) end ≡ placed n end ++ placed_parallel (drop (i + 1) ns) end
parallel_front ns i n end lt is = ap (λ xs. placed_parallel xs end) (at_front ns i n lt is)

pub placed_front : (gs : List Rung) (i : ℕ) (g : Rung) → i < length gs → g ≡ get_or gs i g →
    all_placed (drop i gs) ≡ placed_series g.nodes true ++ all_placed (drop (i + 1) gs)
placed_front gs i g lt is = ap all_placed (at_front gs i g lt is)

pub and_so : (a b w : Bool) → a ≡ true → w ≡ b → w ≡ (a && b)
and_so true b w t e = e
and_so false b w t e = let clash : ⊥ = cc in absurd clash

pub and_not : (a b w : Bool) → a ≡ false → w ≡ a → w ≡ (a && b)
and_not false b w t e = e
and_not true b w t e = let clash : ⊥ = cc in absurd clash
