-- What is left of a tree at a step of a loop: the step's node, and the nodes behind it.
use Rattle.std.proofs.Common.{◌≡◌, ℕ, zero, suc, ◌+◌, ◌<◌, ◌≤◌, List, [], ◌∷◌, ◌++◌, length, get_or, drop, refl, sym, ap, ◌∙◌, arith, add-one, drop-cons}
use Rattle.ladder_tree.specs.Leaves.{leaves, leaves_in, all_leaves}
use Rattle.ladder_tree.specs.declared.project.Node.{Node}
use Rattle.ladder_tree.specs.declared.project.Rung.{Rung}

pub at_front : {A : Type 0} (xs : List A) (i : ℕ) (x : A) → i < length xs → x ≡ get_or xs i x → drop i xs ≡ x ∷ drop (i + 1) xs
at_front xs i x lt is = rw add-one (drop-cons xs i x lt ∙ ap (λ y. y ∷ drop (suc i) xs) (sym is))

pub nodes_front : (ns : List Node) (i : ℕ) (n : Node) → i < length ns → n ≡ get_or ns i n → leaves_in (drop i ns) ≡ leaves n ++ leaves_in (drop (i + 1) ns)
nodes_front ns i n lt is = ap leaves_in (at_front ns i n lt is)

pub rungs_front : (gs : List Rung) (i : ℕ) (g : Rung) → i < length gs → g ≡ get_or gs i g →
    all_leaves (drop i gs) ≡ leaves_in g.nodes ++ all_leaves (drop (i + 1) gs)
rungs_front gs i g lt is = ap all_leaves (at_front gs i g lt is)

pub none_behind : {A : Type 0} (xs : List A) (i : ℕ) → length xs ≤ i → [] ≡ drop i xs
none_behind [] zero le = refl
none_behind [] (suc i) le = refl
none_behind (x ∷ xs) zero le = absurd (omega arith)
none_behind (x ∷ xs) (suc i) le = none_behind xs i (omega arith)
