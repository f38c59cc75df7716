-- Lines that are joined, and indents that are too deep for a line.
use Rattle.std.proofs.Common.{◌≡◌, ℕ, suc, get_or, drop, add-one, drop-cons, ◌+◌, ◌<◌, min, Bool, true, false, if◌then◌else◌, nat_le, List, [], ◌∷◌, ◌++◌, length, map, codes, refl, sym, ap, ◌∙◌, arith, append_assoc}
use Rattle.std.specs.Prelude.{replicate}
use Rattle.std.proofs.lemmas.Bool.Decides.{nat_tests}
use Rattle.ld_print.specs.Words.{element_words}
use Rattle.texts.specs.Lines.{joined}
use Rattle.texts.specs.declared.limits.TheConstants.{LINE_BYTES}
use Rattle.ladder_tree.specs.declared.element.Leaf as leaf
use Rattle.ladder_tree.specs.declared.project.Node.{Node, Leaf, Series, Parallel}
use Rattle.ladder_tree.specs.declared.project.Node.TheOpen.{Node-F}
use Rattle.ladder_tree.specs.declared.project.Node.TheFolds.{fold-roll-Node}
use Rattle.ladder_tree.specs.declared.project.Node.TheVariants.{rolls-Leaf, rolls-Series, rolls-Parallel}
use Rattle.ladder_tree.specs.Induct.{Each, node_ind}
use Rattle.ld_print.specs.Printed.{indented, form_lines, node_step, node_lines, nodes_lines}

pub joined-append : (a b : List (List ℕ)) → joined (a ++ b) ≡ joined a ++ joined b
joined-append [] b = refl
joined-append (l ∷ ls) b = ap (λ t. l ++ 10 ∷ t) (joined-append ls b) ∙ sym (append_assoc l (10 ∷ joined ls) (joined b))

-- a line that no indent suits is the same at all such indents
at_indents : (i j : ℕ) (words : List ℕ) → min 513 i ≡ min 513 j → indented i words ≡ indented j words
at_indents i j words h = by (nat_le (i + length words) LINE_BYTES) (nat_le (j + length words) LINE_BYTES) refl refl
  where
    by : (a b : Bool) → nat_le (i + length words) LINE_BYTES ≡ a → nat_le (j + length words) LINE_BYTES ≡ b
        → (if a then replicate i 32 ++ words else words) ≡ (if b then replicate j 32 ++ words else words)
    by true true e f = let same : i ≡ j = grind (arith, nat_tests) in ap (λ k. replicate k 32 ++ words) same
    by true false e f = absurd (grind (arith, nat_tests))
    by false true e f = absurd (grind (arith, nat_tests))
    by false false e f = refl

abbrev IsSettled : Node → Type 0
IsSettled n = (i j : ℕ) → min 513 i ≡ min 513 j → node_lines n i ≡ node_lines n j

pub node-Leaf : (l : leaf.Leaf) → node_lines (Leaf l) ≡ node_step (Node-F.Leaf l)
node-Leaf l = ap node_lines (sym (rolls-Leaf l)) ∙ fold-roll-Node (ℕ → List (List ℕ)) node_step (Node-F.Leaf l)

pub node-Series : (ns : List Node) → node_lines (Series ns) ≡ node_step (Node-F.Series (map node_lines ns))
node-Series ns = ap node_lines (sym (rolls-Series ns)) ∙ fold-roll-Node (ℕ → List (List ℕ)) node_step (Node-F.Series ns)

pub node-Parallel : (ns : List Node) → node_lines (Parallel ns) ≡ node_step (Node-F.Parallel (map node_lines ns))
node-Parallel ns = ap node_lines (sym (rolls-Parallel ns)) ∙ fold-roll-Node (ℕ → List (List ℕ)) node_step (Node-F.Parallel ns)

nodes_settled : (ns : List Node) → Each IsSettled ns → (i j : ℕ) → min 513 i ≡ min 513 j → nodes_lines i ns ≡ nodes_lines j ns
nodes_settled [] h i j e = refl
nodes_settled (n ∷ ns) h i j e = ap (λ ls. ls ++ nodes_lines i ns) (h.0 i j e) ∙ ap (λ ls. node_lines n j ++ ls) (nodes_settled ns h.1 i j e)

form_settled : (word : List ℕ) (ns : List Node) → Each IsSettled ns → (i j : ℕ) → min 513 i ≡ min 513 j
    → form_lines word i (map node_lines ns) ≡ form_lines word j (map node_lines ns)
form_settled word ns h i j e =
    ap (λ l. l ∷ (nodes_lines (i + 4) ns ++ indented i (codes "END") ∷ [])) (at_indents i j word e)
    ∙ ap (λ ls. indented j word ∷ (ls ++ indented i (codes "END") ∷ [])) (nodes_settled ns h (i + 4) (j + 4) (omega arith))
    ∙ ap (λ l. indented j word ∷ (nodes_lines (j + 4) ns ++ l ∷ [])) (at_indents i j (codes "END") e)

settled : (n : Node) → IsSettled n
settled = node_ind IsSettled
    (λ l i j e. ap (λ f. f i) (node-Leaf l) ∙ ap (λ x. x ∷ []) (at_indents i j (element_words l.kind) e) ∙ sym (ap (λ f. f j) (node-Leaf l)))
    (λ ns h i j e. ap (λ f. f i) (node-Series ns) ∙ form_settled (codes "SERIES") ns h i j e ∙ sym (ap (λ f. f j) (node-Series ns)))
    (λ ns h i j e. ap (λ f. f i) (node-Parallel ns) ∙ form_settled (codes "PARALLEL") ns h i j e ∙ sym (ap (λ f. f j) (node-Parallel ns)))

each_settled : (ns : List Node) → Each IsSettled ns
each_settled [] = tt
each_settled (n ∷ ns) = (settled n, each_settled ns)

-- the lines of nodes, where an indent grows no more
pub lines_settled : (ns : List Node) (i j : ℕ) → min 513 i ≡ min 513 j → nodes_lines i ns ≡ nodes_lines j ns
lines_settled ns i j e = nodes_settled ns (each_settled ns) i j e

-- a form as it is written: the line that opens it, its nodes, and END
pub form_written : (t u v w opening end : List ℕ) (nodes : List (List ℕ)) → u ≡ t ++ joined (opening ∷ []) → v ≡ u ++ joined nodes
    → w ≡ v ++ joined (end ∷ []) → w ≡ t ++ joined (opening ∷ (nodes ++ end ∷ []))
form_written t u v w opening end nodes a b c =
    c ∙ ap (λ x. x ++ joined (end ∷ [])) (b ∙ ap (λ x. x ++ joined nodes) a)
    ∙ append_assoc (t ++ joined (opening ∷ [])) (joined nodes) (joined (end ∷ []))
    ∙ append_assoc t (joined (opening ∷ [])) (joined nodes ++ joined (end ∷ []))
    ∙ ap (λ x. t ++ x) (append_assoc opening (10 ∷ []) (joined nodes ++ joined (end ∷ [])) ∙ ap (λ x. opening ++ 10 ∷ x) (sym (joined-append nodes (end ∷ []))))

pub front : {A : Type 0} (xs : List A) (i : ℕ) (x : A) → i < length xs → x ≡ get_or xs i x → drop i xs ≡ x ∷ drop (i + 1) xs
front xs i x lt is = rw add-one (drop-cons xs i x lt ∙ ap (λ y. y ∷ drop (suc i) xs) (sym is))

-- some lines more
pub lines_more : (t u : List ℕ) (some rest all : List (List ℕ)) → all ≡ some ++ rest → u ≡ t ++ joined some → u ++ joined rest ≡ t ++ joined all
lines_more t u some rest all e h =
    ap (λ x. x ++ joined rest) h ∙ append_assoc t (joined some) (joined rest)
    ∙ ap (λ x. t ++ x) (sym (ap joined e ∙ joined-append some rest))

-- the whole text as it is written: down to IO LIST, the pins, down to PROGRAM, the rungs
pub whole_written : (t u v w : List ℕ) (head pins middle rungs : List (List ℕ)) → t ≡ joined head → u ≡ t ++ joined pins → v ≡ u ++ joined middle
    → w ≡ v ++ joined rungs → w ≡ joined (head ++ (pins ++ (middle ++ rungs)))
whole_written t u v w head pins middle rungs a b c d =
    d ∙ ap (λ x. x ++ joined rungs) (c ∙ ap (λ x. x ++ joined middle) (b ∙ ap (λ x. x ++ joined pins) a))
    ∙ append_assoc (joined head ++ joined pins) (joined middle) (joined rungs)
    ∙ append_assoc (joined head) (joined pins) (joined middle ++ joined rungs)
    ∙ sym (joined-append head (pins ++ (middle ++ rungs))
    ∙ ap (λ x. joined head ++ x) (joined-append pins (middle ++ rungs) ∙ ap (λ x. joined pins ++ x) (joined-append middle rungs)))
