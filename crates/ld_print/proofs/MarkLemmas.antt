-- The printed lines of rungs, one for each line that spells them.
use Rattle.std.proofs.Common.{◌≡◌, ℕ, ◌+◌, ◌-◌, List, [], ◌∷◌, ◌++◌, map, codes, refl, sym, ap, ◌∙◌, arith, append_assoc}
use Rattle.ladder_tree.specs.declared.project.Node.{Node}
use Rattle.ladder_tree.specs.declared.project.Rung.{Rung}
use Rattle.ladder_tree.specs.Induct.{Each, node_ind}
use Rattle.ld_line.specs.declared.rungs.Circuit.{Circuit}
use Rattle.ld_line.specs.declared.rungs.Circuit.TheVariants as circuit
use Rattle.ld_text.specs.declared.heard.Mark.{Mark}
use Rattle.ld_text.specs.declared.heard.Mark.TheVariants as mark
use Rattle.ld_text.specs.Tree.{closed}
use Rattle.ld_text.specs.Spelling.{spelled, spelled_node, spelled_nodes}
use Rattle.ld_text.proofs.TreeLemmas.{spelled-Leaf, spelled-closed}
use Rattle.ld_print.specs.Printed.{indented, form_lines, node_lines, nodes_lines, rungs_lines}
use Rattle.ld_print.specs.Words.{element_words}
use Rattle.ld_print.proofs.JoinedLemmas.{node-Leaf, node-Series, node-Parallel}

abbrev pub circuit_word : Circuit → List ℕ
circuit_word circuit.Series = codes "SERIES"
circuit_word circuit.Parallel = codes "PARALLEL"

abbrev pub mark_line : ℕ → Mark → List ℕ
mark_line i mark.Rung = codes "RUNG"
mark_line i (mark.Open c) = indented i (circuit_word c)
mark_line i mark.End = indented (i - 4) (codes "END")
mark_line i (mark.Element l) = indented i (element_words l.kind)

-- the indent of what follows
abbrev pub indent_behind : ℕ → Mark → ℕ
indent_behind i mark.Rung = 4
indent_behind i (mark.Open c) = i + 4
indent_behind i mark.End = i - 4
indent_behind i (mark.Element l) = i

abbrev pub mark_lines : ℕ → List Mark → List (List ℕ)
mark_lines i [] = []
mark_lines i (m ∷ ms) = mark_line i m ∷ mark_lines (indent_behind i m) ms

node-closed : (c : Circuit) (ns : List Node) (i : ℕ) → node_lines (closed c ns) i ≡ form_lines (circuit_word c) i (map node_lines ns)
node-closed circuit.Series ns i = ap (λ f. f i) (node-Series ns)
node-closed circuit.Parallel ns i = ap (λ f. f i) (node-Parallel ns)

abbrev IsMarked : Node → Type 0
IsMarked n = (i : ℕ) (rest : List Mark) → mark_lines i (spelled_node n ++ rest) ≡ node_lines n i ++ mark_lines i rest

nodes_marked : (ns : List Node) → Each IsMarked ns → (i : ℕ) (rest : List Mark)
    → mark_lines i (spelled_nodes ns ++ rest) ≡ nodes_lines i ns ++ mark_lines i rest
nodes_marked [] h i rest = refl
nodes_marked (n ∷ ns) h i rest =
    ap (mark_lines i) (append_assoc (spelled_node n) (spelled_nodes ns) rest)
    ∙ h.0 i (spelled_nodes ns ++ rest)
    ∙ ap (λ l. node_lines n i ++ l) (nodes_marked ns h.1 i rest)
    ∙ sym (append_assoc (node_lines n i) (nodes_lines i ns) (mark_lines i rest))

form_marked : (c : Circuit) (ns : List Node) → Each IsMarked ns → IsMarked (closed c ns)
form_marked c ns h i rest =
    let back : i + 4 - 4 ≡ i = omega arith in
    ap (λ l. mark_lines i (l ++ rest)) (spelled-closed c ns)
    ∙ ap (λ l. indented i (circuit_word c) ∷ mark_lines (i + 4) l) (append_assoc (spelled_nodes ns) (mark.End ∷ []) rest)
    ∙ ap (λ l. indented i (circuit_word c) ∷ l) (nodes_marked ns h (i + 4) (mark.End ∷ rest))
    ∙ ap (λ k. indented i (circuit_word c) ∷ (nodes_lines (i + 4) ns ++ indented k (codes "END") ∷ mark_lines k rest)) back
    ∙ ap (λ l. indented i (circuit_word c) ∷ l) (sym (append_assoc (nodes_lines (i + 4) ns) (indented i (codes "END") ∷ []) (mark_lines i rest)))
    ∙ sym (ap (λ l. l ++ mark_lines i rest) (node-closed c ns i))

node_marked : (n : Node) → IsMarked n
node_marked = node_ind IsMarked
    (λ l i rest. ap (λ ms. mark_lines i (ms ++ rest)) (spelled-Leaf l) ∙ sym (ap (λ f. f i ++ mark_lines i rest) (node-Leaf l)))
    (λ ns h. form_marked circuit.Series ns h) (λ ns h. form_marked circuit.Parallel ns h)

all_marked : (ns : List Node) → Each IsMarked ns
all_marked [] = tt
all_marked (n ∷ ns) = (node_marked n, all_marked ns)

pub rungs_marked : (gs : List Rung) → mark_lines 0 (spelled gs) ≡ rungs_lines gs
rungs_marked [] = refl
rungs_marked (g ∷ gs) =
    ap (λ l. codes "RUNG" ∷ l) (nodes_marked g.nodes (all_marked g.nodes) 4 (mark.End ∷ spelled gs))
    ∙ ap (λ l. codes "RUNG" ∷ (nodes_lines 4 g.nodes ++ codes "END" ∷ l)) (rungs_marked gs)
    ∙ ap (λ l. codes "RUNG" ∷ l) (sym (append_assoc (nodes_lines 4 g.nodes) (codes "END" ∷ []) (rungs_lines gs)))
