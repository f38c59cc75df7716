-- The lines of rungs with other numbers, and the tree that they spell.
use Rattle.std.proofs.Common.{◌≡◌, ℕ, ◌+◌, List, [], ◌∷◌, ◌++◌, length, map, refl, sym, ap, ◌∙◌, arith}
use Rattle.ladder_tree.specs.declared.element.Leaf as leaf
use Rattle.ladder_tree.specs.declared.project.Node.{Node, Leaf}
use Rattle.ladder_tree.specs.declared.project.Node.TheOpen.{Node-F}
use Rattle.ladder_tree.specs.declared.project.Node.TheFolds.{fold-roll-Node}
use Rattle.ladder_tree.specs.declared.project.Node.TheVariants.{rolls-Leaf, rolls-Series, rolls-Parallel}
use Rattle.ladder_tree.specs.declared.project.Rung.{Rung}
use Rattle.ladder_tree.specs.Induct.{Each, node_ind}
use Rattle.ld_line.specs.declared.rungs.Circuit.{Circuit}
use Rattle.ld_line.specs.declared.rungs.Circuit.TheVariants as circuit
use Rattle.ld_text.specs.declared.heard.Mark.{Mark}
use Rattle.ld_text.specs.declared.heard.Mark.TheVariants as mark
use Rattle.ld_text.specs.Tree.{closed}
use Rattle.ld_text.specs.Spelling.{spelled, spelled_node, spelled_nodes}
use Rattle.ld_text.proofs.TreeLemmas.{spelled-Leaf, spelled-closed}
use Rattle.ld_print.specs.SameButLines.{unlined, unlined_step, unlined_rung}

abbrev pub with_line : ℕ → Mark → Mark
with_line n mark.Rung = mark.Rung
with_line n (mark.Open c) = mark.Open c
with_line n mark.End = mark.End
with_line n (mark.Element l) = mark.Element (record { line = n; kind = l.kind })

abbrev pub numbered : ℕ → List Mark → List Mark
numbered n [] = []
numbered n (m ∷ ms) = with_line n m ∷ numbered (n + 1) ms

numbered-append : (n : ℕ) (xs ys : List Mark) → numbered n (xs ++ ys) ≡ numbered n xs ++ numbered (n + length xs) ys
numbered-append n [] ys = let same : n ≡ n + 0 = omega arith in ap (λ k. numbered k ys) same
numbered-append n (x ∷ xs) ys =
    let same : n + 1 + length xs ≡ n + length (x ∷ xs) = omega arith in
    ap (λ l. with_line n x ∷ l) (numbered-append (n + 1) xs ys ∙ ap (λ k. numbered (n + 1) xs ++ numbered k ys) same)

-- a node whose lines have the numbers from n on
record Renumbered (n : ℕ) (x : Node) : Type 0 where
  node : Node
  spelled : spelled_node node ≡ numbered n (spelled_node x)
  same : unlined node ≡ unlined x

record RenumberedIn (n : ℕ) (xs : List Node) : Type 0 where
  nodes : List Node
  spelled : spelled_nodes nodes ≡ numbered n (spelled_nodes xs)
  same : map unlined nodes ≡ map unlined xs

abbrev Renumbers : Node → Type 0
Renumbers x = (n : ℕ) → Renumbered n x

unlined-Leaf : (l : leaf.Leaf) → unlined (Leaf l) ≡ Leaf (record l { line = 0 })
unlined-Leaf l = ap unlined (sym (rolls-Leaf l)) ∙ fold-roll-Node Node unlined_step (Node-F.Leaf l)

unlined-closed : (c : Circuit) (ns : List Node) → unlined (closed c ns) ≡ closed c (map unlined ns)
unlined-closed circuit.Series ns = ap unlined (sym (rolls-Series ns)) ∙ fold-roll-Node Node unlined_step (Node-F.Series ns)
unlined-closed circuit.Parallel ns = ap unlined (sym (rolls-Parallel ns)) ∙ fold-roll-Node Node unlined_step (Node-F.Parallel ns)

nodes_renumbered : (xs : List Node) → Each Renumbers xs → (n : ℕ) → RenumberedIn n xs
nodes_renumbered [] h n = record { nodes = []; spelled = refl; same = refl }
nodes_renumbered (x ∷ xs) h n =
    let a = h.0 n in
    let b = nodes_renumbered xs h.1 (n + length (spelled_node x)) in
    record {
      nodes = a.node ∷ b.nodes;
      spelled =
          ap (λ l. l ++ spelled_nodes b.nodes) a.spelled ∙ ap (λ l. numbered n (spelled_node x) ++ l) b.spelled ∙ sym
          (numbered-append n (spelled_node x) (spelled_nodes xs));
      same = ap (λ y. y ∷ map unlined b.nodes) a.same ∙ ap (λ ys. unlined x ∷ ys) b.same;
    }

-- a form's lines, of which the first has the number
form_numbered : (n : ℕ) (xs : List Mark) → numbered (n + 1) (xs ++ mark.End ∷ []) ≡ numbered (n + 1) xs ++ mark.End ∷ []
form_numbered n xs = numbered-append (n + 1) xs (mark.End ∷ [])

form_renumbered : (c : Circuit) (xs : List Node) → Each Renumbers xs → Renumbers (closed c xs)
form_renumbered c xs h n =
    let b = nodes_renumbered xs h (n + 1) in
    record {
      node = closed c b.nodes;
      spelled =
          spelled-closed c b.nodes ∙ ap (λ l. mark.Open c ∷ (l ++ mark.End ∷ [])) b.spelled ∙ ap (λ l. mark.Open c ∷ l)
          (sym (form_numbered n (spelled_nodes xs))) ∙ sym (ap (numbered n) (spelled-closed c xs));
      same = unlined-closed c b.nodes ∙ ap (closed c) b.same ∙ sym (unlined-closed c xs);
    }

leaf_renumbered : (l : leaf.Leaf) → Renumbers (Leaf l)
leaf_renumbered l n = record {
  node = Leaf (record { line = n; kind = l.kind });
  spelled = spelled-Leaf (record { line = n; kind = l.kind }) ∙ sym (ap (numbered n) (spelled-Leaf l));
  same = unlined-Leaf (record { line = n; kind = l.kind }) ∙ sym (unlined-Leaf l);
}

renumbered : (x : Node) → Renumbers x
renumbered = node_ind Renumbers leaf_renumbered (λ xs h. form_renumbered circuit.Series xs h) (λ xs h. form_renumbered circuit.Parallel xs h)

each_renumbered : (xs : List Node) → Each Renumbers xs
each_renumbered [] = tt
each_renumbered (x ∷ xs) = (renumbered x, each_renumbered xs)

pub record RenumberedAll (n : ℕ) (gs : List Rung) : Type 0 where
  pub rungs : List Rung
  pub spelled : spelled rungs ≡ numbered n (spelled gs)
  pub same : map unlined_rung rungs ≡ map unlined_rung gs

pub rungs_renumbered : (gs : List Rung) (n : ℕ) → RenumberedAll n gs
rungs_renumbered [] n = record { rungs = []; spelled = refl; same = refl }
rungs_renumbered (g ∷ gs) n =
    let a = nodes_renumbered g.nodes (each_renumbered g.nodes) (n + 1) in
    let b = rungs_renumbered gs (n + 1 + length (spelled_nodes g.nodes) + 1) in
    record {
      rungs = record { nodes = a.nodes } ∷ b.rungs;
      spelled =
          ap (λ l. mark.Rung ∷ (l ++ mark.End ∷ spelled b.rungs)) a.spelled
          ∙ ap (λ l. mark.Rung ∷ (numbered (n + 1) (spelled_nodes g.nodes) ++ mark.End ∷ l)) b.spelled
          ∙ ap (λ l. mark.Rung ∷ l) (sym (numbered-append (n + 1) (spelled_nodes g.nodes) (mark.End ∷ spelled gs)));
      same = ap (λ ns. record { nodes = ns } ∷ map unlined_rung b.rungs) a.same ∙ ap (λ hs. unlined_rung g ∷ hs) b.same;
    }
