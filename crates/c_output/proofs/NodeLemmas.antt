-- The text of nodes and rungs, one more of them, and how many memories they have.
use Rattle.std.proofs.Common.{◌≡◌, ℕ, ◌+◌, ◌<◌, List, [], ◌∷◌, ◌++◌, length, get_or, drop, map, refl, ap, ◌∙◌, arith, append_assoc}
use Rattle.std.specs.Prelude.{codes}
use Rattle.ladder_tree.specs.Induct.{Each, node_ind}
use Rattle.ladder_tree.specs.Leaves.{leaves, leaves_in, leaves_step, all_leaves}
use Rattle.ladder_tree.specs.Names.{memories_in}
use Rattle.ladder_tree.specs.declared.element.Leaf as leaf
use Rattle.ladder_tree.specs.declared.project.Node.{Node}
use Rattle.ladder_tree.specs.declared.project.Rung.{Rung}
use Rattle.ladder_tree.proofs.FoldLemmas.{fold-Leaf, fold-Series, fold-Parallel}
use Rattle.c_output.specs.Element.{Terms}
use Rattle.c_output.specs.Filled.{numbered}
use Rattle.c_output.specs.Node.{Part, series, branches, part_step, part, series_of, branches_of, rungs_text, memories_of}
use Rattle.c_output.proofs.TextLemmas.{front}

-- pieces behind a text, one by one
two_more : (t a b rest all : List ℕ) → t ++ (a ++ (b ++ rest)) ≡ all → ((t ++ a) ++ b) ++ rest ≡ all
two_more t a b rest all h = append_assoc (t ++ a) b rest ∙ append_assoc t a (b ++ rest) ∙ h

three_more : (t a b c rest all : List ℕ) → t ++ (a ++ (b ++ (c ++ rest))) ≡ all → (((t ++ a) ++ b) ++ c) ++ rest ≡ all
three_more t a b c rest all h = append_assoc ((t ++ a) ++ b) c rest ∙ two_more t a b (c ++ rest) all h

pub series_step : (p : Terms) (ns : List Node) (i : ℕ) (n : Node) (d k : ℕ) (text all : List ℕ) → i < length ns → n ≡ get_or ns i n
    → text ++ (series_of p (drop i ns)).text d k ≡ all
    → (text ++ (part p n).text d k) ++ (series_of p (drop (i + 1) ns)).text d (k + (part p n).memories) ≡ all
series_step p ns i n d k text all lt is h = append_assoc text _ _ ∙ rw (front ns i n lt is) at h

pub series_count : (p : Terms) (ns : List Node) (i : ℕ) (n : Node) (k all : ℕ) → i < length ns → n ≡ get_or ns i n
    → k + (series_of p (drop i ns)).memories ≡ all → k + (part p n).memories + (series_of p (drop (i + 1) ns)).memories ≡ all
series_count p ns i n k all lt is h = let e = rw (front ns i n lt is) at h in omega (arith, e)

-- what stands in front of a branch, and behind it
abbrev pub before : ℕ → List ℕ
before d = numbered (codes "f = i_#;\n") d

abbrev pub behind : ℕ → List ℕ
behind d = numbered (codes "if (f) o_# = 1;\n") d

pub branches_step : (p : Terms) (ns : List Node) (i : ℕ) (n : Node) (d k : ℕ) (text all : List ℕ) → i < length ns → n ≡ get_or ns i n
    → text ++ (branches_of p (drop i ns)).text d k ≡ all
    → (((text ++ before d) ++ (part p n).text (d + 1) k) ++ behind d) ++ (branches_of p (drop (i + 1) ns)).text d (k + (part p n).memories) ≡ all
branches_step p ns i n d k text all lt is h = three_more text (before d) ((part p n).text (d + 1) k) (behind d) _ all (rw (front ns i n lt is) at h)

pub branches_count : (p : Terms) (ns : List Node) (i : ℕ) (n : Node) (k all : ℕ) → i < length ns → n ≡ get_or ns i n
    → k + (branches_of p (drop i ns)).memories ≡ all → k + (part p n).memories + (branches_of p (drop (i + 1) ns)).memories ≡ all
branches_count p ns i n k all lt is h = let e = rw (front ns i n lt is) at h in omega (arith, e)

pub rungs_step : (p : Terms) (gs : List Rung) (i : ℕ) (g : Rung) (k : ℕ) (text all : List ℕ) → i < length gs → g ≡ get_or gs i g
    → text ++ rungs_text p (drop i gs) k ≡ all
    → ((text ++ codes "f = m;\n") ++ (series_of p g.nodes).text 0 k) ++ rungs_text p (drop (i + 1) gs) (k + (series_of p g.nodes).memories) ≡ all
rungs_step p gs i g k text all lt is h = two_more text (codes "f = m;\n") ((series_of p g.nodes).text 0 k) _ all (rw (front gs i g lt is) at h)

pub rungs_count : (p : Terms) (gs : List Rung) (i : ℕ) (g : Rung) (k all : ℕ) → i < length gs → g ≡ get_or gs i g → k + memories_of p (drop i gs) ≡ all
    → k + (series_of p g.nodes).memories + memories_of p (drop (i + 1) gs) ≡ all
rungs_count p gs i g k all lt is h = let e = rw (front gs i g lt is) at h in omega (arith, e)

-- three pieces, one behind the other
pub three : (t u v w a b c : List ℕ) → u ≡ t ++ a → v ≡ u ++ b → w ≡ v ++ c → w ≡ t ++ (a ++ (b ++ c))
three t u v w a b c e f g =
    g ∙ ap (λ x. x ++ c) (f ∙ ap (λ x. x ++ b) e) ∙ append_assoc (t ++ a) b c ∙ append_assoc t a (b ++ c)

-- The memories of parts are those of their elements.

memories_append : (a b : List leaf.Leaf) → memories_in (a ++ b) ≡ memories_in a + memories_in b
memories_append [] b = omega arith
memories_append (l ∷ a) b = let h = memories_append a b in omega (arith, h)

module _ (p : Terms) where
  abbrev Counts : Node → Type 0
  Counts n = (part p n).memories ≡ memories_in (leaves n)

  series_counts : (ns : List Node) → Each Counts ns → (series (map (part p) ns)).memories ≡ memories_in (leaves_in ns)
  series_counts [] h = refl
  series_counts (n ∷ ns) h = let f = h.0 in let k = series_counts ns h.1 in omega (arith, memories_append (leaves n) (leaves_in ns))

  branches_counts : (ns : List Node) → Each Counts ns → (branches (map (part p) ns)).memories ≡ memories_in (leaves_in ns)
  branches_counts [] h = refl
  branches_counts (n ∷ ns) h = let f = h.0 in let k = branches_counts ns h.1 in omega (arith, memories_append (leaves n) (leaves_in ns))

  node_counts : (n : Node) → Counts n
  node_counts = node_ind Counts
      (λ l. rw (fold-Leaf Part (part_step p) l, fold-Leaf (List leaf.Leaf) leaves_step l) (omega arith))
      (λ ns h. rw (fold-Series Part (part_step p) ns, fold-Series (List leaf.Leaf) leaves_step ns) (series_counts ns h))
      (λ ns h. rw (fold-Parallel Part (part_step p) ns, fold-Parallel (List leaf.Leaf) leaves_step ns) (branches_counts ns h))

  each_counts : (ns : List Node) → Each Counts ns
  each_counts [] = tt
  each_counts (n ∷ ns) = (node_counts n, each_counts ns)

  pub rungs_counted : (gs : List Rung) → memories_of p gs ≡ memories_in (all_leaves gs)
  rungs_counted [] = refl
  rungs_counted (g ∷ gs) =
      let f = series_counts g.nodes (each_counts g.nodes) in let k = rungs_counted gs in
      omega (arith, memories_append (leaves_in g.nodes) (all_leaves gs))
