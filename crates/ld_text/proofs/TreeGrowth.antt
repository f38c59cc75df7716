-- How a tree grows by the lines of rungs: its spelling by the line, and its counts by one.
use Rattle.std.proofs.Common.{◌≡◌, ℕ, ◌+◌, ◌<◌, ◌≤◌, List, [], ◌∷◌, ◌++◌, length, map, refl, sym, ap, ◌∙◌, arith, append_assoc, append-nil}
use Rattle.std.proofs.lemmas.List.Sums.{sum_by-cons}
use Rattle.ladder_tree.specs.declared.element.Leaf as leaf
use Rattle.ladder_tree.specs.declared.limits.TheConstants.{DEPTH}
use Rattle.ladder_tree.specs.declared.project.Node.{Node, Leaf}
use Rattle.ladder_tree.specs.declared.project.Rung.{Rung}
use Rattle.ladder_tree.specs.Induct.{Each, node_ind}
use Rattle.ladder_tree.specs.Leaves.{leaves, leaves_in, all_leaves, depth_of, depth_in, depth_of_all}
use Rattle.ld_line.specs.declared.rungs.Circuit.{Circuit}
use Rattle.ld_line.specs.declared.rungs.Circuit.TheVariants as circuit
use Rattle.ld_text.specs.declared.heard.Mark.{Mark}
use Rattle.ld_text.specs.declared.heard.Mark.TheVariants as mark
use Rattle.ld_text.specs.Tree.{Frame, Tree, Closed, Building, closed, ended, grown}
use Rattle.ld_text.specs.Spelling.{spelled, spelled_node, spelled_nodes}
use Rattle.ladder_tree.specs.Forms.{forms_of, forms_in, forms_of_all}
use Rattle.ld_text.proofs.TreeLemmas.{spelled-Leaf, spelled-closed, depth-Leaf, depth-closed, leaves-Leaf, leaves-closed, forms-Leaf, forms-closed}

spelled_nodes-append : (ns ms : List Node) → spelled_nodes (ns ++ ms) ≡ spelled_nodes ns ++ spelled_nodes ms
spelled_nodes-append [] ms = refl
spelled_nodes-append (n ∷ ns) ms =
    ap (λ l. spelled_node n ++ l) (spelled_nodes-append ns ms) ∙ sym (append_assoc (spelled_node n) (spelled_nodes ns) (spelled_nodes ms))

spelled_nodes-one : (ns : List Node) (n : Node) → spelled_nodes (ns ++ n ∷ []) ≡ spelled_nodes ns ++ spelled_node n
spelled_nodes-one ns n = spelled_nodes-append ns (n ∷ []) ∙ ap (λ l. spelled_nodes ns ++ l) (append-nil (spelled_node n))

spelled-one : (gs : List Rung) (g : Rung) → spelled (gs ++ g ∷ []) ≡ spelled gs ++ mark.Rung ∷ (spelled_nodes g.nodes ++ mark.End ∷ [])
spelled-one [] g = refl
spelled-one (h ∷ gs) g =
    ap (λ l. mark.Rung ∷ (spelled_nodes h.nodes ++ mark.End ∷ l)) (spelled-one gs g)
    ∙ ap (λ l. mark.Rung ∷ l) (sym (append_assoc (spelled_nodes h.nodes) (mark.End ∷ spelled gs) (mark.Rung ∷ (spelled_nodes g.nodes ++ mark.End ∷ []))))

-- the lines that led into forms that are open
abbrev into : List Frame → List Node → List Mark
into [] ns = spelled_nodes ns
into (f ∷ fs) ns = into fs f.nodes ++ mark.Open f.circuit ∷ spelled_nodes ns

-- the lines that led to a tree
abbrev pub so_far : Tree → List Mark
so_far (Closed gs) = spelled gs
so_far (Building gs fs ns) = spelled gs ++ mark.Rung ∷ into fs ns

into-one : (fs : List Frame) (ns : List Node) (n : Node) → into fs (ns ++ n ∷ []) ≡ into fs ns ++ spelled_node n
into-one [] ns n = spelled_nodes-one ns n
into-one (f ∷ fs) ns n =
    ap (λ l. into fs f.nodes ++ mark.Open f.circuit ∷ l) (spelled_nodes-one ns n)
    ∙ sym (append_assoc (into fs f.nodes) (mark.Open f.circuit ∷ spelled_nodes ns) (spelled_node n))

inside-more : (gs : List Rung) (xs ys : List Mark) → spelled gs ++ mark.Rung ∷ (xs ++ ys) ≡ (spelled gs ++ mark.Rung ∷ xs) ++ ys
inside-more gs xs ys = sym (append_assoc (spelled gs) (mark.Rung ∷ xs) ys)

so_far-ended : (gs : List Rung) (fs : List Frame) (ns : List Node) → so_far (ended gs fs ns) ≡ so_far (Building gs fs ns) ++ mark.End ∷ []
so_far-ended gs [] ns = spelled-one gs (record { nodes = ns }) ∙ inside-more gs (spelled_nodes ns) (mark.End ∷ [])
so_far-ended gs (f ∷ fs) ns =
    ap (λ l. spelled gs ++ mark.Rung ∷ l)
    (into-one fs f.nodes (closed f.circuit ns) ∙ ap (λ l. into fs f.nodes ++ l) (spelled-closed f.circuit ns) ∙ sym
    (append_assoc (into fs f.nodes) (mark.Open f.circuit ∷ spelled_nodes ns) (mark.End ∷ [])))
    ∙ inside-more gs (into fs f.nodes ++ mark.Open f.circuit ∷ spelled_nodes ns) (mark.End ∷ [])

-- the line fits: a rung where none is open, and any other line in one
abbrev pub Suits : Tree → Mark → Type 0
Suits (Closed gs) mark.Rung = Unit {0}
Suits (Closed gs) (mark.Open c) = ⊥
Suits (Closed gs) mark.End = ⊥
Suits (Closed gs) (mark.Element l) = ⊥
Suits (Building gs fs ns) mark.Rung = ⊥
Suits (Building gs fs ns) (mark.Open c) = Unit {0}
Suits (Building gs fs ns) mark.End = Unit {0}
Suits (Building gs fs ns) (mark.Element l) = Unit {0}

pub so_far-grown : (t : Tree) (m : Mark) → Suits t m → so_far (grown t m) ≡ so_far t ++ m ∷ []
so_far-grown (Closed gs) mark.Rung s = refl
so_far-grown (Closed gs) (mark.Open c) s = absurd s
so_far-grown (Closed gs) mark.End s = absurd s
so_far-grown (Closed gs) (mark.Element l) s = absurd s
so_far-grown (Building gs fs ns) mark.Rung s = absurd s
so_far-grown (Building gs fs ns) (mark.Open c) s = inside-more gs (into fs ns) (mark.Open c ∷ [])
so_far-grown (Building gs fs ns) mark.End s = so_far-ended gs fs ns
so_far-grown (Building gs fs ns) (mark.Element l) s =
    ap (λ x. spelled gs ++ mark.Rung ∷ x) (into-one fs ns (Leaf l) ∙ ap (λ x. into fs ns ++ x) (spelled-Leaf l))
    ∙ inside-more gs (into fs ns) (mark.Element l ∷ [])

-- how deep forms stand in one another

depth_in-one : (ns : List Node) (n : Node) (k : ℕ) → depth_in ns + k ≤ DEPTH → depth_of n + k ≤ DEPTH → depth_in (ns ++ n ∷ []) + k ≤ DEPTH
depth_in-one [] n k h g = omega arith
depth_in-one (x ∷ ns) n k h g = let more : depth_in ns + k ≤ DEPTH = omega arith in omega (arith, depth_in-one ns n k more g)

depth_of_all-one : (gs : List Rung) (g : Rung) → depth_of_all gs ≤ DEPTH → depth_in g.nodes ≤ DEPTH → depth_of_all (gs ++ g ∷ []) ≤ DEPTH
depth_of_all-one [] g h d = omega arith
depth_of_all-one (x ∷ gs) g h d = let more : depth_of_all gs ≤ DEPTH = omega arith in omega (arith, depth_of_all-one gs g more d)

abbrev AllShallow : List Frame → List Node → Type 0
AllShallow [] ns = depth_in ns ≤ DEPTH
AllShallow (f ∷ fs) ns = (depth_in ns + length (f ∷ fs) ≤ DEPTH) × AllShallow fs f.nodes

abbrev pub IsShallow : Tree → Type 0
IsShallow (Closed gs) = depth_of_all gs ≤ DEPTH
IsShallow (Building gs fs ns) = (depth_of_all gs ≤ DEPTH) × AllShallow fs ns

shallow_room : (fs : List Frame) (ns : List Node) → AllShallow fs ns → depth_in ns + length fs ≤ DEPTH
shallow_room [] ns h = omega arith
shallow_room (f ∷ fs) ns h = h.0

shallow_one : (fs : List Frame) (ns : List Node) (n : Node) → depth_of n + length fs ≤ DEPTH → AllShallow fs ns → AllShallow fs (ns ++ n ∷ [])
shallow_one [] ns n d h = let e = depth_in-one ns n 0 (omega arith) (omega arith) in omega (arith, e)
shallow_one (f ∷ fs) ns n d h = (depth_in-one ns n (length (f ∷ fs)) h.0 d, h.1)

shallow_ended : (gs : List Rung) (fs : List Frame) (ns : List Node) → depth_of_all gs ≤ DEPTH → AllShallow fs ns → IsShallow (ended gs fs ns)
shallow_ended gs [] ns g h = depth_of_all-one gs (record { nodes = ns }) g h
shallow_ended gs (f ∷ fs) ns g h = (g, shallow_one fs f.nodes (closed f.circuit ns) (omega (arith, depth-closed f.circuit ns, h.0)) h.1)

-- how many forms are open
abbrev pub depth_at : Tree → ℕ
depth_at (Closed gs) = 0
depth_at (Building gs fs ns) = length fs

-- there is room for one form more, where the line opens one
abbrev pub MayOpen : Tree → Mark → Type 0
MayOpen t (mark.Open c) = depth_at t < DEPTH
MayOpen t mark.Rung = Unit {0}
MayOpen t mark.End = Unit {0}
MayOpen t (mark.Element l) = Unit {0}

pub shallow_grown : (t : Tree) (m : Mark) → IsShallow t → MayOpen t m → IsShallow (grown t m)
shallow_grown (Closed gs) mark.Rung s h = (s, omega arith)
shallow_grown (Closed gs) (mark.Open c) s h = s
shallow_grown (Closed gs) mark.End s h = s
shallow_grown (Closed gs) (mark.Element l) s h = s
shallow_grown (Building gs fs ns) mark.Rung s h = s
shallow_grown (Building gs fs ns) (mark.Open c) s h = (s.0, (omega arith, s.1))
shallow_grown (Building gs fs ns) mark.End s h = shallow_ended gs fs ns s.0 s.1
shallow_grown (Building gs fs ns) (mark.Element l) s h = (s.0, shallow_one fs ns (Leaf l) (omega (arith, depth-Leaf l, shallow_room fs ns s.1)) s.1)

-- counts of lines

abbrev pub leaves_of : List Mark → List leaf.Leaf
leaves_of [] = []
leaves_of (mark.Element l ∷ ms) = l ∷ leaves_of ms
leaves_of (mark.Rung ∷ ms) = leaves_of ms
leaves_of (mark.Open c ∷ ms) = leaves_of ms
leaves_of (mark.End ∷ ms) = leaves_of ms

abbrev pub opens : List Mark → ℕ
opens [] = 0
opens (mark.Open c ∷ ms) = 1 + opens ms
opens (mark.Element l ∷ ms) = opens ms
opens (mark.Rung ∷ ms) = opens ms
opens (mark.End ∷ ms) = opens ms

abbrev pub begins : List Mark → ℕ
begins [] = 0
begins (mark.Rung ∷ ms) = 1 + begins ms
begins (mark.Open c ∷ ms) = begins ms
begins (mark.Element l ∷ ms) = begins ms
begins (mark.End ∷ ms) = begins ms

pub leaves_of-append : (xs ys : List Mark) → leaves_of (xs ++ ys) ≡ leaves_of xs ++ leaves_of ys
leaves_of-append [] ys = refl
leaves_of-append (mark.Element l ∷ xs) ys = ap (λ x. l ∷ x) (leaves_of-append xs ys)
leaves_of-append (mark.Rung ∷ xs) ys = leaves_of-append xs ys
leaves_of-append (mark.Open c ∷ xs) ys = leaves_of-append xs ys
leaves_of-append (mark.End ∷ xs) ys = leaves_of-append xs ys

pub opens-append : (xs ys : List Mark) → opens (xs ++ ys) ≡ opens xs + opens ys
opens-append [] ys = omega arith
opens-append (mark.Open c ∷ xs) ys = omega (arith, opens-append xs ys)
opens-append (mark.Element l ∷ xs) ys = opens-append xs ys
opens-append (mark.Rung ∷ xs) ys = opens-append xs ys
opens-append (mark.End ∷ xs) ys = opens-append xs ys

pub begins-append : (xs ys : List Mark) → begins (xs ++ ys) ≡ begins xs + begins ys
begins-append [] ys = omega arith
begins-append (mark.Rung ∷ xs) ys = omega (arith, begins-append xs ys)
begins-append (mark.Element l ∷ xs) ys = begins-append xs ys
begins-append (mark.Open c ∷ xs) ys = begins-append xs ys
begins-append (mark.End ∷ xs) ys = begins-append xs ys

-- what a node's lines count
pub record Counted (n : Node) : Type 0 where
  pub elements : leaves_of (spelled_node n) ≡ leaves n
  pub opens : opens (spelled_node n) ≡ forms_of n
  pub begins : begins (spelled_node n) ≡ 0

pub record CountedIn (ns : List Node) : Type 0 where
  pub elements : leaves_of (spelled_nodes ns) ≡ leaves_in ns
  pub opens : opens (spelled_nodes ns) ≡ forms_in ns
  pub begins : begins (spelled_nodes ns) ≡ 0

each_counted : (ns : List Node) → Each Counted ns → CountedIn ns
each_counted [] h = record { elements = refl; opens = refl; begins = refl }
each_counted (n ∷ ns) h =
    let r = each_counted ns h.1 in
    record {
      elements =
          leaves_of-append (spelled_node n) (spelled_nodes ns) ∙ ap (λ x. x ++ leaves_of (spelled_nodes ns)) h.0.elements ∙ ap (λ x. leaves n ++ x) r.elements;
      opens =
          opens-append (spelled_node n) (spelled_nodes ns)
          ∙ ap (λ k. k + opens (spelled_nodes ns)) h.0.opens
          ∙ ap (λ k. forms_of n + k) r.opens
          ∙ sym (sum_by-cons (λ x. x) (forms_of n) (map forms_of ns));
      begins = omega (arith, begins-append (spelled_node n) (spelled_nodes ns), h.0.begins, r.begins);
    }

form_counted : (c : Circuit) (ns : List Node) → Each Counted ns → Counted (closed c ns)
form_counted c ns h =
    let r = each_counted ns h in
    record {
      elements =
          ap leaves_of (spelled-closed c ns)
          ∙ leaves_of-append (spelled_nodes ns) (mark.End ∷ [])
          ∙ append-nil (leaves_of (spelled_nodes ns))
          ∙ r.elements
          ∙ sym (leaves-closed c ns);
      opens = ap opens (spelled-closed c ns) ∙ omega (arith, opens-append (spelled_nodes ns) (mark.End ∷ []), r.opens, forms-closed c ns);
      begins = ap begins (spelled-closed c ns) ∙ omega (arith, begins-append (spelled_nodes ns) (mark.End ∷ []), r.begins);
    }

leaf_counted : (l : leaf.Leaf) → Counted (Leaf l)
leaf_counted l = record {
  elements = ap leaves_of (spelled-Leaf l) ∙ sym (leaves-Leaf l);
  opens = ap opens (spelled-Leaf l) ∙ sym (forms-Leaf l);
  begins = ap begins (spelled-Leaf l);
}

node_counted : (n : Node) → Counted n
node_counted = node_ind Counted leaf_counted (λ ns h. form_counted circuit.Series ns h) (λ ns h. form_counted circuit.Parallel ns h)

all_counted : (ns : List Node) → Each Counted ns
all_counted [] = tt
all_counted (n ∷ ns) = (node_counted n, all_counted ns)

-- what the lines of rungs count
pub record CountedAll (gs : List Rung) : Type 0 where
  pub elements : leaves_of (spelled gs) ≡ all_leaves gs
  pub opens : opens (spelled gs) ≡ forms_of_all gs
  pub begins : begins (spelled gs) ≡ length gs

pub rungs_counted : (gs : List Rung) → CountedAll gs
rungs_counted [] = record { elements = refl; opens = refl; begins = refl }
rungs_counted (g ∷ gs) =
    let h = each_counted g.nodes (all_counted g.nodes) in
    let r = rungs_counted gs in
    record {
      elements =
          leaves_of-append (spelled_nodes g.nodes) (mark.End ∷ spelled gs)
          ∙ ap (λ x. x ++ leaves_of (spelled gs)) h.elements
          ∙ ap (λ x. leaves_in g.nodes ++ x) r.elements;
      opens = omega (arith, opens-append (spelled_nodes g.nodes) (mark.End ∷ spelled gs), h.opens, r.opens);
      begins = omega (arith, begins-append (spelled_nodes g.nodes) (mark.End ∷ spelled gs), h.begins, r.begins);
    }
