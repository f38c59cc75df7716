-- The one induction over rungs and nodes: what each part and its operations have in common, the whole and all of them have.
use Rattle.std.proofs.Common.{◌≡◌, ℕ, ◌+◌, ◌<◌, ◌≤◌, Bool, true, false, cond, List, [], ◌∷◌, ◌++◌, map, refl, ap, subst, arith, append_assoc, append-nil}
use Rattle.std.proofs.lemmas.List.Concat.{flat_map-cons}
use Rattle.std.specs.List.{flat_map}
use Rattle.ladder_tree.specs.Induct.{Each, node_ind}
use Rattle.ladder_tree.specs.Leaves.{leaves, leaves_in, leaves_step, all_leaves}
use Rattle.ladder_tree.specs.Names.{memories}
use Rattle.ladder_tree.specs.declared.element.Leaf as leaf
use Rattle.ladder_tree.specs.declared.project.Node.{Node}
use Rattle.ladder_tree.specs.declared.project.Rung as rung
use Rattle.int_code.specs.Lowered.{Part, Base, Rung, Parallel, Branch, Element, branches, parts, parts_step, parts_in, parts_of_rungs, all_parts}
use Rattle.int_code.specs.declared.op.BitDest.TheVariants as dest
use Rattle.int_code.specs.declared.op.BitSource.TheVariants as source
use Rattle.int_code.specs.declared.op.IntOp.TheVariants.{Set, Clr, Cpy, Ifs, Fi}
use Rattle.int_code.specs.declared.op.IntOp.{IntOp}
use Rattle.ladder_lower.specs.ElementCode.{element_code}
use Rattle.ladder_lower.specs.Nesting.{nesting, nesting_in, nesting_step, nesting_of_branches, nesting_of_all}
use Rattle.ladder_lower.specs.NodeCode.{Piece, join, others_code, parallel_code, piece, piece_step, nodes_piece, rung_start_by, rungs_code, start_by}
use Rattle.ladder_lower.specs.NodeCode.{program_code, memories_of}
use Rattle.ladder_lower.specs.Wires.{power, masters, in_wire, or_wire, wire, wires}
use Rattle.ladder_lower.specs.declared.layout.Layout.{Layout}
use Rattle.ladder_tree.proofs.FoldLemmas.{fold-Leaf, fold-Series, fold-Parallel}
use Rattle.ladder_lower.proofs.LeafLemmas.{Apt, IsApt, apt_first, apt_front, apt_back}

-- what is known of rungs that are lowered: their memories are counted, and operations can hold their elements
pub record Ready (p : Layout) (gs : List rung.Rung) : Type 0 where
  pub room : memories_of p gs ≤ p.memories
  pub apt : Apt p (all_leaves gs)

-- A fact of parts and their operations that two have together, and that the operations of each part but elements have. They
-- work on wires of PARALLELs within a depth.
pub record IsJoined (p : Layout) (deep : ℕ) (Holds : List Part → List IntOp → Type 0) : Type 0 where
  pub none : Holds [] []
  pub both : (xs ys : List Part) (a b : List IntOp) → Holds xs a → Holds ys b → Holds (xs ++ ys) (a ++ b)
  pub base : (b : Bool) → p.has_master ≡ b → Holds (Base ∷ []) (start_by b p)
  pub rung : (b : Bool) → p.has_master ≡ b → Holds (Rung ∷ []) (rung_start_by b p ∷ [])
  -- a PARALLEL of no branch, of one, and of more
  pub empty : Holds (Parallel ∷ []) (Clr (dest.B (power p)) ∷ [])
  pub only : Holds (Parallel ∷ []) []
  pub fork : (d : ℕ) → d + 1 ≤ deep → Holds (Parallel ∷ []) (Cpy (dest.B (in_wire p d)) (source.B (power p)) ∷ [])
  -- behind a branch: one that is alone, the first, one between others, and the last
  pub alone : Holds (Branch ∷ []) []
  pub first : (d : ℕ) → d + 1 ≤ deep
      → Holds (Branch ∷ []) (Cpy (dest.B (or_wire p d)) (source.B (power p)) ∷ Cpy (dest.B (power p)) (source.B (in_wire p d)) ∷ [])
  pub between : (d : ℕ) → d + 1 ≤ deep → Holds (Branch ∷ []) (join false p d ++ Cpy (dest.B (power p)) (source.B (in_wire p d)) ∷ [])
  pub last : (d : ℕ) → d + 1 ≤ deep → Holds (Branch ∷ []) (join true p d)

pub joined-cons : {A : Type 0} (x : List A) (xs : List (List A)) → flat_map (λ y. y) (x ∷ xs) ≡ x ++ flat_map (λ y. y) xs
joined-cons x xs = flat_map-cons (λ y. y) x xs

module _ (p : Layout) (deep : ℕ) (Holds : List Part → List IntOp → Type 0) (f : IsJoined p deep Holds)
    (element : (l : leaf.Leaf) (k : ℕ) → IsApt p l.kind → k + memories l.kind ≤ p.memories → Holds (Element l ∷ []) (element_code p l.kind k)) where
  abbrev NodeHolds : Node → Type 0
  NodeHolds n = (d k : ℕ) → d + nesting n ≤ deep → k + (piece p n).memories ≤ p.memories → Apt p (leaves n) → Holds (parts n) ((piece p n).code d k)

  series_hold : (ns : List Node) → Each NodeHolds ns → (d k : ℕ) → d + nesting_in ns ≤ deep → k + (nodes_piece p ns).memories ≤ p.memories
      → Apt p (leaves_in ns) → Holds (parts_in ns) ((nodes_piece p ns).code d k)
  series_hold [] h d k le lt apt = f.none
  series_hold (n ∷ ns) h d k le lt apt =
      rw (joined-cons (parts n) (map parts ns))
      (f.both (parts n) (parts_in ns) _ _ (h.0 d k (omega arith) (omega arith) (apt_front p (leaves n) (leaves_in ns) apt))
      (series_hold ns h.1 d (k + (piece p n).memories) (omega arith) (omega arith) (apt_back p (leaves n) (leaves_in ns) apt)))

  abbrev turn : ℕ → IntOp
  turn d = Cpy (dest.B (power p)) (source.B (in_wire p d))

  -- the branches behind the first, and what joins the branch before them to the others
  others_hold : (n : Node) (ns : List Node) → NodeHolds n → Each NodeHolds ns → (before : List IntOp) (d k : ℕ) → Holds (Branch ∷ []) (before ++ turn d ∷ [])
      → d + (nesting_in (n ∷ ns) + 1) ≤ deep → k + (others_code p (map (piece p) (n ∷ ns))).memories ≤ p.memories → Apt p (leaves_in (n ∷ ns))
      → Holds (Branch ∷ branches (map parts (n ∷ ns))) (before ++ (others_code p (map (piece p) (n ∷ ns))).code d k)
  others_hold n [] h hs before d k one le lt apt =
      let a = (piece p n).code (d + 1) k in
      subst (λ (ops : List IntOp). Holds (Branch ∷ (parts n ++ Branch ∷ [])) ops) (append_assoc before (turn d ∷ []) (a ++ join true p d))
      (f.both (Branch ∷ []) (parts n ++ Branch ∷ []) (before ++ turn d ∷ []) (a ++ join true p d) one
      (f.both (parts n) (Branch ∷ []) a (join true p d) (h (d + 1) k (omega arith) (omega arith) (apt_front p (leaves n) [] apt)) (f.last d (omega arith))))
  others_hold n (o ∷ ns) h hs before d k one le lt apt =
      let a = (piece p n).code (d + 1) k in
      let rest = (others_code p (map (piece p) (o ∷ ns))).code d (k + (piece p n).memories) in
      let more = others_hold o ns hs.0 hs.1 (join false p d) d (k + (piece p n).memories) (f.between d (omega arith)) (omega arith) (omega arith)
      (apt_back p (leaves n) (leaves_in (o ∷ ns)) apt) in
      subst (λ (ops : List IntOp). Holds (Branch ∷ (parts n ++ Branch ∷ branches (map parts (o ∷ ns)))) ops)
      (append_assoc before (turn d ∷ []) (a ++ (join false p d ++ rest)))
      (f.both (Branch ∷ []) (parts n ++ Branch ∷ branches (map parts (o ∷ ns))) (before ++ turn d ∷ []) (a ++ (join false p d ++ rest)) one
      (f.both (parts n) (Branch ∷ branches (map parts (o ∷ ns))) a (join false p d ++ rest)
      (h (d + 1) k (omega arith) (omega arith) (apt_front p (leaves n) (leaves_in (o ∷ ns)) apt)) more))

  parallel_holds : (ns : List Node) → Each NodeHolds ns → (d k : ℕ) → d + nesting_of_branches (map nesting ns) ≤ deep
      → k + (parallel_code p (map (piece p) ns)).memories ≤ p.memories → Apt p (leaves_in ns)
      → Holds (Parallel ∷ branches (map parts ns)) ((parallel_code p (map (piece p) ns)).code d k)
  parallel_holds [] h d k le lt apt = f.empty
  parallel_holds (n ∷ []) h d k le lt apt =
      let a = (piece p n).code d k in
      subst (λ (ops : List IntOp). Holds (Parallel ∷ (parts n ++ Branch ∷ [])) ops) (append-nil a)
      (f.both (Parallel ∷ []) (parts n ++ Branch ∷ []) [] (a ++ []) f.only
      (f.both (parts n) (Branch ∷ []) a [] (h.0 d k le lt (apt_front p (leaves n) [] apt)) f.alone))
  parallel_holds (n ∷ o ∷ ns) h d k le lt apt =
      let a = (piece p n).code (d + 1) k in
      let kept = Cpy (dest.B (or_wire p d)) (source.B (power p)) in
      let more = others_hold o ns h.1.0 h.1.1 (kept ∷ []) d (k + (piece p n).memories) (f.first d (omega arith)) (omega arith) (omega arith)
      (apt_back p (leaves n) (leaves_in (o ∷ ns)) apt) in
      f.both (Parallel ∷ []) (branches (map parts (n ∷ o ∷ ns))) (Cpy (dest.B (in_wire p d)) (source.B (power p)) ∷ []) _ (f.fork d (omega arith))
      (f.both (parts n) (Branch ∷ branches (map parts (o ∷ ns))) a _
      (h.0 (d + 1) k (omega arith) (omega arith) (apt_front p (leaves n) (leaves_in (o ∷ ns)) apt)) more)

  node_holds : (n : Node) → NodeHolds n
  node_holds = node_ind NodeHolds
      (λ l. rw (fold-Leaf Piece (piece_step p) l, fold-Leaf ℕ nesting_step l, fold-Leaf (List leaf.Leaf) leaves_step l, fold-Leaf (List Part) parts_step l)
      (λ d k le lt apt. element l k (apt_first p l [] apt) lt))
      (λ ns h. rw (
        fold-Series Piece (piece_step p) ns,
        fold-Series ℕ nesting_step ns,
        fold-Series (List leaf.Leaf) leaves_step ns,
        fold-Series (List Part) parts_step ns,
      ) (series_hold ns h))
      (λ ns h. rw (
        fold-Parallel Piece (piece_step p) ns,
        fold-Parallel ℕ nesting_step ns,
        fold-Parallel (List leaf.Leaf) leaves_step ns,
        fold-Parallel (List Part) parts_step ns,
      ) (parallel_holds ns h))

  each_holds : (ns : List Node) → Each NodeHolds ns
  each_holds [] = tt
  each_holds (n ∷ ns) = (node_holds n, each_holds ns)

  rungs_hold : (gs : List rung.Rung) (k : ℕ) → nesting_of_all gs ≤ deep → k + memories_of p gs ≤ p.memories → Apt p (all_leaves gs)
      → Holds (parts_of_rungs gs) (rungs_code p gs k)
  rungs_hold [] k le lt apt = f.none
  rungs_hold (g ∷ gs) k le lt apt =
      let nodes = series_hold g.nodes (each_holds g.nodes) 0 k (omega arith) (omega arith) (apt_front p (leaves_in g.nodes) (all_leaves gs) apt) in
      let rest = rungs_hold gs (k + (nodes_piece p g.nodes).memories) (omega arith) (omega arith) (apt_back p (leaves_in g.nodes) (all_leaves gs) apt) in
      f.both (Rung ∷ []) (parts_in g.nodes ++ parts_of_rungs gs) _ _ (f.rung p.has_master refl) (f.both (parts_in g.nodes) (parts_of_rungs gs) _ _ nodes rest)

  pub parts_hold : (gs : List rung.Rung) → nesting_of_all gs ≤ deep → Ready p gs → Holds (all_parts gs) (program_code p gs)
  parts_hold gs le ready =
      f.both (Base ∷ []) (parts_of_rungs gs) _ _ (f.base p.has_master refl) (rungs_hold gs 0 le (let room = ready.room in omega arith) ready.apt)

-- the elements among parts
abbrev pub elements : List Part → List leaf.Leaf
elements [] = []
elements (Base ∷ xs) = elements xs
elements (Rung ∷ xs) = elements xs
elements (Parallel ∷ xs) = elements xs
elements (Branch ∷ xs) = elements xs
elements (Element l ∷ xs) = l ∷ elements xs

elements_append : (xs ys : List Part) → elements (xs ++ ys) ≡ elements xs ++ elements ys
elements_append [] ys = refl
elements_append (Base ∷ xs) ys = elements_append xs ys
elements_append (Rung ∷ xs) ys = elements_append xs ys
elements_append (Parallel ∷ xs) ys = elements_append xs ys
elements_append (Branch ∷ xs) ys = elements_append xs ys
elements_append (Element l ∷ xs) ys = ap (λ ls. l ∷ ls) (elements_append xs ys)

abbrev Same : Node → Type 0
Same n = elements (parts n) ≡ leaves n

series_same : (ns : List Node) → Each Same ns → elements (parts_in ns) ≡ leaves_in ns
series_same [] h = refl
series_same (n ∷ ns) h = rw (joined-cons (parts n) (map parts ns), elements_append (parts n) (parts_in ns), h.0, series_same ns h.1) refl

branches_same : (ns : List Node) → Each Same ns → elements (branches (map parts ns)) ≡ leaves_in ns
branches_same [] h = refl
branches_same (n ∷ ns) h = rw (elements_append (parts n) (Branch ∷ branches (map parts ns)), h.0, branches_same ns h.1) refl

node_same : (n : Node) → Same n
node_same = node_ind Same
    (λ l. rw (fold-Leaf (List Part) parts_step l, fold-Leaf (List leaf.Leaf) leaves_step l) refl)
    (λ ns h. rw (fold-Series (List Part) parts_step ns, fold-Series (List leaf.Leaf) leaves_step ns) (series_same ns h))
    (λ ns h. rw (fold-Parallel (List Part) parts_step ns, fold-Parallel (List leaf.Leaf) leaves_step ns) (branches_same ns h))

each_same : (ns : List Node) → Each Same ns
each_same [] = tt
each_same (n ∷ ns) = (node_same n, each_same ns)

pub elements_are : (gs : List rung.Rung) → elements (all_parts gs) ≡ all_leaves gs
elements_are [] = refl
elements_are (g ∷ gs) = rw (elements_append (parts_in g.nodes) (parts_of_rungs gs), series_same g.nodes (each_same g.nodes), elements_are gs) refl

-- A fact of elements and their operations that two parts have together, and that operations between elements have of none.
-- These work on wires.
pub record IsShared (p : Layout) (deep : ℕ) (Holds : List leaf.Leaf → List IntOp → Type 0) : Type 0 where
  pub none : Holds [] []
  pub both : (ls ms : List leaf.Leaf) (a b : List IntOp) → Holds ls a → Holds ms b → Holds (ls ++ ms) (a ++ b)
  pub set : (i : ℕ) → i < wires p deep → Holds [] (Set (dest.B (wire p i)) ∷ [])
  pub clear : (i : ℕ) → i < wires p deep → Holds [] (Clr (dest.B (wire p i)) ∷ [])
  pub copy : (i j : ℕ) → i < wires p deep → j < wires p deep → Holds [] (Cpy (dest.B (wire p i)) (source.B (wire p j)) ∷ [])
  pub set_where : (i j : ℕ) → i < wires p deep → j < wires p deep → Holds [] (Ifs (source.B (wire p i)) ∷ Set (dest.B (wire p j)) ∷ Fi ∷ [])

module _ (p : Layout) (deep : ℕ) (Holds : List leaf.Leaf → List IntOp → Type 0) (f : IsShared p deep Holds) where
  base_shares : (b : Bool) → p.has_master ≡ b → Holds [] (start_by b p)
  base_shares true has = let one : masters p ≡ 1 = ap (λ b. cond b 1 0) has in f.set 1 (omega arith)
  base_shares false has = f.none

  rung_shares : (b : Bool) → p.has_master ≡ b → Holds [] (rung_start_by b p ∷ [])
  rung_shares true has = let one : masters p ≡ 1 = ap (λ b. cond b 1 0) has in f.copy 0 1 (omega arith) (omega arith)
  rung_shares false has = f.set 0 (omega arith)

  joined : IsJoined p deep (λ xs ops. Holds (elements xs) ops)
  joined = record {
    none = f.none;
    both = λ xs ys a b g h. rw (elements_append xs ys) (f.both (elements xs) (elements ys) a b g h);
    base = base_shares;
    rung = rung_shares;
    empty = f.clear 0 (omega arith);
    only = f.none;
    fork = λ d le. f.copy (wires p d) 0 (omega arith) (omega arith);
    alone = f.none;
    first = λ d le. f.both [] [] _ _ (f.copy (wires p d + 1) 0 (omega arith) (omega arith)) (f.copy 0 (wires p d) (omega arith) (omega arith));
    between = λ d le. f.both [] [] _ _ (f.set_where 0 (wires p d + 1) (omega arith) (omega arith)) (f.copy 0 (wires p d) (omega arith) (omega arith));
    last = λ d le. f.set_where (wires p d + 1) 0 (omega arith) (omega arith);
  }

  pub program_holds : ((l : leaf.Leaf) (k : ℕ) → IsApt p l.kind → k + memories l.kind ≤ p.memories → Holds (l ∷ []) (element_code p l.kind k))
      → (gs : List rung.Rung) → nesting_of_all gs ≤ deep → Ready p gs → Holds (all_leaves gs) (program_code p gs)
  program_holds element gs le ready =
      subst (λ (ls : List leaf.Leaf). Holds ls (program_code p gs)) (elements_are gs)
      (parts_hold p deep (λ xs ops. Holds (elements xs) ops) joined element gs le ready)
