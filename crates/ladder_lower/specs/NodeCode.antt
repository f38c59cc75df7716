-- The operations of nodes and rungs.
use Rattle.std.specs.Prelude.{ℕ, ◌+◌, Bool, true, false, List, [], ◌∷◌, ◌++◌, map}
use Rattle.ladder_tree.specs.declared.project.Node.{Node}
use Rattle.ladder_tree.specs.declared.project.Node.TheOpen.{Node-F}
use Rattle.ladder_tree.specs.declared.project.Node.TheFolds.{fold-Node}
use Rattle.ladder_tree.specs.declared.project.Rung.{Rung}
use Rattle.ladder_tree.specs.Names.{memories}
use Rattle.int_code.specs.declared.op.BitDest.TheVariants as dest
use Rattle.int_code.specs.declared.op.BitSource.TheVariants as source
use Rattle.int_code.specs.declared.op.IntOp.{IntOp}
use Rattle.int_code.specs.declared.op.IntOp.TheVariants.{Set, Clr, Cpy, Ifs, Fi}
use Rattle.ladder_lower.specs.declared.layout.Layout.{Layout}
use Rattle.ladder_lower.specs.ElementCode.{element_code}
use Rattle.ladder_lower.specs.Wires.{power, master, in_wire, or_wire}

-- how many memories a part has, and its operations inside d PARALLELs and behind k memories
pub record Piece : Type 0 where
  pub memories : ℕ
  pub code : ℕ → ℕ → List IntOp

abbrev pub series_code : List Piece → Piece
series_code [] = record { memories = 0; code = λ d k. [] }
series_code (a ∷ rest) = record {
  memories = a.memories + (series_code rest).memories;
  code = λ d k. a.code d k ++ (series_code rest).code d (k + a.memories);
}

abbrev pub ends : List Piece → Bool
ends [] = true
ends (a ∷ rest) = false

-- Behind a branch its output joins the OR of those before it: on the power wire behind the last branch, else on the OR wire.
abbrev pub join : Bool → Layout → ℕ → List IntOp
join true p d = Ifs (source.B (or_wire p d)) ∷ Set (dest.B (power p)) ∷ Fi ∷ []
join false p d = Ifs (source.B (power p)) ∷ Set (dest.B (or_wire p d)) ∷ Fi ∷ []

-- the branches behind the first: each begins on the PARALLEL's input
abbrev pub others_code : Layout → List Piece → Piece
others_code p [] = record { memories = 0; code = λ d k. [] }
others_code p (a ∷ rest) = record {
  memories = a.memories + (others_code p rest).memories;
  code = λ d k. Cpy (dest.B (power p)) (source.B (in_wire p d)) ∷ (a.code (d + 1) k ++ (join (ends rest) p d ++ (others_code p rest).code d (k + a.memories)));
}

-- A first branch and others: the input is kept before the first, and its output behind it.
abbrev pub fork_code : Layout → Piece → Piece → Piece
fork_code p a others = record {
  memories = a.memories + others.memories;
  code =
      λ d k. Cpy (dest.B (in_wire p d)) (source.B (power p))
      ∷ (a.code (d + 1) k ++ (Cpy (dest.B (or_wire p d)) (source.B (power p)) ∷ others.code d (k + a.memories)));
}

-- no branch gives false, and one branch is that branch
abbrev pub parallel_code : Layout → List Piece → Piece
parallel_code p [] = record { memories = 0; code = λ d k. Clr (dest.B (power p)) ∷ [] }
parallel_code p (a ∷ []) = a
parallel_code p (a ∷ b ∷ rest) = fork_code p a (others_code p (b ∷ rest))

abbrev pub piece_step : Layout → Node-F Piece → Piece
piece_step p (Node-F.Leaf l) = record { memories = memories l.kind; code = λ d k. element_code p l.kind k }
piece_step p (Node-F.Series parts) = series_code parts
piece_step p (Node-F.Parallel parts) = parallel_code p parts

abbrev pub piece : Layout → Node → Piece
piece p = fold-Node Piece (piece_step p)

abbrev pub nodes_piece : Layout → List Node → Piece
nodes_piece p ns = series_code (map (piece p) ns)

abbrev pub others_of : Layout → List Node → Piece
others_of p ns = others_code p (map (piece p) ns)

abbrev pub parallel_of : Layout → List Node → Piece
parallel_of p ns = parallel_code p (map (piece p) ns)

abbrev pub rung_start_by : Bool → Layout → IntOp
rung_start_by true p = Cpy (dest.B (power p)) (source.B (master p))
rung_start_by false p = Set (dest.B (power p))

-- a rung begins on the master relay bit, which is true where nothing changes it
abbrev pub rung_start : Layout → IntOp
rung_start p = rung_start_by p.has_master p

abbrev pub rungs_code : Layout → List Rung → ℕ → List IntOp
rungs_code p [] k = []
rungs_code p (g ∷ gs) k =
    rung_start p ∷ ((nodes_piece p g.nodes).code 0 k ++ rungs_code p gs (k + (nodes_piece p g.nodes).memories))

abbrev pub start_by : Bool → Layout → List IntOp
start_by true p = Set (dest.B (master p)) ∷ []
start_by false p = []

-- the master relay bit is true at the start of a cycle
abbrev pub program_code : Layout → List Rung → List IntOp
program_code p gs = start_by p.has_master p ++ rungs_code p gs 0

-- how many memories the rungs have
abbrev pub memories_of : Layout → List Rung → ℕ
memories_of p [] = 0
memories_of p (g ∷ gs) = (nodes_piece p g.nodes).memories + memories_of p gs
