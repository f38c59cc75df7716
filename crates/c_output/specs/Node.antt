-- The C text of nodes and rungs.
use Rattle.std.specs.Prelude.{ℕ, ◌+◌, List, [], ◌∷◌, ◌++◌, codes, map}
use Rattle.ladder_tree.specs.declared.project.Node.{Node}
use Rattle.ladder_tree.specs.declared.project.Node.TheOpen.{Node-F}
use Rattle.ladder_tree.specs.declared.project.Node.TheFolds.{fold-Node}
use Rattle.ladder_tree.specs.declared.project.Rung.{Rung}
use Rattle.ladder_tree.specs.Names.{memories}
use Rattle.c_output.specs.Filled.{numbered}
use Rattle.c_output.specs.Element.{Terms, element_text}

-- how many memories a part has, and its text inside d PARALLELs and behind k memories
pub record Part : Type 0 where
  pub memories : ℕ
  pub text : ℕ → ℕ → List ℕ

-- one after another
abbrev pub series : List Part → Part
series [] = record { memories = 0; text = λ d k. [] }
series (a ∷ rest) = record {
  memories = a.memories + (series rest).memories;
  text = λ d k. a.text d k ++ (series rest).text d (k + a.memories);
}

-- each branch finds the input in i, and its output joins the OR of the branches in o
abbrev pub branches : List Part → Part
branches [] = record { memories = 0; text = λ d k. [] }
branches (a ∷ rest) = record {
  memories = a.memories + (branches rest).memories;
  text = λ d k. numbered (codes "f = i_#;\n") d ++ (a.text (d + 1) k ++ (numbered (codes "if (f) o_# = 1;\n") d ++ (branches rest).text d (k + a.memories)));
}

abbrev pub parallel : List Part → Part
parallel parts = record {
  memories = (branches parts).memories;
  text = λ d k. numbered (codes "i_# = f; o_# = 0;\n") d ++ ((branches parts).text d k ++ numbered (codes "f = o_#;\n") d);
}

abbrev pub part_step : Terms → Node-F Part → Part
part_step p (Node-F.Leaf l) = record { memories = memories l.kind; text = λ d k. element_text p l.kind k }
part_step p (Node-F.Series parts) = series parts
part_step p (Node-F.Parallel parts) = parallel parts

abbrev pub part : Terms → Node → Part
part p = fold-Node Part (part_step p)

abbrev pub series_of : Terms → List Node → Part
series_of p ns = series (map (part p) ns)

abbrev pub branches_of : Terms → List Node → Part
branches_of p ns = branches (map (part p) ns)

abbrev pub parallel_of : Terms → List Node → Part
parallel_of p ns = parallel (map (part p) ns)

-- the rungs behind k memories, each on the master relay bit of its moment
abbrev pub rungs_text : Terms → List Rung → ℕ → List ℕ
rungs_text p [] k = []
rungs_text p (g ∷ gs) k = codes "f = m;\n" ++ ((series_of p g.nodes).text 0 k ++ rungs_text p gs (k + (series_of p g.nodes).memories))

-- how many memories the rungs have
abbrev pub memories_of : Terms → List Rung → ℕ
memories_of p [] = 0
memories_of p (g ∷ gs) = (series_of p g.nodes).memories + memories_of p gs
