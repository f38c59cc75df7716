-- The text that a project is printed as.
use Rattle.std.specs.Prelude.{ℕ, ◌+◌, nat_le, List, [], ◌∷◌, ◌++◌, map, length, codes, replicate, if◌then◌else◌}
use Rattle.std.specs.Fmt.{decimal}
use Rattle.ladder_tree.specs.declared.project.Node.{Node}
use Rattle.ladder_tree.specs.declared.project.Node.TheOpen.{Node-F}
use Rattle.ladder_tree.specs.declared.project.Node.TheFolds.{fold-Node}
use Rattle.ladder_tree.specs.declared.project.PinLine as pin
use Rattle.ladder_tree.specs.declared.project.Project.{Project}
use Rattle.ladder_tree.specs.declared.project.Rung.{Rung}
use Rattle.ld_line.specs.Targets.{target_text}
use Rattle.texts.specs.Lines.{joined}
use Rattle.texts.specs.declared.limits.TheConstants.{LINE_BYTES}
use Rattle.ld_print.specs.Words.{element_words}

-- Spaces (32) in front of a line, but none where the line would be too long with them.
abbrev pub indented : ℕ → List ℕ → List ℕ
indented indent words = if nat_le (indent + length words) LINE_BYTES then replicate indent 32 ++ words else words

-- name at number, behind four spaces
abbrev pub pin_line : pin.PinLine → List ℕ
pin_line p = codes "    " ++ (p.name ++ (codes " at " ++ decimal p.pin))

abbrev pub pin_lines : List pin.PinLine → List (List ℕ)
pin_lines ps = map pin_line ps

abbrev pub parts_at : ℕ → List (ℕ → List (List ℕ)) → List (List ℕ)
parts_at indent [] = []
parts_at indent (p ∷ ps) = p indent ++ parts_at indent ps

-- what a word opens, and its END
abbrev pub form_lines : List ℕ → ℕ → List (ℕ → List (List ℕ)) → List (List ℕ)
form_lines word indent parts = indented indent word ∷ (parts_at (indent + 4) parts ++ indented indent (codes "END") ∷ [])

abbrev pub node_step : Node-F (ℕ → List (List ℕ)) → ℕ → List (List ℕ)
node_step (Node-F.Leaf l) indent = indented indent (element_words l.kind) ∷ []
node_step (Node-F.Series parts) indent = form_lines (codes "SERIES") indent parts
node_step (Node-F.Parallel parts) indent = form_lines (codes "PARALLEL") indent parts

-- the lines of a node at an indent
abbrev pub node_lines : Node → ℕ → List (List ℕ)
node_lines = fold-Node (ℕ → List (List ℕ)) node_step

abbrev pub nodes_lines : ℕ → List Node → List (List ℕ)
nodes_lines indent ns = parts_at indent (map node_lines ns)

abbrev pub rung_lines : Rung → List (List ℕ)
rung_lines g = codes "RUNG" ∷ (nodes_lines 4 g.nodes ++ codes "END" ∷ [])

abbrev pub rungs_lines : List Rung → List (List ℕ)
rungs_lines [] = []
rungs_lines (g ∷ gs) = rung_lines g ++ rungs_lines gs

-- the lines down to IO LIST
abbrev pub head_lines : Project → List (List ℕ)
head_lines p =
    codes "LDmicro0.1"
    ∷ (codes "MICRO=" ++ target_text p.target)
    ∷ (codes "CYCLE=" ++ decimal p.cycle)
    ∷ (codes "CRYSTAL=" ++ decimal p.crystal)
    ∷ (codes "BAUD=" ++ decimal p.baud)
    ∷ []
    ∷ codes "IO LIST"
    ∷ []

abbrev pub printed_lines : Project → List (List ℕ)
printed_lines p = head_lines p ++ (pin_lines p.pins ++ (codes "END" ∷ [] ∷ codes "PROGRAM" ∷ rungs_lines p.rungs))

-- each line with a line feed behind it
abbrev pub printed : Project → List ℕ
printed p = joined (printed_lines p)
