-- What the lines of rungs build, and the open forms in which a reader keeps it.
use Rattle.std.specs.Prelude.{◌≡◌, ℕ, Bool, true, false, List, [], ◌∷◌, ◌++◌, length, Option, None, Some}
use Rattle.ladder_tree.specs.declared.project.Node.{Node, Leaf, Series, Parallel}
use Rattle.ladder_tree.specs.declared.project.Rung.{Rung}
use Rattle.ld_line.specs.declared.rungs.Circuit.{Circuit}
use Rattle.ld_line.specs.declared.rungs.Circuit.TheVariants as circuit
use Rattle.ld_text.specs.declared.forms.FormKind.{FormKind}
use Rattle.ld_text.specs.declared.forms.FormKind.TheVariants as kind
use Rattle.ld_text.specs.declared.forms.Form.{Form}
use Rattle.ld_text.specs.declared.heard.Mark.{Mark}
use Rattle.ld_text.specs.declared.heard.Mark.TheVariants as mark
use Rattle.ld_text.specs.declared.heard.LineForm.{LineForm}
use Rattle.ld_text.specs.declared.heard.LineForm.TheVariants.{Blank, Magic, Header, Pins, Body}

-- a SERIES or a PARALLEL that is open, with the nodes in front of it
pub record Frame : Type 0 where
  pub circuit : Circuit
  pub nodes : List Node

-- rungs, and behind them perhaps an open one with its open forms, the innermost first, and the nodes of the innermost so far
pub data Tree : Type 0 where
  Closed : (gs : List Rung) → Tree
  Building : (gs : List Rung) (fs : List Frame) (ns : List Node) → Tree

abbrev pub closed : Circuit → List Node → Node
closed circuit.Series ns = Series ns
closed circuit.Parallel ns = Parallel ns

abbrev pub ended : List Rung → List Frame → List Node → Tree
ended gs [] ns = Closed (gs ++ record { nodes = ns } ∷ [])
ended gs (f ∷ fs) ns = Building gs fs (f.nodes ++ closed f.circuit ns ∷ [])

-- a line that does not fit changes nothing
abbrev pub grown : Tree → Mark → Tree
grown (Closed gs) mark.Rung = Building gs [] []
grown (Closed gs) (mark.Open c) = Closed gs
grown (Closed gs) mark.End = Closed gs
grown (Closed gs) (mark.Element l) = Closed gs
grown (Building gs fs ns) mark.Rung = Building gs fs ns
grown (Building gs fs ns) (mark.Open c) = Building gs (record { circuit = c; nodes = ns } ∷ fs) []
grown (Building gs fs ns) mark.End = ended gs fs ns
grown (Building gs fs ns) (mark.Element l) = Building gs fs (ns ++ Leaf l ∷ [])

abbrev pub with_form : Tree → LineForm → Tree
with_form t Blank = t
with_form t Magic = t
with_form t (Header h) = t
with_form t (Pins q) = t
with_form t (Body m) = grown t m

-- Forms that are open, the innermost first.

abbrev pub is_open : List Form → Bool
is_open [] = false
is_open (f ∷ fs) = true

abbrev pub is_rung : FormKind → Bool
is_rung kind.Rung = true
is_rung kind.Series = false
is_rung kind.Parallel = false

-- the outermost is a rung, and no other is
abbrev pub AreNested : List Form → Type 0
AreNested [] = Unit {0}
AreNested (f ∷ []) = is_rung f.kind ≡ true
AreNested (f ∷ g ∷ fs) = (is_rung f.kind ≡ false) × AreNested (g ∷ fs)

-- how many SERIES and PARALLELs are open: all forms but the rung
abbrev pub depth_of : List Form → ℕ
depth_of [] = 0
depth_of (f ∷ fs) = length fs

abbrev pub kind_of : Circuit → FormKind
kind_of circuit.Series = kind.Series
kind_of circuit.Parallel = kind.Parallel

-- The nodes of a rung stand one after another.
abbrev pub circuit_of : FormKind → Circuit
circuit_of kind.Rung = circuit.Series
circuit_of kind.Series = circuit.Series
circuit_of kind.Parallel = circuit.Parallel

-- the innermost form with a node more
abbrev pub with_node : List Form → Node → List Form
with_node [] n = []
with_node (f ∷ fs) n = record { kind = f.kind; nodes = f.nodes ++ n ∷ [] } ∷ fs

-- where the innermost form ends, it is a node of the one around it
abbrev pub behind_end : List Form → List Form
behind_end [] = []
behind_end (f ∷ fs) = with_node fs (closed (circuit_of f.kind) f.nodes)

-- and the nodes of a rung where there is none around it
abbrev pub rung_ended : List Form → Option (List Node)
rung_ended [] = None
rung_ended (f ∷ []) = Some f.nodes
rung_ended (f ∷ g ∷ fs) = None

-- the forms around one of this kind
abbrev pub around : FormKind → List Form → List Frame
around k [] = []
around k (f ∷ fs) = record { circuit = circuit_of k; nodes = f.nodes } ∷ around f.kind fs

-- what rungs and the open forms behind them stand for
abbrev pub tree_at : List Rung → List Form → Tree
tree_at gs [] = Closed gs
tree_at gs (f ∷ fs) = Building gs (around f.kind fs) f.nodes
