-- How a project is spelled: what its lines say in order, but for blank ones.
use Rattle.std.specs.Prelude.{ℕ, List, [], ◌∷◌, ◌++◌, map, Option, None, Some}
use Rattle.chip_tables.specs.declared.target.Target.{Target}
use Rattle.ladder_tree.specs.declared.project.Node.{Node}
use Rattle.ladder_tree.specs.declared.project.Node.TheOpen.{Node-F}
use Rattle.ladder_tree.specs.declared.project.Node.TheFolds.{fold-Node}
use Rattle.ladder_tree.specs.declared.project.Rung.{Rung}
use Rattle.ladder_tree.specs.declared.project.PinLine as pin
use Rattle.ld_line.specs.declared.header.HeaderLine.TheVariants as header
use Rattle.ld_line.specs.declared.pins.PinsLine.TheVariants as pins
use Rattle.ld_line.specs.declared.rungs.Circuit.TheVariants.{Series, Parallel}
use Rattle.ld_text.specs.declared.heard.Mark.{Mark}
use Rattle.ld_text.specs.declared.heard.Mark.TheVariants as mark
use Rattle.ld_text.specs.declared.heard.LineForm.{LineForm}
use Rattle.ld_text.specs.declared.heard.LineForm.TheVariants.{Magic, Header, Pins, Body}

abbrev pub joined : {A : Type 0} → List (List A) → List A
joined [] = []
joined (x ∷ xs) = x ++ joined xs

abbrev pub spelling_step : Node-F (List Mark) → List Mark
spelling_step (Node-F.Leaf l) = mark.Element l ∷ []
spelling_step (Node-F.Series parts) = mark.Open Series ∷ (joined parts ++ mark.End ∷ [])
spelling_step (Node-F.Parallel parts) = mark.Open Parallel ∷ (joined parts ++ mark.End ∷ [])

abbrev pub spelled_node : Node → List Mark
spelled_node = fold-Node (List Mark) spelling_step

abbrev pub spelled_nodes : List Node → List Mark
spelled_nodes ns = joined (map spelled_node ns)

abbrev pub spelled : List Rung → List Mark
spelled [] = []
spelled (g ∷ gs) = mark.Rung ∷ (spelled_nodes g.nodes ++ mark.End ∷ spelled gs)

-- what stands above PROGRAM, in any order: a line, or a pin list
pub data Item : Type 0 where
  Chip : (target : Target) → Item
  Cycle : (microseconds : ℕ) → Item
  Crystal : (hertz : ℕ) → Item
  Baud : (rate : ℕ) → Item
  Compiled : Item
  PinSection : (lines : List pin.PinLine) → Item

abbrev pub pin_forms : List pin.PinLine → List LineForm
pin_forms ls = map (λ l. Pins (pins.Pin l)) ls

abbrev pub spelled_item : Item → List LineForm
spelled_item (Chip t) = Header (header.Micro (Some t)) ∷ []
spelled_item (Cycle n) = Header (header.Cycle n) ∷ []
spelled_item (Crystal n) = Header (header.Crystal n) ∷ []
spelled_item (Baud n) = Header (header.Baud n) ∷ []
spelled_item Compiled = Header header.Compiled ∷ []
spelled_item (PinSection ls) = Header header.Pins ∷ (pin_forms ls ++ Pins pins.End ∷ [])

abbrev pub spelled_items : List Item → List LineForm
spelled_items is = joined (map spelled_item is)

-- line 1, what stands above PROGRAM, PROGRAM, and the rungs
abbrev pub spelled_project : List Item → List Rung → List LineForm
spelled_project is gs = Magic ∷ (spelled_items is ++ Header header.Program ∷ map Body (spelled gs))

-- What stands above the rungs: no target while no MICRO line came. Times are microseconds, the crystal is hertz, the rate of the serial line baud.
pub record Settings : Type 0 where
  pub target : Option Target
  pub cycle : ℕ
  pub crystal : ℕ
  pub baud : ℕ
  pub pins : List pin.PinLine

-- the settings where nothing is said: 10 ms, 4 MHz, 2400 baud
abbrev pub defaults : Settings
defaults = record { target = None; cycle = 10000; crystal = 4000000; baud = 2400; pins = [] }

-- A later line replaces an earlier one, and pin lists are joined.
abbrev pub with_item : Settings → Item → Settings
with_item s (Chip t) = record s { target = Some t }
with_item s (Cycle n) = record s { cycle = n }
with_item s (Crystal n) = record s { crystal = n }
with_item s (Baud n) = record s { baud = n }
with_item s Compiled = s
with_item s (PinSection ls) = record s { pins = s.pins ++ ls }

abbrev pub with_items : Settings → List Item → Settings
with_items s [] = s
with_items s (i ∷ is) = with_items (with_item s i) is
