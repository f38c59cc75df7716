-- What is spelled is read back, so lines spell one project at most.
use Rattle.std.proofs.Common.{◌≡◌, List, [], ◌∷◌, ◌++◌, map, Some, refl, sym, ap, ◌∙◌, append_assoc, append-nil}
use Rattle.ladder_tree.specs.declared.project.Node.{Node}
use Rattle.ladder_tree.specs.declared.project.PinLine as pin
use Rattle.ladder_tree.specs.declared.project.Project.{Project}
use Rattle.ladder_tree.specs.declared.project.Rung.{Rung}
use Rattle.ladder_tree.specs.Induct.{Each, node_ind}
use Rattle.ld_line.specs.declared.header.HeaderLine.TheVariants as header
use Rattle.ld_line.specs.declared.pins.PinsLine.TheVariants as pins
use Rattle.ld_line.specs.declared.rungs.Circuit.{Circuit}
use Rattle.ld_line.specs.declared.rungs.Circuit.TheVariants as circuit
use Rattle.ld_line.specs.declared.said.Said.TheVariants.{Is}
use Rattle.ld_text.specs.declared.heard.LineForm.{LineForm}
use Rattle.ld_text.specs.declared.heard.LineForm.TheVariants.{Header, Pins, Body}
use Rattle.ld_text.specs.declared.heard.Mark.{Mark}
use Rattle.ld_text.specs.declared.heard.Mark.TheVariants as mark
use Rattle.ld_text.specs.Lines.{Line}
use Rattle.ld_text.specs.Spelling.{Settings, Item, Chip, Cycle, Crystal, Baud, Compiled, PinSection, pin_forms, spelled, spelled_node, spelled_nodes, spelled_item, spelled_items, spelled_project, defaults, with_item, with_items}
use Rattle.ld_text.specs.Text.{IsProject, project_of}
use Rattle.ld_text.specs.Tree.{Frame, Tree, Closed, Building, closed, grown, with_form}
use Rattle.ld_text.specs.Reading.{settings_behind}
use Rattle.ld_text.proofs.TreeLemmas.{spelled-Leaf, spelled-closed}

-- the settings and the tree behind forms

abbrev settings_by : Settings → List LineForm → Settings
settings_by s [] = s
settings_by s (f ∷ fs) = settings_by (settings_behind s f) fs

abbrev grown_by : Tree → List Mark → Tree
grown_by t [] = t
grown_by t (m ∷ ms) = grown_by (grown t m) ms

abbrev tree_by : Tree → List LineForm → Tree
tree_by t [] = t
tree_by t (f ∷ fs) = tree_by (with_form t f) fs

settings_by-append : (s : Settings) (xs ys : List LineForm) → settings_by s (xs ++ ys) ≡ settings_by (settings_by s xs) ys
settings_by-append s [] ys = refl
settings_by-append s (x ∷ xs) ys = settings_by-append (settings_behind s x) xs ys

tree_by-append : (t : Tree) (xs ys : List LineForm) → tree_by t (xs ++ ys) ≡ tree_by (tree_by t xs) ys
tree_by-append t [] ys = refl
tree_by-append t (x ∷ xs) ys = tree_by-append (with_form t x) xs ys

grown_by-append : (t : Tree) (xs ys : List Mark) → grown_by t (xs ++ ys) ≡ grown_by (grown_by t xs) ys
grown_by-append t [] ys = refl
grown_by-append t (x ∷ xs) ys = grown_by-append (grown t x) xs ys

abbrev with_pins : Settings → List pin.PinLine → Settings
with_pins s ls = record s { pins = ls }

pins_by : (ls : List pin.PinLine) (s : Settings) → settings_by s (pin_forms ls) ≡ with_pins s (s.pins ++ ls)
pins_by [] s = ap (with_pins s) (sym (append-nil s.pins))
pins_by (l ∷ ls) s = pins_by ls (with_pins s (s.pins ++ l ∷ [])) ∙ ap (with_pins s) (append_assoc s.pins (l ∷ []) ls)

settings_item : (i : Item) (s : Settings) → settings_by s (spelled_item i) ≡ with_item s i
settings_item (Chip t) s = refl
settings_item (Cycle n) s = refl
settings_item (Crystal n) s = refl
settings_item (Baud n) s = refl
settings_item Compiled s = refl
settings_item (PinSection ls) s = settings_by-append s (pin_forms ls) (Pins pins.End ∷ []) ∙ pins_by ls s

settings_items : (is : List Item) (s : Settings) → settings_by s (spelled_items is) ≡ with_items s is
settings_items [] s = refl
settings_items (i ∷ is) s =
    settings_by-append s (spelled_item i) (spelled_items is)
    ∙ ap (λ x. settings_by x (spelled_items is)) (settings_item i s)
    ∙ settings_items is (with_item s i)

settings_body : (ms : List Mark) (s : Settings) → settings_by s (map Body ms) ≡ s
settings_body [] s = refl
settings_body (m ∷ ms) s = settings_body ms s

pub settings_project : (is : List Item) (gs : List Rung) → settings_by defaults (spelled_project is gs) ≡ with_items defaults is
settings_project is gs =
    settings_by-append defaults (spelled_items is) (Header header.Program ∷ map Body (spelled gs))
    ∙ settings_body (spelled gs) (settings_by defaults (spelled_items is))
    ∙ settings_items is defaults

tree_pins : (ls : List pin.PinLine) (t : Tree) → tree_by t (pin_forms ls) ≡ t
tree_pins [] t = refl
tree_pins (l ∷ ls) t = tree_pins ls t

tree_item : (i : Item) (t : Tree) → tree_by t (spelled_item i) ≡ t
tree_item (Chip x) t = refl
tree_item (Cycle n) t = refl
tree_item (Crystal n) t = refl
tree_item (Baud n) t = refl
tree_item Compiled t = refl
tree_item (PinSection ls) t = tree_by-append t (pin_forms ls) (Pins pins.End ∷ []) ∙ tree_pins ls t

tree_items : (is : List Item) (t : Tree) → tree_by t (spelled_items is) ≡ t
tree_items [] t = refl
tree_items (i ∷ is) t = tree_by-append t (spelled_item i) (spelled_items is) ∙ ap (λ x. tree_by x (spelled_items is)) (tree_item i t) ∙ tree_items is t

tree_body : (ms : List Mark) (t : Tree) → tree_by t (map Body ms) ≡ grown_by t ms
tree_body [] t = refl
tree_body (m ∷ ms) t = tree_body ms (grown t m)

-- what is spelled grows again

abbrev IsGrown : Node → Type 0
IsGrown n = (gs : List Rung) (fs : List Frame) (ms : List Node) → grown_by (Building gs fs ms) (spelled_node n) ≡ Building gs fs (ms ++ n ∷ [])

each_grown : (ns : List Node) → Each IsGrown ns → (gs : List Rung) (fs : List Frame) (ms : List Node)
    → grown_by (Building gs fs ms) (spelled_nodes ns) ≡ Building gs fs (ms ++ ns)
each_grown [] h gs fs ms = ap (Building gs fs) (sym (append-nil ms))
each_grown (n ∷ ns) h gs fs ms =
    grown_by-append (Building gs fs ms) (spelled_node n) (spelled_nodes ns)
    ∙ ap (λ t. grown_by t (spelled_nodes ns)) (h.0 gs fs ms)
    ∙ each_grown ns h.1 gs fs (ms ++ n ∷ [])
    ∙ ap (Building gs fs) (append_assoc ms (n ∷ []) ns)

form_grown : (c : Circuit) (ns : List Node) → Each IsGrown ns → IsGrown (closed c ns)
form_grown c ns h gs fs ms =
    ap (grown_by (Building gs fs ms)) (spelled-closed c ns)
    ∙ grown_by-append (Building gs (record { circuit = c; nodes = ms } ∷ fs) []) (spelled_nodes ns) (mark.End ∷ [])
    ∙ ap (λ t. grown t mark.End) (each_grown ns h gs (record { circuit = c; nodes = ms } ∷ fs) [])

node_grown : (n : Node) → IsGrown n
node_grown =
    node_ind IsGrown (λ l gs fs ms. ap (grown_by (Building gs fs ms)) (spelled-Leaf l)) (λ ns h. form_grown circuit.Series ns h)
    (λ ns h. form_grown circuit.Parallel ns h)

all_grown : (ns : List Node) → Each IsGrown ns
all_grown [] = tt
all_grown (n ∷ ns) = (node_grown n, all_grown ns)

rungs_grown : (gs before : List Rung) → grown_by (Closed before) (spelled gs) ≡ Closed (before ++ gs)
rungs_grown [] before = ap Closed (sym (append-nil before))
rungs_grown (g ∷ gs) before =
    grown_by-append (Building before [] []) (spelled_nodes g.nodes) (mark.End ∷ spelled gs)
    ∙ ap (λ t. grown_by (grown t mark.End) (spelled gs)) (each_grown g.nodes (all_grown g.nodes) before [] [])
    ∙ rungs_grown gs (before ++ g ∷ [])
    ∙ ap Closed (append_assoc before (g ∷ []) gs)

pub tree_project : (is : List Item) (gs : List Rung) → tree_by (Closed []) (spelled_project is gs) ≡ Closed gs
tree_project is gs =
    tree_by-append (Closed []) (spelled_items is) (Header header.Program ∷ map Body (spelled gs))
    ∙ ap (λ t. tree_by t (map Body (spelled gs))) (tree_items is (Closed []))
    ∙ tree_body (spelled gs) (Closed [])
    ∙ rungs_grown gs []

same_said : (xs ys : List LineForm) → map Is xs ≡ map Is ys → xs ≡ ys
same_said [] [] h = refl
same_said [] (y ∷ ys) h = absurd cc
same_said (x ∷ xs) [] h = absurd cc
same_said (x ∷ xs) (y ∷ ys) h =
    let head : Is x ≡ Is y = cc in
    let first : x ≡ y = cc in
    let rest : map Is xs ≡ map Is ys = cc in
    ap (λ z. z ∷ xs) first ∙ ap (λ zs. y ∷ zs) (same_said xs ys rest)

pub one_project : (ls : List Line) (p q : Project) → IsProject ls p → IsProject ls q → p ≡ q
one_project ls p q h g =
    let forms = same_said (spelled_project h.items p.rungs) (spelled_project g.items q.rungs) (sym h.spelled ∙ g.spelled) in
    let settings : with_items defaults h.items ≡ with_items defaults g.items =
    sym (settings_project h.items p.rungs) ∙ ap (settings_by defaults) forms ∙ settings_project g.items q.rungs in
    let trees : Closed p.rungs ≡ Closed q.rungs = sym (tree_project h.items p.rungs) ∙ ap (tree_by (Closed [])) forms ∙ tree_project g.items q.rungs in
    let rungs : p.rungs ≡ q.rungs = cc in
    let named : Some p.target ≡ Some q.target = sym h.target ∙ ap (λ s. s.target) settings ∙ g.target in
    let target : p.target ≡ q.target = cc in
    h.settings
    ∙ ap (λ s. project_of s p.target p.rungs) settings
    ∙ ap (λ t. project_of (with_items defaults g.items) t p.rungs) target
    ∙ ap (project_of (with_items defaults g.items) q.target) rungs
    ∙ sym g.settings
