-- The public list: which kinds of operations the lowering of each part of a ladder may have.
use Rattle.std.specs.Prelude.{ℕ, zero, suc, true, false, List, [], ◌∷◌, ◌++◌, length, map}
use Rattle.std.specs.List.{flat_map}
use Rattle.ladder_tree.specs.declared.element.CoilMode.{CoilMode}
use Rattle.ladder_tree.specs.declared.element.CoilMode.TheVariants as mode
use Rattle.ladder_tree.specs.declared.element.CompareHow.{CompareHow}
use Rattle.ladder_tree.specs.declared.element.CompareHow.TheVariants.{Equ, Neq, Grt, Geq, Les, Leq}
use Rattle.ladder_tree.specs.declared.element.CounterHow.{CounterHow}
use Rattle.ladder_tree.specs.declared.element.CounterHow.TheVariants.{Ctu, Ctd, Ctc}
use Rattle.ladder_tree.specs.declared.element.Leaf as leaf
use Rattle.ladder_tree.specs.declared.element.LeafKind.{LeafKind}
use Rattle.ladder_tree.specs.declared.element.LeafKind.TheVariants as element
use Rattle.ladder_tree.specs.declared.element.MathHow.{MathHow}
use Rattle.ladder_tree.specs.declared.element.MathHow.TheVariants as math
use Rattle.ladder_tree.specs.declared.element.Operand.{Operand}
use Rattle.ladder_tree.specs.declared.element.Operand.TheVariants.{Var, Num}
use Rattle.ladder_tree.specs.declared.element.TimerHow.{TimerHow}
use Rattle.ladder_tree.specs.declared.element.TimerHow.TheVariants.{Ton, Tof, Rto}
use Rattle.ladder_tree.specs.declared.project.Node.{Node}
use Rattle.ladder_tree.specs.declared.project.Node.TheOpen.{Node-F}
use Rattle.ladder_tree.specs.declared.project.Node.TheFolds.{fold-Node}
use Rattle.ladder_tree.specs.declared.project.Rung as rung
use Rattle.int_code.specs.Kinds.{Kind, Guarded, Set, Clr, Cpy, Not, Ifs, Ifc, Iflt, Ifeq, Ifee, Els, Fi, Lit, Mov, Add, Sub, Mul, Div, Inc, Dec, Adc, Pwm, Rx, Tx, Eebusy, Eerd, Eewr, Tab}

-- what operations stand for: the whole once, each rung, PARALLEL and branch, and each element
pub data Part : Type 0 where
  Base : Part
  Rung : Part
  Parallel : Part
  Branch : Part
  Element : leaf.Leaf → Part

-- a branch's own part stands behind it
abbrev pub branches : List (List Part) → List Part
branches [] = []
branches (x ∷ xs) = x ++ Branch ∷ branches xs

abbrev pub parts_step : Node-F (List Part) → List Part
parts_step (Node-F.Leaf l) = Element l ∷ []
parts_step (Node-F.Series xs) = flat_map (λ x. x) xs
parts_step (Node-F.Parallel xs) = Parallel ∷ branches xs

abbrev pub parts : Node → List Part
parts = fold-Node (List Part) parts_step

abbrev pub parts_in : List Node → List Part
parts_in ns = flat_map (λ x. x) (map parts ns)

abbrev pub parts_of_rungs : List rung.Rung → List Part
parts_of_rungs [] = []
parts_of_rungs (g ∷ gs) = Rung ∷ (parts_in g.nodes ++ parts_of_rungs gs)

-- the parts of a ladder in order
abbrev pub all_parts : List rung.Rung → List Part
all_parts gs = Base ∷ parts_of_rungs gs

abbrev pub coil_kinds : CoilMode → List Kind
coil_kinds mode.Plain = Cpy false true ∷ []
coil_kinds mode.Negated = Not false true ∷ []
coil_kinds mode.Set = Guarded true false ∷ []
coil_kinds mode.Reset = Guarded true false ∷ []

abbrev pub timer_kinds : TimerHow → List Kind
timer_kinds Ton = Ifs true ∷ Iflt ∷ Inc ∷ Clr true ∷ Fi ∷ Els ∷ Lit ∷ Fi ∷ []
timer_kinds Tof = Ifs true ∷ Lit ∷ Els ∷ Iflt ∷ Inc ∷ Set true ∷ Fi ∷ Fi ∷ []
timer_kinds Rto = Iflt ∷ Ifs true ∷ Inc ∷ Clr true ∷ Fi ∷ Els ∷ Set true ∷ Fi ∷ []

-- where the input becomes true
abbrev pub rise_kinds : List Kind → List Kind
rise_kinds xs = Ifs true ∷ Ifc false ∷ (xs ++ Fi ∷ Fi ∷ Cpy false true ∷ [])

abbrev pub reached_kinds : List Kind
reached_kinds = Set true ∷ Iflt ∷ Clr true ∷ Fi ∷ []

abbrev pub counter_kinds : CounterHow → List Kind
counter_kinds Ctu = rise_kinds (Inc ∷ []) ++ reached_kinds
counter_kinds Ctd = rise_kinds (Dec ∷ []) ++ reached_kinds
counter_kinds Ctc = rise_kinds (Iflt ∷ Inc ∷ Els ∷ Lit ∷ Fi ∷ [])

-- where there is power
abbrev pub where_kinds : Kind → List Kind
where_kinds x = Ifs true ∷ x ∷ Fi ∷ []

abbrev pub move_kind : Operand → Kind
move_kind (Var name) = Mov
move_kind (Num n) = Lit

abbrev pub math_kind : MathHow → Kind
math_kind math.Add = Add
math_kind math.Sub = Sub
math_kind math.Mul = Mul
math_kind math.Div = Div

abbrev pub compare_kinds : CompareHow → List Kind
compare_kinds Equ = Ifeq ∷ Els ∷ Clr true ∷ Fi ∷ []
compare_kinds Neq = Ifeq ∷ Clr true ∷ Fi ∷ []
compare_kinds Grt = Iflt ∷ Els ∷ Clr true ∷ Fi ∷ []
compare_kinds Geq = Iflt ∷ Clr true ∷ Fi ∷ []
compare_kinds Les = Iflt ∷ Els ∷ Clr true ∷ Fi ∷ []
compare_kinds Leq = Iflt ∷ Clr true ∷ Fi ∷ []

-- one for each place of a shift register after the first
abbrev pub moves_kinds : ℕ → List Kind
moves_kinds zero = []
moves_kinds (suc zero) = []
moves_kinds (suc (suc k)) = Mov ∷ moves_kinds (suc k)

abbrev pub element_kinds : LeafKind → List Kind
element_kinds (element.Contacts name neg) = Guarded false true ∷ []
element_kinds (element.Coil name how) = coil_kinds how
element_kinds element.Osr = Cpy true true ∷ Guarded false true ∷ Cpy false true ∷ []
element_kinds element.Osf = Cpy true true ∷ Not true true ∷ Guarded false true ∷ Cpy false true ∷ []
element_kinds element.Short = []
element_kinds element.Open = Clr true ∷ []
element_kinds element.MasterRelay = Guarded true true ∷ Not true true ∷ []
element_kinds element.Placeholder = []
element_kinds (element.Comment text) = []
element_kinds (element.Timer how name delay) = timer_kinds how
element_kinds (element.Counter how name max) = counter_kinds how
element_kinds (element.Reset name) = where_kinds Lit
element_kinds (element.Move dest src) = where_kinds (move_kind src)
element_kinds (element.Math how dest a b) = where_kinds (math_kind how)
element_kinds (element.Compare how a b) = compare_kinds how
element_kinds (element.Shift name places) = rise_kinds (moves_kinds places)
element_kinds (element.Table dest index as_text values) = where_kinds (Tab (length values))
element_kinds (element.ReadAdc name) = where_kinds Adc
element_kinds (element.SetPwm name hz) = where_kinds Pwm
element_kinds (element.Recv name) = where_kinds (Rx true)
element_kinds (element.Send name) = Tx true true ∷ []
element_kinds (element.Persist name) =
    Ifs true ∷ Eebusy true ∷ Ifc true ∷ Ifs false ∷ Ifee ∷ Els ∷ Eewr ∷ Fi ∷ Els ∷ Eerd ∷ Set false ∷ Fi ∷ Fi ∷ Fi ∷ []
element_kinds (element.Linear dest index points) = []
element_kinds (element.Formatted name text) = []

-- The master relay bit is set once. A rung begins on it, or on true. A PARALLEL keeps its input, or clears the power where
-- it has no branch. A branch's output is kept or joins the others', and the next one begins on the input.
abbrev pub part_kinds : Part → List Kind
part_kinds Base = Set true ∷ []
part_kinds Rung = Set true ∷ Cpy true true ∷ []
part_kinds Parallel = Clr true ∷ Cpy true true ∷ []
part_kinds Branch = Cpy true true ∷ Cpy true true ∷ Guarded true true ∷ []
part_kinds (Element l) = element_kinds l.kind

-- the kinds that the operations of a ladder may have
abbrev pub allowed : List rung.Rung → List Kind
allowed gs = flat_map part_kinds (all_parts gs)
