-- The operations of an element. It finds its input on the power wire, and leaves its output there.
use Rattle.std.specs.Prelude.{ℕ, zero, suc, Bool, true, false, List, [], ◌∷◌, ◌++◌, ℤ, pos}
use Rattle.std.specs.Fmt.{decimal}
use Rattle.ladder_tree.specs.declared.element.LeafKind.{LeafKind}
use Rattle.ladder_tree.specs.declared.element.LeafKind.TheVariants.{Contacts, Coil, Osr, Osf, Short, Open, MasterRelay, Placeholder, Comment, Timer, Counter}
use Rattle.ladder_tree.specs.declared.element.LeafKind.TheVariants.{Reset, Move, Math, Compare, Shift, Table, ReadAdc, SetPwm, Recv, Send, Persist, Linear}
use Rattle.ladder_tree.specs.declared.element.LeafKind.TheVariants.{Formatted}
use Rattle.ladder_tree.specs.declared.element.CoilMode.{CoilMode}
use Rattle.ladder_tree.specs.declared.element.CoilMode.TheVariants as mode
use Rattle.ladder_tree.specs.declared.element.CompareHow.{CompareHow}
use Rattle.ladder_tree.specs.declared.element.CompareHow.TheVariants.{Equ, Neq, Grt, Geq, Les, Leq}
use Rattle.ladder_tree.specs.declared.element.CounterHow.{CounterHow}
use Rattle.ladder_tree.specs.declared.element.CounterHow.TheVariants.{Ctu, Ctd, Ctc}
use Rattle.ladder_tree.specs.declared.element.MathHow.{MathHow}
use Rattle.ladder_tree.specs.declared.element.MathHow.TheVariants as math
use Rattle.ladder_tree.specs.declared.element.TimerHow.{TimerHow}
use Rattle.ladder_tree.specs.declared.element.TimerHow.TheVariants.{Ton, Tof, Rto}
use Rattle.ladder_meaning.specs.Numbers.{period}
use Rattle.ladder_meaning.specs.State.{place_of}
use Rattle.int_code.specs.declared.op.BitDest.TheVariants as dest
use Rattle.int_code.specs.declared.op.BitSource.TheVariants as source
use Rattle.int_code.specs.declared.op.NumSource.{NumSource}
use Rattle.int_code.specs.declared.op.NumSource.TheVariants.{V, N}
use Rattle.int_code.specs.declared.op.IntOp.{IntOp}
use Rattle.int_code.specs.declared.op.IntOp.TheVariants.{Set, Clr, Cpy, Not, Ifs, Ifc, Iflt, Ifeq, Ifee, Els, Fi, Lit, Mov, Add, Sub, Mul, Div, Inc, Dec, Adc}
use Rattle.int_code.specs.declared.op.IntOp.TheVariants.{Pwm, Rx, Tx, Eebusy, Eerd, Eewr, Tab}
use Rattle.ladder_lower.specs.declared.layout.Layout.{Layout}
use Rattle.ladder_lower.specs.Wires.{dest_of, source_of, variable_of, number_of, memory_bit, flag_bit, power, master, spare}

-- the element's operation is executed where there is power
abbrev pub where_power : Layout → IntOp → List IntOp
where_power p op = Ifs (source.B (power p)) ∷ op ∷ Fi ∷ []

-- the power is switched off where the test's if runs
abbrev pub cut_where : Layout → IntOp → List IntOp
cut_where p test = test ∷ Clr (dest.B (power p)) ∷ Fi ∷ []

-- the power is switched off where the test's if does not run
abbrev pub cut_unless : Layout → IntOp → List IntOp
cut_unless p test = test ∷ Els ∷ Clr (dest.B (power p)) ∷ Fi ∷ []

abbrev pub coil_code : Layout → CoilMode → List ℕ → List IntOp
coil_code p mode.Plain name = Cpy (dest_of p name) (source.B (power p)) ∷ []
coil_code p mode.Negated name = Not (dest_of p name) (source.B (power p)) ∷ []
coil_code p mode.Set name = where_power p (Set (dest_of p name))
coil_code p mode.Reset name = where_power p (Clr (dest_of p name))

abbrev pub contact_code : Layout → Bool → List ℕ → List IntOp
contact_code p true name = cut_where p (Ifs (source_of p name))
contact_code p false name = cut_where p (Ifc (source_of p name))

-- The spare wire keeps what comes in, since the memory is read before it becomes that. It is that of OSF where the flag is true.
abbrev pub edge_code : Bool → Layout → ℕ → List IntOp
edge_code false p k =
    Cpy (dest.B (spare p)) (source.B (power p)) ∷ Ifs (source.B (memory_bit p k)) ∷ Clr (dest.B (power p)) ∷ Fi
    ∷ Cpy (dest.B (memory_bit p k)) (source.B (spare p)) ∷ []
edge_code true p k =
    Cpy (dest.B (spare p)) (source.B (power p)) ∷ Not (dest.B (power p)) (source.B (power p)) ∷ Ifc (source.B (memory_bit p k)) ∷ Clr (dest.B (power p)) ∷ Fi
    ∷ Cpy (dest.B (memory_bit p k)) (source.B (spare p)) ∷ []

-- TON counts where there is power and it is not at its limit, and then switches it off; without power it begins anew.
-- TOF begins anew where there is power; without it, it counts and switches the power on until it is at its limit.
-- RTO counts and switches the power off where it is not at its limit, and else switches it on.
abbrev pub timer_code : Layout → TimerHow → ℕ → ℤ → List IntOp
timer_code p Ton v limit =
    Ifs (source.B (power p)) ∷ Iflt (V v) (N limit) ∷ Inc v ∷ Clr (dest.B (power p)) ∷ Fi ∷ Els ∷ Lit v (pos 0) ∷ Fi ∷ []
timer_code p Tof v limit =
    Ifs (source.B (power p)) ∷ Lit v (pos 0) ∷ Els ∷ Iflt (V v) (N limit) ∷ Inc v ∷ Set (dest.B (power p)) ∷ Fi ∷ Fi ∷ []
timer_code p Rto v limit =
    Iflt (V v) (N limit) ∷ Ifs (source.B (power p)) ∷ Inc v ∷ Clr (dest.B (power p)) ∷ Fi ∷ Els ∷ Set (dest.B (power p)) ∷ Fi ∷ []

-- the operations are executed where there is power and the memory has none; then the memory becomes the power
abbrev pub on_rise : Layout → ℕ → List IntOp → List IntOp
on_rise p k ops =
    Ifs (source.B (power p)) ∷ Ifc (source.B (memory_bit p k)) ∷ (ops ++ (Fi ∷ Fi ∷ Cpy (dest.B (memory_bit p k)) (source.B (power p)) ∷ []))

-- the power is whether the variable is at the limit or past it
abbrev pub reached : Layout → ℕ → ℤ → List IntOp
reached p v limit = Set (dest.B (power p)) ∷ cut_where p (Iflt (V v) (N limit))

-- CTU and CTD give whether the limit is reached; CTC begins anew behind it.
abbrev pub counter_code : Layout → CounterHow → ℕ → ℤ → ℕ → List IntOp
counter_code p Ctu v max k = on_rise p k (Inc v ∷ []) ++ reached p v max
counter_code p Ctd v max k = on_rise p k (Dec v ∷ []) ++ reached p v max
counter_code p Ctc v max k = on_rise p k (Iflt (V v) (N max) ∷ Inc v ∷ Els ∷ Lit v (pos 0) ∷ Fi ∷ [])

abbrev pub move_op : ℕ → NumSource → IntOp
move_op v (V from) = Mov v from
move_op v (N n) = Lit v n

abbrev pub math_op : MathHow → ℕ → NumSource → NumSource → IntOp
math_op math.Add v a b = Add v a b
math_op math.Sub v a b = Sub v a b
math_op math.Mul v a b = Mul v a b
math_op math.Div v a b = Div v a b

abbrev pub compare_code : Layout → CompareHow → NumSource → NumSource → List IntOp
compare_code p Equ a b = cut_unless p (Ifeq a b)
compare_code p Neq a b = cut_where p (Ifeq a b)
compare_code p Grt a b = cut_unless p (Iflt b a)
compare_code p Geq a b = cut_where p (Iflt a b)
compare_code p Les a b = cut_unless p (Iflt a b)
compare_code p Leq a b = cut_where p (Iflt b a)

-- from the last place to the first, each gets the number of the one before it
abbrev pub moves : Layout → List ℕ → ℕ → List IntOp
moves p name zero = []
moves p name (suc zero) = []
moves p name (suc (suc k)) = Mov (variable_of p (name ++ decimal (suc k))) (variable_of p (name ++ decimal k)) ∷ moves p name (suc k)

-- The bit becomes true where there is power, and its opposite where there is none: it is the power where it was true, and
-- true where it was false.
abbrev pub master_code : Layout → List IntOp
master_code p = where_power p (Clr (dest.B (master p))) ++ Not (dest.B (master p)) (source.B (master p)) ∷ []

-- the variable is written where the EEPROM holds another number
abbrev pub save_code : ℕ → ℕ → List IntOp
save_code v a = Ifee v a ∷ Els ∷ Eewr (V v) a ∷ Fi ∷ []

-- Where there is power and the EEPROM is not busy, a variable that was not loaded is, and one that was is written where the
-- EEPROM holds another number. The EEPROM is asked once. The spare wire has what it answered.
abbrev pub persist_code : Layout → List ℕ → List IntOp
persist_code p name =
    Ifs (source.B (power p)) ∷ Eebusy (dest.B (spare p)) ∷ Ifc (source.B (spare p))
    ∷ Ifs (source.B (flag_bit p name)) ∷ (save_code (variable_of p name) (place_of p.persistent name)
    ++ Els ∷ Eerd (variable_of p name) (place_of p.persistent name) ∷ Set (dest.B (flag_bit p name)) ∷ Fi ∷ Fi ∷ Fi ∷ [])

abbrev pub element_code : Layout → LeafKind → ℕ → List IntOp
element_code p (Contacts name neg) k = contact_code p neg name
element_code p (Coil name how) k = coil_code p how name
element_code p Osr k = edge_code false p k
element_code p Osf k = edge_code true p k
element_code p Open k = Clr (dest.B (power p)) ∷ []
element_code p MasterRelay k = master_code p
element_code p (Timer how name delay) k = timer_code p how (variable_of p name) (pos (period p.cycle delay))
element_code p (Counter how name max) k = counter_code p how (variable_of p name) max k
element_code p (Reset name) k = where_power p (Lit (variable_of p name) (pos 0))
element_code p (Move dest src) k = where_power p (move_op (variable_of p dest) (number_of p src))
element_code p (Math how dest a b) k = where_power p (math_op how (variable_of p dest) (number_of p a) (number_of p b))
element_code p (Compare how a b) k = compare_code p how (number_of p a) (number_of p b)
element_code p (Shift name places) k = on_rise p k (moves p name places)
element_code p (Table dest index as_text values) k = where_power p (Tab (variable_of p dest) (number_of p index) values)
element_code p (ReadAdc name) k = where_power p (Adc (variable_of p name) (place_of p.analog name))
element_code p (SetPwm name hz) k = where_power p (Pwm (V (variable_of p name)) hz)
element_code p (Recv name) k = where_power p (Rx (variable_of p name) (dest.B (power p)))
element_code p (Send name) k = Tx (V (variable_of p name)) (source.B (power p)) (dest.B (power p)) ∷ []
element_code p (Persist name) k = persist_code p name
-- these have none
element_code p Short k = []
element_code p Placeholder k = []
element_code p (Comment text) k = []
element_code p (Linear dest index points) k = []
element_code p (Formatted name text) k = []
