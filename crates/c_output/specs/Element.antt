-- The C text of an element: one line. It finds its input in f, and leaves its output there.
-- f, m, r, t and e are the power, the master relay bit, the received byte or -1, and whether the transmitter and the EEPROM are busy; x keeps a level for a
-- moment. h, ha and hn are whether a byte waits to be written to the EEPROM, its address and the byte. b_, v_, k_ and s_ are a bit, a variable, a memory and
-- whether a persistent variable is loaded.
use Rattle.std.specs.Prelude.{ℕ, zero, suc, ◌+◌, Bool, true, false, List, [], ◌∷◌, ◌++◌, ℤ, codes}
use Rattle.std.specs.Fmt.{decimal, signed_decimal}
use Rattle.ladder_tree.specs.declared.element.CoilMode.{CoilMode}
use Rattle.ladder_tree.specs.declared.element.CoilMode.TheVariants as mode
use Rattle.ladder_tree.specs.declared.element.TimerHow.{TimerHow}
use Rattle.ladder_tree.specs.declared.element.TimerHow.TheVariants as timer
use Rattle.ladder_tree.specs.declared.element.CounterHow.{CounterHow}
use Rattle.ladder_tree.specs.declared.element.CounterHow.TheVariants as counter
use Rattle.ladder_tree.specs.declared.element.MathHow.{MathHow}
use Rattle.ladder_tree.specs.declared.element.MathHow.TheVariants as math
use Rattle.ladder_tree.specs.declared.element.CompareHow.{CompareHow}
use Rattle.ladder_tree.specs.declared.element.CompareHow.TheVariants as test
use Rattle.ladder_tree.specs.declared.element.LeafKind.{LeafKind}
use Rattle.ladder_tree.specs.declared.element.LeafKind.TheVariants.{Contacts, Coil, Osr, Osf, Short, Open, MasterRelay, Placeholder, Comment, Timer, Counter}
use Rattle.ladder_tree.specs.declared.element.LeafKind.TheVariants.{Reset, Move, Math, Compare, Shift, Table, ReadAdc, SetPwm, Recv, Send, Persist, Linear}
use Rattle.ladder_tree.specs.declared.element.LeafKind.TheVariants.{Formatted}
use Rattle.ladder_meaning.specs.Numbers.{period}
use Rattle.ladder_meaning.specs.Persist.{address_of}
use Rattle.ladder_meaning.specs.State.{place_of}
use Rattle.c_output.specs.Filled.{filled, named, numbered}
use Rattle.c_output.specs.Operand.{operand_text}

-- what the text of an element needs of its project: its cycle in microseconds, and its analog and persistent names in order
pub record Terms : Type 0 where
  pub cycle : ℕ
  pub analog : List (List ℕ)
  pub persistent : List (List ℕ)

abbrev pub contact_template : Bool → List ℕ
contact_template false = codes "if (!b_@) f = 0;\n"
contact_template true = codes "if (b_@) f = 0;\n"

abbrev pub coil_template : CoilMode → List ℕ
coil_template mode.Plain = codes "b_@ = f;\n"
coil_template mode.Negated = codes "b_@ = !f;\n"
coil_template mode.Set = codes "if (f) b_@ = 1;\n"
coil_template mode.Reset = codes "if (f) b_@ = 0;\n"

-- # is the delay in cycles
abbrev pub timer_template : TimerHow → List ℕ
timer_template timer.Ton = codes "if (f) { if (v_@ < #) { v_@ = v_@ + 1; f = 0; } } else v_@ = 0;\n"
timer_template timer.Tof = codes "if (f) v_@ = 0; else if (v_@ < #) { v_@ = v_@ + 1; f = 1; }\n"
timer_template timer.Rto = codes "if (v_@ < #) { if (f) v_@ = v_@ + 1; f = 0; } else f = 1;\n"

-- # is the memory's number, and $ the limit
abbrev pub counter_template : CounterHow → List ℕ
counter_template counter.Ctu = codes "if (f && !k_#) v_@ = w16((long)v_@ + 1); k_# = f; f = v_@ >= ($L);\n"
counter_template counter.Ctd = codes "if (f && !k_#) v_@ = w16((long)v_@ - 1); k_# = f; f = v_@ >= ($L);\n"
counter_template counter.Ctc = codes "if (f && !k_#) v_@ = v_@ >= ($L) ? 0 : v_@ + 1; k_# = f;\n"

-- # and $ are the operands
abbrev pub math_template : MathHow → List ℕ
math_template math.Add = codes "if (f) v_@ = w16(# + $);\n"
math_template math.Sub = codes "if (f) v_@ = w16(# - $);\n"
math_template math.Mul = codes "if (f) v_@ = w16(# * $);\n"
math_template math.Div = codes "if (f) v_@ = d16(#, $);\n"

abbrev pub compare_template : CompareHow → List ℕ
compare_template test.Equ = codes "if (!(# == $)) f = 0;\n"
compare_template test.Neq = codes "if (!(# != $)) f = 0;\n"
compare_template test.Grt = codes "if (!(# > $)) f = 0;\n"
compare_template test.Geq = codes "if (!(# >= $)) f = 0;\n"
compare_template test.Les = codes "if (!(# < $)) f = 0;\n"
compare_template test.Leq = codes "if (!(# <= $)) f = 0;\n"

-- from the last place to the first, each gets the number of the one before it
abbrev pub moves_text : List ℕ → ℕ → List ℕ
moves_text name zero = []
moves_text name (suc zero) = []
moves_text name (suc (suc k)) = filled (codes " v_@# = v_@$;") name (decimal (suc k)) (decimal k) ++ moves_text name (suc k)

abbrev pub shift_text : List ℕ → ℕ → ℕ → List ℕ
shift_text name places k = numbered (codes "if (f && !k_#) {") k ++ (moves_text name places ++ numbered (codes " } k_# = f;\n") k)

-- a case for each value, from an index on
abbrev pub cases_text : List ℕ → ℕ → List ℤ → List ℕ
cases_text dest index [] = []
cases_text dest index (n ∷ ns) = filled (codes " case #: v_@ = w16($L); break;") dest (decimal index) (signed_decimal n) ++ cases_text dest (index + 1) ns

abbrev pub table_text : List ℕ → List ℕ → List ℤ → List ℕ
table_text dest index values = filled (codes "if (f) switch (#) {") [] index [] ++ (cases_text dest 0 values ++ codes " }\n")

-- The variable gets its number once, and is written where the EEPROM holds another one: its low byte now, and its high byte later.
abbrev pub load_template : List ℕ
load_template = codes "if (f) { if (!s_@ && !ck()) { s_@ = 1; v_@ = w16(ld_eerd(#) + 256L * ld_eerd($)); }"

abbrev pub differs_template : List ℕ
differs_template = codes " if (!ck() && v_@ != w16(ld_eerd(#) + 256L * ld_eerd($)))"

abbrev pub save_template : List ℕ
save_template = codes " { ld_eewr(#, v_@ & 255); e = 1; h = 1; ha = $; hn = (int)(((long)v_@ & 65535) >> 8); } }\n"

-- # and $ are the addresses of the low and of the high byte
abbrev pub persist_text : List ℕ → ℕ → List ℕ
persist_text name address =
    filled load_template name (decimal address) (decimal (address + 1))
    ++ (filled differs_template name (decimal address) (decimal (address + 1)) ++ filled save_template name (decimal address) (decimal (address + 1)))

-- # is the number of the analog input
abbrev pub adc_template : List ℕ
adc_template = codes "if (f) v_@ = ld_adc(#);\n"

-- # is hertz
abbrev pub pwm_template : List ℕ
pwm_template = codes "if (f) ld_pwm(v_@ < 0 ? 0 : v_@ > 100 ? 100 : v_@, #L);\n"

abbrev pub recv_template : List ℕ
recv_template = codes "if (f && r >= 0) { v_@ = r; r = -1; } else f = 0;\n"

abbrev pub send_template : List ℕ
send_template = codes "if (f && !t) { ld_send(v_@ & 255); t = 1; } f = t;\n"

-- an element behind k memories
abbrev pub element_text : Terms → LeafKind → ℕ → List ℕ
element_text p (Contacts name neg) k = named (contact_template neg) name
element_text p (Coil name how) k = named (coil_template how) name
element_text p Osr k = numbered (codes "x = f; f = f && !k_#; k_# = x;\n") k
element_text p Osf k = numbered (codes "x = f; f = !f && k_#; k_# = x;\n") k
element_text p Open k = codes "f = 0;\n"
element_text p MasterRelay k = codes "if (m) m = f; else m = 1;\n"
element_text p (Timer how name delay) k = filled (timer_template how) name (decimal (period p.cycle delay)) []
element_text p (Counter how name max) k = filled (counter_template how) name (decimal k) (signed_decimal max)
element_text p (Reset name) k = named (codes "if (f) v_@ = 0;\n") name
element_text p (Move dest src) k = filled (codes "if (f) v_@ = w16(#);\n") dest (operand_text src) []
element_text p (Math how dest a b) k = filled (math_template how) dest (operand_text a) (operand_text b)
element_text p (Compare how a b) k = filled (compare_template how) [] (operand_text a) (operand_text b)
element_text p (Shift name places) k = shift_text name places k
element_text p (Table dest index as_text values) k = table_text dest (operand_text index) values
element_text p (ReadAdc name) k = filled adc_template name (decimal (place_of p.analog name)) []
element_text p (SetPwm name hz) k = filled pwm_template name (decimal hz) []
element_text p (Recv name) k = named recv_template name
element_text p (Send name) k = named send_template name
element_text p (Persist name) k = persist_text name (address_of p.persistent name)
-- these have none
element_text p Short k = []
element_text p Placeholder k = []
element_text p (Comment text) k = []
element_text p (Linear dest index points) k = []
element_text p (Formatted name text) k = []
