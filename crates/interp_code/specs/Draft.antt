-- What the reader does with each line. Its own functions are held to this: what a text says does not rest on it.
use Rattle.std.specs.Prelude.{ℕ, Bool, true, false, ◌&&◌, List, [], ◌∷◌, ◌++◌, ℤ, length, nat_lt, nat_le, nat_eq, Option, None, Some, if◌then◌else◌}
use Rattle.std.specs.Option.{option_map, option_and_then}
use Rattle.std.specs.List.{list_any}
use Rattle.std.specs.Str.{bytes_eq}
use Rattle.texts.specs.Keys.{with_key}
use Rattle.ladder_tree.specs.declared.names.Names.{Names}
use Rattle.int_code.specs.declared.op.BitDest.{BitDest}
use Rattle.int_code.specs.declared.op.BitDest.TheVariants as dest
use Rattle.int_code.specs.declared.op.BitSource.{BitSource}
use Rattle.int_code.specs.declared.op.BitSource.TheVariants as source
use Rattle.int_code.specs.declared.op.NumSource.{NumSource}
use Rattle.int_code.specs.declared.op.NumSource.TheVariants.{V, N}
use Rattle.int_code.specs.declared.op.IntOp.{IntOp}
use Rattle.int_code.specs.declared.op.IntOp.TheVariants.{Set, Clr, Cpy, Not, Ifs, Ifc, Iflt, Ifeq, Ifee, Els, Fi, Lit, Mov, Add, Sub, Mul, Div, Inc, Dec, Adc, Pwm, Rx, Tx, Eebusy, Eerd, Eewr, Tab}
use Rattle.int_code.specs.declared.op.Shape.{Shape}
use Rattle.int_code.specs.declared.op.Shape.TheVariants.{Opens, Turns, Closes, Plain}
use Rattle.int_code.specs.declared.limits.TheConstants.{MOST_BITS, MOST_PERSISTENT}
use Rattle.int_code.specs.Shapes.{shape_of}
use Rattle.int_code.specs.WellFormed.{Sizes, most_values}
use Rattle.interp_code.specs.declared.reader.Stage.{Stage}
use Rattle.interp_code.specs.declared.reader.Stage.TheVariants as stage
use Rattle.interp_code.specs.Program.{are_in}
use Rattle.interp_code.specs.Line.{Line, Magic, Cycle, Input, Output, Analog, Variable, Relay, Persistent, BitCount, Code, Operation, End, line_of}

-- what was read
pub record Draft : Type 0 where
  pub stage : Stage
  pub cycle : ℕ
  pub names : Names
  -- a start value for each variable
  pub starts : List ℤ
  pub bits : ℕ
  pub ops : List IntOp
  -- for each open if, the innermost first, whether it had its els
  pub ifs : List Bool

abbrev pub no_names : Names
no_names = record { inputs = []; outputs = []; relays = []; variables = []; analog = []; persistent = []; memories = 0 }

abbrev pub start : Draft
start = record { stage = stage.Start; cycle = 0; names = no_names; starts = []; bits = 0; ops = []; ifs = [] }

abbrev pub sizes_with : ℕ → Names → Sizes
sizes_with bits names = record {
  bits = bits;
  outputs = length names.outputs;
  inputs = length names.inputs;
  analogs = length names.analog;
  variables = length names.variables;
  persistent = length names.persistent;
}

abbrev pub sizes : Draft → Sizes
sizes d = sizes_with d.bits d.names

abbrev pub is_dest : Sizes → BitDest → Bool
is_dest n (dest.B k) = nat_lt k n.bits
is_dest n (dest.Y k) = nat_lt k n.outputs

abbrev pub is_source : Sizes → BitSource → Bool
is_source n (source.B k) = nat_lt k n.bits
is_source n (source.X k) = nat_lt k n.inputs
is_source n (source.Y k) = nat_lt k n.outputs

abbrev pub is_variable : Sizes → ℕ → Bool
is_variable n v = nat_lt v n.variables

abbrev pub is_number : Sizes → NumSource → Bool
is_number n (V v) = is_variable n v
is_number n (N number) = true

abbrev pub is_computed : Sizes → ℕ → NumSource → NumSource → Bool
is_computed n v w u = is_variable n v && (is_number n w && is_number n u)

abbrev pub is_in_range : Sizes → IntOp → Bool
is_in_range n (Set b) = is_dest n b
is_in_range n (Clr b) = is_dest n b
is_in_range n (Cpy b s) = is_dest n b && is_source n s
is_in_range n (Not b s) = is_dest n b && is_source n s
is_in_range n (Ifs s) = is_source n s
is_in_range n (Ifc s) = is_source n s
is_in_range n (Iflt w u) = is_number n w && is_number n u
is_in_range n (Ifeq w u) = is_number n w && is_number n u
is_in_range n (Ifee v a) = is_variable n v && nat_lt a n.persistent
is_in_range n Els = true
is_in_range n Fi = true
is_in_range n (Lit v number) = is_variable n v
is_in_range n (Mov v from) = is_variable n v && is_variable n from
is_in_range n (Add v w u) = is_computed n v w u
is_in_range n (Sub v w u) = is_computed n v w u
is_in_range n (Mul v w u) = is_computed n v w u
is_in_range n (Div v w u) = is_computed n v w u
is_in_range n (Inc v) = is_variable n v
is_in_range n (Dec v) = is_variable n v
is_in_range n (Adc v k) = is_variable n v && nat_lt k n.analogs
is_in_range n (Pwm w hz) = is_number n w
is_in_range n (Rx v b) = is_variable n v && is_dest n b
is_in_range n (Tx w s b) = is_number n w && (is_source n s && is_dest n b)
is_in_range n (Eebusy b) = is_dest n b
is_in_range n (Eerd v a) = is_variable n v && nat_lt a n.persistent
is_in_range n (Eewr w a) = is_number n w && nat_lt a n.persistent
is_in_range n (Tab v w values) = is_variable n v && (is_number n w && nat_le (length values) most_values)

-- the open ifs behind an operation of a shape
abbrev pub ifs_behind : Shape → List Bool → Option (List Bool)
ifs_behind Opens es = Some (false ∷ es)
ifs_behind Turns [] = None
ifs_behind Turns (e ∷ es) = if e then None else Some (true ∷ es)
ifs_behind Closes [] = None
ifs_behind Closes (e ∷ es) = Some es
ifs_behind Plain es = Some es

abbrev pub is_none : {A : Type 0} → List A → Bool
is_none xs = nat_eq (length xs) 0

-- the draft with a name more
abbrev pub with_input : Draft → List ℕ → Option Draft
with_input d n = option_map (λ ns. record d { names = record d.names { inputs = ns } }) (with_key n d.names.inputs)

abbrev pub with_output : Draft → List ℕ → Option Draft
with_output d n = option_map (λ ns. record d { names = record d.names { outputs = ns } }) (with_key n d.names.outputs)

abbrev pub with_analog : Draft → List ℕ → Option Draft
with_analog d n = option_map (λ ns. record d { names = record d.names { analog = ns } }) (with_key n d.names.analog)

abbrev pub with_variable : Draft → List ℕ → ℤ → Option Draft
with_variable d n value =
    option_map (λ ns. record d { names = record d.names { variables = ns }; starts = d.starts ++ value ∷ [] }) (with_key n d.names.variables)

abbrev pub with_relay : Draft → List ℕ → Option Draft
with_relay d n = option_map (λ ns. record d { stage = stage.Kept; names = record d.names { relays = ns } }) (with_key n d.names.relays)

abbrev pub with_persistent : Draft → List ℕ → Option Draft
with_persistent d n = option_map (λ ns. record d { stage = stage.Kept; names = record d.names { persistent = ns } }) (with_key n d.names.persistent)

-- relays, persistent variables and the number of bits, behind the other names
abbrev pub step_kept : Draft → Line → Option Draft
step_kept d (Relay n) = if is_none d.names.persistent && nat_lt (length d.names.relays) MOST_BITS then with_relay d n else None
step_kept d (Persistent n) = if list_any (bytes_eq n) d.names.variables && nat_lt (length d.names.persistent) MOST_PERSISTENT then with_persistent d n else None
step_kept d (BitCount n) = if nat_le (length d.names.relays) n && nat_le n MOST_BITS then Some (record d { stage = stage.Sized; bits = n }) else None
step_kept d l = None

abbrev pub step_at : Stage → Draft → Line → Option Draft
step_at stage.Start d Magic = Some (record d { stage = stage.Headed })
step_at stage.Headed d (Cycle n) = Some (record d { stage = stage.Named; cycle = n })
step_at stage.Named d (Input n) = if is_none d.names.outputs && (is_none d.names.analog && is_none d.names.variables) then with_input d n else None
step_at stage.Named d (Output n) = if is_none d.names.analog && is_none d.names.variables then with_output d n else None
step_at stage.Named d (Analog n) = if is_none d.names.variables then with_analog d n else None
step_at stage.Named d (Variable n value) = with_variable d n value
step_at stage.Named d l = if are_in d.names.variables d.names.analog then step_kept d l else None
step_at stage.Kept d l = step_kept d l
step_at stage.Sized d Code = Some (record d { stage = stage.Coded })
step_at stage.Coded d (Operation op) =
    if is_in_range (sizes d) op then option_map (λ es. record d { ops = d.ops ++ op ∷ []; ifs = es }) (ifs_behind (shape_of op) d.ifs) else None
step_at stage.Coded d End = if is_none d.ifs then Some (record d { stage = stage.Ended }) else None
step_at s d l = None

abbrev pub step : Draft → Line → Option Draft
step d l = step_at d.stage d l

abbrev pub step_line : Draft → List ℕ → Option Draft
step_line d bytes = option_and_then (step d) (line_of bytes)

abbrev pub read : Draft → List (List ℕ) → Option Draft
read d [] = Some d
read d (l ∷ ls) = option_and_then (λ e. read e ls) (step_line d l)

abbrev pub is_ended : Stage → Bool
is_ended stage.Ended = true
is_ended s = false
