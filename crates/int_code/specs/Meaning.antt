-- What operations do in a cycle, and how many of them are executed.
use Rattle.std.specs.Prelude.{ℕ, ◌+◌, Bool, true, false, not, ◌&&◌, List, [], ◌∷◌, ℤ, pos, ◌-ℤ◌, int_lt, if◌then◌else◌, slice_index_or, Option, None, Some}
use Rattle.std.specs.Ordering.{int_eq}
use Rattle.ld_base.specs.Wrap.{wrap}
use Rattle.ladder_tree.specs.declared.element.MathHow.TheVariants as how
use Rattle.ladder_meaning.specs.Numbers.{next, computed, value_at}
use Rattle.ladder_meaning.specs.declared.reading.Reading.{Reading}
use Rattle.int_code.specs.Device.{saved, saves, is_busy, checked, sends, with_duty}
use Rattle.int_code.specs.Shapes.{shape_of}
use Rattle.int_code.specs.Store.{Store, opened, value_of, number_of, with, with_number, with_devices}
use Rattle.int_code.specs.declared.op.BitDest.{BitDest}
use Rattle.int_code.specs.declared.op.IntOp.{IntOp}
use Rattle.int_code.specs.declared.op.IntOp.TheVariants.{Set, Clr, Cpy, Not, Ifs, Ifc, Iflt, Ifeq, Ifee, Els, Fi, Lit, Mov, Add, Sub, Mul, Div, Inc, Dec, Adc, Pwm, Rx, Tx, Eebusy, Eerd, Eewr, Tab}
use Rattle.int_code.specs.declared.op.Shape.{Shape}
use Rattle.int_code.specs.declared.op.Shape.TheVariants.{Opens, Turns, Closes, Plain}

-- Where a run stands: for each open if, the innermost first, whether its branch runs; what operations wrote; and how many
-- of them were executed.
pub record Moment : Type 0 where
  pub ifs : List Bool
  pub store : Store
  pub count : ℕ

-- the branch of each open if runs
abbrev pub all_run : List Bool → Bool
all_run [] = true
all_run (b ∷ bs) = all_run bs && b

-- whether the first branch of an if runs; what opens none has no such branch
abbrev pub holds : Reading → IntOp → Store → Bool
holds r (Ifs s) t = value_of r t s
holds r (Ifc s) t = not (value_of r t s)
holds r (Iflt w u) t = int_lt (number_of t w) (number_of t u)
holds r (Ifeq w u) t = int_eq (number_of t w) (number_of t u)
holds r (Ifee v a) t = int_eq (t.number v) (saved t.devices a)
holds r (Set b) t = true
holds r (Clr b) t = true
holds r (Cpy b s) t = true
holds r (Not b s) t = true
holds r Els t = true
holds r Fi t = true
holds r (Lit v n) t = true
holds r (Mov v from) t = true
holds r (Add v w u) t = true
holds r (Sub v w u) t = true
holds r (Mul v w u) t = true
holds r (Div v w u) t = true
holds r (Inc v) t = true
holds r (Dec v) t = true
holds r (Adc v k) t = true
holds r (Pwm w hz) t = true
holds r (Rx v b) t = true
holds r (Tx w s b) t = true
holds r (Eebusy b) t = true
holds r (Eerd v a) t = true
holds r (Eewr w a) t = true
holds r (Tab v w values) t = true

-- the open ifs behind an operation of a shape, which opens one whose first branch runs or not
abbrev pub ifs_behind : Shape → Bool → List Bool → List Bool
ifs_behind Opens runs bs = runs ∷ bs
ifs_behind Turns runs [] = []
ifs_behind Turns runs (b ∷ bs) = not b ∷ bs
ifs_behind Closes runs [] = []
ifs_behind Closes runs (b ∷ bs) = bs
ifs_behind Plain runs bs = bs

abbrev pub ifs_after : Reading → IntOp → Store → List Bool → List Bool
ifs_after r op t bs = ifs_behind (shape_of op) (holds r op t) bs

-- The run comes to an operation where each open if's branch runs. It comes to a `fi` also from a branch that does not.
abbrev pub is_reached_by : Shape → List Bool → Bool
is_reached_by Opens bs = all_run bs
is_reached_by Turns bs = all_run bs
is_reached_by Closes [] = true
is_reached_by Closes (b ∷ bs) = all_run bs
is_reached_by Plain bs = all_run bs

abbrev pub is_reached : IntOp → List Bool → Bool
is_reached op bs = is_reached_by (shape_of op) bs

-- a variable gets a number, if there is one
abbrev pub looked_up : Store → ℕ → Option ℤ → Store
looked_up t v None = t
looked_up t v (Some n) = with_number t v n

-- a variable gets the received byte, if there is one that was not taken
abbrev pub received : Store → ℕ → BitDest → Option ℕ → Store
received t v b None = with t b false
received t v b (Some byte) = with (with_devices (with_number t v (pos byte)) (record t.devices { received = None })) b true

-- a bit tells whether the transmitter sends
abbrev pub told : Store → BitDest → Store
told t b = with t b t.devices.sending

abbrev pub transmitted : Store → Bool → ℤ → Store
transmitted t wanted n = if wanted then with_devices t (sends t.devices n) else t

-- what an operation writes that is executed
abbrev pub store_after : Reading → IntOp → Store → Store
store_after r (Set b) t = with t b true
store_after r (Clr b) t = with t b false
store_after r (Cpy b s) t = with t b (value_of r t s)
store_after r (Not b s) t = with t b (not (value_of r t s))
store_after r (Lit v n) t = with_number t v n
store_after r (Mov v from) t = with_number t v (t.number from)
store_after r (Add v w u) t = with_number t v (computed how.Add (number_of t w) (number_of t u))
store_after r (Sub v w u) t = with_number t v (computed how.Sub (number_of t w) (number_of t u))
store_after r (Mul v w u) t = with_number t v (computed how.Mul (number_of t w) (number_of t u))
store_after r (Div v w u) t = with_number t v (computed how.Div (number_of t w) (number_of t u))
store_after r (Inc v) t = with_number t v (next (t.number v))
store_after r (Dec v) t = with_number t v (wrap (t.number v -ℤ pos 1))
store_after r (Adc v k) t = with_number t v (slice_index_or r.analog k (pos 0))
store_after r (Pwm w hz) t = with_devices t (with_duty t.devices (number_of t w))
store_after r (Rx v b) t = received t v b t.devices.received
store_after r (Tx w s b) t = told (transmitted t (value_of r t s) (number_of t w)) b
store_after r (Eebusy b) t = with (with_devices t (checked t.devices)) b (is_busy t.devices)
store_after r (Eerd v a) t = with_number t v (saved t.devices a)
store_after r (Eewr w a) t = with_devices t (saves t.devices a (number_of t w))
store_after r (Tab v w values) t = looked_up t v (value_at values (number_of t w))
store_after r (Ifs s) t = t
store_after r (Ifc s) t = t
store_after r (Iflt w u) t = t
store_after r (Ifeq w u) t = t
store_after r (Ifee v a) t = t
store_after r Els t = t
store_after r Fi t = t

abbrev pub step : Reading → IntOp → Moment → Moment
step r op m = record {
  ifs = ifs_after r op m.store m.ifs;
  store = if is_reached op m.ifs then store_after r op m.store else m.store;
  count = if is_reached op m.ifs then m.count + 1 else m.count;
}

abbrev pub run : Reading → List IntOp → Moment → Moment
run r [] m = m
run r (op ∷ ops) m = run r ops (step r op m)

abbrev pub begin : Reading → Store → Moment
begin r t = record { ifs = []; store = opened r t; count = 0 }

-- the moment at the end of a cycle
abbrev pub cycle : Reading → List IntOp → Store → Moment
cycle r ops t = run r ops (begin r t)

-- the moment at the end of each cycle
abbrev pub history : List IntOp → Store → List Reading → List Moment
history ops t [] = []
history ops t (r ∷ rs) = cycle r ops t ∷ history ops (cycle r ops t).store rs
