-- The elements whose operations set no duty, look nothing up, write nothing to the EEPROM and use no serial line.
use Rattle.std.proofs.Common.{◌≡◌, ℕ, zero, suc, Bool, true, false, List, ℤ, refl}
use Rattle.std.proofs.lemmas.List.Folds.{list_any-append}
use Rattle.std.specs.List.{list_any}
use Rattle.ladder_tree.specs.declared.element.CoilMode.TheVariants as mode
use Rattle.ladder_tree.specs.declared.element.CoilMode.{CoilMode}
use Rattle.ladder_tree.specs.declared.element.CompareHow.TheVariants.{Equ, Neq, Grt, Geq, Les, Leq}
use Rattle.ladder_tree.specs.declared.element.CompareHow.{CompareHow}
use Rattle.ladder_tree.specs.declared.element.CounterHow.TheVariants.{Ctu, Ctd, Ctc}
use Rattle.ladder_tree.specs.declared.element.CounterHow.{CounterHow}
use Rattle.ladder_tree.specs.declared.element.LeafKind.TheVariants.{Contacts, Coil, Osr, Osf, Short, Open, MasterRelay, Placeholder, Comment, Timer, Counter}
use Rattle.ladder_tree.specs.declared.element.LeafKind.TheVariants.{Reset, Move, Math, Compare, Shift, Table, ReadAdc, SetPwm, Recv, Send, Persist, Linear}
use Rattle.ladder_tree.specs.declared.element.LeafKind.TheVariants.{Formatted}
use Rattle.ladder_tree.specs.declared.element.LeafKind.{LeafKind}
use Rattle.ladder_tree.specs.declared.element.MathHow.TheVariants as math
use Rattle.ladder_tree.specs.declared.element.MathHow.{MathHow}
use Rattle.ladder_tree.specs.declared.element.TimerHow.TheVariants.{Ton, Tof, Rto}
use Rattle.ladder_tree.specs.declared.element.TimerHow.{TimerHow}
use Rattle.int_code.specs.declared.op.IntOp.TheVariants.{Set, Clr, Cpy, Not, Ifs, Ifc, Iflt, Ifeq, Ifee, Els, Fi, Lit, Mov, Add, Sub, Mul, Div, Inc, Dec, Adc}
use Rattle.int_code.specs.declared.op.IntOp.TheVariants.{Pwm, Rx, Tx, Eebusy, Eerd, Eewr, Tab}
use Rattle.int_code.specs.declared.op.IntOp.{IntOp}
use Rattle.int_code.specs.declared.op.NumSource.TheVariants.{V, N}
use Rattle.int_code.specs.declared.op.NumSource.{NumSource}
use Rattle.ladder_lower.specs.ElementCode.{coil_code, contact_code, timer_code, on_rise, counter_code, where_power, move_op, math_op, compare_code, moves}
use Rattle.ladder_lower.specs.ElementCode.{element_code}
use Rattle.ladder_lower.specs.Wires.{number_of}
use Rattle.ladder_lower.specs.declared.layout.Layout.{Layout}

abbrev pub is_special : IntOp → Bool
is_special (Pwm w hz) = true
is_special (Rx v b) = true
is_special (Tx w s b) = true
is_special (Eewr w a) = true
is_special (Tab v w values) = true
is_special (Set b) = false
is_special (Clr b) = false
is_special (Cpy b s) = false
is_special (Not b s) = false
is_special (Ifs s) = false
is_special (Ifc s) = false
is_special (Iflt w u) = false
is_special (Ifeq w u) = false
is_special (Ifee v a) = false
is_special Els = false
is_special Fi = false
is_special (Lit v n) = false
is_special (Mov v from) = false
is_special (Add v w u) = false
is_special (Sub v w u) = false
is_special (Mul v w u) = false
is_special (Div v w u) = false
is_special (Inc v) = false
is_special (Dec v) = false
is_special (Adc v k) = false
is_special (Eebusy b) = false
is_special (Eerd v a) = false

abbrev pub any_special : List IntOp → Bool
any_special ops = list_any is_special ops

abbrev pub is_special_kind : LeafKind → Bool
is_special_kind (SetPwm name hz) = true
is_special_kind (Recv name) = true
is_special_kind (Send name) = true
is_special_kind (Persist name) = true
is_special_kind (Table dest index as_text values) = true
is_special_kind (Contacts name neg) = false
is_special_kind (Coil name how) = false
is_special_kind Osr = false
is_special_kind Osf = false
is_special_kind Short = false
is_special_kind Open = false
is_special_kind MasterRelay = false
is_special_kind Placeholder = false
is_special_kind (Comment text) = false
is_special_kind (Timer how name delay) = false
is_special_kind (Counter how name max) = false
is_special_kind (Reset name) = false
is_special_kind (Move dest src) = false
is_special_kind (Math how dest a b) = false
is_special_kind (Compare how a b) = false
is_special_kind (Shift name places) = false
is_special_kind (ReadAdc name) = false
is_special_kind (Linear dest index points) = false
is_special_kind (Formatted name text) = false

module _ (p : Layout) where
  contact_plain : (neg : Bool) (name : List ℕ) → any_special (contact_code p neg name) ≡ false
  contact_plain true name = refl
  contact_plain false name = refl

  coil_plain : (how : CoilMode) (name : List ℕ) → any_special (coil_code p how name) ≡ false
  coil_plain mode.Plain name = refl
  coil_plain mode.Negated name = refl
  coil_plain mode.Set name = refl
  coil_plain mode.Reset name = refl

  timer_plain : (how : TimerHow) (v : ℕ) (limit : ℤ) → any_special (timer_code p how v limit) ≡ false
  timer_plain Ton v limit = refl
  timer_plain Tof v limit = refl
  timer_plain Rto v limit = refl

  rise_plain : (k : ℕ) (ops : List IntOp) → any_special ops ≡ false → any_special (on_rise p k ops) ≡ false
  rise_plain k ops e = rw (list_any-append is_special ops, e) refl

  counter_plain : (how : CounterHow) (v : ℕ) (max : ℤ) (k : ℕ) → any_special (counter_code p how v max k) ≡ false
  counter_plain Ctu v max k = refl
  counter_plain Ctd v max k = refl
  counter_plain Ctc v max k = refl

  move_plain : (v : ℕ) (w : NumSource) → any_special (where_power p (move_op v w)) ≡ false
  move_plain v (V from) = refl
  move_plain v (N n) = refl

  math_plain : (how : MathHow) (v : ℕ) (w u : NumSource) → any_special (where_power p (math_op how v w u)) ≡ false
  math_plain math.Add v w u = refl
  math_plain math.Sub v w u = refl
  math_plain math.Mul v w u = refl
  math_plain math.Div v w u = refl

  compare_plain : (how : CompareHow) (w u : NumSource) → any_special (compare_code p how w u) ≡ false
  compare_plain Equ w u = refl
  compare_plain Neq w u = refl
  compare_plain Grt w u = refl
  compare_plain Geq w u = refl
  compare_plain Les w u = refl
  compare_plain Leq w u = refl

  moves_plain : (name : List ℕ) (places : ℕ) → any_special (moves p name places) ≡ false
  moves_plain name zero = refl
  moves_plain name (suc zero) = refl
  moves_plain name (suc (suc k)) = moves_plain name (suc k)

  pub element_plain : (kind : LeafKind) (k : ℕ) → any_special (element_code p kind k) ≡ is_special_kind kind
  element_plain (Contacts name neg) k = contact_plain neg name
  element_plain (Coil name how) k = coil_plain how name
  element_plain (Timer how name delay) k = timer_plain how _ _
  element_plain (Counter how name max) k = counter_plain how _ max k
  element_plain (Move dest src) k = move_plain _ (number_of p src)
  element_plain (Math how dest a b) k = math_plain how _ (number_of p a) (number_of p b)
  element_plain (Compare how a b) k = compare_plain how _ _
  element_plain (Shift name places) k = rise_plain k (moves p name places) (moves_plain name places)
  element_plain _ k = refl
