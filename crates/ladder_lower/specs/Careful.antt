-- The EEPROM is not written while it is busy.
use Rattle.std.specs.Prelude.{◌≡◌, true, false, List, [], ◌∷◌}
use Rattle.ladder_meaning.specs.declared.reading.Reading.{Reading}
use Rattle.int_code.specs.Meaning.{Moment, is_reached, step, begin}
use Rattle.int_code.specs.Store.{Store}
use Rattle.int_code.specs.declared.op.IntOp.{IntOp}
use Rattle.int_code.specs.declared.op.IntOp.TheVariants.{Set, Clr, Cpy, Not, Ifs, Ifc, Iflt, Ifeq, Ifee, Els, Fi, Lit, Mov, Add, Sub, Mul, Div, Inc, Dec, Adc}
use Rattle.int_code.specs.declared.op.IntOp.TheVariants.{Pwm, Rx, Tx, Eebusy, Eerd, Eewr, Tab}

-- an operation that begins a write finds the EEPROM free
abbrev pub IsFreeFor : IntOp → Store → Type 0
IsFreeFor (Eewr w a) t = t.devices.writing ≡ false
IsFreeFor (Set b) t = Unit {0}
IsFreeFor (Clr b) t = Unit {0}
IsFreeFor (Cpy b s) t = Unit {0}
IsFreeFor (Not b s) t = Unit {0}
IsFreeFor (Ifs s) t = Unit {0}
IsFreeFor (Ifc s) t = Unit {0}
IsFreeFor (Iflt w u) t = Unit {0}
IsFreeFor (Ifeq w u) t = Unit {0}
IsFreeFor (Ifee v a) t = Unit {0}
IsFreeFor Els t = Unit {0}
IsFreeFor Fi t = Unit {0}
IsFreeFor (Lit v n) t = Unit {0}
IsFreeFor (Mov v from) t = Unit {0}
IsFreeFor (Add v w u) t = Unit {0}
IsFreeFor (Sub v w u) t = Unit {0}
IsFreeFor (Mul v w u) t = Unit {0}
IsFreeFor (Div v w u) t = Unit {0}
IsFreeFor (Inc v) t = Unit {0}
IsFreeFor (Dec v) t = Unit {0}
IsFreeFor (Adc v k) t = Unit {0}
IsFreeFor (Pwm w hz) t = Unit {0}
IsFreeFor (Rx v b) t = Unit {0}
IsFreeFor (Tx w s b) t = Unit {0}
IsFreeFor (Eebusy b) t = Unit {0}
IsFreeFor (Eerd v a) t = Unit {0}
IsFreeFor (Tab v w values) t = Unit {0}

-- at each operation that a run executes
abbrev pub RunsCarefully : Reading → List IntOp → Moment → Type 0
RunsCarefully r [] m = Unit {0}
RunsCarefully r (op ∷ ops) m = (is_reached op m.ifs ≡ true → IsFreeFor op m.store) × RunsCarefully r ops (step r op m)

-- in a cycle from any state, on any reading
pub record IsCareful (ops : List IntOp) : Type 0 where
  pub each : (r : Reading) (t : Store) → RunsCarefully r ops (begin r t)
