-- The public list: which kinds of primitives the code of each operation may have, and how often it may begin them.
use Rattle.std.specs.Prelude.{◌≡◌, ◌⊎◌, ℕ, zero, suc, ⊤, Bool, true, List, [], ◌∷◌, ◌++◌, map}
use Rattle.std.specs.List.{flat_map}
use Rattle.chip_tables.specs.declared.target.Target.{Target}
use Rattle.byte_code.specs.declared.prim.Paced.{Paced}
use Rattle.byte_code.specs.Kinds as kind
use Rattle.byte_code.specs.Kinds.{PrimKind, repeated, kinds, boot_kinds, turn_kinds, IsWithin}

-- An operation by its name, and for each of its bits whether that is a wire: `from` is read, and `to` written. A table has its length. An if on a bit whose
-- block is one set or clr is an operation of its own, with its block and its end.
pub data Operation : Type 0 where
  Guarded : (from to : Bool) → Operation
  Set : (to : Bool) → Operation
  Clr : (to : Bool) → Operation
  Cpy : (to from : Bool) → Operation
  Not : (to from : Bool) → Operation
  Ifs : (from : Bool) → Operation
  Ifc : (from : Bool) → Operation
  Iflt : Operation
  Ifeq : Operation
  Ifee : Operation
  Els : Operation
  Fi : Operation
  Lit : Operation
  Mov : Operation
  Add : Operation
  Sub : Operation
  Mul : Operation
  Div : Operation
  Inc : Operation
  Dec : Operation
  Adc : Operation
  Pwm : Operation
  Rx : (to : Bool) → Operation
  Tx : (from to : Bool) → Operation
  Eebusy : (to : Bool) → Operation
  Eerd : Operation
  Eewr : Operation
  Tab : (values : ℕ) → Operation

-- code that operations call
pub data Routine : Type 0 where
  Multiply : Routine
  Divide : Routine
  -- whether the EEPROM is busy; where it is not, the byte that waits for it is written
  Check : Routine
  -- a word from the EEPROM, and to it
  Load : Routine
  Save : Routine

-- What code may have: its primitives, and how often it begins primitives in front of the first reading and in a cycle, those of the routines that it calls
-- among them.
pub record Entry : Type 0 where
  pub code : List PrimKind
  pub boot : List PrimKind
  pub turns : List PrimKind

-- The code of a routine. A product has 8 steps, and a quotient 16.
abbrev pub routine_code : Routine → List PrimKind
routine_code Multiply = kind.Move ∷ kind.PutByte ∷ kind.MultiplyStep ∷ kind.Loop ∷ kind.Return ∷ []
routine_code Divide =
    kind.Xor ∷ kind.NegateIf ∷ kind.NegateIf ∷ kind.Move ∷ kind.PutByte ∷ kind.Equal ∷ kind.JumpOnFlag ∷ kind.DivideStep ∷ kind.Loop ∷ kind.NegateIf ∷
    kind.Return
    ∷ kind.Move ∷ kind.Return ∷ []
routine_code Check = kind.PutBit true ∷ kind.JumpWrites ∷ kind.JumpNoneWaits ∷ kind.EepromFlush ∷ kind.Return ∷ kind.PutBit true ∷ kind.Return ∷ []
routine_code Load = kind.EepromGet ∷ kind.EepromNext ∷ kind.EepromGet ∷ kind.Return ∷ []
routine_code Save = kind.EepromPut ∷ kind.EepromWait ∷ kind.Return ∷ []

-- what is begun more than once in a call
abbrev pub more_steps : Routine → List PrimKind
more_steps Multiply = repeated 7 (kind.MultiplyStep ∷ kind.Loop ∷ [])
more_steps Divide = repeated 15 (kind.DivideStep ∷ kind.Loop ∷ [])
more_steps Check = []
more_steps Load = []
more_steps Save = []

abbrev pub call_turns : Routine → List PrimKind
call_turns r = routine_code r ++ more_steps r

-- a routine's turns are those of its calls
abbrev pub routine_entry : Routine → Entry
routine_entry r = record { code = routine_code r; boot = []; turns = [] }

-- code that is gone through at most once in a cycle, and calls these routines
abbrev pub calling : List Routine → List PrimKind → Entry
calling rs xs = record { code = xs; boot = []; turns = xs ++ flat_map call_turns rs }

abbrev pub plain : List PrimKind → Entry
plain xs = calling [] xs

-- The start, a move for each start value other than 0, the poll of the cycle, and the jump back to it. What the start costs on a chip depends on the devices
-- that a project uses.
abbrev pub start_entry : ℕ → Entry
start_entry starts = record {
  code = kind.Start ∷ kind.CyclePoll ∷ kind.Jump ∷ repeated starts (kind.Move ∷ []);
  boot = kind.Start ∷ kind.CyclePoll ∷ repeated starts (kind.Move ∷ []);
  turns = kind.CyclePoll ∷ kind.Jump ∷ [];
}

-- a conversion: seven turns of a loop give the converter its time
abbrev pub adc_entry : Entry
adc_entry =
    let code = kind.AdcChannel ∷ kind.PutByte ∷ kind.Loop ∷ kind.AdcStart ∷ kind.AdcPoll ∷ kind.AdcRead ∷ [] in
    record { code = code; boot = []; turns = code ++ repeated 6 (kind.Loop ∷ []) }

-- the duty is brought within 0 and 100, and becomes a part of the register's top
abbrev pub pwm_code : List PrimKind
pwm_code = repeated 2 (kind.Less ∷ kind.JumpOnFlag ∷ kind.Call ∷ []) ++ (repeated 6 (kind.Move ∷ []) ++ kind.PwmDuty ∷ [])

-- a value is taken where the index is below their number
abbrev pub tab_code : ℕ → List PrimKind
tab_code zero = []
tab_code (suc zero) = kind.Equal ∷ kind.JumpOnFlag ∷ kind.Move ∷ []
tab_code (suc (suc n)) = kind.Below ∷ kind.JumpOnFlag ∷ kind.Move ∷ kind.Table (suc (suc n)) ∷ kind.Move ∷ []

-- a sum or a difference of which one part is a known number may be a move or a step of 1
abbrev pub simpler : List Entry
simpler = plain (kind.Move ∷ []) ∷ plain (kind.Increment ∷ []) ∷ plain (kind.Decrement ∷ []) ∷ []

-- a comparison that is known, as one of two numbers is, may be a jump
abbrev pub known : List Entry
known = plain (kind.Jump ∷ []) ∷ []

-- what an operation may have: one of these
abbrev pub entries : Operation → List Entry
entries (Guarded from to) = plain (kind.PutBitIf from to ∷ []) ∷ []
entries (Set to) = plain (kind.PutBit to ∷ []) ∷ []
entries (Clr to) = plain (kind.PutBit to ∷ []) ∷ []
entries (Cpy to from) = plain (kind.CopyBit to from ∷ []) ∷ []
entries (Not to from) = plain (kind.CopyBit to from ∷ []) ∷ []
entries (Ifs from) = plain (kind.JumpIf from ∷ []) ∷ []
entries (Ifc from) = plain (kind.JumpIf from ∷ []) ∷ []
entries Iflt = plain (kind.Less ∷ kind.JumpOnFlag ∷ []) ∷ known
entries Ifeq = plain (kind.Equal ∷ kind.JumpOnFlag ∷ []) ∷ known
entries Ifee = calling (Load ∷ []) (kind.EepromAt ∷ kind.Call ∷ kind.Equal ∷ kind.JumpOnFlag ∷ []) ∷ []
entries Els = plain (kind.Jump ∷ []) ∷ []
entries Fi = plain [] ∷ []
entries Lit = plain (kind.Move ∷ []) ∷ []
entries Mov = plain (kind.Move ∷ []) ∷ []
entries Add = plain (kind.Add ∷ []) ∷ simpler
entries Sub = plain (kind.Subtract ∷ []) ∷ plain (kind.Add ∷ []) ∷ simpler
entries Mul = calling (Multiply ∷ []) (kind.Move ∷ kind.Move ∷ kind.Call ∷ kind.Move ∷ []) ∷ []
entries Div = calling (Divide ∷ []) (kind.Move ∷ kind.Move ∷ kind.Call ∷ kind.Move ∷ []) ∷ []
entries Inc = plain (kind.Increment ∷ []) ∷ []
entries Dec = plain (kind.Decrement ∷ []) ∷ []
entries Adc = adc_entry ∷ []
entries Pwm = calling (Multiply ∷ Divide ∷ []) pwm_code ∷ []
entries (Rx to) = plain (kind.PutBit to ∷ kind.JumpNoByte ∷ kind.TakeByte ∷ kind.PutBit to ∷ []) ∷ []
entries (Tx from to) = plain (kind.JumpSends ∷ kind.JumpIf from ∷ kind.Send ∷ kind.CopyBit to from ∷ kind.Jump ∷ kind.PutBit to ∷ []) ∷ []
entries (Eebusy to) = calling (Check ∷ []) (kind.Call ∷ kind.CopyBit to true ∷ []) ∷ []
entries Eerd = calling (Load ∷ []) (kind.EepromAt ∷ kind.Call ∷ kind.Move ∷ []) ∷ []
entries Eewr = calling (Save ∷ []) (kind.Move ∷ kind.EepromAt ∷ kind.Call ∷ []) ∷ []
entries (Tab n) = plain (tab_code n) ∷ []

abbrev pub IsOneOf : Entry → List Entry → Type 0
IsOneOf e [] = ⊥
IsOneOf e (x ∷ xs) = (e ≡ x) ⊎ IsOneOf e xs

-- one entry of each operation, in order
abbrev pub AreChosen : List Operation → List Entry → Type 0
AreChosen [] [] = ⊤
AreChosen [] (e ∷ es) = ⊥
AreChosen (o ∷ ops) [] = ⊥
AreChosen (o ∷ ops) (e ∷ es) = IsOneOf e (entries o) × AreChosen ops es

abbrev pub whole : ℕ → List Routine → List Entry → List Entry
whole starts routines choice = start_entry starts ∷ (choice ++ map routine_entry routines)

-- code for the operations, with so many start values other than 0 and these routines, has and begins no more than the list allows
pub record IsListed (t : Target) (starts : ℕ) (routines : List Routine) (ops : List Operation) (prims : List Paced) : Type 0 where
  pub choice : List Entry
  pub chosen : AreChosen ops choice
  pub primitives : IsWithin (kinds t prims) (flat_map (λ e. e.code) (whole starts routines choice))
  pub boot : IsWithin (boot_kinds t prims) (flat_map (λ e. e.boot) (whole starts routines choice))
  pub turns : IsWithin (turn_kinds t prims) (flat_map (λ e. e.turns) (whole starts routines choice))
