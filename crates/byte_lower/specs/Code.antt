-- The code of a program, and what each run of it does.
use Rattle.std.specs.Prelude.{◌≡◌, ℕ, zero, suc, ◌<◌, ◌≤◌, Bool, true, false, List, [], ◌∷◌, ◌++◌, length, map, count_by, All, ℤ, pos, if◌then◌else◌, slice_index, slice_index_or, slice_get, Some, None}
use Rattle.std.specs.Ordering.{int_eq}
use Rattle.chip_tables.specs.Scratch.{scratch_of}
use Rattle.chip_tables.specs.declared.memory.TheConstants.{DATA_ADDRESSES}
use Rattle.chip_tables.specs.declared.outside.PinReading.{PinReading}
use Rattle.runs.specs.Run.{Moment, moment, first_moment}
use Rattle.ladder_meaning.specs.declared.reading.Reading.{Reading}
use Rattle.mem_plan.specs.Needs.{ram_need}
use Rattle.int_code.specs.Literals.{IsNumber, AllHoldNumbers}
use Rattle.int_code.specs.Meaning.{cycle}
use Rattle.int_code.specs.Store.{Store, start}
use Rattle.int_code.specs.WellFormed.{IsInRange, nests}
use Rattle.int_code.specs.declared.op.IntOp.{IntOp}
use Rattle.int_code.specs.declared.op.IntProgram.{IntProgram}
use Rattle.byte_code.specs.declared.prim.BytePrim.{BytePrim}
use Rattle.byte_code.specs.declared.prim.BytePrim.TheVariants.{Start, CyclePoll, Label, Jump}
use Rattle.byte_code.specs.declared.prim.Paced.{Paced}
use Rattle.byte_code.specs.declared.prim.Shape.TheVariants.{AtPoll}
use Rattle.byte_code.specs.declared.state.Bytes.{Bytes}
use Rattle.byte_code.specs.Counts.{Counted, counted_step, uncounted, KeepsCounts}
use Rattle.byte_code.specs.Table.{shape_of}
use Rattle.byte_routines.specs.Routines.{multiply, divide}
use Rattle.byte_lower.specs.Layout.{own_cells, room_of, HasPins}
use Rattle.byte_lower.specs.Lists.{is_built, paced, number, move, lists_of, calls_product, calls_quotient}
use Rattle.byte_lower.specs.Stands.{Stands, seen}
use Rattle.byte_lower.specs.declared.layout.Layout.{Layout}

-- begun once at most in front of the first reading, and in no cycle
abbrev pub booted : BytePrim → Paced
booted p = record { prim = p; boot = 1; turns = 0 }

-- begun once at most in front of the first reading, and once at most in each cycle
abbrev pub polling : BytePrim → Paced
polling p = record { prim = p; boot = 1; turns = 1 }

-- the start values of the variables from number v on, of which 0 takes no primitive
abbrev pub start_values : Layout → List ℤ → ℕ → List Paced
start_values o [] v = []
start_values o (n ∷ ns) v = if int_eq n (pos 0) then start_values o ns (suc v) else booted (move o v (number n)) ∷ start_values o ns (suc v)

-- a routine that is called so often stands once, and one that is not called nowhere
abbrev pub if_called : (ℕ → List Paced) → ℕ → List Paced
if_called routine zero = []
if_called routine (suc calls) = routine (suc calls)

-- the routines that operations call
abbrev pub routines_of : Layout → List IntOp → List Paced
routines_of o ops =
    if_called (multiply (own_cells o.plan.target)) (count_by calls_product ops) ++ if_called (divide (own_cells o.plan.target)) (count_by calls_quotient ops)

-- the start, the start values, the cycle poll behind label 0, the lists of the operations, the jump back, and the routines
abbrev pub code_of : Layout → IntProgram → List Paced
code_of o p =
    booted (Start (ram_need o.plan.sizes))
    ∷ (start_values o p.starts 0 ++ polling (Label 0) ∷ polling (CyclePoll 0) ∷ (lists_of o 0 p.ops 5 [] ++ paced (Jump 0) ∷ routines_of o p.ops))

-- Operations that are lowered, that nest, whose numbers have places and 16 bits; and a start value for each variable that does not start at 0.
pub record CanPlace (o : Layout) (p : IntProgram) : Type 0 where
  pub built : All (λ op. is_built op ≡ true) p.ops
  pub nests : nests p.ops [] ≡ true
  pub range : All (IsInRange (room_of o)) p.ops
  pub numbers : AllHoldNumbers p.ops
  pub starts : length p.starts ≤ o.plan.sizes.variables
  pub start_numbers : All IsNumber p.starts
  pub few : length p.ops ≤ 1000000
  pub pins : HasPins o

-- the byte machine of a chip in front of its first step, whatever its cells hold
pub record IsFresh (o : Layout) (s : Bytes) : Type 0 where
  pub place : s.place ≡ 0
  pub closed : s.open_call ≡ None
  pub target : s.store.target ≡ o.plan.target
  pub scratch : scratch_of o.plan.target ≡ Some s.store.scratch
  pub shown : s.store.converting ≡ false
  pub cells : length s.store.cells ≡ DATA_ADDRESSES
  pub latches : s.store.latches ≡ 0 ∷ 0 ∷ 0 ∷ 0 ∷ 0 ∷ []

-- A program's store in front of its first cycle, with any EEPROM: kept bits and outputs are false, and each variable has its start value. Wires are
-- any.
pub record IsStart (o : Layout) (p : IntProgram) (eeprom : ℕ → ℕ) (t : Store) : Type 0 where
  pub bits : (k : ℕ) → k < o.plan.sizes.kept_bits → t.bit k ≡ false
  pub outputs : (k : ℕ) → k < length o.outputs → t.output k ≡ false
  pub numbers : (v : ℕ) → v < o.plan.sizes.variables → t.number v ≡ slice_index_or p.starts v (pos 0)
  pub devices : t.devices ≡ (start p.starts eeprom).devices

-- the store behind so many cycles
abbrev pub store_behind : List IntOp → Store → List Reading → ℕ → Store
store_behind ops t rs zero = t
store_behind ops t [] (suc k) = t
store_behind ops t (r ∷ rs) (suc k) = store_behind ops (cycle r ops t).store rs k

-- A run keeps its counts and sends nothing, as the operations send nothing; and where it is at a cycle poll, the start is behind, and its bytes stand for
-- the store behind the cycles of the readings that it took.
pub record RunsAs (o : Layout) (p : IntProgram) (code : List Paced) (t : Store) (s : Bytes) (readings : List PinReading) (answers : List Bool) : Type 0 where
  pub counts : KeepsCounts code s readings answers
  pub polls : (j : ℕ) (b : Moment Counted) (q : Paced) → moment (counted_step code) j (first_moment (uncounted s) readings answers) ≡ Some b →
      slice_get code b.state.bytes.place ≡ Some q → shape_of q.prim ≡ AtPoll →
      Stands o b.state.bytes.store (store_behind p.ops t (map (seen o) readings) b.taken) × (b.sent ≡ [])
  pub started : (j : ℕ) (b : Moment Counted) (q : Paced) → moment (counted_step code) j (first_moment (uncounted s) readings answers) ≡ Some b →
      slice_get code b.state.bytes.place ≡ Some q → shape_of q.prim ≡ AtPoll → b.state.bytes.started ≡ true
  pub silent : (j : ℕ) (b : Moment Counted) → moment (counted_step code) j (first_moment (uncounted s) readings answers) ≡ Some b → b.sent ≡ []
  pub sends : (k : ℕ) → (store_behind p.ops t (map (seen o) readings) k).devices.sent ≡ []

-- From any cells there is a store of the program's start, as whose cycles every run does, on every list of readings and answers.
pub record Carries (o : Layout) (p : IntProgram) (code : List Paced) : Type 0 where
  pub each : (s : Bytes) → IsFresh o s → (t : Store) × IsStart o p (slice_index s.store.eeprom) t
      × ((readings : List PinReading) (answers : List Bool) → RunsAs o p code t s readings answers)
