-- The byte machine's step, by the shapes of the primitives.
use Rattle.std.specs.Prelude.{ℕ, suc, List, [], ◌∷◌, Option, Some, None, Bool, true, false, if◌then◌else◌, ◌==◌, slice_get}
use Rattle.chip_tables.specs.declared.outside.PinReading.{PinReading}
use Rattle.chip_tables.specs.declared.outside.Poll.TheVariants.{NoPoll, CycleReady, CycleNotReady, DeviceNotReady}
use Rattle.runs.specs.Run.{Went, Stepper}
use Rattle.runs.specs.declared.ask.Ask.{Ask}
use Rattle.runs.specs.declared.ask.Ask.TheVariants as ask
use Rattle.byte_code.specs.declared.prim.BytePrim.{BytePrim}
use Rattle.byte_code.specs.declared.prim.Paced.{Paced}
use Rattle.byte_code.specs.declared.store.Store.{Store}
use Rattle.byte_code.specs.declared.state.Bytes.{Bytes}
use Rattle.byte_code.specs.declared.prim.Shape.{Shape}
use Rattle.byte_code.specs.declared.prim.Shape.TheVariants.{AtStart, AtPoll, AtDevice, Names, Jumps, Branches, Calls, Returns, Straight}
use Rattle.byte_code.specs.Table.{shape_of, effect, said_by, branches}

abbrev pub is_name : Shape → ℕ → Bool
is_name (Names k) l = k == l
is_name AtStart l = false
is_name AtPoll l = false
is_name AtDevice l = false
is_name (Jumps k) l = false
is_name (Branches k) l = false
is_name (Calls k) l = false
is_name Returns l = false
is_name Straight l = false

-- where the label stands first, or past the end
abbrev pub label_place : List Paced → ℕ → ℕ
label_place [] l = 0
label_place (p ∷ ps) l = if is_name (shape_of p.prim) l then 0 else suc (label_place ps l)

abbrev pub goes_to : Bytes → Store → ℕ → Bytes
goes_to s d place = record s { place = place; store = d }

abbrev pub next_with : Bytes → Store → Bytes
next_with s d = goes_to s d (suc s.place)

-- a step that asks nobody; the byte machine counts no cycles
abbrev pub quiet : Bytes → List ℕ → Went Bytes
quiet s bytes = record { next = s; cycles = 0; poll = NoPoll; sent = bytes }

abbrev pub returned : Bytes → Store → Option ℕ → Bytes
returned s d None = next_with s d
returned s d (Some place) = record (goes_to s d place) { open_call = None }

-- the cycle poll takes the reading
abbrev pub polled : Bytes → Store → Bool → PinReading → Went Bytes
polled s d true r = record { next = next_with s (record d { reading = r }); cycles = 0; poll = CycleReady; sent = [] }
polled s d false r = record { next = s; cycles = 0; poll = CycleNotReady; sent = [] }

abbrev pub device_polled : Bytes → Store → Bool → Went Bytes
device_polled s d true = quiet (next_with s d) []
device_polled s d false = record { next = s; cycles = 0; poll = DeviceNotReady; sent = [] }

abbrev pub shaped : List Paced → BytePrim → Shape → Bytes → Store → Bool → PinReading → Went Bytes
shaped code p AtStart s d ready r = quiet (record (next_with s d) { started = true }) []
shaped code p AtPoll s d ready r = polled s d ready r
shaped code p AtDevice s d ready r = device_polled s d ready
shaped code p (Names l) s d ready r = quiet (next_with s d) []
shaped code p (Jumps l) s d ready r = quiet (goes_to s d (label_place code l)) []
shaped code p (Branches l) s d ready r = quiet (goes_to s d (if branches p d then label_place code l else suc s.place)) []
shaped code p (Calls l) s d ready r = quiet (record (goes_to s d (label_place code l)) { open_call = Some (suc s.place) }) []
shaped code p Returns s d ready r = quiet (returned s d s.open_call) []
shaped code p Straight s d ready r = quiet (next_with s d) (said_by p s.store)

-- what one primitive does
abbrev pub act : List Paced → BytePrim → Bytes → Bool → PinReading → Went Bytes
act code p s ready r = shaped code p (shape_of p) s (effect p s.store) ready r

abbrev pub acted : List Paced → Option Paced → Bytes → Bool → PinReading → Option (Went Bytes)
acted code None s ready r = None
acted code (Some p) s ready r = Some (act code p.prim s ready r)

-- The byte machine's step. There is none exactly where no primitive stands at its place.
unfoldable pub byte_step : List Paced → Stepper Bytes
byte_step code s ready r = acted code (slice_get code s.place) s ready r

-- what a primitive asks the outside for
abbrev pub asked_in : Shape → Ask
asked_in AtPoll = ask.Reading
asked_in AtDevice = ask.Device
asked_in AtStart = ask.Nothing
asked_in (Names l) = ask.Nothing
asked_in (Jumps l) = ask.Nothing
asked_in (Branches l) = ask.Nothing
asked_in (Calls l) = ask.Nothing
asked_in Returns = ask.Nothing
asked_in Straight = ask.Nothing

abbrev pub asked_by : BytePrim → Ask
asked_by p = asked_in (shape_of p)
