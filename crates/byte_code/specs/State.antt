-- The byte machine in front of its first step, and what it keeps of its last one.
use Rattle.std.specs.Prelude.{ℕ, List, [], ◌∷◌, Option, Some, None, false}
use Rattle.chip_tables.specs.Outside.{no_reading}
use Rattle.chip_tables.specs.declared.outside.Poll.TheVariants.{NoPoll}
use Rattle.chip_tables.specs.declared.scratch.Scratch.{Scratch}
use Rattle.chip_tables.specs.declared.target.Target.{Target}
use Rattle.runs.specs.Run.{Went}
use Rattle.byte_code.specs.declared.state.Bytes.{Bytes}
use Rattle.byte_code.specs.declared.state.ByteState.{ByteState}

abbrev pub first_of : {X : Type 0} → List X → Option X
first_of [] = None
first_of (x ∷ xs) = Some x

abbrev pub went_of : Went Bytes → ByteState
went_of w = record { bytes = w.next; poll = w.poll; sent = first_of w.sent }

-- behind a step, or as before where there is none
abbrev pub behind : ByteState → Option (Went Bytes) → ByteState
behind s None = s
behind s (Some w) = went_of w

-- with any cells and any EEPROM; all latches are 0, and nothing was asked or sent
abbrev pub fresh : Target → List ℕ → List ℕ → Scratch → ByteState
fresh target cells eeprom scratch = record {
  bytes = record {
    place = 0;
    open_call = None;
    started = false;
    store = record {
      target = target;
      scratch = scratch;
      cells = cells;
      latches = 0 ∷ 0 ∷ 0 ∷ 0 ∷ 0 ∷ [];
      eeprom = eeprom;
      address = 0;
      channel = 0;
      converting = false;
      converted = 0;
      duty = 0;
      flag = None;
      reading = no_reading;
    };
  };
  poll = NoPoll;
  sent = None;
}
