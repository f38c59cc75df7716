-- When the ATmega16 stands for a state of the byte machine.
use Rattle.std.specs.Prelude.{◌≡◌, ℕ, ◌-◌, ◌<◌, ◌≤◌, ◌⊎◌, ◌==◌, ◌&&◌, ◌||◌, nat_le, Bool, true, false, List, length, Option, Some, None, slice_index}
use Rattle.chip_tables.specs.Scratch.{avr_scratch}
use Rattle.chip_tables.specs.declared.pins.PortBit.{PortBit}
use Rattle.byte_code.specs.Store.{in_byte}
use Rattle.chip_tables.specs.declared.mega16.TheConstants.{IO_FIRST, SRAM_FIRST, SRAM_END, SCRATCH_FIRST, STACK_TOP}
use Rattle.byte_code.specs.declared.state.Bytes.{Bytes}
use Rattle.byte_code.specs.declared.store.Flag.{Flag}
use Rattle.byte_code.specs.declared.store.Store.{Store}
use Rattle.chip_tables.specs.Bits.{bit_of}
use Rattle.chip_tables.specs.declared.target.Target.TheVariants.{Mega16}
use Rattle.avr_devices.specs.Device.{is_timing, port_of}
use Rattle.avr_mach.specs.declared.state.AvrState.{AvrState}
use Rattle.avr_mach.specs.Control.{return_place}
use Rattle.avr_mach.specs.State.{flag}
use Rattle.avr_code.specs.Code.{status_bit, is_wire, Board, direction}

-- R1, and R16 to R19, which are no cells
abbrev pub is_work : ℕ → Bool
is_work r = r == 1 || (nat_le 16 r && nat_le r 19)

-- a register that is a cell, or a byte of the SRAM that is one
abbrev pub IsHeld : ℕ → Type 0
IsHeld a = ((a < IO_FIRST) × (is_work a ≡ false)) ⊎ ((SRAM_FIRST ≤ a) × (a < SCRATCH_FIRST))

-- the same but for the wires: the machine has all bits of such a cell
abbrev pub IsCell : ℕ → Type 0
IsCell a = ((a < IO_FIRST) × (is_work a ≡ false) × (is_wire a ≡ false)) ⊎ ((SRAM_FIRST ≤ a) × (a < SCRATCH_FIRST))

-- the flag is in the status register
abbrev pub HasFlag : AvrState → Option Flag → Type 0
HasFlag m None = Unit {0}
HasFlag m (Some f) = flag m (status_bit f.kind) ≡ f.value

-- an open call goes on at the place that the stack holds
abbrev pub HasReturn : List ℕ → AvrState → Option ℕ → Type 0
HasReturn places m None = m.stack ≡ STACK_TOP
HasReturn places m (Some k) = (m.stack ≡ STACK_TOP - 2) × (return_place m ≡ slice_index places k)

-- the pin at this bit of the port
abbrev pub is_pin : ℕ → ℕ → PortBit → Bool
is_pin port b p = p.port == port && in_byte p.bit == b

-- R1 is 0, the outputs are set, the cycle timer is set up, and its flag does not stand
pub record IsStarted (board : Board) (m : AvrState) : Type 0 where
  pub zero : slice_index m.regs 1 ≡ 0
  pub directions : (port : ℕ) → port < 4 → (port_of m.devices port).direction ≡ direction board.outputs port
  pub timing : is_timing m.devices ≡ true
  pub quiet : m.devices.timer.flag ≡ false

-- the machine has what the store has, but for the flag
pub record Shows (m : AvrState) (d : Store) : Type 0 where
  pub regs : length m.regs ≡ 32
  pub sram : length m.sram ≡ SRAM_END - SRAM_FIRST
  pub all : length d.cells ≡ SRAM_END
  pub scratch : d.scratch ≡ avr_scratch
  pub target : d.target ≡ Mega16
  pub ports : length d.latches ≡ 5
  pub file : (r : ℕ) → r < IO_FIRST → is_work r ≡ false → is_wire r ≡ false → slice_index m.regs r ≡ slice_index d.cells r
  pub wires : (r : ℕ) → is_wire r ≡ true → bit_of (slice_index m.regs r) 0 ≡ bit_of (slice_index d.cells r) 0
  pub ram : (a : ℕ) → SRAM_FIRST ≤ a → a < SCRATCH_FIRST → slice_index m.sram (a - SRAM_FIRST) ≡ slice_index d.cells a
  pub bytes : (a : ℕ) → slice_index d.cells a < 256
  pub latches : (port : ℕ) → port < 4 → (port_of m.devices port).latch ≡ slice_index d.latches port
  pub reading : m.devices.reading ≡ d.reading
  pub eeprom : m.devices.eeprom.bytes ≡ d.eeprom

-- it is at the place of the byte state's primitive
pub record StandsAt (board : Board) (places : List ℕ) (m : AvrState) (s : Bytes) : Type 0 where
  pub shows : Shows m s.store
  pub settings : m.devices.settings ≡ board.settings
  pub at : m.place ≡ slice_index places s.place
  pub started : s.started ≡ true → IsStarted board m
  pub flag : HasFlag m s.store.flag
  pub back : s.started ≡ true → HasReturn places m s.open_call
  pub closed : s.started ≡ false → s.open_call ≡ None

-- The cells are those of a machine with these registers and this RAM, whatever they hold.
pub record HasCells (cells regs sram : List ℕ) : Type 0 where
  pub all : length cells ≡ SRAM_END
  pub bytes : (a : ℕ) → slice_index cells a < 256
  pub file : (r : ℕ) → r < IO_FIRST → slice_index regs r ≡ slice_index cells r
  pub ram : (a : ℕ) → SRAM_FIRST ≤ a → a < SRAM_END → slice_index sram (a - SRAM_FIRST) ≡ slice_index cells a

-- What is seen of a machine that stands for a byte state: the outputs, the cells and the EEPROM, and once it was started which pins are driven.
pub record ShowsAt (board : Board) (m : AvrState) (s : Bytes) : Type 0 where
  pub shows : Shows m s.store
  pub started : s.started ≡ true → IsStarted board m
