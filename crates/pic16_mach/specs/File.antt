-- Reads and writes of file registers: PIC16F87X Data Sheet, "Data Memory Organization", "PCL and PCLATH" and "Indirect Addressing".
use Rattle.std.specs.Prelude.{ℕ, ◌+◌, ◌*◌, ◌%◌, ◌==◌, Bool, if◌then◌else◌, Option, None, slice_index, slice_set}
use Rattle.chip_tables.specs.declared.outside.Env.{Env}
use Rattle.chip_tables.specs.declared.outside.Poll.TheVariants.{NoPoll}
use Rattle.avr_devices.specs.declared.devices.Answer.{Answer}
use Rattle.avr_devices.specs.DevicePolls.{answer}
use Rattle.pic_devices.specs.declared.part.PicPart.{PicPart}
use Rattle.pic_devices.specs.declared.file_space.PicPlace.{PicPlace}
use Rattle.pic_devices.specs.declared.file_space.PicPlace.TheVariants.{Ram, Special}
use Rattle.pic_devices.specs.declared.file_space.PicRegister.{PicRegister}
use Rattle.pic_devices.specs.declared.file_space.PicRegister.TheVariants.{Indf, Pcl, Status, Fsr, Pclath, Pir1, Rcreg, Adcon0}
use Rattle.pic_devices.specs.DevicePolls.{cycle_answer, cycle_asked, converter_answer, converter_asked}
use Rattle.pic_devices.specs.DeviceReads.{device_byte, byte_taken}
use Rattle.pic_devices.specs.DeviceWrites as device
use Rattle.pic_devices.specs.FileSpace.{place_at}
use Rattle.pic16_mach.specs.declared.insn.Destination.{Destination}
use Rattle.pic16_mach.specs.declared.insn.Destination.TheVariants.{W, File}
use Rattle.pic16_mach.specs.declared.state.PicState.{PicState}
use Rattle.pic16_mach.specs.declared.state.Acted.{Acted}
use Rattle.pic16_mach.specs.declared.state.Flow.{Flow}
use Rattle.pic16_mach.specs.declared.state.Flow.TheVariants.{Next, To}
use Rattle.pic16_mach.specs.State.{After, act, status, with_banks, with_status, address_of}

-- what file register f of an instruction is
abbrev pub place_of : PicPart → PicState → ℕ → PicPlace
place_of part m f = place_at part (address_of m f)

-- INDF that points to itself reads 0; PCL is the low byte of the next place
abbrev pub special_byte : PicPart → PicState → PicRegister → ℕ
special_byte part m Indf = 0
special_byte part m Pcl = (m.place + 1) % 256
special_byte part m Status = status m
special_byte part m Fsr = m.fsr
special_byte part m Pclath = m.pclath
special_byte part m r = device_byte part m.devices r

abbrev pub byte_of : PicPart → PicState → PicPlace → ℕ
byte_of part m (Ram cell) = slice_index m.ram cell
byte_of part m (Special r) = special_byte part m r

-- reading RCREG takes its byte
abbrev pub after_reading : PicState → PicPlace → PicState
after_reading m (Special Rcreg) = record m { devices = byte_taken m.devices }
after_reading m _ = m

-- the machine after a byte was read whose bit is tested, and what was read
pub record Read : Type 0 where
  pub state : PicState
  pub answer : Answer

abbrev pub plain_read : PicPart → PicState → PicPlace → Read
plain_read part m p = record { state = after_reading m p; answer = answer (byte_of part m p) NoPoll }

abbrev pub timer_read : Env → PicState → Read
timer_read env m =
    record { state = record m { devices = cycle_asked env m.devices }; answer = cycle_answer env m.devices }

abbrev pub converter_read : Env → PicState → Read
converter_read env m =
    record { state = record m { devices = converter_asked env m.devices }; answer = converter_answer env m.devices }

-- bit 2 is tested: of PIR1 that asks the cycle timer, and of ADCON0 the converter
abbrev pub asking_read : PicPart → Env → PicState → PicPlace → Read
asking_read part env m (Special Pir1) = timer_read env m
asking_read part env m (Special Adcon0) = converter_read env m
asking_read part env m p = plain_read part m p

-- BTFSC and BTFSS read a byte for one of its bits
abbrev pub bit_read : PicPart → Env → PicState → PicPlace → ℕ → Read
bit_read part env m p b = if b == 2 then asking_read part env m p else plain_read part m p

-- a special function register takes a byte. Where the instruction sets a flag, STATUS takes its bank bits alone. A write to PCL is a jump, and sets
-- no register
abbrev pub special_written : PicPart → PicState → PicRegister → ℕ → Bool → PicState
special_written part m Indf x flagged = m
special_written part m Pcl x flagged = m
special_written part m Status x flagged = if flagged then with_banks m x else with_status m x
special_written part m Fsr x flagged = record m { fsr = x }
special_written part m Pclath x flagged = record m { pclath = x }
special_written part m r x flagged = record m { devices = device.device_written part m.devices r x }

abbrev pub byte_written : PicPart → PicState → PicPlace → ℕ → Bool → PicState
byte_written part m (Ram cell) x flagged = record m { ram = slice_set m.ram cell x }
byte_written part m (Special r) x flagged = special_written part m r x flagged

-- a write to PCL jumps: bits 4:0 of PCLATH before the byte
abbrev pub flow_to : PicState → PicPlace → ℕ → Flow
flow_to m (Special Pcl) x = To (m.pclath % 32 * 256 + x)
flow_to m _ x = Next

abbrev pub cycles_to : PicPlace → ℕ
cycles_to (Special Pcl) = 2
cycles_to _ = 1

-- the byte that a write sends
abbrev pub sent_at : PicState → PicPlace → ℕ → Option ℕ
sent_at m (Ram cell) x = None
sent_at m (Special r) x = device.sent_to m.devices r x

abbrev pub acted_at : PicState → PicPlace → ℕ → Acted
acted_at m p x = act (flow_to m p x) (cycles_to p) NoPoll (sent_at m p x)

-- an instruction writes a byte, and sets a flag or not
abbrev pub stored : PicPart → PicState → PicPlace → ℕ → Bool → After
stored part m p x flagged = record { state = byte_written part m p x flagged; acted = acted_at m p x }

-- a result goes to W, or to the file register from which it came
abbrev pub delivered : PicPart → PicState → PicPlace → Destination → ℕ → Bool → After
delivered part m p W x flagged = record { state = record m { w = x }; acted = act Next 1 NoPoll None }
delivered part m p File x flagged = stored part m p x flagged

-- BSF writes the byte in which it has set the bit
abbrev pub special_made : PicPart → PicState → PicRegister → ℕ → ℕ → PicState
special_made part m Indf b x = m
special_made part m Pcl b x = m
special_made part m Status b x = with_status m x
special_made part m Fsr b x = record m { fsr = x }
special_made part m Pclath b x = record m { pclath = x }
special_made part m r b x = record m { devices = device.bit_made part m.devices r b x }

abbrev pub bit_made : PicPart → PicState → PicPlace → ℕ → ℕ → PicState
bit_made part m (Ram cell) b x = record m { ram = slice_set m.ram cell x }
bit_made part m (Special r) b x = special_made part m r b x

-- the byte of RAM at an address; there is none at an address of a special function register
abbrev pub ram_at_place : PicState → PicPlace → ℕ
ram_at_place m (Ram cell) = slice_index m.ram cell
ram_at_place m (Special r) = 0

abbrev pub ram_byte : PicPart → PicState → ℕ → ℕ
ram_byte part m address = ram_at_place m (place_at part address)
