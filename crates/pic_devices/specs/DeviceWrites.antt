-- What a write to a device register does: PIC16F62X and PIC16F87X data sheets, the register description of each device.
use Rattle.std.specs.Prelude.{ℕ, ◌+◌, ◌*◌, ◌/◌, ◌%◌, ◌==◌, ◌&&◌, not, Bool, true, false, if◌then◌else◌, Option, None, slice_index, slice_set}
use Rattle.chip_tables.specs.Bits.{bit_of}
use Rattle.avr_devices.specs.declared.devices.Conversion.TheVariants.{Idle}
use Rattle.pic_devices.specs.declared.devices.PicDevices.{PicDevices}
use Rattle.pic_devices.specs.declared.devices.PicConverter.{PicConverter}
use Rattle.pic_devices.specs.declared.devices.Unlock.{Unlock}
use Rattle.pic_devices.specs.declared.devices.Unlock.TheVariants.{Closed, FirstWritten, FirstDone, SecondDue, SecondWritten, Open}
use Rattle.pic_devices.specs.declared.part.PicPart.{PicPart}
use Rattle.pic_devices.specs.declared.file_space.PicRegister.{PicRegister}
use Rattle.pic_devices.specs.declared.file_space.PicRegister.TheVariants.{Porta, Portb, Portc, Portd, Porte, Trisa, Trisb, Trisc, Trisd, Trise, Pir1, Tmr1l, Tmr1h, T1con, Ccpr1l, Ccpr1h, Ccp1con, Rcsta, Txreg, Txsta, Spbrg, Cmcon, T2con, Pr2, Ccpr2l, Ccp2con, Adresh, Adresl, Adcon0, Adcon1, Eedata, Eeadr, Eecon1, Eecon2}
use Rattle.pic_devices.specs.Device.{sent_by, is_serial_on, conversion_by, eeprom_address, is_of_data}

-- PIR1: writing a zero clears the compare flag, writing a one leaves it
abbrev pub flags_written : PicDevices → ℕ → PicDevices
flags_written d x = record d { flags = x; timer = record d.timer { flag = d.timer.flag && bit_of x 2 } }

-- ADCON0: a write with GO, bit 2, set is a start, also while a conversion goes on; one with GO clear ends a conversion without a result
abbrev pub converter_written : PicConverter → ℕ → PicConverter
converter_written c x =
    record c { control = x; conversion = if bit_of x 2 then conversion_by x c.pins else Idle }

-- TXREG: the port is busy from then on, where it sends the byte
abbrev pub byte_sent : PicDevices → PicDevices
byte_sent d =
    if is_serial_on d && not d.reading.tx_busy then record d { reading = record d.reading { tx_busy = true } } else d

-- EECON1: RD, bit 0, copies the byte at EEADR to EEDATA
abbrev pub eeprom_fetched : PicPart → PicDevices → ℕ → PicDevices
eeprom_fetched part d x =
    if bit_of x 0 && is_of_data part x then
    record d { eeprom = record d.eeprom { data_byte = slice_index d.eeprom.bytes (eeprom_address part d.eeprom) } }
    else d

abbrev pub eeprom_written : PicPart → PicDevices → ℕ → PicDevices
eeprom_written part d x = let e = eeprom_fetched part d x in record e { eeprom = record e.eeprom { control = x } }

abbrev pub is_second_due : Unlock → Bool
is_second_due SecondDue = true
is_second_due _ = false

abbrev pub is_open : Unlock → Bool
is_open Open = true
is_open _ = false

-- EECON2: 55h begins the unlocking where WREN, bit 2 of EECON1, is set; AAh ends it by the instruction after the next
abbrev pub key_written : PicDevices → ℕ → PicDevices
key_written d x =
    if x == 0x55 && bit_of d.eeprom.control 2 then record d { eeprom = record d.eeprom { unlock = FirstWritten } }
    else if x == 0xaa && is_second_due d.eeprom.unlock then record d { eeprom = record d.eeprom { unlock = SecondWritten } }
    else d

-- BSF of WR, bit 1 of EECON1, writes EEDATA at EEADR, where the memory is unlocked, WREN is set and no write is going on
abbrev pub eeprom_stored : PicPart → PicDevices → PicDevices
eeprom_stored part d =
    if is_open d.eeprom.unlock && (bit_of d.eeprom.control 2 && (is_of_data part d.eeprom.control && not d.reading.ee_busy)) then
    (record d {
      eeprom = record d.eeprom { bytes = slice_set d.eeprom.bytes (eeprom_address part d.eeprom) d.eeprom.data_byte };
      reading = record d.reading { ee_busy = true };
    })
    else d

-- one instruction ends
abbrev pub unlock_passed : Unlock → Unlock
unlock_passed Closed = Closed
unlock_passed FirstWritten = FirstDone
unlock_passed FirstDone = SecondDue
unlock_passed SecondDue = Closed
unlock_passed SecondWritten = Open
unlock_passed Open = Closed

abbrev pub instruction_passed : PicDevices → PicDevices
instruction_passed d = record d { eeprom = record d.eeprom { unlock = unlock_passed d.eeprom.unlock } }

-- a register takes a byte; the registers without a case here take no write
abbrev pub device_written : PicPart → PicDevices → PicRegister → ℕ → PicDevices
device_written part d Porta x = record d { port_a = record d.port_a { latch = x } }
device_written part d Portb x = record d { port_b = record d.port_b { latch = x } }
device_written part d Portc x = record d { port_c = record d.port_c { latch = x } }
device_written part d Portd x = record d { port_d = record d.port_d { latch = x } }
device_written part d Porte x = record d { port_e = record d.port_e { latch = x } }
device_written part d Trisa x = record d { port_a = record d.port_a { direction = x } }
device_written part d Trisb x = record d { port_b = record d.port_b { direction = x } }
device_written part d Trisc x = record d { port_c = record d.port_c { direction = x } }
device_written part d Trisd x = record d { port_d = record d.port_d { direction = x } }
device_written part d Trise x = record d { port_e = record d.port_e { direction = x } }
device_written part d Pir1 x = flags_written d x
device_written part d Tmr1l x = record d { timer = record d.timer { count_low = x } }
device_written part d Tmr1h x = record d { timer = record d.timer { count_high = x } }
device_written part d T1con x = record d { timer = record d.timer { control = x } }
device_written part d Ccpr1l x = record d { timer = record d.timer { compare_low = x } }
device_written part d Ccpr1h x = record d { timer = record d.timer { compare_high = x } }
device_written part d Ccp1con x = record d { timer = record d.timer { mode = x } }
device_written part d Rcsta x = record d { serial = record d.serial { receive = x } }
device_written part d Txreg x = byte_sent d
device_written part d Txsta x = record d { serial = record d.serial { transmit = x } }
device_written part d Spbrg x = record d { serial = record d.serial { rate = x } }
device_written part d Cmcon x = record d { comparator = x }
device_written part d T2con x = record d { modulator = record d.modulator { control = x } }
device_written part d Pr2 x = record d { modulator = record d.modulator { period = x } }
device_written part d Ccpr2l x = record d { modulator = record d.modulator { duty = x } }
device_written part d Ccp2con x = record d { modulator = record d.modulator { mode = x } }
device_written part d Adresh x = record d { converter = record d.converter { result = x * 256 + d.converter.result % 256 } }
device_written part d Adresl x = record d { converter = record d.converter { result = d.converter.result / 256 * 256 + x } }
device_written part d Adcon0 x = record d { converter = converter_written d.converter x }
device_written part d Adcon1 x = record d { converter = record d.converter { pins = x } }
device_written part d Eedata x = record d { eeprom = record d.eeprom { data_byte = x } }
device_written part d Eeadr x = record d { eeprom = record d.eeprom { address = x } }
device_written part d Eecon1 x = eeprom_written part d x
device_written part d Eecon2 x = key_written d x
device_written part d _ x = d

-- BSF sets a bit of a register that reads as a byte, and so writes the byte x; of EECON1 it is the one that starts a write
abbrev pub bit_made : PicPart → PicDevices → PicRegister → ℕ → ℕ → PicDevices
bit_made part d Eecon1 b x = device_written part (if b == 1 then eeprom_stored part d else d) Eecon1 x
bit_made part d r b x = device_written part d r x

-- the byte that a write to a register sends
abbrev pub sent_to : PicDevices → PicRegister → ℕ → Option ℕ
sent_to d Txreg x = sent_by d x
sent_to d _ x = None
