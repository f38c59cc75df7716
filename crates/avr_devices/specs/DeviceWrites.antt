-- What a write to a device register does: ATmega16 data sheet, the register description of each device.
use Rattle.std.specs.Prelude.{ℕ, ◌+◌, ◌-◌, ◌*◌, ◌&&◌, not, nat_le, true, false, if◌then◌else◌, Option, None, slice_index, slice_set}
use Rattle.avr_devices.specs.declared.devices.AvrDevices.{AvrDevices}
use Rattle.avr_devices.specs.declared.devices.Converter.{Converter}
use Rattle.avr_devices.specs.declared.devices.CycleTimer.{CycleTimer}
use Rattle.avr_devices.specs.declared.io_space.IoRegister.{IoRegister}
use Rattle.avr_devices.specs.declared.io_space.IoRegister.TheVariants.{Adcsra, Admux, Ubrrl, Ucsrb, Ucsra, Udr, Ddrd, Portd, Ddrc, Portc, Ddrb, Portb, Ddra, Porta, Eecr, Eedr, Eearl, Eearh, Ubrrh, Ocr2, Tccr2, Ocr1al, Ocr1ah, Tccr1b, Tccr1a, Tifr}
use Rattle.chip_tables.specs.Bits.{bit_of}
use Rattle.avr_devices.specs.Device.{sent_by, is_serial_on, conversion_by, eeprom_address}

-- ADCSRA: a write with the start bit 6 set is a start, also while a conversion goes on
abbrev pub converter_written : Converter → ℕ → Converter
converter_written c x =
    if bit_of x 6 then record c { control = x; conversion = conversion_by x c.input } else record c { control = x }

-- UDR: the port is busy from then on, where it sends the byte
abbrev pub byte_sent : AvrDevices → AvrDevices
byte_sent d =
    if is_serial_on d && not d.reading.tx_busy then record d { reading = record d.reading { tx_busy = true } } else d

-- UBRRH shares its address with UCSRC, which bit 7 selects
abbrev pub rate_high_written : AvrDevices → ℕ → AvrDevices
rate_high_written d x =
    if bit_of x 7 then d else record d { serial = record d.serial { rate_high = x } }

-- TIFR: writing a one clears the compare flag
abbrev pub flags_written : CycleTimer → ℕ → CycleTimer
flags_written t x = if bit_of x 4 then record t { flag = false } else t

-- EECR bit 1 writes EEDR at EEAR, where no write is going on and the EEPROM is unlocked yet when an instruction of so many cycles ends
abbrev pub eeprom_stored : AvrDevices → ℕ → ℕ → AvrDevices
eeprom_stored d x cycles =
    if bit_of x 1 && (nat_le cycles d.eeprom.unlock && not d.reading.ee_busy) then
    (record d {
      eeprom = record d.eeprom { bytes = slice_set d.eeprom.bytes (eeprom_address d.eeprom) d.eeprom.data_byte };
      reading = record d.reading { ee_busy = true };
    })
    else d

-- EECR bit 0 copies the byte at EEAR to EEDR
abbrev pub eeprom_fetched : AvrDevices → ℕ → AvrDevices
eeprom_fetched d x =
    if bit_of x 0 then
    record d { eeprom = record d.eeprom { data_byte = slice_index d.eeprom.bytes (eeprom_address d.eeprom) } }
    else d

-- EECR: a write of both bits stores first; bits 7:3 are kept. Bit 2 unlocks the EEPROM for four cycles from the instruction's end.
abbrev pub eeprom_written : AvrDevices → ℕ → ℕ → AvrDevices
eeprom_written d x cycles =
    let e = eeprom_fetched (eeprom_stored d x cycles) x in
    record e { eeprom = record e.eeprom { control = x; unlock = if bit_of x 2 then 4 + cycles else 0 } }

-- cycles pass, also for the unlocked EEPROM
abbrev pub cycles_passed : AvrDevices → ℕ → AvrDevices
cycles_passed d cycles = record d { eeprom = record d.eeprom { unlock = d.eeprom.unlock - cycles } }

-- a register takes a byte by an instruction of so many cycles; the registers without a case here take no write
abbrev pub device_written : AvrDevices → IoRegister → ℕ → ℕ → AvrDevices
device_written d Adcsra x cycles = record d { converter = converter_written d.converter x }
device_written d Admux x cycles = record d { converter = record d.converter { input = x } }
device_written d Ubrrl x cycles = record d { serial = record d.serial { rate_low = x } }
device_written d Ucsrb x cycles = record d { serial = record d.serial { control = x } }
device_written d Ucsra x cycles = record d { serial = record d.serial { status = x } }
device_written d Udr x cycles = byte_sent d
device_written d Ddrd x cycles = record d { port_d = record d.port_d { direction = x } }
device_written d Portd x cycles = record d { port_d = record d.port_d { latch = x } }
device_written d Ddrc x cycles = record d { port_c = record d.port_c { direction = x } }
device_written d Portc x cycles = record d { port_c = record d.port_c { latch = x } }
device_written d Ddrb x cycles = record d { port_b = record d.port_b { direction = x } }
device_written d Portb x cycles = record d { port_b = record d.port_b { latch = x } }
device_written d Ddra x cycles = record d { port_a = record d.port_a { direction = x } }
device_written d Porta x cycles = record d { port_a = record d.port_a { latch = x } }
device_written d Eecr x cycles = eeprom_written d x cycles
device_written d Eedr x cycles = record d { eeprom = record d.eeprom { data_byte = x } }
device_written d Eearl x cycles = record d { eeprom = record d.eeprom { address_low = x } }
device_written d Eearh x cycles = record d { eeprom = record d.eeprom { address_high = x } }
device_written d Ubrrh x cycles = rate_high_written d x
device_written d Ocr2 x cycles = record d { modulator = record d.modulator { duty = x } }
device_written d Tccr2 x cycles = record d { modulator = record d.modulator { control = x } }
device_written d Ocr1al x cycles = record d { timer = record d.timer { compare = d.timer.held * 256 + x } }
device_written d Ocr1ah x cycles = record d { timer = record d.timer { held = x } }
device_written d Tccr1b x cycles = record d { timer = record d.timer { control_b = x } }
device_written d Tccr1a x cycles = record d { timer = record d.timer { control_a = x } }
device_written d Tifr x cycles = record d { timer = flags_written d.timer x }
device_written d _ x cycles = d

-- the byte that a write to a register sends
abbrev pub sent_to : AvrDevices → IoRegister → ℕ → Option ℕ
sent_to d Udr x = sent_by d x
sent_to d _ x = None
