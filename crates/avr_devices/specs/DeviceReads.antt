-- What a device register reads as, and what the reading does: ATmega16 data sheet, the register description of each device.
use Rattle.std.specs.Prelude.{ℕ, ◌*◌, ◌/◌, ◌%◌, if◌then◌else◌, None, unwrap_or, slice_index}
use Rattle.avr_devices.specs.declared.devices.AvrDevices.{AvrDevices}
use Rattle.avr_devices.specs.declared.io_space.IoRegister.{IoRegister}
use Rattle.avr_devices.specs.declared.io_space.IoRegister.TheVariants.{Adcl, Adch, Adcsra, Admux, Ubrrl, Ucsrb, Ucsra, Udr, Pind, Ddrd, Portd, Pinc, Ddrc, Portc, Pinb, Ddrb, Portb, Pina, Ddra, Porta, Eecr, Eedr, Eearl, Eearh, Ubrrh, Ocr2, Tccr2, Ocr1al, Ocr1ah, Tccr1b, Tccr1a, Tifr}
use Rattle.chip_tables.specs.Bits.{as_bit}
use Rattle.avr_devices.specs.Device.{pins, received, serial_status, eeprom_status, converter_status, is_converting, is_serial_on}

-- the registers that are the processor's, and those that are absent, are no device's
abbrev pub device_byte : AvrDevices → IoRegister → ℕ
device_byte d Adcl = d.converter.result % 256
device_byte d Adch = d.converter.result / 256
device_byte d Adcsra = converter_status d.converter.control (is_converting d.converter.conversion)
device_byte d Admux = d.converter.input
device_byte d Ubrrl = d.serial.rate_low
device_byte d Ucsrb = d.serial.control
device_byte d Ucsra = serial_status d
device_byte d Udr = unwrap_or (received d) 0
device_byte d Pind = pins d.port_d (slice_index d.reading.levels 3)
device_byte d Ddrd = d.port_d.direction
device_byte d Portd = d.port_d.latch
device_byte d Pinc = pins d.port_c (slice_index d.reading.levels 2)
device_byte d Ddrc = d.port_c.direction
device_byte d Portc = d.port_c.latch
device_byte d Pinb = pins d.port_b (slice_index d.reading.levels 1)
device_byte d Ddrb = d.port_b.direction
device_byte d Portb = d.port_b.latch
device_byte d Pina = pins d.port_a (slice_index d.reading.levels 0)
device_byte d Ddra = d.port_a.direction
device_byte d Porta = d.port_a.latch
device_byte d Eecr = eeprom_status d
device_byte d Eedr = d.eeprom.data_byte
device_byte d Eearl = d.eeprom.address_low
device_byte d Eearh = d.eeprom.address_high
device_byte d Ubrrh = d.serial.rate_high
device_byte d Ocr2 = d.modulator.duty
device_byte d Tccr2 = d.modulator.control
device_byte d Ocr1al = d.timer.compare % 256
device_byte d Ocr1ah = d.timer.compare / 256
device_byte d Tccr1b = d.timer.control_b
device_byte d Tccr1a = d.timer.control_a
device_byte d Tifr = as_bit d.timer.flag * 16
device_byte d _ = 0

-- reading UDR takes the byte that was received
abbrev pub byte_taken : AvrDevices → AvrDevices
byte_taken d = if is_serial_on d then record d { reading = record d.reading { rx = None } } else d
