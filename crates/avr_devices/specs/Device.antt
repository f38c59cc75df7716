-- What the devices of the written ATmega16 are set to: ATmega16 data sheet, the chapter of each device.
use Rattle.std.specs.Prelude.{ℕ, ◌+◌, ◌-◌, ◌*◌, ◌/◌, ◌%◌, ◌==◌, ◌&&◌, not, nat_lt, Bool, true, false, if◌then◌else◌, Option, Some, None, is_some, bit_and, bit_or}
use Rattle.chip_tables.specs.declared.mega16.TheConstants.{EEPROM_BYTES}
use Rattle.chip_tables.specs.declared.settings.BaudSetting.{BaudSetting}
use Rattle.chip_tables.specs.declared.settings.PwmSetting.{PwmSetting}
use Rattle.avr_devices.specs.declared.devices.AvrDevices.{AvrDevices}
use Rattle.avr_devices.specs.declared.devices.AvrPort.{AvrPort}
use Rattle.avr_devices.specs.declared.devices.SerialPort.{SerialPort}
use Rattle.avr_devices.specs.declared.devices.Eeprom.{Eeprom}
use Rattle.avr_devices.specs.declared.devices.Modulator.{Modulator}
use Rattle.avr_devices.specs.declared.devices.Conversion.{Conversion}
use Rattle.avr_devices.specs.declared.devices.Conversion.TheVariants.{Idle, Channel, Unsupported}
use Rattle.chip_tables.specs.Bits.{bit_of, as_bit}

-- a port by its number: A is 0
abbrev pub port_of : AvrDevices → ℕ → AvrPort
port_of d port =
    if port == 0 then d.port_a
    else if port == 1 then d.port_b
    else if port == 2 then d.port_c
    else d.port_d

-- a port by its number is another
abbrev pub with_port : AvrDevices → ℕ → AvrPort → AvrDevices
with_port d port p =
    if port == 0 then record d { port_a = p }
    else if port == 1 then record d { port_b = p }
    else if port == 2 then record d { port_c = p }
    else record d { port_d = p }

-- PINx: an output pin shows its latch, an input pin the level outside
abbrev pub pins : AvrPort → ℕ → ℕ
pins port levels = bit_or (bit_and port.latch port.direction) (bit_and levels (255 - port.direction))

-- timer 1 counts a cycle: normal port operation in TCCR1A, mode and prescaler in TCCR1B, the count in OCR1A
abbrev pub is_timing : AvrDevices → Bool
is_timing d =
    d.timer.control_a == 0 && (d.timer.control_b == d.settings.timer.control && d.timer.compare == d.settings.timer.compare)

-- UBRR holds the divisor of the setting
abbrev pub has_rate : SerialPort → Option BaudSetting → Bool
has_rate s None = false
has_rate s (Some setting) = s.rate_high * 256 + s.rate_low == setting.divisor

-- the serial port is on: its rate is set, and UCSRB enables receiver and transmitter by bits 4 and 3
abbrev pub is_serial_on : AvrDevices → Bool
is_serial_on d =
    has_rate d.serial d.settings.baud && (bit_of d.serial.control 4 && bit_of d.serial.control 3)

-- the byte that was received and not read
abbrev pub received : AvrDevices → Option ℕ
received d = if is_serial_on d then d.reading.rx else None

-- UCSRA: received in bit 7, empty in bit 5, the other bits as they were written
abbrev pub serial_status : AvrDevices → ℕ
serial_status d =
    as_bit (is_some (received d)) * 128 + (d.serial.status / 64 % 2 * 64 + as_bit (not d.reading.tx_busy) * 32 + d.serial.status % 32)

-- the byte that a write to UDR sends
abbrev pub sent_by : AvrDevices → ℕ → Option ℕ
sent_by d x = if is_serial_on d && not d.reading.tx_busy then Some x else None

-- TCCR2 holds the control of the setting
abbrev pub has_mode : Modulator → Option PwmSetting → Bool
has_mode m None = false
has_mode m (Some setting) = m.control == setting.control

-- PD7 is OC2, the pin of the modulator
abbrev pub pwm_bit : ℕ
pwm_bit = 7

-- the modulator is set up: its mode is set, and its pin is an output
abbrev pub is_modulating : AvrDevices → Bool
is_modulating d = has_mode d.modulator d.settings.pwm && bit_of d.port_d.direction pwm_bit

-- ADCSRA: the start bit 6 shows a conversion, the other bits are as they were written
abbrev pub converter_status : ℕ → Bool → ℕ
converter_status control converting = control / 128 * 128 + (as_bit converting * 64 + control % 64)

abbrev pub is_converting : Conversion → Bool
is_converting Idle = false
is_converting (Channel c) = true
is_converting Unsupported = true

-- what a start converts, by ADCSRA and ADMUX: the converter is enabled by bit 7, and ADMUX has the supply
-- as reference, the result right-adjusted, and a channel below 8
abbrev pub conversion_by : ℕ → ℕ → Conversion
conversion_by control input =
    if bit_of control 7 && (input / 32 == 2 && nat_lt (input % 32) 8) then Channel (input % 32) else Unsupported

-- EEARH and EEARL, modulo the size of the memory
abbrev pub eeprom_address : Eeprom → ℕ
eeprom_address e = (e.address_high * 256 + e.address_low) % EEPROM_BYTES

-- EECR: bit 2 shows that a write is unlocked, bit 1 that one is going on, bit 0 nothing
abbrev pub eeprom_status : AvrDevices → ℕ
eeprom_status d =
    d.eeprom.control / 8 * 8 + (as_bit (nat_lt 0 d.eeprom.unlock) * 4 + as_bit d.reading.ee_busy * 2)
