-- What the devices of the written PICs are set to: PIC16F62X and PIC16F87X data sheets, the chapter of each device.
use Rattle.std.specs.Prelude.{ℕ, ◌+◌, ◌-◌, ◌*◌, ◌/◌, ◌%◌, ◌==◌, ◌&&◌, not, Bool, true, false, if◌then◌else◌, Option, Some, None, is_some, bit_and, bit_or}
use Rattle.chip_tables.specs.Bits.{bit_of, as_bit}
use Rattle.chip_tables.specs.declared.settings.BaudSetting.{BaudSetting}
use Rattle.chip_tables.specs.declared.settings.PwmSetting.{PwmSetting}
use Rattle.avr_devices.specs.declared.devices.Conversion.{Conversion}
use Rattle.avr_devices.specs.declared.devices.Conversion.TheVariants.{Channel, Unsupported}
use Rattle.pic_devices.specs.declared.devices.PicDevices.{PicDevices}
use Rattle.pic_devices.specs.declared.devices.PicPort.{PicPort}
use Rattle.pic_devices.specs.declared.devices.PicSerial.{PicSerial}
use Rattle.pic_devices.specs.declared.devices.PicTimer.{PicTimer}
use Rattle.pic_devices.specs.declared.devices.PicEeprom.{PicEeprom}
use Rattle.pic_devices.specs.declared.devices.PicModulator.{PicModulator}
use Rattle.pic_devices.specs.declared.part.PicPart.{PicPart}
use Rattle.pic_devices.specs.declared.part.PicPart.TheVariants.{F628, F877}
use Rattle.pic_devices.specs.Part.{eeprom_bytes}

-- a port by its number: A is 0
abbrev pub port_of : PicDevices → ℕ → PicPort
port_of d port =
    if port == 0 then d.port_a
    else if port == 1 then d.port_b
    else if port == 2 then d.port_c
    else if port == 3 then d.port_d
    else d.port_e

-- PORTx: an output pin shows its latch, an input pin the level outside
abbrev pub pins : PicPort → ℕ → ℕ
pins port levels = bit_or (bit_and port.latch (255 - port.direction)) (bit_and levels port.direction)

-- ADCON1 bits 3:1 are 011: no pin is an analog input
abbrev pub has_digital_pins : PicDevices → Bool
has_digital_pins d = d.converter.pins / 2 % 8 == 3

-- the pins of port A that show their levels: on the PIC16F628 the comparators are off, or they have RA0 to RA3; on the PIC16F877 no pin is
-- analog, or RA0 to RA3 and RA5 are
abbrev pub digital_a : PicPart → PicDevices → ℕ
digital_a F628 d = if d.comparator % 8 == 7 then 255 else 240
digital_a F877 d = if has_digital_pins d then 255 else 208

-- and of port E, which has three pins
abbrev pub digital_e : PicDevices → ℕ
digital_e d = if has_digital_pins d then 7 else 0

-- CCPR1
abbrev pub compare_of : PicTimer → ℕ
compare_of t = t.compare_high * 256 + t.compare_low

-- timer 1 counts a cycle: its prescaler in T1CON, the count in CCPR1, and CCP1CON resets it there
abbrev pub is_timing : PicDevices → Bool
is_timing d =
    d.timer.mode == 0x0b && (d.timer.control == d.settings.timer.control && compare_of d.timer == d.settings.timer.compare)

abbrev pub has_speed : PicSerial → Bool → Bool
has_speed s fast = if fast then bit_of s.transmit 2 else not (bit_of s.transmit 2)

-- SPBRG holds the divisor of the setting, and BRGH, bit 2 of TXSTA, its speed
abbrev pub has_rate : PicSerial → Option BaudSetting → Bool
has_rate s None = false
has_rate s (Some setting) = s.rate == setting.divisor && has_speed s setting.fast

-- the serial port is on: its rate is set; TXSTA has TXEN, bit 5, and not SYNC, bit 4; RCSTA has SPEN and CREN, bits 7 and 4
abbrev pub is_serial_on : PicDevices → Bool
is_serial_on d =
    has_rate d.serial d.settings.baud
    && (bit_of d.serial.transmit 5 && (not (bit_of d.serial.transmit 4) && (bit_of d.serial.receive 7 && bit_of d.serial.receive 4)))

-- the byte that was received and not read
abbrev pub received : PicDevices → Option ℕ
received d = if is_serial_on d then d.reading.rx else None

-- PIR1: RCIF in bit 5, CCP1IF in bit 2, the other bits as they were written
abbrev pub flags_byte : PicDevices → ℕ
flags_byte d =
    d.flags / 64 * 64 + (as_bit (is_some (received d)) * 32 + (d.flags / 8 % 4 * 8 + (as_bit d.timer.flag * 4 + d.flags % 4)))

-- TXSTA: TRMT in bit 1, the other bits as they were written
abbrev pub transmit_status : PicDevices → ℕ
transmit_status d = d.serial.transmit / 4 * 4 + (as_bit (not d.reading.tx_busy) * 2 + d.serial.transmit % 2)

-- the byte that a write to TXREG sends
abbrev pub sent_by : PicDevices → ℕ → Option ℕ
sent_by d x = if is_serial_on d && not d.reading.tx_busy then Some x else None

-- T2CON holds the control of the setting, PR2 its period, and CCP2CON the pulse-width mode
abbrev pub has_mode : PicModulator → Option PwmSetting → Bool
has_mode m None = false
has_mode m (Some setting) = m.control == setting.control && (m.period + 1 == setting.top && m.mode == 0x0c)

-- the modulator is set up: its mode is set, and its pin RC1, CCP2, is an output
abbrev pub is_modulating : PicDevices → Bool
is_modulating d = has_mode d.modulator d.settings.pwm && not (bit_of d.port_c.direction 1)

-- ADCON0: GO, bit 2, shows a conversion, the other bits are as they were written
abbrev pub converter_status : ℕ → Bool → ℕ
converter_status control converting = control / 8 * 8 + (as_bit converting * 4 + control % 4)

-- what a start converts, by ADCON0 and ADCON1: the converter is on by bit 0, its clock is a 32nd of the crystal's, and ADCON1 has the result
-- right-justified and all pins analog
abbrev pub conversion_by : ℕ → ℕ → Conversion
conversion_by control pins =
    if control / 64 == 2 && (bit_of control 0 && pins == 0x80) then Channel (control / 8 % 8) else Unsupported

-- EEADR, modulo the size of the memory
abbrev pub eeprom_address : PicPart → PicEeprom → ℕ
eeprom_address part e = e.address % eeprom_bytes part

-- EECON1 selects the data memory: on the PIC16F877 by EEPGD, bit 7, clear
abbrev pub is_of_data : PicPart → ℕ → Bool
is_of_data F628 control = true
is_of_data F877 control = not (bit_of control 7)

-- EECON1: bit 1 shows that a write is going on, bit 0 nothing
abbrev pub eeprom_status : PicDevices → ℕ
eeprom_status d = d.eeprom.control / 4 * 4 + as_bit d.reading.ee_busy * 2
