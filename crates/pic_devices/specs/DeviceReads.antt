-- What a device register reads as, and what the reading does: PIC16F62X and PIC16F87X data sheets, the register description of each device.
use Rattle.std.specs.Prelude.{ℕ, ◌/◌, ◌%◌, if◌then◌else◌, None, unwrap_or, slice_index, bit_and}
use Rattle.avr_devices.specs.Device.{is_converting}
use Rattle.pic_devices.specs.declared.devices.PicDevices.{PicDevices}
use Rattle.pic_devices.specs.declared.part.PicPart.{PicPart}
use Rattle.pic_devices.specs.declared.file_space.PicRegister.{PicRegister}
use Rattle.pic_devices.specs.declared.file_space.PicRegister.TheVariants.{Porta, Portb, Portc, Portd, Porte, Trisa, Trisb, Trisc, Trisd, Trise, Pir1, Tmr1l, Tmr1h, T1con, Ccpr1l, Ccpr1h, Ccp1con, Rcsta, Txreg, Rcreg, Txsta, Spbrg, Cmcon, T2con, Pr2, Ccpr2l, Ccp2con, Adresh, Adresl, Adcon0, Adcon1, Eedata, Eeadr, Eecon1, Eecon2}
use Rattle.pic_devices.specs.Device.{pins, digital_a, digital_e, received, flags_byte, transmit_status, eeprom_status, converter_status, is_serial_on}

-- TXREG and EECON2 take writes alone; the registers that are the processor's, and those that are absent, are no device's
abbrev pub device_byte : PicPart → PicDevices → PicRegister → ℕ
device_byte part d Porta = pins d.port_a (bit_and (slice_index d.reading.levels 0) (digital_a part d))
device_byte part d Portb = pins d.port_b (slice_index d.reading.levels 1)
device_byte part d Portc = pins d.port_c (slice_index d.reading.levels 2)
device_byte part d Portd = pins d.port_d (slice_index d.reading.levels 3)
device_byte part d Porte = bit_and (pins d.port_e (bit_and (slice_index d.reading.levels 4) (digital_e d))) 7
device_byte part d Trisa = d.port_a.direction
device_byte part d Trisb = d.port_b.direction
device_byte part d Trisc = d.port_c.direction
device_byte part d Trisd = d.port_d.direction
device_byte part d Trise = d.port_e.direction
device_byte part d Pir1 = flags_byte d
device_byte part d Tmr1l = d.timer.count_low
device_byte part d Tmr1h = d.timer.count_high
device_byte part d T1con = d.timer.control
device_byte part d Ccpr1l = d.timer.compare_low
device_byte part d Ccpr1h = d.timer.compare_high
device_byte part d Ccp1con = d.timer.mode
device_byte part d Rcsta = d.serial.receive
device_byte part d Txreg = 0
device_byte part d Rcreg = unwrap_or (received d) 0
device_byte part d Txsta = transmit_status d
device_byte part d Spbrg = d.serial.rate
device_byte part d Cmcon = d.comparator
device_byte part d T2con = d.modulator.control
device_byte part d Pr2 = d.modulator.period
device_byte part d Ccpr2l = d.modulator.duty
device_byte part d Ccp2con = d.modulator.mode
device_byte part d Adresh = d.converter.result / 256
device_byte part d Adresl = d.converter.result % 256
device_byte part d Adcon0 = converter_status d.converter.control (is_converting d.converter.conversion)
device_byte part d Adcon1 = d.converter.pins
device_byte part d Eedata = d.eeprom.data_byte
device_byte part d Eeadr = d.eeprom.address
device_byte part d Eecon1 = eeprom_status d
device_byte part d Eecon2 = 0
device_byte part d _ = 0

-- reading RCREG takes the byte that was received
abbrev pub byte_taken : PicDevices → PicDevices
byte_taken d = if is_serial_on d then record d { reading = record d.reading { rx = None } } else d
