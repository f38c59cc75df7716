-- The registers of the I/O space and their addresses: ATmega16 data sheet, "Register Summary".
use Rattle.std.specs.Prelude.{ℕ, ◌-◌, ◌*◌, ◌==◌, ◌&&◌, nat_le, not, Bool, if◌then◌else◌}
use Rattle.avr_devices.specs.declared.io_space.IoRegister.{IoRegister}
use Rattle.avr_devices.specs.declared.io_space.IoRegister.TheVariants.{Adcl, Adch, Adcsra, Admux, Ubrrl, Ucsrb, Ucsra, Udr, Pind, Ddrd, Portd, Pinc, Ddrc, Portc, Pinb, Ddrb, Portb, Pina, Ddra, Porta, Eecr, Eedr, Eearl, Eearh, Ubrrh, Ocr2, Tccr2, Ocr1al, Ocr1ah, Tccr1b, Tccr1a, Tifr, Spl, Sph, Sreg, Absent}
use Rattle.avr_devices.specs.Part.{AvrPart}

-- the register at an I/O address, where all ports are there; at the other addresses there is none
abbrev pub register_at : ℕ → IoRegister
register_at a =
    if a == 0x04 then Adcl
    else if a == 0x05 then Adch
    else if a == 0x06 then Adcsra
    else if a == 0x07 then Admux
    else if a == 0x09 then Ubrrl
    else if a == 0x0a then Ucsrb
    else if a == 0x0b then Ucsra
    else if a == 0x0c then Udr
    else if a == 0x10 then Pind
    else if a == 0x11 then Ddrd
    else if a == 0x12 then Portd
    else if a == 0x13 then Pinc
    else if a == 0x14 then Ddrc
    else if a == 0x15 then Portc
    else if a == 0x16 then Pinb
    else if a == 0x17 then Ddrb
    else if a == 0x18 then Portb
    else if a == 0x19 then Pina
    else if a == 0x1a then Ddra
    else if a == 0x1b then Porta
    else if a == 0x1c then Eecr
    else if a == 0x1d then Eedr
    else if a == 0x1e then Eearl
    else if a == 0x1f then Eearh
    else if a == 0x20 then Ubrrh
    else if a == 0x23 then Ocr2
    else if a == 0x25 then Tccr2
    else if a == 0x2a then Ocr1al
    else if a == 0x2b then Ocr1ah
    else if a == 0x2e then Tccr1b
    else if a == 0x2f then Tccr1a
    else if a == 0x38 then Tifr
    else if a == 0x3d then Spl
    else if a == 0x3e then Sph
    else if a == 0x3f then Sreg
    else Absent

abbrev pub is_of_port_a : ℕ → Bool
is_of_port_a a = nat_le 0x19 a && nat_le a 0x1b

-- the register at an I/O address of a part
abbrev pub register_in : AvrPart → ℕ → IoRegister
register_in part a = if not part.has_port_a && is_of_port_a a then Absent else register_at a

-- The registers of a port by its number, of which A is 0: its latches (PORT), its directions (DDR) and the levels at its pins (PIN).
abbrev pub latch_register : ℕ → IoRegister
latch_register port = if port == 0 then Porta else if port == 1 then Portb else if port == 2 then Portc else if port == 3 then Portd else Absent

abbrev pub direction_register : ℕ → IoRegister
direction_register port = if port == 0 then Ddra else if port == 1 then Ddrb else if port == 2 then Ddrc else if port == 3 then Ddrd else Absent

abbrev pub level_register : ℕ → IoRegister
level_register port = if port == 0 then Pina else if port == 1 then Pinb else if port == 2 then Pinc else if port == 3 then Pind else Absent

-- their I/O addresses: three for each port, from D up to A
abbrev pub latch_address : ℕ → ℕ
latch_address port = 0x1b - 3 * port

abbrev pub direction_address : ℕ → ℕ
direction_address port = 0x1a - 3 * port

abbrev pub level_address : ℕ → ℕ
level_address port = 0x19 - 3 * port
