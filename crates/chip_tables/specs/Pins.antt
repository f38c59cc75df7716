-- The pins of each chip: which port bit, which analog channel, and which devices stand at them.
-- PIC16F62X data sheet, pin diagrams, PDIP; PIC16F87X data sheet, pin diagrams, PDIP;
-- ATmega16 data sheet, "Pin Configurations", PDIP.
use Rattle.std.specs.Prelude.{ℕ, zero, suc, ◌+◌, ◌-◌, ◌==◌, Bool, List, [], ◌∷◌, ◌++◌, Option, Some, None, position, find, option_map}
use Rattle.chip_tables.specs.declared.target.Target.{Target}
use Rattle.chip_tables.specs.declared.target.Target.TheVariants.{F628, F877, Mega16, Interp, AnsiC}
use Rattle.chip_tables.specs.declared.pins.PinRow.{PinRow}
use Rattle.chip_tables.specs.declared.pins.PortBit.{PortBit}

abbrev pub row : ℕ → ℕ → ℕ → PinRow
row pin port bit = record { pin = pin; port = port; bit = bit }

-- so many pins from this one on carry bits of the port, from this one up
abbrev pub upward : ℕ → ℕ → ℕ → ℕ → List PinRow
upward zero pin port bit = []
upward (suc more) pin port bit = row pin port bit ∷ upward more (pin + 1) port (bit + 1)

-- so many pins from this one on carry bits of the port, from this one down
abbrev pub downward : ℕ → ℕ → ℕ → ℕ → List PinRow
downward zero pin port bit = []
downward (suc more) pin port bit = row pin port bit ∷ downward more (pin + 1) port (bit - 1)

abbrev pub port_a : ℕ
port_a = 0

abbrev pub port_b : ℕ
port_b = 1

abbrev pub port_c : ℕ
port_c = 2

abbrev pub port_d : ℕ
port_d = 3

abbrev pub port_e : ℕ
port_e = 4

-- the I/O pins: how many, from which pin on, of which port, from which bit on
abbrev pub io_pins : Target → List PinRow
io_pins F628 = upward 3 1 port_a 2 ++ (upward 8 6 port_b 0 ++ upward 2 17 port_a 0)
io_pins F877 =
    upward 6 2 port_a 0 ++ (upward 3 8 port_e 0 ++ (upward 4 15 port_c 0 ++ (upward 4 19 port_d 0
    ++ (upward 4 23 port_c 4 ++ (upward 4 27 port_d 4 ++ upward 8 33 port_b 0)))))
io_pins Mega16 =
    upward 8 1 port_b 0 ++ (upward 8 14 port_d 0 ++ (upward 8 22 port_c 0 ++ downward 8 33 port_a 7))
io_pins Interp = []
io_pins AnsiC = []

-- the ports from A on
abbrev pub port_count : Target → ℕ
port_count F628 = 2
port_count F877 = 5
port_count Mega16 = 4
port_count Interp = 0
port_count AnsiC = 0

abbrev pub is_at : ℕ → PinRow → Bool
is_at pin r = r.pin == pin

abbrev pub port_bit_of : PinRow → PortBit
port_bit_of r = record { port = r.port; bit = r.bit }

abbrev pub port_bit_in : List PinRow → ℕ → Option PortBit
port_bit_in rows pin = option_map port_bit_of (find (is_at pin) rows)

abbrev pub port_bit_at : Target → ℕ → Option PortBit
port_bit_at target pin = port_bit_in (io_pins target) pin

-- the pins of the converter's channels, from channel 0 on
abbrev pub analog_pins : Target → List ℕ
analog_pins F628 = []
analog_pins F877 = 2 ∷ 3 ∷ 4 ∷ 5 ∷ 7 ∷ 8 ∷ 9 ∷ 10 ∷ []
analog_pins Mega16 = 40 ∷ 39 ∷ 38 ∷ 37 ∷ 36 ∷ 35 ∷ 34 ∷ 33 ∷ []
analog_pins Interp = []
analog_pins AnsiC = []

abbrev pub channel_at : Target → ℕ → Option ℕ
channel_at target pin = position (λ input. input == pin) (analog_pins target)

abbrev pub rx_at : Target → Option ℕ
rx_at F628 = Some 7
rx_at F877 = Some 26
rx_at Mega16 = Some 14
rx_at Interp = None
rx_at AnsiC = None

abbrev pub tx_at : Target → Option ℕ
tx_at F628 = Some 8
tx_at F877 = Some 25
tx_at Mega16 = Some 15
tx_at Interp = None
tx_at AnsiC = None

-- CCP2 of the PIC16F877, OC2 of the ATmega16
abbrev pub pwm_at : Target → Option ℕ
pwm_at F628 = None
pwm_at F877 = Some 16
pwm_at Mega16 = Some 21
pwm_at Interp = None
pwm_at AnsiC = None
