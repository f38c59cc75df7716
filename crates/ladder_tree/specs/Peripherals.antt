-- Which peripheral of a chip an element uses.
use Rattle.std.specs.Prelude.{ℕ, Bool, true, false, List, Option, Some, None, is_some}
use Rattle.std.specs.List.{list_any}
use Rattle.ladder_tree.specs.declared.element.Leaf as element
use Rattle.ladder_tree.specs.declared.element.LeafKind.{LeafKind}
use Rattle.ladder_tree.specs.declared.element.LeafKind.TheVariants.{Contacts, Coil, Osr, Osf, Short, Open, MasterRelay, Placeholder, Comment, Timer, Counter, Reset, Move, Math, Compare, Shift, Table, ReadAdc, SetPwm, Recv, Send, Persist, Linear, Formatted}
use Rattle.ladder_tree.specs.declared.peripheral.Peripheral.{Peripheral}
use Rattle.ladder_tree.specs.declared.peripheral.Peripheral.TheVariants.{Converter, Modulator, SerialPort, Eeprom}

abbrev pub peripheral_of : LeafKind → Option Peripheral
peripheral_of (Contacts name neg) = None
peripheral_of (Coil name mode) = None
peripheral_of Osr = None
peripheral_of Osf = None
peripheral_of Short = None
peripheral_of Open = None
peripheral_of MasterRelay = None
peripheral_of Placeholder = None
peripheral_of (Comment text) = None
peripheral_of (Timer how name delay) = None
peripheral_of (Counter how name max) = None
peripheral_of (Reset name) = None
peripheral_of (Move dest src) = None
peripheral_of (Math how dest a b) = None
peripheral_of (Compare how a b) = None
peripheral_of (Shift name places) = None
peripheral_of (Table dest index as_text values) = None
peripheral_of (ReadAdc name) = Some Converter
peripheral_of (SetPwm name hz) = Some (Modulator hz)
peripheral_of (Recv name) = Some SerialPort
peripheral_of (Send name) = Some SerialPort
peripheral_of (Persist name) = Some Eeprom
peripheral_of (Linear dest index points) = None
peripheral_of (Formatted name text) = None

abbrev pub is_converter : Option Peripheral → Bool
is_converter None = false
is_converter (Some Converter) = true
is_converter (Some (Modulator hz)) = false
is_converter (Some SerialPort) = false
is_converter (Some Eeprom) = false

abbrev pub is_serial_port : Option Peripheral → Bool
is_serial_port None = false
is_serial_port (Some Converter) = false
is_serial_port (Some (Modulator hz)) = false
is_serial_port (Some SerialPort) = true
is_serial_port (Some Eeprom) = false

abbrev pub is_eeprom : Option Peripheral → Bool
is_eeprom None = false
is_eeprom (Some Converter) = false
is_eeprom (Some (Modulator hz)) = false
is_eeprom (Some SerialPort) = false
is_eeprom (Some Eeprom) = true

-- the hertz of the pulse-width modulator
abbrev pub hertz_of : Option Peripheral → Option ℕ
hertz_of None = None
hertz_of (Some Converter) = None
hertz_of (Some (Modulator hz)) = Some hz
hertz_of (Some SerialPort) = None
hertz_of (Some Eeprom) = None

abbrev pub uses_adc : LeafKind → Bool
uses_adc k = is_converter (peripheral_of k)

abbrev pub uses_uart : LeafKind → Bool
uses_uart k = is_serial_port (peripheral_of k)

abbrev pub uses_eeprom : LeafKind → Bool
uses_eeprom k = is_eeprom (peripheral_of k)

-- the hertz of a SET_PWM
abbrev pub rate_of : LeafKind → Option ℕ
rate_of k = hertz_of (peripheral_of k)

abbrev pub uses_pwm : LeafKind → Bool
uses_pwm k = is_some (rate_of k)

abbrev pub any_uart : List element.Leaf → Bool
any_uart ls = list_any (λ l. uses_uart l.kind) ls

-- whether there is a SET_PWM
abbrev pub any_pwm : List element.Leaf → Bool
any_pwm ls = list_any (λ l. uses_pwm l.kind) ls
