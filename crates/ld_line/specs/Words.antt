-- The words that elements begin with: how each is spelled, and for which targets it is built.
use Rattle.std.specs.Prelude.{ℕ, Bool, true, false, not, ◌&&◌, List, Option, codes}
use Rattle.std.specs.List.{find}
use Rattle.std.specs.Str.{bytes_eq}
use Rattle.chip_tables.specs.declared.target.Target.{Target}
use Rattle.chip_tables.specs.declared.target.Target.TheVariants.{F628, F877, Mega16, Interp, AnsiC}
use Rattle.ld_line.specs.declared.word.Word.{Word}
use Rattle.ld_line.specs.declared.word.Word.TheVariants.{Contacts, Coil, Osr, Osf, Short, Open, Comment, MasterRelay, Placeholder, Ton, Tof, Rto, Ctu, Ctd, Ctc, Res, Move, Add, Sub, Mul, Div, Equ, Neq, Grt, Geq, Les, Leq, ShiftRegister, LookUpTable, ReadAdc, SetPwm, UartRecv, UartSend, Persist, FormattedString, PiecewiseLinear}
use Rattle.ld_line.specs.declared.word.TheConstants.{WORDS}

abbrev pub spelling : Word → List ℕ
spelling Contacts = codes "CONTACTS"
spelling Coil = codes "COIL"
spelling Osr = codes "OSR"
spelling Osf = codes "OSF"
spelling Short = codes "SHORT"
spelling Open = codes "OPEN"
spelling Comment = codes "COMMENT"
spelling MasterRelay = codes "MASTER_RELAY"
spelling Placeholder = codes "PLACEHOLDER"
spelling Ton = codes "TON"
spelling Tof = codes "TOF"
spelling Rto = codes "RTO"
spelling Ctu = codes "CTU"
spelling Ctd = codes "CTD"
spelling Ctc = codes "CTC"
spelling Res = codes "RES"
spelling Move = codes "MOVE"
spelling Add = codes "ADD"
spelling Sub = codes "SUB"
spelling Mul = codes "MUL"
spelling Div = codes "DIV"
spelling Equ = codes "EQU"
spelling Neq = codes "NEQ"
spelling Grt = codes "GRT"
spelling Geq = codes "GEQ"
spelling Les = codes "LES"
spelling Leq = codes "LEQ"
spelling ShiftRegister = codes "SHIFT_REGISTER"
spelling LookUpTable = codes "LOOK_UP_TABLE"
spelling ReadAdc = codes "READ_ADC"
spelling SetPwm = codes "SET_PWM"
spelling UartRecv = codes "UART_RECV"
spelling UartSend = codes "UART_SEND"
spelling Persist = codes "PERSIST"
spelling FormattedString = codes "FORMATTED_STRING"
spelling PiecewiseLinear = codes "PIECEWISE_LINEAR"

-- the word that a token is, of all words
abbrev pub word_of : List ℕ → Option Word
word_of token = find (λ word. bytes_eq (spelling word) token) WORDS

-- what ladders are built of: all words but those that are not built for any target yet
abbrev pub is_ladder_word : Word → Bool
is_ladder_word Contacts = true
is_ladder_word Coil = true
is_ladder_word Osr = true
is_ladder_word Osf = true
is_ladder_word Short = true
is_ladder_word Open = true
is_ladder_word Comment = true
is_ladder_word MasterRelay = true
is_ladder_word Placeholder = true
is_ladder_word Ton = true
is_ladder_word Tof = true
is_ladder_word Rto = true
is_ladder_word Ctu = true
is_ladder_word Ctd = true
is_ladder_word Ctc = true
is_ladder_word Res = true
is_ladder_word Move = true
is_ladder_word Add = true
is_ladder_word Sub = true
is_ladder_word Mul = true
is_ladder_word Div = true
is_ladder_word Equ = true
is_ladder_word Neq = true
is_ladder_word Grt = true
is_ladder_word Geq = true
is_ladder_word Les = true
is_ladder_word Leq = true
is_ladder_word ShiftRegister = true
is_ladder_word LookUpTable = true
is_ladder_word ReadAdc = true
is_ladder_word SetPwm = true
is_ladder_word UartRecv = true
is_ladder_word UartSend = true
is_ladder_word Persist = true
is_ladder_word FormattedString = false
is_ladder_word PiecewiseLinear = false

-- the words of what a device of the chip does
abbrev pub is_device_word : Word → Bool
is_device_word ReadAdc = true
is_device_word SetPwm = true
is_device_word UartRecv = true
is_device_word UartSend = true
is_device_word Persist = true
is_device_word _ = false

-- the words that are built for a target: for the ATmega16 all but those of devices
abbrev pub is_built : Target → Word → Bool
is_built Interp word = is_ladder_word word
is_built F628 word = false
is_built F877 word = false
is_built Mega16 word = is_ladder_word word && not (is_device_word word)
is_built AnsiC word = is_ladder_word word

-- the targets that projects are compiled for
abbrev pub is_target_built : Target → Bool
is_target_built Interp = true
is_target_built F628 = false
is_target_built F877 = false
is_target_built Mega16 = true
is_target_built AnsiC = true
