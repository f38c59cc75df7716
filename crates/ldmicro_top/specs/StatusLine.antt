-- The exit status and the line of each way that a run ends.
use Rattle.std.specs.Prelude.{ℕ, ◌/◌, ◌%◌, List, [], ◌∷◌, ◌++◌, codes}
use Rattle.std.specs.Fmt.{decimal}
use Rattle.hex.specs.Hex.{encode_upper}
use Rattle.chip_tables.specs.declared.outside.StuckCause.{StuckCause}
use Rattle.chip_tables.specs.declared.outside.StuckCause.TheVariants as cause
use Rattle.intel_hex.specs.declared.fault.HexCause.{HexCause}
use Rattle.intel_hex.specs.declared.fault.HexCause.TheVariants as hex
use Rattle.ladder_tree.specs.Fault.{number_of, name_of}
use Rattle.ladder_tree.specs.declared.fault.ProjectFault.{ProjectFault}
use Rattle.ladder_tree.specs.declared.fault.ProjectFault.TheVariants.{NotProject, BadLine, LineTooLong, TooDeep, TooMany, Unclosed, UnknownChip, NumberRange, NotRightmost, WrongKind, TimerTwice, TimerShort, TimerLong, NoAdc, NoPwm, PwmTwoRates, PinUnassigned, PinTwice, NoSuchPin, PinTaken, CycleRange, BaudRange, PwmRange, RamFull, EepromFull, CodeFull, NotBuilt}
use Rattle.ldmicro_top.specs.declared.status.Status.{Status}
use Rattle.ldmicro_top.specs.declared.status.Status.TheVariants as status
use Rattle.ldmicro_top.specs.declared.status.InputFault.{InputFault}
use Rattle.ldmicro_top.specs.declared.status.InputFault.TheVariants as input
use Rattle.ldmicro_top.specs.declared.status.Place.{Place}
use Rattle.ldmicro_top.specs.declared.status.Place.TheVariants as at

abbrev pub code_of : Status → ℕ
code_of status.Ok = 0
code_of status.Usage = 1
code_of (status.Refused fault) = 2
code_of status.ReadFault = 3
code_of status.WriteFault = 4
code_of status.NoMemory = 5
code_of (status.BadInput fault) = 6
code_of (status.NoCycleEnd cycle) = 7
code_of (status.Stuck cycle s) = 8

abbrev pub place_of : ProjectFault → Place
place_of (NotProject line) = at.Line line
place_of (BadLine line) = at.Line line
place_of (LineTooLong line) = at.Line line
place_of (TooDeep line) = at.Line line
place_of (TooMany line) = at.Line line
place_of (Unclosed line) = at.Line line
place_of (UnknownChip line) = at.Line line
place_of (NumberRange line) = at.Line line
place_of (NotRightmost line) = at.Line line
place_of (WrongKind line) = at.Line line
place_of (TimerTwice line first) = at.Twice line first
place_of (TimerShort line) = at.Line line
place_of (TimerLong line) = at.Line line
place_of (NoAdc line) = at.Line line
place_of (NoPwm line) = at.Line line
place_of (PwmTwoRates line) = at.Line line
place_of (PinUnassigned line) = at.Line line
place_of (PinTwice line pin) = at.Pin line pin
place_of (NoSuchPin line pin) = at.Pin line pin
place_of (PinTaken line pin) = at.Pin line pin
place_of (CycleRange line) = at.Line line
place_of (BaudRange line) = at.Line line
place_of (PwmRange line) = at.Line line
place_of (RamFull need have) = at.Need need have
place_of (EepromFull need have) = at.Need need have
place_of (CodeFull need have) = at.Need need have
place_of (NotBuilt line) = at.Line line

abbrev pub place_text : Place → List ℕ
place_text (at.Line line) = codes "line " ++ decimal line
place_text (at.Twice line first) = codes "line " ++ (decimal line ++ (codes " first " ++ decimal first))
place_text (at.Pin line pin) = codes "line " ++ (decimal line ++ (codes " pin " ++ decimal pin))
place_text (at.Need need have) = codes "need " ++ (decimal need ++ (codes " have " ++ decimal have))

-- what is wrong with a line of a HEX file
abbrev pub hex_cause_name : HexCause → List ℕ
hex_cause_name hex.BadRecord = codes "BadRecord"
hex_cause_name hex.BadSum = codes "BadSum"
hex_cause_name hex.Outside = codes "Outside"
hex_cause_name hex.Overlap = codes "Overlap"
hex_cause_name hex.NoEnd = codes "NoEnd"

-- what is wrong with a file, and where
abbrev pub input_text : InputFault → List ℕ
input_text (input.Interp line) = codes "file line " ++ decimal line
input_text input.NoMachine = codes "file no machine"
input_text (input.OtherProject line) = codes "file line " ++ (decimal line ++ codes " other project")
input_text (input.Hex line cause) = codes "file line " ++ (decimal line ++ (codes " " ++ hex_cause_name cause))
input_text (input.Trace line) = codes "trace line " ++ decimal line

-- the lowest 16 bits as four upper-case hexadecimal digits
abbrev pub four_digits : ℕ → List ℕ
four_digits n = encode_upper (n / 256 % 256 ∷ n % 256 ∷ [])

-- why code has no step
abbrev pub cause_name : StuckCause → List ℕ
cause_name cause.Undefined = codes "Undefined"
cause_name cause.StackDepth = codes "StackDepth"
cause_name cause.PastFlash = codes "PastFlash"

-- the line that a status prints; after Ok the report or the lines of a run are printed, and after two faults nothing is
abbrev pub line_of : Status → List ℕ
line_of status.Ok = []
line_of status.Usage = codes "usage: ldmicro /c source dest | /s source trace | /r source file trace | /g number dest\n"
line_of (status.Refused fault) =
    codes "refused " ++ (decimal (number_of fault) ++ (codes " " ++ (name_of fault ++ (codes " " ++ (place_text (place_of fault) ++ codes "\n")))))
line_of status.ReadFault = codes "read fault\n"
line_of status.WriteFault = []
line_of status.NoMemory = []
line_of (status.BadInput fault) = codes "bad input " ++ (input_text fault ++ codes "\n")
line_of (status.NoCycleEnd cycle) = codes "no cycle end in cycle " ++ (decimal cycle ++ codes "\n")
line_of (status.Stuck cycle s) =
    codes "stuck in cycle " ++ (decimal cycle ++ (codes " at " ++ (four_digits s.place
    ++ (codes " word " ++ (four_digits s.word ++ (codes " " ++ (cause_name s.cause ++ codes "\n")))))))
