-- The numbers and the names of faults in status lines.
use Rattle.std.specs.Prelude.{ℕ, List, codes}
use Rattle.ladder_tree.specs.declared.fault.ProjectFault.{ProjectFault}
use Rattle.ladder_tree.specs.declared.fault.ProjectFault.TheVariants.{NotProject, BadLine, LineTooLong, TooDeep, TooMany, Unclosed, UnknownChip, NumberRange, NotRightmost, WrongKind, TimerTwice, TimerShort, TimerLong, NoAdc, NoPwm, PwmTwoRates, PinUnassigned, PinTwice, NoSuchPin, PinTaken, CycleRange, BaudRange, PwmRange, RamFull, EepromFull, CodeFull, NotBuilt}

abbrev pub number_of : ProjectFault → ℕ
number_of (NotProject line) = 1
number_of (BadLine line) = 2
number_of (LineTooLong line) = 3
number_of (TooDeep line) = 4
number_of (TooMany line) = 5
number_of (Unclosed line) = 6
number_of (UnknownChip line) = 7
number_of (NumberRange line) = 8
number_of (NotRightmost line) = 9
number_of (WrongKind line) = 10
number_of (TimerTwice line first) = 11
number_of (TimerShort line) = 12
number_of (TimerLong line) = 13
number_of (NoAdc line) = 14
number_of (NoPwm line) = 15
number_of (PwmTwoRates line) = 16
number_of (PinUnassigned line) = 17
number_of (PinTwice line pin) = 18
number_of (NoSuchPin line pin) = 19
number_of (PinTaken line pin) = 20
number_of (CycleRange line) = 21
number_of (BaudRange line) = 22
number_of (PwmRange line) = 23
number_of (RamFull need have) = 24
number_of (EepromFull need have) = 25
number_of (CodeFull need have) = 26
number_of (NotBuilt line) = 27

abbrev pub name_of : ProjectFault → List ℕ
name_of (NotProject line) = codes "NotProject"
name_of (BadLine line) = codes "BadLine"
name_of (LineTooLong line) = codes "LineTooLong"
name_of (TooDeep line) = codes "TooDeep"
name_of (TooMany line) = codes "TooMany"
name_of (Unclosed line) = codes "Unclosed"
name_of (UnknownChip line) = codes "UnknownChip"
name_of (NumberRange line) = codes "NumberRange"
name_of (NotRightmost line) = codes "NotRightmost"
name_of (WrongKind line) = codes "WrongKind"
name_of (TimerTwice line first) = codes "TimerTwice"
name_of (TimerShort line) = codes "TimerShort"
name_of (TimerLong line) = codes "TimerLong"
name_of (NoAdc line) = codes "NoAdc"
name_of (NoPwm line) = codes "NoPwm"
name_of (PwmTwoRates line) = codes "PwmTwoRates"
name_of (PinUnassigned line) = codes "PinUnassigned"
name_of (PinTwice line pin) = codes "PinTwice"
name_of (NoSuchPin line pin) = codes "NoSuchPin"
name_of (PinTaken line pin) = codes "PinTaken"
name_of (CycleRange line) = codes "CycleRange"
name_of (BaudRange line) = codes "BaudRange"
name_of (PwmRange line) = codes "PwmRange"
name_of (RamFull need have) = codes "RamFull"
name_of (EepromFull need have) = codes "EepromFull"
name_of (CodeFull need have) = codes "CodeFull"
name_of (NotBuilt line) = codes "NotBuilt"
