-- What each part of a program costs at most: words, cycles and operations. The numbers are this
-- project's own: the compiler's code for each chip stays within them.
use Rattle.std.specs.Prelude.{ℕ}
use Rattle.chip_tables.specs.declared.target.Target.{Target}
use Rattle.chip_tables.specs.declared.target.Target.TheVariants.{F628, F877, Mega16, Interp, AnsiC}
use Rattle.chip_tables.specs.declared.cost_kind.CostKind.{CostKind}
use Rattle.chip_tables.specs.declared.cost_kind.CostKind.TheVariants.{Base, MulFeature, DivFeature, PersistFeature, UartFeature, AdcFeature, PwmFeature, Rung, Parallel, Branch, Contacts, Coil, OneShot, Still, Open, TonRto, Tof, Count, Reset, Move, AddSub, Mul, Div, Compare, Shift, Table, ReadAdc, SetPwm, Uart, Persist, MasterRelay, Linear, Formatted, FormattedField}
use Rattle.chip_tables.specs.declared.cost_kind.Cost.{Cost}
use Rattle.chip_tables.specs.declared.cost_table.CostCell.{CostCell}
use Rattle.chip_tables.specs.declared.cost_table.CostRow.{CostRow}

abbrev pub growing : ℕ → ℕ → CostCell
growing once each = record { once = once; each = each }

abbrev pub fixed : ℕ → CostCell
fixed once = growing once 0

abbrev pub row : ℕ → ℕ → ℕ → ℕ → ℕ → CostRow
row f628 f877 mega16 cycles ops =
    record { f628 = fixed f628; f877 = fixed f877; mega16 = fixed mega16; cycles = fixed cycles; ops = fixed ops }

-- words on the PIC16F628, the PIC16F877 and the ATmega16, cycles, operations
abbrev pub row_of : CostKind → CostRow
row_of Base = row 160 260 240 60 4
row_of MulFeature = row 100 160 160 0 0
row_of DivFeature = row 200 300 320 0 0
row_of PersistFeature = row 140 220 160 0 0
row_of UartFeature = row 20 30 30 0 0
row_of AdcFeature = row 0 30 30 0 0
row_of PwmFeature = row 0 40 30 0 0
row_of Rung = row 8 10 10 16 2
row_of Parallel = row 16 20 20 30 4
row_of Branch = row 12 20 22 30 8
row_of Contacts = row 8 8 10 12 4
row_of Coil = row 12 16 22 24 6
row_of OneShot = row 26 40 40 60 8
row_of Still = row 0 0 0 0 0
row_of Open = row 2 2 2 4 2
row_of TonRto = row 66 84 66 100 14
row_of Tof = row 80 100 80 110 14
row_of Count = row 80 100 80 120 16
row_of Reset = row 14 18 16 24 4
row_of Move = row 20 24 22 30 4
row_of AddSub = row 36 42 36 52 4
row_of Mul = row 44 54 44 1600 4
row_of Div = row 44 54 44 2600 4
row_of Compare = row 50 58 44 70 8
row_of Shift = record { f628 = growing 30 16; f877 = growing 40 16; mega16 = growing 40 12; cycles = growing 60 20; ops = growing 8 1 }
row_of Table = record { f628 = growing 30 16; f877 = growing 40 22; mega16 = growing 30 18; cycles = growing 60 24; ops = fixed 4 }
row_of ReadAdc = row 0 70 60 200 4
row_of SetPwm = row 0 170 140 4500 4
row_of Uart = row 30 36 30 60 8
row_of Persist = row 110 140 120 500 20
row_of MasterRelay = row 16 24 24 36 8
row_of Linear = record { f628 = growing 60 180; f877 = growing 80 230; mega16 = growing 60 170; cycles = growing 4400 80; ops = growing 10 7 }
row_of Formatted = record { f628 = growing 250 40; f877 = growing 340 56; mega16 = growing 260 36; cycles = growing 900 60; ops = growing 45 4 }
row_of FormattedField = record { f628 = growing 0 150; f877 = growing 0 190; mega16 = growing 0 140; cycles = growing 0 4700; ops = growing 0 14 }

abbrev pub words_on : Target → CostRow → CostCell
words_on F628 r = r.f628
words_on F877 r = r.f877
words_on Mega16 r = r.mega16
words_on Interp r = fixed 0
words_on AnsiC r = fixed 0

abbrev pub cycles_on : Target → CostRow → CostCell
cycles_on F628 r = r.cycles
cycles_on F877 r = r.cycles
cycles_on Mega16 r = r.cycles
cycles_on Interp r = fixed 0
cycles_on AnsiC r = fixed 0

abbrev pub cost_of : Target → CostKind → Cost
cost_of target kind =
    let r = row_of kind in
    let words = words_on target r in
    let cycles = cycles_on target r in
    record { words = words.once; words_each = words.each; cycles = cycles.once; cycles_each = cycles.each; ops = r.ops.once; ops_each = r.ops.each }
