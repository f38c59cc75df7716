-- The word that the line of an element begins with, and the elements that are built for a target.
use Rattle.std.specs.Prelude.{Bool}
use Rattle.chip_tables.specs.declared.target.Target.{Target}
use Rattle.ladder_tree.specs.declared.element.TimerHow.{TimerHow}
use Rattle.ladder_tree.specs.declared.element.TimerHow.TheVariants as timer
use Rattle.ladder_tree.specs.declared.element.CounterHow.{CounterHow}
use Rattle.ladder_tree.specs.declared.element.CounterHow.TheVariants as counter
use Rattle.ladder_tree.specs.declared.element.MathHow.{MathHow}
use Rattle.ladder_tree.specs.declared.element.MathHow.TheVariants as sum
use Rattle.ladder_tree.specs.declared.element.CompareHow.{CompareHow}
use Rattle.ladder_tree.specs.declared.element.CompareHow.TheVariants as test
use Rattle.ladder_tree.specs.declared.element.LeafKind.{LeafKind}
use Rattle.ladder_tree.specs.declared.element.LeafKind.TheVariants.{Contacts, Coil, Osr, Osf, Short, Open, MasterRelay, Placeholder, Comment, Timer, Counter, Reset, Move, Math, Compare, Shift, Table, ReadAdc, SetPwm, Recv, Send, Persist, Linear, Formatted}
use Rattle.ld_line.specs.Words.{is_built}
use Rattle.ld_line.specs.declared.word.Word.{Word}
use Rattle.ld_line.specs.declared.word.Word.TheVariants as word

abbrev pub timer_word : TimerHow → Word
timer_word timer.Ton = word.Ton
timer_word timer.Tof = word.Tof
timer_word timer.Rto = word.Rto

abbrev pub counter_word : CounterHow → Word
counter_word counter.Ctu = word.Ctu
counter_word counter.Ctd = word.Ctd
counter_word counter.Ctc = word.Ctc

abbrev pub math_word : MathHow → Word
math_word sum.Add = word.Add
math_word sum.Sub = word.Sub
math_word sum.Mul = word.Mul
math_word sum.Div = word.Div

abbrev pub compare_word : CompareHow → Word
compare_word test.Equ = word.Equ
compare_word test.Neq = word.Neq
compare_word test.Grt = word.Grt
compare_word test.Geq = word.Geq
compare_word test.Les = word.Les
compare_word test.Leq = word.Leq

-- the word that an element's line begins with
abbrev pub word_for : LeafKind → Word
word_for (Contacts name neg) = word.Contacts
word_for (Coil name mode) = word.Coil
word_for Osr = word.Osr
word_for Osf = word.Osf
word_for Short = word.Short
word_for Open = word.Open
word_for MasterRelay = word.MasterRelay
word_for Placeholder = word.Placeholder
word_for (Comment text) = word.Comment
word_for (Timer how name delay) = timer_word how
word_for (Counter how name max) = counter_word how
word_for (Reset name) = word.Res
word_for (Move dest src) = word.Move
word_for (Math how dest a b) = math_word how
word_for (Compare how a b) = compare_word how
word_for (Shift name places) = word.ShiftRegister
word_for (Table dest index as_text values) = word.LookUpTable
word_for (ReadAdc name) = word.ReadAdc
word_for (SetPwm name hz) = word.SetPwm
word_for (Recv name) = word.UartRecv
word_for (Send name) = word.UartSend
word_for (Persist name) = word.Persist
word_for (Linear dest index points) = word.PiecewiseLinear
word_for (Formatted name text) = word.FormattedString

-- the elements that are built for a target are those whose words are
abbrev pub is_kind_built : Target → LeafKind → Bool
is_kind_built target kind = is_built target (word_for kind)
