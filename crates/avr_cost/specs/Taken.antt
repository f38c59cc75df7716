-- What the ATmega16's code takes for each kind of primitive at most.
use Rattle.std.specs.Prelude.{◌≡◌, ℕ, ◌+◌, ◌*◌, ◌≤◌, Bool, cond, List, All, sum_by}
use Rattle.chip_tables.specs.declared.target.Target.TheVariants.{Mega16}
use Rattle.byte_code.specs.Kinds as kind
use Rattle.byte_code.specs.Kinds.{PrimKind, kinds, boot_kinds, turn_kinds}
use Rattle.byte_code.specs.declared.prim.Paced.{Paced}
use Rattle.target_core.specs.Whole.{words_sum, cycles_sum, boot_sum}
use Rattle.byte_lower.specs.Uses.{Uses}
use Rattle.byte_lower.specs.declared.layout.Layout.{Layout}
use Rattle.avr_code.specs.Code.{Board}
use Rattle.avr_code.specs.Target.{avr_target}

-- a bit that is tested has to be fetched where it is no register's
abbrev pub fetch_words : Bool → ℕ
fetch_words from = cond from 0 2

-- Words. What has no code yet, as that of devices, has none.
abbrev pub kind_words : PrimKind → ℕ
kind_words kind.Start = 35
kind_words kind.CyclePoll = 4
kind_words kind.AdcPoll = 0
kind_words kind.Jump = 2
kind_words kind.Call = 2
kind_words kind.Return = 1
kind_words kind.Loop = 4
kind_words (kind.JumpIf from) = fetch_words from + 3
kind_words kind.JumpOnFlag = 3
kind_words kind.JumpNoByte = 0
kind_words kind.JumpSends = 0
kind_words kind.JumpWrites = 0
kind_words kind.JumpNoneWaits = 0
kind_words (kind.PutBit to) = cond to 2 6
kind_words (kind.CopyBit to from) = fetch_words from + cond to 6 8
kind_words (kind.PutBitIf from to) = fetch_words from + cond to 3 7
kind_words kind.PutByte = 3
kind_words kind.CopyByte = 4
kind_words kind.Xor = 7
kind_words kind.Move = 8
kind_words kind.Increment = 11
kind_words kind.Decrement = 11
kind_words kind.Add = 14
kind_words kind.Subtract = 14
kind_words kind.NegateIf = 16
kind_words kind.MultiplyStep = 9
kind_words kind.DivideStep = 10
kind_words kind.Less = 10
kind_words kind.Equal = 10
kind_words kind.Below = 6
kind_words kind.AdcChannel = 0
kind_words kind.AdcStart = 0
kind_words kind.AdcRead = 0
kind_words kind.TakeByte = 0
kind_words kind.Send = 0
kind_words kind.PwmDuty = 0
kind_words kind.EepromAt = 0
kind_words kind.EepromNext = 0
kind_words kind.EepromGet = 0
kind_words kind.EepromPut = 0
kind_words kind.EepromWait = 0
kind_words kind.EepromFlush = 0
kind_words (kind.Table values) = 4 * values

-- the cycles above one for each word; the start clears 960 bytes at most
abbrev pub kind_more : PrimKind → ℕ
kind_more kind.Start = 5755
kind_more kind.CyclePoll = 0
kind_more kind.AdcPoll = 0
kind_more kind.Jump = 1
kind_more kind.Call = 2
kind_more kind.Return = 3
kind_more kind.Loop = 1
kind_more (kind.JumpIf from) = 1
kind_more kind.JumpOnFlag = 1
kind_more kind.JumpNoByte = 1
kind_more kind.JumpSends = 1
kind_more kind.JumpWrites = 1
kind_more kind.JumpNoneWaits = 1
kind_more (kind.PutBit to) = cond to 0 1
kind_more (kind.CopyBit to from) = cond to 0 1
kind_more (kind.PutBitIf from to) = cond to 0 1
kind_more kind.PutByte = 0
kind_more kind.CopyByte = 0
kind_more kind.Xor = 0
kind_more kind.Move = 0
kind_more kind.Increment = 0
kind_more kind.Decrement = 0
kind_more kind.Add = 0
kind_more kind.Subtract = 0
kind_more kind.NegateIf = 0
kind_more kind.MultiplyStep = 0
kind_more kind.DivideStep = 0
kind_more kind.Less = 0
kind_more kind.Equal = 0
kind_more kind.Below = 0
kind_more kind.AdcChannel = 0
kind_more kind.AdcStart = 0
kind_more kind.AdcRead = 0
kind_more kind.TakeByte = 0
kind_more kind.Send = 0
kind_more kind.PwmDuty = 0
kind_more kind.EepromAt = 0
kind_more kind.EepromNext = 0
kind_more kind.EepromGet = 0
kind_more kind.EepromPut = 0
kind_more kind.EepromWait = 0
kind_more kind.EepromFlush = 0
kind_more (kind.Table values) = 0

abbrev pub kind_cycles : PrimKind → ℕ
kind_cycles k = kind_words k + kind_more k

-- Of code that uses only what a layout of the ATmega16 has, its words, its cycles and those in front of the first reading are within those of its kinds.
pub record IsWithinKinds (board : Board) (code : List Paced) : Type 0 where
  pub words : words_sum (avr_target board) code ≤ sum_by kind_words (kinds Mega16 code)
  pub cycles : cycles_sum (avr_target board) code ≤ sum_by kind_cycles (turn_kinds Mega16 code)
  pub boot : boot_sum (avr_target board) code ≤ sum_by kind_cycles (boot_kinds Mega16 code)

abbrev pub SumsWithinKinds : Type 0
SumsWithinKinds = (o : Layout) (board : Board) (code : List Paced) → o.plan.target ≡ Mega16 → All (λ q. Uses o q.prim) code → IsWithinKinds board code
