-- What each instruction does: PIC16F87X Data Sheet, "Instruction Descriptions".
use Rattle.std.specs.Prelude.{ℕ, ◌+◌, ◌-◌, ◌*◌, ◌/◌, ◌%◌, ◌^◌, ◌==◌, not, Bool, true, false, if◌then◌else◌, None, bit_and, bit_or, bit_xor}
use Rattle.chip_tables.specs.Bits.{bit_of, as_bit}
use Rattle.chip_tables.specs.declared.outside.Env.{Env}
use Rattle.pic_devices.specs.declared.part.PicPart.{PicPart}
use Rattle.pic_devices.specs.declared.file_space.PicPlace.{PicPlace}
use Rattle.pic16_mach.specs.declared.insn.Destination.{Destination}
use Rattle.pic16_mach.specs.declared.insn.PicInsn.{PicInsn}
use Rattle.pic16_mach.specs.declared.insn.PicInsn.TheVariants.{Addwf, Andwf, Clrf, Clrw, Comf, Decf, Decfsz, Incf, Incfsz, Iorwf, Movf, Movwf, Nop, Rlf, Rrf, Subwf, Swapf, Xorwf, Bcf, Bsf, Btfsc, Btfss, Addlw, Andlw, Iorlw, Movlw, Sublw, Xorlw, Call, Goto, Retlw, Return, Retfie, Clrwdt, Sleep}
use Rattle.pic16_mach.specs.declared.state.PicState.{PicState}
use Rattle.pic16_mach.specs.declared.state.Flow.TheVariants.{Next, To}
use Rattle.pic16_mach.specs.Arithmetic.{sum_of, with_sum, difference_of, with_difference, with_zero}
use Rattle.pic16_mach.specs.Control.{paged, with_call, returned, skip_if}
use Rattle.pic16_mach.specs.File.{Read, place_of, byte_of, after_reading, bit_read, stored, delivered, acted_at, bit_made}
use Rattle.pic16_mach.specs.State.{After, act, after}

-- the byte of file register f, and the machine after it was read
abbrev pub byte_at : PicPart → PicState → ℕ → ℕ
byte_at part m f = byte_of part m (place_of part m f)

abbrev pub taken : PicPart → PicState → ℕ → PicState
taken part m f = after_reading m (place_of part m f)

abbrev pub with_carry : PicState → Bool → PicState
with_carry m c = record m { carry = c }

-- an operation on file register f leaves the machine m, flags set, and a result r
abbrev pub flagged : PicPart → PicState → ℕ → Destination → PicState → ℕ → After
flagged part m f d left r = delivered part left (place_of part m f) d r true

-- one that sets Z alone
abbrev pub for_zero : PicPart → PicState → ℕ → Destination → ℕ → After
for_zero part m f d r = flagged part m f d (with_zero (taken part m f) r) r

-- one that sets no flag
abbrev pub unflagged : PicPart → PicState → ℕ → Destination → ℕ → After
unflagged part m f d r = delivered part (taken part m f) (place_of part m f) d r false

-- one that skips where its result is 0
abbrev pub counted : PicPart → PicState → ℕ → Destination → ℕ → After
counted part m f d r = skip_if (unflagged part m f d r) (r == 0)

-- BSF
abbrev pub bit_set : PicPart → PicState → PicPlace → ℕ → ℕ → After
bit_set part m p b x = record { state = bit_made part m p b x; acted = acted_at m p x }

-- skips where the bit that was read is as wanted
abbrev pub skip_where : Read → ℕ → Bool → After
skip_where got b set =
    let test = if set then bit_of got.answer.value b else not (bit_of got.answer.value b) in
    skip_if (record { state = got.state; acted = act Next 1 got.answer.poll None }) test

-- what an instruction does; the step sets the place. The last three have no step
abbrev pub exec : PicPart → Env → PicInsn → PicState → After
exec part env (Addwf f d) m = flagged part m f d (with_sum (taken part m f) (byte_at part m f) m.w) (sum_of (byte_at part m f) m.w)
exec part env (Andwf f d) m = for_zero part m f d (bit_and (byte_at part m f) m.w)
exec part env (Clrf f) m = stored part (with_zero m 0) (place_of part m f) 0 true
exec part env Clrw m = after (with_zero (record m { w = 0 }) 0) Next 1
exec part env (Comf f d) m = for_zero part m f d (255 - byte_at part m f)
exec part env (Decf f d) m = for_zero part m f d (difference_of (byte_at part m f) 1)
exec part env (Decfsz f d) m = counted part m f d (difference_of (byte_at part m f) 1)
exec part env (Incf f d) m = for_zero part m f d (sum_of (byte_at part m f) 1)
exec part env (Incfsz f d) m = counted part m f d (sum_of (byte_at part m f) 1)
exec part env (Iorwf f d) m = for_zero part m f d (bit_or (byte_at part m f) m.w)
exec part env (Movf f d) m = for_zero part m f d (byte_at part m f)
exec part env (Movwf f) m = stored part m (place_of part m f) m.w false
exec part env Nop m = after m Next 1
exec part env (Rlf f d) m = flagged part m f d (with_carry (taken part m f) (bit_of (byte_at part m f) 7)) (byte_at part m f % 128 * 2 + as_bit m.carry)
exec part env (Rrf f d) m = flagged part m f d (with_carry (taken part m f) (bit_of (byte_at part m f) 0)) (byte_at part m f / 2 + as_bit m.carry * 128)
exec part env (Subwf f d) m = flagged part m f d (with_difference (taken part m f) (byte_at part m f) m.w) (difference_of (byte_at part m f) m.w)
exec part env (Swapf f d) m = unflagged part m f d (byte_at part m f % 16 * 16 + byte_at part m f / 16)
exec part env (Xorwf f d) m = for_zero part m f d (bit_xor (byte_at part m f) m.w)
exec part env (Bcf f b) m = stored part (taken part m f) (place_of part m f) (bit_and (byte_at part m f) (255 - 2 ^ b)) false
exec part env (Bsf f b) m = bit_set part (taken part m f) (place_of part m f) b (bit_or (byte_at part m f) (2 ^ b))
exec part env (Btfsc f b) m = skip_where (bit_read part env m (place_of part m f) b) b false
exec part env (Btfss f b) m = skip_where (bit_read part env m (place_of part m f) b) b true
exec part env (Addlw k) m = after (record (with_sum m m.w k) { w = sum_of m.w k }) Next 1
exec part env (Andlw k) m = after (with_zero (record m { w = bit_and m.w k }) (bit_and m.w k)) Next 1
exec part env (Iorlw k) m = after (with_zero (record m { w = bit_or m.w k }) (bit_or m.w k)) Next 1
exec part env (Movlw k) m = after (record m { w = k }) Next 1
exec part env (Sublw k) m = after (record (with_difference m k m.w) { w = difference_of k m.w }) Next 1
exec part env (Xorlw k) m = after (with_zero (record m { w = bit_xor m.w k }) (bit_xor m.w k)) Next 1
exec part env (Call k) m = after (with_call m (m.place + 1)) (To (paged m k)) 2
exec part env (Goto k) m = after m (To (paged m k)) 2
exec part env (Retlw k) m = returned (record m { w = k })
exec part env Return m = returned m
exec part env Retfie m = after m Next 1
exec part env Clrwdt m = after m Next 1
exec part env Sleep m = after m Next 1
