-- What each instruction does: AVR Instruction Set Manual, the operation and the flags of each instruction.
use Rattle.std.specs.Prelude.{ℕ, ◌+◌, ◌-◌, ◌*◌, ◌/◌, ◌%◌, ◌==◌, not, true, false, bit_and, bit_or, bit_xor}
use Rattle.chip_tables.specs.declared.outside.Env.{Env}
use Rattle.chip_tables.specs.Bits.{bit_of, as_bit}
use Rattle.avr_devices.specs.IoSpace.{register_in}
use Rattle.avr_devices.specs.Part.{AvrPart}
use Rattle.avr_mach.specs.declared.insn.AvrInsn.{AvrInsn}
use Rattle.avr_mach.specs.declared.insn.AvrInsn.TheVariants.{Add, Adc, Sub, Sbc, Cp, Cpc, And, Eor, Or, Mov, Cpi, Ldi, Com, Inc, Lsr, Ror, Dec, Brbs, Brbc, Bset, Bclr, Rjmp, Rcall, Jmp, Call, Ret, In, Out, Cbi, Sbi, Sbic, Sbis, Sbrc, Sbrs, Lds, Sts, Ldd, Std, St, Nop}
use Rattle.avr_mach.specs.declared.state.AvrState.{AvrState}
use Rattle.avr_mach.specs.declared.state.Flow.TheVariants.{Next, To}
use Rattle.avr_mach.specs.Access.{loaded, stored, bit_cleared, bit_made, skip_where}
use Rattle.avr_mach.specs.Arithmetic.{with_sum, with_difference, with_compared, with_result, with_carry, with_shifted}
use Rattle.avr_mach.specs.Control.{near, branch, skip_if, with_call, return_place}
use Rattle.avr_mach.specs.Memory.{in_read, bit_read, data_read, lds_read}
use Rattle.avr_mach.specs.State.{After, after, reg, with_reg, flag, with_flag, pointer}
use Rattle.avr_mach.specs.Transfer.{stored_at, stored_at_x}

-- what an instruction at a place does; the step sets the place
abbrev pub exec : AvrPart → Env → AvrInsn → ℕ → AvrState → After
exec part env (Add d r) here m = after (with_sum m d (reg m d) (reg m r) 0) Next 1
exec part env (Adc d r) here m = after (with_sum m d (reg m d) (reg m r) (as_bit m.carry)) Next 1
exec part env (Sub d r) here m = after (with_difference m d (reg m d) (reg m r) 0 true) Next 1
exec part env (Sbc d r) here m = after (with_difference m d (reg m d) (reg m r) (as_bit m.carry) m.zero) Next 1
exec part env (Cp d r) here m = after (with_compared m (reg m d) (reg m r) 0 true) Next 1
exec part env (Cpc d r) here m = after (with_compared m (reg m d) (reg m r) (as_bit m.carry) m.zero) Next 1
exec part env (Cpi d k) here m = after (with_compared m (reg m d) k 0 true) Next 1
exec part env (And d r) here m = after (with_result m d (bit_and (reg m d) (reg m r)) false) Next 1
exec part env (Eor d r) here m = after (with_result m d (bit_xor (reg m d) (reg m r)) false) Next 1
exec part env (Or d r) here m = after (with_result m d (bit_or (reg m d) (reg m r)) false) Next 1
exec part env (Com d) here m = after (with_carry (with_result m d (255 - reg m d) false) true) Next 1
exec part env (Inc d) here m = after (with_result m d ((reg m d + 1) % 256) (reg m d == 127)) Next 1
exec part env (Dec d) here m = after (with_result m d ((reg m d + 255) % 256) (reg m d == 128)) Next 1
exec part env (Lsr d) here m = after (with_shifted m d (reg m d) (reg m d / 2)) Next 1
exec part env (Ror d) here m = after (with_shifted m d (reg m d) (as_bit m.carry * 128 + reg m d / 2)) Next 1
exec part env (Brbs s k) here m = branch part m (flag m s) here k
exec part env (Brbc s k) here m = branch part m (not (flag m s)) here k
exec part env (Bset s) here m = after (with_flag m s true) Next 1
exec part env (Bclr s) here m = after (with_flag m s false) Next 1
exec part env (Rjmp k) here m = after m (To (near part here k 2048)) 2
exec part env (Rcall k) here m = after (with_call m (here + 1)) (To (near part here k 2048)) 3
exec part env (Jmp place) here m = after m (To place) 3
exec part env (Call place) here m = after (with_call m (here + 2)) (To place) 4
exec part env Ret here m = after (record m { stack = m.stack + 2 }) (To (return_place m)) 4
exec part env (Sbrc r b) here m = skip_if m (not (bit_of (reg m r) b))
exec part env (Sbrs r b) here m = skip_if m (bit_of (reg m r) b)
exec part env Nop here m = after m Next 1
exec part env (Mov d r) here m = after (with_reg m d (reg m r)) Next 1
exec part env (Ldi d k) here m = after (with_reg m d k) Next 1
exec part env (Lds d address) here m = loaded (lds_read part env m address) d 2
exec part env (Sts address r) here m = stored_at part m address (reg m r)
exec part env (Ldd d q) here m = loaded (data_read part m ((pointer m 28 + q) % 65536)) d 2
exec part env (Std q r) here m = stored_at part m ((pointer m 28 + q) % 65536) (reg m r)
exec part env (St r) here m = stored_at_x part m (reg m r)
exec part env (In d a) here m = loaded (in_read env m (register_in part a)) d 1
exec part env (Out a r) here m = stored m (register_in part a) (reg m r) 1
exec part env (Cbi a b) here m = bit_cleared m (register_in part a) b
exec part env (Sbi a b) here m = bit_made m (register_in part a) b
exec part env (Sbic a b) here m = skip_where (bit_read env m (register_in part a)) b false
exec part env (Sbis a b) here m = skip_where (bit_read env m (register_in part a)) b true
