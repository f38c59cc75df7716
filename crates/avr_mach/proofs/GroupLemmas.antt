-- An instruction of a group is one of the instructions that the group's function executes.
use Rattle.std.proofs.Common.{◌≡◌, ℕ, refl}
use Rattle.avr_mach.specs.declared.exec.Group.TheVariants.{Arithmetic, Control, Transfer, Access}
use Rattle.avr_mach.specs.declared.insn.AvrInsn.{AvrInsn}
use Rattle.avr_mach.specs.declared.insn.AvrInsn.TheVariants.{Add, Adc, Sub, Sbc, Cp, Cpc, And, Eor, Or, Mov, Cpi, Ldi, Com, Inc, Lsr, Ror, Dec, Brbs, Brbc, Bset, Bclr, Rjmp, Rcall, Jmp, Call, Ret, In, Out, Cbi, Sbi, Sbic, Sbis, Sbrc, Sbrs, Lds, Sts, Ldd, Std, St, Nop}
use Rattle.avr_mach.specs.Groups.{group_of}

pub only_arithmetic : (i : AvrInsn) → group_of i ≡ Arithmetic → ((x y : ℕ) → i ≡ Add x y → ⊥) → ((x y : ℕ) → i ≡ Adc x y → ⊥) →
    ((x y : ℕ) → i ≡ Sub x y → ⊥) → ((x y : ℕ) → i ≡ Sbc x y → ⊥) → ((x y : ℕ) → i ≡ Cp x y → ⊥) → ((x y : ℕ) → i ≡ Cpc x y → ⊥) →
    ((x y : ℕ) → i ≡ Cpi x y → ⊥) → ((x y : ℕ) → i ≡ And x y → ⊥) → ((x y : ℕ) → i ≡ Eor x y → ⊥) → ((x y : ℕ) → i ≡ Or x y → ⊥) →
    ((x : ℕ) → i ≡ Com x → ⊥) → ((x : ℕ) → i ≡ Inc x → ⊥) → ((x : ℕ) → i ≡ Dec x → ⊥) → ((x : ℕ) → i ≡ Lsr x → ⊥) → ((x : ℕ) → i ≡ Ror x → ⊥) → ⊥
only_arithmetic (Add x y) e no_add no_adc no_sub no_sbc no_cp no_cpc no_cpi no_and no_eor no_or no_com no_inc no_dec no_lsr no_ror = no_add x y refl
only_arithmetic (Adc x y) e no_add no_adc no_sub no_sbc no_cp no_cpc no_cpi no_and no_eor no_or no_com no_inc no_dec no_lsr no_ror = no_adc x y refl
only_arithmetic (Sub x y) e no_add no_adc no_sub no_sbc no_cp no_cpc no_cpi no_and no_eor no_or no_com no_inc no_dec no_lsr no_ror = no_sub x y refl
only_arithmetic (Sbc x y) e no_add no_adc no_sub no_sbc no_cp no_cpc no_cpi no_and no_eor no_or no_com no_inc no_dec no_lsr no_ror = no_sbc x y refl
only_arithmetic (Cp x y) e no_add no_adc no_sub no_sbc no_cp no_cpc no_cpi no_and no_eor no_or no_com no_inc no_dec no_lsr no_ror = no_cp x y refl
only_arithmetic (Cpc x y) e no_add no_adc no_sub no_sbc no_cp no_cpc no_cpi no_and no_eor no_or no_com no_inc no_dec no_lsr no_ror = no_cpc x y refl
only_arithmetic (Cpi x y) e no_add no_adc no_sub no_sbc no_cp no_cpc no_cpi no_and no_eor no_or no_com no_inc no_dec no_lsr no_ror = no_cpi x y refl
only_arithmetic (And x y) e no_add no_adc no_sub no_sbc no_cp no_cpc no_cpi no_and no_eor no_or no_com no_inc no_dec no_lsr no_ror = no_and x y refl
only_arithmetic (Eor x y) e no_add no_adc no_sub no_sbc no_cp no_cpc no_cpi no_and no_eor no_or no_com no_inc no_dec no_lsr no_ror = no_eor x y refl
only_arithmetic (Or x y) e no_add no_adc no_sub no_sbc no_cp no_cpc no_cpi no_and no_eor no_or no_com no_inc no_dec no_lsr no_ror = no_or x y refl
only_arithmetic (Com x) e no_add no_adc no_sub no_sbc no_cp no_cpc no_cpi no_and no_eor no_or no_com no_inc no_dec no_lsr no_ror = no_com x refl
only_arithmetic (Inc x) e no_add no_adc no_sub no_sbc no_cp no_cpc no_cpi no_and no_eor no_or no_com no_inc no_dec no_lsr no_ror = no_inc x refl
only_arithmetic (Dec x) e no_add no_adc no_sub no_sbc no_cp no_cpc no_cpi no_and no_eor no_or no_com no_inc no_dec no_lsr no_ror = no_dec x refl
only_arithmetic (Lsr x) e no_add no_adc no_sub no_sbc no_cp no_cpc no_cpi no_and no_eor no_or no_com no_inc no_dec no_lsr no_ror = no_lsr x refl
only_arithmetic (Ror x) e no_add no_adc no_sub no_sbc no_cp no_cpc no_cpi no_and no_eor no_or no_com no_inc no_dec no_lsr no_ror = no_ror x refl
only_arithmetic _ e no_add no_adc no_sub no_sbc no_cp no_cpc no_cpi no_and no_eor no_or no_com no_inc no_dec no_lsr no_ror = cc

pub only_control : (i : AvrInsn) → group_of i ≡ Control → ((x y : ℕ) → i ≡ Brbs x y → ⊥) → ((x y : ℕ) → i ≡ Brbc x y → ⊥) → ((x : ℕ) → i ≡ Bset x → ⊥) →
    ((x : ℕ) → i ≡ Bclr x → ⊥) → ((x : ℕ) → i ≡ Rjmp x → ⊥) → ((x : ℕ) → i ≡ Rcall x → ⊥) → ((x : ℕ) → i ≡ Jmp x → ⊥) → ((x : ℕ) → i ≡ Call x → ⊥) →
    (i ≡ Ret → ⊥) → ((x y : ℕ) → i ≡ Sbrc x y → ⊥) → ((x y : ℕ) → i ≡ Sbrs x y → ⊥) → (i ≡ Nop → ⊥) → ⊥
only_control (Brbs x y) e no_brbs no_brbc no_bset no_bclr no_rjmp no_rcall no_jmp no_call no_ret no_sbrc no_sbrs no_nop = no_brbs x y refl
only_control (Brbc x y) e no_brbs no_brbc no_bset no_bclr no_rjmp no_rcall no_jmp no_call no_ret no_sbrc no_sbrs no_nop = no_brbc x y refl
only_control (Bset x) e no_brbs no_brbc no_bset no_bclr no_rjmp no_rcall no_jmp no_call no_ret no_sbrc no_sbrs no_nop = no_bset x refl
only_control (Bclr x) e no_brbs no_brbc no_bset no_bclr no_rjmp no_rcall no_jmp no_call no_ret no_sbrc no_sbrs no_nop = no_bclr x refl
only_control (Rjmp x) e no_brbs no_brbc no_bset no_bclr no_rjmp no_rcall no_jmp no_call no_ret no_sbrc no_sbrs no_nop = no_rjmp x refl
only_control (Rcall x) e no_brbs no_brbc no_bset no_bclr no_rjmp no_rcall no_jmp no_call no_ret no_sbrc no_sbrs no_nop = no_rcall x refl
only_control (Jmp x) e no_brbs no_brbc no_bset no_bclr no_rjmp no_rcall no_jmp no_call no_ret no_sbrc no_sbrs no_nop = no_jmp x refl
only_control (Call x) e no_brbs no_brbc no_bset no_bclr no_rjmp no_rcall no_jmp no_call no_ret no_sbrc no_sbrs no_nop = no_call x refl
only_control Ret e no_brbs no_brbc no_bset no_bclr no_rjmp no_rcall no_jmp no_call no_ret no_sbrc no_sbrs no_nop = no_ret refl
only_control (Sbrc x y) e no_brbs no_brbc no_bset no_bclr no_rjmp no_rcall no_jmp no_call no_ret no_sbrc no_sbrs no_nop = no_sbrc x y refl
only_control (Sbrs x y) e no_brbs no_brbc no_bset no_bclr no_rjmp no_rcall no_jmp no_call no_ret no_sbrc no_sbrs no_nop = no_sbrs x y refl
only_control Nop e no_brbs no_brbc no_bset no_bclr no_rjmp no_rcall no_jmp no_call no_ret no_sbrc no_sbrs no_nop = no_nop refl
only_control _ e no_brbs no_brbc no_bset no_bclr no_rjmp no_rcall no_jmp no_call no_ret no_sbrc no_sbrs no_nop = cc

pub only_transfer : (i : AvrInsn) → group_of i ≡ Transfer → ((x y : ℕ) → i ≡ Mov x y → ⊥) → ((x y : ℕ) → i ≡ Ldi x y → ⊥) →
    ((x y : ℕ) → i ≡ Lds x y → ⊥) → ((x y : ℕ) → i ≡ Sts x y → ⊥) → ((x y : ℕ) → i ≡ Ldd x y → ⊥) → ((x y : ℕ) → i ≡ Std x y → ⊥) →
    ((x : ℕ) → i ≡ St x → ⊥) → ⊥
only_transfer (Mov x y) e no_mov no_ldi no_lds no_sts no_ldd no_std no_st = no_mov x y refl
only_transfer (Ldi x y) e no_mov no_ldi no_lds no_sts no_ldd no_std no_st = no_ldi x y refl
only_transfer (Lds x y) e no_mov no_ldi no_lds no_sts no_ldd no_std no_st = no_lds x y refl
only_transfer (Sts x y) e no_mov no_ldi no_lds no_sts no_ldd no_std no_st = no_sts x y refl
only_transfer (Ldd x y) e no_mov no_ldi no_lds no_sts no_ldd no_std no_st = no_ldd x y refl
only_transfer (Std x y) e no_mov no_ldi no_lds no_sts no_ldd no_std no_st = no_std x y refl
only_transfer (St x) e no_mov no_ldi no_lds no_sts no_ldd no_std no_st = no_st x refl
only_transfer _ e no_mov no_ldi no_lds no_sts no_ldd no_std no_st = cc

pub only_access : (i : AvrInsn) → group_of i ≡ Access → ((x y : ℕ) → i ≡ In x y → ⊥) → ((x y : ℕ) → i ≡ Out x y → ⊥) → ((x y : ℕ) → i ≡ Cbi x y → ⊥) →
    ((x y : ℕ) → i ≡ Sbi x y → ⊥) → ((x y : ℕ) → i ≡ Sbic x y → ⊥) → ((x y : ℕ) → i ≡ Sbis x y → ⊥) → ⊥
only_access (In x y) e no_in no_out no_cbi no_sbi no_sbic no_sbis = no_in x y refl
only_access (Out x y) e no_in no_out no_cbi no_sbi no_sbic no_sbis = no_out x y refl
only_access (Cbi x y) e no_in no_out no_cbi no_sbi no_sbic no_sbis = no_cbi x y refl
only_access (Sbi x y) e no_in no_out no_cbi no_sbi no_sbic no_sbis = no_sbi x y refl
only_access (Sbic x y) e no_in no_out no_cbi no_sbi no_sbic no_sbis = no_sbic x y refl
only_access (Sbis x y) e no_in no_out no_cbi no_sbi no_sbic no_sbis = no_sbis x y refl
only_access _ e no_in no_out no_cbi no_sbi no_sbic no_sbis = cc
