-- An instruction of a group is one of the instructions that the group's function executes.
use Rattle.std.proofs.Common.{◌≡◌, ℕ, refl}
use Rattle.pic16_mach.specs.declared.exec.Group.TheVariants.{Operation, ForZero, Access, Control}
use Rattle.pic16_mach.specs.declared.insn.Destination.{Destination}
use Rattle.pic16_mach.specs.declared.insn.PicInsn.{PicInsn}
use Rattle.pic16_mach.specs.declared.insn.PicInsn.TheVariants.{Addwf, Andwf, Clrf, Clrw, Comf, Decf, Decfsz, Incf, Incfsz, Iorwf, Movf, Movwf, Nop, Rlf, Rrf, Subwf, Swapf, Xorwf, Bcf, Bsf, Btfsc, Btfss, Addlw, Andlw, Iorlw, Movlw, Sublw, Xorlw, Call, Goto, Retlw, Return, Retfie, Clrwdt, Sleep}
use Rattle.pic16_mach.specs.Groups.{group_of}

pub only_operation : (i : PicInsn) → group_of i ≡ Operation → ((f : ℕ) (d : Destination) → i ≡ Addwf f d → ⊥) →
    ((f : ℕ) (d : Destination) → i ≡ Decfsz f d → ⊥) → ((f : ℕ) (d : Destination) → i ≡ Incfsz f d → ⊥) →
    ((f : ℕ) (d : Destination) → i ≡ Rlf f d → ⊥) → ((f : ℕ) (d : Destination) → i ≡ Rrf f d → ⊥) → ((f : ℕ) (d : Destination) → i ≡ Subwf f d → ⊥) →
    ((f : ℕ) (d : Destination) → i ≡ Swapf f d → ⊥) → ⊥
only_operation (Addwf f d) e no_addwf no_decfsz no_incfsz no_rlf no_rrf no_subwf no_swapf = no_addwf f d refl
only_operation (Decfsz f d) e no_addwf no_decfsz no_incfsz no_rlf no_rrf no_subwf no_swapf = no_decfsz f d refl
only_operation (Incfsz f d) e no_addwf no_decfsz no_incfsz no_rlf no_rrf no_subwf no_swapf = no_incfsz f d refl
only_operation (Rlf f d) e no_addwf no_decfsz no_incfsz no_rlf no_rrf no_subwf no_swapf = no_rlf f d refl
only_operation (Rrf f d) e no_addwf no_decfsz no_incfsz no_rlf no_rrf no_subwf no_swapf = no_rrf f d refl
only_operation (Subwf f d) e no_addwf no_decfsz no_incfsz no_rlf no_rrf no_subwf no_swapf = no_subwf f d refl
only_operation (Swapf f d) e no_addwf no_decfsz no_incfsz no_rlf no_rrf no_subwf no_swapf = no_swapf f d refl
only_operation _ e no_addwf no_decfsz no_incfsz no_rlf no_rrf no_subwf no_swapf = cc

pub only_for_zero : (i : PicInsn) → group_of i ≡ ForZero → ((f : ℕ) (d : Destination) → i ≡ Andwf f d → ⊥) →
    ((f : ℕ) (d : Destination) → i ≡ Comf f d → ⊥) → ((f : ℕ) (d : Destination) → i ≡ Decf f d → ⊥) → ((f : ℕ) (d : Destination) → i ≡ Incf f d → ⊥) →
    ((f : ℕ) (d : Destination) → i ≡ Iorwf f d → ⊥) → ((f : ℕ) (d : Destination) → i ≡ Movf f d → ⊥) →
    ((f : ℕ) (d : Destination) → i ≡ Xorwf f d → ⊥) → ⊥
only_for_zero (Andwf f d) e no_andwf no_comf no_decf no_incf no_iorwf no_movf no_xorwf = no_andwf f d refl
only_for_zero (Comf f d) e no_andwf no_comf no_decf no_incf no_iorwf no_movf no_xorwf = no_comf f d refl
only_for_zero (Decf f d) e no_andwf no_comf no_decf no_incf no_iorwf no_movf no_xorwf = no_decf f d refl
only_for_zero (Incf f d) e no_andwf no_comf no_decf no_incf no_iorwf no_movf no_xorwf = no_incf f d refl
only_for_zero (Iorwf f d) e no_andwf no_comf no_decf no_incf no_iorwf no_movf no_xorwf = no_iorwf f d refl
only_for_zero (Movf f d) e no_andwf no_comf no_decf no_incf no_iorwf no_movf no_xorwf = no_movf f d refl
only_for_zero (Xorwf f d) e no_andwf no_comf no_decf no_incf no_iorwf no_movf no_xorwf = no_xorwf f d refl
only_for_zero _ e no_andwf no_comf no_decf no_incf no_iorwf no_movf no_xorwf = cc

pub only_access : (i : PicInsn) → group_of i ≡ Access → ((f : ℕ) → i ≡ Clrf f → ⊥) → ((f : ℕ) → i ≡ Movwf f → ⊥) →
    ((f : ℕ) (b : ℕ) → i ≡ Bcf f b → ⊥) → ((f : ℕ) (b : ℕ) → i ≡ Bsf f b → ⊥) → ((f : ℕ) (b : ℕ) → i ≡ Btfsc f b → ⊥) →
    ((f : ℕ) (b : ℕ) → i ≡ Btfss f b → ⊥) → ⊥
only_access (Clrf f) e no_clrf no_movwf no_bcf no_bsf no_btfsc no_btfss = no_clrf f refl
only_access (Movwf f) e no_clrf no_movwf no_bcf no_bsf no_btfsc no_btfss = no_movwf f refl
only_access (Bcf f b) e no_clrf no_movwf no_bcf no_bsf no_btfsc no_btfss = no_bcf f b refl
only_access (Bsf f b) e no_clrf no_movwf no_bcf no_bsf no_btfsc no_btfss = no_bsf f b refl
only_access (Btfsc f b) e no_clrf no_movwf no_bcf no_bsf no_btfsc no_btfss = no_btfsc f b refl
only_access (Btfss f b) e no_clrf no_movwf no_bcf no_bsf no_btfsc no_btfss = no_btfss f b refl
only_access _ e no_clrf no_movwf no_bcf no_bsf no_btfsc no_btfss = cc

pub only_control : (i : PicInsn) → group_of i ≡ Control → (i ≡ Clrw → ⊥) → (i ≡ Nop → ⊥) → ((k : ℕ) → i ≡ Addlw k → ⊥) →
    ((k : ℕ) → i ≡ Andlw k → ⊥) → ((k : ℕ) → i ≡ Iorlw k → ⊥) → ((k : ℕ) → i ≡ Movlw k → ⊥) → ((k : ℕ) → i ≡ Sublw k → ⊥) →
    ((k : ℕ) → i ≡ Xorlw k → ⊥) → ((k : ℕ) → i ≡ Call k → ⊥) → ((k : ℕ) → i ≡ Goto k → ⊥) → ((k : ℕ) → i ≡ Retlw k → ⊥) → (i ≡ Return → ⊥) →
    (i ≡ Retfie → ⊥) → (i ≡ Clrwdt → ⊥) → (i ≡ Sleep → ⊥) → ⊥
only_control Clrw e clrw nop addlw andlw iorlw movlw sublw xorlw call goto retlw returns retfie clrwdt sleep = clrw refl
only_control Nop e clrw nop addlw andlw iorlw movlw sublw xorlw call goto retlw returns retfie clrwdt sleep = nop refl
only_control (Addlw k) e clrw nop addlw andlw iorlw movlw sublw xorlw call goto retlw returns retfie clrwdt sleep = addlw k refl
only_control (Andlw k) e clrw nop addlw andlw iorlw movlw sublw xorlw call goto retlw returns retfie clrwdt sleep = andlw k refl
only_control (Iorlw k) e clrw nop addlw andlw iorlw movlw sublw xorlw call goto retlw returns retfie clrwdt sleep = iorlw k refl
only_control (Movlw k) e clrw nop addlw andlw iorlw movlw sublw xorlw call goto retlw returns retfie clrwdt sleep = movlw k refl
only_control (Sublw k) e clrw nop addlw andlw iorlw movlw sublw xorlw call goto retlw returns retfie clrwdt sleep = sublw k refl
only_control (Xorlw k) e clrw nop addlw andlw iorlw movlw sublw xorlw call goto retlw returns retfie clrwdt sleep = xorlw k refl
only_control (Call k) e clrw nop addlw andlw iorlw movlw sublw xorlw call goto retlw returns retfie clrwdt sleep = call k refl
only_control (Goto k) e clrw nop addlw andlw iorlw movlw sublw xorlw call goto retlw returns retfie clrwdt sleep = goto k refl
only_control (Retlw k) e clrw nop addlw andlw iorlw movlw sublw xorlw call goto retlw returns retfie clrwdt sleep = retlw k refl
only_control Return e clrw nop addlw andlw iorlw movlw sublw xorlw call goto retlw returns retfie clrwdt sleep = returns refl
only_control Retfie e clrw nop addlw andlw iorlw movlw sublw xorlw call goto retlw returns retfie clrwdt sleep = retfie refl
only_control Clrwdt e clrw nop addlw andlw iorlw movlw sublw xorlw call goto retlw returns retfie clrwdt sleep = clrwdt refl
only_control Sleep e clrw nop addlw andlw iorlw movlw sublw xorlw call goto retlw returns retfie clrwdt sleep = sleep refl
only_control _ e clrw nop addlw andlw iorlw movlw sublw xorlw call goto retlw returns retfie clrwdt sleep = cc
