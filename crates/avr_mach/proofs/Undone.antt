-- The words of an instruction are decoded as the instruction.
use Rattle.std.proofs.Common.{◌≡◌, ℕ, zero, suc, ◌+◌, ◌-◌, ◌*◌, ◌/◌, ◌%◌, ◌^◌, ◌<◌, ◌≤◌, true, get_or, refl, sym, ap, ◌∙◌, arith, lit<, eq-eqb, bit_and}
use Rattle.std.specs.Prelude.{option_map, option_and_then, slice_get, map}
use Rattle.std.proofs.lemmas.Nat.{and_block}
use Rattle.std.specs.Int.Bits.{and_zero_r}
use Rattle.insn_rows.specs.declared.rows.InsnRow.{InsnRow}
use Rattle.insn_rows.specs.Rows.{is_match, all_apart}
use Rattle.insn_rows.specs.Avr.{avr_forms, avr_rows}
use Rattle.insn_rows.proofs.Only.{only_match}
use Rattle.avr_mach.specs.declared.insn.AvrInsn.{AvrInsn}
use Rattle.avr_mach.specs.declared.insn.AvrInsn.TheVariants.{Add, Adc, Sub, Sbc, Cp, Cpc, And, Eor, Or, Mov, Cpi, Ldi, Com, Inc, Lsr, Ror, Dec, Brbs, Brbc, Bset, Bclr, Rjmp, Rcall, Jmp, Call, Ret, In, Out, Cbi, Sbi, Sbic, Sbis, Sbrc, Sbrs, Lds, Sts, Ldd, Std, St, Nop}
use Rattle.avr_mach.specs.Insn.{insn_of, avr_decode, FieldsFit, reg_d, reg_r, high_reg, constant, io_address, displacement, long_place}
use Rattle.avr_mach.specs.Words.{DecodesBack, two_regs, with_constant, with_long_place, displaced}

-- the table passes the test
tested : all_apart avr_rows ≡ true
tested = refl

no_row : InsnRow
no_row = record { mask = 0; bits = 1; kind = 0 }

-- a word that matches a row is decoded by it
back : (k w next : ℕ) → k < 40 → is_match w (get_or avr_rows k no_row) ≡ true →
    avr_decode w next ≡ option_map (λ kind. insn_of kind w next) (slice_get (map (λ f. f.kind) avr_forms) k)
back k w next within m =
    ap (λ place. option_map (λ kind. insn_of kind w next) (option_and_then (slice_get (map (λ f. f.kind) avr_forms)) place))
    (only_match avr_rows w k no_row tested within m)

-- under a mask of high bits a word shows them
high : (k a b r : ℕ) → r < 2 ^ k → bit_and a b ≡ a → bit_and (a * 2 ^ k + r) (b * 2 ^ k + 0) ≡ a * 2 ^ k + 0
high k a b r h e =
    and_block k a b r 0 h (omega arith) ∙ ap (λ n. n * 2 ^ k + bit_and r 0) e ∙ ap (λ n. a * 2 ^ k + n) (and_zero_r r)

-- the same, where low bits are masked too
high_low : (k a b r s t : ℕ) → r < 2 ^ k → s < 2 ^ k → bit_and a b ≡ a → bit_and r s ≡ t → bit_and (a * 2 ^ k + r) (b * 2 ^ k + s) ≡ a * 2 ^ k + t
high_low k a b r s t hr hs e f =
    and_block k a b r s hr hs ∙ ap (λ n. n * 2 ^ k + bit_and r s) e ∙ ap (λ n. a * 2 ^ k + n) f

-- where no high bit is masked, the low ones decide
below : (k a r s t : ℕ) → r < 2 ^ k → s < 2 ^ k → bit_and r s ≡ t → bit_and (a * 2 ^ k + r) s ≡ t
below k a r s t hr hs e =
    let zero_high : s ≡ 0 * 2 ^ k + s = omega arith in
    ap (λ n. bit_and (a * 2 ^ k + r) n) zero_high
    ∙ and_block k a 0 r s hr hs
    ∙ ap (λ n. n * 2 ^ k + bit_and r s) (and_zero_r a)
    ∙ omega (arith, e)

-- a register between nine bits above it and four below
one_reg : (a c d : ℕ) → d < 32 → c < 16 → bit_and a 127 ≡ a → bit_and c 15 ≡ c → bit_and (a * 512 + c + d * 16) 0xfe0f ≡ a * 512 + c
one_reg a c d hd hc ha low =
    let e : a * 2 ^ 9 + (d * 16 + c) ≡ a * 512 + c + d * 16 = omega arith in
    ap (λ n. bit_and n 0xfe0f) (sym e)
    ∙ high_low 9 a 127 (d * 16 + c) 15 c (omega arith) (lit< tt) ha (below 4 d c 15 c hc (lit< tt) low)

-- the number of a bit is not under a mask of 8
no_bit : (b : ℕ) → b < 8 → bit_and b 8 ≡ 0
no_bit b h =
    let e : b ≡ 0 * 2 ^ 3 + b = omega arith in
    ap (λ n. bit_and n 8) e ∙ and_block 3 0 1 b 0 h (lit< tt) ∙ omega (arith, and_zero_r b)

reg_bit : (a d b : ℕ) → d < 32 → b < 8 → bit_and a 127 ≡ a → bit_and (a * 2 ^ 9 + (d * 16 + b)) (127 * 2 ^ 9 + 8) ≡ a * 2 ^ 9 + 0
reg_bit a d b hd hb ha =
    high_low 9 a 127 (d * 16 + b) 8 0 (omega arith) (lit< tt) ha (below 4 d b 8 0 (omega arith) (lit< tt) (no_bit b hb))

-- the lowest bit of the first word of a jump or a call
jump_bit : (l : ℕ) → l < 2 → bit_and (12 + l) 14 ≡ 12
jump_bit zero h = refl
jump_bit (suc zero) h = refl
jump_bit (suc (suc l)) h = absurd (omega arith)

call_bit : (l : ℕ) → l < 2 → bit_and (14 + l) 14 ≡ 14
call_bit zero h = refl
call_bit (suc zero) h = refl
call_bit (suc (suc l)) h = absurd (omega arith)

far_word : (c place : ℕ) → place < 2 ^ 22 → c + place / 65536 % 2 < 16 → bit_and (c + place / 65536 % 2) 14 ≡ c →
    bit_and (0x9400 + c + (place / 131072 * 16 + place / 65536 % 2)) 0xfe0e ≡ 0x9400 + c
far_word c place hp hc low =
    let e : 74 * 2 ^ 9 + (place / 131072 * 16 + (c + place / 65536 % 2)) ≡ 0x9400 + c + (place / 131072 * 16 + place / 65536 % 2) = omega arith in
    ap (λ n. bit_and n 0xfe0e) (sym e)
    ∙ high_low 9 74 127 (place / 131072 * 16 + (c + place / 65536 % 2)) 14 c (omega arith) (lit< tt) refl
    (below 4 (place / 131072) (c + place / 65536 % 2) 14 c hc (lit< tt) low)

far_back : (c place next : ℕ) → place < 2 ^ 22 → c + place / 65536 % 2 < 16 → c % 2 ≡ 0 → next ≡ place % 65536 →
    long_place (0x9400 + c + (place / 131072 * 16 + place / 65536 % 2)) next ≡ place
far_back c place next hp hc even e = omega (arith, e)

-- a status bit between nine bits above it and four below
status : (a s : ℕ) → s < 8 → bit_and a 511 ≡ a → bit_and (a * 128 + 8 + s * 16) 0xff8f ≡ a * 128 + 8
status a s h ha =
    let e : a * 2 ^ 7 + (s * 16 + 8) ≡ a * 128 + 8 + s * 16 = omega arith in
    ap (λ n. bit_and n 0xff8f) (sym e)
    ∙ high_low 7 a 511 (s * 16 + 8) 15 8 (omega arith) (lit< tt) ha (below 4 s 8 15 8 (lit< tt) (lit< tt) refl)

-- a displacement stands in three parts of the word
displaced_word : (n d q : ℕ) → n < 2 → d < 32 → q < 64 → bit_and n 1 ≡ n →
    bit_and (0x8008 + n * 512 + (q / 32 * 8192 + q / 8 % 4 * 1024 + d * 16 + q % 8)) 0xd208 ≡ 0x8008 + n * 512
displaced_word n d q hn hd hq hb =
    let e : 2 * 2 ^ 14 + (q / 32 * 2 ^ 13 + (0 * 2 ^ 12 + (q / 8 % 4 * 2 ^ 10 + (n * 2 ^ 9 + (d * 2 ^ 4 + (1 * 2 ^ 3 + q % 8)))))) ≡ 0x8008 + n * 512 +
    (q / 32 * 8192 + q / 8 % 4 * 1024 + d * 16 + q % 8) = omega arith in
    let f : 2 * 2 ^ 14 + (0 * 2 ^ 12 + (n * 2 ^ 9 + 8)) ≡ 0x8008 + n * 512 = omega arith in
    ap (λ m. bit_and m 0xd208) (sym e)
    ∙ high_low 14 2 3 (q / 32 * 2 ^ 13 + (0 * 2 ^ 12 + (q / 8 % 4 * 2 ^ 10 + (n * 2 ^ 9 + (d * 2 ^ 4 + (1 * 2 ^ 3 + q % 8)))))) 0x1208
    (0 * 2 ^ 12 + (n * 2 ^ 9 + 8)) (omega arith) (lit< tt) refl
    (below 13 (q / 32) (0 * 2 ^ 12 + (q / 8 % 4 * 2 ^ 10 + (n * 2 ^ 9 + (d * 2 ^ 4 + (1 * 2 ^ 3 + q % 8))))) 0x1208 (0 * 2 ^ 12 + (n * 2 ^ 9 + 8))
    (omega arith) (lit< tt)
    (high_low 12 0 1 (q / 8 % 4 * 2 ^ 10 + (n * 2 ^ 9 + (d * 2 ^ 4 + (1 * 2 ^ 3 + q % 8)))) 0x208 (n * 2 ^ 9 + 8) (omega arith) (lit< tt) refl
    (below 10 (q / 8 % 4) (n * 2 ^ 9 + (d * 2 ^ 4 + (1 * 2 ^ 3 + q % 8))) 0x208 (n * 2 ^ 9 + 8) (omega arith) (lit< tt)
    (high_low 9 n 1 (d * 2 ^ 4 + (1 * 2 ^ 3 + q % 8)) 8 8 (omega arith) (lit< tt) hb
    (below 4 d (1 * 2 ^ 3 + q % 8) 8 8 (omega arith) (lit< tt) (high 3 1 1 (q % 8) (omega arith) refl))))))
    ∙ f

displaced_back : (n d q : ℕ) → n < 2 → d < 32 → q < 64 →
    let w = 0x8008 + n * 512 + (q / 32 * 8192 + q / 8 % 4 * 1024 + d * 16 + q % 8) in (reg_d w ≡ d) × (displacement w ≡ q)
displaced_back n d q hn hd hq = (omega arith, omega arith)

-- the fields of a word are found again
regs_back : (n d r : ℕ) → d < 32 → r < 32 → let w = n * 1024 + (r / 16 * 512 + d * 16 + r % 16) in (reg_d w ≡ d) × (reg_r w ≡ r)
regs_back n d r hd hr = (omega arith, omega arith)

io_back : (n d a : ℕ) → d < 32 → a < 64 → let w = n * 2048 + (a / 16 * 512 + d * 16 + a % 16) in (reg_d w ≡ d) × (io_address w ≡ a)
io_back n d a hd ha = (omega arith, omega arith)

constant_back : (n d k : ℕ) → 16 ≤ d → d < 32 → k < 256 → let w = n * 4096 + (k / 16 * 256 + (d - 16) * 16 + k % 16) in (high_reg w ≡ d) × (constant w ≡ k)
constant_back n d k low hd hk = (omega arith, omega arith)

branch_back : (n s k : ℕ) → s < 8 → k < 128 → let w = n * 1024 + (k * 8 + s) in (w % 8 ≡ s) × (w / 8 % 128 ≡ k)
branch_back n s k hs hk = (omega arith, omega arith)

io_bit_back : (n a b : ℕ) → a < 32 → b < 8 → let w = n * 256 + (a * 8 + b) in (w / 8 % 32 ≡ a) × (w % 8 ≡ b)
io_bit_back n a b ha hb = (omega arith, omega arith)

reg_bit_back : (n r b : ℕ) → r < 32 → b < 8 → let w = n * 512 + (r * 16 + b) in (reg_d w ≡ r) × (w % 8 ≡ b)
reg_bit_back n r b hr hb = (omega arith, omega arith)

near_back : (n k : ℕ) → k < 4096 → (n * 4096 + k) % 4096 ≡ k
near_back n k h = omega arith

status_back : (a s : ℕ) → s < 8 → (a * 128 + 8 + s * 16) / 16 % 8 ≡ s
status_back a s h = omega arith

reg_back : (a c d : ℕ) → d < 32 → c < 16 → reg_d (a * 512 + c + d * 16) ≡ d
reg_back a c d hd hc = omega arith

pub undone : (i : AvrInsn) → FieldsFit i → DecodesBack i
undone (Add d r) h next f =
    let fields = regs_back 3 d r h.0 h.1 in
    back 0 (two_regs 0x0c00 d r) next (lit< tt) (eq-eqb _ _ (high 10 3 63 (r / 16 * 512 + d * 16 + r % 16) (omega arith) refl)) ∙ cc (fields.0, fields.1)
undone (Adc d r) h next f =
    let fields = regs_back 7 d r h.0 h.1 in
    back 1 (two_regs 0x1c00 d r) next (lit< tt) (eq-eqb _ _ (high 10 7 63 (r / 16 * 512 + d * 16 + r % 16) (omega arith) refl)) ∙ cc (fields.0, fields.1)
undone (Sub d r) h next f =
    let fields = regs_back 6 d r h.0 h.1 in
    back 2 (two_regs 0x1800 d r) next (lit< tt) (eq-eqb _ _ (high 10 6 63 (r / 16 * 512 + d * 16 + r % 16) (omega arith) refl)) ∙ cc (fields.0, fields.1)
undone (Sbc d r) h next f =
    let fields = regs_back 2 d r h.0 h.1 in
    back 3 (two_regs 0x0800 d r) next (lit< tt) (eq-eqb _ _ (high 10 2 63 (r / 16 * 512 + d * 16 + r % 16) (omega arith) refl)) ∙ cc (fields.0, fields.1)
undone (Cp d r) h next f =
    let fields = regs_back 5 d r h.0 h.1 in
    back 4 (two_regs 0x1400 d r) next (lit< tt) (eq-eqb _ _ (high 10 5 63 (r / 16 * 512 + d * 16 + r % 16) (omega arith) refl)) ∙ cc (fields.0, fields.1)
undone (Cpc d r) h next f =
    let fields = regs_back 1 d r h.0 h.1 in
    back 5 (two_regs 0x0400 d r) next (lit< tt) (eq-eqb _ _ (high 10 1 63 (r / 16 * 512 + d * 16 + r % 16) (omega arith) refl)) ∙ cc (fields.0, fields.1)
undone (And d r) h next f =
    let fields = regs_back 8 d r h.0 h.1 in
    back 6 (two_regs 0x2000 d r) next (lit< tt) (eq-eqb _ _ (high 10 8 63 (r / 16 * 512 + d * 16 + r % 16) (omega arith) refl)) ∙ cc (fields.0, fields.1)
undone (Eor d r) h next f =
    let fields = regs_back 9 d r h.0 h.1 in
    back 7 (two_regs 0x2400 d r) next (lit< tt) (eq-eqb _ _ (high 10 9 63 (r / 16 * 512 + d * 16 + r % 16) (omega arith) refl)) ∙ cc (fields.0, fields.1)
undone (Or d r) h next f =
    let fields = regs_back 10 d r h.0 h.1 in
    back 8 (two_regs 0x2800 d r) next (lit< tt) (eq-eqb _ _ (high 10 10 63 (r / 16 * 512 + d * 16 + r % 16) (omega arith) refl)) ∙ cc (fields.0, fields.1)
undone (Mov d r) h next f =
    let fields = regs_back 11 d r h.0 h.1 in
    back 9 (two_regs 0x2c00 d r) next (lit< tt) (eq-eqb _ _ (high 10 11 63 (r / 16 * 512 + d * 16 + r % 16) (omega arith) refl)) ∙ cc (fields.0, fields.1)
undone (Cpi d k) h next f =
    let fields = constant_back 3 d k h.0 h.1 h.2 in
    back 10 (with_constant 0x3000 d k) next (lit< tt) (eq-eqb _ _ (high 12 3 15 (k / 16 * 256 + (d - 16) * 16 + k % 16) (omega arith) refl)) ∙ cc
    (fields.0, fields.1)
undone (Ldi d k) h next f =
    let fields = constant_back 14 d k h.0 h.1 h.2 in
    back 11 (with_constant 0xe000 d k) next (lit< tt) (eq-eqb _ _ (high 12 14 15 (k / 16 * 256 + (d - 16) * 16 + k % 16) (omega arith) refl)) ∙ cc
    (fields.0, fields.1)
undone (Com d) h next f =
    back 12 (0x9400 + d * 16) next (lit< tt) (eq-eqb _ _ (one_reg 74 0 d h (lit< tt) refl refl)) ∙ cc (reg_back 74 0 d h (lit< tt))
undone (Inc d) h next f =
    back 13 (0x9403 + d * 16) next (lit< tt) (eq-eqb _ _ (one_reg 74 3 d h (lit< tt) refl refl)) ∙ cc (reg_back 74 3 d h (lit< tt))
undone (Lsr d) h next f =
    back 14 (0x9406 + d * 16) next (lit< tt) (eq-eqb _ _ (one_reg 74 6 d h (lit< tt) refl refl)) ∙ cc (reg_back 74 6 d h (lit< tt))
undone (Ror d) h next f =
    back 15 (0x9407 + d * 16) next (lit< tt) (eq-eqb _ _ (one_reg 74 7 d h (lit< tt) refl refl)) ∙ cc (reg_back 74 7 d h (lit< tt))
undone (Dec d) h next f =
    back 16 (0x940a + d * 16) next (lit< tt) (eq-eqb _ _ (one_reg 74 10 d h (lit< tt) refl refl)) ∙ cc (reg_back 74 10 d h (lit< tt))
undone (Brbs s k) h next f =
    let fields = branch_back 60 s k h.0 h.1 in
    back 17 (0xf000 + (k * 8 + s)) next (lit< tt) (eq-eqb _ _ (high 10 60 63 (k * 8 + s) (omega arith) refl)) ∙ cc (fields.0, fields.1)
undone (Brbc s k) h next f =
    let fields = branch_back 61 s k h.0 h.1 in
    back 18 (0xf400 + (k * 8 + s)) next (lit< tt) (eq-eqb _ _ (high 10 61 63 (k * 8 + s) (omega arith) refl)) ∙ cc (fields.0, fields.1)
undone (Bset s) h next f =
    back 19 (0x9408 + s * 16) next (lit< tt) (eq-eqb _ _ (status 296 s h refl)) ∙ cc (status_back 296 s h)
undone (Bclr s) h next f =
    back 20 (0x9488 + s * 16) next (lit< tt) (eq-eqb _ _ (status 297 s h refl)) ∙ cc (status_back 297 s h)
undone (Rjmp k) h next f =
    back 21 (0xc000 + k) next (lit< tt) (eq-eqb _ _ (high 12 12 15 k h refl)) ∙ cc (near_back 12 k h)
undone (Rcall k) h next f =
    back 22 (0xd000 + k) next (lit< tt) (eq-eqb _ _ (high 12 13 15 k h refl)) ∙ cc (near_back 13 k h)
undone (Jmp place) h next f =
    back 23 (with_long_place 0x940c place) next (lit< tt) (eq-eqb _ _ (far_word 12 place h (omega arith) (jump_bit (place / 65536 % 2) (omega arith)))) ∙ cc
    (far_back 12 place next h (omega arith) refl (f refl))
undone (Call place) h next f =
    back 24 (with_long_place 0x940e place) next (lit< tt) (eq-eqb _ _ (far_word 14 place h (omega arith) (call_bit (place / 65536 % 2) (omega arith)))) ∙ cc
    (far_back 14 place next h (omega arith) refl (f refl))
undone Ret h next f =
    back 25 (0x9508) next (lit< tt) refl ∙ refl
undone (In d a) h next f =
    let fields = io_back 22 d a h.0 h.1 in
    back 26 (two_regs 0xb000 d a) next (lit< tt) (eq-eqb _ _ (high 11 22 31 (a / 16 * 512 + d * 16 + a % 16) (omega arith) refl)) ∙ cc (fields.0, fields.1)
undone (Out a r) h next f =
    let fields = io_back 23 r a h.1 h.0 in
    back 27 (two_regs 0xb800 r a) next (lit< tt) (eq-eqb _ _ (high 11 23 31 (a / 16 * 512 + r * 16 + a % 16) (omega arith) refl)) ∙ cc (fields.0, fields.1)
undone (Cbi a b) h next f =
    let fields = io_bit_back 152 a b h.0 h.1 in
    back 28 (0x9800 + (a * 8 + b)) next (lit< tt) (eq-eqb _ _ (high 8 152 255 (a * 8 + b) (omega arith) refl)) ∙ cc (fields.0, fields.1)
undone (Sbi a b) h next f =
    let fields = io_bit_back 154 a b h.0 h.1 in
    back 29 (0x9a00 + (a * 8 + b)) next (lit< tt) (eq-eqb _ _ (high 8 154 255 (a * 8 + b) (omega arith) refl)) ∙ cc (fields.0, fields.1)
undone (Sbic a b) h next f =
    let fields = io_bit_back 153 a b h.0 h.1 in
    back 30 (0x9900 + (a * 8 + b)) next (lit< tt) (eq-eqb _ _ (high 8 153 255 (a * 8 + b) (omega arith) refl)) ∙ cc (fields.0, fields.1)
undone (Sbis a b) h next f =
    let fields = io_bit_back 155 a b h.0 h.1 in
    back 31 (0x9b00 + (a * 8 + b)) next (lit< tt) (eq-eqb _ _ (high 8 155 255 (a * 8 + b) (omega arith) refl)) ∙ cc (fields.0, fields.1)
undone (Sbrc r b) h next f =
    let fields = reg_bit_back 126 r b h.0 h.1 in
    back 32 (0xfc00 + (r * 16 + b)) next (lit< tt) (eq-eqb _ _ (reg_bit 126 r b h.0 h.1 refl)) ∙ cc (fields.0, fields.1)
undone (Sbrs r b) h next f =
    let fields = reg_bit_back 127 r b h.0 h.1 in
    back 33 (0xfe00 + (r * 16 + b)) next (lit< tt) (eq-eqb _ _ (reg_bit 127 r b h.0 h.1 refl)) ∙ cc (fields.0, fields.1)
undone (Lds d address) h next f =
    back 34 (0x9000 + d * 16) next (lit< tt) (eq-eqb _ _ (one_reg 72 0 d h.0 (lit< tt) refl refl)) ∙ cc (reg_back 72 0 d h.0 (lit< tt), f refl)
undone (Sts address r) h next f =
    back 35 (0x9200 + r * 16) next (lit< tt) (eq-eqb _ _ (one_reg 73 0 r h.1 (lit< tt) refl refl)) ∙ cc (reg_back 73 0 r h.1 (lit< tt), f refl)
undone (Ldd d q) h next f =
    let fields = displaced_back 0 d q (lit< tt) h.0 h.1 in
    back 36 (displaced 0x8008 d q) next (lit< tt) (eq-eqb _ _ (displaced_word 0 d q (lit< tt) h.0 h.1 refl)) ∙ cc (fields.0, fields.1)
undone (Std q r) h next f =
    let fields = displaced_back 1 r q (lit< tt) h.1 h.0 in
    back 37 (displaced 0x8208 r q) next (lit< tt) (eq-eqb _ _ (displaced_word 1 r q (lit< tt) h.1 h.0 refl)) ∙ cc (fields.0, fields.1)
undone (St r) h next f =
    back 38 (0x920d + r * 16) next (lit< tt) (eq-eqb _ _ (one_reg 73 13 r h (lit< tt) refl refl)) ∙ cc (reg_back 73 13 r h (lit< tt))
undone Nop h next f =
    back 39 (0x0000) next (lit< tt) refl ∙ refl
