-- The word of an instruction is decoded as the instruction.
use Rattle.std.proofs.Common.{◌≡◌, ℕ, ◌+◌, ◌*◌, ◌/◌, ◌%◌, ◌^◌, ◌<◌, ◌≤◌, ◌==◌, if◌then◌else◌, true, get_or, refl, ap, ◌∙◌, arith, lit<, lit≤, eq-eqb, bit_and}
use Rattle.std.specs.Prelude.{option_map, option_and_then, slice_get, map}
use Rattle.std.proofs.lemmas.Nat.{and_block}
use Rattle.std.specs.Int.Bits.{and_zero_r}
use Rattle.insn_rows.specs.declared.rows.InsnRow.{InsnRow}
use Rattle.insn_rows.specs.Rows.{is_match, all_apart}
use Rattle.insn_rows.specs.Pic.{pic_forms, pic_rows}
use Rattle.insn_rows.proofs.Only.{only_match}
use Rattle.pic16_mach.specs.declared.insn.Destination.{Destination}
use Rattle.pic16_mach.specs.declared.insn.Destination.TheVariants.{W, File}
use Rattle.pic16_mach.specs.declared.insn.PicInsn.{PicInsn}
use Rattle.pic16_mach.specs.declared.insn.PicInsn.TheVariants.{Addwf, Andwf, Clrf, Clrw, Comf, Decf, Decfsz, Incf, Incfsz, Iorwf, Movf, Movwf, Nop, Rlf, Rrf, Subwf, Swapf, Xorwf, Bcf, Bsf, Btfsc, Btfss, Addlw, Andlw, Iorlw, Movlw, Sublw, Xorlw, Call, Goto, Retlw, Return, Retfie, Clrwdt, Sleep}
use Rattle.pic16_mach.specs.Insn.{insn_of, pic_decode, FieldsFit, file_of, destination_of, bit_field}
use Rattle.pic16_mach.specs.Words.{DecodesBack, file_word, destination_bit}

-- the table passes the test
tested : all_apart pic_rows ≡ true
tested = refl

no_row : InsnRow
no_row = record { mask = 0; bits = 1; kind = 0 }

-- a word that matches a row is decoded by it
back : (k w : ℕ) → k < 35 → is_match w (get_or pic_rows k no_row) ≡ true →
    pic_decode w ≡ option_map (λ kind. insn_of kind w) (slice_get (map (λ f. f.kind) pic_forms) k)
back k w within m =
    ap (λ place. option_map (λ kind. insn_of kind w) (option_and_then (slice_get (map (λ f. f.kind) pic_forms)) place))
    (only_match pic_rows w k no_row tested within m)

-- under a mask of high bits a word shows them
high : (k a b r : ℕ) → r < 2 ^ k → bit_and a b ≡ a → bit_and (a * 2 ^ k + r) (b * 2 ^ k + 0) ≡ a * 2 ^ k + 0
high k a b r h e =
    and_block k a b r 0 h (omega arith) ∙ ap (λ n. n * 2 ^ k + bit_and r 0) e ∙ ap (λ n. a * 2 ^ k + n) (and_zero_r r)

-- the fields of a word are found again
bit_small : (d : Destination) → destination_bit d < 2
bit_small W = lit< tt
bit_small File = lit< tt

low_small : (c f : ℕ) → c < 2 → f < 128 → c * 128 + f < 2 ^ 8
low_small c f hc hf = omega arith

-- the fixed bits of a word with a destination
file_high : (a f : ℕ) (d : Destination) → f < 128 → bit_and a 63 ≡ a →
    bit_and (a * 2 ^ 8 + (destination_bit d * 128 + f)) (63 * 2 ^ 8 + 0) ≡ a * 2 ^ 8 + 0
file_high a f d h e = high 8 a 63 (destination_bit d * 128 + f) (low_small (destination_bit d) f (bit_small d) h) e

file_back : (a c f : ℕ) → f < 128 → (a * 256 + (c * 128 + f)) % 128 ≡ f
file_back a c f h = omega arith

destination_back : (a f : ℕ) (d : Destination) → f < 128 → destination_of (a * 256 + (destination_bit d * 128 + f)) ≡ d
destination_back a f W h =
    let e : (a * 256 + (0 * 128 + f)) / 2 ^ 7 % 2 ≡ 0 = omega arith in ap (λ n. if n == 1 then File else W) e
destination_back a f File h =
    let e : (a * 256 + (1 * 128 + f)) / 2 ^ 7 % 2 ≡ 1 = omega arith in ap (λ n. if n == 1 then File else W) e

bits_small : (b f : ℕ) → b < 8 → f < 128 → b * 128 + f < 2 ^ 10
bits_small b f hb hf = omega arith

bit_file_back : (a b f : ℕ) → b < 8 → f < 128 → let w = a * 1024 + (b * 128 + f) in (file_of w ≡ f) × (bit_field w ≡ b)
bit_file_back a b f hb hf = (omega arith, omega arith)

cleared_back : (a f : ℕ) → f < 128 → (a * 128 + f) % 128 ≡ f
cleared_back a f h = omega arith

constant_back : (a k : ℕ) → k < 256 → (a * 256 + k) % 256 ≡ k
constant_back a k h = omega arith

place_back : (a k : ℕ) → k < 2048 → (a * 2048 + k) % 2048 ≡ k
place_back a k h = omega arith

constant_small : (n k : ℕ) → k < 256 → 256 ≤ n → k < n
constant_small n k h le = omega arith

pub undone : (i : PicInsn) → FieldsFit i → DecodesBack i
undone (Addwf f d) h =
    back 0 (file_word 0x0700 f d) (lit< tt) (eq-eqb _ _ (file_high 7 f d h refl)) ∙ cc
    (file_back 7 (destination_bit d) f h, destination_back 7 f d h)
undone (Andwf f d) h =
    back 1 (file_word 0x0500 f d) (lit< tt) (eq-eqb _ _ (file_high 5 f d h refl)) ∙ cc
    (file_back 5 (destination_bit d) f h, destination_back 5 f d h)
undone (Clrf f) h = back 2 (0x0180 + f) (lit< tt) (eq-eqb _ _ (high 7 3 127 f h refl)) ∙ cc (cleared_back 3 f h)
undone Clrw h = back 3 0x0100 (lit< tt) refl ∙ refl
undone (Comf f d) h =
    back 4 (file_word 0x0900 f d) (lit< tt) (eq-eqb _ _ (file_high 9 f d h refl)) ∙ cc
    (file_back 9 (destination_bit d) f h, destination_back 9 f d h)
undone (Decf f d) h =
    back 5 (file_word 0x0300 f d) (lit< tt) (eq-eqb _ _ (file_high 3 f d h refl)) ∙ cc
    (file_back 3 (destination_bit d) f h, destination_back 3 f d h)
undone (Decfsz f d) h =
    back 6 (file_word 0x0b00 f d) (lit< tt) (eq-eqb _ _ (file_high 11 f d h refl)) ∙ cc
    (file_back 11 (destination_bit d) f h, destination_back 11 f d h)
undone (Incf f d) h =
    back 7 (file_word 0x0a00 f d) (lit< tt) (eq-eqb _ _ (file_high 10 f d h refl)) ∙ cc
    (file_back 10 (destination_bit d) f h, destination_back 10 f d h)
undone (Incfsz f d) h =
    back 8 (file_word 0x0f00 f d) (lit< tt) (eq-eqb _ _ (file_high 15 f d h refl)) ∙ cc
    (file_back 15 (destination_bit d) f h, destination_back 15 f d h)
undone (Iorwf f d) h =
    back 9 (file_word 0x0400 f d) (lit< tt) (eq-eqb _ _ (file_high 4 f d h refl)) ∙ cc
    (file_back 4 (destination_bit d) f h, destination_back 4 f d h)
undone (Movf f d) h =
    back 10 (file_word 0x0800 f d) (lit< tt) (eq-eqb _ _ (file_high 8 f d h refl)) ∙ cc
    (file_back 8 (destination_bit d) f h, destination_back 8 f d h)
undone (Movwf f) h = back 11 (0x0080 + f) (lit< tt) (eq-eqb _ _ (high 7 1 127 f h refl)) ∙ cc (cleared_back 1 f h)
undone Nop h = back 12 0x0000 (lit< tt) refl ∙ refl
undone (Rlf f d) h =
    back 13 (file_word 0x0d00 f d) (lit< tt) (eq-eqb _ _ (file_high 13 f d h refl)) ∙ cc
    (file_back 13 (destination_bit d) f h, destination_back 13 f d h)
undone (Rrf f d) h =
    back 14 (file_word 0x0c00 f d) (lit< tt) (eq-eqb _ _ (file_high 12 f d h refl)) ∙ cc
    (file_back 12 (destination_bit d) f h, destination_back 12 f d h)
undone (Subwf f d) h =
    back 15 (file_word 0x0200 f d) (lit< tt) (eq-eqb _ _ (file_high 2 f d h refl)) ∙ cc
    (file_back 2 (destination_bit d) f h, destination_back 2 f d h)
undone (Swapf f d) h =
    back 16 (file_word 0x0e00 f d) (lit< tt) (eq-eqb _ _ (file_high 14 f d h refl)) ∙ cc
    (file_back 14 (destination_bit d) f h, destination_back 14 f d h)
undone (Xorwf f d) h =
    back 17 (file_word 0x0600 f d) (lit< tt) (eq-eqb _ _ (file_high 6 f d h refl)) ∙ cc
    (file_back 6 (destination_bit d) f h, destination_back 6 f d h)
undone (Bcf f b) h =
    let fields = bit_file_back 4 b f h.1 h.0 in
    back 18 (0x1000 + (b * 128 + f)) (lit< tt) (eq-eqb _ _ (high 10 4 15 (b * 128 + f) (bits_small b f h.1 h.0) refl)) ∙ cc (fields.0, fields.1)
undone (Bsf f b) h =
    let fields = bit_file_back 5 b f h.1 h.0 in
    back 19 (0x1400 + (b * 128 + f)) (lit< tt) (eq-eqb _ _ (high 10 5 15 (b * 128 + f) (bits_small b f h.1 h.0) refl)) ∙ cc (fields.0, fields.1)
undone (Btfsc f b) h =
    let fields = bit_file_back 6 b f h.1 h.0 in
    back 20 (0x1800 + (b * 128 + f)) (lit< tt) (eq-eqb _ _ (high 10 6 15 (b * 128 + f) (bits_small b f h.1 h.0) refl)) ∙ cc (fields.0, fields.1)
undone (Btfss f b) h =
    let fields = bit_file_back 7 b f h.1 h.0 in
    back 21 (0x1c00 + (b * 128 + f)) (lit< tt) (eq-eqb _ _ (high 10 7 15 (b * 128 + f) (bits_small b f h.1 h.0) refl)) ∙ cc (fields.0, fields.1)
undone (Addlw k) h =
    back 22 (0x3e00 + k) (lit< tt) (eq-eqb _ _ (high 9 31 31 k (constant_small 512 k h (lit≤ tt)) refl)) ∙ cc (constant_back 62 k h)
undone (Andlw k) h =
    back 23 (0x3900 + k) (lit< tt) (eq-eqb _ _ (high 8 57 63 k (constant_small 256 k h (lit≤ tt)) refl)) ∙ cc (constant_back 57 k h)
undone (Iorlw k) h =
    back 24 (0x3800 + k) (lit< tt) (eq-eqb _ _ (high 8 56 63 k (constant_small 256 k h (lit≤ tt)) refl)) ∙ cc (constant_back 56 k h)
undone (Movlw k) h =
    back 25 (0x3000 + k) (lit< tt) (eq-eqb _ _ (high 10 12 15 k (constant_small 1024 k h (lit≤ tt)) refl)) ∙ cc (constant_back 48 k h)
undone (Sublw k) h =
    back 26 (0x3c00 + k) (lit< tt) (eq-eqb _ _ (high 9 30 31 k (constant_small 512 k h (lit≤ tt)) refl)) ∙ cc (constant_back 60 k h)
undone (Xorlw k) h =
    back 27 (0x3a00 + k) (lit< tt) (eq-eqb _ _ (high 8 58 63 k (constant_small 256 k h (lit≤ tt)) refl)) ∙ cc (constant_back 58 k h)
undone (Call k) h =
    back 28 (0x2000 + k) (lit< tt) (eq-eqb _ _ (high 11 4 7 k h refl)) ∙ cc (place_back 4 k h)
undone (Goto k) h =
    back 29 (0x2800 + k) (lit< tt) (eq-eqb _ _ (high 11 5 7 k h refl)) ∙ cc (place_back 5 k h)
undone (Retlw k) h =
    back 30 (0x3400 + k) (lit< tt) (eq-eqb _ _ (high 10 13 15 k (constant_small 1024 k h (lit≤ tt)) refl)) ∙ cc (constant_back 52 k h)
undone Return h = back 31 0x0008 (lit< tt) refl ∙ refl
undone Retfie h = back 32 0x0009 (lit< tt) refl ∙ refl
undone Clrwdt h = back 33 0x0064 (lit< tt) refl ∙ refl
undone Sleep h = back 34 0x0063 (lit< tt) refl ∙ refl
