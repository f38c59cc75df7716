-- The instructions that stand where their words do.
use Rattle.std.proofs.Common.{◌≡◌, ℕ, suc, ◌+◌, ◌<◌, ◌≤◌, ◌⊎◌, inl, inr, List, [], ◌∷◌, ◌++◌, Some, refl, sym, ap, ◌∙◌, subst, arith}
use Rattle.std.proofs.lemmas.Bool.{lt-ltb}
use Rattle.std.proofs.lemmas.Option.{get_or_from_slice_get}
use Rattle.std.specs.Prelude.{if◌then◌else◌, slice_get, slice_index_or}
use Rattle.avr_devices.specs.Part.{mega16}
use Rattle.avr_mach.specs.declared.insn.AvrInsn.{AvrInsn}
use Rattle.avr_mach.specs.declared.insn.AvrInsn.TheVariants as insn
use Rattle.avr_mach.specs.Insn.{avr_decode, FieldsFit}
use Rattle.avr_mach.specs.Step.{word_at, insn_at}
use Rattle.avr_mach.specs.Words.{size_of, first_word, second_word}
use Rattle.avr_mach.proofs.Undone.{undone}
use Rattle.target_core.specs.Law.{HasAt}
use Rattle.avr_code.specs.Code.{Piece, insn_of, words_by, words_of, size_in}

pub sizes : (i : AvrInsn) → (size_of i ≡ 1) ⊎ (size_of i ≡ 2)
sizes (insn.Add d r) = inl refl
sizes (insn.Adc d r) = inl refl
sizes (insn.Sub d r) = inl refl
sizes (insn.Sbc d r) = inl refl
sizes (insn.Cp d r) = inl refl
sizes (insn.Cpc d r) = inl refl
sizes (insn.And d r) = inl refl
sizes (insn.Eor d r) = inl refl
sizes (insn.Or d r) = inl refl
sizes (insn.Mov d r) = inl refl
sizes (insn.Cpi d k) = inl refl
sizes (insn.Ldi d k) = inl refl
sizes (insn.Com d) = inl refl
sizes (insn.Inc d) = inl refl
sizes (insn.Lsr d) = inl refl
sizes (insn.Ror d) = inl refl
sizes (insn.Dec d) = inl refl
sizes (insn.Brbs s k) = inl refl
sizes (insn.Brbc s k) = inl refl
sizes (insn.Bset s) = inl refl
sizes (insn.Bclr s) = inl refl
sizes (insn.Rjmp k) = inl refl
sizes (insn.Rcall k) = inl refl
sizes (insn.Jmp place) = inr refl
sizes (insn.Call place) = inr refl
sizes insn.Ret = inl refl
sizes (insn.In d a) = inl refl
sizes (insn.Out a r) = inl refl
sizes (insn.Cbi a b) = inl refl
sizes (insn.Sbi a b) = inl refl
sizes (insn.Sbic a b) = inl refl
sizes (insn.Sbis a b) = inl refl
sizes (insn.Sbrc r b) = inl refl
sizes (insn.Sbrs r b) = inl refl
sizes (insn.Lds d address) = inr refl
sizes (insn.Sts address r) = inr refl
sizes (insn.Ldd d q) = inl refl
sizes (insn.Std q r) = inl refl
sizes (insn.St r) = inl refl
sizes insn.Nop = inl refl

-- these stand in flash from a place on
abbrev pub HasCode : List ℕ → ℕ → List Piece → Type 0
HasCode flash here [] = Unit {0}
HasCode flash here (p ∷ ps) = (here + size_of (insn_of p) ≤ 8192) × (insn_at mega16 flash here ≡ Some (insn_of p)) × HasCode flash (here + size_of (insn_of
    p)) ps

abbrev pub AllFit : List Piece → Type 0
AllFit [] = Unit {0}
AllFit (p ∷ ps) = FieldsFit (insn_of p) × AllFit ps

word_is : (flash : List ℕ) (place w : ℕ) → place < 8192 → slice_get flash place ≡ Some w → word_at mega16 flash place ≡ w
word_is flash place w low h =
    ap (λ b. if b then slice_index_or flash place 0xffff else 0xffff) (lt-ltb place 8192 low) ∙ get_or_from_slice_get flash place w 0xffff h

one_word : (i : AvrInsn) (flash : List ℕ) (here : ℕ) (ws : List ℕ) → FieldsFit i → size_of i ≡ 1 → here + 1 ≤ 8192 →
    HasAt flash here (first_word i ∷ ws) → (insn_at mega16 flash here ≡ Some i) × HasAt flash (here + 1) ws
one_word i flash here ws fit one inside h =
    let e : suc here ≡ here + 1 = omega arith in (
      ap (λ w. avr_decode w (word_at mega16 flash (here + 1))) (word_is flash here (first_word i) (omega (arith, inside)) h.0)
          ∙ undone i fit (word_at mega16 flash (here + 1)) (λ two. absurd (omega (arith, one, two))),
      subst (λ n. HasAt flash n ws) e h.1,
    )

two_words : (i : AvrInsn) (flash : List ℕ) (here : ℕ) (ws : List ℕ) → FieldsFit i → here + 2 ≤ 8192 →
    HasAt flash here (first_word i ∷ second_word i ∷ ws) → (insn_at mega16 flash here ≡ Some i) × HasAt flash (here + 2) ws
two_words i flash here ws fit inside h =
    let e : suc (suc here) ≡ here + 2 = omega arith in
    let f : here + 1 ≡ suc here = omega arith in (
      ap (λ w. avr_decode w (word_at mega16 flash (here + 1))) (word_is flash here (first_word i) (omega (arith, inside)) h.0)
          ∙ undone i fit (word_at mega16 flash (here + 1)) (λ two. ap (word_at mega16 flash) f ∙ word_is flash (suc here) (second_word i) (omega (
            arith,
            inside,
          )) h.1.0),
      subst (λ n. HasAt flash n ws) e h.1.1,
    )

one_held : (i : AvrInsn) (flash : List ℕ) (here : ℕ) (ws : List ℕ) → (size_of i ≡ 1) ⊎ (size_of i ≡ 2) → FieldsFit i → here + size_of i ≤ 8192 →
    HasAt flash here (words_by (size_of i) i ++ ws) → (insn_at mega16 flash here ≡ Some i) × HasAt flash (here + size_of i) ws
one_held i flash here ws (inl one) fit inside h =
    let got = one_word i flash here ws fit one (subst (λ n. here + n ≤ 8192) one inside) (subst (λ n. HasAt flash here (words_by n i ++ ws)) one h) in
    (got.0, subst (λ n. HasAt flash (here + n) ws) (sym one) got.1)
one_held i flash here ws (inr two) fit inside h =
    let got = two_words i flash here ws fit (subst (λ n. here + n ≤ 8192) two inside) (subst (λ n. HasAt flash here (words_by n i ++ ws)) two h) in
    (got.0, subst (λ n. HasAt flash (here + n) ws) (sym two) got.1)

pub code_held : (ps : List Piece) (flash : List ℕ) (here : ℕ) → AllFit ps → here + size_in ps ≤ 8192 → HasAt flash here (words_of ps) → HasCode flash here ps
code_held [] flash here fit inside h = tt
code_held (p ∷ ps) flash here fit inside h =
    let now : here + size_of (insn_of p) ≤ 8192 = omega (arith, inside) in
    let later : here + size_of (insn_of p) + size_in ps ≤ 8192 = omega (arith, inside) in
    let one = one_held (insn_of p) flash here (words_of ps) (sizes (insn_of p)) fit.0 now h in
    (now, one.0, code_held ps flash (here + size_of (insn_of p)) fit.1 later one.1)
