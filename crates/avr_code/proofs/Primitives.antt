-- Each primitive that is admitted leads to what the byte machine comes to.
use Rattle.std.proofs.Common.{◌≡◌, ℕ, suc, ◌+◌, ◌-◌, ◌*◌, ◌%◌, ◌<◌, ◌≤◌, inl, inr, Bool, true, false, List, [], ◌∷◌, Option, Some, None, refl, sym, ap, ap₂, ◌∙◌, subst, arith, lit<, lit≤}
use Rattle.std.proofs.lemmas.Bool.{lt-ltb, le-ltb, ltb-true, true≢false}
use Rattle.std.specs.Prelude.{◌==◌, ◌&&◌, ◌||◌, not, nat_le, nat_lt, if◌then◌else◌, slice_index}
use Rattle.chip_tables.specs.Bits.{as_bit}
use Rattle.chip_tables.specs.Outside.{no_reading}
use Rattle.runs.specs.Chip.{steps_over}
use Rattle.byte_code.specs.declared.prim.BytePrim.{BytePrim}
use Rattle.byte_code.specs.declared.prim.BytePrim.TheVariants.{Label, Jump, JumpWhere, Word, Compare}
use Rattle.byte_code.specs.declared.prim.Test.TheVariants as test
use Rattle.byte_code.specs.declared.prim.BitSource.{BitSource}
use Rattle.byte_code.specs.declared.prim.BitSource.TheVariants as bit
use Rattle.byte_code.specs.declared.prim.WordOp.TheVariants as words
use Rattle.byte_code.specs.declared.prim.WordSource.TheVariants as source
use Rattle.byte_code.specs.declared.prim.CompareOp.TheVariants as compares
use Rattle.byte_code.specs.declared.prim.FlagKind.{FlagKind}
use Rattle.byte_code.specs.declared.prim.FlagKind.TheVariants as kind
use Rattle.chip_tables.specs.declared.scratch.Scratch.{Scratch}
use Rattle.byte_code.specs.declared.store.Flag.{Flag}
use Rattle.byte_code.specs.declared.store.Store.{Store}
use Rattle.byte_code.specs.declared.state.Bytes.{Bytes}
use Rattle.byte_code.specs.Store.{cell, in_byte, with_cell, word_at, word_from, lifted}
use Rattle.byte_code.specs.Machine.{act, label_place, goes_to}
use Rattle.byte_code.specs.Table.{plain, same, value_of}
use Rattle.byte_code.specs.Counts.{IsOfKind}
use Rattle.avr_mach.specs.declared.insn.AvrInsn.{AvrInsn}
use Rattle.avr_mach.specs.declared.insn.AvrInsn.TheVariants as insn
use Rattle.avr_mach.specs.declared.state.AvrState.{AvrState}
use Rattle.avr_mach.specs.Arithmetic.{difference, differ, with_result}
use Rattle.avr_mach.specs.Insn.{FieldsFit}
use Rattle.avr_mach.specs.State.{flag}
use Rattle.avr_mach.specs.Step.{avr_step, at_place}
use Rattle.avr_mach.specs.Words.{size_of}
use Rattle.avr_devices.specs.IoSpace.{latch_address, level_address}
use Rattle.avr_devices.specs.Part.{mega16}
use Rattle.target_core.specs.Law.{LeadsFrom, Moves, IsReady, Layout, HasAt}
use Rattle.avr_code.specs.Code.{Board, Piece, Plain, Loads, Stores, Fetches, Gives, Latches, Skips, Mixes, insn_of, skip_of, io_skip, code_of, words_of, size_in, word_count, cycle_count, jump_on, status_bit}
use Rattle.avr_code.specs.Stands.{IsCell, HasFlag, StandsAt}
use Rattle.avr_code.specs.Target.{avr_target}
use Rattle.avr_code.proofs.Compares.{equal_words, below_words, less_words}
use Rattle.avr_code.proofs.Effects.{InsnFits, PieceFits, FetchFits, TestFits, result}
use Rattle.avr_code.proofs.Paths.{Paths, At, Fork, Near, Ahead, Lost, bump, paths, AllGood, AllPiecesFit, good_paths}
use Rattle.avr_code.proofs.Standing.{Has, Alike, ViewStands, view_of, view_seen, to_view, from_view, alike, has_same, has_cell, has_word}
use Rattle.avr_code.proofs.Sums.{added_low, added_high, more_low, more_high, less_low, less_high, taken_low, taken_high}
use Rattle.avr_code.proofs.View.{View, see, changed, moved, set_index}
use Rattle.avr_code.proofs.Walk.{HasCode, AllFit, code_held}

insn_fields : (i : AvrInsn) → InsnFits i → FieldsFit i
insn_fields (insn.Add d r) fit = fit
insn_fields (insn.Adc d r) fit = fit
insn_fields (insn.Sub d r) fit = fit
insn_fields (insn.Sbc d r) fit = fit
insn_fields (insn.Cp d r) fit = fit
insn_fields (insn.Cpc d r) fit = fit
insn_fields (insn.And d r) fit = fit
insn_fields (insn.Eor d r) fit = fit
insn_fields (insn.Or d r) fit = fit
insn_fields (insn.Mov d r) fit = fit
insn_fields (insn.Cpi d k) fit = fit
insn_fields (insn.Ldi d k) fit = fit
insn_fields (insn.Com d) fit = fit
insn_fields (insn.Inc d) fit = fit
insn_fields (insn.Lsr d) fit = fit
insn_fields (insn.Dec d) fit = fit
insn_fields (insn.Bset s) fit = omega (arith, fit)
insn_fields (insn.Sbrc r b) fit = fit
insn_fields (insn.Sbrs r b) fit = fit
insn_fields (insn.Jmp place) fit = omega (arith, fit)
insn_fields (insn.Brbs s k) fit = (fit.0, (let e = fit.1 in omega (arith, e)))
insn_fields (insn.Brbc s k) fit = (fit.0, (let e = fit.1 in omega (arith, e)))
insn_fields (insn.Ror d) fit = absurd fit
insn_fields (insn.Bclr s) fit = absurd fit
insn_fields (insn.Rjmp k) fit = omega (arith, fit)
insn_fields (insn.Rcall k) fit = absurd fit
insn_fields (insn.Call place) fit = absurd fit
insn_fields insn.Ret fit = absurd fit
insn_fields (insn.In d a) fit = absurd fit
insn_fields (insn.Out a r) fit = (fit.1, fit.0)
insn_fields (insn.Cbi a b) fit = absurd fit
insn_fields (insn.Sbi a b) fit = absurd fit
insn_fields (insn.Sbic a b) fit = absurd fit
insn_fields (insn.Sbis a b) fit = absurd fit
insn_fields (insn.Lds d address) fit = absurd fit
insn_fields (insn.Sts address r) fit = absurd fit
insn_fields (insn.Ldd d q) fit = absurd fit
insn_fields (insn.Std q r) fit = absurd fit
insn_fields (insn.St r) fit = absurd fit
insn_fields insn.Nop fit = absurd fit

fetch_fields : (from : BitSource) → FetchFits from → FieldsFit (insn_of (Fetches from))
fetch_fields (bit.Cell a b) (inl low) =
    subst (λ t. FieldsFit (if t then insn.Mov 18 a else insn.Lds 18 a)) (sym (lt-ltb a 32 low.0)) (lit< tt, low.0)
fetch_fields (bit.Cell a b) (inr high) = let e = high.0 in let f = high.1 in
    subst (λ t. FieldsFit (if t then insn.Mov 18 a else insn.Lds 18 a)) (sym (le-ltb a 32 (omega (arith, e)))) (lit< tt, omega (arith, f))
fetch_fields (bit.Level port b) fit = (lit< tt, omega arith)
fetch_fields (bit.Latch port b) fit = (lit< tt, omega arith)

low_bit : (b : ℕ) → in_byte b < 8
low_bit b = omega arith

io_fields : (a b : ℕ) (is : Bool) → a < 32 → FieldsFit (io_skip is a (in_byte b))
io_fields a b true low = (low, low_bit b)
io_fields a b false low = (low, low_bit b)

reg_fields : (r b : ℕ) (is : Bool) → r < 32 → FieldsFit (skip_of is r (in_byte b))
reg_fields r b true low = (low, low_bit b)
reg_fields r b false low = (low, low_bit b)

skip_fields : (from : BitSource) (is : Bool) → TestFits from → FieldsFit (insn_of (Skips from is))
skip_fields (bit.Cell a b) is fit = by (nat_lt a 32) refl
  where
    by : (c : Bool) → nat_lt a 32 ≡ c → FieldsFit (if c then skip_of is a (in_byte b) else skip_of is 18 (in_byte b))
    by true e = reg_fields a b is (ltb-true a 32 e)
    by false e = reg_fields 18 b is (lit< tt)
skip_fields (bit.Level port b) is fit = io_fields (level_address port) b is (omega arith)
skip_fields (bit.Latch port b) is fit = io_fields (latch_address port) b is (omega arith)

pub piece_fields : (p : Piece) → PieceFits p → FieldsFit (insn_of p)
piece_fields (Plain i) fit = insn_fields i fit
piece_fields (Loads r a) fit = by fit.1
  where
    by : IsCell a → FieldsFit (if nat_lt a 32 then insn.Mov r a else insn.Lds r a)
    by (inl low) = subst (λ b. FieldsFit (if b then insn.Mov r a else insn.Lds r a)) (sym (lt-ltb a 32 low.0)) (fit.0, low.0)
    by (inr high) = let e = high.0 in let f = high.1 in
        subst (λ b. FieldsFit (if b then insn.Mov r a else insn.Lds r a)) (sym (le-ltb a 32 (omega (arith, e)))) (fit.0, omega (arith, f))
piece_fields (Fetches from) fit = fetch_fields from fit
piece_fields (Gives a r) fit = (fit.1, fit.0)
piece_fields (Latches port b true) fit = (omega arith, fit.1)
piece_fields (Latches port b false) fit = (omega arith, fit.1)
piece_fields (Skips from is) fit = skip_fields from is fit
piece_fields (Mixes d r true) fit = (fit.0, fit.1)
piece_fields (Mixes d r false) fit = (fit.0, fit.1)
piece_fields (Stores a r) fit = by fit.1
  where
    by : IsCell a → FieldsFit (if nat_lt a 32 then insn.Mov a r else insn.Sts a r)
    by (inl low) = subst (λ b. FieldsFit (if b then insn.Mov a r else insn.Sts a r)) (sym (lt-ltb a 32 low.0)) (low.0, fit.0)
    by (inr high) = let e = high.0 in let f = high.1 in
        subst (λ b. FieldsFit (if b then insn.Mov a r else insn.Sts a r)) (sym (le-ltb a 32 (omega (arith, e)))) (omega (arith, f), fit.0)

pub all_fields : (ps : List Piece) → AllPiecesFit ps → AllFit ps
all_fields [] fit = tt
all_fields (p ∷ ps) fit = (piece_fields p fit.0, all_fields ps fit.1)

pub good_bump : (c n : ℕ) (E : View → Type 0) (w : Paths) → AllGood n E w → AllGood (c + n) E (bump c w)
good_bump c n E (At v d) g = (let le = g.0 in omega (arith, le), g.1)
good_bump c n E (Fork t a b) g = (λ e. good_bump c n E a (g.0 e), λ e. good_bump c n E b (g.1 e))
good_bump c n E (Near t p a b) g = (λ e. ((g.0 e).0, good_bump c n E a (g.0 e).1), λ e. good_bump c n E b (g.1 e))
good_bump c n E (Ahead p a) g = (g.0, good_bump c n E a g.1)
good_bump c n E Lost g = g

pub is_false : (b : Bool) → not b ≡ true → b ≡ false
is_false true e = absurd (true≢false (sym e))
is_false false e = refl

pub is_true : (b : Bool) → not b ≡ false → b ≡ true
is_true true e = refl
is_true false e = absurd (true≢false e)

-- a jump that goes by a bit of the status register
pub jump_good : (cycles : ℕ) (E : View → Type 0) (v : View) (b : ℕ) (is : Bool) (place : ℕ) → 4 ≤ cycles →
    (flag v.core b ≡ not is → (v.core.place + 1 + 2 < 8192) × E (moved v (v.core.place + 1 + 2) 2)) →
    (flag v.core b ≡ is → E (moved (moved v (v.core.place + 1) 1) place 3)) → AllGood cycles E (paths (jump_on b is place) 0 v)
jump_good cycles E v b true place le past there = (
  λ t. let g = past (is_false (flag v.core b) t) in (g.0, (omega (arith, le), g.1)),
  λ t. (omega (arith, le), there (is_true (flag v.core b) t)),
)
jump_good cycles E v b false place le past there = (
  λ t. let g = past t in (g.0, (omega (arith, le), g.1)),
  λ t. (omega (arith, le), there t),
)

pub le_more : (n : ℕ) → n ≤ n + 0
le_more n = omega arith

two_on : (n a b p q : ℕ) → n ≡ p → q ≡ p + (a + (b + 0)) → n + a + b ≡ q
two_on n a b p q e f = omega (arith, e, f)

four_on : (n a b c d p q : ℕ) → n ≡ p → q ≡ p + (a + (b + (c + (d + 0)))) → n + a + b + c + d ≡ q
four_on n a b c d p q e f = omega (arith, e, f)

seven_on : (n a b x y p q : ℕ) → n ≡ p → q ≡ p + (a + (b + (1 + (1 + (1 + (x + (y + 0))))))) → n + a + b + 1 + 1 + 1 + x + y ≡ q
seven_on n a b x y p q e f = omega (arith, e, f)

eight_on : (n a b c d x y p q : ℕ) → n ≡ p → q ≡ p + (a + (b + (c + (d + (1 + (1 + (x + (y + 0)))))))) → n + a + b + c + d + 1 + 1 + x + y ≡ q
eight_on n a b c d x y p q e f = omega (arith, e, f)

abbrev pub load_size : ℕ → ℕ → ℕ
load_size r a = size_of (insn_of (Loads r a))

abbrev pub store_size : ℕ → ℕ → ℕ
store_size a r = size_of (insn_of (Stores a r))

zero_on : (n p q : ℕ) → n ≡ p → q ≡ p + 0 → n ≡ q
zero_on n p q e f = omega (arith, e, f)

four_words : (n p q : ℕ) → n ≡ p → q ≡ p + 4 → n + 1 + 1 + 2 ≡ q
four_words n p q e f = omega (arith, e, f)

three_words : (n p q : ℕ) → n ≡ p → q ≡ p + 3 → n + 1 + 2 ≡ q
three_words n p q e f = omega (arith, e, f)

pub same_yes : (b is : Bool) → b ≡ is → same b is ≡ true
same_yes true true e = refl
same_yes false false e = refl
same_yes true false e = absurd (true≢false e)
same_yes false true e = absurd (true≢false (sym e))

pub same_no : (b is : Bool) → b ≡ not is → same b is ≡ false
same_no true false e = refl
same_no false true e = refl
same_no true true e = absurd (true≢false e)
same_no false false e = absurd (true≢false (sym e))

pub flag_value : (c : AvrState) (k : FlagKind) (o : Option Flag) → IsOfKind o k → HasFlag c o → flag c (status_bit k) ≡ value_of o
flag_value c k None fits has = absurd fits
flag_value c k (Some f) fits has = ap (λ j. flag c (status_bit j)) (sym fits) ∙ has

pub flag_kept : (c : AvrState) (place cycles : ℕ) (o : Option Flag) → HasFlag c o → HasFlag (at_place c place cycles) o
flag_kept c place cycles None has = has
flag_kept c place cycles (Some f) has = has

pub status_low : (k : FlagKind) → status_bit k < 8
status_low kind.Less = lit< tt
status_low kind.Equal = lit< tt
status_low kind.Below = lit< tt

-- R21 is counted down
abbrev counted : View → View
counted v = moved (result v (λ c. with_result c 21 ((see v 21 + 255) % 256) (see v 21 == 128)) 21 ((see v 21 + 255) % 256)) (v.core.place + 1) 1

-- the place of the byte state does not count
pub elsewhere : (board : Board) (places : List ℕ) (w : View) (s : Bytes) (q : ℕ) → Has board places w s → Has board places w (record s { place = q })
elsewhere board places w s q h = record { holds = h.holds; settings = h.settings; started = h.started; flag = h.flag; back = h.back; closed = h.closed }

six_on : (n a b c d p q : ℕ) → n ≡ p → q ≡ p + (a + (b + (c + (d + (1 + (1 + 0)))))) → n + a + b + c + d + 1 + 1 ≡ q
six_on n a b c d p q e f = omega (arith, e, f)

abbrev pub zero_of : ℕ → ℕ → ℕ → ℕ → Bool
zero_of x z y w = (difference x y 0 == 0) && (difference z w (as_bit (nat_lt x (y + 0))) == 0)

pub equal_flag : (a b c d x z y w : ℕ) → x ≡ a → z ≡ b → y ≡ c → w ≡ d → a < 256 → b < 256 → c < 256 → d < 256 →
    zero_of x z y w ≡ (a + b * 256 == c + d * 256)
equal_flag a b c d x z y w e f g h ha hb hc hd =
    ap₂ (λ x z. zero_of x z y w) e f ∙ ap₂ (λ y w. zero_of a b y w) g h ∙ equal_words a b c d ha hb hc hd

abbrev pub sign_of : ℕ → ℕ → ℕ → ℕ → Bool
sign_of x z y w =
    let n = nat_le 128 (difference z w (as_bit (nat_lt x (y + 0)))) in
    differ n (nat_le 128 z && (not (nat_le 128 w) && not n) || not (nat_le 128 z) && (nat_le 128 w && n))

pub less_flag : (a b c d x z y w : ℕ) → x ≡ a → z ≡ b → y ≡ c → w ≡ d → a < 256 → b < 256 → c < 256 → d < 256 →
    sign_of x z y w ≡ nat_lt (lifted (a + b * 256)) (lifted (c + d * 256))
less_flag a b c d x z y w e f g h ha hb hc hd =
    ap₂ (λ x z. sign_of x z y w) e f ∙ ap₂ (λ y w. sign_of a b y w) g h ∙ less_words a b c d ha hb hc hd

module _ (board : Board) (lay : Layout) (m : AvrState) (s : Bytes) where
  abbrev pub Ready : BytePrim → Type 0
  Ready p = IsReady (avr_target board) lay s p

  abbrev pub Ends : BytePrim → View → Type 0
  Ends p w = ViewStands board lay.places w (act lay.code p s false no_reading).next

  abbrev pub Good : BytePrim → List Piece → Type 0
  Good p ps = (v : View) → ViewStands board lay.places v s → AllGood (cycle_count board p) (Ends p) (paths ps 0 v)

  -- code all of whose paths are good
  pub coded : (p : BytePrim) (q : Piece) (ps : List Piece) → Ready p → code_of board p lay.labels ≡ q ∷ ps → size_in (q ∷ ps) ≡ word_count board p →
      (act lay.code p s false no_reading).sent ≡ [] → AllPiecesFit (q ∷ ps) → StandsAt board lay.places m s → Good p (q ∷ ps) →
      Moves (steps_over (avr_step mega16) lay.flash) (StandsAt board lay.places) m (cycle_count board p) s (act lay.code p s false no_reading)
  coded p q ps ready is size quiet fit st good =
      let v = view_of m in
      let seen = view_seen m st.shows.regs st.shows.sram in
      let has = to_view board lay.places m v s seen st in
      let place = slice_index lay.places s.place in
      let inside : place + size_in (q ∷ ps) ≤ 8192 = (let a = ready.next in let b = ready.inside in omega (arith, a, b, size)) in
      let loaded : HasAt lay.flash place (words_of (q ∷ ps)) = subst (λ l. HasAt lay.flash place (words_of l)) is ready.loaded in
      let code = code_held (q ∷ ps) lay.flash place (all_fields (q ∷ ps) fit) inside loaded in
      let T : AvrState → Type 0 = λ m'. StandsAt board lay.places m' (act lay.code p s false no_reading).next in
      let went = good_paths lay.flash T q ps m v (cycle_count board p) (Ends p) fit (subst (λ n. HasCode lay.flash n (q ∷ ps)) (sym has.at) code) seen
      (λ m' w sees ends. from_view board lay.places m' w (act lay.code p s false no_reading).next sees ends) (good v has) in
      inl (
        went.0,
        subst (λ l. LeadsFrom (steps_over (avr_step mega16) lay.flash) T (steps_over (avr_step mega16) lay.flash m false no_reading) (cycle_count board p) l)
            (sym quiet) went.1,
      )

  abbrev pub Goes : BytePrim → Type 0
  Goes p = Moves (steps_over (avr_step mega16) lay.flash) (StandsAt board lay.places) m (cycle_count board p) s (act lay.code p s false no_reading)

  pub increment : (to : ℕ) → Ready (Word (words.Increment to)) → StandsAt board lay.places m s → Goes (Word (words.Increment to))
  increment to ready st = coded (Word (words.Increment to)) (Loads 16 to) (Loads 17 (to + 1) ∷ Plain (insn.Bset 0) ∷ Plain (insn.Adc 16 1) ∷ Plain (insn.Adc
      17 1) ∷ Stores to 16 ∷ Stores (to + 1) 17 ∷ []) ready refl refl refl (
        (lit< tt, ready.admitted.0),
        (
          (lit< tt, ready.admitted.1),
          (
            refl,
            (
              (lit< tt, lit< tt),
              (
                (lit< tt, lit< tt),
                (
                  (lit< tt, ready.admitted.0),
                  (
                    (
                      lit< tt,
                      ready.admitted.1,
                    ),
                    tt,
                  ),
                ),
              ),
            ),
          ),
        ),
      ) st
      (λ v h. (
        le_more _,
        record {
          has = has_word board lay.places v _ s (alike v _ refl refl refl (λ port. refl) refl refl refl refl) h.has to _ _ ((word_at s.store to + 1) % 65536)
              ready.admitted.0 ready.admitted.1 refl
              (more_low (cell s.store to) (cell s.store (to + 1)) _ _ (h.has.holds.cells to ready.admitted.0) (h.has.started ready.begins).zero)
              (more_high (cell s.store to) (cell s.store (to + 1)) _ _ _ (h.has.holds.cells to ready.admitted.0) (h.has.holds.cells (to + 1)
              ready.admitted.1) (h.has.started ready.begins).zero (h.has.holds.bytes to));
          at = seven_on v.core.place (load_size 16 to) (load_size 17 (to + 1)) (store_size to 16) (store_size (to + 1) 17) _ _ h.at ready.next;
        },
      ))

  pub decrement : (to : ℕ) → Ready (Word (words.Decrement to)) → StandsAt board lay.places m s → Goes (Word (words.Decrement to))
  decrement to ready st = coded (Word (words.Decrement to)) (Loads 16 to) (Loads 17 (to + 1) ∷ Plain (insn.Bset 0) ∷ Plain (insn.Sbc 16 1) ∷ Plain (insn.Sbc
      17 1) ∷ Stores to 16 ∷ Stores (to + 1) 17 ∷ []) ready refl refl refl (
        (lit< tt, ready.admitted.0),
        (
          (lit< tt, ready.admitted.1),
          (
            refl,
            (
              (lit< tt, lit< tt),
              (
                (lit< tt, lit< tt),
                (
                  (lit< tt, ready.admitted.0),
                  (
                    (
                      lit< tt,
                      ready.admitted.1,
                    ),
                    tt,
                  ),
                ),
              ),
            ),
          ),
        ),
      ) st
      (λ v h. (
        le_more _,
        record {
          has = has_word board lay.places v _ s (alike v _ refl refl refl (λ port. refl) refl refl refl refl) h.has to _ _
              ((word_at s.store to + 65535) % 65536)
              ready.admitted.0 ready.admitted.1 refl
              (less_low (cell s.store to) (cell s.store (to + 1)) _ _ (h.has.holds.cells to ready.admitted.0) (h.has.started ready.begins).zero
              (h.has.holds.bytes to))
              (less_high (cell s.store to) (cell s.store (to + 1)) _ _ _ (h.has.holds.cells to ready.admitted.0) (h.has.holds.cells (to + 1)
              ready.admitted.1) (h.has.started ready.begins).zero (h.has.holds.bytes to) (h.has.holds.bytes (to + 1)));
          at = seven_on v.core.place (load_size 16 to) (load_size 17 (to + 1)) (store_size to 16) (store_size (to + 1) 17) _ _ h.at ready.next;
        },
      ))

  pub add_cells : (to a : ℕ) (b : ℕ) → Ready (Word (words.Add to a (source.Cells b))) → StandsAt board lay.places m s → Goes (Word (words.Add to a (source.Cells
      b)))
  add_cells to a b ready st = coded (Word (words.Add to a (source.Cells b))) (Loads 16 a) (Loads 17 (a + 1) ∷ Loads 18 b ∷ Loads 19 (b + 1) ∷ Plain (insn.Add
      16 18) ∷ Plain (insn.Adc 17 19) ∷ Stores to 16 ∷ Stores (to + 1) 17 ∷ []) ready refl refl refl (
        (lit< tt, ready.admitted.1.0),
        (
          (lit< tt, ready.admitted.1.1),
          (
            (lit< tt, ready.admitted.2.0),
            (
              (lit< tt, ready.admitted.2.1),
              (
                (lit< tt, lit< tt),
                ((lit< tt, lit< tt), ((lit< tt, ready.admitted.0.0), ((lit< tt, ready.admitted.0.1), tt))),
              ),
            ),
          ),
        ),
      ) st
      (λ v h. (
        le_more _,
        record {
          has = has_word board lay.places v _ s (alike v _ refl refl refl (λ port. refl) refl refl refl refl) h.has to _ _
              ((word_at s.store a + word_from s.store
              (source.Cells b)) % 65536) ready.admitted.0.0 ready.admitted.0.1 refl
              (added_low (cell s.store a) (cell s.store (a + 1)) (cell s.store b) (cell s.store (b + 1)) _ _ (h.has.holds.cells a ready.admitted.1.0)
              (h.has.holds.cells b ready.admitted.2.0))
              (added_high (cell s.store a) (cell s.store (a + 1)) (cell s.store b) (cell s.store (b + 1)) _ _ _ _ (h.has.holds.cells a ready.admitted.1.0)
              (h.has.holds.cells (a + 1) ready.admitted.1.1) (h.has.holds.cells b ready.admitted.2.0) (h.has.holds.cells (b + 1) ready.admitted.2.1)
              (h.has.holds.bytes a) (h.has.holds.bytes b));
          at = eight_on v.core.place (load_size 16 a) (load_size 17 (a + 1)) (load_size 18 b) (load_size 19 (b + 1)) (store_size to 16) (store_size (to + 1)
              17) _ _ h.at ready.next;
        },
      ))

  pub subtract_cells_cells : (to : ℕ) (a : ℕ) (b : ℕ) → Ready (Word (words.Subtract to (source.Cells a) (source.Cells b))) → StandsAt board lay.places m s →
      Goes
      (Word (words.Subtract to (source.Cells a) (source.Cells b)))
  subtract_cells_cells to a b ready st = coded (Word (words.Subtract to (source.Cells a) (source.Cells b))) (Loads 16 a) (Loads 17 (a + 1) ∷ Loads 18 b ∷
      Loads 19 (b + 1) ∷ Plain (insn.Sub 16 18) ∷ Plain (insn.Sbc 17 19) ∷ Stores to 16 ∷ Stores (to + 1) 17 ∷ []) ready refl refl refl (
        (lit< tt, ready.admitted.1.0),
        (
          (lit< tt, ready.admitted.1.1),
          (
            (lit< tt, ready.admitted.2.0),
            (
              (lit< tt, ready.admitted.2.1),
              (
                (lit< tt, lit< tt),
                ((lit< tt, lit< tt), ((lit< tt, ready.admitted.0.0), ((lit< tt, ready.admitted.0.1), tt))),
              ),
            ),
          ),
        ),
      ) st
      (λ v h. (
        le_more _,
        record {
          has = has_word board lay.places v _ s (alike v _ refl refl refl (λ port. refl) refl refl refl refl) h.has to _ _
              ((word_from s.store (source.Cells a) + (65536 -
              word_from s.store (source.Cells b))) % 65536) ready.admitted.0.0 ready.admitted.0.1 refl
              (taken_low (cell s.store a) (cell s.store (a + 1)) (cell s.store b) (cell s.store (b + 1)) _ _ (h.has.holds.cells a ready.admitted.1.0)
              (h.has.holds.cells b ready.admitted.2.0) (h.has.holds.bytes a) (h.has.holds.bytes b) (h.has.holds.bytes (b + 1)))
              (taken_high (cell s.store a) (cell s.store (a + 1)) (cell s.store b) (cell s.store (b + 1)) _ _ _ _ (h.has.holds.cells a ready.admitted.1.0)
              (h.has.holds.cells (a + 1) ready.admitted.1.1) (h.has.holds.cells b ready.admitted.2.0) (h.has.holds.cells (b + 1) ready.admitted.2.1)
              (h.has.holds.bytes a) (h.has.holds.bytes (a + 1)) (h.has.holds.bytes b) (h.has.holds.bytes (b + 1)));
          at = eight_on v.core.place (load_size 16 a) (load_size 17 (a + 1)) (load_size 18 b) (load_size 19 (b + 1)) (store_size to 16) (store_size (to + 1)
              17) _ _ h.at ready.next;
        },
      ))

  pub subtract_cells_number : (to : ℕ) (a : ℕ) (b_low b_high : ℕ) → Ready (Word (words.Subtract to (source.Cells a) (source.Number b_low b_high))) →
      StandsAt board
      lay.places m s → Goes (Word (words.Subtract to (source.Cells a) (source.Number b_low b_high)))
  subtract_cells_number to a b_low b_high ready st = coded (Word (words.Subtract to (source.Cells a) (source.Number b_low b_high))) (Loads 16 a) (Loads 17 (a
      + 1) ∷ Plain (insn.Ldi 18 b_low) ∷ Plain (insn.Ldi 19 b_high) ∷ Plain (insn.Sub 16 18) ∷ Plain (insn.Sbc 17 19) ∷ Stores to 16 ∷ Stores (to + 1) 17 ∷
      []) ready refl refl refl (
        (lit< tt, ready.admitted.1.0),
        (
          (lit< tt, ready.admitted.1.1),
          (
            (lit≤ tt, lit< tt, ready.admitted.2.0),
            (
              (lit≤ tt, lit< tt, ready.admitted.2.1),
              ((lit< tt, lit< tt), ((lit< tt, lit< tt), ((lit< tt, ready.admitted.0.0), ((lit< tt, ready.admitted.0.1), tt)))),
            ),
          ),
        ),
      ) st
      (λ v h. (
        le_more _,
        record {
          has = has_word board lay.places v _ s (alike v _ refl refl refl (λ port. refl) refl refl refl refl) h.has to _ _
              ((word_from s.store (source.Cells a) + (65536 -
              word_from s.store (source.Number b_low b_high))) % 65536) ready.admitted.0.0 ready.admitted.0.1 refl
              (taken_low (cell s.store a) (cell s.store (a + 1)) b_low b_high _ _ (h.has.holds.cells a ready.admitted.1.0) refl (h.has.holds.bytes a)
              ready.admitted.2.0 ready.admitted.2.1)
              (taken_high (cell s.store a) (cell s.store (a + 1)) b_low b_high _ _ _ _ (h.has.holds.cells a ready.admitted.1.0) (h.has.holds.cells (a + 1)
              ready.admitted.1.1) refl refl (h.has.holds.bytes a) (h.has.holds.bytes (a + 1)) ready.admitted.2.0 ready.admitted.2.1);
          at = eight_on v.core.place (load_size 16 a) (load_size 17 (a + 1)) 1 1 (store_size to 16) (store_size (to + 1) 17) _ _ h.at ready.next;
        },
      ))

  pub subtract_number_cells : (to : ℕ) (a_low a_high : ℕ) (b : ℕ) → Ready (Word (words.Subtract to (source.Number a_low a_high) (source.Cells b))) →
      StandsAt board
      lay.places m s → Goes (Word (words.Subtract to (source.Number a_low a_high) (source.Cells b)))
  subtract_number_cells to a_low a_high b ready st = coded (Word (words.Subtract to (source.Number a_low a_high) (source.Cells b))) (Plain (insn.Ldi 16
      a_low)) (Plain (insn.Ldi 17 a_high) ∷ Loads 18 b ∷ Loads 19 (b + 1) ∷ Plain (insn.Sub 16 18) ∷ Plain (insn.Sbc 17 19) ∷ Stores to 16 ∷ Stores (to + 1)
      17 ∷ []) ready refl refl refl (
        (lit≤ tt, lit< tt, ready.admitted.1.0),
        (
          (lit≤ tt, lit< tt, ready.admitted.1.1),
          (
            (lit< tt, ready.admitted.2.0),
            (
              (lit< tt, ready.admitted.2.1),
              ((lit< tt, lit< tt), ((lit< tt, lit< tt), ((lit< tt, ready.admitted.0.0), ((lit< tt, ready.admitted.0.1), tt)))),
            ),
          ),
        ),
      ) st
      (λ v h. (
        le_more _,
        record {
          has = has_word board lay.places v _ s (alike v _ refl refl refl (λ port. refl) refl refl refl refl) h.has to _ _
              ((word_from s.store (source.Number a_low a_high) +
              (65536 - word_from s.store (source.Cells b))) % 65536) ready.admitted.0.0 ready.admitted.0.1 refl
              (taken_low a_low a_high (cell s.store b) (cell s.store (b + 1)) _ _ refl (h.has.holds.cells b ready.admitted.2.0) ready.admitted.1.0
              (h.has.holds.bytes b) (h.has.holds.bytes (b + 1)))
              (taken_high a_low a_high (cell s.store b) (cell s.store (b + 1)) _ _ _ _ refl refl (h.has.holds.cells b ready.admitted.2.0) (h.has.holds.cells
              (b + 1) ready.admitted.2.1) ready.admitted.1.0 ready.admitted.1.1 (h.has.holds.bytes b) (h.has.holds.bytes (b + 1)));
          at = eight_on v.core.place 1 1 (load_size 18 b) (load_size 19 (b + 1)) (store_size to 16) (store_size (to + 1) 17) _ _ h.at ready.next;
        },
      ))

  pub subtract_number_number : (to : ℕ) (a_low a_high : ℕ) (b_low b_high : ℕ) → Ready (Word (words.Subtract to (source.Number a_low a_high) (source.Number
      b_low b_high))) → StandsAt board lay.places m s → Goes (Word (words.Subtract to (source.Number a_low a_high) (source.Number b_low b_high)))
  subtract_number_number to a_low a_high b_low b_high ready st = coded (Word (words.Subtract to (source.Number a_low a_high) (source.Number b_low b_high)))
      (Plain (insn.Ldi 16 a_low)) (Plain (insn.Ldi 17 a_high) ∷ Plain (insn.Ldi 18 b_low) ∷ Plain (insn.Ldi 19 b_high) ∷ Plain (insn.Sub 16 18) ∷
      Plain (insn.Sbc 17 19) ∷ Stores to 16 ∷ Stores (to + 1) 17 ∷ []) ready refl refl refl (
        (lit≤ tt, lit< tt, ready.admitted.1.0),
        (
          (lit≤ tt, lit< tt, ready.admitted.1.1),
          (
            (lit≤ tt, lit< tt, ready.admitted.2.0),
            (
              (
                lit≤ tt,
                lit< tt,
                ready.admitted.2.1,
              ),
              ((lit< tt, lit< tt), ((lit< tt, lit< tt), ((lit< tt, ready.admitted.0.0), ((lit< tt, ready.admitted.0.1), tt)))),
            ),
          ),
        ),
      ) st
      (λ v h. (
        le_more _,
        record {
          has = has_word board lay.places v _ s (alike v _ refl refl refl (λ port. refl) refl refl refl refl) h.has to _ _
              ((word_from s.store (source.Number a_low a_high) +
              (65536 - word_from s.store (source.Number b_low b_high))) % 65536) ready.admitted.0.0 ready.admitted.0.1 refl
              (taken_low a_low a_high b_low b_high _ _ refl refl ready.admitted.1.0 ready.admitted.2.0 ready.admitted.2.1)
              (taken_high a_low a_high b_low b_high _ _ _ _ refl refl refl refl ready.admitted.1.0 ready.admitted.1.1 ready.admitted.2.0 ready.admitted.2.1);
          at = eight_on v.core.place 1 1 1 1 (store_size to 16) (store_size (to + 1) 17) _ _ h.at ready.next;
        },
      ))

  pub jump : (l : ℕ) → Ready (Jump l) → StandsAt board lay.places m s → Goes (Jump l)
  jump l ready st =
      let named = ready.label l refl in
      coded (Jump l) (Plain (insn.Jmp (slice_index lay.labels l))) [] ready refl refl refl (named.1, tt) st
      (λ v h. (
        lit≤ tt,
        record { has = has_same board lay.places v _ s (alike v _ refl refl refl (λ port. refl) refl refl refl refl) h.has None _ refl tt; at = named.0 },
      ))

  pub label : (l : ℕ) → Ready (Label l) → StandsAt board lay.places m s → Goes (Label l)
  label l ready st = inr (
    refl,
    refl,
    record {
      shows = record {
        regs = st.shows.regs;
        sram = st.shows.sram;
        all = st.shows.all;
        scratch = st.shows.scratch;
        target = st.shows.target;
        ports = st.shows.ports;
        file = st.shows.file;
        wires = st.shows.wires;
        ram = st.shows.ram;
        bytes = st.shows.bytes;
        latches = st.shows.latches;
        reading = st.shows.reading;
        eeprom = st.shows.eeprom;
      };
      settings = st.settings;
      at = zero_on m.place (slice_index lay.places s.place) (slice_index lay.places (suc s.place)) st.at ready.next;
      started = st.started;
      flag = tt;
      back = st.back;
      closed = st.closed;
    },
  )

  abbrev After : Bool → ℕ → ℕ
  After b l = if b then label_place lay.code l else suc s.place

  -- the loop's count is in R21
  pub loops_on : (l : ℕ) → Ready (JumpWhere test.LoopsOn l) → slice_index lay.places (act lay.code (JumpWhere test.LoopsOn l) s false no_reading).next.place
      < 8192 →
      StandsAt board lay.places m s → Goes (JumpWhere test.LoopsOn l)
  loops_on l ready low st =
      let named = ready.label l refl in
      coded (JumpWhere test.LoopsOn l) (Plain (insn.Dec 21)) (jump_on 1 false (slice_index lay.labels l)) ready refl refl refl
      (lit< tt, ((lit< tt, lit< tt), (named.1, tt))) st
      (λ v h. subst (IsGood v) (sym (ap (λ (c : Scratch). c.count) h.has.holds.scratch)) (by21 named v h ready.next) low)
    where
      count_of : ℕ → Store
      count_of c = plain (with_cell s.store c ((cell s.store c + 255) % 256))

      next_of : ℕ → Bytes
      next_of c = goes_to s (count_of c) (After (not (cell (count_of c) c == 0)) l)

      IsGood : View → ℕ → Type 0
      IsGood v c = slice_index lay.places (next_of c).place < 8192 →
          AllGood 5 (λ w. ViewStands board lay.places w (next_of c)) (paths (Plain (insn.Dec 21) ∷ jump_on 1 false (slice_index lay.labels l)) 0 v)

      by21 : (slice_index lay.labels l ≡ slice_index lay.places (label_place lay.code l)) × (slice_index lay.labels l < 8192) → (v : View) →
          ViewStands board lay.places v s → slice_index lay.places (suc s.place) ≡ slice_index lay.places s.place + 4 → IsGood v 21
      by21 named v h next low =
          good_bump 1 4 (λ w. ViewStands board lay.places w (next_of 21)) (paths (jump_on 1 false (slice_index lay.labels l)) 0 (counted v))
          (jump_good 4 (λ w. ViewStands board lay.places w (next_of 21)) (counted v) 1 false (slice_index lay.labels l) (lit≤ tt)
          (λ t.
          let gone : slice_index lay.places (After (not (cell (count_of 21) 21 == 0)) l) ≡ slice_index lay.places (suc s.place) =
          ap (λ b. slice_index lay.places (After b l)) (says true t) in
          let at = four_words v.core.place (slice_index lay.places s.place) (slice_index lay.places (suc s.place)) h.at next in (
            subst (λ n. n < 8192) (gone ∙ sym at) low,
            record {
              has = elsewhere board lay.places _ _ _ (taken _ refl (alike v _ refl refl refl (λ port. refl) refl refl refl
                  refl));
              at = at ∙ sym gone;
            },
          ))
          (λ t. record {
            has = elsewhere board lay.places _ _ _ (taken _ refl (alike v _ refl refl refl (λ port. refl) refl refl refl refl));
            at = named.0 ∙ sym (ap (λ b. slice_index lay.places (After b l)) (says false t));
          }))
        where
          same_count : (v.cells 21 + 255) % 256 ≡ (cell s.store 21 + 255) % 256
          same_count = ap (λ n. (n + 255) % 256) (h.has.holds.cells 21 (inl (lit< tt, refl, refl)))

          says : (b : Bool) → flag (counted v).core 1 ≡ b → not (cell (count_of 21) 21 == 0) ≡ not b
          says b t =
              ap (λ n. not (n == 0)) (set_index s.store.cells 21 ((cell s.store 21 + 255) % 256) 21
              (let all = h.has.holds.all in omega (arith, all)) ∙ sym same_count) ∙ ap not t

          small : (cell s.store 21 + 255) % 256 < 256
          small = omega arith

          taken : (w : View) → w.cells ≡ changed v.cells 21 ((v.cells 21 + 255) % 256) → Alike v w →
              Has board lay.places w (record s { place = suc s.place; store = record (with_cell s.store 21 ((cell s.store 21 + 255) % 256)) { flag = None } })
          taken w same k = has_cell board lay.places v w s k h.has 21 _ _ (inl (lit< tt, refl, refl)) same same_count small

  pub flag_jump : (k : FlagKind) (is : Bool) (l : ℕ) → Ready (JumpWhere (test.Flag k is) l) →
      slice_index lay.places (act lay.code (JumpWhere (test.Flag k is) l) s false no_reading).next.place < 8192 → StandsAt board lay.places m s →
      Goes (JumpWhere (test.Flag k is) l)
  flag_jump k is l ready low st = by is ready low
    where
      fork : (is : Bool) → (slice_index lay.labels l ≡ slice_index lay.places (label_place lay.code l)) × (slice_index lay.labels l < 8192) →
          IsOfKind s.store.flag k → slice_index lay.places (suc s.place) ≡ slice_index lay.places s.place + 3 →
          slice_index lay.places (After (same (value_of s.store.flag) is) l) < 8192 → (v : View) → ViewStands board lay.places v s →
          AllGood 4 (λ w. ViewStands board lay.places w (goes_to s s.store (After (same (value_of s.store.flag) is) l)))
          (paths (jump_on (status_bit k) is (slice_index lay.labels l)) 0 v)
      fork is named fits next low v h =
          let value = flag_value v.core k s.store.flag fits h.has.flag in
          jump_good 4 (λ w. ViewStands board lay.places w (goes_to s s.store (After (same (value_of s.store.flag) is) l))) v (status_bit k) is
          (slice_index lay.labels l) (lit≤ tt)
          (λ t.
          let gone : slice_index lay.places (After (same (value_of s.store.flag) is) l) ≡ slice_index lay.places (suc s.place) =
          ap (λ b. slice_index lay.places (After b l)) (same_no (value_of s.store.flag) is (sym value ∙ t)) in
          let at = three_words v.core.place (slice_index lay.places s.place) (slice_index lay.places (suc s.place)) h.at next in (
            subst (λ n. n < 8192) (gone ∙ sym at) low,
            record {
              has = has_same board lay.places v _ s (alike v _ refl refl refl (λ port. refl) refl refl refl refl) h.has s.store.flag
                  (After (same (value_of s.store.flag) is)
                  l) refl
                  (flag_kept v.core (v.core.place + 1 + 2) 2 s.store.flag h.has.flag);
              at = at ∙ sym gone;
            },
          ))
          (λ t. record {
            has = has_same board lay.places v _ s (alike v _ refl refl refl (λ port. refl) refl refl refl refl) h.has s.store.flag
                (After (same (value_of s.store.flag) is)
                l) refl
                (flag_kept (at_place v.core (v.core.place + 1) 1) (slice_index lay.labels l) 3 s.store.flag (flag_kept v.core (v.core.place + 1) 1
                s.store.flag h.has.flag));
            at = named.0 ∙ sym (ap (λ b. slice_index lay.places (After b l)) (same_yes (value_of s.store.flag) is (sym value ∙ t)));
          })

      by : (is : Bool) → Ready (JumpWhere (test.Flag k is) l) →
          slice_index lay.places (act lay.code (JumpWhere (test.Flag k is) l) s false no_reading).next.place < 8192 → Goes (JumpWhere (test.Flag k is) l)
      by true ready low =
          let named = ready.label l refl in
          coded (JumpWhere (test.Flag k true) l) (Plain (insn.Brbc (status_bit k) 2)) (Plain (insn.Jmp (slice_index lay.labels l)) ∷ []) ready refl refl refl
          ((status_low k, lit< tt), (named.1, tt)) st (fork true named ready.fits.1 ready.next low)
      by false ready low =
          let named = ready.label l refl in
          coded (JumpWhere (test.Flag k false) l) (Plain (insn.Brbs (status_bit k) 2)) (Plain (insn.Jmp (slice_index lay.labels l)) ∷ []) ready refl refl refl
          ((status_low k, lit< tt), (named.1, tt)) st (fork false named ready.fits.1 ready.next low)

  pub below : (a n : ℕ) → Ready (Compare (compares.Below a n)) → StandsAt board lay.places m s → Goes (Compare (compares.Below a n))
  below a n ready st = coded (Compare (compares.Below a n)) (Loads 16 a) (Loads 17 (a + 1) ∷ Plain (insn.Cpi 16 n) ∷ Plain (insn.Cpc 17 1) ∷ []) ready refl
      refl refl
      ((lit< tt, ready.admitted.0.0), ((lit< tt, ready.admitted.0.1), ((lit≤ tt, lit< tt, ready.admitted.1), ((lit< tt, lit< tt), tt)))) st
      (λ v h. (
        le_more _,
        record {
          has = has_same board lay.places v _ s (alike v _ refl refl refl (λ port. refl) refl refl refl refl) h.has
              (Some (record { kind = kind.Below; value = nat_lt (word_at s.store a) n })) (suc s.place) refl
              (ap₂ (λ x y. nat_lt y (v.work 1 + as_bit (nat_lt x (n + 0)))) (h.has.holds.cells a ready.admitted.0.0) (h.has.holds.cells (a + 1)
              ready.admitted.0.1)
              ∙ below_words (cell s.store a) (cell s.store (a + 1)) n (v.work 1) (h.has.started ready.begins).zero (h.has.holds.bytes a) ready.admitted.1);
          at = four_on v.core.place (load_size 16 a) (load_size 17 (a + 1)) 1 1 _ _ h.at ready.next;
        },
      ))
