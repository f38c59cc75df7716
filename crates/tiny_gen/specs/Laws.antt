-- The tiny machine keeps the law of each primitive.
use Rattle.std.proofs.Common.{◌≡◌, ◌≢◌, ℕ, suc, ◌+◌, ◌/◌, ◌%◌, ◌<◌, ◌≤◌, inl, inr, List, [], ◌∷◌, ◌++◌, length, Option, Some, None, Bool, true, false, not, cond, refl, sym, ap, subst, ◌∙◌, arith, append-nil}
use Rattle.std.specs.Prelude.{slice_get, slice_index, if◌then◌else◌, is_some, IsSome}
use Rattle.chip_tables.specs.Bits.{bit_of, as_bit}
use Rattle.chip_tables.specs.Outside.{no_reading}
use Rattle.chip_tables.specs.declared.outside.PinReading.{PinReading}
use Rattle.runs.specs.declared.ask.Ask.{Ask}
use Rattle.runs.specs.declared.ask.Ask.TheVariants as ask
use Rattle.runs.specs.Run.{Went, ask_of, reading_ask, device_ask}
use Rattle.byte_code.specs.declared.prim.BytePrim.{BytePrim}
use Rattle.byte_code.specs.declared.prim.BytePrim.TheVariants.{Start, CyclePoll, AdcPoll, Label, Jump, Call, Return, JumpWhere, Bit, Byte, Word, Compare, Device, Eeprom, Table}
use Rattle.byte_code.specs.declared.prim.Test.TheVariants as test
use Rattle.byte_code.specs.declared.prim.BitSource.TheVariants as source
use Rattle.byte_code.specs.declared.prim.BitDest.TheVariants as dest
use Rattle.byte_code.specs.declared.prim.BitOp.TheVariants as bits
use Rattle.byte_code.specs.declared.prim.ByteOp.TheVariants as bytes
use Rattle.byte_code.specs.declared.prim.ByteSource.TheVariants as byte
use Rattle.byte_code.specs.declared.prim.DeviceOp.TheVariants as devices
use Rattle.byte_code.specs.declared.state.Bytes.{Bytes}
use Rattle.byte_code.specs.declared.store.Store.{Store}
use Rattle.byte_code.specs.Store.{cell, with_cell, bit_from, with_bit_at}
use Rattle.byte_code.specs.Table.{plain, none_waits, cleared, sent_on}
use Rattle.byte_code.specs.Machine.{act, asked_by, label_place, returned}
use Rattle.target_core.specs.Law.{Leads, here, on, LeadsFrom, Moves, IsReady, MachineLaw, Layout, has_words}
use Rattle.tiny_gen.specs.declared.state.TinyState.{TinyState}
use Rattle.tiny_gen.specs.declared.state.Insn.{Insn}
use Rattle.tiny_gen.specs.declared.state.Insn.TheVariants.{Boot, AskCycle, AskDevice, Goto, CallTo, Back, Rest, Load, Keep, SendHeld, SkipByte, LoadLevel, KeepLatch}
use Rattle.tiny_gen.specs.Machine.{word_of, pin_of, encoded, IsExact, insn_of, decoded, executed, executed_if, fetched, skip_step, moved, converted, tiny_step}
use Rattle.tiny_gen.specs.Code.{code_of, words_of_insns, word_count, cycle_count, enter_count, admits, StandsAt, tiny_target}

from_parts : (op a : ℕ) → a < 4096 → insn_of (word_of op a / 4096) (word_of op a % 4096) ≡ insn_of op a
from_parts op a h =
    let over : word_of op a / 4096 ≡ op = omega arith in
    let rest : word_of op a % 4096 ≡ a = omega arith in
    ap (λ x. insn_of x (word_of op a % 4096)) over ∙ ap (insn_of op) rest

-- a pin's port and bit
pin_parts : (port b : ℕ) → b < 8 → (X : ℕ → ℕ → Insn) → X (pin_of port b / 8) (pin_of port b % 8) ≡ X port b
pin_parts port b h X =
    let over : pin_of port b / 8 ≡ port = omega arith in
    let rest : pin_of port b % 8 ≡ b = omega arith in
    ap (λ x. X x (pin_of port b % 8)) over ∙ ap (X port) rest

-- what is encoded is decoded
decoded-encoded : (i : Insn) → IsExact i → decoded (encoded i) ≡ Some i
unfolding encoded decoded
decoded-encoded Boot h = from_parts 1 0 (omega arith)
decoded-encoded AskCycle h = from_parts 2 0 (omega arith)
decoded-encoded AskDevice h = from_parts 3 0 (omega arith)
decoded-encoded (Goto a) h = from_parts 4 a h
decoded-encoded (CallTo a) h = from_parts 5 a h
decoded-encoded Back h = from_parts 6 0 (omega arith)
decoded-encoded Rest h = from_parts 7 0 (omega arith)
decoded-encoded (Load a) h = from_parts 8 a h
decoded-encoded (Keep a) h = from_parts 9 a h
decoded-encoded SendHeld h = from_parts 10 0 (omega arith)
decoded-encoded SkipByte h = from_parts 11 0 (omega arith)
decoded-encoded (LoadLevel port b) h = from_parts 12 (pin_of port b) (omega (arith, h.0, h.1)) ∙ ap Some (pin_parts port b h.1 LoadLevel)
decoded-encoded (KeepLatch port b) h = from_parts 13 (pin_of port b) (omega (arith, h.0, h.1)) ∙ ap Some (pin_parts port b h.1 KeepLatch)

-- the step where an instruction stands
step_is : (flash : List ℕ) (m : TinyState) (i : Insn) (ready : Bool) (r : PinReading) → slice_get flash m.at ≡ Some (encoded i) → IsExact i →
    tiny_step flash m ready r ≡ executed i m ready r
unfolding tiny_step
step_is flash m i ready r h x = ap (λ o. executed_if (fetched o) m ready r) h ∙ ap (λ o. executed_if o m ready r) (decoded-encoded i x)

abbrev insn_asks : Insn → Ask
insn_asks Boot = ask.Nothing
insn_asks AskCycle = ask.Reading
insn_asks AskDevice = ask.Device
insn_asks (Goto a) = ask.Nothing
insn_asks (CallTo a) = ask.Nothing
insn_asks Back = ask.Nothing
insn_asks Rest = ask.Nothing
insn_asks (Load a) = ask.Nothing
insn_asks (Keep a) = ask.Nothing
insn_asks SendHeld = ask.Nothing
insn_asks SkipByte = ask.Nothing
insn_asks (LoadLevel port b) = ask.Nothing
insn_asks (KeepLatch port b) = ask.Nothing

skip_asks : (m : TinyState) (v : Bool) → reading_ask (skip_step m v) (device_ask (skip_step m v)) ≡ ask.Nothing
skip_asks m true = refl
skip_asks m false = refl

executed_asks : (i : Insn) (m : TinyState) → reading_ask (executed i m true no_reading) (device_ask (executed i m false no_reading)) ≡ insn_asks i
executed_asks Boot m = refl
executed_asks AskCycle m = refl
executed_asks AskDevice m = refl
executed_asks (Goto a) m = refl
executed_asks (CallTo a) m = refl
executed_asks Back m = refl
executed_asks Rest m = refl
executed_asks (Load a) m = refl
executed_asks (Keep a) m = refl
executed_asks SendHeld m = refl
executed_asks SkipByte m = skip_asks m (is_some m.store.reading.rx)
executed_asks (LoadLevel port b) m = refl
executed_asks (KeepLatch port b) m = refl

-- what the machine asks for where an instruction stands
asks_is : (flash : List ℕ) (m : TinyState) (i : Insn) → slice_get flash m.at ≡ Some (encoded i) → IsExact i → ask_of (tiny_step flash) m ≡ insn_asks i
unfolding ask_of
asks_is flash m i h x =
    ap (λ o. reading_ask o (device_ask (tiny_step flash m false no_reading))) (step_is flash m i true no_reading h x)
    ∙ ap (λ o. reading_ask (executed i m true no_reading) (device_ask o)) (step_is flash m i false no_reading h x)
    ∙ executed_asks i m

module _ (flash : List ℕ) (T : TinyState → Type 0) where
  -- the step of an instruction, and then more
  from_step : (m : TinyState) (i : Insn) (ready : Bool) (r : PinReading) (w : Went TinyState) (left budget : ℕ) (rest sent : List ℕ) →
      slice_get flash m.at ≡ Some (encoded i) → IsExact i → executed i m ready r ≡ Some w → w.cycles + left ≤ budget → sent ≡ w.sent ++ rest →
      Leads (tiny_step flash) T w.next left rest → LeadsFrom (tiny_step flash) T (tiny_step flash m ready r) budget sent
  from_step m i ready r w left budget rest sent h x e le said further = record {
    went = w;
    is = step_is flash m i ready r h x ∙ e;
    left = left;
    bound = le;
    rest = rest;
    said = said;
    further = further;
  }

  -- one that asks for nothing
  then_step : (m : TinyState) (i : Insn) (w : Went TinyState) (left budget : ℕ) (rest : List ℕ) → slice_get flash m.at ≡ Some (encoded i) → IsExact i →
      insn_asks i ≡ ask.Nothing → executed i m false no_reading ≡ Some w → w.cycles + left ≤ budget → Leads (tiny_step flash) T w.next left rest →
      Leads (tiny_step flash) T m budget (w.sent ++ rest)
  then_step m i w left budget rest h x q e le further = on w left (asks_is flash m i h x ∙ q) (step_is flash m i false no_reading h x ∙ e) le further

-- the lowest bit of a bit as a number
lowest : (x : Bool) → bit_of (as_bit x) 0 ≡ x
lowest true = refl
lowest false = refl

at_word : (flash : List ℕ) (pc place w : ℕ) → pc ≡ place → slice_get flash place ≡ Some w → slice_get flash pc ≡ Some w
at_word flash pc place w e h = ap (slice_get flash) e ∙ h

module _ (lay : Layout) (m : TinyState) (s : Bytes) where
  abbrev Ready : BytePrim → Type 0
  Ready p = IsReady tiny_target lay s p

  abbrev Stands : Type 0
  Stands = StandsAt lay.places 0 m s

  abbrev Next : BytePrim → TinyState → Type 0
  Next p m' = StandsAt lay.places 0 m' (act lay.code p s false no_reading).next

  abbrev Goes : BytePrim → Type 0
  Goes p = Moves (tiny_step lay.flash) (λ m' x. StandsAt lay.places 0 m' x) m (cycle_count p) s (act lay.code p s false no_reading)

  -- a primitive whose first instruction is i
  go : (p : BytePrim) (i : Insn) (w : Went TinyState) (left : ℕ) (rest : List ℕ) → slice_get lay.flash m.at ≡ Some (encoded i) → IsExact i →
      insn_asks i ≡ ask.Nothing → executed i m false no_reading ≡ Some w → w.cycles + left ≤ cycle_count p →
      (act lay.code p s false no_reading).sent ≡ w.sent ++ rest →
      Leads (tiny_step lay.flash) (Next p) w.next left rest → Goes p
  go p i w left rest h x q e le said further = inl (
    asks_is lay.flash m i h x
        ∙ q,
    from_step lay.flash (Next p) m i false no_reading w left (cycle_count p) rest (act lay.code p s false no_reading).sent h x e le said further,
  )

  -- the word of its first instruction
  first : (w : ℕ) → Stands → slice_get lay.flash (slice_index lay.places s.place) ≡ Some w → slice_get lay.flash m.at ≡ Some w
  first w st h = at_word lay.flash m.at (slice_index lay.places s.place) w (omega (arith, st.at)) h

  start : (n : ℕ) → Ready (Start n) → Stands → Goes (Start n)
  start n ready st =
      let zero_cells : n ≡ 0 = ready.admitted in
      go (Start n) Boot _ 0 [] (first _ st ready.loaded.0) tt refl refl (omega arith) refl
      (here (record {
        shows = ap (λ d. plain (none_waits d)) st.shows ∙ ap (λ k. plain (none_waits (cleared k s.store))) (sym zero_cells);
        at = omega (arith, ready.next, st.at);
        link = st.link;
      }))

  back : (o : Option ℕ) → s.open_call ≡ o → IsSome o → Ready Return → Stands → Goes Return
  back None e some ready st = absurd (cc some)
  back (Some k) e some ready st =
      let to : (act lay.code Return s false no_reading).next ≡ returned s (plain s.store) (Some k) = ap (returned s (plain s.store)) e in
      let stands : StandsAt lay.places 0 (moved m m.link) (returned s (plain s.store) (Some k)) = record {
        shows = st.shows;
        at = omega (arith, st.link k e);
        link = λ i h. absurd (cc h);
      } in
      go Return Back _ 0 [] (first _ st ready.loaded.0) tt refl refl (omega arith) refl (here (subst (StandsAt lay.places 0 (moved m m.link)) (sym to) stands))

  -- a jump, by whether a byte was received
  if_byte : (l : ℕ) → Ready (JumpWhere test.NoByte l) → Stands → (v : Bool) → is_some m.store.reading.rx ≡ v → is_some s.store.reading.rx ≡ v →
      Goes (JumpWhere test.NoByte l)
  if_byte l ready st true e f =
      let to : (act lay.code (JumpWhere test.NoByte l) s false no_reading).next.place ≡ suc s.place = ap
      (λ v. cond (not v) (label_place lay.code l) (suc s.place)) f in
      go (JumpWhere test.NoByte l) SkipByte _ 0 [] (first _ st ready.loaded.0) tt refl (ap (skip_step m) e) (omega arith) refl
      (here (record { shows = st.shows; at = omega (arith, ready.next, st.at, ap (slice_index lay.places) to); link = st.link }))
  if_byte l ready st false e f =
      let named = ready.label l refl in
      let to : (act lay.code (JumpWhere test.NoByte l) s false no_reading).next.place ≡ label_place lay.code l = ap
      (λ v. cond (not v) (label_place lay.code l) (suc s.place)) f in
      go (JumpWhere test.NoByte l) SkipByte _ 2 [] (first _ st ready.loaded.0) tt refl (ap (skip_step m) e) (omega arith) refl
      (then_step lay.flash (Next (JumpWhere test.NoByte l)) _ (Goto (slice_index lay.labels l)) _ 0 2 []
      (at_word lay.flash _ (suc (slice_index lay.places s.place)) _ (omega (arith, st.at)) ready.loaded.1.0) named.1 refl refl (omega arith)
      (here (record { shows = st.shows; at = omega (arith, named.0, ap (slice_index lay.places) to); link = st.link })))

  copy : (to from : ℕ) → Ready (Byte (bytes.Copy to from)) → Stands → Goes (Byte (bytes.Copy to from))
  copy to from ready st =
      let small : (to < 4096) × (from < 4096) = ready.admitted in
      go (Byte (bytes.Copy to from)) (Load from) _ 1 [] (first _ st ready.loaded.0) small.1 refl refl (omega arith) refl
      (then_step lay.flash (Next (Byte (bytes.Copy to from))) _ (Keep to) _ 0 1 []
      (at_word lay.flash _ (suc (slice_index lay.places s.place)) _ (omega (arith, st.at)) ready.loaded.1.0) small.0 refl refl (omega arith)
      (here (record { shows = ap (λ d. plain (with_cell d to (cell d from))) st.shows; at = omega (arith, ready.next, st.at); link = st.link })))

  copy_level : (to n port b : ℕ) → Ready (Bit (bits.Copy (dest.Latch to n) (source.Level port b) false)) → Stands →
      Goes (Bit (bits.Copy (dest.Latch to n) (source.Level port b) false))
  copy_level to n port b ready st =
      let level = bit_from m.store (source.Level port b) in
      go (Bit (bits.Copy (dest.Latch to n) (source.Level port b) false)) (LoadLevel port b) _ 1 [] (first _ st ready.loaded.0) ready.admitted.1 refl refl
      (omega arith) refl
      (then_step lay.flash (Next (Bit (bits.Copy (dest.Latch to n) (source.Level port b) false))) _ (KeepLatch to n) _ 0 1 []
      (at_word lay.flash _ (suc (slice_index lay.places s.place)) _ (omega (arith, st.at)) ready.loaded.1.0) ready.admitted.0 refl refl (omega arith)
      (here (record {
        shows = ap (λ x. plain (with_bit_at m.store (dest.Latch to n) x)) (lowest level)
            ∙ ap (λ d. plain (with_bit_at d (dest.Latch to n) (bit_from d (source.Level port b)))) st.shows;
        at = omega (arith, ready.next, st.at);
        link = st.link;
      })))

  send : (a : ℕ) → Ready (Device (devices.Send (byte.Cell a))) → Stands → Goes (Device (devices.Send (byte.Cell a)))
  send a ready st =
      let said : (if s.store.reading.tx_busy then [] else cell s.store a ∷ []) ≡ (if m.store.reading.tx_busy then [] else cell m.store a ∷ []) = sym
      (ap (λ d. if d.reading.tx_busy then [] else cell d a ∷ []) st.shows) in
      go (Device (devices.Send (byte.Cell a))) (Load a) _ 1 _ (first _ st ready.loaded.0) ready.admitted refl refl (omega arith) (said
      ∙ sym (append-nil (if m.store.reading.tx_busy then [] else cell m.store a ∷ [])))
      (then_step lay.flash (Next (Device (devices.Send (byte.Cell a)))) _ SendHeld _ 0 1 []
      (at_word lay.flash _ (suc (slice_index lay.places s.place)) _ (omega (arith, st.at)) ready.loaded.1.0) tt refl refl (omega arith)
      (here (record { shows = ap (λ d. plain (sent_on d)) st.shows; at = omega (arith, ready.next, st.at); link = st.link })))

  plainly : (p : BytePrim) → Ready p → asked_by p ≡ ask.Nothing → Stands → Goes p
  plainly (Start n) ready q st = start n ready st
  plainly (CyclePoll l) ready q st = absurd (cc q)
  plainly (AdcPoll l) ready q st = absurd (cc q)
  plainly (Label l) ready q st = inr (refl, refl, record { shows = st.shows; at = omega (arith, ready.next, st.at); link = st.link })
  plainly (Jump l) ready q st =
      let named = ready.label l refl in
      go (Jump l) (Goto (slice_index lay.labels l)) _ 0 [] (first _ st ready.loaded.0) named.1 refl refl (omega arith) refl
      (here (record { shows = st.shows; at = omega (arith, named.0); link = st.link }))
  plainly (Call l) ready q st =
      let named = ready.label l refl in
      go (Call l) (CallTo (slice_index lay.labels l)) _ 0 [] (first _ st ready.loaded.0) named.1 refl refl (omega arith) refl
      (here (record {
        shows = st.shows;
        at = omega (arith, named.0);
        link = λ k h. let e : suc s.place ≡ k = cc h in omega (arith, ready.next, st.at, ap (slice_index lay.places) e);
      }))
  plainly Return ready q st = back s.open_call refl ready.fits.0 ready st
  plainly (JumpWhere test.NoByte l) ready q st = if_byte l ready st (is_some s.store.reading.rx) (ap (λ d. is_some d.reading.rx) st.shows) refl
  plainly (JumpWhere test.LoopsOn l) ready q st = absurd ready.admitted
  plainly (JumpWhere (test.Bit from is) l) ready q st = absurd ready.admitted
  plainly (JumpWhere (test.Flag kind is) l) ready q st = absurd ready.admitted
  plainly (JumpWhere test.Sends l) ready q st = absurd ready.admitted
  plainly (JumpWhere test.Writes l) ready q st = absurd ready.admitted
  plainly (JumpWhere test.NoneWaits l) ready q st = absurd ready.admitted
  plainly (Byte (bytes.Copy to from)) ready q st = copy to from ready st
  plainly (Byte (bytes.Put to x)) ready q st = absurd ready.admitted
  plainly (Byte (bytes.Xor to a b)) ready q st = absurd ready.admitted
  plainly (Device (devices.Send (byte.Cell a))) ready q st = send a ready st
  plainly (Device (devices.Send (byte.Number n))) ready q st = absurd ready.admitted
  plainly (Device (devices.AdcChannel c)) ready q st = absurd ready.admitted
  plainly (Device devices.AdcStart) ready q st = absurd ready.admitted
  plainly (Device (devices.AdcRead to)) ready q st = absurd ready.admitted
  plainly (Device (devices.TakeByte to)) ready q st = absurd ready.admitted
  plainly (Device (devices.PwmDuty from)) ready q st = absurd ready.admitted
  plainly (Bit (bits.Copy (dest.Latch to n) (source.Level port b) false)) ready q st = copy_level to n port b ready st
  plainly (Bit (bits.Copy (dest.Latch to n) (source.Level port b) true)) ready q st = absurd (cc ready.admitted.2)
  plainly (Bit (bits.Copy (dest.Latch to n) (source.Cell a b) inverted)) ready q st = absurd ready.admitted.1
  plainly (Bit (bits.Copy (dest.Latch to n) (source.Latch port b) inverted)) ready q st = absurd ready.admitted.1
  plainly (Bit (bits.Copy (dest.Cell to n) from inverted)) ready q st = absurd ready.admitted.0
  plainly (Bit (bits.Put to x)) ready q st = absurd ready.admitted
  plainly (Bit (bits.PutIf from is to x)) ready q st = absurd ready.admitted
  plainly (Bit (bits.PutOnFlag kind is to x)) ready q st = absurd ready.admitted
  plainly (Word op) ready q st = absurd ready.admitted
  plainly (Compare op) ready q st = absurd ready.admitted
  plainly (Eeprom op) ready q st = absurd ready.admitted
  plainly (Table values l) ready q st = absurd ready.admitted

  abbrev Awaits : BytePrim → TinyState → Type 0
  Awaits p m' = StandsAt lay.places (enter_count p) m' s

  enters : (p : BytePrim) → Ready p → asked_by p ≢ ask.Nothing → Stands → Leads (tiny_step lay.flash) (Awaits p) m (enter_count p) []
  enters (CyclePoll l) ready ne st =
      then_step lay.flash (Awaits (CyclePoll l)) m Rest _ 0 1 [] (first _ st ready.loaded.0) tt refl refl (omega arith)
      (here (record { shows = st.shows; at = omega (arith, st.at); link = st.link }))
  enters (AdcPoll l) ready ne st = here st
  enters (Start n) ready ne st = absurd (ne refl)
  enters (Label l) ready ne st = absurd (ne refl)
  enters (Jump l) ready ne st = absurd (ne refl)
  enters (Call l) ready ne st = absurd (ne refl)
  enters Return ready ne st = absurd (ne refl)
  enters (JumpWhere by l) ready ne st = absurd (ne refl)
  enters (Bit op) ready ne st = absurd (ne refl)
  enters (Byte op) ready ne st = absurd (ne refl)
  enters (Word op) ready ne st = absurd (ne refl)
  enters (Compare op) ready ne st = absurd (ne refl)
  enters (Device op) ready ne st = absurd (ne refl)
  enters (Eeprom op) ready ne st = absurd (ne refl)
  enters (Table values l) ready ne st = absurd (ne refl)

  -- a poll's word where it asks
  cycle_word : (l : ℕ) → Awaits (CyclePoll l) m → Ready (CyclePoll l) → slice_get lay.flash m.at ≡ Some (encoded AskCycle)
  cycle_word l st ready = at_word lay.flash m.at (suc (slice_index lay.places s.place)) _ (omega (arith, st.at)) ready.loaded.1.0

  asks : (p : BytePrim) → Ready p → asked_by p ≢ ask.Nothing → Awaits p m → ask_of (tiny_step lay.flash) m ≡ asked_by p
  asks (CyclePoll l) ready ne st = asks_is lay.flash m AskCycle (cycle_word l st ready) tt
  asks (AdcPoll l) ready ne st = asks_is lay.flash m AskDevice (first _ st ready.loaded.0) tt
  asks (Start n) ready ne st = absurd (ne refl)
  asks (Label l) ready ne st = absurd (ne refl)
  asks (Jump l) ready ne st = absurd (ne refl)
  asks (Call l) ready ne st = absurd (ne refl)
  asks Return ready ne st = absurd (ne refl)
  asks (JumpWhere by l) ready ne st = absurd (ne refl)
  asks (Bit op) ready ne st = absurd (ne refl)
  asks (Byte op) ready ne st = absurd (ne refl)
  asks (Word op) ready ne st = absurd (ne refl)
  asks (Compare op) ready ne st = absurd (ne refl)
  asks (Device op) ready ne st = absurd (ne refl)
  asks (Eeprom op) ready ne st = absurd (ne refl)
  asks (Table values l) ready ne st = absurd (ne refl)

  waits : (p : BytePrim) → Ready p → asked_by p ≢ ask.Nothing → Awaits p m →
      LeadsFrom (tiny_step lay.flash) (Awaits p) (tiny_step lay.flash m false no_reading) 3 []
  waits (CyclePoll l) ready ne st =
      let far : suc (slice_index lay.places s.place) < 4096 = omega (arith, ready.next, ready.inside) in
      from_step lay.flash (Awaits (CyclePoll l)) m AskCycle false no_reading _ 2 3 [] [] (cycle_word l st ready) tt refl (omega arith) refl
      (then_step lay.flash (Awaits (CyclePoll l)) _ (Goto (suc (slice_index lay.places s.place))) _ 0 2 []
      (at_word lay.flash _ (suc (suc (slice_index lay.places s.place))) _ (omega (arith, st.at)) ready.loaded.1.1.0) far refl refl (omega arith)
      (here (record { shows = st.shows; at = omega arith; link = st.link })))
  waits (AdcPoll l) ready ne st =
      let far : slice_index lay.places s.place < 4096 = omega (arith, ready.next, ready.inside) in
      from_step lay.flash (Awaits (AdcPoll l)) m AskDevice false no_reading _ 2 3 [] [] (first _ st ready.loaded.0) tt refl (omega arith) refl
      (then_step lay.flash (Awaits (AdcPoll l)) _ (Goto (slice_index lay.places s.place)) _ 0 2 []
      (at_word lay.flash _ (suc (slice_index lay.places s.place)) _ (omega (arith, st.at)) ready.loaded.1.0) far refl refl (omega arith)
      (here (record { shows = st.shows; at = omega arith; link = st.link })))
  waits (Start n) ready ne st = absurd (ne refl)
  waits (Label l) ready ne st = absurd (ne refl)
  waits (Jump l) ready ne st = absurd (ne refl)
  waits (Call l) ready ne st = absurd (ne refl)
  waits Return ready ne st = absurd (ne refl)
  waits (JumpWhere by l) ready ne st = absurd (ne refl)
  waits (Bit op) ready ne st = absurd (ne refl)
  waits (Byte op) ready ne st = absurd (ne refl)
  waits (Word op) ready ne st = absurd (ne refl)
  waits (Compare op) ready ne st = absurd (ne refl)
  waits (Device op) ready ne st = absurd (ne refl)
  waits (Eeprom op) ready ne st = absurd (ne refl)
  waits (Table values l) ready ne st = absurd (ne refl)

  leaves : (p : BytePrim) (r : PinReading) → Ready p → asked_by p ≢ ask.Nothing → Awaits p m →
      LeadsFrom (tiny_step lay.flash) (λ m'. StandsAt lay.places 0 m' (act lay.code p s true r).next) (tiny_step lay.flash m true r) 2 []
  leaves (CyclePoll l) r ready ne st =
      from_step lay.flash (λ m'. StandsAt lay.places 0 m' (act lay.code (CyclePoll l) s true r).next) m AskCycle true r _ 0 2 [] []
      (cycle_word l st ready) tt refl
      (omega arith) refl
      (here (record { shows = ap (λ (d : Store). plain (record d { reading = r })) st.shows; at = omega (arith, st.at, ready.next); link = st.link }))
  leaves (AdcPoll l) r ready ne st =
      from_step lay.flash (λ m'. StandsAt lay.places 0 m' (act lay.code (AdcPoll l) s true r).next) m AskDevice true r _ 0 2 [] []
      (first _ st ready.loaded.0) tt refl
      (omega arith) refl
      (here (record { shows = ap (λ d. plain (converted d)) st.shows; at = omega (arith, st.at, ready.next); link = st.link }))
  leaves (Start n) r ready ne st = absurd (ne refl)
  leaves (Label l) r ready ne st = absurd (ne refl)
  leaves (Jump l) r ready ne st = absurd (ne refl)
  leaves (Call l) r ready ne st = absurd (ne refl)
  leaves Return r ready ne st = absurd (ne refl)
  leaves (JumpWhere by l) r ready ne st = absurd (ne refl)
  leaves (Bit op) r ready ne st = absurd (ne refl)
  leaves (Byte op) r ready ne st = absurd (ne refl)
  leaves (Word op) r ready ne st = absurd (ne refl)
  leaves (Compare op) r ready ne st = absurd (ne refl)
  leaves (Device op) r ready ne st = absurd (ne refl)
  leaves (Eeprom op) r ready ne st = absurd (ne refl)
  leaves (Table values l) r ready ne st = absurd (ne refl)

sized : (p : BytePrim) (place : ℕ) (labels : List ℕ) → admits p → length (words_of_insns (code_of p place labels)) ≡ word_count p
sized (Start n) place labels h = refl
sized (CyclePoll l) place labels h = refl
sized (AdcPoll l) place labels h = refl
sized (Label l) place labels h = refl
sized (Jump l) place labels h = refl
sized (Call l) place labels h = refl
sized Return place labels h = refl
sized (JumpWhere test.NoByte l) place labels h = refl
sized (JumpWhere test.LoopsOn l) place labels h = absurd h
sized (JumpWhere (test.Bit from is) l) place labels h = absurd h
sized (JumpWhere (test.Flag kind is) l) place labels h = absurd h
sized (JumpWhere test.Sends l) place labels h = absurd h
sized (JumpWhere test.Writes l) place labels h = absurd h
sized (JumpWhere test.NoneWaits l) place labels h = absurd h
sized (Bit (bits.Copy (dest.Latch to n) (source.Level port b) inverted)) place labels h = refl
sized (Bit (bits.Copy (dest.Latch to n) (source.Cell a b) inverted)) place labels h = absurd h.1
sized (Bit (bits.Copy (dest.Latch to n) (source.Latch port b) inverted)) place labels h = absurd h.1
sized (Bit (bits.Copy (dest.Cell to n) from inverted)) place labels h = absurd h.0
sized (Bit (bits.Put to x)) place labels h = absurd h
sized (Bit (bits.PutIf from is to x)) place labels h = absurd h
sized (Bit (bits.PutOnFlag kind is to x)) place labels h = absurd h
sized (Byte (bytes.Copy to from)) place labels h = refl
sized (Byte (bytes.Put to x)) place labels h = absurd h
sized (Byte (bytes.Xor to a b)) place labels h = absurd h
sized (Word op) place labels h = absurd h
sized (Compare op) place labels h = absurd h
sized (Device (devices.Send (byte.Cell a))) place labels h = refl
sized (Device (devices.Send (byte.Number n))) place labels h = absurd h
sized (Device (devices.AdcChannel c)) place labels h = absurd h
sized (Device devices.AdcStart) place labels h = absurd h
sized (Device (devices.AdcRead to)) place labels h = absurd h
sized (Device (devices.TakeByte to)) place labels h = absurd h
sized (Device (devices.PwmDuty from)) place labels h = absurd h
sized (Eeprom op) place labels h = absurd h
sized (Table values l) place labels h = absurd h

worded : (p : BytePrim) → has_words p ≡ true → 0 < word_count p
worded (Start n) h = omega arith
worded (CyclePoll l) h = omega arith
worded (AdcPoll l) h = omega arith
worded (Label l) h = absurd (cc h)
worded (Jump l) h = omega arith
worded (Call l) h = omega arith
worded Return h = omega arith
worded (JumpWhere by l) h = omega arith
worded (Bit op) h = omega arith
worded (Byte op) h = omega arith
worded (Word op) h = omega arith
worded (Compare op) h = omega arith
worded (Device op) h = omega arith
worded (Eeprom op) h = omega arith
worded (Table values l) h = omega arith

inside : (p : BytePrim) → asked_by p ≢ ask.Nothing → enter_count p + 2 ≤ cycle_count p
inside (Start n) ne = absurd (ne refl)
inside (CyclePoll l) ne = omega arith
inside (AdcPoll l) ne = omega arith
inside (Label l) ne = absurd (ne refl)
inside (Jump l) ne = absurd (ne refl)
inside (Call l) ne = absurd (ne refl)
inside Return ne = absurd (ne refl)
inside (JumpWhere by l) ne = absurd (ne refl)
inside (Bit op) ne = absurd (ne refl)
inside (Byte op) ne = absurd (ne refl)
inside (Word op) ne = absurd (ne refl)
inside (Compare op) ne = absurd (ne refl)
inside (Device op) ne = absurd (ne refl)
inside (Eeprom op) ne = absurd (ne refl)
inside (Table values l) ne = absurd (ne refl)

pub tiny_law : MachineLaw tiny_target
tiny_law = record {
  plain = λ lay m s p ready q low st. plainly lay m s p ready q st;
  enters = λ lay m s p ready ne st. enters lay m s p ready ne st;
  asks = λ lay m s p ready ne st. asks lay m s p ready ne st;
  waits = λ lay m s p ready ne st. waits lay m s p ready ne st;
  leaves = λ lay m s p r legal ready ne low st. leaves lay m s p r ready ne st;
  sized = λ p place labels h. sized p place labels h;
  worded = λ p admitted h. worded p h;
  within = inside;
  shown = λ places p m s st. st.shows;
}
