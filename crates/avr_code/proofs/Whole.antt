-- The law of the primitives that are admitted.
use Rattle.std.proofs.Common.{◌≡◌, ◌≢◌, ℕ, suc, Bool, ◌+◌, ◌<◌, ◌≤◌, ◌⊎◌, inl, inr, true, false, List, [], ◌∷◌, ◌++◌, length, refl, sym, ap, ◌∙◌, subst, arith, lit<, lit≤, length-append}
use Rattle.std.specs.Prelude.{◌==◌, ◌&&◌, not, nat_lt, if◌then◌else◌, slice_index}
use Rattle.chip_tables.specs.Outside.{no_reading}
use Rattle.runs.specs.declared.ask.Ask.TheVariants as ask
use Rattle.runs.specs.Chip.{steps_over}
use Rattle.runs.specs.Run.{ask_of}
use Rattle.byte_code.specs.declared.prim.BytePrim.{BytePrim}
use Rattle.byte_code.specs.declared.prim.BytePrim.TheVariants.{Start, CyclePoll, AdcPoll, Label, Jump, Call, Return, JumpWhere, Bit, Byte, Word, Compare, Device, Eeprom, Table}
use Rattle.byte_code.specs.declared.prim.Test.TheVariants as test
use Rattle.byte_code.specs.declared.prim.BitOp.{BitOp}
use Rattle.byte_code.specs.declared.prim.BitOp.TheVariants as ops
use Rattle.byte_code.specs.declared.prim.BitDest.TheVariants as dest
use Rattle.byte_code.specs.declared.prim.BitSource.{BitSource}
use Rattle.byte_code.specs.declared.prim.BitSource.TheVariants as bit
use Rattle.byte_code.specs.declared.prim.ByteOp.TheVariants as bytes
use Rattle.byte_code.specs.declared.prim.WordOp.{WordOp}
use Rattle.byte_code.specs.declared.prim.WordOp.TheVariants as words
use Rattle.byte_code.specs.declared.prim.WordSource.TheVariants as source
use Rattle.byte_code.specs.declared.prim.CompareOp.TheVariants as compares
use Rattle.byte_code.specs.declared.state.Bytes.{Bytes}
use Rattle.byte_code.specs.Machine.{act, asked_by}
use Rattle.byte_code.specs.Store.{in_byte}
use Rattle.avr_mach.specs.declared.insn.AvrInsn.{AvrInsn}
use Rattle.avr_mach.specs.declared.state.AvrState.{AvrState}
use Rattle.avr_mach.specs.Step.{avr_step}
use Rattle.avr_mach.specs.Words.{size_of}
use Rattle.avr_devices.specs.Part.{mega16}
use Rattle.chip_tables.specs.declared.outside.PinReading.{PinReading}
use Rattle.target_core.specs.Law.{MachineLaw, IsReady, Layout, LeadsFrom, here, has_words}
use Rattle.avr_code.specs.Code.{Board, Piece, insn_of, words_by, words_of, size_in, is_wire, by_cell, bit_code, byte_set, fetch_code, held_code, put_wire, put_wire_if, copy_wire, copy_byte, code_of, word_count, cycle_count}
use Rattle.avr_code.specs.Stands.{StandsAt}
use Rattle.avr_code.specs.Target.{Admits, AdmitsBit, AdmitsWord, leave_count, avr_target}
use Rattle.avr_code.proofs.Bits as bits
use Rattle.avr_code.proofs.Control as control
use Rattle.avr_code.proofs.Moves.{IsFull, set_full, moved_full, move_full}
use Rattle.avr_code.proofs.Moves as moves
use Rattle.avr_code.proofs.Numbers.{less_full, equal_full}
use Rattle.avr_code.proofs.Numbers as numbers
use Rattle.avr_code.proofs.OwnRegisters.{negate_full, xor_full}
use Rattle.avr_code.proofs.OwnRegisters as own
use Rattle.avr_code.proofs.Polling as polling
use Rattle.avr_code.proofs.Primitives as law
use Rattle.avr_code.proofs.Products as products
use Rattle.avr_code.proofs.Starts as starts
use Rattle.avr_code.proofs.Tables as tables
use Rattle.avr_code.proofs.Walk.{sizes}

word_length : (i : AvrInsn) → (size_of i ≡ 1) ⊎ (size_of i ≡ 2) → length (words_by (size_of i) i) ≡ size_of i
word_length i (inl e) = ap (λ n. length (words_by n i)) e ∙ sym e
word_length i (inr e) = ap (λ n. length (words_by n i)) e ∙ sym e

code_length : (ps : List Piece) → length (words_of ps) ≡ size_in ps
code_length [] = refl
code_length (p ∷ ps) =
    length-append (words_by (size_of (insn_of p)) (insn_of p)) (words_of ps)
    ∙ ap (λ n. n + length (words_of ps)) (word_length (insn_of p) (sizes (insn_of p)))
    ∙ ap (λ n. size_of (insn_of p) + n) (code_length ps)

-- no primitive's words depend on the places of the labels
same_size : (board : Board) (p : BytePrim) (labels : List ℕ) → Admits board p → size_in (code_of board p labels) ≡ word_count board p
same_size board (Label l) labels h = refl
same_size board (Jump l) labels h = refl
same_size board (JumpWhere test.LoopsOn l) labels h = refl
same_size board (JumpWhere (test.Flag k true) l) labels h = refl
same_size board (JumpWhere (test.Flag k false) l) labels h = refl
same_size board (JumpWhere (test.Bit from is) l) labels h = bits.jump_sizes from is (slice_index labels l) (slice_index [] l)
same_size board (JumpWhere test.NoByte l) labels h = absurd h
same_size board (JumpWhere test.Sends l) labels h = absurd h
same_size board (JumpWhere test.Writes l) labels h = absurd h
same_size board (JumpWhere test.NoneWaits l) labels h = absurd h
same_size board (Byte op) labels h = refl
same_size board (Word op) labels h = refl
same_size board (Call l) labels h = refl
same_size board Return labels h = refl
same_size board (CyclePoll l) labels h = refl
same_size board (Compare op) labels h = refl
same_size board (Start n) labels h = refl
same_size board (AdcPoll l) labels h = absurd h
same_size board (Bit op) labels h = refl
same_size board (Device op) labels h = absurd h
same_size board (Eeprom op) labels h = absurd h
same_size board (Table values l) labels h = refl

some_words : (ps : List Piece) → IsFull ps → 0 < size_in ps
some_words [] full = absurd full
some_words (p ∷ ps) full = by (size_of (insn_of p)) (size_in ps) (sizes (insn_of p))
  where
    by : (n k : ℕ) → (n ≡ 1) ⊎ (n ≡ 2) → 0 < n + k
    by n k (inl e) = omega (arith, e)
    by n k (inr e) = omega (arith, e)

word_words : (board : Board) (op : WordOp) → AdmitsWord op → 0 < word_count board (Word op)
word_words board (words.Move to (source.Cells a)) h = some_words (code_of board (Word (words.Move to (source.Cells a))) [])
    (move_full to a h.0.0 h.0.1 h.1.0 h.1.1)
word_words board (words.Move to (source.Number low high)) h = some_words (code_of board (Word (words.Move to (source.Number low high))) [])
    (set_full to low (byte_set (to + 1) high []) h.0.0)
word_words board (words.Increment to) h = some_words (code_of board (Word (words.Increment to)) []) tt
word_words board (words.Decrement to) h = some_words (code_of board (Word (words.Decrement to)) []) tt
word_words board (words.Add to a b) h = some_words (code_of board (Word (words.Add to a b)) []) tt
word_words board (words.Subtract to (source.Cells a) b) h = some_words (code_of board (Word (words.Subtract to (source.Cells a) b)) []) tt
word_words board (words.Subtract to (source.Number low high) b) h = some_words (code_of board (Word (words.Subtract to (source.Number low high) b)) []) tt
word_words board (words.NegateIf to sign) h = some_words (code_of board (Word (words.NegateIf to sign)) []) (negate_full to sign)
word_words board words.MultiplyStep h = lit< tt
word_words board words.DivideStep h = lit< tt

by_full : (a : ℕ) (power wire byte : List Piece) → IsFull power → IsFull wire → IsFull byte → IsFull (by_cell a power wire byte)
by_full a power wire byte p w b = by (a == 20) (is_wire a)
  where
    by : (i j : Bool) → IsFull (if i then power else if j then wire else byte)
    by true j = p
    by false true = w
    by false false = b

wire_full : (a : ℕ) (power wire byte : List Piece) → IsFull power → IsFull wire → is_wire a ≡ true → IsFull (by_cell a power wire byte)
wire_full a power wire byte p w e = subst (λ j. IsFull (if a == 20 then power else if j then wire else byte)) (sym e) (by (a == 20))
  where
    by : (i : Bool) → IsFull (if i then power else wire)
    by true = p
    by false = w

full_behind : (l ps : List Piece) → IsFull ps → IsFull (l ++ ps)
full_behind [] ps full = full
full_behind (x ∷ l) ps full = tt

either_full : (t : Bool) (a b : List Piece) → IsFull a → IsFull b → IsFull (if t then a else b)
either_full true a b f g = f
either_full false a b f g = g

put_wire_full : (a : ℕ) (x : Bool) → IsFull (put_wire a x)
put_wire_full a true = tt
put_wire_full a false = tt

put_wire_if_full : (from : BitSource) (is : Bool) (a : ℕ) (x : Bool) → IsFull (put_wire_if from is a x)
put_wire_if_full from is a true = tt
put_wire_if_full from is a false = tt

copy_wire_full : (a : ℕ) (from : BitSource) (inverted : Bool) → IsFull (copy_wire a from inverted)
copy_wire_full a (bit.Cell c b) inverted = either_full (is_wire c && not inverted) _ _ tt (full_behind (fetch_code (bit.Cell c b)) _ tt)
copy_wire_full a (bit.Level port b) inverted = tt
copy_wire_full a (bit.Latch port b) inverted = tt

bit_full : (board : Board) (op : BitOp) → AdmitsBit board op → IsFull (bit_code op)
bit_full board (ops.Put (dest.Cell a b) x) h = by_full a _ _ _ tt (put_wire_full a x) (either_full (nat_lt a 32) _ _ tt tt)
bit_full board (ops.Put (dest.Latch port b) x) h = tt
bit_full board (ops.Copy (dest.Cell a b) from inverted) h =
    either_full (is_wire a) (copy_wire a from inverted) (copy_byte a (in_byte b) from inverted) (copy_wire_full a from inverted) (full_behind (fetch_code from) _ tt)
bit_full board (ops.Copy (dest.Latch port b) from inverted) h = full_behind (held_code from) _ tt
bit_full board (ops.PutIf from is (dest.Cell a b) x) h =
    full_behind (fetch_code from) _ (by_full a _ _ _ tt (put_wire_if_full from is a x) (either_full (nat_lt a 32) _ _ tt tt))
bit_full board (ops.PutIf from is (dest.Latch port b) x) h = full_behind (fetch_code from) _ tt
bit_full board (ops.PutOnFlag k is (dest.Cell a b) x) h = wire_full a _ _ _ tt tt h.0
bit_full board (ops.PutOnFlag k is (dest.Latch port b) x) h = absurd h

worded : (board : Board) (p : BytePrim) → Admits board p → has_words p ≡ true → 0 < word_count board p
worded board (Label l) h e = absurd (cc e)
worded board (Jump l) h e = lit< tt
worded board (JumpWhere test.LoopsOn l) h e = lit< tt
worded board (JumpWhere (test.Flag k true) l) h e = lit< tt
worded board (JumpWhere (test.Flag k false) l) h e = lit< tt
worded board (JumpWhere (test.Bit from is) l) h e = some_words (code_of board (JumpWhere (test.Bit from is) l) []) (full_behind (fetch_code from) _ tt)
worded board (JumpWhere test.NoByte l) h e = absurd h
worded board (JumpWhere test.Sends l) h e = absurd h
worded board (JumpWhere test.Writes l) h e = absurd h
worded board (JumpWhere test.NoneWaits l) h e = absurd h
worded board (Byte (bytes.Put to x)) h e = some_words (code_of board (Byte (bytes.Put to x)) []) (set_full to x [] h.0)
worded board (Byte (bytes.Copy to from)) h e = some_words (code_of board (Byte (bytes.Copy to from)) []) (moved_full to from [] h.0 h.1)
worded board (Byte (bytes.Xor to a b)) h e = some_words (code_of board (Byte (bytes.Xor to a b)) []) (xor_full to a b)
worded board (Word op) h e = word_words board op h
worded board (Call l) h e = lit< tt
worded board Return h e = lit< tt
worded board (CyclePoll l) h e = lit< tt
worded board (Compare (compares.Less a b)) h e = some_words (code_of board (Compare (compares.Less a b)) []) (less_full a b)
worded board (Compare (compares.Equal a b)) h e = some_words (code_of board (Compare (compares.Equal a b)) []) (equal_full a b)
worded board (Compare (compares.Below a n)) h e = some_words (code_of board (Compare (compares.Below a n)) []) tt
worded board (Start n) h e = some_words (code_of board (Start n) []) tt
worded board (AdcPoll l) h e = absurd h
worded board (Bit op) h e = some_words (bit_code op) (bit_full board op h)
worded board (Device op) h e = absurd h
worded board (Eeprom op) h e = absurd h
worded board (Table [] l) h e = h.0
worded board (Table (x ∷ xs) l) h e = some_words (code_of board (Table (x ∷ xs) l) []) tt

none : 0 < 0 → ⊥
none low = omega (arith, low)

inside : (board : Board) (p : BytePrim) → asked_by p ≢ ask.Nothing → 0 + leave_count p ≤ cycle_count board p
inside board (CyclePoll l) ne = lit≤ tt
inside board (AdcPoll l) ne = lit≤ tt
inside board (Start n) ne = absurd (ne refl)
inside board (Label l) ne = absurd (ne refl)
inside board (Jump l) ne = absurd (ne refl)
inside board (Call l) ne = absurd (ne refl)
inside board Return ne = absurd (ne refl)
inside board (JumpWhere by l) ne = absurd (ne refl)
inside board (Bit op) ne = absurd (ne refl)
inside board (Byte op) ne = absurd (ne refl)
inside board (Word op) ne = absurd (ne refl)
inside board (Compare op) ne = absurd (ne refl)
inside board (Device op) ne = absurd (ne refl)
inside board (Eeprom op) ne = absurd (ne refl)
inside board (Table values l) ne = absurd (ne refl)

-- of those that are admitted, the cycle poll alone asks
poll_of : (board : Board) (p : BytePrim) → Admits board p → asked_by p ≢ ask.Nothing → (l : ℕ) × (CyclePoll l ≡ p)
poll_of board (CyclePoll l) h ne = (l, refl)
poll_of board (AdcPoll l) h ne = absurd h
poll_of board (Start n) h ne = absurd (ne refl)
poll_of board (Label l) h ne = absurd (ne refl)
poll_of board (Jump l) h ne = absurd (ne refl)
poll_of board (Call l) h ne = absurd (ne refl)
poll_of board Return h ne = absurd (ne refl)
poll_of board (JumpWhere by l) h ne = absurd (ne refl)
poll_of board (Bit op) h ne = absurd (ne refl)
poll_of board (Byte op) h ne = absurd (ne refl)
poll_of board (Word op) h ne = absurd (ne refl)
poll_of board (Compare op) h ne = absurd (ne refl)
poll_of board (Device op) h ne = absurd (ne refl)
poll_of board (Eeprom op) h ne = absurd (ne refl)
poll_of board (Table values l) h ne = absurd (ne refl)

module _ (board : Board) (lay : Layout) (m : AvrState) (s : Bytes) (st : StandsAt board lay.places m s) where
  abbrev Ready : BytePrim → Type 0
  Ready p = IsReady (avr_target board) lay s p

  word_goes : (op : WordOp) → Ready (Word op) → slice_index lay.places (suc s.place) < 8192 → law.Goes board lay m s (Word op)
  word_goes (words.Move to (source.Cells a)) ready low = moves.move_cells board lay m s to a ready st
  word_goes (words.Move to (source.Number low high)) ready below = moves.move_number board lay m s to low high ready st
  word_goes (words.Increment to) ready low = law.increment board lay m s to ready st
  word_goes (words.Decrement to) ready low = law.decrement board lay m s to ready st
  word_goes (words.Add to a (source.Cells b)) ready low = law.add_cells board lay m s to a b ready st
  word_goes (words.Add to a (source.Number low high)) ready below = numbers.add_number board lay m s st to a low high ready
  word_goes (words.Subtract to (source.Cells a) (source.Cells b)) ready low = law.subtract_cells_cells board lay m s to a b ready st
  word_goes (words.Subtract to (source.Cells a) (source.Number low high)) ready below = law.subtract_cells_number board lay m s to a low high ready st
  word_goes (words.Subtract to (source.Number low high) (source.Cells b)) ready below = law.subtract_number_cells board lay m s to low high b ready st
  word_goes (words.Subtract to (source.Number low high) (source.Number low2 high2)) ready below =
      law.subtract_number_number board lay m s to low high low2 high2 ready st
  word_goes (words.NegateIf to sign) ready low = own.negate_if board lay m s to sign ready low st
  word_goes words.MultiplyStep ready low = products.multiply_step board lay m s ready st
  word_goes words.DivideStep ready low = products.divide_step board lay m s ready low st

  plainly : (p : BytePrim) → Ready p → asked_by p ≡ ask.Nothing → slice_index lay.places (act lay.code p s false no_reading).next.place < 8192 →
      law.Goes board lay
      m s p
  plainly (Label l) ready q low = law.label board lay m s l ready st
  plainly (Jump l) ready q low = law.jump board lay m s l ready st
  plainly (JumpWhere test.LoopsOn l) ready q low = law.loops_on board lay m s l ready low st
  plainly (JumpWhere (test.Flag k is) l) ready q low = law.flag_jump board lay m s k is l ready low st
  plainly (JumpWhere (test.Bit from is) l) ready q low = bits.jump_bit board lay m s from is l ready st
  plainly (JumpWhere test.NoByte l) ready q low = absurd ready.admitted
  plainly (JumpWhere test.Sends l) ready q low = absurd ready.admitted
  plainly (JumpWhere test.Writes l) ready q low = absurd ready.admitted
  plainly (JumpWhere test.NoneWaits l) ready q low = absurd ready.admitted
  plainly (Byte (bytes.Put to x)) ready q low = moves.put_byte board lay m s to x ready st
  plainly (Byte (bytes.Copy to from)) ready q low = moves.copy_byte board lay m s to from ready st
  plainly (Byte (bytes.Xor to a b)) ready q low = own.exclusive_or board lay m s to a b ready st
  plainly (Word op) ready q low = word_goes op ready low
  plainly (Call l) ready q low = control.call board lay m s l ready st
  plainly Return ready q low = control.return board lay m s ready st
  plainly (CyclePoll l) ready q low = absurd (cc q)
  plainly (Compare (compares.Less a (source.Cells b))) ready q low = numbers.less_cells board lay m s st a b ready
  plainly (Compare (compares.Less a (source.Number low high))) ready q inside = numbers.less_number board lay m s st a low high ready
  plainly (Compare (compares.Equal a (source.Cells b))) ready q low = numbers.equal_cells board lay m s st a b ready
  plainly (Compare (compares.Equal a (source.Number low high))) ready q inside = numbers.equal_number board lay m s st a low high ready
  plainly (Compare (compares.Below a n)) ready q low = law.below board lay m s a n ready st
  plainly (Start n) ready q low = starts.start board lay m s n ready st
  plainly (AdcPoll l) ready q low = absurd ready.admitted
  plainly (Bit op) ready q low = bits.bit_goes board lay m s st low op ready
  plainly (Device op) ready q low = absurd ready.admitted
  plainly (Eeprom op) ready q low = absurd ready.admitted
  plainly (Table [] l) ready q low = absurd (none ready.admitted.0)
  plainly (Table (x ∷ xs) l) ready q low = tables.table board lay m s x xs l ready low st

  asks : (p : BytePrim) → Ready p → asked_by p ≢ ask.Nothing → ask_of (steps_over (avr_step mega16) lay.flash) m ≡ asked_by p
  asks p ready ne =
      let q = poll_of board p ready.admitted ne in
      subst (λ p. Ready p → ask_of (steps_over (avr_step mega16) lay.flash) m ≡ asked_by p) q.1 (λ ready. polling.asks board lay m s q.0 ready st) ready

  waits : (p : BytePrim) → Ready p → asked_by p ≢ ask.Nothing →
      LeadsFrom (steps_over (avr_step mega16) lay.flash) (λ m'. StandsAt board lay.places m' s) (steps_over (avr_step mega16) lay.flash m false no_reading) 4 []
  waits p ready ne =
      let q = poll_of board p ready.admitted ne in
      polling.waits board lay m s q.0 (subst Ready (sym q.1) ready) st

  leaves : (p : BytePrim) (r : PinReading) → Ready p → asked_by p ≢ ask.Nothing →
      LeadsFrom (steps_over (avr_step mega16) lay.flash) (λ m'. StandsAt board lay.places m' (act lay.code p s true r).next)
      (steps_over (avr_step mega16) lay.flash m true r) (leave_count p) []
  leaves p r ready ne =
      let q = poll_of board p ready.admitted ne in
      subst (λ p. Ready p → LeadsFrom (steps_over (avr_step mega16) lay.flash) (λ m'. StandsAt board lay.places m' (act lay.code p s true r).next)
      (steps_over (avr_step mega16) lay.flash m true r) (leave_count p) []) q.1 (λ ready. polling.leaves board lay m s q.0 ready st r) ready

pub avr_law : (board : Board) → MachineLaw (avr_target board)
avr_law board = record {
  plain = λ lay m s p ready q low st. plainly board lay m s st p ready q low;
  enters = λ lay m s p ready ne st. here st;
  asks = λ lay m s p ready ne st. asks board lay m s st p ready ne;
  waits = λ lay m s p ready ne st. waits board lay m s st p ready ne;
  leaves = λ lay m s p r legal ready ne low st. leaves board lay m s st p r ready ne;
  sized = λ p place labels h. code_length (code_of board p labels) ∙ same_size board p labels h;
  worded = worded board;
  within = inside board;
  shown = λ places p m s st. record { shows = st.shows; started = st.started };
}
