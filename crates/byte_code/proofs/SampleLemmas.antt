-- The two programs written by hand, by ways.
use Rattle.std.proofs.Common.{◌≡◌, ◌≢◌, ℕ, zero, suc, ◌+◌, ◌*◌, ◌/◌, ◌%◌, ◌<◌, ◌≤◌, List, [], ◌∷◌, length, Some, None, Bool, true, false, refl, sym, ap, subst, ◌∙◌, arith, length-set, ◌^◌, slice_get, slice_index, slice_set, eq-eqb, bit_or, bit_and}
use Rattle.std.specs.Prelude.{◌==◌}
use Rattle.std.proofs.lemmas.List.{get_or-set_same, get_or-set_other}
use Rattle.std.proofs.lemmas.Nat.Bits.{bit_at_or, bit_at_and}
use Rattle.chip_tables.specs.Bits.{bit_of}
use Rattle.chip_tables.specs.declared.memory.TheConstants.{DATA_ADDRESSES}
use Rattle.chip_tables.specs.declared.outside.PinReading.{PinReading}
use Rattle.byte_code.specs.declared.prim.BytePrim.TheVariants.{Start, CyclePoll, Label, Jump, Call, Return, Bit, Word}
use Rattle.byte_code.specs.declared.prim.BitSource.TheVariants as source
use Rattle.byte_code.specs.declared.prim.BitDest.TheVariants as dest
use Rattle.byte_code.specs.declared.prim.BitOp.TheVariants as bits
use Rattle.byte_code.specs.declared.prim.WordOp.TheVariants as words
use Rattle.byte_code.specs.declared.prim.Paced.{Paced}
use Rattle.byte_code.specs.declared.prim.Shape.TheVariants.{AtPoll}
use Rattle.byte_code.specs.declared.store.Store.{Store}
use Rattle.byte_code.specs.declared.state.Bytes.{Bytes}
use Rattle.byte_code.specs.Store.{with_bit, word_at, with_word}
use Rattle.byte_code.specs.Table.{effect, shape_of}
use Rattle.byte_code.specs.Machine.{polled}
use Rattle.byte_code.specs.Counts.{allowed, KeepsCounts}
use Rattle.byte_code.specs.Samples.{paced, copier, by_twos, IsFresh, AtPolls, IsCopied, IsByTwos}
use Rattle.byte_code.proofs.Times.{times}
use Rattle.byte_code.proofs.Ways.{there, acts, Segment, Polls, keeps_counts, at_each}

-- a fact at each place of a list
abbrev AllAt : {X : Type 0} → (ℕ → X → Type 0) → List X → Type 0
AllAt P [] = Unit {0}
AllAt P (x ∷ xs) = P 0 x × AllAt (λ i. P (suc i)) xs

all_at : {X : Type 0} (P : ℕ → X → Type 0) (xs : List X) → AllAt P xs → (i : ℕ) (x : X) → slice_get xs i ≡ Some x → P i x
all_at P [] a i x e = absurd (cc)
all_at P (y ∷ xs) a zero x e = let f : y ≡ x = cc in subst (P 0) f a.0
all_at P (y ∷ xs) a (suc i) x e = all_at (λ i. P (suc i)) xs a.1 i x e

here_is : (code : List Paced) (pc place : ℕ) (p : Paced) → pc ≡ place → slice_get code place ≡ Some p → slice_get code pc ≡ Some p
here_is code pc place p e h = ap (slice_get code) e ∙ h

counted : (code : List Paced) (k : ℕ) (L M : List ℕ) → L ≡ M → AllAt (λ i p. times i M ≤ allowed k p) code → (i : ℕ) (p : Paced) → slice_get code i ≡ Some p →
    times i L ≤ allowed k p
counted code k L M e all i p h = subst (λ l. times i l ≤ allowed k p) (sym e) (all_at (λ j x. times j M ≤ allowed k x) code all i p h)

-- the bit that was put is there
put_1 : (n : ℕ) (x : Bool) → bit_of (with_bit n 1 x) 1 ≡ x
put_1 n true = eq-eqb (bit_or n 2 / 2 ^ 1 % 2) 1 (bit_at_or n 2 1 ∙ omega arith)
put_1 n false = let e : bit_and n 253 / 2 ^ 1 % 2 ≡ 0 = bit_at_and n 253 1 ∙ omega arith in ap (λ m. m == 1) e

next_apart : (a : ℕ) → a ≢ a + 1
next_apart a e = omega (arith, e)

above : (w k : ℕ) → w < k → k ≢ w
above w k h e = omega (arith, h, e)

-- 1 more and 1 more
two_more : (w o v first k : ℕ) → o ≡ (w + 1) % 65536 → v ≡ (o + 1) % 65536 → w % 65536 ≡ (first + 2 * k) % 65536 → v % 65536 ≡ (first + 2 * suc k) % 65536
two_more w o v first k e f g = omega (arith, e, f, g)

joined : (n x y : ℕ) → n < 65536 → x ≡ n % 256 → y ≡ n / 256 % 256 → x + y * 256 ≡ n
joined n x y small e f = omega (arith, small, e, f)

-- the word that was put is there
put_word : (d : Store) (a n : ℕ) → a + 1 < length d.cells → n < 65536 → word_at (with_word d a n) a ≡ n
put_word d a n h small =
    let low = slice_set d.cells a (n % 256) in
    let long : a + 1 < length low = omega (arith, h, length-set d.cells a (n % 256)) in
    let first : slice_index (slice_set low (a + 1) (n / 256 % 256)) a ≡ n % 256 =
    get_or-set_other low (a + 1) a (n / 256 % 256) 0 (next_apart a) ∙ get_or-set_same d.cells a (n % 256) 0 (omega (arith, h)) in
    let second : slice_index (slice_set low (a + 1) (n / 256 % 256)) (a + 1) ≡ n / 256 % 256 = get_or-set_same low (a + 1) (n / 256 % 256) 0 long in
    joined n _ _ small first second

is_poll : (code : List Paced) (pc : ℕ) (p : Paced) → slice_get code 2 ≡ Some (paced (CyclePoll 0) 1 1) → pc ≡ 2 → slice_get code pc ≡ Some p →
    paced (CyclePoll 0) 1 1 ≡ p
is_poll code pc p has e at = let f : slice_get code 2 ≡ Some p = ap (slice_get code) (sym e) ∙ at in cc (has, f)

-- the copier at its poll, after k readings
record Copied (readings : List PinReading) (k : ℕ) (s : Bytes) : Type 0 where
  at : s.place ≡ 2
  closed : s.open_call ≡ None
  converting : s.store.converting ≡ false
  latches : length s.store.latches ≡ 5
  copied : (j : ℕ) (r : PinReading) → k ≡ suc j → slice_get readings j ≡ Some r → bit_of (slice_index s.store.latches 1) 1 ≡ bit_of (slice_index r.levels 1) 0

module _ (readings : List PinReading) where
  copier_polls : (k : ℕ) (s : Bytes) → Copied readings k s → Polls copier readings (Copied readings) (λ k. []) s
  copier_polls k s h = record { p = paced (CyclePoll 0) 1 1; at = here_is copier s.place 2 _ h.at refl; polls = refl; fits = (tt, tt) }

  copier_boot : (s : Bytes) → IsFresh s → Segment copier readings (Copied readings) (λ k. []) 0 s
  copier_boot s fresh = record {
    begun = _;
    way = acts (paced (Start 0) 1 0) (here_is copier s.place 0 _ fresh.place refl) refl (tt, tt)
        (acts (paced (Label 0) 1 1) (here_is copier _ 1 _ (ap suc fresh.place) refl) refl (tt, tt)
        (there (record {
          at = ap (λ n. suc (suc n)) fresh.place;
          closed = fresh.open_call;
          converting = fresh.converting;
          latches = fresh.latches;
          copied = λ j r e. absurd (cc e);
        })));
    counts = counted copier 0 _ (0 ∷ 1 ∷ 2 ∷ []) (ap (λ n. n ∷ suc n ∷ suc (suc n) ∷ []) fresh.place)
        (omega arith, (omega arith, (omega arith, (omega arith, (omega arith, tt)))));
  }

  copier_turn_at : (k : ℕ) (s : Bytes) (r : PinReading) → Copied readings k s → slice_get readings k ≡ Some r →
      Segment copier readings (Copied readings) (λ k. []) (suc k) (polled s (effect (CyclePoll 0) s.store) true r).next
  copier_turn_at k s r h read =
      let long : 1 < length s.store.latches = omega (arith, h.latches) in
      let put = with_bit (slice_index s.store.latches 1) 1 (bit_of (slice_index r.levels 1) 0) in
      record {
        begun = _;
        way = acts (paced (Bit (bits.Copy (dest.Latch 1 1) (source.Level 1 0) false)) 0 1) (here_is copier _ 3 _ (ap suc h.at) refl) refl (tt, h.converting)
            (acts (paced (Jump 0) 0 1) (here_is copier _ 4 _ (ap (λ n. suc (suc n)) h.at) refl) refl (tt, tt)
            (acts (paced (Label 0) 1 1) refl refl (tt, tt)
            (there (record {
              at = refl;
              closed = h.closed;
              converting = h.converting;
              latches = length-set s.store.latches 1 put ∙ h.latches;
              copied = λ j q e g.
                  let same : k ≡ j = cc e in
                  let is : r ≡ q = cc (read, g, ap (slice_get readings) same) in
                  ap (λ n. bit_of n 1) (get_or-set_same s.store.latches 1 put 0 long) ∙ put_1 (slice_index s.store.latches 1)
                  (bit_of (slice_index r.levels 1) 0) ∙ ap (λ x. bit_of (slice_index x.levels 1) 0) is;
            }))));
        counts = counted copier (suc k) _ (3 ∷ 4 ∷ 1 ∷ 2 ∷ []) (ap (λ n. suc n ∷ suc (suc n) ∷ 1 ∷ 2 ∷ []) h.at)
            (omega arith, (omega arith, (omega arith, (omega arith, (omega arith, tt)))));
      }

  copier_turn : (k : ℕ) (s : Bytes) (r : PinReading) → Copied readings k s → slice_get readings k ≡ Some r → (p : Paced) → slice_get copier s.place ≡ Some p →
      Segment copier readings (Copied readings) (λ k. []) (suc k) (polled s (effect p.prim s.store) true r).next
  copier_turn k s r h read p at = subst (λ q. Segment copier readings (Copied readings) (λ k. []) (suc k) (polled s (effect q.prim s.store) true r).next)
      (is_poll copier s.place p refl h.at at) (copier_turn_at k s r h read)

  pub copier_keeps : (s : Bytes) (answers : List Bool) → IsFresh s → KeepsCounts copier s readings answers
  copier_keeps s answers fresh =
      keeps_counts copier readings (Copied readings) (λ k. []) copier_polls copier_turn s answers (copier_boot s fresh)
      (all_at (λ i p. shape_of p.prim ≡ AtPoll → 1 ≤ p.turns) copier (
        (λ e. absurd (cc e)),
        ((λ e. omega arith), ((λ e. omega arith), ((λ e. omega arith), ((λ e. omega arith), tt)))),
      ))

  pub copier_copies : (s : Bytes) (answers : List Bool) → IsFresh s → AtPolls copier s readings answers (IsCopied readings)
  copier_copies s answers fresh j b e at k r taken read =
      let held = at_each copier readings (Copied readings) (λ k. []) copier_polls copier_turn s answers (copier_boot s fresh) j b (paced (CyclePoll 0) 1 1) e
      (here_is copier b.state.bytes.place 2 _ at refl) refl in
      held.0.copied k r taken read

-- the counter at its poll, after k readings, where its word was `first`
record Counts (first : ℕ) (k : ℕ) (s : Bytes) : Type 0 where
  at : s.place ≡ 2
  closed : s.open_call ≡ None
  cells : length s.store.cells ≡ DATA_ADDRESSES
  word : word_at s.store 0x60 % 65536 ≡ (first + 2 * k) % 65536

module _ (first : ℕ) (readings : List PinReading) where
  twos_polls : (k : ℕ) (s : Bytes) → Counts first k s → Polls by_twos readings (Counts first) (λ k. []) s
  twos_polls k s h = record { p = paced (CyclePoll 0) 1 1; at = here_is by_twos s.place 2 _ h.at refl; polls = refl; fits = (tt, tt) }

  twos_boot : (s : Bytes) → IsFresh s → word_at s.store 0x60 ≡ first → Segment by_twos readings (Counts first) (λ k. []) 0 s
  twos_boot s fresh is =
      let waits = s.store.scratch.pending_low in
      let away : waits ≡ 15 = ap (λ x. x.pending_low) fresh.scratch in
      let low : slice_index (slice_set s.store.cells waits 0) 0x60 ≡ slice_index s.store.cells 0x60 =
      get_or-set_other s.store.cells waits 0x60 0 0 (above waits 0x60 (omega (arith, away))) in
      let high : slice_index (slice_set s.store.cells waits 0) 0x61 ≡ slice_index s.store.cells 0x61 =
      get_or-set_other s.store.cells waits 0x61 0 0 (above waits 0x61 (omega (arith, away))) in
      record {
        begun = _;
        way = acts (paced (Start 0) 1 0) (here_is by_twos s.place 0 _ fresh.place refl) refl (tt, tt)
            (acts (paced (Label 0) 1 1) (here_is by_twos _ 1 _ (ap suc fresh.place) refl) refl (tt, tt)
            (there (record {
              at = ap (λ n. suc (suc n)) fresh.place;
              closed = fresh.open_call;
              cells = length-set s.store.cells waits 0 ∙ fresh.cells;
              word = omega (arith, low, high, is);
            })));
        counts = counted by_twos 0 _ (0 ∷ 1 ∷ 2 ∷ []) (ap (λ n. n ∷ suc n ∷ suc (suc n) ∷ []) fresh.place)
            (omega arith, (omega arith, (omega arith, (omega arith, (omega arith, (omega arith, (omega arith, (omega arith, (omega arith, tt)))))))));
      }

  twos_turn_at : (k : ℕ) (s : Bytes) (r : PinReading) → Counts first k s →
      Segment by_twos readings (Counts first) (λ k. []) (suc k) (polled s (effect (CyclePoll 0) s.store) true r).next
  twos_turn_at k s r h =
      let n = (word_at s.store 0x60 + 1) % 65536 in
      let one = with_word s.store 0x60 n in
      let m = (word_at one 0x60 + 1) % 65536 in
      let long : 0x61 < length s.store.cells = omega (arith, h.cells) in
      let cells : length one.cells ≡ DATA_ADDRESSES =
      length-set (slice_set s.store.cells 0x60 (n % 256)) 0x61 (n / 256 % 256) ∙ length-set s.store.cells 0x60 (n % 256) ∙ h.cells in
      let longer : 0x61 < length one.cells = omega (arith, cells) in
      let once : word_at one 0x60 ≡ n = put_word s.store 0x60 n long (omega arith) in
      let twice : word_at (with_word one 0x60 m) 0x60 ≡ m = put_word one 0x60 m longer (omega arith) in
      record {
        begun = _;
        way = acts (paced (Call 1) 0 1) (here_is by_twos _ 3 _ (ap suc h.at) refl) refl (h.closed, tt)
            (acts (paced (Label 1) 0 2) refl refl (tt, tt)
            (acts (paced (Word (words.Increment 0x60)) 0 2) refl refl (tt, tt)
            (acts (paced Return 0 2) refl refl (refl, tt)
            (acts (paced (Call 1) 0 1) (here_is by_twos _ 4 _ (ap (λ x. suc (suc x)) h.at) refl) refl (refl, tt)
            (acts (paced (Label 1) 0 2) refl refl (tt, tt)
            (acts (paced (Word (words.Increment 0x60)) 0 2) refl refl (tt, tt)
            (acts (paced Return 0 2) refl refl (refl, tt)
            (acts (paced (Jump 0) 0 1) (here_is by_twos _ 5 _ (ap (λ x. suc (suc (suc x))) h.at) refl) refl (tt, tt)
            (acts (paced (Label 0) 1 1) refl refl (tt, tt)
            (there (record {
              at = refl;
              closed = refl;
              cells = length-set (slice_set one.cells 0x60 (m % 256)) 0x61 (m / 256 % 256) ∙ length-set one.cells 0x60 (m % 256) ∙ cells;
              word = two_more (word_at s.store 0x60) (word_at one 0x60) _ first k once twice h.word;
            })))))))))));
        counts = counted by_twos (suc k) _ (3 ∷ 6 ∷ 7 ∷ 8 ∷ 4 ∷ 6 ∷ 7 ∷ 8 ∷ 5 ∷ 1 ∷ 2 ∷ [])
            (ap (λ x. suc x ∷ 6 ∷ 7 ∷ 8 ∷ suc (suc x) ∷ 6 ∷ 7 ∷ 8 ∷ suc (suc (suc x)) ∷ 1 ∷ 2 ∷ []) h.at)
            (omega arith, (omega arith, (omega arith, (omega arith, (omega arith, (omega arith, (omega arith, (omega arith, (omega arith, tt)))))))));
      }

  twos_turn : (k : ℕ) (s : Bytes) (r : PinReading) → Counts first k s → slice_get readings k ≡ Some r → (p : Paced) → slice_get by_twos s.place ≡ Some p →
      Segment by_twos readings (Counts first) (λ k. []) (suc k) (polled s (effect p.prim s.store) true r).next
  twos_turn k s r h read p at = subst (λ q. Segment by_twos readings (Counts first) (λ k. []) (suc k) (polled s (effect q.prim s.store) true r).next)
      (is_poll by_twos s.place p refl h.at at) (twos_turn_at k s r h)

  pub twos_keep : (s : Bytes) (answers : List Bool) → IsFresh s → word_at s.store 0x60 ≡ first → KeepsCounts by_twos s readings answers
  twos_keep s answers fresh is =
      keeps_counts by_twos readings (Counts first) (λ k. []) twos_polls twos_turn s answers (twos_boot s fresh is)
      (all_at (λ i p. shape_of p.prim ≡ AtPoll → 1 ≤ p.turns) by_twos (
        (λ e. absurd (cc e)),
        (
          (λ e. omega arith),
          (
            (λ e. omega arith),
            (
              (λ e. omega arith),
              ((λ e. omega arith), ((λ e. omega arith), ((λ e. omega arith), ((λ e. omega arith), ((λ e. omega arith), tt))))),
            ),
          ),
        ),
      ))

  pub twos_count : (s : Bytes) (answers : List Bool) → IsFresh s → word_at s.store 0x60 ≡ first → AtPolls by_twos s readings answers (IsByTwos first)
  twos_count s answers fresh is j b e at =
      let held = at_each by_twos readings (Counts first) (λ k. []) twos_polls twos_turn s answers (twos_boot s fresh is) j b (paced (CyclePoll 0) 1 1) e
      (here_is by_twos b.state.bytes.place 2 _ at refl) refl in
      held.0.word
