-- Bytes and words that are set and moved.
use Rattle.std.proofs.Common.{◌≡◌, ◌≢◌, ◌⊎◌, inl, inr, ℕ, suc, ◌+◌, ◌<◌, ◌≤◌, Bool, true, false, List, [], ◌∷◌, refl, sym, ap, ap₂, ◌∙◌, subst, arith, eq-eqb, lit<, lit≤}
use Rattle.std.proofs.lemmas.Bool.{and_parts, cases_eq, eqb-true, eqb-false, leb-true, ltb-true, le-leb, lt-leb, ne_eqb}
use Rattle.std.specs.Prelude.{◌==◌, ◌&&◌, ◌||◌, nat_le, nat_lt, if◌then◌else◌, slice_index}
use Rattle.chip_tables.specs.Outside.{no_reading}
use Rattle.byte_code.specs.declared.prim.BytePrim.{BytePrim}
use Rattle.byte_code.specs.declared.prim.BytePrim.TheVariants.{Byte, Word}
use Rattle.byte_code.specs.declared.prim.ByteOp.TheVariants as bytes
use Rattle.byte_code.specs.declared.prim.WordOp.TheVariants as words
use Rattle.byte_code.specs.declared.prim.WordSource.TheVariants as source
use Rattle.byte_code.specs.declared.state.Bytes.{Bytes}
use Rattle.byte_code.specs.Machine.{act}
use Rattle.byte_code.specs.Store.{cell, word_from}
use Rattle.avr_mach.specs.declared.insn.AvrInsn.TheVariants as insn
use Rattle.avr_mach.specs.declared.state.AvrState.{AvrState}
use Rattle.target_core.specs.Law.{Layout}
use Rattle.avr_code.specs.Code.{more_cycles, Board, Piece, Plain, Loads, Stores, code_of, size_in, word_count, takes_number, byte_set, byte_moved, move_code}
use Rattle.avr_code.specs.Stands.{is_work, IsCell, StandsAt}
use Rattle.avr_code.proofs.Paths.{Paths, paths, AllGood, AllPiecesFit}
use Rattle.avr_code.proofs.Primitives.{Ready, Ends, Good, Goes, coded, good_bump, load_size, store_size}
use Rattle.avr_code.proofs.Standing.{Alike, ViewStands, alike, has_cell, has_word, has_word_by}
use Rattle.avr_code.proofs.Sums.{word_low, word_high}
use Rattle.avr_code.proofs.View.{View, see, put, changed, moved}

-- a cell took a byte, by so many words
pub record Wrote (v w : View) (a x n : ℕ) : Type 0 where
  pub kept : Alike v w
  pub cells : w.cells ≡ changed v.cells a x
  pub at : w.core.place ≡ v.core.place + n

pub alike_then : (v w u : View) → Alike v w → Alike w u → Alike v u
alike_then v w u a b = record {
  eeprom = b.eeprom ∙ a.eeprom;
  settings = b.settings ∙ a.settings;
  directions = λ port low. b.directions port low ∙ a.directions port low;
  reading = b.reading ∙ a.reading;
  latches = λ port. b.latches port ∙ a.latches port;
  timing = b.timing ∙ a.timing;
  quiet = b.quiet ∙ a.quiet;
  stack = b.stack ∙ a.stack;
  zero = b.zero ∙ a.zero;
}

pub put_cell : (v : View) (a x : ℕ) → is_work a ≡ false → put v a x ≡ record v { cells = changed v.cells a x }
put_cell v a x free = ap (λ b. if b then record v { work = changed v.work a x } else record v { cells = changed v.cells a x }) free

pub see_cell : (v : View) (a : ℕ) → is_work a ≡ false → see v a ≡ v.cells a
see_cell v a free = ap (λ b. if b then v.work a else v.cells a) free

pub cell_free : (a : ℕ) → IsCell a → is_work a ≡ false
cell_free a (inl low) = low.1
cell_free a (inr high) =
    let far = high.0 in
    ap₂ (λ b c. b || (c && nat_le a 19)) (ne_eqb a 1 (λ e. omega (arith, e, far))) (le-leb 16 a (omega (arith, far)))
    ∙ lt-leb a 19 (omega (arith, far))

pub good_more : (n : ℕ) (E : View → Type 0) (w : Paths) → AllGood n E w → AllGood (n + 0) E w
good_more n E w g = subst (λ k. AllGood k E w) (same n) g
  where
    same : (n : ℕ) → n ≡ n + 0
    same n = omega arith

pub le_self : (n : ℕ) → n ≤ n
le_self n = omega arith

abbrev pub IsFull : List Piece → Type 0
IsFull [] = ⊥
IsFull (p ∷ ps) = Unit {0}

both_on : (n k j : ℕ) → n + k + j ≡ n + (k + j)
both_on n k j = omega arith

both_size : (k j r : ℕ) → k + (j + r) ≡ k + j + r
both_size k j r = omega arith

module _ (a x : ℕ) (rest : List Piece) (in' : IsCell a) where
  abbrev setting : Bool → Bool → List Piece
  setting zero upper = if zero then Stores a 1 ∷ rest else if upper then Plain (insn.Ldi a x) ∷ rest else Plain (insn.Ldi 16 x) ∷ Stores a 16 ∷ rest

  pub set_full : IsFull (byte_set a x rest)
  set_full = by (x == 0) (takes_number a)
    where
      by : (b c : Bool) → IsFull (setting b c)
      by true c = tt
      by false true = tt
      by false false = tt

  pub set_fits : x < 256 → AllPiecesFit rest → AllPiecesFit (byte_set a x rest)
  set_fits small fit = by (x == 0) (takes_number a) refl
    where
      by : (b c : Bool) → takes_number a ≡ c → AllPiecesFit (setting b c)
      by true c e = ((lit< tt, in'), fit)
      by false true e = let both = and_parts (nat_le 16 a) (nat_lt a 32) e in ((leb-true 16 a both.0, ltb-true a 32 both.1, small), fit)
      by false false e = ((lit≤ tt, lit< tt, small), ((lit< tt, in'), fit))

  -- the paths of the rest are taken where the cell has the number
  pub set_goes : (E : View → Type 0) (v : View) → v.work 1 ≡ 0 →
      ((w : View) (k : ℕ) → size_in (byte_set a x rest) ≡ k + size_in rest → Wrote v w a x k → AllGood (size_in rest) E (paths rest 0 w)) →
      AllGood (size_in (byte_set a x rest)) E (paths (byte_set a x rest) 0 v)
  set_goes E v zero go = by (x == 0) (takes_number a) refl go
    where
      by : (b c : Bool) → (x == 0) ≡ b →
          ((w : View) (k : ℕ) → size_in (setting b c) ≡ k + size_in rest → Wrote v w a x k → AllGood (size_in rest) E (paths rest 0 w)) →
          AllGood (size_in (setting b c)) E (paths (setting b c) 0 v)
      by true c e go = good_bump (store_size a 1) (size_in rest) E _ (go _ (store_size a 1) refl (record {
        kept = alike v _ refl refl refl (λ port. refl) refl refl refl refl;
        cells = ap (λ y. changed v.cells a y) (zero ∙ sym (eqb-true x 0 e));
        at = refl;
      }))
      by false true e go = good_bump 1 (size_in rest) E _ (go _ 1 refl (subst (λ u. Wrote v (moved u (v.core.place + 1) 1) a x 1)
          (sym (put_cell v a x (cell_free a in')))
          (record { kept = alike v _ refl refl refl (λ port. refl) refl refl refl refl; cells = refl; at = refl })))
      by false false e go = good_bump 1 (store_size a 16 + size_in rest) E _ (good_bump (store_size a 16) (size_in rest) E _
          (go _ (1 + store_size a 16) (both_size 1 (store_size a 16) (size_in rest)) (record {
            kept = alike v _ refl refl refl (λ port. refl) refl refl refl refl;
            cells = refl;
            at = both_on v.core.place 1 (store_size a 16);
          })))

module _ (to from : ℕ) (rest : List Piece) (in' : IsCell to) (source : IsCell from) where
  abbrev moving : Bool → Bool → List Piece
  moving up down = if up then Loads to from ∷ rest else if down then Stores to from ∷ rest else Loads 16 from ∷ Stores to 16 ∷ rest

  pub moved_full : IsFull (byte_moved to from rest)
  moved_full = by (nat_lt to 32) (nat_lt from 32)
    where
      by : (b c : Bool) → IsFull (moving b c)
      by true c = tt
      by false true = tt
      by false false = tt

  pub moved_fits : AllPiecesFit rest → AllPiecesFit (byte_moved to from rest)
  moved_fits fit = by (nat_lt to 32) (nat_lt from 32) refl refl
    where
      by : (b c : Bool) → nat_lt to 32 ≡ b → nat_lt from 32 ≡ c → AllPiecesFit (moving b c)
      by true c e f = ((ltb-true to 32 e, source), fit)
      by false true e f = ((ltb-true from 32 f, in'), fit)
      by false false e f = ((lit< tt, source), ((lit< tt, in'), fit))

  pub moved_goes : (E : View → Type 0) (v : View) →
      ((w : View) (k : ℕ) → size_in (byte_moved to from rest) ≡ k + size_in rest → Wrote v w to (v.cells from) k → AllGood (size_in rest) E (paths rest 0 w)) →
      AllGood (size_in (byte_moved to from rest)) E (paths (byte_moved to from rest) 0 v)
  moved_goes E v go = by (nat_lt to 32) (nat_lt from 32) go
    where
      by : (b c : Bool) →
          ((w : View) (k : ℕ) → size_in (moving b c) ≡ k + size_in rest → Wrote v w to (v.cells from) k → AllGood (size_in rest) E (paths rest 0 w)) →
          AllGood (size_in (moving b c)) E (paths (moving b c) 0 v)
      by true c go = let n = load_size to from in good_bump n (size_in rest) E _ (go _ n refl
          (subst (λ u. Wrote v (moved u (v.core.place + n) n) to (v.cells from) n) (sym (put_cell v to (v.cells from) (cell_free to in')))
          (record { kept = alike v _ refl refl refl (λ port. refl) refl refl refl refl; cells = refl; at = refl })))
      by false true go = let n = store_size to from in good_bump n (size_in rest) E _ (go _ n refl (record {
        kept = alike v _ refl refl refl (λ port. refl) refl refl refl refl;
        cells = ap (λ y. changed v.cells to y) (see_cell v from (cell_free from source));
        at = refl;
      }))
      by false false go = good_bump (load_size 16 from) (store_size to 16 + size_in rest) E _ (good_bump (store_size to 16) (size_in rest) E _
          (go _ (load_size 16 from + store_size to 16) (both_size (load_size 16 from) (store_size to 16) (size_in rest)) (record {
            kept = alike v _ refl refl refl (λ port. refl) refl refl refl refl;
            cells = refl;
            at = both_on v.core.place (load_size 16 from) (store_size to 16);
          })))

pub changed_other : (f : ℕ → ℕ) (a x b : ℕ) → b ≢ a → changed f a x b ≡ f b
changed_other f a x b ne = ap (λ t. if t then x else f b) (ne_eqb b a ne)

-- which of two cells is written first does not count
swapped : (f : ℕ → ℕ) (a x y b : ℕ) → changed (changed f (a + 1) y) a x b ≡ changed (changed f a x) (a + 1) y b
swapped f a x y b = by (cases_eq b a)
  where
    by : (b ≡ a) ⊎ (b ≢ a) → changed (changed f (a + 1) y) a x b ≡ changed (changed f a x) (a + 1) y b
    by (inl e) =
        ap (λ t. if t then x else changed f (a + 1) y b) (eq-eqb b a e)
        ∙ sym (ap₂ (λ t u. if t then y else if u then x else f b) (ne_eqb b (a + 1) (λ q. omega (arith, q, e))) (eq-eqb b a e))
    by (inr ne) =
        ap (λ t. if t then x else changed f (a + 1) y b) (ne_eqb b a ne)
        ∙ sym (ap (λ t. if b == (a + 1) then y else if t then x else f b) (ne_eqb b a ne))

one_write : (n n1 k total p q : ℕ) → n1 ≡ n + k → total ≡ k + 0 → n ≡ p → q ≡ p + total → n1 ≡ q
one_write n n1 k total p q a b c d = omega (arith, a, b, c, d)

two_writes : (n n1 n2 k1 k2 total r p q : ℕ) → n1 ≡ n + k1 → n2 ≡ n1 + k2 → total ≡ k1 + r → r ≡ k2 + 0 → n ≡ p → q ≡ p + total → n2 ≡ q
two_writes n n1 n2 k1 k2 total r p q a b c d e f = omega (arith, a, b, c, d, e, f)

pub move_full : (to from : ℕ) → IsCell to → IsCell (to + 1) → IsCell from → IsCell (from + 1) → IsFull (move_code to (source.Cells from))
move_full to from in1 in2 at1 at2 = by (to == from + 1)
  where
    by : (b : Bool) → IsFull (if b then byte_moved (to + 1) (from + 1) (byte_moved to from []) else byte_moved to from (byte_moved (to + 1) (from + 1) []))
    by true = moved_full (to + 1) (from + 1) (byte_moved to from []) in2 at2
    by false = moved_full to from (byte_moved (to + 1) (from + 1) []) in1 at1

module _ (board : Board) (lay : Layout) (m : AvrState) (s : Bytes) where
  abbrev Ready' : BytePrim → Type 0
  Ready' p = Ready board lay m s p

  abbrev Goes' : BytePrim → Type 0
  Goes' p = Goes board lay m s p

  abbrev Ends' : BytePrim → View → Type 0
  Ends' p = Ends board lay m s p

  -- code that is there, and all of whose paths are good
  pub listed : (p : BytePrim) (ps : List Piece) → IsFull ps → Ready' p → code_of board p lay.labels ≡ ps → size_in ps ≡ word_count board p →
      (act lay.code p s false no_reading).sent ≡ [] → AllPiecesFit ps → StandsAt board lay.places m s → Good board lay m s p ps → Goes' p
  listed p [] full ready is size quiet fit st good = absurd full
  listed p (q ∷ ps) full ready is size quiet fit st good = coded board lay m s p q ps ready is size quiet fit st good

  -- the same, where the code is chosen by what the primitive names
  pub chosen : (p : BytePrim) (ps : List Piece) → IsFull ps → Ready' p → code_of board p lay.labels ≡ ps → code_of board p [] ≡ ps → more_cycles p ≡ 0 →
      (act lay.code p s false no_reading).sent ≡ [] → AllPiecesFit ps → StandsAt board lay.places m s →
      (slice_index lay.places (suc s.place) ≡ slice_index lay.places s.place + size_in ps → (v : View) → ViewStands board lay.places v s →
      AllGood (size_in ps) (Ends' p) (paths ps 0 v)) → Goes' p
  chosen p ps full ready here alone no_more quiet fit st good =
      let size = ap size_in alone in
      listed p ps full ready here (sym size) quiet fit st (λ v h. subst (λ n. AllGood n (Ends' p) (paths ps 0 v)) (sym (ap₂ (λ n k. n + k) size no_more))
      (good_more (size_in ps) (Ends' p) (paths ps 0 v)
      (good (subst (λ n. slice_index lay.places (suc s.place) ≡ slice_index lay.places s.place + n) size ready.next) v h)))

  pub put_byte : (to x : ℕ) → Ready' (Byte (bytes.Put to x)) → StandsAt board lay.places m s → Goes' (Byte (bytes.Put to x))
  put_byte to x ready st =
      let in' = ready.admitted.0 in
      listed (Byte (bytes.Put to x)) (byte_set to x []) (set_full to x [] in') ready refl refl refl (set_fits to x [] in' ready.admitted.1 tt) st
      (λ v h. good_more _ _ _ (set_goes to x [] in' (Ends' (Byte (bytes.Put to x))) v (h.has.started ready.begins).zero (λ w k size wrote. (
        lit≤ tt,
        record {
          has = has_cell board lay.places v w s wrote.kept h.has to x x in' wrote.cells refl ready.admitted.1;
          at = one_write v.core.place w.core.place k _ _ _ wrote.at size h.at ready.next;
        },
      ))))

  pub copy_byte : (to from : ℕ) → Ready' (Byte (bytes.Copy to from)) → StandsAt board lay.places m s → Goes' (Byte (bytes.Copy to from))
  copy_byte to from ready st =
      let in' = ready.admitted.0 in
      let source = ready.admitted.1 in
      listed (Byte (bytes.Copy to from)) (byte_moved to from []) (moved_full to from [] in' source) ready refl refl refl
      (moved_fits to from [] in' source tt) st
      (λ v h. good_more _ _ _ (moved_goes to from [] in' source (Ends' (Byte (bytes.Copy to from))) v (λ w k size wrote. (
        lit≤ tt,
        record {
          has = has_cell board lay.places v w s wrote.kept h.has to (v.cells from) (cell s.store from) in' wrote.cells (h.has.holds.cells from source)
              (h.has.holds.bytes from);
          at = one_write v.core.place w.core.place k _ _ _ wrote.at size h.at ready.next;
        },
      ))))

  pub move_number : (to low high : ℕ) → Ready' (Word (words.Move to (source.Number low high))) → StandsAt board lay.places m s →
      Goes' (Word (words.Move to (source.Number low high)))
  move_number to low high ready st =
      let p = Word (words.Move to (source.Number low high)) in
      let in1 = ready.admitted.0.0 in
      let in2 = ready.admitted.0.1 in
      let last = byte_set (to + 1) high [] in
      listed p (byte_set to low last) (set_full to low last in1) ready refl refl refl
      (set_fits to low last in1 ready.admitted.1.0 (set_fits (to + 1) high [] in2 ready.admitted.1.1 tt)) st
      (λ v h. let zero = (h.has.started ready.begins).zero in
      good_more _ _ _ (set_goes to low last in1 (Ends' p) v zero (λ w k size wrote.
      set_goes (to + 1) high [] in2 (Ends' p) w (wrote.kept.zero ∙ zero) (λ u j rest after. (
        lit≤ tt,
        record {
          has = has_word board lay.places v u s (alike_then v w u wrote.kept after.kept) h.has to low high (word_from s.store (source.Number low high)) in1 in2
              (after.cells ∙ ap (λ f. changed f (to + 1) high) wrote.cells) (word_low low high _ refl ready.admitted.1.0)
              (word_high low high _ refl ready.admitted.1.0 ready.admitted.1.1);
          at = two_writes v.core.place w.core.place u.core.place k j _ _ _ _ wrote.at after.at size rest h.at ready.next;
        },
      )))))

  -- what the two cells of a word come to
  cells_moved : (to from : ℕ) → Ready' (Word (words.Move to (source.Cells from))) → (v u : View) → ViewStands board lay.places v s → Alike v u → (x y : ℕ) →
      ((b : ℕ) → u.cells b ≡ changed (changed v.cells to x) (to + 1) y b) → x ≡ v.cells from → y ≡ v.cells (from + 1) →
      u.core.place ≡ slice_index lay.places (suc s.place) → Ends' (Word (words.Move to (source.Cells from))) u
  cells_moved to from ready v u h kept x y cells low high at = record {
    has = has_word_by board lay.places v u s kept h.has to x y (word_from s.store (source.Cells from)) ready.admitted.0.0 ready.admitted.0.1 cells
        (word_low (cell s.store from) (cell s.store (from + 1)) _ (low ∙ h.has.holds.cells from ready.admitted.1.0) (h.has.holds.bytes from))
        (word_high (cell s.store from) (cell s.store (from + 1)) _ (high ∙ h.has.holds.cells (from + 1) ready.admitted.1.1) (h.has.holds.bytes from)
        (h.has.holds.bytes (from + 1)));
    at = at;
  }

  pub move_cells : (to from : ℕ) → Ready' (Word (words.Move to (source.Cells from))) → StandsAt board lay.places m s →
      Goes' (Word (words.Move to (source.Cells from)))
  move_cells to from ready st = by (to == from + 1) refl
    where
      p : BytePrim
      p = Word (words.Move to (source.Cells from))

      up : List Piece
      up = byte_moved to from (byte_moved (to + 1) (from + 1) [])

      down : List Piece
      down = byte_moved (to + 1) (from + 1) (byte_moved to from [])

      either : Bool → List Piece
      either b = if b then down else up

      in1 : IsCell to
      in1 = ready.admitted.0.0

      in2 : IsCell (to + 1)
      in2 = ready.admitted.0.1

      at1 : IsCell from
      at1 = ready.admitted.1.0

      at2 : IsCell (from + 1)
      at2 = ready.admitted.1.1

      low_first : to ≢ from + 1 → slice_index lay.places (suc s.place) ≡ slice_index lay.places s.place + size_in up → (v : View) →
          ViewStands board lay.places v s → AllGood (size_in up) (Ends' p) (paths up 0 v)
      low_first ne next v h =
          moved_goes to from (byte_moved (to + 1) (from + 1) []) in1 at1 (Ends' p) v (λ w k size wrote.
          moved_goes (to + 1) (from + 1) [] in2 at2 (Ends' p) w (λ u j rest after. (
            lit≤ tt,
            cells_moved to from ready v u h (alike_then v w u wrote.kept after.kept) (v.cells from) (w.cells (from + 1))
                (λ b. ap (λ f. f b) after.cells ∙ ap (λ f. changed f (to + 1) (w.cells (from + 1)) b) wrote.cells) refl
                (ap (λ f. f (from + 1)) wrote.cells ∙ changed_other v.cells to (v.cells from) (from + 1) (λ e. ne (sym e)))
                (two_writes v.core.place w.core.place u.core.place k j _ _ _ _ wrote.at after.at size rest h.at next),
          )))

      high_first : to ≡ from + 1 → slice_index lay.places (suc s.place) ≡ slice_index lay.places s.place + size_in down → (v : View) →
          ViewStands board lay.places v s → AllGood (size_in down) (Ends' p) (paths down 0 v)
      high_first same next v h =
          moved_goes (to + 1) (from + 1) (byte_moved to from []) in2 at2 (Ends' p) v (λ w k size wrote.
          moved_goes to from [] in1 at1 (Ends' p) w (λ u j rest after. (
            lit≤ tt,
            cells_moved to from ready v u h (alike_then v w u wrote.kept after.kept) (w.cells from) (v.cells (from + 1))
                (λ b. ap (λ f. f b) after.cells ∙ ap (λ f. changed f to (w.cells from) b) wrote.cells
                ∙ swapped v.cells to (w.cells from) (v.cells (from + 1)) b)
                (ap (λ f. f from) wrote.cells ∙ changed_other v.cells (to + 1) (v.cells (from + 1)) from (λ e. omega (arith, e, same))) refl
                (two_writes v.core.place w.core.place u.core.place k j _ _ _ _ wrote.at after.at size rest h.at next),
          )))

      by : (b : Bool) → (to == from + 1) ≡ b → Goes' p
      by true e = chosen p down (moved_full (to + 1) (from + 1) (byte_moved to from []) in2 at2) ready (ap either e) (ap either e) refl refl
          (moved_fits (to + 1) (from + 1) (byte_moved to from []) in2 at2 (moved_fits to from [] in1 at1 tt)) st (high_first (eqb-true to (from + 1) e))
      by false e = chosen p up (moved_full to from (byte_moved (to + 1) (from + 1) []) in1 at1) ready (ap either e) (ap either e) refl refl
          (moved_fits to from (byte_moved (to + 1) (from + 1) []) in1 at1 (moved_fits (to + 1) (from + 1) [] in2 at2 tt)) st
          (low_first (eqb-false to (from + 1) e))
