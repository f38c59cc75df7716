-- The lists that call a routine.
use Rattle.std.proofs.Common.{◌≡◌, ℕ, suc, ◌+◌, ◌<◌, List, ◌∷◌, ◌++◌, drop, length, Some, None, ℤ, refl, sym, ap, subst, ◌∙◌}
use Rattle.std.specs.Prelude.{slice_get}
use Rattle.chip_tables.specs.Scratch.{scratch_of}
use Rattle.chip_tables.specs.declared.scratch.Scratch.{Scratch}
use Rattle.chip_tables.specs.declared.target.Target.{Target}
use Rattle.chip_tables.specs.declared.target.Target.TheVariants.{F628, F877, Mega16, Interp, AnsiC}
use Rattle.mem_plan.specs.Places.{IsChip}
use Rattle.ladder_meaning.specs.Numbers.{computed}
use Rattle.ladder_meaning.specs.declared.reading.Reading.{Reading}
use Rattle.ladder_tree.specs.declared.element.MathHow.TheVariants as how
use Rattle.int_code.specs.Literals.{HoldsNumber}
use Rattle.int_code.specs.Store.{number_of, with_number}
use Rattle.int_code.specs.Store as int
use Rattle.int_code.specs.WellFormed.{IsNumSource, IsComputed}
use Rattle.int_code.specs.declared.op.NumSource.{NumSource}
use Rattle.int_code.specs.declared.op.NumSource.TheVariants.{V, N}
use Rattle.byte_code.specs.declared.prim.BytePrim.TheVariants.{Call, Word}
use Rattle.byte_code.specs.declared.prim.Paced.{Paced}
use Rattle.byte_code.specs.declared.prim.WordOp.TheVariants as words
use Rattle.byte_code.specs.declared.prim.WordSource.TheVariants as word
use Rattle.byte_code.specs.declared.state.Bytes.{Bytes}
use Rattle.byte_code.specs.declared.store.Store.{Store}
use Rattle.byte_code.specs.Machine.{goes_to, label_place, next_with}
use Rattle.byte_code.specs.Store.{word_at, word_from, with_word}
use Rattle.byte_code.specs.Table.{plain}
use Rattle.byte_routines.proofs.CallLemmas.{scratch_apart}
use Rattle.byte_routines.proofs.CellLemmas.{word_put_other, words_kept}
use Rattle.byte_routines.proofs.CostLemmas.{Called, product_called, quotient_called}
use Rattle.byte_routines.proofs.WorkLemmas.{IsApart, word_is, put_word, word_stays}
use Rattle.byte_routines.specs.Calls.{Off, IsWord, IsOther, IsCalled}
use Rattle.byte_routines.specs.Routines.{multiply, divide}
use Rattle.byte_routines.specs.Words as result
use Rattle.byte_lower.proofs.GoLemmas.{word_go}
use Rattle.byte_lower.proofs.RouteLemmas.{Reaches, by_call, costs_of, behind, here}
use Rattle.byte_lower.proofs.StoreLemmas.{Apart, Good, any_flag, others_kept, word_written, number_read}
use Rattle.byte_lower.proofs.WordLemmas.{word_small, product_word, quotient_word}
use Rattle.byte_lower.specs.Layout.{own_cells, word_cell, room_of, HasPins}
use Rattle.byte_lower.specs.Lists.{paced, put, called, word_of_source}
use Rattle.byte_lower.specs.Stands.{IsWordOf}
use Rattle.byte_lower.specs.declared.layout.Layout.{Layout}

-- the routine of products stands at its label
pub record StandsProduct (code : List Paced) (s : Scratch) : Type 0 where
  pub calls : ℕ
  pub rest : List Paced
  pub ahead : drop (label_place code 1) code ≡ multiply s calls ++ rest
  pub loop_is : label_place code 2 ≡ label_place code 1 + 3

-- and that of quotients
pub record StandsQuotient (code : List Paced) (s : Scratch) : Type 0 where
  pub calls : ℕ
  pub rest : List Paced
  pub ahead : drop (label_place code 3) code ≡ divide s calls ++ rest
  pub loop_is : label_place code 4 ≡ label_place code 3 + 8
  pub zero_is : label_place code 5 ≡ label_place code 3 + 13

-- each that is called stands
pub record Serves (code : List Paced) (s : Scratch) : Type 0 where
  pub products : (i : ℕ) → slice_get code i ≡ Some (paced (Call 1)) → StandsProduct code s
  pub quotients : (i : ℕ) → slice_get code i ≡ Some (paced (Call 3)) → StandsQuotient code s

has_scratch : (t : Target) → IsChip t → scratch_of t ≡ Some (own_cells t)
has_scratch F628 c = refl
has_scratch F877 c = refl
has_scratch Mega16 c = refl
has_scratch Interp c = absurd (cc)
has_scratch AnsiC c = absurd (cc)

any_flag_word : (d : Store) (at n : ℕ) → IsWord d at n → IsWord (plain d) at n
any_flag_word d at n w = record { small = w.small; low = w.low; high = w.high }

module _ (code : List Paced) (o : Layout) (r : Reading) (apart : Apart o) (pins : HasPins o) (Goal : Bytes → Type 0) (last : ℕ)
    (serves : Serves code (own_cells o.plan.target)) where
  abbrev own : Scratch
  own = own_cells o.plan.target

  own_apart : IsApart own
  own_apart = scratch_apart o.plan.target own (has_scratch o.plan.target o.chip)

  -- a word of the routines' that is written
  to_own : (d : Store) (t : int.Store) (at n : ℕ) → ((c : ℕ) → IsOther own c → Off c at) → Good o r d t → Good o r (plain (with_word d at n)) t
  to_own d t at n off g =
      others_kept o r apart pins d (plain (with_word d at n)) t (λ c h. word_put_other d at n c (off c h).0 (off c h).1) (words_kept d at n ∙ g.cells) refl g

  source_read : (d : Store) (t : int.Store) (w : NumSource) → IsNumSource (room_of o) w → HoldsNumber w → Good o r d t →
      IsWordOf (number_of t w) (word_from d (word_of_source o w))
  source_read d t (V a) h hold g = g.stands.numbers a h
  source_read d t (N n) h hold g = number_read d n hold

  word_fits : (z : ℤ) (n : ℕ) → IsWordOf z n → n < 65536
  word_fits z n is = subst (λ m. m < 65536) (sym is.word) (word_small z)

  abbrev CallOf : ℕ → ℕ → (ℕ → ℕ → ℕ) → Type 0
  CallOf l to op = (e : Bytes) (back a b : ℕ) → IsCalled own (label_place code l) back a b e → Called code own (costs_of l) (label_place code l) back to (op a b) e

  abbrev WordsOf : (ℤ → ℤ → ℤ) → (ℕ → ℕ → ℕ) → Type 0
  WordsOf z op = (x y : ℤ) (m n : ℕ) → IsWordOf x m → IsWordOf y n → IsWordOf (z x y) (op m n)

  module _ (at : ℕ) (rest : List Paced) (t : int.Store) (s : Bytes) (closed : s.open_call ≡ None) (good : Good o r s.store t) (is_at : s.place ≡ at)
      (v : ℕ) (w u : NumSource) (h : IsComputed (room_of o) v w u) (hw : HoldsNumber w) (hu : HoldsNumber u) where
    -- what comes behind the list
    abbrev Behind : (ℤ → ℤ → ℤ) → Type 0
    Behind z = (s' : Bytes) → s'.open_call ≡ None → Good o r s'.store (with_number t v (z (number_of t w) (number_of t u))) →
        s'.place ≡ suc (suc (suc (suc at))) → Reaches code Goal last s'

    called_go : (l to : ℕ) (z : ℤ → ℤ → ℤ) (op : ℕ → ℕ → ℕ) → CallOf l to op → WordsOf z op → drop at code ≡ called o l to v w u ++ rest → Behind z →
        Reaches code Goal last s
    called_go l to z op call_of words_of e next =
        let to_left = paced (Word (words.Move own.left (word_of_source o w))) in
        let to_right = paced (Word (words.Move own.right (word_of_source o u))) in
        let call = paced (Call l) in
        let move = put o v (word.Cells to) in
        let e1 = behind code at to_left (to_right ∷ call ∷ move ∷ rest) e in
        let e2 = behind code (suc at) to_right (call ∷ move ∷ rest) e1 in
        let e3 = behind code (suc (suc at)) call (move ∷ rest) e2 in
        let a = word_from s.store (word_of_source o w) in
        let s1 = next_with s (plain (with_word s.store own.left a)) in
        let b = word_from s1.store (word_of_source o u) in
        let s2 = next_with s1 (plain (with_word s1.store own.right b)) in
        let good1 = to_own s.store t own.left a (λ c k. k.left) good in
        let good2 = to_own s1.store t own.right b (λ c k. k.right) good1 in
        let left_is = source_read s.store t w h.1 hw good in
        let right_is = source_read s1.store t u h.2 hu good1 in
        let entered : Bytes = record (goes_to s2 (plain s2.store) (label_place code l)) { open_call = Some (suc s2.place) } in
        let small_left : own.left + 1 < length s.store.cells = subst (λ n. own.left + 1 < n) (sym good.cells) own_apart.left in
        let small_right : own.right + 1 < length s1.store.cells = subst (λ n. own.right + 1 < n) (sym good1.cells) own_apart.right in
        let left1 = any_flag_word (with_word s.store own.left a) own.left a (put_word s.store own.left a small_left (word_fits _ a left_is)) in
        let left2 = any_flag_word (with_word s1.store own.right b) own.left a (word_stays s1.store own.right b own.left a own_apart.left_right left1) in
        let right2 = any_flag_word (with_word s1.store own.right b) own.right b (put_word s1.store own.right b small_right (word_fits _ b right_is)) in
        let is_called : IsCalled own (label_place code l) (suc s2.place) a b entered = record {
          place = refl;
          opened = refl;
          scratch = good.scratch;
          cells = good2.cells;
          left = any_flag_word s2.store own.left a left2;
          right = any_flag_word s2.store own.right b right2;
        } in
        let c = call_of entered (suc s2.place) a b is_called in
        let good4 = others_kept o r apart pins entered.store c.end.store t c.kept c.cells c.rest (any_flag o r apart pins s2.store t None good2) in
        let result_is : IsWordOf (z (number_of t w) (number_of t u)) (word_at c.end.store to) =
        subst (IsWordOf (z (number_of t w) (number_of t u))) (sym (word_is c.end.store to (op a b) c.result)) (words_of _ _ a b left_is right_is) in
        let d = with_word c.end.store (word_cell o v) (word_at c.end.store to) in
        let t1 = with_number t v (z (number_of t w) (number_of t u)) in
        let at_end : c.end.place ≡ suc (suc (suc at)) = c.place ∙ ap (λ n. suc (suc (suc n))) is_at in
        word_go code Goal last s at (to_right ∷ call ∷ move ∷ rest) is_at (words.Move own.left (word_of_source o w)) e
        (word_go code Goal last s1 (suc at) (call ∷ move ∷ rest) (ap suc is_at) (words.Move own.right (word_of_source o u)) e1
        (by_call code Goal last s2 l own to (op a b) (ap (λ n. slice_get code (suc (suc n))) is_at ∙ here code (suc (suc at)) call (move ∷ rest) e2) closed c
        (word_go code Goal last c.end (suc (suc (suc at))) rest at_end (words.Move (word_cell o v) (word.Cells to)) e3
        (next (next_with c.end (plain d)) c.closed
        (any_flag o r apart pins d t1 None (word_written o r apart pins c.end.store t v (z (number_of t w) (number_of t u)) (word_at c.end.store to) h.0 result_is good4))
        (ap suc at_end)))))

    pub product_go : drop at code ≡ called o 1 own.outcome v w u ++ rest → Behind (computed how.Mul) → Reaches code Goal last s
    product_go e next =
        let to_left = paced (Word (words.Move own.left (word_of_source o w))) in
        let to_right = paced (Word (words.Move own.right (word_of_source o u))) in
        let tail = put o v (word.Cells own.outcome) ∷ rest in
        let e1 = behind code at to_left (to_right ∷ paced (Call 1) ∷ tail) e in
        let e2 = behind code (suc at) to_right (paced (Call 1) ∷ tail) e1 in
        let stands = serves.products (suc (suc at)) (here code (suc (suc at)) (paced (Call 1)) tail e2) in
        called_go 1 own.outcome (computed how.Mul) result.product
        (λ x back a b c. product_called o.plan.target own (has_scratch o.plan.target o.chip) code stands.calls (label_place code 1) back a b stands.rest stands.ahead
        stands.loop_is x c)
        (λ x y m n f g. product_word x y m n f g) e next

    pub quotient_go : drop at code ≡ called o 3 own.left v w u ++ rest → Behind (computed how.Div) → Reaches code Goal last s
    quotient_go e next =
        let to_left = paced (Word (words.Move own.left (word_of_source o w))) in
        let to_right = paced (Word (words.Move own.right (word_of_source o u))) in
        let tail = put o v (word.Cells own.left) ∷ rest in
        let e1 = behind code at to_left (to_right ∷ paced (Call 3) ∷ tail) e in
        let e2 = behind code (suc at) to_right (paced (Call 3) ∷ tail) e1 in
        let stands = serves.quotients (suc (suc at)) (here code (suc (suc at)) (paced (Call 3)) tail e2) in
        called_go 3 own.left (computed how.Div) result.quotient
        (λ x back a b c. quotient_called o.plan.target own (has_scratch o.plan.target o.chip) code stands.calls (label_place code 3) back a b stands.rest stands.ahead
        stands.loop_is stands.zero_is x c)
        (λ x y m n f g. quotient_word x y m n f g) e next
