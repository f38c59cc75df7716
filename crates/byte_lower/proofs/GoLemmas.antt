-- Single primitives of code that goes forward.
use Rattle.std.proofs.Common.{◌≡◌, ℕ, suc, ◌<◌, Bool, true, false, List, ◌∷◌, drop, length, refl, sym, ap, subst, ◌∙◌, arith}
use Rattle.std.specs.Prelude.{if◌then◌else◌, slice_get, slice_index_or}
use Rattle.byte_code.specs.declared.prim.BitOp.{BitOp}
use Rattle.byte_code.specs.declared.prim.BytePrim.TheVariants.{Label, Jump, JumpWhere, Bit, Word, Compare, Table}
use Rattle.byte_code.specs.declared.prim.CompareOp.{CompareOp}
use Rattle.byte_code.specs.declared.prim.Paced.{Paced}
use Rattle.byte_code.specs.declared.prim.Test.{Test}
use Rattle.byte_code.specs.declared.prim.WordOp.{WordOp}
use Rattle.byte_code.specs.declared.state.Bytes.{Bytes}
use Rattle.byte_code.specs.Counts.{TestFits, BitFits}
use Rattle.byte_code.specs.Machine.{label_place, next_with, goes_to}
use Rattle.byte_code.specs.Store.{cell, with_word}
use Rattle.byte_code.specs.Table.{plain, bit_effect, word_effect, compare_effect, says, tested}
use Rattle.byte_lower.proofs.RouteLemmas.{Reaches, go, here}
use Rattle.byte_lower.specs.Lists.{paced}

module _ (code : List Paced) (Goal : Bytes → Type 0) (last : ℕ) (s : Bytes) (at : ℕ) (rest : List Paced) (is_at : s.place ≡ at) where
  pub bit_go : (op : BitOp) → drop at code ≡ paced (Bit op) ∷ rest → BitFits op s.store → Reaches code Goal last (next_with s (bit_effect op s.store)) →
      Reaches code Goal last s
  bit_go op e fits n = go code Goal last s (paced (Bit op)) (ap (slice_get code) is_at ∙ here code at (paced (Bit op)) rest e) refl (tt, fits) refl
      (omega arith) n

  pub word_go : (op : WordOp) → drop at code ≡ paced (Word op) ∷ rest → Reaches code Goal last (next_with s (plain (word_effect op s.store))) →
      Reaches code Goal last s
  word_go op e n = go code Goal last s (paced (Word op)) (ap (slice_get code) is_at ∙ here code at (paced (Word op)) rest e) refl (tt, tt) refl (omega arith) n

  pub compare_go : (op : CompareOp) → drop at code ≡ paced (Compare op) ∷ rest → Reaches code Goal last (next_with s (compare_effect op s.store)) →
      Reaches code Goal last s
  compare_go op e n = go code Goal last s (paced (Compare op)) (ap (slice_get code) is_at ∙ here code at (paced (Compare op)) rest e) refl (tt, tt) refl
      (omega arith) n

  -- a table, within its values
  pub table_go : (values : List ℕ) (l : ℕ) → drop at code ≡ paced (Table values l) ∷ rest → cell s.store s.store.scratch.outcome < length values →
      Reaches code Goal last (next_with s (plain (with_word s.store s.store.scratch.left (slice_index_or values (cell s.store s.store.scratch.outcome) 0)))) →
      Reaches code Goal last s
  table_go values l e fits n =
      go code Goal last s (paced (Table values l)) (ap (slice_get code) is_at ∙ here code at (paced (Table values l)) rest e) refl (tt, fits) refl (omega arith)
      n

  pub label_go : (l : ℕ) → drop at code ≡ paced (Label l) ∷ rest → Reaches code Goal last (next_with s (plain s.store)) → Reaches code Goal last s
  label_go l e n = go code Goal last s (paced (Label l)) (ap (slice_get code) is_at ∙ here code at (paced (Label l)) rest e) refl (tt, tt) refl (omega arith) n

  pub jump_go : (l : ℕ) → drop at code ≡ paced (Jump l) ∷ rest → at < label_place code l →
      Reaches code Goal last (goes_to s (plain s.store) (label_place code l)) → Reaches code Goal last s
  jump_go l e up n =
      go code Goal last s (paced (Jump l)) (ap (slice_get code) is_at ∙ here code at (paced (Jump l)) rest e) refl (tt, tt) refl
      (subst (λ k. k < label_place code l) (sym is_at) up) n

  -- a jump by a test, of which it is known what it says
  pub where_go : (test : Test) (l : ℕ) (b : Bool) → drop at code ≡ paced (JumpWhere test l) ∷ rest → TestFits test s.store → says test (tested test s.store) ≡
      b → at < label_place code l →
      Reaches code Goal last (goes_to s (tested test s.store) (if b then label_place code l else suc s.place)) → Reaches code Goal last s
  where_go test l b e fits said up n =
      go code Goal last s (paced (JumpWhere test l)) (ap (slice_get code) is_at ∙ here code at (paced (JumpWhere test l)) rest e) refl (tt, fits) refl
      (rises (says test (tested test s.store)))
      (subst (λ c. Reaches code Goal last (goes_to s (tested test s.store) (if c then label_place code l else suc s.place))) (sym said) n)
    where
      rises : (c : Bool) → s.place < (if c then label_place code l else suc s.place)
      rises true = subst (λ k. k < label_place code l) (sym is_at) up
      rises false = omega arith
