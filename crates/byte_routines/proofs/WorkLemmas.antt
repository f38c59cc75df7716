-- The words and cells on which the routines work, and all others.
use Rattle.std.proofs.Common.{◌≡◌, ◌≢◌, ℕ, ◌+◌, ◌/◌, ◌%◌, ◌<◌, length, sym, ap, ◌∙◌, arith, inl, inr}
use Rattle.std.specs.Prelude.{◌⊎◌, Option}
use Rattle.chip_tables.specs.Scratch.{pic_scratch, avr_scratch}
use Rattle.chip_tables.specs.declared.scratch.Scratch.{Scratch}
use Rattle.byte_code.specs.declared.store.Flag.{Flag}
use Rattle.byte_code.specs.declared.store.Store.{Store}
use Rattle.byte_code.specs.Store.{cell, with_cell, word_at, with_word}
pub use Rattle.byte_routines.specs.Calls.{Off, IsWord, IsOther}
use Rattle.byte_routines.proofs.CellLemmas.{cell_put, cell_kept, cells_kept, word_put_other, words_kept}

-- two words have no cell in common
abbrev pub Far : ℕ → ℕ → Type 0
Far a b = Off a b × Off (a + 1) b

-- the routines' words and cells are apart, and in data memory
pub record IsApart (s : Scratch) : Type 0 where
  pub left : s.left + 1 < 1120
  pub right : s.right + 1 < 1120
  pub outcome : s.outcome + 1 < 1120
  pub count : s.count < 1120
  pub sign : s.sign < 1120
  pub left_right : Far s.left s.right
  pub right_left : Far s.right s.left
  pub left_outcome : Far s.left s.outcome
  pub outcome_left : Far s.outcome s.left
  pub right_outcome : Far s.right s.outcome
  pub outcome_right : Far s.outcome s.right
  pub count_left : Off s.count s.left
  pub count_right : Off s.count s.right
  pub count_outcome : Off s.count s.outcome
  pub sign_left : Off s.sign s.left
  pub sign_right : Off s.sign s.right
  pub sign_outcome : Off s.sign s.outcome
  pub count_sign : s.count ≢ s.sign

apart_by : (s : Scratch) → s.left + 1 < 1120 → s.right + 1 < 1120 → s.outcome + 1 < 1120 → s.count < 1120 → s.sign < 1120 →
    (s.left + 1 < s.right) ⊎ (s.right + 1 < s.left) → (s.left + 1 < s.outcome) ⊎ (s.outcome + 1 < s.left) → (s.right + 1 < s.outcome) ⊎ (s.outcome + 1 < s.right) →
    (s.count < s.left) ⊎ (s.left + 1 < s.count) → (s.count < s.right) ⊎ (s.right + 1 < s.count) → (s.count < s.outcome) ⊎ (s.outcome + 1 < s.count) →
    (s.sign < s.left) ⊎ (s.left + 1 < s.sign) → (s.sign < s.right) ⊎ (s.right + 1 < s.sign) → (s.sign < s.outcome) ⊎ (s.outcome + 1 < s.sign) →
    (s.count < s.sign) ⊎ (s.sign < s.count) → IsApart s
apart_by s l r o c g lr lo ro cl cr co gl gr go cg = record {
  left = l;
  right = r;
  outcome = o;
  count = c;
  sign = g;
  left_right = far s.left s.right lr;
  right_left = far s.right s.left (turned lr);
  left_outcome = far s.left s.outcome lo;
  outcome_left = far s.outcome s.left (turned lo);
  right_outcome = far s.right s.outcome ro;
  outcome_right = far s.outcome s.right (turned ro);
  count_left = off s.count s.left cl;
  count_right = off s.count s.right cr;
  count_outcome = off s.count s.outcome co;
  sign_left = off s.sign s.left gl;
  sign_right = off s.sign s.right gr;
  sign_outcome = off s.sign s.outcome go;
  count_sign = other s.count s.sign cg;
}
  where
    far : (a b : ℕ) → (a + 1 < b) ⊎ (b + 1 < a) → Far a b
    far a b (inl h) = ((λ e. omega (arith, e, h), λ e. omega (arith, e, h)), (λ e. omega (arith, e, h), λ e. omega (arith, e, h)))
    far a b (inr h) = ((λ e. omega (arith, e, h), λ e. omega (arith, e, h)), (λ e. omega (arith, e, h), λ e. omega (arith, e, h)))

    turned : {P Q : Type 0} → P ⊎ Q → Q ⊎ P
    turned (inl p) = inr p
    turned (inr q) = inl q

    off : (a b : ℕ) → (a < b) ⊎ (b + 1 < a) → Off a b
    off a b (inl h) = (λ e. omega (arith, e, h), λ e. omega (arith, e, h))
    off a b (inr h) = (λ e. omega (arith, e, h), λ e. omega (arith, e, h))

    other : (a b : ℕ) → (a < b) ⊎ (b < a) → a ≢ b
    other a b (inl h) e = omega (arith, e, h)
    other a b (inr h) e = omega (arith, e, h)

pub pic_apart : IsApart pic_scratch
pic_apart = apart_by pic_scratch (omega arith) (omega arith) (omega arith) (omega arith) (omega arith)
    (inl (omega arith)) (inl (omega arith)) (inl (omega arith)) (inr (omega arith)) (inr (omega arith)) (inr (omega arith)) (inr (omega arith)) (inr (omega arith))
    (inr (omega arith)) (inl (omega arith))

pub avr_apart : IsApart avr_scratch
avr_apart = apart_by avr_scratch (omega arith) (omega arith) (omega arith) (omega arith) (omega arith)
    (inr (omega arith)) (inl (omega arith)) (inl (omega arith)) (inl (omega arith)) (inl (omega arith)) (inl (omega arith)) (inl (omega arith)) (inl (omega arith))
    (inl (omega arith)) (inr (omega arith))

pub word_is : (d : Store) (at n : ℕ) → IsWord d at n → word_at d at ≡ n
word_is d at n w = omega (arith, w.low, w.high)

pub put_word : (d : Store) (at n : ℕ) → at + 1 < length d.cells → n < 65536 → IsWord (with_word d at n) at n
put_word d at n h small =
    let one : cell (with_word d at n) at ≡ cell (with_cell d at (n % 256)) at = cell_kept (with_cell d at (n % 256)) (at + 1) (n / 256 % 256) at (λ e. omega (arith, e)) in
    let two : cell (with_cell d at (n % 256)) at ≡ n % 256 = cell_put d at (n % 256) (omega (arith, h)) in
    let long : at + 1 < length (with_cell d at (n % 256)).cells = omega (arith, h, cells_kept d at (n % 256)) in
    let three : cell (with_word d at n) (at + 1) ≡ n / 256 % 256 = cell_put (with_cell d at (n % 256)) (at + 1) (n / 256 % 256) long in
    let four : n / 256 % 256 ≡ n / 256 = omega (arith, small) in
    record { small = small; low = one ∙ two; high = three ∙ four }

pub word_stays : (d : Store) (at n other m : ℕ) → Far other at → IsWord d other m → IsWord (with_word d at n) other m
word_stays d at n other m far w = record {
  small = w.small;
  low = word_put_other d at n other far.0.0 far.0.1 ∙ w.low;
  high = word_put_other d at n (other + 1) far.1.0 far.1.1 ∙ w.high;
}

word_beside : (d : Store) (c x other m : ℕ) → Off c other → IsWord d other m → IsWord (with_cell d c x) other m
word_beside d c x other m off w = record {
  small = w.small;
  low = cell_kept d c x other (λ e. off.0 (sym e)) ∙ w.low;
  high = cell_kept d c x (other + 1) (λ e. off.1 (sym e)) ∙ w.high;
}

-- Store d, worked upon: its words and cells for the routines are these, and the others and the devices are as before. An
-- outcome of 65536 says nothing.
pub record Works (s : Scratch) (d e : Store) (a b r n g : ℕ) : Type 0 where
  pub scratch : e.scratch ≡ s
  pub cells : length e.cells ≡ 1120
  pub left : IsWord e s.left a
  pub right : IsWord e s.right b
  pub outcome : r < 65536 → IsWord e s.outcome r
  pub count : cell e s.count ≡ n
  pub sign : cell e s.sign ≡ g
  pub kept : (c : ℕ) → IsOther s c → cell e c ≡ cell d c
  pub rest : e ≡ record d { cells = e.cells; flag = e.flag }

module _ (s : Scratch) (apart : IsApart s) (d e : Store) (a b r n g : ℕ) (w : Works s d e a b r n g) where
  within : (at : ℕ) → at + 1 < 1120 → at + 1 < length e.cells
  within at h = omega (arith, h, w.cells)

  pub put_left : (x : ℕ) → x < 65536 → Works s d (with_word e s.left x) x b r n g
  put_left x small =
      record {
        scratch = w.scratch;
        cells = words_kept e s.left x ∙ w.cells;
        left = put_word e s.left x (within s.left apart.left) small;
        right = word_stays e s.left x s.right b apart.right_left w.right;
        outcome = λ few. word_stays e s.left x s.outcome r apart.outcome_left (w.outcome few);
        count = word_put_other e s.left x s.count apart.count_left.0 apart.count_left.1 ∙ w.count;
        sign = word_put_other e s.left x s.sign apart.sign_left.0 apart.sign_left.1 ∙ w.sign;
        kept = λ c o. word_put_other e s.left x c o.left.0 o.left.1 ∙ w.kept c o;
        rest = ap {A = Store} (λ y. record y { cells = (with_word e s.left x).cells; flag = e.flag }) w.rest;
      }

  pub put_right : (x : ℕ) → x < 65536 → Works s d (with_word e s.right x) a x r n g
  put_right x small =
      record {
        scratch = w.scratch;
        cells = words_kept e s.right x ∙ w.cells;
        left = word_stays e s.right x s.left a apart.left_right w.left;
        right = put_word e s.right x (within s.right apart.right) small;
        outcome = λ few. word_stays e s.right x s.outcome r apart.outcome_right (w.outcome few);
        count = word_put_other e s.right x s.count apart.count_right.0 apart.count_right.1 ∙ w.count;
        sign = word_put_other e s.right x s.sign apart.sign_right.0 apart.sign_right.1 ∙ w.sign;
        kept = λ c o. word_put_other e s.right x c o.right.0 o.right.1 ∙ w.kept c o;
        rest = ap {A = Store} (λ y. record y { cells = (with_word e s.right x).cells; flag = e.flag }) w.rest;
      }

  pub put_outcome : (x : ℕ) → x < 65536 → Works s d (with_word e s.outcome x) a b x n g
  put_outcome x small =
      record {
        scratch = w.scratch;
        cells = words_kept e s.outcome x ∙ w.cells;
        left = word_stays e s.outcome x s.left a apart.left_outcome w.left;
        right = word_stays e s.outcome x s.right b apart.right_outcome w.right;
        outcome = λ few. put_word e s.outcome x (within s.outcome apart.outcome) small;
        count = word_put_other e s.outcome x s.count apart.count_outcome.0 apart.count_outcome.1 ∙ w.count;
        sign = word_put_other e s.outcome x s.sign apart.sign_outcome.0 apart.sign_outcome.1 ∙ w.sign;
        kept = λ c o. word_put_other e s.outcome x c o.outcome.0 o.outcome.1 ∙ w.kept c o;
        rest = ap {A = Store} (λ y. record y { cells = (with_word e s.outcome x).cells; flag = e.flag }) w.rest;
      }

  pub put_count : (x : ℕ) → Works s d (with_cell e s.count x) a b r x g
  put_count x =
      record {
        scratch = w.scratch;
        cells = cells_kept e s.count x ∙ w.cells;
        left = word_beside e s.count x s.left a apart.count_left w.left;
        right = word_beside e s.count x s.right b apart.count_right w.right;
        outcome = λ few. word_beside e s.count x s.outcome r apart.count_outcome (w.outcome few);
        count = cell_put e s.count x (omega (arith, apart.count, w.cells));
        sign = cell_kept e s.count x s.sign (λ f. apart.count_sign (sym f)) ∙ w.sign;
        kept = λ c o. cell_kept e s.count x c o.count ∙ w.kept c o;
        rest = ap {A = Store} (λ y. record y { cells = (with_cell e s.count x).cells; flag = e.flag }) w.rest;
      }

  pub put_sign : (x : ℕ) → Works s d (with_cell e s.sign x) a b r n x
  put_sign x =
      record {
        scratch = w.scratch;
        cells = cells_kept e s.sign x ∙ w.cells;
        left = word_beside e s.sign x s.left a apart.sign_left w.left;
        right = word_beside e s.sign x s.right b apart.sign_right w.right;
        outcome = λ few. word_beside e s.sign x s.outcome r apart.sign_outcome (w.outcome few);
        count = cell_kept e s.sign x s.count apart.count_sign ∙ w.count;
        sign = cell_put e s.sign x (omega (arith, apart.sign, w.cells));
        kept = λ c o. cell_kept e s.sign x c o.sign ∙ w.kept c o;
        rest = ap {A = Store} (λ y. record y { cells = (with_cell e s.sign x).cells; flag = e.flag }) w.rest;
      }

  pub put_flag : (f : Option Flag) → Works s d (record e { flag = f }) a b r n g
  put_flag f =
      record {
        scratch = w.scratch;
        cells = w.cells;
        left = record { small = w.left.small; low = w.left.low; high = w.left.high };
        right = record { small = w.right.small; low = w.right.low; high = w.right.high };
        outcome = λ few. let x = w.outcome few in record { small = x.small; low = x.low; high = x.high };
        count = w.count;
        sign = w.sign;
        kept = w.kept;
        rest = ap {A = Store} (λ y. record y { cells = e.cells; flag = f }) w.rest;
      }
