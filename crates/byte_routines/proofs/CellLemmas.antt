-- Cells and words that are written, and the others.
use Rattle.std.proofs.Common.{◌≡◌, ◌≢◌, ℕ, ◌+◌, ◌*◌, ◌/◌, ◌%◌, ◌<◌, length, ◌∙◌, arith, length-set}
use Rattle.std.proofs.lemmas.List.{get_or-set_same, get_or-set_other}
use Rattle.byte_code.specs.declared.store.Store.{Store}
use Rattle.byte_code.specs.Store.{cell, with_cell, word_at, with_word}

pub cell_put : (d : Store) (a x : ℕ) → a < length d.cells → cell (with_cell d a x) a ≡ x
cell_put d a x h = get_or-set_same d.cells a x 0 h

pub cell_kept : (d : Store) (a x c : ℕ) → c ≢ a → cell (with_cell d a x) c ≡ cell d c
cell_kept d a x c ne = get_or-set_other d.cells a c x 0 ne

pub cells_kept : (d : Store) (a x : ℕ) → length (with_cell d a x).cells ≡ length d.cells
cells_kept d a x = length-set d.cells a x

joined : (n x y : ℕ) → n < 65536 → x ≡ n % 256 → y ≡ n / 256 % 256 → x + y * 256 ≡ n
joined n x y small e f = omega (arith, small, e, f)

next_apart : (a : ℕ) → a ≢ a + 1
next_apart a e = omega (arith, e)

-- the word that was put is there
pub word_put : (d : Store) (a n : ℕ) → a + 1 < length d.cells → n < 65536 → word_at (with_word d a n) a ≡ n
word_put d a n h small =
    let low = with_cell d a (n % 256) in
    let first = cell_kept low (a + 1) (n / 256 % 256) a (next_apart a) ∙ cell_put d a (n % 256) (omega (arith, h)) in
    let second = cell_put low (a + 1) (n / 256 % 256) (omega (arith, h, cells_kept d a (n % 256))) in
    joined n _ _ small first second

-- a cell that is neither of its two
pub word_put_other : (d : Store) (a n c : ℕ) → c ≢ a → c ≢ a + 1 → cell (with_word d a n) c ≡ cell d c
word_put_other d a n c low high = cell_kept (with_cell d a (n % 256)) (a + 1) (n / 256 % 256) c high ∙ cell_kept d a (n % 256) c low

pub words_kept : (d : Store) (a n : ℕ) → length (with_word d a n).cells ≡ length d.cells
words_kept d a n = cells_kept (with_cell d a (n % 256)) (a + 1) (n / 256 % 256) ∙ cells_kept d a (n % 256)

both : (w x y v : ℕ) → w ≡ x → v ≡ y → w + v * 256 ≡ x + y * 256
both w x y v e f = omega (arith, e, f)

-- a word of two cells that are none of those written
pub word_kept : (d e : Store) (c : ℕ) → cell e c ≡ cell d c → cell e (c + 1) ≡ cell d (c + 1) → word_at e c ≡ word_at d c
word_kept d e c low high = both (cell e c) (cell d c) (cell d (c + 1)) (cell e (c + 1)) low high
