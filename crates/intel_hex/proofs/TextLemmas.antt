-- How a text is put together from its records.
use Rattle.std.proofs.Common.{◌≡◌, ℕ, suc, ◌+◌, ◌-◌, ◌*◌, ◌<◌, ◌≤◌, List, [], ◌∷◌, ◌++◌, length, take, drop, min, refl, ap, ◌∙◌, append_assoc, length-append, arith}
use Rattle.std.proofs.lemmas.List.{take_min, drop_min}
use Rattle.intel_hex.specs.Record.{line_of}
use Rattle.intel_hex.specs.Text.{word_bytes, data_lines}

pub length-word_bytes : (ws : List ℕ) → length (word_bytes ws) ≡ 2 * length ws
length-word_bytes [] = refl
length-word_bytes (w ∷ ws) = let rest = length-word_bytes ws in omega arith

-- the bytes of a front of at most eight words
pub few_bytes : (front rest : List ℕ) (ws : List ℕ) → length ws ≤ 8 → front ++ rest ≡ word_bytes ws → length front < 256
few_bytes front rest ws h e =
    let whole = length-word_bytes ws in
    let parts = length-append front rest in
    let same : length (front ++ rest) ≡ length (word_bytes ws) = ap length e in
    omega arith

-- one record more
pub words_more : (end place : ℕ) (rest front behind text next : List ℕ) → place < end
    → front ≡ take (min 8 (length rest)) rest → behind ≡ drop (min 8 (length rest)) rest → next ≡ text ++ line_of 0 (16 * place) (word_bytes front)
    → next ++ data_lines (end - (place + 1)) (16 * (place + 1)) behind ≡ text ++ data_lines (end - place) (16 * place) rest
words_more end place rest front behind text next h f b n =
    let first : front ≡ take 8 rest = f ∙ take_min 8 rest in
    let others : behind ≡ drop 8 rest = b ∙ drop_min 8 rest in
    let address : 16 * (place + 1) ≡ 16 * place + 16 = omega arith in
    let left : end - place ≡ suc (end - (place + 1)) = omega arith in
    rw (n, first, others, address, left) (append_assoc text (line_of 0 (16 * place) (word_bytes (take 8 rest))) _)
