-- Words in front of bytes.
use Rattle.std.proofs.Common.{◌≡◌, ◌==◌, ℕ, Bool, true, false, ◌&&◌, if◌then◌else◌, List, [], ◌∷◌, ◌+◌, Bor, length, take, drop, Option, Some, None, MatchOption, refl, sym, ap, ◌∙◌}
use Rattle.std.specs.Option.{option_map}
use Rattle.std.specs.Str.{bytes_eq}
use Rattle.ld_line.specs.Header.{behind_word}

pub behind_by : (word bytes : List ℕ) → behind_word word bytes ≡ (if bytes_eq (take (length word) bytes) word then Some (drop (length word) bytes) else None)
behind_by [] bytes = refl
behind_by (w ∷ ws) [] = refl
behind_by (w ∷ ws) (b ∷ bs) = by (b == w) (behind_by ws bs)
  where
    by : (x : Bool) → behind_word ws bs ≡ (if bytes_eq (take (length ws) bs) ws then Some (drop (length ws) bs) else None)
        → (if x then behind_word ws bs else None) ≡ (if x && bytes_eq (take (length ws) bs) ws then Some (drop (length ws) bs) else None)
    by true h = h
    by false h = refl

abbrev IsStripped : List ℕ → List ℕ → Option (Bor (List ℕ)) → Type 0
IsStripped word bytes result =
    MatchOption result (bytes_eq (take (length word) bytes) word ≡ false)
    (λ x. (bytes_eq (take (length word) bytes) word ≡ true) × (x.now ≡ drop (length word) bytes) × (length x.now + length word ≡ length bytes))

pub stripped : (word bytes : List ℕ) (result : Option (Bor (List ℕ))) → IsStripped word bytes result → option_map (λ b. b.now) result ≡ behind_word word bytes
stripped word bytes None h = sym (behind_by word bytes ∙ ap (λ b. if b then Some (drop (length word) bytes) else None) h)
stripped word bytes (Some x) h = ap Some h.1 ∙ sym (behind_by word bytes ∙ ap (λ b. if b then Some (drop (length word) bytes) else None) h.0)
