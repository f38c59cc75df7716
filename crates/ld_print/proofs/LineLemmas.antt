-- Lines that are short enough and have no line feed.
use Rattle.std.proofs.Common.{◌≡◌, ◌≢◌, ◌==◌, ℕ, ◌≤◌, Bool, true, false, not, List, [], ◌∷◌, ◌++◌, length, refl, ◌∙◌, arith}
use Rattle.std.proofs.lemmas.Bool.{and_parts, not-true}
use Rattle.std.specs.List.{list_all}
use Rattle.std.proofs.lemmas.Bool.Decides.{nat_tests}
use Rattle.std.proofs.lemmas.List.Elements.{All-cons, All-nil, All-head, All-tail}
use Rattle.std.proofs.lemmas.List.Folds.{list_all-append}
use Rattle.texts.specs.Lines.{IsLine}
use Rattle.texts.specs.declared.limits.TheConstants.{LINE_BYTES}
use Rattle.ld_print.specs.Words.{behind_spaces}
use Rattle.ld_print.proofs.TokenLemmas.{is_plain, AllTokens, plain_line}

abbrev pub not_feed : ℕ → Bool
not_feed b = not (b == 10)

pub record Fits (bytes : List ℕ) : Type 0 where
  pub short : length bytes ≤ LINE_BYTES
  pub clean : list_all not_feed bytes ≡ true

pub is_line : (bs : List ℕ) → list_all not_feed bs ≡ true → IsLine bs
is_line [] h = All-nil (λ x. x ≢ 10)
is_line (b ∷ bs) h = let g = and_parts (not_feed b) (list_all not_feed bs) h in All-cons (λ x. x ≢ 10) b bs (no b g.0) (is_line bs g.1)
  where
    no : (b : ℕ) → not (b == 10) ≡ true → b ≢ 10
    no b h = let e = not-true (b == 10) h in grind (arith, nat_tests)

pub clean_line : (bs : List ℕ) → IsLine bs → list_all not_feed bs ≡ true
clean_line [] h = refl
clean_line (b ∷ bs) h = rw (no b (All-head (λ x. x ≢ 10) b bs h), clean_line bs (All-tail (λ x. x ≢ 10) b bs h)) refl
  where
    no : (b : ℕ) → b ≢ 10 → (b == 10) ≡ false
    no b h = grind (arith, nat_tests)

pub clean_both : (a b : List ℕ) → list_all not_feed a ≡ true → list_all not_feed b ≡ true → list_all not_feed (a ++ b) ≡ true
clean_both a b h g = list_all-append not_feed a b ∙ rw (h, g) refl

pub clean_token : (t : List ℕ) → list_all is_plain t ≡ true → list_all not_feed t ≡ true
clean_token t h = clean_line t (plain_line t h)

pub clean_behind : (ts : List (List ℕ)) → AllTokens ts → list_all not_feed (behind_spaces ts) ≡ true
clean_behind [] h = refl
clean_behind (t ∷ ts) h = clean_both t (behind_spaces ts) (clean_token t h.0.plain) (clean_behind ts h.1)
