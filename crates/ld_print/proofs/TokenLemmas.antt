-- The tokens of lines that are printed.
use Rattle.std.proofs.Common.{◌≡◌, ◌≢◌, ◌==◌, ◌&&◌, ℕ, suc, zero, ◌+◌, ◌*◌, ◌<◌, ◌≤◌, nat_le, Bool, true, false, not, if◌then◌else◌, List, [], ◌∷◌, ◌++◌, length, reverse, refl, sym, ap, ◌∙◌, arith, append-nil, length-append}
use Rattle.std.proofs.lemmas.Bool.{and_parts, not-true}
use Rattle.std.specs.Prelude.{filter, replicate}
use Rattle.std.specs.List.{list_all}
use Rattle.std.proofs.lemmas.Bool.Decides.{nat_tests}
use Rattle.std.proofs.lemmas.List.{reverse-append, reverse-reverse}
use Rattle.std.proofs.lemmas.List.Elements.{All-cons, All-nil}
use Rattle.texts.specs.Lines.{onto, IsLine}
use Rattle.ld_line.proofs.TokenLemmas.{kept}
use Rattle.ld_line.specs.Tokens.{is_blank, is_return, behind, before, trimmed, between_blanks, is_some_bytes, runs, tokens}
use Rattle.ld_print.specs.Words.{behind_spaces}

-- a byte that a token may have: no blank, no carriage return, no line feed
abbrev pub is_plain : ℕ → Bool
is_plain b = not (is_blank b) && (not (is_return b) && not (b == 10))

pub record IsToken (t : List ℕ) : Type 0 where
  pub some : 0 < length t
  pub plain : list_all is_plain t ≡ true

pub no_blank : (b : ℕ) → is_plain b ≡ true → is_blank b ≡ false
no_blank b h = not-true (is_blank b) (and_parts (not (is_blank b)) (not (is_return b) && not (b == 10)) h).0

pub no_return : (b : ℕ) → is_plain b ≡ true → is_return b ≡ false
no_return b h = not-true (is_return b) (and_parts (not (is_return b)) (not (b == 10)) (and_parts (not (is_blank b)) (not (is_return b) && not (b == 10)) h).1).0

no_feed : (b : ℕ) → is_plain b ≡ true → b ≢ 10
no_feed b h =
    let e = not-true (b == 10) (and_parts (not (is_return b)) (not (b == 10)) (and_parts (not (is_blank b)) (not (is_return b) && not (b == 10)) h).1).1 in
    grind (arith, nat_tests)

pub at_most : (n most : ℕ) → nat_le n most ≡ true → n ≤ most
at_most n most h = grind (arith, nat_tests)

pub plain_line : (t : List ℕ) → list_all is_plain t ≡ true → IsLine t
plain_line [] h = All-nil (λ x. x ≢ 10)
plain_line (x ∷ xs) h = let g = and_parts (is_plain x) (list_all is_plain xs) h in All-cons (λ x. x ≢ 10) x xs (no_feed x g.0) (plain_line xs g.1)

-- tokens

between_word : (t rest : List ℕ) → list_all is_plain t ≡ true → between_blanks (t ++ 32 ∷ rest) ≡ t ∷ between_blanks rest
between_word [] rest h = refl
between_word (x ∷ xs) rest h =
    let g = and_parts (is_plain x) (list_all is_plain xs) h in
    ap (λ b. if b then [] ∷ between_blanks (xs ++ 32 ∷ rest) else onto x (between_blanks (xs ++ 32 ∷ rest))) (no_blank x g.0)
    ∙ ap (onto x) (between_word xs rest g.1)

between_last : (t : List ℕ) → list_all is_plain t ≡ true → between_blanks t ≡ t ∷ []
between_last [] h = refl
between_last (x ∷ xs) h =
    let g = and_parts (is_plain x) (list_all is_plain xs) h in
    ap (λ b. if b then [] ∷ between_blanks xs else onto x (between_blanks xs)) (no_blank x g.0)
    ∙ ap (onto x) (between_last xs g.1)

pub runs_word : (t rest : List ℕ) → IsToken t → runs (t ++ 32 ∷ rest) ≡ t ∷ runs rest
runs_word t rest h = ap (filter is_some_bytes) (between_word t rest h.plain) ∙ kept t (between_blanks rest) h.some

runs_last : (t : List ℕ) → IsToken t → runs t ≡ t ∷ []
runs_last t h = ap (filter is_some_bytes) (between_last t h.plain) ∙ kept t [] h.some

pub runs_indent : (n : ℕ) (xs : List ℕ) → runs (replicate n 32 ++ xs) ≡ runs xs
runs_indent zero xs = refl
runs_indent (suc n) xs = runs_indent n xs

abbrev pub AllTokens : List (List ℕ) → Type 0
AllTokens [] = Unit {0}
AllTokens (t ∷ ts) = IsToken t × AllTokens ts

-- a token of up to 64 bytes, as names, flags and numbers are
pub record IsShort (t : List ℕ) : Type 0 where
  pub token : IsToken t
  pub short : length t ≤ 64

abbrev pub AllShort : List (List ℕ) → Type 0
AllShort [] = Unit {0}
AllShort (t ∷ ts) = IsShort t × AllShort ts

pub short_tokens : (ts : List (List ℕ)) → AllShort ts → AllTokens ts
short_tokens [] h = tt
short_tokens (t ∷ ts) h = (h.0.token, short_tokens ts h.1)

pub length-behind_spaces : (t : List ℕ) (ts : List (List ℕ)) → length (behind_spaces (t ∷ ts)) ≡ 1 + (length t + length (behind_spaces ts))
length-behind_spaces t ts = ap suc (length-append t (behind_spaces ts)) ∙ omega arith

pub short_behind : (ts : List (List ℕ)) → AllShort ts → length (behind_spaces ts) ≤ 65 * length ts
short_behind [] h = omega arith
short_behind (t ∷ ts) h = omega (arith, length-behind_spaces t ts, h.0.short, short_behind ts h.1)

pub runs_tokens : (t : List ℕ) (ts : List (List ℕ)) → IsToken t → AllTokens ts → runs (t ++ behind_spaces ts) ≡ t ∷ ts
runs_tokens t [] h g = ap runs (append-nil t) ∙ runs_last t h
runs_tokens t (u ∷ us) h g = runs_word t (u ++ behind_spaces us) h ∙ ap (λ l. t ∷ l) (runs_tokens u us g.0 g.1)

-- the last byte does not pass the test
abbrev pub ends : (ℕ → Bool) → List ℕ → Bool
ends test [] = true
ends test (x ∷ []) = not (test x)
ends test (x ∷ y ∷ ys) = ends test (y ∷ ys)

record Split (test : ℕ → Bool) (xs : List ℕ) : Type 0 where
  front : List ℕ
  last : ℕ
  is : xs ≡ front ++ last ∷ []
  fails : test last ≡ false

split : (test : ℕ → Bool) (x : ℕ) (xs : List ℕ) → ends test (x ∷ xs) ≡ true → Split test (x ∷ xs)
split test x [] h = record { front = []; last = x; is = refl; fails = not-true (test x) h }
split test x (y ∷ ys) h = let s = split test y ys h in record { front = x ∷ s.front; last = s.last; is = ap (λ l. x ∷ l) s.is; fails = s.fails }

before_split : (test : ℕ → Bool) (xs : List ℕ) → Split test xs → before test xs ≡ xs
before_split test xs s =
    let turned : reverse xs ≡ s.last ∷ reverse s.front = ap reverse s.is ∙ reverse-append s.front (s.last ∷ []) in
    ap (λ r. reverse (behind test r)) turned
    ∙ ap (λ b. reverse (if b then behind test (reverse s.front) else s.last ∷ reverse s.front)) s.fails
    ∙ ap reverse (sym turned) ∙ reverse-reverse xs

pub before_same : (test : ℕ → Bool) (xs : List ℕ) → ends test xs ≡ true → before test xs ≡ xs
before_same test [] h = refl
before_same test (x ∷ xs) h = before_split test (x ∷ xs) (split test x xs h)

pub ends-append : (test : ℕ → Bool) (xs : List ℕ) (y : ℕ) (ys : List ℕ) → ends test (xs ++ y ∷ ys) ≡ ends test (y ∷ ys)
ends-append test [] y ys = refl
ends-append test (x ∷ []) y ys = refl
ends-append test (x ∷ z ∷ zs) y ys = ends-append test (z ∷ zs) y ys

pub ends_plain : (test : ℕ → Bool) (xs : List ℕ) → ((b : ℕ) → is_plain b ≡ true → test b ≡ false) → list_all is_plain xs ≡ true → ends test xs ≡ true
ends_plain test [] fails h = refl
ends_plain test (x ∷ []) fails h = ap not (fails x (and_parts (is_plain x) true h).0)
ends_plain test (x ∷ y ∷ ys) fails h = ends_plain test (y ∷ ys) fails (and_parts (is_plain x) (list_all is_plain (y ∷ ys)) h).1

pub ends_some : (test : ℕ → Bool) (xs t : List ℕ) → 0 < length t → ends test t ≡ true → ends test (xs ++ t) ≡ true
ends_some test xs [] some h = absurd (omega arith)
ends_some test xs (y ∷ ys) some h = ends-append test xs y ys ∙ h

ends_tokens : (t : List ℕ) (ts : List (List ℕ)) → IsToken t → AllTokens ts
    → (0 < length (t ++ behind_spaces ts)) × (ends is_return (t ++ behind_spaces ts) ≡ true)
ends_tokens t [] h g = rw (append-nil t) (h.some, ends_plain is_return t no_return h.plain)
ends_tokens t (u ∷ us) h g =
    let rest = ends_tokens u us g.0 g.1 in (
      long t (32 ∷ u ++ behind_spaces us) h.some,
      ends-append is_return t 32 (u ++ behind_spaces us) ∙ ends_some is_return (32 ∷ []) (u ++ behind_spaces us)
          rest.0 rest.1,
    )
  where
    long : (a b : List ℕ) → 0 < length a → 0 < length (a ++ b)
    long [] b k = absurd (omega arith)
    long (x ∷ a) b k = omega arith

-- the tokens of a line that is printed: blanks in front, a word, and tokens behind it
pub tokens_printed : (n : ℕ) (t : List ℕ) (ts : List (List ℕ)) → IsToken t → AllTokens ts → tokens (replicate n 32 ++ (t ++ behind_spaces ts)) ≡ t ∷ ts
tokens_printed n t ts h g =
    let e = ends_tokens t ts h g in
    ap runs (before_same is_return (replicate n 32 ++ (t ++ behind_spaces ts)) (ends_some is_return (replicate n 32) (t ++ behind_spaces ts) e.0 e.1))
    ∙ runs_indent n (t ++ behind_spaces ts) ∙ runs_tokens t ts h g

-- a line that is one token is its own text
behind_plain : (x : ℕ) (xs : List ℕ) → is_plain x ≡ true → behind is_blank (x ∷ xs) ≡ x ∷ xs
behind_plain x xs h = ap (λ b. if b then behind is_blank xs else x ∷ xs) (no_blank x h)

pub trimmed_token : (t : List ℕ) → IsToken t → trimmed t ≡ t
trimmed_token t h =
    ap (λ l. before is_blank (behind is_blank l)) (before_same is_return t (ends_plain is_return t no_return h.plain))
    ∙ ap (before is_blank) (by t h.some h.plain) ∙ before_same is_blank t (ends_plain is_blank t no_blank h.plain)
  where
    by : (t : List ℕ) → 0 < length t → list_all is_plain t ≡ true → behind is_blank t ≡ t
    by [] some h = absurd (omega arith)
    by (x ∷ xs) some h = behind_plain x xs (and_parts (is_plain x) (list_all is_plain xs) h).0

pub tokens_token : (t : List ℕ) → IsToken t → tokens t ≡ t ∷ []
tokens_token t h = ap runs (before_same is_return t (ends_plain is_return t no_return h.plain)) ∙ runs_last t h

-- a comment

pub behind_indent : (n : ℕ) (xs : List ℕ) → behind is_blank (replicate n 32 ++ xs) ≡ behind is_blank xs
behind_indent zero xs = refl
behind_indent (suc n) xs = behind_indent n xs
