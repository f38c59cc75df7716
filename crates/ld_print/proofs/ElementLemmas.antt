-- What the printed lines of rungs say.
use Rattle.std.proofs.Common.{◌≡◌, ℕ, ◌<◌, ◌≤◌, true, false, not, List, [], ◌∷◌, ◌++◌, drop, length, codes, Some, None, refl, ap, ◌∙◌, arith, append-nil, length-append}
use Rattle.std.specs.Prelude.{replicate}
use Rattle.std.specs.List.{list_all}
use Rattle.chip_tables.specs.declared.target.Target.{Target}
use Rattle.chip_tables.specs.declared.target.Target.TheVariants.{F628, F877, Mega16, Interp, AnsiC}
use Rattle.ladder_tree.specs.declared.element.CoilMode.{CoilMode}
use Rattle.ladder_tree.specs.declared.element.CoilMode.TheVariants as mode
use Rattle.ladder_tree.specs.declared.element.LeafKind.{LeafKind}
use Rattle.ladder_tree.specs.declared.element.LeafKind.TheVariants as kind
use Rattle.ld_line.specs.Elements.{element_of}
use Rattle.ld_line.specs.Range.{is_read_kind}
use Rattle.ld_line.specs.Rungs.{alone, alone_or, element_by, rung_tokens_say}
use Rattle.ld_line.specs.Said.{said_map}
use Rattle.ld_line.specs.Tokens.{is_blank, is_return, behind, tokens, runs, without_returns}
use Rattle.ld_line.specs.Kinds.{word_for, is_kind_built}
use Rattle.ld_line.specs.Words.{spelling, word_of, is_built}
use Rattle.ld_line.specs.declared.said.Said.TheVariants.{Is}
use Rattle.ld_line.specs.declared.rungs.RungLine.TheVariants as rung
use Rattle.ld_line.specs.declared.word.Word.{Word}
use Rattle.ld_line.specs.declared.word.Word.TheVariants as word
use Rattle.ld_text.specs.declared.heard.Mark.TheVariants as mark
use Rattle.ld_text.specs.declared.heard.LineForm.TheVariants.{Body}
use Rattle.ld_text.specs.declared.place.Site.TheVariants as site
use Rattle.ld_text.specs.Place.{unless_blank, inside, said_in}
use Rattle.ld_text.specs.Faults.{has_unbuilt_word, begins_unbuilt}
use Rattle.ld_print.specs.Words as words
use Rattle.ld_print.proofs.TokenLemmas.{IsToken, short_tokens, short_behind, ends, ends_some, before_same, behind_indent, runs_indent, runs_word, tokens_printed}
use Rattle.ld_print.proofs.LineLemmas.{not_feed, Fits, clean_both, clean_token, clean_behind}
use Rattle.ld_print.proofs.KindLemmas.{is_comment, kind_begins, kind_short, kind_read}
use Rattle.texts.specs.declared.limits.TheConstants.{LINE_BYTES}

-- a comment's text that stands on a line behind the word
pub record FitsLine (text : List ℕ) : Type 0 where
  pub short : length text ≤ 504
  pub clean : list_all not_feed text ≡ true
  pub ends : ends is_return text ≡ true

-- The text of a comment, and the values of a table, can be too much for a line.
abbrev pub TextFits : LeafKind → Type 0
TextFits (kind.Comment text) = FitsLine text
TextFits (kind.Table dest index as_text values) = length (words.element_words (kind.Table dest index as_text values)) ≤ LINE_BYTES
TextFits _ = Unit {0}

-- an element that is read again where it is printed
pub record IsPrintable (k : LeafKind) : Type 0 where
  pub read : is_read_kind k ≡ true
  pub text : TextFits k

-- what an element's line says, and that it begins with no word that is not built where the element is

pub record ElementSaid (k : LeafKind) (line : List ℕ) : Type 0 where
  pub said : (number : ℕ) → said_in site.Inside number line ≡ Is (Body (mark.Element (record { line = number; kind = k })))
  pub built : (t : Target) → is_kind_built t k ≡ true → begins_unbuilt t (tokens line) ≡ false

said_by_word : (line token : List ℕ) (rest : List (List ℕ)) (w : Word) (k : LeafKind) → tokens line ≡ token ∷ rest → alone token ≡ None
    → word_of token ≡ Some w → w ≡ word_for k → element_of w rest line ≡ Is k → ElementSaid k line
said_by_word line token rest w k e a h same g = record {
  said = λ number.
      ap (λ ts. unless_blank ts (inside number (rung_tokens_say ts line))) e
      ∙ ap (λ o. inside number (alone_or o rest (element_by (word_of token) rest line))) a
      ∙ ap (λ o. inside number (element_by o rest line)) h
      ∙ ap (λ s. inside number (said_map rung.Element s)) g;
  built = λ t f. ap (begins_unbuilt t) e ∙ ap (has_unbuilt_word t) h ∙ ap (λ x. not (is_built t x)) same ∙ ap not f;
}

comment_word : IsToken (codes "COMMENT")
comment_word = record { some = omega arith; plain = refl }

bare_comment : (n : ℕ) → ElementSaid (kind.Comment []) (replicate n 32 ++ codes "COMMENT")
bare_comment n =
    let line = replicate n 32 ++ codes "COMMENT" in
    said_by_word line (codes "COMMENT") [] word.Comment (kind.Comment []) (tokens_printed n (codes "COMMENT") [] comment_word tt) refl refl refl
    (ap (λ l. Is (kind.Comment (drop 8 (behind is_blank l)))) (before_same is_return line (ends_some is_return (replicate n 32) (codes "COMMENT") (omega arith)
    refl))
    ∙ ap (λ l. Is (kind.Comment (drop 8 l))) (behind_indent n (codes "COMMENT")))

some_comment : (n : ℕ) (text : List ℕ) → 0 < length text → ends is_return text ≡ true
    → ElementSaid (kind.Comment text) (replicate n 32 ++ (codes "COMMENT" ++ 32 ∷ text))
some_comment n text some e =
    let line = replicate n 32 ++ (codes "COMMENT" ++ 32 ∷ text) in
    let whole : without_returns line ≡ line = before_same is_return line (ends_some is_return (replicate n 32) (codes "COMMENT" ++ 32 ∷ text) (omega arith)
    (ends_some is_return (codes "COMMENT ") text some e)) in
    said_by_word line (codes "COMMENT") (runs text) word.Comment (kind.Comment text)
    (ap runs whole ∙ runs_indent n (codes "COMMENT" ++ 32 ∷ text) ∙ runs_word (codes "COMMENT") text comment_word) refl refl refl
    (ap (λ l. Is (kind.Comment (drop 8 (behind is_blank l)))) whole
    ∙ ap (λ l. Is (kind.Comment (drop 8 l))) (behind_indent n (codes "COMMENT" ++ 32 ∷ text)))

comment_said : (n : ℕ) (text : List ℕ) → FitsLine text → ElementSaid (kind.Comment text) (replicate n 32 ++ words.element_words (kind.Comment text))
comment_said n [] f = bare_comment n
comment_said n (c ∷ cs) f = rw (append-nil cs) (some_comment n (c ∷ cs) (omega arith) f.ends)

-- the line of an element that is no comment behind blanks
plain_said : (n : ℕ) (k : LeafKind) → IsPrintable k → is_comment k ≡ false → ElementSaid k (replicate n 32 ++ words.element_words k)
plain_said n k p c =
    let line = replicate n 32 ++ words.element_words k in
    let w = kind_begins k p.read in
    said_by_word line (spelling (word_for k)) (words.tokens_behind k) (word_for k) k
    (tokens_printed n (spelling (word_for k)) (words.tokens_behind k) w.is_token (short_tokens (words.tokens_behind k) (kind_short k p.read c))) w.no_form
    w.known refl (kind_read k p.read c line)

-- the line of an element behind blanks
pub element_said : (n : ℕ) (k : LeafKind) → IsPrintable k → ElementSaid k (replicate n 32 ++ words.element_words k)
element_said n (kind.Comment text) p = comment_said n text p.text
element_said n _ p = plain_said n _ p refl

-- the words of an element fit a line

comment_fits : (text : List ℕ) → FitsLine text → Fits (words.element_words (kind.Comment text))
comment_fits [] f = record { short = omega arith; clean = refl }
comment_fits (c ∷ cs) f = record {
  short = omega (arith, ap length (append-nil (c ∷ cs)), f.short);
  clean = clean_both (codes "COMMENT ") ((c ∷ cs) ++ []) refl (ap (list_all not_feed) (append-nil (c ∷ cs)) ∙ f.clean);
}

-- four tokens behind a word
few_tokens : (k : LeafKind) → length (words.tokens_behind k) ≤ 4 → is_read_kind k ≡ true → is_comment k ≡ false → length (words.element_words k) ≤ LINE_BYTES
few_tokens k few h c =
    omega (
      arith,
      length-append (spelling (word_for k)) (words.behind_spaces (words.tokens_behind k)),
      (kind_begins k h).short,
      short_behind
          (words.tokens_behind k) (kind_short k h c),
      few,
    )

four_flags : (name : List ℕ) (m : CoilMode) → length (words.tokens_behind (kind.Coil name m)) ≤ 4
four_flags name mode.Plain = omega arith
four_flags name mode.Negated = omega arith
four_flags name mode.Set = omega arith
four_flags name mode.Reset = omega arith

short_enough : (k : LeafKind) → IsPrintable k → is_comment k ≡ false → length (words.element_words k) ≤ LINE_BYTES
short_enough (kind.Coil name m) p c = few_tokens (kind.Coil name m) (four_flags name m) p.read refl
short_enough (kind.Table dest index as_text values) p c = p.text
short_enough (kind.Comment text) p c = absurd cc
short_enough (kind.Linear dest index points) p c = absurd (let h = p.read in cc)
short_enough (kind.Formatted name text) p c = absurd (let h = p.read in cc)
short_enough k p c = few_tokens k (omega arith) p.read refl

plain_fits : (k : LeafKind) → IsPrintable k → is_comment k ≡ false → Fits (words.element_words k)
plain_fits k p c =
    let w = kind_begins k p.read in
    let ts = short_tokens (words.tokens_behind k) (kind_short k p.read c) in
    record {
      short = short_enough k p c;
      clean = clean_both (spelling (word_for k)) (words.behind_spaces (words.tokens_behind k))
          (clean_token (spelling (word_for k)) w.is_token.plain) (clean_behind (words.tokens_behind k) ts);
    }

pub element_fits : (k : LeafKind) → IsPrintable k → Fits (words.element_words k)
element_fits (kind.Comment text) p = comment_fits text p.text
element_fits _ p = plain_fits _ p refl
