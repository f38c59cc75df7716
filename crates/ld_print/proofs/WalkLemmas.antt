-- Printed lines have no fault and say what was read.
use Rattle.std.proofs.Common.{◌≡◌, ◌&&◌, ◌||◌, eqb, ltb, leb, ℕ, ◌+◌, ◌-◌, ◌*◌, ◌<◌, ◌≤◌, nat_le, Bool, true, false, not, if◌then◌else◌, List, [], ◌∷◌, ◌++◌, length, map, codes, Option, Some, None, refl, sym, ap, subst, ◌∙◌, arith, append-nil, length-append}
use Rattle.std.specs.Prelude.{replicate}
use Rattle.std.proofs.lemmas.Bool.Decides.{nat_tests}
use Rattle.std.proofs.lemmas.List.{length-replicate}
use Rattle.chip_tables.specs.declared.target.Target.{Target}
use Rattle.ladder_tree.specs.declared.element.Leaf as leaf
use Rattle.ladder_tree.specs.declared.fault.ProjectFault.{ProjectFault}
use Rattle.ladder_tree.specs.declared.fault.ProjectFault.TheVariants as fault
use Rattle.ladder_tree.specs.declared.limits.TheConstants.{RUNGS, ELEMENTS, OPENINGS, DEPTH}
use Rattle.ld_line.specs.Tokens.{tokens}
use Rattle.ld_line.specs.declared.said.Said.TheVariants.{Is}
use Rattle.ld_line.specs.declared.rungs.Circuit.{Circuit}
use Rattle.ld_line.specs.declared.rungs.Circuit.TheVariants as circuit
use Rattle.ld_text.specs.declared.heard.Mark.{Mark}
use Rattle.ld_text.specs.declared.heard.Mark.TheVariants as mark
use Rattle.ld_text.specs.declared.heard.LineForm.{LineForm}
use Rattle.ld_text.specs.declared.heard.LineForm.TheVariants.{Blank, Magic, Header, Pins, Body}
use Rattle.ld_text.specs.declared.place.Site.{Site}
use Rattle.ld_text.specs.declared.place.Site.TheVariants as site
use Rattle.ld_text.specs.Lines.{Line}
use Rattle.ld_line.specs.Rungs.{rung_tokens_say}
use Rattle.ld_text.proofs.SaidLemmas.{AllowedAt}
use Rattle.ld_text.specs.Place.{Place, unless_blank, inside, said_in, behind_form, behind_said, behind_all}
use Rattle.ld_text.specs.Place as place
use Rattle.ld_text.specs.Faults.{is_first, counting, begins_unbuilt, names_unbuilt, is_chipless, is_too_deep, is_one_too_many, fault_of, fault_at, first_fault, or_else, row, first_row}
use Rattle.ld_text.specs.Text.{unblanked, said_by}
use Rattle.ld_print.specs.Printed.{indented}
use Rattle.ld_print.specs.Words.{element_words}
use Rattle.ld_print.proofs.TokenLemmas.{IsToken, tokens_printed}
use Rattle.ld_print.proofs.ElementLemmas.{element_said, element_fits}
use Rattle.ld_print.proofs.FineLemmas.{Fine, AllFine, at_element, unsized, behind_unsized}
use Rattle.ld_print.proofs.MarkLemmas.{circuit_word, mark_line, indent_behind, mark_lines}
use Rattle.ld_print.proofs.NumberedLemmas.{with_line, numbered}
use Rattle.texts.specs.declared.limits.TheConstants.{LINE_BYTES, FILE_BYTES}

abbrev pub line_of : List ℕ → Line
line_of bytes = record { bytes = bytes; is_ended = true }

-- from a place on, the lines have no fault, say this, and the text may end behind them
pub record Goes (p : Place) (n : ℕ) (ls : List Line) (fs : List LineForm) : Type 0 where
  pub faultless : first_fault p n ls ≡ None
  pub said : said_by p n ls ≡ map Is fs
  pub closed : (behind_all p n ls).site ≡ site.Between

-- a line of which this is known goes, where there is room for it
pub record LineGoes (p : Place) (n : ℕ) (bytes : List ℕ) (f : LineForm) : Type 0 where
  pub said : said_in p.site n bytes ≡ Is f
  pub short : length bytes ≤ LINE_BYTES
  pub free : is_first p.site ≡ false → begins_unbuilt (counting p.site p.target) (tokens bytes) ≡ false
  pub built : names_unbuilt (Is f) ≡ false
  pub chip : is_chipless p.target (Is f) ≡ false
  pub shallow : is_too_deep p (Is f) ≡ false
  pub few : is_one_too_many p (Is f) ≡ false
  pub room : p.bytes + (length bytes + 1) ≤ FILE_BYTES

no_row : (a b c d e f g h : Bool) (r s t u v w x y : ProjectFault) → a ≡ false → b ≡ false → c ≡ false → d ≡ false → e ≡ false → f ≡ false → g ≡ false
    → h ≡ false → first_row (row a r ∷ row b s ∷ row c t ∷ row d u ∷ row e v ∷ row f w ∷ row g x ∷ row h y ∷ []) ≡ None
no_row a b c d e f g h r s t u v w x y ea eb ec ed ee ef eg eh = rw (ea, eb, ec, ed, ee, ef, eg, eh) refl

no_fault : (p : Place) (n : ℕ) (bytes : List ℕ) (f : LineForm) → LineGoes p n bytes f → fault_at p n (line_of bytes) ≡ None
no_fault p n bytes f g =
    ap (fault_of p n bytes (length bytes + 1)) g.said
    ∙ no_row (ltb LINE_BYTES (length bytes)) (is_first p.site && false) (not (is_first p.site) && (begins_unbuilt (counting p.site p.target) (tokens bytes) || names_unbuilt
    (Is f))) false (is_chipless p.target (Is f)) false (is_too_deep p (Is f)) (is_one_too_many p (Is f) || ltb FILE_BYTES (p.bytes + (length bytes + 1)))
    (fault.LineTooLong n) (fault.NotProject n) (fault.NotBuilt n) (fault.BadLine n) (fault.UnknownChip n) (fault.NumberRange n) (fault.TooDeep n)
    (fault.TooMany n)
    long (no (is_first p.site)) (free (is_first p.site) g.free) refl g.chip refl g.shallow (few (is_one_too_many p (Is f)) g.few)
  where
    long : ltb LINE_BYTES (length bytes) ≡ false
    long = let s = g.short in grind (arith, nat_tests)

    far : ltb FILE_BYTES (p.bytes + (length bytes + 1)) ≡ false
    far = let s = g.room in grind (arith, nat_tests)

    no : (b : Bool) → (b && false) ≡ false
    no true = refl
    no false = refl

    free : (b : Bool) → (b ≡ false → begins_unbuilt (counting p.site p.target) (tokens bytes) ≡ false)
        → (not b && (begins_unbuilt (counting p.site p.target) (tokens bytes) || names_unbuilt (Is f))) ≡ false
    free true h = refl
    free false h = ap (λ x. x || names_unbuilt (Is f)) (h refl) ∙ g.built

    few : (b : Bool) → b ≡ false → (b || ltb FILE_BYTES (p.bytes + (length bytes + 1))) ≡ false
    few b h = ap (λ x. x || ltb FILE_BYTES (p.bytes + (length bytes + 1))) h ∙ far

behind_line : (p : Place) (n : ℕ) (bytes : List ℕ) (f : LineForm) → LineGoes p n bytes f →
    place.behind p n (line_of bytes) ≡ record (behind_form p f) { bytes = p.bytes + (length bytes + 1) }
behind_line p n bytes f g = ap (behind_said p (length bytes + 1)) g.said

abbrev pub shown : LineForm → List LineForm
shown Blank = []
shown Magic = Magic ∷ []
shown (Header h) = Header h ∷ []
shown (Pins q) = Pins q ∷ []
shown (Body m) = Body m ∷ []

unblanked-shown : (f : LineForm) (fs : List LineForm) → unblanked (Is f) (map Is fs) ≡ map Is (shown f ++ fs)
unblanked-shown Blank fs = refl
unblanked-shown Magic fs = refl
unblanked-shown (Header h) fs = refl
unblanked-shown (Pins q) fs = refl
unblanked-shown (Body m) fs = refl

-- one line more in front
pub goes_more : (p q : Place) (n : ℕ) (bytes : List ℕ) (f : LineForm) (ls : List Line) (fs : List LineForm) → LineGoes p n bytes f →
    record (behind_form p f) { bytes = p.bytes + (length bytes + 1) } ≡ q → Goes q (n + 1) ls fs → Goes p n (line_of bytes ∷ ls) (shown f ++ fs)
goes_more p q n bytes f ls fs g e rest =
    let next = behind_line p n bytes f g ∙ e in
    record {
      faultless =
          ap (λ o. or_else o (first_fault (place.behind p n (line_of bytes)) (n + 1) ls)) (no_fault p n bytes f g) ∙ ap (λ x. first_fault x (n + 1) ls) next ∙
          rest.faultless;
      said =
          ap (λ s. unblanked s (said_by (place.behind p n (line_of bytes)) (n + 1) ls)) g.said ∙ ap (unblanked (Is f))
          (ap (λ x. said_by x (n + 1) ls) next ∙ rest.said) ∙ unblanked-shown f fs;
      closed = ap (λ x. (behind_all x (n + 1) ls).site) next ∙ rest.closed;
    }

-- lines of rungs

abbrev pub map_lines : List (List ℕ) → List Line
map_lines ls = map line_of ls

-- the indent at a place, in a rung and between rungs
abbrev pub IndentAt : Site → ℕ → ℕ → Type 0
IndentAt site.Between depth i = (i ≡ 0) × (depth ≡ 0)
IndentAt site.Inside depth i = i ≡ 4 * (depth + 1)
IndentAt site.First depth i = ⊥
IndentAt site.Header depth i = ⊥
IndentAt site.Pins depth i = ⊥

-- the bytes so far, and the counts
pub record Bounds (p : Place) (i : ℕ) : Type 0 where
  pub indent : IndentAt p.site p.depth i
  pub depth : p.depth ≤ DEPTH
  pub rungs : p.rungs ≤ RUNGS
  pub elements : p.elements ≤ ELEMENTS
  pub openings : p.openings ≤ OPENINGS
  pub bytes : p.bytes + 25 * i ≤ 500000 + 513 * p.elements + 200 * p.rungs + 200 * p.openings

-- a line is printed behind its indent, or without one
record Indented (i : ℕ) (words : List ℕ) : Type 0 where
  count : ℕ
  is : indented i words ≡ replicate count 32 ++ words
  low : count ≤ i
  short : length (indented i words) ≤ LINE_BYTES

size_indented : (k : ℕ) (words : List ℕ) → length (replicate k 32 ++ words) ≡ k + length words
size_indented k words = omega (arith, length-append (replicate k 32) words, length-replicate {A = ℕ} k 32)

indented_is : (i : ℕ) (words : List ℕ) → length words ≤ LINE_BYTES → Indented i words
indented_is i words h = by (nat_le (i + length words) LINE_BYTES) refl
  where
    by : (b : Bool) → nat_le (i + length words) LINE_BYTES ≡ b → Indented i words
    by true e =
        let is : indented i words ≡ replicate i 32 ++ words = ap (λ b. if b then replicate i 32 ++ words else words) e in
        let fits : i + length words ≤ LINE_BYTES = grind (arith, nat_tests) in
        record { count = i; is = is; low = omega arith; short = omega (arith, ap length is, size_indented i words, fits) }
    by false e =
        let is : indented i words ≡ words = ap (λ b. if b then replicate i 32 ++ words else words) e in
        record { count = 0; is = is; low = omega arith; short = omega (arith, ap length is, h) }

-- a line of one word
record WordSaid (i : ℕ) (bytes : List ℕ) (token : List ℕ) : Type 0 where
  tokens : tokens bytes ≡ token ∷ []
  short : length bytes ≤ i + length token

word_said : (i : ℕ) (token : List ℕ) → IsToken token → length token ≤ 100 → WordSaid i (indented i token) token
word_said i token t few =
    let d = indented_is i token (omega (arith, few)) in
    record {
      tokens = ap tokens d.is ∙ ap (λ l. tokens (replicate d.count 32 ++ l)) (sym (append-nil token)) ∙ tokens_printed d.count token [] t tt;
      short = omega (arith, ap length d.is, size_indented d.count token, d.low);
    }

at_rung : (x : Site) → AllowedAt x (Body mark.Rung) → x ≡ site.Between
at_rung site.First a = absurd a
at_rung site.Header a = absurd a
at_rung site.Pins a = absurd a
at_rung site.Between a = refl
at_rung site.Inside a = absurd a

at_open : (x : Site) (c : Circuit) → AllowedAt x (Body (mark.Open c)) → x ≡ site.Inside
at_open site.First c a = absurd a
at_open site.Header c a = absurd a
at_open site.Pins c a = absurd a
at_open site.Between c a = absurd a
at_open site.Inside c a = refl

at_end : (x : Site) → AllowedAt x (Body mark.End) → x ≡ site.Inside
at_end site.First a = absurd a
at_end site.Header a = absurd a
at_end site.Pins a = absurd a
at_end site.Between a = absurd a
at_end site.Inside a = refl

below : (most n : ℕ) → leb most n ≡ false → n < most
below most n h = grind (arith, nat_tests)

abbrev next : Place → ℕ → ℕ → Mark → Place
next p i n m = record (behind_form p (Body (with_line n m))) { bytes = p.bytes + (length (mark_line i m) + 1) }

record Steps (p : Place) (i n : ℕ) (t : Target) (m : Mark) : Type 0 where
  line : LineGoes p n (mark_line i m) (Body (with_line n m))
  target : (next p i n m).target ≡ Some t
  bounds : Bounds (next p i n m) (indent_behind i m)
  same : behind_form (unsized p) (Body m) ≡ unsized (next p i n m)

rung_steps : (p : Place) (i n : ℕ) (t : Target) → p.target ≡ Some t → Bounds p i → Fine (unsized p) (Body mark.Rung) → Steps p i n t mark.Rung
rung_steps p i n t g b f =
    let e = at_rung p.site f.allowed in
    let at : IndentAt site.Between p.depth i = subst (λ x. IndentAt x p.depth i) e b.indent in
    let few = below RUNGS p.rungs f.few in
    record {
      line = record {
        said = ap (λ x. said_in x n (codes "RUNG")) e;
        short = omega arith;
        free = λ x. refl;
        built = refl;
        chip = ap (λ o. is_chipless o (Is (Body mark.Rung))) g;
        shallow = refl;
        few = f.few;
        room = omega (arith, b.bytes, b.rungs, b.elements, b.openings);
      };
      target = g;
      bounds = record {
        indent = omega (arith, at.1);
        depth = b.depth;
        rungs = omega (arith, few);
        elements = b.elements;
        openings = b.openings;
        bytes = omega (arith, b.bytes, at.0);
      };
      same = refl;
    }

circuit_token : (c : Circuit) → IsToken (circuit_word c) × (length (circuit_word c) ≤ 8)
circuit_token circuit.Series = (record { some = omega arith; plain = refl }, omega arith)
circuit_token circuit.Parallel = (record { some = omega arith; plain = refl }, omega arith)

open_says : (n : ℕ) (c : Circuit) (bytes : List ℕ) → tokens bytes ≡ circuit_word c ∷ []
    → (said_in site.Inside n bytes ≡ Is (Body (mark.Open c))) × ((t : Target) → begins_unbuilt t (tokens bytes) ≡ false)
open_says n circuit.Series bytes e = (ap (λ ts. unless_blank ts (inside n (rung_tokens_say ts bytes))) e, λ t. ap (begins_unbuilt t) e)
open_says n circuit.Parallel bytes e = (ap (λ ts. unless_blank ts (inside n (rung_tokens_say ts bytes))) e, λ t. ap (begins_unbuilt t) e)

open_steps : (p : Place) (i n : ℕ) (t : Target) (c : Circuit) → p.target ≡ Some t → Bounds p i → Fine (unsized p) (Body (mark.Open c))
    → Steps p i n t (mark.Open c)
open_steps p i n t c g b f =
    let e = at_open p.site c f.allowed in
    let at : IndentAt site.Inside p.depth i = subst (λ x. IndentAt x p.depth i) e b.indent in
    let few = below OPENINGS p.openings f.few in
    let deep = below DEPTH p.depth f.shallow in
    let word = circuit_token c in
    let w = word_said i (circuit_word c) word.0 (omega (arith, word.1)) in
    let says = open_says n c (indented i (circuit_word c)) w.tokens in
    record {
      line = record {
        said = ap (λ x. said_in x n (indented i (circuit_word c))) e ∙ says.0;
        short = omega (arith, w.short, word.1, at, deep);
        free = λ x. says.1 (counting p.site p.target);
        built = refl;
        chip = ap (λ o. is_chipless o (Is (Body (mark.Open c)))) g;
        shallow = f.shallow;
        few = f.few;
        room = omega (arith, w.short, word.1, at, deep, b.bytes, b.rungs, b.elements, b.openings);
      };
      target = g;
      bounds = record {
        indent = subst (λ x. IndentAt x (p.depth + 1) (i + 4)) (sym e) (omega (arith, at));
        depth = omega (arith, deep);
        rungs = b.rungs;
        elements = b.elements;
        openings = omega (arith, few);
        bytes = omega (arith, w.short, word.1, at, deep, b.bytes);
      };
      same = refl;
    }

end_steps : (p : Place) (i n : ℕ) (t : Target) → p.target ≡ Some t → Bounds p i → Fine (unsized p) (Body mark.End) → Steps p i n t mark.End
end_steps p i n t g b f =
    record {
      line = record {
        said =
            ap (λ x. said_in x n (indented (i - 4) (codes "END"))) e ∙ ap
            (λ ts. unless_blank ts (inside n (rung_tokens_say ts (indented (i - 4) (codes "END"))))) w.tokens;
        short = omega (arith, w.short, at, b.depth);
        free = λ x. ap (begins_unbuilt (counting p.site p.target)) w.tokens;
        built = refl;
        chip = ap (λ o. is_chipless o (Is (Body mark.End))) g;
        shallow = refl;
        few = refl;
        room = omega (arith, w.short, at, b.depth, b.bytes, b.rungs, b.elements, b.openings);
      };
      target = target (eqb p.depth 0);
      bounds = bounds (eqb p.depth 0) refl;
      same = sym (behind_unsized p (Body mark.End));
    }
  where
    e : p.site ≡ site.Inside
    e = at_end p.site f.allowed

    at : i ≡ 4 * (p.depth + 1)
    at = subst (λ x. IndentAt x p.depth i) e b.indent

    w : WordSaid (i - 4) (indented (i - 4) (codes "END")) (codes "END")
    w = word_said (i - 4) (codes "END") (record { some = omega arith; plain = refl }) (omega arith)

    size : ℕ
    size = p.bytes + (length (indented (i - 4) (codes "END")) + 1)

    sized : p.bytes + (length (indented (i - 4) (codes "END")) + 1) + 25 * (i - 4) ≤ 500000 + 513 * p.elements + 200 * p.rungs + 200 * p.openings
    sized = omega (arith, w.short, at, b.bytes)

    target : (x : Bool) → (record (if x then record p { site = site.Between } else record p { depth = p.depth - 1 })
        { bytes = p.bytes + (length (indented (i - 4) (codes "END")) + 1) }).target ≡ Some t
    target true = g
    target false = g

    some : (d : ℕ) → eqb d 0 ≡ false → 0 < d
    some d h = grind (arith, nat_tests)

    none : (d : ℕ) → eqb d 0 ≡ true → d ≡ 0
    none d h = grind (arith, nat_tests)

    bounds : (x : Bool) → eqb p.depth 0 ≡ x → Bounds (record (if x then record p { site = site.Between } else record p { depth = p.depth - 1 })
        { bytes = p.bytes + (length (indented (i - 4) (codes "END")) + 1) }) (i - 4)
    bounds true h =
        let d = none p.depth h in
        record { indent = (omega (arith, at, d), d); depth = b.depth; rungs = b.rungs; elements = b.elements; openings = b.openings; bytes = sized }
    bounds false h = let d = some p.depth h in record {
      indent = subst (λ x. IndentAt x (p.depth - 1) (i - 4)) (sym e) (omega (arith, at, d));
      depth = omega (arith, b.depth);
      rungs = b.rungs;
      elements = b.elements;
      openings = b.openings;
      bytes = sized;
    }

element_steps : (p : Place) (i n : ℕ) (t : Target) (l : leaf.Leaf) → p.target ≡ Some t → Bounds p i
    → Fine (unsized p) (Body (mark.Element l)) → Steps p i n t (mark.Element l)
element_steps p i n t l g b f =
    let e = at_element p.site l f.allowed in
    let few = below ELEMENTS p.elements f.few in
    let d = indented_is i (element_words l.kind) (element_fits l.kind f.fits).short in
    let s = element_said d.count l.kind f.fits in
    record {
      line = record {
        said = ap (λ x. said_in x n (indented i (element_words l.kind))) e ∙ ap (said_in site.Inside n) d.is ∙ s.said n;
        short = d.short;
        free =
            λ x. ap (begins_unbuilt (counting p.site p.target)) (ap tokens d.is)
            ∙ ap (λ o. begins_unbuilt (counting o p.target) (tokens (replicate d.count 32 ++ element_words l.kind))) e
            ∙ s.built (counting site.Inside p.target) f.built;
        built = refl;
        chip = ap (λ o. is_chipless o (Is (Body (mark.Element (record { line = n; kind = l.kind }))))) g;
        shallow = refl;
        few = f.few;
        room = omega (arith, d.short, b.bytes, b.rungs, few, b.openings);
      };
      target = g;
      bounds = record {
        indent = b.indent;
        depth = b.depth;
        rungs = b.rungs;
        elements = omega (arith, few);
        openings = b.openings;
        bytes = omega (arith, d.short, b.bytes);
      };
      same = refl;
    }

steps : (p : Place) (i n : ℕ) (t : Target) (m : Mark) → p.target ≡ Some t → Bounds p i → Fine (unsized p) (Body m) → Steps p i n t m
steps p i n t mark.Rung g b f = rung_steps p i n t g b f
steps p i n t (mark.Open c) g b f = open_steps p i n t c g b f
steps p i n t mark.End g b f = end_steps p i n t g b f
steps p i n t (mark.Element l) g b f = element_steps p i n t l g b f

pub body_goes : (ms : List Mark) (p : Place) (i n : ℕ) (t : Target) → p.target ≡ Some t → Bounds p i
    → AllFine (unsized p) (map Body ms) → Goes p n (map_lines (mark_lines i ms)) (map Body (numbered n ms))
body_goes [] p i n t g b f = record { faultless = refl; said = refl; closed = f }
body_goes (m ∷ ms) p i n t g b f =
    let s = steps p i n t m g b f.0 in
    goes_more p (next p i n m) n (mark_line i m) (Body (with_line n m)) (map_lines (mark_lines (indent_behind i m) ms)) (map Body (numbered (n + 1) ms)) s.line
    refl
    (body_goes ms (next p i n m) (indent_behind i m) (n + 1) t s.target s.bounds (subst (λ x. AllFine x (map Body ms)) s.same f.1))
