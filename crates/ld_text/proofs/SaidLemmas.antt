-- What lines can say at a place, and what is known of the elements that they say.
use Rattle.std.proofs.Common.{◌≡◌, ℕ, Bool, true, false, cond, eqb, length, List, [], ◌∷◌, Option, Some, None, refl, sym, ap, subst, ◌∙◌}
use Rattle.chip_tables.specs.declared.target.Target.{Target}
use Rattle.ladder_tree.specs.declared.element.Leaf as leaf
use Rattle.ladder_tree.specs.declared.element.LeafKind.{LeafKind}
use Rattle.ld_line.specs.Elements.{element_of}
use Rattle.ld_line.specs.Header.{header_of}
use Rattle.ld_line.specs.Pins.{pin_of_line}
use Rattle.ld_line.specs.Rungs.{alone_or, element_by, rung_tokens_say, rung_line_of}
use Rattle.ld_line.specs.Said.{said_map}
use Rattle.ld_line.specs.Tokens.{tokens, is_magic}
use Rattle.ld_line.specs.Words.{word_of, is_target_built}
use Rattle.ld_line.specs.declared.said.Said.{Said}
use Rattle.ld_line.specs.declared.said.Said.TheVariants.{Bad, Range, Is}
use Rattle.ld_line.specs.declared.header.HeaderLine.{HeaderLine}
use Rattle.ld_line.specs.declared.pins.PinsLine.{PinsLine}
use Rattle.ld_line.specs.declared.rungs.Circuit.TheVariants as circuit
use Rattle.ld_line.specs.declared.rungs.RungLine.{RungLine}
use Rattle.ld_line.specs.declared.rungs.RungLine.TheVariants as rung
use Rattle.ld_line.specs.declared.word.Word.{Word}
use Rattle.ld_text.specs.declared.heard.Mark.TheVariants as mark
use Rattle.ld_text.specs.declared.heard.LineForm.{LineForm}
use Rattle.ld_text.specs.declared.heard.LineForm.TheVariants.{Blank, Magic, Header, Pins, Body}
use Rattle.ld_text.specs.declared.place.Site.{Site}
use Rattle.ld_text.specs.declared.place.Site.TheVariants as site
use Rattle.ld_text.specs.Place.{unless_blank, between, inside, said_in}

-- the forms that lines can say at a part of a text
abbrev pub AllowedAt : Site → LineForm → Type 0
AllowedAt site.First Magic = Unit {0}
AllowedAt site.First Blank = ⊥
AllowedAt site.First (Header h) = ⊥
AllowedAt site.First (Pins q) = ⊥
AllowedAt site.First (Body m) = ⊥
AllowedAt site.Header Blank = Unit {0}
AllowedAt site.Header (Header h) = Unit {0}
AllowedAt site.Header Magic = ⊥
AllowedAt site.Header (Pins q) = ⊥
AllowedAt site.Header (Body m) = ⊥
AllowedAt site.Pins Blank = Unit {0}
AllowedAt site.Pins (Pins q) = Unit {0}
AllowedAt site.Pins Magic = ⊥
AllowedAt site.Pins (Header h) = ⊥
AllowedAt site.Pins (Body m) = ⊥
AllowedAt site.Between Blank = Unit {0}
AllowedAt site.Between (Body mark.Rung) = Unit {0}
AllowedAt site.Between (Body (mark.Open c)) = ⊥
AllowedAt site.Between (Body mark.End) = ⊥
AllowedAt site.Between (Body (mark.Element l)) = ⊥
AllowedAt site.Between Magic = ⊥
AllowedAt site.Between (Header h) = ⊥
AllowedAt site.Between (Pins q) = ⊥
AllowedAt site.Inside Blank = Unit {0}
AllowedAt site.Inside (Body mark.Rung) = ⊥
AllowedAt site.Inside (Body (mark.Open c)) = Unit {0}
AllowedAt site.Inside (Body mark.End) = Unit {0}
AllowedAt site.Inside (Body (mark.Element l)) = Unit {0}
AllowedAt site.Inside Magic = ⊥
AllowedAt site.Inside (Header h) = ⊥
AllowedAt site.Inside (Pins q) = ⊥

abbrev AllowedAs : Site → Said LineForm → Type 0
AllowedAs x (Is form) = AllowedAt x form
AllowedAs x Bad = Unit {0}
AllowedAs x Range = Unit {0}

first_allowed : (b : Bool) → AllowedAs site.First (cond b (Is Magic) Bad)
first_allowed true = tt
first_allowed false = tt

header_allowed : (ts : List (List ℕ)) (x : Said HeaderLine) → AllowedAs site.Header (unless_blank ts (said_map Header x))
header_allowed [] x = tt
header_allowed (t ∷ ts) (Is h) = tt
header_allowed (t ∷ ts) Bad = tt
header_allowed (t ∷ ts) Range = tt

pins_allowed : (ts : List (List ℕ)) (x : Said PinsLine) → AllowedAs site.Pins (unless_blank ts (said_map Pins x))
pins_allowed [] x = tt
pins_allowed (t ∷ ts) (Is h) = tt
pins_allowed (t ∷ ts) Bad = tt
pins_allowed (t ∷ ts) Range = tt

between_allowed : (ts : List (List ℕ)) (x : Said RungLine) → AllowedAs site.Between (unless_blank ts (between x))
between_allowed [] x = tt
between_allowed (t ∷ ts) (Is rung.Rung) = tt
between_allowed (t ∷ ts) (Is (rung.Open c)) = tt
between_allowed (t ∷ ts) (Is rung.End) = tt
between_allowed (t ∷ ts) (Is (rung.Element k)) = tt
between_allowed (t ∷ ts) Bad = tt
between_allowed (t ∷ ts) Range = tt

inside_allowed : (number : ℕ) (ts : List (List ℕ)) (x : Said RungLine) → AllowedAs site.Inside (unless_blank ts (inside number x))
inside_allowed number [] x = tt
inside_allowed number (t ∷ ts) (Is rung.Rung) = tt
inside_allowed number (t ∷ ts) (Is (rung.Open c)) = tt
inside_allowed number (t ∷ ts) (Is rung.End) = tt
inside_allowed number (t ∷ ts) (Is (rung.Element k)) = tt
inside_allowed number (t ∷ ts) Bad = tt
inside_allowed number (t ∷ ts) Range = tt

said_allowed : (x : Site) (number : ℕ) (bytes : List ℕ) → AllowedAs x (said_in x number bytes)
said_allowed site.First number bytes = first_allowed (is_magic bytes)
said_allowed site.Header number bytes = header_allowed (tokens bytes) (header_of bytes)
said_allowed site.Pins number bytes = pins_allowed (tokens bytes) (pin_of_line (tokens bytes))
said_allowed site.Between number bytes = between_allowed (tokens bytes) (rung_line_of bytes)
said_allowed site.Inside number bytes = inside_allowed number (tokens bytes) (rung_line_of bytes)

pub allowed : (x : Site) (number : ℕ) (bytes : List ℕ) (form : LineForm) → said_in x number bytes ≡ Is form → AllowedAt x form
allowed x number bytes form h = subst (AllowedAs x) h (said_allowed x number bytes)

-- an element that is said has a word
pub record Worded (bytes : List ℕ) (k : LeafKind) : Type 0 where
  pub token : List ℕ
  pub rest : List (List ℕ)
  pub word : Word
  pub tokens : tokens bytes ≡ token ∷ rest
  pub known : word_of token ≡ Some word
  pub said : element_of word rest bytes ≡ Is k

mapped_element : (x : Said LeafKind) (k : LeafKind) → said_map rung.Element x ≡ Is (rung.Element k) → x ≡ Is k
mapped_element Bad k h = absurd cc
mapped_element Range k h = absurd cc
mapped_element (Is j) k h = let same : rung.Element j ≡ rung.Element k = cc in let inner : j ≡ k = cc in ap Is inner

-- a line that is one of the four words says no element
no_alone : (token : List ℕ) (b c d e : Bool) (ts : List (List ℕ)) (other : Said RungLine) (k : LeafKind)
    → alone_or (cond b (Some rung.Rung) (cond c (Some (rung.Open circuit.Series)) (cond d (Some (rung.Open circuit.Parallel)) (cond e (Some rung.End) None))))
    ts other ≡ Is (rung.Element k)
    → other ≡ Is (rung.Element k)
no_alone token true c d e [] other k h = absurd cc
no_alone token true c d e (t ∷ ts) other k h = absurd cc
no_alone token false true d e [] other k h = absurd cc
no_alone token false true d e (t ∷ ts) other k h = absurd cc
no_alone token false false true e [] other k h = absurd cc
no_alone token false false true e (t ∷ ts) other k h = absurd cc
no_alone token false false false true [] other k h = absurd cc
no_alone token false false false true (t ∷ ts) other k h = absurd cc
no_alone token false false false false ts other k h = h

rung_worded : (ts : List (List ℕ)) (bytes : List ℕ) (k : LeafKind) → tokens bytes ≡ ts → rung_tokens_say ts bytes ≡ Is (rung.Element k) → Worded bytes k
rung_worded [] bytes k e h = absurd cc
rung_worded (token ∷ ts) bytes k e h = by (word_of token) refl (no_alone token _ _ _ _ ts (element_by (word_of token) ts bytes) k h)
  where
    by : (o : Option Word) → word_of token ≡ o → element_by o ts bytes ≡ Is (rung.Element k) → Worded bytes k
    by None f g = absurd cc
    by (Some w) f g = record { token = token; rest = ts; word = w; tokens = e; known = f; said = mapped_element (element_of w ts bytes) k g }

inside_element : (number : ℕ) (ts : List (List ℕ)) (x : Said RungLine) (l : leaf.Leaf) → unless_blank ts (inside number x) ≡ Is (Body (mark.Element l))
    → x ≡ Is (rung.Element l.kind)
inside_element number [] x l h = absurd cc
inside_element number (t ∷ ts) (Is rung.Rung) l h = absurd cc
inside_element number (t ∷ ts) (Is (rung.Open c)) l h = absurd cc
inside_element number (t ∷ ts) (Is rung.End) l h = absurd cc
inside_element number (t ∷ ts) (Is (rung.Element k)) l h =
    let same : Body (mark.Element (record { line = number; kind = k })) ≡ Body (mark.Element l) = cc in
    let inner : mark.Element (record { line = number; kind = k }) ≡ mark.Element l = cc in
    let leaves : record { line = number; kind = k } ≡ l = cc in
    ap (λ x. Is (rung.Element x.kind)) leaves
inside_element number (t ∷ ts) Bad l h = absurd cc
inside_element number (t ∷ ts) Range l h = absurd cc

pub element_worded : (number : ℕ) (bytes : List ℕ) (l : leaf.Leaf) → said_in site.Inside number bytes ≡ Is (Body (mark.Element l)) → Worded bytes l.kind
element_worded number bytes l h = rung_worded (tokens bytes) bytes l.kind refl (inside_element number (tokens bytes) (rung_line_of bytes) l h)

-- the target is none, or one that is built
abbrev pub IsBuilt : Option Target → Type 0
IsBuilt None = Unit {0}
IsBuilt (Some t) = is_target_built t ≡ true

-- what a line above PROGRAM says that has tokens
pub said_in-header : (x : Site) (number : ℕ) (bytes : List ℕ) (ts : List (List ℕ)) → x ≡ site.Header → ts ≡ tokens bytes → eqb (length ts) 0 ≡ false
    → said_in x number bytes ≡ said_map Header (header_of bytes)
said_in-header x number bytes [] e h g = absurd cc
said_in-header x number bytes (t ∷ ts) e h g = ap (λ y. said_in y number bytes) e ∙ ap (λ ts. unless_blank ts (said_map Header (header_of bytes))) (sym h)

mapped_header : (x : Said HeaderLine) (h : HeaderLine) → said_map Header x ≡ Is (Header h) → x ≡ Is h
mapped_header Bad h e = absurd cc
mapped_header Range h e = absurd cc
mapped_header (Is j) h e = let same : Header j ≡ Header h = cc in let inner : j ≡ h = cc in ap Is inner

unblank_header : (ts : List (List ℕ)) (x : Said HeaderLine) (h : HeaderLine) → unless_blank ts (said_map Header x) ≡ Is (Header h) → x ≡ Is h
unblank_header [] x h e = absurd cc
unblank_header (t ∷ ts) x h e = mapped_header x h e

mapped_pins : (x : Said PinsLine) (q : PinsLine) → said_map Pins x ≡ Is (Pins q) → x ≡ Is q
mapped_pins Bad q e = absurd cc
mapped_pins Range q e = absurd cc
mapped_pins (Is r) q e = let same : Pins r ≡ Pins q = cc in let inner : r ≡ q = cc in ap Is inner

unblank_pins : (ts : List (List ℕ)) (x : Said PinsLine) (q : PinsLine) → unless_blank ts (said_map Pins x) ≡ Is (Pins q) → x ≡ Is q
unblank_pins [] x q e = absurd cc
unblank_pins (t ∷ ts) x q e = mapped_pins x q e

-- a line of a pin list is said in one alone
pub pins_said : (x : Site) (number : ℕ) (bytes : List ℕ) (q : PinsLine) → said_in x number bytes ≡ Is (Pins q) → pin_of_line (tokens bytes) ≡ Is q
pins_said site.Pins number bytes q e = unblank_pins (tokens bytes) (pin_of_line (tokens bytes)) q e
pins_said site.First number bytes q e = absurd (allowed site.First number bytes (Pins q) e)
pins_said site.Header number bytes q e = absurd (allowed site.Header number bytes (Pins q) e)
pins_said site.Between number bytes q e = absurd (allowed site.Between number bytes (Pins q) e)
pins_said site.Inside number bytes q e = absurd (allowed site.Inside number bytes (Pins q) e)

-- a line of the header is said above PROGRAM alone
pub header_said : (x : Site) (number : ℕ) (bytes : List ℕ) (h : HeaderLine) → said_in x number bytes ≡ Is (Header h) → header_of bytes ≡ Is h
header_said site.Header number bytes h e = unblank_header (tokens bytes) (header_of bytes) h e
header_said site.First number bytes h e = absurd (allowed site.First number bytes (Header h) e)
header_said site.Pins number bytes h e = absurd (allowed site.Pins number bytes (Header h) e)
header_said site.Between number bytes h e = absurd (allowed site.Between number bytes (Header h) e)
header_said site.Inside number bytes h e = absurd (allowed site.Inside number bytes (Header h) e)
