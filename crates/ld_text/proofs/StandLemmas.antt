-- Where a line takes a reader, and where a text may end.
use Rattle.std.proofs.Common.{◌≡◌, ℕ, ◌+◌, Bool, true, false, not, ◌&&◌, ◌||◌, cond, eqb, ltb, ◌≤◌, List, [], ◌∷◌, length, Option, Some, None, refl, sym, ap, ◌∙◌, arith}
use Rattle.std.proofs.lemmas.Bool.Decides.{nat_tests}
use Rattle.ladder_tree.specs.declared.fault.ProjectFault.{ProjectFault}
use Rattle.ladder_tree.specs.declared.fault.ProjectFault.TheVariants.{NotProject, NotBuilt, BadLine, NumberRange}
use Rattle.texts.specs.declared.limits.TheConstants.{LINE_BYTES}
use Rattle.ld_line.specs.Rungs.{rung_line_of}
use Rattle.ld_line.specs.Tokens.{tokens}
use Rattle.ld_line.specs.declared.said.Said.{Said}
use Rattle.ld_line.specs.declared.said.Said.TheVariants.{Bad, Range, Is}
use Rattle.ld_text.specs.declared.fault.TextError.{TextError}
use Rattle.ld_text.specs.declared.fault.TextError.TheVariants as error
use Rattle.ld_text.specs.declared.heard.LineForm.{LineForm}
use Rattle.ld_text.specs.declared.heard.LineForm.TheVariants.{Blank, Magic, Header, Pins, Body}
use Rattle.ld_text.specs.declared.heard.Mark.TheVariants as mark
use Rattle.ld_text.specs.declared.place.Place as held
use Rattle.ld_text.specs.declared.place.Place.TheVariants as part
use Rattle.ld_text.specs.declared.place.Site.{Site}
use Rattle.ld_text.specs.declared.place.Site.TheVariants as site
use Rattle.ld_text.specs.declared.reader.Reader.{Reader}
use Rattle.ld_text.specs.Faults.{is_first, is_bad, counting, begins_unbuilt, names_unbuilt, fault_of, or_else}
use Rattle.ld_text.specs.Place.{Place, unless_blank, between, said_in}
use Rattle.ld_text.specs.Tree.{is_open}
use Rattle.ld_text.specs.Reading.{word_fault, said_fault, form_fault, Fits, HasRoom, Standing, Taken, Goes, Stops, Reads, next, line_done, taken, taken_as, at_end, finished, went, site_at, place_of, IsStopped, IsRefused, IsRejected}
use Rattle.ld_text.proofs.SaidLemmas.{AllowedAt, allowed}
use Rattle.ld_text.proofs.TakenLemmas.{room}

fits_at : (b : Bool) (p : held.Place) (form : LineForm) → AllowedAt (site_at b p) form → Fits b form
fits_at b p Blank a = tt
fits_at true p Magic a = absurd a
fits_at false p Magic a = refl
fits_at true p (Header h) a = absurd a
fits_at false p (Header h) a = refl
fits_at true p (Pins q) a = absurd a
fits_at false p (Pins q) a = refl
fits_at true p (Body mark.Rung) a = absurd a
fits_at false p (Body mark.Rung) a = refl
fits_at true p (Body (mark.Open c)) a = refl
fits_at true p (Body mark.End) a = refl
fits_at true p (Body (mark.Element l)) a = refl
fits_at false part.FirstLine (Body (mark.Open c)) a = absurd a
fits_at false part.FirstLine (Body mark.End) a = absurd a
fits_at false part.FirstLine (Body (mark.Element l)) a = absurd a
fits_at false part.Header (Body (mark.Open c)) a = absurd a
fits_at false part.Header (Body mark.End) a = absurd a
fits_at false part.Header (Body (mark.Element l)) a = absurd a
fits_at false part.PinLines (Body (mark.Open c)) a = absurd a
fits_at false part.PinLines (Body mark.End) a = absurd a
fits_at false part.PinLines (Body (mark.Element l)) a = absurd a
fits_at false part.Body (Body (mark.Open c)) a = absurd a
fits_at false part.Body (Body mark.End) a = absurd a
fits_at false part.Body (Body (mark.Element l)) a = absurd a

-- what a line says fits the forms that are open
pub fits : (r : Reader) (number : ℕ) (bytes : List ℕ) (said : Said LineForm) (form : LineForm) → said ≡ said_in (place_of r).site number bytes
    → said ≡ Is form → Fits (is_open r.forms) form
fits r number bytes said form h e = fits_at (is_open r.forms) r.place form (allowed (place_of r).site number bytes form (sym h ∙ e))

-- and there is room for it where it has no fault
pub has_room : (r : Reader) (number : ℕ) (bytes : List ℕ) (size : ℕ) (said : Said LineForm) (form : LineForm) →
    fault_of (place_of r) number bytes size said ≡ None
    → said ≡ Is form → HasRoom (place_of r) size form
has_room r number bytes size said form h e = room (place_of r) number bytes size form (ap (fault_of (place_of r) number bytes size) (sym e) ∙ h)

pub not_long : (k : ℕ) → k ≤ LINE_BYTES → ltb LINE_BYTES k ≡ false
not_long k h = grind (arith, nat_tests)

-- a line that has a fault stops a reader
pub line_stopped : (n : ℕ) (bytes : List ℕ) (size : ℕ) (s : Standing) (said : Said LineForm) (f : ProjectFault) → said ≡ said_in s.place.site n bytes
    → fault_of s.place n bytes size said ≡ Some f → taken n bytes size s ≡ Stops f
line_stopped n bytes size s said f h g = ap (λ o. taken_as o (said_in s.place.site n bytes) n size s) (ap (fault_of s.place n bytes size) (sym h) ∙ g)

or_cond : (a b : Bool) (f g : ProjectFault) (rest : Option ProjectFault)
    → cond a (Some f) (cond b (Some g) rest) ≡ or_else (cond a (Some f) (cond b (Some g) None)) rest
or_cond true b f g rest = refl
or_cond false true f g rest = refl
or_cond false false f g rest = refl

-- the fault of a line that is not too long
pub fault_parts : (p : Place) (n : ℕ) (bytes : List ℕ) (size : ℕ) (said : Said LineForm) → ltb LINE_BYTES (length bytes) ≡ false
    → fault_of p n bytes size said ≡ or_else (word_fault p n bytes said) (said_fault p n size said)
fault_parts p n bytes size Bad h =
    rw h
    (or_cond (is_first p.site && is_bad Bad) (not (is_first p.site) && (begins_unbuilt (counting p.site p.target) (tokens bytes) || names_unbuilt Bad)) (NotProject n)
    (NotBuilt n) (Some (BadLine n)))
fault_parts p n bytes size Range h =
    rw h
    (or_cond (is_first p.site && is_bad Range) (not (is_first p.site) && (begins_unbuilt (counting p.site p.target) (tokens bytes) || names_unbuilt Range)) (NotProject n)
    (NotBuilt n) (Some (NumberRange n)))
fault_parts p n bytes size (Is form) h =
    rw h
    (or_cond (is_first p.site && is_bad (Is form)) (not (is_first p.site) && (begins_unbuilt (counting p.site p.target) (tokens bytes) || names_unbuilt (Is form)))
    (NotProject n) (NotBuilt n) (form_fault p n size form))

pub only_said : (p : Place) (n : ℕ) (bytes : List ℕ) (size : ℕ) (said : Said LineForm) → ltb LINE_BYTES (length bytes) ≡ false →
    word_fault p n bytes said ≡ None
    → fault_of p n bytes size said ≡ said_fault p n size said
only_said p n bytes size said h e = fault_parts p n bytes size said h ∙ ap (λ o. or_else o (said_fault p n size said)) e

pub word_stops : (n : ℕ) (bytes : List ℕ) (size : ℕ) (s : Standing) (said : Said LineForm) (f : ProjectFault) → ltb LINE_BYTES (length bytes) ≡ false
    → said ≡ said_in s.place.site n bytes → word_fault s.place n bytes said ≡ Some f → taken n bytes size s ≡ Stops f
word_stops n bytes size s said f h e g =
    line_stopped n bytes size s said f e (fault_parts s.place n bytes size said h ∙ ap (λ o. or_else o (said_fault s.place n size said)) g)

-- a reader behind a line that has no fault
pub line_taken : (n : ℕ) (bytes : List ℕ) (size : ℕ) (s t : Standing) (said : Said LineForm) (form : LineForm) → fault_of s.place n bytes size said ≡ None
    → said ≡ said_in s.place.site n bytes → said ≡ Is form → t ≡ went s form
    → Reads (next n) [] (record t { place = record t.place { bytes = s.place.bytes + size } }) ≡ line_done n (taken n bytes size s)
line_taken n bytes size s t said form f h e g =
    ap (λ u. Reads (next n) [] (record u { place = record u.place { bytes = s.place.bytes + size } })) g
    ∙ sym (ap (line_done n) (ap (λ o. taken_as o (said_in s.place.site n bytes) n size s) (ap (fault_of s.place n bytes size) (sym h) ∙ f) ∙ ap
    (λ x. taken_as None x n size s) (sym h ∙ e)))

-- a line that stops a reader refuses it
pub stop_refuses : (n : ℕ) (o : Taken) (e : TextError) → IsStopped o e → IsRefused (line_done n o) e
stop_refuses n o (error.Memory a) h = tt
stop_refuses n o (error.Refused f) h = ap (line_done n) h

pub stop_rejects : (n : ℕ) (o : Taken) (e : TextError) → IsStopped o e → IsRejected (at_end n o) e
stop_rejects n o (error.Memory a) h = tt
stop_rejects n o (error.Refused f) h = ap (at_end n) h

-- a reader that goes on behind a line stands behind it
pub ends_behind : (n k : ℕ) (l : List ℕ) (s : Standing) (o : Taken) → Reads k l s ≡ line_done n o → at_end k (Goes s) ≡ at_end (next n) o
ends_behind n k l s (Stops f) h = absurd cc
ends_behind n k l s (Goes t) h =
    let number : k ≡ next n = cc in
    let standing : s ≡ t = cc in
    ap (λ k. at_end k (Goes s)) number ∙ ap (λ s. at_end (next n) (Goes s)) standing

no_zero : (k n : ℕ) → k ≡ n + 1 → eqb k 0 ≡ false
no_zero k n h = grind (arith, nat_tests)

pub finished_empty : (n : ℕ) (l : List ℕ) (s : Standing) → eqb (length l) 0 ≡ true → finished (Reads n l s) ≡ at_end n (Goes s)
finished_empty n [] s h = refl
finished_empty n (b ∷ bs) s h = let no = sym h ∙ no_zero (length (b ∷ bs)) (length bs) (omega arith) in absurd cc

pub finished_open : (n : ℕ) (l : List ℕ) (s : Standing) → eqb (length l) 0 ≡ false → finished (Reads n l s) ≡ at_end (next n) (taken n l (length l) s)
finished_open n [] s h = absurd cc
finished_open n (b ∷ bs) s h = refl

-- a text that ends in a line ends behind it
pub ends_in_line : (n k : ℕ) (l m : List ℕ) (size : ℕ) (s t : Standing) → eqb (length l) 0 ≡ false → size ≡ length l
    → Reads k m t ≡ line_done n (taken n l size s) → finished (Reads n l s) ≡ at_end k (Goes t)
ends_in_line n k l m size s t h e g =
    finished_open n l s h ∙ ap (λ size. at_end (next n) (taken n l size s)) (sym e) ∙ sym (ends_behind n k m t (taken n l size s) g)

-- what a line between two rungs says that has tokens
pub said_in-between : (x : Site) (number : ℕ) (bytes : List ℕ) (ts : List (List ℕ)) → x ≡ site.Between → ts ≡ tokens bytes → eqb (length ts) 0 ≡ false
    → said_in x number bytes ≡ between (rung_line_of bytes)
said_in-between x number bytes [] e h g = absurd cc
said_in-between x number bytes (t ∷ ts) e h g =
    ap (λ y. said_in y number bytes) e ∙ ap (λ ts. unless_blank ts (between (rung_line_of bytes))) (sym h)
