-- What is known of a line that has no fault, and of one that stops the reader.
use Rattle.std.proofs.Common.{◌≡◌, ℕ, ◌+◌, ◌<◌, ◌≤◌, Bool, true, false, not, cond, ltb, leb, ◌&&◌, ◌||◌, List, length, Option, Some, None, refl, sym, ap, ◌∙◌, arith}
use Rattle.std.proofs.lemmas.Bool.{or_parts}
use Rattle.std.proofs.lemmas.Bool.Decides.{nat_tests}
use Rattle.ladder_tree.specs.declared.fault.ProjectFault.{ProjectFault}
use Rattle.texts.specs.declared.limits.TheConstants.{LINE_BYTES, FILE_BYTES}
use Rattle.ladder_tree.specs.declared.limits.TheConstants.{DEPTH, RUNGS, ELEMENTS, OPENINGS, PIN_LINES}
use Rattle.ld_line.specs.Tokens.{tokens}
use Rattle.ld_line.specs.declared.said.Said.{Said}
use Rattle.ld_line.specs.declared.said.Said.TheVariants.{Bad, Range, Is}
use Rattle.ld_line.specs.declared.pins.PinsLine.TheVariants as pins
use Rattle.ld_text.specs.declared.heard.Mark.TheVariants as mark
use Rattle.ld_text.specs.declared.heard.LineForm.{LineForm}
use Rattle.ld_text.specs.declared.heard.LineForm.TheVariants.{Blank, Magic, Header, Pins, Body}
use Rattle.ld_text.specs.Place.{Place, said_in}
use Rattle.ld_text.specs.Faults.{fault_of, is_first, is_bad, is_out_of_range, counting, begins_unbuilt, names_unbuilt, is_chipless, is_too_deep, is_one_too_many}
use Rattle.ld_text.specs.Reading.{Standing, Goes, Stops, RoomFor, HasRoom, taken, taken_as, standing_behind}

none_of : (b : Bool) (f : ProjectFault) (rest : Option ProjectFault) → cond b (Some f) rest ≡ None → (b ≡ false) × (rest ≡ None)
none_of true f rest h = absurd cc
none_of false f rest h = (refl, h)

-- no row of the table holds
pub record Passes (p : Place) (bytes : List ℕ) (size : ℕ) (said : Said LineForm) : Type 0 where
  pub short : ltb LINE_BYTES (length bytes) ≡ false
  pub known : (is_first p.site && is_bad said) ≡ false
  pub built : (not (is_first p.site) && (begins_unbuilt (counting p.site p.target) (tokens bytes) || names_unbuilt said)) ≡ false
  pub good : is_bad said ≡ false
  pub chip : is_chipless p.target said ≡ false
  pub range : is_out_of_range said ≡ false
  pub shallow : is_too_deep p said ≡ false
  pub few : (is_one_too_many p said || ltb FILE_BYTES (p.bytes + size)) ≡ false

pub passes : (p : Place) (number : ℕ) (bytes : List ℕ) (size : ℕ) (said : Said LineForm) → fault_of p number bytes size said ≡ None → Passes p bytes size said
passes p number bytes size said h =
    let a = none_of _ _ _ h in
    let b = none_of _ _ _ a.1 in
    let c = none_of _ _ _ b.1 in
    let d = none_of _ _ _ c.1 in
    let e = none_of _ _ _ d.1 in
    let f = none_of _ _ _ e.1 in
    let g = none_of _ _ _ f.1 in
    let i = none_of _ _ _ g.1 in
    record { short = a.0; known = b.0; built = c.0; good = d.0; chip = e.0; range = f.0; shallow = g.0; few = i.0 }

not_over : (n k : ℕ) → ltb n k ≡ false → k ≤ n
not_over n k h = grind (arith, nat_tests)

below : (n k : ℕ) → leb n k ≡ false → k < n
below n k h = grind (arith, nat_tests)

room_for : (p : Place) (form : LineForm) → is_too_deep p (Is form) ≡ false → is_one_too_many p (Is form) ≡ false → RoomFor p form
room_for p Blank d f = tt
room_for p Magic d f = tt
room_for p (Header h) d f = tt
room_for p (Pins (pins.Pin l)) d f = below PIN_LINES p.pins f
room_for p (Pins pins.End) d f = tt
room_for p (Body mark.Rung) d f = below RUNGS p.rungs f
room_for p (Body (mark.Open c)) d f = (below DEPTH p.depth d, below OPENINGS p.openings f)
room_for p (Body (mark.Element l)) d f = below ELEMENTS p.elements f
room_for p (Body mark.End) d f = tt

-- where a line has no fault there is room for it
pub room : (p : Place) (number : ℕ) (bytes : List ℕ) (size : ℕ) (form : LineForm) → fault_of p number bytes size (Is form) ≡ None → HasRoom p size form
room p number bytes size form h =
    let all = passes p number bytes size (Is form) h in
    let few = or_parts (is_one_too_many p (Is form)) (ltb FILE_BYTES (p.bytes + size)) all.few in
    (not_over FILE_BYTES (p.bytes + size) few.1, room_for p form all.shallow few.0)

-- the line says something, has no fault, and takes the reader there
pub record Went (number : ℕ) (bytes : List ℕ) (size : ℕ) (s t : Standing) : Type 0 where
  pub form : LineForm
  pub said : said_in s.place.site number bytes ≡ Is form
  pub faultless : fault_of s.place number bytes size (said_in s.place.site number bytes) ≡ None
  pub is : t ≡ standing_behind size s form

pub goes : (number : ℕ) (bytes : List ℕ) (size : ℕ) (s t : Standing) → taken number bytes size s ≡ Goes t → Went number bytes size s t
goes number bytes size s t h = by (fault_of s.place number bytes size (said_in s.place.site number bytes)) (said_in s.place.site number bytes) refl refl h
  where
    by : (o : Option ProjectFault) (x : Said LineForm) → fault_of s.place number bytes size (said_in s.place.site number bytes) ≡ o
        → said_in s.place.site number bytes ≡ x → taken_as o x number size s ≡ Goes t → Went number bytes size s t
    by (Some f) x e g h = absurd cc
    by None Bad e g h = absurd cc
    by None Range e g h = absurd cc
    by None (Is form) e g h = let same : standing_behind size s form ≡ t = cc in record { form = form; said = g; faultless = e; is = sym same }

-- a line that stops the reader has the fault
pub stops : (number : ℕ) (bytes : List ℕ) (size : ℕ) (s : Standing) (f : ProjectFault) → taken number bytes size s ≡ Stops f
    → fault_of s.place number bytes size (said_in s.place.site number bytes) ≡ Some f
stops number bytes size s f h = by (fault_of s.place number bytes size (said_in s.place.site number bytes)) (said_in s.place.site number bytes) refl refl h
  where
    by : (o : Option ProjectFault) (x : Said LineForm) → fault_of s.place number bytes size (said_in s.place.site number bytes) ≡ o
        → said_in s.place.site number bytes ≡ x → taken_as o x number size s ≡ Stops f
        → fault_of s.place number bytes size (said_in s.place.site number bytes) ≡ Some f
    by (Some g) x e i h = let same : g ≡ f = cc in e ∙ ap Some same
    by None Bad e i h = let all = passes s.place number bytes size (said_in s.place.site number bytes) e in let no = ap is_bad (sym i) ∙ all.good in absurd cc
    by None Range e i h =
        let all = passes s.place number bytes size (said_in s.place.site number bytes) e in let no = ap is_out_of_range (sym i) ∙ all.range in absurd cc
    by None (Is form) e i h = absurd cc
