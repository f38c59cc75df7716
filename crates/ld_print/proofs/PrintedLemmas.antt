-- What is printed is read again.
use Rattle.std.proofs.Common.{◌≡◌, ℕ, zero, suc, ◌+◌, ◌-◌, ◌*◌, ◌<◌, ◌≤◌, nat_le, Bool, true, false, not, if◌then◌else◌, List, [], ◌∷◌, ◌++◌, length, map, codes, Option, Some, None, refl, sym, ap, subst, ◌∙◌, arith, append_assoc, append-nil}
use Rattle.std.specs.Prelude.{replicate}
use Rattle.std.specs.Fmt.{decimal}
use Rattle.std.specs.List.{list_all}
use Rattle.std.proofs.lemmas.Bool.Decides.{nat_tests}
use Rattle.chip_tables.specs.declared.target.Target.{Target}
use Rattle.chip_tables.specs.declared.target.Target.TheVariants.{Interp}
use Rattle.ladder_tree.specs.declared.project.PinLine as pin
use Rattle.ladder_tree.specs.declared.project.Project.{Project}
use Rattle.ladder_tree.specs.declared.project.Rung.{Rung}
use Rattle.ladder_tree.specs.declared.limits.TheConstants.{PIN_LINES}
use Rattle.texts.specs.Lines.{IsLine}
use Rattle.texts.specs.declared.limits.TheConstants.{LINE_BYTES}
use Rattle.ld_line.specs.Header.{setting}
use Rattle.ld_line.specs.Targets.{target_text}
use Rattle.ld_line.specs.Tokens.{tokens}
use Rattle.ld_line.specs.declared.rungs.Circuit.TheVariants as circuit
use Rattle.ld_line.specs.declared.said.Said.TheVariants.{Is}
use Rattle.ld_line.specs.declared.header.HeaderLine.{HeaderLine}
use Rattle.ld_line.specs.declared.header.HeaderLine.TheVariants as header
use Rattle.ld_line.specs.declared.pins.PinsLine.TheVariants as pins
use Rattle.ld_text.specs.declared.heard.Mark.{Mark}
use Rattle.ld_text.specs.declared.heard.Mark.TheVariants as mark
use Rattle.ld_text.specs.declared.heard.LineForm.{LineForm}
use Rattle.ld_text.specs.declared.heard.LineForm.TheVariants.{Blank, Magic, Header, Pins, Body}
use Rattle.ld_text.specs.declared.place.Site.{Site}
use Rattle.ld_text.specs.declared.place.Site.TheVariants as site
use Rattle.ld_text.specs.Lines.{Line, lines_of}
use Rattle.ld_text.specs.Place.{Place, said_in, behind_form, behind_all, start}
use Rattle.ld_text.specs.Faults.{names_unbuilt, is_chipless, first_fault, or_else, end_fault}
use Rattle.ld_text.specs.Spelling.{Chip, Cycle, Crystal, Baud, PinSection, pin_forms, spelled, spelled_project}
use Rattle.ld_text.specs.Text.{IsReadAs, said_by}
use Rattle.ld_print.specs.Printed as print
use Rattle.ld_print.specs.SameButLines.{SameButLines}
use Rattle.ld_print.specs.Words.{element_words}
use Rattle.ld_print.proofs.LineLemmas.{not_feed, is_line, clean_both}
use Rattle.ld_print.proofs.ElementLemmas.{element_fits}
use Rattle.ld_print.proofs.HeadLemmas.{HeaderSaid, micro_said, cycle_said, crystal_said, baud_said, pin_said}
use Rattle.ld_print.proofs.FineLemmas.{Fine, AllFine}
use Rattle.ld_print.proofs.HeadFacts.{place_in, AllPinsFit}
use Rattle.ld_print.proofs.NumberedLemmas.{numbered, rungs_renumbered}
use Rattle.ld_print.proofs.MarkLemmas.{mark_line, indent_behind, mark_lines, rungs_marked}
use Rattle.ld_print.proofs.WalkLemmas.{line_of, map_lines, Goes, goes_more, body_goes}
use Rattle.ld_print.proofs.CleanLemmas.{AllLines, lines_append, joined_lines}
use Rattle.ld_print.proofs.KnownLemmas.{Known}

-- a place above the rungs
abbrev above : Site → Option Target → ℕ → ℕ → Place
above x t k b = record { site = x; depth = 0; target = t; rungs = 0; elements = 0; openings = 0; pins = k; bytes = b }

-- the rungs

rungs_go : (t : Target) (gs : List Rung) (k b n : ℕ) → b ≤ 500000
    → AllFine (place_in site.Between (Some t) k) (map Body (spelled gs))
    → Goes (above site.Between (Some t) k b) n (map_lines (print.rungs_lines gs)) (map Body (numbered n (spelled gs)))
rungs_go t gs k b n few f =
    subst (λ ls. Goes (above site.Between (Some t) k b) n (map_lines ls) (map Body (numbered n (spelled gs)))) (rungs_marked gs)
    (body_goes (spelled gs) (above site.Between (Some t) k b) 0 n t refl (record {
      indent = (refl, refl);
      depth = omega arith;
      rungs = omega arith;
      elements = omega arith;
      openings = omega arith;
      bytes = omega (arith, few);
    }) f)

abbrev tail_lines : List Rung → List (List ℕ)
tail_lines gs = codes "END" ∷ [] ∷ codes "PROGRAM" ∷ print.rungs_lines gs

abbrev tail_forms : ℕ → List Rung → List LineForm
tail_forms n gs = Pins pins.End ∷ Header header.Program ∷ map Body (numbered (n + 1 + 1 + 1) (spelled gs))

program_said : (n : ℕ) → said_in site.Header n (codes "PROGRAM") ≡ Is (Header header.Program)
unfolding setting
program_said n = refl

tail_goes : (t : Target) (gs : List Rung) (k b n : ℕ) → b ≤ 450000
    → AllFine (place_in site.Between (Some t) k) (map Body (spelled gs)) → Goes (above site.Pins (Some t) k b) n (map_lines (tail_lines gs)) (tail_forms n gs)
tail_goes t gs k b n few f =
    goes_more (above site.Pins (Some t) k b) (above site.Header (Some t) k (b + 4)) n (codes "END") (Pins pins.End)
    (map_lines ([] ∷ codes "PROGRAM" ∷ print.rungs_lines gs)) (Header header.Program ∷ map Body (numbered (n + 1 + 1 + 1) (spelled gs)))
    (record { said = refl; short = omega arith; free = λ x. refl; built = refl; chip = refl; shallow = refl; few = refl; room = omega (arith, few) }) refl
    (goes_more (above site.Header (Some t) k (b + 4)) (above site.Header (Some t) k (b + 4 + 1)) (n + 1) [] Blank
    (map_lines (codes "PROGRAM" ∷ print.rungs_lines gs)) (Header header.Program ∷ map Body (numbered (n + 1 + 1 + 1) (spelled gs)))
    (record { said = refl; short = omega arith; free = λ x. refl; built = refl; chip = refl; shallow = refl; few = refl; room = omega (arith, few) }) refl
    (goes_more (above site.Header (Some t) k (b + 4 + 1)) (above site.Between (Some t) k (b + 4 + 1 + 8)) (n + 1 + 1) (codes "PROGRAM") (Header header.Program)
    (map_lines (print.rungs_lines gs)) (map Body (numbered (n + 1 + 1 + 1) (spelled gs)))
    (record {
      said = program_said (n + 1 + 1);
      short = omega arith;
      free = λ x. refl;
      built = refl;
      chip = refl;
      shallow = refl;
      few = refl;
      room = omega (arith, few);
    }) refl
    (rungs_go t gs k (b + 4 + 1 + 8) (n + 1 + 1 + 1) (omega (arith, few)) f)))

-- the pins

over : (n : ℕ) → n < PIN_LINES → nat_le PIN_LINES n ≡ false
over n h = grind (arith, nat_tests)

pins_go : (t : Target) (gs : List Rung) (all : ℕ) → all ≤ PIN_LINES
    → AllFine (place_in site.Between (Some t) all) (map Body (spelled gs)) → (ls : List pin.PinLine) (k b n : ℕ) → k + length ls ≡ all
    → b + 101 * length ls ≤ 450000 → AllPinsFit ls
    → (m : ℕ) × Goes (above site.Pins (Some t) k b) n (map_lines (print.pin_lines ls ++ tail_lines gs)) (pin_forms ls ++ tail_forms m gs)
pins_go t gs all few f [] k b n e room h =
    let same : all ≡ k = omega (arith, e) in
    (n, tail_goes t gs k b n (omega (arith, room)) (subst (λ x. AllFine (place_in site.Between (Some t) x) (map Body (spelled gs))) same f))
pins_go t gs all few f (l ∷ ls) k b n e room h =
    let s = pin_said l h.0 in
    let size : ℕ = length (print.pin_line l) in
    let rest = pins_go t gs all few f ls (k + 1) (b + (length (print.pin_line l) + 1)) (n + 1) (omega (arith, e)) (omega (arith, room, s.short)) h.1 in (
      rest.0,
      goes_more (above site.Pins (Some t) k b) (above site.Pins (Some t) (k + 1) (b + (length (print.pin_line l) + 1))) n (print.pin_line l)
          (Pins (pins.Pin l)) (map_lines (print.pin_lines ls ++ tail_lines gs)) (pin_forms ls ++ tail_forms rest.0 gs)
          (record {
            said = s.said n;
            short = omega (arith, s.short);
            free = λ x. s.free;
            built = refl;
            chip = refl;
            shallow = refl;
            few = over k (omega (arith, e, few));
            room = omega (arith, room, s.short);
          }) refl rest.1,
    )

-- the settings

header_goes : (t : Option Target) (b n : ℕ) (bytes : List ℕ) (h : HeaderLine) (q : Place) (ls : List Line) (fs : List LineForm) → HeaderSaid bytes (Header h)
    → names_unbuilt (Is (Header h)) ≡ false → is_chipless t (Is (Header h)) ≡ false → b ≤ 6000
    → record (behind_form (above site.Header t 0 b) (Header h)) { bytes = b + (length bytes + 1) } ≡ q → Goes q (n + 1) ls fs → Goes (above site.Header t 0 b)
    n (line_of bytes ∷ ls) (Header h ∷ fs)
header_goes t b n bytes h q ls fs s built chip few e rest =
    goes_more (above site.Header t 0 b) q n bytes (Header h) ls fs
    (record {
      said = s.said n;
      short = s.fits.short;
      free = λ x. s.free Interp;
      built = built;
      chip = chip;
      shallow = refl;
      few = refl;
      room = omega (arith, few, s.fits.short);
    }) e rest

list_said : HeaderSaid (codes "IO LIST") (Header header.Pins)
list_said = record { said = λ n. refl; free = λ o. refl; fits = record { short = omega arith; clean = refl } }

abbrev read_forms : ℕ → Project → List LineForm
read_forms m p =
    Magic ∷ Header (header.Micro (Some p.target)) ∷ Header (header.Cycle p.cycle) ∷ Header (header.Crystal p.crystal) ∷ Header (header.Baud p.baud) ∷ Header
    header.Pins
    ∷ (pin_forms p.pins ++ tail_forms m p.rungs)

whole_goes : (p : Project) → Known p
    → (m : ℕ) × Goes start 1 (map_lines (print.head_lines p ++ (print.pin_lines p.pins ++ tail_lines p.rungs))) (read_forms m p)
whole_goes p k =
    let t : Option Target = Some p.target in
    let micro : List ℕ = codes "MICRO=" ++ target_text p.target in
    let cycle : List ℕ = codes "CYCLE=" ++ decimal p.cycle in
    let crystal : List ℕ = codes "CRYSTAL=" ++ decimal p.crystal in
    let baud : List ℕ = codes "BAUD=" ++ decimal p.baud in
    let m = micro_said p.target in
    let c = cycle_said p.cycle k.cycle in
    let x = crystal_said p.crystal k.crystal in
    let r = baud_said p.baud k.baud in
    let b1 : ℕ = 11 + (length micro + 1) in
    let b2 : ℕ = b1 + (length cycle + 1) in
    let b3 : ℕ = b2 + (length crystal + 1) in
    let b4 : ℕ = b3 + (length baud + 1) in
    let b5 : ℕ = b4 + 1 in
    let b6 : ℕ = b5 + 8 in
    let few1 : b1 ≤ 600 = omega (arith, m.fits.short) in
    let few2 : b2 ≤ 1200 = omega (arith, few1, c.fits.short) in
    let few3 : b3 ≤ 1800 = omega (arith, few2, x.fits.short) in
    let few4 : b4 ≤ 2400 = omega (arith, few3, r.fits.short) in
    let rest = pins_go p.target p.rungs (length p.pins) k.few k.body p.pins 0 b6 8 (omega arith) (omega (arith, few4, k.few)) k.pins in
    let ls : List (List ℕ) = print.pin_lines p.pins ++ tail_lines p.rungs in
    let fs : List LineForm = pin_forms p.pins ++ tail_forms rest.0 p.rungs in (
      rest.0,
      goes_more start (above site.Header None 0 11) 1 (codes "LDmicro0.1") Magic _ _
          (record { said = refl; short = omega arith; free = λ e. absurd cc; built = refl; chip = refl; shallow = refl; few = refl; room = omega arith }) refl
          (header_goes None 11 2 micro (header.Micro t) (above site.Header t 0 b1) _ _ m (ap not k.built) refl (omega arith) refl
          (header_goes t b1 3 cycle (header.Cycle p.cycle) (above site.Header t 0 b2) _ _ c refl refl (omega (arith, few1)) refl
          (header_goes t b2 4 crystal (header.Crystal p.crystal) (above site.Header t 0 b3) _ _ x refl refl (omega (arith, few2)) refl
          (header_goes t b3 5 baud (header.Baud p.baud) (above site.Header t 0 b4) _ _ r refl refl (omega (arith, few3)) refl
          (goes_more (above site.Header t 0 b4) (above site.Header t 0 b5) 6 [] Blank _ _
          (record { said = refl; short = omega arith; free = λ e. refl; built = refl; chip = refl; shallow = refl; few = refl; room = omega (arith, few4) })
          refl
          (header_goes t b5 7 (codes "IO LIST") header.Pins (above site.Pins t 0 b6) (map_lines ls) fs list_said refl refl (omega (arith, few4)) refl
          rest.1)))))),
    )

-- no line has a line feed in it

spaces_clean : (n : ℕ) → list_all not_feed (replicate n 32) ≡ true
spaces_clean zero = refl
spaces_clean (suc n) = spaces_clean n

indented_line : (i : ℕ) (words : List ℕ) → list_all not_feed words ≡ true → IsLine (print.indented i words)
indented_line i words h = by (nat_le (i + length words) LINE_BYTES)
  where
    by : (b : Bool) → IsLine (if b then replicate i 32 ++ words else words)
    by true = is_line (replicate i 32 ++ words) (clean_both (replicate i 32) words (spaces_clean i) h)
    by false = is_line words h

mark_clean : (p : Place) (i : ℕ) (m : Mark) → Fine p (Body m) → IsLine (mark_line i m)
mark_clean p i mark.Rung f = is_line (codes "RUNG") refl
mark_clean p i (mark.Open circuit.Series) f = indented_line i (codes "SERIES") refl
mark_clean p i (mark.Open circuit.Parallel) f = indented_line i (codes "PARALLEL") refl
mark_clean p i mark.End f = indented_line (i - 4) (codes "END") refl
mark_clean p i (mark.Element l) f = indented_line i (element_words l.kind) (element_fits l.kind f.fits).clean

marks_clean : (p : Place) (i : ℕ) (ms : List Mark) → AllFine p (map Body ms) → AllLines (mark_lines i ms)
marks_clean p i [] f = tt
marks_clean p i (m ∷ ms) f = (mark_clean p i m f.0, marks_clean (behind_form p (Body m)) (indent_behind i m) ms f.1)

pins_clean : (ls : List pin.PinLine) → AllPinsFit ls → AllLines (print.pin_lines ls)
pins_clean [] h = tt
pins_clean (l ∷ ls) h = (is_line (print.pin_line l) (pin_said l h.0).clean.clean, pins_clean ls h.1)

whole_clean : (p : Project) → Known p → AllLines (print.printed_lines p)
whole_clean p k = (
  is_line (codes "LDmicro0.1") refl,
  (
    is_line (codes "MICRO=" ++ target_text p.target) (micro_said p.target).fits.clean,
    (
      is_line (codes "CYCLE=" ++ decimal p.cycle) (cycle_said p.cycle k.cycle).fits.clean,
      (
        is_line (codes "CRYSTAL=" ++ decimal p.crystal) (crystal_said p.crystal k.crystal).fits.clean,
        (
          is_line (codes "BAUD=" ++ decimal p.baud) (baud_said p.baud k.baud).fits.clean,
          (
            is_line [] refl,
            (
              is_line (codes "IO LIST") refl,
              lines_append (print.pin_lines p.pins) (tail_lines p.rungs) (pins_clean p.pins k.pins) (
                is_line (codes "END") refl,
                (
                  is_line [] refl,
                  (
                    is_line (codes "PROGRAM") refl,
                    subst AllLines (rungs_marked p.rungs) (marks_clean (place_in site.Between (Some p.target) (length p.pins)) 0 (spelled p.rungs) k.body),
                  ),
                ),
              ),
            ),
          ),
        ),
      ),
    ),
  ),
)

-- the law

pub record ReadAgain (text : List ℕ) (p : Project) : Type 0 where
  pub project : Project
  pub read : IsReadAs text project
  pub same : SameButLines p project

same_forms : (p : Project) (m : ℕ) (gs : List Rung) → spelled gs ≡ numbered (m + 1 + 1 + 1) (spelled p.rungs)
    → read_forms m p ≡ spelled_project (Chip p.target ∷ Cycle p.cycle ∷ Crystal p.crystal ∷ Baud p.baud ∷ PinSection p.pins ∷ []) gs
same_forms p m gs e =
    let front : List LineForm → List LineForm = λ l. Magic ∷ Header (header.Micro (Some p.target)) ∷ Header (header.Cycle p.cycle) ∷ Header
    (header.Crystal p.crystal) ∷ Header (header.Baud p.baud) ∷ Header header.Pins ∷ l in
    let rest : List LineForm = Header header.Program ∷ map Body (spelled gs) in
    ap (λ ms. front (pin_forms p.pins ++ (Pins pins.End ∷ Header header.Program ∷ map Body ms))) (sym e)
    ∙ ap front (sym (append_assoc (pin_forms p.pins) (Pins pins.End ∷ []) rest))
    ∙ ap (λ l. front (l ++ rest)) (sym (append-nil (pin_forms p.pins ++ Pins pins.End ∷ [])))

pub read_again : (p : Project) → Known p → ReadAgain (print.printed p) p
read_again p k =
    let g = whole_goes p k in
    let r = rungs_renumbered p.rungs (g.0 + 1 + 1 + 1) in
    let q : Project = record p { rungs = r.rungs } in
    let ls : List Line = map_lines (print.printed_lines p) in
    let lines : lines_of (print.printed p) ≡ map_lines (print.printed_lines p) = joined_lines (print.printed_lines p) (whole_clean p k) in
    record {
      project = q;
      read = record {
        faultless =
            ap (λ x. or_else (first_fault start 1 x) (end_fault (behind_all start 1 x).site (length x + 1))) lines
            ∙ ap (λ o. or_else o (end_fault (behind_all start 1 ls).site (length ls + 1))) g.1.faultless
            ∙ ap (λ x. end_fault x (length ls + 1)) g.1.closed;
        project = record {
          items = Chip p.target ∷ Cycle p.cycle ∷ Crystal p.crystal ∷ Baud p.baud ∷ PinSection p.pins ∷ [];
          spelled = ap (said_by start 1) lines ∙ g.1.said ∙ ap (map Is) (same_forms p g.0 r.rungs r.spelled);
          target = refl;
          settings = refl;
        };
      };
      same = ap (λ gs. record p { rungs = gs }) (sym r.same);
    }
