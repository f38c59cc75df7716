-- What is known of the lines of a text that has no fault.
use Rattle.std.proofs.Common.{◌≡◌, ◌&&◌, ◌||◌, eqb, ltb, ℕ, zero, suc, ◌+◌, ◌-◌, ◌≤◌, nat_le, Bool, true, false, not, if◌then◌else◌, List, [], ◌∷◌, drop, length, map, reverse, codes, Option, Some, None, refl, sym, ap, subst, ◌∙◌, arith, length-drop}
use Rattle.std.proofs.lemmas.Bool.{and_parts, not-false, or_parts}
use Rattle.std.specs.List.{list_all}
use Rattle.std.specs.Str.{bytes_eq}
use Rattle.std.proofs.lemmas.Bool.Decides.{nat_tests}
use Rattle.std.proofs.lemmas.List.{reverse-append, length-reverse}
use Rattle.chip_tables.specs.declared.target.Target.{Target}
use Rattle.chip_tables.specs.declared.target.Target.TheVariants.{F628, F877, Mega16, Interp, AnsiC}
use Rattle.ladder_tree.specs.declared.element.Leaf as leaf
use Rattle.ladder_tree.specs.declared.element.TimerHow.{TimerHow}
use Rattle.ladder_tree.specs.declared.element.TimerHow.TheVariants as timer
use Rattle.ladder_tree.specs.declared.element.CounterHow.{CounterHow}
use Rattle.ladder_tree.specs.declared.element.CounterHow.TheVariants as counter
use Rattle.ladder_tree.specs.declared.element.MathHow.{MathHow}
use Rattle.ladder_tree.specs.declared.element.MathHow.TheVariants as sum
use Rattle.ladder_tree.specs.declared.element.CompareHow.{CompareHow}
use Rattle.ladder_tree.specs.declared.element.CompareHow.TheVariants as test
use Rattle.ladder_tree.specs.declared.element.LeafKind.{LeafKind}
use Rattle.ladder_tree.specs.declared.element.LeafKind.TheVariants as kind
use Rattle.ladder_tree.specs.declared.fault.ProjectFault.{ProjectFault}
use Rattle.ladder_tree.specs.declared.project.PinLine as pin
use Rattle.ladder_tree.specs.Names.{is_name}
use Rattle.ladder_tree.specs.declared.limits.TheConstants.{SHIFT_PLACES}
use Rattle.texts.specs.Lines.{IsLine}
use Rattle.texts.specs.declared.limits.TheConstants.{LINE_BYTES}
use Rattle.ld_line.proofs.RangeLemmas.{in_their_ranges, pins_in_range, settings_in_range}
use Rattle.ld_line.proofs.SaidLemmas.{said_so}
use Rattle.ld_line.specs.Elements.{only_name, named, contacts, mode_from, coil, timer_of, counter_of, move, operand_pair, math, compare, shift, pwm, element_of}
use Rattle.ld_line.specs.Header.{header_of}
use Rattle.ld_line.specs.Numbers.{most_delay, most_setting, most_pin, natural_in, integer}
use Rattle.ld_line.specs.Operands as read
use Rattle.ld_line.specs.Pins.{pin_line, pin_of_line}
use Rattle.ld_line.specs.Range.{is_read_setting}
use Rattle.ld_line.specs.Said.{IfIs, bare, said_map, both}
use Rattle.ld_line.specs.Tokens.{is_blank, is_return, behind, before, tokens, comment_text}
use Rattle.ld_line.specs.Kinds.{is_kind_built}
use Rattle.ld_line.specs.Words.{word_of, is_target_built}
use Rattle.ld_line.specs.declared.said.Said.{Said}
use Rattle.ld_line.specs.declared.said.Said.TheVariants.{Bad, Range, Is}
use Rattle.ld_line.specs.declared.header.HeaderLine.{HeaderLine}
use Rattle.ld_line.specs.declared.header.HeaderLine.TheVariants as header
use Rattle.ld_line.specs.declared.pins.PinsLine.{PinsLine}
use Rattle.ld_line.specs.declared.pins.PinsLine.TheVariants as pins
use Rattle.ld_line.specs.declared.word.Word.{Word}
use Rattle.ld_line.specs.declared.word.Word.TheVariants as word
use Rattle.ld_text.specs.declared.heard.Mark.TheVariants as mark
use Rattle.ld_text.specs.declared.heard.LineForm.{LineForm}
use Rattle.ld_text.specs.declared.heard.LineForm.TheVariants.{Blank, Magic, Header, Pins, Body}
use Rattle.ld_text.specs.declared.place.Site.{Site}
use Rattle.ld_text.specs.declared.place.Site.TheVariants as site
use Rattle.ld_text.specs.Lines.{Line, size_of}
use Rattle.ld_text.specs.Place.{Place, unless_blank, said_in, said_at, behind_form, behind_said, behind_all}
use Rattle.ld_text.specs.Place as place
use Rattle.ld_text.specs.Faults.{is_first, counting, has_unbuilt_word, begins_unbuilt, names_unbuilt, is_bad, is_out_of_range, is_too_deep, is_one_too_many, fault_of, fault_at, first_fault, or_else}
use Rattle.ld_text.specs.Text.{unblanked, said_by}
use Rattle.ld_text.proofs.TakenLemmas.{Passes, passes}
use Rattle.ld_text.proofs.KnowsLemmas.{element_built}
use Rattle.ld_text.proofs.SaidLemmas.{AllowedAt, allowed, element_worded}
use Rattle.ld_print.proofs.TokenLemmas.{at_most, ends, ends-append}
use Rattle.ld_print.specs.Words.{behind_spaces}
use Rattle.ld_print.proofs.LineLemmas.{not_feed, clean_line, clean_both}
use Rattle.ld_print.proofs.ElementLemmas.{FitsLine, TextFits, IsPrintable}
use Rattle.ld_print.proofs.ShorterLemmas.{table_fits, table_room}
use Rattle.ld_print.proofs.HeadLemmas.{PinFits}

-- a form that is said again where it is printed
abbrev pub FormFits : LineForm → Type 0
FormFits Blank = Unit {0}
FormFits Magic = Unit {0}
FormFits (Header (header.Micro (Some t))) = is_target_built t ≡ true
FormFits (Header (header.Micro None)) = Unit {0}
FormFits (Header (header.Cycle n)) = n ≤ most_setting
FormFits (Header (header.Crystal n)) = n ≤ most_setting
FormFits (Header (header.Baud n)) = n ≤ most_setting
FormFits (Header header.Compiled) = Unit {0}
FormFits (Header header.Pins) = Unit {0}
FormFits (Header header.Program) = Unit {0}
FormFits (Pins (pins.Pin p)) = PinFits p
FormFits (Pins pins.End) = Unit {0}
FormFits (Body mark.Rung) = Unit {0}
FormFits (Body (mark.Open c)) = Unit {0}
FormFits (Body mark.End) = Unit {0}
FormFits (Body (mark.Element l)) = IsPrintable l.kind

-- an element is built for the target whose words count in a rung
abbrev pub FormBuilt : Option Target → LineForm → Type 0
FormBuilt target Blank = Unit {0}
FormBuilt target Magic = Unit {0}
FormBuilt target (Header h) = Unit {0}
FormBuilt target (Pins q) = Unit {0}
FormBuilt target (Body mark.Rung) = Unit {0}
FormBuilt target (Body (mark.Open c)) = Unit {0}
FormBuilt target (Body mark.End) = Unit {0}
FormBuilt target (Body (mark.Element l)) = is_kind_built (counting site.Inside target) l.kind ≡ true

pub record Fine (p : Place) (f : LineForm) : Type 0 where
  pub allowed : AllowedAt p.site f
  pub shallow : is_too_deep p (Is f) ≡ false
  pub few : is_one_too_many p (Is f) ≡ false
  pub fits : FormFits f
  pub built : FormBuilt p.target f

abbrev pub AllFine : Place → List LineForm → Type 0
AllFine p [] = p.site ≡ site.Between
AllFine p (f ∷ fs) = Fine p f × AllFine (behind_form p f) fs

-- a place but for the bytes in front of it
abbrev pub unsized : Place → Place
unsized p = record p { bytes = 0 }

-- comments

ends_before : (test : ℕ → Bool) (bs : List ℕ) → ends test (before test bs) ≡ true
ends_before test bs = by (reverse bs)
  where
    turned : (b : Bool) (r : ℕ) (rs : List ℕ) → test r ≡ b → ends test (reverse (behind test rs)) ≡ true
        → ends test (reverse (if b then behind test rs else r ∷ rs)) ≡ true
    turned true r rs e h = h
    turned false r rs e h = ap (ends test) (reverse-append (r ∷ []) rs) ∙ ends-append test (reverse rs) r [] ∙ ap not e

    by : (rs : List ℕ) → ends test (reverse (behind test rs)) ≡ true
    by [] = refl
    by (r ∷ rs) = turned (test r) r rs refl (by rs)

ends_rest : (test : ℕ → Bool) (x : ℕ) (xs : List ℕ) → ends test (x ∷ xs) ≡ true → ends test xs ≡ true
ends_rest test x [] h = refl
ends_rest test x (y ∷ ys) h = h

ends_drop : (test : ℕ → Bool) (n : ℕ) (xs : List ℕ) → ends test xs ≡ true → ends test (drop n xs) ≡ true
ends_drop test zero xs h = h
ends_drop test (suc n) [] h = refl
ends_drop test (suc n) (x ∷ xs) h = ends_drop test n xs (ends_rest test x xs h)

-- what stays of a line behind blanks
record Stays (bs : List ℕ) (xs : List ℕ) : Type 0 where
  ends : ends is_return bs ≡ true → ends is_return xs ≡ true
  clean : list_all not_feed bs ≡ true → list_all not_feed xs ≡ true
  short : length xs ≤ length bs

stays_behind : (bs : List ℕ) → Stays bs (behind is_blank bs)
stays_behind [] = record { ends = λ h. h; clean = λ h. h; short = omega arith }
stays_behind (b ∷ bs) = by (is_blank b) (stays_behind bs)
  where
    by : (x : Bool) → Stays bs (behind is_blank bs) → Stays (b ∷ bs) (if x then behind is_blank bs else b ∷ bs)
    by true s = record {
      ends = λ h. s.ends (ends_rest is_return b bs h);
      clean = λ h. s.clean (and_parts (not_feed b) (list_all not_feed bs) h).1;
      short = omega (arith, s.short);
    }
    by false s = record { ends = λ h. h; clean = λ h. h; short = omega arith }

clean_reverse : (xs : List ℕ) → list_all not_feed xs ≡ true → list_all not_feed (reverse xs) ≡ true
clean_reverse [] h = refl
clean_reverse (x ∷ xs) h =
    let g = and_parts (not_feed x) (list_all not_feed xs) h in
    ap (list_all not_feed) (reverse-append (x ∷ []) xs) ∙ clean_both (reverse xs) (x ∷ []) (clean_reverse xs g.1) (rw g.0 refl)

clean_front : (test : ℕ → Bool) (xs : List ℕ) → list_all not_feed xs ≡ true
    → (list_all not_feed (behind test xs) ≡ true) × (length (behind test xs) ≤ length xs)
clean_front test [] h = (refl, omega arith)
clean_front test (x ∷ xs) h = by (test x) (clean_front test xs (and_parts (not_feed x) (list_all not_feed xs) h).1)
  where
    by : (b : Bool) → (list_all not_feed (behind test xs) ≡ true) × (length (behind test xs) ≤ length xs)
        → (list_all not_feed (if b then behind test xs else x ∷ xs) ≡ true) × (length (if b then behind test xs else x ∷ xs) ≤ length (x ∷ xs))
    by true r = (r.0, omega (arith, r.1))
    by false r = (h, omega arith)

clean_drop : (n : ℕ) (xs : List ℕ) → list_all not_feed xs ≡ true → list_all not_feed (drop n xs) ≡ true
clean_drop zero xs h = h
clean_drop (suc n) [] h = refl
clean_drop (suc n) (x ∷ xs) h = clean_drop n xs (and_parts (not_feed x) (list_all not_feed xs) h).1

comment_stays : (bytes : List ℕ) → length bytes ≤ LINE_BYTES → IsLine bytes → FitsLine (comment_text bytes)
comment_stays bytes short clean =
    let turned = clean_front is_return (reverse bytes) (clean_reverse bytes (clean_line bytes clean)) in
    let whole = before is_return bytes in
    let s = stays_behind whole in
    record {
      short = omega (arith, length-drop 8 (behind is_blank whole), s.short, length-reverse (behind is_return (reverse bytes)), turned.1, length-reverse bytes);
      clean = clean_drop 8 (behind is_blank whole) (s.clean (clean_reverse (behind is_return (reverse bytes)) turned.0));
      ends = ends_drop is_return 8 (behind is_blank whole) (s.ends (ends_before is_return bytes));
    }

-- elements

made_text : {A : Type 0} (make : A → LeafKind) (x : Said A) → ((a : A) → TextFits (make a)) → IfIs (said_map make x) TextFits
made_text make Bad all = tt
made_text make Range all = tt
made_text make (Is a) all = all a

bare_text : (k : LeafKind) (ts : List (List ℕ)) → TextFits k → IfIs (bare k ts) TextFits
bare_text k [] f = f
bare_text k (t ∷ ts) f = tt

contacts_text : (ts : List (List ℕ)) → IfIs (contacts ts) TextFits
contacts_text [] = tt
contacts_text (n ∷ []) = tt
contacts_text (n ∷ f ∷ []) = made_text _ (both (read.name n) (read.flag f)) (λ a. tt)
contacts_text (n ∷ f ∷ t ∷ ts) = tt

coil_text : (ts : List (List ℕ)) → IfIs (coil ts) TextFits
coil_text [] = tt
coil_text (n ∷ []) = tt
coil_text (n ∷ a ∷ []) = tt
coil_text (n ∷ a ∷ b ∷ []) = tt
coil_text (n ∷ a ∷ b ∷ c ∷ []) = made_text _ (both (read.name n) (mode_from a b c)) (λ x. tt)
coil_text (n ∷ a ∷ b ∷ c ∷ t ∷ ts) = tt

timer_text : (how : TimerHow) (ts : List (List ℕ)) → IfIs (timer_of how ts) TextFits
timer_text how [] = tt
timer_text how (n ∷ []) = tt
timer_text how (n ∷ d ∷ []) = made_text _ (both (read.name n) (natural_in 0 most_delay d)) (λ a. tt)
timer_text how (n ∷ d ∷ t ∷ ts) = tt

counter_text : (how : CounterHow) (ts : List (List ℕ)) → IfIs (counter_of how ts) TextFits
counter_text how [] = tt
counter_text how (n ∷ []) = tt
counter_text how (n ∷ m ∷ []) = made_text _ (both (read.name n) (integer m)) (λ a. tt)
counter_text how (n ∷ m ∷ t ∷ ts) = tt

named_text : (make : List ℕ → LeafKind) (ts : List (List ℕ)) → ((n : List ℕ) → TextFits (make n)) → IfIs (named make ts) TextFits
named_text make ts all = made_text make (only_name ts) all

move_text : (ts : List (List ℕ)) → IfIs (move ts) TextFits
move_text [] = tt
move_text (n ∷ []) = tt
move_text (n ∷ o ∷ []) = made_text _ (both (read.name n) (read.operand o)) (λ a. tt)
move_text (n ∷ o ∷ t ∷ ts) = tt

math_text : (how : MathHow) (ts : List (List ℕ)) → IfIs (math how ts) TextFits
math_text how [] = tt
math_text how (n ∷ []) = tt
math_text how (n ∷ a ∷ []) = tt
math_text how (n ∷ a ∷ b ∷ []) = made_text _ (both (read.name n) (operand_pair a b)) (λ x. tt)
math_text how (n ∷ a ∷ b ∷ t ∷ ts) = tt

compare_text : (how : CompareHow) (ts : List (List ℕ)) → IfIs (compare how ts) TextFits
compare_text how [] = tt
compare_text how (a ∷ []) = tt
compare_text how (a ∷ b ∷ []) = made_text _ (operand_pair a b) (λ x. tt)
compare_text how (a ∷ b ∷ t ∷ ts) = tt

shift_text : (ts : List (List ℕ)) → IfIs (shift ts) TextFits
shift_text [] = tt
shift_text (n ∷ []) = tt
shift_text (n ∷ k ∷ []) = made_text _ (both (read.name n) (natural_in 1 SHIFT_PLACES k)) (λ a. tt)
shift_text (n ∷ k ∷ t ∷ ts) = tt

pwm_text : (ts : List (List ℕ)) → IfIs (pwm ts) TextFits
pwm_text [] = tt
pwm_text (n ∷ []) = tt
pwm_text (n ∷ z ∷ []) = made_text _ (both (read.name n) (natural_in 0 most_setting z)) (λ a. tt)
pwm_text (n ∷ z ∷ t ∷ ts) = tt

text_fits : (w : Word) (ts : List (List ℕ)) (bytes : List ℕ) → FitsLine (comment_text bytes)
    → (Some w ≡ Some word.LookUpTable → length (behind_spaces ts) ≤ 499) → IfIs (element_of w ts bytes) TextFits
text_fits word.Contacts ts bytes f r = contacts_text ts
text_fits word.Coil ts bytes f r = coil_text ts
text_fits word.Osr ts bytes f r = bare_text kind.Osr ts tt
text_fits word.Osf ts bytes f r = bare_text kind.Osf ts tt
text_fits word.Short ts bytes f r = bare_text kind.Short ts tt
text_fits word.Open ts bytes f r = bare_text kind.Open ts tt
text_fits word.Comment ts bytes f r = f
text_fits word.MasterRelay ts bytes f r = bare_text kind.MasterRelay ts tt
text_fits word.Placeholder ts bytes f r = bare_text kind.Placeholder ts tt
text_fits word.Ton ts bytes f r = timer_text timer.Ton ts
text_fits word.Tof ts bytes f r = timer_text timer.Tof ts
text_fits word.Rto ts bytes f r = timer_text timer.Rto ts
text_fits word.Ctu ts bytes f r = counter_text counter.Ctu ts
text_fits word.Ctd ts bytes f r = counter_text counter.Ctd ts
text_fits word.Ctc ts bytes f r = counter_text counter.Ctc ts
text_fits word.Res ts bytes f r = named_text kind.Reset ts (λ n. tt)
text_fits word.Move ts bytes f r = move_text ts
text_fits word.Add ts bytes f r = math_text sum.Add ts
text_fits word.Sub ts bytes f r = math_text sum.Sub ts
text_fits word.Mul ts bytes f r = math_text sum.Mul ts
text_fits word.Div ts bytes f r = math_text sum.Div ts
text_fits word.Equ ts bytes f r = compare_text test.Equ ts
text_fits word.Neq ts bytes f r = compare_text test.Neq ts
text_fits word.Grt ts bytes f r = compare_text test.Grt ts
text_fits word.Geq ts bytes f r = compare_text test.Geq ts
text_fits word.Les ts bytes f r = compare_text test.Les ts
text_fits word.Leq ts bytes f r = compare_text test.Leq ts
text_fits word.ShiftRegister ts bytes f r = shift_text ts
text_fits word.LookUpTable ts bytes f r = table_fits ts (r refl)
text_fits word.ReadAdc ts bytes f r = named_text kind.ReadAdc ts (λ n. tt)
text_fits word.SetPwm ts bytes f r = pwm_text ts
text_fits word.UartRecv ts bytes f r = named_text kind.Recv ts (λ n. tt)
text_fits word.UartSend ts bytes f r = named_text kind.Send ts (λ n. tt)
text_fits word.Persist ts bytes f r = named_text kind.Persist ts (λ n. tt)
text_fits word.FormattedString ts bytes f r = tt
text_fits word.PiecewiseLinear ts bytes f r = tt

printable : (number : ℕ) (bytes : List ℕ) (l : leaf.Leaf) → length bytes ≤ LINE_BYTES → IsLine bytes → said_in site.Inside number bytes ≡ Is
    (Body (mark.Element l))
    → IsPrintable l.kind
printable number bytes l short clean h =
    let w = element_worded number bytes l h in
    let room : Some w.word ≡ Some word.LookUpTable → length (behind_spaces w.rest) ≤ 499 = λ e. table_room bytes w.token w.rest short w.tokens (w.known ∙ e) in
    record {
      read = in_their_ranges w.word w.rest bytes l.kind w.said;
      text = said_so TextFits (element_of w.word w.rest bytes) l.kind w.said (text_fits w.word w.rest bytes (comment_stays bytes short clean) room);
    }

-- words that are built

-- settings and pins

header_says : (ts : List (List ℕ)) (x : Said HeaderLine) (h : HeaderLine) → unless_blank ts (said_map Header x) ≡ Is (Header h) → x ≡ Is h
header_says [] x h e = absurd cc
header_says (t ∷ ts) Bad h e = absurd cc
header_says (t ∷ ts) Range h e = absurd cc
header_says (t ∷ ts) (Is g) h e = let same : Header g ≡ Header h = cc in let inner : g ≡ h = cc in ap Is inner

pins_say : (ts : List (List ℕ)) (x : Said PinsLine) (q : PinsLine) → unless_blank ts (said_map Pins x) ≡ Is (Pins q) → x ≡ Is q
pins_say [] x q e = absurd cc
pins_say (t ∷ ts) Bad q e = absurd cc
pins_say (t ∷ ts) Range q e = absurd cc
pins_say (t ∷ ts) (Is r) q e = let same : Pins r ≡ Pins q = cc in let inner : r ≡ q = cc in ap Is inner

record NameFirst (ts : List (List ℕ)) (p : pin.PinLine) : Type 0 where
  rest : List (List ℕ)
  is : ts ≡ p.name ∷ rest

pin_named : (n : List ℕ) (b : Bool) (s : Said ℕ) (p : pin.PinLine) →
    said_map (λ p. pins.Pin (record { name = p.0; pin = p.1 })) (both (if b then Is n else Bad) s) ≡ Is (pins.Pin p) → n ≡ p.name
pin_named n true Bad p h = absurd cc
pin_named n true Range p h = absurd cc
pin_named n true (Is k) p h =
    let same : pins.Pin (record { name = n; pin = k }) ≡ pins.Pin p = cc in
    let inner : record { name = n; pin = k } ≡ p = cc in
    ap (λ x. x.name) inner
pin_named n false Bad p h = absurd cc
pin_named n false Range p h = absurd cc
pin_named n false (Is k) p h = absurd cc

name_first : (ts : List (List ℕ)) (p : pin.PinLine) → pin_of_line ts ≡ Is (pins.Pin p) → NameFirst ts p
name_first [] p h = absurd cc
name_first (t ∷ []) p h = absurd (by (bytes_eq t (codes "END")) h)
  where
    by : (b : Bool) → (if b then Is pins.End else Bad) ≡ Is (pins.Pin p) → ⊥
    by true h = cc
    by false h = cc
name_first (n ∷ w ∷ []) p h = absurd cc
name_first (n ∷ w ∷ k ∷ []) p h = by (bytes_eq w (codes "at")) h
  where
    by : (b : Bool) → (if b then pin_line n k else Bad) ≡ Is (pins.Pin p) → NameFirst (n ∷ w ∷ k ∷ []) p
    by true h = record { rest = w ∷ k ∷ []; is = ap (λ x. x ∷ w ∷ k ∷ []) (pin_named n (is_name n) (natural_in 0 most_pin k) p h) }
    by false h = absurd cc
name_first (n ∷ w ∷ k ∷ t ∷ ts) p h = absurd cc

pin_fits : (bytes : List ℕ) (p : pin.PinLine) → begins_unbuilt Interp (tokens bytes) ≡ false → pin_of_line (tokens bytes) ≡ Is (pins.Pin p)
    → PinFits p
pin_fits bytes p free h =
    let r = and_parts (is_name p.name) (nat_le p.pin most_pin) (pins_in_range (tokens bytes) (pins.Pin p) h) in
    let f = name_first (tokens bytes) p h in
    record { named = r.0; number = at_most p.pin most_pin r.1; free = sym (ap (begins_unbuilt Interp) f.is) ∙ free }

-- a line that has no fault

at_header : (x : Site) (h : HeaderLine) → AllowedAt x (Header h) → x ≡ site.Header
at_header site.First h a = absurd a
at_header site.Header h a = refl
at_header site.Pins h a = absurd a
at_header site.Between h a = absurd a
at_header site.Inside h a = absurd a

at_pins : (x : Site) (q : PinsLine) → AllowedAt x (Pins q) → x ≡ site.Pins
at_pins site.First q a = absurd a
at_pins site.Header q a = absurd a
at_pins site.Pins q a = refl
at_pins site.Between q a = absurd a
at_pins site.Inside q a = absurd a

pub at_element : (x : Site) (l : leaf.Leaf) → AllowedAt x (Body (mark.Element l)) → x ≡ site.Inside
at_element site.First l a = absurd a
at_element site.Header l a = absurd a
at_element site.Pins l a = absurd a
at_element site.Between l a = absurd a
at_element site.Inside l a = refl

not_over : (n k : ℕ) → ltb n k ≡ false → k ≤ n
not_over n k h = grind (arith, nat_tests)

-- what is known of a line at a place that is not the first
record Seen (p : Place) (bytes : List ℕ) (f : LineForm) : Type 0 where
  short : length bytes ≤ LINE_BYTES
  free : begins_unbuilt (counting p.site p.target) (tokens bytes) ≡ false
  built : names_unbuilt (Is f) ≡ false

seen : (p : Place) (bytes : List ℕ) (size : ℕ) (f : LineForm) → is_first p.site ≡ false → Passes p bytes size (Is f) → Seen p bytes f
seen p bytes size f e all =
    let k = or_parts (begins_unbuilt (counting p.site p.target) (tokens bytes)) (names_unbuilt (Is f))
    (ap (λ b. not b && (begins_unbuilt (counting p.site p.target) (tokens bytes) || names_unbuilt (Is f))) (sym e) ∙ all.built) in
    record { short = not_over LINE_BYTES (length bytes) all.short; free = k.0; built = k.1 }

setting_fits : (p : Place) (number : ℕ) (bytes : List ℕ) (size : ℕ) (h : HeaderLine) → p.site ≡ site.Header → said_in p.site number bytes ≡ Is (Header h)
    → Passes p bytes size (Is (Header h)) → FormFits (Header h)
setting_fits p number bytes size h e said all =
    by h (settings_in_range bytes h (header_says (tokens bytes) (header_of bytes) h (ap (λ x. said_in x number bytes) (sym e) ∙ said)))
    (seen p bytes size (Header h) (ap is_first e) all).built
  where
    by : (h : HeaderLine) → is_read_setting h ≡ true → names_unbuilt (Is (Header h)) ≡ false → FormFits (Header h)
    by (header.Micro (Some t)) r b = not-false (is_target_built t) b
    by (header.Micro None) r b = tt
    by (header.Cycle n) r b = at_most n most_setting r
    by (header.Crystal n) r b = at_most n most_setting r
    by (header.Baud n) r b = at_most n most_setting r
    by header.Compiled r b = tt
    by header.Pins r b = tt
    by header.Program r b = tt

form_fits : (p : Place) (number : ℕ) (bytes : List ℕ) (size : ℕ) (f : LineForm) → AllowedAt p.site f → said_in p.site number bytes ≡ Is f
    → Passes p bytes size (Is f) → IsLine bytes → FormFits f
form_fits p number bytes size Blank a said all clean = tt
form_fits p number bytes size Magic a said all clean = tt
form_fits p number bytes size (Header h) a said all clean = setting_fits p number bytes size h (at_header p.site h a) said all
form_fits p number bytes size (Pins pins.End) a said all clean = tt
form_fits p number bytes size (Pins (pins.Pin q)) a said all clean =
    let e = at_pins p.site (pins.Pin q) a in
    pin_fits bytes q (ap (λ x. begins_unbuilt (counting x p.target) (tokens bytes)) (sym e) ∙ (seen p bytes size (Pins (pins.Pin q)) (ap is_first e) all).free) (pins_say (tokens bytes) (pin_of_line (tokens bytes))
    (pins.Pin q) (ap (λ x. said_in x number bytes) (sym e) ∙ said))
form_fits p number bytes size (Body mark.Rung) a said all clean = tt
form_fits p number bytes size (Body (mark.Open c)) a said all clean = tt
form_fits p number bytes size (Body mark.End) a said all clean = tt
form_fits p number bytes size (Body (mark.Element l)) a said all clean =
    let e = at_element p.site l a in
    let s = seen p bytes size (Body (mark.Element l)) (ap is_first e) all in
    printable number bytes l s.short clean (ap (λ x. said_in x number bytes) (sym e) ∙ said)

form_built : (p : Place) (number : ℕ) (bytes : List ℕ) (size : ℕ) (f : LineForm) → AllowedAt p.site f → said_in p.site number bytes ≡ Is f
    → Passes p bytes size (Is f) → FormBuilt p.target f
form_built p number bytes size Blank a said all = tt
form_built p number bytes size Magic a said all = tt
form_built p number bytes size (Header h) a said all = tt
form_built p number bytes size (Pins q) a said all = tt
form_built p number bytes size (Body mark.Rung) a said all = tt
form_built p number bytes size (Body (mark.Open c)) a said all = tt
form_built p number bytes size (Body mark.End) a said all = tt
form_built p number bytes size (Body (mark.Element l)) a said all =
    let e = at_element p.site l a in
    element_built p number bytes size l e (ap (λ x. said_in x number bytes) (sym e) ∙ said) all

fine_line : (p : Place) (number : ℕ) (l : Line) (f : LineForm) → fault_at p number l ≡ None → said_at p number l ≡ Is f → IsLine l.bytes → Fine p f
fine_line p number l f h said clean =
    let all = passes p number l.bytes (size_of l) (Is f) (ap (fault_of p number l.bytes (size_of l)) (sym said) ∙ h) in
    let a = allowed p.site number l.bytes f said in
    record {
      allowed = a;
      shallow = all.shallow;
      few = (or_parts (is_one_too_many p (Is f)) _ all.few).0;
      fits = form_fits p number l.bytes (size_of l) f a said all clean;
      built = form_built p number l.bytes (size_of l) f a said all;
    }

fine_unsized : (p : Place) (f : LineForm) → Fine p f → Fine (unsized p) f
fine_unsized p Blank h = record { allowed = h.allowed; shallow = refl; few = refl; fits = h.fits; built = h.built }
fine_unsized p Magic h = record { allowed = h.allowed; shallow = refl; few = refl; fits = h.fits; built = h.built }
fine_unsized p (Header g) h = record { allowed = h.allowed; shallow = refl; few = refl; fits = h.fits; built = h.built }
fine_unsized p (Pins (pins.Pin q)) h = record { allowed = h.allowed; shallow = refl; few = h.few; fits = h.fits; built = h.built }
fine_unsized p (Pins pins.End) h = record { allowed = h.allowed; shallow = refl; few = refl; fits = h.fits; built = h.built }
fine_unsized p (Body mark.Rung) h = record { allowed = h.allowed; shallow = refl; few = h.few; fits = h.fits; built = h.built }
fine_unsized p (Body (mark.Open c)) h = record { allowed = h.allowed; shallow = h.shallow; few = h.few; fits = h.fits; built = h.built }
fine_unsized p (Body mark.End) h = record { allowed = h.allowed; shallow = refl; few = refl; fits = h.fits; built = h.built }
fine_unsized p (Body (mark.Element l)) h = record { allowed = h.allowed; shallow = refl; few = h.few; fits = h.fits; built = h.built }

end_unsized : (p : Place) (b : Bool) → unsized (if b then record p { site = site.Between } else record p { depth = p.depth - 1 }) ≡
    (if b then record (unsized p) { site = site.Between } else record (unsized p) { depth = p.depth - 1 })
end_unsized p true = refl
end_unsized p false = refl

pub behind_unsized : (p : Place) (f : LineForm) → unsized (behind_form p f) ≡ behind_form (unsized p) f
behind_unsized p Blank = refl
behind_unsized p Magic = refl
behind_unsized p (Header (header.Micro (Some t))) = refl
behind_unsized p (Header (header.Micro None)) = refl
behind_unsized p (Header (header.Cycle n)) = refl
behind_unsized p (Header (header.Crystal n)) = refl
behind_unsized p (Header (header.Baud n)) = refl
behind_unsized p (Header header.Compiled) = refl
behind_unsized p (Header header.Pins) = refl
behind_unsized p (Header header.Program) = refl
behind_unsized p (Pins (pins.Pin q)) = refl
behind_unsized p (Pins pins.End) = refl
behind_unsized p (Body mark.Rung) = refl
behind_unsized p (Body (mark.Open c)) = refl
behind_unsized p (Body mark.End) = end_unsized p (eqb p.depth 0)
behind_unsized p (Body (mark.Element l)) = refl

-- all lines of a text that has no fault

abbrev pub AllClean : List Line → Type 0
AllClean [] = Unit {0}
AllClean (l ∷ ls) = IsLine l.bytes × AllClean ls

pub none_both : (a b : Option ProjectFault) → or_else a b ≡ None → (a ≡ None) × (b ≡ None)
none_both (Some f) b h = absurd cc
none_both None b h = (refl, h)

said_more : (p : Place) (f : LineForm) (others : List (Said LineForm)) (fs : List LineForm) → Is f ∷ others ≡ map Is fs → Fine p f
    → ((gs : List LineForm) → others ≡ map Is gs → AllFine (unsized (behind_form p f)) gs) → AllFine (unsized p) fs
said_more p f others [] h fine rest = absurd cc
said_more p f others (g ∷ gs) h fine rest =
    let head : Is f ≡ Is g = cc in
    let same : f ≡ g = cc in
    let tail : others ≡ map Is gs = cc in
    (subst (Fine (unsized p)) same (fine_unsized p f fine), subst (λ x. AllFine x gs) (behind_unsized p f ∙ ap (behind_form (unsized p)) same) (rest gs tail))

one_more : (p : Place) (f : LineForm) (others : List (Said LineForm)) (fs : List LineForm) → unblanked (Is f) others ≡ map Is fs → Fine p f
    → ((gs : List LineForm) → others ≡ map Is gs → AllFine (unsized (behind_form p f)) gs) → AllFine (unsized p) fs
one_more p Blank others fs h fine rest = rest fs h
one_more p Magic others fs h fine rest = said_more p Magic others fs h fine rest
one_more p (Header g) others fs h fine rest = said_more p (Header g) others fs h fine rest
one_more p (Pins g) others fs h fine rest = said_more p (Pins g) others fs h fine rest
one_more p (Body g) others fs h fine rest = said_more p (Body g) others fs h fine rest

pub fine_lines : (ls : List Line) (p : Place) (n : ℕ) (fs : List LineForm) → AllClean ls → first_fault p n ls ≡ None → said_by p n ls ≡ map Is fs
    → (behind_all p n ls).site ≡ site.Between → AllFine (unsized p) fs
fine_lines [] p n [] c h said e = e
fine_lines [] p n (f ∷ fs) c h said e = absurd cc
fine_lines (l ∷ ls) p n fs c h said e =
    by (said_at p n l) refl (λ gs k. fine_lines ls (place.behind p n l) (n + 1) gs c.1
    (none_both (fault_at p n l) (first_fault (place.behind p n l) (n + 1) ls) h).1 k e)
  where
    none : (fault_at p n l ≡ None) × (first_fault (place.behind p n l) (n + 1) ls ≡ None)
    none = none_both (fault_at p n l) (first_fault (place.behind p n l) (n + 1) ls) h

    all : Passes p l.bytes (size_of l) (said_at p n l)
    all = passes p n l.bytes (size_of l) (said_at p n l) none.0

    by : (x : Said LineForm) → said_at p n l ≡ x
        → ((gs : List LineForm) → said_by (place.behind p n l) (n + 1) ls ≡ map Is gs → AllFine (unsized (place.behind p n l)) gs) → AllFine (unsized p) fs
    by Bad g rest = let no = ap is_bad (sym g) ∙ all.good in absurd cc
    by Range g rest = let no = ap is_out_of_range (sym g) ∙ all.range in absurd cc
    by (Is f) g rest =
        one_more p f (said_by (place.behind p n l) (n + 1) ls) fs (ap (λ x. unblanked x (said_by (place.behind p n l) (n + 1) ls)) (sym g) ∙ said)
        (fine_line p n l f none.0 g c.0)
        (λ gs k. subst (λ x. AllFine (unsized x) gs) (ap (behind_said p (size_of l)) g) (rest gs k))
