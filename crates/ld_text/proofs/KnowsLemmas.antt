-- What a reader has read spells what the lines said, and keeps the limits.
use Rattle.std.proofs.Common.{◌≡◌, ℕ, ◌+◌, ◌-◌, ◌≤◌, Bool, true, false, not, cond, eqb, nat_le, ◌&&◌, ◌||◌, List, [], ◌∷◌, ◌++◌, length, map, Option, Some, None, is_some, refl, sym, ap, subst, ◌∙◌, arith, append_assoc, append-nil, length-append, lit≤}
use Rattle.std.proofs.lemmas.Bool.{or_parts}
use Rattle.std.specs.List.{list_all}
use Rattle.std.proofs.lemmas.List.{map-append}
use Rattle.std.proofs.lemmas.List.Folds.{list_all-append}
use Rattle.std.proofs.lemmas.Bool.Decides.{nat_tests}
use Rattle.chip_tables.specs.declared.target.Target.{Target}
use Rattle.ladder_tree.specs.declared.element.Leaf as leaf
use Rattle.ladder_tree.specs.declared.limits.TheConstants.{RUNGS, ELEMENTS, OPENINGS, PIN_LINES}
use Rattle.ladder_tree.specs.declared.project.Node.{Node}
use Rattle.ladder_tree.specs.declared.project.PinLine as pin
use Rattle.ladder_tree.specs.declared.project.Rung.{Rung}
use Rattle.ld_line.specs.Kinds.{word_for, is_kind_built}
use Rattle.ld_line.specs.Numbers.{most_setting}
use Rattle.ld_line.specs.Range.{is_read_kind, is_read_pin}
use Rattle.ld_line.specs.Tokens.{tokens}
use Rattle.ld_line.specs.Words.{word_of, is_built, is_target_built}
use Rattle.ld_line.specs.declared.word.Word.{Word}
use Rattle.ld_line.specs.declared.header.HeaderLine.{HeaderLine}
use Rattle.ld_line.specs.declared.header.HeaderLine.TheVariants as header
use Rattle.ld_line.specs.declared.pins.PinsLine.TheVariants as pins
use Rattle.ld_line.specs.declared.said.Said.TheVariants.{Is}
use Rattle.ld_line.proofs.KindLemmas.{begins_with}
use Rattle.ld_line.proofs.RangeLemmas.{in_their_ranges, pins_in_range, settings_in_range}
use Rattle.ld_text.specs.declared.heard.Mark.{Mark}
use Rattle.ld_text.specs.declared.heard.Mark.TheVariants as mark
use Rattle.ld_text.specs.declared.heard.LineForm.{LineForm}
use Rattle.ld_text.specs.declared.heard.LineForm.TheVariants.{Blank, Magic, Header, Pins, Body}
use Rattle.ld_text.specs.declared.place.Site.{Site}
use Rattle.ld_text.specs.declared.place.Site.TheVariants as site
use Rattle.ld_text.specs.Lines.{Line, size_of}
use Rattle.ld_text.specs.Place.{Place, said_in, behind, behind_said, behind_header, behind_mark}
use Rattle.ld_text.specs.Faults.{counting, has_unbuilt_word, begins_unbuilt, is_chipless, is_first, fault_of}
use Rattle.ld_text.specs.Spelling.{Settings, Item, Chip, Cycle, Crystal, Baud, Compiled, PinSection, joined, pin_forms, spelled_item, spelled_items, defaults, with_item, with_items}
use Rattle.ld_text.specs.Text.{unblanked, said_by}
use Rattle.ld_text.specs.Tree.{Frame, Tree, Closed, Building, ended, grown, with_form}
use Rattle.ld_text.specs.Reading.{settings_behind, RoomFor, Standing, first, standing_behind, Taken, Goes, Stops, taken}
use Rattle.ld_text.proofs.TakenLemmas.{Passes, Went, goes, passes, room}
use Rattle.ld_text.proofs.TreeGrowth.{so_far, Suits, so_far-grown, IsShallow, shallow_grown, depth_at, MayOpen, leaves_of, opens, begins, leaves_of-append, opens-append, begins-append}
use Rattle.ld_text.proofs.SaidLemmas.{AllowedAt, allowed, header_said, pins_said, element_worded, IsBuilt}
use Rattle.ld_text.proofs.RunLemmas.{then, run}

-- an element that lines can say
abbrev pub is_read : leaf.Leaf → Bool
is_read l = is_read_kind l.kind

abbrev IsRead : Mark → Type 0
IsRead (mark.Element l) = is_read l ≡ true
IsRead mark.Rung = Unit {0}
IsRead (mark.Open c) = Unit {0}
IsRead mark.End = Unit {0}

-- the place counts the lines of the tree
pub record Counts (p : Place) (t : Tree) : Type 0 where
  pub rungs : begins (so_far t) ≡ p.rungs
  pub few_rungs : p.rungs ≤ RUNGS
  pub elements : length (leaves_of (so_far t)) ≡ p.elements
  pub few_elements : p.elements ≤ ELEMENTS
  pub openings : opens (so_far t) ≡ p.openings
  pub few_openings : p.openings ≤ OPENINGS
  pub depth : depth_at t ≡ p.depth
  pub shallow : IsShallow t
  pub read : list_all is_read (leaves_of (so_far t)) ≡ true

no_depth : (k n : ℕ) → k ≡ n + 1 → eqb k 0 ≡ false
no_depth k n h = grind (arith, nat_tests)

depth_ended : (p : Place) (gs : List Rung) (fs : List Frame) (ns : List Node) → length fs ≡ p.depth → depth_at (ended gs fs ns) ≡ (behind_mark p mark.End).depth
depth_ended p gs [] ns h = by (eqb p.depth 0)
  where
    by : (b : Bool) → 0 ≡ (cond b (record p { site = site.Between }) (record p { depth = p.depth - 1 })).depth
    by true = h
    by false = omega arith
depth_ended p gs (f ∷ fs) ns h = by (eqb p.depth 0) (no_depth p.depth (length fs) (omega arith))
  where
    by : (b : Bool) → b ≡ false → length fs ≡ (cond b (record p { site = site.Between }) (record p { depth = p.depth - 1 })).depth
    by true e = absurd cc
    by false e = omega arith

depth_grown : (p : Place) (t : Tree) (m : Mark) → Suits t m → depth_at t ≡ p.depth → depth_at (grown t m) ≡ (behind_mark p m).depth
depth_grown p (Closed gs) mark.Rung s h = h
depth_grown p (Closed gs) (mark.Open c) s h = absurd s
depth_grown p (Closed gs) mark.End s h = absurd s
depth_grown p (Closed gs) (mark.Element l) s h = absurd s
depth_grown p (Building gs fs ns) mark.Rung s h = absurd s
depth_grown p (Building gs fs ns) (mark.Open c) s h = omega arith
depth_grown p (Building gs fs ns) mark.End s h = depth_ended p gs fs ns h
depth_grown p (Building gs fs ns) (mark.Element l) s h = h

may_open : (p : Place) (t : Tree) (m : Mark) → depth_at t ≡ p.depth → RoomFor p (Body m) → MayOpen t m
may_open p t mark.Rung h r = tt
may_open p t (mark.Open c) h r = let d = r.0 in omega arith
may_open p t mark.End h r = tt
may_open p t (mark.Element l) h r = tt

end_same : (p : Place) (b : Bool)
    → ((cond b (record p { site = site.Between }) (record p { depth = p.depth - 1 })).rungs ≡ p.rungs) ×
    ((cond b (record p { site = site.Between }) (record p { depth = p.depth - 1 })).elements ≡ p.elements) ×
    ((cond b (record p { site = site.Between }) (record p { depth = p.depth - 1 })).openings ≡ p.openings)
end_same p true = (refl, refl, refl)
end_same p false = (refl, refl, refl)

-- what one line adds
record Adds (p : Place) (m : Mark) (ms : List Mark) : Type 0 where
  rungs : begins (ms ++ m ∷ []) ≡ (behind_mark p m).rungs
  few_rungs : (behind_mark p m).rungs ≤ RUNGS
  elements : length (leaves_of (ms ++ m ∷ [])) ≡ (behind_mark p m).elements
  few_elements : (behind_mark p m).elements ≤ ELEMENTS
  openings : opens (ms ++ m ∷ []) ≡ (behind_mark p m).openings
  few_openings : (behind_mark p m).openings ≤ OPENINGS
  read : list_all is_read (leaves_of (ms ++ m ∷ [])) ≡ true

both_true : (a b : Bool) → a ≡ true → b ≡ true → (a && (b && true)) ≡ true
both_true a b h e = rw (h, e) refl

adds : (p : Place) (m : Mark) (t : Tree) → Counts p t → RoomFor p (Body m) → IsRead m → Adds p m (so_far t)
adds p mark.Rung t c r g = record {
  rungs = omega (arith, begins-append (so_far t) (mark.Rung ∷ []), c.rungs);
  few_rungs = omega (arith, r);
  elements = ap length (leaves_of-append (so_far t) (mark.Rung ∷ []) ∙ append-nil (leaves_of (so_far t))) ∙ c.elements;
  few_elements = c.few_elements;
  openings = omega (arith, opens-append (so_far t) (mark.Rung ∷ []), c.openings);
  few_openings = c.few_openings;
  read = ap (list_all is_read) (leaves_of-append (so_far t) (mark.Rung ∷ []) ∙ append-nil (leaves_of (so_far t))) ∙ c.read;
}
adds p (mark.Open x) t c r g = record {
  rungs = omega (arith, begins-append (so_far t) (mark.Open x ∷ []), c.rungs);
  few_rungs = c.few_rungs;
  elements = ap length (leaves_of-append (so_far t) (mark.Open x ∷ []) ∙ append-nil (leaves_of (so_far t))) ∙ c.elements;
  few_elements = c.few_elements;
  openings = omega (arith, opens-append (so_far t) (mark.Open x ∷ []), c.openings);
  few_openings = omega (arith, r.1);
  read = ap (list_all is_read) (leaves_of-append (so_far t) (mark.Open x ∷ []) ∙ append-nil (leaves_of (so_far t))) ∙ c.read;
}
adds p mark.End t c r g =
    let same = end_same p (eqb p.depth 0) in
    record {
      rungs = omega (arith, begins-append (so_far t) (mark.End ∷ []), c.rungs, same.0);
      few_rungs = omega (arith, same.0, c.few_rungs);
      elements = ap length (leaves_of-append (so_far t) (mark.End ∷ []) ∙ append-nil (leaves_of (so_far t))) ∙ c.elements ∙ sym same.1;
      few_elements = omega (arith, same.1, c.few_elements);
      openings = omega (arith, opens-append (so_far t) (mark.End ∷ []), c.openings, same.2);
      few_openings = omega (arith, same.2, c.few_openings);
      read = ap (list_all is_read) (leaves_of-append (so_far t) (mark.End ∷ []) ∙ append-nil (leaves_of (so_far t))) ∙ c.read;
    }
adds p (mark.Element l) t c r g = record {
  rungs = omega (arith, begins-append (so_far t) (mark.Element l ∷ []), c.rungs);
  few_rungs = c.few_rungs;
  elements = ap length (leaves_of-append (so_far t) (mark.Element l ∷ [])) ∙ omega (arith, length-append (leaves_of (so_far t)) (l ∷ []), c.elements);
  few_elements = omega (arith, r);
  openings = omega (arith, opens-append (so_far t) (mark.Element l ∷ []), c.openings);
  few_openings = c.few_openings;
  read =
      ap (list_all is_read) (leaves_of-append (so_far t) (mark.Element l ∷ []))
      ∙ list_all-append is_read (leaves_of (so_far t)) (l ∷ [])
      ∙ both_true (list_all is_read (leaves_of (so_far t))) (is_read l) c.read g;
}

counts_grown : (p : Place) (t : Tree) (m : Mark) → Counts p t → Suits t m → RoomFor p (Body m) → IsRead m → Counts (behind_mark p m) (grown t m)
counts_grown p t m c s r g =
    let a = adds p m t c r g in
    let grew = so_far-grown t m s in
    record {
      rungs = ap begins grew ∙ a.rungs;
      few_rungs = a.few_rungs;
      elements = ap (λ ms. length (leaves_of ms)) grew ∙ a.elements;
      few_elements = a.few_elements;
      openings = ap opens grew ∙ a.openings;
      few_openings = a.few_openings;
      depth = depth_grown p t m s c.depth;
      shallow = shallow_grown t m c.shallow (may_open p t m c.depth r);
      read = ap (λ ms. list_all is_read (leaves_of ms)) grew ∙ a.read;
    }

-- the place behind a line of no rung counts the same
same_counts : (p q : Place) (t : Tree) → q.rungs ≡ p.rungs → q.elements ≡ p.elements → q.openings ≡ p.openings → q.depth ≡ p.depth → Counts p t → Counts q t
same_counts p q t a b c d h = record {
  rungs = h.rungs ∙ sym a;
  few_rungs = omega (arith, a, h.few_rungs);
  elements = h.elements ∙ sym b;
  few_elements = omega (arith, b, h.few_elements);
  openings = h.openings ∙ sym c;
  few_openings = omega (arith, c, h.few_openings);
  depth = h.depth ∙ sym d;
  shallow = h.shallow;
  read = h.read;
}

-- what was read above PROGRAM

joined-one : {A : Type 0} (xs : List (List A)) (x : List A) → joined (xs ++ x ∷ []) ≡ joined xs ++ x
joined-one [] x = append-nil x
joined-one (y ∷ xs) x = ap (λ l. y ++ l) (joined-one xs x) ∙ sym (append_assoc y (joined xs) x)

spelled_items-one : (is : List Item) (i : Item) → spelled_items (is ++ i ∷ []) ≡ spelled_items is ++ spelled_item i
spelled_items-one is i = ap joined (map-append spelled_item is (i ∷ [])) ∙ joined-one (map spelled_item is) (spelled_item i)

with_items-one : (s : Settings) (is : List Item) (i : Item) → with_items s (is ++ i ∷ []) ≡ with_item (with_items s is) i
with_items-one s [] i = refl
with_items-one s (j ∷ is) i = with_items-one (with_item s j) is i

pub record InHeader (fs : List LineForm) (s : Standing) : Type 0 where
  pub items : List Item
  pub spelled : fs ≡ Magic ∷ spelled_items items
  pub settings : s.settings ≡ with_items defaults items
  pub tree : s.tree ≡ Closed []

pub record InPins (fs : List LineForm) (s : Standing) : Type 0 where
  pub items : List Item
  pub lines : List pin.PinLine
  pub spelled : fs ≡ Magic ∷ (spelled_items items ++ Header header.Pins ∷ pin_forms lines)
  pub settings : s.settings ≡ with_item (with_items defaults items) (PinSection lines)
  pub tree : s.tree ≡ Closed []

pub record InBody (fs : List LineForm) (s : Standing) : Type 0 where
  pub items : List Item
  pub spelled : fs ≡ Magic ∷ (spelled_items items ++ Header header.Program ∷ map Body (so_far s.tree))
  pub settings : s.settings ≡ with_items defaults items
  pub named : is_some s.settings.target ≡ true

abbrev pub IsClosed : Tree → Type 0
IsClosed (Closed gs) = Unit {0}
IsClosed (Building gs fs ns) = ⊥

abbrev pub IsBuilding : Tree → Type 0
IsBuilding (Closed gs) = ⊥
IsBuilding (Building gs fs ns) = Unit {0}

abbrev pub KnowsAt : Site → List LineForm → Standing → Type 0
KnowsAt site.First fs s = (fs ≡ []) × (s.settings ≡ defaults) × (s.tree ≡ Closed [])
KnowsAt site.Header fs s = InHeader fs s
KnowsAt site.Pins fs s = InPins fs s
KnowsAt site.Between fs s = InBody fs s × IsClosed s.tree
KnowsAt site.Inside fs s = InBody fs s × IsBuilding s.tree

-- a pin line that lines can say
abbrev pub is_read_line : pin.PinLine → Bool
is_read_line l = is_read_pin (pins.Pin l)

-- the settings are those that lines can say
pub record AreRead (s : Settings) : Type 0 where
  pub cycle : s.cycle ≤ most_setting
  pub crystal : s.crystal ≤ most_setting
  pub baud : s.baud ≤ most_setting
  pub assigned : list_all is_read_line s.pins ≡ true

-- the place counts the pin lines
pub record CountsPins (p : Place) (s : Settings) : Type 0 where
  pub pins : length s.pins ≡ p.pins
  pub few_pins : p.pins ≤ PIN_LINES

-- the leaves are built for the target whose words count in a rung
abbrev pub AreBuilt : Option Target → Tree → Type 0
AreBuilt target t = list_all (λ l. is_kind_built (counting site.Inside target) l.kind) (leaves_of (so_far t)) ≡ true

pub record Knows (fs : List LineForm) (s : Standing) : Type 0 where
  pub spelled : KnowsAt s.place.site fs s
  pub counts : Counts s.place s.tree
  pub target : s.settings.target ≡ s.place.target
  pub built : IsBuilt s.place.target
  pub read : AreRead s.settings
  pub pins : CountsPins s.place s.settings
  pub words : AreBuilt s.place.target s.tree

pub at_first : Knows [] first
at_first = record {
  spelled = (refl, refl, refl);
  counts =
      record {
        rungs = refl;
        few_rungs = omega arith;
        elements = refl;
        few_elements = omega arith;
        openings = refl;
        few_openings = omega arith;
        depth = refl;
        shallow = omega arith;
        read = refl;
      };
  target = refl;
  built = tt;
  read = record { cycle = lit≤ tt; crystal = lit≤ tt; baud = lit≤ tt; assigned = refl };
  pins = record { pins = refl; few_pins = lit≤ tt };
  words = refl;
}

-- a blank line adds nothing
abbrev pub one : LineForm → List LineForm
one Blank = []
one Magic = Magic ∷ []
one (Header h) = Header h ∷ []
one (Pins q) = Pins q ∷ []
one (Body m) = Body m ∷ []

-- the same with another place and no line more
header_item : (fs : List LineForm) (s t : Standing) (f : LineForm) (i : Item) → InHeader fs s → spelled_item i ≡ f ∷ [] → t.settings ≡ with_item s.settings i
    → t.tree ≡ s.tree → InHeader (fs ++ f ∷ []) t
header_item fs s t f i k e g h = record {
  items = k.items ++ i ∷ [];
  spelled = ap (λ x. x ++ f ∷ []) k.spelled ∙ ap (λ x. Magic ∷ (spelled_items k.items ++ x)) (sym e) ∙ ap (λ x. Magic ∷ x) (sym (spelled_items-one k.items i));
  settings = g ∙ ap (λ x. with_item x i) k.settings ∙ sym (with_items-one defaults k.items i);
  tree = h ∙ k.tree;
}

body_more : (fs : List LineForm) (s : Standing) (m : Mark) (t : Standing) → InBody fs s → Suits s.tree m → t.settings ≡ s.settings → t.tree ≡ grown s.tree m
    → InBody (fs ++ Body m ∷ []) t
body_more fs s m t k u e g = record {
  items = k.items;
  spelled =
      ap (λ x. x ++ Body m ∷ []) k.spelled
      ∙ ap (λ x. Magic ∷ x) (append_assoc (spelled_items k.items) (Header header.Program ∷ map Body (so_far s.tree)) (Body m ∷ []))
      ∙ ap (λ x. Magic ∷ (spelled_items k.items ++ Header header.Program ∷ x))
      (sym (map-append Body (so_far s.tree) (m ∷ [])) ∙ ap (map Body) (sym (so_far-grown s.tree m u) ∙ ap so_far (sym g)));
  settings = e ∙ k.settings;
  named = ap (λ x. is_some x.target) e ∙ k.named;
}

suits_closed : (t : Tree) → IsClosed t → Suits t mark.Rung
suits_closed (Closed gs) h = tt
suits_closed (Building gs fs ns) h = absurd h

suits_open : (t : Tree) (m : Mark) → IsBuilding t → AllowedAt site.Inside (Body m) → Suits t m
suits_open (Closed gs) m h a = absurd h
suits_open (Building gs fs ns) mark.Rung h a = absurd a
suits_open (Building gs fs ns) (mark.Open c) h a = tt
suits_open (Building gs fs ns) mark.End h a = tt
suits_open (Building gs fs ns) (mark.Element l) h a = tt

-- where a rung ends, the place is between rungs, and else in one
ends_at : (p : Place) (t : Tree) (fs : List LineForm) (s : Standing) → p.site ≡ site.Inside → IsBuilding t → depth_at t ≡ p.depth → s.tree ≡ grown t mark.End
    → InBody fs s → KnowsAt (behind_mark p mark.End).site fs s
ends_at p (Closed gs) fs s e h d g k = absurd h
ends_at p (Building gs [] ns) fs s e h d g k = by (eqb p.depth 0) (zero p.depth (sym d))
  where
    zero : (k : ℕ) → k ≡ 0 → eqb k 0 ≡ true
    zero k h = grind (arith, nat_tests)

    by : (b : Bool) → b ≡ true → KnowsAt (cond b (record p { site = site.Between }) (record p { depth = p.depth - 1 })).site fs s
    by true x = (k, subst IsClosed (sym g) tt)
    by false x = absurd cc
ends_at p (Building gs (f ∷ rest) ns) fs s e h d g k = by (eqb p.depth 0) (no_depth p.depth (length rest) (omega arith))
  where
    by : (b : Bool) → b ≡ false → KnowsAt (cond b (record p { site = site.Between }) (record p { depth = p.depth - 1 })).site fs s
    by true x = absurd cc
    by false x = subst (λ y. KnowsAt y fs s) (sym e) (k, subst IsBuilding (sym g) tt)

and_false : (a b : Bool) → not a ≡ true → (not a && (b)) ≡ false → b ≡ false
and_false true b h e = absurd cc
and_false false b h e = e

not_first : (x : Site) → (x ≡ site.First → ⊥) → not (is_first x) ≡ true
not_first site.First h = absurd (h refl)
not_first site.Header h = refl
not_first site.Pins h = refl
not_first site.Between h = refl
not_first site.Inside h = refl

built_if : (b : Bool) → not b ≡ false → b ≡ true
built_if true h = refl
built_if false h = absurd cc

chip_built : (s : Standing) (bytes : List ℕ) (size : ℕ) (t : Target) → s.place.site ≡ site.Header
    → Passes s.place bytes size (Is (Header (header.Micro (Some t)))) → is_target_built t ≡ true
chip_built s bytes size t e p =
    let rows = ap (λ x. not (is_first x) && (begins_unbuilt (counting s.place.site s.place.target) (tokens bytes) || not (is_target_built t))) (sym e) ∙ p.built in
    built_if (is_target_built t) (or_parts (begins_unbuilt (counting s.place.site s.place.target) (tokens bytes)) (not (is_target_built t)) rows).1

no_chip : (o : Option Target) → is_chipless o (Is (Header (header.Micro None))) ≡ false → ⊥
no_chip None h = absurd cc
no_chip (Some t) h = absurd cc

has_chip : (o : Option Target) → is_chipless o (Is (Header header.Program)) ≡ false → is_some o ≡ true
has_chip None h = absurd cc
has_chip (Some t) h = refl

element_read : (number : ℕ) (bytes : List ℕ) (l : leaf.Leaf) → said_in site.Inside number bytes ≡ Is (Body (mark.Element l)) → is_read l ≡ true
element_read number bytes l h = let w = element_worded number bytes l h in in_their_ranges w.word w.rest bytes l.kind w.said

abbrev with_pins : Settings → List pin.PinLine → Settings
with_pins s ls = record s { pins = ls }

-- What a line that has no fault says is spelled behind what was.
knows_at : (x : Site) (s : Standing) (bytes : List ℕ) (size : ℕ) (fs : List LineForm) (form : LineForm) → s.place.site ≡ x → KnowsAt x fs s → Knows fs s
    → AllowedAt x form → Passes s.place bytes size (Is form) → KnowsAt (standing_behind size s form).place.site (fs ++ one form) (standing_behind size s form)
knows_at site.First s bytes size fs Magic e k all a p = record { items = []; spelled = ap (λ x. x ++ Magic ∷ []) k.0; settings = k.1; tree = k.2 }
knows_at site.First s bytes size fs Blank e k all a p = absurd a
knows_at site.First s bytes size fs (Header h) e k all a p = absurd a
knows_at site.First s bytes size fs (Pins q) e k all a p = absurd a
knows_at site.First s bytes size fs (Body m) e k all a p = absurd a
knows_at site.Header s bytes size fs Blank e k all a p =
    subst (λ y. KnowsAt y (fs ++ []) (standing_behind size s Blank)) (sym e)
    (record { items = k.items; spelled = append-nil fs ∙ k.spelled; settings = k.settings; tree = k.tree })
knows_at site.Header s bytes size fs (Header (header.Micro (Some t))) e k all a p =
    subst (λ y. KnowsAt y (fs ++ Header (header.Micro (Some t)) ∷ []) (standing_behind size s (Header (header.Micro (Some t))))) (sym e)
    (header_item fs s _ _ (Chip t) k refl refl refl)
knows_at site.Header s bytes size fs (Header (header.Micro None)) e k all a p = absurd (no_chip s.place.target p.chip)
knows_at site.Header s bytes size fs (Header (header.Cycle n)) e k all a p =
    subst (λ y. KnowsAt y (fs ++ Header (header.Cycle n) ∷ []) (standing_behind size s (Header (header.Cycle n)))) (sym e)
    (header_item fs s _ _ (Cycle n) k refl refl refl)
knows_at site.Header s bytes size fs (Header (header.Crystal n)) e k all a p =
    subst (λ y. KnowsAt y (fs ++ Header (header.Crystal n) ∷ []) (standing_behind size s (Header (header.Crystal n)))) (sym e)
    (header_item fs s _ _ (Crystal n) k refl refl refl)
knows_at site.Header s bytes size fs (Header (header.Baud n)) e k all a p =
    subst (λ y. KnowsAt y (fs ++ Header (header.Baud n) ∷ []) (standing_behind size s (Header (header.Baud n)))) (sym e)
    (header_item fs s _ _ (Baud n) k refl refl refl)
knows_at site.Header s bytes size fs (Header header.Compiled) e k all a p =
    subst (λ y. KnowsAt y (fs ++ Header header.Compiled ∷ []) (standing_behind size s (Header header.Compiled))) (sym e)
    (header_item fs s _ _ Compiled k refl refl refl)
knows_at site.Header s bytes size fs (Header header.Pins) e k all a p = record {
  items = k.items;
  lines = [];
  spelled = ap (λ x. x ++ Header header.Pins ∷ []) k.spelled;
  settings = k.settings ∙ sym (ap (with_pins (with_items defaults k.items)) (append-nil (with_items defaults k.items).pins));
  tree = k.tree;
}
knows_at site.Header s bytes size fs (Header header.Program) e k all a p = (
  record {
    items = k.items;
    spelled =
        ap (λ x. x ++ Header header.Program ∷ []) k.spelled
        ∙ ap (λ x. Magic ∷ (spelled_items k.items ++ Header header.Program ∷ map Body (so_far x))) (sym k.tree);
    settings = k.settings;
    named = ap is_some all.target ∙ has_chip s.place.target p.chip;
  },
  subst IsClosed (sym k.tree) tt,
)
knows_at site.Header s bytes size fs Magic e k all a p = absurd a
knows_at site.Header s bytes size fs (Pins q) e k all a p = absurd a
knows_at site.Header s bytes size fs (Body m) e k all a p = absurd a
knows_at site.Pins s bytes size fs Blank e k all a p =
    subst (λ y. KnowsAt y (fs ++ []) (standing_behind size s Blank)) (sym e)
    (record { items = k.items; lines = k.lines; spelled = append-nil fs ∙ k.spelled; settings = k.settings; tree = k.tree })
knows_at site.Pins s bytes size fs (Pins (pins.Pin l)) e k all a p =
    subst (λ y. KnowsAt y (fs ++ Pins (pins.Pin l) ∷ []) (standing_behind size s (Pins (pins.Pin l)))) (sym e) (record {
      items = k.items;
      lines = k.lines ++ l ∷ [];
      spelled =
          ap (λ x. x ++ Pins (pins.Pin l) ∷ []) k.spelled
          ∙ ap (λ x. Magic ∷ x) (append_assoc (spelled_items k.items) (Header header.Pins ∷ pin_forms k.lines) (Pins (pins.Pin l) ∷ []))
          ∙ ap (λ x. Magic ∷ (spelled_items k.items ++ Header header.Pins ∷ x)) (sym (map-append (λ l. Pins (pins.Pin l)) k.lines (l ∷ [])));
      settings =
          ap (λ x. with_pins x (x.pins ++ l ∷ [])) k.settings
          ∙ ap (with_pins (with_items defaults k.items)) (append_assoc (with_items defaults k.items).pins k.lines (l ∷ []));
      tree = k.tree;
    })
knows_at site.Pins s bytes size fs (Pins pins.End) e k all a p = record {
  items = k.items ++ PinSection k.lines ∷ [];
  spelled =
      ap (λ x. x ++ Pins pins.End ∷ []) k.spelled
      ∙ ap (λ x. Magic ∷ x) (append_assoc (spelled_items k.items) (Header header.Pins ∷ pin_forms k.lines) (Pins pins.End ∷ []))
      ∙ ap (λ x. Magic ∷ x) (sym (spelled_items-one k.items (PinSection k.lines)));
  settings = k.settings ∙ sym (with_items-one defaults k.items (PinSection k.lines));
  tree = k.tree;
}
knows_at site.Pins s bytes size fs Magic e k all a p = absurd a
knows_at site.Pins s bytes size fs (Header h) e k all a p = absurd a
knows_at site.Pins s bytes size fs (Body m) e k all a p = absurd a
knows_at site.Between s bytes size fs Blank e k all a p =
    subst (λ y. KnowsAt y (fs ++ []) (standing_behind size s Blank)) (sym e)
    (record { items = k.0.items; spelled = append-nil fs ∙ k.0.spelled; settings = k.0.settings; named = k.0.named }, k.1)
knows_at site.Between s bytes size fs (Body mark.Rung) e k all a p =
    (body_more fs s mark.Rung (standing_behind size s (Body mark.Rung)) k.0 (suits_closed s.tree k.1) refl refl, building s.tree k.1)
  where
    building : (t : Tree) → IsClosed t → IsBuilding (grown t mark.Rung)
    building (Closed gs) h = tt
    building (Building gs fs ns) h = absurd h
knows_at site.Between s bytes size fs (Body (mark.Open c)) e k all a p = absurd a
knows_at site.Between s bytes size fs (Body mark.End) e k all a p = absurd a
knows_at site.Between s bytes size fs (Body (mark.Element l)) e k all a p = absurd a
knows_at site.Between s bytes size fs Magic e k all a p = absurd a
knows_at site.Between s bytes size fs (Header h) e k all a p = absurd a
knows_at site.Between s bytes size fs (Pins q) e k all a p = absurd a
knows_at site.Inside s bytes size fs Blank e k all a p =
    subst (λ y. KnowsAt y (fs ++ []) (standing_behind size s Blank)) (sym e)
    (record { items = k.0.items; spelled = append-nil fs ∙ k.0.spelled; settings = k.0.settings; named = k.0.named }, k.1)
knows_at site.Inside s bytes size fs (Body mark.Rung) e k all a p = absurd a
knows_at site.Inside s bytes size fs (Body (mark.Open c)) e k all a p =
    subst (λ y. KnowsAt y (fs ++ Body (mark.Open c) ∷ []) (standing_behind size s (Body (mark.Open c)))) (sym e)
    (body_more fs s (mark.Open c) (standing_behind size s (Body (mark.Open c))) k.0 (suits_open s.tree (mark.Open c) k.1 tt) refl refl, building s.tree k.1)
  where
    building : (t : Tree) → IsBuilding t → IsBuilding (grown t (mark.Open c))
    building (Closed gs) h = absurd h
    building (Building gs fs ns) h = tt
knows_at site.Inside s bytes size fs (Body mark.End) e k all a p =
    ends_at s.place s.tree (fs ++ Body mark.End ∷ []) (standing_behind size s (Body mark.End)) e k.1 all.counts.depth refl
    (body_more fs s mark.End (standing_behind size s (Body mark.End)) k.0 (suits_open s.tree mark.End k.1 tt) refl refl)
knows_at site.Inside s bytes size fs (Body (mark.Element l)) e k all a p =
    subst (λ y. KnowsAt y (fs ++ Body (mark.Element l) ∷ []) (standing_behind size s (Body (mark.Element l)))) (sym e) (
      body_more fs s (mark.Element l) (standing_behind size s (Body (mark.Element l))) k.0 (suits_open s.tree (mark.Element l) k.1 tt) refl refl,
      building
          s.tree k.1,
    )
  where
    building : (t : Tree) → IsBuilding t → IsBuilding (grown t (mark.Element l))
    building (Closed gs) h = absurd h
    building (Building gs fs ns) h = tt
knows_at site.Inside s bytes size fs Magic e k all a p = absurd a
knows_at site.Inside s bytes size fs (Header h) e k all a p = absurd a
knows_at site.Inside s bytes size fs (Pins q) e k all a p = absurd a

-- a line of a rung suits the tree
suits_at : (x : Site) (fs : List LineForm) (s : Standing) (m : Mark) → KnowsAt x fs s → AllowedAt x (Body m) → Suits s.tree m
suits_at site.First fs s m k a = absurd a
suits_at site.Header fs s m k a = absurd a
suits_at site.Pins fs s m k a = absurd a
suits_at site.Between fs s mark.Rung k a = suits_closed s.tree k.1
suits_at site.Between fs s (mark.Open c) k a = absurd a
suits_at site.Between fs s mark.End k a = absurd a
suits_at site.Between fs s (mark.Element l) k a = absurd a
suits_at site.Inside fs s m k a = suits_open s.tree m k.1 a

read_at : (x : Site) (number : ℕ) (bytes : List ℕ) (m : Mark) → said_in x number bytes ≡ Is (Body m) → AllowedAt x (Body m) → IsRead m
read_at x number bytes mark.Rung h a = tt
read_at x number bytes (mark.Open c) h a = tt
read_at x number bytes mark.End h a = tt
read_at site.First number bytes (mark.Element l) h a = absurd a
read_at site.Header number bytes (mark.Element l) h a = absurd a
read_at site.Pins number bytes (mark.Element l) h a = absurd a
read_at site.Between number bytes (mark.Element l) h a = absurd a
read_at site.Inside number bytes (mark.Element l) h a = element_read number bytes l h

-- the counts, the target and its being built, behind a line
pub record Kept (t : Standing) : Type 0 where
  pub counts : Counts t.place t.tree
  pub target : t.settings.target ≡ t.place.target
  pub built : IsBuilt t.place.target

same_place : (s : Standing) (size : ℕ) (form : LineForm) → Kept s → (standing_behind size s form).place.rungs ≡ s.place.rungs
    → (standing_behind size s form).place.elements ≡ s.place.elements → (standing_behind size s form).place.openings ≡ s.place.openings
    → (standing_behind size s form).place.depth ≡ s.place.depth → with_form s.tree form ≡ s.tree → (settings_behind s.settings form).target ≡ s.settings.target
    → (standing_behind size s form).place.target ≡ s.place.target → Kept (standing_behind size s form)
same_place s size form k a b c d t g h = record {
  counts = subst (λ x. Counts (standing_behind size s form).place x) (sym t) (same_counts s.place (standing_behind size s form).place s.tree a b c d k.counts);
  target = g ∙ k.target ∙ sym h;
  built = subst IsBuilt (sym h) k.built;
}

element_site : (x : Site) (l : leaf.Leaf) → AllowedAt x (Body (mark.Element l)) → x ≡ site.Inside
element_site site.First l a = absurd a
element_site site.Header l a = absurd a
element_site site.Pins l a = absurd a
element_site site.Between l a = absurd a
element_site site.Inside l a = refl

header_site : (x : Site) (h : HeaderLine) → AllowedAt x (Header h) → x ≡ site.Header
header_site site.Header h a = refl
header_site site.First h a = absurd a
header_site site.Pins h a = absurd a
header_site site.Between h a = absurd a
header_site site.Inside h a = absurd a

end_target : (p : Place) (b : Bool) → (cond b (record p { site = site.Between }) (record p { depth = p.depth - 1 })).target ≡ p.target
end_target p true = refl
end_target p false = refl

mark_target : (p : Place) (m : Mark) → (behind_mark p m).target ≡ p.target
mark_target p mark.Rung = refl
mark_target p (mark.Open c) = refl
mark_target p mark.End = end_target p (eqb p.depth 0)
mark_target p (mark.Element l) = refl

kept_of : (fs : List LineForm) (s : Standing) → Knows fs s → Kept s
kept_of fs s k = record { counts = k.counts; target = k.target; built = k.built }

kept_behind : (s : Standing) (number : ℕ) (bytes : List ℕ) (size : ℕ) (fs : List LineForm) (form : LineForm) → Knows fs s →
    said_in s.place.site number bytes ≡ Is form
    → AllowedAt s.place.site form → Passes s.place bytes size (Is form) → RoomFor s.place form → Kept (standing_behind size s form)
kept_behind s number bytes size fs Blank k h a p r = same_place s size Blank (kept_of fs s k) refl refl refl refl refl refl refl
kept_behind s number bytes size fs Magic k h a p r = same_place s size Magic (kept_of fs s k) refl refl refl refl refl refl refl
kept_behind s number bytes size fs (Header (header.Micro (Some t))) k h a p r = record {
  counts = same_counts s.place (standing_behind size s (Header (header.Micro (Some t)))).place s.tree refl refl refl refl k.counts;
  target = refl;
  built = chip_built s bytes size t (header_site s.place.site (header.Micro (Some t)) a) p;
}
kept_behind s number bytes size fs (Header (header.Micro None)) k h a p r = absurd (no_chip s.place.target p.chip)
kept_behind s number bytes size fs (Header (header.Cycle n)) k h a p r =
    same_place s size (Header (header.Cycle n)) (kept_of fs s k) refl refl refl refl refl refl refl
kept_behind s number bytes size fs (Header (header.Crystal n)) k h a p r =
    same_place s size (Header (header.Crystal n)) (kept_of fs s k) refl refl refl refl refl refl refl
kept_behind s number bytes size fs (Header (header.Baud n)) k h a p r =
    same_place s size (Header (header.Baud n)) (kept_of fs s k) refl refl refl refl refl refl refl
kept_behind s number bytes size fs (Header header.Compiled) k h a p r =
    same_place s size (Header header.Compiled) (kept_of fs s k) refl refl refl refl refl refl refl
kept_behind s number bytes size fs (Header header.Pins) k h a p r = same_place s size (Header header.Pins) (kept_of fs s k) refl refl refl refl refl refl refl
kept_behind s number bytes size fs (Header header.Program) k h a p r =
    same_place s size (Header header.Program) (kept_of fs s k) refl refl refl refl refl refl refl
kept_behind s number bytes size fs (Pins (pins.Pin l)) k h a p r = same_place s size (Pins (pins.Pin l)) (kept_of fs s k) refl refl refl refl refl refl refl
kept_behind s number bytes size fs (Pins pins.End) k h a p r = same_place s size (Pins pins.End) (kept_of fs s k) refl refl refl refl refl refl refl
kept_behind s number bytes size fs (Body m) k h a p r =
    let grew = counts_grown s.place s.tree m k.counts (suits_at s.place.site fs s m k.spelled a) r (read_at s.place.site number bytes m h a) in
    record {
      counts = same_counts (behind_mark s.place m) (standing_behind size s (Body m)).place (grown s.tree m) refl refl refl refl grew;
      target = k.target ∙ sym (mark_target s.place m);
      built = subst IsBuilt (sym (mark_target s.place m)) k.built;
    }

-- a number that a line says is in its range
setting_within : (n : ℕ) → nat_le n most_setting ≡ true → n ≤ most_setting
setting_within n h = grind (arith, nat_tests)

-- what a line says of the settings is in its range
read_behind : (x : Site) (s : Settings) (number : ℕ) (bytes : List ℕ) (form : LineForm) → AreRead s → said_in x number bytes ≡ Is form
    → AreRead (settings_behind s form)
read_behind x s number bytes Blank k h = k
read_behind x s number bytes Magic k h = k
read_behind x s number bytes (Header (header.Micro t)) k h = record { cycle = k.cycle; crystal = k.crystal; baud = k.baud; assigned = k.assigned }
read_behind x s number bytes (Header (header.Cycle n)) k h =
    let within = setting_within n (settings_in_range bytes (header.Cycle n) (header_said x number bytes (header.Cycle n) h)) in
    record { cycle = within; crystal = k.crystal; baud = k.baud; assigned = k.assigned }
read_behind x s number bytes (Header (header.Crystal n)) k h =
    let within = setting_within n (settings_in_range bytes (header.Crystal n) (header_said x number bytes (header.Crystal n) h)) in
    record { cycle = k.cycle; crystal = within; baud = k.baud; assigned = k.assigned }
read_behind x s number bytes (Header (header.Baud n)) k h =
    let within = setting_within n (settings_in_range bytes (header.Baud n) (header_said x number bytes (header.Baud n) h)) in
    record { cycle = k.cycle; crystal = k.crystal; baud = within; assigned = k.assigned }
read_behind x s number bytes (Header header.Compiled) k h = k
read_behind x s number bytes (Header header.Pins) k h = k
read_behind x s number bytes (Header header.Program) k h = k
read_behind x s number bytes (Pins (pins.Pin l)) k h = record {
  cycle = k.cycle;
  crystal = k.crystal;
  baud = k.baud;
  assigned =
      list_all-append is_read_line s.pins (l ∷ [])
      ∙ both_true (list_all is_read_line s.pins) (is_read_line l) k.assigned
      (pins_in_range (tokens bytes) (pins.Pin l) (pins_said x number bytes (pins.Pin l) h));
}
read_behind x s number bytes (Pins pins.End) k h = k
read_behind x s number bytes (Body m) k h = k

header_pins : (p : Place) (h : HeaderLine) → (behind_header p h).pins ≡ p.pins
header_pins p (header.Micro (Some t)) = refl
header_pins p (header.Micro None) = refl
header_pins p (header.Cycle n) = refl
header_pins p (header.Crystal n) = refl
header_pins p (header.Baud n) = refl
header_pins p header.Compiled = refl
header_pins p header.Pins = refl
header_pins p header.Program = refl

header_same : (s : Settings) (h : HeaderLine) → (settings_behind s (Header h)).pins ≡ s.pins
header_same s (header.Micro t) = refl
header_same s (header.Cycle n) = refl
header_same s (header.Crystal n) = refl
header_same s (header.Baud n) = refl
header_same s header.Compiled = refl
header_same s header.Pins = refl
header_same s header.Program = refl

end_pins : (p : Place) (b : Bool) → (cond b (record p { site = site.Between }) (record p { depth = p.depth - 1 })).pins ≡ p.pins
end_pins p true = refl
end_pins p false = refl

mark_pins : (p : Place) (m : Mark) → (behind_mark p m).pins ≡ p.pins
mark_pins p mark.Rung = refl
mark_pins p (mark.Open c) = refl
mark_pins p mark.End = end_pins p (eqb p.depth 0)
mark_pins p (mark.Element l) = refl

same_pins : (p q : Place) (s t : Settings) → q.pins ≡ p.pins → t.pins ≡ s.pins → CountsPins p s → CountsPins q t
same_pins p q s t e g k = record { pins = ap length g ∙ k.pins ∙ sym e; few_pins = omega (arith, e, k.few_pins) }

pins_behind : (s : Standing) (size : ℕ) (form : LineForm) → CountsPins s.place s.settings → RoomFor s.place form
    → CountsPins (standing_behind size s form).place (standing_behind size s form).settings
pins_behind s size Blank k r = same_pins s.place (standing_behind size s Blank).place s.settings s.settings refl refl k
pins_behind s size Magic k r = same_pins s.place (standing_behind size s Magic).place s.settings s.settings refl refl k
pins_behind s size (Header h) k r =
    same_pins s.place (standing_behind size s (Header h)).place s.settings (settings_behind s.settings (Header h)) (header_pins s.place h)
    (header_same s.settings h) k
pins_behind s size (Pins (pins.Pin l)) k r = record { pins = omega (arith, length-append s.settings.pins (l ∷ []), k.pins); few_pins = omega (arith, r) }
pins_behind s size (Pins pins.End) k r = same_pins s.place (standing_behind size s (Pins pins.End)).place s.settings s.settings refl refl k
pins_behind s size (Body m) k r = same_pins s.place (standing_behind size s (Body m)).place s.settings s.settings (mark_pins s.place m) refl k

-- an element that has no fault is built for the target
pub element_built : (p : Place) (number : ℕ) (bytes : List ℕ) (size : ℕ) (l : leaf.Leaf) → p.site ≡ site.Inside
    → said_in site.Inside number bytes ≡ Is (Body (mark.Element l)) → Passes p bytes size (Is (Body (mark.Element l)))
    → is_kind_built (counting site.Inside p.target) l.kind ≡ true
element_built p number bytes size l e h pass =
    let w = element_worded number bytes l h in
    let rows = ap (λ x. not (is_first x) && (begins_unbuilt (counting x p.target) (tokens bytes) || false)) (sym e) ∙ pass.built in
    let none = (or_parts (begins_unbuilt (counting site.Inside p.target) (tokens bytes)) false rows).0 in
    let free : not (is_built (counting site.Inside p.target) w.word) ≡ false =
    ap (has_unbuilt_word (counting site.Inside p.target)) (sym w.known) ∙ ap (begins_unbuilt (counting site.Inside p.target)) (sym w.tokens) ∙ none in
    ap (is_built (counting site.Inside p.target)) (begins_with w.word w.rest bytes l.kind w.said)
    ∙ built_if (is_built (counting site.Inside p.target) w.word) free

-- the leaves behind a line of a rung that has none
same_leaves : (target : Option Target) (t u : Tree) → leaves_of (so_far u) ≡ leaves_of (so_far t) → AreBuilt target t → AreBuilt target u
same_leaves target t u e k = ap (list_all (λ l. is_kind_built (counting site.Inside target) l.kind)) e ∙ k

mark_leaves : (t : Tree) (m : Mark) → Suits t m → leaves_of (m ∷ []) ≡ [] → leaves_of (so_far (grown t m)) ≡ leaves_of (so_far t)
mark_leaves t m s e =
    ap leaves_of (so_far-grown t m s) ∙ leaves_of-append (so_far t) (m ∷ []) ∙ ap (λ x. leaves_of (so_far t) ++ x) e ∙ append-nil (leaves_of (so_far t))

mark_words : (p : Place) (number : ℕ) (bytes : List ℕ) (size : ℕ) (t : Tree) (m : Mark) → Suits t m → said_in p.site number bytes ≡ Is (Body m)
    → AllowedAt p.site (Body m) → Passes p bytes size (Is (Body m)) → AreBuilt p.target t → AreBuilt p.target (grown t m)
mark_words p number bytes size t mark.Rung s h a pass k = same_leaves p.target t (grown t mark.Rung) (mark_leaves t mark.Rung s refl) k
mark_words p number bytes size t (mark.Open c) s h a pass k = same_leaves p.target t (grown t (mark.Open c)) (mark_leaves t (mark.Open c) s refl) k
mark_words p number bytes size t mark.End s h a pass k = same_leaves p.target t (grown t mark.End) (mark_leaves t mark.End s refl) k
mark_words p number bytes size t (mark.Element l) s h a pass k =
    let e = element_site p.site l a in
    let built = element_built p number bytes size l e (ap (λ x. said_in x number bytes) (sym e) ∙ h) pass in
    let test : leaf.Leaf → Bool = λ l. is_kind_built (counting site.Inside p.target) l.kind in
    ap (λ ms. list_all test (leaves_of ms)) (so_far-grown t (mark.Element l) s)
    ∙ ap (list_all test) (leaves_of-append (so_far t) (mark.Element l ∷ []))
    ∙ list_all-append test (leaves_of (so_far t)) (l ∷ [])
    ∙ both_true (list_all test (leaves_of (so_far t))) (test l) k built

-- a chip is named above the rungs alone
no_leaves : (target : Option Target) (t : Tree) → t ≡ Closed [] → AreBuilt target t
no_leaves target t e = subst (AreBuilt target) (sym e) refl

header_tree : (x : Site) (fs : List LineForm) (s : Standing) (h : HeaderLine) → AllowedAt x (Header h) → KnowsAt x fs s → s.tree ≡ Closed []
header_tree site.Header fs s h a k = k.tree
header_tree site.First fs s h a k = absurd a
header_tree site.Pins fs s h a k = absurd a
header_tree site.Between fs s h a k = absurd a
header_tree site.Inside fs s h a k = absurd a

words_behind : (s : Standing) (number : ℕ) (bytes : List ℕ) (size : ℕ) (fs : List LineForm) (form : LineForm) → Knows fs s
    → said_in s.place.site number bytes ≡ Is form → AllowedAt s.place.site form → Passes s.place bytes size (Is form)
    → AreBuilt (standing_behind size s form).place.target (standing_behind size s form).tree
words_behind s number bytes size fs Blank k h a p = k.words
words_behind s number bytes size fs Magic k h a p = k.words
words_behind s number bytes size fs (Header x) k h a p =
    no_leaves (behind_header s.place x).target s.tree (header_tree s.place.site fs s x a k.spelled)
words_behind s number bytes size fs (Pins (pins.Pin l)) k h a p = k.words
words_behind s number bytes size fs (Pins pins.End) k h a p = k.words
words_behind s number bytes size fs (Body m) k h a p =
    subst (λ o. AreBuilt o (grown s.tree m)) (sym (mark_target s.place m))
    (mark_words s.place number bytes size s.tree m (suits_at s.place.site fs s m k.spelled a) h a p k.words)

pub knows_more : (number : ℕ) (bytes : List ℕ) (size : ℕ) (s t : Standing) (fs : List LineForm) → Knows fs s → (w : Went number bytes size s t)
    → Knows (fs ++ one w.form) t
knows_more number bytes size s t fs k w =
    let e = ap (fault_of s.place number bytes size) (sym w.said) ∙ w.faultless in
    let p = passes s.place number bytes size (Is w.form) e in
    let r = room s.place number bytes size w.form e in
    let a = allowed s.place.site number bytes w.form w.said in
    let kept = kept_behind s number bytes size fs w.form k w.said a p r.1 in
    subst (Knows (fs ++ one w.form)) (sym w.is) (record {
      spelled = knows_at s.place.site s bytes size fs w.form refl k.spelled k a p;
      counts = kept.counts;
      target = kept.target;
      built = kept.built;
      read = read_behind s.place.site s.settings number bytes w.form k.read w.said;
      pins = pins_behind s size w.form k.pins r.1;
      words = words_behind s number bytes size fs w.form k w.said a p;
    })

unblank : (form : LineForm) (more : List LineForm) → unblanked (Is form) (map Is more) ≡ map Is (one form ++ more)
unblank Blank more = refl
unblank Magic more = refl
unblank (Header h) more = refl
unblank (Pins q) more = refl
unblank (Body m) more = refl

-- what lines said, and what is known behind them
pub record Told (p : Place) (n : ℕ) (ls : List Line) (fs : List LineForm) (t : Standing) : Type 0 where
  pub more : List LineForm
  pub said : said_by p n ls ≡ map Is more
  pub knows : Knows (fs ++ more) t

pub told : (n : ℕ) (ls : List Line) (s t : Standing) (fs : List LineForm) → Knows fs s → run n ls s ≡ Goes t → Told s.place n ls fs t
told n [] s t fs k h = let e : s ≡ t = cc in record { more = []; said = refl; knows = subst (λ x. Knows x t) (sym (append-nil fs)) (subst (Knows fs) e k) }
told n (l ∷ ls) s t fs k h = by (taken n l.bytes (size_of l) s) refl h (λ u gs. told (n + 1) ls u t gs)
  where
    by : (o : Taken) → taken n l.bytes (size_of l) s ≡ o → then (run (n + 1) ls) o ≡ Goes t
        → ((u : Standing) (gs : List LineForm) → Knows gs u → run (n + 1) ls u ≡ Goes t → Told u.place (n + 1) ls gs t) → Told s.place n (l ∷ ls) fs t
    by (Stops f) e h rec = absurd cc
    by (Goes u) e h rec =
        let w = goes n l.bytes (size_of l) s u e in
        let q = rec u (fs ++ one w.form) (knows_more n l.bytes (size_of l) s u fs k w) h in
        let place : behind s.place n l ≡ u.place = ap (behind_said s.place (size_of l)) w.said ∙ sym (ap (λ x. x.place) w.is) in
        record {
          more = one w.form ++ q.more;
          said =
              ap (λ x. unblanked x (said_by (behind s.place n l) (n + 1) ls)) w.said
              ∙ ap (λ x. unblanked (Is w.form) (said_by x (n + 1) ls)) place
              ∙ ap (unblanked (Is w.form)) q.said
              ∙ unblank w.form q.more;
          knows = subst (λ x. Knows x t) (append_assoc fs (one w.form) q.more) q.knows;
        }
