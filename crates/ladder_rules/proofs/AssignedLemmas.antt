-- Where no rule is broken, each name that needs a pin has one that serves it, and no other name has that.
use Rattle.std.proofs.Common.{◌≡◌, ◌≢◌, ℕ, zero, suc, ◌<◌, Bool, true, false, not, ◌||◌, cond, List, [], ◌∷◌, ◌++◌, length, get_or, Option, Some, None, inl, inr, refl, sym, ap, subst, ◌∙◌, arith, append_assoc}
use Rattle.std.proofs.lemmas.Bool.{or_parts}
use Rattle.std.specs.Prelude.{is_some, IsSome, IfSome, filter}
use Rattle.std.specs.Bool.{then_some}
use Rattle.std.specs.List.{All, list_any}
use Rattle.std.specs.Option.{option_map, option_and_then}
use Rattle.std.specs.Str.{bytes_eq}
use Rattle.std.proofs.lemmas.List.Elements.{All-nil, All-cons}
use Rattle.std.proofs.lemmas.List.Folds.{list_any-append, list_any_at}
use Rattle.std.proofs.lemmas.Slice.Eq.{bytes_eq-Decides}
use Rattle.chip_tables.specs.Pins.{port_bit_at, port_count, channel_at}
use Rattle.chip_tables.specs.declared.pins.PortBit.{PortBit}
use Rattle.chip_tables.specs.declared.target.Target.{Target}
use Rattle.chip_tables.specs.declared.target.Target.TheVariants.{F628, F877, Mega16, Interp, AnsiC}
use Rattle.chip_tables.proofs.PinLemmas.{alone, alone_channel}
use Rattle.ladder_tree.specs.Leaves.{all_leaves}
use Rattle.ladder_tree.specs.Names.{is_input, is_output, bit_names, analog_names, all_named, firsts, firsts_from, names_of}
use Rattle.ladder_tree.specs.declared.element.Leaf as element
use Rattle.ladder_tree.specs.declared.element.LeafKind.{LeafKind}
use Rattle.ladder_tree.specs.declared.element.LeafKind.TheVariants.{Contacts, Coil, ReadAdc}
use Rattle.ladder_tree.specs.declared.fault.ProjectFault.{ProjectFault}
use Rattle.ladder_tree.specs.declared.project.Project.{Project}
use Rattle.ladder_rules.specs.Assigned.{HavePlaces, HavePins}
use Rattle.ladder_rules.specs.Pins.{is_chip, pinned, pin_of, is_unassigned, wrong_pin, serves}
use Rattle.ladder_rules.specs.Rules.{fault_of}
use Rattle.ladder_rules.specs.Twice.{AreClear}
use Rattle.ladder_rules.specs.Verdict.{rule}
use Rattle.ladder_rules.specs.declared.chip_rule.ChipRule.TheVariants.{PinUnassigned, NoSuchPin}
use Rattle.ladder_rules.specs.declared.rule.ElementRule.TheVariants.{OnChip}
use Rattle.ladder_rules.proofs.RuleLemmas.{kept, none_tells, on_chip}
use Rattle.ladder_rules.proofs.TwiceLemmas.{Order, order, none_some, some_same, untold_none}

abbrev Texts : Type 0
Texts = List (List ℕ)

-- P holds of each text
abbrev EachOf : (List ℕ → Type 0) → Texts → Type 0
EachOf P [] = Unit {0}
EachOf P (n ∷ ns) = P n × EachOf P ns

-- no text stands twice
abbrev Differ : Texts → Type 0
Differ [] = Unit {0}
Differ (n ∷ ns) = (list_any (bytes_eq n) ns ≡ false) × Differ ns

each_more : (P : List ℕ → Type 0) (seen : Texts) (n : List ℕ) → EachOf P seen → P n → EachOf P (seen ++ n ∷ [])
each_more P [] n h p = (p, tt)
each_more P (x ∷ seen) n h p = (h.0, each_more P seen n h.1 p)

each_by : (P : List ℕ → Type 0) (b : Bool) (xs ys : Texts) → EachOf P xs → EachOf P ys → EachOf P (cond b xs ys)
each_by P true xs ys h g = h
each_by P false xs ys h g = g

firsts_each : (P : List ℕ → Type 0) (seen ns : Texts) → EachOf P seen → EachOf P ns → EachOf P (firsts_from seen ns)
firsts_each P seen [] h g = h
firsts_each P seen (n ∷ ns) h g =
    each_by P (list_any (bytes_eq n) seen) _ _ (firsts_each P seen ns h g.1) (firsts_each P (seen ++ n ∷ []) ns (each_more P seen n h g.0) g.1)

all_of : (P : List ℕ → Type 0) (ns : Texts) → EachOf P ns → All P ns
all_of P [] h = All-nil P
all_of P (n ∷ ns) h = All-cons P n ns h.0 (all_of P ns h.1)

filtered_by : (P : List ℕ → Bool) (n : List ℕ) (ns : Texts) (b : Bool) → P n ≡ b → EachOf (λ m. P m ≡ true) ns → EachOf (λ m. P m ≡ true) (cond b (n ∷ ns) ns)
filtered_by P n ns true e h = (e, h)
filtered_by P n ns false e h = h

filtered : (P : List ℕ → Bool) (ns : Texts) → EachOf (λ m. P m ≡ true) (filter P ns)
filtered P [] = tt
filtered P (n ∷ ns) = filtered_by P n (filter P ns) (P n) refl (filtered P ns)

-- no name begins with two letters
not_both : (n : List ℕ) → is_input n ≡ true → is_output n ≡ true → ⊥
not_both [] e f = let clash : ⊥ = cc in clash
not_both (x ∷ xs) e f = grind (arith, e, f)

turned : (n m : List ℕ) → bytes_eq n m ≡ false → bytes_eq m n ≡ false
turned n m t = by (bytes_eq m n) refl
  where
    by : (b : Bool) → bytes_eq m n ≡ b → b ≡ false
    by false e = refl
    by true e = let yes : bytes_eq n m ≡ true = (bytes_eq-Decides n m).1 (sym ((bytes_eq-Decides m n).0 e)) in let clash : ⊥ = cc in absurd clash

false_or : (a b : Bool) → a ≡ false → b ≡ false → (a || (b || false)) ≡ false
false_or a b e f = rw (e, f) refl

differ_more : (seen : Texts) (n : List ℕ) → Differ seen → list_any (bytes_eq n) seen ≡ false → Differ (seen ++ n ∷ [])
differ_more [] n h e = (refl, tt)
differ_more (x ∷ seen) n h e =
    let parts = or_parts (bytes_eq n x) (list_any (bytes_eq n) seen) e in
    (list_any-append (bytes_eq x) seen (n ∷ []) ∙ false_or _ _ h.0 (turned n x parts.0), differ_more seen n h.1 parts.1)

differ_by : (b : Bool) (xs ys : Texts) → (b ≡ true → Differ xs) → (b ≡ false → Differ ys) → Differ (cond b xs ys)
differ_by true xs ys h g = h refl
differ_by false xs ys h g = g refl

firsts_differ : (seen ns : Texts) → Differ seen → Differ (firsts_from seen ns)
firsts_differ seen [] h = h
firsts_differ seen (n ∷ ns) h =
    differ_by (list_any (bytes_eq n) seen) _ _ (λ t. firsts_differ seen ns h) (λ t. firsts_differ (seen ++ n ∷ []) ns (differ_more seen n h t))

absent : (n : List ℕ) (ns : Texts) (i : ℕ) → list_any (bytes_eq n) ns ≡ false → i < length ns → n ≡ get_or ns i [] → ⊥
absent n ns i e lt is =
    let yes = list_any_at (bytes_eq n) ns i [] lt ((bytes_eq-Decides n (get_or ns i [])).1 is) in
    let clash : ⊥ = cc in clash

one_place : (ns : Texts) → Differ ns → (i j : ℕ) → i < length ns → j < length ns → get_or ns i [] ≡ get_or ns j [] → i ≡ j
one_place [] h i j lt gt e = absurd (omega arith)
one_place (n ∷ ns) h zero zero lt gt e = refl
one_place (n ∷ ns) h zero (suc j) lt gt e = absurd (absent n ns j h.0 (omega arith) e)
one_place (n ∷ ns) h (suc i) zero lt gt e = absurd (absent n ns i h.0 (omega arith) (sym e))
one_place (n ∷ ns) h (suc i) (suc j) lt gt e = ap suc (one_place ns h.1 i j (omega arith) (omega arith) e)

-- an element that needs a pin for a name, and which pins serve it
record Needed (p : Project) (fits : ℕ → Bool) (name : List ℕ) : Type 0 where
  before : List element.Leaf
  leaf : element.Leaf
  behind : List element.Leaf
  order : all_leaves p.rungs ≡ before ++ leaf ∷ behind
  named : pinned leaf.kind ≡ Some name
  served : (pin : ℕ) → serves p.target leaf.kind pin ≡ fits pin

module _ (p : Project) where
  abbrev bit_fits : ℕ → Bool
  bit_fits pin = is_some (port_bit_at p.target pin)

  abbrev channel_fits : ℕ → Bool
  channel_fits pin = is_some (channel_at p.target pin)

  onward : (pre : List element.Leaf) (l : element.Leaf) (ls : List element.Leaf) → all_leaves p.rungs ≡ pre ++ l ∷ ls →
      all_leaves p.rungs ≡ (pre ++ l ∷ []) ++ ls
  onward pre l ls is = is ∙ sym (append_assoc pre (l ∷ []) ls)

  module _ (is_kind : List ℕ → Bool) (only : (n : List ℕ) → is_kind n ≡ true → (is_input n || is_output n) ≡ true) where
    abbrev NeededBits : List element.Leaf → Type 0
    NeededBits ls = EachOf (Needed p bit_fits) (filter is_kind (all_named bit_names ls))

    bit_by : (b : Bool) (name : List ℕ) (rest : Texts) → (b ≡ true → Needed p bit_fits name) → EachOf (Needed p bit_fits) (filter is_kind rest) →
        EachOf (Needed p bit_fits) (cond b (name ∷ filter is_kind rest) (filter is_kind rest))
    bit_by true name rest h g = (h refl, g)
    bit_by false name rest h g = g

    bit_at : (line : ℕ) (kind : LeafKind) (pre ls : List element.Leaf) →
        all_leaves p.rungs ≡ pre ++ (let l : element.Leaf = record { line = line; kind = kind } in l) ∷ ls → NeededBits ls →
        EachOf (Needed p bit_fits) (filter is_kind (bit_names kind ++ all_named bit_names ls))
    bit_at line (Contacts name neg) pre ls is rest = bit_by (is_kind name) name (all_named bit_names ls)
        (λ t. record {
          before = pre;
          leaf = record { line = line; kind = Contacts name neg };
          behind = ls;
          order = is;
          named = rw (only name t) refl;
          served = λ pin. refl;
        }) rest
    bit_at line (Coil name mode) pre ls is rest = bit_by (is_kind name) name (all_named bit_names ls)
        (λ t. record {
          before = pre;
          leaf = record { line = line; kind = Coil name mode };
          behind = ls;
          order = is;
          named = rw (only name t) refl;
          served = λ pin. refl;
        }) rest
    bit_at line _ pre ls is rest = rest

    bits_needed : (pre ls : List element.Leaf) → all_leaves p.rungs ≡ pre ++ ls → NeededBits ls
    bits_needed pre [] is = tt
    bits_needed pre (l ∷ ls) is = bit_at l.line l.kind pre ls is (bits_needed (pre ++ l ∷ []) ls (onward pre l ls is))

  abbrev NeededAnalog : List element.Leaf → Type 0
  NeededAnalog ls = EachOf (Needed p channel_fits) (all_named analog_names ls)

  analog_at : (line : ℕ) (kind : LeafKind) (pre ls : List element.Leaf) →
      all_leaves p.rungs ≡ pre ++ (let l : element.Leaf = record { line = line; kind = kind } in l) ∷ ls → NeededAnalog ls →
      EachOf (Needed p channel_fits) (analog_names kind ++ all_named analog_names ls)
  analog_at line (ReadAdc name) pre ls is rest =
      (record { before = pre; leaf = record { line = line; kind = ReadAdc name }; behind = ls; order = is; named = refl; served = λ pin. refl }, rest)
  analog_at line _ pre ls is rest = rest

  analog_needed : (pre ls : List element.Leaf) → all_leaves p.rungs ≡ pre ++ ls → NeededAnalog ls
  analog_needed pre [] is = tt
  analog_needed pre (l ∷ ls) is = analog_at l.line l.kind pre ls is (analog_needed (pre ++ l ∷ []) ls (onward pre l ls is))

  at_leaf : (test : LeafKind → Bool) (before : List element.Leaf) (l : element.Leaf) (behind : List element.Leaf) →
      list_any (λ l. test l.kind) (all_leaves p.rungs) ≡ false → all_leaves p.rungs ≡ before ++ l ∷ behind → test l.kind ≡ false
  at_leaf test before l behind e is =
      let whole = sym (list_any-append (λ l. test l.kind) before (l ∷ behind)) ∙ sym (ap (list_any (λ l. test l.kind)) is) ∙ e in
      (or_parts (test l.kind) _ (or_parts (list_any (λ l. test l.kind) before) _ whole).1).0

  module _ (chip : is_chip p.target ≡ true) (e : rule p ≡ None) where
    none_mapped : (o : Option ℕ) (f : ℕ → ProjectFault) → option_map f o ≡ None → is_some o ≡ false
    none_mapped None f h = refl
    none_mapped (Some x) f h = absurd (none_some (f x) (sym h))

    none_unassigned : list_any (λ l. is_unassigned p.pins l.kind) (all_leaves p.rungs) ≡ false
    none_unassigned = none_tells (fault_of (OnChip PinUnassigned) p) (is_unassigned p.pins)
        (λ s h. on_chip (is_chip p.target) (is_unassigned p.pins s.leaf.kind) _ chip h) p (kept p e).assigned

    none_wrong : list_any (λ l. is_some (wrong_pin p l.kind)) (all_leaves p.rungs) ≡ false
    none_wrong = none_tells (fault_of (OnChip NoSuchPin) p) (λ k. is_some (wrong_pin p k)) (λ s h. none_mapped (wrong_pin p s.leaf.kind) _ (rw chip at h)) p
        (kept p e).served

    clear : AreClear p (all_leaves p.rungs)
    clear = (untold_none p chip).0 (kept p e).pins

    -- the pin of a name that is needed serves
    abbrev Served : (ℕ → Bool) → List ℕ → Type 0
    Served fits name = (pin : ℕ) × (pin_of p.pins name ≡ Some pin) × (fits pin ≡ true)

    so_served : (b : Bool) (pin : ℕ) → is_some (then_some (not b) pin) ≡ false → b ≡ true
    so_served true pin h = refl
    so_served false pin h = let clash : ⊥ = cc in absurd clash

    served_by : (o : Option ℕ) (fits : ℕ → Bool) (name : List ℕ) → Needed p fits name → pin_of p.pins name ≡ o → Served fits name
    served_by None fits name n is =
        let h = at_leaf (is_unassigned p.pins) n.before n.leaf n.behind none_unassigned n.order in
        let clash : ◌≡◌ {A = Bool} true false = rw (n.named, is) at h in
        absurd cc
    served_by (Some pin) fits name n is =
        let h = at_leaf (λ k. is_some (wrong_pin p k)) n.before n.leaf n.behind none_wrong n.order in
        (pin, is, sym (n.served pin) ∙ so_served (serves p.target n.leaf.kind pin) pin (rw (n.named, is) at h))

    served : (fits : ℕ → Bool) (name : List ℕ) → Needed p fits name → Served fits name
    served fits name n = served_by (pin_of p.pins name) fits name n refl

    -- one pin is that of one name
    one_name : (fits : ℕ → Bool) (n m : List ℕ) (q : ℕ) → Needed p fits n → Needed p fits m → pin_of p.pins n ≡ Some q → pin_of p.pins m ≡ Some q → n ≢ m → ⊥
    one_name fits n m q u v f g ne = at (order u.before u.leaf u.behind v.before v.leaf v.behind (sym u.order ∙ v.order))
      where
        at : Order u.before u.leaf v.before v.leaf → ⊥
        at (inl h) = ne (some_same n m (sym u.named ∙ ap (λ l. pinned l.kind) h.1 ∙ v.named))
        at (inr (inl h)) = clear v.before v.leaf v.behind q v.order (u.before, u.leaf, h.0, h.1, (m, n, (v.named, g), (u.named, f), λ s. ne (sym s)))
        at (inr (inr h)) = clear u.before u.leaf u.behind q u.order (v.before, v.leaf, h.0, h.1, (n, m, (u.named, f), (v.named, g), ne))

    module _ (X : Type 0) (place : ℕ → Option X) (one : (q r : ℕ) → is_some (place q) ≡ true → place q ≡ place r → q ≡ r) where
      abbrev fits : ℕ → Bool
      fits pin = is_some (place pin)

      abbrev of_name : List ℕ → Option X
      of_name name = option_and_then place (pin_of p.pins name)

      placed : (name : List ℕ) → Needed p fits name → is_some (of_name name) ≡ true
      placed name n = let s = served fits name n in rw s.1 s.2

      same_by : (b : Bool) (n m : List ℕ) → bytes_eq n m ≡ b → Needed p fits n → Needed p fits m → of_name n ≡ of_name m → n ≡ m
      same_by true n m t u v h = (bytes_eq-Decides n m).0 t
      same_by false n m t u v h =
          let s = served fits n u in let r = served fits m v in
          let same : s.0 ≡ r.0 = one s.0 r.0 s.2 (rw (s.1, r.1) at h) in
          let ne : n ≢ m = λ w. let yes : bytes_eq n m ≡ true = (bytes_eq-Decides n m).1 w in let clash : ⊥ = cc in clash in
          absurd (one_name fits n m r.0 u v (s.1 ∙ ap Some same) r.1 ne)

      all_placed : (ns : Texts) → EachOf (Needed p fits) ns → EachOf (λ name. IsSome (of_name name)) ns
      all_placed [] h = tt
      all_placed (n ∷ ns) h = (placed n h.0, all_placed ns h.1)

      places : (ns : Texts) → EachOf (Needed p fits) ns → HavePlaces X of_name (firsts ns)
      places ns h =
          let each = firsts_each (Needed p fits) [] ns tt h in
          let need = all_of (Needed p fits) (firsts ns) each in
          record {
            each = all_of (λ name. IsSome (of_name name)) (firsts ns) (all_placed (firsts ns) each);
            apart = λ i j lt gt s. one_place (firsts ns) (firsts_differ [] ns tt) i j lt gt
                (same_by (bytes_eq (get_or (firsts ns) i []) (get_or (firsts ns) j [])) _ _ refl (need i [] lt) (need j [] gt) s);
          }

      -- names of two kinds, of which no name is both, have no place together
      crossed : (P Q : List ℕ → Bool) → ((n : List ℕ) → P n ≡ true → Q n ≡ true → ⊥) → (ns ms : Texts) → EachOf (Needed p fits) ns → EachOf (Needed p fits) ms
          → EachOf (λ n. P n ≡ true) ns → EachOf (λ n. Q n ≡ true) ms → (i j : ℕ) → i < length (firsts ns) → j < length (firsts ms)
          → of_name (get_or (firsts ns) i []) ≢ of_name (get_or (firsts ms) j [])
      crossed P Q never ns ms h g a b i j lt gt s =
          let n = get_or (firsts ns) i [] in
          let m = get_or (firsts ms) j [] in
          let needs = all_of (Needed p fits) (firsts ns) (firsts_each (Needed p fits) [] ns tt h) in
          let needed = all_of (Needed p fits) (firsts ms) (firsts_each (Needed p fits) [] ms tt g) in
          let is = all_of (λ x. P x ≡ true) (firsts ns) (firsts_each (λ x. P x ≡ true) [] ns tt a) in
          let other = all_of (λ x. Q x ≡ true) (firsts ms) (firsts_each (λ x. Q x ≡ true) [] ms tt b) in
          let same : n ≡ m = same_by (bytes_eq n m) n m refl (needs i [] lt) (needed j [] gt) s in
          never m (subst (λ (x : List ℕ). P x ≡ true) same (is i [] lt)) (other j [] gt)

    one_bit_by : (o : Option PortBit) (q r : ℕ) → o ≡ port_bit_at p.target q → is_some o ≡ true → o ≡ port_bit_at p.target r → q ≡ r
    one_bit_by None q r is some same = let clash : ⊥ = cc in absurd clash
    one_bit_by (Some b) q r is some same = sym (alone p.target q (Some b) is r (sym same))

    one_channel_by : (o : Option ℕ) (q r : ℕ) → o ≡ channel_at p.target q → is_some o ≡ true → o ≡ channel_at p.target r → q ≡ r
    one_channel_by None q r is some same = let clash : ⊥ = cc in absurd clash
    one_channel_by (Some b) q r is some same = sym (alone_channel p.target q (Some b) is r (sym same))

    input_only : (n : List ℕ) → is_input n ≡ true → (is_input n || is_output n) ≡ true
    input_only n t = rw t refl

    or_so : (a b : Bool) → b ≡ true → (a || b) ≡ true
    or_so true b t = refl
    or_so false b t = t

    pub have_pins : HavePins p (names_of p.rungs)
    have_pins =
        let bits = λ (ns : Texts) (h : EachOf (Needed p bit_fits) ns). places PortBit (port_bit_at p.target)
        (λ q r some same. one_bit_by (port_bit_at p.target q) q r refl some same) ns h in
        record {
          inputs = bits (filter is_input (all_named bit_names (all_leaves p.rungs))) (bits_needed is_input input_only [] (all_leaves p.rungs) refl);
          outputs = bits (filter is_output (all_named bit_names (all_leaves p.rungs))) (bits_needed is_output (λ n t. or_so (is_input n) (is_output n) t) []
              (all_leaves p.rungs) refl);
          analog = places ℕ (channel_at p.target) (λ q r some same. one_channel_by (channel_at p.target q) q r refl some same)
              (all_named analog_names (all_leaves p.rungs)) (analog_needed [] (all_leaves p.rungs) refl);
          crossed = crossed PortBit (port_bit_at p.target) (λ q r some same. one_bit_by (port_bit_at p.target q) q r refl some same) is_input is_output
              not_both (filter is_input (all_named bit_names (all_leaves p.rungs))) (filter is_output (all_named bit_names (all_leaves p.rungs)))
              (bits_needed is_input input_only [] (all_leaves p.rungs) refl)
              (bits_needed is_output (λ n t. or_so (is_input n) (is_output n) t) [] (all_leaves p.rungs) refl)
              (filtered is_input (all_named bit_names (all_leaves p.rungs))) (filtered is_output (all_named bit_names (all_leaves p.rungs)));
        }

few_ports : (t : Target) (k : ℕ) → k < port_count t → k < 5
few_ports F628 k lt = omega arith
few_ports F877 k lt = omega arith
few_ports Mega16 k lt = omega arith
few_ports Interp k lt = omega arith
few_ports AnsiC k lt = omega arith

-- the ports and bits that there are
pub within_ports : (t : Target) (o : Option PortBit) → IfSome o (λ b. (b.port < port_count t) × (b.bit < 8)) → IfSome o (λ b. (b.port < 5) × (b.bit < 8))
within_ports t None h = tt
within_ports t (Some b) h = (few_ports t b.port h.0, h.1)
