-- The lists of a project's names: each holds the names of its kind once, and all names that elements have.
use Rattle.std.proofs.Common.{◌≡◌, ℕ, zero, suc, ◌+◌, ◌*◌, ◌<◌, ◌≤◌, ◌||◌, Bool, true, false, cond, List, [], ◌∷◌, ◌++◌, length, refl, ◌∙◌, subst, arith}
use Rattle.std.proofs.lemmas.Bool.{or_left, or_right}
use Rattle.std.proofs.Common.{length-append}
use Rattle.std.proofs.lemmas.Bool.Decides.{nat_tests}
use Rattle.std.proofs.lemmas.List.Folds.{list_any-append}
use Rattle.std.proofs.lemmas.Slice.Eq.{bytes_eq-Decides}
use Rattle.std.specs.Fmt.{decimal}
use Rattle.std.specs.List.{list_any}
use Rattle.std.specs.Prelude.{slice_index_or, filter}
use Rattle.std.specs.Str.{bytes_eq}
use Rattle.ladder_tree.specs.Leaves.{all_leaves}
use Rattle.ladder_tree.specs.Names.{is_input, is_output, is_relay, bit_names, operand_names, numbered_names, variable_names, analog_names, persistent_names}
use Rattle.ladder_tree.specs.Names.{all_named, all_bits, firsts_from, firsts, names_of, memories, memories_in, has_kind, all_well_named}
use Rattle.ladder_tree.specs.declared.element.Operand.{Operand}
use Rattle.ladder_tree.specs.declared.element.Operand.TheVariants.{Var, Num}
use Rattle.ladder_tree.specs.declared.element.Leaf as leaf
use Rattle.ladder_tree.specs.declared.element.LeafKind.TheVariants.{Contacts, Coil, MasterRelay, Osr, Osf, Counter, Move, Math, Compare, Shift, Table, ReadAdc}
use Rattle.ladder_tree.specs.declared.element.LeafKind.TheVariants.{Persist, Linear}
use Rattle.ladder_tree.specs.declared.element.LeafKind.{LeafKind}
use Rattle.ladder_tree.specs.declared.names.Names.{Names}
use Rattle.ladder_tree.specs.declared.project.Rung.{Rung}
use Rattle.ladder_tree.specs.declared.limits.TheConstants.{SHIFT_PLACES}
use Rattle.ladder_meaning.specs.State.{place_of}
use Rattle.ladder_lower.specs.Apart.{Apart, EachApart}
use Rattle.ladder_lower.specs.Fit.{is_fit, all_fit}
use Rattle.ladder_lower.specs.Masters.{is_master, any_master}
use Rattle.ladder_lower.specs.Wires.{layout_of}
use Rattle.ladder_lower.specs.declared.layout.Layout.{Layout}
use Rattle.ladder_lower.proofs.PlaceLemmas.{bytes_tells, bytes_same, held_get}
use Rattle.ladder_lower.proofs.Stands.{held, AllHeld, IsNamedPlace, AllNamed, AllPlaced, IsListed, Listed}

abbrev OfKind : Bool → List (List ℕ) → Type 0
OfKind y [] = Unit {0}
OfKind y (x ∷ xs) = (is_output x ≡ y) × OfKind y xs

held_push : (xs : List (List ℕ)) (n m : List ℕ) → held (xs ++ n ∷ []) m ≡ (held xs m || bytes_eq n m)
held_push [] n m = grind arith
held_push (x ∷ xs) n m = let h = held_push xs n m in grind arith

apart_push : (xs : List (List ℕ)) (n : List ℕ) → list_any (bytes_eq n) xs ≡ false → Apart xs → Apart (xs ++ n ∷ [])
apart_push [] n new h = (refl, tt)
apart_push (x ∷ xs) n new h = (held_push xs n x ∙ grind (arith, h.0), apart_push xs n (grind arith) h.1)

kind_push : (y : Bool) (xs : List (List ℕ)) (n : List ℕ) → is_output n ≡ y → OfKind y xs → OfKind y (xs ++ n ∷ [])
kind_push y [] n e h = (e, tt)
kind_push y (x ∷ xs) n e h = (h.0, kind_push y xs n e h.1)

-- the names seen so far are kept, and the next is added unless it was seen
pub record Seen (xs ns zs : List (List ℕ)) : Type 0 where
  pub apart : Apart zs
  pub old : (m : List ℕ) → held xs m ≡ true → held zs m ≡ true
  pub new : (m : List ℕ) → held ns m ≡ true → held zs m ≡ true
  pub count : length zs ≤ length xs + length ns

seen_held : (xs : List (List ℕ)) (n : List ℕ) → list_any (bytes_eq n) xs ≡ true → held xs n ≡ true
seen_held [] n e = absurd (cc)
seen_held (x ∷ xs) n e = let h = seen_held xs n in grind (arith, bytes_tells, h)

either : (a b c : Bool) → (a || b) ≡ true → (a ≡ true → c ≡ true) → (b ≡ true → c ≡ true) → c ≡ true
either true b c e f g = f refl
either false b c e f g = g e

seen_by : (xs : List (List ℕ)) (n : List ℕ) (ns : List (List ℕ)) (b : Bool) → list_any (bytes_eq n) xs ≡ b → (Apart xs → Seen xs ns (firsts_from xs ns))
    → (Apart (xs ++ n ∷ []) → Seen (xs ++ n ∷ []) ns (firsts_from (xs ++ n ∷ []) ns)) → Apart xs
    → Seen xs (n ∷ ns) (cond b (firsts_from xs ns) (firsts_from (xs ++ n ∷ []) ns))
seen_by xs n ns true e f g a = let s = f a in record {
  apart = s.apart;
  old = s.old;
  new =
      λ m h. either (bytes_eq n m) (held ns m) _ h (λ q. s.old m (subst (λ (z : List ℕ). held xs z ≡ true) ((bytes_eq-Decides n m).0 q) (seen_held xs n e)))
      (s.new m);
  count = let c = s.count in omega arith;
}
seen_by xs n ns false e f g a = let s = g (apart_push xs n e a) in record {
  apart = s.apart;
  old = λ m h. s.old m (held_push xs n m ∙ grind (arith, h));
  new = λ m h. either (bytes_eq n m) (held ns m) _ h (λ q. s.old m (held_push xs n m ∙ grind (arith, q))) (s.new m);
  count = let c = s.count in omega (arith, length-append {A = List ℕ});
}

seen_all : (xs ns : List (List ℕ)) → Apart xs → Seen xs ns (firsts_from xs ns)
seen_all xs [] a = record { apart = a; old = λ m h. h; new = λ m h. absurd (cc); count = omega arith }
seen_all xs (n ∷ ns) a = seen_by xs n ns (list_any (bytes_eq n) xs) refl (seen_all xs ns) (seen_all (xs ++ n ∷ []) ns) a

pub firsts_seen : (ns : List (List ℕ)) → Seen [] ns (firsts ns)
firsts_seen ns = seen_all [] ns tt

kind_step : (y : Bool) (xs : List (List ℕ)) (n : List ℕ) (ns : List (List ℕ)) (b : Bool) → is_output n ≡ y → OfKind y xs
    → (OfKind y xs → OfKind y (firsts_from xs ns)) → (OfKind y (xs ++ n ∷ []) → OfKind y (firsts_from (xs ++ n ∷ []) ns))
    → OfKind y (cond b (firsts_from xs ns) (firsts_from (xs ++ n ∷ []) ns))
kind_step y xs n ns true is k f g = f k
kind_step y xs n ns false is k f g = g (kind_push y xs n is k)

firsts_kind : (y : Bool) (xs ns : List (List ℕ)) → OfKind y ns → OfKind y xs → OfKind y (firsts_from xs ns)
firsts_kind y xs [] o k = k
firsts_kind y xs (n ∷ ns) o k = kind_step y xs n ns (list_any (bytes_eq n) xs) o.0 k (firsts_kind y xs ns o.1) (firsts_kind y (xs ++ n ∷ []) ns o.1)

-- of names that are apart, each stands at its own place
place_get : (xs : List (List ℕ)) (k : ℕ) → Apart xs → k < length xs → place_of xs (slice_index_or xs k []) ≡ k
place_get [] k a lt = absurd (omega arith)
place_get (x ∷ xs) zero a lt = rw (bytes_same x) refl
place_get (x ∷ xs) (suc k) a lt =
    let m = slice_index_or xs k [] in
    let h = held_get xs k (omega arith) in
    let ne : bytes_eq x m ≡ false = grind (arith, bytes_tells, h, a.0) in
    rw (ne, place_get xs k a.1 (omega arith)) (omega arith)

placed : (ns : List (List ℕ)) → AllPlaced (firsts ns)
placed ns k lt = place_get (firsts ns) k (firsts_seen ns).apart lt

kind_get : (y : Bool) (xs : List (List ℕ)) (k : ℕ) → OfKind y xs → k < length xs → is_output (slice_index_or xs k []) ≡ y
kind_get y [] k o lt = absurd (omega arith)
kind_get y (x ∷ xs) zero o lt = o.0
kind_get y (x ∷ xs) (suc k) o lt = kind_get y xs k o.1 (omega arith)

listed : (y : Bool) (ns : List (List ℕ)) → OfKind y ns → IsListed y (firsts ns)
listed y ns o = record {
  place = placed ns;
  kind = λ k lt. kind_get y (firsts ns) k (firsts_kind y [] ns o tt) lt;
}

kind_by : (y : Bool) (is_kind : List ℕ → Bool) (n : List ℕ) (ns : List (List ℕ)) (b : Bool) → is_kind n ≡ b
    → ((m : List ℕ) → is_kind m ≡ true → is_output m ≡ y) → OfKind y (filter is_kind ns) → OfKind y (cond b (n ∷ filter is_kind ns) (filter is_kind ns))
kind_by y is_kind n ns true e f h = (f n e, h)
kind_by y is_kind n ns false e f h = h

filter_kind : (y : Bool) (is_kind : List ℕ → Bool) (ns : List (List ℕ)) → ((m : List ℕ) → is_kind m ≡ true → is_output m ≡ y) → OfKind y (filter is_kind ns)
filter_kind y is_kind [] f = tt
filter_kind y is_kind (n ∷ ns) f = kind_by y is_kind n ns (is_kind n) refl f (filter_kind y is_kind ns f)

held_by : (is_kind : List ℕ → Bool) (n m : List ℕ) (ns : List (List ℕ)) (b : Bool) → is_kind n ≡ b → is_kind m ≡ true
    → (held ns m ≡ true → held (filter is_kind ns) m ≡ true) → (bytes_eq n m || held ns m) ≡ true
    → held (cond b (n ∷ filter is_kind ns) (filter is_kind ns)) m ≡ true
held_by is_kind n m ns true e k f h = either (bytes_eq n m) (held ns m) _ h (λ q. grind (arith, q)) (λ q. let g = f q in grind (arith, g))
held_by is_kind n m ns false e k f h = either (bytes_eq n m) (held ns m) _ h (λ q. absurd (let same = (bytes_eq-Decides n m).0 q in cc)) f

held_filter : (is_kind : List ℕ → Bool) (ns : List (List ℕ)) (m : List ℕ) → is_kind m ≡ true → held ns m ≡ true → held (filter is_kind ns) m ≡ true
held_filter is_kind [] m k h = absurd (cc)
held_filter is_kind (n ∷ ns) m k h = held_by is_kind n m ns (is_kind n) refl k (held_filter is_kind ns m k) h

-- the lists hold each of some bits in the list of its kind, and each of some variables, analog and persistent names
record Lists (p : Layout) (bs vs ks ps : List (List ℕ)) : Type 0 where
  inputs : (m : List ℕ) → held bs m ≡ true → is_input m ≡ true → held p.inputs m ≡ true
  outputs : (m : List ℕ) → held bs m ≡ true → is_output m ≡ true → held p.outputs m ≡ true
  relays : (m : List ℕ) → held bs m ≡ true → is_relay m ≡ true → held p.relays m ≡ true
  variables : (m : List ℕ) → held vs m ≡ true → held p.variables m ≡ true
  analog : (m : List ℕ) → held ks m ≡ true → held p.analog m ≡ true
  persistent : (m : List ℕ) → held ps m ≡ true → held p.persistent m ≡ true

held_append : (xs ys : List (List ℕ)) (m : List ℕ) → held (xs ++ ys) m ≡ (held xs m || held ys m)
held_append xs ys m = list_any-append (λ x. bytes_eq x m) xs ys

pub held_front : (xs ys : List (List ℕ)) (m : List ℕ) → held xs m ≡ true → held (xs ++ ys) m ≡ true
held_front xs ys m h = held_append xs ys m ∙ or_left _ _ h

pub held_back : (xs ys : List (List ℕ)) (m : List ℕ) → held ys m ≡ true → held (xs ++ ys) m ≡ true
held_back xs ys m h = held_append xs ys m ∙ or_right _ _ h

lists_front : (p : Layout) (bs cs vs ws ks ls ps qs : List (List ℕ)) → Lists p (bs ++ cs) (vs ++ ws) (ks ++ ls) (ps ++ qs) → Lists p bs vs ks ps
lists_front p bs cs vs ws ks ls ps qs f = record {
  inputs = λ m h. f.inputs m (held_front bs cs m h);
  outputs = λ m h. f.outputs m (held_front bs cs m h);
  relays = λ m h. f.relays m (held_front bs cs m h);
  variables = λ m h. f.variables m (held_front vs ws m h);
  analog = λ m h. f.analog m (held_front ks ls m h);
  persistent = λ m h. f.persistent m (held_front ps qs m h);
}

lists_back : (p : Layout) (bs cs vs ws ks ls ps qs : List (List ℕ)) → Lists p (bs ++ cs) (vs ++ ws) (ks ++ ls) (ps ++ qs) → Lists p cs ws ls qs
lists_back p bs cs vs ws ks ls ps qs f = record {
  inputs = λ m h. f.inputs m (held_back bs cs m h);
  outputs = λ m h. f.outputs m (held_back bs cs m h);
  relays = λ m h. f.relays m (held_back bs cs m h);
  variables = λ m h. f.variables m (held_back vs ws m h);
  analog = λ m h. f.analog m (held_back ks ls m h);
  persistent = λ m h. f.persistent m (held_back ps qs m h);
}

picks : (i o r a b c : Bool) → (i || (o || r)) ≡ true → (i ≡ true → a ≡ true) → (o ≡ true → b ≡ true) → (r ≡ true → c ≡ true) → cond i a (cond o b c) ≡ true
picks true o r a b c e f g h = f refl
picks false true r a b c e f g h = g refl
picks false false r a b c e f g h = h e

one_held : (name : List ℕ) → held (name ∷ []) name ≡ true
one_held name = rw (bytes_same name) refl

all_held : (list names : List (List ℕ)) → ((m : List ℕ) → held names m ≡ true → held list m ≡ true) → AllHeld list names
all_held list [] f = tt
all_held list (x ∷ xs) f = (f x (or_left _ _ (bytes_same x)), all_held list xs (λ m h. f m (or_right _ _ h)))

place_by : (p : Layout) (kind : LeafKind) → has_kind kind ≡ true → Lists p (bit_names kind) (variable_names kind) (analog_names kind) (persistent_names kind)
    → (is_master kind ≡ true → p.has_master ≡ true) → IsNamedPlace p kind
place_by p (Contacts name neg) e f h =
    let one = one_held name in picks (is_input name) (is_output name) (is_relay name) _ _ _ e (f.inputs name one) (f.outputs name one) (f.relays name one)
place_by p (Coil name mode) e f h =
    let one = one_held name in picks false (is_output name) (is_relay name) true _ _ e (λ q. refl) (f.outputs name one) (f.relays name one)
place_by p MasterRelay e f h = h refl
place_by p (ReadAdc name) e f h = f.analog name (one_held name)
place_by p (Persist name) e f h = f.persistent name (one_held name)
place_by p _ e f h = tt

each_named : (p : Layout) (ls : List leaf.Leaf) → all_well_named ls ≡ true
    → Lists p (all_bits ls) (all_named variable_names ls) (all_named analog_names ls) (all_named persistent_names ls)
    → (any_master ls ≡ true → p.has_master ≡ true) → AllNamed p ls
each_named p [] e f h = tt
each_named p (l ∷ ls) e f h =
    let kind : has_kind l.kind ≡ true = grind (arith, e) in
    let rest : all_well_named ls ≡ true = grind (arith, e) in
    let vs = all_named variable_names ls in
    let ks = all_named analog_names ls in
    let ps = all_named persistent_names ls in
    let front = lists_front p (bit_names l.kind) (all_bits ls) (variable_names l.kind) vs (analog_names l.kind) ks (persistent_names l.kind) ps f in
    let back = lists_back p (bit_names l.kind) (all_bits ls) (variable_names l.kind) vs (analog_names l.kind) ks (persistent_names l.kind) ps f in (
      record { place = place_by p l.kind kind front (λ q. h (or_left _ _ q)); variables = all_held p.variables (variable_names l.kind) front.variables },
      each_named p ls rest back (λ q. h (or_right _ _ q)),
    )

input_kind : (m : List ℕ) → is_input m ≡ true → is_output m ≡ false
input_kind m e = grind (arith, nat_tests, e)

relay_kind : (m : List ℕ) → is_relay m ≡ true → is_output m ≡ false
relay_kind m e = grind (arith, nat_tests, e)

held_firsts : (is_kind : List ℕ → Bool) (ns : List (List ℕ)) → (m : List ℕ) → held ns m ≡ true → is_kind m ≡ true → held (firsts (filter is_kind ns)) m ≡ true
held_firsts is_kind ns m h k = (firsts_seen (filter is_kind ns)).new m (held_filter is_kind ns m k h)

pub names_named : (gs : List Rung) (cycle : ℕ) → all_well_named (all_leaves gs) ≡ true
    → AllNamed (layout_of (names_of gs) cycle (any_master (all_leaves gs))) (all_leaves gs)
names_named gs cycle e =
    let ls = all_leaves gs in
    each_named (layout_of (names_of gs) cycle (any_master ls)) ls e (record {
      inputs = held_firsts is_input (all_bits ls);
      outputs = held_firsts is_output (all_bits ls);
      relays = held_firsts is_relay (all_bits ls);
      variables = (firsts_seen (all_named variable_names ls)).new;
      analog = (firsts_seen (all_named analog_names ls)).new;
      persistent = (firsts_seen (all_named persistent_names ls)).new;
    }) (λ q. q)

pub names_listed : (gs : List Rung) → Listed (names_of gs)
names_listed gs =
    let ls = all_leaves gs in record {
      outputs = listed true (filter is_output (all_bits ls)) (filter_kind true is_output (all_bits ls) (λ m q. q));
      relays = listed false (filter is_relay (all_bits ls)) (filter_kind false is_relay (all_bits ls) relay_kind);
      variables = placed (all_named variable_names ls);
      persistent = placed (all_named persistent_names ls);
    }

filter_count : (is_kind : List ℕ → Bool) (ns : List (List ℕ)) → length (filter is_kind ns) ≤ length ns
filter_count is_kind [] = omega arith
filter_count is_kind (n ∷ ns) = let h = filter_count is_kind ns in count_by (is_kind n) h
  where
    count_by : (b : Bool) → length (filter is_kind ns) ≤ length ns → length (cond b (n ∷ filter is_kind ns) (filter is_kind ns)) ≤ suc (length ns)
    count_by true h = omega arith
    count_by false h = omega arith

firsts_count : (is_kind : List ℕ → Bool) (ns : List (List ℕ)) → length (firsts (filter is_kind ns)) ≤ length ns
firsts_count is_kind ns = let s = (firsts_seen (filter is_kind ns)).count in let c = filter_count is_kind ns in omega arith

-- how long the lists are at most: a shift register has up to 60 variables, and an element one other name or memory
pub record Counted (p : Names) (ls : List leaf.Leaf) : Type 0 where
  pub inputs : length p.inputs ≤ length ls
  pub outputs : length p.outputs ≤ length ls
  pub variables : length p.variables ≤ SHIFT_PLACES * length ls
  pub analog : length p.analog ≤ length ls
  pub kept : length p.relays + (p.memories + length p.persistent) ≤ length ls

one_use : (kind : LeafKind) → length (bit_names kind) + (memories kind + length (persistent_names kind)) ≤ 1
one_use (Contacts name neg) = omega arith
one_use (Coil name mode) = omega arith
one_use Osr = omega arith
one_use Osf = omega arith
one_use (Counter how name max) = omega arith
one_use (Shift name places) = omega arith
one_use (Persist name) = omega arith
one_use _ = omega arith

uses : (ls : List leaf.Leaf) → length (all_bits ls) + (memories_in ls + length (all_named persistent_names ls)) ≤ length ls
uses [] = omega arith
uses (l ∷ ls) =
    let h = uses ls in let k = one_use l.kind in
    omega (arith, length-append (bit_names l.kind) (all_bits ls), length-append (persistent_names l.kind) (all_named persistent_names ls))

one_analog : (kind : LeafKind) → length (analog_names kind) ≤ 1
one_analog (ReadAdc name) = omega arith
one_analog _ = omega arith

analogs : (ls : List leaf.Leaf) → length (all_named analog_names ls) ≤ length ls
analogs [] = omega arith
analogs (l ∷ ls) = let h = analogs ls in let k = one_analog l.kind in omega (arith, length-append (analog_names l.kind) (all_named analog_names ls))

numbered_count : (name : List ℕ) (k : ℕ) → length (numbered_names name k) ≡ k
numbered_count name zero = refl
numbered_count name (suc k) = let h = numbered_count name k in omega (arith, length-append (numbered_names name k) ((name ++ decimal k) ∷ []))

one_operand : (a : Operand) → length (operand_names a) ≤ 1
one_operand (Var name) = omega arith
one_operand (Num n) = omega arith

fit_variables : (cycle : ℕ) (kind : LeafKind) → is_fit cycle kind ≡ true → length (variable_names kind) ≤ SHIFT_PLACES
fit_variables cycle (Move dest src) e = let a = one_operand src in omega arith
fit_variables cycle (Math how dest a b) e = let x = one_operand a in let y = one_operand b in omega (arith, length-append (operand_names a) (operand_names b))
fit_variables cycle (Compare how a b) e = let x = one_operand a in let y = one_operand b in omega (arith, length-append (operand_names a) (operand_names b))
fit_variables cycle (Shift name places) e = let n = numbered_count name places in let most : places ≤ SHIFT_PLACES = grind (arith, nat_tests, e) in omega arith
fit_variables cycle (Table dest index as_text values) e = let a = one_operand index in omega arith
fit_variables cycle (Linear dest index points) e = let a = one_operand index in omega arith
fit_variables cycle _ e = omega arith

variables : (cycle : ℕ) (ls : List leaf.Leaf) → all_fit cycle ls ≡ true → length (all_named variable_names ls) ≤ SHIFT_PLACES * length ls
variables cycle [] e = omega arith
variables cycle (l ∷ ls) e =
    let one : is_fit cycle l.kind ≡ true = grind (arith, e) in
    let rest : all_fit cycle ls ≡ true = grind (arith, e) in
    let h = variables cycle ls rest in
    let k = fit_variables cycle l.kind one in
    omega (arith, length-append (variable_names l.kind) (all_named variable_names ls))

pub names_counted : (gs : List Rung) (cycle : ℕ) → all_fit cycle (all_leaves gs) ≡ true → Counted (names_of gs) (all_leaves gs)
names_counted gs cycle e =
    let ls = all_leaves gs in
    let u = uses ls in
    record {
      inputs = let c = firsts_count is_input (all_bits ls) in omega arith;
      outputs = let c = firsts_count is_output (all_bits ls) in omega arith;
      variables = let c = (firsts_seen (all_named variable_names ls)).count in let v = variables cycle ls e in omega arith;
      analog = let c = (firsts_seen (all_named analog_names ls)).count in let k = analogs ls in omega arith;
      kept = let c = firsts_count is_relay (all_bits ls) in let k = (firsts_seen (all_named persistent_names ls)).count in omega arith;
    }

pub names_apart : (gs : List Rung) → EachApart (names_of gs)
names_apart gs =
    let ls = all_leaves gs in
    record {
      inputs = (firsts_seen (filter is_input (all_bits ls))).apart;
      outputs = (firsts_seen (filter is_output (all_bits ls))).apart;
      relays = (firsts_seen (filter is_relay (all_bits ls))).apart;
      variables = (firsts_seen (all_named variable_names ls)).apart;
      analog = (firsts_seen (all_named analog_names ls)).apart;
      persistent = (firsts_seen (all_named persistent_names ls)).apart;
    }
