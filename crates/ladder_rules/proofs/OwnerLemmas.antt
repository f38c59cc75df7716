-- The look for a pin that two names have finds the first element whose pin an earlier name has.
use Rattle.std.proofs.Common.{◌≡◌, ◌≢◌, ℕ, zero, suc, ◌+◌, ◌<◌, Bool, true, false, not, nat_eq, nat_lt, cond, List, [], ◌∷◌, ◌++◌, length, set, get_or, replicate, Bor, Option, Some, None, refl, sym, ap, ◌∙◌, arith, append_assoc}
use Rattle.std.specs.Bool.{then_some}
use Rattle.std.specs.Option.{option_map, option_and_then, option_or}
use Rattle.std.specs.Str.{bytes_eq}
use Rattle.std.proofs.lemmas.Bool.{ltb-true}
use Rattle.std.proofs.lemmas.Bool.Decides.{nat_tests}
use Rattle.std.proofs.lemmas.Grind.{get_or-set_at}
use Rattle.std.proofs.lemmas.List.{get_or-set_other, length-set, length-replicate}
use Rattle.std.proofs.lemmas.Slice.Eq.{bytes_eq-Decides}
use Rattle.ladder_tree.specs.Leaves.{all_leaves}
use Rattle.ladder_tree.specs.Visit.{visits, goes_on, seeks, first_given}
use Rattle.ladder_tree.specs.declared.element.Leaf as element
use Rattle.ladder_tree.specs.declared.fault.ProjectFault.{ProjectFault}
use Rattle.ladder_tree.specs.declared.fault.ProjectFault.TheVariants as fault
use Rattle.ladder_tree.specs.declared.project.PinLine.{PinLine}
use Rattle.ladder_tree.specs.declared.project.Project.{Project}
use Rattle.ladder_rules.specs.Owners.{line_from, line_of, is_another, is_anothers, clash, claimed, tried_line, tried, claims}
use Rattle.ladder_rules.specs.Pins.{pinned, some_pin, pin_of, is_pin, name_at, owner, are_two, twice}
use Rattle.ladder_rules.specs.Places.{Placed, all_placed, spots, spots_behind}
use Rattle.ladder_rules.specs.Verdict.{first_fault}
use Rattle.ladder_rules.specs.declared.owners.Clash.{Clash}
use Rattle.ladder_rules.specs.declared.limits.TheConstants.{TABLE_PINS}
use Rattle.ladder_rules.specs.declared.owners.Owners.{Owners}
use Rattle.ladder_rules.specs.declared.owners.PinSought.{PinSought}
use Rattle.ladder_tree.proofs.SoughtLemmas.{given}
use Rattle.ladder_rules.proofs.WalkLemmas.{elements, all_kept}

abbrev number_pin : ℕ × ℕ → Option ℕ
number_pin w = cond (nat_eq w.1 0) None (Some w.1)

pin_by : (b : Bool) (k : ℕ) (l : PinLine) (o : Option (ℕ × ℕ)) (f : Option PinLine) → option_and_then number_pin o ≡ some_pin f →
    option_and_then number_pin (cond b (Some (k + 1, l.pin)) o) ≡ some_pin (cond b (Some l) f)
pin_by true k l o f e = refl
pin_by false k l o f e = e

-- the pin of a line's number is the pin of the name
line_pin : (k : ℕ) (pins : List PinLine) (n : List ℕ) → option_and_then number_pin (line_from k pins n) ≡ pin_of pins n
line_pin k [] n = refl
line_pin k (l ∷ ls) n = pin_by (bytes_eq l.name n) k l _ _ (line_pin (k + 1) ls n)

some_pair : (a b q r : ℕ) → ◌≡◌ {A = Option (ℕ × ℕ)} (Some (a, q)) (Some (b, r)) → a ≡ b
some_pair a b q r e = let same : ◌≡◌ {A = ℕ × ℕ} (a, q) (b, r) = cc in ap (λ w. w.0) same

none_some : {A : Type 0} (x : A) → ◌≡◌ {A = Option A} None (Some x) → ⊥
none_some x e = cc

later_by : (b : Bool) (k j pin q : ℕ) (o : Option (ℕ × ℕ)) → (o ≡ Some (j, q) → k + 1 < j) → cond b (Some (k + 1, pin)) o ≡ Some (j, q) → k < j
later_by true k j pin q o f e = let same = some_pair (k + 1) j pin q e in omega (arith, same)
later_by false k j pin q o f e = let h = f e in omega (arith, h)

line_later : (k : ℕ) (pins : List PinLine) (n : List ℕ) (j q : ℕ) → line_from k pins n ≡ Some (j, q) → k < j
line_later k [] n j q e = absurd (none_some (j, q) e)
line_later k (l ∷ ls) n j q e = later_by (bytes_eq l.name n) k j l.pin q _ (line_later (k + 1) ls n j q) e

same_bytes : (a b : List ℕ) → bytes_eq a b ≡ true → a ≡ b
same_bytes a b e = (bytes_eq-Decides a b).0 e

same_by : (b c : Bool) (k j pin q r : ℕ) (l n m : List ℕ) (o u : Option (ℕ × ℕ)) → bytes_eq l n ≡ b → bytes_eq l m ≡ c → (o ≡ Some (j, q) → k + 1 < j) →
    (u ≡ Some (j, r) → k + 1 < j) → (o ≡ Some (j, q) → u ≡ Some (j, r) → n ≡ m) → cond b (Some (k + 1, pin)) o ≡ Some (j, q) →
    cond c (Some (k + 1, pin)) u ≡ Some (j, r) → n ≡ m
same_by true true k j pin q r l n m o u eb ec f g h d e = sym (same_bytes l n eb) ∙ same_bytes l m ec
same_by true false k j pin q r l n m o u eb ec f g h d e = let same = some_pair (k + 1) j pin q d in let more = g e in absurd (omega (arith, same, more))
same_by false true k j pin q r l n m o u eb ec f g h d e = let same = some_pair (k + 1) j pin r e in let more = f d in absurd (omega (arith, same, more))
same_by false false k j pin q r l n m o u eb ec f g h d e = h d e

-- a line's number tells the name
same_line : (k : ℕ) (pins : List PinLine) (n m : List ℕ) (j q r : ℕ) → line_from k pins n ≡ Some (j, q) → line_from k pins m ≡ Some (j, r) → n ≡ m
same_line k [] n m j q r d e = absurd (none_some (j, q) d)
same_line k (l ∷ ls) n m j q r d e =
    same_by (bytes_eq l.name n) (bytes_eq l.name m) k j l.pin q r l.name n m _ _ refl refl
    (line_later (k + 1) ls n j q) (line_later (k + 1) ls m j r) (same_line (k + 1) ls n m j q r) d e

or_none : {A : Type 0} (o : Option A) → option_or o None ≡ o
or_none None = refl
or_none (Some x) = refl

or_assoc : {A : Type 0} (x y z : Option A) → option_or (option_or x y) z ≡ option_or x (option_or y z)
or_assoc None y z = refl
or_assoc (Some a) y z = refl

abbrev pub fault_at : Clash → ProjectFault
fault_at c = fault.PinTwice c.line c.pin

told_as : (line : ℕ) (o : Option ℕ) → option_map fault_at (option_map (clash line) o) ≡ option_map (λ pin. fault.PinTwice line pin) o
told_as line None = refl
told_as line (Some pin) = refl

module _ (p : Project) where
  -- what an element with the name needs
  abbrev named : ℕ → Option (List ℕ) → Option (List ℕ)
  named q o = cond (is_pin q (option_and_then (pin_of p.pins) o)) o None

  abbrev told : ℕ → Option (List ℕ) → List element.Leaf → Option ProjectFault
  told line o before = option_and_then (λ pin. then_some (are_two o (owner p.pins pin before)) (fault.PinTwice line pin)) (option_and_then (pin_of p.pins) o)

  pub owner-append : (q : ℕ) (a b : List element.Leaf) → owner p.pins q (a ++ b) ≡ option_or (owner p.pins q a) (owner p.pins q b)
  owner-append q [] b = refl
  owner-append q (l ∷ a) b =
      ap (λ o. option_or (name_at p.pins q l.kind) o) (owner-append q a b) ∙ sym (or_assoc (name_at p.pins q l.kind) (owner p.pins q a) (owner p.pins q b))

  abbrev number_in : Option (ℕ × ℕ) → ℕ
  number_in None = 0
  number_in (Some w) = w.0

  abbrev num : Option (List ℕ) → ℕ
  num None = 0
  num (Some n) = number_in (line_of p.pins n)

  is_at : (b : Bool) (q r : ℕ) (n m : List ℕ) (rest : Option (List ℕ)) → nat_eq q r ≡ b → pin_of p.pins n ≡ Some r →
      (rest ≡ Some m → pin_of p.pins m ≡ Some q) → option_or (cond b (Some n) None) rest ≡ Some m → pin_of p.pins m ≡ Some q
  is_at true q r n m rest t e f h = let same : n ≡ m = cc in let at : q ≡ r = grind (arith, nat_tests, t) in rw (sym same, at) e
  is_at false q r n m rest t e f h = f h

  named_by : (u : Option ℕ) (q : ℕ) (n m : List ℕ) (rest : Option (List ℕ)) → pin_of p.pins n ≡ u → (rest ≡ Some m → pin_of p.pins m ≡ Some q) →
      option_or (cond (is_pin q u) (Some n) None) rest ≡ Some m → pin_of p.pins m ≡ Some q
  named_by None q n m rest e f h = f h
  named_by (Some r) q n m rest e f h = is_at (nat_eq q r) q r n m rest refl e f h

  named_pin : (o : Option (List ℕ)) (q : ℕ) (m : List ℕ) (rest : Option (List ℕ)) → (rest ≡ Some m → pin_of p.pins m ≡ Some q) →
      option_or (named q o) rest ≡ Some m → pin_of p.pins m ≡ Some q
  named_pin None q m rest f h = f h
  named_pin (Some n) q m rest f h = named_by (pin_of p.pins n) q n m rest refl f h

  owner_pin : (q : ℕ) (m : List ℕ) (ls : List element.Leaf) → owner p.pins q ls ≡ Some m → pin_of p.pins m ≡ Some q
  owner_pin q m [] h = absurd (none_some m h)
  owner_pin q m (l ∷ ls) h = named_pin (pinned l.kind) q m (owner p.pins q ls) (owner_pin q m ls) h

  -- the line of a name with a pin
  line_by : (o : Option (ℕ × ℕ)) (q : ℕ) → option_and_then number_pin o ≡ Some q → (w : ℕ × ℕ) × (o ≡ Some w)
  line_by None q e = absurd (none_some q e)
  line_by (Some w) q e = (w, refl)

  has_line : (q : ℕ) (m : List ℕ) (ls : List element.Leaf) → owner p.pins q ls ≡ Some m → (w : ℕ × ℕ) × (line_of p.pins m ≡ Some w)
  has_line q m ls h = line_by (line_of p.pins m) q (line_pin 0 p.pins m ∙ owner_pin q m ls h)

  some_num : (q : ℕ) (m : List ℕ) (ls : List element.Leaf) → owner p.pins q ls ≡ Some m → num (Some m) ≡ 0 → ⊥
  some_num q m ls h z =
      let w = has_line q m ls h in
      let more = line_later 0 p.pins m w.0.0 w.0.1 w.1 in
      let zero_at : w.0.0 ≡ 0 = sym (ap number_in w.1) ∙ z in
      omega (arith, more, zero_at)

  nobody_by : (o : Option (List ℕ)) (q : ℕ) (ls : List element.Leaf) → owner p.pins q ls ≡ o → num o ≡ 0 → o ≡ None
  nobody_by None q ls h z = refl
  nobody_by (Some m) q ls h z = absurd (some_num q m ls h z)

  number_by : (b : Bool) (i j q r : ℕ) (n m : List ℕ) → bytes_eq n m ≡ b → line_of p.pins n ≡ Some (j, q) → line_of p.pins m ≡ Some (i, r) → nat_eq i j ≡ b
  number_by true i j q r n m t d e =
      let same = same_bytes n m t in
      let at : i ≡ j = some_pair i j r q (sym e ∙ ap (line_of p.pins) (sym same) ∙ d) in
      grind (arith, nat_tests, at)
  number_by false i j q r n m t d e = number_other (nat_eq i j) i j q r n m t refl d e
    where
      number_other : (b : Bool) (i j q r : ℕ) (n m : List ℕ) → bytes_eq n m ≡ false → nat_eq i j ≡ b → line_of p.pins n ≡ Some (j, q) →
          line_of p.pins m ≡ Some (i, r) → b ≡ false
      number_other false i j q r n m t s d e = refl
      number_other true i j q r n m t s d e =
          let at : i ≡ j = grind (arith, nat_tests, s) in
          let same : n ≡ m = same_line 0 p.pins n m j q r d (rw at at e) in
          let yes : bytes_eq n m ≡ true = (bytes_eq-Decides n m).1 same in
          let clash : ⊥ = cc in absurd clash

  -- what an element leaves of the table, and its fault
  record Stepped (line : ℕ) (o : Option (List ℕ)) (pre : List element.Leaf) (w : Option ℕ × List ℕ) : Type 0 where
    fault : option_map (λ pin. fault.PinTwice line pin) w.0 ≡ told line o pre
    size : length w.1 ≡ TABLE_PINS
    next : w.0 ≡ None → (q : ℕ) → q < TABLE_PINS → get_or w.1 q 0 ≡ num (option_or (owner p.pins q pre) (named q o))

  module _ (line : ℕ) (pre : List element.Leaf) (owners : List ℕ) (size : length owners ≡ TABLE_PINS) (kept : (q : ℕ) → q < TABLE_PINS →
      get_or owners q 0 ≡ num (owner p.pins q pre)) where
    -- an element without a pin
    still : (o : Option (List ℕ)) → option_and_then (pin_of p.pins) o ≡ None → Stepped line o pre (None, owners)
    still o e = record {
      fault = rw e refl;
      size = size;
      next = λ _ q lt. rw e (kept q lt ∙ ap num (sym (or_none (owner p.pins q pre))));
    }

    module _ (n : List ℕ) (number pin : ℕ) (line_is : line_of p.pins n ≡ Some (number, pin)) (pin_is : pin_of p.pins n ≡ Some pin) where
      other : (b : Bool) (q : ℕ) → nat_eq q pin ≡ b → b ≡ false → option_or (owner p.pins q pre) (named q (Some n)) ≡ owner p.pins q pre
      other false q t e = rw (pin_is, t) (or_none (owner p.pins q pre))
      other true q t e = let clash : ⊥ = cc in absurd clash

      told_by : (b c : Bool) → b ≡ c → option_map (λ k. fault.PinTwice line k) (then_some b pin) ≡ then_some c (fault.PinTwice line pin)
      told_by true true e = refl
      told_by false false e = refl
      told_by true false e = let clash : ⊥ = cc in absurd clash
      told_by false true e = let clash : ⊥ = cc in absurd clash

      set_by : (b : Bool) (q : ℕ) → pin < TABLE_PINS → q < TABLE_PINS → nat_eq q pin ≡ b → owner p.pins pin pre ≡ None →
          get_or (set owners pin number) q 0 ≡ num (option_or (owner p.pins q pre) (named q (Some n)))
      set_by true q low lt t none =
          let at : q ≡ pin = grind (arith, nat_tests, t) in
          let inside : pin < length owners = rw size low in
          rw (pin_is, t, at, none, line_is) (get_or-set_at owners pin pin number 0 refl inside)
      set_by false q low lt t none =
          let apart : q ≢ pin = λ s. let yes : nat_eq q pin ≡ true = grind (arith, nat_tests, s) in let clash : ⊥ = cc in clash in
          get_or-set_other owners pin q number 0 apart ∙ kept q lt ∙ ap num (sym (other false q t refl))

      -- nobody had the pin
      first : pin < TABLE_PINS → get_or owners pin 0 ≡ 0 → Stepped line (Some n) pre (None, set owners pin number)
      first low z =
          let none = nobody_by (owner p.pins pin pre) pin pre refl (sym (kept pin low) ∙ z) in
          record {
            fault = rw (pin_is, none) refl;
            size = length-set owners pin number ∙ size;
            next = λ _ q lt. set_by (nat_eq q pin) q low lt refl none;
          }

      held_by : (b : Bool) (q : ℕ) (m : List ℕ) → q < TABLE_PINS → nat_eq q pin ≡ b → owner p.pins pin pre ≡ Some m →
          get_or owners q 0 ≡ num (option_or (owner p.pins q pre) (named q (Some n)))
      held_by true q m lt t is =
          let at : q ≡ pin = grind (arith, nat_tests, t) in
          let same : owner p.pins q pre ≡ Some m = rw at is in
          kept q lt ∙ rw same refl
      held_by false q m lt t is = kept q lt ∙ ap num (sym (other false q t refl))

      -- somebody has the pin
      second_by : (o : Option (List ℕ)) → pin < TABLE_PINS → owner p.pins pin pre ≡ o → get_or owners pin 0 ≢ 0 →
          Stepped line (Some n) pre (then_some (not (nat_eq (get_or owners pin 0) number)) pin, owners)
      second_by None low is ne = absurd (ne (kept pin low ∙ ap num is))
      second_by (Some m) low is ne =
          let w = has_line pin m pre is in
          let number_is : get_or owners pin 0 ≡ w.0.0 = kept pin low ∙ ap num is ∙ ap number_in w.1 in
          let test : nat_eq w.0.0 number ≡ bytes_eq n m = number_by (bytes_eq n m) w.0.0 number pin w.0.1 n m refl line_is w.1 in
          record {
            fault = rw (pin_is, is) (told_by _ _ (ap (λ k. not (nat_eq k number)) number_is ∙ ap not test));
            size = size;
            next = λ _ q lt. held_by (nat_eq q pin) q m lt refl is;
          }

      near_by : (b : Bool) → pin < TABLE_PINS → nat_eq (get_or owners pin 0) 0 ≡ b →
          (let w : Bool × List ℕ = cond b (false, set owners pin number) (not (nat_eq (get_or owners pin 0) number), owners) in Stepped line (Some n) pre
          (then_some w.0 pin, w.1))
      near_by true low t = first low (none_at (get_or owners pin 0) t)
        where
          none_at : (k : ℕ) → nat_eq k 0 ≡ true → k ≡ 0
          none_at k t = grind (arith, nat_tests, t)
      near_by false low t = second_by (owner p.pins pin pre) low refl (some_at (get_or owners pin 0) t)
        where
          some_at : (k : ℕ) → nat_eq k 0 ≡ false → k ≢ 0
          some_at k t s = grind (arith, nat_tests, t, s)

      own : bytes_eq n n ≡ true
      own = (bytes_eq-Decides n n).1 refl

      first_by : (o rest : Option (List ℕ)) → owner p.pins pin pre ≡ o →
          owner p.pins pin (all_leaves p.rungs) ≡ option_or (owner p.pins pin pre) (option_or (named pin (Some n)) rest) →
          are_two (Some n) (owner p.pins pin (all_leaves p.rungs)) ≡ are_two (Some n) (owner p.pins pin pre)
      first_by None rest is whole =
          let at : nat_eq pin pin ≡ true = grind (arith, nat_tests) in
          rw (whole, is, pin_is, at, own) refl
      first_by (Some m) rest is whole = rw (whole, is) refl

      past : (q : ℕ) → q < TABLE_PINS → nat_lt pin TABLE_PINS ≡ false → nat_eq q pin ≡ false
      past q lt t = grind (arith, nat_tests, lt, t)

      -- a pin that is past the table
      far : (rest : Option (List ℕ)) → nat_lt pin TABLE_PINS ≡ false →
          owner p.pins pin (all_leaves p.rungs) ≡ option_or (owner p.pins pin pre) (option_or (named pin (Some n)) rest) →
          Stepped line (Some n) pre (then_some (is_anothers p pin n) pin, owners)
      far rest t whole =
          record {
            fault = rw pin_is (told_by _ _ (first_by (owner p.pins pin pre) rest refl whole));
            size = size;
            next = λ _ q lt. kept q lt ∙ ap num (sym (other false q (past q lt t) refl));
          }

    module _ (rest : ℕ → Option (List ℕ)) where
      -- the elements behind have the rest of the pins
      abbrev IsWhole : Option (List ℕ) → Type 0
      IsWhole o = (q : ℕ) → owner p.pins q (all_leaves p.rungs) ≡ option_or (owner p.pins q pre) (option_or (named q o) (rest q))

      try_by : (a b : Bool) (n : List ℕ) (number pin : ℕ) → line_of p.pins n ≡ Some (number, pin) → nat_eq pin 0 ≡ a → nat_lt pin TABLE_PINS ≡ b →
          option_and_then number_pin (line_of p.pins n) ≡ pin_of p.pins n → IsWhole (Some n) →
          Stepped line (Some n) pre (cond a (None, owners) (cond b (then_some (claimed owners pin number).0 pin, (claimed owners pin number).1)
          (then_some (is_anothers p pin n) pin, owners)))
      try_by true b n number pin is ta tb e whole = still (Some n) (sym e ∙ rw (is, ta) refl)
      try_by false true n number pin is ta tb e whole =
          near_by n number pin is (sym e ∙ rw (is, ta) refl) (nat_eq (get_or owners pin 0) 0) (ltb-true pin TABLE_PINS tb) refl
      try_by false false n number pin is ta tb e whole = far n number pin is (sym e ∙ rw (is, ta) refl) (rest pin) tb (whole pin)

      line_step : (u : Option (ℕ × ℕ)) (n : List ℕ) → line_of p.pins n ≡ u → IsWhole (Some n) → Stepped line (Some n) pre (tried_line p owners n u)
      line_step None n is whole = still (Some n) (sym (line_pin 0 p.pins n) ∙ rw is refl)
      line_step (Some w) n is whole = try_by (nat_eq w.1 0) (nat_lt w.1 TABLE_PINS) n w.0 w.1 is refl refl (line_pin 0 p.pins n) whole

      step : (o : Option (List ℕ)) → IsWhole o → Stepped line o pre (tried p owners o)
      step None whole = still None refl
      step (Some n) whole = line_step (line_of p.pins n) n refl whole

module _ (b : Bor Project) where
  abbrev at : List ℕ → Owners
  at owners = record { project = b; owners = owners }

  abbrev Tells : List element.Leaf → List ℕ → Type 0
  Tells pre owners = (q : ℕ) → q < TABLE_PINS → get_or owners q 0 ≡ num b.now (owner b.now.pins q pre)

  abbrev Finds : List element.Leaf → List Placed → List ℕ → Type 0
  Finds pre xs owners = option_map fault_at (visits claims (at owners) (elements xs)).0 ≡ first_fault (twice b.now) (spots_behind pre xs)

  visit_by : (m : Option ℕ × List ℕ) (x : Placed) (xs : List Placed) (pre : List element.Leaf) → Stepped b.now x.leaf.line (pinned x.leaf.kind) pre m →
      ((t : List ℕ) → length t ≡ TABLE_PINS → Tells (pre ++ x.leaf ∷ []) t → Finds (pre ++ x.leaf ∷ []) xs t) →
      option_map fault_at (goes_on (option_map (clash x.leaf.line) m.0, at m.1) (λ v. visits claims v (elements xs))).0 ≡ first_fault (twice b.now)
      (spots_behind pre (x ∷ xs))
  visit_by (Some pin, t) x xs pre s rest = rw (sym s.fault) refl
  visit_by (None, t) x xs pre s rest =
      let next = λ (q : ℕ) (lt : q < TABLE_PINS). s.next refl q lt ∙ ap (num b.now)
      (sym (owner-append b.now q pre (x.leaf ∷ []) ∙ ap (λ u. option_or (owner b.now.pins q pre) u) (or_none (name_at b.now.pins q x.leaf.kind)))) in
      rw (sym s.fault) (rest t s.size next)

  visit_finds : (pre : List element.Leaf) (xs : List Placed) (owners : List ℕ) → length owners ≡ TABLE_PINS → Tells pre owners →
      all_leaves b.now.rungs ≡ pre ++ elements xs → Finds pre xs owners
  visit_finds pre [] owners size kept is = refl
  visit_finds pre (x ∷ xs) owners size kept is =
      let whole = λ (q : ℕ). ap (owner b.now.pins q) is ∙ owner-append b.now q pre (x.leaf ∷ elements xs) in
      let s = step b.now x.leaf.line pre owners size kept (λ q. owner b.now.pins q (elements xs)) (pinned x.leaf.kind) whole in
      visit_by (tried b.now owners (pinned x.leaf.kind)) x xs pre s (λ t f k. visit_finds (pre ++ x.leaf ∷ []) xs t f k
      (is ∙ sym (append_assoc pre (x.leaf ∷ []) (elements xs))))

  none_in : (n q : ℕ) → ◌≡◌ {A = ℕ} (get_or (replicate {A = ℕ} n 0) q 0) 0
  none_in zero q = refl
  none_in (suc n) zero = refl
  none_in (suc n) (suc q) = none_in n q

  -- from an empty table, through all elements
  pub clash_found : option_map fault_at (visits claims (at (replicate {A = ℕ} TABLE_PINS 0)) (all_leaves b.now.rungs)).0 ≡ first_fault (twice b.now)
      (spots b.now.rungs)
  clash_found =
      ap (λ ls. option_map fault_at (visits claims (at (replicate {A = ℕ} TABLE_PINS 0)) ls).0) (sym (all_kept b.now.rungs))
      ∙ visit_finds [] (all_placed b.now.rungs) (replicate {A = ℕ} TABLE_PINS 0) (length-replicate {A = ℕ} TABLE_PINS 0) (λ q lt. none_in TABLE_PINS q)
      (sym (all_kept b.now.rungs))

-- what the visitor that seeks a pin stops with
another_by : (v : PinSought) (o : Option (List ℕ)) (rest : Option Bool) (more : Option (List ℕ)) →
    rest ≡ option_map (λ name. not (bytes_eq v.name.now name)) more →
    option_or (option_map (λ name. not (bytes_eq v.name.now name)) o) rest ≡ option_map (λ name. not (bytes_eq v.name.now name)) (option_or o more)
another_by v None rest more h = h
another_by v (Some name) rest more h = refl

another_first : (v : PinSought) (ls : List element.Leaf) →
    first_given (is_another v) ls ≡ option_map (λ name. not (bytes_eq v.name.now name)) (owner v.pins.now v.pin ls)
another_first v [] = refl
another_first v (l ∷ ls) = another_by v (name_at v.pins.now v.pin l.kind) _ _ (another_first v ls)

abbrev pub or_false : Option Bool → Bool
or_false None = false
or_false (Some b) = b

two_by : (n : List ℕ) (o : Option (List ℕ)) → or_false (option_map (λ name. not (bytes_eq n name)) o) ≡ are_two (Some n) o
two_by n None = refl
two_by n (Some m) = refl

pub another_found : (v : PinSought) (ls : List element.Leaf) →
    or_false (visits (seeks is_another) v ls).0 ≡ are_two (Some v.name.now) (owner v.pins.now v.pin ls)
another_found v ls = ap or_false (given is_another v ls ∙ another_first v ls) ∙ two_by v.name.now (owner v.pins.now v.pin ls)
