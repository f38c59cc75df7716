-- The first element whose pin has another name first is the first that shares its pin with an earlier element of another name.
use Rattle.std.proofs.Common.{◌≡◌, ◌≢◌, ℕ, Bool, true, false, not, nat_eq, cond, List, [], ◌∷◌, ◌++◌, length, Option, Some, None, inl, inr, ◌⊎◌, refl, sym, ap, ◌∙◌, arith, append_assoc, append-nil, length-append}
use Rattle.std.specs.Prelude.{◌↔◌}
use Rattle.std.specs.Bool.{then_some}
use Rattle.std.specs.Option.{option_and_then, option_or}
use Rattle.std.specs.Str.{bytes_eq}
use Rattle.std.proofs.lemmas.Bool.Decides.{nat_tests}
use Rattle.std.proofs.lemmas.Slice.Eq.{bytes_eq-Decides}
use Rattle.ladder_tree.specs.Leaves.{all_leaves}
use Rattle.ladder_tree.specs.declared.element.Leaf as element
use Rattle.ladder_tree.specs.declared.fault.ProjectFault.{ProjectFault}
use Rattle.ladder_tree.specs.declared.fault.ProjectFault.TheVariants as fault
use Rattle.ladder_tree.specs.declared.project.Project.{Project}
use Rattle.ladder_rules.specs.Pins.{is_chip, pinned, pin_of, pin_at, is_pin, name_at, owner, are_two, twice}
use Rattle.ladder_rules.specs.Places.{Placed, all_placed, spots, spots_behind}
use Rattle.ladder_rules.specs.Twice.{Has, Clashes, AreClear, IsFirstClash, IsFirstFault}
use Rattle.ladder_rules.specs.Verdict.{first_fault, pin_twice}
use Rattle.ladder_rules.proofs.OwnerLemmas.{owner-append}
use Rattle.ladder_rules.proofs.WalkLemmas.{elements, all_kept}

abbrev pub Leaves : Type 0
Leaves = List element.Leaf

-- one place in a list, before another or the same
head_same : (x y : element.Leaf) (b d : Leaves) → x ∷ b ≡ y ∷ d → x ≡ y
head_same x y b d e = cc

tail_same : (x y : element.Leaf) (b d : Leaves) → x ∷ b ≡ y ∷ d → b ≡ d
tail_same x y b d e = cc

-- whether one place is the other, before it or behind it
abbrev pub Order : Leaves → element.Leaf → Leaves → element.Leaf → Type 0
Order a x c y = ((a ≡ c) × (x ≡ y)) ⊎ (((e : Leaves) × (c ≡ a ++ x ∷ e)) ⊎ ((e : Leaves) × (a ≡ c ++ y ∷ e)))

longer : (z w : element.Leaf) (a c : Leaves) (x y : element.Leaf) → z ≡ w → Order a x c y → Order (z ∷ a) x (w ∷ c) y
longer z w a c x y e (inl h) = inl (rw (e, h.0) refl, h.1)
longer z w a c x y e (inr (inl h)) = inr (inl (h.0, rw (e, h.1) refl))
longer z w a c x y e (inr (inr h)) = inr (inr (h.0, rw (e, h.1) refl))

pub order : (a : Leaves) (x : element.Leaf) (b c : Leaves) (y : element.Leaf) (d : Leaves) → a ++ x ∷ b ≡ c ++ y ∷ d → Order a x c y
order [] x b [] y d e = inl (refl, head_same x y b d e)
order [] x b (w ∷ c) y d e = inr (inl (c, ap (λ z. z ∷ c) (sym (head_same x w b (c ++ y ∷ d) e))))
order (z ∷ a) x b [] y d e = inr (inr (a, ap (λ w. w ∷ a) (head_same z y (a ++ x ∷ b) d e)))
order (z ∷ a) x b (w ∷ c) y d e = longer z w a c x y (head_same z w _ _ e) (order a x b c y d (tail_same z w (a ++ x ∷ b) (c ++ y ∷ d) e))

pub none_some : {A : Type 0} (x : A) → ◌≡◌ {A = Option A} None (Some x) → ⊥
none_some x e = cc

pub some_same : {A : Type 0} (x y : A) → ◌≡◌ {A = Option A} (Some x) (Some y) → x ≡ y
some_same x y e = cc

differ : (n m : List ℕ) → bytes_eq n m ≡ false → n ≢ m
differ n m t e = let yes : bytes_eq n m ≡ true = (bytes_eq-Decides n m).1 e in let clash : ⊥ = cc in clash

alike : (n m : List ℕ) (b : Bool) → bytes_eq n m ≡ b → not b ≡ false → n ≡ m
alike n m true t e = (bytes_eq-Decides n m).0 t
alike n m false t e = let clash : ⊥ = cc in absurd clash

module _ (p : Project) where
  pin_is : (l : element.Leaf) (n : List ℕ) (q : ℕ) → Has p l n q → pin_at p.pins l.kind ≡ Some q
  pin_is l n q h = ap (option_and_then (pin_of p.pins)) h.0 ∙ h.1

  has_test : (b : Bool) (q r : ℕ) (k n : List ℕ) → nat_eq q r ≡ b → pin_of p.pins k ≡ Some r → cond b (Some k) None ≡ Some n →
      (k ≡ n) × (pin_of p.pins n ≡ Some q)
  has_test true q r k n t u e =
      let same = some_same k n e in
      let at : q ≡ r = grind (arith, nat_tests, t) in
      (same, rw (sym same, at) u)
  has_test false q r k n t u e = absurd (none_some n e)

  has_pin : (u : Option ℕ) (q : ℕ) (k n : List ℕ) → pin_of p.pins k ≡ u → cond (is_pin q u) (Some k) None ≡ Some n → (k ≡ n) × (pin_of p.pins n ≡ Some q)
  has_pin None q k n t e = absurd (none_some n e)
  has_pin (Some r) q k n t e = has_test (nat_eq q r) q r k n refl t e

  has_name : (o : Option (List ℕ)) (q : ℕ) (l : element.Leaf) (n : List ℕ) → pinned l.kind ≡ o →
      cond (is_pin q (option_and_then (pin_of p.pins) o)) o None ≡ Some n → Has p l n q
  has_name None q l n t e = absurd (none_some n e)
  has_name (Some k) q l n t e =
      let h = has_pin (pin_of p.pins k) q k n refl e in
      (rw (sym h.0) t, h.1)

  at_has : (l : element.Leaf) (n : List ℕ) (q : ℕ) → Has p l n q → name_at p.pins q l.kind ≡ Some n
  at_has l n q h =
      let own : nat_eq q q ≡ true = grind (arith, nat_tests) in
      rw (h.0, h.1, own) refl

  -- an element that has the pin for the name, and where it stands
  abbrev Owned : ℕ → List ℕ → Leaves → Type 0
  Owned q m ls = (a : Leaves) × (l : element.Leaf) × (b : Leaves) × (ls ≡ a ++ l ∷ b) × Has p l m q

  owned_by : (o : Option (List ℕ)) (q : ℕ) (m : List ℕ) (l : element.Leaf) (ls : Leaves) → name_at p.pins q l.kind ≡ o →
      (owner p.pins q ls ≡ Some m → Owned q m ls) → option_or o (owner p.pins q ls) ≡ Some m → Owned q m (l ∷ ls)
  owned_by None q m l ls t f e = let w = f e in (l ∷ w.0, w.1, w.2, ap (λ k. l ∷ k) w.3, w.4)
  owned_by (Some n) q m l ls t f e = ([], l, ls, refl, has_name (pinned l.kind) q l m refl (t ∙ e))

  owned : (q : ℕ) (m : List ℕ) (ls : Leaves) → owner p.pins q ls ≡ Some m → Owned q m ls
  owned q m [] e = absurd (none_some m e)
  owned q m (l ∷ ls) e = owned_by (name_at p.pins q l.kind) q m l ls refl (owned q m ls) e

  abbrev told : element.Leaf → Leaves → Option (List ℕ) → Option ProjectFault
  told l pre o = option_and_then (λ pin. then_some (are_two o (owner p.pins pin pre)) (fault.PinTwice l.line pin)) (option_and_then (pin_of p.pins) o)

  abbrev Told : ProjectFault → element.Leaf → Leaves → Type 0
  Told f l pre = (pin : ℕ) × (f ≡ fault.PinTwice l.line pin) × Clashes p pre l pin

  told_test : (b : Bool) (f : ProjectFault) (l : element.Leaf) (pre : Leaves) (n m : List ℕ) (q : ℕ) → bytes_eq n m ≡ b → Has p l n q →
      owner p.pins q pre ≡ Some m → then_some (not b) (fault.PinTwice l.line q) ≡ Some f → Told f l pre
  told_test true f l pre n m q t h o e = absurd (none_some f e)
  told_test false f l pre n m q t h o e =
      let w = owned q m pre o in
      (q, sym (some_same (fault.PinTwice l.line q) f e), (w.0, w.1, w.2, w.3, (n, m, h, w.4, differ n m t)))

  told_owner : (o : Option (List ℕ)) (f : ProjectFault) (l : element.Leaf) (pre : Leaves) (n : List ℕ) (q : ℕ) → owner p.pins q pre ≡ o → Has p l n q →
      then_some (are_two (Some n) o) (fault.PinTwice l.line q) ≡ Some f → Told f l pre
  told_owner None f l pre n q t h e = absurd (none_some f e)
  told_owner (Some m) f l pre n q t h e = told_test (bytes_eq n m) f l pre n m q refl h t e

  told_pin : (u : Option ℕ) (f : ProjectFault) (l : element.Leaf) (pre : Leaves) (n : List ℕ) → pinned l.kind ≡ Some n → pin_of p.pins n ≡ u →
      option_and_then (λ pin. then_some (are_two (Some n) (owner p.pins pin pre)) (fault.PinTwice l.line pin)) u ≡ Some f → Told f l pre
  told_pin None f l pre n h t e = absurd (none_some f e)
  told_pin (Some q) f l pre n h t e = told_owner (owner p.pins q pre) f l pre n q refl (h, t) e

  -- an element of which a fault is told clashes with those before it
  told_clash : (o : Option (List ℕ)) (f : ProjectFault) (l : element.Leaf) (pre : Leaves) → pinned l.kind ≡ o → told l pre o ≡ Some f → Told f l pre
  told_clash None f l pre t e = absurd (none_some f e)
  told_clash (Some n) f l pre t e = told_pin (pin_of p.pins n) f l pre n t refl e

  not_two : (b : Bool) (f : ProjectFault) → then_some b f ≡ None → b ≡ false
  not_two false f e = refl
  not_two true f e = absurd (none_some f (sym e))

  owner_split : (q : ℕ) (a : Leaves) (m : element.Leaf) (b : Leaves) (other : List ℕ) → Has p m other q →
      owner p.pins q (a ++ m ∷ b) ≡ option_or (owner p.pins q a) (Some other)
  owner_split q a m b other h = owner-append p q a (m ∷ b) ∙ ap (λ o. option_or (owner p.pins q a) (option_or o (owner p.pins q b))) (at_has m other q h)

  -- the first owner of the pin before m has m's name, or clashes with it
  clash_by : (o : Option (List ℕ)) (q : ℕ) (a : Leaves) (m : element.Leaf) (name other : List ℕ) → owner p.pins q a ≡ o → Has p m other q → name ≢ other →
      are_two (Some name) (option_or o (Some other)) ≡ false → Clashes p a m q
  clash_by None q a m name other t h ne e = absurd (ne (alike name other (bytes_eq name other) refl e))
  clash_by (Some w) q a m name other t h ne e =
      let same = alike name w (bytes_eq name w) refl e in
      let o = owned q w a t in
      (o.0, o.1, o.2, o.3, (other, w, h, o.4, λ s. ne (same ∙ sym s)))

  untold_pin : (l : element.Leaf) (pre : Leaves) (n : List ℕ) (q : ℕ) → Has p l n q → told l pre (pinned l.kind) ≡ None →
      are_two (Some n) (owner p.pins q pre) ≡ false
  untold_pin l pre n q h e = not_two _ (fault.PinTwice l.line q) (rw (h.0, h.1) at e)

  -- an element of which no fault is told clashes with none before it
  untold_clear : (l : element.Leaf) (pre : Leaves) (q : ℕ) → AreClear p pre → told l pre (pinned l.kind) ≡ None → Clashes p pre l q → ⊥
  untold_clear l pre q clear e c =
      let a = c.0 in let m = c.1 in let b = c.2 in let split = c.3 in
      let name = c.4.0 in let other = c.4.1 in let mine = c.4.2 in let its = c.4.3 in let ne = c.4.4 in
      let two = untold_pin l pre name q mine e in
      let first = ap (owner p.pins q) split ∙ owner_split q a m b other its in
      clear a m b q split (clash_by (owner p.pins q a) q a m name other refl its ne (rw first at two))

  past_end : (pre e : Leaves) (l k : element.Leaf) (before behind : Leaves) → pre ++ l ∷ [] ≡ before ++ k ∷ behind → before ≡ pre ++ l ∷ e → ⊥
  past_end pre e l k before behind whole is =
      let a = ap length whole in
      let b = ap length is in
      let c = length-append pre (l ∷ []) in
      let d = length-append before (k ∷ behind) in
      let f = length-append pre (l ∷ e) in
      omega arith

  -- one more element that clashes with none
  clear_more : (l : element.Leaf) (pre : Leaves) → AreClear p pre → told l pre (pinned l.kind) ≡ None → AreClear p (pre ++ l ∷ [])
  clear_more l pre clear e before k behind q whole c = at (order pre l [] before k behind whole)
    where
      at : Order pre l before k → ⊥
      at (inl h) = untold_clear l pre q clear e (rw (h.0, h.1) c)
      at (inr (inl h)) = past_end pre h.0 l k before behind whole h.1
      at (inr (inr h)) = clear before k h.0 q h.1 c

  abbrev Judged : Option ProjectFault → Type 0
  Judged o = ((o ≡ None) × AreClear p (all_leaves p.rungs)) ⊎ ((line : ℕ) × (pin : ℕ) × (o ≡ Some (fault.PinTwice line pin)) × IsFirstClash p line pin)

  judge_by : (o : Option ProjectFault) (x : Placed) (xs : List Placed) (pre : Leaves) → told x.leaf pre (pinned x.leaf.kind) ≡ o → AreClear p pre →
      all_leaves p.rungs ≡ pre ++ elements (x ∷ xs) →
      (AreClear p (pre ++ x.leaf ∷ []) → Judged (first_fault (twice p) (spots_behind (pre ++ x.leaf ∷ []) xs))) →
      Judged (option_or o (first_fault (twice p) (spots_behind (pre ++ x.leaf ∷ []) xs)))
  judge_by None x xs pre t clear is f = f (clear_more x.leaf pre clear t)
  judge_by (Some g) x xs pre t clear is f =
      let c = told_clash (pinned x.leaf.kind) g x.leaf pre refl t in
      inr (x.leaf.line, c.0, ap Some c.1, record { before = pre; leaf = x.leaf; behind = elements xs; order = is; stands = refl; clashes = c.2; first = clear })

  judge : (pre : Leaves) (xs : List Placed) → AreClear p pre → all_leaves p.rungs ≡ pre ++ elements xs → Judged (first_fault (twice p) (spots_behind pre xs))
  judge pre [] clear is = inl (refl, λ before l behind q e c. clear before l behind q (sym (is ∙ append-nil pre) ∙ e) c)
  judge pre (x ∷ xs) clear is =
      judge_by (told x.leaf pre (pinned x.leaf.kind)) x xs pre refl clear is
      (λ more. judge (pre ++ x.leaf ∷ []) xs more (is ∙ sym (append_assoc pre (x.leaf ∷ []) (elements xs))))

  none_clear : AreClear p []
  none_clear [] l behind q e c = let clash : ⊥ = cc in clash
  none_clear (k ∷ before) l behind q e c = let clash : ⊥ = cc in clash

  judged : Judged (first_fault (twice p) (spots p.rungs))
  judged = judge [] (all_placed p.rungs) none_clear (sym (all_kept p.rungs))

  same_pin : (l : element.Leaf) (n m : List ℕ) (q r : ℕ) → Has p l n q → Has p l m r → q ≡ r
  same_pin l n m q r h g = some_same q r (sym (pin_is l n q h) ∙ pin_is l m r g)

  one_first : (i q j r : ℕ) → IsFirstClash p i q → IsFirstClash p j r → (i ≡ j) × (q ≡ r)
  one_first i q j r u v = at (order u.before u.leaf u.behind v.before v.leaf v.behind (sym u.order ∙ v.order))
    where
      at : Order u.before u.leaf v.before v.leaf → (i ≡ j) × (q ≡ r)
      at (inl h) =
          let c = u.clashes.4 in let d = v.clashes.4 in
          (sym u.stands ∙ ap (λ l. l.line) h.1 ∙ v.stands, same_pin v.leaf c.0 d.0 q r (rw h.1 at c.2) d.2)
      at (inr (inl h)) = absurd (v.first u.before u.leaf h.0 q h.1 u.clashes)
      at (inr (inr h)) = absurd (u.first v.before v.leaf h.0 r h.1 v.clashes)

  not_clear : (i q : ℕ) → IsFirstClash p i q → AreClear p (all_leaves p.rungs) → ⊥
  not_clear i q u clear = clear u.before u.leaf u.behind q u.order u.clashes

  told_by : (o : Option ProjectFault) (f : ProjectFault) → Judged o → (o ≡ Some f) ↔ IsFirstFault p f
  told_by o f (inl h) = (λ e. absurd (none_some f (sym h.0 ∙ e)), λ w. absurd (not_clear w.0 w.1 w.3 h.1))
  told_by o f (inr h) = (
    λ e. (h.0, h.1, some_same f (fault.PinTwice h.0 h.1) (sym e ∙ h.2), h.3),
    λ w. let same = one_first h.0 h.1 w.0 w.1 h.3 w.3 in h.2 ∙ rw (same.0, same.1) (ap Some (sym w.2)),
  )

  untold_by : (o : Option ProjectFault) → Judged o → (o ≡ None) ↔ AreClear p (all_leaves p.rungs)
  untold_by o (inl h) = (λ e. h.1, λ clear. h.0)
  untold_by o (inr h) = (λ e. absurd (none_some (fault.PinTwice h.0 h.1) (sym e ∙ h.2)), λ clear. absurd (not_clear h.0 h.1 h.3 clear))

pub told_first : (p : Project) (f : ProjectFault) → is_chip p.target ≡ true → (pin_twice p ≡ Some f) ↔ IsFirstFault p f
told_first p f chip = rw chip (told_by p (first_fault (twice p) (spots p.rungs)) f (judged p))

pub untold_none : (p : Project) → is_chip p.target ≡ true → (pin_twice p ≡ None) ↔ AreClear p (all_leaves p.rungs)
untold_none p chip = rw chip (untold_by p (first_fault (twice p) (spots p.rungs)) (judged p))
