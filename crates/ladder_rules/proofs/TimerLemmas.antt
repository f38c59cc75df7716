-- Where the quick look at timers finds no name twice, there is none.
use Rattle.std.proofs.Common.{◌≡◌, ◌≢◌, ℕ, ◌+◌, ◌-◌, ◌*◌, ◌%◌, ◌<◌, ◌^◌, min, Bool, true, false, not, ◌&&◌, cond, List, [], ◌∷◌, ◌++◌, length, take, set, get_or, Bor, Option, Some, None, refl, sym, ap, ◌∙◌, arith, append_assoc, length-append}
use Rattle.std.specs.Prelude.{is_some}
use Rattle.std.specs.Bool.{then_some}
use Rattle.std.specs.Str.{bytes_eq}
use Rattle.std.proofs.Math.Seq.{take-append_seam}
use Rattle.std.proofs.lemmas.Grind.{get_or-set_at}
use Rattle.std.proofs.lemmas.List.{get_or-set_other, length-set}
use Rattle.std.proofs.lemmas.List.Folds.{find-append}
use Rattle.std.proofs.lemmas.Slice.Eq.{bytes_eq-Decides}
use Rattle.ladder_tree.specs.Leaves.{all_leaves}
use Rattle.ladder_tree.specs.declared.element.Leaf as element
use Rattle.ladder_tree.specs.declared.element.LeafKind.{LeafKind}
use Rattle.ladder_tree.specs.declared.element.LeafKind.TheVariants.{Timer}
use Rattle.ladder_tree.specs.Visit.{goes_on, visits}
use Rattle.ladder_tree.specs.declared.project.Project.{Project}
use Rattle.ladder_tree.specs.declared.project.Rung.{Rung}
use Rattle.ladder_rules.specs.Places.{Placed, all_placed, spots_behind}
use Rattle.ladder_rules.specs.Rules.{is_timer_of, first_timer, earlier_timer, fault_of}
use Rattle.ladder_rules.specs.Timers.{mark_from, mark_of, admitted, looks}
use Rattle.ladder_rules.specs.declared.limits.TheConstants.{MARKS, MARK_FACTOR}
use Rattle.ladder_rules.specs.declared.timers.TimersMet.{TimersMet}
use Rattle.ladder_rules.specs.Verdict.{first_fault, offence}
use Rattle.ladder_rules.specs.declared.rule.ElementRule.TheVariants.{TimerTwice}
use Rattle.ladder_rules.proofs.WalkLemmas.{elements, all_kept}

true_false : ◌≡◌ {A = Bool} true false → ⊥
true_false e = cc

pub none_so : (b : Bool) (o : Option (Unit {0})) → is_some o ≡ not b → b ≡ true → o ≡ None
none_so b None e t = refl
none_so b (Some tt) e t = absurd (true_false (e ∙ ap not t))

some_none : ◌≡◌ {A = Option (Unit {0})} (Some tt) None → ⊥
some_none e = cc

-- each timer so far has set the mark of its name
record Covers (marks : List Bool) (pre : List element.Leaf) : Type 0 where
  size : length marks ≡ MARKS
  unset : (name : List ℕ) → get_or marks (mark_of name) false ≡ false → first_timer name pre ≡ None

mark_small : (mark : ℕ) (bs : List ℕ) → mark < MARKS → mark_from mark bs < MARKS
mark_small mark [] lt = lt
mark_small mark (b ∷ bs) lt = mark_small ((mark * MARK_FACTOR + b) % MARKS) bs (omega arith)

same_name : (a b : List ℕ) → bytes_eq a b ≡ true → a ≡ b
same_name a b e = (bytes_eq-Decides a b).0 e

none_of : (o : Option element.Leaf) → is_some o ≡ false → o ≡ None
none_of None e = refl
none_of (Some l) e = let clash : ⊥ = cc in absurd clash

none_by : (b : Bool) (o : Option element.Leaf) → (b ≡ false → o ≡ None) → false ≡ (b && is_some o) → o ≡ None
none_by false o h e = h refl
none_by true o h e = none_of o (sym e)

module _ (l : element.Leaf) (pre : List element.Leaf) (name : List ℕ) (marks : List Bool) (same : (x : List ℕ) → is_timer_of x l.kind ≡ bytes_eq x name)
    (cover : Covers marks pre) where
  other_mark : (x : List ℕ) → get_or (set marks (mark_of name) true) (mark_of x) false ≡ false → mark_of x ≢ mark_of name
  other_mark x e = λ q.
      let inside : mark_of name < length marks = rw cover.size (mark_small 0 name (omega arith)) in
      let is_set : get_or (set marks (mark_of name) true) (mark_of x) false ≡ true = get_or-set_at marks (mark_of name) (mark_of x) true false q inside in
      let clash : ⊥ = cc in clash

  unset_by : (x : List ℕ) (b : Bool) → bytes_eq x name ≡ b → get_or (set marks (mark_of name) true) (mark_of x) false ≡ false →
      first_timer x (pre ++ l ∷ []) ≡ None
  unset_by x true t e = absurd (other_mark x e (ap mark_of (same_name x name t)))
  unset_by x false t e =
      let kept = sym (get_or-set_other marks (mark_of name) (mark_of x) true false (other_mark x e)) ∙ e in
      let before = cover.unset x kept in
      find-append (λ y. is_timer_of x y.kind) pre (l ∷ []) ∙ rw (before, same x, t) refl

  set_covers : Covers (set marks (mark_of name) true) (pre ++ l ∷ [])
  set_covers = record {
    size = length-set marks (mark_of name) true ∙ cover.size;
    unset = λ x e. unset_by x (bytes_eq x name) refl e;
  }

-- what an element that is admitted leaves
record Admits (l : element.Leaf) (pre : List element.Leaf) (marks : List Bool) : Type 0 where
  cover : Covers marks (pre ++ l ∷ [])
  new : earlier_timer l.kind pre ≡ None

timer_by : (l : element.Leaf) (pre : List element.Leaf) (name : List ℕ) (marks m : List Bool) (b : Bool) →
    ((x : List ℕ) → is_timer_of x l.kind ≡ bytes_eq x name) → earlier_timer l.kind pre ≡ first_timer name pre → Covers marks pre →
    b ≡ (get_or marks (mark_of name) false && is_some (first_timer name pre)) →
    ◌≡◌ {A = Bool × List Bool} (true, m) (cond b (false, marks) (true, set marks (mark_of name) true)) → Admits l pre m
timer_by l pre name marks m true same own cover t e = absurd (true_false (ap (λ w. w.0) e))
timer_by l pre name marks m false same own cover t e =
    let is : m ≡ set marks (mark_of name) true = ap (λ w. w.1) e in
    rw is (record {
      cover = set_covers l pre name marks same cover;
      new = own ∙ none_by (get_or marks (mark_of name) false) (first_timer name pre) (cover.unset name) t;
    })

kept_by : (l : element.Leaf) (pre : List element.Leaf) (marks m : List Bool) → ((x : List ℕ) → is_timer_of x l.kind ≡ false) →
    earlier_timer l.kind pre ≡ None → Covers marks pre → ◌≡◌ {A = Bool × List Bool} (true, m) (true, marks) → Admits l pre m
kept_by l pre marks m no_timer own cover e =
    let is : m ≡ marks = ap (λ w. w.1) e in
    rw is (record {
      cover = record {
        size = cover.size;
        unset = λ x t. find-append (λ y. is_timer_of x y.kind) pre (l ∷ []) ∙ rw (cover.unset x t, no_timer x) refl;
      };
      new = own;
    })

admit_kind : (line : ℕ) (kind : LeafKind) (all pre : List element.Leaf) (k : ℕ) (marks m : List Bool) → take k all ≡ pre → Covers marks pre →
    (true, m) ≡ admitted all k marks kind → Admits (record { line = line; kind = kind }) pre m
admit_kind line (Timer how name delay) all pre k marks m before cover e =
    timer_by (record { line = line; kind = Timer how name delay }) pre name marks m _ (λ x. refl) refl cover refl (rw before at e)
admit_kind line _ all pre k marks m before cover e =
    kept_by _ pre marks m (λ x. refl) refl cover e

module _ (p : Project) (b : Bor (List Rung)) where
  abbrev met : ℕ → List Bool → TimersMet
  met k marks = record { rungs = b; passed = k; marks = marks }

  look_by : (a : Bool × List Bool) (x : Placed) (xs : List Placed) (pre : List element.Leaf) (k : ℕ) (marks : List Bool) → take k (all_leaves b.now) ≡ pre →
      Covers marks pre → a ≡ admitted (all_leaves b.now) k marks x.leaf.kind → min (k + 1) (2 ^ 32 - 1) ≡ k + 1 →
      ((m : List Bool) → Covers m (pre ++ x.leaf ∷ []) → (visits looks (met (k + 1) m) (elements xs)).0 ≡ None → first_fault (fault_of TimerTwice p)
      (spots_behind (pre ++ x.leaf ∷ []) xs) ≡ None) → (goes_on (then_some (not a.0) tt, met (min (k + 1) (2 ^ 32 - 1)) a.1)
      (λ v. visits looks v (elements xs))).0 ≡ None → first_fault (fault_of TimerTwice p) (spots_behind pre (x ∷ xs)) ≡ None
  look_by (false, m) x xs pre k marks before cover is more f e = absurd (some_none e)
  look_by (true, m) x xs pre k marks before cover is more f e =
      let a = admit_kind x.leaf.line x.leaf.kind (all_leaves b.now) pre k marks m before cover is in
      rw (a.new, f m a.cover (rw more at e)) refl

  look_sound : (pre : List element.Leaf) (xs : List Placed) (k : ℕ) (marks : List Bool) → k ≡ length pre → k + length (elements xs) < 2 ^ 32 →
      all_leaves b.now ≡ pre ++ elements xs → Covers marks pre → (visits looks (met k marks) (elements xs)).0 ≡ None →
      first_fault (fault_of TimerTwice p) (spots_behind pre xs) ≡ None
  look_sound pre [] k marks at few is cover e = refl
  look_sound pre (x ∷ xs) k marks at few is cover e =
      let before : take k (all_leaves b.now) ≡ pre = rw (at, is) (take-append_seam pre (elements (x ∷ xs))) in
      look_by (admitted (all_leaves b.now) k marks x.leaf.kind) x xs pre k marks before cover refl (omega arith)
      (λ m c f. look_sound (pre ++ x.leaf ∷ []) xs (k + 1) m (omega (arith, at, length-append pre (x.leaf ∷ []))) (omega arith)
      (is ∙ sym (append_assoc pre (x.leaf ∷ []) (elements xs))) c f) e

  all_apart : (marks : List Bool) → b.now ≡ p.rungs → length (all_leaves p.rungs) < 2 ^ 32 → length marks ≡ MARKS →
      (visits looks (met 0 marks) (all_leaves p.rungs)).0 ≡ None → offence p TimerTwice ≡ None
  all_apart marks same few size e =
      look_sound [] (all_placed p.rungs) 0 marks refl (rw (all_kept p.rungs) (omega (arith, few))) (rw same (sym (all_kept p.rungs)))
      (record { size = size; unset = λ x t. refl }) (ap (λ ls. (visits looks (met 0 marks) ls).0) (all_kept p.rungs) ∙ e)

-- where the look at all elements stops at none, no two timers have one name
pub timers_apart : (p : Project) (v : TimersMet) → v.rungs.now ≡ p.rungs → v.passed ≡ 0 → length v.marks ≡ MARKS → length (all_leaves p.rungs) < 2 ^ 32 →
    (visits looks v (all_leaves p.rungs)).0 ≡ None → offence p TimerTwice ≡ None
timers_apart p v same start size few e = all_apart p v.rungs v.marks same few size (rw start at e)
