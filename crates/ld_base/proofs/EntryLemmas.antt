-- A list of entries after a change.
use Rattle.std.proofs.Common.{◌≡◌, ℕ, zero, suc, ◌+◌, ◌≤◌, Bool, true, false, cond, List, [], ◌∷◌, ◌++◌, get_or, Option, Some, None, MatchOption, refl, sym, ap, ◌∙◌, subst, arith}
use Rattle.std.proofs.Math.ListN.{set}
use Rattle.std.proofs.lemmas.Slice.Eq.{bytes_eq-Decides}
use Rattle.std.specs.Option.{option_map}
use Rattle.std.specs.Str.{bytes_eq}
use Rattle.ld_base.specs.declared.entries.Entry.{Entry}
use Rattle.ld_base.specs.Bytes.{HoldsThen, Grows, SameHeld}
use Rattle.ld_base.specs.Entries.{held_in, place_from, Found}

same_text : (a b : List ℕ) → bytes_eq a b ≡ true → a ≡ b
same_text a b e = (bytes_eq-Decides a b).0 e

-- two tests that never both hold may change places
apart : (a b : Bool) (x y z : Option (List ℕ)) → (a ≡ true → b ≡ true → ⊥) → cond a x (cond b y z) ≡ cond b y (cond a x z)
apart true true x y z no_both = absurd (no_both refl refl)
apart true false x y z no_both = refl
apart false b x y z no_both = refl

place_at_least : (es : List Entry) (name : List ℕ) (j x : ℕ) → place_from j es name ≡ Some x → j ≤ x
place_at_least [] name j x h = absurd cc
place_at_least (f ∷ es) name j x h = by (place_at_least es name (j + 1) x) (bytes_eq f.name.items name) h
  where
    by : (place_from (j + 1) es name ≡ Some x → j + 1 ≤ x) → (b : Bool) → cond b (Some j) (place_from (j + 1) es name) ≡ Some x → j ≤ x
    by rec true e = let same : j ≡ x = cc in omega arith
    by rec false e = let le = rec e in omega (arith, le)

first : (f : Entry) (es : List Entry) (name : List ℕ) → bytes_eq f.name.items name ≡ true → Found (f ∷ es) name 0
first f es name e = record {
  within = omega arith;
  held = λ d. ap (λ b. cond b (Some f.bytes.items) (held_in es name)) e;
  replaced = λ d g n same.
      ap (λ (v : _). cond (bytes_eq v n) (Some g.bytes.items) (held_in es n)) (ap (λ v. v.items) same ∙ same_text f.name.items name e)
      ∙ twice (bytes_eq name n) g n (ap (λ v. bytes_eq v n) (same_text f.name.items name e));
}
  where
    twice : (b : Bool) (g : Entry) (n : List ℕ) → bytes_eq f.name.items n ≡ b →
        cond b (Some g.bytes.items) (held_in es n) ≡ cond b (Some g.bytes.items) (cond (bytes_eq f.name.items n) (Some f.bytes.items) (held_in es n))
    twice true g n t = refl
    twice false g n t = ap (λ b. cond b (Some f.bytes.items) (held_in es n)) (sym t)

later : (f : Entry) (es : List Entry) (name : List ℕ) (k : ℕ) → bytes_eq f.name.items name ≡ false → Found es name k → Found (f ∷ es) name (suc k)
later f es name k e h = record {
  within = let lt = h.within in omega (arith, lt);
  held = λ d. ap (λ b. cond b (Some f.bytes.items) (held_in es name)) e ∙ h.held d;
  replaced = λ d g n same. ap (cond (bytes_eq f.name.items n) (Some f.bytes.items)) (h.replaced d g n same) ∙ apart (bytes_eq f.name.items n) (bytes_eq name n)
      (Some f.bytes.items) (Some g.bytes.items) (held_in es n) (λ p q. clash (ap (bytes_eq f.name.items) (same_text name n q) ∙ p));
}
  where
    clash : bytes_eq f.name.items name ≡ true → ⊥
    clash t = cc

pub found : (es : List Entry) (name : List ℕ) (j k : ℕ) → place_from j es name ≡ Some (j + k) → Found es name k
found [] name j k h = absurd cc
found (f ∷ es) name j k h = by (λ i. found es name (j + 1) i) (bytes_eq f.name.items name) k refl h
  where
    by : ((i : ℕ) → place_from (j + 1) es name ≡ Some (j + 1 + i) → Found es name i) → (b : Bool) (k : ℕ) → bytes_eq f.name.items name ≡ b →
        cond b (Some j) (place_from (j + 1) es name) ≡ Some (j + k) → Found (f ∷ es) name k
    by rec true k e h = let same : j ≡ j + k = cc in let none : k ≡ 0 = omega arith in subst (Found (f ∷ es) name) (sym none) (first f es name e)
    by rec false zero e h = let le = place_at_least es name (j + 1) (j + 0) h in absurd (omega (arith, le))
    by rec false (suc k) e h = let at : j + suc k ≡ j + 1 + k = omega arith in later f es name k e (rec k (h ∙ ap Some at))

pub missing : (es : List Entry) (name : List ℕ) (j : ℕ) → place_from j es name ≡ None → held_in es name ≡ None
missing [] name j h = refl
missing (f ∷ es) name j h = by (missing es name (j + 1)) (bytes_eq f.name.items name) h
  where
    by : (place_from (j + 1) es name ≡ None → held_in es name ≡ None) → (b : Bool) → cond b (Some j) (place_from (j + 1) es name) ≡ None →
        cond b (Some f.bytes.items) (held_in es name) ≡ None
    by rec true h = cc
    by rec false h = rec h

-- an entry behind the others
pub pushed : (es : List Entry) (e : Entry) (n : List ℕ) → held_in es e.name.items ≡ None →
    held_in (es ++ e ∷ []) n ≡ cond (bytes_eq e.name.items n) (Some e.bytes.items) (held_in es n)
pushed [] e n h = refl
pushed (f ∷ es) e n h = by (pushed es e n) (bytes_eq f.name.items e.name.items) h refl
  where
    by : (held_in es e.name.items ≡ None → held_in (es ++ e ∷ []) n ≡ cond (bytes_eq e.name.items n) (Some e.bytes.items) (held_in es n)) → (b : Bool) →
        cond b (Some f.bytes.items) (held_in es e.name.items) ≡ None → bytes_eq f.name.items e.name.items ≡ b → cond (bytes_eq f.name.items n)
        (Some f.bytes.items) (held_in (es ++ e ∷ []) n) ≡ cond (bytes_eq e.name.items n) (Some e.bytes.items)
        (cond (bytes_eq f.name.items n) (Some f.bytes.items) (held_in es n))
    by rec true h t = cc
    by rec false h t = ap (cond (bytes_eq f.name.items n) (Some f.bytes.items)) (rec h) ∙ apart (bytes_eq f.name.items n) (bytes_eq e.name.items n)
        (Some f.bytes.items) (Some e.bytes.items) (held_in es n) (λ p q. clash t (ap (bytes_eq f.name.items) (same_text e.name.items n q) ∙ p))
      where
        clash : bytes_eq f.name.items e.name.items ≡ false → bytes_eq f.name.items e.name.items ≡ true → ⊥
        clash t u = cc

-- the found place with other bytes
pub grown : (es : List Entry) (name : List ℕ) (k : ℕ) (more : List ℕ) (d e : Entry) → Found es name k → e.name ≡ (get_or es k d).name →
    e.bytes.items ≡ (get_or es k d).bytes.items ++ more → Grows (held_in es) (held_in (set es k e)) name more
grown es name k more d e f same bytes n = f.replaced d e n same ∙ by (bytes_eq name n) refl
  where
    by : (b : Bool) → bytes_eq name n ≡ b → cond b (Some e.bytes.items) (held_in es n) ≡ cond b (option_map (λ x. x ++ more) (held_in es n)) (held_in es n)
    by true t = ap Some bytes ∙ ap (option_map (λ x. x ++ more)) (sym (f.held d) ∙ ap (held_in es) (same_text name n t))
    by false t = refl

pub unchanged : (es : List Entry) (name : List ℕ) (k : ℕ) (d e : Entry) → Found es name k → e.name ≡ (get_or es k d).name →
    e.bytes.items ≡ (get_or es k d).bytes.items → SameHeld (held_in es) (held_in (set es k e))
unchanged es name k d e f same bytes n = f.replaced d e n same ∙ by (bytes_eq name n) refl
  where
    by : (b : Bool) → bytes_eq name n ≡ b → cond b (Some e.bytes.items) (held_in es n) ≡ held_in es n
    by true t = ap Some bytes ∙ sym (f.held d) ∙ ap (held_in es) (same_text name n t)
    by false t = refl

pub grown_missing : (es : List Entry) (name more : List ℕ) → held_in es name ≡ None → Grows (held_in es) (held_in es) name more
grown_missing es name more h n = by (bytes_eq name n) refl
  where
    by : (b : Bool) → bytes_eq name n ≡ b → held_in es n ≡ cond b (option_map (λ x. x ++ more) (held_in es n)) (held_in es n)
    by true t = none ∙ ap (option_map (λ x. x ++ more)) (sym none)
      where
        none : held_in es n ≡ None
        none = ap (held_in es) (sym (same_text name n t)) ∙ h
    by false t = refl

pub located : (es : List Entry) (name : List ℕ) (o : Option ℕ) → o ≡ place_from 0 es name → MatchOption o (held_in es name ≡ None) (Found es name)
located es name None h = missing es name 0 (sym h)
located es name (Some k) h = let at : k ≡ 0 + k = omega arith in found es name 0 k (sym h ∙ ap Some at)

pub pushed_as : (es : List Entry) (e : Entry) (name : List ℕ) → e.name.items ≡ name → held_in es name ≡ None →
    HoldsThen (held_in es) (held_in (es ++ e ∷ [])) name e.bytes.items
pushed_as es e name same none n = pushed es e n (ap (held_in es) same ∙ none) ∙ ap (λ v. cond (bytes_eq v n) (Some e.bytes.items) (held_in es n)) same
