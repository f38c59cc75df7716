-- The open forms from the outermost on, as they are kept, and from the innermost on, as they are seen.
use Rattle.std.proofs.Common.{◌≡◌, ℕ, ◌-◌, true, List, [], ◌∷◌, ◌++◌, length, reverse, get_or, set, sym, ap, subst, ◌∙◌, arith, length-append}
use Rattle.std.proofs.lemmas.List.{reverse-append, reverse-reverse}
use Rattle.std.proofs.Math.Seq.{get_or-append_seam, set-append_seam}
use Rattle.ladder_tree.specs.declared.project.Node.{Node}
use Rattle.ld_text.specs.declared.forms.Form.{Form}
use Rattle.ld_text.specs.Tree.{is_open, AreNested, with_node}

-- what is seen first is kept last
kept_last : (xs : List Form) (f : Form) (fs : List Form) → reverse xs ≡ f ∷ fs → xs ≡ reverse fs ++ f ∷ []
kept_last xs f fs h = sym (reverse-reverse xs) ∙ ap reverse h ∙ reverse-append (f ∷ []) fs

last_place : (xs : List Form) (f : Form) (fs : List Form) (k : ℕ) → xs ≡ reverse fs ++ f ∷ [] → k ≡ length xs - 1 → k ≡ length (reverse fs)
last_place xs f fs k h e = omega (arith, ap length h, length-append (reverse fs) (f ∷ []))

at_last : (xs : List Form) (f : Form) (fs : List Form) (k : ℕ) (d : Form) → xs ≡ reverse fs ++ f ∷ [] → k ≡ length (reverse fs) → get_or xs k d ≡ f
at_last xs f fs k d h e =
    ap (λ k. get_or xs k d) e ∙ ap (λ xs. get_or xs (length (reverse fs)) d) h ∙ get_or-append_seam (reverse fs) f [] d

set_last : (xs : List Form) (f g : Form) (fs : List Form) (k : ℕ) → xs ≡ reverse fs ++ f ∷ [] → k ≡ length (reverse fs) → reverse (set xs k g) ≡ g ∷ fs
set_last xs f g fs k h e =
    ap (λ k. reverse (set xs k g)) e
    ∙ ap (λ xs. reverse (set xs (length (reverse fs)) g)) h
    ∙ ap reverse (set-append_seam (reverse fs) f [] g)
    ∙ reverse-append (reverse fs) (g ∷ [])
    ∙ ap (λ fs. g ∷ fs) (reverse-reverse fs)

-- a node more in the last form
pub appended : (xs v : List Form) (k : ℕ) (g : Form) (n : Node) (ns : List Node) → reverse xs ≡ v → is_open v ≡ true → k ≡ length xs - 1 → g ≡ get_or xs k g
    → ns ≡ g.nodes ++ n ∷ [] → reverse (set xs k (record { kind = g.kind; nodes = ns })) ≡ with_node v n
appended xs [] k g n ns h o e i m = absurd cc
appended xs (f ∷ fs) k g n ns h o e i m =
    let p = kept_last xs f fs h in
    let q = last_place xs f fs k p e in
    let same = i ∙ at_last xs f fs k g p q in
    set_last xs f (record { kind = g.kind; nodes = ns }) fs k p q
    ∙ ap (λ x. record { kind = x.kind; nodes = ns } ∷ fs) same
    ∙ ap (λ ns. record { kind = f.kind; nodes = ns } ∷ fs) (m ∙ ap (λ x. x.nodes ++ n ∷ []) same)

nested_again : (f : Form) (fs : List Form) (ns : List Node) → AreNested (f ∷ fs) → AreNested (record { kind = f.kind; nodes = ns } ∷ fs)
nested_again f [] ns h = h
nested_again f (g ∷ fs) ns h = h

-- other nodes in the last form
pub still_nested : (xs v : List Form) (k : ℕ) (g : Form) (ns : List Node) → reverse xs ≡ v → is_open v ≡ true → k ≡ length xs - 1 → g ≡ get_or xs k g
    → AreNested (reverse xs) → AreNested (reverse (set xs k (record { kind = g.kind; nodes = ns })))
still_nested xs [] k g ns h o e i all = absurd cc
still_nested xs (f ∷ fs) k g ns h o e i all =
    let p = kept_last xs f fs h in
    let q = last_place xs f fs k p e in
    let same = i ∙ at_last xs f fs k g p q in
    subst AreNested
    (sym (set_last xs f (record { kind = g.kind; nodes = ns }) fs k p q ∙ ap (λ x. record { kind = x.kind; nodes = ns } ∷ fs) same))
    (nested_again f fs ns (subst AreNested h all))
