-- Shapes of primitives, and places of labels.
use Rattle.std.proofs.Common.{◌≡◌, ◌≢◌, ℕ, suc, ◌<◌, ◌⊎◌, inl, inr, List, [], ◌∷◌, ◌++◌, Some, true, false, cond, refl, sym, ap, subst, ◌∙◌, arith}
use Rattle.std.specs.Prelude.{slice_get}
use Rattle.runs.specs.declared.ask.Ask.TheVariants as ask
use Rattle.byte_code.specs.declared.prim.Paced.{Paced}
use Rattle.byte_code.specs.declared.prim.Shape.{Shape}
use Rattle.byte_code.specs.declared.prim.Shape.TheVariants.{AtStart, AtPoll, AtDevice, Names, Jumps, Branches, Calls, Returns, Straight}
use Rattle.byte_code.specs.Table.{shape_of}
use Rattle.byte_code.specs.Machine.{is_name, label_place, asked_in}
use Rattle.target_core.specs.Law.{starts_in, is_start, has_words_in}

-- the two polls
pub poll_kind : (h : Shape) → asked_in h ≢ ask.Nothing → (h ≡ AtPoll) ⊎ (h ≡ AtDevice)
poll_kind AtPoll n = inl refl
poll_kind AtDevice n = inr refl
poll_kind AtStart n = absurd (n refl)
poll_kind (Names l) n = absurd (n refl)
poll_kind (Jumps l) n = absurd (n refl)
poll_kind (Branches l) n = absurd (n refl)
poll_kind (Calls l) n = absurd (n refl)
poll_kind Returns n = absurd (n refl)
poll_kind Straight n = absurd (n refl)

no_label : (h : Shape) (l : ℕ) → starts_in h ≡ true → is_name h l ≡ false
no_label AtStart l e = refl
no_label AtPoll l e = refl
no_label AtDevice l e = refl
no_label (Names k) l e = cc
no_label (Jumps k) l e = refl
no_label (Branches k) l e = refl
no_label (Calls k) l e = refl
no_label Returns l e = refl
no_label Straight l e = refl

-- no label stands where the start does
pub label_after : (code : List Paced) (p : Paced) (l : ℕ) → slice_get code 0 ≡ Some p → is_start p.prim ≡ true → 0 < label_place code l
label_after [] p l e f = cc
label_after (x ∷ xs) p l e f =
    let same : x ≡ p = cc in
    let no = no_label (shape_of x.prim) l (ap (λ y. is_start y.prim) same ∙ f) in
    subst (λ b. 0 < cond b 0 (suc (label_place xs l))) (sym no) (omega arith)

pub append_none : {X : Type 0} (xs ys : List X) → xs ++ ys ≡ [] → (xs ≡ []) × (ys ≡ [])
append_none [] ys e = (refl, e)
append_none (x ∷ xs) ys e = absurd (cc)

-- a label, or a primitive that has words
pub word_kind : (h : Shape) → (has_words_in h ≡ true) ⊎ ((l : ℕ) × (h ≡ Names l))
word_kind (Names l) = inr (l, refl)
word_kind AtStart = inl refl
word_kind AtPoll = inl refl
word_kind AtDevice = inl refl
word_kind (Jumps l) = inl refl
word_kind (Branches l) = inl refl
word_kind (Calls l) = inl refl
word_kind Returns = inl refl
word_kind Straight = inl refl
