-- What a reader answers that stands where a text takes it.
use Rattle.std.proofs.Common.{◌≡◌, ℕ, List, ◌++◌, Option, Some, None, Result, Ok, Err, refl, sym, ap, subst, ◌∙◌}
use Rattle.ladder_tree.specs.declared.fault.ProjectFault.{ProjectFault}
use Rattle.ladder_tree.specs.declared.project.Project.{Project}
use Rattle.ld_text.specs.declared.fault.TextError.{TextError}
use Rattle.ld_text.specs.declared.fault.TextError.TheVariants as error
use Rattle.ld_text.specs.declared.reader.Reader.{Reader}
use Rattle.ld_text.specs.Text.{IsReadAs, IsCause, text_fault, early_fault}
use Rattle.ld_text.specs.Within.{IsWithin}
use Rattle.ld_text.specs.Reading.{Standing, Mind, Reads, Refuses, Accepts, fed, fresh, finished, mind_of, mind_behind, IsRefused, IsRejected, StandsRefused}
use Rattle.ld_text.proofs.FedLemmas.{fed_append, fed_refused}
use Rattle.ld_text.proofs.VerdictLemmas.{IsVerdict, verdict, IsEarly, early, early_is_final}

-- where no error was answered a reader is in the line in which the text ends
in_line : (o : Option TextError) (m : Mind) (text : List ℕ) → o ≡ None → mind_behind o m ≡ Some (fed fresh text) → m ≡ fed fresh text
in_line None m text e h = cc
in_line (Some x) m text e h = absurd cc

-- where an error was answered the text is refused for good
refused_for_good : (f : ProjectFault) (m : Mind) (text piece : List ℕ) → mind_behind (Some (error.Refused f)) m ≡ Some (fed fresh text)
    → Refuses f ≡ fed fresh (text ++ piece)
refused_for_good f m text piece h =
    let same : Refuses f ≡ fed fresh text = cc in sym (fed_append fresh text piece ∙ ap (λ x. fed x piece) (sym same) ∙ fed_refused f piece)

pub goes_on : (o p : Option TextError) (m n : Mind) (text piece : List ℕ) → o ≡ None → p ≡ o → mind_behind o m ≡ Some (fed fresh text) → n ≡ fed m piece
    → mind_behind p n ≡ Some (fed fresh (text ++ piece))
goes_on o p m n text piece e same h g =
    ap (λ x. mind_behind x n) (same ∙ e) ∙ ap Some (g ∙ ap (λ x. fed x piece) (in_line o m text e h) ∙ sym (fed_append fresh text piece))

pub goes_early : (o : Option TextError) (m : Mind) (k : ℕ) (l : List ℕ) (s : Standing) (text piece : List ℕ) → o ≡ None
    → mind_behind o m ≡ Some (fed fresh text) → Reads k l s ≡ fed m piece → early_fault (text ++ piece) ≡ None
goes_early o m k l s text piece e h g =
    subst (IsEarly (text ++ piece)) (sym (g ∙ ap (λ x. fed x piece) (in_line o m text e h) ∙ sym (fed_append fresh text piece))) (early (text ++ piece))

pub fails_early : (o : Option TextError) (m : Mind) (text piece : List ℕ) (e : TextError) → o ≡ None → mind_behind o m ≡ Some (fed fresh text)
    → IsRefused (fed m piece) e → IsCause (early_fault (text ++ piece)) e
fails_early o m text piece (error.Memory a) n h g = tt
fails_early o m text piece (error.Refused f) n h g =
    subst (IsEarly (text ++ piece)) (fed_append fresh text piece ∙ ap (λ x. fed x piece) (sym (in_line o m text n h)) ∙ g) (early (text ++ piece))

pub stays : (r : Reader) (o : Option TextError) (m : Mind) (text piece : List ℕ) (e : TextError) → o ≡ None → mind_behind o m ≡ Some (fed fresh text)
    → IsRefused (fed m piece) e → r.first ≡ Some e → StandsRefused r (text ++ piece) e
stays r o m text piece (error.Memory a) n h g i = i
stays r o m text piece (error.Refused f) n h g i =
    ap (λ x. mind_behind x (mind_of r)) i ∙ ap Some (sym (fed_append fresh text piece ∙ ap (λ x. fed x piece) (sym (in_line o m text n h)) ∙ g))

pub failed_early : (o : Option TextError) (m : Mind) (text piece : List ℕ) (e : TextError) → o ≡ Some e → mind_behind o m ≡ Some (fed fresh text)
    → IsCause (early_fault (text ++ piece)) e
failed_early o m text piece (error.Memory a) i h = tt
failed_early o m text piece (error.Refused f) i h =
    subst (IsEarly (text ++ piece)) (sym (refused_for_good f m text piece (ap (λ x. mind_behind x m) (sym i) ∙ h))) (early (text ++ piece))

pub failed_stays : (r : Reader) (text piece : List ℕ) (e : TextError) → r.first ≡ Some e → mind_behind r.first (mind_of r) ≡ Some (fed fresh text)
    → StandsRefused r (text ++ piece) e
failed_stays r text piece (error.Memory a) i h = i
failed_stays r text piece (error.Refused f) i h =
    ap (λ x. mind_behind x (mind_of r)) i ∙ ap Some (refused_for_good f (mind_of r) text piece (ap (λ x. mind_behind x (mind_of r)) (sym i) ∙ h))

-- the answer at the end

pub ends_read : (m : Mind) (text : List ℕ) (p : Project) → m ≡ fed fresh text → finished m ≡ Accepts p → IsReadAs text p × IsWithin p
ends_read m text p e a = subst (IsVerdict text) (ap finished (sym e) ∙ a) (verdict text)

-- a reader that answered no error yet, since it answers none
pub ends_well : {T : Type 0} (o : Option TextError) (m : Mind) (text : List ℕ) (answer : Result T TextError) (t : T) (p : Project) → answer ≡ Ok t
    → mind_behind o m ≡ Some (fed fresh text) → ((e : TextError) → o ≡ Some e → answer ≡ Err e) → (o ≡ None → finished m ≡ Accepts p)
    → IsReadAs text p × IsWithin p
ends_well None m text answer t p i h failed accepts = ends_read m text p (in_line None m text refl h) (accepts refl)
ends_well (Some e) m text answer t p i h failed accepts = let no = sym i ∙ failed e refl in absurd cc

pub ends_badly : {T : Type 0} (o : Option TextError) (m : Mind) (text : List ℕ) (answer : Result T TextError) (e : TextError) → answer ≡ Err e
    → mind_behind o m ≡ Some (fed fresh text) → ((e : TextError) → o ≡ Some e → answer ≡ Err e) → (o ≡ None → IsRejected (finished m) e)
    → IsCause (text_fault text) e
ends_badly o m text answer (error.Memory a) i h failed rejects = tt
ends_badly None m text answer (error.Refused f) i h failed rejects =
    subst (IsVerdict text) (ap finished (sym (in_line None m text refl h)) ∙ rejects refl) (verdict text)
ends_badly (Some (error.Memory a)) m text answer (error.Refused f) i h failed rejects = absurd cc
ends_badly (Some (error.Refused g)) m text answer (error.Refused f) i h failed rejects =
    let both = sym i ∙ failed (error.Refused g) refl in
    let same : f ≡ g = cc in
    let refused : Refuses g ≡ fed fresh text = cc in
    early_is_final text f (subst (IsEarly text) (sym refused) (early text) ∙ ap Some (sym same))

pub early_cause : (text : List ℕ) (e : TextError) → IsCause (early_fault text) e → IsCause (text_fault text) e
early_cause text (error.Memory a) h = tt
early_cause text (error.Refused f) h = early_is_final text f h
