-- Where bytes take a reader.
use Rattle.std.proofs.Common.{◌≡◌, ℕ, suc, ◌<◌, List, [], ◌∷◌, ◌++◌, length, drop, get_or, refl, sym, ap, ◌∙◌, drop-cons}
use Rattle.ladder_tree.specs.declared.fault.ProjectFault.{ProjectFault}
use Rattle.ld_text.specs.declared.fault.TextError.{TextError}
use Rattle.ld_text.specs.declared.fault.TextError.TheVariants as error
use Rattle.ld_text.specs.Reading.{Mind, Refuses, fed, fed_byte, IsRefused}

-- what is refused is refused for good
pub fed_refused : (f : ProjectFault) (bs : List ℕ) → fed (Refuses f) bs ≡ Refuses f
fed_refused f [] = refl
fed_refused f (b ∷ bs) = fed_refused f bs

pub fed_append : (m : Mind) (xs ys : List ℕ) → fed m (xs ++ ys) ≡ fed (fed m xs) ys
fed_append m [] ys = refl
fed_append m (x ∷ xs) ys = fed_append (fed_byte m x) xs ys

-- a byte that is refused refuses the whole piece
pub stopped_at : (start m : Mind) (piece : List ℕ) (i : ℕ) (e : TextError) → fed m (drop i piece) ≡ fed start piece → i < length piece
    → IsRefused (fed_byte m (get_or piece i 0)) e → IsRefused (fed start piece) e
stopped_at start m piece i (error.Memory a) h g r = tt
stopped_at start m piece i (error.Refused f) h g r =
    sym h ∙ ap (fed m) (drop-cons piece i 0 g) ∙ ap (λ x. fed x (drop (suc i) piece)) r ∙ fed_refused f (drop (suc i) piece)
