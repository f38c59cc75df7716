-- The words of assembled code, and the places of its labels.
use Rattle.std.specs.Prelude.{ℕ, suc, ◌+◌, ◌-◌, List, [], ◌∷◌, ◌++◌, length, replicate, slice_set}
use Rattle.byte_code.specs.declared.prim.BytePrim.{BytePrim}
use Rattle.byte_code.specs.declared.prim.Paced.{Paced}
use Rattle.byte_code.specs.declared.prim.Shape.{Shape}
use Rattle.byte_code.specs.declared.prim.Shape.TheVariants.{AtStart, AtPoll, AtDevice, Names, Jumps, Branches, Calls, Returns, Straight}
use Rattle.byte_code.specs.Table.{shape_of}
use Rattle.target_core.specs.Law.{Target}

-- the words of the primitives in order, from a place on
abbrev pub image_from : {M : Type 0} → Target M → List ℕ → ℕ → List Paced → List ℕ
image_from t labels at [] = []
image_from t labels at (p ∷ ps) = t.emitted p.prim at labels ++ image_from t labels (at + t.words_in p.prim) ps

-- with zeros at the end, up to n in all
abbrev pub padded : List ℕ → ℕ → List ℕ
padded labels n = labels ++ replicate (n - length labels) 0

abbrev pub marked_in : Shape → ℕ → List ℕ → List ℕ
marked_in (Names l) at labels = slice_set (padded labels (suc l)) l at
marked_in AtStart at labels = labels
marked_in AtPoll at labels = labels
marked_in AtDevice at labels = labels
marked_in (Jumps l) at labels = labels
marked_in (Branches l) at labels = labels
marked_in (Calls l) at labels = labels
marked_in Returns at labels = labels
marked_in Straight at labels = labels

-- with the place of a label
abbrev pub marked : BytePrim → ℕ → List ℕ → List ℕ
marked p at labels = marked_in (shape_of p) at labels

-- the places of the labels, by their numbers
abbrev pub table_from : (BytePrim → ℕ) → ℕ → List ℕ → List Paced → List ℕ
table_from words at labels [] = labels
table_from words at labels (p ∷ ps) = table_from words (at + words p.prim) (marked p.prim at labels) ps
