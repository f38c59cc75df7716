use Rattle.std.proofs.Common.{◌≡◌, List, [], ◌∷◌, ◌++◌, refl, ap}
use Rattle.ladder_tree.specs.declared.project.Project.{Project}
use Rattle.ladder_meaning.specs.Cycle.{cycle, history, last_of}
use Rattle.ladder_meaning.specs.State.{State, Seen}
use Rattle.ladder_meaning.proofs.laws.history_goes_on.Goals as goal

goes_on : (p : Project) (s : State) (rs qs : List Seen) → history p s (rs ++ qs) ≡ history p s rs ++ history p (last_of s (history p s rs)) qs
goes_on p s [] qs = refl
goes_on p s (r ∷ rs) qs = ap (λ l. cycle p s r ∷ l) (goes_on p (cycle p s r).state rs qs)

pub returns : goal.returns
returns c = goes_on
