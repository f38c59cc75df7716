-- What is known of a project whose text is written.
use Rattle.std.proofs.Common.{◌≡◌, ℕ, ◌+◌, ◌^◌, ◌<◌, ◌≤◌, Bool, true, false, cond, List, ◌++◌, sym, ap, ◌∙◌, arith, append_assoc}
use Rattle.ladder_tree.specs.declared.names.Names.{Names}
use Rattle.ladder_tree.specs.declared.project.Project.{Project}
use Rattle.ladder_lower.specs.Outcome.{CanLower}
use Rattle.ladder_lower.specs.Wires.{layout_of, Fits}
use Rattle.ladder_lower.specs.declared.layout.Layout.{Layout}
use Rattle.ladder_lower.proofs.ProgramLemmas.{small}
use Rattle.c_output.specs.Element.{Terms}
use Rattle.c_output.specs.Node.{memories_of}
use Rattle.c_output.proofs.NodeLemmas.{three, rungs_counted}

-- a layout that has the names and the cycle
pub laid : (n : Names) (q : Project) (p : Layout) (cycle : ℕ) (master : Bool) → p ≡ layout_of n cycle master → cycle ≡ q.cycle → p ≡ layout_of n q.cycle master
laid n q p cycle master e f = e ∙ ap (λ c. layout_of n c master) f

masters_most : (b : Bool) → cond b 1 0 ≤ 1
masters_most true = omega arith
masters_most false = omega arith

pub fits : (n : Names) (q : Project) (master : Bool) → CanLower n q → Fits (layout_of n q.cycle master) 0
fits n q master l =
    let s = small n q l in
    let x = s.kept in let y = s.inputs in let z = s.outputs in let v = s.variables in let a = s.analogs in
    let m = masters_most master in
    record { bits = omega arith; inputs = omega arith; outputs = omega arith; variables = omega arith; analog = omega arith }

pub room : (n : Names) (q : Project) (p : Terms) → CanLower n q → memories_of p q.rungs < 2 ^ 32
room n q p l =
    let s = (small n q l).kept in
    let m : memories_of p q.rungs ≡ n.memories = rungs_counted p q.rungs ∙ sym (ap (λ (m : Names). m.memories) l.names) in
    omega arith

-- the parts of a text, one behind the other
pub whole : (t u v w a b c d : List ℕ) → t ≡ a → u ≡ t ++ b → v ≡ u ++ c → w ≡ v ++ d → w ≡ a ++ (b ++ (c ++ d))
whole t u v w a b c d e f g h =
    h ∙ ap (λ x. x ++ d) (g ∙ ap (λ x. x ++ c) (f ∙ ap (λ x. x ++ b) e)) ∙ append_assoc (a ++ b) c d ∙ append_assoc a b (c ++ d)

-- six pieces behind a text
pub six : (t u v w x y z a b c d e f : List ℕ) → u ≡ t ++ a → v ≡ u ++ b → w ≡ v ++ c → x ≡ w ++ d → y ≡ x ++ e → z ≡ y ++ f
    → z ≡ t ++ (a ++ (b ++ (c ++ (d ++ (e ++ f)))))
six t u v w x y z a b c d e f g h i j k l =
    let rest = d ++ (e ++ f) in
    three w x y z d e f j k l ∙ ap (λ s. s ++ rest) (three t u v w a b c g h i)
    ∙ append_assoc t (a ++ (b ++ c)) rest
    ∙ ap (λ s. t ++ s) (append_assoc a (b ++ c) rest ∙ ap (λ s. a ++ s) (append_assoc b c rest))
