use Rattle.std.proofs.Common.{◌≡◌, ℕ, List, None, map, sym, ap, subst, ◌∙◌, true}
use Rattle.std.specs.Prelude.{All, IsSome}
use Rattle.ladder_rules.proofs.AssignedLemmas.{have_pins}
use Rattle.ladder_rules.specs.Assigned.{name_bit, HavePins}
use Rattle.ladder_rules.specs.Pins.{is_chip}
use Rattle.ladder_rules.specs.Verdict.{rule}
use Rattle.ladder_tree.specs.Names.{names_of}
use Rattle.ladder_tree.specs.declared.names.Names.{Names}
use Rattle.ladder_tree.specs.declared.project.Project.{Project}
use Rattle.byte_lower.proofs.PinLemmas.{has_pins}
use Rattle.byte_lower.proofs.pins.layout_of.Goals as goal

-- what holds of names at a list that is equal to theirs, and of the project at one that is equal to it
carried : (p q : Project) (xs ys : List (List ℕ)) → q ≡ p → ys ≡ xs → All (λ name. IsSome (name_bit p name)) xs → All (λ name. IsSome (name_bit q name)) ys
carried p q xs ys e f h =
    subst (λ (r : Project). All (λ name. IsSome (name_bit r name)) ys) (sym e) (subst (λ (zs : List (List ℕ)). All (λ name. IsSome (name_bit p name)) zs)
    (sym f) h)

legal_pins : (p : Project) (n : Names) → is_chip p.target ≡ true → rule p ≡ None → n ≡ names_of p.rungs → HavePins p n
legal_pins p n chip kept named = subst (λ (m : Names). HavePins p m) (sym named) (have_pins p chip kept)

pub pins_of-requires : goal.pins_of-requires
pins_of-requires c =
    carried c.args.l.now.project c.project-project.result.now c.args.l.now.names.inputs c.as_slice.result.now c.project-project.ensures
    (c.as_slice.ensures ∙ ap (λ (n : Names). n.inputs) c.names-names.ensures) (legal_pins c.args.l.now.project c.args.l.now.names c.requires.chip
    c.args.l.now.rules c.args.l.now.named).inputs.each

pub pins_of-requires-2 : goal.pins_of-requires-2
pins_of-requires-2 c =
    carried c.args.l.now.project c.project-project.result.now c.args.l.now.names.outputs c.as_slice-2.result.now c.project-project.ensures
    (c.as_slice-2.ensures ∙ ap (λ (n : Names). n.outputs) c.names-names.ensures) (legal_pins c.args.l.now.project c.args.l.now.names c.requires.chip
    c.args.l.now.rules c.args.l.now.named).outputs.each

pub returns-clause-pins : goal.returns-clause-pins
returns-clause-pins c =
    let project = c.args.l.now.project in
    has_pins project c.args.l.now.names _ (legal_pins project c.args.l.now.names c.requires.chip c.args.l.now.rules c.args.l.now.named)
    (c.in_ok-inputs.ensures.pins ∙ ap (λ (q : Project). map (name_bit q) c.as_slice.result.now) c.project-project.ensures ∙ ap (map (name_bit project))
    (c.as_slice.ensures ∙ ap (λ (n : Names). n.inputs) c.names-names.ensures))
    (c.in_ok-outputs.ensures.pins ∙ ap (λ (q : Project). map (name_bit q) c.as_slice-2.result.now) c.project-project.ensures ∙ ap (map (name_bit project))
    (c.as_slice-2.ensures ∙ ap (λ (n : Names). n.outputs) c.names-names.ensures))
    c.in_ok-inputs.ensures.ports c.in_ok-outputs.ensures.ports
