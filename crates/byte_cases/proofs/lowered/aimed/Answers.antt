use Rattle.std.proofs.Common.{◌≡◌, true, sym, subst, ◌∙◌}
use Rattle.std.specs.List.{list_all}
use Rattle.ladder_tree.specs.Leaves.{all_leaves}
use Rattle.ladder_tree.specs.Names.{has_kind}
use Rattle.ladder_tree.specs.declared.project.Project.{Project}
use Rattle.ladder_lower.specs.Outcome.{CanLower}
use Rattle.ldmicro_top.proofs.LegalLemmas.{within_limits}
use Rattle.byte_cases.proofs.Aimed.{can_lower}
use Rattle.byte_cases.proofs.lowered.aimed.Goals as goal

pub check-requires-clause-limits : goal.check-requires-clause-limits
check-requires-clause-limits c = within_limits c.in_ok-project.project c.in_ok-project.ensures.within

pub returns-in-Ok-clause-can : goal.returns-in-Ok-clause-can
returns-in-Ok-clause-can c =
    let legal = c.in-Ok.legal in
    let ok = c.in-Ok.ensures.ok in
    let kinds = subst (λ (x : Project). list_all (λ l. has_kind l.kind) (all_leaves x.rungs) ≡ true) ok.1 c.in-Ok.ensures.kinds in
    subst (λ (x : Project). CanLower legal.names x) (sym ok.1)
    (can_lower c.in_ok-project.project c.args.target legal.names c.in_ok-project.ensures.within (ok.2 ∙ c.in_ok-names.ensures) ok.0 kinds)
