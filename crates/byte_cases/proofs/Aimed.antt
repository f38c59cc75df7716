-- A project that was read, for another target.
use Rattle.std.proofs.Common.{◌≡◌, true, None}
use Rattle.std.specs.List.{list_all}
use Rattle.ladder_tree.specs.Leaves.{all_leaves}
use Rattle.ladder_tree.specs.Names.{names_of, has_kind}
use Rattle.ladder_tree.specs.declared.names.Names.{Names}
use Rattle.ladder_tree.specs.declared.project.Project.{Project}
use Rattle.chip_tables.specs.declared.target.Target.{Target}
use Rattle.ladder_lower.specs.Outcome.{CanLower}
use Rattle.ladder_rules.specs.Verdict.{rule}
use Rattle.ld_text.specs.Within.{IsWithin}
use Rattle.ldmicro_top.proofs.FitLemmas.{cycle_some, fits_all}
use Rattle.ldmicro_top.proofs.LegalLemmas.{is_sized, well_named}

-- where it keeps the rules of that target it can be lowered
pub can_lower : (p : Project) (t : Target) (n : Names) → IsWithin p → n ≡ names_of p.rungs → rule (record p { target = t }) ≡ None
    → list_all (λ l. has_kind l.kind) (all_leaves p.rungs) ≡ true → CanLower n (record p { target = t })
can_lower p t n w named r kinds = record {
  names = named;
  named = well_named p w kinds;
  cycle = cycle_some (record p { target = t }) r;
  fit = fits_all (record p { target = t }) r w.read;
  depth = w.depth;
  size = is_sized p w;
}
