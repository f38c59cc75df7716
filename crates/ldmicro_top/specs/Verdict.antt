-- The verdict on a project: the first rule that it breaks, or else the memory that it does not fit; and that on its code.
use Rattle.std.specs.Prelude.{ℕ, ◌+◌, length, nat_lt, Option, None, Some, if◌then◌else◌}
use Rattle.std.specs.Option.{option_map, option_or}
use Rattle.chip_tables.specs.Memory.{flash_size}
use Rattle.chip_tables.specs.declared.target.Target.{Target}
use Rattle.ladder_tree.specs.Names.{names_of}
use Rattle.ladder_tree.specs.declared.fault.ProjectFault.{ProjectFault}
use Rattle.ladder_tree.specs.declared.fault.ProjectFault.TheVariants.{RamFull, EepromFull, CodeFull}
use Rattle.ladder_tree.specs.declared.names.Names.{Names}
use Rattle.ladder_tree.specs.declared.project.Project.{Project}
use Rattle.ladder_rules.specs.Needs.{word_need}
use Rattle.ladder_rules.specs.Verdict.{rule}
use Rattle.mem_plan.specs.Misfit as plan
use Rattle.mem_plan.specs.declared.fault.PlanFault.{PlanFault}
use Rattle.mem_plan.specs.declared.fault.PlanFault.TheVariants as full
use Rattle.mem_plan.specs.declared.sizes.Sizes.{Sizes}

abbrev pub refusal_of : PlanFault → ProjectFault
refusal_of (full.RamFull need have) = RamFull need have
refusal_of (full.EepromFull need have) = EepromFull need have

-- what is kept of the names from cycle to cycle: variables, and a bit for each relay, memory and start flag of a persistent variable
abbrev pub kept_of : Names → Sizes
kept_of n = record {
  variables = length n.variables;
  kept_bits = length n.relays + (n.memories + length n.persistent);
  persistent = length n.persistent;
}

-- RAM comes first
abbrev pub misfit : Target → Names → Option ProjectFault
misfit target n = option_map refusal_of (plan.misfit (kept_of n) target)

abbrev pub verdict : Project → Option ProjectFault
verdict p = option_or (rule p) (misfit p.target (names_of p.rungs))

abbrev pub over_flash : ℕ → Option ℕ → Option ProjectFault
over_flash need None = None
over_flash need (Some have) = if nat_lt have need then Some (CodeFull need have) else None

-- The code that a chip has no room for. It keeps a project from being compiled, and not from being simulated or run.
abbrev pub code_fault : Project → Option ProjectFault
code_fault p = over_flash (word_need p) (flash_size p.target)
