use Rattle.std.proofs.Common.{◌≡◌, List, true, sym, subst}
use Rattle.std.specs.List.{list_all}
use Rattle.std.specs.Prelude.{All}
use Rattle.byte_code.specs.Admitted.{admits}
use Rattle.byte_code.specs.Lowered.{IsListed}
use Rattle.byte_code.specs.declared.prim.Paced.{Paced}
use Rattle.byte_lower.proofs.AdmitLemmas.{admitted}
use Rattle.byte_lower.specs.Outfit.{outfit_of}
use Rattle.byte_lower.specs.Uses.{Uses}
use Rattle.byte_lower.proofs.UseLemmas.{used}
use Rattle.byte_lower.proofs.CycleLemmas.{carries}
use Rattle.byte_lower.proofs.NameLemmas.{whole}
use Rattle.byte_lower.specs.Listed.{operations, routines_in, starts_in}
use Rattle.byte_lower.specs.Whole.{HasLabels}
use Rattle.byte_lower.proofs.ListedLemmas.{listed}
use Rattle.byte_lower.specs.Code.{Carries}
use Rattle.byte_lower.proofs.program.lower_bytes.Goals as goal

pub returns-in-Ok-clause-runs : goal.returns-in-Ok-clause-runs
returns-in-Ok-clause-runs c =
    subst (Carries c.args.layout.now c.args.program.now) (sym c.in-Ok.ensures) (carries c.args.layout.now c.args.program.now c.requires c.args.layout.now.chip
    c.args.layout.now.plan.ram_fits)

pub returns-in-Ok-clause-whole : goal.returns-in-Ok-clause-whole
returns-in-Ok-clause-whole c = subst HasLabels (sym c.in-Ok.ensures) (whole c.args.layout.now c.args.program.now c.requires)

pub returns-in-Ok-clause-admitted : goal.returns-in-Ok-clause-admitted
returns-in-Ok-clause-admitted c =
    subst (λ (code : List Paced). list_all (λ p. admits (outfit_of c.args.layout.now) p.prim) code ≡ true) (sym c.in-Ok.ensures)
    (admitted c.args.layout.now c.args.layout.now.chip c.args.layout.now.plan.ram_fits c.args.program.now c.requires)

pub returns-in-Ok-clause-listed : goal.returns-in-Ok-clause-listed
returns-in-Ok-clause-listed c =
    subst (λ (code : List Paced). IsListed c.args.layout.now.plan.target (starts_in c.args.program.now.starts) (routines_in c.args.program.now.ops) (operations c.args.layout.now c.args.program.now) code)
    (sym c.in-Ok.ensures) (listed c.args.layout.now c.args.layout.now.chip c.args.layout.now.plan.ram_fits c.args.program.now c.requires)

pub returns-in-Ok-clause-uses : goal.returns-in-Ok-clause-uses
returns-in-Ok-clause-uses c =
    subst (λ (code : List Paced). All (λ p. Uses c.args.layout.now p.prim) code) (sym c.in-Ok.ensures)
    (used c.args.layout.now c.args.program.now c.requires)
