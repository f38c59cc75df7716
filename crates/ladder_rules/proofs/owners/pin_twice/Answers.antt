use Rattle.std.proofs.Common.{sym, ap, ◌∙◌}
use Rattle.std.specs.Option.{option_map}
use Rattle.ladder_rules.proofs.OwnerLemmas.{fault_at, clash_found}
use Rattle.ladder_rules.proofs.owners.pin_twice.Goals as goal

pub returns-in-Some : goal.returns-in-Some
returns-in-Some c =
    let found = rw c.as_slice.ensures at c.in-Some.ensures in
    rw (c.fault_of.ensures, sym c.if-not-is_chip.ensures) (ap (λ w. option_map fault_at w.0) found ∙ clash_found c.args.project)

pub returns-in-None : goal.returns-in-None
returns-in-None c =
    let found = rw c.as_slice.ensures at c.in-None.ensures in
    rw (sym c.if-not-is_chip.ensures) (ap (λ w. option_map fault_at w.0) found ∙ clash_found c.args.project)
