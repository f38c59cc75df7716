-- What the code of a project's program takes is within what the rules count.
use Rattle.std.proofs.Common.{◌≡◌, ◌≤◌, sym, ap, subst, ◌∙◌, arith}
use Rattle.chip_tables.specs.declared.target.Target.{Target}
use Rattle.chip_tables.specs.declared.target.Target.TheVariants.{Mega16}
use Rattle.ladder_rules.specs.Needs.{word_need, cycle_cap, boot_cap}
use Rattle.ladder_rules.specs.Pins.{is_chip}
use Rattle.byte_code.specs.Kinds.{kinds, boot_kinds, turn_kinds}
use Rattle.byte_code.specs.Lowered.{IsListed}
use Rattle.byte_lower.proofs.ListedLemmas.{listed}
use Rattle.byte_lower.proofs.UseLemmas.{used}
use Rattle.byte_lower.specs.Code.{code_of}
use Rattle.byte_lower.specs.Listed.{operations, routines_in, starts_in}
use Rattle.chip_cost.proofs.Whole.{listed_is_within_table}
use Rattle.chip_cost.specs.Rows.{KeepsTable}
use Rattle.std.specs.List.{sum_by}
use Rattle.avr_cost.proofs.Rows.{keeps_table}
use Rattle.avr_cost.proofs.Whole.{sums_within_kinds}
use Rattle.avr_cost.specs.Taken.{kind_words, kind_cycles}
use Rattle.avr_gen.specs.Admission.{board_of}
use Rattle.avr_gen.specs.Need.{LinkedIsWithinNeed}

pub linked_is_within_need : LinkedIsWithinNeed
linked_is_within_need p o settings program target kept linked can =
    let code = code_of o program in
    let same : o.plan.target ≡ Mega16 = linked.target ∙ target in
    let sums = sums_within_kinds o (board_of o settings) code same (used o program can) in
    let of_list = listed o o.chip o.plan.ram_fits program can in
    let list : IsListed p.target (starts_in program.starts) (routines_in program.ops) (operations o program) code =
    subst (λ (t : Target). IsListed t (starts_in program.starts) (routines_in program.ops) (operations o program) code) linked.target of_list in
    let table : KeepsTable p.target kind_words kind_cycles = subst (λ (t : Target). KeepsTable t kind_words kind_cycles) (sym target) keeps_table in
    let within = listed_is_within_table p o program kind_words kind_cycles code (ap is_chip target) kept table linked.lowered linked.sizes list in
    let a : sum_by kind_words (kinds Mega16 code) ≤ word_need p =
    subst (λ (t : Target). sum_by kind_words (kinds t code) ≤ word_need p) target within.words_few in
    let b : sum_by kind_cycles (turn_kinds Mega16 code) ≤ cycle_cap p =
    subst (λ (t : Target). sum_by kind_cycles (turn_kinds t code) ≤ cycle_cap p) target within.cycles_few in
    let c : sum_by kind_cycles (boot_kinds Mega16 code) ≤ boot_cap p =
    subst (λ (t : Target). sum_by kind_cycles (boot_kinds t code) ≤ boot_cap p) target within.boot_few in
    let d = sums.words in
    let e = sums.cycles in
    let f = sums.boot in
    record { words_few = omega (arith, a, d); cycles_few = omega (arith, b, e); boot_few = omega (arith, c, f) }
