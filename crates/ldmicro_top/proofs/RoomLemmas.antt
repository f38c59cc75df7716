-- What fits its target.
use Rattle.std.proofs.Common.{◌≡◌, ℕ, ◌*◌, ◌≤◌, Bool, true, false, cond, nat_lt, length, Option, Some, None, refl, sym, ap, subst, arith}
use Rattle.std.proofs.lemmas.Bool.Decides.{nat_tests}
use Rattle.std.specs.Option.{option_map}
use Rattle.chip_tables.specs.Memory.{ram_size, eeprom_size}
use Rattle.chip_tables.specs.declared.memory.TheConstants.{EEPROM_MOST}
use Rattle.chip_tables.specs.declared.target.Target.{Target}
use Rattle.chip_tables.specs.declared.target.Target.TheVariants.{F628, F877, Mega16, Interp, AnsiC}
use Rattle.ladder_tree.specs.Names.{names_of}
use Rattle.ladder_tree.specs.declared.names.Names.{Names}
use Rattle.ladder_tree.specs.declared.project.Project.{Project}
use Rattle.chip_run.specs.Shown.{IsPlanOf}
use Rattle.ladder_lower.specs.Outcome.{IsSmall}
use Rattle.mem_plan.specs.Needs.{AreNumbers, ram_need, eeprom_need}
use Rattle.mem_plan.specs.Misfit as plan
use Rattle.mem_plan.specs.Places.{IsChip}
use Rattle.mem_plan.specs.declared.fault.PlanFault.{PlanFault}
use Rattle.mem_plan.specs.declared.places.Plan.{Plan}
use Rattle.mem_plan.specs.declared.fault.PlanFault.TheVariants.{RamFull, EepromFull}
use Rattle.ldmicro_top.specs.Verdict.{refusal_of, kept_of, misfit}

-- numbers of 32 bits can say what small lists need
pub numbers : (n : Names) → IsSmall n → AreNumbers (kept_of n)
numbers n small = record { ram = let v = small.variables in let k = small.kept in omega arith; eeprom = let k = small.kept in omega arith }

none_over : (a b : Bool) (r s e f : ℕ) → option_map refusal_of (cond a (Some (RamFull r s)) (cond b (Some (EepromFull e f)) None)) ≡ None
    → (a ≡ false) × (b ≡ false)
none_over true b r s e f h = let clash : ⊥ = cc in absurd clash
none_over false true r s e f h = let clash : ⊥ = cc in absurd clash
none_over false false r s e f h = (refl, refl)

not_over : (have need : ℕ) → nat_lt have need ≡ false → need ≤ have
not_over have need h = grind (arith, nat_tests)

ram_most : (t : Target) → ram_size t ≤ 8192
ram_most F628 = omega arith
ram_most F877 = omega arith
ram_most Mega16 = omega arith
ram_most Interp = omega arith
ram_most AnsiC = omega arith

eeprom_most : (t : Target) → eeprom_size t ≤ EEPROM_MOST
eeprom_most F628 = omega arith
eeprom_most F877 = omega arith
eeprom_most Mega16 = omega arith
eeprom_most Interp = omega arith
eeprom_most AnsiC = omega arith

-- at most 4096 variables, of which at most 256 are persistent
pub record Few (n : Names) : Type 0 where
  pub variables : length n.variables ≤ 4096
  pub persistent : length n.persistent ≤ 256

pub few : (t : Target) (n : Names) → misfit t n ≡ None → Few n
few t n h =
    let s = kept_of n in
    let o = none_over (nat_lt (ram_size t) (ram_need s)) (nat_lt (eeprom_size t) (eeprom_need s)) (ram_need s) (ram_size t) (eeprom_need s) (eeprom_size t) h in
    let ram = not_over (ram_size t) (ram_need s) o.0 in
    let eeprom = not_over (eeprom_size t) (eeprom_need s) o.1 in
    record { variables = omega (arith, ram, ram_most t); persistent = omega (arith, eeprom, eeprom_most t) }

unrefused : (o : Option PlanFault) → option_map refusal_of o ≡ None → o ≡ None
unrefused None h = refl
unrefused (Some f) h = absurd cc

-- what fits has a plan
pub planned : (t : Target) (n : Names) → misfit t n ≡ None → plan.misfit (kept_of n) t ≡ None
planned t n h = unrefused (plan.misfit (kept_of n) t) h

-- which on the ATmega16 is that of its names
pub is_plan : (p : Project) (n : Names) (plan : Plan) → p.target ≡ Mega16 → plan.target ≡ p.target → plan.sizes ≡ kept_of n → IsPlanOf p n plan
is_plan p n plan e target sizes = record {
  chip = subst IsChip (sym e) refl;
  target = target;
  variables = ap (λ s. s.variables) sizes;
  kept_bits = ap (λ s. s.kept_bits) sizes;
  persistent = ap (λ s. s.persistent) sizes;
}

-- where there is room for what is persistent
pub eeprom_room : (p : Project) → misfit p.target (names_of p.rungs) ≡ None → 2 * length (names_of p.rungs).persistent ≤ eeprom_size p.target
eeprom_room p h =
    let s = kept_of (names_of p.rungs) in
    let t = p.target in
    not_over (eeprom_size t) (eeprom_need s)
    (none_over (nat_lt (ram_size t) (ram_need s)) (nat_lt (eeprom_size t) (eeprom_need s)) (ram_need s) (ram_size t) (eeprom_need s) (eeprom_size t) h).1
