-- The machine with its registers and its RAM as functions, so that what instructions do to them computes.
use Rattle.std.proofs.Common.{◌≡◌, ◌≢◌, ℕ, ◌-◌, ◌<◌, ◌≤◌, ◌⊎◌, inl, inr, ⊎_elim, Bool, true, false, List, [], length, get_or, refl, sym, ap, ◌∙◌, arith, eq-eqb, get_or-set_same, get_or-set_other}
use Rattle.std.proofs.Math.ListN.{set, length-set}
use Rattle.std.proofs.lemmas.Bool.{cases_eq, ne_eqb, true≢false}
use Rattle.std.specs.Prelude.{◌==◌, if◌then◌else◌, slice_index, slice_set}
use Rattle.avr_mach.specs.declared.state.AvrState.{AvrState}
use Rattle.avr_mach.specs.State.{reg, with_reg}
use Rattle.avr_mach.specs.Step.{at_place}
use Rattle.avr_code.specs.Stands.{is_work}

-- a machine but for its registers and its RAM
abbrev pub bare : AvrState → AvrState
bare m = record m { regs = []; sram = [] }

-- `work` has the registers that are no cells, and `cells` the others and the RAM, by addresses
pub record View : Type 0 where
  pub core : AvrState
  pub work : ℕ → ℕ
  pub cells : ℕ → ℕ

abbrev pub see : View → ℕ → ℕ
see v r = if is_work r then v.work r else v.cells r

abbrev pub changed : (ℕ → ℕ) → ℕ → ℕ → ℕ → ℕ
changed f d x = λ r. if r == d then x else f r

abbrev pub put : View → ℕ → ℕ → View
put v d x = if is_work d then record v { work = changed v.work d x } else record v { cells = changed v.cells d x }

abbrev pub moved : View → ℕ → ℕ → View
moved v place cycles = record v { core = at_place v.core place cycles }

pub record Sees (m : AvrState) (v : View) : Type 0 where
  pub regs : length m.regs ≡ 32
  pub sram : length m.sram ≡ 1024
  pub core : bare m ≡ v.core
  pub file : (r : ℕ) → r < 32 → reg m r ≡ see v r
  pub ram : (a : ℕ) → 96 ≤ a → a < 1120 → slice_index m.sram (a - 96) ≡ v.cells a

pub sees_moved : (m : AvrState) (v : View) (place cycles : ℕ) → Sees m v → Sees (at_place m place cycles) (moved v place cycles)
sees_moved m v place cycles h =
    record { regs = h.regs; sram = h.sram; core = ap (λ c. at_place c place cycles) h.core; file = h.file; ram = h.ram }

-- another part of the machine changes
pub sees_core : (m : AvrState) (v : View) (f : AvrState → AvrState) → (f m).regs ≡ m.regs → (f m).sram ≡ m.sram → bare (f m) ≡ f (bare m) → Sees m v →
    Sees (f m) (record v { core = f v.core })
sees_core m v f same_regs same_sram e h = record {
  regs = ap length same_regs ∙ h.regs;
  sram = ap length same_sram ∙ h.sram;
  core = e ∙ ap f h.core;
  file = λ r lt. ap (λ l. slice_index l r) same_regs ∙ h.file r lt;
  ram = λ a lo hi. ap (λ l. slice_index l (a - 96)) same_sram ∙ h.ram a lo hi;
}

changed_same : (f : ℕ → ℕ) (d x r : ℕ) → r ≡ d → changed f d x r ≡ x
changed_same f d x r e = ap (λ b. if b then x else f r) (eq-eqb r d e)

changed_other : (f : ℕ → ℕ) (d x r : ℕ) → r ≢ d → changed f d x r ≡ f r
changed_other f d x r ne = ap (λ b. if b then x else f r) (ne_eqb r d ne)

see_same_by : (v : View) (d x : ℕ) (b : Bool) → is_work d ≡ b →
    (if b then changed v.work d x d else (if is_work d then v.work d else changed v.cells d x d)) ≡ x
see_same_by v d x true e = changed_same v.work d x d refl
see_same_by v d x false e = ap (λ b. if b then v.work d else changed v.cells d x d) e ∙ changed_same v.cells d x d refl

see_work : (v : View) (d x r : ℕ) (b c : Bool) → is_work d ≡ b → is_work r ≡ c →
    see (if b then record v { work = changed v.work d x } else record v { cells = changed v.cells d x }) r ≡ (if r == d then x else see v r)
see_work v d x r b c e f = by (cases_eq r d) b c e f
  where
    by : (r ≡ d) ⊎ (r ≢ d) → (b c : Bool) → is_work d ≡ b → is_work r ≡ c →
        see (if b then record v { work = changed v.work d x } else record v { cells = changed v.cells d x }) r ≡ (if r == d then x else see v r)
    by (inl same) true true e f = rw (f, eq-eqb r d same) refl
    by (inl same) true false e f = absurd (true≢false (sym e ∙ ap is_work (sym same) ∙ f))
    by (inl same) false true e f = absurd (true≢false (sym f ∙ ap is_work same ∙ e))
    by (inl same) false false e f = rw (f, eq-eqb r d same) refl
    by (inr other) true true e f = rw (f, ne_eqb r d other) refl
    by (inr other) true false e f = rw (f, ne_eqb r d other) refl
    by (inr other) false true e f = rw (f, ne_eqb r d other) refl
    by (inr other) false false e f = rw (f, ne_eqb r d other) refl

pub see_put : (v : View) (d x r : ℕ) → see (put v d x) r ≡ (if r == d then x else see v r)
see_put v d x r = see_work v d x r (is_work d) (is_work r) refl refl

pub set_index : (xs : List ℕ) (d x r : ℕ) → d < length xs → slice_index (slice_set xs d x) r ≡ (if r == d then x else slice_index xs r)
set_index xs d x r lt = ⊎_elim
    (λ (same : r ≡ d). ap (λ n. get_or (set xs d x) n 0) same ∙ get_or-set_same xs d x 0 lt ∙ sym (ap (λ b. if b then x else get_or xs r 0) (eq-eqb r d
    same)))
    (λ (other : r ≢ d). get_or-set_other xs d r x 0 other ∙ sym (ap (λ b. if b then x else get_or xs r 0) (ne_eqb r d other)))
    (cases_eq r d)

-- RAM is not touched by a register's write
cells_kept : (v : View) (d x a : ℕ) (b : Bool) → a ≢ d →
    (if b then record v { work = changed v.work d x } else record v { cells = changed v.cells d x }).cells a ≡ v.cells a
cells_kept v d x a true ne = refl
cells_kept v d x a false ne = changed_other v.cells d x a ne

core_kept : (v : View) (d x : ℕ) (b : Bool) →
    (if b then record v { work = changed v.work d x } else record v { cells = changed v.cells d x }).core ≡ v.core
core_kept v d x true = refl
core_kept v d x false = refl

-- a register takes a byte
pub sees_put : (m : AvrState) (v : View) (d x : ℕ) → d < 32 → Sees m v → Sees (with_reg m d x) (put v d x)
sees_put m v d x lt h =
    let within : d < length m.regs = omega (arith, lt, h.regs) in
    record {
      regs = length-set m.regs d x ∙ h.regs;
      sram = h.sram;
      core = h.core ∙ sym (core_kept v d x (is_work d));
      file = λ r low. set_index m.regs d x r within ∙ ap (λ y. if r == d then x else y) (h.file r low) ∙ sym (see_put v d x r);
      ram = λ a lo hi. h.ram a lo hi ∙ sym (cells_kept v d x a (is_work d) (λ e. omega (arith, e, lt, lo)));
    }
