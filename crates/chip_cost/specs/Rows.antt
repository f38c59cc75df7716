-- What it means that a chip's weights of primitives keep to the table of costs.
use Rattle.std.specs.Prelude.{◌≡◌, ℕ, ◌+◌, ◌*◌, ◌≤◌, max, Bool, false, ◌||◌, cond, List, [], ◌∷◌, sum_by}
use Rattle.chip_tables.specs.declared.cost_kind.CostKind.TheVariants as cost
use Rattle.chip_tables.specs.declared.target.Target.{Target}
use Rattle.ladder_tree.specs.declared.element.LeafKind.{LeafKind}
use Rattle.ladder_rules.specs.ChipRules.{lacks_adc, lacks_pwm}
use Rattle.ladder_rules.specs.Needs.{fixed, element_cost, is_tof, boot_cap_on}
use Rattle.ladder_rules.specs.declared.cost.Column.{Column}
use Rattle.ladder_rules.specs.declared.cost.Column.TheVariants.{Words, Cycles}
use Rattle.int_code.specs.Kinds.{Kind}
use Rattle.int_code.specs.Lowered.{Part, Base, Rung, Parallel, Branch, part_kinds, element_kinds}
use Rattle.byte_code.specs.Kinds as prim
use Rattle.byte_code.specs.Kinds.{PrimKind}
use Rattle.byte_code.specs.Lowered.{Entry, Multiply, Divide, entries, routine_code}
use Rattle.byte_lower.specs.Listed.{operation_of}

-- the greatest weight of entries
abbrev pub heaviest : (Entry → ℕ) → List Entry → ℕ
heaviest f [] = 0
heaviest f (e ∷ es) = max (f e) (heaviest f es)

-- an operation weighs as much as the heaviest entry that the public list has for its kind
abbrev pub op_weight : (Entry → ℕ) → Kind → ℕ
op_weight f k = heaviest f (entries (operation_of k))

-- the operations that a part of a ladder may have
abbrev pub kinds_weight : (Entry → ℕ) → List Kind → ℕ
kinds_weight f ks = sum_by (op_weight f) ks

abbrev pub part_weight : (Entry → ℕ) → Part → ℕ
part_weight f part = kinds_weight f (part_kinds part)

-- the code of an entry, and what it begins in a cycle
abbrev pub code_weight : (PrimKind → ℕ) → Entry → ℕ
code_weight w e = sum_by w e.code

abbrev pub turn_weight : (PrimKind → ℕ) → Entry → ℕ
turn_weight w e = sum_by w e.turns

-- elements that the target refuses cost nothing in its table
abbrev pub is_refused : Target → LeafKind → Bool
is_refused t x = lacks_adc t x || lacks_pwm t x

-- Each part of a ladder weighs no more than its row. The base has what stands once beside the operations, and an off-delay timer the start value of its
-- variable.
pub record KeepsRows (c : Column) (t : Target) (f : Entry → ℕ) (once start : ℕ) : Type 0 where
  pub base : once + part_weight f Base ≤ fixed c t cost.Base
  pub rung : part_weight f Rung ≤ fixed c t cost.Rung
  pub parallel : part_weight f Parallel ≤ fixed c t cost.Parallel
  pub branch : part_weight f Branch ≤ fixed c t cost.Branch
  pub element : (x : LeafKind) → is_refused t x ≡ false → kinds_weight f (element_kinds x) + cond (is_tof x) start 0 ≤ element_cost c t x

-- The words and the cycles that a chip's code has for each kind of primitive keep to the table of costs.
pub record KeepsTable (t : Target) (words cycles : PrimKind → ℕ) : Type 0 where
  pub word_rows : KeepsRows Words t (code_weight words) (words prim.Start + (words prim.CyclePoll + words prim.Jump)) (words prim.Move)
  pub products : sum_by words (routine_code Multiply) ≤ fixed Words t cost.MulFeature
  pub quotients : sum_by words (routine_code Divide) ≤ fixed Words t cost.DivFeature
  pub cycle_rows : KeepsRows Cycles t (turn_weight cycles) (cycles prim.CyclePoll + cycles prim.Jump) 0
  pub boot : (tofs : ℕ) → cycles prim.Start + (cycles prim.CyclePoll + tofs * cycles prim.Move) ≤ boot_cap_on t tofs
