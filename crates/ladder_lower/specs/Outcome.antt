-- What lowering asks of a project, and what its program is.
use Rattle.std.specs.Prelude.{◌≡◌, ◌≢◌, ℕ, ◌+◌, ◌≤◌, true, List, [], ◌∷◌, length, map}
use Rattle.chip_tables.specs.declared.target.Target.TheVariants.{Interp}
use Rattle.ladder_tree.specs.Leaves.{all_leaves, depth_of_all}
use Rattle.ladder_tree.specs.Names.{names_of, all_well_named}
use Rattle.ladder_tree.specs.Size.{size_of_all}
use Rattle.ladder_tree.specs.declared.names.Names.{Names}
use Rattle.ladder_tree.specs.declared.project.Project.{Project}
use Rattle.ladder_meaning.specs.Cycle.{start_number}
use Rattle.ladder_tree.specs.Peripherals.{any_pwm, any_uart}
use Rattle.ladder_tree.specs.declared.limits.TheConstants.{DEPTH}
use Rattle.ladder_rules.specs.Needs.{total}
use Rattle.ladder_rules.specs.declared.cost.Column.TheVariants.{Ops}
use Rattle.int_code.specs.Kinds.{kinds, IsWithin}
use Rattle.int_code.specs.Literals.{AllHoldNumbers}
use Rattle.int_code.specs.Lowered.{allowed}
use Rattle.int_code.specs.Uses.{has_pwm}
use Rattle.int_code.specs.WellFormed.{IsWellFormed}
use Rattle.int_code.specs.declared.op.IntOp.{IntOp}
use Rattle.int_code.specs.declared.op.IntOp.TheVariants.{Set, Clr, Cpy, Not, Ifs, Ifc, Iflt, Ifeq, Ifee, Els, Fi, Lit, Mov, Add, Sub, Mul, Div, Inc, Dec, Adc}
use Rattle.int_code.specs.declared.op.IntOp.TheVariants.{Pwm, Rx, Tx, Eebusy, Eerd, Eewr, Tab}
use Rattle.int_code.specs.declared.op.IntProgram.{IntProgram}
use Rattle.ladder_lower.specs.Careful.{IsCareful}
use Rattle.ladder_lower.specs.Correct.{KeepsHistory}
use Rattle.ladder_lower.specs.Devices.{has_serial, hertz_in, hertz_wanted}
use Rattle.ladder_lower.specs.Fit.{all_fit}
use Rattle.ladder_lower.specs.Masters.{any_master}
use Rattle.ladder_lower.specs.NodeCode.{program_code}
use Rattle.ladder_lower.specs.Wires.{layout_of}

-- A project that is lowered, with its names: these are well formed, its numbers fit operations, and it is no larger than a text.
pub record CanLower (n : Names) (q : Project) : Type 0 where
  pub names : n ≡ names_of q.rungs
  pub named : all_well_named (all_leaves q.rungs) ≡ true
  pub cycle : q.cycle ≢ 0
  pub fit : all_fit q.cycle (all_leaves q.rungs) ≡ true
  pub depth : depth_of_all q.rungs ≤ DEPTH
  pub size : size_of_all q.rungs ≤ 13000

-- The sizes are those of the names. Behind the kept bits, which are relays, memories and start flags, there are at most 48
-- wires. The variables start as the ladder's do.
pub record HasSizes (n : Names) (q : Project) (p : IntProgram) : Type 0 where
  pub inputs : p.inputs ≡ length n.inputs
  pub outputs : p.outputs ≡ length n.outputs
  pub analogs : p.analogs ≡ length n.analog
  pub variables : p.variables ≡ length n.variables
  pub persistent : p.persistent ≡ length n.persistent
  pub kept : p.kept_bits ≡ length n.relays + (n.memories + length n.persistent)
  pub wires : p.bits ≤ p.kept_bits + 48
  pub starts : p.starts ≡ map (start_number q.cycle (all_leaves q.rungs)) n.variables

-- the lists and the memories are no more than a project's lines can name
pub record IsSmall (n : Names) : Type 0 where
  pub inputs : length n.inputs ≤ 13000
  pub outputs : length n.outputs ≤ 13000
  pub analogs : length n.analog ≤ 13000
  pub variables : length n.variables ≤ 1000000
  pub kept : length n.relays + (n.memories + length n.persistent) ≤ 13000

abbrev pub tabs_of : IntOp → ℕ
tabs_of (Tab v w values) = 1
tabs_of (Set b) = 0
tabs_of (Clr b) = 0
tabs_of (Cpy b s) = 0
tabs_of (Not b s) = 0
tabs_of (Ifs s) = 0
tabs_of (Ifc s) = 0
tabs_of (Iflt w u) = 0
tabs_of (Ifeq w u) = 0
tabs_of (Ifee v a) = 0
tabs_of Els = 0
tabs_of Fi = 0
tabs_of (Lit v n) = 0
tabs_of (Mov v from) = 0
tabs_of (Add v w u) = 0
tabs_of (Sub v w u) = 0
tabs_of (Mul v w u) = 0
tabs_of (Div v w u) = 0
tabs_of (Inc v) = 0
tabs_of (Dec v) = 0
tabs_of (Adc v k) = 0
tabs_of (Pwm w hz) = 0
tabs_of (Rx v b) = 0
tabs_of (Tx w s b) = 0
tabs_of (Eebusy b) = 0
tabs_of (Eerd v a) = 0
tabs_of (Eewr w a) = 0

-- how many operations look a value up in a table
abbrev pub tabs_in : List IntOp → ℕ
tabs_in [] = 0
tabs_in (op ∷ ops) = tabs_of op + tabs_in ops

-- the program is small enough for each step behind it
pub record HasRoom (p : IntProgram) : Type 0 where
  pub ops : length p.ops ≤ 1000000
  pub tabs : tabs_in p.ops ≤ 40000
  pub bits : p.bits ≤ 100000

-- the program of a project
pub record IsLowered (n : Names) (q : Project) (p : IntProgram) : Type 0 where
  -- its cycles do what the ladder's do
  pub keeps : KeepsHistory n q p.ops
  pub formed : IsWellFormed p
  pub sizes : HasSizes n q p
  -- the operations are a piece for each element, in order
  pub code : p.ops ≡ program_code (layout_of n q.cycle (any_master (all_leaves q.rungs))) q.rungs
  -- they are of the kinds that the public list has, and so no more than the sum of the table of costs
  pub within : IsWithin (kinds p.kept_bits p.ops) (allowed q.rungs)
  pub cap : length p.ops ≤ total Ops Interp q.rungs
  -- the EEPROM is not written while it is busy
  pub careful : IsCareful p.ops
  -- the devices are those of the elements
  pub duty : has_pwm p.ops ≡ any_pwm (all_leaves q.rungs)
  pub hertz : hertz_in p.ops ≡ hertz_wanted (all_leaves q.rungs)
  pub serial : has_serial p.ops ≡ any_uart (all_leaves q.rungs)
  -- all that the next steps count is small
  pub numbers : AllHoldNumbers p.ops
  pub room : HasRoom p
  pub small : IsSmall n
