-- Programs for which a layout has the places.
use Rattle.std.specs.Prelude.{◌≡◌, ◌≤◌, ◌+◌, true, length, All}
use Rattle.chip_tables.specs.declared.scratch.TheConstants.{WIRES}
use Rattle.mem_plan.specs.Needs.{sizes_of}
use Rattle.int_code.specs.Literals.{AllHoldNumbers, IsNumber}
use Rattle.int_code.specs.WellFormed.{IsWellFormed}
use Rattle.int_code.specs.declared.op.IntProgram.{IntProgram}
use Rattle.byte_lower.specs.Code.{CanPlace}
use Rattle.byte_lower.specs.Layout.{HasPins}
use Rattle.byte_lower.specs.Lists.{is_built}
use Rattle.byte_lower.specs.declared.layout.Layout.{Layout}

-- the plan is for the program, each input and output has its pin, and the compiler has a bit for each wire
pub record HasPlaces (o : Layout) (p : IntProgram) : Type 0 where
  pub plan : o.plan.sizes ≡ sizes_of p
  pub inputs : length o.inputs ≡ p.inputs
  pub outputs : length o.outputs ≡ p.outputs
  pub wires : p.bits ≤ p.kept_bits + WIRES
  pub pins : HasPins o

-- A well-formed program of operations that are lowered and of numbers of 16 bits can be placed where it has places.
abbrev pub FormedIsPlaced : Type 0
FormedIsPlaced =
    (o : Layout) (p : IntProgram) → HasPlaces o p → IsWellFormed p → All (λ op. is_built op ≡ true) p.ops → AllHoldNumbers p.ops → All IsNumber p.starts →
    length p.ops ≤ 1000000 → CanPlace o p
