-- Where names, memories and wires stand among the numbered bits and variables. The bits are relays, then memories, then start
-- flags, then wires.
use Rattle.std.specs.Prelude.{ℕ, ◌+◌, ◌*◌, ◌^◌, ◌<◌, min, Bool, true, false, List, length, if◌then◌else◌}
use Rattle.ladder_tree.specs.declared.element.Operand.{Operand}
use Rattle.ladder_tree.specs.declared.element.Operand.TheVariants.{Var, Num}
use Rattle.ladder_tree.specs.declared.names.Names.{Names}
use Rattle.ladder_tree.specs.Names.{is_input, is_output}
use Rattle.ladder_meaning.specs.State.{place_of}
use Rattle.int_code.specs.declared.op.BitDest.{BitDest}
use Rattle.int_code.specs.declared.op.BitDest.TheVariants as dest
use Rattle.int_code.specs.declared.op.BitSource.{BitSource}
use Rattle.int_code.specs.declared.op.BitSource.TheVariants as source
use Rattle.int_code.specs.declared.op.NumSource.{NumSource}
use Rattle.int_code.specs.declared.op.NumSource.TheVariants.{V, N}
use Rattle.ladder_lower.specs.declared.layout.Layout.{Layout}

-- the layout of a project's names
abbrev pub layout_of : Names → ℕ → Bool → Layout
layout_of n cycle master = record {
  inputs = n.inputs;
  outputs = n.outputs;
  relays = n.relays;
  variables = n.variables;
  analog = n.analog;
  persistent = n.persistent;
  memories = n.memories;
  cycle = cycle;
  has_master = master;
}

abbrev pub dest_by : Bool → Layout → List ℕ → BitDest
dest_by true p name = dest.Y (place_of p.outputs name)
dest_by false p name = dest.B (place_of p.relays name)

-- the bit that a coil writes
abbrev pub dest_of : Layout → List ℕ → BitDest
dest_of p name = dest_by (is_output name) p name

abbrev pub source_by : Bool → Bool → Layout → List ℕ → BitSource
source_by true y p name = source.X (place_of p.inputs name)
source_by false true p name = source.Y (place_of p.outputs name)
source_by false false p name = source.B (place_of p.relays name)

-- the bit that a contact reads
abbrev pub source_of : Layout → List ℕ → BitSource
source_of p name = source_by (is_input name) (is_output name) p name

abbrev pub variable_of : Layout → List ℕ → ℕ
variable_of p name = place_of p.variables name

-- the number that an operand reads
abbrev pub number_of : Layout → Operand → NumSource
number_of p (Var name) = V (variable_of p name)
number_of p (Num n) = N n

abbrev pub memory_bit : Layout → ℕ → ℕ
memory_bit p k = length p.relays + k

-- the start flag of a persistent variable
abbrev pub flag_bit : Layout → List ℕ → ℕ
flag_bit p name = length p.relays + (p.memories + place_of p.persistent name)

abbrev pub wire : Layout → ℕ → ℕ
wire p j = length p.relays + (p.memories + (length p.persistent + j))

-- the wire that an element finds its input on, and leaves its output on
abbrev pub power : Layout → ℕ
power p = wire p 0

-- how many wires keep the master relay bit
abbrev pub masters : Layout → ℕ
masters p = if p.has_master then 1 else 0

abbrev pub master : Layout → ℕ
master p = wire p 1

-- how many wires keep a level for a moment: an element with a memory or a start flag wants one
abbrev pub spares : Layout → ℕ
spares p = min 1 (p.memories + length p.persistent)

abbrev pub spare : Layout → ℕ
spare p = wire p (1 + masters p)

-- how many wires there are outside of all PARALLELs, and inside d of them
abbrev pub outer_wires : Layout → ℕ
outer_wires p = 1 + masters p + spares p

abbrev pub wires : Layout → ℕ → ℕ
wires p d = outer_wires p + 2 * d

-- the input of a PARALLEL inside d others, and the OR of its branches so far
abbrev pub in_wire : Layout → ℕ → ℕ
in_wire p d = wire p (wires p d)

abbrev pub or_wire : Layout → ℕ → ℕ
or_wire p d = wire p (wires p d + 1)

-- numbers of bits, with the wires inside d PARALLELs, and of all else fit 32 bits
pub record Fits (p : Layout) (d : ℕ) : Type 0 where
  pub bits : wire p (wires p d) < 2 ^ 32
  pub inputs : length p.inputs < 2 ^ 32
  pub outputs : length p.outputs < 2 ^ 32
  pub variables : length p.variables < 2 ^ 32
  pub analog : length p.analog < 2 ^ 32
