-- A small program and a layout for it.
use Rattle.std.specs.Prelude.{◌≡◌, ℕ, [], ◌∷◌, pos}
use Rattle.chip_tables.specs.declared.pins.PortBit.{PortBit}
use Rattle.chip_tables.specs.declared.target.Target.TheVariants.{Mega16}
use Rattle.int_code.specs.declared.op.BitDest.TheVariants as dest
use Rattle.int_code.specs.declared.op.BitSource.TheVariants as source
use Rattle.int_code.specs.declared.op.IntOp.TheVariants.{Set, Clr, Cpy, Ifs, Ifc, Iflt, Els, Fi, Inc}
use Rattle.int_code.specs.declared.op.IntProgram.{IntProgram}
use Rattle.int_code.specs.declared.op.NumSource.TheVariants.{V, N}
use Rattle.byte_lower.specs.declared.layout.Layout.{Layout}

abbrev pub pin : ℕ → ℕ → PortBit
pin port b = record { port = port; bit = b }

-- it counts how often its input rises, and switches its output on from the fifth time on
abbrev pub rises : IntProgram
rises = record {
  ops =
      Ifs (source.X 0) ∷ Ifc (source.B 0) ∷ Inc 0 ∷ Fi ∷ Fi ∷ Cpy (dest.B 0) (source.X 0)
      ∷ Iflt (V 0) (N (pos 5)) ∷ Clr (dest.Y 0) ∷ Els ∷ Set (dest.Y 0) ∷ Fi ∷ [];
  inputs = 1;
  outputs = 1;
  analogs = 0;
  variables = 1;
  kept_bits = 1;
  bits = 1;
  persistent = 0;
  starts = pos 0 ∷ [];
}

-- on an ATmega16, with the input at B0 and the output at B1
pub record IsAtPortB (o : Layout) : Type 0 where
  pub target : o.plan.target ≡ Mega16
  pub variables : o.plan.sizes.variables ≡ 1
  pub kept : o.plan.sizes.kept_bits ≡ 1
  pub inputs : o.inputs ≡ pin 1 0 ∷ []
  pub outputs : o.outputs ≡ pin 1 1 ∷ []
