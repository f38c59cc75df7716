-- What code for a layout may use of its chip.
use Rattle.std.specs.Prelude.{[], false}
use Rattle.byte_code.specs.Admitted.{Outfit}
use Rattle.byte_lower.specs.declared.layout.Layout.{Layout}

-- the pins of its inputs and outputs, and no device
abbrev pub outfit_of : Layout → Outfit
outfit_of o = record { target = o.plan.target; inputs = o.inputs; outputs = o.outputs; channels = []; serial = false; modulated = false }
