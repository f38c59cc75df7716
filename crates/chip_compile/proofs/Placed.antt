-- The program of a project that keeps the rules has its places on the chip.
use Rattle.std.proofs.Common.{◌≡◌, ℕ, ◌<◌, List, [], map, Option, Some, None, sym, subst, ◌∙◌}
use Rattle.std.proofs.lemmas.List.Elements.{All-from_get_or, All-map}
use Rattle.std.specs.Prelude.{All, slice_index_or}
use Rattle.std.specs.Option.{option_and_then}
use Rattle.chip_tables.proofs.PinLemmas.{carried}
use Rattle.chip_tables.specs.Pins.{port_bit_at}
use Rattle.chip_tables.specs.declared.pins.PortBit.{PortBit}
use Rattle.ladder_tree.specs.Leaves.{all_leaves}
use Rattle.ladder_tree.specs.Names.{names_of}
use Rattle.ladder_tree.specs.declared.project.Project.{Project}
use Rattle.ladder_meaning.specs.Cycle.{start_number}
use Rattle.ladder_rules.proofs.AssignedLemmas.{have_pins, within_ports}
use Rattle.ladder_rules.specs.Assigned.{name_bit}
use Rattle.ladder_rules.specs.Pins.{pin_of}
use Rattle.ladder_lower.proofs.LiteralLemmas.{start_is_number}
use Rattle.int_code.specs.Literals.{IsNumber}
use Rattle.byte_lower.proofs.FormedLemmas.{formed_is_placed}
use Rattle.byte_lower.proofs.PinLemmas.{there, as_many, has_pins}
use Rattle.byte_lower.specs.Layout.{pin_at}
use Rattle.chip_compile.specs.Placed.{LinkedIsPlaced}

abbrev IsInPorts : PortBit → Type 0
IsInPorts b = (b.port < 5) × (b.bit < 8)

name_in_ports : (p : Project) (name : List ℕ) (b : PortBit) → name_bit p name ≡ Some b → IsInPorts b
name_in_ports p name b e = by (pin_of p.pins name) e
  where
    by : (x : Option ℕ) → option_and_then (port_bit_at p.target) x ≡ Some b → IsInPorts b
    by None f = absurd (cc)
    by (Some q) f = let at = carried p.target q b f in within_ports p.target (Some b) (at.port, at.bit)

pins_in_ports : (p : Project) (names : List (List ℕ)) (pins : List PortBit) → map Some pins ≡ map (name_bit p) names → All IsInPorts pins
pins_in_ports p names pins e =
    All-from_get_or IsInPorts pins (record { port = 0; bit = 0 })
    (λ k h. name_in_ports p (slice_index_or names k []) (pin_at pins k) (there (name_bit p) pins names k e h))

pub linked_is_placed : LinkedIsPlaced
linked_is_placed p o program chip kept fit linked built =
    let names = names_of p.rungs in
    let lowered = linked.lowered in
    let sizes = lowered.sizes in
    let number = start_number p.cycle (all_leaves p.rungs) in
    let starts : All IsNumber program.starts =
    subst (All IsNumber) (sym sizes.starts) (All-map IsNumber number names.variables (λ k d lt. start_is_number p.cycle (all_leaves p.rungs) _ fit)) in
    formed_is_placed o program (record {
      plan = linked.sizes;
      inputs = as_many (name_bit p) o.inputs names.inputs linked.inputs ∙ sym sizes.inputs;
      outputs = as_many (name_bit p) o.outputs names.outputs linked.outputs ∙ sym sizes.outputs;
      wires = sizes.wires;
      pins = has_pins p names o (have_pins p chip kept) linked.inputs linked.outputs (pins_in_ports p names.inputs o.inputs linked.inputs)
          (pins_in_ports p names.outputs o.outputs linked.outputs);
    }) lowered.formed built lowered.numbers starts lowered.room.ops
