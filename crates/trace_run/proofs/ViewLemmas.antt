-- What a program shows has the sizes of the names.
use Rattle.std.proofs.Common.{◌∙◌, sym, length}
use Rattle.std.proofs.lemmas.List.FromFn.{length-map-range_with_len}
use Rattle.ladder_tree.specs.declared.names.Names.{Names}
use Rattle.ladder_trace.specs.declared.duty.DutyShown.{DutyShown}
use Rattle.ladder_trace.specs.Shown.{IsViewOf}
use Rattle.int_code.specs.Store.{Store}
use Rattle.int_code.specs.declared.op.IntProgram.{IntProgram}
use Rattle.int_sim.specs.Machine.{HasPlaces, view_by}

-- a level or a number is shown for each name
pub is_view : (duty : DutyShown) (n : Names) (p : IntProgram) (t : Store) → HasPlaces n p → IsViewOf n (view_by duty n p t)
is_view duty n p t places = record {
  outputs = length-map-range_with_len t.output 0 p.outputs ∙ sym places.outputs;
  relays = length-map-range_with_len t.bit 0 (length n.relays);
  variables = length-map-range_with_len t.number 0 p.variables ∙ sym places.variables;
}
