-- What a chip shows has the sizes of the names.
use Rattle.std.proofs.Common.{ℕ, Option, length}
use Rattle.std.proofs.lemmas.List.{length-map}
use Rattle.std.proofs.lemmas.List.FromFn.{length-map-range_with_len}
use Rattle.ladder_rules.specs.Assigned.{name_bit}
use Rattle.ladder_tree.specs.declared.names.Names.{Names}
use Rattle.ladder_tree.specs.declared.project.Project.{Project}
use Rattle.ladder_trace.specs.Shown.{IsViewOf}
use Rattle.chip_meaning.specs.Chip.{View}
use Rattle.chip_run.specs.Shown.{shown_of, latch_at, kept_bit, number_at}

-- a level or a number is shown for each name
pub is_view : (p : Project) (n : Names) (v : View) (sent : Option ℕ) → IsViewOf n (shown_of p n v sent)
is_view p n v sent = record {
  outputs = length-map n.outputs (λ name. latch_at v (name_bit p name));
  relays = length-map-range_with_len (kept_bit p.target (length n.variables) v) 0 (length n.relays);
  variables = length-map-range_with_len (number_at p.target v) 0 (length n.variables);
}
