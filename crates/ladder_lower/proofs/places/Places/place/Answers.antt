use Rattle.std.proofs.Common.{ap, ◌∙◌}
use Rattle.ladder_meaning.specs.State.{place_of}
use Rattle.ladder_lower.proofs.PlaceLemmas.{found_at}
use Rattle.ladder_lower.proofs.places.Places.place.Goals as goal

pub returns-clause-exact : goal.returns-clause-exact
returns-clause-exact c =
    rw (c.unwrap_or.ensures, c.get_index_of-place.ensures.index, c.len.ensures.len, c.as_slice.ensures)
    (found_at c.self.inside.names.keys c.args.name.now ∙ ap (λ xs. place_of xs c.args.name.now) c.self.view_is)
