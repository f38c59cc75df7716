use Rattle.std.proofs.Common.{◌≡◌, drop}
use Rattle.ladder_trace.specs.Token.{place_from, place_in}
use Rattle.ladder_trace.proofs.token.place_of.Given as goal

abbrev pub invariant-loop-name : goal.invariant-loop-name
invariant-loop-name l = record {
  at : l.place ≡ l.name-index;
  rest : place_from l.place (drop l.name-index l.names) l.key ≡ place_in l.names l.key;
}
