use Rattle.std.proofs.Common.{◌≡◌, [], drop, map}
use Rattle.ladder_trace.specs.Token.{tokens_give, IsReadingOf}
use Rattle.ladder_trace.specs.Held.{reading, given}
use Rattle.ladder_trace.proofs.token.take_tokens.Given as goal

abbrev pub invariant-loop-token : goal.invariant-loop-token
invariant-loop-token l = record {
  fits : IsReadingOf l.names (reading l.levels);
  rest : tokens_give l.names (given l.keys l.levels) (map (λ t. t.now) (drop l.token-index l.tokens)) ≡ tokens_give l.names record
      { keys = []; reading = reading l.fn.levels } (map (λ t. t.now) l.tokens);
}
