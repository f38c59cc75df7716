use Rattle.std.proofs.Common.{map}
use Rattle.ladder_trace.proofs.WordLemmas.{words_more, words_end}
use Rattle.ladder_trace.specs.Line.{tokens}
use Rattle.ladder_trace.proofs.reader.tokens.Goals as goal

pub loop-piece-preserved : goal.loop-piece-preserved
loop-piece-preserved c =
    words_more (map (λ t. t.now) c.loop-piece.found.items) (map (λ t. t.now) c.push_word.new.words.items) (tokens c.args.line.now) c.loop-piece.rest.now
    c.in-Some.piece.now c.in-Some.behind.now c.in-Some.ensures.piece
    c.in_ok-push_word.ensures c.loop-piece.invariant

pub returns : goal.returns
returns c =
    words_end (map (λ t. t.now) c.loop-piece.found.items) (map (λ t. t.now) c.push_word-2.new.words.items) (tokens c.args.line.now) c.loop-piece.rest.now
    c.in_default.ensures.none
    c.in_ok-push_word-2.ensures c.loop-piece.invariant
