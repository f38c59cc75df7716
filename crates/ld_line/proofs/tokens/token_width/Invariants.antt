use Rattle.std.proofs.Common.{◌≡◌, ◌+◌, drop}
use Rattle.std.specs.List.{position_or_len}
use Rattle.ld_line.specs.Tokens.{is_blank}
use Rattle.ld_line.proofs.tokens.token_width.Given as goal

abbrev pub invariant-loop-byte : goal.invariant-loop-byte
invariant-loop-byte l = record {
  place_at : l.width ≡ l.byte-index;
  rest : l.byte-index + position_or_len is_blank (drop l.byte-index l.bytes) ≡ position_or_len is_blank l.bytes;
}
