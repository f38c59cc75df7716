use Rattle.std.proofs.Common.{◌≡◌, ◌≢◌, take, All}
use Rattle.texts.proofs.lines.first_place.Given as goal

abbrev pub invariant-loop-byte : goal.invariant-loop-byte
invariant-loop-byte l = record {
  place_at : l.place ≡ l.byte-index;
  clean : All (λ x. x ≢ l.separator) (take l.byte-index l.text);
}
