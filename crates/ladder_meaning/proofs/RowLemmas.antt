-- The worked rows, by computation.
use Rattle.std.proofs.Common.{refl}
use Rattle.std.specs.Fmt.{digits}
use Rattle.std.specs.Int.{int_wrap}
use Rattle.ladder_meaning.specs.Rows.{WorkedRows}

pub worked : WorkedRows
unfolding int_wrap digits
worked = record {
  on_delay_times = refl;
  on_delay_outputs = refl;
  off_delay_times = refl;
  off_delay_outputs = refl;
  up_counts = refl;
  up_outputs = refl;
  round_counts = refl;
  product = refl;
  quotient = refl;
  least_quotient = refl;
  quotient_by_0 = refl;
  second_place = refl;
  third_place = refl;
  last_place = refl;
  looked_up = refl;
  first_received = refl;
  second_received = refl;
  byte = refl;
  bytes_sent = refl;
  bytes_unsent = refl;
  second_sends = refl;
  persistent_numbers = refl;
  low_bytes = refl;
  high_bytes = refl;
  switched_off = refl;
  switched_on = refl;
  full_duty = refl;
}
