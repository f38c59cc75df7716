use Rattle.std.proofs.Common.{sym, ap}
use Rattle.std.specs.Prelude.{option_map}
use Rattle.chip_tables.specs.Pins.{is_at, port_bit_of}
use Rattle.chip_tables.proofs.FoundLemmas.{some_found, none_found}
use Rattle.chip_tables.proofs.pins.port_bit.Goals as goal

pub returns-in-Some : goal.returns-in-Some
returns-in-Some g c =
    sym (ap (option_map port_bit_of) (some_found (is_at c.args.pin) c.args.rows.now c.in-Some.place _ (sym c.in-Some.ensures)))

pub returns-in-None : goal.returns-in-None
returns-in-None g c = sym (ap (option_map port_bit_of) (none_found (is_at c.args.pin) c.args.rows.now (sym c.in-None.ensures)))
