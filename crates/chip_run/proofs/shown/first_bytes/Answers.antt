use Rattle.std.proofs.Common.{arith}
use Rattle.std.proofs.lemmas.List.FromFn.{map-range_with_len_more}
use Rattle.chip_run.proofs.shown.first_bytes.Goals as goal

pub loop-address-preserved : goal.loop-address-preserved
loop-address-preserved g c =
    let byte = (g.M.ChipMachine.chip.view c.args.machine.now).eeprom in
    let more = map-range_with_len_more byte 0 c.loop-address.address c.loop-address.address (omega arith) in
    rw (more, ← c.eeprom.ensures, ← c.loop-address.invariant) c.in_ok-push.ensures.ok
