use Rattle.std.proofs.Common.{Bool, ap, ◌∙◌}
use Rattle.int_code.specs.Device.{checked}
use Rattle.int_code.specs.Held.{store_of}
use Rattle.int_code.specs.Store.{Devices, with, with_devices}
use Rattle.int_code.proofs.device.use_device.Goals as goal

pub returns-in-Eebusy-clause-store : goal.returns-in-Eebusy-clause-store
returns-in-Eebusy-clause-store c =
    let t = store_of c.args.state.now in
    let b = c.in-Eebusy.b in
    let devices = ap (λ (d : Devices). with (with_devices t d) b c.check-busy.result) c.check-busy.ensures.devices in
    let busy = ap (λ (v : Bool). with (with_devices t (checked t.devices)) b v) c.check-busy.ensures.busy in
    rw c.in-Eebusy.is (c.set_bit-in-Eebusy.ensures.store ∙ (devices ∙ busy))
