-- The PWM and the serial line.
use Rattle.std.proofs.Common.{◌≡◌, ℕ, Bool, true, false, cond, List, [], ◌∷◌, ◌++◌, Option, Some, None, refl, sym, ap, subst, pos}
use Rattle.ladder_meaning.specs.Device.{low_byte, with_duty, receive, send}
use Rattle.ladder_meaning.specs.State.{Now, with_number}
use Rattle.ladder_meaning.specs.declared.reading.Reading.{Reading}
use Rattle.int_code.specs.Device as device
use Rattle.int_code.specs.Meaning as int
use Rattle.int_code.specs.Meaning.{Moment, all_run, run}
use Rattle.int_code.specs.Store.{Devices}
use Rattle.int_code.specs.declared.op.BitDest.TheVariants as dest
use Rattle.int_code.specs.declared.op.BitSource.TheVariants as source
use Rattle.int_code.specs.declared.op.IntOp.TheVariants.{Pwm, Rx, Tx}
use Rattle.int_code.specs.declared.op.NumSource.TheVariants.{V}
use Rattle.ladder_lower.specs.ElementCode.{where_power}
use Rattle.ladder_lower.specs.Wires.{variable_of, power}
use Rattle.ladder_lower.specs.declared.layout.Layout.{Layout}
use Rattle.ladder_lower.proofs.AfterLemmas.{after, where_by, where_done}
use Rattle.ladder_lower.proofs.Lowers.{After}
use Rattle.ladder_lower.proofs.Stands.{Stands, devices_of, held}
use Rattle.ladder_lower.proofs.WriteLemmas.{besides}
use Rattle.ladder_lower.proofs.WroteLemmas.{Wrote, nothing_wrote, power_wrote, number_wrote, devices_wrote, output_is}

-- the devices behind a choice between two states
chosen : (b : Bool) (s l : Now) → cond b (devices_of s) (devices_of l) ≡ devices_of (cond b s l)
chosen true s l = refl
chosen false s l = refl

-- a byte that is sent changes the devices alone
send_same : (b : Bool) (s : Now) (bytes : List ℕ) → besides s ≡ besides (cond b s (record s { sending = true; sent = bytes }))
send_same true s bytes = refl
send_same false s bytes = refl

module _ (p : Layout) (r : Reading) (d : ℕ) (m : Moment) (s : Now) (name : List ℕ) where
  pub pwm_done : (hz : ℕ) → held p.variables name ≡ true → all_run m.ifs ≡ true → Stands p s m.store
      → After p d m (run r (where_power p (Pwm (V (variable_of p name)) hz)) m)
      (record { now = cond (m.store.bit (power p)) (with_duty s (s.kept.number name)) s; output = m.store.bit (power p) })
  pwm_done hz h on sh =
      let l = with_duty s (s.kept.number name) in
      where_done p r (Pwm (V (variable_of p name)) hz) d m s l (m.store.bit (power p)) refl refl on sh
      (λ e. devices_wrote l (device.with_duty m.store.devices (m.store.number (variable_of p name))) (rw (sh.devices, sh.numbers name h) refl) refl
      (nothing_wrote s m.store true e sh))

  receive_wrote : (o : Option ℕ) → held p.variables name ≡ true → Stands p s m.store
      → Wrote p m.store (int.received m.store (variable_of p name) (dest.B (power p)) o) (receive name s o)
  receive_wrote None h sh = power_wrote false (nothing_wrote s m.store _ refl sh)
  receive_wrote (Some byte) h sh =
      let l = with_number (record s { received = None }) name (pos byte) in
      power_wrote true (devices_wrote l (record m.store.devices { received = None }) (rw sh.devices refl) refl
      (number_wrote name (pos byte) h (nothing_wrote s m.store _ refl sh)))

  pub receive_done : held p.variables name ≡ true → all_run m.ifs ≡ true → Stands p s m.store
      → After p d m (run r (where_power p (Rx (variable_of p name) (dest.B (power p)))) m)
      (cond (m.store.bit (power p)) (receive name s s.received) (record { now = s; output = false }))
  receive_done h on sh =
      let e : m.store.devices.received ≡ s.received = rw sh.devices refl in
      where_by p r (Rx (variable_of p name) (dest.B (power p))) d m s (receive name s s.received) (m.store.bit (power p)) refl refl on sh
      (λ v. subst (λ (o : Option ℕ). Wrote p m.store (int.received m.store (variable_of p name) (dest.B (power p)) o) (receive name s s.received)) (sym e)
      (receive_wrote s.received h sh))

  abbrev sends : Moment
  sends = run r (Tx (V (variable_of p name)) (source.B (power p)) (dest.B (power p)) ∷ []) m

  send_by : (x : Bool) → m.store.bit (power p) ≡ x → held p.variables name ≡ true → all_run m.ifs ≡ true → Stands p s m.store
      → After p d m sends (cond x (record { now = send name s; output = (send name s).sending }) (record { now = s; output = s.sending }))
  send_by true v h on sh =
      let n = s.kept.number name in
      let bytes = s.sent ++ low_byte n ∷ [] in
      let ds = device.sends m.store.devices (m.store.number (variable_of p name)) in
      let e : ds ≡ devices_of (send name s) = rw (sh.devices, sh.numbers name h) (chosen s.sending s (record s { sending = true; sent = bytes })) in
      let f = devices_wrote (send name s) ds e (send_same s.sending s bytes) (nothing_wrote s m.store _ refl sh) in
      rw (on, v) (after d m _ (output_is (send name s).sending (ap (λ (x : Devices). x.sending) e) (power_wrote ds.sending f)))
  send_by false v h on sh =
      let e : m.store.devices.sending ≡ s.sending = rw sh.devices refl in
      rw (on, v) (after d m _ (output_is s.sending e (power_wrote m.store.devices.sending (nothing_wrote s m.store false v sh))))

  pub send_done : held p.variables name ≡ true → all_run m.ifs ≡ true → Stands p s m.store
      → After p d m sends (cond (m.store.bit (power p)) (record { now = send name s; output = (send name s).sending }) (record { now = s; output = s.sending }))
  send_done h on sh = send_by (m.store.bit (power p)) refl h on sh
