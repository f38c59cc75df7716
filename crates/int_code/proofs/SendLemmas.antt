-- A cycle sends one byte at most, and none where the transmitter still sends as it begins.
use Rattle.std.proofs.Common.{◌≡◌, ◌⊎◌, inl, inr, ℕ, ◌≤◌, ℤ, Bool, true, false, cond, List, [], ◌∷◌, ◌++◌, length, Option, None, Some, refl, sym, ◌∙◌, arith}
use Rattle.ladder_meaning.specs.Device.{low_byte}
use Rattle.ladder_meaning.specs.Numbers.{value_at}
use Rattle.ladder_meaning.specs.State.{Pending}
use Rattle.ladder_meaning.specs.declared.reading.Reading.{Reading}
use Rattle.int_code.specs.Device.{flushed, checked}
use Rattle.int_code.specs.Meaning.{Moment, is_reached, looked_up, received, transmitted, store_after, step, run, begin, cycle}
use Rattle.int_code.specs.Store.{Devices, Store, value_of, number_of, with, with_devices}
use Rattle.int_code.specs.declared.op.BitDest.{BitDest}
use Rattle.int_code.specs.declared.op.BitDest.TheVariants as dest
use Rattle.int_code.specs.declared.op.IntOp.{IntOp}
use Rattle.int_code.specs.declared.op.IntOp.TheVariants.{Set, Clr, Cpy, Not, Rx, Tx, Eebusy, Tab}

record SendsNone (d e : Devices) : Type 0 where
  busy : e.sending ≡ d.sending
  sent : e.sent ≡ d.sent

record SendsOne (d e : Devices) : Type 0 where
  free : d.sending ≡ false
  busy : e.sending ≡ true
  byte : ℕ
  sent : e.sent ≡ d.sent ++ byte ∷ []

-- from d to e
abbrev Sends : Devices → Devices → Type 0
Sends d e = SendsNone d e ⊎ SendsOne d e

same : (d : Devices) → Sends d d
same d = inl (record { busy = refl; sent = refl })

bit_sends : (d : Devices) (t : Store) (b : BitDest) (v : Bool) → Sends d t.devices → Sends d (with t b v).devices
bit_sends d t (dest.B k) v h = h
bit_sends d t (dest.Y k) v h = h

looked_sends : (t : Store) (v : ℕ) (o : Option ℤ) → Sends t.devices (looked_up t v o).devices
looked_sends t v None = same t.devices
looked_sends t v (Some n) = same t.devices

received_sends : (t : Store) (v : ℕ) (b : BitDest) (o : Option ℕ) → Sends t.devices (received t v b o).devices
received_sends t v b None = bit_sends t.devices t b false (same t.devices)
received_sends t v b (Some byte) = bit_sends t.devices _ b true (inl (record { busy = refl; sent = refl }))

send_by : (d : Devices) (n : ℤ) (b : Bool) → d.sending ≡ b → Sends d (cond b d (record d { sending = true; sent = d.sent ++ low_byte n ∷ [] }))
send_by d n true e = same d
send_by d n false e = inr (record { free = e; busy = refl; byte = low_byte n; sent = refl })

transmitted_sends : (t : Store) (wanted : Bool) (n : ℤ) → Sends t.devices (transmitted t wanted n).devices
transmitted_sends t true n = send_by t.devices n t.devices.sending refl
transmitted_sends t false n = same t.devices

flushed_sends : (d : Devices) (o : Option Pending) → Sends d (flushed d o)
flushed_sends d None = same d
flushed_sends d (Some p) = inl (record { busy = refl; sent = refl })

checked_by : (d : Devices) (b : Bool) → Sends d (cond b d (flushed d d.pending))
checked_by d true = same d
checked_by d false = flushed_sends d d.pending

op_sends : (r : Reading) (op : IntOp) (t : Store) → Sends t.devices (store_after r op t).devices
op_sends r (Set b) t = bit_sends t.devices t b true (same t.devices)
op_sends r (Clr b) t = bit_sends t.devices t b false (same t.devices)
op_sends r (Cpy b s) t = bit_sends t.devices t b _ (same t.devices)
op_sends r (Not b s) t = bit_sends t.devices t b _ (same t.devices)
op_sends r (Rx v b) t = received_sends t v b t.devices.received
op_sends r (Tx w s b) t = bit_sends t.devices _ b _ (transmitted_sends t (value_of r t s) (number_of t w))
op_sends r (Eebusy b) t = bit_sends t.devices (with_devices t (checked t.devices)) b _ (checked_by t.devices t.devices.writing)
op_sends r (Tab v w values) t = looked_sends t v (value_at values (number_of t w))
op_sends r op t = inl (record { busy = refl; sent = refl })

reached_sends : (b : Bool) (t u : Store) → Sends t.devices u.devices → Sends t.devices (cond b u t).devices
reached_sends true t u h = h
reached_sends false t u h = same t.devices

step_sends : (r : Reading) (op : IntOp) (m : Moment) → Sends m.store.devices (step r op m).store.devices
step_sends r op m = reached_sends (is_reached op m.ifs) m.store (store_after r op m.store) (op_sends r op m.store)

-- nothing was sent unless the transmitter sends
record SentOne (d : Devices) : Type 0 where
  idle : d.sending ≡ false → d.sent ≡ []
  most : length d.sent ≤ 1

keeps_one : (d e : Devices) → Sends d e → SentOne d → SentOne e
keeps_one d e (inl s) h = record { idle = λ f. s.sent ∙ h.idle (sym s.busy ∙ f); most = rw s.sent h.most }
keeps_one d e (inr s) h = let busy = s.busy in record { idle = λ f. absurd (cc); most = rw (s.sent, h.idle s.free) (omega arith) }

run_one : (r : Reading) (ops : List IntOp) (m : Moment) → SentOne m.store.devices → SentOne (run r ops m).store.devices
run_one r [] m h = h
run_one r (op ∷ ops) m h = run_one r ops (step r op m) (keeps_one m.store.devices (step r op m).store.devices (step_sends r op m) h)

pub cycle_one : (r : Reading) (ops : List IntOp) (t : Store) → length (cycle r ops t).store.devices.sent ≤ 1
cycle_one r ops t = (run_one r ops (begin r t) (record { idle = λ f. refl; most = omega arith })).most

record SentNone (d : Devices) : Type 0 where
  busy : d.sending ≡ true
  sent : d.sent ≡ []

keeps_none : (d e : Devices) → Sends d e → SentNone d → SentNone e
keeps_none d e (inl s) h = record { busy = s.busy ∙ h.busy; sent = s.sent ∙ h.sent }
keeps_none d e (inr s) h = let busy = h.busy in let free = s.free in absurd (cc)

run_none : (r : Reading) (ops : List IntOp) (m : Moment) → SentNone m.store.devices → SentNone (run r ops m).store.devices
run_none r [] m h = h
run_none r (op ∷ ops) m h = run_none r ops (step r op m) (keeps_none m.store.devices (step r op m).store.devices (step_sends r op m) h)

pub cycle_none : (r : Reading) (ops : List IntOp) (t : Store) → r.tx_busy ≡ true → (cycle r ops t).store.devices.sent ≡ []
cycle_none r ops t busy = (run_none r ops (begin r t) (record { busy = busy; sent = refl })).sent
