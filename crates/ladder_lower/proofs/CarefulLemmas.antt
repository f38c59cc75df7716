-- A program begins no write to the EEPROM while that is busy.
use Rattle.std.proofs.Common.{◌≡◌, ℕ, ◌&&◌, ◌||◌, not, Bool, true, false, cond, nat_eq, List, [], ◌∷◌, ◌++◌, refl, ap, ◌∙◌, arith}
use Rattle.std.proofs.lemmas.Bool.Decides.{nat_tests}
use Rattle.std.specs.Prelude.{Option, None, Some}
use Rattle.ladder_tree.specs.declared.element.LeafKind.TheVariants.{Table, SetPwm, Recv, Send, Persist}
use Rattle.ladder_tree.specs.declared.element.LeafKind.{LeafKind}
use Rattle.ladder_tree.specs.declared.project.Rung.{Rung}
use Rattle.ladder_meaning.specs.State.{place_of, Pending}
use Rattle.ladder_meaning.specs.declared.reading.Reading.{Reading}
use Rattle.int_code.specs.Device.{waits, is_busy, checked}
use Rattle.int_code.specs.Meaning.{Moment, all_run, is_reached, store_after, step, begin}
use Rattle.int_code.specs.Store.{Devices, Store}
use Rattle.int_code.specs.declared.op.BitDest.TheVariants as dest
use Rattle.int_code.specs.declared.op.BitSource.TheVariants as source
use Rattle.int_code.specs.declared.op.IntOp.TheVariants.{Ifs, Ifc, Ifee, Els, Pwm, Rx, Tx, Eebusy, Eewr, Tab}
use Rattle.int_code.specs.declared.op.IntOp.{IntOp}
use Rattle.int_code.specs.declared.op.NumSource.TheVariants.{V}
use Rattle.ladder_lower.specs.Careful.{RunsCarefully, IsCareful}
use Rattle.ladder_lower.specs.ElementCode.{persist_code, element_code}
use Rattle.ladder_lower.specs.Nesting.{nesting_of_all}
use Rattle.ladder_lower.specs.NodeCode.{program_code}
use Rattle.ladder_lower.specs.Wires.{variable_of, flag_bit, power, spare}
use Rattle.ladder_lower.specs.declared.layout.Layout.{Layout}
use Rattle.ladder_lower.proofs.OrdinaryLemmas.{any_special, element_plain}
use Rattle.ladder_lower.proofs.PartLemmas.{IsShared, Ready, program_holds}

-- from each moment
record RunsWell (ops : List IntOp) : Type 0 where
  each : (r : Reading) (m : Moment) → RunsCarefully r ops m

plain_well : (r : Reading) (ops : List IntOp) (m : Moment) → any_special ops ≡ false → RunsCarefully r ops m
plain_well r [] m e = tt
plain_well r (Pwm w hz ∷ ops) m e = absurd (cc)
plain_well r (Rx v b ∷ ops) m e = absurd (cc)
plain_well r (Tx w s b ∷ ops) m e = absurd (cc)
plain_well r (Eewr w a ∷ ops) m e = absurd (cc)
plain_well r (Tab v w values ∷ ops) m e = absurd (cc)
plain_well r (op ∷ ops) m e = ((λ on. tt), plain_well r ops (step r op m) e)

plain : (ops : List IntOp) → any_special ops ≡ false → RunsWell ops
plain ops e = record { each = λ r m. plain_well r ops m e }

then_well : (r : Reading) (a b : List IntOp) (m : Moment) → RunsCarefully r a m → RunsWell b → RunsCarefully r (a ++ b) m
then_well r [] b m f g = g.each r m
then_well r (op ∷ a) b m f g = (f.0, then_well r a b (step r op m) f.1 g)

both_well : (a b : List IntOp) → RunsWell a → RunsWell b → RunsWell (a ++ b)
both_well a b f g = record { each = λ r m. then_well r a b m (f.each r m) g }

well_shared : (p : Layout) (deep : ℕ) → IsShared p deep (λ ls ops. RunsWell ops)
well_shared p deep = record {
  none = plain [] refl;
  both = λ ls ms. both_well;
  set = λ i lt. plain _ refl;
  clear = λ i lt. plain _ refl;
  copy = λ i j lt le. plain _ refl;
  set_where = λ i j lt le. plain _ refl;
}

free_by : (d : Devices) (writing : Bool) (pending : Option Pending) → d.writing ≡ writing → d.pending ≡ pending → (d.writing || waits d.pending) ≡ false
    → (checked d).writing ≡ false
free_by d true pending e f free = absurd (cc)
free_by d false (Some b) e f free = absurd (let q : true ≡ false = rw (e, f) at free in cc)
free_by d false None e f free = rw (e, f) refl

-- a check that answers that the EEPROM is not busy leaves it as it was
free : (d : Devices) → is_busy d ≡ false → (checked d).writing ≡ false
free d e = free_by d d.writing d.pending refl refl e

same_bit : (i : ℕ) → nat_eq i i ≡ true
same_bit i = grind (arith, nat_tests)

-- an operation that writes nothing leaves the store, whether it is executed or not
still : (r : Reading) (op : IntOp) (m : Moment) → store_after r op m.store ≡ m.store → (step r op m).store ≡ m.store
still r op m e = still_by (is_reached op m.ifs) m.store e
  where
    still_by : (b : Bool) (t : Store) → store_after r op t ≡ t → cond b (store_after r op t) t ≡ t
    still_by true t e = e
    still_by false t e = refl

on_first : (on b f x : Bool) → (((on && not b) && f) && x) ≡ true → on ≡ true
on_first true b f x o = refl
on_first false b f x o = absurd (cc)

not_second : (on b f x : Bool) → (((on && not b) && f) && x) ≡ true → b ≡ false
not_second on false f x o = refl
not_second true true f x o = absurd (cc)
not_second false true f x o = absurd (cc)

-- a check whose bit is false left the EEPROM not busy
checked_free : (r : Reading) (k : ℕ) (m : Moment) → all_run m.ifs ≡ true → (step r (Eebusy (dest.B k)) m).store.bit k ≡ false
    → (step r (Eebusy (dest.B k)) m).store.devices.writing ≡ false
checked_free r k m on answer = rw on (free m.store.devices (rw (on, same_bit k) at answer))

-- a number is written where the check answered that the EEPROM is not busy
persist_well : (p : Layout) (name : List ℕ) (r : Reading) (m : Moment) → RunsCarefully r (persist_code p name) m
persist_well p name r m =
    let v = variable_of p name in
    let a = place_of p.persistent name in
    let powered = step r (Ifs (source.B (power p))) m in
    let asked = step r (Eebusy (dest.B (spare p))) powered in
    let inside = step r (Ifc (source.B (spare p))) asked in
    let loaded = step r (Ifs (source.B (flag_bit p name))) inside in
    let same = step r (Ifee v a) loaded in
    let other = step r Els same in
    let kept : other.store ≡ asked.store = still r Els same refl ∙ still r (Ifee v a) loaded refl ∙ still r (Ifs (source.B (flag_bit p name))) inside refl
    ∙ still r (Ifc (source.B (spare p))) asked refl in
    let writes : is_reached (Eewr (V v) a) other.ifs ≡ true → other.store.devices.writing ≡ false =
    λ o. ap (λ (t : Store). t.devices.writing) kept
    ∙ checked_free r (spare p) powered (on_first (all_run powered.ifs) (asked.store.bit (spare p)) _ _ o)
    (not_second (all_run powered.ifs) (asked.store.bit (spare p)) _ _ o) in
    (λ o. tt, (λ o. tt, (λ o. tt, (λ o. tt, (λ o. tt, (λ o. tt, (writes, (λ o. tt, (λ o. tt, (λ o. tt, (λ o. tt, (λ o. tt, (λ o. tt, (λ o. tt, tt))))))))))))))

element_well : (p : Layout) (kind : LeafKind) (k : ℕ) → RunsWell (element_code p kind k)
element_well p (SetPwm name hz) k = record { each = λ r m. (λ o. tt, (λ o. tt, (λ o. tt, tt))) }
element_well p (Recv name) k = record { each = λ r m. (λ o. tt, (λ o. tt, (λ o. tt, tt))) }
element_well p (Send name) k = record { each = λ r m. (λ o. tt, tt) }
element_well p (Persist name) k = record { each = persist_well p name }
element_well p (Table dest index as_text values) k = record { each = λ r m. (λ o. tt, (λ o. tt, (λ o. tt, tt))) }
element_well p kind k = plain (element_code p kind k) (element_plain p kind k)

pub program_careful : (p : Layout) (gs : List Rung) → Ready p gs → IsCareful (program_code p gs)
program_careful p gs ready =
    let well = program_holds p (nesting_of_all gs) (λ ls ops. RunsWell ops) (well_shared p (nesting_of_all gs)) (λ l k apt lt. element_well p l.kind k) gs
    (omega arith) ready in
    record { each = λ r t. well.each r (begin r t) }
