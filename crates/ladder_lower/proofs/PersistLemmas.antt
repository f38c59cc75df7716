-- PERSIST: one check of the EEPROM stands for the two of the ladder.
use Rattle.std.proofs.Common.{◌≡◌, ℕ, ◌+◌, ◌||◌, not, Bool, true, false, cond, List, [], ◌∷◌, ◌++◌, Option, Some, None, refl, ap, ◌∙◌, arith}
use Rattle.std.proofs.lemmas.Cmp.{int_eq_equiv}
use Rattle.std.specs.Ordering.{int_eq}
use Rattle.ladder_meaning.specs.Device.{Went, low_byte, high_byte}
use Rattle.ladder_meaning.specs.Persist.{address_of, saved_number, with_byte, with_pending, with_loaded, Checked, check_pending, check, load, save, persist}
use Rattle.ladder_meaning.specs.State.{Now, Pending, with_number, place_of}
use Rattle.ladder_meaning.specs.declared.reading.Reading.{Reading}
use Rattle.int_code.specs.Device as device
use Rattle.int_code.specs.Meaning.{Moment, all_run, run}
use Rattle.int_code.specs.declared.op.BitDest.TheVariants as dest
use Rattle.int_code.specs.declared.op.BitSource.TheVariants as source
use Rattle.int_code.specs.declared.op.IntOp.TheVariants.{Set, Ifs, Ifc, Els, Fi, Eebusy, Eerd}
use Rattle.int_code.specs.declared.op.IntOp.{IntOp}
use Rattle.ladder_lower.specs.ElementCode.{persist_code, save_code}
use Rattle.ladder_lower.specs.Wires.{variable_of, flag_bit, power, spare}
use Rattle.ladder_lower.specs.declared.layout.Layout.{Layout}
use Rattle.ladder_lower.proofs.AfterLemmas.{after, one_after, then_after, inside, block_by}
use Rattle.ladder_lower.proofs.Lowers.{After}
use Rattle.ladder_lower.proofs.PlaceLemmas.{place_below, bytes_same}
use Rattle.ladder_lower.proofs.Stands.{Stands, devices_of, held}
use Rattle.ladder_lower.proofs.WriteLemmas.{besides, same}
use Rattle.ladder_lower.proofs.WroteLemmas.{nothing_wrote, number_wrote, flag_wrote, spare_wrote, devices_wrote}

-- a check, by whether the EEPROM writes and which byte waits
abbrev check_by : Now → Bool → Option Pending → Checked
check_by s b o = cond b (record { now = s; is_free = false }) (check_pending s o)

check_devices : (s : Now) (b : Bool) (o : Option Pending) → cond b (devices_of s) (device.flushed (devices_of s) o) ≡ devices_of (check_by s b o).now
check_devices s true o = refl
check_devices s false None = refl
check_devices s false (Some byte) = refl

check_answers : (s : Now) (b : Bool) (o : Option Pending) → b || device.waits o ≡ not (check_by s b o).is_free
check_answers s true o = refl
check_answers s false None = refl
check_answers s false (Some byte) = refl

check_same : (s : Now) (b : Bool) (o : Option Pending) → besides s ≡ besides (check_by s b o).now
check_same s true o = refl
check_same s false None = refl
check_same s false (Some byte) = refl

-- the moment behind a check, whose answer is on the spare wire
record Checks (p : Layout) (d : ℕ) (m l : Moment) (c : Checked) (x : Bool) : Type 0 where
  after : After p d m l (record { now = c.now; output = x })
  busy : l.store.bit (spare p) ≡ not c.is_free

-- a choice between two states that keeps the power
went_cond : (b : Bool) (l s : Now) (x : Bool)
    → cond {A = Went} b (record { now = l; output = x }) (record { now = s; output = x }) ≡ record { now = cond b l s; output = x }
went_cond true l s x = refl
went_cond false l s x = refl

-- what one check leaves: where the EEPROM is free, a variable that was loaded is saved, and another is loaded
abbrev loaded_now : ℕ → List ℕ → Now → Now
loaded_now address name s = with_loaded (with_number s name (saved_number s.kept address)) name

-- the low byte is written, and the high byte waits
abbrev saved_now : ℕ → List ℕ → Now → Now
saved_now address name s =
    let n = s.kept.number name in with_pending (with_byte s address (low_byte n)) (Some (record { address = address + 1; byte = high_byte n }))

abbrev is_saved : ℕ → List ℕ → Now → Bool
is_saved address name s = int_eq (saved_number s.kept address) (s.kept.number name)

abbrev once : ℕ → List ℕ → Checked → Now
once address name c =
    cond c.is_free (cond (c.now.kept.loaded name) (cond (is_saved address name c.now) c.now (saved_now address name c.now))
    (loaded_now address name c.now)) c.now

unless : {A : Type 0} (b : Bool) (x y : A) → cond (not b) x y ≡ cond b y x
unless true x y = refl
unless false x y = refl

-- a state whose EEPROM writes or not, and for which a byte waits or none
abbrev at : Now → Bool → Option Pending → Now
at s b o = record s { kept = record s.kept { pending = o }; writing = b }

-- A second check finds what the first did. Once the variable is loaded, it is what the EEPROM holds.
two_checks : (address : ℕ) (name : List ℕ) (s : Now) (b l : Bool) (o : Option Pending) → s.kept.loaded name ≡ l
    → save address name (load address name (at s b o)) ≡ once address name (check (at s b o))
two_checks address name s true true o e = rw e refl
two_checks address name s true false o e = rw e refl
two_checks address name s false true None e = rw e (unless (is_saved address name s) _ _)
two_checks address name s false false None e =
    let same : int_eq (saved_number s.kept address) (saved_number s.kept address) ≡ true = int_eq_equiv.refl (saved_number s.kept address) in
    rw (e, bytes_same name, same) refl
two_checks address name s false true (Some byte) e = rw e refl
two_checks address name s false false (Some byte) e = rw e refl

module _ (p : Layout) (r : Reading) (name : List ℕ) where
  abbrev variable : ℕ
  variable = variable_of p name

  abbrev place : ℕ
  place = place_of p.persistent name

  abbrev address : ℕ
  address = address_of p.persistent name

  abbrev asks : List IntOp
  asks = Eebusy (dest.B (spare p)) ∷ []

  -- where the EEPROM is free
  abbrev where_free : List IntOp
  where_free =
      Ifc (source.B (spare p)) ∷ Ifs (source.B (flag_bit p name))
      ∷ (save_code variable place ++ Els ∷ Eerd variable place ∷ Set (dest.B (flag_bit p name)) ∷ Fi ∷ Fi ∷ [])

  module _ (d : ℕ) (is : held p.persistent name ≡ true) (has : held p.variables name ≡ true) where
    checks : (m : Moment) (s : Now) (x : Bool) → m.store.bit (power p) ≡ x → all_run m.ifs ≡ true → Stands p s m.store → Checks p d m (run r asks m) (check s) x
    checks m s x v on sh =
        let some = place_below p.persistent name is in
        let c = check s in
        let ds = device.checked m.store.devices in
        let busy = device.is_busy m.store.devices in
        let e : ds ≡ devices_of c.now = rw sh.devices (check_devices s s.writing s.kept.pending) in
        let f : busy ≡ not c.is_free = rw sh.devices (check_answers s s.writing s.kept.pending) in
        record {
          after =
              one_after p r (Eebusy (dest.B (spare p))) d m (record { now = c.now; output = x }) refl on
              (spare_wrote busy (omega (arith, some)) (devices_wrote c.now ds e (check_same s s.writing s.kept.pending) (nothing_wrote s m.store x v sh)));
          busy = rw on (same (spare p) busy _ ∙ f);
        }

    loads : (m : Moment) (s : Now) (x : Bool) → m.store.bit (power p) ≡ x → m.store.bit (spare p) ≡ false → m.store.bit (flag_bit p name) ≡ false
        → all_run m.ifs ≡ true → Stands p s m.store → After p d m (run r where_free m) (record { now = loaded_now address name s; output = x })
    loads m s x v free flag on sh =
        let n = saved_number s.kept address in
        let e : device.saved m.store.devices place ≡ n = rw sh.devices refl in
        rw (on, free, flag, e) (after d m _ (flag_wrote name is (number_wrote name n has (nothing_wrote s m.store x v sh))))

    -- by whether the saved number is the variable's
    saves : (m : Moment) (s : Now) (x b : Bool) → is_saved address name s ≡ b → m.store.bit (power p) ≡ x → m.store.bit (spare p) ≡ false
        → m.store.bit (flag_bit p name) ≡ true → all_run m.ifs ≡ true → Stands p s m.store
        → After p d m (run r where_free m) (record { now = cond b s (saved_now address name s); output = x })
    saves m s x true w v free flag on sh =
        let e : int_eq (m.store.number variable) (device.saved m.store.devices place) ≡ true = rw (sh.devices, sh.numbers name has)
        (int_eq_equiv.symm (s.kept.number name) (saved_number s.kept address) ∙ w) in
        rw (on, free, flag, e) (after d m _ (nothing_wrote s m.store x v sh))
    saves m s x false w v free flag on sh =
        let e : int_eq (m.store.number variable) (device.saved m.store.devices place) ≡ false = rw (sh.devices, sh.numbers name has)
        (int_eq_equiv.symm (s.kept.number name) (saved_number s.kept address) ∙ w) in
        let ds = device.saves m.store.devices place (m.store.number variable) in
        let f : ds ≡ devices_of (saved_now address name s) = rw (sh.devices, sh.numbers name has) refl in
        rw (on, free, flag, e) (after d m _ (devices_wrote (saved_now address name s) ds f refl (nothing_wrote s m.store x v sh)))

    -- behind the check, by its answer and the start flag
    free_by : (m : Moment) (c : Checked) (x b l : Bool) → c.is_free ≡ b → c.now.kept.loaded name ≡ l → m.store.bit (power p) ≡ x
        → m.store.bit (spare p) ≡ not c.is_free → all_run m.ifs ≡ true → Stands p c.now m.store
        → After p d m (run r where_free m) (record { now = once address name c; output = x })
    free_by m c x false l e f v busy on sh =
        let w : m.store.bit (spare p) ≡ true = busy ∙ ap not e in
        rw (e, on, w) (after d m _ (nothing_wrote c.now m.store x v sh))
    free_by m c x true true e f v busy on sh = rw (e, f) (saves m c.now x (is_saved address name c.now) refl v (busy ∙ ap not e) (sh.loaded name is ∙ f) on sh)
    free_by m c x true false e f v busy on sh = rw (e, f) (loads m c.now x v (busy ∙ ap not e) (sh.loaded name is ∙ f) on sh)

    asked : (m : Moment) (s : Now) (x : Bool) → m.store.bit (power p) ≡ x → all_run m.ifs ≡ true → Stands p s m.store
        → After p d m (run r (asks ++ where_free) m) (record { now = once address name (check s); output = x })
    asked m s x v on sh =
        let c = check s in
        let f = checks m s x v on sh in
        let n = run r asks m in
        then_after p r asks where_free d m (record { now = c.now; output = x }) (record { now = once address name c; output = x }) f.after
        (free_by n c x c.is_free (c.now.kept.loaded name) refl refl f.after.power f.busy (ap all_run f.after.ifs ∙ on) f.after.shows)

    pub persist_done : (m : Moment) (s : Now) → all_run m.ifs ≡ true → Stands p s m.store
        → After p d m (run r (persist_code p name) m)
        (record { now = cond (m.store.bit (power p)) (persist p.persistent name s) s; output = m.store.bit (power p) })
    persist_done m s on sh =
        let x = m.store.bit (power p) in
        let l = once address name (check s) in
        let e : persist p.persistent name s ≡ l = two_checks address name s s.writing (s.kept.loaded name) s.kept.pending refl in
        let on1 : all_run (inside m).ifs ≡ true = rw on refl in
        rw e (rw (← went_cond x l s x)
        (block_by p r (Ifs (source.B (power p))) (asks ++ where_free) d m s (record { now = l; output = x }) x
        (record { opens = refl; writes_none = refl; runs = refl }) refl on sh (λ e. asked (inside m) s x refl on1 sh)))
