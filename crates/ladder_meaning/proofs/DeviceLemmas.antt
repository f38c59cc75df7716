-- What elements do to the devices: each sends at most one byte and writes at most one, and only while the device is free; then it is busy.
use Rattle.std.proofs.Common.{◌≡◌, ◌≢◌, ◌⊎◌, inl, inr, ℕ, zero, suc, ◌+◌, Bool, true, false, cond, not, ◌&&◌, nat_eq, List, [], ◌∷◌, ◌++◌, All, Option, Some, None, refl, sym, ap, subst, ◌∙◌, arith}
use Rattle.std.proofs.lemmas.Bool.{and_parts}
use Rattle.std.proofs.lemmas.Bool.Decides.{nat_tests}
use Rattle.std.proofs.lemmas.List.Elements.{All-head}
use Rattle.std.specs.Fmt.{decimal}
use Rattle.std.specs.Ordering.{int_eq}
use Rattle.std.proofs.lemmas.Int.{clamps, ints}
use Rattle.std.specs.Int.{int_max, int_min}
use Rattle.std.specs.Prelude.{ℤ, pos}
use Rattle.ladder_tree.specs.declared.element.CoilMode.TheVariants as mode
use Rattle.ladder_tree.specs.declared.element.CoilMode.{CoilMode}
use Rattle.ladder_tree.specs.declared.element.CounterHow.{CounterHow}
use Rattle.ladder_tree.specs.declared.element.LeafKind.TheVariants.{Contacts, Coil, Osr, Osf, Short, Open, MasterRelay, Placeholder, Comment, Timer, Counter, Reset, Move, Math, Compare, Shift, Table, ReadAdc, SetPwm, Recv, Send, Persist, Linear, Formatted}
use Rattle.ladder_tree.specs.declared.element.LeafKind.{LeafKind}
use Rattle.ladder_tree.specs.declared.project.Rung.{Rung}
use Rattle.ladder_tree.specs.Leaves.{all_leaves}
use Rattle.ladder_tree.specs.Names.{persistent_names}
use Rattle.ladder_meaning.specs.Bounds.{IsDuty, WaitsFor}
use Rattle.ladder_meaning.specs.Cycle.{rungs}
use Rattle.ladder_meaning.specs.Device.{Went, low_byte, high_byte, with_duty, receive, send}
use Rattle.ladder_meaning.specs.Element.{Terms, operand, coil, rises, set_where, counter, shifted, looked_up, element}
use Rattle.ladder_meaning.specs.Numbers.{counted, value_at}
use Rattle.ladder_meaning.specs.Persist.{address_of, saved_number, with_byte, with_pending, with_loaded, Checked, check_pending, check, load_checked, load, save, persist}
use Rattle.ladder_meaning.specs.State.{Seen, State, Pending, Now, with_bit, with_number, with_memory, place_of}
use Rattle.ladder_meaning.proofs.KeepLemmas.{rungs_keep}
use Rattle.ladder_meaning.proofs.PlaceLemmas.{IsPlaced, NamesPlaced}

pub record SendsNone (s t : Now) : Type 0 where
  pub busy : t.sending ≡ s.sending
  pub sent : t.sent ≡ s.sent

pub record SendsOne (s t : Now) : Type 0 where
  pub free : s.sending ≡ false
  pub busy : t.sending ≡ true
  pub byte : ℕ
  pub sent : t.sent ≡ s.sent ++ byte ∷ []

pub record WritesNone (s t : Now) : Type 0 where
  pub busy : t.writing ≡ s.writing
  pub same : (a : ℕ) → t.kept.eeprom a ≡ s.kept.eeprom a

pub record WritesOne (s t : Now) : Type 0 where
  pub free : s.writing ≡ false
  pub busy : t.writing ≡ true
  pub address : ℕ
  pub others : (a : ℕ) → a ≢ address → t.kept.eeprom a ≡ s.kept.eeprom a

-- from s to t
pub record Steps (s t : Now) : Type 0 where
  pub sends : SendsNone s t ⊎ SendsOne s t
  pub writes : WritesNone s t ⊎ WritesOne s t

sends_both : (a b c : Now) → SendsNone a b ⊎ SendsOne a b → SendsNone b c ⊎ SendsOne b c → SendsNone a c ⊎ SendsOne a c
sends_both a b c (inl f) (inl g) = inl (record { busy = g.busy ∙ f.busy; sent = g.sent ∙ f.sent })
sends_both a b c (inl f) (inr g) = inr (record { free = sym f.busy ∙ g.free; busy = g.busy; byte = g.byte; sent = g.sent ∙ ap (λ l. l ++ g.byte ∷ []) f.sent })
sends_both a b c (inr f) (inl g) = inr (record { free = f.free; busy = g.busy ∙ f.busy; byte = f.byte; sent = g.sent ∙ f.sent })
sends_both a b c (inr f) (inr g) = let x = f.busy in let y = g.free in absurd (cc)

writes_both : (a b c : Now) → WritesNone a b ⊎ WritesOne a b → WritesNone b c ⊎ WritesOne b c → WritesNone a c ⊎ WritesOne a c
writes_both a b c (inl f) (inl g) = inl (record { busy = g.busy ∙ f.busy; same = λ x. g.same x ∙ f.same x })
writes_both a b c (inl f) (inr g) = inr (record { free = sym f.busy ∙ g.free; busy = g.busy; address = g.address; others = λ x ne. g.others x ne ∙ f.same x })
writes_both a b c (inr f) (inl g) = inr (record { free = f.free; busy = g.busy ∙ f.busy; address = f.address; others = λ x ne. g.same x ∙ f.others x ne })
writes_both a b c (inr f) (inr g) = let x = f.busy in let y = g.free in absurd (cc)

both : (a b c : Now) → Steps a b → Steps b c → Steps a c
both a b c f g = record { sends = sends_both a b c f.sends g.sends; writes = writes_both a b c f.writes g.writes }

-- the devices stay as they are
record Quiet (s t : Now) : Type 0 where
  sending : t.sending ≡ s.sending
  sent : t.sent ≡ s.sent
  writing : t.writing ≡ s.writing
  eeprom : t.kept.eeprom ≡ s.kept.eeprom
  pending : t.kept.pending ≡ s.kept.pending
  duty : t.kept.duty ≡ s.kept.duty

quiet : (s t : Now) → Quiet s t → Steps s t
quiet s t q = record {
  sends = inl (record { busy = q.sending; sent = q.sent });
  writes = inl (record { busy = q.writing; same = λ a. ap (λ (e : ℕ → ℕ). e a) q.eeprom });
}

same : (s : Now) → Quiet s s
same s = record { sending = refl; sent = refl; writing = refl; eeprom = refl; pending = refl; duty = refl }

quiet_both : (a b c : Now) → Quiet a b → Quiet b c → Quiet a c
quiet_both a b c f g = record {
  sending = g.sending ∙ f.sending;
  sent = g.sent ∙ f.sent;
  writing = g.writing ∙ f.writing;
  eeprom = g.eeprom ∙ f.eeprom;
  pending = g.pending ∙ f.pending;
  duty = g.duty ∙ f.duty;
}

quiet_if : (b : Bool) (s t : Now) → Quiet s t → Quiet s (cond b t s)
quiet_if true s t q = q
quiet_if false s t q = same s

bit_quiet : (s : Now) (name : List ℕ) (v : Bool) → Quiet s (with_bit s name v)
bit_quiet s name v = record { sending = refl; sent = refl; writing = refl; eeprom = refl; pending = refl; duty = refl }

number_quiet : (s : Now) (name : List ℕ) (n : ℤ) → Quiet s (with_number s name n)
number_quiet s name n = record { sending = refl; sent = refl; writing = refl; eeprom = refl; pending = refl; duty = refl }

memory_quiet : (s : Now) (k : ℕ) (v : Bool) → Quiet s (with_memory s k v)
memory_quiet s k v = record { sending = refl; sent = refl; writing = refl; eeprom = refl; pending = refl; duty = refl }

set_quiet : (b : Bool) (s : Now) (name : List ℕ) (n : ℤ) → Quiet s (set_where b s name n)
set_quiet b s name n = quiet_if b s (with_number s name n) (number_quiet s name n)

coil_quiet : (how : CoilMode) (name : List ℕ) (s : Now) (power : Bool) → Quiet s (coil how name s power)
coil_quiet mode.Plain name s power = bit_quiet s name power
coil_quiet mode.Negated name s power = bit_quiet s name (not power)
coil_quiet mode.Set name s power = quiet_if power s (with_bit s name true) (bit_quiet s name true)
coil_quiet mode.Reset name s power = quiet_if power s (with_bit s name false) (bit_quiet s name false)

counter_quiet : (how : CounterHow) (name : List ℕ) (max : ℤ) (k : ℕ) (s : Now) (power : Bool) → Quiet s (counter how name max k s power).now
counter_quiet how name max k s power =
    let n = counted how max (s.kept.number name) in
    quiet_both s (set_where (rises s k power) s name n) _ (set_quiet (rises s k power) s name n) (memory_quiet (set_where (rises s k power) s name n) k power)

shifted_quiet : (name : List ℕ) (n : ℕ) (s : Now) → Quiet s (shifted name n s)
shifted_quiet name zero s = same s
shifted_quiet name (suc zero) s = same s
shifted_quiet name (suc (suc k)) s =
    let t = with_number s (name ++ decimal (suc k)) (s.kept.number (name ++ decimal k)) in
    quiet_both s t _ (number_quiet s _ _) (shifted_quiet name (suc k) t)

shift_quiet : (b : Bool) (name : List ℕ) (n k : ℕ) (s : Now) (power : Bool) → Quiet s (with_memory (cond b (shifted name n s) s) k power)
shift_quiet b name n k s power =
    quiet_both s (cond b (shifted name n s) s) _ (quiet_if b s (shifted name n s) (shifted_quiet name n s)) (memory_quiet (cond b (shifted name n s) s) k power)

looked_quiet : (dest : List ℕ) (s : Now) (o : Option ℤ) → Quiet s (looked_up dest s o)
looked_quiet dest s None = same s
looked_quiet dest s (Some n) = number_quiet s dest n

receive_quiet : (name : List ℕ) (s : Now) (power : Bool) (o : Option ℕ) → Quiet s (cond power (receive name s o) (record { now = s; output = false })).now
receive_quiet name s false o = same s
receive_quiet name s true None = same s
receive_quiet name s true (Some byte) = record { sending = refl; sent = refl; writing = refl; eeprom = refl; pending = refl; duty = refl }

send_by : (name : List ℕ) (s : Now) (b : Bool) → s.sending ≡ b
    → Steps s (cond b s (record s { sending = true; sent = s.sent ++ low_byte (s.kept.number name) ∷ [] }))
send_by name s true e = quiet s s (same s)
send_by name s false e = record {
  sends = inr (record { free = e; busy = refl; byte = low_byte (s.kept.number name); sent = refl });
  writes = inl (record { busy = refl; same = λ a. refl });
}

send_steps : (name : List ℕ) (s : Now) (power : Bool)
    → Steps s (cond {A = Went} power (record { now = send name s; output = (send name s).sending }) (record { now = s; output = s.sending })).now
send_steps name s true = send_by name s s.sending refl
send_steps name s false = quiet s s (same s)

other : (address a x y : ℕ) → a ≢ address → cond (nat_eq address a) x y ≡ y
other address a x y ne = grind (arith, nat_tests)

written : (s : Now) (address byte : ℕ) (p : Option Pending) → s.writing ≡ false → Steps s (with_pending (with_byte s address byte) p)
written s address byte p free = record {
  sends = inl (record { busy = refl; sent = refl });
  writes = inr (record { free = free; busy = refl; address = address; others = λ a ne. other address a byte (s.kept.eeprom a) ne });
}

-- a check that finds the EEPROM free changes nothing
record Answers (s : Now) (c : Checked) : Type 0 where
  steps : Steps s c.now
  free : c.is_free ≡ true → c.now.writing ≡ false

pending_answers : (s : Now) (o : Option Pending) → s.writing ≡ false → Answers s (check_pending s o)
pending_answers s None e = record { steps = quiet s s (same s); free = λ f. e }
pending_answers s (Some p) e = record { steps = written s p.address p.byte None e; free = λ f. absurd (cc) }

answers_by : (s : Now) (b : Bool) → s.writing ≡ b → Answers s (cond b (record { now = s; is_free = false }) (check_pending s s.kept.pending))
answers_by s true e = record { steps = quiet s s (same s); free = λ f. absurd (cc) }
answers_by s false e = pending_answers s s.kept.pending e

answers : (s : Now) → Answers s (check s)
answers s = answers_by s s.writing refl

load_by : (address : ℕ) (name : List ℕ) (c : Now) (b : Bool) → Quiet c (cond b (with_loaded (with_number c name (saved_number c.kept address)) name) c)
load_by address name c true = record { sending = refl; sent = refl; writing = refl; eeprom = refl; pending = refl; duty = refl }
load_by address name c false = same c

load_steps : (address : ℕ) (name : List ℕ) (s : Now) (b : Bool) → Steps s (cond b s (load_checked address name (check s)))
load_steps address name s true = quiet s s (same s)
load_steps address name s false = both s (check s).now _ (answers s).steps (quiet (check s).now _ (load_by address name (check s).now (check s).is_free))

save_by : (address low high : ℕ) (c : Now) (b : Bool) → (b ≡ true → c.writing ≡ false)
    → Steps c (cond b (with_pending (with_byte c address low) (Some (record { address = address + 1; byte = high }))) c)
save_by address low high c true free = written c address low (Some (record { address = address + 1; byte = high })) (free refl)
save_by address low high c false free = quiet c c (same c)

save_steps : (address : ℕ) (name : List ℕ) (s : Now) → Steps s (save address name s)
save_steps address name s =
    let c = check s in
    let n = c.now.kept.number name in
    both s c.now _ (answers s).steps (save_by address (low_byte n) (high_byte n) c.now (c.is_free && not (int_eq (saved_number c.now.kept address) n))
    (λ h. (answers s).free (and_parts c.is_free _ h).0))

persist_steps : (names : List (List ℕ)) (name : List ℕ) (s : Now) (power : Bool) → Steps s (cond power (persist names name s) s)
persist_steps names name s false = quiet s s (same s)
persist_steps names name s true =
    let a = address_of names name in
    both s (load a name s) _ (load_steps a name s (s.kept.loaded name)) (save_steps a name (load a name s))

duty_steps : (s : Now) (n : ℤ) (power : Bool) → Steps s (cond power (with_duty s n) s)
duty_steps s n true = record { sends = inl (record { busy = refl; sent = refl }); writes = inl (record { busy = refl; same = λ a. refl }) }
duty_steps s n false = quiet s s (same s)

-- PERSIST leaves the duty, and what waits behind it waits for a persistent variable
record Persists (names : List (List ℕ)) (s t : Now) : Type 0 where
  duty : t.kept.duty ≡ s.kept.duty
  waits : WaitsFor names s.kept.pending → WaitsFor names t.kept.pending

module _ (names : List (List ℕ)) where
  rests : (s : Now) → Persists names s s
  rests s = record { duty = refl; waits = λ w. w }

  persists_both : (a b c : Now) → Persists names a b → Persists names b c → Persists names a c
  persists_both a b c f g = record { duty = g.duty ∙ f.duty; waits = λ w. g.waits (f.waits w) }

  pending_persists : (s : Now) (o : Option Pending) → Persists names s (check_pending s o).now
  pending_persists s None = rests s
  pending_persists s (Some p) = record { duty = refl; waits = λ w. tt }

  check_by : (s : Now) (b : Bool) → Persists names s (cond b (record { now = s; is_free = false }) (check_pending s s.kept.pending)).now
  check_by s true = rests s
  check_by s false = pending_persists s s.kept.pending

  check_persists : (s : Now) → Persists names s (check s).now
  check_persists s = check_by s s.writing

  loaded_by : (address : ℕ) (name : List ℕ) (c : Now) (b : Bool) → Persists names c (load_checked address name (record { now = c; is_free = b }))
  loaded_by address name c true = record { duty = refl; waits = λ w. w }
  loaded_by address name c false = rests c

  load_persists : (address : ℕ) (name : List ℕ) (s : Now) (b : Bool) → Persists names s (cond b s (load_checked address name (check s)))
  load_persists address name s true = rests s
  load_persists address name s false = persists_both s (check s).now _ (check_persists s) (loaded_by address name (check s).now (check s).is_free)

  saved_by : (name : List ℕ) (low high : ℕ) (c : Now) (b : Bool) → IsPlaced names name
      → Persists names c (cond b (with_pending (with_byte c (address_of names name) low) (Some (record { address = address_of names name + 1; byte = high })))
      c)
  saved_by name low high c true placed = record { duty = refl; waits = λ w. (place_of names name, placed, refl) }
  saved_by name low high c false placed = rests c

  save_persists : (name : List ℕ) (s : Now) → IsPlaced names name → Persists names s (save (address_of names name) name s)
  save_persists name s placed =
      let c = check s in
      let n = c.now.kept.number name in
      persists_both s c.now _ (check_persists s) (saved_by name (low_byte n) (high_byte n) c.now
      (c.is_free && not (int_eq (saved_number c.now.kept (address_of names name)) n)) placed)

  persist_persists : (name : List ℕ) (s : Now) (power : Bool) → IsPlaced names name → Persists names s (cond power (persist names name s) s)
  persist_persists name s false placed = rests s
  persist_persists name s true placed =
      let a = address_of names name in
      persists_both s (load a name s) _ (load_persists a name s (s.kept.loaded name)) (save_persists name (load a name s) placed)

-- P is kept where the devices stay as they are, and by SEND, SET_PWM and PERSIST
pub record Kept (names : List (List ℕ)) (P : Now → Type 0) : Type 0 where
  quiet : (s t : Now) → Quiet s t → P s → P t
  send : (name : List ℕ) (s : Now) (power : Bool) → P s
      → P (cond {A = Went} power (record { now = send name s; output = (send name s).sending }) (record { now = s; output = s.sending })).now
  duty : (s : Now) (n : ℤ) (power : Bool) → P s → P (cond power (with_duty s n) s)
  persist : (name : List ℕ) (s : Now) (power : Bool) → IsPlaced names name → P s → P (cond power (persist names name s) s)

module _ (p : Terms) (r : Seen) (P : Now → Type 0) (kept : Kept p.persistent P) where
  element_keeps : (kind : LeafKind) → All (IsPlaced p.persistent) (persistent_names kind) → (k : ℕ) (s : Now) (power : Bool) → P s
      → P (element p r kind k s power).now
  element_keeps (Contacts name neg) f k s power h = h
  element_keeps (Coil name how) f k s power h = kept.quiet s _ (coil_quiet how name s power) h
  element_keeps Osr f k s power h = kept.quiet s _ (memory_quiet s k power) h
  element_keeps Osf f k s power h = kept.quiet s _ (memory_quiet s k power) h
  element_keeps Short f k s power h = h
  element_keeps Open f k s power h = h
  element_keeps MasterRelay f k s power h =
      kept.quiet s _ (record { sending = refl; sent = refl; writing = refl; eeprom = refl; pending = refl; duty = refl }) h
  element_keeps Placeholder f k s power h = h
  element_keeps (Comment text) f k s power h = h
  element_keeps (Timer how name delay) f k s power h = kept.quiet s _ (number_quiet s name _) h
  element_keeps (Counter how name max) f k s power h = kept.quiet s _ (counter_quiet how name max k s power) h
  element_keeps (Reset name) f k s power h = kept.quiet s _ (set_quiet power s name _) h
  element_keeps (Move dest src) f k s power h = kept.quiet s _ (set_quiet power s dest _) h
  element_keeps (Math how dest a b) f k s power h = kept.quiet s _ (set_quiet power s dest _) h
  element_keeps (Compare how a b) f k s power h = h
  element_keeps (Shift name places) f k s power h = kept.quiet s _ (shift_quiet (rises s k power) name places k s power) h
  element_keeps (Table dest index as_text values) f k s power h =
      kept.quiet s _ (quiet_if power s _ (looked_quiet dest s (value_at values (operand s index)))) h
  element_keeps (ReadAdc name) f k s power h = kept.quiet s _ (set_quiet power s name _) h
  element_keeps (SetPwm name hz) f k s power h = kept.duty s (s.kept.number name) power h
  element_keeps (Recv name) f k s power h = kept.quiet s _ (receive_quiet name s power s.received) h
  element_keeps (Send name) f k s power h = kept.send name s power h
  element_keeps (Persist name) f k s power h = kept.persist name s power (All-head (IsPlaced p.persistent) name [] f) h
  element_keeps (Linear dest index points) f k s power h = h
  element_keeps (Formatted name text) f k s power h = h

  pub rungs_kept : (gs : List Rung) → All (NamesPlaced p.persistent) (all_leaves gs) → (k : ℕ) (s : Now) → P s → P (rungs p r gs k s)
  rungs_kept = rungs_keep p r P (NamesPlaced p.persistent) (λ l f. element_keeps l.kind f)

pub steps_same : (s : Now) → Steps s s
steps_same s = quiet s s (same s)

pub steps_kept : (names : List (List ℕ)) (a : Now) → Kept names (Steps a)
steps_kept names a = record {
  quiet = λ s t q h. both a s t h (quiet s t q);
  send = λ name s power h. both a s _ h (send_steps name s power);
  duty = λ s n power h. both a s _ h (duty_steps s n power);
  persist = λ name s power placed h. both a s _ h (persist_steps names name s power);
}

sent_by : (s t : Now) (b : Bool) → t.kept ≡ s.kept → (cond b s t).kept ≡ s.kept
sent_by s t true e = refl
sent_by s t false e = e

send_same : (name : List ℕ) (s : Now) (power : Bool)
    → (cond {A = Went} power (record { now = send name s; output = (send name s).sending }) (record { now = s; output = s.sending })).now.kept ≡ s.kept
send_same name s true = sent_by s _ s.sending refl
send_same name s false = refl

clamp : (n : ℤ) → IsDuty (int_max (pos 0) (int_min (pos 100) n))
clamp n = record { least = omega (arith, ints, clamps); most = omega (arith, ints, clamps) }

clamped : (s : Now) (n : ℤ) (power : Bool) → IsDuty s.kept.duty → IsDuty (cond power (with_duty s n) s).kept.duty
clamped s n true h = clamp n
clamped s n false h = h

pub duty_kept : (names : List (List ℕ)) → Kept names (λ s. IsDuty s.kept.duty)
duty_kept names = record {
  quiet = λ s t q h. subst IsDuty (sym q.duty) h;
  send = λ name s power h. subst (λ (k : State). IsDuty k.duty) (sym (send_same name s power)) h;
  duty = clamped;
  persist = λ name s power placed h. subst IsDuty (sym (persist_persists names name s power placed).duty) h;
}

duty_waits : (names : List (List ℕ)) (s : Now) (n : ℤ) (power : Bool) → WaitsFor names s.kept.pending
    → WaitsFor names (cond power (with_duty s n) s).kept.pending
duty_waits names s n true h = h
duty_waits names s n false h = h

pub waits_kept : (names : List (List ℕ)) → Kept names (λ s. WaitsFor names s.kept.pending)
waits_kept names = record {
  quiet = λ s t q h. subst (WaitsFor names) (sym q.pending) h;
  send = λ name s power h. subst (λ (k : State). WaitsFor names k.pending) (sym (send_same name s power)) h;
  duty = duty_waits names;
  persist = λ name s power placed h. (persist_persists names name s power placed).waits h;
}
