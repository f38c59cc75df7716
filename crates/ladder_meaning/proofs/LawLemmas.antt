-- What a cycle does to the devices, and what cycles keep within bounds.
use Rattle.std.proofs.Common.{◌≡◌, ◌≢◌, ◌≤◌, ◌⊎◌, inl, inr, ℕ, true, List, [], ◌∷◌, length, All, arith}
use Rattle.std.proofs.lemmas.List.Elements.{All-nil, All-cons, All-head, All-tail}
use Rattle.ladder_tree.specs.declared.element.Leaf as leaf
use Rattle.ladder_tree.specs.declared.project.Project.{Project}
use Rattle.ladder_tree.specs.Leaves.{all_leaves}
use Rattle.ladder_meaning.specs.Bounds.{literals, HasNumbers, SeesNumbers, AreNumbers, IsDuty, WaitsFor, persistent_of}
use Rattle.ladder_meaning.specs.Cycle.{Ended, begin, cycle, history, rungs, terms}
use Rattle.ladder_meaning.specs.Numbers.{IsNumber}
use Rattle.ladder_meaning.specs.State.{State, Seen, Now}
use Rattle.ladder_meaning.proofs.DeviceLemmas.{SendsNone, SendsOne, WritesNone, WritesOne, Steps, Kept, rungs_kept, steps_kept, steps_same, duty_kept, waits_kept}
use Rattle.ladder_meaning.proofs.KeepLemmas.{rungs_keep}
use Rattle.ladder_meaning.proofs.NumberLemmas.{Holds, element_holds}
use Rattle.ladder_meaning.proofs.PlaceLemmas.{persistent_placed}

-- what the elements keep of the devices, the rungs keep
cycle_kept : (p : Project) (s : State) (r : Seen) (P : Now → Type 0) → Kept (persistent_of p) P → P (begin s r) → P (rungs (terms p) r p.rungs 0 (begin s r))
cycle_kept p s r P kept = rungs_kept (terms p) r P kept p.rungs (persistent_placed (all_leaves p.rungs)) 0 (begin s r)

steps : (p : Project) (s : State) (r : Seen) → Steps (begin s r) (rungs (terms p) r p.rungs 0 (begin s r))
steps p s r = cycle_kept p s r (Steps (begin s r)) (steps_kept (persistent_of p) (begin s r)) (steps_same (begin s r))

few_by : (s : State) (r : Seen) (t : Now) → SendsNone (begin s r) t ⊎ SendsOne (begin s r) t → length t.sent ≤ 1
few_by s r t (inl f) = rw f.sent (omega arith)
few_by s r t (inr f) = rw f.sent (omega arith)

pub few_sent : (p : Project) (s : State) (r : Seen) → length (cycle p s r).sent ≤ 1
few_sent p s r = few_by s r (rungs (terms p) r p.rungs 0 (begin s r)) (steps p s r).sends

none_by : (s : State) (r : Seen) (t : Now) → r.sending ≡ true → SendsNone (begin s r) t ⊎ SendsOne (begin s r) t → t.sent ≡ []
none_by s r t e (inl f) = f.sent
none_by s r t e (inr f) = let free = f.free in absurd (cc)

pub none_sent : (p : Project) (s : State) (r : Seen) → r.sending ≡ true → (cycle p s r).sent ≡ []
none_sent p s r e = none_by s r (rungs (terms p) r p.rungs 0 (begin s r)) e (steps p s r).sends

one_by : (s : State) (r : Seen) (t : Now) → WritesNone (begin s r) t ⊎ WritesOne (begin s r) t
    → (address : ℕ) × ((a : ℕ) → a ≢ address → t.kept.eeprom a ≡ s.eeprom a)
one_by s r t (inl f) = (0, λ a ne. f.same a)
one_by s r t (inr f) = (f.address, f.others)

pub one_written : (p : Project) (s : State) (r : Seen) → (address : ℕ) × ((a : ℕ) → a ≢ address → (cycle p s r).state.eeprom a ≡ s.eeprom a)
one_written p s r = one_by s r (rungs (terms p) r p.rungs 0 (begin s r)) (steps p s r).writes

same_by : (s : State) (r : Seen) (t : Now) → r.writing ≡ true → WritesNone (begin s r) t ⊎ WritesOne (begin s r) t → (a : ℕ) → t.kept.eeprom a ≡ s.eeprom a
same_by s r t e (inl f) a = f.same a
same_by s r t e (inr f) a = let free = f.free in absurd (cc)

pub none_written : (p : Project) (s : State) (r : Seen) → r.writing ≡ true → (a : ℕ) → (cycle p s r).state.eeprom a ≡ s.eeprom a
none_written p s r e = same_by s r (rungs (terms p) r p.rungs 0 (begin s r)) e (steps p s r).writes

-- what each cycle keeps, a history keeps
module _ (p : Project) (P : State → Type 0) (Q : Seen → Type 0) (keeps : (s : State) (r : Seen) → Q r → P s → P (cycle p s r).state) where
  history_keeps : (rs : List Seen) → All Q rs → (s : State) → P s → All (λ (e : Ended). P e.state) (history p s rs)
  history_keeps [] f s h = All-nil (λ (e : Ended). P e.state)
  history_keeps (r ∷ rs) f s h =
      let one = keeps s r (All-head Q r rs f) h in
      All-cons (λ (e : Ended). P e.state) (cycle p s r) (history p (cycle p s r).state rs) one (history_keeps rs (All-tail Q r rs f) (cycle p s r).state one)

pub cycle_numbers : (p : Project) (s : State) (r : Seen) → HasNumbers p → SeesNumbers r → AreNumbers s.number → AreNumbers (cycle p s r).state.number
cycle_numbers p s r f g h =
    (rungs_keep (terms p) r Holds (λ (l : leaf.Leaf). All IsNumber (literals l.kind)) (λ l. element_holds (terms p) r g l.kind) p.rungs f 0 (begin s r)
    (record { number = h; received = g.received })).number

pub history_numbers : (p : Project) (s : State) (rs : List Seen) → HasNumbers p → All SeesNumbers rs → AreNumbers s.number
    → All (λ (e : Ended). AreNumbers e.state.number) (history p s rs)
history_numbers p s rs f g h = history_keeps p (λ s. AreNumbers s.number) SeesNumbers (λ s r g h. cycle_numbers p s r f g h) rs g s h

pub history_duty : (p : Project) (s : State) (rs : List Seen) → IsDuty s.duty → All (λ (e : Ended). IsDuty e.state.duty) (history p s rs)
history_duty p s rs h =
    history_keeps p (λ s. IsDuty s.duty) (λ r. Unit {0}) (λ s r u h. cycle_kept p s r (λ (t : Now). IsDuty t.kept.duty) (duty_kept (persistent_of p)) h) rs
    (λ k d lt. tt) s h

pub history_waits : (p : Project) (s : State) (rs : List Seen) → WaitsFor (persistent_of p) s.pending
    → All (λ (e : Ended). WaitsFor (persistent_of p) e.state.pending) (history p s rs)
history_waits p s rs h =
    let P : State → Type 0 = λ s. WaitsFor (persistent_of p) s.pending in
    history_keeps p P (λ r. Unit {0}) (λ s r u h. cycle_kept p s r (λ (t : Now). P t.kept) (waits_kept (persistent_of p)) h) rs (λ k d lt. tt) s h
