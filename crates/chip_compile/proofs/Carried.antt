-- The words that the assembler makes of the code of a project's program carry the project.
use Rattle.std.proofs.Common.{◌≡◌, ◌≢◌, ℕ, ℤ, pos, zero, suc, ◌+◌, ◌*◌, ◌<◌, ◌≤◌, List, [], ◌∷◌, ◌++◌, length, map, Some, refl, sym, ap, subst, arith, ◌∙◌, append-nil}
use Rattle.std.specs.List.{AllByRecursion}
use Rattle.std.specs.Prelude.{slice_get, slice_index, slice_index_or}
use Rattle.chip_tables.specs.declared.outside.PinReading.{PinReading}
use Rattle.runs.specs.Chip.{steps_over}
use Rattle.runs.specs.Run.{Stepper, Moment, moment, first_moment, onward, IsStuck, ask_of}
use Rattle.runs.specs.declared.ask.Ask.TheVariants as ask
use Rattle.ladder_lower.specs.Correct as lower
use Rattle.ladder_meaning.specs.Cycle.{Ended, start, start_number, history}
use Rattle.ladder_meaning.specs.State.{State, Seen}
use Rattle.ladder_meaning.specs.State as ladder
use Rattle.ladder_meaning.specs.declared.reading.Reading.{Reading}
use Rattle.ladder_rules.specs.Assigned.{name_bit}
use Rattle.ladder_tree.specs.Leaves.{all_leaves}
use Rattle.ladder_tree.specs.Names.{names_of}
use Rattle.ladder_tree.specs.declared.names.Names.{Names}
use Rattle.ladder_tree.specs.declared.project.Project.{Project}
use Rattle.int_code.specs.Meaning as int
use Rattle.int_code.specs.Store as store
use Rattle.int_code.specs.declared.op.IntProgram.{IntProgram}
use Rattle.byte_code.specs.declared.prim.BytePrim.{BytePrim}
use Rattle.byte_code.specs.declared.prim.Paced.{Paced}
use Rattle.byte_lower.specs.Code.{Carries, IsStart, store_behind}
use Rattle.byte_lower.specs.Stands.{Stands, seen}
use Rattle.byte_lower.specs.declared.layout.Layout.{Layout}
use Rattle.target_core.specs.Law.{Target}
use Rattle.target_core.specs.Laid.{segment_bound}
use Rattle.target_core.specs.Whole.{RunsAs, places_from}
use Rattle.chip_meaning.specs.Chip.{Chip, Resets}
use Rattle.chip_meaning.specs.Carries as chips
use Rattle.chip_meaning.specs.Carries.{IsEnd, IsFrontOf, all_seen, most_in}
use Rattle.chip_compile.specs.Linked.{IsLinked}
use Rattle.chip_compile.specs.Serves.{Serves}
use Rattle.chip_compile.proofs.RunLemmas.{taken_few}
use Rattle.chip_compile.proofs.HistoryLemmas.{ends_alike, length_history, store_at}
use Rattle.chip_compile.proofs.SeenLemmas.{seen_same, pins_length}
use Rattle.chip_compile.proofs.ShowLemmas.{state_shown}

first_place : (words : BytePrim → ℕ) (code : List Paced) → slice_index (places_from words 0 code) 0 ≡ 0
first_place words [] = refl
first_place words (p ∷ ps) = refl

same_bound : (k cycles boot : ℕ) → segment_bound k cycles boot ≡ most_in k cycles boot
same_bound zero cycles boot = refl
same_bound (suc k) cycles boot = refl

all_reads : (P Q : PinReading → Type 0) → ((r : PinReading) → P r → Q r) → (rs : List PinReading) → AllByRecursion P rs → AllByRecursion Q rs
all_reads P Q f [] h = tt
all_reads P Q f (r ∷ rs) h = (f r h.0, all_reads P Q f rs h.1)

front_of_none : (xs ys : List ℕ) → xs ++ ys ≡ [] → xs ≡ []
front_of_none [] ys e = refl
front_of_none (x ∷ xs) ys e = absurd (cc)

mapped_at : (f : List ℕ → ℤ) (xs : List (List ℕ)) (k : ℕ) → k < length xs → slice_index_or (map f xs) k (pos 0) ≡ f (slice_index_or xs k [])
mapped_at f [] k lt = absurd (omega arith)
mapped_at f (x ∷ xs) zero lt = refl
mapped_at f (x ∷ xs) (suc k) lt = mapped_at f xs k (omega arith)

mapped_length : {A B : Type 0} (f : A → B) (xs : List A) → length (map f xs) ≡ length xs
mapped_length f [] = refl
mapped_length f (x ∷ xs) = ap suc (mapped_length f xs)

module _ {M : Type 0} (chip : Chip M) (resets : Resets M) (t : Target M) (p : Project) (o : Layout) (program : IntProgram) (code : List Paced) (words : List ℕ) (cycles boot : ℕ)
    (serves : Serves chip resets t o) (linked : IsLinked p o program) (bytes : Carries o program code) (runs : RunsAs t code words cycles boot) where
  abbrev n : Names
  n = names_of p.rungs

  -- the ladder's cycle of a number ends as the store behind it shows, and sends nothing
  record Ends (eeprom : ℕ → ℕ) (first : store.Store) (readings : List PinReading) (k : ℕ) : Type 0 where
    end : Ended
    is : IsEnd p (start p eeprom) (all_seen p readings) k end
    shows : lower.Shows n end.state (store_behind program.ops first (map (seen o) readings) k)
    silent : end.sent ≡ []

  begun_shown : (held eeprom : List ℕ) (first : store.Store) → IsStart o program (slice_index held) first → held ≡ eeprom →
      lower.Shows n (start p (slice_index eeprom)) first
  begun_shown held eeprom first st same =
      let sizes = linked.lowered.sizes in
      let kept : o.plan.sizes.kept_bits ≡ length n.relays + (n.memories + length n.persistent) = ap (λ z. z.kept_bits) linked.sizes ∙ sizes.kept in
      let some : o.plan.sizes.variables ≡ length n.variables = ap (λ z. z.variables) linked.sizes ∙ sizes.variables in
      let pins = pins_length (name_bit p) o.outputs n.outputs linked.outputs in
      record {
        outputs = λ k lt. st.outputs k (omega (arith, lt, pins));
        relays = λ k lt. st.bits k (omega (arith, lt, kept));
        variables = λ k lt. st.numbers k (omega (arith, lt, some)) ∙ ap (λ (ns : List ℤ). slice_index_or ns k (pos 0)) sizes.starts
            ∙ mapped_at (start_number p.cycle (all_leaves p.rungs)) n.variables k lt;
        memories = λ k lt. st.bits (length n.relays + k) (omega (arith, lt, kept));
        loaded = λ k lt. st.bits (length n.relays + (n.memories + k)) (omega (arith, lt, kept));
        eeprom = ap (λ d. d.eeprom) st.devices ∙ ap (λ (bs : List ℕ). slice_index bs) same;
        pending = ap (λ d. d.pending) st.devices;
        duty = ap (λ d. d.duty) st.devices;
      }

  -- how the ladder's cycle of each number ends
  ends_at : (eeprom : ℕ → ℕ) (first : store.Store) (readings : List PinReading) → lower.Shows n (start p eeprom) first →
      ((k : ℕ) → (store_behind program.ops first (map (seen o) readings) k).devices.sent ≡ []) → (k : ℕ) → k ≤ length readings → Ends eeprom first readings k
  ends_at eeprom first readings h quiet zero le = record { end = record { state = start p eeprom; sent = [] }; is = refl; shows = h; silent = refl }
  ends_at eeprom first readings h quiet (suc k) le =
      let rs = map (seen o) readings in
      let cycles = int.history program.ops first rs in
      let few : k < length cycles = omega (arith, le, length_history program.ops first rs, mapped_length (seen o) readings) in
      let a = ends_alike n (history p (start p eeprom) (map (ladder.seen n) rs)) cycles k (linked.lowered.keeps.each (start p eeprom) first rs h) few in
      let at = store_at program.ops first rs k a.moment a.is_moment in
      record {
        end = a.end;
        is = subst (λ (ss : List Seen). slice_get (history p (start p eeprom) ss) k ≡ Some a.end) (seen_same p o linked.inputs linked.no_analog readings) a.is_end;
        shows = subst (λ (x : store.Store). lower.Shows n a.end.state x) at a.shows.shows;
        silent = sym a.shows.sent ∙ ap (λ (x : store.Store). x.devices.sent) at ∙ quiet (suc k);
      }

  pub carried : chips.Carries chip resets p words cycles boot
  carried rest m eeprom readings answers at_reset fits j c reached =
      let begun = serves.reset eeprom m at_reset in
      let each = bytes.each begun.bytes begun.fresh in
      let first = each.0 in
      let run = each.2 readings answers in
      let same = serves.step (words ++ rest) in
      let there : moment (t.step (words ++ rest)) j (first_moment m readings answers) ≡ Some c =
      subst (λ (step : Stepper M). moment step j (first_moment m readings answers) ≡ Some c) (sym same) reached in
      let h = runs rest m begun.bytes readings answers (record { place = begun.fresh.place; started = begun.stopped; open_call = begun.fresh.closed })
      (all_reads chip.reads t.reads serves.reads readings fits) (begun.stands (places_from t.words_in 0 code) (first_place t.words_in code)) run.counts j c there in
      let b = h.bytes.1 in
      let at_byte = h.bytes.2 in
      let stands = h.bytes.3 in
      let silent : b.sent ≡ [] = run.silent h.bytes.0 b at_byte in
      let sent : c.sent ≡ [] = front_of_none c.sent stands.sent.0 (stands.sent.1 ∙ silent) in
      let e = ends_at (slice_index eeprom) first readings (begun_shown begun.bytes.store.eeprom eeprom first each.1 begun.kept) run.sends c.taken
      (taken_few (t.step (words ++ rest)) m readings answers j c there) in
      record {
        goes_on = subst (λ (step : Stepper M). onward step c ≢ IsStuck) same h.not_stuck;
        cost = subst (λ (w : ℕ). c.cost ≤ most_in c.taken cycles boot + w * c.waits) serves.wait
            (subst (λ (x : ℕ). c.cost ≤ x + t.wait * c.waits) (same_bound c.taken cycles boot) h.cost);
        end = e.end;
        ends = e.is;
        sent = ([], e.silent ∙ sym (append-nil c.sent ∙ sent));
        ready = λ asks.
            let shows = stands.asks (subst (λ (step : Stepper M). ask_of step c.state ≡ ask.Reading) (sym same) asks) in
            let poll = shows.poll in
            let stood = run.polls h.bytes.0 b poll.0 at_byte poll.1 poll.2 in
            let started = run.started h.bytes.0 b poll.0 at_byte poll.1 poll.2 in
            record {
              shows = state_shown p o program linked (chip.view c.state) b.state.bytes.store (store_behind program.ops first (map (seen o) readings) c.taken)
                  e.end.state (serves.shows c.state b.state.bytes shows.shows started)
                  (subst (λ (k : ℕ). Stands o b.state.bytes.store (store_behind program.ops first (map (seen o) readings) k)) (sym stands.taken) stood.0) e.shows;
              sent = sent ∙ sym e.silent;
            };
      }
