-- Words that carry a project never are late and never stuck.
use Rattle.std.proofs.Common.{◌≡◌, ◌≢◌, ℕ, zero, suc, ◌+◌, ◌*◌, ◌<◌, ◌≤◌, Bool, true, false, List, [], ◌∷◌, ◌++◌, Option, Some, None, length, replicate}
use Rattle.std.proofs.Common.{refl, sym, ap, subst, ◌∙◌, add-one, arith}
use Rattle.std.specs.Prelude.{nat_le, slice_index}
use Rattle.std.specs.List.{AllByRecursion}
use Rattle.std.specs.Option.{option_or}
use Rattle.std.proofs.lemmas.Bool.Decides.{nat_tests}
use Rattle.chip_tables.specs.Outside.{no_reading}
use Rattle.chip_tables.specs.Step.{Step}
use Rattle.chip_tables.specs.declared.outside.Env.{Env}
use Rattle.chip_tables.specs.declared.outside.PinReading.{PinReading}
use Rattle.chip_tables.specs.declared.outside.StepEnd.{StepEnd}
use Rattle.chip_tables.specs.declared.outside.StepEnd.TheVariants as step_end
use Rattle.chip_tables.specs.declared.outside.Went as declared
use Rattle.runs.specs.Chip.{steps_over, went_to, bytes_of}
use Rattle.runs.specs.Run.{Stepper, Moment, IsStuck, Goes, moment, first_moment, onward, within, taking, ask_of}
use Rattle.runs.specs.declared.ask.Ask.{Ask}
use Rattle.runs.specs.declared.ask.Ask.TheVariants as ask
use Rattle.runs.proofs.RunLemmas.{onward_is, moment_more}
use Rattle.ladder_meaning.specs.Cycle.{start, history}
use Rattle.ladder_meaning.specs.View.{sent_of}
use Rattle.ladder_tree.specs.declared.project.Project.{Project}
use Rattle.chip_meaning.specs.Chip.{Chip, Resets}
use Rattle.chip_meaning.specs.Carries.{Carries, Holds, IsEnd, most_in, all_seen}
use Rattle.chip_run.specs.declared.end.CycleEnd.TheVariants as cycle
use Rattle.chip_run.specs.declared.end.RunEnd.TheVariants as run
use Rattle.chip_run.specs.declared.end.TheConstants.{CYCLES_MOST}
use Rattle.chip_run.specs.Agree.{IsCycle, AreCycles, TakesCycles, CarriedAgree}
use Rattle.chip_run.specs.Replay.{comes_to, cycle_of, replay_from, replay_within, answer, without_reading, outcome}
use Rattle.chip_run.proofs.LineLemmas.{one_more, replayed_is}

-- so many answers at least are left, and each is ready
abbrev pub HasReady : ℕ → List Bool → Type 0
HasReady n bs = (k : ℕ) × (bs ≡ replicate (n + k) true)

fewer : (n : ℕ) (bs : List Bool) → HasReady (suc n) bs → HasReady n bs
fewer n bs h = let e : suc n + h.0 ≡ n + suc (h.0) = omega arith in (suc (h.0), h.1 ∙ ap (λ i. replicate i true) e)

-- the next answer is ready
pub record NextReady (n : ℕ) (bs : List Bool) : Type 0 where
  pub rest : List Bool
  pub splits : bs ≡ true ∷ rest
  pub left : HasReady n rest

next_ready : (n : ℕ) (bs : List Bool) → HasReady (suc n) bs → NextReady n bs
next_ready n bs h =
    let e : suc n + h.0 ≡ suc (n + h.0) = omega arith in
    record { rest = replicate (n + h.0) true; splits = h.1 ∙ ap (λ i. replicate i true) e; left = (h.0, refl) }

-- the first byte that was sent, where one more may be
sent_more : (bytes : List ℕ) (more : Option ℕ) → sent_of (bytes ++ bytes_of more) ≡ option_or (sent_of bytes) more
sent_more [] None = refl
sent_more [] (Some byte) = refl
sent_more (b ∷ bytes) more = refl

sent_of_bytes : (o : Option ℕ) → sent_of (bytes_of o) ≡ o
sent_of_bytes None = refl
sent_of_bytes (Some byte) = refl

-- how many answers are enough for readings
abbrev pub needed : ℕ → List PinReading → ℕ
needed limit [] = 0
needed limit (r ∷ rs) = suc (limit + 1 + needed limit rs)

-- a step that is not stuck went
pub record WentOn {M : Type 0} (next : M) (e : StepEnd) : Type 0 where
  pub went : declared.Went
  pub is : e ≡ step_end.Went went

went_on : {M : Type 0} (c : Moment M) (bs : List Bool) (next : M) (e : StepEnd) → within c 0 bs (went_to next e) ≢ IsStuck → WentOn next e
went_on c bs next (step_end.Went w) goes = record { went = w; is = refl }
went_on c bs next (step_end.Stuck at) goes = absurd (goes refl)

-- the moment behind such a step
abbrev pub next_moment : {M : Type 0} → Moment M → List Bool → M → declared.Went → Moment M
next_moment c bs next w =
    record {
      state = next;
      readings = c.readings;
      answers = bs;
      taken = c.taken;
      cost = c.cost + w.cycles;
      waits = c.waits + 0;
      sent = c.sent ++ bytes_of w.sent;
    }

module _ {M : Type 0} (chip : Chip M) (p : Project) (flash : List ℕ) (eeprom : ℕ → ℕ) (most boot limit : ℕ) (in_cycle : most < limit) (in_boot : boot < limit)
    (takes : (env : Env) (m : M) (w : declared.Went) → (chip.step flash env m).end ≡ step_end.Went w → 0 < w.cycles) (all : List PinReading) (first : Moment M)
    (holds : (n : ℕ) (c : Moment M) → moment (steps_over chip.step flash) n first ≡ Some c → Holds chip flash p eeprom all most boot c) where
  abbrev step : Stepper M
  step = steps_over chip.step flash

  -- the run comes to the moment
  abbrev pub Reached : Moment M → Type 0
  Reached c = (n : ℕ) × (moment (steps_over chip.step flash) n first ≡ Some c)

  most_small : (k : ℕ) → most_in k most boot < limit
  most_small zero = in_boot
  most_small (suc k) = in_cycle

  in_time : (c : Moment M) → Reached c → c.waits ≡ 0 → c.cost < limit
  in_time c r none =
      let cost : c.cost ≤ most_in c.taken most boot + chip.wait * c.waits = (holds (r.0) c (r.1)).cost in
      let waited : chip.wait * c.waits ≡ 0 = rw none (omega arith) in
      omega (arith, cost, waited, most_small c.taken)

  -- the moment at which the cycle ends
  pub record Comes (turns more : ℕ) (c : Moment M) : Type 0 where
    pub last : Moment M
    pub reached : Reached last
    pub asks : ask_of (steps_over chip.step flash) last.state ≡ ask.Reading
    pub readings : last.readings ≡ c.readings
    pub taken : last.taken ≡ c.taken
    pub waits : last.waits ≡ 0
    pub answers : HasReady more last.answers
    pub came : comes_to chip.step flash limit turns c.state c.cost (sent_of c.sent) ≡ record { state = last.state; end = cycle.Asks (sent_of last.sent) }

  -- the turn of a state that does not ask for a reading
  turned : (turns : ℕ) (m : M) (cost : ℕ) (sent : Option ℕ) (ready : Bool) (w : declared.Went) → answer (ask_of (steps_over chip.step flash) m) ≡ Some ready →
      cost < limit → (chip.step flash (without_reading ready) m).end ≡ step_end.Went w →
      comes_to chip.step flash limit (suc turns) m cost sent
      ≡ comes_to chip.step flash limit turns (chip.step flash (without_reading ready) m).state (cost + w.cycles) (option_or sent w.sent)
  turned turns m cost sent ready w asks early end =
      let test : nat_le limit cost ≡ false = grind (arith, nat_tests) in
      rw (asks, test, end) refl

  -- the first step of a cycle
  began : (m : M) (r : PinReading) (w : declared.Went) → (chip.step flash (record { ready = true; reading = r }) m).end ≡ step_end.Went w →
      cycle_of chip.step flash limit m r
      ≡ comes_to chip.step flash limit (limit + 1) (chip.step flash (record { ready = true; reading = r }) m).state (0 + w.cycles) w.sent
  began m r w end = rw end refl

  -- how the moments behind a step end the cycle
  abbrev pub AllCome : ℕ → ℕ → Type 0
  AllCome turns more = (c : Moment M) → Reached c → c.waits ≡ 0 → limit < turns + c.cost → HasReady (turns + more) c.answers → Comes turns more c

  -- the step of a state that does not ask for a reading is followed by the next moment's
  stepping : (turns more : ℕ) → AllCome turns more → (c : Moment M) (ready : Bool) (bs : List Bool) → Reached c → c.waits ≡ 0 → limit < suc turns + c.cost →
      HasReady (turns + more) bs → onward step c ≡ within c 0 bs (step c.state ready no_reading) →
      answer (ask_of (steps_over chip.step flash) c.state) ≡ Some ready →
      Comes (suc turns) more c
  stepping turns more come c ready bs r none enough left on is =
      let s = chip.step flash (without_reading ready) c.state in
      let w = went_on c bs s.state s.end (λ stuck. (holds (r.0) c (r.1)).goes_on (on ∙ stuck)) in
      let next = next_moment c bs s.state w.went in
      let goes : onward step c ≡ Goes next = on ∙ ap (λ e. within c 0 bs (went_to s.state e)) w.is in
      let reached : Reached next = (suc (r.0), moment_more step c next goes (r.0) first (r.1)) in
      let some : 0 < w.went.cycles = takes (without_reading ready) c.state w.went w.is in
      let early : c.cost < limit = in_time c r none in
      let end = come next reached (omega (arith, none)) (omega (arith, some, enough)) left in
      let came = turned turns c.state c.cost (sent_of c.sent) ready w.went is early w.is in
      record {
        last = end.last;
        reached = end.reached;
        asks = end.asks;
        readings = end.readings;
        taken = end.taken;
        waits = end.waits;
        answers = end.answers;
        came = came ∙ ap (λ b. comes_to chip.step flash limit turns s.state (c.cost + w.went.cycles) b) (sym (sent_more c.sent w.went.sent)) ∙ end.came;
      }

  by_ask : (turns more : ℕ) → AllCome turns more → (c : Moment M) → Reached c → c.waits ≡ 0 → limit < suc turns + c.cost →
      HasReady (suc (turns + more)) c.answers →
      (a : Ask) → ask_of (steps_over chip.step flash) c.state ≡ a → Comes (suc turns) more c
  by_ask turns more come c r none enough left ask.Reading is =
      record {
        last = c;
        reached = r;
        asks = is;
        readings = refl;
        taken = refl;
        waits = none;
        answers =
            let e : suc (turns + more) + left.0 ≡ more + (suc turns + left.0) = omega arith in
            (suc turns + left.0, left.1 ∙ ap (λ i. replicate i true) e);
        came = rw is refl;
      }
  by_ask turns more come c r none enough left ask.Nothing is =
      stepping turns more come c false c.answers r none enough (fewer (turns + more) c.answers left)
      (onward_is step c ask.Nothing c.readings c.answers is refl refl) (ap answer is)
  by_ask turns more come c r none enough left ask.Device is =
      let next = next_ready (turns + more) c.answers left in
      stepping turns more come c true next.rest r none enough next.left
      (onward_is step c ask.Device c.readings (true ∷ next.rest) is refl next.splits) (ap answer is)

  -- where there are turns enough, the chip comes to the end of the cycle
  pub comes : (turns more : ℕ) → AllCome turns more
  comes zero more = λ c r none enough left. let early = in_time c r none in absurd (omega (arith, early, enough))
  comes (suc turns) more = λ c r none enough left.
      let e : suc turns + more ≡ suc (turns + more) = omega arith in
      by_ask turns more (comes turns more) c r none enough (subst (λ i. HasReady i c.answers) e left) (ask_of (steps_over chip.step flash) c.state) refl

  -- a step that takes a reading and is not stuck went
  taken_on : (c : Moment M) (rs : List PinReading) (bs : List Bool) (next : M) (e : StepEnd) → taking c rs bs (went_to next e) ≢ IsStuck → WentOn next e
  taken_on c rs bs next (step_end.Went w) goes = record { went = w; is = refl }
  taken_on c rs bs next (step_end.Stuck at) goes = absurd (goes refl)

  -- what a cycle whose reading is the next comes to
  pub record Cycled (more : ℕ) (c : Moment M) (r : PinReading) (rs : List PinReading) : Type 0 where
    pub last : Moment M
    pub reached : Reached last
    pub asks : ask_of (steps_over chip.step flash) last.state ≡ ask.Reading
    pub readings : last.readings ≡ rs
    pub taken : last.taken ≡ c.taken + 1
    pub waits : last.waits ≡ 0
    pub answers : HasReady more last.answers
    pub came : cycle_of chip.step flash limit c.state r ≡ record { state = last.state; end = cycle.Asks (sent_of last.sent) }

  cycled : (more : ℕ) (c : Moment M) (r : PinReading) (rs : List PinReading) → Reached c → ask_of (steps_over chip.step flash) c.state ≡ ask.Reading →
      c.readings ≡ r ∷ rs → HasReady (suc (limit + 1 + more)) c.answers → Cycled more c r rs
  cycled more c r rs reached asks left ready =
      let answers = next_ready (limit + 1 + more) c.answers ready in
      let bs = answers.rest in
      let s = chip.step flash (record { ready = true; reading = r }) c.state in
      let on : onward step c ≡ taking c rs bs (step c.state true r) = onward_is step c ask.Reading (r ∷ rs) (true ∷ bs) asks left answers.splits in
      let w = taken_on c rs bs s.state s.end (λ stuck. (holds (reached.0) c (reached.1)).goes_on (on ∙ stuck)) in
      let next : Moment M = record {
        state = s.state;
        readings = rs;
        answers = bs;
        taken = c.taken + 1;
        cost = w.went.cycles;
        waits = 0;
        sent = bytes_of w.went.sent;
      } in
      let goes : onward step c ≡ Goes next = on ∙ ap (λ e. taking c rs bs (went_to s.state e)) w.is in
      let there : Reached next = (suc (reached.0), moment_more step c next goes (reached.0) first (reached.1)) in
      let end = comes (limit + 1) more next there refl (omega arith) answers.left in
      let begins = began c.state r w.went w.is in
      let plain : 0 + w.went.cycles ≡ w.went.cycles = omega arith in
      record {
        last = end.last;
        reached = end.reached;
        asks = end.asks;
        readings = end.readings;
        taken = end.taken;
        waits = end.waits;
        answers = end.answers;
        came =
            begins ∙ ap (λ n. comes_to chip.step flash limit (limit + 1) s.state n w.went.sent) plain
            ∙ ap (λ b. comes_to chip.step flash limit (limit + 1) s.state w.went.cycles b) (sym (sent_of_bytes w.went.sent)) ∙ end.came;
      }

  -- the run over the readings that are left
  pub record RunsOn (k : ℕ) (c : Moment M) (rs : List PinReading) : Type 0 where
    pub ends : (replay_from (cycle_of chip.step flash limit) k c.state rs).end ≡ run.Done
    pub count : length (replay_from (cycle_of chip.step flash limit) k c.state rs).cycles ≡ length rs
    pub cycles : AreCycles chip p (history p (start p eeprom) (all_seen p all)) c.taken (replay_from (cycle_of chip.step flash limit) k c.state rs).cycles

  is_cycle : (k : ℕ) (c : Moment M) → Reached c → ask_of (steps_over chip.step flash) c.state ≡ ask.Reading → c.taken ≡ k + 1 →
      IsCycle chip p (history p (start p eeprom) (all_seen p all)) k (record { state = c.state; sent = sent_of c.sent })
  is_cycle k c r asks taken =
      let h = holds (r.0) c (r.1) in
      let ready = h.ready asks in
      let number : c.taken ≡ suc k = taken ∙ add-one k in
      record {
        end = h.end;
        is = subst (λ i. IsEnd p (start p eeprom) (all_seen p all) i h.end) number h.ends;
        shows = ready.shows;
        sent = ap sent_of ready.sent;
      }

  pub runs_on : (rs : List PinReading) (k : ℕ) (c : Moment M) → Reached c → ask_of (steps_over chip.step flash) c.state ≡ ask.Reading → c.readings ≡ rs →
      HasReady (needed limit rs) c.answers → RunsOn k c rs
  runs_on [] k c r asks left ready = record { ends = refl; count = refl; cycles = tt }
  runs_on (q ∷ qs) k c r asks left ready =
      let end = cycled (needed limit qs) c q qs r asks left ready in
      let after = runs_on qs (k + 1) end.last end.reached end.asks end.readings end.answers in
      let more = one_more (cycle_of chip.step flash limit) k c.state q qs end.last.state (sent_of end.last.sent) (ap (λ x. x.state) (sym end.came))
      (ap (λ x. outcome (k + 1) x.end) (sym end.came)) in
      record {
        ends = ap (λ x. x.end) more ∙ after.ends;
        count = ap (λ x. length x.cycles) more ∙ ap suc after.count;
        cycles = rw more (is_cycle c.taken end.last end.reached end.asks end.taken, rw end.taken at after.cycles);
      }

-- behind reset the readings come
booted : {M : Type 0} (limit : ℕ) (step : Step M) (flash : List ℕ) (m : M) (rs : List PinReading) (last : M) (sent : Option ℕ)
    → comes_to step flash limit (limit + 1) m 0 None ≡ record { state = last; end = cycle.Asks sent }
    → replay_within limit step flash m rs ≡ replay_from (cycle_of step flash limit) 0 last rs
booted limit step flash m rs last sent came = rw came refl

-- the run with a limit agrees with the ladder
pub record AgreesWithin {M : Type 0} (limit : ℕ) (chip : Chip M) (p : Project) (flash : List ℕ) (m : M) (eeprom : List ℕ) (rs : List PinReading) : Type 0 where
  pub ends : (replay_within limit chip.step flash m rs).end ≡ run.Done
  pub count : length (replay_within limit chip.step flash m rs).cycles ≡ length rs
  pub cycles : AreCycles chip p (history p (start p (slice_index eeprom)) (all_seen p rs)) 0 (replay_within limit chip.step flash m rs).cycles

pub agrees_within : {M : Type 0} (limit : ℕ) (chip : Chip M) (resets : Resets M) (p : Project) (words rest : List ℕ) (cycles boot : ℕ) →
    Carries chip resets p words cycles boot →
    cycles < limit → boot < limit → TakesCycles chip (words ++ rest) → (m : M) (eeprom : List ℕ) (rs : List PinReading) → resets eeprom m →
    AllByRecursion chip.reads rs → AgreesWithin limit chip p (words ++ rest) m eeprom rs
agrees_within limit chip resets p words rest cycles boot carries in_cycle in_boot takes m eeprom rs reset reads =
    let flash = words ++ rest in
    let enough = limit + 1 + needed limit rs in
    let answers = replicate enough true in
    let first = first_moment m rs answers in
    let holds = carries rest m eeprom rs answers reset reads in
    let none : enough ≡ enough + 0 = omega arith in
    let end = comes chip p flash (slice_index eeprom) cycles boot limit in_cycle in_boot takes rs first holds (limit + 1) (needed limit rs) first (0, refl) refl
    (omega arith) (0, ap (λ i. replicate i true) none) in
    let after = runs_on chip p flash (slice_index eeprom) cycles boot limit in_cycle in_boot takes rs first holds rs 0 end.last end.reached end.asks
    end.readings
    end.answers in
    let run_is = booted limit chip.step flash m rs end.last.state (sent_of end.last.sent) end.came in
    record {
      ends = ap (λ x. x.end) run_is ∙ after.ends;
      count = ap (λ x. length x.cycles) run_is ∙ after.count;
      cycles = rw run_is (rw end.taken at after.cycles);
    }

-- so does the run with the limit of this project
pub agrees : {M : Type 0} (chip : Chip M) (resets : Resets M) → CarriedAgree chip resets
agrees chip resets p words rest cycles boot carries in_cycle in_boot takes m eeprom rs reset reads =
    let within = agrees_within CYCLES_MOST chip resets p words rest cycles boot carries in_cycle in_boot takes m eeprom rs reset reads in
    let is = replayed_is chip.step (words ++ rest) m rs in
    record { ends = rw is within.ends; count = rw is within.count; cycles = rw is within.cycles }
