-- From the law of one form to whole runs.
use Rattle.std.proofs.Common.{◌≡◌, ◌≢◌, ℕ, zero, suc, ◌+◌, ◌*◌, ◌<◌, ◌≤◌, ◌⊎◌, inl, inr, List, [], ◌∷◌, ◌++◌, length, Option, Some, None, Bool, true, false, not, cond, refl, sym, ap, subst, ◌∙◌, arith, append_assoc, append-nil, ⊎_elim, add-one}
use Rattle.std.specs.Prelude.{slice_get, sum_by, option_map, ◌==◌}
use Rattle.std.proofs.lemmas.Option.{slice_get_within, slice_get-map}
use borrow.Author.Tests.{ne_eqb, eqb-true}
use Rattle.std.specs.List.{AllByRecursion}
use Rattle.chip_tables.specs.Outside.{no_reading}
use Rattle.chip_tables.specs.declared.outside.PinReading.{PinReading}
use Rattle.runs.specs.declared.ask.Ask.{Ask}
use Rattle.runs.specs.declared.ask.Ask.TheVariants as ask
use Rattle.runs.specs.Run.{Went, ask_of, Onward, DriveEnds, IsStuck, Goes, Moment, moment, first_moment, onward, answered, within, taking, then_at}
use Rattle.runs.proofs.RunLemmas.{onward_is, moment_more}
use Rattle.byte_code.specs.declared.prim.BytePrim.{BytePrim}
use Rattle.byte_code.specs.declared.prim.Paced.{Paced}
use Rattle.byte_code.specs.declared.prim.Shape.{Shape}
use Rattle.byte_code.specs.declared.prim.Shape.TheVariants.{AtStart, AtPoll, AtDevice, Names, Jumps, Branches, Calls, Returns, Straight}
use Rattle.byte_code.specs.declared.state.Bytes.{Bytes}
use Rattle.byte_code.specs.declared.store.Store.{Store}
use Rattle.byte_code.specs.Table.{shape_of, effect, branches}
use Rattle.byte_code.specs.Machine.{shaped, polled, label_place, act, asked_in, asked_by, returned}
use Rattle.byte_code.specs.Counts.{Counted, counted_step, uncounted, begun_after, allowed, Fits, KeepsAt, KeepsCounts}
use Rattle.byte_code.proofs.Steps.{counted_is, counted_asks, is_plain}
use Rattle.byte_code.proofs.Times.{times, times-cons}
use Rattle.target_core.specs.Law.{Leads, here, on, LeadsFrom, starts_in, is_start}
use Rattle.target_core.specs.Laid.{Form, Laid, LaidLaw, LaidShows, LaidHolds, segment_bound, MayBegin, paced_of, IsFollowed}
use Rattle.target_core.specs.Whole.{IsFresh}
use Rattle.target_core.proofs.Counts.{at_most, spent, spent-le}
use Rattle.target_core.proofs.Steps.{poll_kind, word_kind, label_after, append_none}

-- a byte state after the start
record IsUnderWay (s : Bytes) : Type 0 where
  started : s.started ≡ true
  place : 0 < s.place
  open_call : (k : ℕ) → s.open_call ≡ Some k → 0 < k

-- the same drive and segment
record SameDrive {M : Type 0} (c : Moment M) (b : Moment Counted) : Type 0 where
  readings : c.readings ≡ b.readings
  answers : c.answers ≡ b.answers
  taken : c.taken ≡ b.taken
  waits : c.waits ≡ b.waits

module _ {M : Type 0} (lay : Laid M) (code : List Paced) (forms : List Form) (same_code : paced_of forms ≡ code)
    (law : LaidLaw lay code forms) (s0 : Bytes) (readings0 : List PinReading) (answers0 : List Bool) where
  code_at : (i : ℕ) (fm : Form) → slice_get forms i ≡ Some fm → slice_get code i ≡ Some fm.paced
  code_at i fm h = sym (ap (λ c. slice_get c i) same_code) ∙ slice_get-map (λ f. f.paced) forms i ∙ ap (option_map (λ f. f.paced)) h

  -- what is owed from the segment before: the poll's part after the reading was taken
  abbrev Owed : ℕ → ℕ → Type 0
  Owed zero owed = owed ≡ 0
  Owed (suc k) owed = (i : ℕ) × (fm : Form) × (slice_get forms i ≡ Some fm) × (shape_of fm.paced.prim ≡ AtPoll) × (owed ≤ fm.leave)

  abbrev cost_of : Form → ℕ
  cost_of fm = fm.cycles

  record Reached (b : Moment Counted) : Type 0 where
    j : ℕ
    is : moment (counted_step code) j (first_moment (uncounted s0) readings0 answers0) ≡ Some b
    earlier : List ℕ
    begun : b.state.begun ≡ b.state.bytes.place ∷ earlier
    passed : (i : ℕ) (p : Paced) → slice_get code i ≡ Some p → shape_of p.prim ≡ AtPoll → times i earlier ≡ 0
    owed : ℕ
    owes : Owed b.taken owed
    way : IsFresh b.state.bytes ⊎ IsUnderWay b.state.bytes
    legal : AllByRecursion lay.reads b.readings

  -- what the segment may have cost when the present primitive begins
  abbrev paid : (b : Moment Counted) → Reached b → ℕ
  paid b r = r.owed + spent cost_of forms r.earlier

  -- on the way to where the machine stands for b
  record Moving (c : Moment M) (b : Moment Counted) (r : Reached b) : Type 0 where
    drive : SameDrive c b
    ask : ask_of lay.step c.state ≡ ask.Nothing
    budget : ℕ
    later : List ℕ
    from : LeadsFrom lay.step (λ m. lay.stands m b.state.bytes) (lay.step c.state false no_reading) budget later
    cost : c.cost + budget ≤ paid b r + lay.wait * c.waits
    sent : c.sent ++ later ≡ b.sent

  -- in a poll, on the way to where it asks or there
  record Polling (c : Moment M) (b : Moment Counted) (r : Reached b) : Type 0 where
    drive : SameDrive c b
    fm : Form
    at : slice_get forms b.state.bytes.place ≡ Some fm
    polls : asked_by fm.paced.prim ≢ ask.Nothing
    budget : ℕ
    silent : List ℕ
    to : Leads lay.step (λ m. lay.awaits m b.state.bytes) c.state budget silent
    none : silent ≡ []
    cost : c.cost + budget ≤ paid b r + fm.enter + lay.wait * c.waits
    sent : c.sent ≡ b.sent

  abbrev Inv : Moment M → Type 0
  Inv c = (b : Moment Counted) × (r : Reached b) × (Moving c b r ⊎ Polling c b r)

  abbrev Fine : Onward (Moment M) → Type 0
  Fine DriveEnds = Unit {0}
  Fine IsStuck = ⊥
  Fine (Goes c) = Inv c

  module _ (keeps : KeepsCounts code s0 readings0 answers0) (first : (p : Paced) × (slice_get code 0 ≡ Some p) × (is_start p.prim ≡ true))
      (others : (i : ℕ) (p : Paced) → slice_get code (suc i) ≡ Some p → is_start p.prim ≡ false) where
    kept : (b : Moment Counted) → Reached b → KeepsAt code b
    kept b r = keeps.always r.j b r.is

    -- the start is done exactly where another primitive is next
    begins_by : (n : ℕ) (s : Bytes) (p : Paced) → s.place ≡ n → slice_get code n ≡ Some p → IsFresh s ⊎ IsUnderWay s → s.started ≡ not (is_start p.prim)
    begins_by zero s p e h (inl f) = let same : p ≡ first.0 = cc (first.1, h) in f.started ∙ ap not (sym (ap (λ x. is_start x.prim) same ∙ first.2))
    begins_by zero s p e h (inr u) = absurd (omega (arith, e, u.place))
    begins_by (suc n) s p e h (inl f) = absurd (omega (arith, e, f.place))
    begins_by (suc n) s p e h (inr u) = u.started ∙ ap not (sym (others n p h))

    begins : (s : Bytes) (p : Paced) → slice_get code s.place ≡ Some p → IsFresh s ⊎ IsUnderWay s → s.started ≡ not (is_start p.prim)
    begins s p h w = begins_by s.place s p refl h w

    may_begin : (b : Moment Counted) (r : Reached b) (fm : Form) → slice_get forms b.state.bytes.place ≡ Some fm → MayBegin forms b.state.bytes fm
    may_begin b r fm h =
        let k = (kept b r).fits in
        let same : k.0 ≡ fm.paced = cc (k.1, code_at b.state.bytes.place fm h) in
        record {
          at = h;
          begins = begins b.state.bytes fm.paced (code_at b.state.bytes.place fm h) r.way;
          fits = subst (λ x. Fits x.prim b.state.bytes) same k.2;
        }

    form_here : (b : Moment Counted) (r : Reached b) → (fm : Form) × (slice_get forms b.state.bytes.place ≡ Some fm)
    form_here b r = form_at (slice_get forms b.state.bytes.place) refl (sym (slice_get-map (λ f. f.paced) forms b.state.bytes.place)
        ∙ ap (λ c. slice_get c b.state.bytes.place) same_code ∙ (kept b r).fits.1)
      where
        form_at : (o : Option Form) → slice_get forms b.state.bytes.place ≡ o → option_map (λ f. f.paced) o ≡ Some (kept b r).fits.0 →
            (fm : Form) × (slice_get forms b.state.bytes.place ≡ Some fm)
        form_at None e g = absurd (cc g)
        form_at (Some fm) e g = (fm, e)

    calls : (s : Bytes) → IsFresh s ⊎ IsUnderWay s → (k : ℕ) → s.open_call ≡ Some k → 0 < k
    calls s (inl f) k e = absurd (cc (f.open_call, e))
    calls s (inr u) k e = u.open_call k e

    after_label : (l : ℕ) → 0 < label_place code l
    after_label l = label_after code first.0 l first.1 first.2

    zero_way : (v : Bool) (a b : ℕ) → 0 < a → 0 < b → 0 < cond v a b
    zero_way true a b h g = h
    zero_way false a b h g = g

    return_way : (s : Bytes) (o : Option ℕ) → s.open_call ≡ o → s.started ≡ true → IsFresh s ⊎ IsUnderWay s → (d : Store) → IsUnderWay (returned s d o)
    return_way s None e g w d = record { started = g; place = omega arith; open_call = calls s w }
    return_way s (Some k) e g w d = record { started = g; place = calls s w k e; open_call = λ i h. absurd (cc h) }

    -- after any step but one that was not ready the start is done
    goes_way : (q : BytePrim) (h : Shape) (s : Bytes) (d : Store) (given : Bool) (rd : PinReading) → (asked_in h ≢ ask.Nothing → given ≡ true) →
        s.started ≡ not (starts_in h) → IsFresh s ⊎ IsUnderWay s → IsUnderWay (shaped code q h s d given rd).next
    goes_way q AtStart s d given rd y g w = record { started = refl; place = omega arith; open_call = calls s w }
    goes_way q AtPoll s d true rd y g w = record { started = g; place = omega arith; open_call = calls s w }
    goes_way q AtPoll s d false rd y g w = absurd (cc (y (λ h. cc h)))
    goes_way q AtDevice s d true rd y g w = record { started = g; place = omega arith; open_call = calls s w }
    goes_way q AtDevice s d false rd y g w = absurd (cc (y (λ h. cc h)))
    goes_way q (Names l) s d given rd y g w = record { started = g; place = omega arith; open_call = calls s w }
    goes_way q (Jumps l) s d given rd y g w = record { started = g; place = after_label l; open_call = calls s w }
    goes_way q (Branches l) s d given rd y g w = record {
      started = g;
      place = zero_way (branches q d) (label_place code l) (suc s.place) (after_label l) (omega arith);
      open_call = calls s w;
    }
    goes_way q (Calls l) s d given rd y g w = record {
      started = g;
      place = after_label l;
      open_call = λ k h. let e : suc s.place ≡ k = cc h in omega (arith, e);
    }
    goes_way q Returns s d given rd y g w = return_way s s.open_call refl g w d
    goes_way q Straight s d given rd y g w = record { started = g; place = omega arith; open_call = calls s w }

    -- the byte moment after a step that begins the next primitive in the same segment
    abbrev on_from : (b : Moment Counted) → List Bool → Went Bytes → Moment Counted
    on_from b bs w = record {
      state = record { bytes = w.next; begun = w.next.place ∷ b.state.begun };
      readings = b.readings;
      answers = bs;
      taken = b.taken;
      cost = b.cost + 0;
      waits = b.waits + 0;
      sent = b.sent ++ w.sent;
    }

    passed_more : (place : ℕ) (p : Paced) (earlier : List ℕ) → slice_get code place ≡ Some p → shape_of p.prim ≢ AtPoll →
        ((i : ℕ) (q : Paced) → slice_get code i ≡ Some q → shape_of q.prim ≡ AtPoll → times i earlier ≡ 0) → (i : ℕ) (q : Paced) → slice_get code i ≡ Some q →
        shape_of q.prim ≡ AtPoll → times i (place ∷ earlier) ≡ 0
    passed_more place p earlier h ne old i q g e =
        let differs : (place == i) ≡ false = ne_eqb place i (λ same. let f : p ≡ q = cc in ne (ap (λ x. shape_of x.prim) f ∙ e)) in
        omega (arith, times-cons i place earlier, ap (λ v. cond {A = ℕ} v 1 0) differs, old i q g e)

    reached_on : (b : Moment Counted) (r : Reached b) (bs : List Bool) (w : Went Bytes) (fm : Form) → slice_get forms b.state.bytes.place ≡ Some fm →
        shape_of fm.paced.prim ≢ AtPoll → onward (counted_step code) b ≡ Goes (on_from b bs w) → IsUnderWay w.next → Reached (on_from b bs w)
    reached_on b r bs w fm h ne goes way = record {
      j = suc r.j;
      is = moment_more (counted_step code) b (on_from b bs w) goes r.j _ r.is;
      earlier = b.state.bytes.place ∷ r.earlier;
      begun = ap (λ l. w.next.place ∷ l) r.begun;
      passed = passed_more b.state.bytes.place fm.paced r.earlier (code_at b.state.bytes.place fm h) ne r.passed;
      owed = r.owed;
      owes = r.owes;
      way = inr way;
      legal = r.legal;
    }

    paid_on : (b : Moment Counted) (r : Reached b) (fm : Form) → slice_get forms b.state.bytes.place ≡ Some fm →
        r.owed + spent cost_of forms (b.state.bytes.place ∷ r.earlier) ≡ paid b r + fm.cycles
    paid_on b r fm h = let e : at_most cost_of (slice_get forms b.state.bytes.place) ≡ fm.cycles = ap (at_most cost_of) h in omega (arith, e)

    -- the byte step of a primitive that asks for nothing
    plain_on : (b : Moment Counted) (fm : Form) → slice_get forms b.state.bytes.place ≡ Some fm → asked_by fm.paced.prim ≡ ask.Nothing →
        onward (counted_step code) b ≡ Goes (on_from b b.answers (act code fm.paced.prim b.state.bytes false no_reading))
    plain_on b fm h e =
        onward_is (counted_step code) b ask.Nothing b.readings b.answers
        (counted_asks code b.state fm.paced (shape_of fm.paced.prim) (code_at b.state.bytes.place fm h) refl ∙ e) refl refl
        ∙ ap (within b 0 b.answers) (counted_is code b.state fm.paced (shape_of fm.paced.prim) false no_reading (code_at b.state.bytes.place fm h) refl)
        ∙ ap (λ k. within b 0 b.answers (Some (record {
          next = record {
            bytes = (act code fm.paced.prim b.state.bytes false no_reading).next;
            begun = begun_after b.state.begun (act code fm.paced.prim b.state.bytes false no_reading).next.place k;
          };
          cycles = 0;
          poll = k;
          sent = (act code fm.paced.prim b.state.bytes false no_reading).sent;
        }))) (is_plain code b.state.bytes fm.paced.prim e)

    -- from where the byte run is, it comes to a primitive that has words. d bounds how many labels stand in front of it
    followed : (d : ℕ) (b : Moment Counted) (r : Reached b) → length forms ≤ b.state.bytes.place + d → IsFollowed code b.state.bytes.place
    followed zero b r le = let k = form_here b r in absurd (omega (arith, le, slice_get_within forms b.state.bytes.place k.0 k.1))
    followed (suc d) b r le =
        let k = form_here b r in
        let q = k.0.paced.prim in
        let w = act code q b.state.bytes false no_reading in
        ⊎_elim
        (λ e. (b.state.bytes.place, k.0.paced, code_at b.state.bytes.place k.0 k.1, e, omega arith))
        (λ n.
        let plain : asked_by q ≡ ask.Nothing = ap asked_in n.1 in
        let ne : shape_of q ≢ AtPoll = λ f. absurd (cc (n.1, f)) in
        let way = goes_way q (shape_of q) b.state.bytes (effect q b.state.bytes.store) false no_reading (λ x. absurd (x plain))
        (begins b.state.bytes k.0.paced (code_at b.state.bytes.place k.0 k.1) r.way) r.way in
        let r' = reached_on b r b.answers w k.0 k.1 ne (plain_on b k.0 k.1 plain) way in
        let at : w.next.place ≡ suc b.state.bytes.place = ap (λ x. (shaped code q x b.state.bytes
        (effect q b.state.bytes.store) false no_reading).next.place) n.1 in
        let more = followed d (on_from b b.answers w) r' (omega (arith, at, le)) in
        (more.0, more.1, more.2, more.3, omega (arith, at, more.4)))
        (word_kind (shape_of q))

    -- behind a step by its shape
    behind : (s : Bytes) (q : BytePrim) (h : Shape) (rd : PinReading) → shape_of q ≡ h →
        IsFollowed code (shaped code q h s (effect q s.store) true rd).next.place →
        IsFollowed code (act code q s true rd).next.place
    behind s q h rd e f = subst (λ x. IsFollowed code (shaped code q x s (effect q s.store) true rd).next.place) (sym e) f

    abbrev Stands : Moment M → Moment Counted → Type 0
    Stands c b = lay.stands c.state b.state.bytes

    -- a primitive that asks for nothing begins, and the next after it where it takes no step
    begin_plain : (c : Moment M) (b : Moment Counted) (r : Reached b) (fm : Form) → slice_get forms b.state.bytes.place ≡ Some fm →
        asked_by fm.paced.prim ≡ ask.Nothing → SameDrive c b → Stands c b → c.cost ≤ paid b r + lay.wait * c.waits → c.sent ≡ b.sent →
        ((b' : Moment Counted) (r' : Reached b') → b'.state.bytes.place ≡ suc b.state.bytes.place → SameDrive c b' → Stands c b' →
        c.cost ≤ paid b' r' + lay.wait * c.waits → c.sent ≡ b'.sent → Inv c) → Inv c
    unfolding reached_on
    begin_plain c b r fm h e drive stands cost sent again =
        let q = fm.paced.prim in
        let w = act code q b.state.bytes false no_reading in
        let b' = on_from b b.answers w in
        let ne : shape_of q ≢ AtPoll = λ f. absurd (cc (ap asked_in f, e)) in
        let way = goes_way q (shape_of q) b.state.bytes (effect q b.state.bytes.store) false no_reading (λ n. absurd (n e))
        (begins b.state.bytes fm.paced (code_at b.state.bytes.place fm h) r.way) r.way in
        let r' = reached_on b r b.answers w fm h ne (plain_on b fm h e) way in
        let drive' : SameDrive c b' = record { readings = drive.readings; answers = drive.answers; taken = drive.taken; waits = omega (arith, drive.waits) } in
        let more : paid b' r' ≡ paid b r + fm.cycles = paid_on b r fm h in
        ⊎_elim
        (λ m. (
          b',
          r',
          inl (record {
            drive = drive';
            ask = m.0;
            budget = fm.cycles;
            later = w.sent;
            from = m.1;
            cost = omega (arith, cost, more);
            sent = ap (λ l. l ++ w.sent) sent;
          }),
        ))
        (λ s. again b' r' s.0 drive' s.2 (omega (arith, cost, more)) (sent ∙ sym (ap (λ l. b.sent ++ l) s.1 ∙ append-nil b.sent)))
        (law.plain c.state b.state.bytes fm (may_begin b r fm h) e (followed (length forms) b' r' (omega arith)) stands)

    begin_poll : (c : Moment M) (b : Moment Counted) (r : Reached b) (fm : Form) → slice_get forms b.state.bytes.place ≡ Some fm →
        asked_by fm.paced.prim ≢ ask.Nothing → SameDrive c b → Stands c b → c.cost ≤ paid b r + lay.wait * c.waits → c.sent ≡ b.sent → Inv c
    begin_poll c b r fm h ne drive stands cost sent = (
      b,
      r,
      inr (record {
        drive = drive;
        fm = fm;
        at = h;
        polls = ne;
        budget = fm.enter;
        silent = [];
        to = law.enters c.state b.state.bytes fm (may_begin b r fm h) ne stands;
        none = refl;
        cost = omega (arith, cost);
        sent = sent;
      }),
    )

    asked_cases : (a : Ask) → (a ≡ ask.Nothing) ⊎ (a ≢ ask.Nothing)
    asked_cases ask.Nothing = inl refl
    asked_cases ask.Reading = inr (λ e. cc)
    asked_cases ask.Device = inr (λ e. cc)

    -- the machine stands for the byte state: the next primitive begins. d bounds how many of them take no step
    begin : (d : ℕ) (c : Moment M) (b : Moment Counted) (r : Reached b) → length forms ≤ b.state.bytes.place + d → SameDrive c b → Stands c b →
        c.cost ≤ paid b r + lay.wait * c.waits → c.sent ≡ b.sent → Inv c
    begin zero c b r le drive stands cost sent =
        let k = form_here b r in absurd (omega (arith, le, slice_get_within forms b.state.bytes.place k.0 k.1))
    begin (suc d) c b r le drive stands cost sent =
        let k = form_here b r in
        ⊎_elim
        (λ e. begin_plain c b r k.0 k.1 e drive stands cost sent (λ b' r' at drive' stands' cost' sent'. begin d c b' r'
        (omega (arith, at, le)) drive' stands' cost' sent'))
        (λ ne. begin_poll c b r k.0 k.1 ne drive stands cost sent)
        (asked_cases (asked_by k.0.paced.prim))

    -- steps that ask for nothing, to where the machine stands for b
    settle : (c : Moment M) (b : Moment Counted) (r : Reached b) (m : M) (budget : ℕ) (later : List ℕ) → SameDrive c b → c.state ≡ m →
        Leads lay.step (λ x. lay.stands x b.state.bytes) m budget later → c.cost + budget ≤ paid b r + lay.wait * c.waits → c.sent ++ later ≡ b.sent → Inv c
    settle c b r m budget _ drive e (here h) cost sent =
        begin (length forms) c b r (omega arith) drive (subst (λ x. lay.stands x b.state.bytes) (sym e) h) (omega (arith, cost)) (sym (append-nil c.sent)
        ∙ sent)
    settle c b r m budget _ drive e (on {rest = rest} w left asked is bound further) cost sent = (
      b,
      r,
      inl (record {
        drive = drive;
        ask = ap (ask_of lay.step) e ∙ asked;
        budget = budget;
        later = w.sent ++ rest;
        from = record {
          went = w;
          is = ap (λ x. lay.step x false no_reading) e ∙ is;
          left = left;
          bound = bound;
          rest = rest;
          said = refl;
          further = further;
        };
        cost = cost;
        sent = sent;
      }),
    )

    -- the machine polls, and goes on
    polling : (c : Moment M) (b : Moment Counted) (r : Reached b) (fm : Form) → slice_get forms b.state.bytes.place ≡ Some fm →
        asked_by fm.paced.prim ≢ ask.Nothing → SameDrive c b → (budget : ℕ) (silent : List ℕ) → silent ≡ [] →
        Leads lay.step (λ m. lay.awaits m b.state.bytes) c.state budget silent → c.cost + budget ≤ paid b r + fm.enter + lay.wait * c.waits → c.sent ≡ b.sent →
        Inv c
    polling c b r fm h ne drive budget silent none to cost sent = (
      b,
      r,
      inr (record {
        drive = drive;
        fm = fm;
        at = h;
        polls = ne;
        budget = budget;
        silent = silent;
        to = to;
        none = none;
        cost = cost;
        sent = sent;
      }),
    )

    -- the byte moment after an answer that is not ready
    abbrev waited : Moment Counted → List Bool → Moment Counted
    waited b bs = record { state = b.state; readings = b.readings; answers = bs; taken = b.taken; cost = b.cost + 0; waits = b.waits + 1; sent = b.sent ++ [] }

    reached_waited : (b : Moment Counted) (r : Reached b) (bs : List Bool) → onward (counted_step code) b ≡ Goes (waited b bs) → Reached (waited b bs)
    reached_waited b r bs goes = record {
      j = suc r.j;
      is = moment_more (counted_step code) b (waited b bs) goes r.j _ r.is;
      earlier = r.earlier;
      begun = r.begun;
      passed = r.passed;
      owed = r.owed;
      owes = r.owes;
      way = r.way;
      legal = r.legal;
    }

    -- the byte moment after a reading was taken
    abbrev took : Moment Counted → BytePrim → PinReading → List PinReading → List Bool → Moment Counted
    took b q rd rs bs = record {
      state = record {
        bytes = (polled b.state.bytes (effect q b.state.bytes.store) true rd).next;
        begun = suc b.state.bytes.place ∷ [];
      };
      readings = rs;
      answers = bs;
      taken = b.taken + 1;
      cost = 0;
      waits = 0;
      sent = [];
    }

    reached_took : (b : Moment Counted) (r : Reached b) (fm : Form) (rd : PinReading) (rs : List PinReading) (bs : List Bool) →
        slice_get forms b.state.bytes.place ≡ Some fm → shape_of fm.paced.prim ≡ AtPoll → AllByRecursion lay.reads rs →
        onward (counted_step code) b ≡ Goes (took b fm.paced.prim rd rs bs) → Reached (took b fm.paced.prim rd rs bs)
    reached_took b r fm rd rs bs h e legal goes = record {
      j = suc r.j;
      is = moment_more (counted_step code) b (took b fm.paced.prim rd rs bs) goes r.j _ r.is;
      earlier = [];
      begun = refl;
      passed = λ i q g f. refl;
      owed = fm.leave;
      owes = subst (λ k. Owed k fm.leave) (sym (add-one b.taken)) (b.state.bytes.place, fm, h, e, omega arith);
      way = inr (goes_way fm.paced.prim AtPoll b.state.bytes (effect fm.paced.prim b.state.bytes.store) true rd (λ n. refl)
          (begins b.state.bytes fm.paced (code_at b.state.bytes.place fm h) r.way ∙ ap (λ x. not (starts_in x)) e) r.way);
      legal = legal;
    }

    -- an answer that is not ready: the machine is led back to where it asks
    not_ready : (c : Moment M) (b : Moment Counted) (r : Reached b) (fm : Form) → slice_get forms b.state.bytes.place ≡ Some fm →
        asked_by fm.paced.prim ≢ ask.Nothing → SameDrive c b → lay.awaits c.state b.state.bytes → c.cost ≤ paid b r + fm.enter + lay.wait * c.waits →
        c.sent ≡ b.sent → (bs : List Bool) → onward (counted_step code) b ≡ Goes (waited b bs) → Fine (within c 1 bs (lay.step c.state false no_reading))
    unfolding reached_waited
    not_ready c b r fm h ne drive awaits cost sent bs goes =
        let x0 = law.waits c.state b.state.bytes fm (may_begin b r fm h) ne awaits in
        let silent = append_none x0.went.sent x0.rest (sym x0.said) in
        subst Fine (sym (ap (within c 1 bs) x0.is)) (polling _ (waited b bs) (reached_waited b r bs goes) fm h ne (record {
          readings = drive.readings;
          answers = refl;
          taken = drive.taken;
          waits = omega (arith, drive.waits);
        }) x0.left x0.rest silent.1 x0.further (omega (arith, cost, x0.bound))
        (ap (λ x. x ++ x0.went.sent) sent ∙ ap (λ x. b.sent ++ x) silent.0))

    -- at a device poll
    at_device : (c : Moment M) (b : Moment Counted) (r : Reached b) (fm : Form) → slice_get forms b.state.bytes.place ≡ Some fm →
        asked_by fm.paced.prim ≢ ask.Nothing → shape_of fm.paced.prim ≡ AtDevice → SameDrive c b → lay.awaits c.state b.state.bytes →
        c.cost ≤ paid b r + fm.enter + lay.wait * c.waits → c.sent ≡ b.sent → (bs : List Bool) → c.answers ≡ bs →
        Fine (answered lay.step c ask.Device c.readings bs)
    unfolding reached_on
    at_device c b r fm h ne e drive awaits cost sent [] f = tt
    at_device c b r fm h ne e drive awaits cost sent (false ∷ bs) f =
        not_ready c b r fm h ne drive awaits cost sent bs (onward_is (counted_step code) b ask.Device b.readings (false ∷ bs)
        (counted_asks code b.state fm.paced AtDevice (code_at b.state.bytes.place fm h) e) refl (sym drive.answers ∙ f)
        ∙ ap (within b 1 bs) (counted_is code b.state fm.paced AtDevice false no_reading (code_at b.state.bytes.place fm h) e))
    at_device c b r fm h ne e drive awaits cost sent (true ∷ bs) f =
        let q = fm.paced.prim in
        let w = shaped code fm.paced.prim AtDevice b.state.bytes (effect fm.paced.prim b.state.bytes.store) true no_reading in
        let b' = on_from b bs w in
        let goes : onward (counted_step code) b ≡ Goes b' = onward_is (counted_step code) b ask.Device b.readings (true ∷ bs)
        (counted_asks code b.state fm.paced AtDevice (code_at b.state.bytes.place fm h) e) refl (sym drive.answers ∙ f)
        ∙ ap (within b 0 bs) (counted_is code b.state fm.paced AtDevice true no_reading (code_at b.state.bytes.place fm h) e) in
        let nc : shape_of q ≢ AtPoll = λ g. absurd (cc (e, g)) in
        let way = goes_way fm.paced.prim AtDevice b.state.bytes (effect fm.paced.prim b.state.bytes.store) true no_reading (λ n. refl)
        (begins b.state.bytes fm.paced (code_at b.state.bytes.place fm h) r.way ∙ ap (λ x. not (starts_in x)) e) r.way in
        let r' = reached_on b r bs w fm h nc goes way in
        let more : paid b' r' ≡ paid b r + fm.cycles = paid_on b r fm h in
        let x0 = law.leaves c.state b.state.bytes fm no_reading (λ q. absurd (cc (ap asked_in e, q))) (may_begin b r fm h) ne
        (behind b.state.bytes fm.paced.prim AtDevice no_reading e (followed (length forms) b' r' (omega arith))) awaits in
        let to = subst (λ x. Leads lay.step (λ m'. lay.stands m' (shaped code fm.paced.prim x b.state.bytes
        (effect fm.paced.prim b.state.bytes.store) true no_reading).next) x0.went.next x0.left x0.rest) e x0.further in
        subst Fine (sym (ap (within c 0 bs) x0.is)) (settle _ b' r' x0.went.next x0.left x0.rest (record {
          readings = drive.readings;
          answers = refl;
          taken = drive.taken;
          waits = omega (arith, drive.waits);
        }) refl to (omega (arith, cost, x0.bound, more, law.within b.state.bytes.place fm h ne))
        (append_assoc c.sent x0.went.sent x0.rest ∙ ap (λ x. c.sent ++ x) (sym x0.said) ∙ ap (λ x. x ++ []) sent))

    -- at the cycle poll
    at_cycle : (c : Moment M) (b : Moment Counted) (r : Reached b) (fm : Form) → slice_get forms b.state.bytes.place ≡ Some fm →
        asked_by fm.paced.prim ≢ ask.Nothing → shape_of fm.paced.prim ≡ AtPoll → SameDrive c b → lay.awaits c.state b.state.bytes →
        c.cost ≤ paid b r + fm.enter + lay.wait * c.waits → c.sent ≡ b.sent → (rs : List PinReading) (bs : List Bool) → c.readings ≡ rs → c.answers ≡ bs →
        Fine (answered lay.step c ask.Reading rs bs)
    unfolding reached_took
    at_cycle c b r fm h ne e drive awaits cost sent rs [] f g = tt
    at_cycle c b r fm h ne e drive awaits cost sent rs (false ∷ bs) f g =
        not_ready c b r fm h ne drive awaits cost sent bs (onward_is (counted_step code) b ask.Reading b.readings (false ∷ bs)
        (counted_asks code b.state fm.paced AtPoll (code_at b.state.bytes.place fm h) e) refl (sym drive.answers ∙ g)
        ∙ ap (within b 1 bs) (counted_is code b.state fm.paced AtPoll false no_reading (code_at b.state.bytes.place fm h) e))
    at_cycle c b r fm h ne e drive awaits cost sent [] (true ∷ bs) f g = tt
    at_cycle c b r fm h ne e drive awaits cost sent (rd ∷ rs) (true ∷ bs) f g =
        let b' = took b fm.paced.prim rd rs bs in
        let goes : onward (counted_step code) b ≡ Goes b' = onward_is (counted_step code) b ask.Reading (rd ∷ rs) (true ∷ bs)
        (counted_asks code b.state fm.paced AtPoll (code_at b.state.bytes.place fm h) e) (sym drive.readings ∙ f) (sym drive.answers ∙ g)
        ∙ ap (taking b rs bs) (counted_is code b.state fm.paced AtPoll true rd (code_at b.state.bytes.place fm h) e) in
        let legal : lay.reads rd × AllByRecursion lay.reads rs = subst (AllByRecursion lay.reads) (sym drive.readings ∙ f) r.legal in
        let r' = reached_took b r fm rd rs bs h e legal.1 goes in
        let x0 = law.leaves c.state b.state.bytes fm rd (λ q. legal.0) (may_begin b r fm h) ne
        (behind b.state.bytes fm.paced.prim AtPoll rd e (followed (length forms) b' r' (omega arith))) awaits in
        let to = subst (λ x. Leads lay.step (λ m'. lay.stands m' (shaped code fm.paced.prim x b.state.bytes
        (effect fm.paced.prim b.state.bytes.store) true rd).next) x0.went.next x0.left x0.rest) e x0.further in
        subst Fine (sym (ap (taking c rs bs) x0.is)) (settle _ b' r' x0.went.next x0.left x0.rest (record {
          readings = refl;
          answers = refl;
          taken = omega (arith, drive.taken);
          waits = refl;
        }) refl to (omega (arith, x0.bound)) (sym x0.said))

    -- a step in a poll
    poll_step : (c : Moment M) (b : Moment Counted) (r : Reached b) (fm : Form) → slice_get forms b.state.bytes.place ≡ Some fm →
        asked_by fm.paced.prim ≢ ask.Nothing → SameDrive c b → (m : M) (budget : ℕ) (silent : List ℕ) → c.state ≡ m → silent ≡ [] →
        Leads lay.step (λ x. lay.awaits x b.state.bytes) m budget silent → c.cost + budget ≤ paid b r + fm.enter + lay.wait * c.waits → c.sent ≡ b.sent →
        Fine (onward lay.step c)
    poll_step c b r fm h ne drive m budget _ same none (here awaits) cost sent =
        let awaits' : lay.awaits c.state b.state.bytes = subst (λ x. lay.awaits x b.state.bytes) (sym same) awaits in
        let asks = law.asks c.state b.state.bytes fm (may_begin b r fm h) ne awaits' in
        let less : c.cost ≤ paid b r + fm.enter + lay.wait * c.waits = omega (arith, cost) in
        ⊎_elim
        (λ e. subst Fine (sym (onward_is lay.step c ask.Reading c.readings c.answers (asks
        ∙ ap asked_in e) refl refl)) (at_cycle c b r fm h ne e drive awaits' less sent c.readings c.answers refl refl))
        (λ e. subst Fine (sym (onward_is lay.step c ask.Device c.readings c.answers (asks
        ∙ ap asked_in e) refl refl)) (at_device c b r fm h ne e drive awaits' less sent c.answers refl))
        (poll_kind (shape_of fm.paced.prim) ne)
    poll_step c b r fm h ne drive m budget _ same none (on {rest = rest} w left asked is bound further) cost sent =
        let silent = append_none w.sent rest none in
        subst Fine (sym (onward_is lay.step c ask.Nothing c.readings c.answers (ap (ask_of lay.step) same ∙ asked) refl refl
        ∙ ap (within c 0 c.answers) (ap (λ x. lay.step x false no_reading) same ∙ is)))
        (polling _ b r fm h ne (record {
          readings = drive.readings;
          answers = drive.answers;
          taken = drive.taken;
          waits = omega (arith, drive.waits);
        }) left rest silent.1 further (omega (arith, cost, bound)) (ap (λ x. c.sent ++ x) silent.0 ∙ append-nil c.sent
        ∙ sent))

    -- a step on the way
    move_step : (c : Moment M) (b : Moment Counted) (r : Reached b) → Moving c b r → Fine (onward lay.step c)
    move_step c b r m =
        let x0 = m.from in
        subst Fine (sym (onward_is lay.step c ask.Nothing c.readings c.answers m.ask refl refl ∙ ap (within c 0 c.answers) x0.is))
        (settle _ b r x0.went.next x0.left x0.rest (record {
          readings = m.drive.readings;
          answers = m.drive.answers;
          taken = m.drive.taken;
          waits = omega (arith, m.drive.waits);
        }) refl x0.further (omega (arith, m.cost, x0.bound)) (append_assoc c.sent x0.went.sent x0.rest
        ∙ ap (λ x. c.sent ++ x) (sym x0.said) ∙ m.sent))

    -- each moment leads to such a moment, or the drive ends
    fine : (c : Moment M) → Inv c → Fine (onward lay.step c)
    fine c i =
        ⊎_elim (λ m. move_step c i.0 i.1 m) (λ q. poll_step c i.0 i.1 q.fm q.at q.polls q.drive c.state q.budget q.silent refl q.none q.to q.cost q.sent) i.2

    goes_on : (n : ℕ) (c' : Moment M) → ((c : Moment M) → Inv c → moment lay.step n c ≡ Some c' → Inv c') → (o : Onward (Moment M)) → Fine o →
        then_at (moment lay.step n) o ≡ Some c' → Inv c'
    goes_on n c' h DriveEnds f e = absurd (cc)
    goes_on n c' h IsStuck f e = absurd f
    goes_on n c' h (Goes c) f e = h c f e

    always : (n : ℕ) (c c' : Moment M) → Inv c → moment lay.step n c ≡ Some c' → Inv c'
    always zero c c' i e = let f : c ≡ c' = cc in subst Inv f i
    always (suc n) c c' i e = goes_on n c' (λ x y z. always n x c' y z) (onward lay.step c) (fine c i) e

    either : (v : Bool) → (v ≡ true) ⊎ (v ≡ false)
    either true = inl refl
    either false = inr refl

    -- the poll that took the segment's reading counts as begun once, where it was not begun again
    counts_more : (k place i : ℕ) (earlier : List ℕ) (q : Paced) → slice_get code i ≡ Some q → shape_of q.prim ≡ AtPoll → (place == i) ≡ false →
        ((x : ℕ) (y : Paced) → slice_get code x ≡ Some y → times x (place ∷ earlier) ≤ allowed (suc k) y) →
        ((x : ℕ) (y : Paced) → slice_get code x ≡ Some y → shape_of y.prim ≡ AtPoll → times x earlier ≡ 0) → (x : ℕ) (y : Paced) → slice_get code x ≡ Some y →
        times x (i ∷ place ∷ earlier) ≤ allowed (suc k) y
    counts_more k place i earlier q h is_poll differs counts passed x y g =
        ⊎_elim
        (λ same.
        let e : i ≡ x = eqb-true i x same in
        let f : q ≡ y = cc (h, g, e) in
        let y_poll : shape_of y.prim ≡ AtPoll = sym (ap (λ z. shape_of z.prim) f) ∙ is_poll in
        let apart : (place == x) ≡ false = ap (λ z. place == z) (sym e) ∙ differs in
        omega (
          arith,
          times-cons x i (place ∷ earlier),
          times-cons x place earlier,
          ap (λ v. cond {A = ℕ} v 1 0) apart,
          ap
              (λ v. cond {A = ℕ} v 1 0) same,
          passed x y g y_poll,
          keeps.polls x y g y_poll,
        ))
        (λ other. omega (arith, times-cons x i (place ∷ earlier), ap (λ v. cond {A = ℕ} v 1 0) other, counts x y g))
        (either (i == x))

    -- what a segment may have cost, with what the present primitive may cost so far
    bounded : (k place : ℕ) (earlier : List ℕ) (owed extra : ℕ) (fm : Form) → Owed k owed → slice_get forms place ≡ Some fm → extra ≤ fm.cycles →
        (shape_of fm.paced.prim ≡ AtPoll → extra + fm.leave ≤ fm.cycles) →
        ((i : ℕ) (q : Paced) → slice_get code i ≡ Some q → times i (place ∷ earlier) ≤ allowed k q) →
        ((i : ℕ) (q : Paced) → slice_get code i ≡ Some q → shape_of q.prim ≡ AtPoll → times i earlier ≡ 0) →
        owed + spent cost_of forms earlier + extra ≤ sum_by (λ f. f.cycles * allowed k f.paced) forms
    bounded zero place earlier owed extra fm owes h le both counts passed =
        let all = spent-le cost_of (λ f. allowed 0 f.paced) forms (place ∷ earlier) (λ i f g. counts i f.paced (code_at i f g)) in
        let here' : at_most cost_of (slice_get forms place) ≡ fm.cycles = ap (at_most cost_of) h in
        omega (arith, all, here', le, owes)
    bounded (suc k) place earlier owed extra fm owes h le both counts passed =
        let i = owes.0 in
        let q = owes.1 in
        let here' : at_most cost_of (slice_get forms place) ≡ fm.cycles = ap (at_most cost_of) h in
        let is_poll : shape_of q.paced.prim ≡ AtPoll = owes.3 in
        let polls : asked_by q.paced.prim ≢ ask.Nothing = λ n. cc (ap asked_in is_poll, n) in
        let within' : q.enter + q.leave ≤ q.cycles = law.within i q owes.2 polls in
        ⊎_elim
        (λ equal.
        let same : place ≡ i = eqb-true place i equal in
        let f : fm ≡ q = cc (h, owes.2, same) in
        let all = spent-le cost_of (λ f. allowed (suc k) f.paced) forms (place ∷ earlier) (λ i f g. counts i f.paced (code_at i f g)) in
        omega (arith, all, here', both (ap (λ x. shape_of x.paced.prim) f ∙ is_poll), owes.4, ap (λ x. x.leave) f))
        (λ differs.
        let there : at_most cost_of (slice_get forms i) ≡ q.cycles = ap (at_most cost_of) owes.2 in
        let all = spent-le cost_of (λ f. allowed (suc k) f.paced) forms (i ∷ place ∷ earlier)
        (λ x f g. counts_more k place i earlier q.paced (code_at i q owes.2) is_poll differs counts passed x f.paced (code_at x f g)) in
        omega (arith, all, here', there, le, within', owes.4))
        (either (place == i))

    abbrev cycles_bound : ℕ
    cycles_bound = sum_by (λ f. f.cycles * f.paced.turns) forms

    abbrev boot_bound : ℕ
    boot_bound = sum_by (λ f. f.cycles * f.paced.boot) forms

    by_taken : (k : ℕ) → sum_by (λ f. f.cycles * allowed k f.paced) forms ≡ segment_bound k cycles_bound boot_bound
    by_taken zero = refl
    by_taken (suc k) = refl

    -- the counts are kept, so no moment of a segment costs more than the sums
    bounded_at : (b : Moment Counted) (r : Reached b) (extra : ℕ) (fm : Form) → slice_get forms b.state.bytes.place ≡ Some fm → extra ≤ fm.cycles →
        (shape_of fm.paced.prim ≡ AtPoll → extra + fm.leave ≤ fm.cycles) → paid b r + extra ≤ segment_bound b.taken cycles_bound boot_bound
    bounded_at b r extra fm h le both =
        let counts = (kept b r).counts in
        let counts' : (i : ℕ) (q : Paced) → slice_get code i ≡ Some q → times i (b.state.bytes.place ∷ r.earlier) ≤ allowed b.taken q = λ i q g. subst
        (λ l. times i l ≤ allowed b.taken q) r.begun (counts i q g) in
        omega (arith, bounded b.taken b.state.bytes.place r.earlier r.owed extra fm r.owes h le both counts' r.passed, by_taken b.taken)

    stuck_never : (o : Onward (Moment M)) → Fine o → o ≢ IsStuck
    stuck_never DriveEnds f e = cc
    stuck_never IsStuck f e = f
    stuck_never (Goes c) f e = cc

    leave_bound : (i : ℕ) (fm : Form) → slice_get forms i ≡ Some fm → shape_of fm.paced.prim ≡ AtPoll → 0 + fm.leave ≤ fm.cycles
    leave_bound i fm h e = omega (arith, law.within i fm h (λ n. cc (ap asked_in e, n)))

    enter_bound : (i : ℕ) (fm : Form) → slice_get forms i ≡ Some fm → shape_of fm.paced.prim ≡ AtPoll → fm.enter + fm.leave ≤ fm.cycles
    enter_bound i fm h e = law.within i fm h (λ n. cc (ap asked_in e, n))

    shows_where : (c : Moment M) (b : Moment Counted) (fm : Form) → slice_get forms b.state.bytes.place ≡ Some fm → asked_by fm.paced.prim ≢ ask.Nothing →
        (r : Reached b) → (m : M) (budget : ℕ) (silent : List ℕ) → c.state ≡ m → Leads lay.step (λ x. lay.awaits x b.state.bytes) m budget silent →
        c.sent ≡ b.sent → ask_of lay.step c.state ≡ ask.Reading → LaidShows lay code c b
    shows_where c b fm h ne r m budget _ same (here awaits) sent asks =
        let awaits' : lay.awaits c.state b.state.bytes = subst (λ x. lay.awaits x b.state.bytes) (sym same) awaits in
        let kind = law.asks c.state b.state.bytes fm (may_begin b r fm h) ne awaits' in
        record {
          shows = law.shown c.state b.state.bytes awaits';
          sent = sent;
          poll = (
            fm.paced,
            code_at b.state.bytes.place fm h,
            ⊎_elim (λ e. e) (λ e. absurd (cc (kind, asks, ap asked_in e)))
                (poll_kind (shape_of fm.paced.prim) ne),
          );
        }
    shows_where c b fm h ne r m budget _ same (on w left asked is bound further) sent asks = absurd (cc (ap (ask_of lay.step) same, asked, asks))

    holds : (c : Moment M) → Inv c → LaidHolds lay code s0 readings0 answers0 cycles_bound boot_bound c
    holds c i =
        let b = i.0 in
        let r = i.1 in
        let k = form_here b r in
        record {
          not_stuck = stuck_never (onward lay.step c) (fine c i);
          cost = ⊎_elim
              (λ m. let le = bounded_at b r 0 k.0 k.1 (omega arith) (leave_bound b.state.bytes.place k.0 k.1) in omega
              (arith, m.cost, le, ap (λ n. segment_bound n cycles_bound boot_bound) m.drive.taken))
              (λ q. let le = bounded_at b r q.fm.enter q.fm q.at (omega (arith, law.within b.state.bytes.place q.fm q.at q.polls))
              (enter_bound b.state.bytes.place q.fm q.at) in omega (arith, q.cost, le, ap (λ n. segment_bound n cycles_bound boot_bound) q.drive.taken))
              i.2;
          bytes = (
            r.j,
            b,
            r.is,
            ⊎_elim
                (λ m. record {
                  readings = m.drive.readings;
                  answers = m.drive.answers;
                  taken = m.drive.taken;
                  waits = m.drive.waits;
                  sent = (m.later, m.sent);
                  asks = λ e. absurd (cc (m.ask, e));
                })
                (λ q. record {
                  readings = q.drive.readings;
                  answers = q.drive.answers;
                  taken = q.drive.taken;
                  waits = q.drive.waits;
                  sent = ([], append-nil c.sent ∙ q.sent);
                  asks = shows_where c b q.fm q.at q.polls r c.state q.budget q.silent refl q.to q.sent;
                })
                i.2,
          );
        }

    first_reached : AllByRecursion lay.reads readings0 → IsFresh s0 → Reached (first_moment (uncounted s0) readings0 answers0)
    first_reached legal0 f = record {
      j = 0;
      is = refl;
      earlier = [];
      begun = refl;
      passed = λ i fm h e. refl;
      owed = 0;
      owes = refl;
      way = inl f;
      legal = legal0;
    }

    -- every moment of every run
    pub whole : IsFresh s0 → AllByRecursion lay.reads readings0 → (m : M) → lay.stands m s0 → (n : ℕ) (c : Moment M) →
        moment lay.step n (first_moment m readings0 answers0) ≡ Some c → LaidHolds lay code s0 readings0 answers0 cycles_bound boot_bound c
    unfolding first_reached
    whole f legal0 m stands n c e =
        let start = first_moment m readings0 answers0 in
        let drive : SameDrive start (first_moment (uncounted s0) readings0 answers0) = record { readings = refl; answers = refl; taken = refl; waits = refl } in
        holds c (always n start c (begin (length forms) start (first_moment (uncounted s0) readings0 answers0) (first_reached legal0 f)
        (omega arith) drive stands (omega arith) refl) e)
