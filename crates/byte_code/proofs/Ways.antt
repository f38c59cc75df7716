-- Stretches of the byte machine, and its runs by cycles: what a lowering proves of its code.
use Rattle.std.proofs.Common.{◌≡◌, ℕ, zero, suc, ◌+◌, ◌≤◌, ◌⊎◌, ⊎_elim, inl, inr, List, [], ◌∷◌, ◌++◌, drop, Some, Bool, true, false, refl, sym, ap, subst, ◌∙◌, arith, append-nil, append_assoc, add-one}
use Rattle.std.specs.Prelude.{slice_get}
use Rattle.chip_tables.specs.Outside.{no_reading}
use Rattle.chip_tables.specs.declared.outside.PinReading.{PinReading}
use Rattle.runs.specs.declared.ask.Ask.TheVariants as ask
use Rattle.runs.specs.Run.{Goes, Moment, moment, first_moment, onward, answered, within, taking}
use Rattle.runs.proofs.RunLemmas.{onward_is, keeps_on}
use Rattle.byte_code.specs.declared.prim.Paced.{Paced}
use Rattle.byte_code.specs.declared.state.Bytes.{Bytes}
use Rattle.byte_code.specs.declared.prim.Shape.TheVariants.{AtPoll, AtDevice}
use Rattle.byte_code.specs.Table.{shape_of, effect}
use Rattle.byte_code.specs.Machine.{act, asked_in, asked_by, next_with, polled}
use Rattle.byte_code.specs.Counts.{Counted, counted_step, begun_after, uncounted, allowed, Fits, KeepsAt, KeepsCounts}
use Rattle.byte_code.proofs.Steps.{counted_is, counted_asks, is_plain}
use Rattle.byte_code.proofs.Times.{times, times-cons}

-- the readings left after one was taken, and which it was
took_read : (k : ℕ) (rs : List PinReading) (r : PinReading) (rest : List PinReading) → drop k rs ≡ r ∷ rest →
    (drop (suc k) rs ≡ rest) × (slice_get rs k ≡ Some r)
took_read zero [] r rest e = absurd (cc)
took_read zero (x ∷ rs) r rest e = (cc, let f : x ≡ r = cc in ap Some f)
took_read (suc k) [] r rest e = absurd (cc)
took_read (suc k) (x ∷ rs) r rest e = took_read k rs r rest e

module _ (code : List Paced) where
  -- from s, steps that take no reading begin these places, send these bytes and lead to a state of T
  pub data Way (T : Bytes → Type 0) : Bytes → List ℕ → List ℕ → Type 0 where
    there : {s : Bytes} → T s → Way T s [] []
    acts : {s : Bytes} {begun sent : List ℕ} (p : Paced) → slice_get code s.place ≡ Some p → asked_by p.prim ≡ ask.Nothing → Fits p.prim s →
        Way T (act code p.prim s false no_reading).next begun sent →
        Way T s ((act code p.prim s false no_reading).next.place ∷ begun) ((act code p.prim s false no_reading).sent ++ sent)
    waits : {s : Bytes} {begun sent : List ℕ} (p : Paced) → slice_get code s.place ≡ Some p → shape_of p.prim ≡ AtDevice → Fits p.prim s →
        Way T (next_with s (effect p.prim s.store)) begun sent → Way T s (suc s.place ∷ begun) sent

  -- one after another
  pub way_on : (T U : Bytes → Type 0) (s : Bytes) (begun sent more said : List ℕ) → Way T s begun sent → ((s' : Bytes) → T s' → Way U s' more said) →
      Way U s (begun ++ more) (sent ++ said)
  way_on T U s _ _ more said (there h) k = k s h
  way_on T U s _ _ more said (acts {begun = begun} {sent = sent} p h e fits w) k =
      subst (λ o. Way U s ((act code p.prim s false no_reading).next.place ∷ (begun ++ more)) o)
      (sym (append_assoc (act code p.prim s false no_reading).sent sent said))
      (acts p h e fits (way_on T U (act code p.prim s false no_reading).next begun sent more said w k))
  way_on T U s _ _ more said (waits {begun = begun} {sent = sent} p h e fits w) k =
      waits p h e fits (way_on T U (next_with s (effect p.prim s.store)) begun sent more said w k)

  -- a way, by its first step
  record Acts (T : Bytes → Type 0) (s : Bytes) (begun sent : List ℕ) : Type 0 where
    p : Paced
    at : slice_get code s.place ≡ Some p
    plain : asked_by p.prim ≡ ask.Nothing
    fits : Fits p.prim s
    begun1 : List ℕ
    sent1 : List ℕ
    way : Way T (act code p.prim s false no_reading).next begun1 sent1
    begun_is : begun ≡ (act code p.prim s false no_reading).next.place ∷ begun1
    sent_is : sent ≡ (act code p.prim s false no_reading).sent ++ sent1

  record Waits (T : Bytes → Type 0) (s : Bytes) (begun sent : List ℕ) : Type 0 where
    p : Paced
    at : slice_get code s.place ≡ Some p
    polls : shape_of p.prim ≡ AtDevice
    fits : Fits p.prim s
    begun1 : List ℕ
    way : Way T (next_with s (effect p.prim s.store)) begun1 sent
    begun_is : begun ≡ suc s.place ∷ begun1

  record There (T : Bytes → Type 0) (s : Bytes) (begun sent : List ℕ) : Type 0 where
    holds : T s
    begun_is : begun ≡ []
    sent_is : sent ≡ []

  by_first : (T : Bytes → Type 0) (s : Bytes) (begun sent : List ℕ) → Way T s begun sent → There T s begun sent ⊎ (Acts T s begun sent ⊎ Waits T s begun sent)
  by_first T s _ _ (there h) = inl (record { holds = h; begun_is = refl; sent_is = refl })
  by_first T s _ _ (acts {begun = begun} {sent = sent} p h e fits w) =
      inr (inl (record { p = p; at = h; plain = e; fits = fits; begun1 = begun; sent1 = sent; way = w; begun_is = refl; sent_is = refl }))
  by_first T s _ sent (waits {begun = begun} p h e fits w) =
      inr (inr (record { p = p; at = h; polls = e; fits = fits; begun1 = begun; way = w; begun_is = refl }))

-- A program by cycles: At k holds at its poll after k readings, and told k is what segment k sends.
module _ (code : List Paced) (readings0 : List PinReading) (At : ℕ → Bytes → Type 0) (told : ℕ → List ℕ) where
  -- a way to the next poll, on which nothing is begun too often
  pub record Segment (k : ℕ) (s : Bytes) : Type 0 where
    pub begun : List ℕ
    pub way : Way code (At k) s begun (told k)
    pub counts : (i : ℕ) (p : Paced) → slice_get code i ≡ Some p → times i (s.place ∷ begun) ≤ allowed k p

  -- the primitive at the poll, which fits there
  pub record Polls (s : Bytes) : Type 0 where
    pub p : Paced
    pub at : slice_get code s.place ≡ Some p
    pub polls : shape_of p.prim ≡ AtPoll
    pub fits : Fits p.prim s

  record OnWay (b : Moment Counted) : Type 0 where
    left : drop b.taken readings0 ≡ b.readings
    begun : List ℕ
    later : List ℕ
    way : Way code (At b.taken) b.state.bytes begun later
    counts : (i : ℕ) (p : Paced) → slice_get code i ≡ Some p → times i b.state.begun + times i begun ≤ allowed b.taken p
    sent : b.sent ++ later ≡ told b.taken

  module _ (at_poll : (k : ℕ) (s : Bytes) → At k s → Polls s) (turn : (k : ℕ) (s : Bytes) (r : PinReading) → At k s → slice_get readings0 k ≡ Some r →
      (p : Paced) → slice_get code s.place ≡ Some p → Segment (suc k) (polled s (effect p.prim s.store) true r).next) where
    -- a step that goes on in the segment
    stepped : (b b' : Moment Counted) (w : OnWay b) (begun1 sent1 : List ℕ) (bs : List Bool) (next : Bytes) (said : List ℕ) → w.begun ≡ next.place ∷ begun1 →
        Way code (At b.taken) next begun1 sent1 → w.later ≡ said ++ sent1 →
        Goes (record {
          state = record { bytes = next; begun = next.place ∷ b.state.begun };
          readings = b.readings;
          answers = bs;
          taken = b.taken;
          cost = b.cost + 0;
          waits = b.waits + 0;
          sent = b.sent ++ said;
        }) ≡ Goes b' → OnWay b'
    stepped b b' w begun1 sent1 bs next said e way f g =
        let same : record {
          state = record { bytes = next; begun = next.place ∷ b.state.begun };
          readings = b.readings;
          answers = bs;
          taken = b.taken;
          cost = b.cost + 0;
          waits = b.waits + 0;
          sent = b.sent ++ said;
        } ≡ b' = cc in
        subst OnWay same (record {
          left = w.left;
          begun = begun1;
          later = sent1;
          way = way;
          counts = λ i p h. omega (arith, w.counts i p h, ap (times i) e, times-cons i next.place begun1, times-cons i next.place b.state.begun);
          sent = append_assoc b.sent said sent1 ∙ ap (λ l. b.sent ++ l) (sym f) ∙ w.sent;
        })

    -- an answer that is not ready
    stayed : (b b' : Moment Counted) (w : OnWay b) (bs : List Bool) → Goes (record {
      state = b.state;
      readings = b.readings;
      answers = bs;
      taken = b.taken;
      cost = b.cost + 0;
      waits = b.waits + 1;
      sent = b.sent ++ [];
    }) ≡ Goes b' → OnWay b'
    stayed b b' w bs g =
        let same : record {
          state = b.state;
          readings = b.readings;
          answers = bs;
          taken = b.taken;
          cost = b.cost + 0;
          waits = b.waits + 1;
          sent = b.sent ++ [];
        } ≡ b' = cc in
        subst OnWay same (record {
          left = w.left;
          begun = w.begun;
          later = w.later;
          way = w.way;
          counts = w.counts;
          sent = ap (λ l. l ++ w.later)
              (append-nil b.sent) ∙ w.sent;
        })

    act_step : (b b' : Moment Counted) (w : OnWay b) → Acts code (At b.taken) b.state.bytes w.begun w.later → onward (counted_step code) b ≡ Goes b' → OnWay b'
    act_step b b' w a g =
        let x = act code a.p.prim b.state.bytes false no_reading in
        stepped b b' w a.begun1 a.sent1 b.answers x.next x.sent a.begun_is a.way a.sent_is
        (sym (onward_is (counted_step code) b ask.Nothing b.readings b.answers (counted_asks code b.state a.p (shape_of a.p.prim) a.at refl ∙ a.plain) refl refl
        ∙ ap (within b 0 b.answers) (counted_is code b.state a.p (shape_of a.p.prim) false no_reading a.at refl)
        ∙ ap (λ k. within b 0 b.answers (Some (record {
          next = record { bytes = x.next; begun = begun_after b.state.begun x.next.place k };
          cycles = 0;
          poll = k;
          sent = x.sent;
        }))) (is_plain code b.state.bytes a.p.prim a.plain)) ∙ g)

    wait_step : (b b' : Moment Counted) (w : OnWay b) → Waits code (At b.taken) b.state.bytes w.begun w.later → (bs : List Bool) → b.answers ≡ bs →
        answered (counted_step code) b ask.Device b.readings bs ≡ Goes b' → OnWay b'
    wait_step b b' w a [] f g = absurd (cc)
    wait_step b b' w a (false ∷ bs) f g = stayed b b' w bs (sym (ap (within b 1 bs) (counted_is code b.state a.p AtDevice false no_reading a.at a.polls)) ∙ g)
    wait_step b b' w a (true ∷ bs) f g =
        stepped b b' w a.begun1 w.later bs (next_with b.state.bytes (effect a.p.prim b.state.bytes.store)) [] a.begun_is a.way refl
        (sym (ap (within b 0 bs) (counted_is code b.state a.p AtDevice true no_reading a.at a.polls)) ∙ g)

    poll_step : (b b' : Moment Counted) (w : OnWay b) → There code (At b.taken) b.state.bytes w.begun w.later → (rs : List PinReading) (bs : List Bool) →
        b.readings ≡ rs → b.answers ≡ bs → answered (counted_step code) b ask.Reading rs bs ≡ Goes b' → OnWay b'
    poll_step b b' w a rs [] e f g = absurd (cc)
    poll_step b b' w a rs (false ∷ bs) e f g =
        let p = at_poll b.taken b.state.bytes a.holds in
        stayed b b' w bs (sym (ap (within b 1 bs) (counted_is code b.state p.p AtPoll false no_reading p.at p.polls)) ∙ g)
    poll_step b b' w a [] (true ∷ bs) e f g = absurd (cc)
    poll_step b b' w a (r ∷ rs) (true ∷ bs) e f g =
        let p = at_poll b.taken b.state.bytes a.holds in
        let s = (polled b.state.bytes (effect p.p.prim b.state.bytes.store) true r).next in
        let same : record {
          state = record { bytes = s; begun = s.place ∷ [] };
          readings = rs;
          answers = bs;
          taken = b.taken + 1;
          cost = 0;
          waits = 0;
          sent = [];
        } ≡ b' = cc (ap (taking b rs bs) (counted_is code b.state p.p AtPoll true r p.at p.polls), g) in
        let read = took_read b.taken readings0 r rs (w.left ∙ e) in
        let n = turn b.taken b.state.bytes r a.holds read.1 p.p p.at in
        let up : suc b.taken ≡ b.taken + 1 = sym (add-one b.taken) in
        subst OnWay same (record {
          left = subst (λ k. drop k readings0 ≡ rs) up read.0;
          begun = n.begun;
          later = told (b.taken + 1);
          way = subst (λ k. Way code (At k) s n.begun (told k)) up n.way;
          counts = λ i q h. subst (λ k. times i (s.place ∷ []) + times i n.begun ≤ allowed k q) up
              (omega (arith, n.counts i q h, times-cons i s.place n.begun, times-cons i s.place []));
          sent = refl;
        })

    on_step : (b b' : Moment Counted) → OnWay b → onward (counted_step code) b ≡ Goes b' → OnWay b'
    on_step b b' w g =
        ⊎_elim
        (λ a. let p = at_poll b.taken b.state.bytes a.holds in poll_step b b' w a b.readings b.answers refl refl
        (sym (onward_is (counted_step code) b ask.Reading b.readings b.answers (counted_asks code b.state p.p AtPoll p.at p.polls) refl refl) ∙ g))
        (λ o. ⊎_elim
        (λ a. act_step b b' w a g)
        (λ a. wait_step b b' w a b.answers refl (sym (onward_is (counted_step code) b ask.Device b.readings b.answers
        (counted_asks code b.state a.p AtDevice a.at a.polls) refl refl) ∙ g)) o)
        (by_first code (At b.taken) b.state.bytes w.begun w.later w.way)

    fits_at : (b : Moment Counted) → OnWay b → (p : Paced) × (slice_get code b.state.bytes.place ≡ Some p) × Fits p.prim b.state.bytes
    fits_at b w =
        ⊎_elim
        (λ a. let p = at_poll b.taken b.state.bytes a.holds in (p.p, p.at, p.fits))
        (λ o. ⊎_elim (λ a. (a.p, a.at, a.fits)) (λ a. (a.p, a.at, a.fits)) o)
        (by_first code (At b.taken) b.state.bytes w.begun w.later w.way)

    keeps_at : (b : Moment Counted) → OnWay b → KeepsAt code b
    keeps_at b w = record { fits = fits_at b w; counts = λ i p h. omega (arith, w.counts i p h) }

    module _ (s0 : Bytes) (answers : List Bool) (boot : Segment 0 s0) where
      starts : OnWay (first_moment (uncounted s0) readings0 answers)
      starts = record {
        left = refl;
        begun = boot.begun;
        later = told 0;
        way = boot.way;
        counts = λ i p h.
            omega (arith, boot.counts i p h, times-cons i s0.place boot.begun, times-cons i s0.place []);
        sent = refl;
      }

      on_way : (j : ℕ) (b : Moment Counted) → moment (counted_step code) j (first_moment (uncounted s0) readings0 answers) ≡ Some b → OnWay b
      on_way j b e = keeps_on (counted_step code) OnWay (λ c d w g. on_step c d w g) j (first_moment (uncounted s0) readings0 answers) b starts e

      -- each run keeps its counts
      pub keeps_counts : ((i : ℕ) (p : Paced) → slice_get code i ≡ Some p → shape_of p.prim ≡ AtPoll → (1 ≤ p.turns)) → KeepsCounts code s0 readings0 answers
      keeps_counts polls = record { polls = polls; always = λ j b e. keeps_at b (on_way j b e) }

      -- at a poll the state is as it should be, and all bytes are sent
      pub at_each : (j : ℕ) (b : Moment Counted) (p : Paced) → moment (counted_step code) j (first_moment (uncounted s0) readings0 answers) ≡ Some b →
          slice_get code b.state.bytes.place ≡ Some p → shape_of p.prim ≡ AtPoll → At b.taken b.state.bytes × (b.sent ≡ told b.taken)
      at_each j b p e h poll =
          let w = on_way j b e in
          ⊎_elim
          (λ a. (a.holds, sym (append-nil b.sent) ∙ ap (λ l. b.sent ++ l) (sym a.sent_is) ∙ w.sent))
          (λ o. ⊎_elim
          (λ a. let same : a.p ≡ p = cc (a.at, h) in absurd (cc (a.plain, ap (λ x. asked_by x.prim) same, ap asked_in poll)))
          (λ a. let same : a.p ≡ p = cc (a.at, h) in absurd (cc (a.polls, ap (λ x. shape_of x.prim) same, poll))) o)
          (by_first code (At b.taken) b.state.bytes w.begun w.later w.way)

      -- what was sent so far is a beginning of what the segment sends
      pub sent_so_far : (j : ℕ) (b : Moment Counted) → moment (counted_step code) j (first_moment (uncounted s0) readings0 answers) ≡ Some b →
          (later : List ℕ) × (b.sent ++ later ≡ told b.taken)
      sent_so_far j b e = let w = on_way j b e in (w.later, w.sent)
