-- The runs of a program's code, cycle by cycle.
use Rattle.std.proofs.Common.{◌≡◌, ℕ, zero, suc, ◌+◌, ◌<◌, ◌≤◌, inl, Bool, true, false, List, [], ◌∷◌, ◌++◌, drop, length, map, Some, None, refl, sym, ap, subst, ◌∙◌, arith, append_assoc}
use Rattle.std.specs.Prelude.{Option, ◌-◌, count_by, slice_get, nat_le}
use Rattle.std.proofs.lemmas.Bool.Decides.{nat_tests}
use Rattle.chip_tables.specs.Memory.{ram_size}
use Rattle.chip_tables.specs.Outside.{no_reading}
use Rattle.chip_tables.specs.declared.outside.PinReading.{PinReading}
use Rattle.mem_plan.specs.Needs.{ram_need}
use Rattle.mem_plan.specs.Places.{IsChip}
use Rattle.ladder_meaning.specs.declared.reading.Reading.{Reading}
use Rattle.int_code.specs.Meaning.{Moment, begin, cycle}
use Rattle.int_code.specs.Store as int
use Rattle.int_code.specs.declared.op.IntOp.{IntOp}
use Rattle.int_code.specs.declared.op.IntProgram.{IntProgram}
use Rattle.byte_code.specs.declared.prim.BytePrim.TheVariants.{Start, CyclePoll, Label, Jump}
use Rattle.byte_code.specs.declared.prim.Paced.{Paced}
use Rattle.byte_code.specs.declared.prim.BytePrim.{BytePrim}
use Rattle.byte_code.specs.declared.prim.Shape.{Shape}
use Rattle.byte_code.specs.declared.prim.Shape.TheVariants.{AtStart, AtPoll, AtDevice, Names, Jumps, Branches, Calls, Returns, Straight}
use Rattle.byte_code.specs.declared.store.Store as bytes
use Rattle.byte_code.specs.declared.state.Bytes.{Bytes}
use Rattle.byte_code.specs.Machine.{act, label_place, next_with, polled, returned, shaped}
use Rattle.byte_code.specs.Table.{effect, plain}
use Rattle.byte_code.specs.Table as table
use Rattle.byte_code.proofs.Times.{times, times-cons}
use Rattle.byte_code.proofs.Ways.{Way, there, acts, waits, way_on, Segment, Polls, keeps_counts, at_each, sent_so_far}
use Rattle.byte_lower.proofs.DeviceLemmas.{nothing_sent}
use Rattle.byte_lower.proofs.BootLemmas.{started_store, seen_levels, booted_start}
use Rattle.byte_lower.proofs.CodeLemmas.{Every, every_on, TurnsOnce, BootsOnce, IsNoPoll, lists_turn, starts_boot, starts_wait, starts_names, along_is, in_front, from_place}
use Rattle.byte_lower.proofs.PlaceLemmas.{places_apart}
use Rattle.byte_lower.proofs.RouteLemmas.{none_before, once, none_behind, times_on, spent_most, along, along_on, HasNoNames, Ahead, Reaches, here, behind, pass, pass_all, found, beyond}
use Rattle.byte_lower.proofs.NameLemmas.{behind_jump}
use Rattle.byte_lower.proofs.RoutineLemmas.{slice_drop, routines_wait, owed_on, starts_owe, owes, lists_owe, served, owes_before, owes_within}
use Rattle.byte_lower.proofs.StoreLemmas.{Good, any_flag}
use Rattle.byte_lower.proofs.WalkLemmas.{Marks, other_label, walk}
use Rattle.byte_lower.specs.Code.{booted, polling, start_values, code_of, CanPlace, store_behind, RunsAs, Carries}
use Rattle.byte_lower.specs.Layout.{own_cells}
use Rattle.byte_lower.specs.Lists.{paced, lists_of, calls_product, calls_quotient}
use Rattle.byte_lower.specs.Stands.{Stands, seen}
use Rattle.byte_lower.specs.declared.layout.Layout.{Layout}

-- a step leaves the start behind
step_started : (code : List Paced) (p : BytePrim) (h : Shape) (s : Bytes) (d : bytes.Store) → s.started ≡ true →
    (shaped code p h s d false no_reading).next.started ≡ true
step_started code p AtStart s d e = refl
step_started code p AtPoll s d e = e
step_started code p AtDevice s d e = e
step_started code p (Names l) s d e = e
step_started code p (Jumps l) s d e = e
step_started code p (Branches l) s d e = e
step_started code p (Calls l) s d e = e
step_started code p Returns s d e = by s.open_call
  where
    by : (o : Option ℕ) → (returned s d o).started ≡ true
    by None = e
    by (Some place) = e
step_started code p Straight s d e = e

-- as a way does
way_started : (code : List Paced) (T : Bytes → Type 0) (s : Bytes) (begun sent : List ℕ) → s.started ≡ true → Way code T s begun sent →
    Way code (λ e. T e × (e.started ≡ true)) s begun sent
way_started code T s _ _ e (there h) = there (h, e)
way_started code T s _ _ e (acts {begun = begun} {sent = sent} p h plain fits w) =
    acts p h plain fits (way_started code T (act code p.prim s false no_reading).next begun sent (step_started code p.prim (table.shape_of p.prim) s
    (effect p.prim s.store) e) w)
way_started code T s _ _ e (waits {begun = begun} {sent = sent} p h polls fits w) =
    waits p h polls fits (way_started code T (next_with s (effect p.prim s.store)) begun sent e w)

none_sent : (xs ys : List ℕ) → xs ++ ys ≡ [] → xs ≡ []
none_sent [] ys e = refl
none_sent (x ∷ xs) ys e = absurd (cc)

-- the store behind one cycle more
behind_on : (ops : List IntOp) (t : int.Store) (rs : List Reading) (k : ℕ) (r : Reading) → slice_get rs k ≡ Some r → store_behind ops t rs (suc k) ≡
    (cycle r ops (store_behind ops t rs k)).store
behind_on ops t [] k r e = absurd (cc)
behind_on ops t (x ∷ rs) zero r e = let f : x ≡ r = cc in ap (λ y. (cycle y ops t).store) f
behind_on ops t (x ∷ rs) (suc k) r e = behind_on ops (cycle x ops t).store rs k r e

seen_at : (o : Layout) (readings : List PinReading) (k : ℕ) (r : PinReading) → slice_get readings k ≡ Some r → slice_get (map (seen o) readings) k ≡ Some
    (seen o r)
seen_at o [] k r e = absurd (cc)
seen_at o (x ∷ xs) zero r e = let f : x ≡ r = cc in ap (λ y. Some (seen o y)) f
seen_at o (x ∷ xs) (suc k) r e = seen_at o xs k r e

at_most : (m n : ℕ) → nat_le m n ≡ true → m ≤ n
at_most m n e = grind (arith, nat_tests, e)

above : (m n : ℕ) → nat_le m n ≡ false → n < m
above m n e = grind (arith, nat_tests, e)

module _ (o : Layout) (p : IntProgram) (can : CanPlace o p) (c : IsChip o.plan.target) (room : ram_need o.plan.sizes ≤ ram_size o.plan.target) where
  abbrev code : List Paced
  code = code_of o p

  -- what stands in front of the label, the lists, and where the label, the first list and the jump are
  abbrev front : List Paced
  front = booted (Start (ram_need o.plan.sizes)) ∷ start_values o p.starts 0

  abbrev lists : List Paced
  lists = lists_of o 0 p.ops 5 []

  abbrev routines : List Paced
  routines = behind_jump (own_cells o.plan.target) (count_by calls_product p.ops) (count_by calls_quotient p.ops)

  abbrev loop : ℕ
  loop = along 0 front

  abbrev last : ℕ
  last = along (suc (suc loop)) lists

  at_loop : drop loop code ≡ polling (Label 0) ∷ polling (CyclePoll 0) ∷ (lists ++ paced (Jump 0) ∷ routines)
  at_loop = beyond code 0 front (polling (Label 0) ∷ polling (CyclePoll 0) ∷ (lists ++ paced (Jump 0) ∷ routines)) refl

  at_poll_place : drop (suc loop) code ≡ polling (CyclePoll 0) ∷ (lists ++ paced (Jump 0) ∷ routines)
  at_poll_place = behind code loop (polling (Label 0)) (polling (CyclePoll 0) ∷ (lists ++ paced (Jump 0) ∷ routines)) at_loop

  at_lists : drop (suc (suc loop)) code ≡ lists ++ paced (Jump 0) ∷ routines
  at_lists = behind code (suc loop) (polling (CyclePoll 0)) (lists ++ paced (Jump 0) ∷ routines) at_poll_place

  at_jump : drop last code ≡ paced (Jump 0) ∷ routines
  at_jump = beyond code (suc (suc loop)) lists (paced (Jump 0) ∷ routines) at_lists

  at_routines : drop (suc last) code ≡ routines
  at_routines = behind code last (paced (Jump 0)) routines at_jump

  -- what begins the cycle, up to the jump back
  abbrev cycle_part : List Paced
  cycle_part = polling (Label 0) ∷ polling (CyclePoll 0) ∷ (lists ++ paced (Jump 0) ∷ [])

  at_cycle : drop loop code ≡ cycle_part ++ routines
  at_cycle = at_loop ∙ sym (ap (λ xs. polling (Label 0) ∷ polling (CyclePoll 0) ∷ xs) (append_assoc lists (paced (Jump 0) ∷ []) routines))

  cycle_ends : along loop cycle_part ≡ suc last
  cycle_ends = along_on (suc (suc loop)) lists (paced (Jump 0) ∷ [])

  front_names : HasNoNames front
  front_names = ((λ l. refl), starts_names o p.starts 0)

  ahead_loop : (l : ℕ) → Ahead code loop l
  ahead_loop l = pass_all code 0 l front (polling (Label 0) ∷ polling (CyclePoll 0) ∷ (lists ++ paced (Jump 0) ∷ routines)) refl front_names (omega arith)

  loop_is : label_place code 0 ≡ loop
  loop_is = found code loop 0 (polling (Label 0)) (polling (CyclePoll 0) ∷ (lists ++ paced (Jump 0) ∷ routines)) at_loop refl (ahead_loop 0)

  marks : Marks code (suc (suc loop)) 5 []
  marks = record {
    later = λ l h. pass code (suc loop) l (polling (CyclePoll 0)) (lists ++ paced (Jump 0) ∷ routines) at_poll_place refl
        (pass code loop l (polling (Label 0)) (polling (CyclePoll 0) ∷ (lists ++ paced (Jump 0) ∷ routines)) at_loop (other_label 0 l (λ e. omega (arith, e, h)))
        (ahead_loop l));
    ahead = tt;
    falls = tt;
  }

  boots_once : (i : ℕ) (q : Paced) → slice_get code i ≡ Some q → i ≤ suc loop → q.boot ≡ 1
  boots_once i q e le =
      let head = polling (Label 0) ∷ polling (CyclePoll 0) ∷ [] in
      let same : code ≡ (front ++ head) ++ (lists ++ paced (Jump 0) ∷ routines) = sym (append_assoc front head (lists ++ paced (Jump 0) ∷ routines)) in
      in_front BootsOnce 0 (front ++ head) (lists ++ paced (Jump 0) ∷ routines) i q (every_on BootsOnce front head (refl, starts_boot o p.starts 0)
      (refl, (refl, tt)))
      (omega (arith, along_on 0 front head, le)) (ap (λ x. slice_get x i) (sym same) ∙ e)

  turns_once : (i : ℕ) (q : Paced) → slice_get code i ≡ Some q → loop ≤ i → i ≤ last → q.turns ≡ 1
  turns_once i q e le up =
      let is : loop + (i - loop) ≡ i = omega (arith, le) in
      in_front TurnsOnce loop cycle_part routines (i - loop) q
      (refl, (refl, every_on TurnsOnce lists (paced (Jump 0) ∷ []) (lists_turn o 0 p.ops 5 []) (refl, tt))) (omega (arith, is, up, cycle_ends))
      (sym (ap (λ xs. slice_get xs (i - loop)) at_cycle) ∙ sym (slice_drop code loop (i - loop)) ∙ ap (slice_get code) is ∙ e)

  polls_turn : (i : ℕ) (q : Paced) → slice_get code i ≡ Some q → table.shape_of q.prim ≡ AtPoll → 1 ≤ q.turns
  polls_turn i q e poll = by (nat_le loop i) refl
    where
      by : (b : Bool) → nat_le loop i ≡ b → 1 ≤ q.turns
      by true f = cycled (nat_le i last) refl (grind (arith, nat_tests, f))
        where
          cycled : (c : Bool) → nat_le i last ≡ c → loop ≤ i → 1 ≤ q.turns
          cycled true g le = omega (arith, turns_once i q e le (grind (arith, nat_tests, g)))
          cycled false g le =
              absurd (from_place IsNoPoll code (suc last) i q (subst (Every IsNoPoll) (sym at_routines) (routines_wait (own_cells o.plan.target)
              (count_by calls_product p.ops) (count_by calls_quotient p.ops))) (grind (arith, nat_tests, g)) e poll)
      by false f =
          let lt : i < loop = grind (arith, nat_tests, f) in
          absurd (in_front IsNoPoll 0 front (polling (Label 0) ∷ polling (CyclePoll 0) ∷ (lists ++ paced (Jump 0) ∷ routines)) i q
          ((λ x. absurd (cc x)), starts_wait o p.starts 0) (omega (arith, lt)) e poll)

  module _ (readings : List PinReading) (t : int.Store) where
    -- at the poll, after k readings
    record AtCycle (k : ℕ) (s : Bytes) : Type 0 where
      is_at : s.place ≡ suc loop
      closed : s.open_call ≡ None
      started : s.started ≡ true
      stands : Stands o s.store (store_behind p.ops t (map (seen o) readings) k)
      cells : length s.store.cells ≡ 1120
      latches : length s.store.latches ≡ 5
      shown : s.store.converting ≡ false
      scratch : s.store.scratch ≡ own_cells o.plan.target

    abbrev silent : ℕ → List ℕ
    silent k = []

    polls_at : (k : ℕ) (s : Bytes) → AtCycle k s → Polls code readings AtCycle silent s
    polls_at k s h = record {
      p = polling (CyclePoll 0);
      at = ap (slice_get code) h.is_at ∙ here code (suc loop) (polling (CyclePoll 0))
          (lists ++ paced (Jump 0) ∷ routines) at_poll_place;
      polls = refl;
      fits = (tt, tt);
    }

    -- the places that the jump back begins
    abbrev back : List ℕ
    back = label_place code 0 ∷ suc (label_place code 0) ∷ []

    module _ (k : ℕ) (s : Bytes) (r : PinReading) (h : AtCycle k s) (read : slice_get readings k ≡ Some r) where
      abbrev store_k : int.Store
      store_k = store_behind p.ops t (map (seen o) readings) k

      abbrev ended : Moment
      ended = cycle (seen o r) p.ops store_k

      abbrev taken : Bytes
      taken = next_with s (record (plain s.store) { reading = r })

      abbrev AtJump : Bytes → Type 0
      AtJump e = (e.place ≡ last) × (e.open_call ≡ None) × Good o (seen o r) e.store ended.store

      walked : Reaches code AtJump last taken
      walked =
          walk code o (seen o r) (places_apart o c room) can.pins AtJump last ended (paced (Jump 0) ∷ routines) (λ e shut good place. (place, shut, good))
          (served o p can (suc last) at_routines) p.ops 5 (suc (suc loop)) [] [] (begin (seen o r) store_k) taken
          (record {
            built = can.built;
            range = can.range;
            hold = can.numbers;
            ahead = at_lists;
            to = refl;
            nested = can.nests;
            alike = tt;
            marks = marks;
            ends = refl;
            at_place = record {
              closed = h.closed;
              good = record {
                stands = record { bits = h.stands.bits; outputs = h.stands.outputs; numbers = h.stands.numbers; eeprom = h.stands.eeprom };
                levels = seen_levels o r.levels;
                cells = h.cells;
                latches = h.latches;
                shown = h.shown;
                scratch = h.scratch;
              };
              stands_at = inl (refl, ap suc h.is_at);
            };
          })

      goes_back : (e : Bytes) → AtJump e × (e.started ≡ true) → Way code (AtCycle (suc k)) e back []
      goes_back e (g, begun) =
          acts (paced (Jump 0)) (ap (slice_get code) g.0 ∙ here code last (paced (Jump 0)) routines at_jump) refl (tt, tt)
          (acts (polling (Label 0)) (ap (slice_get code) loop_is ∙ here code loop (polling (Label 0)) (polling (CyclePoll 0) ∷ (lists ++ paced (Jump 0) ∷ routines))
          at_loop) refl (tt, tt)
          (there (record {
            is_at = ap suc loop_is;
            closed = g.1;
            started = begun;
            stands = subst (Stands o (plain (plain e.store))) (sym (behind_on p.ops t (map (seen o) readings) k (seen o r) (seen_at o readings k r read)))
                (any_flag o (seen o r) (places_apart o c room) can.pins e.store ended.store None g.2).stands;
            cells = g.2.cells;
            latches = g.2.latches;
            shown = g.2.shown;
            scratch = g.2.scratch;
          })))

      -- its own places and those of the jump back
      few_by : (i turns : ℕ) (b d : Bool) → nat_le loop i ≡ b → nat_le i (suc loop) ≡ d → (loop ≤ i → turns ≡ 1) → times i (taken.place ∷ walked.own) + times
          i back ≤ turns
      few_by i turns true true f g once_only =
          let le : i ≤ suc loop = grind (arith, nat_tests, g) in
          let none = none_before (suc loop) last i (taken.place ∷ walked.own) (omega (arith, h.is_at), walked.rises) le in
          let one = once (label_place code 0) (suc (label_place code 0)) i (suc (label_place code 0) ∷ []) (omega arith, refl) in
          let turn = once_only (grind (arith, nat_tests, f)) in
          omega (arith, none, one, turn)
      few_by i turns true false f g once_only =
          let gt : suc loop < i = grind (arith, nat_tests, g) in
          let none = none_behind (label_place code 0) (suc (label_place code 0)) i (suc (label_place code 0) ∷ []) (omega arith, refl)
          (omega (arith, loop_is, gt)) in
          let one = once taken.place last i walked.own walked.rises in
          let turn = once_only (grind (arith, nat_tests, f)) in
          omega (arith, none, one, turn)
      few_by i turns false d f g once_only =
          let lt : i < loop = grind (arith, nat_tests, f) in
          let none = none_before (suc loop) last i (taken.place ∷ walked.own) (omega (arith, h.is_at), walked.rises) (omega (arith, lt)) in
          let none_back = none_before i (suc (label_place code 0)) i back (omega (arith, loop_is, lt), (omega arith, refl)) (omega arith) in
          omega (arith, none, none_back)

      -- what is begun besides is owed by calls
      begun_by : (i : ℕ) → times i (taken.place ∷ walked.begun) + times i back ≤ times i (taken.place ∷ walked.own) + times i back + owes code i p.ops
      begun_by i =
          let most = spent_most code i (suc (suc loop)) lists (paced (Jump 0) ∷ routines) taken.place last walked.own at_lists (omega (arith, h.is_at)) (omega arith)
          walked.rises in
          omega (
            arith,
            walked.counts i,
            most,
            lists_owe code i o 0 p.ops 5 [] (omega arith),
            times-cons i taken.place walked.begun,
            times-cons i taken.place walked.own,
          )

      begun_within : (i : ℕ) (q : Paced) → slice_get code i ≡ Some q → times i (taken.place ∷ walked.begun) + times i back ≤ q.turns
      begun_within i q e = by (nat_le i last) refl
        where
          by : (b : Bool) → nat_le i last ≡ b → times i (taken.place ∷ walked.begun) + times i back ≤ q.turns
          by true f =
              let le : i ≤ last = at_most i last f in
              let few = few_by i q.turns (nat_le loop i) (nat_le i (suc loop)) refl refl (λ k. turns_once i q e k le) in
              omega (arith, begun_by i, few, owes_before o p can (suc last) at_routines i (omega (arith, le)))
          by false f =
              let past : last < i = above i last f in
              let far : suc (suc loop) ≤ last = (along_is (suc (suc loop)) lists).0 in
              let none = none_behind taken.place last i walked.own walked.rises past in
              let none_back = none_behind (label_place code 0) (suc (label_place code 0)) i (suc (label_place code 0) ∷ []) (omega arith, refl)
              (omega (arith, loop_is, past, far)) in
              omega (arith, begun_by i, none, none_back, owes_within o p can (suc last) at_routines i q past e)

      turn_at : Segment code readings AtCycle silent (suc k) taken
      turn_at = record {
        begun = walked.begun ++ back;
        way = way_on code (λ e. AtJump e × (e.started ≡ true)) (AtCycle (suc k)) taken walked.begun [] back []
            (way_started code AtJump taken walked.begun [] h.started walked.way) goes_back;
        counts = λ i q e. subst (λ n. n ≤ q.turns) (sym (times_on i (taken.place ∷ walked.begun) back)) (begun_within i q e);
      }

    is_poll : (place : ℕ) (q : Paced) → place ≡ suc loop → slice_get code place ≡ Some q → polling (CyclePoll 0) ≡ q
    is_poll place q e h =
        let f : slice_get code (suc loop) ≡ Some q = ap (slice_get code) (sym e) ∙ h in
        let g : slice_get code (suc loop) ≡ Some (polling (CyclePoll 0)) = here code (suc loop) (polling (CyclePoll 0)) (lists ++ paced (Jump 0) ∷ routines)
        at_poll_place in
        cc (f, g)

    turn : (k : ℕ) (s : Bytes) (r : PinReading) → AtCycle k s → slice_get readings k ≡ Some r → (q : Paced) → slice_get code s.place ≡ Some q →
        Segment code readings AtCycle silent (suc k) (polled s (effect q.prim s.store) true r).next
    turn k s r h read q at =
        subst (λ x. Segment code readings AtCycle silent (suc k) (polled s (effect x.prim s.store) true r).next) (is_poll s.place q h.is_at at)
        (turn_at k s r h read)

    module _ (s : Bytes) (r : Reading) (fresh : s.place ≡ 0) (first : t.devices.sent ≡ []) (reach : Reaches code (AtCycle 0) (suc loop) s) where
      -- nothing is called in front of the poll
      boot_begun : (i : ℕ) → times i (s.place ∷ reach.begun) ≤ times i (s.place ∷ reach.own)
      boot_begun i =
          let head = front ++ polling (Label 0) ∷ [] in
          let rest = polling (CyclePoll 0) ∷ (lists ++ paced (Jump 0) ∷ routines) in
          let most = spent_most code i 0 head rest s.place (suc loop) reach.own (sym (append_assoc front (polling (Label 0) ∷ []) rest)) (omega arith)
          (omega (arith, along_on 0 front (polling (Label 0) ∷ []))) reach.rises in
          omega (
            arith,
            reach.counts i,
            most,
            owed_on code i front (polling (Label 0) ∷ []),
            starts_owe code i o p.starts 0,
            times-cons i s.place reach.begun,
            times-cons i s.place reach.own,
          )

      few_boots : (i boot : ℕ) (b : Bool) → nat_le i (suc loop) ≡ b → (i ≤ suc loop → boot ≡ 1) → times i (s.place ∷ reach.begun) ≤ boot
      few_boots i boot true f once_only = omega (arith, boot_begun i, once s.place (suc loop) i reach.own reach.rises, once_only (grind (arith, nat_tests, f)))
      few_boots i boot false f once_only = omega (arith, boot_begun i, none_behind s.place (suc loop) i reach.own reach.rises (grind (arith, nat_tests, f)))

      boot : Segment code readings AtCycle silent 0 s
      boot = record { begun = reach.begun; way = reach.way; counts = λ i q e. few_boots i q.boot (nat_le i (suc loop)) refl (boots_once i q e) }

      runs : (answers : List Bool) → RunsAs o p code t s readings answers
      runs answers = record {
        counts = keeps_counts code readings AtCycle silent polls_at turn s answers boot polls_turn;
        polls = λ j b q e h poll. let x = at_each code readings AtCycle silent polls_at turn s answers boot j b q e h poll in (x.0.stands, x.1);
        started = λ j b q e h poll. (at_each code readings AtCycle silent polls_at turn s answers boot j b q e h poll).0.started;
        silent = λ j b e. let x = sent_so_far code readings AtCycle silent polls_at turn s answers boot j b e in none_sent b.sent x.0 x.1;
        sends = λ k. nothing_sent p.ops t (map (seen o) readings) k can.built first;
      }

  pub carries : Carries o p code
  carries = record {
    each = λ s fresh.
        let b = booted_start code (polling (CyclePoll 0) ∷ (lists ++ paced (Jump 0) ∷ routines)) o p can c room (places_apart o c room) s fresh refl in (
          b.t,
          b.is,
          λ readings answers.
              runs readings b.t s (seen o (started_store o c room s.store fresh.target).reading) fresh.place (ap (λ d. d.sent) b.is.devices)
              (b.reaches (AtCycle readings b.t 0) (λ e place shut begun good. record {
                is_at = place;
                closed = shut;
                started = begun;
                stands = good.stands;
                cells = good.cells;
                latches = good.latches;
                shown = good.shown;
                scratch = good.scratch;
              }))
              answers,
        );
  }
