-- The cycle poll.
use Rattle.std.proofs.Common.{◌≡◌, ℕ, suc, ◌+◌, ◌%◌, ◌<◌, ◌≤◌, Bool, true, false, [], Some, None, refl, ap, ap₂, ◌∙◌, arith, lit<, lit≤, get_or-set_same}
use Rattle.std.specs.Prelude.{◌&&◌, if◌then◌else◌, slice_index, slice_set}
use Rattle.chip_tables.specs.Bits.{bit_of}
use Rattle.chip_tables.specs.Outside.{no_reading}
use Rattle.chip_tables.specs.declared.outside.Env.{Env}
use Rattle.chip_tables.specs.declared.outside.PinReading.{PinReading}
use Rattle.chip_tables.specs.declared.outside.Poll.TheVariants.{NoPoll, CycleReady, CycleNotReady, CycleStill}
use Rattle.runs.specs.Chip.{steps_over}
use Rattle.runs.specs.Run.{ask_of}
use Rattle.runs.specs.declared.ask.Ask.TheVariants as ask
use Rattle.byte_code.specs.declared.prim.BytePrim.TheVariants.{CyclePoll}
use Rattle.byte_code.specs.declared.state.Bytes.{Bytes}
use Rattle.byte_code.specs.Machine.{act}
use Rattle.avr_devices.specs.Device.{is_timing}
use Rattle.avr_devices.specs.DevicePolls.{answer, answered, cycle_flags}
use Rattle.avr_devices.specs.Part.{mega16}
use Rattle.avr_mach.specs.declared.insn.AvrInsn.TheVariants as insn
use Rattle.avr_mach.specs.declared.state.AvrState.{AvrState}
use Rattle.avr_mach.specs.declared.state.Flow.TheVariants.{Next}
use Rattle.avr_mach.specs.Access.{loaded}
use Rattle.avr_mach.specs.Control.{skip_if}
use Rattle.avr_mach.specs.State.{After, reg, with_reg}
use Rattle.avr_mach.specs.State as state
use Rattle.avr_mach.specs.Step.{avr_step, insn_at, at_place, width_of}
use Rattle.target_core.specs.Law.{here, LeadsFrom, IsReady, Layout}
use Rattle.avr_code.specs.Code.{Board, poll_code}
use Rattle.avr_code.specs.Stands.{StandsAt}
use Rattle.avr_code.specs.Target.{avr_target}
use Rattle.avr_code.proofs.Control.{WentTo, one_step, then_step}
use Rattle.avr_code.proofs.Primitives.{flag_kept}
use Rattle.avr_code.proofs.Standing.{view_of, view_seen, to_view, from_view, alike, has_same}
use Rattle.avr_code.proofs.Steps.{Steps, env_of, settled_by, step_is, ask_is}
use Rattle.avr_code.proofs.View.{sees_moved, sees_core, sees_put}
use Rattle.avr_code.proofs.Walk.{HasCode, code_held}

-- TIFR as IN reads it, by the timer's flag and by whether the timer runs
abbrev polled_by : Env → AvrState → Bool → Bool → After
polled_by env m flag timing =
    let poll = if flag then CycleStill else if timing && env.ready then CycleReady else CycleNotReady in
    loaded (record { state = record m { devices = answered poll env m.devices }; answer = answer (cycle_flags poll) poll }) 16 1

back_jump : (p : ℕ) → p < 8192 → (p + 1 + 1 + 1 + 4093 + 4096) % 8192 ≡ p
back_jump p low = omega (arith, low)

module _ (board : Board) (lay : Layout) (m : AvrState) (s : Bytes) (l : ℕ) (ready : IsReady (avr_target board) lay s (CyclePoll l))
    (st : StandsAt board lay.places m s) where
  abbrev Place : ℕ
  Place = slice_index lay.places s.place

  inside : Place + 4 ≤ 8192
  inside = let a = ready.next in let b = ready.inside in omega (arith, a, b)

  code : HasCode lay.flash Place poll_code
  code = code_held poll_code lay.flash Place ((lit< tt, lit< tt), ((lit< tt, lit< tt), (lit< tt, ((lit< tt, lit< tt), tt)))) inside ready.loaded

  low : m.place < 8192
  low = let a = st.at in let b = inside in omega (arith, a, b)

  stands : insn_at mega16 lay.flash m.place ≡ Some (insn.In 16 0x38)
  stands = ap (insn_at mega16 lay.flash) st.at ∙ code.1

  pub asks : ask_of (steps_over (avr_step mega16) lay.flash) m ≡ ask.Reading
  asks =
      ask_is lay.flash m (insn.In 16 0x38) low stands refl
      ∙ ap (λ b. if b then ask.Nothing else if is_timing m.devices then ask.Reading else ask.Nothing) (st.started ready.begins).quiet
      ∙ ap (λ b. if b then ask.Reading else ask.Nothing) (st.started ready.begins).timing

  -- the first step, by the answer
  first : (b : Bool) (r : PinReading) → steps_over (avr_step mega16) lay.flash m b r
      ≡ settled_by lay.flash (m.place + 1) (polled_by (env_of b r) m false true)
  first b r =
      step_is lay.flash m (insn.In 16 0x38) b r low stands refl
      ∙ ap₂ (λ x y. settled_by lay.flash (m.place + 1) (polled_by (env_of b r) m x y)) (st.started ready.begins).quiet (st.started ready.begins).timing

  next_at : (n : ℕ) → m.place + n ≡ Place + n
  next_at n = let a = st.at in omega (arith, a)

  second : (n : ℕ) (c : AvrState) → c.place ≡ m.place + 1 → insn_at mega16 lay.flash c.place ≡ Some (insn.Sbrs 16 4)
  second n c e = ap (insn_at mega16 lay.flash) (e ∙ next_at 1) ∙ code.2.1

  -- R16 holds what was read
  holds_read : (x : ℕ) → slice_index (slice_set m.regs 16 x) 16 ≡ x
  holds_read x = get_or-set_same m.regs 16 x 0 (let all = st.shows.regs in omega (arith, all))

  abbrev Asked : AvrState
  Asked = at_place (with_reg m 16 0) (m.place + 1) 1

  abbrev Skipped : AvrState
  Skipped = at_place Asked (m.place + 1 + 1) 1

  abbrev Again : AvrState
  Again = at_place Skipped m.place 2

  again : StandsAt board lay.places Again s
  again =
      let v = view_of m in
      let seen = view_seen m st.shows.regs st.shows.sram in
      let has = to_view board lay.places m v s seen st in
      let seen1 = sees_moved _ _ (m.place + 1) 1 (sees_put m v 16 0 (lit< tt) seen) in
      let seen2 = sees_moved _ _ (m.place + 1 + 1) 1 seen1 in
      let seen3 = sees_moved _ _ m.place 2 seen2 in
      let f1 = flag_kept v.core (m.place + 1) 1 s.store.flag has.has.flag in
      let f2 = flag_kept (at_place v.core (m.place + 1) 1) (m.place + 1 + 1) 1 s.store.flag f1 in
      let f3 = flag_kept (at_place (at_place v.core (m.place + 1) 1) (m.place + 1 + 1) 1) m.place 2 s.store.flag f2 in
      from_view board lay.places _ _ s seen3 (record {
        has = has_same board lay.places v _ s (alike v _ refl refl refl (λ port. refl) refl refl refl refl) has.has s.store.flag s.place refl f3;
        at = st.at;
      })

  pub waits : LeadsFrom (steps_over (avr_step mega16) lay.flash) (λ m'. StandsAt board lay.places m' s)
      (steps_over (avr_step mega16) lay.flash m false no_reading)
      4 []
  waits = record {
    went = record { next = Asked; cycles = 1; poll = CycleNotReady; sent = [] };
    is = first false no_reading;
    left = 3;
    bound = lit≤ tt;
    rest = [];
    said = refl;
    further = then_step lay.flash (λ m'. StandsAt board lay.places m' s) Asked Skipped 1 2 skip
        (then_step lay.flash (λ m'. StandsAt board lay.places m' s) Skipped Again 2 0 jump (here again));
  }
    where
      two_behind : (n p : ℕ) → n ≡ p → n + 1 + 1 ≡ p + 1 + 1
      two_behind n p e = omega (arith, e)

      skip : Steps lay.flash Asked Skipped 1
      skip = one_step lay.flash Asked Skipped (insn.Sbrs 16 4) 1 (let a = st.at in let b = inside in omega (arith, a, b)) (second 0 Asked refl) refl refl
          (ap (λ x. settled_by lay.flash (m.place + 1 + 1) (skip_if Asked (bit_of x 4))) (holds_read 0))

      jump : Steps lay.flash Skipped Again 2
      jump = one_step lay.flash Skipped Again (insn.Rjmp 4093) 2 (let a = st.at in let b = inside in omega (arith, a, b))
          (ap (insn_at mega16 lay.flash) (let a = st.at in two_behind m.place Place a) ∙ code.2.2.1) refl refl
          (ap (λ n. WentTo (at_place Skipped n 2) 2) (back_jump m.place low))

  module _ (r : PinReading) where
    abbrev Taken : AvrState
    Taken = at_place (with_reg (record m { devices = record m.devices { reading = r; timer = record m.devices.timer { flag = true } } }) 16 16) (m.place + 1)
        1

    abbrev Behind : AvrState
    Behind = at_place Taken (m.place + 1 + 1 + 1) 2

    abbrev Cleared : AvrState
    Cleared = at_place (record Behind { devices = record Behind.devices { timer = record Behind.devices.timer { flag = false } } }) (m.place + 1 + 1 + 1 + 1)
        1

    cleared : StandsAt board lay.places Cleared (act lay.code (CyclePoll l) s true r).next
    cleared =
        let v = view_of m in
        let seen = view_seen m st.shows.regs st.shows.sram in
        let has = (to_view board lay.places m v s seen st).has in
        let seen0 = sees_core m v (λ c. record c { devices = record c.devices { reading = r; timer = record c.devices.timer { flag = true } } }) refl refl
        refl seen in
        let seen1 = sees_moved _ _ (m.place + 1) 1 (sees_put _ _ 16 16 (lit< tt) seen0) in
        let seen2 = sees_moved _ _ (m.place + 1 + 1 + 1) 2 seen1 in
        let seen3 = sees_core _ _ (λ c. record c { devices = record c.devices { timer = record c.devices.timer { flag = false } } }) refl refl refl seen2 in
        let seen4 = sees_moved _ _ (m.place + 1 + 1 + 1 + 1) 1 seen3 in
        from_view board lay.places _ _ _ seen4 (record {
          has = record {
            holds = record {
              all = has.holds.all;
              scratch = has.holds.scratch;
              target = has.holds.target;
              ports = has.holds.ports;
              eeprom = has.holds.eeprom;
              cells = has.holds.cells;
              wires = has.holds.wires;
              bytes = has.holds.bytes;
              latches = has.holds.latches;
              reading = refl;
            };
            settings = has.settings;
            started = λ e. record { zero = (has.started e).zero; directions = (has.started e).directions; timing = (has.started e).timing; quiet = refl };
            flag = tt;
            back = has.back;
            closed = has.closed;
          };
          at = four_behind m.place Place (slice_index lay.places (suc s.place)) st.at ready.next;
        })
      where
        four_behind : (n p q : ℕ) → n ≡ p → q ≡ p + 4 → n + 1 + 1 + 1 + 1 ≡ q
        four_behind n p q e f = omega (arith, e, f)

    pub leaves : LeadsFrom (steps_over (avr_step mega16) lay.flash) (λ m'. StandsAt board lay.places m' (act lay.code (CyclePoll l) s true r).next)
        (steps_over (avr_step mega16) lay.flash m true r) 4 []
    leaves = record {
      went = record { next = Taken; cycles = 1; poll = CycleReady; sent = [] };
      is = first true r;
      left = 3;
      bound = lit≤ tt;
      rest = [];
      said = refl;
      further = then_step lay.flash (λ m'. StandsAt board lay.places m' (act lay.code (CyclePoll l) s true r).next) Taken Behind 2 1 skip
          (then_step lay.flash (λ m'. StandsAt board lay.places m' (act lay.code (CyclePoll l) s true r).next) Behind Cleared 1 0 clear (here cleared));
    }
      where
        behind_two : (n p : ℕ) → n ≡ p → n + 1 + 1 ≡ p + 1 + 1
        behind_two n p e = omega (arith, e)

        behind_three : (n p : ℕ) → n ≡ p → n + 1 + 1 + 1 ≡ p + 1 + 1 + 1
        behind_three n p e = omega (arith, e)

        skip : Steps lay.flash Taken Behind 2
        skip = one_step lay.flash Taken Behind (insn.Sbrs 16 4) 2 (let a = st.at in let b = inside in omega (arith, a, b)) (second 0 Taken refl) refl refl
            (ap (λ x. settled_by lay.flash (m.place + 1 + 1) (skip_if Taken (bit_of x 4))) (holds_read 16)
            ∙ ap (λ n. WentTo (at_place Taken (m.place + 1 + 1 + n) (1 + n)) (1 + n))
            (ap width_of (ap (insn_at mega16 lay.flash) (behind_two m.place Place st.at) ∙ code.2.2.1)))

        clear : Steps lay.flash Behind Cleared 1
        clear = one_step lay.flash Behind Cleared (insn.Out 0x38 16) 1 (let a = st.at in let b = inside in omega (arith, a, b))
            (ap (insn_at mega16 lay.flash) (behind_three m.place Place st.at) ∙ code.2.2.2.1) refl refl
            (ap (λ x. settled_by lay.flash (m.place + 1 + 1 + 1 + 1) (record {
              state = record Behind {
                devices = record Behind.devices {
                  timer = if bit_of x 4 then record Behind.devices.timer { flag = false } else
                      Behind.devices.timer;
                };
              };
              acted = state.act Next 1 NoPoll None;
            })) (holds_read 16))
