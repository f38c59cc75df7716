-- Calls, returns and the cycle poll.
use Rattle.std.proofs.Common.{◌≡◌, inl, ℕ, ◌+◌, ◌-◌, ◌*◌, ◌/◌, ◌%◌, ◌<◌, ◌≤◌, false, List, [], ◌∷◌, Option, Some, None, refl, sym, ap, ◌∙◌, subst, arith, lit<, lit≤}
use Rattle.std.proofs.lemmas.Bool.{lt-ltb, ne_eqb, true≢false}
use Rattle.std.specs.Prelude.{◌&&◌, nat_lt, nat_le, if◌then◌else◌, slice_index, slice_set, IsSome}
use Rattle.chip_tables.specs.Outside.{no_reading}
use Rattle.chip_tables.specs.declared.outside.Poll.TheVariants.{NoPoll}
use Rattle.chip_tables.specs.declared.outside.StuckCause.TheVariants.{PastFlash, StackDepth}
use Rattle.runs.specs.Chip.{steps_over}
use Rattle.runs.specs.Run.{Went, ask_of}
use Rattle.runs.specs.declared.ask.Ask.TheVariants as ask
use Rattle.byte_code.specs.declared.prim.BytePrim.{BytePrim}
use Rattle.byte_code.specs.declared.prim.BytePrim.TheVariants.{Call, Return}
use Rattle.byte_code.specs.declared.state.Bytes.{Bytes}
use Rattle.byte_code.specs.Machine.{act, label_place, returned}
use Rattle.byte_code.specs.Table.{plain}
use Rattle.avr_devices.specs.Part.{mega16}
use Rattle.avr_mach.specs.declared.insn.AvrInsn.{AvrInsn}
use Rattle.avr_mach.specs.declared.insn.AvrInsn.TheVariants as insn
use Rattle.avr_mach.specs.declared.state.AvrState.{AvrState}
use Rattle.avr_mach.specs.Asks.{insn_ask}
use Rattle.avr_mach.specs.Control.{obstacle, return_place, far_obstacle}
use Rattle.avr_mach.specs.Exec.{exec}
use Rattle.avr_mach.specs.Memory.{with_ram}
use Rattle.avr_mach.specs.Step.{avr_step, insn_at, at_place}
use Rattle.avr_mach.specs.Words.{size_of}
use Rattle.target_core.specs.Law.{Leads, here, on, LeadsFrom, Moves, IsReady, Layout}
use Rattle.avr_code.specs.Code.{Board, Plain, cycle_count}
use Rattle.avr_code.specs.Stands.{HasReturn, StandsAt}
use Rattle.avr_code.specs.Target.{avr_target}
use Rattle.avr_code.proofs.Effects.{sees_ram}
use Rattle.chip_tables.specs.Bits.{bit_of}
use Rattle.avr_code.proofs.Standing.{view_of, view_seen, to_view, from_view, cell_low, wire_low}
use Rattle.avr_code.proofs.Steps.{Steps, env_of, settled_by, step_is, ask_is}
use Rattle.avr_code.proofs.View.{View, changed, sees_moved, sees_core}
use Rattle.avr_code.proofs.Walk.{code_held}

abbrev pub WentTo : AvrState → ℕ → Option (Went AvrState)
WentTo next c = Some (record { next = next; cycles = c; poll = NoPoll; sent = [] })

-- the step of an instruction that asks nobody
pub one_step : (flash : List ℕ) (m next : AvrState) (i : AvrInsn) (c : ℕ) → m.place < 8192 → insn_at mega16 flash m.place ≡ Some i → obstacle mega16 i m ≡
    None →
    insn_ask i m.devices ≡ ask.Nothing → settled_by flash (m.place + size_of i) (exec mega16 (env_of false no_reading) i m.place m) ≡ WentTo next c →
    Steps flash m next c
one_step flash m next i c low stands free quiet e = record {
  asks = ask_is flash m i low stands free ∙ quiet;
  is = step_is flash m i false no_reading low stands free ∙ e;
}

module _ (flash : List ℕ) (T : AvrState → Type 0) where
  pub then_step : (m next : AvrState) (c left : ℕ) → Steps flash m next c → Leads (steps_over (avr_step mega16) flash) T next left [] →
      Leads (steps_over (avr_step mega16) flash) T m (c + left) []
  then_step m next c left s further = on (record { next = next; cycles = c; poll = NoPoll; sent = [] }) left s.asks s.is (omega arith) further

  pub from_step : (m next : AvrState) (c : ℕ) → Steps flash m next c → T next →
      (ask_of (steps_over (avr_step mega16) flash) m ≡ ask.Nothing)
      × LeadsFrom (steps_over (avr_step mega16) flash) T (steps_over (avr_step mega16) flash m false no_reading) c []
  from_step m next c s t = (
    s.asks,
    record {
      went = record { next = next; cycles = c; poll = NoPoll; sent = [] };
      is = s.is;
      left = 0;
      bound = omega arith;
      rest = [];
      said = refl;
      further = here t;
    },
  )

pushed : (m : AvrState) (back n : ℕ) → n ≡ 1119 →
    record (with_ram (with_ram m n (back % 256)) (n - 1) (back / 256)) { stack = n - 2 } ≡ record m {
      sram = slice_set (slice_set m.sram 1023 (back % 256))
          1022 (back / 256);
      stack = 1117;
    }
pushed m back n e =
    ap (λ n. record (with_ram (with_ram m n (back % 256)) (n - 1) (back / 256)) { stack = n - 2 }) e

call_free : (m : AvrState) (place n : ℕ) → n ≡ 1119 → m.place + 2 ≤ 8192 → place < 8192 →
    far_obstacle mega16 m place (if nat_lt 96 n && nat_lt n 1120 then None else Some StackDepth) ≡ None
call_free m place n e inside low =
    ap (λ n. far_obstacle mega16 m place (if nat_lt 96 n && nat_lt n 1120 then None else Some StackDepth)) e
    ∙ ap (λ b. if b && nat_lt place 65536 then None else Some PastFlash) (lt-ltb (m.place + 1) 8192 (omega (arith, inside)))
    ∙ ap (λ b. if b then None else Some PastFlash) (lt-ltb place 65536 (omega (arith, low)))

ret_free : (n : ℕ) → n ≡ 1117 → (if nat_le 96 (n + 1) && nat_lt (n + 2) 1120 then None else Some StackDepth) ≡ None
ret_free n e = ap (λ n. if nat_le 96 (n + 1) && nat_lt (n + 2) 1120 then None else Some StackDepth) e

parts : (back q : ℕ) → back ≡ q → back / 256 * 256 + back % 256 ≡ q
parts back q e = omega (arith, e)

module _ (board : Board) (lay : Layout) (m : AvrState) (s : Bytes) where
  abbrev Ready : BytePrim → Type 0
  Ready p = IsReady (avr_target board) lay s p

  abbrev Place : ℕ
  Place = slice_index lay.places s.place

  abbrev Goes : BytePrim → Type 0
  Goes p = Moves (steps_over (avr_step mega16) lay.flash) (StandsAt board lay.places) m (cycle_count board p) s (act lay.code p s false no_reading)

  pub call : (l : ℕ) → Ready (Call l) → StandsAt board lay.places m s → Goes (Call l)
  call l ready st =
      let named = ready.label l refl in
      let to = slice_index lay.labels l in
      let inside : Place + 2 ≤ 8192 = (let a = ready.next in let b = ready.inside in omega (arith, a, b)) in
      let code = code_held (Plain (insn.Call to) ∷ []) lay.flash Place ((let low = named.1 in omega (arith, low)), tt) inside ready.loaded in
      let low : m.place < 8192 = (let a = st.at in omega (arith, a, inside)) in
      let room : m.place + 2 ≤ 8192 = (let a = st.at in omega (arith, a, inside)) in
      let top : m.stack ≡ 1119 = subst (λ o. HasReturnAt o) ready.fits.0 (st.back ready.begins) in
      let next = at_place (record m { sram = slice_set (slice_set m.sram 1023 ((m.place + 2) % 256)) 1022 ((m.place + 2) / 256); stack = 1117 }) to 4 in
      let step = one_step lay.flash m next (insn.Call to) 4 low (ap (insn_at mega16 lay.flash) st.at ∙ code.1) (call_free m to m.stack top room named.1) refl
      (ap (λ (c : AvrState). WentTo (at_place c to 4) 4) (pushed m (m.place + 2) m.stack top)) in
      inl (from_step lay.flash (λ m'. StandsAt board lay.places m' (act lay.code (Call l) s false no_reading).next) m next 4 step (stands named.0))
    where
      HasReturnAt : Option ℕ → Type 0
      HasReturnAt o = HasReturn lay.places m o

      stands : slice_index lay.labels l ≡ slice_index lay.places (label_place lay.code l) → StandsAt board lay.places
          (at_place (record m { sram = slice_set (slice_set m.sram 1023 ((m.place + 2) % 256)) 1022 ((m.place + 2) / 256); stack = 1117 }) (slice_index
          lay.labels l) 4)
          (act lay.code (Call l) s false no_reading).next
      stands named =
          let v = view_of m in
          let seen = view_seen m st.shows.regs st.shows.sram in
          let has = (to_view board lay.places m v s seen st).has in
          let low = (m.place + 2) % 256 in
          let high = (m.place + 2) / 256 in
          let env = env_of false no_reading in
          let v1 : View = record v { cells = changed v.cells 1119 low } in
          let v2 : View = record v1 { cells = changed v1.cells 1118 high } in
          let seen1 = sees_ram env m v seen 1119 low (lit≤ tt) (lit< tt) in
          let seen2 = sees_ram env (record m { sram = slice_set m.sram 1023 low }) v1 seen1 1118 high (lit≤ tt) (lit< tt) in
          let seen3 = sees_core _ v2 (λ c. record c { stack = 1117 }) refl refl refl seen2 in
          let seen4 = sees_moved _ _ (slice_index lay.labels l) 4 seen3 in
          from_view board lay.places _ _ _ seen4 (record {
            has = record {
              holds = record {
                all = has.holds.all;
                scratch = has.holds.scratch;
                target = has.holds.target;
                ports = has.holds.ports;
                cells = λ a in'. above a (cell_low a in') v.cells low high ∙ has.holds.cells a in';
                wires = λ a is. ap (λ x. bit_of x 0) (above a (let near = wire_low a is in omega (arith, near)) v.cells low high) ∙ has.holds.wires a is;
                bytes = has.holds.bytes;
                latches = has.holds.latches;
                reading = has.holds.reading;
                eeprom = has.holds.eeprom;
              };
              settings = has.settings;
              started = λ e. record {
                zero = (has.started e).zero;
                directions = (has.started e).directions;
                timing = (has.started e).timing;
                quiet =
                    (has.started e).quiet;
              };
              flag = tt;
              closed = λ e. absurd (true≢false (sym ready.begins ∙ e));
              back = λ e. (refl, parts (m.place + 2) _ (let a = st.at in let b = ready.next in omega (arith, a, b)));
            };
            at = named;
          })
        where
          above : (a : ℕ) → a < 1056 → (f : ℕ → ℕ) (x y : ℕ) → changed (changed f 1119 x) 1118 y a ≡ f a
          above a low f x y =
              ap (λ t. if t then y else changed f 1119 x a) (ne_eqb a 1118 (λ e. omega (arith, e, low)))
              ∙ ap (λ t. if t then x else f a) (ne_eqb a 1119 (λ e. omega (arith, e, low)))

  pub return : Ready Return → StandsAt board lay.places m s → Goes Return
  return ready st = by s.open_call refl ready.fits.0
    where
      by : (o : Option ℕ) → s.open_call ≡ o → IsSome o → Goes Return
      by None e some = absurd (cc some)
      by (Some k) e some =
          let inside : Place + 1 ≤ 8192 = (let a = ready.next in let b = ready.inside in omega (arith, a, b)) in
          let code = code_held (Plain insn.Ret ∷ []) lay.flash Place (tt, tt) inside ready.loaded in
          let low : m.place < 8192 = (let a = st.at in omega (arith, a, inside)) in
          let top : (m.stack ≡ 1117) × (return_place m ≡ slice_index lay.places k) = subst (λ o. HasReturn lay.places m o) e (st.back ready.begins) in
          let next = at_place (record m { stack = m.stack + 2 }) (return_place m) 4 in
          let step = one_step lay.flash m next insn.Ret 4 low (ap (insn_at mega16 lay.flash) st.at ∙ code.1) (ret_free m.stack top.0) refl refl in
          let to : (act lay.code Return s false no_reading).next ≡ returned s (plain s.store) (Some k) = ap (returned s (plain s.store)) e in
          let v = view_of m in
          let seen = view_seen m st.shows.regs st.shows.sram in
          let has = (to_view board lay.places m v s seen st).has in
          let seen2 = sees_moved _ _ (return_place m) 4 (sees_core m v (λ c. record c { stack = c.stack + 2 }) refl refl refl seen) in
          let stands : StandsAt board lay.places next (returned s (plain s.store) (Some k)) = from_view board lay.places _ _ _ seen2 (record {
            has = record {
              holds = record {
                all = has.holds.all;
                scratch = has.holds.scratch;
                target = has.holds.target;
                ports = has.holds.ports;
                cells = has.holds.cells;
                wires = has.holds.wires;
                bytes = has.holds.bytes;
                latches = has.holds.latches;
                reading = has.holds.reading;
                eeprom = has.holds.eeprom;
              };
              settings = has.settings;
              started = λ e. record {
                zero = (has.started e).zero;
                directions = (has.started e).directions;
                timing = (has.started e).timing;
                quiet =
                    (has.started e).quiet;
              };
              flag = tt;
              closed = λ e. refl;
              back = λ e. ap (λ n. n + 2) top.0;
            };
            at = top.1;
          }) in
          inl (from_step lay.flash (λ m'. StandsAt board lay.places m' (act lay.code Return s false no_reading).next) m next 4 step
          (subst (StandsAt board lay.places next) (sym to) stands))
