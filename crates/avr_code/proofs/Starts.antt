-- The start: cells are cleared, and the devices are set.
use Rattle.std.proofs.Common.{◌≡◌, ◌≢◌, ⊎_elim, inl, ℕ, zero, suc, ◌+◌, ◌-◌, ◌*◌, ◌/◌, ◌%◌, ◌<◌, ◌≤◌, true, false, List, [], ◌∷◌, ◌++◌, append-nil, Option, None, refl, sym, ap, ap₂, ◌∙◌, subst, arith, lit<, lit≤, eq-eqb}
use Rattle.std.proofs.lemmas.Bool.{cases_eq, ne_eqb, true≢false}
use Rattle.std.specs.Prelude.{◌==◌, ◌&&◌, if◌then◌else◌, slice_index}
use Rattle.chip_tables.specs.Outside.{no_reading}
use Rattle.chip_tables.specs.declared.scratch.Scratch.{Scratch}
use Rattle.runs.specs.Chip.{steps_over}
use Rattle.runs.specs.Run.{Went, Stepper}
use Rattle.byte_code.specs.declared.prim.BytePrim.{BytePrim}
use Rattle.byte_code.specs.declared.prim.BytePrim.TheVariants.{Start}
use Rattle.byte_code.specs.declared.state.Bytes.{Bytes}
use Rattle.byte_code.specs.Machine.{act}
use Rattle.byte_code.specs.Store.{with_cell}
use Rattle.byte_code.specs.Table.{plain, cleared, none_waits}
use Rattle.avr_mach.specs.declared.insn.AvrInsn.TheVariants as insn
use Rattle.avr_mach.specs.declared.state.AvrState.{AvrState}
use Rattle.avr_mach.specs.Step.{avr_step}
use Rattle.avr_devices.specs.declared.devices.AvrPort.{AvrPort}
use Rattle.avr_devices.specs.Part.{mega16}
use Rattle.avr_mach.specs.Words.{size_of}
use Rattle.target_core.specs.Law.{Leads, LeadsFrom, Moves, IsReady, Layout}
use Rattle.target_core.proofs.Paths.{leads_on}
use Rattle.avr_code.specs.Code.{Board, direction, Piece, Plain, insn_of, size_in, word_count, cycle_count, setup_code, start_code}
use Rattle.avr_code.specs.Stands.{IsCell, StandsAt}
use Rattle.avr_code.specs.Target.{avr_target}
use Rattle.avr_code.proofs.Bits.{direction_small}
use Rattle.avr_code.proofs.Effects.{IsQuiet}
use Rattle.avr_code.proofs.Clearing.{restored, loop_code, Turns, Cleared, Done, turns}
use Rattle.avr_code.proofs.Paths.{AllGood, AllPiecesFit, bump, paths, good_paths, to_leads}
use Rattle.avr_code.proofs.Primitives.{coded, Ends, all_fields, elsewhere, good_bump, le_more, piece_fields}
use Rattle.avr_code.proofs.Standing.{Has, BackBy, ViewStands, alike, has_cell, has_kept, four, from_view, to_view, view_of, view_seen}
use Rattle.avr_code.proofs.Tables.{good_more}
use Rattle.avr_code.proofs.View.{View, Sees, changed, moved, put}
use Rattle.avr_code.proofs.Walk.{AllFit, HasCode, code_held}

pending : IsCell 15
pending = inl (lit< tt, refl, refl)

high_small : (n : ℕ) → n < 65536 → n / 256 < 256
high_small n low = omega (arith, low)

low_small : (n : ℕ) → n % 256 < 256
low_small n = omega arith

both_bytes : (n : ℕ) → n / 256 * 256 + n % 256 ≡ n
both_bytes n = omega arith

top_of_stack : (n : ℕ) → (4 * 256 + n % 256) / 256 * 256 + 95 ≡ 1119
top_of_stack n = omega arith

latches_are : (a b c d : AvrPort) (f : ℕ → ℕ) → a.latch ≡ f 0 → b.latch ≡ f 1 → c.latch ≡ f 2 → d.latch ≡ f 3 → (port : ℕ) → port < 4 →
    (if port == 0 then a else if port == 1 then b else if port == 2 then c else d).latch ≡ f port
latches_are a b c d f ha hb hc hd =
    four (λ port. (if port == 0 then a else if port == 1 then b else if port == 2 then c else d).latch ≡ f port) ha hb hc hd

directions_are : (a b c d : AvrPort) (f : ℕ → ℕ) → a.direction ≡ f 0 → b.direction ≡ f 1 → c.direction ≡ f 2 → d.direction ≡ f 3 → (port : ℕ) → port < 4 →
    (if port == 0 then a else if port == 1 then b else if port == 2 then c else d).direction ≡ f port
directions_are a b c d f ha hb hc hd =
    four (λ port. (if port == 0 then a else if port == 1 then b else if port == 2 then c else d).direction ≡ f port) ha hb hc hd

timing_is : (a c p x y : ℕ) → a ≡ 0 → c ≡ x → p ≡ y → (a == 0 && (c == x && p == y)) ≡ true
timing_is a c p x y e f g = ap₂ (λ b d. b && (d && p == y)) (eq-eqb a 0 e) (eq-eqb c x f) ∙ eq-eqb p y g

returns : (places : List ℕ) (stack : ℕ) (cells : ℕ → ℕ) (o : Option ℕ) → o ≡ None → stack ≡ 1119 → BackBy places stack cells o
returns places stack cells o none top = subst (BackBy places stack cells) (sym none) top

setup_on : (n q : ℕ) → n + 22 ≡ q → n + 1 + 1 + 1 + 1 + 1 + 1 + 1 + 1 + 1 + 1 + 1 + 1 + 1 + 1 + 1 + 1 + 1 + 1 + 1 + 1 + 1 + 1 ≡ q
setup_on n q e = omega (arith, e)

setup_fits : (board : Board) → board.settings.timer.control < 256 → board.settings.timer.compare < 65536 → AllPiecesFit (setup_code board)
setup_fits board control compare = (
  (lit≤ tt, lit< tt, lit< tt),
  (
    (lit< tt, lit< tt, q3e),
    (
      (lit≤ tt, lit< tt, lit< tt),
      (
        (lit< tt, lit< tt, q3d),
        (
          (lit≤ tt, lit< tt, direction_small board.outputs 0),
          (
            (lit< tt, lit< tt, q1a),
            (
              (lit≤ tt, lit< tt, direction_small board.outputs 1),
              (
                (lit< tt, lit< tt, q17),
                (
                  (lit≤ tt, lit< tt, direction_small board.outputs 2),
                  (
                    (lit< tt, lit< tt, q14),
                    (
                      (lit≤ tt, lit< tt, direction_small board.outputs 3),
                      (
                        (lit< tt, lit< tt, q11),
                        (
                          (lit< tt, lit< tt, q2f),
                          (
                            (lit≤ tt, lit< tt, high_small board.settings.timer.compare compare),
                            (
                              (lit< tt, lit< tt, q2b),
                              (
                                (lit≤ tt, lit< tt, low_small board.settings.timer.compare),
                                (
                                  (lit< tt, lit< tt, q2a),
                                  (
                                    (lit≤ tt, lit< tt, control),
                                    (
                                      (lit< tt, lit< tt, q2e),
                                      (
                                        (lit≤ tt, lit< tt, lit< tt),
                                        ((lit< tt, lit< tt, q38), ((lit< tt, lit< tt), tt)),
                                      ),
                                    ),
                                  ),
                                ),
                              ),
                            ),
                          ),
                        ),
                      ),
                    ),
                  ),
                ),
              ),
            ),
          ),
        ),
      ),
    ),
  ),
)
  where
    q3e : IsQuiet 0x3e
    q3e = record { regs = λ m x. refl; sram = λ m x. refl; bare = λ m x. refl; sends = λ m x. refl; asks = λ m r. refl }

    q3d : IsQuiet 0x3d
    q3d = record { regs = λ m x. refl; sram = λ m x. refl; bare = λ m x. refl; sends = λ m x. refl; asks = λ m r. refl }

    q1a : IsQuiet 0x1a
    q1a = record { regs = λ m x. refl; sram = λ m x. refl; bare = λ m x. refl; sends = λ m x. refl; asks = λ m r. refl }

    q17 : IsQuiet 0x17
    q17 = record { regs = λ m x. refl; sram = λ m x. refl; bare = λ m x. refl; sends = λ m x. refl; asks = λ m r. refl }

    q14 : IsQuiet 0x14
    q14 = record { regs = λ m x. refl; sram = λ m x. refl; bare = λ m x. refl; sends = λ m x. refl; asks = λ m r. refl }

    q11 : IsQuiet 0x11
    q11 = record { regs = λ m x. refl; sram = λ m x. refl; bare = λ m x. refl; sends = λ m x. refl; asks = λ m r. refl }

    q2f : IsQuiet 0x2f
    q2f = record { regs = λ m x. refl; sram = λ m x. refl; bare = λ m x. refl; sends = λ m x. refl; asks = λ m r. refl }

    q2b : IsQuiet 0x2b
    q2b = record { regs = λ m x. refl; sram = λ m x. refl; bare = λ m x. refl; sends = λ m x. refl; asks = λ m r. refl }

    q2a : IsQuiet 0x2a
    q2a = record { regs = λ m x. refl; sram = λ m x. refl; bare = λ m x. refl; sends = λ m x. refl; asks = λ m r. refl }

    q2e : IsQuiet 0x2e
    q2e = record { regs = λ m x. refl; sram = λ m x. refl; bare = λ m x. refl; sends = λ m x. refl; asks = λ m r. refl }

    q38 : IsQuiet 0x38
    q38 = record { regs = λ m x. refl; sram = λ m x. refl; bare = λ m x. refl; sends = λ m x. refl; asks = λ m r. refl }

-- what stands in front of the loop, and behind it
abbrev front : ℕ → List Piece
front n =
    Plain (insn.Ldi 16 0) ∷ Plain (insn.Mov 1 16) ∷ Plain (insn.Mov 18 26) ∷ Plain (insn.Mov 19 27) ∷ Plain (insn.Ldi 26 96) ∷ Plain (insn.Ldi 27 0)
    ∷ Plain (insn.Ldi 16 ((96 + n) / 256)) ∷ []

abbrev behind : Board → List Piece
behind board = Plain (insn.Mov 26 18) ∷ Plain (insn.Mov 27 19) ∷ setup_code board

-- code that stands behind other code
code_front : (flash : List ℕ) (here : ℕ) (a b : List Piece) → HasCode flash here (a ++ b) → HasCode flash here a
code_front flash here [] b h = tt
code_front flash here (p ∷ ps) b h = (h.0, h.1, code_front flash (here + size_of (insn_of p)) ps b h.2)

code_back : (flash : List ℕ) (here : ℕ) (a b : List Piece) → HasCode flash here (a ++ b) → HasCode flash (here + size_in a) b
code_back flash here [] b h = subst (λ n. HasCode flash n b) (none here) h
  where
    none : (n : ℕ) → n ≡ n + 0
    none n = omega arith
code_back flash here (p ∷ ps) b h =
    subst (λ n. HasCode flash n b) (more here (size_of (insn_of p)) (size_in ps)) (code_back flash (here + size_of (insn_of p)) ps b h.2)
  where
    more : (n a b : ℕ) → n + a + b ≡ n + (a + b)
    more n a b = omega arith

fit_join : (a b : List Piece) → AllFit a → AllFit b → AllFit (a ++ b)
fit_join [] b f g = g
fit_join (p ∷ ps) b f g = (f.0, fit_join ps b f.1 g)

high_low : (n : ℕ) → n ≤ 960 → (96 + n) / 256 < 256
high_low n few = omega (arith, few)

front_fits : (n : ℕ) → n ≤ 960 → AllPiecesFit (front n)
front_fits n few = (
  (lit≤ tt, lit< tt, lit< tt),
  (
    (lit< tt, lit< tt),
    (
      (lit< tt, lit< tt),
      ((lit< tt, lit< tt), ((lit≤ tt, lit< tt, lit< tt), ((lit≤ tt, lit< tt, lit< tt), ((lit≤ tt, lit< tt, high_low n few), tt)))),
    ),
  ),
)

-- X takes what it had
kept_cells : (f : ℕ → ℕ) (p q b : ℕ) → changed (changed (changed (changed f 26 p) 27 q) 26 (f 26)) 27 (f 27) b ≡ f b
kept_cells f p q b = ⊎_elim
    (λ (e : b ≡ 27). ap (λ t. if t then f 27 else changed (changed (changed f 26 p) 27 q) 26 (f 26) b) (eq-eqb b 27 e) ∙ ap f (sym e))
    (λ (ne : b ≢ 27). ⊎_elim (λ (e : b ≡ 26). rw (ne_eqb b 27 ne, eq-eqb b 26 e) (ap f (sym e))) (λ (no : b ≢ 26). rw (ne_eqb b 27 ne, ne_eqb b 26 no) refl)
    (cases_eq b 26))
    (cases_eq b 27)

-- what a step leads to leads on
from_on : {M : Type 0} (step : Stepper M) (T U : M → Type 0) (budget more : ℕ) {o : Option (Went M)} → LeadsFrom step T o budget [] →
    ((m : M) → T m → Leads step U m more []) → LeadsFrom step U o (budget + more) []
from_on step T U budget more f h = record {
  went = f.went;
  is = f.is;
  left = f.left + more;
  bound = (let le = f.bound in omega (arith, le));
  rest = f.rest ++ [];
  said = f.said ∙ ap (λ l. f.went.sent ++ l) (sym (append-nil f.rest));
  further = leads_on step T U f.went.next f.left more f.rest [] f.further h;
}

module _ (board : Board) (lay : Layout) (m : AvrState) (s : Bytes) where
  abbrev Ready : BytePrim → Type 0
  Ready p = IsReady (avr_target board) lay s p

  abbrev Goes : BytePrim → Type 0
  Goes p = Moves (steps_over (avr_step mega16) lay.flash) (StandsAt board lay.places) m (cycle_count board p) s (act lay.code p s false no_reading)

  -- so many cells are 0
  abbrev With : ℕ → Bytes
  With i = record s { store = plain (cleared i s.store) }

  -- the pending byte is none
  pended : (n : ℕ) (w : View) → Has board lay.places w (With n) → w.work 1 ≡ 0 →
      Has board lay.places (record w { cells = changed w.cells 15 (w.work 1) }) (record s { store = plain (none_waits (cleared n s.store)) })
  pended n w has z =
      subst (λ (c : Scratch). Has board lay.places (record w { cells = changed w.cells 15 (w.work 1) })
      (record s { store = plain (with_cell (cleared n s.store) c.pending_low 0) })) (sym has.holds.scratch)
      (elsewhere board lay.places _ _ s.place
      (has_cell board lay.places w _ (With n) (alike w _ refl refl refl (λ port. refl) refl refl refl refl) has 15 (w.work 1) 0 pending refl z (lit< tt)))

  finished : (n : ℕ) (w : View) → IsReady (avr_target board) lay s (Start n) → Has board lay.places w (With n) → w.work 1 ≡ 0 →
      w.core.place + size_in (setup_code board) ≡ slice_index lay.places (suc s.place) →
      AllGood (size_in (setup_code board)) (Ends board lay m s (Start n)) (paths (setup_code board) 0 w)
  finished n w ready has z at =
      let y = pended n w has z in (
        lit≤ tt,
        record {
          has = record {
            holds = record {
              all = y.holds.all;
              scratch = y.holds.scratch;
              target = y.holds.target;
              ports = y.holds.ports;
              cells = y.holds.cells;
              wires = y.holds.wires;
              bytes = y.holds.bytes;
              latches = latches_are (record w.core.devices.port_a { direction = direction board.outputs 0 })
                  (record w.core.devices.port_b { direction = direction board.outputs 1 })
                  (record w.core.devices.port_c { direction = direction board.outputs 2 })
                  (record w.core.devices.port_d { direction = direction board.outputs 3 })
                  (slice_index (cleared n s.store).latches) (y.holds.latches 0 (lit< tt)) (y.holds.latches 1 (lit< tt)) (y.holds.latches 2 (lit< tt))
                  (y.holds.latches 3 (lit< tt));
              reading = y.holds.reading;
              eeprom = y.holds.eeprom;
            };
            settings = y.settings;
            started = λ e. record {
              zero = z;
              directions = directions_are (record w.core.devices.port_a { direction = direction board.outputs 0 })
                  (record w.core.devices.port_b { direction = direction board.outputs 1 })
                  (record w.core.devices.port_c { direction = direction board.outputs 2 })
                  (record w.core.devices.port_d { direction = direction board.outputs 3 })
                  (direction board.outputs) refl refl refl refl;
              timing = timing_is (w.work 1) board.settings.timer.control
                  (board.settings.timer.compare / 256 * 256 + board.settings.timer.compare % 256) w.core.devices.settings.timer.control
                  w.core.devices.settings.timer.compare z (sym (ap (λ x. x.timer.control) y.settings))
                  (both_bytes board.settings.timer.compare ∙ sym (ap (λ x. x.timer.compare) y.settings));
              quiet = refl;
            };
            flag = tt;
            back = λ e. returns lay.places ((4 * 256 + w.core.stack % 256) / 256 * 256 + 95) (changed w.cells 15 (w.work 1)) s.open_call
                (y.closed ready.begins) (top_of_stack w.core.stack);
            closed = λ e. absurd (true≢false e);
          };
          at = setup_on w.core.place (slice_index lay.places (suc s.place)) at;
        },
      )

  -- behind the first two instructions R1 is 0
  abbrev zeroed : View → View
  zeroed v = moved (put (moved (put v 16 0) (v.core.place + 1) 1) 1 0) (v.core.place + 1 + 1) 1

  has_first : (n : ℕ) (v : View) → Ready (Start n) → Has board lay.places v s → Has board lay.places (zeroed v) (With 0)
  has_first n v ready h = record {
    holds = record {
      all = h.holds.all;
      scratch = h.holds.scratch;
      target = h.holds.target;
      ports = h.holds.ports;
      cells = h.holds.cells;
      wires = h.holds.wires;
      bytes = h.holds.bytes;
      latches = h.holds.latches;
      reading = h.holds.reading;
      eeprom = h.holds.eeprom;
    };
    settings = h.settings;
    started = λ e. absurd (true≢false (sym e ∙ ready.begins));
    flag = tt;
    back = λ e. absurd (true≢false (sym e ∙ ready.begins));
    closed = h.closed;
  }

  abbrev Later : ℕ
  Later = size_in (setup_code board)

  -- nothing is cleared
  start_none : Ready (Start 0) → StandsAt board lay.places m s → Goes (Start 0)
  start_none ready st = coded board lay m s (Start 0) (Plain (insn.Ldi 16 0)) (Plain (insn.Mov 1 16) ∷ setup_code board) ready refl refl refl (
    (lit≤ tt, lit< tt, lit< tt),
    ((lit< tt, lit< tt), setup_fits board ready.admitted.1 ready.admitted.2),
  ) st (λ v h.
      good_more (1 + (1 + Later)) (cycle_count board (Start 0)) (Ends board lay m s (Start 0)) (paths (start_code board 0) 0 v) (le_more _)
      (good_bump 1 (1 + Later) (Ends board lay m s (Start 0)) (bump 1 (paths (setup_code board) 0 (zeroed v)))
      (good_bump 1 Later (Ends board lay m s (Start 0)) (paths (setup_code board) 0 (zeroed v))
      (finished 0 (zeroed v) ready (has_first 0 v ready h.has) refl (two_on v.core.place _ Later _ h.at ready.next)))))
    where
      two_on : (p q k t : ℕ) → p ≡ q → t ≡ q + (1 + (1 + k)) → p + 1 + 1 + k ≡ t
      two_on p q k t e f = omega (arith, e, f)

  module _ (k : ℕ) (ready : Ready (Start (suc k))) (st : StandsAt board lay.places m s) where
    abbrev n : ℕ
    n = suc k

    abbrev Place : ℕ
    Place = slice_index lay.places s.place

    abbrev Begin : ℕ
    Begin = Place + 7

    abbrev Stepping : Stepper AvrState
    Stepping = steps_over (avr_step mega16) lay.flash

    abbrev E : View → Type 0
    E = Ends board lay m s (Start n)

    abbrev T : AvrState → Type 0
    T m' = StandsAt board lay.places m' (act lay.code (Start n) s false no_reading).next

    fits : AllFit (start_code board n)
    fits = fit_join (front n) (loop_code n ++ behind board) (all_fields (front n) (front_fits n ready.admitted.0)) (
      lit< tt,
      (
        piece_fields (Plain (insn.Cpi 26 ((96 + n) % 256))) (lit≤ tt, lit< tt, low_small (96 + n)),
        (
          piece_fields (Plain (insn.Cpc 27 16)) (lit< tt, lit< tt),
          (
            (lit< tt, lit< tt),
            all_fields (behind board) ((lit< tt, lit< tt), ((lit< tt, lit< tt), setup_fits board ready.admitted.1 ready.admitted.2)),
          ),
        ),
      ),
    )

    inside : (size : ℕ) → size ≡ word_count board (Start n) → Place + size ≤ 8192
    inside size e = let a = ready.next in let b = ready.inside in omega (arith, a, b, e)

    code : HasCode lay.flash Place (start_code board n)
    code = code_held (start_code board n) lay.flash Place fits (inside (size_in (start_code board n)) refl) ready.loaded

    code_of_loop : HasCode lay.flash Begin (loop_code n ++ behind board)
    code_of_loop = code_back lay.flash Place (front n) (loop_code n ++ behind board) code

    code_behind : HasCode lay.flash (Begin + 4) (behind board)
    code_behind = code_back lay.flash Begin (loop_code n) (behind board) code_of_loop

    abbrev First : AvrState → Type 0
    First m' = (w : View) × Sees m' w × Turns board lay.places lay.flash s n Begin ready.admitted.0 0 w

    -- in front of the first turn
    first : (v : View) → ViewStands board lay.places v s → AllGood 7 (Turns board lay.places lay.flash s n Begin ready.admitted.0 0) (paths (front n) 0 v)
    first v h = (
      lit≤ tt,
      record {
        at = seven v.core.place Place h.at;
        zero = refl;
        end = refl;
        low = refl;
        high = refl;
        has = has_kept board lay.places (zeroed v) _ (With 0) (alike (zeroed v) _ refl refl refl (λ port. refl) refl refl refl refl)
            (has_first n v ready h.has) None s.place (λ b. kept_cells v.cells 96 0 b) tt;
      },
    )
      where
        seven : (p q : ℕ) → p ≡ q → p + 1 + 1 + 1 + 1 + 1 + 1 + 1 ≡ q + 7
        seven p q e = omega (arith, e)

    -- behind the last one
    last : (m' : AvrState) (w : View) → Sees m' w → Cleared board lay.places lay.flash s n Begin ready.admitted.0 w →
        Leads Stepping T m' (1 + (1 + Later)) []
    last m' w seen c =
        let at = c.at in
        to_leads lay.flash T m' (1 + (1 + Later)) (good_paths lay.flash T (Plain (insn.Mov 26 18)) (Plain (insn.Mov 27 19) ∷ setup_code board) m' w
        (1 + (1 + Later)) E ((lit< tt, lit< tt), ((lit< tt, lit< tt), setup_fits board ready.admitted.1 ready.admitted.2))
        (subst (λ p. HasCode lay.flash p (behind board)) (four_on w.core.place Begin at) code_behind) seen
        (λ m'' x sees ends. from_view board lay.places m'' x (act lay.code (Start n) s false no_reading).next sees ends)
        (good_bump 1 (1 + Later) E (bump 1 (paths (setup_code board) 0 (moved (moved (restored w) (w.core.place + 1) 1) (w.core.place + 1 + 1) 1)))
        (good_bump 1 Later E (paths (setup_code board) 0 (moved (moved (restored w) (w.core.place + 1) 1) (w.core.place + 1 + 1) 1))
        (finished n (moved (moved (restored w) (w.core.place + 1) 1) (w.core.place + 1 + 1) 1) ready
        (has_kept board lay.places (restored w) _ (With n) (alike (restored w) _ refl refl refl (λ port. refl) refl refl refl refl) c.has None s.place
        (λ b. refl) tt) c.zero
        (ends_at w.core.place Place Later _ at ready.next)))))
      where
        four_on : (p q : ℕ) → p ≡ q + 1 + 1 + 1 + 1 → q + 4 ≡ p
        four_on p q e = omega (arith, e)

        ends_at : (p q l t : ℕ) → p ≡ q + 7 + 1 + 1 + 1 + 1 → t ≡ q + (1 + (1 + (1 + (1 + (1 + (1 + (1 + (1 + (1 + (1 + (1 + (1 + (1 + l))))))))))))) →
            p + 1 + 1 + l ≡ t
        ends_at p q l t e f = omega (arith, e, f)

    start_some : Goes (Start n)
    start_some =
        let v = view_of m in
        let seen = view_seen m st.shows.regs st.shows.sram in
        let stands = to_view board lay.places m v s seen st in
        let went = good_paths lay.flash First (Plain (insn.Ldi 16 0)) (Plain (insn.Mov 1 16) ∷ Plain (insn.Mov 18 26) ∷ Plain (insn.Mov 19 27)
        ∷ Plain (insn.Ldi 26 96) ∷ Plain (insn.Ldi 27 0) ∷ Plain (insn.Ldi 16 ((96 + n) / 256)) ∷ []) m v 7
        (Turns board lay.places lay.flash s n Begin ready.admitted.0 0) (front_fits n ready.admitted.0)
        (subst (λ p. HasCode lay.flash p (front n)) (sym stands.at) (code_front lay.flash Place (front n) (loop_code n ++ behind board) code)) seen
        (λ m' w sees t. (w, sees, t)) (first v stands) in
        let further = from_on Stepping First T 7 (6 * k + 5 + (1 + (1 + Later))) went.1 (λ m' f.
        leads_on Stepping (Done board lay.places lay.flash s n Begin ready.admitted.0) T m' (6 * k + 5) (1 + (1 + Later)) [] []
        (turns board lay.places lay.flash s n Begin ready.admitted.0 (code_front lay.flash Begin (loop_code n) (behind board) code_of_loop) k 0 m' f.0
        (one_more k) f.1 f.2)
        (λ m'' d. last m'' d.0 d.1 d.2)) in
        inl (went.0, subst (λ c. LeadsFrom Stepping T (Stepping m false no_reading) c []) (total k Later) further)
      where
        one_more : (k : ℕ) → suc 0 + k ≡ suc k
        one_more k = omega arith

        total : (k l : ℕ) → 7 + (6 * k + 5 + (1 + (1 + l)))
            ≡ 1 + (1 + (1 + (1 + (1 + (1 + (1 + (1 + (1 + (1 + (1 + (1 + (1 + l)))))))))))) + (6 * suc k - 5)
        total k l = omega arith

  pub start : (n : ℕ) → Ready (Start n) → StandsAt board lay.places m s → Goes (Start n)
  start zero ready st = start_none ready st
  start (suc k) ready st = start_some k ready st
