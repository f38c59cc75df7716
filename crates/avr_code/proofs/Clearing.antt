-- The start's loop, in which bytes of the SRAM become 0.
use Rattle.std.proofs.Common.{◌≡◌, ◌≢◌, inr, ⊎_elim, ℕ, zero, suc, ◌+◌, ◌-◌, ◌*◌, ◌/◌, ◌%◌, ◌<◌, ◌≤◌, Bool, true, false, not, List, [], ◌∷◌, Some, None, refl, sym, ap, ap₂, ◌∙◌, subst, arith, lit<, lit≤, eq-eqb}
use Rattle.std.proofs.lemmas.Bool.{cases_eq, lt-ltb, ne_eqb}
use Rattle.std.specs.Prelude.{◌==◌, if◌then◌else◌, slice_set}
use Rattle.chip_tables.specs.Memory.{ram_address, byte_at}
use Rattle.chip_tables.specs.Outside.{no_reading}
use Rattle.chip_tables.specs.declared.target.Target.{Target}
use Rattle.chip_tables.specs.declared.target.Target.TheVariants.{Mega16}
use Rattle.runs.specs.Chip.{steps_over}
use Rattle.byte_code.specs.declared.state.Bytes.{Bytes}
use Rattle.byte_code.specs.Store.{with_cell}
use Rattle.byte_code.specs.Table.{plain, cleared, cell_cleared}
use Rattle.avr_devices.specs.Part.{mega16}
use Rattle.avr_mach.specs.declared.insn.AvrInsn.TheVariants as insn
use Rattle.avr_mach.specs.declared.state.AvrState.{AvrState}
use Rattle.avr_mach.specs.declared.state.Flow.TheVariants.{Next}
use Rattle.avr_mach.specs.Arithmetic.{with_compared}
use Rattle.chip_tables.specs.Bits.{as_bit}
use Rattle.avr_mach.specs.Control.{branch}
use Rattle.avr_mach.specs.Exec.{exec}
use Rattle.avr_mach.specs.State.{After, after, pointer, with_pointer, with_reg}
use Rattle.avr_mach.specs.Step.{avr_step, insn_at, at_place}
use Rattle.avr_mach.specs.Transfer.{stored_at}
use Rattle.target_core.specs.Law.{Leads, here}
use Rattle.target_core.proofs.Paths.{leads_on}
use Rattle.avr_code.specs.Code.{Board, Piece, Plain}
use Rattle.avr_code.specs.Stands.{IsCell}
use Rattle.avr_code.proofs.Control.{WentTo, one_step, then_step}
use Rattle.avr_code.proofs.Effects.{sees_ram, sts_writes}
use Rattle.avr_code.proofs.Paths.{good_paths, to_leads}
use Rattle.avr_code.proofs.Primitives.{elsewhere, equal_flag}
use Rattle.avr_code.proofs.Standing.{Has, alike, has_cell, has_kept}
use Rattle.avr_code.proofs.Steps.{Steps, env_of, settled_by}
use Rattle.avr_code.proofs.View.{View, Sees, changed, moved, sees_moved, sees_put}
use Rattle.avr_code.proofs.Walk.{HasCode}

-- the cells of the list are those of the SRAM, from its first on
pub listed : (t : Target) (i : ℕ) → t ≡ Mega16 → i < 960 → ram_address t i ≡ Some (96 + i)
listed t i e low = ap (λ t. ram_address t i) e ∙ ap (λ b. if b then Some (96 + i) else byte_at [] (i - 960)) (lt-ltb i 960 low)

-- a byte of the SRAM is stored where X points, and X goes on
abbrev pub loop_code : ℕ → List Piece
loop_code n =
    Plain (insn.St 1) ∷ Plain (insn.Cpi 26 ((96 + n) % 256)) ∷ Plain (insn.Cpc 27 16) ∷ Plain (insn.Brbc 1 124) ∷ []

-- X as it was kept
abbrev pub restored : View → View
restored v = record v { cells = changed (changed v.cells 26 (v.work 18)) 27 (v.work 19) }

-- what is stored and what X takes, in whatever order
same_cells : (f : ℕ → ℕ) (a x p q r s b : ℕ) → 96 ≤ a →
    changed (changed (changed (changed (changed f a x) 26 p) 27 q) 26 r) 27 s b ≡ changed (changed (changed f 26 r) 27 s) a x b
same_cells f a x p q r s b far = ⊎_elim
    (λ (e : b ≡ 27). rw (eq-eqb b 27 e, ne_eqb b a (λ g. omega (arith, e, g, far))) refl)
    (λ (ne : b ≢ 27). ⊎_elim
    (λ (e : b ≡ 26). rw (ne_eqb b 27 ne, eq-eqb b 26 e, ne_eqb b a (λ g. omega (arith, e, g, far))) refl)
    (λ (no : b ≢ 26). rw (ne_eqb b 27 ne, ne_eqb b 26 no) refl) (cases_eq b 26))
    (cases_eq b 27)

back : (p : ℕ) → p + 1 + 1 + 1 < 8192 → (p + 1 + 1 + 1 + 1 + 124 + 8064) % 8192 ≡ p
back p low = omega (arith, low)

whole_x : (n : ℕ) → n / 256 * 256 + n % 256 ≡ n
whole_x n = omega arith

low_byte : (n : ℕ) → n % 256 < 256
low_byte n = omega arith

high_byte : (n : ℕ) → n < 65536 → n / 256 < 256
high_byte n low = omega (arith, low)

one_on : (i : ℕ) → i < 960 → (96 + i + 1) % 65536 ≡ 96 + suc i
one_on i low = omega (arith, low)

module _ (board : Board) (lay : List ℕ) (flash : List ℕ) (s : Bytes) (n begin : ℕ) (few : n ≤ 960) where
  abbrev Stepping : (T : AvrState → Type 0) → AvrState → ℕ → Type 0
  Stepping T m budget = Leads (steps_over (avr_step mega16) flash) T m budget []

  -- so many cells are 0
  abbrev pub With : ℕ → Bytes
  With i = record s { store = plain (cleared i s.store) }

  -- in front of a turn, when so many bytes were cleared
  pub record Turns (i : ℕ) (v : View) : Type 0 where
    pub at : v.core.place ≡ begin
    pub zero : v.work 1 ≡ 0
    pub end : v.work 16 ≡ (96 + n) / 256
    pub low : v.cells 26 ≡ (96 + i) % 256
    pub high : v.cells 27 ≡ (96 + i) / 256
    pub has : Has board lay (restored v) (With i)

  -- behind the last turn
  pub record Cleared (v : View) : Type 0 where
    pub at : v.core.place ≡ begin + 1 + 1 + 1 + 1
    pub zero : v.work 1 ≡ 0
    pub has : Has board lay (restored v) (With n)

  in_sram : (i : ℕ) → i < 960 → IsCell (96 + i)
  in_sram i low = inr (first i, last i low)
    where
      first : (i : ℕ) → 96 ≤ 96 + i
      first i = omega arith

      last : (i : ℕ) → i < 960 → 96 + i < 1056
      last i low = omega (arith, low)

  abbrev stored : View → ℕ → View
  stored v i =
      let x = 96 + suc i in
      moved (record v { cells = changed (changed (changed v.cells (96 + i) (v.work 1)) 26 (x % 256)) 27 (x / 256) }) (v.core.place + 1) 2

  abbrev tested : View → View
  tested v = moved (record v { core = with_compared v.core (v.cells 26) ((96 + n) % 256) 0 true }) (v.core.place + 1) 1

  abbrev tested_high : View → View
  tested_high v = moved (record v { core = with_compared v.core (v.cells 27) (v.work 16) (as_bit v.core.carry) v.core.zero }) (v.core.place + 1) 1

  abbrev pub Done : AvrState → Type 0
  Done m = (w : View) × Sees m w × Cleared w

  module _ (code : HasCode flash begin (loop_code n)) where
    inside : begin + 1 + 1 + 1 < 8192
    inside = let end = code.2.2.2.0 in omega (arith, end)

    -- the byte is stored
    stores : (i : ℕ) (m : AvrState) (v : View) → i < 960 → Sees m v → Turns i v → (m' : AvrState) × Steps flash m m' 2 × Sees m' (stored v i)
    stores i m v low h t =
        let x = 96 + suc i in
        let place : m.place ≡ v.core.place = ap (λ (c : AvrState). c.place) h.core in
        let at : m.place ≡ begin = place ∙ t.at in
        let seen = sees_put _ _ 27 (x / 256) (lit< tt) (sees_put _ _ 26 (x % 256) (lit< tt)
        (sees_ram (env_of false no_reading) m v h (96 + i) (v.work 1) (omega arith) (omega (arith, low)))) in
        let points : pointer m 26 ≡ 96 + i =
        ap₂ (λ a b. a * 256 + b) (h.file 27 (lit< tt) ∙ t.high) (h.file 26 (lit< tt) ∙ t.low) ∙ whole_x (96 + i) in
        let acts : exec mega16 (env_of false no_reading) (insn.St 1) m.place m
        ≡ after (with_reg (with_reg (record m { sram = slice_set m.sram (96 + i - 96) (v.work 1) }) 26 (x % 256)) 27 (x / 256)) Next 2 =
        ap₂ (λ p y. record {
          state = with_pointer (stored_at mega16 m p y).state 26 ((p + 1) % 65536);
          acted = (stored_at mega16 m p y).acted;
        }) points (h.file 1 (lit< tt))
        ∙ ap₂ (λ (a : After) q. record { state = with_pointer a.state 26 q; acted = a.acted })
        (sts_writes (env_of false no_reading) m v h (96 + i) (v.work 1) (omega arith) (omega (arith, low))) (one_on i low) in (
          _,
          one_step flash m _ (insn.St 1) 2 (let on = inside in omega (arith, at, on)) (ap (insn_at mega16 flash) at ∙ code.1) refl refl
              (ap (settled_by flash (m.place + 1)) acts),
          subst (λ p. Sees (at_place (with_reg (with_reg (record m { sram = slice_set m.sram (96 + i - 96) (v.work 1) }) 26 (x % 256)) 27 (x / 256)) (p + 1) 2)
              (stored v i)) (sym place) (sees_moved _ _ (v.core.place + 1) 2 seen),
        )

    -- X is compared with the end
    compares : (m : AvrState) (v : View) → Sees m v → v.core.place ≡ begin + 1 → Leads (steps_over (avr_step mega16) flash) (λ m'. Sees m' (tested_high
        (tested v))) m 2 []
    compares m v h at =
        let T : AvrState → Type 0 = λ m'. Sees m' (tested_high (tested v)) in
        to_leads flash T m 2 (good_paths flash T (Plain (insn.Cpi 26 ((96 + n) % 256))) (Plain (insn.Cpc 27 16) ∷ []) m v 2
        (λ w. w ≡ tested_high (tested v)) ((lit≤ tt, lit< tt, low_byte (96 + n)), ((lit< tt, lit< tt), tt))
        (subst (λ p. HasCode flash p (Plain (insn.Cpi 26 ((96 + n) % 256)) ∷ Plain (insn.Cpc 27 16) ∷ [])) (sym at)
        (code.2.0, code.2.1, (code.2.2.0, code.2.2.1, tt))) h
        (λ m' w seen e. subst (Sees m') e seen) (lit≤ tt, refl))

    turn : (T : AvrState → Type 0) (budget i : ℕ) (m : AvrState) (v : View) → i < 960 → Sees m v → Turns i v →
        ((m' : AvrState) → Sees m' (tested_high (tested (stored v i))) → Leads (steps_over (avr_step mega16) flash) T m' budget []) →
        Leads (steps_over (avr_step mega16) flash) T m (2 + (2 + budget)) []
    turn T budget i m v low h t more =
        let first = stores i m v low h t in
        then_step flash T m first.0 2 (2 + budget) first.1 (leads_on (steps_over (avr_step mega16) flash)
        (λ m'. Sees m' (tested_high (tested (stored v i)))) T first.0 2 budget [] []
        (compares first.0 (stored v i) first.2 (ap (λ p. p + 1) t.at)) more)

    -- whether X is at the end
    at_end : (i : ℕ) (v : View) (b : Bool) → i < 960 → v.work 16 ≡ (96 + n) / 256 → (96 + suc i == 96 + n) ≡ b →
        (tested_high (tested (stored v i))).core.zero ≡ b
    at_end i v b low end e =
        equal_flag ((96 + suc i) % 256) ((96 + suc i) / 256) ((96 + n) % 256) ((96 + n) / 256) _ _ _ _ refl refl refl end (low_byte (96 + suc i))
        (high_byte (96 + suc i) (omega (arith, low))) (low_byte (96 + n)) (high_byte (96 + n) (omega (arith, few)))
        ∙ ap₂ (λ x y. x == y) (whole (96 + suc i)) (whole (96 + n)) ∙ e
      where
        whole : (x : ℕ) → x % 256 + x / 256 * 256 ≡ x
        whole x = omega arith

    -- where it is not, the loop begins again
    again : (m : AvrState) (w : View) → Sees m w → w.core.place ≡ begin + 1 + 1 + 1 → w.core.zero ≡ false → Steps flash m (at_place m begin 2) 2
    again m w h at e =
        let here : m.place ≡ begin + 1 + 1 + 1 = ap (λ (c : AvrState). c.place) h.core ∙ at in
        one_step flash m _ (insn.Brbc 1 124) 2 (let on = inside in omega (arith, here, on)) (ap (insn_at mega16 flash) here ∙ code.2.2.2.1) refl refl
        (ap (λ z. settled_by flash (m.place + 1) (branch mega16 m (not z) m.place 124)) (ap (λ (c : AvrState). c.zero) h.core ∙ e)
        ∙ ap (λ p. WentTo (at_place m ((p + 1 + 124 + 8064) % 8192) 2) 2) here
        ∙ ap (λ p. WentTo (at_place m p 2) 2) (back begin inside))

    -- and else it goes on behind it
    ends : (m : AvrState) (w : View) → Sees m w → w.core.place ≡ begin + 1 + 1 + 1 → w.core.zero ≡ true → Steps flash m (at_place m (begin + 1 + 1 + 1 + 1)
        1) 1
    ends m w h at e =
        let here : m.place ≡ begin + 1 + 1 + 1 = ap (λ (c : AvrState). c.place) h.core ∙ at in
        one_step flash m _ (insn.Brbc 1 124) 1 (let on = inside in omega (arith, here, on)) (ap (insn_at mega16 flash) here ∙ code.2.2.2.1) refl refl
        (ap (λ z. settled_by flash (m.place + 1) (branch mega16 m (not z) m.place 124)) (ap (λ (c : AvrState). c.zero) h.core ∙ e)
        ∙ ap (λ p. WentTo (at_place m (p + 1) 1) 1) here)

    one_more : (w : View) (i : ℕ) → i < 960 → Has board lay w (record s { store = plain (with_cell (cleared i s.store) (96 + i) 0) }) →
        (cleared i s.store).target ≡ Mega16 → Has board lay w (With (suc i))
    one_more w i low has target =
        subst (λ o. Has board lay w (record s { store = plain (cell_cleared o (cleared i s.store)) }))
        (sym (listed (cleared i s.store).target i target low)) has

    -- behind a turn one cell more is 0
    has_more : (i place cycles : ℕ) (v : View) → i < 960 → Turns i v → Has board lay (restored (moved (tested_high (tested (stored v i))) place cycles))
        (With (suc i))
    has_more i place cycles v low t =
        let one : View = record (restored v) { cells = changed (restored v).cells (96 + i) (v.work 1) } in
        let has = one_more one i low (elsewhere board lay one _ s.place
        (has_cell board lay (restored v) one (With i) (alike (restored v) one refl refl refl (λ port. refl) refl refl refl refl) t.has (96 + i) (v.work 1) 0
        (in_sram i low) refl t.zero (lit< tt))) t.has.holds.target in
        let w = restored (moved (tested_high (tested (stored v i))) place cycles) in
        has_kept board lay one w (With (suc i)) (alike one w refl refl refl (λ port. refl) refl refl refl refl) has None s.place
        (λ b. same_cells v.cells (96 + i) (v.work 1) ((96 + suc i) % 256) ((96 + suc i) / 256) (v.work 18) (v.work 19) b (omega arith)) tt

    -- six cycles for each byte, and one less for the last
    pub turns : (left i : ℕ) (m : AvrState) (v : View) → suc i + left ≡ n → Sees m v → Turns i v →
        Leads (steps_over (avr_step mega16) flash) Done m (6 * left + 5) []
    turns zero i m v e h t =
        let low : i < 960 = omega (arith, e, few) in
        turn Done 1 i m v low h t (λ m' seen.
        let w = tested_high (tested (stored v i)) in
        let zero_on = at_end i v true low t.end (eq-eqb (96 + suc i) (96 + n) (omega (arith, e))) in
        let there : w.core.place ≡ begin + 1 + 1 + 1 = ap (λ p. p + 1 + 1 + 1) t.at in
        let to = moved w (begin + 1 + 1 + 1 + 1) 1 in
        let last : suc i ≡ n = omega (arith, e) in
        then_step flash Done m' _ 1 0 (ends m' w seen there zero_on) (here (
          to,
          sees_moved m' w (begin + 1 + 1 + 1 + 1) 1 seen,
          record { at = refl; zero = t.zero; has = subst (λ k. Has board lay (restored to) (With k)) last (has_more i (begin + 1 + 1 + 1 + 1) 1 v low t) },
        )))
    turns (suc left) i m v e h t =
        let low : i < 960 = omega (arith, e, few) in
        let total : 2 + (2 + (2 + (6 * left + 5))) ≡ 6 * suc left + 5 = omega arith in
        subst (λ c. Leads (steps_over (avr_step mega16) flash) Done m c []) total (turn Done (2 + (6 * left + 5)) i m v low h t (λ m' seen.
        let w = tested_high (tested (stored v i)) in
        let zero_off = at_end i v false low t.end (ne_eqb (96 + suc i) (96 + n) (λ q. omega (arith, q, e))) in
        let there : w.core.place ≡ begin + 1 + 1 + 1 = ap (λ p. p + 1 + 1 + 1) t.at in
        let on = moved w begin 2 in
        then_step flash Done m' _ 2 (6 * left + 5) (again m' w seen there zero_off)
        (turns left (suc i) _ on (omega (arith, e)) (sees_moved m' w begin 2 seen)
        (record { at = refl; zero = t.zero; end = t.end; low = refl; high = refl; has = has_more i begin 2 v low t }))))
