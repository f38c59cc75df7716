-- The paths through the code of a primitive, as a tree that computes: a fork for each test, and a view of the machine at each end.
use Rattle.std.proofs.Common.{◌≡◌, ◌⊎◌, inl, inr, Option, ℕ, zero, suc, ◌+◌, ◌-◌, ◌%◌, ◌<◌, ◌≤◌, Bool, true, false, List, [], ◌∷◌, Some, refl, sym, ap, ◌∙◌, subst, arith}
use Rattle.std.proofs.lemmas.Bool.{lt-ltb, leb-true}
use Rattle.std.specs.Prelude.{if◌then◌else◌, nat_le}
use Rattle.chip_tables.specs.Outside.{no_reading}
use Rattle.chip_tables.specs.declared.outside.Poll.TheVariants.{NoPoll}
use Rattle.runs.specs.Chip.{steps_over}
use Rattle.runs.specs.Run.{Went, Stepper, ask_of}
use Rattle.runs.specs.declared.ask.Ask.TheVariants as ask
use Rattle.avr_devices.specs.Part.{mega16}
use Rattle.avr_mach.specs.declared.insn.AvrInsn.{AvrInsn}
use Rattle.avr_mach.specs.declared.state.AvrState.{AvrState}
use Rattle.avr_mach.specs.Control.{branch, skip_if, near}
use Rattle.avr_mach.specs.Exec.{exec}
use Rattle.avr_mach.specs.Step.{at_place, insn_at, avr_step, width_of}
use Rattle.avr_mach.specs.Words.{size_of}
use Rattle.target_core.specs.Law.{Leads, here, on, LeadsFrom}
use Rattle.avr_code.specs.Code.{Piece, insn_of}
use Rattle.avr_code.proofs.Effects.{IsNear, is_near, Kind, Straight, SkipIf, Branch, Forward, Jumps, Other, kind_of, PieceFits, Does, piece_does}
use Rattle.avr_code.proofs.Steps.{Steps, env_of, settled_by, step_is, ask_is}
use Rattle.avr_code.proofs.View.{View, Sees, moved, sees_moved}
use Rattle.avr_code.proofs.Walk.{HasCode, sizes}

-- `Near` is the fork of a branch to a place in front of it, which has to be in flash where the branch is taken, and `Ahead` a jump to such a place
pub data Paths : Type 0 where
  At : (v : View) (cycles : ℕ) → Paths
  Fork : (test : Bool) (yes no : Paths) → Paths
  Near : (test : Bool) (place : ℕ) (yes no : Paths) → Paths
  Ahead : (place : ℕ) (next : Paths) → Paths
  Lost : Paths

abbrev pub bump : ℕ → Paths → Paths
bump c (At v d) = At v (c + d)
bump c (Fork t a b) = Fork t (bump c a) (bump c b)
bump c (Near t p a b) = Near t p (bump c a) (bump c b)
bump c (Ahead p a) = Ahead p (bump c a)
bump c Lost = Lost

abbrev pub head_size : List Piece → ℕ
head_size [] = 1
head_size (p ∷ ps) = size_of (insn_of p)

-- the paths behind so many words that are passed over
abbrev pub paths : List Piece → ℕ → View → Paths
paths [] zero v = At v 0
paths [] (suc n) v = Lost
paths (p ∷ ps) (suc n) v = if nat_le (size_of (insn_of p)) (suc n) then paths ps (suc n - size_of (insn_of p)) v else Lost
paths (p ∷ ps) zero v =
    elim (kind_of p) [
      | Straight effect cycles ↦ bump cycles (paths ps 0 (moved (effect v) (v.core.place + size_of (insn_of p)) cycles))
      | SkipIf test ↦ Fork (test v)
          (bump (1 + head_size ps) (paths ps (head_size ps) (moved v (v.core.place + size_of (insn_of p) + head_size ps) (1 + head_size ps))))
          (bump 1 (paths ps 0 (moved v (v.core.place + size_of (insn_of p)) 1)))
      | Branch test k ↦ Near (test v) (v.core.place + 1 + k) (bump 2 (paths ps k (moved v (v.core.place + 1 + k) 2)))
          (bump 1 (paths ps 0 (moved v (v.core.place + size_of (insn_of p)) 1)))
      | Forward k ↦ Ahead (v.core.place + 1 + k) (bump 2 (paths ps k (moved v (v.core.place + 1 + k) 2)))
      | Jumps place cycles ↦ At (moved v place cycles) (cycles + 0)
      | Other ↦ Lost
    ]

abbrev pub AllGood : (cycles : ℕ) → (View → Type 0) → Paths → Type 0
AllGood cycles E (At v cost) = (cost ≤ cycles) × E v
AllGood cycles E (Fork t a b) = (t ≡ true → AllGood cycles E a) × (t ≡ false → AllGood cycles E b)
AllGood cycles E (Near t p a b) = (t ≡ true → (p < 8192) × AllGood cycles E a) × (t ≡ false → AllGood cycles E b)
AllGood cycles E (Ahead p a) = (p < 8192) × AllGood cycles E a
AllGood cycles E Lost = ⊥

abbrev pub AllPiecesFit : List Piece → Type 0
AllPiecesFit [] = Unit {0}
AllPiecesFit (p ∷ ps) = PieceFits p × AllPiecesFit ps

module _ (flash : List ℕ) (T : AvrState → Type 0) where
  abbrev Steps' : Stepper AvrState
  Steps' = steps_over (avr_step mega16) flash

  abbrev Onward : View → ℕ → Type 0
  Onward v left = (m' : AvrState) → Sees m' v → Leads Steps' T m' left []

  -- the machine takes one of the paths
  abbrev Follows : AvrState → Paths → Type 0
  Follows m (At v c) = (left : ℕ) → Onward v left → Leads Steps' T m (c + left) []
  Follows m (Fork t a b) = (t ≡ true → Follows m a) × (t ≡ false → Follows m b)
  Follows m (Near t p a b) = (t ≡ true → p < 8192 → Follows m a) × (t ≡ false → Follows m b)
  Follows m (Ahead p a) = p < 8192 → Follows m a
  Follows m Lost = Unit {0}

  -- the same, and it takes a step
  abbrev pub Firsts : AvrState → Paths → Type 0
  Firsts m (At v c) = (left : ℕ) → Onward v left → (ask_of Steps' m ≡ ask.Nothing) × LeadsFrom Steps' T (Steps' m false no_reading) (c + left) []
  Firsts m (Fork t a b) = (t ≡ true → Firsts m a) × (t ≡ false → Firsts m b)
  Firsts m (Near t p a b) = (t ≡ true → p < 8192 → Firsts m a) × (t ≡ false → Firsts m b)
  Firsts m (Ahead p a) = p < 8192 → Firsts m a
  Firsts m Lost = Unit {0}

  add_first : (m next : AvrState) (c : ℕ) (w : Paths) → Steps flash m next c → Follows next w → Firsts m (bump c w)
  add_first m next c (At v d) s f = λ left h. (
    s.asks,
    record {
      went = record { next = next; cycles = c; poll = NoPoll; sent = [] };
      is = s.is;
      left = d + left;
      bound = omega arith;
      rest = [];
      said = refl;
      further = f left h;
    },
  )
  add_first m next c (Fork t a b) s f = (λ e. add_first m next c a s (f.0 e), λ e. add_first m next c b s (f.1 e))
  add_first m next c (Near t p a b) s f = (λ e low. add_first m next c a s (f.0 e low), λ e. add_first m next c b s (f.1 e))
  add_first m next c (Ahead p a) s f = λ low. add_first m next c a s (f low)
  add_first m next c Lost s f = tt

  pub to_leads : (m : AvrState) (budget : ℕ) → (ask_of Steps' m ≡ ask.Nothing) × LeadsFrom Steps' T (Steps' m false no_reading) budget [] →
      Leads Steps' T m budget []
  to_leads m budget g =
      subst (λ l. Leads Steps' T m budget l) (sym g.1.said) (on g.1.went g.1.left g.0 g.1.is g.1.bound g.1.further)

  as_follows : (m : AvrState) (w : Paths) → Firsts m w → Follows m w
  as_follows m (At v c) f = λ left h. to_leads m (c + left) (f left h)
  as_follows m (Fork t a b) f = (λ e. as_follows m a (f.0 e), λ e. as_follows m b (f.1 e))
  as_follows m (Near t p a b) f = (λ e low. as_follows m a (f.0 e low), λ e. as_follows m b (f.1 e))
  as_follows m (Ahead p a) f = λ low. as_follows m a (f low)
  as_follows m Lost f = tt

  -- from every machine at so many words behind a place
  abbrev Passing : ℕ → List Piece → Type 0
  Passing begin ps = (k : ℕ) (m : AvrState) (v : View) → Sees m v → v.core.place ≡ begin + k → Follows m (paths ps k v)

  same_place : (m : AvrState) (v : View) → Sees m v → m.place ≡ v.core.place
  same_place m v h = ap (λ (c : AvrState). c.place) h.core

  -- where the machine stands at an instruction, its step
  quiet_step : (i : AvrInsn) (m next : AvrState) (c : ℕ) → m.place < 8192 → insn_at mega16 flash m.place ≡ Some i → (v : View) (kind : Kind) →
      Does i kind (env_of false no_reading) m v →
      settled_by flash (m.place + size_of i) (exec mega16 (env_of false no_reading) i m.place m) ≡ Some (record {
        next = next;
        cycles = c;
        poll = NoPoll;
        sent = [];
      }) →
      Steps flash m next c
  quiet_step i m next c low stands v kind d e = record {
    asks = ask_is flash m i low stands d.free ∙ d.asks;
    is = step_is flash m i false no_reading low stands d.free ∙ e;
  }

  abbrev WentTo : AvrState → ℕ → Option (Went AvrState)
  WentTo next c = Some (record { next = next; cycles = c; poll = NoPoll; sent = [] })

  after_skip : (i : AvrInsn) (begin : ℕ) (ps : List Piece) (m : AvrState) (v : View) → Sees m v → m.place ≡ begin → v.core.place ≡ begin →
      HasCode flash (begin + size_of i) ps → Passing (begin + size_of i) ps → (d : Does i (SkipIf (λ v. true)) (env_of false no_reading) m v) →
      m.place < 8192 → insn_at mega16 flash m.place ≡ Some i →
      Firsts m (bump (1 + head_size ps) (paths ps (head_size ps) (moved v (v.core.place + size_of i + head_size ps) (1 + head_size ps))))
  after_skip i begin [] m v h at vat code rest d low stands = tt
  after_skip i begin (p ∷ ps) m v h at vat code rest d low stands =
      let c = 1 + size_of (insn_of p) in
      let e : settled_by flash (m.place + size_of i) (exec mega16 (env_of false no_reading) i m.place m)
      ≡ WentTo (at_place m (v.core.place + size_of i + size_of (insn_of p)) c) c =
      ap (settled_by flash (m.place + size_of i)) d.acts
      ∙ ap (λ n. WentTo (at_place m (m.place + size_of i + n) (1 + n)) (1 + n)) (ap (λ n. width_of (insn_at mega16 flash (n + size_of i))) at ∙ ap width_of
      code.1)
      ∙ ap (λ n. WentTo (at_place m (n + size_of i + size_of (insn_of p)) c) c) (at ∙ sym vat) in
      add_first m _ c _ (quiet_step i m _ c low stands v _ d e)
      (rest (size_of (insn_of p)) _ _ (sees_moved m v (v.core.place + size_of i + size_of (insn_of p)) c h) (ap (λ n. n + size_of i + size_of (insn_of p))
      vat))

  on_kind : (i : AvrInsn) (begin : ℕ) (ps : List Piece) (m : AvrState) (v : View) (kind : Kind) → Sees m v → m.place ≡ begin → v.core.place ≡ begin →
      HasCode flash (begin + size_of i) ps → Passing (begin + size_of i) ps → Does i kind (env_of false no_reading) m v → IsNear i kind → m.place < 8192 →
      insn_at mega16 flash m.place ≡ Some i → Firsts m (elim kind [
        | Straight effect cycles ↦ bump cycles (paths ps 0 (moved (effect v) (v.core.place + size_of i) cycles))
        | SkipIf test ↦ Fork (test v)
            (bump (1 + head_size ps) (paths ps (head_size ps) (moved v (v.core.place + size_of i + head_size ps) (1 + head_size ps))))
            (bump 1 (paths ps 0 (moved v (v.core.place + size_of i) 1)))
        | Branch test k ↦ Near (test v) (v.core.place + 1 + k) (bump 2 (paths ps k (moved v (v.core.place + 1 + k) 2)))
            (bump 1 (paths ps 0 (moved v (v.core.place + size_of i) 1)))
        | Forward k ↦ Ahead (v.core.place + 1 + k) (bump 2 (paths ps k (moved v (v.core.place + 1 + k) 2)))
        | Jumps place cycles ↦ At (moved v place cycles) (cycles + 0)
        | Other ↦ Lost
      ])
  on_kind i begin ps m v (Straight effect cycles) h at vat code rest d near low stands =
      let e = ap (settled_by flash (m.place + size_of i)) d.acts.1
      ∙ ap (λ n. WentTo (at_place d.acts.0 (n + size_of i) cycles) cycles) (at ∙ sym vat) in
      add_first m _ cycles _ (quiet_step i m _ cycles low stands v _ d e)
      (rest 0 _ _ (sees_moved d.acts.0 (effect v) (v.core.place + size_of i) cycles d.acts.2) (omega (arith, vat)))
  on_kind i begin ps m v (SkipIf test) h at vat code rest d near low stands = (
    λ yes. after_skip i begin ps m v h at vat code rest (record { free = d.free; asks = d.asks; acts = d.acts ∙ ap (skip_if m) yes }) low stands,
    λ not'.
        let e = ap (settled_by flash (m.place + size_of i)) (d.acts ∙ ap (skip_if m) not')
        ∙ ap (λ n. WentTo (at_place m (n + size_of i) 1) 1) (at ∙ sym vat) in
        add_first m _ 1 _ (quiet_step i m _ 1 low stands v _ d e)
        (rest 0 _ _ (sees_moved m v (v.core.place + size_of i) 1 h) (omega (arith, vat))),
  )
  on_kind i begin ps m v (Branch test k) h at vat code rest d near low stands = (
    λ yes inside.
        let target : (m.place + 1 + k) % 8192 ≡ v.core.place + 1 + k = omega (arith, at, vat, inside) in
        let e = ap (settled_by flash (m.place + size_of i)) (d.acts ∙ ap (λ b. branch mega16 m b m.place k) yes)
        ∙ ap (λ b. WentTo (at_place m (if b then (m.place + 1 + k) % 8192 else (m.place + 1 + k + 8064) % 8192) 2) 2) (lt-ltb k 64 near.1)
        ∙ ap (λ n. WentTo (at_place m n 2) 2) target in
        add_first m _ 2 _ (quiet_step i m _ 2 low stands v _ d e)
        (rest k _ _ (sees_moved m v (v.core.place + 1 + k) 2 h) (let one : size_of i ≡ 1 = near.0 in omega (arith, vat, one))),
    λ not'.
        let e = ap (settled_by flash (m.place + size_of i)) (d.acts ∙ ap (λ b. branch mega16 m b m.place k) not')
        ∙ ap (λ n. WentTo (at_place m (n + size_of i) 1) 1) (at ∙ sym vat) in
        add_first m _ 1 _ (quiet_step i m _ 1 low stands v _ d e)
        (rest 0 _ _ (sees_moved m v (v.core.place + size_of i) 1 h) (omega (arith, vat))),
  )
  on_kind i begin ps m v (Forward k) h at vat code rest d near low stands =
      λ inside.
      let target : (m.place + 1 + k) % 8192 ≡ v.core.place + 1 + k = omega (arith, at, vat, inside) in
      let e = ap (settled_by flash (m.place + size_of i)) d.acts
      ∙ ap (λ b. WentTo (at_place m (if b then (m.place + 1 + k) % 8192 else (m.place + 1 + k + 8064) % 8192) 2) 2) (lt-ltb k 64 near.1)
      ∙ ap (λ n. WentTo (at_place m n 2) 2) target in
      add_first m _ 2 _ (quiet_step i m _ 2 low stands v _ d e)
      (rest k _ _ (sees_moved m v (v.core.place + 1 + k) 2 h) (let one : size_of i ≡ 1 = near.0 in omega (arith, vat, one)))
  on_kind i begin ps m v (Jumps place cycles) h at vat code rest d near low stands =
      let e = ap (settled_by flash (m.place + size_of i)) d.acts in
      add_first m (at_place m place cycles) cycles (At (moved v place cycles) 0) (quiet_step i m (at_place m place cycles) cycles low stands v _ d e)
      (λ left further. let same : left ≡ 0 + left = omega arith in
      subst (λ n. Leads Steps' T (at_place m place cycles) n []) same (further (at_place m place cycles) (sees_moved m v place cycles h)))
  on_kind i begin ps m v Other h at vat code rest d near low stands = tt

  sized : (p : Piece) → 1 ≤ size_of (insn_of p)
  sized p = by (insn_of p) (sizes (insn_of p))
    where
      by : (i : AvrInsn) → (size_of i ≡ 1) ⊎ (size_of i ≡ 2) → 1 ≤ size_of i
      by i (inl e) = omega (arith, e)
      by i (inr e) = omega (arith, e)

  -- the first of them, and what is behind it
  pub firsts : (p : Piece) (ps : List Piece) (begin : ℕ) → AllPiecesFit (p ∷ ps) → HasCode flash begin (p ∷ ps) → Passing (begin + size_of (insn_of p)) ps →
      (m : AvrState) (v : View) → Sees m v → v.core.place ≡ begin → Firsts m (paths (p ∷ ps) 0 v)
  firsts p ps begin fit code rest m v h vat =
      let at : m.place ≡ begin = same_place m v h ∙ vat in
      let inside : m.place + size_of (insn_of p) ≤ 8192 = subst (λ n. n + size_of (insn_of p) ≤ 8192) (sym at) code.0 in
      let low : m.place < 8192 = (let one = sized p in omega (arith, inside, one)) in
      on_kind (insn_of p) begin ps m v (kind_of p) h at vat code.2 rest (piece_does (env_of false no_reading) m v h p fit.0 inside) (is_near p fit.0) low
      (ap (insn_at mega16 flash) at ∙ code.1)

  pub passing : (ps : List Piece) (begin : ℕ) → AllPiecesFit ps → HasCode flash begin ps → Passing begin ps
  passing [] begin fit code zero m v h at = λ left further. let same : left ≡ 0 + left = omega arith in subst (λ n. Leads Steps' T m n []) same (further m h)
  passing [] begin fit code (suc k) m v h at = tt
  passing (p ∷ ps) begin fit code zero m v h at =
      as_follows m (paths (p ∷ ps) 0 v)
      (firsts p ps begin fit code (passing ps (begin + size_of (insn_of p)) fit.1 code.2) m v h (at ∙ add_zero begin))
    where
      add_zero : (n : ℕ) → n + 0 ≡ n
      add_zero n = omega arith
  passing (p ∷ ps) begin fit code (suc k) m v h at =
      by (passing ps (begin + size_of (insn_of p)) fit.1 code.2) (nat_le (size_of (insn_of p)) (suc k)) refl
    where
      by : Passing (begin + size_of (insn_of p)) ps → (b : Bool) → nat_le (size_of (insn_of p)) (suc k) ≡ b →
          Follows m (if b then paths ps (suc k - size_of (insn_of p)) v else Lost)
      by rest true e = let le = leb-true (size_of (insn_of p)) (suc k) e in rest (suc k - size_of (insn_of p)) m v h (omega (arith, at, le))
      by rest false e = tt

  one_good : (m : AvrState) (cycles : ℕ) (E : View → Type 0) (w : Paths) → ((m' : AvrState) (v : View) → Sees m' v → E v → T m') → Firsts m w →
      AllGood cycles E w → (ask_of Steps' m ≡ ask.Nothing) × LeadsFrom Steps' T (Steps' m false no_reading) cycles []
  one_good m cycles E (At v c) end f good =
      let went = f (cycles - c) (λ m' seen. here (end m' v seen good.1)) in
      let total : c + (cycles - c) ≡ cycles = (let le = good.0 in omega (arith, le)) in
      (went.0, subst (λ n. LeadsFrom Steps' T (Steps' m false no_reading) n []) total went.1)
  one_good m cycles E (Fork true a b) end f good = one_good m cycles E a end (f.0 refl) (good.0 refl)
  one_good m cycles E (Fork false a b) end f good = one_good m cycles E b end (f.1 refl) (good.1 refl)
  one_good m cycles E (Near true p a b) end f good = let g = good.0 refl in one_good m cycles E a end (f.0 refl g.0) g.1
  one_good m cycles E (Near false p a b) end f good = one_good m cycles E b end (f.1 refl) (good.1 refl)
  one_good m cycles E (Ahead p a) end f good = one_good m cycles E a end (f good.0) good.1
  one_good m cycles E Lost end f good = absurd good

  -- where all paths are good, the machine comes to an end of T
  pub good_paths : (p : Piece) (ps : List Piece) (m : AvrState) (v : View) (cycles : ℕ) (E : View → Type 0) → AllPiecesFit (p ∷ ps) →
      HasCode flash v.core.place (p ∷ ps) → Sees m v → ((m' : AvrState) (v : View) → Sees m' v → E v → T m') → AllGood cycles E (paths (p ∷ ps) 0 v) →
      (ask_of Steps' m ≡ ask.Nothing) × LeadsFrom Steps' T (Steps' m false no_reading) cycles []
  good_paths p ps m v cycles E fit code h end good =
      one_good m cycles E (paths (p ∷ ps) 0 v) end
      (firsts p ps v.core.place fit code (passing ps (v.core.place + size_of (insn_of p)) fit.1 code.2) m v h refl) good
