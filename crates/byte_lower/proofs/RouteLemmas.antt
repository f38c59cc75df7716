-- Stretches of code that goes forward, but for calls of routines: their ways, the labels in front of them, and how often their places are begun.
use Rattle.std.proofs.Common.{◌≡◌, ◌≢◌, ℕ, zero, suc, ◌+◌, ◌≤◌, ◌<◌, Bool, true, false, cond, List, [], ◌∷◌, ◌++◌, drop, Option, Some, None, refl, sym, ap, subst, ◌∙◌, arith}
use Rattle.std.specs.Prelude.{slice_get, if◌then◌else◌, ◌==◌}
use Rattle.std.proofs.lemmas.Bool.Decides.{nat_tests}
use Rattle.chip_tables.specs.Outside.{no_reading}
use Rattle.runs.specs.declared.ask.Ask.TheVariants as ask
use Rattle.byte_code.specs.declared.prim.BytePrim.TheVariants.{Call}
use Rattle.byte_code.specs.declared.prim.Paced.{Paced}
use Rattle.byte_code.specs.declared.prim.Shape.{Shape}
use Rattle.byte_code.specs.declared.prim.Shape.TheVariants.{AtStart, AtPoll, AtDevice, Names, Jumps, Branches, Calls, Returns, Straight}
use Rattle.byte_code.specs.declared.state.Bytes.{Bytes}
use Rattle.byte_code.specs.Table.{shape_of}
use Rattle.byte_code.specs.Machine.{act, asked_by, is_name, label_place}
use Rattle.byte_code.specs.Counts.{Fits}
use Rattle.byte_code.proofs.Times.{times, times-cons}
use Rattle.byte_code.proofs.Ways.{Way, there, acts, way_on}
use Rattle.byte_routines.proofs.CostLemmas.{product_costs, quotient_costs, cost_at, Called}
use Rattle.chip_tables.specs.declared.scratch.Scratch.{Scratch}
use Rattle.byte_lower.specs.Lists.{paced}

-- places, each above the one before, from the first to the last
abbrev pub Rises : ℕ → List ℕ → ℕ → Type 0
Rises first [] last = first ≡ last
Rises first (place ∷ places) last = (first < place) × Rises place places last

other_place : (i k n : ℕ) → i < k → cond (k == i) 1 0 + n ≡ n
other_place i k n h = let e : (k == i) ≡ false = grind (arith, nat_tests, h) in ap (λ b. cond b 1 0 + n) e ∙ omega arith

-- what comes before the first is not begun
pub none_before : (first last i : ℕ) (places : List ℕ) → Rises first places last → i ≤ first → times i places ≡ 0
none_before first last i [] h before = refl
none_before first last i (place ∷ places) h before =
    times-cons i place places ∙ other_place i place (times i places) (omega (arith, h.0, before)) ∙ none_before place last i places h.1
    (omega (arith, h.0, before))

most_one : (b : Bool) (n : ℕ) → n ≡ 0 → cond b 1 0 + n ≤ 1
most_one true n e = omega (arith, e)
most_one false n e = omega (arith, e)

none_one : (b : Bool) (n : ℕ) → b ≡ false → n ≤ 1 → cond b 1 0 + n ≤ 1
none_one b n e h = subst (λ c. cond c 1 0 + n ≤ 1) (sym e) (omega (arith, h))

same_place : (i k : ℕ) (b : Bool) → (k == i) ≡ b → b ≡ true → i ≤ k
same_place i k b e f = let g : (k == i) ≡ true = e ∙ f in grind (arith, nat_tests, g)

-- and each is begun once at most
pub once : (first last i : ℕ) (places : List ℕ) → Rises first places last → times i (first ∷ places) ≤ 1
once first last i [] h = subst (λ n. n ≤ 1) (sym (times-cons i first [])) (most_one (first == i) 0 refl)
once first last i (place ∷ places) h =
    subst (λ n. n ≤ 1) (sym (times-cons i first (place ∷ places))) (by (first == i) refl (once place last i places h.1))
  where
    by : (b : Bool) → (first == i) ≡ b → times i (place ∷ places) ≤ 1 → cond (first == i) 1 0 + times i (place ∷ places) ≤ 1
    by true e k = most_one (first == i) (times i (place ∷ places)) (none_before first last i (place ∷ places) h (same_place i first (first == i) refl e))
    by false e k = none_one (first == i) (times i (place ∷ places)) e k

rises_to : (f l : ℕ) (xs : List ℕ) → Rises f xs l → f ≤ l
rises_to f l [] k = omega (arith, k)
rises_to f l (x ∷ xs) k = omega (arith, k.0, rises_to x l xs k.1)

-- counts of places add up
pub times_on : (i : ℕ) (xs ys : List ℕ) → times i (xs ++ ys) ≡ times i xs + times i ys
times_on i [] ys = omega arith
times_on i (x ∷ xs) ys = omega (arith, times-cons i x (xs ++ ys), times-cons i x xs, times_on i xs ys)

-- what comes behind the last is not begun
pub none_behind : (first last i : ℕ) (places : List ℕ) → Rises first places last → last < i → times i (first ∷ places) ≡ 0
none_behind first last i [] h behind =
    let e : (first == i) ≡ false = grind (arith, nat_tests, h, behind) in times-cons i first [] ∙ ap (λ b. cond b 1 0 + 0) e
none_behind first last i (place ∷ places) h behind =
    let below = rises_to place last places h.1 in
    let e : (first == i) ≡ false = grind (arith, nat_tests, h.0, behind, below) in
    times-cons i first (place ∷ places) ∙ ap (λ b. cond b 1 0 + times i (place ∷ places)) e ∙ ap (λ n. 0 + n) (none_behind place last i places h.1 behind)

-- where a stretch ends that begins at a place
abbrev pub along : ℕ → List Paced → ℕ
along at [] = at
along at (p ∷ ps) = along (suc at) ps

pub along_on : (at : ℕ) (ps qs : List Paced) → along at (ps ++ qs) ≡ along (along at ps) qs
along_on at [] qs = refl
along_on at (p ∷ ps) qs = along_on (suc at) ps qs

-- no label is among them
abbrev pub HasNoNames : List Paced → Type 0
HasNoNames [] = Unit {0}
HasNoNames (p ∷ ps) = ((l : ℕ) → is_name (shape_of p.prim) l ≡ false) × HasNoNames ps

-- of the labels only one may be among them
abbrev pub NamesBut : ℕ → List Paced → Type 0
NamesBut m [] = Unit {0}
NamesBut m (p ∷ ps) = ((l : ℕ) → l ≢ m → is_name (shape_of p.prim) l ≡ false) × NamesBut m ps

took : (n : ℕ) (code : List Paced) (p : Paced) (rest : List Paced) → drop n code ≡ p ∷ rest → (drop (suc n) code ≡ rest) × (slice_get code n ≡ Some p)
took zero [] p rest e = absurd (cc)
took zero (x ∷ xs) p rest e = (cc, let f : x ≡ p = cc in ap Some f)
took (suc n) [] p rest e = absurd (cc)
took (suc n) (x ∷ xs) p rest e = took n xs p rest e

-- how often a call of a label begins the places of its routine at most
abbrev pub costs_of : ℕ → List ℕ
costs_of l = if l == 1 then product_costs else if l == 3 then quotient_costs else []

module _ (code : List Paced) where
  -- the label's first place is not in front of this one
  abbrev pub Ahead : ℕ → ℕ → Type 0
  Ahead at l = label_place code l ≡ at + label_place (drop at code) l

  pub here : (at : ℕ) (p : Paced) (rest : List Paced) → drop at code ≡ p ∷ rest → slice_get code at ≡ Some p
  here at p rest e = (took at code p rest e).1

  pub behind : (at : ℕ) (p : Paced) (rest : List Paced) → drop at code ≡ p ∷ rest → drop (suc at) code ≡ rest
  behind at p rest e = (took at code p rest e).0

  pub pass : (at l : ℕ) (p : Paced) (rest : List Paced) → drop at code ≡ p ∷ rest → is_name (shape_of p.prim) l ≡ false → Ahead at l → Ahead (suc at) l
  pass at l p rest e other h =
      let place : label_place (drop at code) l ≡ suc (label_place rest l) = ap (λ ps. label_place ps l) e ∙ ap (λ b. if b then 0 else suc (label_place rest l))
      other in
      let next : label_place (drop (suc at) code) l ≡ label_place rest l = ap (λ ps. label_place ps l) (behind at p rest e) in
      omega (arith, h, place, next)

  pub found : (at l : ℕ) (p : Paced) (rest : List Paced) → drop at code ≡ p ∷ rest → is_name (shape_of p.prim) l ≡ true → Ahead at l → label_place code l ≡ at
  found at l p rest e is h =
      let place : label_place (drop at code) l ≡ 0 = ap (λ ps. label_place ps l) e ∙ ap (λ b. if b then 0 else suc (label_place rest l)) is in
      omega (arith, h, place)

  pub beyond : (at : ℕ) (ps rest : List Paced) → drop at code ≡ ps ++ rest → drop (along at ps) code ≡ rest
  beyond at [] rest e = e
  beyond at (p ∷ ps) rest e = beyond (suc at) ps rest (behind at p (ps ++ rest) e)

  pub pass_all : (at l : ℕ) (ps rest : List Paced) → drop at code ≡ ps ++ rest → HasNoNames ps → Ahead at l → Ahead (along at ps) l
  pass_all at l [] rest e none h = h
  pass_all at l (p ∷ ps) rest e none h = pass_all (suc at) l ps rest (behind at p (ps ++ rest) e) none.1 (pass at l p (ps ++ rest) e (none.0 l) h)

  pub pass_but : (at l m : ℕ) (ps rest : List Paced) → drop at code ≡ ps ++ rest → NamesBut m ps → l ≢ m → Ahead at l → Ahead (along at ps) l
  pass_but at l m [] rest e but ne h = h
  pass_but at l m (p ∷ ps) rest e but ne h =
      pass_but (suc at) l m ps rest (behind at p (ps ++ rest) e) but.1 ne (pass at l p (ps ++ rest) e (but.0 l ne) h)

  -- how often a primitive makes a place begun: a call does it with its routine's
  abbrev pub owed_by : Shape → ℕ → ℕ
  owed_by (Calls l) i = cost_at (costs_of l) (label_place code l) i
  owed_by AtStart i = 0
  owed_by AtPoll i = 0
  owed_by AtDevice i = 0
  owed_by (Names l) i = 0
  owed_by (Jumps l) i = 0
  owed_by (Branches l) i = 0
  owed_by Returns i = 0
  owed_by Straight i = 0

  abbrev pub owed : List Paced → ℕ → ℕ
  owed [] i = 0
  owed (p ∷ ps) i = owed_by (shape_of p.prim) i + owed ps i

  abbrev pub paid : Option Paced → ℕ → ℕ
  paid None i = 0
  paid (Some p) i = owed_by (shape_of p.prim) i

  -- by the primitives at places
  abbrev pub spent : ℕ → ℕ → List ℕ → ℕ
  spent i first [] = 0
  spent i first (place ∷ places) = paid (slice_get code first) i + spent i place places

  spent_by : (i at first place : ℕ) (own : List ℕ) (p : Paced) (ps rest : List Paced) (b : Bool) → (at == first) ≡ b → drop at code ≡ p ∷ (ps ++ rest) → at ≤ first →
      (at ≡ first → spent i place own ≤ owed ps i) → (at < first → spent i first (place ∷ own) ≤ owed ps i) →
      spent i first (place ∷ own) ≤ owed_by (shape_of p.prim) i + owed ps i
  spent_by i at first place own p ps rest true e d le same far =
      let f : at ≡ first = grind (arith, nat_tests, e) in
      let g : slice_get code first ≡ Some p = ap (slice_get code) (sym f) ∙ here at p (ps ++ rest) d in
      let h : paid (slice_get code first) i ≡ owed_by (shape_of p.prim) i = ap (λ x. paid x i) g in
      omega (arith, h, same f)
  spent_by i at first place own p ps rest false e d le same far =
      let lt : at < first = grind (arith, nat_tests, e, le) in
      omega (arith, far lt)

  -- what is spent on places that rise is owed by the stretch in which they are
  pub spent_most : (i at : ℕ) (ps rest : List Paced) (first last : ℕ) (own : List ℕ) → drop at code ≡ ps ++ rest → at ≤ first → last ≤ along at ps →
      Rises first own last → spent i first own ≤ owed ps i
  spent_most i at ps rest first last [] e le up r = omega arith
  spent_most i at [] rest first last (place ∷ own) e le up r = absurd (omega (arith, le, up, r.0, rises_to place last own r.1))
  spent_most i at (p ∷ ps) rest first last (place ∷ own) e le up r =
      spent_by i at first place own p ps rest (at == first) refl e le
      (λ h. spent_most i (suc at) ps rest place last own (behind at p (ps ++ rest) e) (omega (arith, h, r.0)) up r.1)
      (λ h. spent_most i (suc at) ps rest first last (place ∷ own) (behind at p (ps ++ rest) e) (omega (arith, h)) up r)

  module _ (Goal : Bytes → Type 0) (last : ℕ) where
    -- It comes to the goal, at the last place, and sends nothing. Its own places rise, and what is begun besides is owed by the calls at them.
    pub record Reaches (s : Bytes) : Type 0 where
      pub begun : List ℕ
      pub way : Way code Goal s begun []
      pub own : List ℕ
      pub rises : Rises s.place own last
      pub counts : (i : ℕ) → times i begun ≤ times i own + spent i s.place own

    pub arrive : (s : Bytes) → Goal s → s.place ≡ last → Reaches s
    arrive s g e = record { begun = []; way = there g; own = []; rises = e; counts = λ i. omega arith }

    -- by a call whose routine comes back behind it
    pub by_call : (s : Bytes) (l : ℕ) (x : Scratch) (to n : ℕ) → slice_get code s.place ≡ Some (paced (Call l)) → s.open_call ≡ None →
        (c : Called code x (costs_of l) (label_place code l) (suc s.place) to n (act code (Call l) s false no_reading).next) → Reaches c.end → Reaches s
    by_call s l x to n at_call closed c more =
        let back = suc s.place in
        let entered = (act code (Call l) s false no_reading).next in
        record {
          begun = label_place code l ∷ ((c.begun ++ back ∷ []) ++ more.begun);
          way = acts (paced (Call l)) at_call refl (closed, tt) (way_on code (λ y. y ≡ c.end) Goal entered (c.begun ++ back ∷ []) [] more.begun [] c.way
              (λ y e. subst (λ z. Way code Goal z more.begun []) (sym e) more.way));
          own = back ∷ more.own;
          rises = (omega arith, subst (λ p. Rises p more.own last) c.place more.rises);
          counts = λ i.
              let owes : paid (slice_get code s.place) i ≡ cost_at (costs_of l) (label_place code l) i = ap (λ y. paid y i) at_call in
              let same : spent i c.end.place more.own ≡ spent i back more.own = ap (λ p. spent i p more.own) c.place in
              omega (
                arith,
                owes,
                same,
                c.counts i,
                more.counts i,
                times-cons i (label_place code l) ((c.begun ++ back ∷ []) ++ more.begun),
                times-cons i (label_place code l) c.begun,
                times_on i (c.begun ++ back ∷ []) more.begun,
                times_on i c.begun (back ∷ []),
                times-cons i back [],
                times-cons i back more.own,
              );
        }

    pub go : (s : Bytes) (p : Paced) → slice_get code s.place ≡ Some p → asked_by p.prim ≡ ask.Nothing → Fits p.prim s →
        (act code p.prim s false no_reading).sent ≡ [] →
        s.place < (act code p.prim s false no_reading).next.place → Reaches (act code p.prim s false no_reading).next → Reaches s
    go s p h plain fits quiet up n =
        record {
          begun = (act code p.prim s false no_reading).next.place ∷ n.begun;
          way = subst (λ o. Way code Goal s ((act code p.prim s false no_reading).next.place ∷ n.begun) (o ++ [])) quiet (acts p h plain fits n.way);
          own = (act code p.prim s false no_reading).next.place ∷ n.own;
          rises = (up, n.rises);
          counts = λ i. omega (
            arith,
            n.counts i,
            times-cons i (act code p.prim s false no_reading).next.place n.begun,
            times-cons i (act code p.prim s false no_reading).next.place n.own,
          );
        }
