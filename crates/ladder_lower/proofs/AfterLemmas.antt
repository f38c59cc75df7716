-- What runs of operations leave: one after another, and those of an if.
use Rattle.std.proofs.Common.{◌≡◌, ℕ, ◌+◌, ◌&&◌, not, Bool, true, false, cond, List, [], ◌∷◌, ◌++◌, refl, ◌∙◌}
use Rattle.std.proofs.Math.Bool.{and-false, and-true}
use Rattle.ladder_meaning.specs.Device.{Went}
use Rattle.ladder_meaning.specs.State.{Now}
use Rattle.ladder_meaning.specs.declared.reading.Reading.{Reading}
use Rattle.int_code.specs.Meaning.{Moment, all_run, holds, store_after, run, step}
use Rattle.int_code.specs.Shapes.{shape_of}
use Rattle.int_code.specs.Store.{Store}
use Rattle.int_code.specs.WellFormed.{nests}
use Rattle.int_code.specs.declared.op.IntOp.TheVariants.{Fi}
use Rattle.int_code.specs.declared.op.IntOp.{IntOp}
use Rattle.int_code.specs.declared.op.Shape.TheVariants.{Opens, Plain}
use Rattle.ladder_lower.specs.ElementCode.{where_power, cut_where, cut_unless}
use Rattle.ladder_lower.specs.Wires.{power}
use Rattle.ladder_lower.specs.declared.layout.Layout.{Layout}
use Rattle.int_code.proofs.AsleepLemmas.{asleep}
use Rattle.ladder_lower.proofs.Lowers.{After}
use Rattle.ladder_lower.proofs.Stands.{Stands}
use Rattle.ladder_lower.proofs.WroteLemmas.{Wrote, nothing_wrote, power_wrote}

pub run-append : (r : Reading) (a b : List IntOp) (m : Moment) → run r (a ++ b) m ≡ run r b (run r a m)
run-append r [] b m = refl
run-append r (op ∷ a) b m = run-append r a b (step r op m)

pub after_both : (p : Layout) (d : ℕ) (m l n : Moment) (w v : Went) → After p d m l w → After p d l n v → After p d m n v
after_both p d m l n w v f g = record {
  ifs = g.ifs ∙ f.ifs;
  shows = g.shows;
  power = g.power;
  wires = λ j lo hi. g.wires j lo hi ∙ f.wires j lo hi;
}

pub after : {p : Layout} (d : ℕ) (m : Moment) {l : Store} {w : Went} (c : ℕ) → Wrote p m.store l w
    → After p d m (record { ifs = m.ifs; store = l; count = c }) w
after d m c f = record { ifs = refl; shows = f.shows; power = f.power; wires = λ j lo hi. f.wires j lo }

-- one operation that is no part of an if
pub one_after : (p : Layout) (r : Reading) (op : IntOp) (d : ℕ) (m : Moment) (w : Went) → shape_of op ≡ Plain → all_run m.ifs ≡ true
    → Wrote p m.store (store_after r op m.store) w → After p d m (run r (op ∷ []) m) w
one_after p r op d m w plain on f = rw (plain, on) (after d m _ f)

-- some operations, and then others
pub then_after : (p : Layout) (r : Reading) (a b : List IntOp) (d : ℕ) (m : Moment) (w v : Went) → After p d m (run r a m) w
    → After p d (run r a m) (run r b (run r a m)) v → After p d m (run r (a ++ b) m) v
then_after p r a b d m w v f g = rw (run-append r a b m) (after_both p d m (run r a m) (run r b (run r a m)) w v f g)

-- an operation that is executed where there is power
pub where_by : (p : Layout) (r : Reading) (op : IntOp) (d : ℕ) (m : Moment) (s : Now) (w : Went) (b : Bool) → shape_of op ≡ Plain → m.store.bit (power p) ≡ b
    → all_run m.ifs ≡ true → Stands p s m.store → (b ≡ true → Wrote p m.store (store_after r op m.store) w)
    → After p d m (run r (where_power p op) m) (cond b w (record { now = s; output = false }))
where_by p r op d m s w true plain v on sh f = rw (plain, on, v) (after d m _ (f refl))
where_by p r op d m s w false plain v on sh f = rw (plain, on, v) (after d m _ (nothing_wrote s m.store false v sh))

-- the power stays
pub where_done : (p : Layout) (r : Reading) (op : IntOp) (d : ℕ) (m : Moment) (s l : Now) (b : Bool) → shape_of op ≡ Plain → m.store.bit (power p) ≡ b
    → all_run m.ifs ≡ true → Stands p s m.store → (b ≡ true → Wrote p m.store (store_after r op m.store) (record { now = l; output = true }))
    → After p d m (run r (where_power p op) m) (record { now = cond b l s; output = b })
where_done p r op d m s l true plain v on sh f = where_by p r op d m s (record { now = l; output = true }) true plain v on sh f
where_done p r op d m s l false plain v on sh f = where_by p r op d m s (record { now = l; output = true }) false plain v on sh f

-- an operation that opens an if, whose first branch runs or not
pub record Opening (r : Reading) (test : IntOp) (t : Store) (b : Bool) : Type 0 where
  pub opens : shape_of test ≡ Opens
  pub writes_none : store_after r test t ≡ t
  pub runs : holds r test t ≡ b

opened : (r : Reading) (test : IntOp) (m : Moment) (b : Bool) → Opening r test m.store b → all_run m.ifs ≡ true
    → step r test m ≡ record { ifs = b ∷ m.ifs; store = m.store; count = m.count + 1 }
opened r test m b is on = rw (is.opens, on, is.writes_none, is.runs) refl

-- the first moment inside an if whose branch runs
abbrev pub inside : Moment → Moment
inside m = record { ifs = true ∷ m.ifs; store = m.store; count = m.count + 1 }

closed : (p : Layout) (r : Reading) (d c : ℕ) (m l : Moment) (w : Went) → all_run m.ifs ≡ true
    → After p d (record { ifs = true ∷ m.ifs; store = m.store; count = c }) l w → After p d m (run r (Fi ∷ []) l) w
closed p r d c m l w on f = rw (f.ifs, on) (record { ifs = refl; shows = f.shows; power = f.power; wires = f.wires })

-- an if without an els
pub block_by : (p : Layout) (r : Reading) (test : IntOp) (ops : List IntOp) (d : ℕ) (m : Moment) (s : Now) (w : Went) (b : Bool) → Opening r test m.store b
    → nests ops [] ≡ true → all_run m.ifs ≡ true → Stands p s m.store → (b ≡ true → After p d (inside m) (run r ops (inside m)) w)
    → After p d m (run r (test ∷ (ops ++ Fi ∷ [])) m) (cond b w (record { now = s; output = m.store.bit (power p) }))
block_by p r test ops d m s w true is nest on sh f =
    rw (run-append r ops (Fi ∷ []) (step r test m), opened r test m true is on) (closed p r d (m.count + 1) m (run r ops (inside m)) w on (f refl))
block_by p r test ops d m s w false is nest on sh f =
    let passed : Moment = record { ifs = false ∷ m.ifs; store = m.store; count = m.count + 1 } in
    let off : all_run passed.ifs ≡ false = and-false (all_run m.ifs) in
    rw (run-append r ops (Fi ∷ []) (step r test m), opened r test m false is on, asleep r ops passed nest off, on)
    (after d m _ (nothing_wrote s m.store _ refl sh))

-- a test that switches the power off where its if runs, or where it does not
pub cut_by : (p : Layout) (r : Reading) (test : IntOp) (d : ℕ) (m : Moment) (s : Now) (b : Bool) → Opening r test m.store b → all_run m.ifs ≡ true
    → Stands p s m.store → After p d m (run r (cut_where p test) m) (record { now = s; output = m.store.bit (power p) && not b })
cut_by p r test d m s true is on sh =
    rw (is.opens, on, is.writes_none, is.runs, and-false) (after d m _ (power_wrote false (nothing_wrote s m.store _ refl sh)))
cut_by p r test d m s false is on sh = rw (is.opens, on, is.writes_none, is.runs, and-true) (after d m _ (nothing_wrote s m.store _ refl sh))

pub unless_by : (p : Layout) (r : Reading) (test : IntOp) (d : ℕ) (m : Moment) (s : Now) (b : Bool) → Opening r test m.store b → all_run m.ifs ≡ true
    → Stands p s m.store → After p d m (run r (cut_unless p test) m) (record { now = s; output = m.store.bit (power p) && b })
unless_by p r test d m s true is on sh = rw (is.opens, on, is.writes_none, is.runs, and-true) (after d m _ (nothing_wrote s m.store _ refl sh))
unless_by p r test d m s false is on sh =
    rw (is.opens, on, is.writes_none, is.runs, and-false) (after d m _ (power_wrote false (nothing_wrote s m.store _ refl sh)))
