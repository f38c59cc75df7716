-- Timers.
use Rattle.std.proofs.Common.{◌≡◌, ℕ, Bool, true, false, cond, List, refl, ◌∙◌, pos, arith}
use Rattle.std.specs.Prelude.{ℤ, int_lt}
use Rattle.std.specs.Str.{bytes_eq}
use Rattle.ladder_tree.specs.declared.element.TimerHow.TheVariants.{Ton, Tof, Rto}
use Rattle.ladder_tree.specs.declared.element.TimerHow.{TimerHow}
use Rattle.ladder_meaning.specs.Device.{Went}
use Rattle.ladder_meaning.specs.Element.{timer}
use Rattle.ladder_meaning.specs.Numbers.{timed, next}
use Rattle.ladder_meaning.specs.State.{Now, with_number}
use Rattle.ladder_meaning.specs.declared.reading.Reading.{Reading}
use Rattle.int_code.specs.Meaning.{Moment, all_run, run}
use Rattle.int_code.specs.Store.{Store}
use Rattle.ladder_lower.specs.ElementCode.{timer_code}
use Rattle.ladder_lower.specs.Wires.{variable_of, power}
use Rattle.ladder_lower.specs.declared.layout.Layout.{Layout}
use Rattle.ladder_lower.proofs.AfterLemmas.{after}
use Rattle.ladder_lower.proofs.Lowers.{After}
use Rattle.ladder_lower.proofs.PlaceLemmas.{bytes_tells}
use Rattle.ladder_lower.proofs.Stands.{Stands, held}
use Rattle.ladder_lower.proofs.WroteLemmas.{Wrote, nothing_wrote, power_wrote, number_wrote}

-- a variable that gets the number that it has
kept_number : (number : List ℕ → ℤ) (name n : List ℕ) → number n ≡ cond (bytes_eq name n) (number name) (number n)
kept_number number name n = grind (arith, bytes_tells)

number_kept : {p : Layout} {t l : Store} {w : Went} (name : List ℕ) → Wrote p t l w
    → Wrote p t l (record { now = with_number w.now name (w.now.kept.number name); output = w.output })
number_kept {w = w} name f = record {
  shows = record {
    relays = f.shows.relays;
    outputs = f.shows.outputs;
    memories = f.shows.memories;
    numbers = λ n h. f.shows.numbers n h ∙ kept_number w.now.kept.number name n;
    loaded = f.shows.loaded;
    devices = f.shows.devices;
    master = f.shows.master;
    plain = f.shows.plain;
  };
  power = f.power;
  wires = f.wires;
}

module _ (p : Layout) (r : Reading) (d : ℕ) (m : Moment) (s : Now) (name : List ℕ) (limit : ℤ) where
  -- by whether there is power and whether the number is below the limit
  timer_by : (how : TimerHow) (x below : Bool) → m.store.bit (power p) ≡ x → int_lt (s.kept.number name) limit ≡ below
      → m.store.number (variable_of p name) ≡ s.kept.number name → held p.variables name ≡ true → all_run m.ifs ≡ true → Stands p s m.store
      → After p d m (run r (timer_code p how (variable_of p name) limit) m) (timer name s (timed how limit (s.kept.number name) x))
  timer_by Ton true true v e n h on sh =
      rw (on, v, n, e) (after d m _ (power_wrote false (number_wrote name (next (s.kept.number name)) h (nothing_wrote s m.store true v sh))))
  timer_by Ton true false v e n h on sh = rw (on, v, n, e) (after d m _ (number_kept name (nothing_wrote s m.store true v sh)))
  timer_by Ton false below v e n h on sh = rw (on, v) (after d m _ (number_wrote name (pos 0) h (nothing_wrote s m.store false v sh)))
  timer_by Tof true below v e n h on sh = rw (on, v) (after d m _ (number_wrote name (pos 0) h (nothing_wrote s m.store true v sh)))
  timer_by Tof false true v e n h on sh =
      rw (on, v, n, e) (after d m _ (power_wrote true (number_wrote name (next (s.kept.number name)) h (nothing_wrote s m.store false v sh))))
  timer_by Tof false false v e n h on sh = rw (on, v, n, e) (after d m _ (number_kept name (nothing_wrote s m.store false v sh)))
  timer_by Rto true true v e n h on sh =
      rw (on, n, e, v, n) (after d m _ (power_wrote false (number_wrote name (next (s.kept.number name)) h (nothing_wrote s m.store true v sh))))
  timer_by Rto false true v e n h on sh = rw (on, n, e, v) (after d m _ (number_kept name (nothing_wrote s m.store false v sh)))
  timer_by Rto true false v e n h on sh = rw (on, n, e) (after d m _ (power_wrote true (number_kept name (nothing_wrote s m.store true v sh))))
  timer_by Rto false false v e n h on sh = rw (on, n, e) (after d m _ (power_wrote true (number_kept name (nothing_wrote s m.store false v sh))))

  pub timer_done : (how : TimerHow) → held p.variables name ≡ true → all_run m.ifs ≡ true → Stands p s m.store
      → After p d m (run r (timer_code p how (variable_of p name) limit) m) (timer name s (timed how limit (s.kept.number name) (m.store.bit (power p))))
  timer_done how h on sh = timer_by how (m.store.bit (power p)) (int_lt (s.kept.number name) limit) refl refl (sh.numbers name h) h on sh
