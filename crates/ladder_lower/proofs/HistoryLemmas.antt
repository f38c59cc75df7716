-- From nodes to whole histories.
use Rattle.std.proofs.Common.{◌≡◌, ℕ, ◌+◌, ◌≤◌, Bool, true, false, List, [], ◌∷◌, length, map, refl, sym, ap, ◌∙◌, arith}
use Rattle.ladder_tree.specs.Leaves.{leaves_in, all_leaves}
use Rattle.ladder_tree.specs.Names.{names_of}
use Rattle.ladder_tree.specs.declared.names.Names.{Names}
use Rattle.ladder_tree.specs.declared.project.Project.{Project}
use Rattle.ladder_tree.specs.declared.project.Rung.{Rung}
use Rattle.ladder_meaning.specs.Cycle.{terms, rungs, begin, cycle, history}
use Rattle.ladder_meaning.specs.Node.{nodes}
use Rattle.ladder_meaning.specs.State.{State, Seen, Now, place_of, seen}
use Rattle.ladder_meaning.specs.declared.reading.Reading.{Reading}
use Rattle.int_code.specs.Meaning as int
use Rattle.int_code.specs.Meaning.{Moment, all_run, run, step}
use Rattle.int_code.specs.Store.{Devices, Store, opened}
use Rattle.ladder_lower.specs.Correct.{Shows, ShowsEnd, ShowsAll, KeepsHistory}
use Rattle.ladder_lower.specs.NodeCode.{rung_start_by, rung_start, rungs_code, start_by, program_code, nodes_piece, memories_of}
use Rattle.ladder_lower.specs.Wires.{layout_of, power, master}
use Rattle.ladder_lower.specs.declared.layout.Layout.{Layout}
use Rattle.ladder_lower.proofs.AfterLemmas.{run-append}
use Rattle.ladder_lower.proofs.Lowers.{levels, terms_of}
use Rattle.ladder_lower.proofs.LeafLemmas.{named_front, named_back}
use Rattle.ladder_lower.proofs.NodeLemmas.{nodes_lower}
use Rattle.ladder_lower.proofs.PlaceLemmas.{place_below, get_place, held_get}
use Rattle.ladder_lower.proofs.Stands.{Stands, AllNamed, Listed}
use Rattle.ladder_lower.proofs.WriteLemmas.{wire_write, master_write, same}

record RungsAfter (p : Layout) (m l : Moment) (s : Now) : Type 0 where
  ifs : l.ifs ≡ m.ifs
  shows : Stands p s l.store

module _ (p : Layout) (r : Reading) (v : Seen) where
  record RungBegins (m l : Moment) (s : Now) : Type 0 where
    ifs : l.ifs ≡ m.ifs
    shows : Stands p s l.store
    power : l.store.bit (power p) ≡ s.master

  rung_begins_by : (b : Bool) (m : Moment) (s : Now) → p.has_master ≡ b → all_run m.ifs ≡ true → Stands p s m.store
      → RungBegins m (step r (rung_start_by b p) m) s
  rung_begins_by true m s has on sh = rw on (record {
    ifs = refl;
    shows = wire_write p s m.store 0 _ (λ h e. cc) sh;
    power = same (power p) _ _ ∙ sh.master has;
  })
  rung_begins_by false m s has on sh = rw on (record {
    ifs = refl;
    shows = wire_write p s m.store 0 true (λ h e. cc) sh;
    power = same (power p) true _ ∙ sym (sh.plain has);
  })

  rung_begins : (m : Moment) (s : Now) → all_run m.ifs ≡ true → Stands p s m.store → RungBegins m (step r (rung_start p) m) s
  rung_begins m s = rung_begins_by p.has_master m s refl

  rungs_lower : (gs : List Rung) (k : ℕ) (m : Moment) (s : Now) → AllNamed p (all_leaves gs) → k + memories_of p gs ≤ p.memories → all_run m.ifs ≡ true
      → Stands p s m.store → RungsAfter p m (run r (rungs_code p gs k) m) (rungs (terms_of p) (levels p v r) gs k s)
  rungs_lower [] k m s all lt on sh = record { ifs = refl; shows = sh }
  rungs_lower (g ∷ gs) k m s all lt on sh =
      let f = nodes_lower p r v g.nodes (named_front p (leaves_in g.nodes) (all_leaves gs) all) in
      let mem = f.memories in
      let m1 = step r (rung_start p) m in
      let b = rung_begins m s on sh in
      let on1 : all_run m1.ifs ≡ true = ap all_run b.ifs ∙ on in
      let m2 = run r ((nodes_piece p g.nodes).code 0 k) m1 in
      let a = f.awake 0 k m1 s (omega arith) on1 b.shows in
      let on2 : all_run m2.ifs ≡ true = ap all_run a.ifs ∙ on1 in
      let c = rungs_lower gs (k + (nodes (terms_of p) (levels p v r) g.nodes).memories) m2 _ (named_back p (leaves_in g.nodes) (all_leaves gs) all)
      (omega arith) on2 a.shows in
      rw (run-append r ((nodes_piece p g.nodes).code 0 k) (rungs_code p gs (k + (nodes_piece p g.nodes).memories)) m1, mem)
      (record {
        ifs = c.ifs ∙ a.ifs ∙ b.ifs;
        shows = rw b.power at c.shows;
      })

module _ (n : Names) (cycle : ℕ) (has : Bool) (r : Reading) where
  abbrev p : Layout
  p = layout_of n cycle has

  -- a cycle begins with the state that the store shows, whatever is on the master relay's wire
  opened_stands : (s : State) (t : Store) (x : Bool) → Shows n s t → (has ≡ true → t.bit (master p) ≡ x) → (has ≡ false → x ≡ true)
      → Stands p (record (begin s (seen n r)) { master = x }) (opened r t)
  opened_stands s t x sh on off = record {
    relays = λ m y h. sh.relays (place_of p.relays m) (place_below p.relays m h) ∙ ap s.bit (get_place p.relays m h);
    outputs = λ m y h. sh.outputs (place_of p.outputs m) (place_below p.outputs m h) ∙ ap s.bit (get_place p.outputs m h);
    memories = sh.memories;
    numbers = λ m h. sh.variables (place_of p.variables m) (place_below p.variables m h) ∙ ap s.number (get_place p.variables m h);
    loaded = λ m h. sh.loaded (place_of p.persistent m) (place_below p.persistent m h) ∙ ap s.loaded (get_place p.persistent m h);
    devices = rw (sh.eeprom, sh.pending, sh.duty) refl;
    master = on;
    plain = off;
  }

  record Begins (m : Moment) (s : State) : Type 0 where
    ifs : m.ifs ≡ []
    shows : Stands p (begin s (seen n r)) m.store

  begins_by : (b : Bool) (s : State) (t : Store) → has ≡ b → Shows n s t → Begins (run r (start_by b p) (int.begin r t)) s
  begins_by true s t e sh =
      let x = t.bit (master p) in
      record {
        ifs = refl;
        shows = master_write p (record (begin s (seen n r)) { master = x }) (opened r t) true e
            (opened_stands s t x sh (λ h. refl) (λ h. absurd (cc)));
      }
  begins_by false s t e sh = record { ifs = refl; shows = opened_stands s t true sh (λ h. absurd (cc)) (λ h. refl) }

  ends : (s : Now) (t : Store) → Listed n → Stands p s t → Shows n s.kept t
  ends s t is sh = record {
    outputs = λ k lt. ap t.output (sym (is.outputs.place k lt)) ∙ sh.outputs _ (is.outputs.kind k lt) (held_get p.outputs k lt);
    relays = λ k lt. ap t.bit (sym (is.relays.place k lt)) ∙ sh.relays _ (is.relays.kind k lt) (held_get p.relays k lt);
    variables = λ k lt. ap t.number (sym (is.variables k lt)) ∙ sh.numbers _ (held_get p.variables k lt);
    memories = sh.memories;
    loaded = λ k lt. ap (λ j. t.bit (length n.relays + (n.memories + j))) (sym (is.persistent k lt)) ∙ sh.loaded _ (held_get p.persistent k lt);
    eeprom = ap (λ (d : Devices). d.eeprom) sh.devices;
    pending = ap (λ (d : Devices). d.pending) sh.devices;
    duty = ap (λ (d : Devices). d.duty) sh.devices;
  }

cycle_lowers : (n : Names) (has : Bool) (r : Reading) (q : Project) (s : State) (t : Store) → n ≡ names_of q.rungs → Listed n
    → AllNamed (layout_of n q.cycle has) (all_leaves q.rungs) → memories_of (layout_of n q.cycle has) q.rungs ≤ n.memories → Shows n s t
    → ShowsEnd n (cycle q s (seen n r)) (int.cycle r (program_code (layout_of n q.cycle has) q.rungs) t)
cycle_lowers n has r q s t names is all lt sh =
    let p = layout_of n q.cycle has in
    let b = begins_by n q.cycle has r has s t refl sh in
    let m = run r (start_by has p) (int.begin r t) in
    let same_terms : terms q ≡ terms_of p = ap (λ (x : Names). record { cycle = q.cycle; persistent = x.persistent }) (sym names) in
    let e = rungs_lower p r (seen n r) q.rungs 0 m (begin s (seen n r)) all (omega arith) (ap all_run b.ifs) b.shows in
    rw (run-append r (start_by has p) (rungs_code p q.rungs 0) (int.begin r t), same_terms)
    (record { shows = ends n q.cycle has r _ _ is e.shows; sent = ap (λ (d : Devices). d.sent) e.shows.devices })

pub keeps_history : (n : Names) (has : Bool) (q : Project) → n ≡ names_of q.rungs → Listed n → AllNamed (layout_of n q.cycle has) (all_leaves q.rungs)
    → memories_of (layout_of n q.cycle has) q.rungs ≤ n.memories → KeepsHistory n q (program_code (layout_of n q.cycle has) q.rungs)
keeps_history n has q names is all lt = record { each = each }
  where
    each : (s : State) (t : Store) (rs : List Reading) → Shows n s t
        → ShowsAll n (history q s (map (seen n) rs)) (int.history (program_code (layout_of n q.cycle has) q.rungs) t rs)
    each s t [] sh = tt
    each s t (r ∷ rs) sh =
        let now = cycle_lowers n has r q s t names is all lt sh in
        (now, each (cycle q s (seen n r)).state (int.cycle r (program_code (layout_of n q.cycle has) q.rungs) t).store rs now.shows)
