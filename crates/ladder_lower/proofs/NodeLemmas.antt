-- The operations of nodes.
use Rattle.std.proofs.Common.{◌≡◌, ◌≢◌, ℕ, ◌+◌, ◌<◌, ◌≤◌, ◌||◌, Bool, true, false, cond, List, [], ◌∷◌, ◌++◌, map, refl, sym, ap, ◌∙◌, arith}
use Rattle.std.proofs.Math.Bool.{or-false, or-true, or_assoc}
use Rattle.ladder_tree.specs.Induct.{Each, node_ind}
use Rattle.ladder_tree.specs.Leaves.{leaves, leaves_in}
use Rattle.ladder_tree.specs.declared.element.Leaf as leaf
use Rattle.ladder_tree.specs.declared.project.Node.TheOpen.{Node-F}
use Rattle.ladder_tree.specs.declared.project.Node.{Node}
use Rattle.ladder_meaning.specs.Device.{Went}
use Rattle.ladder_meaning.specs.Node.{Part, series, parallel, node_step, node, nodes}
use Rattle.ladder_meaning.specs.State.{Seen, Now}
use Rattle.ladder_meaning.specs.declared.reading.Reading.{Reading}
use Rattle.int_code.specs.Meaning.{Moment, all_run, run, step}
use Rattle.int_code.specs.declared.op.BitDest.TheVariants as dest
use Rattle.int_code.specs.declared.op.BitSource.TheVariants as source
use Rattle.int_code.specs.declared.op.IntOp.TheVariants.{Cpy}
use Rattle.int_code.specs.declared.op.IntOp.{IntOp}
use Rattle.ladder_lower.specs.NodeCode.{Piece, series_code, others_code, join, fork_code, parallel_code, piece_step, piece, nodes_piece}
use Rattle.ladder_lower.specs.Wires.{power, wire, masters, outer_wires, wires, in_wire, or_wire}
use Rattle.ladder_lower.specs.declared.layout.Layout.{Layout}
use Rattle.ladder_lower.proofs.AfterLemmas.{run-append, after_both}
use Rattle.ladder_lower.proofs.ElementLemmas.{element_asleep, element_awake}
use Rattle.ladder_tree.proofs.FoldLemmas.{fold-Leaf, fold-Series, fold-Parallel}
use Rattle.ladder_lower.proofs.LeafLemmas.{leaves-Leaf, leaves-Series, leaves-Parallel, named_front, named_back}
use Rattle.ladder_lower.proofs.Lowers.{After, Lowers, levels, terms_of}
use Rattle.ladder_lower.proofs.Stands.{Stands, AllNamed, IsNamed}
use Rattle.ladder_lower.proofs.WriteLemmas.{wire_write, same, other}

none_lowers : (p : Layout) (r : Reading) → Lowers p r (series []) (series_code [])
none_lowers p r = record {
  memories = refl;
  asleep = λ d k m e. refl;
  awake = λ d k m s lt e sh. record { ifs = refl; shows = sh; power = refl; wires = λ j lo hi. refl };
}

-- one part, and then another
abbrev then_part : Part → Part → Part
then_part a b = record {
  memories = a.memories + b.memories;
  run = λ k s x. b.run (k + a.memories) (a.run k s x).now (a.run k s x).output;
}

abbrev then_piece : Piece → Piece → Piece
then_piece a b = record { memories = a.memories + b.memories; code = λ d k. a.code d k ++ b.code d (k + a.memories) }

two_lower : (p : Layout) (r : Reading) (a b : Part) (c e : Piece) → Lowers p r a c → Lowers p r b e → Lowers p r (then_part a b) (then_piece c e)
two_lower p r a b c e f g = record {
  memories = let x = f.memories in let y = g.memories in omega arith;
  asleep =
      λ d k m off. run-append r (c.code d k) (e.code d (k + c.memories)) m ∙ ap (run r (e.code d (k + c.memories))) (f.asleep d k m off)
      ∙ g.asleep d (k + c.memories) m off;
  awake = λ d k m s lt yes sh.
      let first = f.awake d k m s (omega arith) yes sh in
      let l = run r (c.code d k) m in
      let awake : all_run l.ifs ≡ true = ap all_run first.ifs ∙ yes in
      let second = g.awake d (k + a.memories) l (a.run k s (m.store.bit (power p))).now (omega arith) awake first.shows in
      rw (run-append r (c.code d k) (e.code d (k + c.memories)) m, f.memories) (after_both p d m l _ _ _ first (rw first.power at second));
}

module _ (p : Layout) (r : Reading) (g : Seen) where
  abbrev NodeLowers : Node → Type 0
  NodeLowers n = Lowers p r (node (terms_of p) (levels p g r) n) (piece p n)

  pub series_lower : (ns : List Node) → Each NodeLowers ns → Lowers p r (series (map (node (terms_of p) (levels p g r)) ns)) (series_code (map (piece p) ns))
  series_lower [] h = none_lowers p r
  series_lower (n ∷ ns) h = two_lower p r _ _ _ _ h.0 (series_lower ns h.1)

-- A PARALLEL inside d others between its branches: x is its input, and acc the OR of the branches so far.
record Forked (p : Layout) (d : ℕ) (m l : Moment) (s : Now) (x acc : Bool) : Type 0 where
  ifs : l.ifs ≡ m.ifs
  shows : Stands p s l.store
  input : l.store.bit (in_wire p d) ≡ x
  so_far : l.store.bit (or_wire p d) ≡ acc
  wires : (j : ℕ) → outer_wires p ≤ j → j < wires p d → l.store.bit (wire p j) ≡ m.store.bit (wire p j)

-- the wires of PARALLELs are not the master relay's
inner_apart : (p : Layout) (j : ℕ) → outer_wires p ≤ j → p.has_master ≡ true → j ≢ 1
inner_apart p j le h = let one : masters p ≡ 1 = ap (λ b. cond b 1 0) h in λ e. omega arith

abbrev pub fork : Layout → ℕ → IntOp
fork p d = Cpy (dest.B (in_wire p d)) (source.B (power p))

abbrev pub keep : Layout → ℕ → IntOp
keep p d = Cpy (dest.B (or_wire p d)) (source.B (power p))

abbrev pub again : Layout → ℕ → IntOp
again p d = Cpy (dest.B (power p)) (source.B (in_wire p d))

fork_asleep : (p : Layout) (r : Reading) (d : ℕ) (m : Moment) → all_run m.ifs ≡ false → step r (fork p d) m ≡ m
fork_asleep p r d m e = rw e refl

keep_asleep : (p : Layout) (r : Reading) (d : ℕ) (m : Moment) → all_run m.ifs ≡ false → step r (keep p d) m ≡ m
keep_asleep p r d m e = rw e refl

again_asleep : (p : Layout) (r : Reading) (d : ℕ) (m : Moment) → all_run m.ifs ≡ false → step r (again p d) m ≡ m
again_asleep p r d m e = rw e refl

join_asleep : (b : Bool) (p : Layout) (r : Reading) (d : ℕ) (m : Moment) → all_run m.ifs ≡ false → run r (join b p d) m ≡ m
join_asleep true p r d m e = rw e refl
join_asleep false p r d m e = rw e refl

-- before a branch, which stands one deeper
record Begun (p : Layout) (d : ℕ) (m l : Moment) (s : Now) (x : Bool) : Type 0 where
  ifs : l.ifs ≡ m.ifs
  shows : Stands p s l.store
  power : l.store.bit (power p) ≡ x
  input : l.store.bit (in_wire p d) ≡ x
  so_far : l.store.bit (or_wire p d) ≡ m.store.bit (or_wire p d)
  wires : (j : ℕ) → outer_wires p ≤ j → j < wires p d → l.store.bit (wire p j) ≡ m.store.bit (wire p j)

forked : (p : Layout) (r : Reading) (d : ℕ) (m : Moment) (s : Now) → all_run m.ifs ≡ true → Stands p s m.store
    → Begun p d m (step r (fork p d) m) s (m.store.bit (power p))
forked p r d m s on sh =
    let x = m.store.bit (power p) in
    rw on (record {
      ifs = refl;
      shows = wire_write p s m.store (wires p d) x (inner_apart p (wires p d) (omega arith)) sh;
      power = other (in_wire p d) (power p) x _ (omega arith);
      input = same (in_wire p d) x _;
      so_far = other (in_wire p d) (or_wire p d) x _ (omega arith);
      wires = λ j lo hi. other (in_wire p d) (wire p j) x _ (omega arith);
    })

kept : (p : Layout) (r : Reading) (d : ℕ) (m : Moment) (s : Now) (x acc : Bool) → m.store.bit (in_wire p d) ≡ x → m.store.bit (power p) ≡ acc
    → all_run m.ifs ≡ true → Stands p s m.store → Forked p d m (step r (keep p d) m) s x acc
kept p r d m s x acc i v on sh = rw (on, v) (record {
  ifs = refl;
  shows = wire_write p s m.store (wires p d + 1) acc (inner_apart p (wires p d + 1) (omega arith)) sh;
  input = other (or_wire p d) (in_wire p d) acc _ (omega arith) ∙ i;
  so_far = same (or_wire p d) acc _;
  wires = λ j lo hi. other (or_wire p d) (wire p j) acc _ (omega arith);
})

begun : (p : Layout) (r : Reading) (d : ℕ) (m : Moment) (s : Now) (x : Bool) → m.store.bit (in_wire p d) ≡ x → all_run m.ifs ≡ true → Stands p s m.store
    → Begun p d m (step r (again p d) m) s x
begun p r d m s x i on sh = rw (on, i) (record {
  ifs = refl;
  shows = wire_write p s m.store 0 x (λ h e. cc) sh;
  power = same (power p) x _;
  input = other (power p) (in_wire p d) x _ (omega arith) ∙ i;
  so_far = other (power p) (or_wire p d) x _ (omega arith);
  wires = λ j lo hi. other (power p) (wire p j) x _ (omega arith);
})

-- behind a branch that is not the last
joined : (p : Layout) (r : Reading) (d : ℕ) (m : Moment) (s : Now) (x acc b : Bool) → m.store.bit (power p) ≡ b → m.store.bit (in_wire p d) ≡ x
    → m.store.bit (or_wire p d) ≡ acc → all_run m.ifs ≡ true → Stands p s m.store → Forked p d m (run r (join false p d) m) s x (acc || b)
joined p r d m s x acc true v i o on sh = rw (on, v) (record {
  ifs = refl;
  shows = wire_write p s m.store (wires p d + 1) true (inner_apart p (wires p d + 1) (omega arith)) sh;
  input = other (or_wire p d) (in_wire p d) true _ (omega arith) ∙ i;
  so_far = same (or_wire p d) true _ ∙ sym (or-true acc);
  wires = λ j lo hi. other (or_wire p d) (wire p j) true _ (omega arith);
})
joined p r d m s x acc false v i o on sh = rw (on, v) (record {
  ifs = refl;
  shows = sh;
  input = i;
  so_far = o ∙ sym (or-false acc);
  wires = λ j lo hi. refl;
})

-- behind the last branch
closed : (p : Layout) (r : Reading) (d : ℕ) (m : Moment) (s : Now) (acc b : Bool) → m.store.bit (or_wire p d) ≡ acc → m.store.bit (power p) ≡ b
    → all_run m.ifs ≡ true → Stands p s m.store → After p d m (run r (join true p d) m) (record { now = s; output = acc || b })
closed p r d m s true b o v on sh = rw (on, o) (record {
  ifs = refl;
  shows = wire_write p s m.store 0 true (λ h e. cc) sh;
  power = same (power p) true _;
  wires = λ j lo hi. other (power p) (wire p j) true _ (omega arith);
})
closed p r d m s false b o v on sh = rw (on, o) (record { ifs = refl; shows = sh; power = v; wires = λ j lo hi. refl })

-- the branches behind the first, where x is the input and acc the OR of those before them
abbrev OthersAfter : Layout → ℕ → Moment → Moment → Bool → Went → Type 0
OthersAfter p d m l acc w = After p d m l (record { now = w.now; output = acc || w.output })

record OthersLower (p : Layout) (r : Reading) (a : Part) (c : Piece) : Type 0 where
  memories : c.memories ≡ a.memories
  asleep : (d k : ℕ) (m : Moment) → all_run m.ifs ≡ false → run r (c.code d k) m ≡ m
  awake : (d k : ℕ) (m : Moment) (s : Now) (x acc : Bool) → k + a.memories ≤ p.memories → all_run m.ifs ≡ true → Stands p s m.store
      → m.store.bit (in_wire p d) ≡ x → m.store.bit (or_wire p d) ≡ acc → OthersAfter p d m (run r (c.code d k) m) acc (a.run k s x)

abbrev or_part : Part → Part → Part
or_part a b = record {
  memories = a.memories + b.memories;
  run = λ k s x. record {
    now = (b.run (k + a.memories) (a.run k s x).now x).now;
    output = (a.run k s x).output || (b.run (k + a.memories) (a.run k s x).now x).output;
  };
}

abbrev other_piece : Bool → Layout → Piece → Piece → Piece
other_piece last p a b = record {
  memories = a.memories + b.memories;
  code = λ d k. again p d ∷ (a.code (d + 1) k ++ (join last p d ++ b.code d (k + a.memories)));
}

other_run : (last : Bool) (p : Layout) (r : Reading) (a b : Piece) (d k : ℕ) (m : Moment)
    → run r ((other_piece last p a b).code d k) m ≡ run r (b.code d (k + a.memories)) (run r (join last p d) (run r (a.code (d + 1) k) (step r (again p d) m)))
other_run last p r a b d k m =
    run-append r (a.code (d + 1) k) (join last p d ++ b.code d (k + a.memories)) (step r (again p d) m)
    ∙ run-append r (join last p d) (b.code d (k + a.memories)) (run r (a.code (d + 1) k) (step r (again p d) m))

other_asleep : (last : Bool) (p : Layout) (r : Reading) (c e : Piece) → ((d k : ℕ) (m : Moment) → all_run m.ifs ≡ false → run r (c.code d k) m ≡ m)
    → ((d k : ℕ) (m : Moment) → all_run m.ifs ≡ false → run r (e.code d k) m ≡ m) → (d k : ℕ) (m : Moment) → all_run m.ifs ≡ false
    → run r ((other_piece last p c e).code d k) m ≡ m
other_asleep last p r c e f g d k m off =
    let rest = run r (e.code d (k + c.memories)) in
    other_run last p r c e d k m
    ∙ ap (λ l. rest (run r (join last p d) (run r (c.code (d + 1) k) l))) (again_asleep p r d m off)
    ∙ ap (λ l. rest (run r (join last p d) l)) (f (d + 1) k m off)
    ∙ ap rest (join_asleep last p r d m off)
    ∙ g d (k + c.memories) m off

-- the moment behind a branch, before it joins
record Branched (p : Layout) (d : ℕ) (m l : Moment) (x : Bool) (w : Went) : Type 0 where
  ifs : l.ifs ≡ m.ifs
  on : all_run l.ifs ≡ true
  shows : Stands p w.now l.store
  power : l.store.bit (power p) ≡ w.output
  input : l.store.bit (in_wire p d) ≡ x
  so_far : l.store.bit (or_wire p d) ≡ m.store.bit (or_wire p d)
  wires : (j : ℕ) → outer_wires p ≤ j → j < wires p d → l.store.bit (wire p j) ≡ m.store.bit (wire p j)

branched : (p : Layout) (r : Reading) (a : Part) (c : Piece) → Lowers p r a c → (d k : ℕ) (m l : Moment) (s : Now) (x : Bool) → k + a.memories ≤ p.memories
    → all_run m.ifs ≡ true → Begun p d m l s x → Branched p d m (run r (c.code (d + 1) k) l) x (a.run k s x)
branched p r a c f d k m l s x lt on st =
    let on1 : all_run l.ifs ≡ true = ap all_run st.ifs ∙ on in
    let br : After p (d + 1) l (run r (c.code (d + 1) k) l) (a.run k s x) = rw st.power at (f.awake (d + 1) k l s lt on1 st.shows) in
    record {
      ifs = br.ifs ∙ st.ifs;
      on = ap all_run br.ifs ∙ on1;
      shows = br.shows;
      power = br.power;
      input = br.wires (wires p d) (omega arith) (omega arith) ∙ st.input;
      so_far = br.wires (wires p d + 1) (omega arith) (omega arith) ∙ st.so_far;
      wires = λ j lo hi. br.wires j lo (omega arith) ∙ st.wires j lo hi;
    }

last_lowers : (p : Layout) (r : Reading) (a : Part) (c : Piece) → Lowers p r a c
    → OthersLower p r (or_part a (parallel [])) (other_piece true p c (others_code p []))
last_lowers p r a c f = record {
  memories = let x = f.memories in omega arith;
  asleep = other_asleep true p r c (others_code p []) f.asleep (λ d k m off. refl);
  awake = λ d k m s x acc lt on sh i o.
      let w = a.run k s x in
      let b = branched p r a c f d k m (step r (again p d) m) s x (omega arith) on (begun p r d m s x i on sh) in
      let l = run r (c.code (d + 1) k) (step r (again p d) m) in
      let e = closed p r d l w.now acc w.output (b.so_far ∙ o) b.power b.on b.shows in
      rw (other_run true p r c (others_code p []) d k m, or-false w.output) (record {
        ifs = e.ifs ∙ b.ifs;
        shows = e.shows;
        power = e.power;
        wires = λ j lo hi. e.wires j lo hi ∙ b.wires j lo hi;
      });
}

middle_lowers : (p : Layout) (r : Reading) (a b : Part) (c e : Piece) → Lowers p r a c → OthersLower p r b e
    → OthersLower p r (or_part a b) (other_piece false p c e)
middle_lowers p r a b c e f g = record {
  memories = let x = f.memories in let y = g.memories in omega arith;
  asleep = other_asleep false p r c e f.asleep g.asleep;
  awake = λ d k m s x acc lt on sh i o.
      let w = a.run k s x in
      let br = branched p r a c f d k m (step r (again p d) m) s x (omega arith) on (begun p r d m s x i on sh) in
      let l = run r (c.code (d + 1) k) (step r (again p d) m) in
      let en = joined p r d l w.now x acc w.output br.power br.input (br.so_far ∙ o) br.on br.shows in
      let n = run r (join false p d) l in
      let on3 : all_run n.ifs ≡ true = ap all_run en.ifs ∙ br.on in
      let re = g.awake d (k + a.memories) n w.now x (acc || w.output) (omega arith) on3 en.shows en.input en.so_far in
      rw (other_run false p r c e d k m, f.memories) (record {
        ifs = re.ifs ∙ en.ifs ∙ br.ifs;
        shows = re.shows;
        power = re.power ∙ or_assoc acc _ _;
        wires = λ j lo hi. re.wires j lo hi ∙ en.wires j lo hi ∙ br.wires j lo hi;
      });
}

fork_run : (p : Layout) (r : Reading) (a b : Piece) (d k : ℕ) (m : Moment)
    → run r ((fork_code p a b).code d k) m ≡ run r (b.code d (k + a.memories)) (step r (keep p d) (run r (a.code (d + 1) k) (step r (fork p d) m)))
fork_run p r a b d k m = run-append r (a.code (d + 1) k) (keep p d ∷ b.code d (k + a.memories)) (step r (fork p d) m)

fork_lowers : (p : Layout) (r : Reading) (a b : Part) (c e : Piece) → Lowers p r a c → OthersLower p r b e → Lowers p r (or_part a b) (fork_code p c e)
fork_lowers p r a b c e f g = record {
  memories = let x = f.memories in let y = g.memories in omega arith;
  asleep = λ d k m off.
      let rest = run r (e.code d (k + c.memories)) in
      fork_run p r c e d k m
      ∙ ap (λ l. rest (step r (keep p d) (run r (c.code (d + 1) k) l))) (fork_asleep p r d m off)
      ∙ ap (λ l. rest (step r (keep p d) l)) (f.asleep (d + 1) k m off)
      ∙ ap rest (keep_asleep p r d m off)
      ∙ g.asleep d (k + c.memories) m off;
  awake = λ d k m s lt on sh.
      let x = m.store.bit (power p) in
      let w = a.run k s x in
      let br = branched p r a c f d k m (step r (fork p d) m) s x (omega arith) on (forked p r d m s on sh) in
      let l = run r (c.code (d + 1) k) (step r (fork p d) m) in
      let ke = kept p r d l w.now x w.output br.input br.power br.on br.shows in
      let n = step r (keep p d) l in
      let on3 : all_run n.ifs ≡ true = ap all_run ke.ifs ∙ br.on in
      let re = g.awake d (k + a.memories) n w.now x w.output (omega arith) on3 ke.shows ke.input ke.so_far in
      rw (fork_run p r c e d k m, f.memories) (record {
        ifs = re.ifs ∙ ke.ifs ∙ br.ifs;
        shows = re.shows;
        power = re.power;
        wires = λ j lo hi. re.wires j lo hi ∙ ke.wires j lo hi ∙ br.wires j lo hi;
      });
}

-- no branch: the power is switched off
off_lowers : (p : Layout) (r : Reading) → Lowers p r (parallel []) (parallel_code p [])
off_lowers p r = record {
  memories = refl;
  asleep = λ d k m off. rw off refl;
  awake = λ d k m s lt on sh. rw on (record {
    ifs = refl;
    shows = wire_write p s m.store 0 false (λ h e. cc) sh;
    power = same (power p) false _;
    wires = λ j lo hi. other (power p) (wire p j) false _ (omega arith);
  });
}

-- one branch is as if it stood alone
only_lowers : (p : Layout) (r : Reading) (a : Part) (c : Piece) → Lowers p r a c → Lowers p r (or_part a (parallel [])) c
only_lowers p r a c f = record {
  memories = let x = f.memories in omega arith;
  asleep = f.asleep;
  awake = λ d k m s lt on sh. let e = f.awake d k m s (omega arith) on sh in record {
    ifs = e.ifs;
    shows = e.shows;
    power = e.power ∙ sym (or-false _);
    wires = e.wires;
  };
}

module _ (p : Layout) (r : Reading) (g : Seen) where
  others_lower : (n : Node) (ns : List Node) → NodeLowers p r g n → Each (NodeLowers p r g) ns
      → OthersLower p r (parallel (map (node (terms_of p) (levels p g r)) (n ∷ ns))) (others_code p (map (piece p) (n ∷ ns)))
  others_lower n [] f h = last_lowers p r _ _ f
  others_lower n (o ∷ ns) f h = middle_lowers p r _ _ _ _ f (others_lower o ns h.0 h.1)

  pub parallel_lower : (ns : List Node) → Each (NodeLowers p r g) ns
      → Lowers p r (parallel (map (node (terms_of p) (levels p g r)) ns)) (parallel_code p (map (piece p) ns))
  parallel_lower [] h = off_lowers p r
  parallel_lower (n ∷ []) h = only_lowers p r _ _ h.0
  parallel_lower (n ∷ o ∷ ns) h = fork_lowers p r _ _ _ _ h.0 (others_lower o ns h.1.0 h.1.1)

  leaf_lowers : (l : leaf.Leaf) → IsNamed p l.kind → Lowers p r (node_step (terms_of p) (levels p g r) (Node-F.Leaf l)) (piece_step p (Node-F.Leaf l))
  leaf_lowers l h = record {
    memories = refl;
    asleep = λ d k m off. element_asleep p r l.kind k m off;
    awake = λ d k m s lt on sh. element_awake p r g l.kind d k m s h lt on sh;
  }

  abbrev NamedLowers : Node → Type 0
  NamedLowers n = AllNamed p (leaves n) → NodeLowers p r g n

  each_lowers : (ns : List Node) → Each NamedLowers ns → AllNamed p (leaves_in ns) → Each (NodeLowers p r g) ns
  each_lowers [] h all = tt
  each_lowers (n ∷ ns) h all = (h.0 (named_front p (leaves n) (leaves_in ns) all), each_lowers ns h.1 (named_back p (leaves n) (leaves_in ns) all))

  -- whatever the tree
  pub node_lowers : (n : Node) → AllNamed p (leaves n) → NodeLowers p r g n
  node_lowers = node_ind NamedLowers
      (λ l all. rw (fold-Leaf Part (node_step (terms_of p) (levels p g r)) l, fold-Leaf Piece (piece_step p) l) (leaf_lowers l (rw (leaves-Leaf l) at all).0))
      (λ ns h all. rw (fold-Series Part (node_step (terms_of p) (levels p g r)) ns, fold-Series Piece (piece_step p) ns)
      (series_lower p r g ns (each_lowers ns h (rw (leaves-Series ns) at all))))
      (λ ns h all. rw (fold-Parallel Part (node_step (terms_of p) (levels p g r)) ns, fold-Parallel Piece (piece_step p) ns)
      (parallel_lower ns (each_lowers ns h (rw (leaves-Parallel ns) at all))))

  pub nodes_lower : (ns : List Node) → AllNamed p (leaves_in ns) → Lowers p r (nodes (terms_of p) (levels p g r) ns) (nodes_piece p ns)
  nodes_lower ns all = series_lower p r g ns (each_of ns all)
    where
      each_of : (ns : List Node) → AllNamed p (leaves_in ns) → Each (NodeLowers p r g) ns
      each_of [] all = tt
      each_of (n ∷ ns) all = (node_lowers n (named_front p (leaves n) (leaves_in ns) all), each_of ns (named_back p (leaves n) (leaves_in ns) all))
