-- What a node does, given what each node inside it does.
use Rattle.std.specs.Prelude.{ℕ, ◌+◌, Bool, false, ◌||◌, List, [], ◌∷◌, map}
use Rattle.ladder_tree.specs.declared.project.Node.{Node}
use Rattle.ladder_tree.specs.declared.project.Node.TheOpen.{Node-F}
use Rattle.ladder_tree.specs.declared.project.Node.TheFolds.{fold-Node}
use Rattle.ladder_tree.specs.Names.{memories}
use Rattle.ladder_meaning.specs.Device.{Went}
use Rattle.ladder_meaning.specs.Element.{Terms, element}
use Rattle.ladder_meaning.specs.State.{Seen, Now}

-- what a part of a ladder does: how many memories it has, and what it does behind k others
pub record Part : Type 0 where
  pub memories : ℕ
  pub run : ℕ → Now → Bool → Went

-- one after another
abbrev pub series : List Part → Part
series [] = record { memories = 0; run = λ k s power. record { now = s; output = power } }
series (a ∷ rest) = record {
  memories = a.memories + (series rest).memories;
  run = λ k s power. (series rest).run (k + a.memories) (a.run k s power).now (a.run k s power).output;
}

-- each branch on the same input; the output is the OR of theirs
abbrev pub parallel : List Part → Part
parallel [] = record { memories = 0; run = λ k s power. record { now = s; output = false } }
parallel (a ∷ rest) = record {
  memories = a.memories + (parallel rest).memories;
  run = λ k s power. record {
    now = ((parallel rest).run (k + a.memories) (a.run k s power).now power).now;
    output = (a.run k s power).output || ((parallel rest).run (k + a.memories) (a.run k s power).now power).output;
  };
}

abbrev pub node_step : Terms → Seen → Node-F Part → Part
node_step p r (Node-F.Leaf l) = record { memories = memories l.kind; run = element p r l.kind }
node_step p r (Node-F.Series parts) = series parts
node_step p r (Node-F.Parallel parts) = parallel parts

abbrev pub node : Terms → Seen → Node → Part
node p r = fold-Node Part (node_step p r)

abbrev pub nodes : Terms → Seen → List Node → Part
nodes p r ns = series (map (node p r) ns)
