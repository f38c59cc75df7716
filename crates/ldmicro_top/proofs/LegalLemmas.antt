-- What a project that is read and keeps the rules promises to the steps behind.
use Rattle.std.proofs.Common.{◌≡◌, ℕ, ◌+◌, ◌*◌, ◌≤◌, Bool, true, false, ◌&&◌, nat_le, List, [], ◌∷◌, length, map, None, All, refl, sym, ap, ◌∙◌, arith, length-append}
use Rattle.std.proofs.lemmas.Bool.{and_parts}
use Rattle.std.proofs.lemmas.Bool.Decides.{nat_tests}
use Rattle.std.proofs.lemmas.List.Elements.{All-nil, All-cons}
use Rattle.std.proofs.lemmas.List.Sums.{sum_by-cons}
use Rattle.std.specs.List.{list_all}
use Rattle.ladder_tree.specs.declared.element.Leaf as leaf
use Rattle.ladder_tree.specs.declared.element.LeafKind.{LeafKind}
use Rattle.ladder_tree.specs.declared.element.LeafKind.TheVariants as kind
use Rattle.ladder_tree.specs.declared.project.Node.{Node, Leaf, Series, Parallel}
use Rattle.ladder_tree.specs.declared.project.Node.TheOpen.{Node-F}
use Rattle.ladder_tree.specs.declared.project.Node.TheFolds.{fold-roll-Node}
use Rattle.ladder_tree.specs.declared.project.Node.TheVariants.{rolls-Leaf, rolls-Series, rolls-Parallel}
use Rattle.ladder_tree.specs.declared.project.Project.{Project}
use Rattle.ladder_tree.specs.declared.project.Rung.{Rung}
use Rattle.ladder_tree.specs.Forms.{forms_of, forms_in, forms_of_all, forms_step}
use Rattle.ladder_tree.specs.Induct.{Each, node_ind}
use Rattle.ladder_tree.specs.Leaves.{leaves, leaves_in, all_leaves, leaves_step}
use Rattle.ladder_tree.specs.Names.{names_of, is_name, has_kind, is_well_named, all_well_named}
use Rattle.ladder_tree.specs.Size.{size_of, size_in, size_of_all, size_step}
use Rattle.ladder_tree.specs.declared.names.Names.{Names}
use Rattle.ladder_tree.specs.declared.limits.TheConstants.{TABLE_VALUES}
use Rattle.ladder_lower.specs.Outcome.{CanLower}
use Rattle.ladder_rules.specs.Verdict.{rule}
use Rattle.ldmicro_top.proofs.FitLemmas.{cycle_some, fits_all}
use Rattle.ladder_rules.specs.Limits.{IsShort, IsWithinLimits, extent, most_extent}
use Rattle.ld_line.specs.Range.{is_read_kind}
use Rattle.ld_text.specs.Within.{IsWithin}

kind_named : (k : LeafKind) → has_kind k ≡ true → is_read_kind k ≡ true → is_well_named k ≡ true
kind_named (kind.Contacts name neg) h g = rw (h, g) refl
kind_named (kind.Coil name mode) h g = rw (h, g) refl
kind_named _ h g = refl

named_by : (ls : List leaf.Leaf) → list_all (λ l. has_kind l.kind) ls ≡ true → list_all (λ l. is_read_kind l.kind) ls ≡ true → all_well_named ls ≡ true
named_by [] h g = refl
named_by (l ∷ ls) h g =
    let a = and_parts (has_kind l.kind) _ h in
    let b = and_parts (is_read_kind l.kind) _ g in
    rw (kind_named l.kind a.0 b.0) (named_by ls a.1 b.1)

-- names that are names, and of their elements' kinds
pub well_named : (p : Project) → IsWithin p → list_all (λ l. has_kind l.kind) (all_leaves p.rungs) ≡ true → all_well_named (all_leaves p.rungs) ≡ true
well_named p w h = named_by (all_leaves p.rungs) h w.read

-- how many lines a project takes

abbrev IsSized : Node → Type 0
IsSized n = size_of n ≡ length (leaves n) + 2 * forms_of n

each_sized : (ns : List Node) → Each IsSized ns → size_in ns ≡ length (leaves_in ns) + 2 * forms_in ns
each_sized [] h = refl
each_sized (n ∷ ns) h =
    let rest = each_sized ns h.1 in
    omega (
      arith,
      h.0,
      rest,
      length-append (leaves n) (leaves_in ns),
      sum_by-cons (λ x. x) (size_of n) (map size_of ns),
      sum_by-cons (λ x. x) (forms_of n) (map forms_of ns),
    )

leaf_sized : (l : leaf.Leaf) → IsSized (Leaf l)
leaf_sized l =
    let a : size_of (Leaf l) ≡ 1 = ap size_of (sym (rolls-Leaf l)) ∙ fold-roll-Node ℕ size_step (Node-F.Leaf l) in
    let b : leaves (Leaf l) ≡ l ∷ [] = ap leaves (sym (rolls-Leaf l)) ∙ fold-roll-Node (List leaf.Leaf) leaves_step (Node-F.Leaf l) in
    let c : forms_of (Leaf l) ≡ 0 = ap forms_of (sym (rolls-Leaf l)) ∙ fold-roll-Node ℕ forms_step (Node-F.Leaf l) in
    omega (arith, a, ap length b, c)

series_sized : (ns : List Node) → Each IsSized ns → IsSized (Series ns)
series_sized ns h =
    let a : size_of (Series ns) ≡ 2 + size_in ns = ap size_of (sym (rolls-Series ns)) ∙ fold-roll-Node ℕ size_step (Node-F.Series ns) in
    let b : leaves (Series ns) ≡ leaves_in ns = ap leaves (sym (rolls-Series ns)) ∙ fold-roll-Node (List leaf.Leaf) leaves_step (Node-F.Series ns) in
    let c : forms_of (Series ns) ≡ 1 + forms_in ns = ap forms_of (sym (rolls-Series ns)) ∙ fold-roll-Node ℕ forms_step (Node-F.Series ns) in
    omega (arith, a, ap length b, c, each_sized ns h)

parallel_sized : (ns : List Node) → Each IsSized ns → IsSized (Parallel ns)
parallel_sized ns h =
    let a : size_of (Parallel ns) ≡ 2 + size_in ns = ap size_of (sym (rolls-Parallel ns)) ∙ fold-roll-Node ℕ size_step (Node-F.Parallel ns) in
    let b : leaves (Parallel ns) ≡ leaves_in ns = ap leaves (sym (rolls-Parallel ns)) ∙ fold-roll-Node (List leaf.Leaf) leaves_step (Node-F.Parallel ns) in
    let c : forms_of (Parallel ns) ≡ 1 + forms_in ns = ap forms_of (sym (rolls-Parallel ns)) ∙ fold-roll-Node ℕ forms_step (Node-F.Parallel ns) in
    omega (arith, a, ap length b, c, each_sized ns h)

node_sized : (n : Node) → IsSized n
node_sized = node_ind IsSized leaf_sized series_sized parallel_sized

all_sized : (ns : List Node) → Each IsSized ns
all_sized [] = tt
all_sized (n ∷ ns) = (node_sized n, all_sized ns)

rungs_sized : (gs : List Rung) → size_of_all gs ≡ length (all_leaves gs) + (2 * forms_of_all gs + 2 * length gs)
rungs_sized [] = refl
rungs_sized (g ∷ gs) =
    let one = each_sized g.nodes (all_sized g.nodes) in
    let rest = rungs_sized gs in
    omega (arith, one, rest, length-append (leaves_in g.nodes) (all_leaves gs))

pub is_sized : (p : Project) → IsWithin p → size_of_all p.rungs ≤ 13000
is_sized p w = omega (arith, rungs_sized p.rungs, w.elements, w.forms, w.rungs)

-- the limits that the rules ask for

small : (n : ℕ) → nat_le n most_extent ≡ true → n ≤ most_extent
small n h = grind (arith, nat_tests)

short_kind : (k : LeafKind) → is_read_kind k ≡ true → extent k ≤ most_extent
short_kind (kind.Shift name places) h = let a = and_parts (is_name name) _ h in let b = and_parts (nat_le 1 places) _ a.1 in small places b.1
short_kind (kind.Table dest index as_text values) h =
    let a = and_parts (is_name dest) _ h in let b = and_parts _ (nat_le (length values) TABLE_VALUES) a.1 in small (length values) b.1
short_kind (kind.Linear dest index points) h = absurd cc
short_kind (kind.Formatted name text) h = absurd cc
short_kind _ h = omega arith

all_short : (ls : List leaf.Leaf) → list_all (λ l. is_read_kind l.kind) ls ≡ true → All IsShort ls
all_short [] h = All-nil IsShort
all_short (l ∷ ls) h = let a = and_parts (is_read_kind l.kind) _ h in All-cons IsShort l ls (short_kind l.kind a.0) (all_short ls a.1)

pub within_limits : (p : Project) → IsWithin p → IsWithinLimits p.rungs
within_limits p w = record { rungs = w.rungs; elements = w.elements; forms = w.forms; extents = all_short (all_leaves p.rungs) w.read }

-- what is asked of a project that is lowered
pub can_lower : (n : Names) (p : Project) → n ≡ names_of p.rungs → IsWithin p → rule p ≡ None → list_all (λ l. has_kind l.kind) (all_leaves p.rungs) ≡ true
    → CanLower n p
can_lower n p named w r kinds = record {
  names = named;
  named = well_named p w kinds;
  cycle = cycle_some p r;
  fit = fits_all p r w.read;
  depth = w.depth;
  size = is_sized p w;
}
