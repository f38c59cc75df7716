-- How many operations there are at most: what follows from the public list. And how many look-ups in tables.
use Rattle.std.proofs.Common.{◌≡◌, ℕ, zero, suc, ◌+◌, ◌*◌, ◌≤◌, true, false, List, [], ◌∷◌, ◌++◌, length, map, refl, ap, ◌∙◌, arith, length-append, append-nil}
use Rattle.std.proofs.lemmas.Bool.Decides.{nat_tests}
use Rattle.std.proofs.lemmas.List.Concat.{flat_map-append}
use Rattle.std.proofs.lemmas.List.Sums.{sum_by-cons, sum_by-append}
use Rattle.std.proofs.lemmas.List.{length-map}
use Rattle.std.specs.List.{flat_map, sum_by}
use Rattle.chip_tables.specs.declared.target.Target.TheVariants.{Interp}
use Rattle.ladder_tree.specs.Induct.{Each, node_ind}
use Rattle.ladder_tree.specs.Leaves.{leaves, leaves_in, leaves_step, all_leaves}
use Rattle.ladder_tree.specs.Size.{size_of, size_in, size_step, size_of_all}
use Rattle.ladder_tree.specs.declared.element.CoilMode.TheVariants as mode
use Rattle.ladder_tree.specs.declared.element.CoilMode.{CoilMode}
use Rattle.ladder_tree.specs.declared.element.CompareHow.TheVariants.{Equ, Neq, Grt, Geq, Les, Leq}
use Rattle.ladder_tree.specs.declared.element.CompareHow.{CompareHow}
use Rattle.ladder_tree.specs.declared.element.CounterHow.TheVariants.{Ctu, Ctd, Ctc}
use Rattle.ladder_tree.specs.declared.element.CounterHow.{CounterHow}
use Rattle.ladder_tree.specs.declared.element.Leaf as leaf
use Rattle.ladder_tree.specs.declared.element.LeafKind.TheVariants.{Coil, Timer, Counter, Move, Math, Compare, Shift, Table, SetPwm, Recv, Send, Persist}
use Rattle.ladder_tree.specs.declared.element.LeafKind.{LeafKind}
use Rattle.ladder_tree.specs.declared.element.MathHow.TheVariants as math
use Rattle.ladder_tree.specs.declared.element.MathHow.{MathHow}
use Rattle.ladder_tree.specs.declared.element.Operand.TheVariants.{Var, Num}
use Rattle.ladder_tree.specs.declared.element.Operand.{Operand}
use Rattle.ladder_tree.specs.declared.element.TimerHow.TheVariants.{Ton, Tof, Rto}
use Rattle.ladder_tree.specs.declared.element.TimerHow.{TimerHow}
use Rattle.ladder_tree.specs.declared.project.Node as node
use Rattle.ladder_tree.specs.declared.project.Node.{Node, Leaf, Series}
use Rattle.ladder_tree.specs.declared.project.Rung as rung
use Rattle.ladder_rules.specs.Needs.{element_cost, cost_step, node_cost, nodes_cost, rungs_cost, total}
use Rattle.ladder_rules.specs.declared.cost.Column.TheVariants.{Ops}
use Rattle.int_code.specs.Kinds as kind
use Rattle.int_code.specs.Kinds.{Kind, kinds, kind_of, is_wire, reads_wire, ops_of, IsWithin}
use Rattle.int_code.specs.Lowered as part
use Rattle.int_code.specs.Lowered.{Part, Parallel, Branch, Element, part_kinds, element_kinds, coil_kinds, timer_kinds, counter_kinds, compare_kinds}
use Rattle.int_code.specs.Lowered.{where_kinds, move_kind, math_kind, rise_kinds, moves_kinds, branches, parts, parts_step, parts_in, parts_of_rungs, all_parts}
use Rattle.int_code.specs.Lowered.{allowed}
use Rattle.int_code.specs.declared.op.IntOp.TheVariants as op
use Rattle.int_code.specs.declared.op.IntOp.TheVariants.{Pwm, Rx, Tx, Eewr, Tab}
use Rattle.int_code.specs.declared.op.IntOp.{IntOp}
use Rattle.ladder_lower.specs.ElementCode.{element_code}
use Rattle.ladder_lower.specs.Fit.{is_fit, all_fit}
use Rattle.ladder_lower.specs.Nesting.{nesting_of_all}
use Rattle.ladder_lower.specs.NodeCode.{program_code}
use Rattle.ladder_lower.specs.Outcome.{tabs_in}
use Rattle.ladder_lower.specs.declared.layout.Layout.{Layout}
use Rattle.ladder_tree.proofs.FoldLemmas.{fold-Leaf, fold-Series, fold-Parallel}
use Rattle.ladder_tree.specs.declared.limits.TheConstants.{SHIFT_PLACES}
use Rattle.ladder_lower.proofs.LeafLemmas.{fit_first, fit_front, fit_back}
use Rattle.ladder_lower.proofs.OrdinaryLemmas.{any_special, element_plain}
use Rattle.ladder_lower.proofs.PartLemmas.{IsShared, Ready, joined-cons, program_holds}

one_more : (x : Kind) (xs : List Kind) (n : ℕ) → ops_of x ≡ 1 → sum_by ops_of xs ≡ n → sum_by ops_of (x ∷ xs) ≡ suc n
one_more x xs n e f = sum_by-cons ops_of x xs ∙ omega (arith, e, f)

three_more : (x : Kind) (xs : List Kind) (n : ℕ) → ops_of x ≡ 3 → sum_by ops_of xs ≡ n → sum_by ops_of (x ∷ xs) ≡ suc (suc (suc n))
three_more x xs n e f = sum_by-cons ops_of x xs ∙ omega (arith, e, f)

-- the kinds tell how many operations there are
kinds_count : (kept : ℕ) (ops : List IntOp) → sum_by ops_of (kinds kept ops) ≡ length ops
kinds_count kept [] = refl
kinds_count kept (op.Ifs s ∷ op.Set b ∷ op.Fi ∷ ops) =
    three_more (kind.Guarded (reads_wire kept s) (is_wire kept b)) (kinds kept ops) (length ops) refl (kinds_count kept ops)
kinds_count kept (op.Ifs s ∷ op.Clr b ∷ op.Fi ∷ ops) =
    three_more (kind.Guarded (reads_wire kept s) (is_wire kept b)) (kinds kept ops) (length ops) refl (kinds_count kept ops)
kinds_count kept (op.Ifc s ∷ op.Set b ∷ op.Fi ∷ ops) =
    three_more (kind.Guarded (reads_wire kept s) (is_wire kept b)) (kinds kept ops) (length ops) refl (kinds_count kept ops)
kinds_count kept (op.Ifc s ∷ op.Clr b ∷ op.Fi ∷ ops) =
    three_more (kind.Guarded (reads_wire kept s) (is_wire kept b)) (kinds kept ops) (length ops) refl (kinds_count kept ops)
kinds_count kept (x ∷ ops) = one_more (kind_of kept x) (kinds kept ops) (length ops) refl (kinds_count kept ops)

abbrev count : List Kind → ℕ
count = sum_by ops_of

coil_count : (how : CoilMode) → count (coil_kinds how) ≤ 3
coil_count mode.Plain = omega arith
coil_count mode.Negated = omega arith
coil_count mode.Set = omega arith
coil_count mode.Reset = omega arith

timer_count : (how : TimerHow) → count (timer_kinds how) ≤ 8
timer_count Ton = omega arith
timer_count Tof = omega arith
timer_count Rto = omega arith

counter_count : (how : CounterHow) → count (counter_kinds how) ≤ 10
counter_count Ctu = omega arith
counter_count Ctd = omega arith
counter_count Ctc = omega arith

compare_count : (how : CompareHow) → count (compare_kinds how) ≤ 4
compare_count Equ = omega arith
compare_count Neq = omega arith
compare_count Grt = omega arith
compare_count Geq = omega arith
compare_count Les = omega arith
compare_count Leq = omega arith

move_count : (x : Operand) → count (where_kinds (move_kind x)) ≤ 3
move_count (Var name) = omega arith
move_count (Num n) = omega arith

math_count : (how : MathHow) → count (where_kinds (math_kind how)) ≤ 3
math_count math.Add = omega arith
math_count math.Sub = omega arith
math_count math.Mul = omega arith
math_count math.Div = omega arith

moves_count : (places : ℕ) → count (moves_kinds places) ≤ places
moves_count zero = omega arith
moves_count (suc zero) = omega arith
moves_count (suc (suc k)) = let h = moves_count (suc k) in omega (arith, sum_by-cons ops_of kind.Mov (moves_kinds (suc k)))

shift_count : (places : ℕ) → count (rise_kinds (moves_kinds places)) ≤ 5 + places
shift_count places =
    let h = moves_count places in
    let tail : List Kind = kind.Fi ∷ kind.Fi ∷ kind.Cpy false true ∷ [] in
    omega (
      arith,
      sum_by-cons ops_of (kind.Ifs true) (kind.Ifc false ∷ (moves_kinds places ++ tail)),
      sum_by-cons ops_of (kind.Ifc false) (moves_kinds places ++ tail),
      sum_by-append ops_of (moves_kinds places) tail,
    )

-- the row of the table of costs is no less, nor is 65, which a shift register has
record Counted (x : LeafKind) : Type 0 where
  within : count (element_kinds x) ≤ element_cost Ops Interp x
  few : (cycle : ℕ) → is_fit cycle x ≡ true → count (element_kinds x) ≤ 65

math_cost : (how : MathHow) (to : List ℕ) (a b : Operand) → 4 ≤ element_cost Ops Interp (Math how to a b)
math_cost math.Add to a b = omega arith
math_cost math.Sub to a b = omega arith
math_cost math.Mul to a b = omega arith
math_cost math.Div to a b = omega arith

timer_cost : (how : TimerHow) (name : List ℕ) (delay : ℕ) → 14 ≤ element_cost Ops Interp (Timer how name delay)
timer_cost Ton name delay = omega arith
timer_cost Tof name delay = omega arith
timer_cost Rto name delay = omega arith

counted : (x : LeafKind) → Counted x
counted (Coil name how) = let h = coil_count how in record { within = omega (arith, h); few = λ cycle e. omega (arith, h) }
counted (Timer how name delay) = let h = timer_count how in record { within = omega (arith, h, timer_cost how name delay); few = λ cycle e. omega (arith, h) }
counted (Counter how name max) = let h = counter_count how in record { within = omega (arith, h); few = λ cycle e. omega (arith, h) }
counted (Move to src) = let h = move_count src in record { within = omega (arith, h); few = λ cycle e. omega (arith, h) }
counted (Math how to a b) = let h = math_count how in record { within = omega (arith, h, math_cost how to a b); few = λ cycle e. omega (arith, h) }
counted (Compare how a b) = let h = compare_count how in record { within = omega (arith, h); few = λ cycle e. omega (arith, h) }
counted (Shift name places) =
    let h = shift_count places in
    record { within = omega (arith, h); few = λ cycle e. (let most : places ≤ SHIFT_PLACES = grind (arith, nat_tests, e) in omega (arith, h, most)) }
counted _ = record { within = omega arith; few = λ cycle e. omega arith }

abbrev weight : List Part → ℕ
weight xs = count (flat_map part_kinds xs)

weight_append : (xs ys : List Part) → weight (xs ++ ys) ≡ weight xs + weight ys
weight_append xs ys = rw (flat_map-append part_kinds xs ys) (sum_by-append ops_of (flat_map part_kinds xs) (flat_map part_kinds ys))

module _ (cycle : ℕ) where
  abbrev Fit : List leaf.Leaf → Type 0
  Fit ls = all_fit cycle ls ≡ true

  record NodeCounted (n : Node) : Type 0 where
    within : weight (parts n) ≤ node_cost Ops Interp n
    few : Fit (leaves n) → weight (parts n) + 5 ≤ 70 * size_of n

  record SeriesCounted (ns : List Node) : Type 0 where
    within : weight (parts_in ns) ≤ nodes_cost Ops Interp ns
    few : Fit (leaves_in ns) → weight (parts_in ns) ≤ 70 * size_in ns

  series_counted : (ns : List Node) → Each NodeCounted ns → SeriesCounted ns
  series_counted [] h = record { within = omega arith; few = λ fit. omega arith }
  series_counted (n ∷ ns) h =
      let more = series_counted ns h.1 in
      let x = h.0.within in let y = more.within in
      let both = weight_append (parts n) (parts_in ns) in
      record {
        within =
            rw (joined-cons (parts n) (map parts ns))
            (omega (arith, x, y, both, sum_by-cons (λ x. x) (node_cost Ops Interp n) (map (node_cost Ops Interp) ns)));
        few = λ fit. (
            let f = h.0.few (fit_front cycle (leaves n) (leaves_in ns) fit) in
            let g = more.few (fit_back cycle (leaves n) (leaves_in ns) fit) in
            rw (joined-cons (parts n) (map parts ns)) (omega (arith, f, g, both, sum_by-cons (λ x. x) (size_of n) (map size_of ns)))
            );
      }

  record BranchesCounted (ns : List Node) : Type 0 where
    within : weight (branches (map parts ns)) ≤ 8 * length ns + nodes_cost Ops Interp ns
    few : Fit (leaves_in ns) → weight (branches (map parts ns)) ≤ 70 * size_in ns

  branches_counted : (ns : List Node) → Each NodeCounted ns → BranchesCounted ns
  branches_counted [] h = record { within = omega arith; few = λ fit. omega arith }
  branches_counted (n ∷ ns) h =
      let more = branches_counted ns h.1 in
      let x = h.0.within in let y = more.within in
      let both = weight_append (parts n) (Branch ∷ branches (map parts ns)) in
      let one : weight (Branch ∷ branches (map parts ns)) ≡ 5 + weight (branches (map parts ns)) = weight_append (Branch ∷ []) (branches (map parts ns)) in
      record {
        within = omega (arith, x, y, both, one, sum_by-cons (λ x. x) (node_cost Ops Interp n) (map (node_cost Ops Interp) ns));
        few = λ fit. (
            let f = h.0.few (fit_front cycle (leaves n) (leaves_in ns) fit) in
            let g = more.few (fit_back cycle (leaves n) (leaves_in ns) fit) in
            omega (arith, f, g, both, one, sum_by-cons (λ x. x) (size_of n) (map size_of ns))
            );
      }

  leaf_counted : (l : leaf.Leaf) → NodeCounted (Leaf l)
  leaf_counted l =
      let c = counted l.kind in
      let one : weight (Element l ∷ []) ≡ count (element_kinds l.kind) = ap count (append-nil (element_kinds l.kind)) in
      record {
        within = rw (fold-Leaf (List Part) parts_step l, fold-Leaf ℕ (cost_step Ops Interp) l, one) c.within;
        few =
            rw (fold-Leaf (List Part) parts_step l, fold-Leaf ℕ size_step l, fold-Leaf (List leaf.Leaf) leaves_step l)
            (λ fit. let f = c.few cycle (fit_first cycle l [] fit) in omega (arith, f, one));
      }

  series_node_counted : (ns : List Node) → Each NodeCounted ns → NodeCounted (Series ns)
  series_node_counted ns h =
      let c = series_counted ns h in
      record {
        within = rw (fold-Series (List Part) parts_step ns, fold-Series ℕ (cost_step Ops Interp) ns) c.within;
        few =
            rw (fold-Series (List Part) parts_step ns, fold-Series ℕ size_step ns, fold-Series (List leaf.Leaf) leaves_step ns)
            (λ fit. let f = c.few fit in omega (arith, f));
      }

  parallel_counted : (ns : List Node) → Each NodeCounted ns → NodeCounted (node.Parallel ns)
  parallel_counted ns h =
      let c = branches_counted ns h in
      let x = c.within in
      let one : weight (Parallel ∷ branches (map parts ns)) ≡ 2 + weight (branches (map parts ns)) = weight_append (Parallel ∷ []) (branches (map parts ns)) in
      record {
        within =
            rw (fold-Parallel (List Part) parts_step ns, fold-Parallel ℕ (cost_step Ops Interp) ns)
            (omega (arith, x, one, length-map ns (node_cost Ops Interp)));
        few =
            rw (fold-Parallel (List Part) parts_step ns, fold-Parallel ℕ size_step ns, fold-Parallel (List leaf.Leaf) leaves_step ns)
            (λ fit. let f = c.few fit in omega (arith, f, one));
      }

  node_counted : (n : Node) → NodeCounted n
  node_counted = node_ind NodeCounted leaf_counted series_node_counted parallel_counted

  each_counted : (ns : List Node) → Each NodeCounted ns
  each_counted [] = tt
  each_counted (n ∷ ns) = (node_counted n, each_counted ns)

  record RungsCounted (gs : List rung.Rung) : Type 0 where
    within : weight (parts_of_rungs gs) ≤ rungs_cost Ops Interp gs
    few : Fit (all_leaves gs) → weight (parts_of_rungs gs) ≤ 70 * size_of_all gs

  rungs_counted : (gs : List rung.Rung) → RungsCounted gs
  rungs_counted [] = record { within = omega arith; few = λ fit. omega arith }
  rungs_counted (g ∷ gs) =
      let nodes = series_counted g.nodes (each_counted g.nodes) in
      let more = rungs_counted gs in
      let x = nodes.within in let y = more.within in
      let both = weight_append (parts_in g.nodes) (parts_of_rungs gs) in
      let one : weight (part.Rung ∷ (parts_in g.nodes ++ parts_of_rungs gs)) ≡ 2 + weight (parts_in g.nodes ++ parts_of_rungs gs) = weight_append
      (part.Rung ∷ []) (parts_in g.nodes ++ parts_of_rungs gs) in
      record {
        within = omega (arith, x, y, both, one);
        few = λ fit. (
            let f = nodes.few (fit_front cycle (leaves_in g.nodes) (all_leaves gs) fit) in
            let h = more.few (fit_back cycle (leaves_in g.nodes) (all_leaves gs) fit) in
            omega (arith, f, h, both, one)
            );
      }

-- operations within the public list are no more than the sum of the table of costs
pub within_cap : (kept : ℕ) (ops : List IntOp) (gs : List rung.Rung) → IsWithin (kinds kept ops) (allowed gs) → length ops ≤ total Ops Interp gs
within_cap kept ops gs is =
    let h = is ops_of in
    let c = (rungs_counted 1 gs).within in
    let one : weight (all_parts gs) ≡ 1 + weight (parts_of_rungs gs) = weight_append (part.Base ∷ []) (parts_of_rungs gs) in
    omega (arith, h, c, one, kinds_count kept ops)

-- nor more than 70 for each line that the rungs take
pub within_lines : (kept cycle : ℕ) (ops : List IntOp) (gs : List rung.Rung) → IsWithin (kinds kept ops) (allowed gs) → all_fit cycle (all_leaves gs) ≡ true
    → length ops ≤ 70 * size_of_all gs + 1
within_lines kept cycle ops gs is fit =
    let h = is ops_of in
    let c = (rungs_counted cycle gs).few fit in
    let one : weight (all_parts gs) ≡ 1 + weight (parts_of_rungs gs) = weight_append (part.Base ∷ []) (parts_of_rungs gs) in
    omega (arith, h, c, one, kinds_count kept ops)

tabs_append : (a b : List IntOp) → tabs_in (a ++ b) ≡ tabs_in a + tabs_in b
tabs_append [] b = omega arith
tabs_append (op ∷ a) b = let h = tabs_append a b in omega (arith, h)

no_tabs : (ops : List IntOp) → any_special ops ≡ false → tabs_in ops ≡ 0
no_tabs [] e = refl
no_tabs (Pwm w hz ∷ ops) e = absurd (cc)
no_tabs (Rx v b ∷ ops) e = absurd (cc)
no_tabs (Tx w s b ∷ ops) e = absurd (cc)
no_tabs (Eewr w a ∷ ops) e = absurd (cc)
no_tabs (Tab v w values ∷ ops) e = absurd (cc)
no_tabs (op ∷ ops) e = let h = no_tabs ops e in omega arith

-- an element looks up once at most
abbrev FewTabs : List leaf.Leaf → List IntOp → Type 0
FewTabs ls ops = tabs_in ops ≤ length ls

tabs_shared : (p : Layout) (deep : ℕ) → IsShared p deep FewTabs
tabs_shared p deep = record {
  none = omega arith;
  both = λ ls ms a b f g. omega (arith, f, g, length-append ls ms, tabs_append a b);
  set = λ i lt. omega arith;
  clear = λ i lt. omega arith;
  copy = λ i j lt le. omega arith;
  set_where = λ i j lt le. omega arith;
}

element_tabs : (p : Layout) (kind : LeafKind) (k : ℕ) → tabs_in (element_code p kind k) ≤ 1
element_tabs p (SetPwm name hz) k = omega arith
element_tabs p (Recv name) k = omega arith
element_tabs p (Send name) k = omega arith
element_tabs p (Persist name) k = omega arith
element_tabs p (Table dest index as_text values) k = omega arith
element_tabs p kind k = let h = no_tabs (element_code p kind k) (element_plain p kind k) in omega (arith, h)

pub program_tabs : (p : Layout) (gs : List rung.Rung) → Ready p gs → tabs_in (program_code p gs) ≤ length (all_leaves gs)
program_tabs p gs ready =
    program_holds p (nesting_of_all gs) FewTabs (tabs_shared p (nesting_of_all gs)) (λ l k a le. let h = element_tabs p l.kind k in omega (arith, h)) gs
    (omega arith) ready
