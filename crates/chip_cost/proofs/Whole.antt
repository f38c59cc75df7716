-- Code that keeps to the public list is within what the rules count.
use Rattle.std.proofs.Common.{◌≡◌, inl, inr, ℕ, ◌+◌, ◌*◌, ◌≤◌, true, false, cond, List, [], ◌∷◌, ◌++◌, map, sum, refl, sym, ap, subst, arith}
use Rattle.std.proofs.lemmas.List.Sums.{sum_by-cons, sum_by-append}
use Rattle.std.proofs.lemmas.Nat.{mul-le}
use Rattle.std.specs.List.{flat_map, sum_by, count_by, list_any}
use Rattle.chip_tables.specs.declared.cost_kind.CostKind.TheVariants as cost
use Rattle.chip_tables.specs.declared.target.Target.{Target}
use Rattle.chip_tables.specs.declared.target.Target.TheVariants.{F628, F877, Mega16, Interp, AnsiC}
use Rattle.ladder_tree.specs.Leaves.{all_leaves}
use Rattle.ladder_tree.specs.Names.{names_of}
use Rattle.ladder_tree.specs.declared.element.Leaf as leaf
use Rattle.ladder_tree.specs.declared.project.Project.{Project}
use Rattle.ladder_tree.specs.declared.project.Rung as rung
use Rattle.ladder_rules.specs.Needs.{fixed, total, uses, is_tof, tofs_in, feature_cost, feature_words, cycle_cap_on, boot_cap_on}
use Rattle.ladder_rules.specs.Pins.{is_chip}
use Rattle.ladder_rules.specs.declared.cost.Column.{Column}
use Rattle.ladder_rules.specs.declared.cost.Column.TheVariants.{Words, Cycles}
use Rattle.ladder_rules.specs.declared.survey.Feature.TheVariants.{Products, Quotients, Persistence, Serial, Analog, Modulation}
use Rattle.ladder_lower.proofs.NameLemmas.{names_apart}
use Rattle.ladder_lower.specs.Outcome.{IsLowered}
use Rattle.mem_plan.specs.declared.sizes.Sizes.{Sizes}
use Rattle.int_code.specs.Kinds.{kinds, IsWithin}
use Rattle.int_code.specs.Lowered as part
use Rattle.int_code.specs.Lowered.{Part, part_kinds, all_parts, parts_of_rungs, allowed}
use Rattle.int_code.specs.declared.op.IntOp.{IntOp}
use Rattle.int_code.specs.declared.op.IntProgram.{IntProgram}
use Rattle.byte_code.specs.Kinds as prim
use Rattle.byte_code.specs.Kinds.{PrimKind, repeated}
use Rattle.byte_code.specs.Lowered as list
use Rattle.byte_code.specs.Lowered.{Entry, Operation, Routine, AreChosen, IsOneOf, entries, routine_entry, start_entry, whole}
use Rattle.byte_lower.specs.Listed.{operation_of, routine_if, routines_in, starts_in}
use Rattle.byte_lower.specs.Lists.{calls_product, calls_quotient}
use Rattle.chip_cost.proofs.Calls.{no_product, no_quotient, routine_few}
use Rattle.chip_cost.proofs.Parts.{rungs_same, rungs_within}
use Rattle.chip_cost.proofs.Refused.{none_refused}
use Rattle.chip_cost.proofs.Starts.{starts_few}
use Rattle.chip_cost.proofs.Sums.{sum_flat, sum_mapped, sum_both, sum_where, sum_repeated}
use Rattle.chip_cost.specs.Rows.{heaviest, op_weight, part_weight, code_weight, turn_weight, is_refused, KeepsRows, KeepsTable}
use Rattle.chip_cost.specs.Within.{ListedIsWithinTable}

-- of a weight of entries
module _ (f : Entry → ℕ) where
  one_of : (e : Entry) (xs : List Entry) → IsOneOf e xs → f e ≤ heaviest f xs
  one_of e [] h = absurd h
  one_of e (x ∷ xs) (inl is) = let same = ap f is in omega (arith, same)
  one_of e (x ∷ xs) (inr h) = let rest = one_of e xs h in omega (arith, rest)

  -- the choice is no heavier than its operations
  chosen_few : (ops : List Operation) (es : List Entry) → AreChosen ops es → sum_by f es ≤ sum_by (λ o. heaviest f (entries o)) ops
  chosen_few [] [] h = omega arith
  chosen_few [] (e ∷ es) h = absurd h
  chosen_few (o ∷ ops) [] h = absurd h
  chosen_few (o ∷ ops) (e ∷ es) h =
      let own = one_of e (entries o) h.0 in
      let rest = chosen_few ops es h.1 in
      let a = sum_by-cons f e es in
      let b = sum_by-cons (λ o. heaviest f (entries o)) o ops in
      omega (arith, own, rest, a, b)

  -- nor are these than the kinds that the project's parts may have
  choice_few : (kept : ℕ) (ops : List IntOp) (gs : List rung.Rung) (es : List Entry) → IsWithin (kinds kept ops) (allowed gs) →
      AreChosen (map operation_of (kinds kept ops)) es → sum_by f es ≤ sum_by (part_weight f) (all_parts gs)
  choice_few kept ops gs es within chosen =
      let a = chosen_few (map operation_of (kinds kept ops)) es chosen in
      let b = sum_mapped (λ o. heaviest f (entries o)) operation_of (kinds kept ops) in
      let c = within (op_weight f) in
      let d = sum_flat (op_weight f) part_kinds (all_parts gs) in
      omega (arith, a, b, c, d)

  -- what an off-delay timer has beside its operations
  abbrev start_weight : ℕ → Part → ℕ
  start_weight start (part.Element l) = cond (is_tof l.kind) start 0
  start_weight start part.Base = 0
  start_weight start part.Rung = 0
  start_weight start part.Parallel = 0
  start_weight start part.Branch = 0

  abbrev full_weight : ℕ → Part → ℕ
  full_weight start x = part_weight f x + start_weight start x

  starts_sum : (start : ℕ) (gs : List rung.Rung) → sum_by (start_weight start) (all_parts gs) ≡ tofs_in (all_leaves gs) * start
  starts_sum start gs =
      let a = sum_by-cons (start_weight start) part.Base (parts_of_rungs gs) in
      let b = rungs_same (start_weight start) refl refl refl gs in
      let c = sum_where (λ (l : leaf.Leaf). is_tof l.kind) start (all_leaves gs) in
      omega (arith, a, b, c)

  -- with what stands once and the start values, all parts are within the column
  parts_few : (c : Column) (t : Target) (once start : ℕ) → KeepsRows c t f once start → (gs : List rung.Rung) →
      list_any (λ l. is_refused t l.kind) (all_leaves gs) ≡ false →
      once + (sum_by (part_weight f) (all_parts gs) + tofs_in (all_leaves gs) * start) ≤ total c t gs
  parts_few c t once start keeps gs free =
      let h = full_weight start in
      let rung : h part.Rung ≤ fixed c t cost.Rung = (let k = keeps.rung in omega (arith, k)) in
      let parallel : h part.Parallel ≤ fixed c t cost.Parallel = (let k = keeps.parallel in omega (arith, k)) in
      let branch : h part.Branch ≤ fixed c t cost.Branch = (let k = keeps.branch in omega (arith, k)) in
      let a = rungs_within h c t rung parallel branch (λ l own. keeps.element l.kind own) gs free in
      let b = sum_by-cons h part.Base (parts_of_rungs gs) in
      let d = sum_both (part_weight f) (start_weight start) (all_parts gs) in
      let e = starts_sum start gs in
      let g = keeps.base in
      omega (arith, a, b, d, e, g)

-- the list of a whole program, by its entries
whole_sum : (f : Entry → ℕ) (starts : ℕ) (routines : List Routine) (choice : List Entry) →
    sum_by f (whole starts routines choice) ≡ f (start_entry starts) + (sum_by f choice + sum_by f (map routine_entry routines))
whole_sum f starts routines choice =
    let a = sum_by-cons f (start_entry starts) (choice ++ map routine_entry routines) in
    let b = sum_by-append f choice (map routine_entry routines) in
    omega (arith, a, b)

no_turns : (cycles : PrimKind → ℕ) (rs : List Routine) → sum_by (turn_weight cycles) (map routine_entry rs) ≡ 0
no_turns cycles [] = refl
no_turns cycles (r ∷ rs) =
    let a = sum_by-cons (turn_weight cycles) (routine_entry r) (map routine_entry rs) in
    let b = no_turns cycles rs in
    omega (arith, a, b)

-- only the start begins primitives in front of the first reading
abbrev boot_weight : (PrimKind → ℕ) → Entry → ℕ
boot_weight w e = sum_by w e.boot

no_boot_in : (w : PrimKind → ℕ) (rs : List Routine) → sum_by (boot_weight w) (map routine_entry rs) ≡ 0
no_boot_in w [] = refl
no_boot_in w (r ∷ rs) =
    let a = sum_by-cons (boot_weight w) (routine_entry r) (map routine_entry rs) in
    let b = no_boot_in w rs in
    omega (arith, a, b)

tab_boot : (w : PrimKind → ℕ) (o : Operation) → heaviest (boot_weight w) (entries o) ≡ 0
tab_boot w o = by o
  where
    by : (o : Operation) → heaviest (boot_weight w) (entries o) ≡ 0
    by (list.Guarded from to) = refl
    by o = refl

no_boot : (w : PrimKind → ℕ) (ops : List Operation) → sum_by (λ o. heaviest (boot_weight w) (entries o)) ops ≡ 0
no_boot w [] = refl
no_boot w (o ∷ ops) =
    let a = sum_by-cons (λ o. heaviest (boot_weight w) (entries o)) o ops in
    let b = tab_boot w o in
    let c = no_boot w ops in
    omega (arith, a, b, c)

start_code : (w : PrimKind → ℕ) (starts : ℕ) →
    code_weight w (start_entry starts) ≡ (w prim.Start + (w prim.CyclePoll + w prim.Jump)) + starts * w prim.Move
start_code w starts =
    let a = sum_by-append w (prim.Start ∷ prim.CyclePoll ∷ prim.Jump ∷ []) (repeated starts (prim.Move ∷ [])) in
    let b = sum_repeated w starts prim.Move in
    omega (arith, a, b)

start_boot : (w : PrimKind → ℕ) (starts : ℕ) → boot_weight w (start_entry starts) ≡ w prim.Start + (w prim.CyclePoll + starts * w prim.Move)
start_boot w starts =
    let a = sum_by-append w (prim.Start ∷ prim.CyclePoll ∷ []) (repeated starts (prim.Move ∷ [])) in
    let b = sum_repeated w starts prim.Move in
    omega (arith, a, b)

features_count : (t : Target) (ls : List leaf.Leaf) → feature_cost t ls Products + feature_cost t ls Quotients ≤ feature_words t ls
features_count t ls =
    by (feature_cost t ls Products) (feature_cost t ls Quotients) (feature_cost t ls Persistence) (feature_cost t ls Serial) (feature_cost t ls Analog)
    (feature_cost t ls Modulation)
  where
    by : (a b c d e f : ℕ) → a + b ≤ sum (a ∷ b ∷ c ∷ d ∷ e ∷ f ∷ [])
    by a b c d e f = omega arith

cap_is : (t : Target) (gs : List rung.Rung) → is_chip t ≡ true → cycle_cap_on t gs ≡ total Cycles t gs
cap_is F628 gs e = refl
cap_is F877 gs e = refl
cap_is Mega16 gs e = refl
cap_is Interp gs e = absurd (cc)
cap_is AnsiC gs e = absurd (cc)

module _ (p : Project) (program : IntProgram) (words cycles : PrimKind → ℕ) (chip : is_chip p.target ≡ true) (table : KeepsTable p.target words cycles)
    (lowered : IsLowered (names_of p.rungs) p program) where
  abbrev Elements : List leaf.Leaf
  Elements = all_leaves p.rungs

  abbrev Starts : ℕ
  Starts = starts_in program.starts

  few_starts : Starts ≤ tofs_in Elements
  few_starts =
      subst (λ ns. starts_in ns ≤ tofs_in Elements) (sym lowered.sizes.starts)
      (starts_few p.cycle Elements (names_of p.rungs).variables (names_apart p.rungs).variables)

  routines_few : sum_by (code_weight words) (map routine_entry (routines_in program.ops)) ≤ feature_words p.target Elements
  routines_few =
      let f = code_weight words in
      let products = routine_if (count_by calls_product program.ops) list.Multiply in
      let quotients = routine_if (count_by calls_quotient program.ops) list.Divide in
      let a = routine_few f list.Multiply (count_by calls_product program.ops) (fixed Words p.target cost.MulFeature)
      (list_any (λ l. uses Products l.kind) Elements)
      (λ e. no_product program.kept_bits program.ops p.rungs lowered.within e) table.products in
      let b = routine_few f list.Divide (count_by calls_quotient program.ops) (fixed Words p.target cost.DivFeature)
      (list_any (λ l. uses Quotients l.kind) Elements)
      (λ e. no_quotient program.kept_bits program.ops p.rungs lowered.within e) table.quotients in
      let c = sum_mapped f routine_entry (products ++ quotients) in
      let d = sum_by-append (λ r. f (routine_entry r)) products quotients in
      let e = sum_mapped f routine_entry products in
      let g = sum_mapped f routine_entry quotients in
      let h = features_count p.target Elements in
      omega (arith, a, b, c, d, e, g, h)

  module _ (choice : List Entry) (chosen : AreChosen (map operation_of (kinds program.kept_bits program.ops)) choice)
      (free : list_any (λ l. is_refused p.target l.kind) Elements ≡ false) where
    abbrev All : List Entry
    All = whole Starts (routines_in program.ops) choice

    words_within : sum_by words (flat_map (λ e. e.code) All) ≤ total Words p.target p.rungs + feature_words p.target Elements
    words_within =
        let f = code_weight words in
        let a = sum_flat words (λ e. e.code) All in
        let b = whole_sum f Starts (routines_in program.ops) choice in
        let c = start_code words Starts in
        let d = choice_few f program.kept_bits program.ops p.rungs choice lowered.within chosen in
        let e = parts_few f Words p.target _ _ table.word_rows p.rungs free in
        let g = mul-le Starts (words prim.Move) (tofs_in Elements) (words prim.Move) few_starts (omega arith) in
        let h = routines_few in
        omega (arith, a, b, c, d, e, g, h)

    cycles_within : sum_by cycles (flat_map (λ e. e.turns) All) ≤ cycle_cap_on p.target p.rungs
    cycles_within =
        let f = turn_weight cycles in
        let a = sum_flat cycles (λ e. e.turns) All in
        let b = whole_sum f Starts (routines_in program.ops) choice in
        let d = choice_few f program.kept_bits program.ops p.rungs choice lowered.within chosen in
        let e = parts_few f Cycles p.target _ _ table.cycle_rows p.rungs free in
        let g = no_turns cycles (routines_in program.ops) in
        let h = cap_is p.target p.rungs chip in
        omega (arith, a, b, d, e, g, h)

    boot_within : sum_by cycles (flat_map (λ e. e.boot) All) ≤ boot_cap_on p.target (tofs_in Elements)
    boot_within =
        let f = boot_weight cycles in
        let ops = map operation_of (kinds program.kept_bits program.ops) in
        let a = sum_flat cycles (λ e. e.boot) All in
        let b = whole_sum f Starts (routines_in program.ops) choice in
        let c = start_boot cycles Starts in
        let d = chosen_few f ops choice chosen in
        let e = no_boot cycles ops in
        let g = mul-le Starts (cycles prim.Move) (tofs_in Elements) (cycles prim.Move) few_starts (omega arith) in
        let h = no_boot_in cycles (routines_in program.ops) in
        let i = table.boot (tofs_in Elements) in
        omega (arith, a, b, c, d, e, g, h, i)

pub listed_is_within_table : ListedIsWithinTable
listed_is_within_table p o program words cycles prims chip kept table lowered sizes listed =
    let free = none_refused p chip kept in
    let chosen = subst (λ (s : Sizes). AreChosen (map operation_of (kinds s.kept_bits program.ops)) listed.choice) sizes listed.chosen in
    let a = listed.primitives words in
    let b = listed.turns cycles in
    let c = listed.boot cycles in
    let d = words_within p program words cycles chip table lowered listed.choice chosen free in
    let e = cycles_within p program words cycles chip table lowered listed.choice chosen free in
    let f = boot_within p program words cycles chip table lowered listed.choice chosen free in
    record { words_few = omega (arith, a, d); cycles_few = omega (arith, b, e); boot_few = omega (arith, c, f) }
