-- What is known of a project whose names are its lists.
use Rattle.std.proofs.Common.{◌≡◌, ◌+◌, ◌≤◌, Bool, true, false, cond, length, ap, arith, ℕ, refl}
use Rattle.std.proofs.lemmas.List.{length-map}
use Rattle.ladder_tree.specs.Leaves.{all_leaves}
use Rattle.ladder_tree.specs.Names.{names_of}
use Rattle.ladder_tree.specs.declared.names.Names.{Names}
use Rattle.ladder_tree.specs.declared.project.Project.{Project}
use Rattle.ladder_meaning.specs.Cycle.{start_number}
use Rattle.int_code.specs.Kinds.{kinds, IsWithin}
use Rattle.int_code.specs.Lowered.{allowed}
use Rattle.int_code.specs.WellFormed.{IsWellFormed, sizes_of}
use Rattle.int_code.specs.declared.op.IntProgram.{IntProgram}
use Rattle.ladder_lower.specs.Apart.{EachApart}
use Rattle.ladder_lower.specs.Masters.{any_master}
use Rattle.ladder_lower.specs.Nesting.{nesting_of_all}
use Rattle.ladder_lower.specs.NodeCode.{program_code, memories_of}
use Rattle.ladder_lower.specs.Outcome.{CanLower, IsLowered, HasSizes, IsSmall, HasRoom}
use Rattle.ladder_lower.specs.Wires.{layout_of, Fits, wires}
use Rattle.ladder_lower.specs.declared.layout.Layout.{Layout}
use Rattle.ladder_lower.proofs.CapLemmas.{within_cap, within_lines, program_tabs}
use Rattle.ladder_lower.proofs.CarefulLemmas.{program_careful}
use Rattle.ladder_lower.proofs.CountLemmas.{rungs_count_memories, rungs_nested, rungs_sized}
use Rattle.ladder_lower.proofs.HistoryLemmas.{keeps_history}
use Rattle.ladder_lower.proofs.NameLemmas.{names_apart, names_named, names_listed, names_counted}
use Rattle.ladder_lower.proofs.KindLemmas.{program_within}
use Rattle.ladder_lower.proofs.LiteralLemmas.{program_numbers}
use Rattle.ladder_lower.proofs.NestLemmas.{program_nests}
use Rattle.ladder_lower.proofs.PartLemmas.{Ready}
use Rattle.ladder_lower.proofs.PwmLemmas.{program_agrees}
use Rattle.ladder_lower.proofs.RangeLemmas.{program_in}
use Rattle.ladder_lower.proofs.Stands.{AllNamed}

masters_most : (b : Bool) → cond b 1 0 ≤ 1
masters_most true = omega arith
masters_most false = omega arith

pub small : (n : Names) (q : Project) → CanLower n q → IsSmall n
small n q l =
    let c = names_counted q.rungs q.cycle l.fit in
    let e = l.names in
    let s = rungs_sized q.rungs in
    let f = l.size in
    record {
      inputs = rw e (let x = c.inputs in omega arith);
      outputs = rw e (let x = c.outputs in omega arith);
      analogs = rw e (let x = c.analog in omega arith);
      variables = rw e (let x = c.variables in omega arith);
      kept = rw e (let x = c.kept in omega arith);
    }

pub apart : (n : Names) (q : Project) → n ≡ names_of q.rungs → EachApart n
apart n q e = rw e (names_apart q.rungs)

-- its layout
abbrev pub layout : Names → Project → Layout
layout n q = layout_of n q.cycle (any_master (all_leaves q.rungs))

-- a layout that has the names, the cycle and the master relay
pub laid : (n : Names) (q : Project) (p : Layout) (cycle : ℕ) (master : Bool) → p ≡ layout_of n cycle master → cycle ≡ q.cycle
    → master ≡ any_master (all_leaves q.rungs) → p ≡ layout n q
laid n q p cycle master e f g = rw (e, f, g) refl

pub named : (n : Names) (q : Project) → CanLower n q → AllNamed (layout n q) (all_leaves q.rungs)
named n q l = rw l.names (names_named q.rungs q.cycle l.named)

pub fits : (n : Names) (q : Project) → CanLower n q → Fits (layout n q) (nesting_of_all q.rungs)
fits n q l =
    let s = small n q l in
    let x = s.kept in let y = s.inputs in let z = s.outputs in let v = s.variables in let a = s.analogs in
    let m = masters_most (any_master (all_leaves q.rungs)) in
    let d = rungs_nested q.rungs in let e = l.depth in
    record { bits = omega arith; inputs = omega arith; outputs = omega arith; variables = omega arith; analog = omega arith }

pub room : (n : Names) (q : Project) → CanLower n q → memories_of (layout n q) q.rungs ≤ n.memories
room n q l = let m = rungs_count_memories (layout n q) q.rungs in rw (m, l.names) (omega arith)

pub ready : (n : Names) (q : Project) → CanLower n q → Ready (layout n q) q.rungs
ready n q l = record { room = room n q l; apt = record { named = named n q l; fit = l.fit } }

-- at most 35 wires
pub few_wires : (n : Names) (q : Project) → CanLower n q → wires (layout n q) (nesting_of_all q.rungs) ≤ 35
few_wires n q l =
    let m = masters_most (any_master (all_leaves q.rungs)) in
    let d = rungs_nested q.rungs in let e = l.depth in
    omega arith

formed : (n : Names) (q : Project) (p : IntProgram) → CanLower n q → HasSizes n q p → p.bits ≡ p.kept_bits + wires (layout n q) (nesting_of_all q.rungs)
    → p.ops ≡ program_code (layout n q) q.rungs → IsWellFormed p
formed n q p l s bits ops =
    let kept = s.kept in
    let i = s.inputs in let o = s.outputs in let a = s.analogs in let v = s.variables in let e = s.persistent in
    record {
      nests = rw ops (program_nests (layout n q) q.rungs (ready n q l));
      range = rw ops (program_in (layout n q) (sizes_of p) (nesting_of_all q.rungs)
          (record { bits = omega arith; outputs = omega arith; inputs = omega arith; analogs = omega arith; variables = omega arith; persistent = omega arith })
          q.rungs (omega arith) (ready n q l));
      kept = omega arith;
      starts = let b = ap length s.starts in omega (arith, b, length-map n.variables (start_number q.cycle (all_leaves q.rungs)));
    }

roomy : (n : Names) (q : Project) (p : IntProgram) → CanLower n q → HasSizes n q p → p.ops ≡ program_code (layout n q) q.rungs
    → IsWithin (kinds p.kept_bits p.ops) (allowed q.rungs) → HasRoom p
roomy n q p l s ops within =
    let f = within_lines p.kept_bits q.cycle p.ops q.rungs within l.fit in let size = l.size in
    let t = program_tabs (layout n q) q.rungs (ready n q l) in let lines = rungs_sized q.rungs in
    let k = (small n q l).kept in let kept = s.kept in let w = s.wires in
    record { ops = omega (arith, f, size); tabs = rw ops (omega (arith, t, lines, size)); bits = omega arith }

pub lowered : (n : Names) (q : Project) (p : IntProgram) → CanLower n q → HasSizes n q p → p.bits ≡ p.kept_bits + wires (layout n q) (nesting_of_all q.rungs)
    → p.ops ≡ program_code (layout n q) q.rungs → IsLowered n q p
lowered n q p l s bits ops =
    let r = ready n q l in
    let uses = program_agrees (layout n q) q.rungs r in
    let within : IsWithin (kinds p.kept_bits p.ops) (allowed q.rungs) = rw (ops, s.kept) (program_within (layout n q) q.rungs r) in
    record {
      keeps = rw ops (keeps_history n (any_master (all_leaves q.rungs)) q l.names (rw l.names (names_listed q.rungs)) (named n q l) (room n q l));
      formed = formed n q p l s bits ops;
      sizes = s;
      code = ops;
      within = within;
      cap = within_cap p.kept_bits p.ops q.rungs within;
      careful = rw ops (program_careful (layout n q) q.rungs r);
      duty = rw ops uses.duty;
      hertz = rw ops uses.hertz;
      serial = rw ops uses.serial;
      numbers = rw ops (program_numbers (layout n q) q.rungs r);
      room = roomy n q p l s ops within;
      small = small n q l;
    }
