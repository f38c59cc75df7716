use Rattle.std.proofs.Common.{◌≡◌, ◌-◌, ◌<◌, length, replicate, drop, pos, to_z, of_z, w16, sym, ap, ◌∙◌, arith}
use Rattle.std.proofs.lemmas.Int.{to_z-of_z}
use Rattle.std.proofs.lemmas.List.{length-map}
use Rattle.ladder_meaning.specs.Cycle.{start_number}
use Rattle.ladder_tree.specs.Leaves.{all_leaves}
use Rattle.ladder_tree.specs.Names.{all_named, variable_names}
use Rattle.ladder_lower.specs.Fit.{all_fit}
use Rattle.ladder_lower.specs.Apart.{Apart}
use Rattle.ladder_lower.proofs.NameLemmas.{firsts_seen}
use Rattle.ladder_lower.proofs.StartLemmas.{shown, from_place, none_left, zeros, others_stay, tof_written, tof_fits, tof_placed}
use Rattle.ladder_lower.proofs.starts.start_values.Goals as goal

pub loop-i-init : goal.loop-i-init
loop-i-init c =
    let made : c.in_ok-starts.starts.items ≡ replicate c.len.result (pos 0) = c.in_ok-starts.ensures.items_if_clones_equal (λ y h. h) in
    rw (made, c.len.ensures, none_left c.in_ok-leaves.leaves.items c.len-i.result (omega (arith, c.len-i.ensures, c.in_ok-leaves.leaves.ok.0)))
    (zeros c.args.layout.now.cycle c.args.layout.now.variables)

pub loop-i-preserved : goal.loop-i-preserved
loop-i-preserved c =
    let below : c.loop-i.i - 1 < length c.in_ok-leaves.leaves.items = omega
    (arith, c.loop-i-test.true, c.loop-i.auto.i, c.len-i.ensures, c.in_ok-leaves.leaves.ok.0) in
    rw (from_place c.in_ok-leaves.leaves.items (c.loop-i.i - 1) c.loop-i.i c.index.result.now (omega (arith, c.loop-i-test.true)) below c.index.ensures)
    (c.loop-i.invariant ∙ sym
    (others_stay c.args.layout.now.cycle c.index.result.now.now
    (drop c.loop-i.i (shown c.in_ok-leaves.leaves.items)) c.args.layout.now.variables c.in_default.ensures.none))

pub period-requires-clause-fits : goal.period-requires-clause-fits
period-requires-clause-fits c =
    let below : c.loop-i.i - 1 < length c.in_ok-leaves.leaves.items = omega
    (arith, c.loop-i-test.true, c.loop-i.auto.i, c.len-i.ensures, c.in_ok-leaves.leaves.ok.0) in
    tof_fits c.args.layout.now.cycle c.in_ok-leaves.leaves.items
    (c.loop-i.i - 1) c.index.result.now c.in-Some.timer.name.now c.in-Some.timer.delay below c.index.ensures
    (ap (all_fit c.args.layout.now.cycle) c.in_ok-leaves.ensures ∙ c.requires.fit) c.in-Some.ensures.some

pub index_mut-requires : goal.index_mut-requires
index_mut-requires c =
    let below : c.loop-i.i - 1 < length c.in_ok-leaves.leaves.items = omega
    (arith, c.loop-i-test.true, c.loop-i.auto.i, c.len-i.ensures, c.in_ok-leaves.leaves.ok.0) in
    let placed = rw (c.in_ok-leaves.ensures, sym c.requires.names) at
    (tof_placed c.in_ok-leaves.leaves.items
    (c.loop-i.i - 1) c.index.result.now c.in-Some.timer.name.now c.in-Some.timer.delay below c.index.ensures c.in-Some.ensures.some) in
    let count = ap length c.loop-i.invariant in
    rw c.variable_of.ensures
    (omega (
      arith,
      placed,
      count,
      c.loop-i.starts.ok.0,
      length-map c.args.layout.now.variables (start_number c.args.layout.now.cycle (drop c.loop-i.i (shown c.in_ok-leaves.leaves.items))),
    ))

pub loop-i-preserved-in-Some : goal.loop-i-preserved-in-Some
loop-i-preserved-in-Some c =
    let below : c.loop-i.i - 1 < length c.in_ok-leaves.leaves.items = omega
    (arith, c.loop-i-test.true, c.loop-i.auto.i, c.len-i.ensures, c.in_ok-leaves.leaves.ok.0) in
    let value : to_z w16 (of_z w16 c.period.result) ≡ c.period.result = grind (arith, to_z-of_z) in
    let apart : Apart c.args.layout.now.variables = rw c.requires.names (firsts_seen (all_named variable_names (all_leaves c.args.project.now.rungs))).apart in
    rw (
      value,
      c.variable_of.ensures,
      c.period.ensures,
      c.loop-i.invariant,
      from_place c.in_ok-leaves.leaves.items (c.loop-i.i - 1) c.loop-i.i c.index.result.now (omega (arith, c.loop-i-test.true)) below c.index.ensures,
    )
    (tof_written c.args.layout.now.cycle c.index.result.now.now
    (drop c.loop-i.i (shown c.in_ok-leaves.leaves.items)) c.in-Some.timer.name.now c.in-Some.timer.delay c.args.layout.now.variables
    c.in-Some.ensures.some apart)
