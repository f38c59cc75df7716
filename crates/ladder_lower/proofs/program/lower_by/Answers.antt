use Rattle.std.proofs.Common.{map, refl, ap, ◌∙◌, arith}
use Rattle.ladder_tree.specs.Leaves.{all_leaves}
use Rattle.ladder_meaning.specs.Cycle.{start_number}
use Rattle.ladder_lower.specs.Nesting.{nesting_of_all}
use Rattle.ladder_lower.specs.declared.layout.Layout.{Layout}
use Rattle.ladder_lower.proofs.LoopLemmas.{fits_less}
use Rattle.ladder_lower.proofs.ProgramLemmas.{layout, laid, apart, small, fits, room, few_wires, lowered}
use Rattle.ladder_lower.proofs.program.lower_by.Goals as goal

pub hold-requires : goal.hold-requires
hold-requires c = apart c.args.names.now c.args.project.now c.requires.project.names

pub emit_program-requires-clause-fits : goal.emit_program-requires-clause-fits
emit_program-requires-clause-fits c =
    let n = c.args.names.now in
    let q = c.args.project.now in
    rw (laid n q _ _ _ c.in_ok-hold.ensures c.requires.cycle c.requires.master, c.as_slice-rungs.ensures) (fits n q c.requires.project)

pub emit_program-requires-clause-room : goal.emit_program-requires-clause-room
emit_program-requires-clause-room c =
    let n = c.args.names.now in
    let q = c.args.project.now in
    rw (laid n q _ _ _ c.in_ok-hold.ensures c.requires.cycle c.requires.master, c.as_slice-rungs.ensures) (room n q c.requires.project)

pub emit_program-requires-clause-cycle : goal.emit_program-requires-clause-cycle
emit_program-requires-clause-cycle c =
    let n = c.args.names.now in
    let q = c.args.project.now in
    rw (laid n q _ _ _ c.in_ok-hold.ensures c.requires.cycle c.requires.master) c.requires.project.cycle

pub emit_program-requires-clause-fit : goal.emit_program-requires-clause-fit
emit_program-requires-clause-fit c =
    let n = c.args.names.now in
    let q = c.args.project.now in
    rw (laid n q _ _ _ c.in_ok-hold.ensures c.requires.cycle c.requires.master, c.as_slice-rungs.ensures) c.requires.project.fit

pub start_values-requires-clause-fits : goal.start_values-requires-clause-fits
start_values-requires-clause-fits c =
    let n = c.args.names.now in
    let q = c.args.project.now in
    rw (laid n q _ _ _ c.in_ok-hold.ensures c.requires.cycle c.requires.master)
    (fits_less (layout n q) (nesting_of_all q.rungs) 0 (omega arith) (fits n q c.requires.project))

pub start_values-requires-clause-cycle : goal.start_values-requires-clause-cycle
start_values-requires-clause-cycle c =
    let n = c.args.names.now in
    let q = c.args.project.now in
    rw (laid n q _ _ _ c.in_ok-hold.ensures c.requires.cycle c.requires.master) c.requires.project.cycle

pub start_values-requires-clause-fit : goal.start_values-requires-clause-fit
start_values-requires-clause-fit c =
    let n = c.args.names.now in
    let q = c.args.project.now in
    rw (laid n q _ _ _ c.in_ok-hold.ensures c.requires.cycle c.requires.master) c.requires.project.fit

pub start_values-requires-clause-names : goal.start_values-requires-clause-names
start_values-requires-clause-names c =
    let n = c.args.names.now in
    let q = c.args.project.now in
    rw (laid n q _ _ _ c.in_ok-hold.ensures c.requires.cycle c.requires.master, c.requires.project.names) refl

pub wires-wires-requires : goal.wires-wires-requires
wires-wires-requires c =
    let n = c.args.names.now in
    let q = c.args.project.now in
    rw (c.nesting.ensures, laid n q _ _ _ c.in_ok-hold.ensures c.requires.cycle c.requires.master, c.as_slice-rungs.ensures)
    (fits n q c.requires.project)

pub assemble-requires-clause-small : goal.assemble-requires-clause-small
assemble-requires-clause-small c = small c.args.names.now c.args.project.now c.requires.project

pub nesting-requires : goal.nesting-requires
nesting-requires c = rw c.as_slice-rungs.ensures (let few = few_wires c.args.names.now c.args.project.now c.requires.project in omega arith)

pub assemble-requires-clause-wires : goal.assemble-requires-clause-wires
assemble-requires-clause-wires c =
    let n = c.args.names.now in
    let q = c.args.project.now in
    let few = few_wires n q c.requires.project in
    rw (c.wires-wires.ensures, c.nesting.ensures, laid n q _ _ _ c.in_ok-hold.ensures c.requires.cycle c.requires.master, c.as_slice-rungs.ensures)
    (omega (arith, few))

pub returns : goal.returns
returns c =
    let n = c.args.names.now in
    let q = c.args.project.now in
    let same = laid n q _ _ _ c.in_ok-hold.ensures c.requires.cycle c.requires.master in
    let rungs = c.as_slice-rungs.ensures in
    lowered n q c.assemble.result c.requires.project
    (c.assemble.ensures.sizes q (c.in_ok-starts.ensures ∙ ap (λ (p : Layout). map (start_number p.cycle (all_leaves q.rungs)) p.variables) same))
    (rw (c.assemble.ensures.bits, c.wires-wires.ensures, c.nesting.ensures, same, rungs) refl)
    (rw (c.assemble.ensures.ops, c.in_ok-emit_program.ensures, c.new-ops.ensures, same, rungs) refl)
