use Rattle.std.proofs.Common.{◌++◌, length, map, refl, ap, ◌∙◌}
use Rattle.std.proofs.lemmas.List.{length-map}
use Rattle.ladder_tree.specs.declared.names.Names.{Names}
use Rattle.ladder_tree.specs.Leaves.{all_leaves}
use Rattle.ladder_meaning.specs.Cycle.{start_number}
use Rattle.ladder_lower.specs.declared.layout.Layout.{Layout}
use Rattle.ladder_lower.proofs.ProgramLemmas.{apart}
use Rattle.c_output.specs.Laid.{terms_of}
use Rattle.c_output.specs.Text.{head_text, names_text, functions_text, cycle_text, terms, c_text_of}
use Rattle.c_output.proofs.WholeLemmas.{laid, fits, room, whole}
use Rattle.c_output.proofs.write.write_by.Goals as goal

pub hold-requires : goal.hold-requires
hold-requires c = apart c.args.names.now c.args.project.now c.requires.project.names

pub start_values-requires-clause-fits : goal.start_values-requires-clause-fits
start_values-requires-clause-fits c =
    let n = c.args.names.now in
    let q = c.args.project.now in
    rw (laid n q _ _ _ c.in_ok-hold.ensures c.requires.cycle) (fits n q _ c.requires.project)

pub start_values-requires-clause-cycle : goal.start_values-requires-clause-cycle
start_values-requires-clause-cycle c = rw (laid c.args.names.now c.args.project.now _ _ _ c.in_ok-hold.ensures c.requires.cycle) c.requires.project.cycle

pub start_values-requires-clause-fit : goal.start_values-requires-clause-fit
start_values-requires-clause-fit c = rw (laid c.args.names.now c.args.project.now _ _ _ c.in_ok-hold.ensures c.requires.cycle) c.requires.project.fit

pub start_values-requires-clause-names : goal.start_values-requires-clause-names
start_values-requires-clause-names c =
    rw (laid c.args.names.now c.args.project.now _ _ _ c.in_ok-hold.ensures c.requires.cycle, c.requires.project.names) refl

pub push_names-requires : goal.push_names-requires
push_names-requires c =
    let n = c.args.names.now in
    let q = c.args.project.now in
    let same = laid n q _ _ _ c.in_ok-hold.ensures c.requires.cycle in
    ap length (c.as_slice.ensures ∙ c.in_ok-starts.ensures) ∙ length-map c.hold.new.self.variables _ ∙ ap (λ (p : Layout). length p.variables) same

pub push_cycle-requires-clause-fits : goal.push_cycle-requires-clause-fits
push_cycle-requires-clause-fits c =
    let n = c.args.names.now in
    let q = c.args.project.now in
    rw (laid n q _ _ _ c.in_ok-hold.ensures c.requires.cycle) (fits n q _ c.requires.project)

pub push_cycle-requires-clause-cycle : goal.push_cycle-requires-clause-cycle
push_cycle-requires-clause-cycle c = rw (laid c.args.names.now c.args.project.now _ _ _ c.in_ok-hold.ensures c.requires.cycle) c.requires.project.cycle

pub push_cycle-requires-clause-depth : goal.push_cycle-requires-clause-depth
push_cycle-requires-clause-depth c = rw c.as_slice-2.ensures c.requires.project.depth

pub push_cycle-requires-clause-room : goal.push_cycle-requires-clause-room
push_cycle-requires-clause-room c = rw c.as_slice-2.ensures (room c.args.names.now c.args.project.now _ c.requires.project)

pub returns : goal.returns
returns c =
    let n = c.args.names.now in
    let q = c.args.project.now in
    let same = laid n q _ _ _ c.in_ok-hold.ensures c.requires.cycle in
    let starts = c.in_ok-starts.ensures ∙ ap (λ (p : Layout). map (start_number p.cycle (all_leaves q.rungs)) p.variables) same in
    c.from_vec.ensures ∙
    whole c.push_head.new.text.items c.push_names.new.text.items c.push_functions.new.text.items c.push_cycle.new.text.items
    (head_text q.cycle) (names_text n (map (start_number q.cycle (all_leaves q.rungs)) n.variables)) functions_text (cycle_text (terms q.cycle n) n q.rungs)
    (c.in_ok-push_head.ensures ∙ ap (λ t. t ++ head_text q.cycle) c.new-text.ensures.items)
    (c.in_ok-push_names.ensures ∙ ap (λ ss. c.push_head.new.text.items ++ names_text n ss) (c.as_slice.ensures ∙ starts))
    c.in_ok-push_functions.ensures
    (c.in_ok-push_cycle.ensures
    ∙ ap (λ (p : Layout). c.push_functions.new.text.items ++ cycle_text (terms_of p) n c.as_slice-2.result.now) same
    ∙ ap (λ gs. c.push_functions.new.text.items ++ cycle_text (terms q.cycle n) n gs) c.as_slice-2.ensures)
    ∙ ap (λ (m : Names). c_text_of q.cycle m (map (start_number q.cycle (all_leaves q.rungs)) m.variables) q.rungs) c.requires.project.names
