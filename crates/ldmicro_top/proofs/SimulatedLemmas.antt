-- What a program that keeps a ladder's history shows over a trace is what the ladder shows.
use Rattle.std.proofs.Common.{◌≡◌, ℕ, ◌<◌, pos, subst, false, List, [], ◌∷◌, length, map, sym, refl, ap, ◌∙◌, arith}
use Rattle.std.specs.Prelude.{slice_index_or, unsigned_abs}
use Rattle.std.proofs.lemmas.List.{ext_get_or, get_or-map, length-map}
use Rattle.std.proofs.lemmas.List.FromFn.{length-map-range_with_len, get_or-map-range_with_len}
use Rattle.ladder_tree.specs.declared.names.Names.{Names}
use Rattle.ladder_tree.specs.Names.{names_of}
use Rattle.ladder_tree.specs.declared.project.Project.{Project}
use Rattle.ladder_meaning.specs.Cycle.{Ended, start, history}
use Rattle.ladder_meaning.specs.State.{seen}
use Rattle.ladder_meaning.specs.View.{firsts, sent_of, bytes_of}
use Rattle.ladder_trace.specs.Simulated.{readings, eeprom_of, lines_from, duty_shown, view_with, simulated}
use Rattle.ladder_trace.specs.Duty.{duty_as}
use Rattle.ladder_trace.specs.declared.duty.DutyShown.{DutyShown}
use Rattle.ladder_trace.specs.declared.trace.Trace.{Trace}
use Rattle.int_code.specs.Meaning.{Moment}
use Rattle.int_code.specs.Store as store
use Rattle.int_code.specs.declared.op.IntProgram.{IntProgram}
use Rattle.int_sim.specs.Machine.{view_by}
use Rattle.ladder_lower.specs.Correct.{ShowsEnd, ShowsAll}
use Rattle.ladder_lower.specs.Outcome.{IsLowered}
use Rattle.trace_run.specs.Run.{run_lines}
use Rattle.interp_code.specs.declared.program.InterpProgram.{InterpProgram}
use Rattle.ldmicro_top.specs.Carries.{EachEnds, CarriesInterp}
use Rattle.ldmicro_top.specs.Code.{IsCode}
use Rattle.ldmicro_top.specs.Replayed.{SameNames, replayed}
use Rattle.ldmicro_top.proofs.CarryLemmas.{start_shown}
use Rattle.ldmicro_top.proofs.CodeLemmas.{one_code}

-- what stands at the places of names is what the names have
named : {A : Type 0} (d : A) (names : List (List ℕ)) (f : ℕ → A) (g : List ℕ → A) → ((k : ℕ) → k < length names → f k ≡ g (slice_index_or names k [])) →
    firsts (length names) f ≡ map g names
named d names f g same =
    ext_get_or d (firsts (length names) f) (map g names)
    (length-map-range_with_len f 0 (length names) ∙ sym (length-map names g))
    (λ i lt.
    let less : i < length names = omega (arith, length-map-range_with_len f 0 (length names)) in
    get_or-map-range_with_len f 0 (length names) i i d less (omega arith) ∙ same i less ∙ sym (get_or-map g names i [] d less))

-- what a program shows has the places of the names
record HasViews (n : Names) (program : IntProgram) : Type 0 where
  outputs : program.outputs ≡ length n.outputs
  variables : program.variables ≡ length n.variables
  persistent : program.persistent ≡ length n.persistent

-- at the end of a cycle the program shows what the ladder shows
views_agree : (how : DutyShown) (n : Names) (program : IntProgram) (e : Ended) (m : Moment) → HasViews n program → ShowsEnd n e m →
    view_by how n program m.store ≡ view_with how n e
views_agree how n program e m sizes h =
    let t = m.store in
    let outputs = ap (λ k. firsts k t.output) sizes.outputs ∙ named false n.outputs t.output e.state.bit h.shows.outputs in
    let relays = named false n.relays t.bit e.state.bit h.shows.relays in
    let variables = ap (λ k. firsts k t.number) sizes.variables ∙ named (pos 0) n.variables t.number e.state.number h.shows.variables in
    let pwm = ap (λ duty. duty_as how (unsigned_abs duty)) h.shows.duty in
    let sent = ap sent_of h.sent in
    let eeprom = ap (λ k. bytes_of k t.devices.eeprom) sizes.persistent ∙ ap (bytes_of (length n.persistent)) h.shows.eeprom in
    cc

-- and so at the end of each cycle
all_agree : (how : DutyShown) (n : Names) (program : IntProgram) (es : List Ended) (ms : List Moment) → HasViews n program → ShowsAll n es ms →
    map (λ m. view_by how n program m.store) ms ≡ map (view_with how n) es
all_agree how n program [] [] sizes h = refl
all_agree how n program (e ∷ es) (m ∷ ms) sizes h =
    let one = views_agree how n program e m sizes h.0 in
    let more = all_agree how n program es ms sizes h.1 in
    cc
all_agree how n program [] (m ∷ ms) sizes h = absurd h
all_agree how n program (e ∷ es) [] sizes h = absurd h

-- the lines of a ladder by its names, with the duty as it is told to
abbrev lines_with : DutyShown → Names → Project → Trace → List ℕ
lines_with how n p trace = lines_from n 0 (map (view_with how n) (history p (start p (eeprom_of trace)) (map (seen n) (readings trace.steps))))

-- the lines of a lowered project's program
pub simulated_of : (p : Project) (n : Names) (program : IntProgram) (trace : Trace) → n ≡ names_of p.rungs → IsLowered n p program →
    run_lines (duty_shown p) n program trace ≡ simulated p trace
simulated_of p n program trace named lowered =
    let begun = start_shown n p program (eeprom_of trace) lowered.sizes in
    let kept = lowered.keeps.each (start p (eeprom_of trace)) (store.start program.starts (eeprom_of trace)) (readings trace.steps) begun in
    let sizes = lowered.sizes in
    let views : HasViews n program = record { outputs = sizes.outputs; variables = sizes.variables; persistent = sizes.persistent } in
    ap (lines_from n 0) (all_agree (duty_shown p) n program _ _ views kept)
    ∙ ap (λ (names : Names). lines_with (duty_shown p) names p trace) named

-- Interpretable texts that carry a project.

all_shown : (n : Names) (most : ℕ) (es : List Ended) (ms : List Moment) → EachEnds n most es ms → ShowsAll n es ms
all_shown n most [] [] h = tt
all_shown n most (e ∷ es) (m ∷ ms) h = (h.0.ends, all_shown n most es ms h.1)
all_shown n most [] (m ∷ ms) h = absurd h
all_shown n most (e ∷ es) [] h = absurd h

-- its program has the project's names
pub carried_names : (p : Project) (code : List ℕ) (most : ℕ) (said : InterpProgram) → CarriesInterp p code most → IsCode code said →
    SameNames (names_of p.rungs) said.names
carried_names p code most said c h =
    let same : c.program ≡ said = one_code code c.program said (c.read, c.within) h in
    subst (λ (q : InterpProgram). SameNames (names_of p.rungs) q.names) same
    (record { inputs = c.inputs; outputs = c.outputs; analogs = c.analogs; variables = c.variables; relays = c.relays; persistent = c.persistent })

-- and its lines over a trace are those of the ladder
pub carried_lines : (p : Project) (code : List ℕ) (most : ℕ) (said : InterpProgram) (trace : Trace) → CarriesInterp p code most → IsCode code said →
    replayed p said.program trace ≡ simulated p trace
carried_lines p code most said trace c h =
    let n = names_of p.rungs in
    let sound = c.read.says.sound in
    let views : HasViews n c.program.program = record {
      outputs = sound.output_count ∙ ap length c.outputs;
      variables = sound.variable_count ∙ ap length c.variables;
      persistent = sound.persistent_count ∙ ap length c.persistent;
    } in
    let same : c.program ≡ said = one_code code c.program said (c.read, c.within) h in
    subst (λ (q : InterpProgram). replayed p q.program trace ≡ simulated p trace) same
    (ap (lines_from n 0) (all_agree (duty_shown p) n c.program.program _ _ views (all_shown n most _ _ (c.each (eeprom_of trace) (readings trace.steps)))))
