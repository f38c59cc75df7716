use Rattle.std.proofs.Common.{refl, le_refl, subst}
use Rattle.ldmicro_top.specs.Command.{Command, Other}
use Rattle.ldmicro_top.specs.Ran.{Ran}
use Rattle.ldmicro_top.specs.World.{world}
use Rattle.ldmicro_top.proofs.RanLemmas.{Later, useless}
use Rattle.ldmicro_top.proofs.run.run.Goals as goal

pub returns-in-Other-clause-ran : goal.returns-in-Other-clause-ran
returns-in-Other-clause-ran g c =
    let F = g.F.Files in
    let O = g.O.Out in
    let old = world F O c.args.files.now c.args.out.now in
    let new = world F O c.args.files.now c.tell.new.out in
    let later : Later old new = record { reads = le_refl _; absences = le_refl _; writes = le_refl _; faults = c.tell.ensures.later } in
    subst (λ (k : Command). Ran F.tells O.tells k old new c.tell.result) c.in-Other.ensures
    (useless F.tells O.tells Other old new later c.tell.result refl (λ _ n. refl) c.tell.ensures)
