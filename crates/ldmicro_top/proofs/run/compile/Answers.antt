use Rattle.std.proofs.Common.{arith, List, ℕ, refl, subst}
use Rattle.std.specs.String.{string_bytes}
use Rattle.ldmicro_top.specs.declared.status.Status.TheVariants.{Ok}
use Rattle.ldmicro_top.specs.Command.{Compile}
use Rattle.ldmicro_top.specs.Steps.{Told}
use Rattle.ldmicro_top.specs.World.{world}
use Rattle.ldmicro_top.proofs.GoodLemmas.{compiled_good}
use Rattle.ldmicro_top.proofs.RanLemmas.{Later, declined, unwritten, reported, from_middle}
use Rattle.ldmicro_top.proofs.run.compile.Goals as goal

pub returns-in-Err : goal.returns-in-Err
returns-in-Err g c =
    let F = g.F.Files in
    let O = g.O.Out in
    let only = c.take_compiled.ensures.only in
    let command = Compile c.args.source.now c.args.dest.now in
    let old = world F O c.args.files.now c.args.out.now in
    let new = world F O c.take_compiled.new.files c.tell.new.out in
    let later : Later old new = record { reads = only.reads; absences = only.absences; writes = omega (arith, only.writes); faults = c.tell.ensures.later } in
    declined F.tells O.tells command old new later c.in-Err.status c.tell.result tt c.in-Err.ensures.declined only.same c.tell.ensures

pub returns-in-Ok-write_dest : goal.returns-in-Ok-write_dest
returns-in-Ok-write_dest g c =
    let F = g.F.Files in
    let O = g.O.Out in
    let only = c.take_compiled.ensures.only in
    let source = c.args.source.now in
    let dest = c.args.dest.now in
    let code = c.in-Ok.compiled.code in
    let printed = string_bytes c.in-Ok.compiled.report in
    let old = world F O c.args.files.now c.args.out.now in
    let new = world F O c.write_dest.new.files c.say.new.out in
    let reads = only.reads in
    let absences = only.absences in
    let writes = only.writes in
    let later : Later old new = record { reads = omega arith; absences = omega arith; writes = omega arith; faults = c.say.ensures.later } in
    reported F.tells O.tells (Compile source dest) old new later code printed c.say.result
    (λ y. compiled_good source dest old.held code printed (c.in-Ok.ensures.compiled y))
    (λ y. (c.in-Ok.ensures.compiled y, refl))
    (λ y. from_middle dest code old.held (F.held c.take_compiled.new.files) new.held (only.same y)
    (rw (← c.as_slice.ensures) (c.in-Ok-write_dest.ensures.whole y)))
    (subst (λ (line : List ℕ). Told O.tells old.faults new.faults old.written new.written line Ok c.say.result) c.as_bytes.ensures.value c.say.ensures)

pub returns : goal.returns
returns g c =
    let F = g.F.Files in
    let O = g.O.Out in
    let only = c.take_compiled.ensures.only in
    let old = world F O c.args.files.now c.args.out.now in
    let new = world F O c.write_dest.new.files c.tell-in-Err-write_dest.new.out in
    let reads = only.reads in
    let absences = only.absences in
    let writes = only.writes in
    let later : Later old new = record { reads = omega arith; absences = omega arith; writes = omega arith; faults = c.tell-in-Err-write_dest.ensures.later } in
    unwritten F.tells O.tells c.args.source.now c.args.dest.now old new later c.in-Ok.compiled.code
    (string_bytes c.in-Ok.compiled.report) c.in-Err-write_dest.status c.tell-in-Err-write_dest.result
    (F.held c.take_compiled.new.files) only.same c.in-Ok.ensures.compiled
    (rw (← c.as_slice.ensures, ← only.writes) c.in-Err-write_dest.ensures.unwritten)
    c.tell-in-Err-write_dest.ensures
