use Rattle.std.proofs.Common.{length, ap, ◌∙◌, subst, arith}
use Rattle.ladder_tree.specs.declared.names.Names.{Names}
use Rattle.ladder_lower.specs.Correct.{KeepsHistory}
use Rattle.ladder_lower.specs.Outcome.{HasSizes}
use Rattle.interp_code.specs.Program.{IsProgram, read_as}
use Rattle.texts.specs.Lines.{lines}
use Rattle.chip_tables.specs.Memory.{flash_size}
use Rattle.ldmicro_top.specs.Report.{report}
use Rattle.ldmicro_top.proofs.CarryLemmas.{carried}
use Rattle.ldmicro_top.proofs.LengthLemmas.{text_short}
use Rattle.ldmicro_top.proofs.NamedLemmas.{writable_names}
use Rattle.ldmicro_top.proofs.RoomLemmas.{few}
use Rattle.ldmicro_top.proofs.TargetLemmas.{no_flash, carries_on, cap_on, reports_on}
use Rattle.ldmicro_top.proofs.compile.compile_interp.Goals as goal

pub write_interp-requires : goal.write_interp-requires
write_interp-requires c =
    let r = c.requires.judged in
    let p = c.args.legal.now.project in
    let names = c.args.legal.now.names in
    let program = c.in_ok-program.program in
    let l = rw (c.names-names.ensures, c.project-project.ensures) at c.in_ok-program.ensures in
    let room = few p.target names r.fits in
    rw (c.names-names.ensures, c.project-project.ensures)
    (writable_names p names program r.can.names r.can.named r.within.read r.within.cycle room.persistent l.formed l.numbers l.sizes l.room)

pub returns : goal.returns
returns c =
    let r = c.requires.judged in
    let p = c.args.legal.now.project in
    let names = c.args.legal.now.names in
    let program = c.in_ok-program.program in
    let code = c.in_ok-code.code in
    let room = few p.target names r.fits in
    let interp = c.requires.target in
    let l = rw (c.names-names.ensures, c.project-project.ensures) at c.in_ok-program.ensures in
    let texts = rw (c.names-names.ensures, c.project-project.ensures) at c.in_ok-code.ensures in
    let writable = writable_names p names program r.can.names r.can.named r.within.read r.within.cycle room.persistent l.formed l.numbers l.sizes l.room in
    record {
      cycles = length program.ops;
      boot = 0;
      carries = carries_on p code (length program.ops) 0 interp (carried p program code
          (subst (λ (n : Names). IsProgram (lines code) (read_as p.cycle n program)) r.can.names texts.reads_back)
          (rw texts.text (text_short p names program writable l.small room l.room l.numbers l.sizes r.can.fit))
          (subst (λ (n : Names). HasSizes n p program) r.can.names l.sizes)
          (subst (λ (n : Names). KeepsHistory n p program.ops) r.can.names l.keeps));
      room = no_flash p (ap flash_size interp);
      cycles_few = cap_on p (length program.ops) interp l.cap;
      boot_few = omega arith;
      report = reports_on p code (length program.ops) 0 _ interp
          (c.in_ok-report.ensures ∙ ap (report c.names-names.result.now) c.len.ensures
          ∙ ap (λ (n : Names). report n (length program.ops)) (c.names-names.ensures ∙ r.can.names));
    }
