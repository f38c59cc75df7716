use Rattle.std.proofs.Common.{ap, ◌∙◌, arith}
use Rattle.chip_tables.specs.Memory.{flash_size}
use Rattle.ldmicro_top.specs.Report.{c_report}
use Rattle.ldmicro_top.proofs.TargetLemmas.{no_flash, carries_c, reports_c}
use Rattle.ldmicro_top.proofs.compile.compile_c.Goals as goal

pub write_c-requires : goal.write_c-requires
write_c-requires c = rw (c.names-names.ensures, c.project.ensures) c.requires.judged.can

pub returns : goal.returns
returns c =
    let r = c.requires.judged in
    let p = c.args.legal.now.project in
    let e = c.requires.target in
    record {
      cycles = 0;
      boot = 0;
      carries = carries_c p c.in_ok-code.code 0 0 e (rw c.project.ensures at c.in_ok-code.ensures);
      room = no_flash p (ap flash_size e);
      cycles_few = omega arith;
      boot_few = omega arith;
      report = reports_c p c.in_ok-code.code 0 0 _ e (c.in_ok-report.ensures ∙ ap c_report (c.names-names.ensures ∙ r.can.names));
    }
