use Rattle.std.proofs.Common.{◌≡◌, ℕ, length, sym, ap, ◌∙◌, subst}
use Rattle.std.specs.String.{string_bytes}
use Rattle.ladder_tree.specs.Names.{names_of}
use Rattle.ladder_tree.specs.declared.names.Names.{Names}
use Rattle.ladder_lower.specs.Outcome.{IsLowered}
use Rattle.ldmicro_top.specs.Report.{avr_report}
use Rattle.ldmicro_top.proofs.BuiltLemmas.{avr_built}
use Rattle.ldmicro_top.proofs.TargetLemmas.{carries_hex, reports_hex}
use Rattle.ldmicro_top.proofs.compile.compile_avr.Goals as goal

pub compile_hex-requires-clause-built : goal.compile_hex-requires-clause-built
compile_hex-requires-clause-built c =
    let r = c.requires.judged in
    let p = c.args.legal.now.project in
    let program = c.in_ok-program.program in
    let l = rw (c.names-names.ensures, c.project.ensures) at c.in_ok-program.ensures in
    avr_built p program c.requires.target r.within.built (subst (λ (n : Names). IsLowered n p program) r.can.names l)

pub returns : goal.returns
returns c =
    let r = c.requires.judged in
    let p = c.args.legal.now.project in
    let file = c.in_ok-file.file in
    let w = c.in_ok-file.ensures.words in
    record {
      cycles = file.cycles;
      boot = file.boot;
      carries = carries_hex p file.text file.cycles file.boot c.requires.target c.in_ok-file.ensures.carries;
      room = c.requires.room;
      cycles_few = c.in_ok-file.ensures.cycles;
      boot_few = c.in_ok-file.ensures.boot;
      report = reports_hex p file.text file.cycles file.boot (string_bytes c.in_ok-report.report) c.requires.target (record {
        image = w.image;
        read = w.read;
        text =
            c.in_ok-report.ensures
            ∙ ap (λ (n : Names). avr_report n file.words file.cycles file.boot) (c.names-names.ensures ∙ r.can.names)
            ∙ ap (λ (k : ℕ). avr_report (names_of p.rungs) k file.cycles file.boot) (sym w.count);
      });
    }
