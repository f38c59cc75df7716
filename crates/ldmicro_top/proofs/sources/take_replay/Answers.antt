use Rattle.std.proofs.Common.{◌≡◌, ℕ, List, sym, ap, ◌∙◌}
use Rattle.chip_tables.specs.declared.target.Target.TheVariants.{AnsiC}
use Rattle.ladder_tree.specs.Names.{names_of}
use Rattle.ladder_tree.specs.declared.project.Project.{Project}
use Rattle.ldmicro_top.specs.Expected.{HeldAnswers, NoMachineAnswers, TraceAnswers, RunAnswers, ReplayAnswers}
use Rattle.ldmicro_top.specs.declared.status.Status.{Status}
use Rattle.ldmicro_top.proofs.JudgeLemmas.{both_read, declined_more, file_declined, source_declines, source_replays, source_refuses}
use Rattle.ldmicro_top.proofs.sources.take_replay.Goals as goal

pub returns-in-Mega16-clause-replayed : goal.returns-in-Mega16-clause-replayed
returns-in-Mega16-clause-replayed g c =
    let F = g.F.Files in
    source_replays F.tells (F.held c.args.files.now) (F.held c.take_project.new.files) c.args.source.now c.args.file.now c.args.trace.now
    c.in_ok-legal.legal.project (F.counts c.args.files.now) (F.counts c.take_project.new.files) c.take_project.ensures.only c.in_ok-legal.ensures.holds
    c.take_avr.result c.take_avr.ensures.replayed

pub returns-in-Mega16-clause-declined : goal.returns-in-Mega16-clause-declined
returns-in-Mega16-clause-declined g c =
    let F = g.F.Files in
    source_refuses F.tells (F.held c.args.files.now) (F.held c.take_project.new.files) c.args.source.now c.args.file.now c.args.trace.now
    c.in_ok-legal.legal.project (F.counts c.args.files.now) (F.counts c.take_project.new.files) c.take_project.ensures.only c.in_ok-legal.ensures.holds
    (F.counts c.take_avr.new.files) c.take_avr.result c.take_avr.ensures.declined

pub returns-in-AnsiC-clause-declined : goal.returns-in-AnsiC-clause-declined
returns-in-AnsiC-clause-declined g c =
    let F = g.F.Files in
    let mid = F.held c.take_project.new.files in
    let p = c.in_ok-legal.legal.project in
    let e : p.target ≡ AnsiC = sym (ap (λ (q : Project). q.target) c.project.ensures) ∙ c.in-AnsiC.is in
    let next : List ℕ → Status → Type 0 = λ code. HeldAnswers (TraceAnswers (names_of p.rungs) (RunAnswers p code)) (mid c.args.trace.now) in
    source_declines F.tells (F.held c.args.files.now) mid c.args.source.now c.args.file.now c.args.trace.now
    p (F.counts c.args.files.now) (F.counts c.take_project.new.files) c.take_project.ensures.only c.in_ok-legal.ensures.holds
    (F.counts c.decline_file.new.files) c.decline_file.result
    (declined_more F.tells (HeldAnswers NoMachineAnswers (mid c.args.file.now)) (ReplayAnswers mid c.args.file.now c.args.trace.now p)
    (F.counts c.take_project.new.files) (F.counts c.decline_file.new.files) mid c.decline_file.result
    (λ y t h. file_declined p next (mid c.args.file.now) t e h) c.decline_file.ensures.declined)

pub returns-in-Interp : goal.returns-in-Interp
returns-in-Interp g c =
    let F = g.F.Files in
    let old = F.held c.args.files.now in
    let mid = F.held c.take_project.new.files in
    let p = c.in_ok-legal.legal.project in
    let a = F.counts c.args.files.now in
    let b = F.counts c.take_project.new.files in
    let reads = c.take_project.ensures.only in
    let holds = c.in_ok-legal.ensures.holds in
    record {
      only = both_read F.tells a b (F.counts c.take_interp.new.files) old mid (F.held c.take_interp.new.files) reads c.take_interp.ensures.only;
      ready = c.take_interp.ensures.ready;
      replayed = source_replays F.tells old mid c.args.source.now c.args.file.now c.args.trace.now p a b reads holds c.take_interp.result
          c.take_interp.ensures.replayed;
      declined = source_refuses F.tells old mid c.args.source.now c.args.file.now c.args.trace.now p a b reads holds (F.counts c.take_interp.new.files)
          c.take_interp.result c.take_interp.ensures.declined;
    }
