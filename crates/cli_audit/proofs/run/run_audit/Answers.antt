use Rattle.std.proofs.Common.{rules}
use Rattle.cli_lines.specs.Outcomes.{DeviceSeen}
use Rattle.cli_audit.specs.Lines.{AuditLine}
use Rattle.cli_audit.proofs.Saying.{whole_audit}
use Rattle.cli_audit.proofs.run.run_audit.Goals as goal

pub returns-in-Ok-write_all : goal.returns-in-Ok-write_all
returns-in-Ok-write_all g c =
    let before : DeviceSeen = record { source_failures = g.I.Source.failures c.args.source.now; sink_failures = g.O.Sink.failures c.args.sink.now; held = g.O.Sink.held c.args.sink.now } in
    let after : DeviceSeen = record { source_failures = g.I.Source.failures c.read_all.new.source; sink_failures = g.O.Sink.failures c.write_all.new.sink; held = g.O.Sink.held c.write_all.new.sink } in
    let (said, (says, (is, ends))) = c.in-Ok-answer_audit.ensures.line in
    whole_audit (AuditLine c.args.job.now.budget (g.I.Source.left c.args.source.now)) before after c.in-Ok-answer_audit.answer.1 (record {
      said = said;
      may = search rules;
      ends = ends;
      written = search rules;
      read = search rules;
      wrote = search rules;
    })
