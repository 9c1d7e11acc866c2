-- The output is the text and its newline.
use Rattle.nav_session.specs.Transcripts.{with_newline}
use Rattle.nav_serve.proofs.Writing.{served}
use Rattle.nav_serve.proofs.tasks.serve.Goals as goal

pub returns-clause-served : goal.returns-clause-served
returns-clause-served g c =
    let w = c.write_line.ensures in
    served c.args.task (with_newline c.in_ok-text.text.items) (g.S.Source.left c.args.source.now) (g.S.Source.left c.text.new.source)
    (g.K.Sink.held c.args.sink.now) (g.K.Sink.held c.write_line.new.sink) c.write_line.result c.in_ok-text.ensures.answers
    w.ok w.err w.not_source w.not_long
