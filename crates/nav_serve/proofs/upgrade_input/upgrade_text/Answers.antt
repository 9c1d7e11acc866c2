-- The line was refused with a reply.
use Rattle.std.proofs.Common.{sym, ◌∙◌}
use Rattle.nav_serve.proofs.Upgraded.{refused_bytes}
use Rattle.nav_serve.proofs.upgrade_input.upgrade_text.Goals as goal

pub returns-clause-answers : goal.returns-clause-answers
returns-clause-answers g c =
    refused_bytes c.in_ok-reader.reader c.read_graph_line.new.reader (g.S.Source.left c.args.source.now)
    (g.S.Source.left c.read_graph_line.new.source) c.in-Err.refused c.in_ok-reply-in-Err.reply c.reply_bytes.result
    c.in_ok-reader.ensures.empty c.in-Err.ensures.reads (sym c.reply.ensures ∙ c.in_ok-reply-in-Err.was)
    c.reply_bytes.ensures.ok c.reply_bytes.ensures.err
