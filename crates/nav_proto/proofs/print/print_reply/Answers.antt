use Rattle.std.proofs.Common.{◌∙◌, sym, subst}
use Rattle.nav_proto.specs.Replies.{IsOneLine}
use Rattle.nav_proto.proofs.OneLine.{reply-one_line}
use Rattle.nav_proto.proofs.print.print_reply.Goals as goal

-- the result is the text of the reply, which is one line
pub returns-clause-one_line : goal.returns-clause-one_line
returns-clause-one_line c = subst IsOneLine (sym (c.from_string.ensures ∙ c.in_ok-text_of.ensures)) (reply-one_line c.args.reply.now)
