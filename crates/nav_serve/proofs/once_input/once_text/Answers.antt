-- The output is the reply's text and its newline.
use Rattle.std.proofs.Common.{◌≡◌, ℕ, List, ap, Option, Some, None, IfSome, IfOk, IfErr, Result, Ok, Err, subst, sym}
use Rattle.std.specs.Global.{Vec}
use Rattle.nav_proto.specs.declared.reply.Reply.{Reply}
use Rattle.nav_proto.specs.Replies.{reply_text}
use Rattle.nav_serve.specs.declared.tasks.Task.TheVariants.{Once}
use Rattle.nav_session.specs.declared.halt.Halt.{Halt}
use Rattle.nav_session.specs.declared.halt.Halt.TheVariants.{NoMemory}
use Rattle.nav_serve.specs.Once.{IsOnceReply}
use Rattle.nav_serve.specs.Serving.{AnswersText, StopsReading}
use Rattle.nav_session.specs.Transcripts.{with_newline}
use Rattle.nav_serve.specs.Taken.{IsOutput, HasLongLine}
use Rattle.nav_serve.proofs.once_input.once_text.Goals as goal

output_of : (left : Option (List ℕ)) (reply : Reply) (text : List ℕ) → text ≡ reply_text reply
    → IfSome left (λ input. IsOnceReply input reply × ¬ HasLongLine Once input)
    → IfSome left (λ input. IsOutput Once input (with_newline text) × ¬ HasLongLine Once input)
output_of None reply text is h = tt
output_of (Some input) reply text is h = ((reply, h.0, ap with_newline is), h.1)

answers_text : (left left' : Option (List ℕ)) (reply : Reply) (bytes : Result (Vec ℕ) Halt)
    → IfSome left (λ input. IsOnceReply input reply × ¬ HasLongLine Once input)
    → IfOk bytes (λ text. text.items ≡ reply_text reply) → IfErr bytes (λ reason. reason ≡ NoMemory)
    → AnswersText Once left left' bytes
answers_text left left' reply (Ok text) h ok memory = output_of left reply text.items ok h
answers_text left left' reply (Err reason) h ok memory = subst (λ (s : Halt). StopsReading Once left left' s) (sym memory) tt

pub returns-clause-answers : goal.returns-clause-answers
returns-clause-answers g c =
    answers_text (g.S.Source.left c.args.source.now) (g.S.Source.left c.reply.new.source) c.in_ok-reply.reply c.reply_bytes.result
    c.in_ok-reply.ensures.answers c.reply_bytes.ensures.ok c.reply_bytes.ensures.err
