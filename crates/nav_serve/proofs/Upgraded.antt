-- The text that answers the input of `upgrade`, from what its line gave.
use Rattle.std.proofs.Common.{◌≡◌, ℕ, List, refl, sym, ap, ◌∙◌, subst, Option, Some, None, Result, Ok, Err, IfSome, IfOk, IfErr}
use Rattle.std.specs.Global.{Vec}
use Rattle.graph_nodes.specs.declared.node.Node.{Node}
use Rattle.graph_nodes.specs.declared.node.Edge.{Edge}
use Rattle.graph_nodes.specs.Graph.{Graph}
use Rattle.graph_json.specs.Printed.{named_text}
use Rattle.nav_io.specs.Reading.{Reading}
use Rattle.nav_proto.specs.declared.reply.Reply.{Reply}
use Rattle.nav_proto.specs.Replies.{reply_text}
use Rattle.nav_serve.specs.declared.tasks.Task.TheVariants.{Upgrade}
use Rattle.nav_session.specs.declared.halt.Halt.{Halt}
use Rattle.nav_session.specs.declared.halt.Halt.TheVariants.{SourceFailed, SinkFailed, NoMemory, LongLine}
use Rattle.nav_serve.specs.Files.{graph_line}
use Rattle.nav_serve.specs.Upgrade.{upgrade_path, named_or_reply}
use Rattle.nav_serve.specs.Reads.{ReadsLine, ReadsAs, StopsAt}
use Rattle.nav_serve.specs.declared.file.Refused.{Refused}
use Rattle.nav_serve.specs.declared.file.Refused.TheVariants as refused
use Rattle.nav_serve.specs.Refused.{parts, reply_of}
use Rattle.nav_serve.specs.Serving.{StopsReading, AnswersText}
use Rattle.nav_session.specs.Transcripts.{with_newline}
use Rattle.nav_serve.specs.Taken.{IsOutput, HasLongLine}
use Rattle.nav_serve.proofs.FirstLine.{fresh, short_line, prepend_known-nothing}

-- the line that was read gives this text
text_of : (mid : Reading) (left left' next : Option (List ℕ)) (answer : Result (List Node × List Edge) Reply) (text : List ℕ)
    → ReadsLine fresh mid left left' next → graph_line upgrade_path next ≡ answer → text ≡ named_or_reply answer
    → IfSome left (λ input. IsOutput Upgrade input (with_newline text) × ¬ HasLongLine Upgrade input)
text_of mid None left' next answer text read is e = tt
text_of mid (Some input) left' next answer text read is e =
    (ap with_newline (e ∙ ap named_or_reply (sym is ∙ ap (graph_line upgrade_path) read.line)), short_line input next read.line read.short)

-- the line gave a graph, which was printed
pub upgraded : (old mid : Reading) (left left' : Option (List ℕ)) (g : Graph) (text : Vec ℕ) → old ≡ fresh
    → ReadsAs {X = Graph} old mid left left' parts (graph_line upgrade_path) (Ok g) → text.items ≡ named_text g
    → AnswersText Upgrade left left' (Ok text)
upgraded old mid left left' g text is read e =
    let h = subst (λ (o : Reading). ReadsAs {X = Graph} o mid left left' parts (graph_line upgrade_path) (Ok g)) is read in
    text_of mid left left' h.0 (Ok (parts g)) text.items h.1 h.2 e

-- the reading stopped
stopped : (mid : Reading) (left left' : Option (List ℕ)) (reason : Halt) → StopsAt fresh mid left left' reason → StopsReading Upgrade left left' reason
stopped mid left left' SourceFailed h = (mid.front, sym (h.kept ∙ prepend_known-nothing left), (h.fault refl).0)
stopped mid None left' LongLine h = tt
stopped mid (Some input) left' LongLine h = h
stopped mid left left' NoMemory h = tt
stopped mid left left' SinkFailed h = h

-- the line was refused with a reply, whose text was made
pub refused_text : (old mid : Reading) (left left' : Option (List ℕ)) (r : Refused) (reply : Reply) (text : Vec ℕ) → old ≡ fresh
    → ReadsAs {X = Graph} old mid left left' parts (graph_line upgrade_path) (Err r) → reply_of r ≡ Ok reply
    → text.items ≡ reply_text reply → AnswersText Upgrade left left' (Ok text)
refused_text old mid left left' r reply text is read =
    by r (subst (λ (o : Reading). ReadsAs {X = Graph} o mid left left' parts (graph_line upgrade_path) (Err r)) is read)
  where
    by : (r : Refused) → ReadsAs {X = Graph} fresh mid left left' parts (graph_line upgrade_path) (Err r) → reply_of r ≡ Ok reply
        → text.items ≡ reply_text reply → AnswersText Upgrade left left' (Ok text)
    by (refused.Reply own) h one e =
        let same : own ≡ reply = cc in
        text_of mid left left' h.0 (Err own) text.items h.1 h.2 (e ∙ ap reply_text (sym same))
    by (refused.Halt reason) h one e = cc

-- the line was refused because the reading stopped
pub refused_stop : (old mid : Reading) (left left' : Option (List ℕ)) (r : Refused) (reason : Halt) → old ≡ fresh
    → ReadsAs {X = Graph} old mid left left' parts (graph_line upgrade_path) (Err r) → reply_of r ≡ Err reason
    → StopsReading Upgrade left left' reason
refused_stop old mid left left' r reason is read =
    by r (subst (λ (o : Reading). ReadsAs {X = Graph} o mid left left' parts (graph_line upgrade_path) (Err r)) is read)
  where
    by : (r : Refused) → ReadsAs {X = Graph} fresh mid left left' parts (graph_line upgrade_path) (Err r) → reply_of r ≡ Err reason
        → StopsReading Upgrade left left' reason
    by (refused.Reply own) h one = cc
    by (refused.Halt own) h one =
        let same : own ≡ reason = cc in
        subst (λ (s : Halt). StopsReading Upgrade left left' s) same (stopped mid left left' own h)

-- the same of the call that makes the text, which may be refused memory
pub refused_bytes : (old mid : Reading) (left left' : Option (List ℕ)) (r : Refused) (reply : Reply) (bytes : Result (Vec ℕ) Halt) → old ≡ fresh
    → ReadsAs {X = Graph} old mid left left' parts (graph_line upgrade_path) (Err r) → reply_of r ≡ Ok reply
    → IfOk bytes (λ text. text.items ≡ reply_text reply) → IfErr bytes (λ reason. reason ≡ NoMemory)
    → AnswersText Upgrade left left' bytes
refused_bytes old mid left left' r reply (Ok text) is read one ok memory = refused_text old mid left left' r reply text is read one ok
refused_bytes old mid left left' r reply (Err reason) is read one ok memory =
    subst (λ (s : Halt). StopsReading Upgrade left left' s) (sym memory) tt
