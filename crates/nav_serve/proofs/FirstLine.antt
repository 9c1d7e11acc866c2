-- What the first line that is read says of the whole input.
use Rattle.std.proofs.Common.{◌≡◌, inl, inr, ℕ, ◌<◌, ◌≤◌, List, [], ◌∷◌, length, false, refl, sym, ap, ◌∙◌, subst, arith, Option, Some, None, Result, Ok, Err, IfSome}
use Rattle.std.proofs.lemmas.List.{length-take}
use Rattle.std.specs.Io.KnownBytes.{prepend_known}
use Rattle.graph_nodes.specs.declared.node.Node.{Node}
use Rattle.graph_nodes.specs.declared.node.Edge.{Edge}
use Rattle.nav_io.specs.Lines.{line_max, line_len, first_line, after_line, line_at_front}
use Rattle.nav_io.specs.Reading.{Reading, ahead}
use Rattle.nav_io.proofs.Cuts.{line_len-le}
use Rattle.nav_proto.specs.declared.reply.Reply.{Reply}
use Rattle.nav_serve.specs.declared.tasks.Task.TheVariants.{Once}
use Rattle.nav_session.specs.declared.halt.Halt.{Halt}
use Rattle.nav_session.specs.declared.halt.Halt.TheVariants.{SourceFailed, SinkFailed, NoMemory, LongLine}
use Rattle.nav_serve.specs.Files.{graph_line}
use Rattle.nav_serve.specs.Once.{once_path, IsOnceReply, AnswersRest}
use Rattle.nav_serve.specs.Reads.{ReadsLine, StopsAt}
use Rattle.nav_serve.specs.Serving.{StopsReading}
use Rattle.nav_serve.specs.Taken.{HasLongLine}

-- a reader that has taken nothing
abbrev pub fresh : Reading
fresh = record { front = []; ended = false }

-- a line that was read is not too long
pub short_line : (text : List ℕ) (next : Option (List ℕ)) → next ≡ line_at_front text
    → IfSome next (λ line. length line ≤ line_max) → line_max < line_len text → ⊥
short_line [] next e h long = omega (arith, long)
short_line (byte ∷ more) next e h long =
    let text : List ℕ = byte ∷ more in
    let within : length (first_line text) ≤ line_max = subst (λ (o : Option (List ℕ)). IfSome o (λ line. length line ≤ line_max)) e h in
    omega (arith, within, length-take (line_len text) text, line_len-le text)

-- what is ahead of a fresh reader is what the source has left
pub ahead-fresh : (left : Option (List ℕ)) → ahead fresh left ≡ left
ahead-fresh None = refl
ahead-fresh (Some input) = refl

pub prepend_known-nothing : (left : Option (List ℕ)) → prepend_known [] left ≡ left
prepend_known-nothing None = refl
prepend_known-nothing (Some input) = refl

-- the reading stopped at the first line
pub stops_first : (new : Reading) (left left' : Option (List ℕ)) (reason : Halt)
    → StopsAt fresh new left left' reason → StopsReading Once left left' reason
stops_first new left left' SourceFailed h =
    (new.front, sym (h.kept ∙ prepend_known-nothing left), inl (h.fault refl).0)
stops_first new None left' LongLine h = tt
stops_first new (Some input) left' LongLine h = inl h
stops_first new left left' NoMemory h = tt
stops_first new left left' SinkFailed h = h

not_both : {reply : Reply} (parts : List Node × List Edge) → (Err reply ≡ Ok parts) → ⊥
not_both parts e = cc

-- the first line was refused with this reply
pub refused_first : (new : Reading) (left left' next : Option (List ℕ)) (reply : Reply)
    → ReadsLine fresh new left left' next → graph_line once_path next ≡ Err reply
    → IfSome left (λ input. IsOnceReply input reply × ¬ HasLongLine Once input)
refused_first new None left' next reply read is = tt
refused_first new (Some input) left' next reply read is =
    let refused : graph_line once_path (line_at_front input) ≡ Err reply = ap (graph_line once_path) (sym read.line) ∙ is in
    let P : Result (List Node × List Edge) Reply → Type 0 = λ r. AnswersRest r (after_line input) reply in (
      subst P (sym refused) refl,
      λ long. elim long [
        | inl first ↦ short_line input next read.line read.short first
        | inr second ↦ not_both second.0.0 (sym refused ∙ second.0.1)
      ],
    )
