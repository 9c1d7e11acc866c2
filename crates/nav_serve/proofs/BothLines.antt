-- What the first and the second line that are read say of the whole input.
use Rattle.std.proofs.Common.{◌≡◌, inl, inr, ℕ, ◌<◌, List, [], ◌∷◌, ◌++◌, refl, sym, ap, ◌∙◌, subst, Option, Some, None, Result, Ok, Err, IfSome, IsTrue, append_assoc, true≢false}
use Rattle.std.specs.Io.KnownBytes.{prepend_known}
use Rattle.graph_nodes.specs.declared.node.Node.{Node}
use Rattle.graph_nodes.specs.declared.node.Edge.{Edge}
use Rattle.graph_nodes.specs.Graph.{Graph}
use Rattle.nav_io.specs.declared.lines.LineError.TheVariants.{ReadFault}
use Rattle.nav_io.specs.Lines.{line_max, line_len, after_line, line_at_front}
use Rattle.nav_io.specs.Reading.{Reading, AfterError}
use Rattle.nav_io.proofs.Cuts.{prepend_known-append}
use Rattle.nav_proto.specs.declared.reply.Reply.{Reply}
use Rattle.nav_serve.specs.declared.tasks.Task.TheVariants.{Once}
use Rattle.nav_session.specs.declared.halt.Halt.{Halt}
use Rattle.nav_session.specs.declared.halt.Halt.TheVariants.{SourceFailed, SinkFailed, NoMemory, LongLine}
use Rattle.nav_serve.specs.Files.{graph_line}
use Rattle.nav_serve.specs.Once.{once_path, IsOnceReply, AnswersRest, AnswersNode, node_line}
use Rattle.nav_serve.specs.Reads.{ReadsLine, StopsAt}
use Rattle.nav_serve.specs.Refused.{parts}
use Rattle.nav_serve.specs.Serving.{StopsReading}
use Rattle.nav_serve.specs.Taken.{HasLongLine}
use Rattle.nav_serve.proofs.FirstLine.{fresh, short_line, prepend_known-nothing}

-- both lines were read: the first is the graph, and the second is answered with this reply
pub answered_both : (mid new : Reading) (left left1 left2 next1 next2 : Option (List ℕ)) (g : Graph) (reply : Reply)
    → ReadsLine fresh mid left left1 next1 → graph_line once_path next1 ≡ Ok (parts g)
    → ReadsLine mid new left1 left2 next2 → AnswersNode g (node_line next2) reply
    → IfSome left (λ input. IsOnceReply input reply × ¬ HasLongLine Once input)
answered_both mid new None left1 left2 next1 next2 g reply first is second answer = tt
answered_both mid new (Some input) left1 left2 next1 next2 g reply first is second answer =
    let accepted : graph_line once_path (line_at_front input) ≡ Ok (parts g) = ap (graph_line once_path) (sym first.line) ∙ is in
    let P : Result (List Node × List Edge) Reply → Type 0 = λ r. AnswersRest r (after_line input) reply in
    let behind : next2 ≡ line_at_front (after_line input) =
    subst (λ (o : Option (List ℕ)). IfSome o (λ text. next2 ≡ line_at_front text)) first.after.rest second.line in
    let Q : Option (List ℕ) → Type 0 = λ line. AnswersNode g (node_line line) reply in (
      subst P (sym accepted) (subst Q behind answer),
      λ long. elim long [
        | inl one ↦ short_line input next1 first.line first.short one
        | inr two ↦ short_line (after_line input) next2 behind second.short two.1
      ],
    )

-- bytes behind a line and its newline
behind_line : (line more : List ℕ) (left : Option (List ℕ))
    → prepend_known (line ++ 10 ∷ more) left ≡ prepend_known (line ++ 10 ∷ []) (prepend_known more left)
behind_line line more left =
    ap (λ bytes. prepend_known bytes left) (sym (append_assoc line (10 ∷ []) more)) ∙ prepend_known-append (line ++ 10 ∷ []) more left

-- a reader that met the end doesn't stop for a fault of the source
not_ended : (mid new : Reading) (left1 left2 : Option (List ℕ)) → AfterError mid new left1 left2 ReadFault → IsTrue mid.ended → ⊥
not_ended mid new left1 left2 h ended = true≢false (sym ended ∙ sym h.same_end ∙ (h.fault refl).1)

no_graph : {A : Type 0} {reply : Reply} (parts : A) → Err reply ≡ Ok parts → ⊥
no_graph parts e = cc

-- the reading stopped at the second line
pub stops_second : (mid new : Reading) (left left1 left2 next1 : Option (List ℕ)) (g : Graph) (reason : Halt)
    → ReadsLine fresh mid left left1 next1 → graph_line once_path next1 ≡ Ok (parts g)
    → StopsAt mid new left1 left2 reason → StopsReading Once left left2 reason
stops_second mid new left left1 left2 None g SourceFailed first is h = absurd (no_graph (parts g) is)
stops_second mid new left left1 left2 (Some line) g SourceFailed first is h =
    elim first.after.ended_by [
      | inl cut ↦ (
        line ++ 10 ∷ new.front,
        sym (prepend_known-nothing left) ∙ cut ∙ behind_line line mid.front left1
            ∙ ap (λ known. prepend_known (line ++ 10 ∷ []) known) (sym h.kept) ∙ sym (behind_line line new.front left2),
        inr (line, new.front, refl, first.no_newline, (parts g, is), (h.fault refl).0),
      )
      | inr ended ↦ absurd (not_ended mid new left1 left2 h ended)
    ]
stops_second mid new None left1 left2 next1 g LongLine first is h = tt
stops_second mid new (Some input) left1 left2 next1 g LongLine first is h =
    inr (
      (parts g, ap (graph_line once_path) (sym first.line) ∙ is),
      subst (λ (o : Option (List ℕ)). IfSome o (λ text. line_max < line_len text)) first.after.rest h,
    )
stops_second mid new left left1 left2 next1 g NoMemory first is h = tt
stops_second mid new left left1 left2 next1 g SinkFailed first is h = h
