-- The one reply to the input of `once`, from what its two lines gave.
use Rattle.std.proofs.Common.{◌≡◌, ℕ, List, [], ◌∷◌, refl, sym, subst, Option, Result, Ok, Err, IfOk, IfErr}
use Rattle.graph_nodes.specs.Graph.{Graph}
use Rattle.partial_path.specs.Spots.{node_at}
use Rattle.partial_path.specs.Step.{start}
use Rattle.nav_io.specs.Reading.{Reading}
use Rattle.nav_proto.specs.declared.reply.Reply.{Reply}
use Rattle.nav_serve.specs.declared.tasks.Task.TheVariants.{Once}
use Rattle.nav_session.specs.declared.halt.Halt.{Halt}
use Rattle.nav_session.specs.declared.halt.Halt.TheVariants.{NoMemory}
use Rattle.nav_serve.specs.declared.file.Refused.{Refused}
use Rattle.nav_serve.specs.declared.file.Refused.TheVariants as refused
use Rattle.nav_serve.specs.Files.{graph_line}
use Rattle.nav_serve.specs.Once.{once_path, AnswersNode, AnswersFrom, node_line}
use Rattle.nav_serve.specs.Reads.{ReadsAs}
use Rattle.nav_serve.specs.Refused.{parts, reply_of}
use Rattle.nav_serve.specs.Serving.{StopsReading, AnswersOnce}
use Rattle.nav_serve.proofs.FirstLine.{fresh, refused_first, stops_first}
use Rattle.nav_serve.proofs.BothLines.{answered_both, stops_second}

-- a reader that has taken nothing, by another name
abbrev pub IsFresh : Reading → Type 0
IsFresh old = old ≡ fresh

-- the first line gave no graph
pub refused_graph : (old mid : Reading) (left left1 : Option (List ℕ)) (r : Refused) → IsFresh old
    → ReadsAs {X = Graph} old mid left left1 parts (graph_line once_path) (Err r) → AnswersOnce left left1 (reply_of r)
refused_graph old mid left left1 r is read =
    by r (subst (λ (o : Reading). ReadsAs {X = Graph} o mid left left1 parts (graph_line once_path) (Err r)) is read)
  where
    by : (r : Refused) → ReadsAs {X = Graph} fresh mid left left1 parts (graph_line once_path) (Err r) → AnswersOnce left left1 (reply_of r)
    by (refused.Reply reply) h = refused_first mid left left1 h.0 reply h.1 h.2
    by (refused.Halt reason) h = stops_first mid left left1 reason h

-- the second line gave no node
pub refused_node : (old mid new : Reading) (left left1 left2 : Option (List ℕ)) (g : Graph) (r : Refused) → IsFresh old
    → ReadsAs {X = Graph} old mid left left1 parts (graph_line once_path) (Ok g)
    → ReadsAs {X = ℕ} mid new left1 left2 (λ n. n) node_line (Err r) → AnswersOnce left left2 (reply_of r)
refused_node old mid new left left1 left2 g r is read =
    by r (subst (λ (o : Reading). ReadsAs {X = Graph} o mid left left1 parts (graph_line once_path) (Ok g)) is read)
  where
    by : (r : Refused) → ReadsAs {X = Graph} fresh mid left left1 parts (graph_line once_path) (Ok g)
        → ReadsAs {X = ℕ} mid new left1 left2 (λ n. n) node_line (Err r) → AnswersOnce left left2 (reply_of r)
    by (refused.Reply reply) h second =
        let P : Result ℕ Reply → Type 0 = λ n. AnswersNode g n reply in
        answered_both mid new left left1 left2 h.0 second.0 g reply h.1 h.2 second.1 (subst P (sym second.2) refl)
    by (refused.Halt reason) h second = stops_second mid new left left1 left2 h.0 g reason h.1 h.2 second

-- the reply on the node that the second line asks for
pub answered_node : (old mid new : Reading) (left left1 left2 : Option (List ℕ)) (g : Graph) (n : ℕ) (r : Result Reply Halt) → IsFresh old
    → ReadsAs {X = Graph} old mid left left1 parts (graph_line once_path) (Ok g)
    → ReadsAs {X = ℕ} mid new left1 left2 (λ n. n) node_line (Ok n)
    → IfOk r (AnswersFrom g (start (g ∷ []) (node_at 0 n))) → IfErr r (λ reason. reason ≡ NoMemory)
    → AnswersOnce left left2 r
answered_node old mid new left left1 left2 g n r is read =
    by r (subst (λ (o : Reading). ReadsAs {X = Graph} o mid left left1 parts (graph_line once_path) (Ok g)) is read)
  where
    by : (r : Result Reply Halt) → ReadsAs {X = Graph} fresh mid left left1 parts (graph_line once_path) (Ok g)
        → ReadsAs {X = ℕ} mid new left1 left2 (λ n. n) node_line (Ok n)
        → IfOk r (AnswersFrom g (start (g ∷ []) (node_at 0 n))) → IfErr r (λ reason. reason ≡ NoMemory)
        → AnswersOnce left left2 r
    by (Ok reply) h second answer memory =
        let P : Result ℕ Reply → Type 0 = λ n. AnswersNode g n reply in
        answered_both mid new left left1 left2 h.0 second.0 g reply h.1 h.2 second.1 (subst P (sym second.2) answer)
    by (Err reason) h second answer memory = subst (λ (s : Halt). StopsReading Once left left2 s) (sym memory) tt
