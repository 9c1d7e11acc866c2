-- A command has one output for an input.
use Rattle.std.proofs.Common.{◌≡◌, ◌∙◌, ◌↔◌, inl, inr, ℕ, Bool, true, false, List, [], ◌∷◌, append-nil, Option, Some, None, Result, Ok, Err, IsTrue, refl, sym, ap, subst, arith}
use Rattle.list_facts.proofs.Members.{IsIn-from_Contains, Contains-from_IsIn}
use Rattle.row_sets.proofs.Rising.{Rises, same_rising}
use Rattle.graph_nodes.specs.declared.node.Node.{Node}
use Rattle.graph_nodes.specs.declared.node.Edge.{Edge}
use Rattle.graph_nodes.specs.Graph.{Graph}
use Rattle.partial_path.specs.declared.config.Config.{Config}
use Rattle.partial_path.specs.Counted.{HasLimit}
use Rattle.partial_path.specs.Spots.{node_at}
use Rattle.partial_path.specs.Step.{start}
use Rattle.whole_search.specs.declared.found.Hit.{Hit}
use Rattle.whole_search.specs.Answers.{AreDefinitions, ComesBefore, IsRising}
use Rattle.nav_io.specs.Lines.{after_line, line_at_front, lines}
use Rattle.nav_proto.specs.declared.reply.Reply.{Reply}
use Rattle.nav_proto.specs.declared.reply.Reply.TheVariants.{Rows}
use Rattle.nav_proto.specs.Replies.{reply_text}
use Rattle.nav_session.specs.Laws.{LinesHaveOneScript}
use Rattle.nav_session.specs.Transcripts.{max_lines, replies_text, to_answer, with_newline}
use Rattle.lsp_messages.specs.Inputs.{ending as ending_of, max_messages, status_at as status_of, to_answer as messages_of}
use Rattle.lsp_messages.specs.Serving.{replies_text as frames_of}
use Rattle.nav_lsp.specs.Laws.{MessagesHaveOneScript}
use Rattle.nav_lsp.specs.Transcripts.{IsTold}
use Rattle.nav_demo.specs.Laws.{TreesHaveOneSummary}
use Rattle.nav_serve.specs.declared.words.Command.TheVariants.{Once, Upgrade, Run, Lsp, Demo, Serve}
use Rattle.nav_serve.specs.declared.tasks.Task.{Task}
use Rattle.nav_serve.specs.declared.tasks.Task.TheVariants as task
use Rattle.nav_serve.specs.Files.{graph_line}
use Rattle.nav_serve.specs.Once.{AnswersFrom, AnswersNode, AnswersRest, GivesDefinitions, answer_of, node_line, once_path, usual}
use Rattle.nav_serve.specs.Taken.{IsOutput}
use Rattle.nav_serve.specs.Outputs.{IsDemonstration, IsEditorScript, IsScript}
use Rattle.nav_serve.specs.Laws.{CommandsHaveOneOutput}

-- ---- `once`

not_both : (a b : Hit) → ComesBefore a b → ComesBefore b a → ⊥
not_both a b (inl x) (inl y) = omega arith
not_both a b (inl x) (inr y) = let e = y.0 in omega arith
not_both a b (inr x) (inl y) = let e = x.0 in omega arith
not_both a b (inr x) (inr y) = let e = x.1 in let f = y.1 in omega arith

rises : (hits : List Hit) → IsRising hits → Rises ComesBefore hits
rises [] up = tt
rises (hit ∷ hits) up = (up.0, rises hits up.1)

same_hits : (g : Graph) (c : Config) (xs ys : List Hit) → AreDefinitions usual (g ∷ []) c xs → AreDefinitions usual (g ∷ []) c ys → xs ≡ ys
same_hits g c xs ys a b =
    same_rising ComesBefore not_both xs ys (rises xs a.rising) (rises ys b.rising)
    (λ p m. IsIn-from_Contains ys p ((b.exact p).1 ((a.exact p).0 (Contains-from_IsIn xs p m))))
    (λ p m. IsIn-from_Contains xs p ((a.exact p).1 ((b.exact p).0 (Contains-from_IsIn ys p m))))

same_flag : (P : Type 0) (a b : Bool) → IsTrue a ↔ P → IsTrue b ↔ P → a ≡ b
same_flag P true true h k = refl
same_flag P true false h k = sym (k.1 (h.0 refl))
same_flag P false true h k = h.1 (k.0 refl)
same_flag P false false h k = refl

one_answer : (g : Graph) (c : Config) (r q : Reply) → GivesDefinitions g c r → GivesDefinitions g c q → r ≡ q
one_answer g c r q (hits, limit, are, flag, is) (hits', limit', are', flag', is') =
    let same : hits ≡ hits' = same_hits g c hits hits' are are' in
    let flags : limit ≡ limit' = same_flag (HasLimit usual (g ∷ []) c) limit limit' flag flag' in
    is ∙ ap (λ (hs : List Hit). Rows (answer_of g limit hs)) same ∙ ap (λ (b : Bool). Rows (answer_of g b hits')) flags ∙ sym is'

one_from : (g : Graph) (o : Option Config) (r q : Reply) → AnswersFrom g o r → AnswersFrom g o q → r ≡ q
one_from g None r q h k = h ∙ sym k
one_from g (Some c) r q (inl h) (inl k) = h.1 ∙ sym k.1
one_from g (Some c) r q (inl h) (inr k) = absurd (k.0 h.0)
one_from g (Some c) r q (inr h) (inl k) = absurd (h.0 k.0)
one_from g (Some c) r q (inr h) (inr k) = one_answer g c r q h.1 k.1

one_node : (g : Graph) (n : Result ℕ Reply) (r q : Reply) → AnswersNode g n r → AnswersNode g n q → r ≡ q
one_node g (Err refusal) r q h k = h ∙ sym k
one_node g (Ok n) r q h k = one_from g (start (g ∷ []) (node_at 0 n)) r q h k

one_rest : (line : Result (List Node × List Edge) Reply) (rest : List ℕ) (r q : Reply) → AnswersRest line rest r → AnswersRest line rest q → r ≡ q
one_rest (Err refusal) rest r q h k = h ∙ sym k
one_rest (Ok parts) rest r q h k = one_node (record { nodes = parts.0; edges = parts.1 }) (node_line (line_at_front rest)) r q h k

pub one_task : (task : Task) (input a b : List ℕ) → IsOutput task input a → IsOutput task input b → a ≡ b
one_task task.Once input a b (reply, is, told) (other, is', told') =
    told ∙ ap (λ (r : Reply). with_newline (reply_text r)) (one_rest (graph_line once_path (line_at_front input)) (after_line input) reply other is is') ∙ sym told'
one_task task.Upgrade input a b h k = h ∙ sym k

-- ---- the other commands

one_run : LinesHaveOneScript → (input a b : List ℕ) → IsScript input a → IsScript input b → a ≡ b
one_run law input a b h k =
    h.text ∙ ap replies_text (law 0 h.log k.log (to_answer max_lines (lines input)) h.replies k.replies h.all_own k.all_own h.transcript k.transcript) ∙ sym k.text

one_editor : MessagesHaveOneScript → (input a b : List ℕ) (shut shut' : Bool) → IsEditorScript input a shut → IsEditorScript input b shut' → (a ≡ b) × (shut ≡ shut')
one_editor law input a b shut shut' h k =
    let messages = messages_of max_messages input in
    let both = law 0 h.log k.log messages [] h.replies k.replies shut shut' h.all_own k.all_own h.told
    (subst (λ (ms : List (List ℕ)). IsTold 0 0 k.log ms k.replies shut') (sym (append-nil messages)) k.told) in
    let same = both.all refl in
    (h.text ∙ ap frames_of same.0 ∙ sym k.text, same.1)

pub one_demo : TreesHaveOneSummary → (files start : ℕ) (a b : List ℕ) → IsDemonstration files start a → IsDemonstration files start b → a ≡ b
one_demo law files start a b h k =
    h.text ∙ ap with_newline (law 0 h.log k.log files start h.summary k.summary h.all_own k.all_own h.is_summary k.is_summary) ∙ sym k.text

pub one_output : LinesHaveOneScript → MessagesHaveOneScript → TreesHaveOneSummary → CommandsHaveOneOutput
one_output law1 law2 law3 Once input a b s t h k = (one_task task.Once input a b h.0 k.0, h.1 ∙ sym k.1)
one_output law1 law2 law3 Upgrade input a b s t h k = (one_task task.Upgrade input a b h.0 k.0, h.1 ∙ sym k.1)
one_output law1 law2 law3 Run input a b s t h k = (one_run law1 input a b h.0 k.0, h.1 ∙ sym k.1)
one_output law1 law2 law3 Lsp input a b s t h k =
    let same = one_editor law2 input a b h.0 k.0 h.1 k.1 in
    (same.0, h.2 ∙ ap (λ (shut : Bool). status_of shut (ending_of max_messages input)) same.1 ∙ sym k.2)
one_output law1 law2 law3 (Demo files start) input a b s t h k = (one_demo law3 files start a b h.0 k.0, h.1 ∙ sym k.1)
one_output law1 law2 law3 (Serve port doors connections) input a b s t h k = absurd h
