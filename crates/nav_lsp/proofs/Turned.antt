-- What a turn makes of a session.
use Rattle.std.proofs.Common.{◌≡◌, ◌∙◌, inr, ℕ, List, Option, None, Result, Err, sym, ap, subst}
use Rattle.version_tree.specs.declared.entry.Entry.{Entry}
use Rattle.version_board.specs.Logs.{own}
use Rattle.nav_io.specs.Reading.{Reading}
use Rattle.lsp_wire.specs.declared.message.Body.{Body}
use Rattle.lsp_messages.specs.declared.halt.Halt.{Halt}
use Rattle.lsp_messages.specs.declared.halt.Halt.TheVariants.{NoMemory}
use Rattle.lsp_messages.specs.Inputs.{is_exit_body}
use Rattle.lsp_messages.specs.Turns.{ReadsFrame, ReadsNext, ReadsMessage}
use Rattle.nav_lsp.specs.declared.editor.Editor.{Editor}
use Rattle.nav_lsp.specs.declared.serving.Step.{Step}
use Rattle.nav_lsp.specs.Held.{IsReady, GoesOn}
use Rattle.nav_lsp.specs.Replies.{IsReplied}
use Rattle.nav_lsp.specs.Turns.{Spot, spot, editing_of, AnswersNext, FindsEnd, TakesTurn}
use Rattle.nav_lsp.proofs.Served.{no_entry}

-- only the reader and the source went on, and no message was read
pub stops_at : (r : Result (Option Step) Halt) (reason : Halt) (seat : ℕ) (log : List Entry) (pin : ℕ) (held : Editor) (old new : Reading) (left left' : Option (List ℕ))
    → r ≡ Err reason → ReadsNext old new left left' (Err reason)
    → TakesTurn (spot seat log pin held old left) (spot seat log pin held new left') r
stops_at r reason seat log pin held old new left left' e why =
    subst (λ (o : Result (Option Step) Halt). TakesTurn (spot seat log pin held old left) (spot seat log pin held new left') o) (sym e)
    (record { why = why; stays = no_entry seat log })

pub finds_end : (seat : ℕ) (log : List Entry) (pin : ℕ) (held : Editor) (old new : Reading) (left left' : Option (List ℕ))
    → ReadsFrame old new left left' None → FindsEnd (spot seat log pin held old left) (spot seat log pin held new left')
finds_end seat log pin held old new left left' read = record { read = read; stays = no_entry seat log }

-- a message was read, and memory was wanting for its reply
pub stops_answering : (r : Result (Option Step) Halt) (reason : Halt) (body : Body) (old new : Spot)
    → r ≡ Err reason → reason ≡ NoMemory → ReadsMessage old.reader new.reader old.left new.left body
    → GoesOn old.seat new.seat old.log new.log → own old.seat new.log ≡ own old.seat old.log → TakesTurn old new r
stops_answering r reason body old new e none m goes stay =
    subst (λ (o : Result (Option Step) Halt). TakesTurn old new o) (sym (e ∙ ap Err none))
    (record { why = inr (m.0, m.1); stays = record { goes_on = goes; own_stay = stay } })

pub answers_next : (body : Body) (old new : Spot) (step : Step)
    → ReadsMessage old.reader new.reader old.left new.left body → step.exit ≡ is_exit_body body
    → GoesOn old.seat new.seat old.log new.log → IsReplied old.seat new.log (editing_of old) body step.reply (editing_of new)
    → IsReady new.editor new.log new.pin → AnswersNext old new step
answers_next body old new step m exit goes replied ready = record {
  bytes = m.0;
  read = m.1;
  exit = exit ∙ ap is_exit_body m.2;
  goes_on = goes;
  replied = subst (λ (b : Body). IsReplied old.seat new.log (editing_of old) b step.reply (editing_of new)) m.2 replied;
  ready = ready;
}
