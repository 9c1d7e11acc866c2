-- Laws of inputs.
use Rattle.std.specs.Prelude.{◌≡◌, ℕ, ◌+◌, List, ◌++◌, length}
use Rattle.lsp_messages.specs.Inputs.{to_answer, ending, AreFrames, HaveNoExit}

-- behind messages at the front of an input, as many more may be answered as may in all
pub record StandsBehind (done : List (List ℕ)) (input rest : List ℕ) (n : ℕ) : Type 0 where
  pub messages : to_answer (length done + n) input ≡ done ++ to_answer n rest
  pub ends : ending (length done + n) input ≡ ending n rest

-- messages at the front of an input, with no `exit` among them, stand so before what follows them
abbrev pub StandInTurn : Type 0
StandInTurn =
    (done : List (List ℕ)) (input rest : List ℕ) (n : ℕ) → AreFrames done input rest
    → HaveNoExit done → StandsBehind done input rest n
