-- What stands behind messages at the front of an input.
use Rattle.std.proofs.Common.{◌≡◌, ℕ, ◌+◌, suc, Bool, if◌then◌else◌, List, [], ◌∷◌, ◌++◌, length, refl, ap, ◌∙◌, arith}
use Rattle.lsp_frames.specs.Frames.{Cut, Frame, cut, rest_of, is_short}
use Rattle.lsp_frames.proofs.Cuts.{grown, cut-append}
use Rattle.lsp_messages.specs.Inputs.{whole_body, up_to_exit, to_answer, AtExit, ending_with, ending, AreFrames, HaveNoExit}
use Rattle.lsp_messages.specs.Laws.{StandsBehind}

to_answer-next : (n : ℕ) (input : List ℕ) → to_answer (suc n) input ≡ up_to_exit (whole_body (cut input)) (to_answer n (rest_of (cut input)))
unfolding to_answer
to_answer-next n input = refl

ending-next : (n : ℕ) (input : List ℕ) → ending (suc n) input ≡ ending_with (cut input) (ending n (rest_of (cut input)))
unfolding ending
ending-next n input = refl

-- the messages where this stands at the front
pub to_answer-cut : (n : ℕ) (input : List ℕ) (c : Cut) → cut input ≡ c → to_answer (suc n) input ≡ up_to_exit (whole_body c) (to_answer n (rest_of c))
to_answer-cut n input c e = to_answer-next n input ∙ ap (λ (c : Cut). up_to_exit (whole_body c) (to_answer n (rest_of c))) e

pub ending-cut : (n : ℕ) (input : List ℕ) (c : Cut) → cut input ≡ c → ending (suc n) input ≡ ending_with c (ending n (rest_of c))
ending-cut n input c e = ending-next n input ∙ ap (λ (c : Cut). ending_with c (ending n (rest_of c))) e

one_more : (bytes : List ℕ) (done : List (List ℕ)) (n : ℕ) → length (bytes ∷ done) + n ≡ suc (length done + n)
one_more bytes done n = omega arith

messages_behind : (done : List (List ℕ)) (input rest : List ℕ) (n : ℕ) → AreFrames done input rest → HaveNoExit done
    → to_answer (length done + n) input ≡ done ++ to_answer n rest
messages_behind [] input rest n f go = let same : length {A = List ℕ} [] + n ≡ n = omega arith in ap (λ k. to_answer k input) same ∙ ap (to_answer n) f
messages_behind (bytes ∷ done) input rest n f go =
    ap (λ k. to_answer k input) (one_more bytes done n)
    ∙ to_answer-cut (length done + n) input (Frame bytes f.0) f.1
    ∙ ap (λ (b : Bool). bytes ∷ (if b then [] else to_answer (length done + n) f.0)) go.0
    ∙ ap (λ (more : List (List ℕ)). bytes ∷ more) (messages_behind done f.0 rest n f.2 go.1)

ending_behind : (done : List (List ℕ)) (input rest : List ℕ) (n : ℕ) → AreFrames done input rest → HaveNoExit done
    → ending (length done + n) input ≡ ending n rest
ending_behind [] input rest n f go = let same : length {A = List ℕ} [] + n ≡ n = omega arith in ap (λ k. ending k input) same ∙ ap (ending n) f
ending_behind (bytes ∷ done) input rest n f go =
    ap (λ k. ending k input) (one_more bytes done n)
    ∙ ending-cut (length done + n) input (Frame bytes f.0) f.1
    ∙ ap (λ (b : Bool). if b then AtExit else ending (length done + n) f.0) go.0
    ∙ ending_behind done f.0 rest n f.2 go.1

pub stands_behind : (done : List (List ℕ)) (input rest : List ℕ) (n : ℕ) → AreFrames done input rest → HaveNoExit done → StandsBehind done input rest n
stands_behind done input rest n f go = record { messages = messages_behind done input rest n f go; ends = ending_behind done input rest n f go }

-- where more follows
frame-append : (input more bytes rest : List ℕ) → cut input ≡ Frame bytes rest → cut (input ++ more) ≡ Frame bytes (rest ++ more)
frame-append input more bytes rest is = cut-append input more (ap is_short is) ∙ ap (λ c. grown c more) is

pub frames-append : (done : List (List ℕ)) (text rest more : List ℕ) → AreFrames done text rest → AreFrames done (text ++ more) (rest ++ more)
frames-append [] text rest more e = ap (λ t. t ++ more) e
frames-append (bytes ∷ done) text rest more (behind, is, h) = (behind ++ more, frame-append text more bytes behind is, frames-append done behind rest more h)

-- a frame more
pub frames-more : (done : List (List ℕ)) (text rest bytes behind : List ℕ) → AreFrames done text rest → cut rest ≡ Frame bytes behind → AreFrames (done ++ bytes ∷ []) text behind
frames-more [] text rest bytes behind e is = (behind, ap cut e ∙ is, refl)
frames-more (b ∷ done) text rest bytes behind (next, first, h) is = (next, first, frames-more done next rest bytes behind h is)
