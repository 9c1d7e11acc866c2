-- Which lines are to be answered, and why no more are, behind lines that were answered.
use Rattle.std.proofs.Common.{◌≡◌, ℕ, ◌+◌, ◌-◌, ◌<◌, ◌≤◌, suc, Bool, true, false, nat_lt, if◌then◌else◌, List, [], ◌∷◌, ◌++◌, length, refl, sym, ap, ◌∙◌, arith, append_assoc, append-nil}
use Rattle.std.proofs.lemmas.Bool.Decides.{nat_tests}
use Rattle.std.specs.List.{AllByRecursion}
use Rattle.nav_io.specs.Lines.{line_max}
use Rattle.nav_session.specs.Requests.{is_quit}
use Rattle.nav_session.specs.Transcripts.{max_lines, to_answer, Ending, AtEnd, AtQuit, AtLongLine, AtMost, ending}
use Rattle.nav_session.specs.Serving.{AreFirst}
use Rattle.nav_session.specs.UnderWay.{IsShort, IsNoQuit, ArePassed}

not_long : (n m : ℕ) → m ≤ n → nat_lt n m ≡ false
not_long n m h = grind (arith, nat_tests, h)

is_long : (n m : ℕ) → n < m → nat_lt n m ≡ true
is_long n m h = grind (arith, nat_tests, h)

-- the lines behind a line that is answered
abbrev pub rest_to_answer : ℕ → List ℕ → List (List ℕ) → List (List ℕ)
rest_to_answer n line rest = if is_quit line then [] else to_answer n rest

to_answer-short : (n : ℕ) (line : List ℕ) (rest : List (List ℕ)) → IsShort line → to_answer (suc n) (line ∷ rest) ≡ line ∷ rest_to_answer n line rest
unfolding to_answer
to_answer-short n line rest short =
    ap (λ (b : Bool). if b then [] else line ∷ rest_to_answer n line rest) (not_long line_max (length line) short)

to_answer-long : (n : ℕ) (line : List ℕ) (rest : List (List ℕ)) → line_max < length line → to_answer (suc n) (line ∷ rest) ≡ []
unfolding to_answer
to_answer-long n line rest long =
    ap (λ (b : Bool). if b then [] else line ∷ rest_to_answer n line rest) (is_long line_max (length line) long)

to_answer-none : (n : ℕ) → to_answer n [] ≡ []
unfolding to_answer
to_answer-none n = refl

to_answer-most : (line : List ℕ) (rest : List (List ℕ)) → to_answer 0 (line ∷ rest) ≡ []
unfolding to_answer
to_answer-most line rest = refl

abbrev rest_ending : ℕ → List ℕ → List (List ℕ) → Ending
rest_ending n line rest = if is_quit line then AtQuit else ending n rest

ending-short : (n : ℕ) (line : List ℕ) (rest : List (List ℕ)) → IsShort line → ending (suc n) (line ∷ rest) ≡ rest_ending n line rest
unfolding ending
ending-short n line rest short =
    ap (λ (b : Bool). if b then AtLongLine else rest_ending n line rest) (not_long line_max (length line) short)

ending-long : (n : ℕ) (line : List ℕ) (rest : List (List ℕ)) → line_max < length line → ending (suc n) (line ∷ rest) ≡ AtLongLine
unfolding ending
ending-long n line rest long =
    ap (λ (b : Bool). if b then AtLongLine else rest_ending n line rest) (is_long line_max (length line) long)

ending-none : (n : ℕ) → ending n [] ≡ AtEnd
unfolding ending
ending-none n = refl

ending-most : (line : List ℕ) (rest : List (List ℕ)) → ending 0 (line ∷ rest) ≡ AtMost
unfolding ending
ending-most line rest = refl

one_more : (line : List ℕ) (done : List (List ℕ)) (n : ℕ) → length (line ∷ done) + n ≡ suc (length done + n)
one_more line done n = omega arith

to_answer-behind : (done rest : List (List ℕ)) (n : ℕ) → AllByRecursion IsShort done → AllByRecursion IsNoQuit done
    → to_answer (length done + n) (done ++ rest) ≡ done ++ to_answer n rest
to_answer-behind [] rest n short go = let same : length {A = List ℕ} [] + n ≡ n = omega arith in ap (λ k. to_answer k rest) same
to_answer-behind (line ∷ done) rest n short go =
    ap (λ k. to_answer k (line ∷ (done ++ rest))) (one_more line done n)
    ∙ to_answer-short (length done + n) line (done ++ rest) short.0
    ∙ ap (λ (b : Bool). line ∷ (if b then [] else to_answer (length done + n) (done ++ rest))) go.0
    ∙ ap (λ (ls : List (List ℕ)). line ∷ ls) (to_answer-behind done rest n short.1 go.1)

ending-behind : (done rest : List (List ℕ)) (n : ℕ) → AllByRecursion IsShort done → AllByRecursion IsNoQuit done
    → ending (length done + n) (done ++ rest) ≡ ending n rest
ending-behind [] rest n short go = let same : length {A = List ℕ} [] + n ≡ n = omega arith in ap (λ k. ending k rest) same
ending-behind (line ∷ done) rest n short go =
    ap (λ k. ending k (line ∷ (done ++ rest))) (one_more line done n)
    ∙ ending-short (length done + n) line (done ++ rest) short.0
    ∙ ap (λ (b : Bool). if b then AtQuit else ending (length done + n) (done ++ rest)) go.0
    ∙ ending-behind done rest n short.1 go.1

-- how many may be answered behind so many
left_over : (n : ℕ) → n ≤ max_lines → max_lines ≡ n + (max_lines - n)
left_over n within = omega (arith, within)

left_over_one : (n : ℕ) → n < max_lines → max_lines ≡ n + suc (max_lines - n - 1)
left_over_one n within = omega (arith, within)

to_answer-all : (all done rest : List (List ℕ)) (n : ℕ) → all ≡ done ++ rest → ArePassed done → max_lines ≡ length done + n
    → to_answer max_lines all ≡ done ++ to_answer n rest
to_answer-all all done rest n e p long =
    ap (to_answer max_lines) e ∙ ap (λ k. to_answer k (done ++ rest)) long ∙ to_answer-behind done rest n p.short p.no_quit

ending-all : (all done rest : List (List ℕ)) (n : ℕ) → all ≡ done ++ rest → ArePassed done → max_lines ≡ length done + n
    → ending max_lines all ≡ ending n rest
ending-all all done rest n e p long =
    ap (ending max_lines) e ∙ ap (λ k. ending k (done ++ rest)) long ∙ ending-behind done rest n p.short p.no_quit

-- what was answered is the beginning of what is to be answered
pub passed_first : (all done rest : List (List ℕ)) → all ≡ done ++ rest → ArePassed done → length done ≤ max_lines
    → AreFirst done (to_answer max_lines all)
passed_first all done rest e p within =
    (to_answer (max_lines - length done) rest, sym (to_answer-all all done rest (max_lines - length done) e p (left_over (length done) within)))

-- and with one line more
pub one_line_more : (done more : List (List ℕ)) (line : List ℕ) → (done ++ line ∷ []) ++ more ≡ done ++ line ∷ more
one_line_more done more line = append_assoc done (line ∷ []) more

pub answered_first : (all done rest : List (List ℕ)) (line : List ℕ) → all ≡ done ++ line ∷ rest → ArePassed done → length done < max_lines
    → IsShort line → AreFirst (done ++ line ∷ []) (to_answer max_lines all)
answered_first all done rest line e p within short =
    let n = max_lines - length done - 1 in (
      rest_to_answer n line rest,
      one_line_more done (rest_to_answer n line rest) line
          ∙ sym (to_answer-all all done (line ∷ rest) (suc n) e p (left_over_one (length done) within)
          ∙ ap (λ (ls : List (List ℕ)). done ++ ls) (to_answer-short n line rest short)),
    )

-- these are all that are to be answered, for this reason
pub record AreAll (done lines : List (List ℕ)) (reason : Ending) : Type 0 where
  pub all : done ≡ to_answer max_lines lines
  pub ends : ending max_lines lines ≡ reason

pub all_at_end : (all done : List (List ℕ)) → all ≡ done ++ [] → ArePassed done → length done ≤ max_lines → AreAll done all AtEnd
all_at_end all done e p within =
    let n = max_lines - length done in
    let long = left_over (length done) within in
    record {
      all = sym (to_answer-all all done [] n e p long ∙ ap (λ (ls : List (List ℕ)). done ++ ls) (to_answer-none n) ∙ append-nil done);
      ends = ending-all all done [] n e p long ∙ ending-none n;
    }

pub all_at_quit : (all done rest : List (List ℕ)) (line : List ℕ) → all ≡ done ++ line ∷ rest → ArePassed done → length done < max_lines
    → IsShort line → is_quit line ≡ true → AreAll (done ++ line ∷ []) all AtQuit
all_at_quit all done rest line e p within short quits =
    let n = max_lines - length done - 1 in
    let long = left_over_one (length done) within in
    record {
      all = sym (to_answer-all all done (line ∷ rest) (suc n) e p long
          ∙ ap (λ (ls : List (List ℕ)). done ++ ls) (to_answer-short n line rest short)
          ∙ ap (λ (b : Bool). done ++ line ∷ (if b then [] else to_answer n rest)) quits);
      ends = ending-all all done (line ∷ rest) (suc n) e p long ∙ ending-short n line rest short
          ∙ ap (λ (b : Bool). if b then AtQuit else ending n rest) quits;
    }

pub all_at_long_line : (all done rest : List (List ℕ)) (line : List ℕ) → all ≡ done ++ line ∷ rest → ArePassed done → length done < max_lines
    → line_max < length line → AreAll done all AtLongLine
all_at_long_line all done rest line e p within too_long =
    let n = max_lines - length done - 1 in
    let long = left_over_one (length done) within in
    record {
      all = sym (to_answer-all all done (line ∷ rest) (suc n) e p long
          ∙ ap (λ (ls : List (List ℕ)). done ++ ls) (to_answer-long n line rest too_long) ∙ append-nil done);
      ends = ending-all all done (line ∷ rest) (suc n) e p long ∙ ending-long n line rest too_long;
    }

pub all_at_most : (all done rest : List (List ℕ)) (line : List ℕ) → all ≡ done ++ line ∷ rest → ArePassed done → length done ≡ max_lines
    → AreAll done all AtMost
all_at_most all done rest line e p full =
    let long : max_lines ≡ length done + 0 = omega (arith, full) in
    record {
      all = sym (to_answer-all all done (line ∷ rest) 0 e p long
          ∙ ap (λ (ls : List (List ℕ)). done ++ ls) (to_answer-most line rest) ∙ append-nil done);
      ends = ending-all all done (line ∷ rest) 0 e p long ∙ ending-most line rest;
    }
