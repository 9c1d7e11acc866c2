-- What is kept where no board is made, and what words tell that can't be had.
use Rattle.std.proofs.Common.{◌≡◌, ◌⊎◌, ◌∙◌, inl, inr, ℕ, List, [], Option, None, Some, IsTrue, Result, Ok, Err, String, refl, sym, ap, subst, true≢false}
use Rattle.std.specs.Global.{Global, Vec}
use Rattle.nav_doors.specs.Connections.{Outside as Doors}
use Rattle.nav_doors.specs.Houses.{House}
use Rattle.nav_serve.specs.declared.words.Command.{Command}
use Rattle.nav_serve.specs.Words.{command_in, command_of, texts}
use Rattle.nav_serve.specs.Outside.{seen}
use Rattle.nav_serve.specs.Headline.{KeepsAlone, refuses}
use Rattle.nav_serve.proofs.CallerLemmas.{blames_none, keeps_refused}
use Rattle.nav_serve.proofs.Given.{gives_nothing}

-- a status that refuses the words is none that blames the outside
not_source : (status : ℕ) → IsTrue (refuses status) → status ≡ 3 → ⊥
not_source status ends e = let three : IsTrue (refuses 3) = subst (λ (s : ℕ). IsTrue (refuses s)) e ends in true≢false (sym three)

not_sink : (status : ℕ) → IsTrue (refuses status) → status ≡ 4 → ⊥
not_sink status ends e = let four : IsTrue (refuses 4) = subst (λ (s : ℕ). IsTrue (refuses s)) e ends in true≢false (sym four)

-- the words are no command
pub no_words : {D S K : Type 0} (o : Doors D S K) (command : Option Command) (left held : Option (List ℕ)) (f k : ℕ) (house : House D) (status : ℕ)
    → command ≡ None → IsTrue (refuses status)
    → KeepsAlone o command (seen left f held k) (seen left f held k) house house status
no_words o None left held f k house status e ends = record {
  log = [];
  all_own = refl;
  keeps = record {
    ends = ends;
    causes = blames_none left held f k status (not_source status ends) (not_sink status ends);
    complete = λ none. tt;
    does = tt;
    same_seat = refl;
  };
  gives = tt;
}
no_words o (Some command) left held f k house status e ends = cc

-- memory for the words or the board was refused
pub refused : {D S K : Type 0} (o : Doors D S K) (command : Option Command) (left held : Option (List ℕ)) (f k : ℕ) (house : House D) (status : ℕ)
    → status ≡ 5 → KeepsAlone o command (seen left f held k) (seen left f held k) house house status
refused o command left held f k house status five = record {
  log = [];
  all_own = refl;
  keeps = keeps_refused o command left held f k house 0 [] status five;
  gives = gives_nothing command left held f k status five;
}

-- there is no command, as the status tells
pub without : {D S K : Type 0} (o : Doors D S K) (found command : Option Command) (left held : Option (List ℕ)) (f k : ℕ) (house : House D) (status : ℕ)
    → found ≡ command → ((status ≡ 2) × (found ≡ None)) ⊎ (status ≡ 5)
    → KeepsAlone o command (seen left f held k) (seen left f held k) house house status
without o found command left held f k house status is (inl both) =
    no_words o command left held f k house status (sym is ∙ both.1) (subst (λ (s : ℕ). IsTrue (refuses s)) (sym both.0) refl)
without o found command left held f k house status is (inr five) = refused o command left held f k house status five

-- words that can't be had are no command
pub none_in : {E : Type 0} (words : Result (Vec (String Global)) E) (error : E) → words ≡ Err error → command_in words ≡ None
none_in words error is = ap command_in is

-- those that can are the command that is found in them
pub found_in : {E : Type 0} (words : Result (Vec (String Global)) E) (some : Vec (String Global)) (texts' : List (String Global)) (found : Option Command)
    → words ≡ Ok some → texts' ≡ some.items → found ≡ command_of (texts texts') → found ≡ command_in words
found_in words some texts' found is items e =
    e ∙ ap (λ (ws : List (String Global)). command_of (texts ws)) items ∙ sym (ap command_in is)
