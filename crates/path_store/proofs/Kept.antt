-- What is as it was after the same is written at one key.
use Rattle.std.specs.Prelude.{◌≡◌, List, ℕ, cond, refl, true, false, Bool, Result, Ok, Err, OnErr}
use Rattle.std.proofs.Common.{ap, ◌∙◌}
use Rattle.std.specs.Bool.{Decides}
use Rattle.std.specs.Str.{bytes_eq}
use Rattle.std.proofs.lemmas.Slice.Eq.{bytes_eq-Decides}

same_by : (digest d : List ℕ) (f : List ℕ → List ℕ) → (b : Bool) → Decides b (digest ≡ d) → cond b (f digest) (f d) ≡ f d
same_by digest d f true h = ap f (h.0 refl)
same_by digest d f false h = refl

pub same_at_each : (digest : List ℕ) (f g : List ℕ → List ℕ) → ((d : List ℕ) → g d ≡ cond (bytes_eq digest d) (f digest) (f d)) → (d : List ℕ) → g d ≡ f d
same_at_each digest f g h d = h d ∙ same_by digest d f (bytes_eq digest d) (bytes_eq-Decides digest d)

pub on_err : {T E : Type 0} (r : Result T E) {P : Type 0} → P → OnErr r P
on_err (Ok _) p = tt
on_err (Err _) p = p
