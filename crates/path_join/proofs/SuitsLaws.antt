-- What may be known of the variables of symbols: nothing of a plain one.
use Rattle.std.proofs.Common.{◌≡◌, ℕ, zero, suc, List, [], ◌∷◌, length, set, replicate, true, Option, Some, None, is_some, refl, ap}
use Rattle.stacks_vars.specs.declared.scopes.NodeAt.{NodeAt}
use Rattle.stacks_vars.specs.declared.patterns.ScopePat.{ScopePat}
use Rattle.stacks_vars.specs.declared.patterns.SymPat.{SymPat}
use Rattle.partial_path.specs.Rules.{has_scopes}

-- nothing is known where there are no attached scopes
abbrev pub Suit : Option ScopePat → List NodeAt → Type 0
Suit None known = known ≡ []
Suit (Some pat) known = Unit {0}

-- so at each symbol, there being a list for each
abbrev pub Suits : List SymPat → List (List NodeAt) → Type 0
Suits [] [] = Unit {0}
Suits [] (k ∷ known) = ⊥
Suits (s ∷ symbols) [] = ⊥
Suits (s ∷ symbols) (k ∷ known) = Suit s.scopes k × Suits symbols known

Suit-some : (scopes : Option ScopePat) (known : List NodeAt) → is_some scopes ≡ true → Suit scopes known
Suit-some None known h = cc
Suit-some (Some pat) known h = tt

Suit-nil : (scopes : Option ScopePat) → Suit scopes []
Suit-nil None = refl
Suit-nil (Some pat) = tt

pub Suits-set : (symbols : List SymPat) (known : List (List NodeAt)) (i : ℕ) (more : List NodeAt) → Suits symbols known → has_scopes symbols i ≡ true
    → Suits symbols (set known i more)
Suits-set [] [] i more h k = cc
Suits-set [] (l ∷ known) i more h k = absurd h
Suits-set (s ∷ symbols) [] i more h k = absurd h
Suits-set (s ∷ symbols) (l ∷ known) zero more h k = (Suit-some s.scopes more k, h.1)
Suits-set (s ∷ symbols) (l ∷ known) (suc i) more h k = (h.0, Suits-set symbols known i more h.1 k)

pub Suits-length : (symbols : List SymPat) (known : List (List NodeAt)) → Suits symbols known → length known ≡ length symbols
Suits-length [] [] h = refl
Suits-length [] (l ∷ known) h = absurd h
Suits-length (s ∷ symbols) [] h = absurd h
Suits-length (s ∷ symbols) (l ∷ known) h = ap suc (Suits-length symbols known h.1)

pub Suits-nothing : (symbols : List SymPat) → Suits symbols (replicate (length symbols) [])
Suits-nothing [] = tt
Suits-nothing (s ∷ symbols) = (Suit-nil s.scopes, Suits-nothing symbols)
