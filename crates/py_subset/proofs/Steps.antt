-- The steps of readers and of rules by name, for the laws of their forms.
use Rattle.std.proofs.Common.{◌≡◌, ℕ, Bool, true, false, cond, List, ◌∷◌, Ok, Err, Option}
use Rattle.std.specs.Prelude.{Some, None}
use Rattle.py_subset.specs.declared.token.Token.{Token}
use Rattle.py_subset.specs.declared.token.Mark.{Mark}
use Rattle.py_subset.specs.declared.token.Mark.TheVariants as m
use Rattle.py_subset.specs.Marks.{same}
use Rattle.py_subset.specs.Language.{Language, next}
use Rattle.py_subset.specs.Language as rule
use Rattle.py_subset.specs.Parsers.{Parser, Reply, ◌>>=◌}
use Rattle.py_subset.specs.Parsers as read

-- a token before and after, as the readers and the rules have them
abbrev pub before : {A : Type 0} → Mark → Parser A → Parser A
before mark p ts = read.tok mark ts >>= λ r. p r.1

abbrev pub after : {A : Type 0} → Parser A → Mark → Parser A
after p mark ts = p ts >>= λ r. read.tok mark r.1 >>= λ s. Ok (r.0, s.1)

abbrev pub rule_before : {A : Type 0} → Mark → Language A → Language A
rule_before mark L = rule.both (λ _ x. x) (rule.tok mark) L

abbrev pub rule_after : {A : Type 0} → Mark → Language A → Language A
rule_after mark L = rule.both (λ x _. x) L (rule.tok mark)

-- what is read, and what is made of it
abbrev pub reply : {A : Type 0} → A × List Token → Reply A
reply x = Ok x

abbrev pub made : {A B : Type 0} → (A → B) → A × List Token → Reply B
made f r = Ok (f r.0, r.1)

abbrev pub somed : {A : Type 0} → A × List Token → Reply (Option A)
somed r = Ok (Some r.0, r.1)

abbrev pub kept : {A : Type 0} → A → (Unit {0}) × List Token → Reply A
kept x s = Ok (x, s.1)

abbrev pub joined : {A B C : Type 0} → (A → B → C) → A → B × List Token → Reply C
joined f x s = Ok (f x s.0, s.1)

abbrev pub consed : {A : Type 0} → A → List A × List Token → Reply (List A)
consed x s = Ok (x ∷ s.0, s.1)

abbrev pub flagged : {A : Type 0} → A → (List A × Bool) × List Token → Reply (List A × Bool)
flagged x s = Ok ((x ∷ s.0.0, s.0.1), s.1)

-- what is read behind it
abbrev pub then_read : {A : Type 0} → Parser A → (Unit {0}) × List Token → Reply A
then_read p r = p r.1

abbrev pub then_kept : {A : Type 0} → Mark → A × List Token → Reply A
then_kept mark r = read.tok mark r.1 >>= kept r.0

abbrev pub then_joined : {A B C : Type 0} → (A → B → C) → Parser B → A × List Token → Reply C
then_joined f q r = q r.1 >>= joined f r.0

abbrev pub then_star : {A : Type 0} → (Mark → Bool) → Parser A → ℕ → A × List Token → Reply (List A)
then_star first p n r = read.star first p n r.1 >>= consed r.0

abbrev pub then_further : {A : Type 0} → (Mark → Bool) → Parser A → ℕ → A × List Token → Reply (List A × Bool)
then_further first p n r = read.further first p n r.1 >>= flagged r.0

-- what is assigned to, where an `=` comes
abbrev pub assigned : {A B S : Type 0} → (B → A → S) → Parser A → Option B → Parser S
assigned f p None us = Err us
assigned f p (Some t) us = before m.Assign (read.image (f t) p) us

abbrev pub then_assigned : {A B S : Type 0} → (A → Option B) → (B → A → S) → (A → S) → Parser A → A × List Token → Reply S
then_assigned choose f g p r = cond (same (next r.1) m.Assign) (assigned f p (choose r.0) r.1) (Ok (g r.0, r.1))

-- one reader or the other
pub if_true : {A : Type 0} (b : Bool) (p q y : Reply A) → b ≡ true → p ≡ y → cond b p q ≡ y
if_true b p q y e h = rw e h

pub if_false : {A : Type 0} (b : Bool) (p q y : Reply A) → b ≡ false → q ≡ y → cond b p q ≡ y
if_false b p q y e h = rw e h
