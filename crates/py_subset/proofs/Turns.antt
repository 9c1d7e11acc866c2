-- A turn of a repetition.
use Rattle.std.proofs.Common.{◌≡◌, ℕ, ◌+◌, ◌-◌, ◌<◌, Bool, true, false, cond, List, [], ◌∷◌, ◌++◌, suc, Ok, Err, refl, ap, sym, ◌∙◌, arith, append_assoc}
use Rattle.py_subset.specs.declared.token.Token.{Token}
use Rattle.py_subset.specs.declared.token.Mark.{Mark}
use Rattle.py_subset.specs.declared.token.Mark.TheVariants as m
use Rattle.py_subset.specs.Marks.{same}
use Rattle.py_subset.specs.Language.{next}
use Rattle.py_subset.specs.Parsers.{Parser, Reply, star, further, several, both, rest, ◌>>=◌}
use Rattle.py_subset.specs.Trees.{cons}
use Rattle.py_subset.proofs.Steps.{flagged}
use Rattle.py_subset.proofs.Prefix.{with_front, with_front_flag}

with_front-more : {A : Type 0} (front : List A) (x : A) (r : Reply (List A)) → with_front (front ++ x ∷ []) r ≡ with_front front (r >>= λ s. Ok (x ∷ s.0, s.1))
with_front-more front x (Ok s) = ap (λ (xs : List _). Ok (xs, s.1)) (append_assoc front (x ∷ []) s.0)
with_front-more front x (Err e) = refl

with_front-one : {A : Type 0} (x : A) (r : Reply (List A)) → with_front (x ∷ []) r ≡ (r >>= λ s. Ok (x ∷ s.0, s.1))
with_front-one x (Ok s) = refl
with_front-one x (Err e) = refl

with_front_flag-one : {A B : Type 0} (x : A) (r : Reply (List A × B)) → with_front_flag (x ∷ []) r ≡ (r >>= λ s. Ok ((x ∷ s.0.0, s.0.1), s.1))
with_front_flag-one x (Ok s) = refl
with_front_flag-one x (Err e) = refl

sub-zero : (n : ℕ) → n - 0 ≡ n
sub-zero n = omega arith

star-suc : {A : Type 0} (first : Mark → Bool) (p : Parser A) (m : ℕ) (ts us : List Token) (x : A) (b : Bool) → b ≡ true → p ts ≡ Ok (x, us)
    → (cond b (p ts >>= λ r. star first p m r.1 >>= λ s. Ok (r.0 ∷ s.0, s.1)) (Ok ([], ts))) ≡ (star first p m us >>= λ s. Ok (x ∷ s.0, s.1))
star-suc first p m ts us x true b e = rw e refl
star-suc first p m ts us x false b e = cc

-- What is read so far and what is left of a repetition is the whole.
pub star-keeps : {A : Type 0} (first : Mark → Bool) (p : Parser A) (n k : ℕ) (ts us : List Token) (front : List A) (x : A) (all : Reply (List A))
    → k < n → first (next ts) ≡ true → p ts ≡ Ok (x, us) → with_front front (star first p (n - k) ts) ≡ all
    → with_front (front ++ x ∷ []) (star first p (n - (k + 1)) us) ≡ all
star-keeps first p n k ts us front x all lt begins reads same =
    let less : n - k ≡ suc (n - (k + 1)) = omega arith in
    let turn = ap (λ (m : ℕ). star first p m ts) less ∙ star-suc first p (n - (k + 1)) ts us x (first (next ts)) begins reads in
    with_front-more front x (star first p (n - (k + 1)) us) ∙ sym (ap (with_front front) turn) ∙ same

-- A repetition that begins after its first one.
pub star-begins : {A : Type 0} (first : Mark → Bool) (p : Parser A) (n : ℕ) (us : List Token) (x : A)
    → with_front (x ∷ []) (star first p (n - 0) us) ≡ (star first p n us >>= λ s. Ok (x ∷ s.0, s.1))
star-begins first p n us x = ap (λ (m : ℕ). with_front (x ∷ []) (star first p m us)) (sub-zero n) ∙ with_front-one x (star first p n us)

with_front_flag-more : {A B : Type 0} (front : List A) (x : A) (r : Reply (List A × B)) → with_front_flag (front ++ x ∷ []) r ≡ with_front_flag front (r >>= λ s. Ok ((x ∷ s.0.0, s.0.1), s.1))
with_front_flag-more front x (Ok s) = ap (λ (xs : List _). Ok ((xs, s.0.1), s.1)) (append_assoc front (x ∷ []) s.0.0)
with_front_flag-more front x (Err e) = refl

further-suc : {A : Type 0} (first : Mark → Bool) (p : Parser A) (m : ℕ) (ts us : List Token) (x : A) (b c : Bool) → b ≡ true → c ≡ true → p (rest ts) ≡ Ok (x, us)
    → (cond b (cond c (p (rest ts) >>= λ r. further first p m r.1 >>= flagged r.0) (Ok (([], true), rest ts))) (Ok (([], false), ts)))
    ≡ (further first p m us >>= flagged x)
further-suc first p m ts us x true true b c e = rw e refl
further-suc first p m ts us x true false b c e = cc
further-suc first p m ts us x false true b c e = cc
further-suc first p m ts us x false false b c e = cc

pub further-keeps : {A : Type 0} (first : Mark → Bool) (p : Parser A) (n k : ℕ) (ts mid us : List Token) (front : List A) (x : A) (all : Reply (List A × Bool))
    → k < n → same (next ts) m.Comma ≡ true → mid ≡ rest ts → first (next mid) ≡ true → p mid ≡ Ok (x, us) → with_front_flag front (further first p (n - k) ts) ≡ all
    → with_front_flag (front ++ x ∷ []) (further first p (n - (k + 1)) us) ≡ all
further-keeps first p n k ts mid us front x all lt comma over begins reads is =
    let less : n - k ≡ suc (n - (k + 1)) = omega arith in
    let begins' = ap (λ (ts : List Token). first (next ts)) (sym over) ∙ begins in
    let reads' = ap p (sym over) ∙ reads in
    let turn = ap (λ (m : ℕ). further first p m ts) less ∙ further-suc first p (n - (k + 1)) ts us x (same (next ts) m.Comma) (first (next (rest ts))) comma begins' reads' in
    with_front_flag-more front x (further first p (n - (k + 1)) us) ∙ sym (ap (with_front_flag front) turn) ∙ is

pub several-begins : {A : Type 0} (first : Mark → Bool) (p : Parser A) (n : ℕ) (ts us : List Token) (x : A) → p ts ≡ Ok (x, us)
    → with_front_flag (x ∷ []) (further first p (n - 0) us) ≡ several first p n ts
several-begins first p n ts us x reads = rw reads (ap (λ (m : ℕ). with_front_flag (x ∷ []) (further first p m us)) (sub-zero n) ∙ with_front_flag-one x (further first p n us))

-- The same where the first one is read by another rule.
pub cons-begins : {A : Type 0} (first : Mark → Bool) (p q : Parser A) (n : ℕ) (ts us : List Token) (x : A) → p ts ≡ Ok (x, us)
    → with_front (x ∷ []) (star first q (n - 0) us) ≡ both cons p (star first q n) ts
cons-begins first p q n ts us x reads = rw reads (star-begins first q n us x)

pub ruleset turns = (cons-begins, star-keeps, star-begins, further-keeps, several-begins)
