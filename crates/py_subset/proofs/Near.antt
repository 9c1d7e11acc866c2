-- What a reader does on a list it does on each list with the same tokens up to and including the one at which it stops.
use Rattle.std.proofs.Common.{◌≡◌, ℕ, ◌+◌, ◌-◌, ◌<◌, ◌≤◌, zero, suc, Bool, true, false, cond, List, [], ◌∷◌, ◌++◌, length, Ok, Err, refl, ap, sym, subst, ◌∙◌, arith, append_assoc}
use Rattle.std.specs.Prelude.{Option, Some, None}
use Rattle.std.proofs.lemmas.List.{length-append}
use Rattle.py_subset.specs.declared.token.Token.{Token}
use Rattle.py_subset.specs.declared.token.Mark.{Mark}
use Rattle.py_subset.specs.declared.token.Mark.TheVariants as m
use Rattle.py_subset.specs.declared.tree.Word.{Word}
use Rattle.py_subset.specs.Marks.{same}
use Rattle.py_subset.specs.Language.{next}
use Rattle.py_subset.specs.Parsers.{Parser, Reply, rest, told, ◌>>=◌}
use Rattle.py_subset.specs.Parsers as read
use Rattle.py_subset.proofs.Steps.{before, after, reply, if_true, if_false}

-- the tokens at which a reader stops
abbrev pub left : {A : Type 0} → Reply A → List Token
left (Ok x) = x.1
left (Err us) = us

-- the same reply with other tokens left
abbrev pub moved : {A : Type 0} → Reply A → List Token → Reply A
moved (Ok x) us = Ok (x.0, us)
moved (Err ts) us = Err us

-- The same token comes next, or both lists end.
abbrev pub Alike : List Token → List Token → Type 0
Alike [] [] = Unit {0}
Alike [] (u ∷ us) = ⊥
Alike (t ∷ ts) [] = ⊥
Alike (t ∷ ts) (u ∷ us) = t ≡ u

abbrev pub Nearly : {A : Type 0} → ℕ → Parser A → List Token → Reply A → Type 0
Nearly n' p' ts r = (b : List Token) × (ts ≡ b ++ left r) × ((us : List Token) → Alike (left r) us → length (b ++ us) < n' → p' (b ++ us) ≡ moved r us)

-- The second reader, on lists of fewer than n' tokens, does what the first does on lists of fewer than n.
pub record Near {A : Type 0} (n n' : ℕ) (p p' : Parser A) : Type 0 where
  pub near : (ts : List Token) → length ts < n → Nearly n' p' ts (p ts)

pub alike-next : (us vs : List Token) → Alike us vs → next us ≡ next vs
alike-next [] [] h = refl
alike-next [] (v ∷ vs) h = absurd h
alike-next (u ∷ us) [] h = absurd h
alike-next (u ∷ us) (v ∷ vs) h = ap (λ (t : Token). t.mark) h

alike-over : (b us vs : List Token) → Alike us vs → Alike (b ++ us) (b ++ vs)
alike-over [] us vs h = h
alike-over (t ∷ b) us vs h = refl

-- the mark that comes next in the list that goes on as the first
next-over : (ts b us vs : List Token) → ts ≡ b ++ us → Alike us vs → next (b ++ vs) ≡ next ts
next-over ts b us vs e h = sym (ap next e ∙ alike-next (b ++ us) (b ++ vs) (alike-over b us vs h))

pub near-pure : {A : Type 0} {n n' : ℕ} (x : A) → Near n n' (λ ts. Ok (x, ts)) (λ ts. Ok (x, ts))
near-pure x = record { near = λ ts lt. ([], refl, λ us h k. refl) }

pub near-err : {A : Type 0} {n n' : ℕ} → Near {A = A} n n' (λ ts. Err ts) (λ ts. Err ts)
near-err = record { near = λ ts lt. ([], refl, λ us h k. refl) }

pub near-rest : {A : Type 0} {n n' : ℕ} (x : A) → Near n n' (λ ts. Ok (x, rest ts)) (λ ts. Ok (x, rest ts))
near-rest {A} {n} {n'} x = record { near = by } where
  ended : (us : List Token) → Alike [] us → reply {A = A} (x, rest us) ≡ Ok (x, us)
  ended [] h = refl
  ended (u ∷ us) h = absurd h

  by : (ts : List Token) → length ts < n → Nearly {A = A} n' (λ ts. Ok (x, rest ts)) ts (Ok (x, rest ts))
  by [] lt = ([], refl, λ us h k. ended us h)
  by (t ∷ ts) lt = (t ∷ [], refl, λ us h k. refl)

pub near-if : {A : Type 0} (test : Mark → Bool) {n n' : ℕ} {p p' q q' : Parser A} → Near n n' p p' → Near n n' q q' → Near n n' (read.choice test p q) (read.choice test p' q')
near-if {A} test {n} {n'} {p} {p'} {q} {q'} a b = record { near = λ ts lt. by ts (test (next ts)) refl lt } where
  by : (ts : List Token) (c : Bool) → test (next ts) ≡ c → length ts < n → Nearly n' (read.choice test p' q') ts (cond c (p ts) (q ts))
  by ts true e lt =
      let w = a.near ts lt in
      (w.0, w.1, λ us h k. if_true (test (next (w.0 ++ us))) (p' (w.0 ++ us)) (q' (w.0 ++ us)) (moved (p ts) us) (ap test (next-over ts w.0 (left (p ts)) us w.1 h) ∙ e) (w.2 us h k))
  by ts false e lt =
      let w = b.near ts lt in
      (w.0, w.1, λ us h k. if_false (test (next (w.0 ++ us))) (p' (w.0 ++ us)) (q' (w.0 ++ us)) (moved (q ts) us) (ap test (next-over ts w.0 (left (q ts)) us w.1 h) ∙ e) (w.2 us h k))

abbrev then : {A B : Type 0} → (A → Parser B) → A × List Token → Reply B
then q r = q r.0 r.1

pub near-bind : {A B : Type 0} (e : ℕ) {n n' m m' : ℕ} {p p' : Parser A} {q q' : A → Parser B} → Near n n' p p'
    → ((ts : List Token) (x : A) (us : List Token) → length ts < n → p ts ≡ Ok (x, us) → length us + e ≤ length ts)
    → ((x : A) → Near m m' (q x) (q' x)) → n ≤ m + e → n' ≤ m' + e → Near n n' (λ ts. p ts >>= then q) (λ ts. p' ts >>= then q')
near-bind {A} {B} e {n} {n'} {m} {m'} {p} {p'} {q} {q'} a eats c le le' = record { near = λ ts lt. by ts (p ts) lt refl (a.near ts lt) } where
  by : (ts : List Token) (r : Reply A) → length ts < n → p ts ≡ r → Nearly n' p' ts r → Nearly n' (λ ts. p' ts >>= then q') ts (r >>= then q)
  by ts (Ok x) lt is w =
      let eaten = eats ts x.0 x.1 lt is in
      let long = ap length w.1 ∙ length-append w.0 x.1 in
      let v = (c x.0).near x.1 (omega (arith, eaten)) in (
        w.0 ++ v.0,
        w.1 ∙ ap (λ us. w.0 ++ us) v.1 ∙ sym (append_assoc w.0 v.0 (left (q x.0 x.1))),
        λ us h k.
            let apart = append_assoc w.0 v.0 us in
            let short : length (w.0 ++ (v.0 ++ us)) < n' = subst (λ (z : List Token). length z < n') apart k in
            let same_next : Alike x.1 (v.0 ++ us) = subst (λ (z : List Token). Alike z (v.0 ++ us)) (sym v.1) (alike-over v.0 (left (q x.0 x.1)) us h) in
            let first = w.2 (v.0 ++ us) same_next short in
            let second = v.2 us h (omega (arith, eaten, long, short, length-append w.0 (v.0 ++ us))) in
            ap (λ (z : List Token). p' z >>= then q') apart ∙ ap (λ (r : Reply A). r >>= then q') first ∙ second,
      )
  by ts (Err us) lt is w = (w.0, w.1, λ vs h k. ap (λ (r : Reply A). r >>= then q') (w.2 vs h k))

-- A reader leaves no more tokens than there are.
pub near-fits : {A : Type 0} {n n' : ℕ} {p p' : Parser A} → Near n n' p p' → (ts : List Token) (x : A) (us : List Token) → length ts < n → p ts ≡ Ok (x, us) → length us + 0 ≤ length ts
near-fits {A} {n} {n'} {p} {p'} a ts x us lt e =
    let w = a.near ts lt in
    let ends : left (p ts) ≡ us = ap left e in
    omega (arith, ap length w.1, length-append w.0 (left (p ts)), ap length ends)

pub near-then : {A B : Type 0} {n n' : ℕ} {p p' : Parser A} {q q' : A → Parser B} → Near n n' p p' → ((x : A) → Near n n' (q x) (q' x)) → Near n n' (λ ts. p ts >>= then q) (λ ts. p' ts >>= then q')
near-then {A} {B} {n} {n'} {p} {p'} {q} {q'} a c = near-bind 0 {m = n} {m' = n'} a (near-fits a) c (omega arith) (omega arith)

pub near-fewer : {A : Type 0} {n n' : ℕ} {p p' : Parser A} (N N' : ℕ) → N ≤ n → N' ≤ n' → Near n n' p p' → Near N N' p p'
near-fewer {A} {n} {n'} {p} {p'} N N' le le' a = record { near = λ ts lt. let w = a.near ts (omega arith) in (w.0, w.1, λ us h k. w.2 us h (omega (arith, k))) }

-- No list has fewer than no tokens.
pub near-void : {A : Type 0} {n n' : ℕ} {p p' : Parser A} (k : ℕ) (p'' : Parser A) → k ≤ 0 → Near n n' p p' → Near n k p p''
near-void {A} {n} {n'} {p} {p'} k p'' le a = record { near = λ ts lt. let w = a.near ts lt in (w.0, w.1, λ us h less. absurd (omega (arith, less))) }

pub near-marked : {A : Type 0} {n n' : ℕ} (f : Mark → Option A) → Near n n' (read.marked f) (read.marked f)
near-marked {A} {n} {n'} f = record { near = λ ts lt. by ts (f (next ts)) refl } where
  ended : (x : A) (us : List Token) → f m.End ≡ Some x → Alike [] us → read.marked f us ≡ Ok (x, us)
  ended x [] e h = ap (λ (o : Option A). told o []) e
  ended x (u ∷ us) e h = absurd h

  by : (ts : List Token) (o : Option A) → f (next ts) ≡ o → Nearly n' (read.marked f) ts (told o ts)
  by ts None e = ([], refl, λ us h k. ap (λ (o : Option A). told o us) (ap f (sym (alike-next ts us h)) ∙ e))
  by [] (Some x) e = ([], refl, λ us h k. ended x us e h)
  by (t ∷ ts) (Some x) e = (t ∷ [], refl, λ us h k. ap (λ (o : Option A). told o (t ∷ us)) e)

pub near-tok : {n n' : ℕ} (mark : Mark) → Near n n' (read.tok mark) (read.tok mark)
near-tok mark = near-if (λ a. same a mark) (near-rest tt) near-err

abbrev one_name : Bool → Token → List Token → Reply Word
one_name b t ts = cond b (Ok (t.word, ts)) (Err (t ∷ ts))

pub near-name : {n n' : ℕ} → Near n n' read.name read.name
near-name {n} {n'} = record { near = by } where
  ended : (us : List Token) → Alike [] us → read.name us ≡ Err us
  ended [] h = refl
  ended (u ∷ us) h = absurd h

  again : (t : Token) (us : List Token) → same t.mark m.Name ≡ false → Alike (t ∷ []) us → read.name us ≡ Err us
  again t [] e h = absurd h
  again t (u ∷ us) e h = rw (ap (λ (v : Token). same v.mark m.Name) (sym h) ∙ e) refl

  one : (b : Bool) (t : Token) (ts : List Token) → same t.mark m.Name ≡ b → Nearly n' read.name (t ∷ ts) (one_name b t ts)
  one true t ts e = (t ∷ [], refl, λ us h k. ap (λ b. one_name b t us) e)
  one false t ts e = ([], refl, λ us h k. again t us e h)

  by : (ts : List Token) → length ts < n → Nearly n' read.name ts (read.name ts)
  by [] lt = ([], refl, λ us h k. ended us h)
  by (t ∷ ts) lt = one (same t.mark m.Name) t ts refl

pub near-image : {A B : Type 0} (f : A → B) {n n' : ℕ} {p p' : Parser A} → Near n n' p p' → Near n n' (read.image f p) (read.image f p')
near-image f {n} {n'} {p} {p'} a = near-then a (λ x. near-pure (f x))

pub near-both : {A B C : Type 0} (f : A → B → C) {n n' : ℕ} {p p' : Parser A} {q q' : Parser B} → Near n n' p p' → Near n n' q q' → Near n n' (read.both f p q) (read.both f p' q')
near-both f {n} {n'} {p} {p'} {q} {q'} a b = near-then a (λ x. near-then b (λ y. near-pure (f x y)))

pub near-before : {A : Type 0} (mark : Mark) {n n' : ℕ} {p p' : Parser A} → Near n n' p p' → Near n n' (before mark p) (before mark p')
near-before mark {n} {n'} {p} {p'} a = near-then (near-tok mark) (λ x. a)

pub near-after : {A : Type 0} (mark : Mark) {n n' : ℕ} {p p' : Parser A} → Near n n' p p' → Near n n' (after p mark) (after p' mark)
near-after mark {n} {n'} {p} {p'} a = near-then a (λ x. near-then (near-tok mark) (λ y. near-pure x))

tok-eats : (mark : Mark) → same m.End mark ≡ false → (n : ℕ) (ts : List Token) (x : Unit {0}) (us : List Token) → length ts < n → read.tok mark ts ≡ Ok (x, us) → length us + 1 ≤ length ts
tok-eats mark no_end n ts x us lt e = by ts (same (next ts) mark) refl e where
  by : (ts : List Token) (b : Bool) → same (next ts) mark ≡ b → cond b (Ok (tt, rest ts)) (Err ts) ≡ reply {A = Unit {0}} (x, us) → length us + 1 ≤ length ts
  by [] true is e = cc
  by (t ∷ ts) true is e = omega (arith, ap (λ (r : Reply (Unit {0})). length (left r)) e)
  by ts false is e = cc

pub near-inside : {A : Type 0} (mark : Mark) {n n' : ℕ} {p p' : Parser A} → same m.End mark ≡ false → Near n n' p p' → Near (suc n) (suc n') (before mark p) (before mark p')
near-inside mark {n} {n'} {p} {p'} no_end a = near-bind 1 (near-tok mark) (tok-eats mark no_end (suc n)) (λ x. a) (omega arith) (omega arith)

pub near-opt : {A : Type 0} (test : Mark → Bool) {n n' : ℕ} {p p' : Parser A} → Near n n' p p' → Near n n' (read.opt test p) (read.opt test p')
near-opt test {n} {n'} {p} {p'} a = near-if test (near-then a (λ x. near-pure (Some x))) (near-pure None)

module _ {A : Type 0} (test : Mark → Bool) (n n' : ℕ) (p p' : Parser A) (a : Near n n' p p') (eats : (ts : List Token) (x : A) (us : List Token) → length ts < n → p ts ≡ Ok (x, us) → length us + 1 ≤ length ts) where
  star-step : (j j' N N' : ℕ) → N ≤ n → N' ≤ n' → Near (N - 1) (N' - 1) (read.star test p j) (read.star test p' j') → Near N N' (read.star test p (suc j)) (read.star test p' (suc j'))
  star-step j j' N N' le le' c = near-if test
      (near-bind 1 (near-fewer N N' le le' a) (λ ts x us lt e. eats ts x us (omega arith) e) (λ x. near-then c (λ xs. near-pure (x ∷ xs))) (omega arith) (omega arith)) (near-pure [])

  pub near-star : (j j' N N' : ℕ) → N ≤ j → N' ≤ j' → N ≤ n → N' ≤ n' → Near N N' (read.star test p j) (read.star test p' j')
  near-star zero j' N N' few few' le le' = record { near = λ ts lt. absurd (omega arith) }
  near-star (suc j) zero N N' few few' le le' =
      near-void N' (read.star test p' zero) few' (star-step j zero N 0 le (omega arith) (near-star j zero (N - 1) 0 (omega arith) (omega arith) (omega arith) (omega arith)))
  near-star (suc j) (suc j') N N' few few' le le' = star-step j j' N N' le le' (near-star j j' (N - 1) (N' - 1) (omega arith) (omega arith) (omega arith) (omega arith))

  further-step : (j j' N N' : ℕ) → N ≤ n → N' ≤ n' → Near (N - 1) (N' - 1) (read.further test p j) (read.further test p' j') → Near N N' (read.further test p (suc j)) (read.further test p' (suc j'))
  further-step j j' N N' le le' c = near-if (λ b. same b m.Comma)
      (near-then (near-rest (tt {0})) (λ _. near-if test (near-bind 1 (near-fewer N N' le le' a) (λ ts x us lt e. eats ts x us (omega arith) e)
      (λ x. near-then c (λ z. near-pure (x ∷ z.0, z.1))) (omega arith) (omega arith)) (near-pure ([], true)))) (near-pure ([], false))

  near-further : (j j' N N' : ℕ) → N ≤ j → N' ≤ j' → N ≤ n → N' ≤ n' → Near N N' (read.further test p j) (read.further test p' j')
  near-further zero j' N N' few few' le le' = record { near = λ ts lt. absurd (omega arith) }
  near-further (suc j) zero N N' few few' le le' =
      near-void N' (read.further test p' zero) few' (further-step j zero N 0 le (omega arith) (near-further j zero (N - 1) 0 (omega arith) (omega arith) (omega arith) (omega arith)))
  near-further (suc j) (suc j') N N' few few' le le' = further-step j j' N N' le le' (near-further j j' (N - 1) (N' - 1) (omega arith) (omega arith) (omega arith) (omega arith))

  pub near-several : (j j' : ℕ) → n ≤ j → n' ≤ j' → Near n n' (read.several test p j) (read.several test p' j')
  near-several j j' few few' = near-then a (λ x. near-then (near-further j j' n n' few few' (omega arith) (omega arith)) (λ z. near-pure (x ∷ z.0, z.1)))
