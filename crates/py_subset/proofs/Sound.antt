-- What the readers with one token of lookahead read is what the rules say.
use Rattle.std.proofs.Common.{◌≡◌, ℕ, zero, suc, Bool, true, false, cond, List, [], ◌∷◌, Ok, Err, Option, refl, ap, sym, subst, ◌∙◌, inl, inr, ◌⊎◌}
use Rattle.std.specs.Prelude.{Some, None}
use Rattle.py_subset.specs.declared.token.Token.{Token}
use Rattle.py_subset.specs.declared.token.Mark.{Mark}
use Rattle.py_subset.specs.declared.token.Mark.TheVariants as m
use Rattle.py_subset.specs.declared.tree.Word.{Word}
use Rattle.py_subset.specs.Marks.{same}
use Rattle.py_subset.specs.Language.{Language, next}
use Rattle.py_subset.specs.Language as rule
use Rattle.py_subset.specs.Chosen.{chosen}
use Rattle.py_subset.specs.Parsers.{Parser, Reply, rest, told, ◌>>=◌}
use Rattle.py_subset.specs.Parsers as read
use Rattle.py_subset.proofs.Steps.{before, after, rule_before, rule_after, reply, made, somed, kept, joined, consed, flagged, then_read, then_kept, then_joined, then_star, then_further, assigned, then_assigned}
use Rattle.py_subset.proofs.MarkNumbers.{same-is}

pub record Sound {A : Type 0} (p : Parser A) (L : Language A) : Type 0 where
  pub holds : (ts : List Token) (x : A) (us : List Token) → p ts ≡ Ok (x, us) → L ts x us

bind_ok : {A B : Type 0} (r : Reply A) (f : A × List Token → Reply B) (y : B × List Token) → (r >>= f) ≡ Ok y → (x : A × List Token) × (r ≡ Ok x) × (f x ≡ Ok y)
bind_ok (Ok x) f y e = (x, refl, e)
bind_ok (Err s) f y e = cc

pair_ok : {A : Type 0} (x y : A × List Token) → reply x ≡ reply y → (x.0 ≡ y.0) × (x.1 ≡ y.1)
pair_ok {A} x y e =
    let p : x ≡ y = cc in
    (ap (λ (r : A × List Token). r.0) p, ap (λ (r : A × List Token). r.1) p)

if_ok : {A : Type 0} (b : Bool) (p q : Reply A) (y : A × List Token) → cond b p q ≡ Ok y → ((b ≡ true) × (p ≡ Ok y)) ⊎ ((b ≡ false) × (q ≡ Ok y))
if_ok true p q y e = inl (refl, e)
if_ok false p q y e = inr (refl, e)

told_ok : {A : Type 0} (o : Option A) (ts : List Token) (y : A × List Token) → told o ts ≡ Ok y → (o ≡ Some y.0) × (y.1 ≡ rest ts)
told_ok (Some x) ts y e = let p = pair_ok (x, rest ts) y e in (ap (λ (z : _). Some z) p.0, sym p.1)
told_ok None ts y e = cc

pub sound-marked : {A : Type 0} (f : Mark → Option A) → f m.End ≡ None → Sound (read.marked f) (rule.marked f)
sound-marked {A} f no_end = record { holds = by } where
  by : (ts : List Token) (x : A) (us : List Token) → read.marked f ts ≡ Ok (x, us) → rule.marked f ts x us
  by [] x us e = let t = told_ok (f m.End) [] (x, us) e in cc
  by (t ∷ ts) x us e = told_ok (f t.mark) (t ∷ ts) (x, us) e

pub sound-tok : (mark : Mark) → same m.End mark ≡ false → Sound (read.tok mark) (rule.tok mark)
sound-tok mark no_end = record { holds = by } where
  by : (ts : List Token) (x : Unit {0}) (us : List Token) → read.tok mark ts ≡ Ok (x, us) → rule.tok mark ts x us
  by [] x us e = elim (if_ok (same m.End mark) (Ok (tt, [])) (Err []) (x, us) e) [ inl p ↦ cc | inr p ↦ cc ]
  by (t ∷ ts) x us e = elim (if_ok (same t.mark mark) (Ok (tt, ts)) (Err (t ∷ ts)) (x, us) e) [ inl p ↦ (rw p.0 refl, sym (pair_ok (tt, ts) (x, us) p.1).1) | inr p ↦ cc ]

pub sound-name : Sound read.name rule.name
sound-name = record { holds = by } where
  by : (ts : List Token) (x : Word) (us : List Token) → read.name ts ≡ Ok (x, us) → rule.name ts x us
  by [] x us e = cc
  by (t ∷ ts) x us e = elim (if_ok (same t.mark m.Name) (Ok (t.word, ts)) (Err (t ∷ ts)) (x, us) e)
      [ inl p ↦ (same-is t.mark m.Name p.0, sym (pair_ok (t.word, ts) (x, us) p.1).0, sym (pair_ok (t.word, ts) (x, us) p.1).1) | inr p ↦ cc ]

pub sound-both : {A B C : Type 0} (f : A → B → C) {p : Parser A} {q : Parser B} {L : Language A} {M : Language B} → Sound p L → Sound q M → Sound (read.both f p q) (rule.both f L M)
sound-both {A} {B} {C} f {p} {q} {L} {M} sp sq = record { holds = by } where
  by : (ts : List Token) (z : C) (vs : List Token) → read.both f p q ts ≡ Ok (z, vs) → rule.both f L M ts z vs
  by ts z vs e =
      let a = bind_ok (p ts) (then_joined f q) (z, vs) e in
      let b = bind_ok (q a.0.1) (joined f a.0.0) (z, vs) a.2 in
      let is = pair_ok (f a.0.0 b.0.0, b.0.1) (z, vs) b.2 in
      (a.0.0, b.0.0, a.0.1, sp.holds ts a.0.0 a.0.1 a.1, subst (λ (w : List Token). M a.0.1 b.0.0 w) is.1 (sq.holds a.0.1 b.0.0 b.0.1 b.1), sym is.0)

pub sound-before : {A : Type 0} (mark : Mark) {p : Parser A} {L : Language A} → same m.End mark ≡ false → Sound p L → Sound (before mark p) (rule_before mark L)
sound-before {A} mark {p} {L} no_end sp = record { holds = by } where
  by : (ts : List Token) (x : A) (us : List Token) → (before mark p) ts ≡ Ok (x, us) → (rule_before mark L) ts x us
  by ts x us e =
      let a = bind_ok (read.tok mark ts) (then_read p) (x, us) e in
      (tt, x, a.0.1, (sound-tok mark no_end).holds ts tt a.0.1 a.1, sp.holds a.0.1 x us a.2, refl)

pub sound-after : {A : Type 0} (mark : Mark) {p : Parser A} {L : Language A} → same m.End mark ≡ false → Sound p L → Sound (after p mark) (rule_after mark L)
sound-after {A} mark {p} {L} no_end sp = record { holds = by } where
  by : (ts : List Token) (z : A) (vs : List Token) → (after p mark) ts ≡ Ok (z, vs) → (rule_after mark L) ts z vs
  by ts z vs e =
      let a = bind_ok (p ts) (then_kept mark) (z, vs) e in
      let b = bind_ok (read.tok mark a.0.1) (kept a.0.0) (z, vs) a.2 in
      let is = pair_ok (a.0.0, b.0.1) (z, vs) b.2 in
      (a.0.0, tt, a.0.1, sp.holds ts a.0.0 a.0.1 a.1, subst (λ (w : List Token). rule.tok mark a.0.1 tt w) is.1 ((sound-tok mark no_end).holds a.0.1 tt b.0.1 b.1), sym is.0)

pub sound-image : {A B : Type 0} (f : A → B) {p : Parser A} {L : Language A} → Sound p L → Sound (read.image f p) (rule.image f L)
sound-image {A} {B} f {p} {L} sp = record { holds = by } where
  by : (ts : List Token) (z : B) (vs : List Token) → read.image f p ts ≡ Ok (z, vs) → rule.image f L ts z vs
  by ts z vs e =
      let a = bind_ok (p ts) (made f) (z, vs) e in
      let is = pair_ok (f a.0.0, a.0.1) (z, vs) a.2 in
      (a.0.0, subst (λ (w : List Token). L ts a.0.0 w) is.1 (sp.holds ts a.0.0 a.0.1 a.1), sym is.0)

pub sound-choice : {A : Type 0} (first : Mark → Bool) {p q : Parser A} {L M : Language A} → Sound p L → Sound q M → Sound (read.choice first p q) (rule.either L M)
sound-choice {A} first {p} {q} {L} {M} sp sq = record { holds = by } where
  by : (ts : List Token) (x : A) (us : List Token) → read.choice first p q ts ≡ Ok (x, us) → rule.either L M ts x us
  by ts x us e = elim (if_ok (first (next ts)) (p ts) (q ts) (x, us) e) [ inl h ↦ inl (sp.holds ts x us h.1) | inr h ↦ inr (sq.holds ts x us h.1) ]

pub sound-opt : {A : Type 0} (first : Mark → Bool) {p : Parser A} {L : Language A} → Sound p L → Sound (read.opt first p) (rule.opt L)
sound-opt {A} first {p} {L} sp = record { holds = by } where
  some : (ts : List Token) (x : Option A) (us : List Token) → (p ts >>= somed) ≡ Ok (x, us) → rule.opt L ts x us
  some ts x us e =
      let a = bind_ok (p ts) somed (x, us) e in
      let is = pair_ok (Some a.0.0, a.0.1) (x, us) a.2 in
      subst (λ (o : Option A). rule.opt L ts o us) is.0 (subst (λ (w : List Token). L ts a.0.0 w) is.1 (sp.holds ts a.0.0 a.0.1 a.1))

  none : (ts : List Token) (x : Option A) (us : List Token) → reply {A = Option A} (None, ts) ≡ Ok (x, us) → rule.opt L ts x us
  none ts x us e = let is = pair_ok (None, ts) (x, us) e in subst (λ (o : Option A). rule.opt L ts o us) is.0 (sym is.1)

  by : (ts : List Token) (x : Option A) (us : List Token) → read.opt first p ts ≡ Ok (x, us) → rule.opt L ts x us
  by ts x us e = elim (if_ok (first (next ts)) (p ts >>= somed) (Ok (None, ts)) (x, us) e) [ inl h ↦ some ts x us h.1 | inr h ↦ none ts x us h.1 ]

star_turn : {A : Type 0} (first : Mark → Bool) {p : Parser A} {L : Language A} (n : ℕ) → Sound p L → Sound (read.star first p n) (rule.star L)
    → (ts : List Token) (xs : List A) (us : List Token) → (p ts >>= then_star first p n) ≡ Ok (xs, us) → rule.star L ts xs us
star_turn {A} first {p} {L} n sp more ts xs us e =
    let a = bind_ok (p ts) (then_star first p n) (xs, us) e in
    let b = bind_ok (read.star first p n a.0.1) (consed a.0.0) (xs, us) a.2 in
    let is = pair_ok (a.0.0 ∷ b.0.0, b.0.1) (xs, us) b.2 in
    let tail : rule.star L a.0.1 b.0.0 us = subst (λ (w : List Token). rule.star L a.0.1 b.0.0 w) is.1 (more.holds a.0.1 b.0.0 b.0.1 b.1) in
    subst (λ (ys : List A). rule.star L ts ys us) is.0 (a.0.1, sp.holds ts a.0.0 a.0.1 a.1, tail)

star_end : {A : Type 0} (L : Language A) (ts : List Token) (xs : List A) (us : List Token) → reply {A = List A} ([], ts) ≡ Ok (xs, us) → rule.star L ts xs us
star_end {A} L ts xs us e = let is = pair_ok ([], ts) (xs, us) e in subst (λ (ys : List A). rule.star L ts ys us) is.0 (sym is.1)

pub sound-star : {A : Type 0} (first : Mark → Bool) {p : Parser A} {L : Language A} (n : ℕ) → Sound p L → Sound (read.star first p n) (rule.star L)
sound-star first zero sp = record { holds = λ ts x us e. cc }
sound-star first {p} {L} (suc n) sp = record {
  holds = λ ts xs us e.
      elim (if_ok (first (next ts)) (p ts >>= then_star first p n) (Ok ([], ts)) (xs, us) e)
      [ inl h ↦ star_turn first n sp (sound-star first n sp) ts xs us h.1 | inr h ↦ star_end L ts xs us h.1 ];
}

-- further ones behind commas
abbrev Further : {A : Type 0} → (Mark → Bool) → Parser A → Language A → ℕ → Type 0
Further {A} first p L n = (ts : List Token) (z : List A × Bool) (us : List Token) → read.further first p n ts ≡ Ok (z, us) → rule.further L z.0 z.1 ts us

comma : (ts : List Token) → same (next ts) m.Comma ≡ true → rule.tok m.Comma ts tt (rest ts)
comma [] h = absurd (no h) where
  no : false ≡ true → ⊥
  no h = cc
comma (t ∷ ts) h = (rw h refl, refl)

further_turn : {A : Type 0} (first : Mark → Bool) {p : Parser A} {L : Language A} (n : ℕ) → Sound p L → Further first p L n
    → (ts : List Token) (z : List A × Bool) (us : List Token) → same (next ts) m.Comma ≡ true
    → (p (rest ts) >>= then_further first p n) ≡ Ok (z, us) → rule.further L z.0 z.1 ts us
further_turn {A} first {p} {L} n sp more ts z us is_comma e =
    let a = bind_ok (p (rest ts)) (then_further first p n) (z, us) e in
    let b = bind_ok (read.further first p n a.0.1) (flagged a.0.0) (z, us) a.2 in
    let is = pair_ok ((a.0.0 ∷ b.0.0.0, b.0.0.1), b.0.1) (z, us) b.2 in
    let tail : rule.further L b.0.0.0 b.0.0.1 a.0.1 us = subst (λ (w : List Token). rule.further L b.0.0.0 b.0.0.1 a.0.1 w) is.1 (more a.0.1 b.0.0 b.0.1 b.1) in
    subst (λ (y : List A × Bool). rule.further L y.0 y.1 ts us) is.0 (rest ts, a.0.1, comma ts is_comma, sp.holds (rest ts) a.0.0 a.0.1 a.1, tail)

further_comma : {A : Type 0} (L : Language A) (ts : List Token) (z : List A × Bool) (us : List Token) → same (next ts) m.Comma ≡ true
    → reply {A = List A × Bool} (([], true), rest ts) ≡ Ok (z, us) → rule.further L z.0 z.1 ts us
further_comma {A} L ts z us is_comma e =
    let is = pair_ok (([], true), rest ts) (z, us) e in
    subst (λ (y : List A × Bool). rule.further L y.0 y.1 ts us) is.0 (subst (λ (w : List Token). rule.tok m.Comma ts tt w) is.1 (comma ts is_comma))

further_end : {A : Type 0} (L : Language A) (ts : List Token) (z : List A × Bool) (us : List Token)
    → reply {A = List A × Bool} (([], false), ts) ≡ Ok (z, us) → rule.further L z.0 z.1 ts us
further_end {A} L ts z us e =
    let is = pair_ok (([], false), ts) (z, us) e in
    subst (λ (y : List A × Bool). rule.further L y.0 y.1 ts us) is.0 (sym is.1)

sound-further : {A : Type 0} (first : Mark → Bool) {p : Parser A} {L : Language A} (n : ℕ) → Sound p L → Further first p L n
sound-further first zero sp ts z us e = cc
sound-further first {p} {L} (suc n) sp ts z us e =
    elim (if_ok (same (next ts) m.Comma) (cond (first (next (rest ts))) (p (rest ts) >>= then_further first p n) (Ok (([], true), rest ts))) (Ok (([], false), ts)) (z, us) e) [
      | inl h ↦ elim (if_ok (first (next (rest ts))) (p (rest ts) >>= then_further first p n) (Ok (([], true), rest ts)) (z, us) h.1)
          [ inl g ↦ further_turn first n sp (sound-further first n sp) ts z us h.0 g.1 | inr g ↦ further_comma L ts z us h.0 g.1 ]
      | inr h ↦ further_end L ts z us h.1
    ]

pub sound-several : {A : Type 0} (first : Mark → Bool) {p : Parser A} {L : Language A} (n : ℕ) → Sound p L → Sound (read.several first p n) (rule.several L)
sound-several {A} first {p} {L} n sp = record { holds = by } where
  by : (ts : List Token) (z : List A × Bool) (vs : List Token) → read.several first p n ts ≡ Ok (z, vs) → rule.several L ts z vs
  by ts z vs e =
      let a = bind_ok (p ts) (then_further first p n) (z, vs) e in
      let b = bind_ok (read.further first p n a.0.1) (flagged a.0.0) (z, vs) a.2 in
      let is = pair_ok ((a.0.0 ∷ b.0.0.0, b.0.0.1), b.0.1) (z, vs) b.2 in
      (a.0.0, b.0.0.0, b.0.0.1, a.0.1, sp.holds ts a.0.0 a.0.1 a.1, subst (λ (w : List Token). rule.further L b.0.0.0 b.0.0.1 a.0.1 w) is.1 (sound-further first n sp a.0.1 b.0.0 b.0.1 b.1), sym is.0)

-- the second one only where the next token hasn't this mark
pub sound-unless : {A : Type 0} (mark : Mark) {p q : Parser A} {L M : Language A} → Sound p L → Sound q M → Sound (read.choice (λ other. same other mark) p q) (rule.either L (rule.unless mark M))
sound-unless {A} mark {p} {q} {L} {M} sp sq = record {
  holds = λ ts x us e.
      elim (if_ok {A = A} (same (next ts) mark) (p ts) (q ts) (x, us) e) [ inl h ↦ inl (sp.holds ts x us h.1) | inr h ↦ inr (h.0, sq.holds ts x us h.1) ];
}

assigned_ok : {A B S : Type 0} (choose : A → Option B) (f : B → A → S) (g : A → S) (p : Parser A) (L : Language A) → Sound p L
    → (ts mid : List Token) (x : A) (o : Option B) (z : S) (us : List Token) → choose x ≡ o → L ts x mid → assigned f p o mid ≡ Ok (z, us)
    → rule.both f (chosen choose L) (rule_before m.Assign L) ts z us
assigned_ok choose f g p L sp ts mid x None z us is l e = cc
assigned_ok {A} choose f g p L sp ts mid x (Some t) z us is l e =
    let h = (sound-before m.Assign refl (sound-image (f t) sp)).holds mid z us e in
    (t, h.4.0, mid, (x, l, is), (tt, h.4.0, h.2, h.3, h.4.1, refl), h.5 ∙ h.4.2)

pub sound-assigned : {A B S : Type 0} (choose : A → Option B) (f : B → A → S) (g : A → S) {p : Parser A} {L : Language A} → Sound p L
    → Sound (λ ts. p ts >>= then_assigned choose f g p) (rule.either (rule.both f (chosen choose L) (rule_before m.Assign L)) (rule.image g L))
sound-assigned {A} {B} {S} choose f g {p} {L} sp = record { holds = by } where
  by : (ts : List Token) (z : S) (us : List Token) → (p ts >>= then_assigned choose f g p) ≡ Ok (z, us) → rule.either (rule.both f (chosen choose L) (rule_before m.Assign L)) (rule.image g L) ts z us
  by ts z us e =
      let a = bind_ok (p ts) (then_assigned choose f g p) (z, us) e in
      elim (if_ok {A = S} (same (next a.0.1) m.Assign) (assigned f p (choose a.0.0) a.0.1) (Ok (g a.0.0, a.0.1)) (z, us) a.2) [
        | inl h ↦ inl (assigned_ok choose f g p L sp ts a.0.1 a.0.0 (choose a.0.0) z us refl (sp.holds ts a.0.0 a.0.1 a.1) h.1)
        | inr h ↦ let is = pair_ok (g a.0.0, a.0.1) (z, us) h.1 in inr (a.0.0, subst (λ (w : List Token). L ts a.0.0 w) is.1 (sp.holds ts a.0.0 a.0.1 a.1), sym is.0)
      ]
