-- The same of repetitions, of lists with commas, and of what is assigned to.
use Rattle.std.proofs.Common.{◌≡◌, ℕ, ◌<◌, ◌≤◌, zero, suc, Bool, true, false, cond, List, [], ◌∷◌, ◌++◌, length, Ok, Err, refl, ap, sym, subst, ◌∙◌, arith, append_assoc, inl, inr}
use Rattle.std.specs.Prelude.{Option, Some, None}
use Rattle.py_subset.specs.declared.token.Token.{Token}
use Rattle.py_subset.specs.declared.token.Mark.{Mark}
use Rattle.py_subset.specs.declared.token.Mark.TheVariants as m
use Rattle.py_subset.specs.Marks.{same}
use Rattle.py_subset.specs.Language.{Language, next, only}
use Rattle.py_subset.specs.Language as rule
use Rattle.py_subset.specs.Chosen.{chosen}
use Rattle.py_subset.specs.Parsers.{Parser, rest, ◌>>=◌}
use Rattle.py_subset.specs.Parsers as read
use Rattle.py_subset.proofs.Steps.{rule_before, then_star, then_further, assigned, then_assigned}
use Rattle.py_subset.proofs.Sound.{Sound, sound-tok}
use Rattle.py_subset.proofs.Viable.{Moved, Moves, Has, Ended, Ends, joined-is, shorter, refused, bind_err, made_err, if_err, left-ended, right-ended, image-ended, ends-before, ends-image, has-tok, has-image}

-- A rule that takes a token.
abbrev pub Eats : {A : Type 0} → Language A → Type 0
Eats {A} L = (ts : List Token) (x : A) (us : List Token) → L ts x us → length us < length ts

star-one : {A : Type 0} {L : Language A} (ts us : List Token) → Ended L ts us → Ended (rule.star L) ts us
star-one ts us w = record { b = w.b; more = w.more; x = w.x ∷ []; is = w.is; all = λ vs. (vs, w.all vs, refl) }

star-more : {A : Type 0} {L : Language A} (ts mid us : List Token) (x : A) → Moved L ts x mid → Ended (rule.star L) mid us → Ended (rule.star L) ts us
star-more {A} {L} ts mid us x v w = record {
  b = v.b ++ w.b;
  more = w.more;
  x = x ∷ w.x;
  is = joined-is ts v.b mid w.b us v.is w.is;
  all = λ vs. (w.b ++ (w.more ++ vs), subst (λ (ks : List Token). L ks x (w.b ++ (w.more ++ vs))) (sym (append_assoc v.b w.b (w.more ++ vs))) (v.all (w.b ++ (w.more ++ vs))), w.all vs);
}

-- further ones behind commas that are completed
record EndedFurther {A : Type 0} (L : Language A) (ts us : List Token) : Type 0 where
  b : List Token
  more : List Token
  xs : List A
  is : ts ≡ b ++ us
  all : (vs : List Token) → rule.further L xs false (b ++ (more ++ vs)) vs

-- a comma comes next
comma : (ts : List Token) → same (next ts) m.Comma ≡ true → (t : Token) × (ts ≡ t ∷ rest ts) × (only m.Comma t.mark ≡ Some tt)
comma [] e = absurd (no e) where
  no : false ≡ true → ⊥
  no e = cc
comma (t ∷ ts) e = (t, refl, rw e refl)

further-one : {A : Type 0} {L : Language A} (ts us : List Token) → same (next ts) m.Comma ≡ true → Ended L (rest ts) us → EndedFurther L ts us
further-one {A} {L} ts us e w =
    let c = comma ts e in
    record { b = c.0 ∷ w.b; more = w.more; xs = w.x ∷ []; is = c.1 ∙ ap (λ zs. c.0 ∷ zs) w.is; all = λ vs. (w.b ++ (w.more ++ vs), vs, (c.2, refl), w.all vs, refl) }

further-more : {A : Type 0} {L : Language A} (ts mid us : List Token) (x : A) → same (next ts) m.Comma ≡ true → Moved L (rest ts) x mid → EndedFurther L mid us → EndedFurther L ts us
further-more {A} {L} ts mid us x e v w =
    let c = comma ts e in
    record {
      b = c.0 ∷ (v.b ++ w.b);
      more = w.more;
      xs = x ∷ w.xs;
      is = c.1 ∙ ap (λ zs. c.0 ∷ zs) (joined-is (rest ts) v.b mid w.b us v.is w.is);
      all = λ vs. (
        (v.b ++ w.b) ++ (w.more ++ vs),
        w.b ++ (w.more ++ vs),
        (c.2, refl),
        subst (λ (ks : List Token). L ks x (w.b ++ (w.more ++ vs))) (sym (append_assoc v.b w.b (w.more ++ vs))) (v.all (w.b ++ (w.more ++ vs))),
        w.all vs,
      );
    }

rest-short : (ts : List Token) → length (rest ts) ≤ length ts
rest-short [] = omega arith
rest-short (t ∷ ts) = omega arith

module _ {A : Type 0} (test : Mark → Bool) (n : ℕ) (p : Parser A) (L : Language A) (sp : Sound p L) (ml : Moves L) (a : Ends n p L) (eats : Eats L) where
  star-all : (j : ℕ) (ts us : List Token) → length ts < j → length ts < n → read.star test p j ts ≡ Err us → Ended (rule.star L) ts us
  star-all zero ts us few lt e = absurd (omega arith)
  star-all (suc j) ts us few lt e = elim (if_err (test (next ts)) (p ts >>= then_star test p j) (Ok ([], ts)) us e) [
    | inl h ↦ elim (bind_err (p ts) (then_star test p j) us h.1) [
      | inl r ↦ star-one ts us (a.ends ts us lt r)
      | inr r ↦
          let l = sp.holds ts r.0.0 r.0.1 r.1 in
          let less = eats ts r.0.0 r.0.1 l in
          star-more ts r.0.1 us r.0.0 (ml.moves ts r.0.0 r.0.1 l) (star-all j r.0.1 us (omega (arith, less)) (omega (arith, less)) (made_err (read.star test p j r.0.1) (λ s. (r.0.0 ∷ s.0, s.1)) us r.2))
    ]
    | inr h ↦ cc
  ]

  pub ends-star : (turns : ℕ) → n ≤ turns → Ends n (read.star test p turns) (rule.star L)
  ends-star turns few = record { ends = λ ts us lt e. star-all turns ts us (omega arith) lt e }

  further-all : (j : ℕ) (ts us : List Token) → length ts < j → length ts < n → read.further test p j ts ≡ Err us → EndedFurther L ts us
  further-all zero ts us few lt e = absurd (omega arith)
  further-all (suc j) ts us few lt e =
      elim (if_err (same (next ts) m.Comma) (cond (test (next (rest ts))) (p (rest ts) >>= then_further test p j) (Ok (([], true), rest ts))) (Ok (([], false), ts)) us e) [
        | inl h ↦ elim (if_err (test (next (rest ts))) (p (rest ts) >>= then_further test p j) (Ok (([], true), rest ts)) us h.1) [
          | inl g ↦ elim (bind_err (p (rest ts)) (then_further test p j) us g.1) [
            | inl r ↦ further-one ts us h.0 (a.ends (rest ts) us (omega (arith, rest-short ts)) r)
            | inr r ↦
                let l = sp.holds (rest ts) r.0.0 r.0.1 r.1 in
                let less = eats (rest ts) r.0.0 r.0.1 l in
                further-more ts r.0.1 us r.0.0 h.0 (ml.moves (rest ts) r.0.0 r.0.1 l)
                (further-all j r.0.1 us (omega (arith, less, rest-short ts)) (omega (arith, less, rest-short ts)) (made_err (read.further test p j r.0.1) (λ s. ((r.0.0 ∷ s.0.0, s.0.1), s.1)) us r.2))
          ]
          | inr g ↦ cc
        ]
        | inr h ↦ cc
      ]

  several-one : (ts us : List Token) → Ended L ts us → Ended (rule.several L) ts us
  several-one ts us w = record { b = w.b; more = w.more; x = (w.x ∷ [], false); is = w.is; all = λ vs. (w.x, [], false, vs, w.all vs, refl, refl) }

  several-more : (ts mid us : List Token) (x : A) → Moved L ts x mid → EndedFurther L mid us → Ended (rule.several L) ts us
  several-more ts mid us x v w = record {
    b = v.b ++ w.b;
    more = w.more;
    x = (x ∷ w.xs, false);
    is = joined-is ts v.b mid w.b us v.is w.is;
    all = λ vs. (
      x,
      w.xs,
      false,
      w.b ++ (w.more ++ vs),
      subst (λ (ks : List Token). L ks x (w.b ++ (w.more ++ vs))) (sym (append_assoc v.b w.b (w.more ++ vs))) (v.all (w.b ++ (w.more ++ vs))),
      w.all vs,
      refl,
    );
  }

  several-all : (turns : ℕ) → n ≤ turns → (ts us : List Token) → length ts < n → (p ts >>= then_further test p turns) ≡ Err us → Ended (rule.several L) ts us
  several-all turns few ts us lt e = elim (bind_err (p ts) (then_further test p turns) us e) [
    | inl r ↦ several-one ts us (a.ends ts us lt r)
    | inr r ↦
        let l = sp.holds ts r.0.0 r.0.1 r.1 in
        let less = eats ts r.0.0 r.0.1 l in
        several-more ts r.0.1 us r.0.0 (ml.moves ts r.0.0 r.0.1 l)
        (further-all turns r.0.1 us (omega (arith, less)) (omega (arith, less)) (made_err (read.further test p turns r.0.1) (λ s. ((r.0.0 ∷ s.0.0, s.0.1), s.1)) us r.2))
  ]

  pub ends-several : (turns : ℕ) → n ≤ turns → Ends n (read.several test p turns) (rule.several L)
  ends-several turns few = record { ends = λ ts us lt e. several-all turns few ts us lt e }

-- Some tokens of the rule that don't begin with this mark.
pub record HasOther {A : Type 0} (mark : Mark) (L : Language A) : Type 0 where
  pub t : Token
  pub w : List Token
  pub x : A
  pub other : same t.mark mark ≡ false
  pub all : (vs : List Token) → L (t ∷ (w ++ vs)) x vs

unless-ended : {A : Type 0} (mark : Mark) {L : Language A} (ts us : List Token) → HasOther mark L → same (next ts) mark ≡ false → Ended L ts us → Ended (rule.unless mark L) ts us
unless-ended {A} mark {L} ts us h e w = by w.b w.is w.all where
  by : (b : List Token) → ts ≡ b ++ us → ((vs : List Token) → L (b ++ (w.more ++ vs)) w.x vs) → Ended (rule.unless mark L) ts us
  by [] is all = record { b = []; more = h.t ∷ h.w; x = h.x; is = is; all = λ vs. (h.other, h.all vs) }
  by (t ∷ b) is all = record { b = t ∷ b; more = w.more; x = w.x; is = is; all = λ vs. (subst (λ (zs : List Token). same (next zs) mark ≡ false) is e, all vs) }

pub ends-unless : {A : Type 0} (mark : Mark) {n : ℕ} {p q : Parser A} {L M : Language A} → Ends n p L → Ends n q M → HasOther mark M → Ends n (read.choice (λ other. same other mark) p q) (rule.either L (rule.unless mark M))
ends-unless mark {n} {p} {q} {L} {M} a b h = record {
  ends = λ ts us lt e. elim (if_err (same (next ts) mark) (p ts) (q ts) us e)
      [ inl g ↦ left-ended ts us (a.ends ts us lt g.1) | inr g ↦ right-ended ts us (unless-ended mark ts us h g.0 (b.ends ts us lt g.1)) ];
}

refused_is : {S : Type 0} (mid us : List Token) → refused {A = S} mid ≡ refused us → mid ≡ us
refused_is mid us e = cc

module _ {A B S : Type 0} (choose : A → Option B) (f : B → A → S) (g : A → S) (n : ℕ) (p : Parser A) (L : Language A) (sp : Sound p L) (ml : Moves L) (a : Ends n p L) (h : Has L) where
  abbrev assigns : Language S
  assigns = rule.both f (chosen choose L) (rule_before m.Assign L)

  -- an expression alone
  alone : (ts us : List Token) (x : A) → Moved L ts x us → Ended (rule.image g L) ts us
  alone ts us x v = record { b = v.b; more = []; x = g x; is = v.is; all = λ vs. (x, v.all vs, refl) }

  value : (ts mid us : List Token) (x : A) (t : B) → choose x ≡ Some t → Moved L ts x mid → Ended (rule_before m.Assign (rule.image (f t) L)) mid us → Ended assigns ts us
  value ts mid us x t is v w = record {
    b = v.b ++ w.b;
    more = w.more;
    x = w.x;
    is = joined-is ts v.b mid w.b us v.is w.is;
    all = λ vs.
        let k = w.all vs in (
          t,
          k.4.0,
          w.b ++ (w.more ++ vs),
          (x, subst (λ (ks : List Token). L ks x (w.b ++ (w.more ++ vs))) (sym (append_assoc v.b w.b (w.more ++ vs))) (v.all (w.b ++ (w.more ++ vs))), is),
          (tt, k.4.0, k.2, k.3, k.4.1, refl),
          k.5 ∙ k.4.2,
        );
  }

  by_target : (ts mid us : List Token) (x : A) (o : Option B) → length mid < n → choose x ≡ o → Moved L ts x mid → assigned f p o mid ≡ Err us → Ended (rule.either assigns (rule.image g L)) ts us
  by_target ts mid us x None lt is v e = right-ended ts us (alone ts us x (subst (λ (zs : List Token). Moved L ts x zs) (refused_is {S = S} mid us e) v))
  by_target ts mid us x (Some t) lt is v e =
      left-ended ts us (value ts mid us x t is v ((ends-before m.Assign (sound-tok m.Assign refl) (has-tok m.Assign refl) (ends-image (f t) a) (has-image (f t) h)).ends mid us lt e))

  by_sign : (ts mid us : List Token) (x : A) → length mid < n → Moved L ts x mid → cond (same (next mid) m.Assign) (assigned f p (choose x) mid) (Ok (g x, mid)) ≡ Err us → Ended (rule.either assigns (rule.image g L)) ts us
  by_sign ts mid us x lt v e = elim (if_err (same (next mid) m.Assign) (assigned f p (choose x) mid) (Ok (g x, mid)) us e) [
    | inl r ↦ by_target ts mid us x (choose x) lt refl v r.1
    | inr r ↦ cc
  ]

  by : (ts us : List Token) → length ts < n → (p ts >>= then_assigned choose f g p) ≡ Err us → Ended (rule.either assigns (rule.image g L)) ts us
  by ts us lt e = elim (bind_err (p ts) (then_assigned choose f g p) us e) [
    | inl r ↦ right-ended ts us (image-ended g ts us (a.ends ts us lt r))
    | inr r ↦ let v = ml.moves ts r.0.0 r.0.1 (sp.holds ts r.0.0 r.0.1 r.1) in by_sign ts r.0.1 us r.0.0 (omega (arith, shorter ts v.b r.0.1 v.is)) v r.2
  ]

  pub ends-assigned : Ends n (λ ts. p ts >>= then_assigned choose f g p) (rule.either assigns (rule.image g L))
  ends-assigned = record { ends = by }
