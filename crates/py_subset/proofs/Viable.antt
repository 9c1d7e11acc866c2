-- What a rule has read it reads before other tokens too, and what a reader has read up to a refused token can be completed.
use Rattle.std.proofs.Common.{◌≡◌, ℕ, ◌<◌, ◌≤◌, suc, Bool, true, false, cond, List, [], ◌∷◌, ◌++◌, length, Ok, Err, refl, ap, sym, subst, ◌∙◌, arith, append_assoc, inl, inr, ◌⊎◌}
use Rattle.std.specs.Prelude.{Option, Some, None}
use Rattle.std.proofs.lemmas.List.{length-append}
use Rattle.py_subset.specs.declared.token.Token.{Token}
use Rattle.py_subset.specs.declared.token.Mark.{Mark}
use Rattle.py_subset.specs.declared.token.Mark.TheVariants as m
use Rattle.py_subset.specs.declared.tree.Word.{Word}
use Rattle.py_subset.specs.Marks.{same}
use Rattle.py_subset.specs.Language.{Language, next, only}
use Rattle.py_subset.specs.Language as rule
use Rattle.py_subset.specs.Layout.{token}
use Rattle.py_subset.specs.Chosen.{chosen}
use Rattle.py_subset.specs.Parsers.{Parser, Reply, rest, told, ◌>>=◌}
use Rattle.py_subset.specs.Parsers as read
use Rattle.py_subset.proofs.Steps.{before, after, rule_before, rule_after, reply, somed, then_read, then_joined}
use Rattle.py_subset.proofs.Sound.{Sound}

-- The tokens before those that are left, and the same tree read from them before any others.
pub record Moved {A : Type 0} (L : Language A) (ts : List Token) (x : A) (us : List Token) : Type 0 where
  pub b : List Token
  pub is : ts ≡ b ++ us
  pub all : (vs : List Token) → L (b ++ vs) x vs

pub record Moves {A : Type 0} (L : Language A) : Type 0 where
  pub moves : (ts : List Token) (x : A) (us : List Token) → L ts x us → Moved L ts x us

-- some tokens that the rule reads
pub record Has {A : Type 0} (L : Language A) : Type 0 where
  pub w : List Token
  pub x : A
  pub all : (vs : List Token) → L (w ++ vs) x vs

-- The tokens before the refused ones, and more tokens, and the tree that the rule reads from both.
pub record Ended {A : Type 0} (L : Language A) (ts us : List Token) : Type 0 where
  pub b : List Token
  pub more : List Token
  pub x : A
  pub is : ts ≡ b ++ us
  pub all : (vs : List Token) → L (b ++ (more ++ vs)) x vs

pub record Ends {A : Type 0} (n : ℕ) (p : Parser A) (L : Language A) : Type 0 where
  pub ends : (ts us : List Token) → length ts < n → p ts ≡ Err us → Ended L ts us

-- Moves.
pub moves-marked : {A : Type 0} (f : Mark → Option A) → Moves (rule.marked f)
moves-marked {A} f = record { moves = by } where
  by : (ts : List Token) (x : A) (us : List Token) → rule.marked f ts x us → Moved (rule.marked f) ts x us
  by [] x us w = absurd w
  by (t ∷ ts) x us w = record { b = t ∷ []; is = ap (λ vs. t ∷ vs) (sym w.1); all = λ vs. (w.0, refl) }

pub moves-name : Moves rule.name
moves-name = record { moves = by } where
  by : (ts : List Token) (x : Word) (us : List Token) → rule.name ts x us → Moved rule.name ts x us
  by [] x us w = absurd w
  by (t ∷ ts) x us w = record { b = t ∷ []; is = ap (λ vs. t ∷ vs) (sym w.2); all = λ vs. (w.0, w.1, refl) }

-- two parts of a list in one
pub joined-is : (ts b us c vs : List Token) → ts ≡ b ++ us → us ≡ c ++ vs → ts ≡ (b ++ c) ++ vs
joined-is ts b us c vs e h = e ∙ ap (λ zs. b ++ zs) h ∙ sym (append_assoc b c vs)

pub moves-both : {A B C : Type 0} (f : A → B → C) {L : Language A} {M : Language B} → Moves L → Moves M → Moves (rule.both f L M)
moves-both f {L} {M} a b = record {
  moves = λ ts z vs w.
      let v = a.moves ts w.0 w.2 w.3 in
      let u = b.moves w.2 w.1 vs w.4 in
      record { b = v.b ++ u.b; is = joined-is ts v.b w.2 u.b vs v.is u.is; all = λ zs. (w.0, w.1, u.b ++ zs, subst (λ (ks : List Token). L ks w.0 (u.b ++ zs)) (sym (append_assoc v.b u.b zs)) (v.all (u.b ++ zs)), u.all zs, w.5) };
}

pub moves-image : {A B : Type 0} (f : A → B) {L : Language A} → Moves L → Moves (rule.image f L)
moves-image f {L} a = record { moves = λ ts z us w. let v = a.moves ts w.0 us w.1 in record { b = v.b; is = v.is; all = λ vs. (w.0, v.all vs, w.2) } }

pub moves-either : {A : Type 0} {L M : Language A} → Moves L → Moves M → Moves (rule.either L M)
moves-either {A} {L} {M} a b = record { moves = by } where
  by : (ts : List Token) (x : A) (us : List Token) → rule.either L M ts x us → Moved (rule.either L M) ts x us
  by ts x us (inl w) = let v = a.moves ts x us w in record { b = v.b; is = v.is; all = λ vs. inl (v.all vs) }
  by ts x us (inr w) = let v = b.moves ts x us w in record { b = v.b; is = v.is; all = λ vs. inr (v.all vs) }

pub moves-star : {A : Type 0} {L : Language A} → Moves L → Moves (rule.star L)
moves-star {A} {L} a = record { moves = by } where
  by : (ts : List Token) (xs : List A) (us : List Token) → rule.star L ts xs us → Moved (rule.star L) ts xs us
  by ts [] us w = record { b = []; is = sym w; all = λ vs. refl }
  by ts (x ∷ xs) us w =
      let v = a.moves ts x w.0 w.1 in
      let u = by w.0 xs us w.2 in
      record { b = v.b ++ u.b; is = joined-is ts v.b w.0 u.b us v.is u.is; all = λ zs. (u.b ++ zs, subst (λ (ks : List Token). L ks x (u.b ++ zs)) (sym (append_assoc v.b u.b zs)) (v.all (u.b ++ zs)), u.all zs) }

pub moves-opt : {A : Type 0} {L : Language A} → Moves L → Moves (rule.opt L)
moves-opt {A} {L} a = record { moves = by } where
  by : (ts : List Token) (x : Option A) (us : List Token) → rule.opt L ts x us → Moved (rule.opt L) ts x us
  by ts None us w = record { b = []; is = sym w; all = λ vs. refl }
  by ts (Some x) us w = let v = a.moves ts x us w in record { b = v.b; is = v.is; all = λ vs. v.all vs }

-- The same of further ones behind commas.
abbrev MovedFurther : {A : Type 0} → Language A → List A → Bool → List Token → List Token → Type 0
MovedFurther L xs c ts us = (b : List Token) × (ts ≡ b ++ us) × ((vs : List Token) → rule.further L xs c (b ++ vs) vs)

moves-further : {A : Type 0} {L : Language A} → Moves L → (xs : List A) (c : Bool) (ts us : List Token) → rule.further L xs c ts us → MovedFurther L xs c ts us
moves-further a [] false ts us w = ([], sym w, λ vs. refl)
moves-further a [] true [] us w = absurd w
moves-further a [] true (t ∷ ts) us w = (t ∷ [], ap (λ vs. t ∷ vs) (sym w.1), λ vs. (w.0, refl))
moves-further a (x ∷ xs) c [] us w = absurd w.2
moves-further {A} {L} a (x ∷ xs) c (t ∷ ts) us w =
    let v = a.moves w.0 x w.1 w.3 in
    let u = moves-further a xs c w.1 us w.4 in (
      t ∷ (v.b ++ u.0),
      ap (λ zs. t ∷ zs) (sym w.2.1 ∙ joined-is w.0 v.b w.1 u.0 us v.is u.1),
      λ zs.
          ((v.b ++ u.0) ++ zs, u.0 ++ zs, (w.2.0, refl), subst (λ (ks : List Token). L ks x (u.0 ++ zs)) (sym (append_assoc v.b u.0 zs)) (v.all (u.0 ++ zs)), u.2 zs),
    )

pub moves-several : {A : Type 0} {L : Language A} → Moves L → Moves (rule.several L)
moves-several {A} {L} a = record {
  moves = λ ts z us w.
      let v = a.moves ts w.0 w.3 w.4 in
      let u = moves-further a w.1 w.2 w.3 us w.5 in
      record { b = v.b ++ u.0; is = joined-is ts v.b w.3 u.0 us v.is u.1; all = λ zs. (w.0, w.1, w.2, u.0 ++ zs, subst (λ (ks : List Token). L ks w.0 (u.0 ++ zs)) (sym (append_assoc v.b u.0 zs)) (v.all (u.0 ++ zs)), u.2 zs, w.6) };
}

pub moves-chosen : {A B : Type 0} (f : A → Option B) {L : Language A} → Moves L → Moves (chosen f L)
moves-chosen f {L} a = record { moves = λ ts y us w. let v = a.moves ts w.0 us w.1 in record { b = v.b; is = v.is; all = λ vs. (w.0, v.all vs, w.2) } }

-- what takes a token has a first one
first-over : (mark : Mark) (b us vs : List Token) → length us < length (b ++ us) → same (next (b ++ us)) mark ≡ false → same (next (b ++ vs)) mark ≡ false
first-over mark [] us vs lt e = absurd (omega (arith, lt))
first-over mark (t ∷ b) us vs lt e = e

pub moves-unless : {A : Type 0} (mark : Mark) {L : Language A} → Moves L → ((ts : List Token) (x : A) (us : List Token) → L ts x us → length us < length ts) → Moves (rule.unless mark L)
moves-unless mark {L} a eats = record {
  moves = λ ts x us w.
      let v = a.moves ts x us w.1 in
      record { b = v.b; is = v.is; all = λ vs. (first-over mark v.b us vs (subst (λ (zs : List Token). length us < length zs) v.is (eats ts x us w.1)) (subst (λ (zs : List Token). same (next zs) mark ≡ false) v.is w.0), v.all vs) };
}

-- Has.
abbrev pub has-marked : {A : Type 0} (f : Mark → Option A) (mark : Mark) (x : A) → f mark ≡ Some x → Has (rule.marked f)
has-marked f mark x e = record { w = token mark 0 ∷ []; x = x; all = λ vs. (e, refl) }

pub only_is : (mark : Mark) → same mark mark ≡ true → only mark mark ≡ Some tt
only_is mark e = rw e refl

abbrev pub has-tok : (mark : Mark) → same mark mark ≡ true → Has (rule.tok mark)
has-tok mark e = has-marked (only mark) mark tt (only_is mark e)

abbrev pub has-name : Has rule.name
has-name = record { w = token m.Name 0 ∷ []; x = (token m.Name 0).word; all = λ vs. (refl, refl, refl) }

abbrev pub has-both : {A B C : Type 0} (f : A → B → C) {L : Language A} {M : Language B} → Has L → Has M → Has (rule.both f L M)
has-both f {L} {M} a b = record { w = a.w ++ b.w; x = f a.x b.x; all = λ vs. (a.x, b.x, b.w ++ vs, subst (λ (ks : List Token). L ks a.x (b.w ++ vs)) (sym (append_assoc a.w b.w vs)) (a.all (b.w ++ vs)), b.all vs, refl) }

abbrev pub has-image : {A B : Type 0} (f : A → B) {L : Language A} → Has L → Has (rule.image f L)
has-image f {L} a = record { w = a.w; x = f a.x; all = λ vs. (a.x, a.all vs, refl) }

abbrev pub has-left : {A : Type 0} {L M : Language A} → Has L → Has (rule.either L M)
has-left {A} {L} {M} a = record { w = a.w; x = a.x; all = λ vs. inl (a.all vs) }

abbrev pub has-right : {A : Type 0} {L M : Language A} → Has M → Has (rule.either L M)
has-right {A} {L} {M} a = record { w = a.w; x = a.x; all = λ vs. inr (a.all vs) }

abbrev pub has-star : {A : Type 0} (L : Language A) → Has (rule.star L)
has-star L = record { w = []; x = []; all = λ vs. refl }

abbrev pub has-opt : {A : Type 0} (L : Language A) → Has (rule.opt L)
has-opt L = record { w = []; x = None; all = λ vs. refl }

abbrev pub has-several : {A : Type 0} {L : Language A} → Has L → Has (rule.several L)
has-several {A} {L} a = record { w = a.w; x = (a.x ∷ [], false); all = λ vs. (a.x, [], false, vs, a.all vs, refl, refl) }

-- Ends.
abbrev pub refused : {A : Type 0} → List Token → Reply A
refused us = Err us

pub bind_err : {A B : Type 0} (r : Reply A) (f : A × List Token → Reply B) (us : List Token) → (r >>= f) ≡ Err us → (r ≡ Err us) ⊎ ((x : A × List Token) × (r ≡ Ok x) × (f x ≡ Err us))
bind_err (Ok x) f us e = inr (x, refl, e)
bind_err {A} {B} (Err s) f us e = inl (by s us e) where
  by : (s us : List Token) → refused {A = B} s ≡ refused us → refused {A = A} s ≡ refused us
  by s us e = cc

-- what is made of a reply that isn't refused
pub made_err : {A B : Type 0} (r : Reply A) (f : A × List Token → B × List Token) (us : List Token) → (r >>= λ x. Ok (f x)) ≡ Err us → r ≡ Err us
made_err (Ok x) f us e = cc
made_err {A} {B} (Err s) f us e = by s us e where
  by : (s us : List Token) → refused {A = B} s ≡ refused us → refused {A = A} s ≡ refused us
  by s us e = cc

pub if_err : {A : Type 0} (b : Bool) (p q : Reply A) (us : List Token) → cond b p q ≡ Err us → ((b ≡ true) × (p ≡ Err us)) ⊎ ((b ≡ false) × (q ≡ Err us))
if_err true p q us e = inl (refl, e)
if_err false p q us e = inr (refl, e)

told_err : {A : Type 0} (o : Option A) (ts us : List Token) → told o ts ≡ Err us → us ≡ ts
told_err (Some x) ts us e = cc
told_err None ts us e = cc

-- Where the first token is refused, any tokens of the rule complete it.
ended-here : {A : Type 0} {L : Language A} (ts us : List Token) → Has L → us ≡ ts → Ended L ts us
ended-here {A} {L} ts us h e = record { b = []; more = h.w; x = h.x; is = sym e; all = λ vs. h.all vs }

pub ends-marked : {A : Type 0} {n : ℕ} (f : Mark → Option A) → Has (rule.marked f) → Ends n (read.marked f) (rule.marked f)
ends-marked f h = record { ends = λ ts us lt e. ended-here ts us h (told_err (f (next ts)) ts us e) }

tok_err : (b : Bool) (ts us : List Token) → cond b (reply (tt {0}, rest ts)) (Err ts) ≡ Err us → us ≡ ts
tok_err true ts us e = cc
tok_err false ts us e = cc

pub ends-tok : {n : ℕ} (mark : Mark) → Has (rule.tok mark) → Ends n (read.tok mark) (rule.tok mark)
ends-tok mark h = record { ends = λ ts us lt e. ended-here ts us h (tok_err (same (next ts) mark) ts us e) }

pub ends-name : {n : ℕ} → Ends n read.name rule.name
ends-name {n} = record { ends = λ ts us lt e. ended-here ts us has-name (by ts us e) } where
  one : (b : Bool) (t : Token) (ts us : List Token) → cond b (reply (t.word, ts)) (Err (t ∷ ts)) ≡ Err us → us ≡ t ∷ ts
  one true t ts us e = cc
  one false t ts us e = cc

  by : (ts us : List Token) → read.name ts ≡ Err us → us ≡ ts
  by [] us e = cc
  by (t ∷ ts) us e = one (same t.mark m.Name) t ts us e

-- the first part is completed, and the second one follows
pub first-ended : {A B C : Type 0} (f : A → B → C) {L : Language A} {M : Language B} (ts us : List Token) → Ended L ts us → Has M → Ended (rule.both f L M) ts us
first-ended f {L} {M} ts us w h =
    record { b = w.b; more = w.more ++ h.w; x = f w.x h.x; is = w.is; all = λ vs. (w.x, h.x, h.w ++ vs, subst (λ (ks : List Token). L (w.b ++ ks) w.x (h.w ++ vs)) (sym (append_assoc w.more h.w vs)) (w.all (h.w ++ vs)), h.all vs, refl) }

-- the first part is read, and the second one is completed
pub second-ended : {A B C : Type 0} (f : A → B → C) {L : Language A} {M : Language B} (ts mid us : List Token) (x : A) → Moved L ts x mid → Ended M mid us → Ended (rule.both f L M) ts us
second-ended f {L} {M} ts mid us x v w =
    record { b = v.b ++ w.b; more = w.more; x = f x w.x; is = joined-is ts v.b mid w.b us v.is w.is; all = λ vs. (x, w.x, w.b ++ (w.more ++ vs), subst (λ (ks : List Token). L ks x (w.b ++ (w.more ++ vs))) (sym (append_assoc v.b w.b (w.more ++ vs))) (v.all (w.b ++ (w.more ++ vs))), w.all vs, refl) }

-- what is left is no longer
pub shorter : (ts b us : List Token) → ts ≡ b ++ us → length us ≤ length ts
shorter ts b us e = omega (arith, ap length e, length-append b us)

pub ends-both : {A B C : Type 0} (f : A → B → C) {n : ℕ} {p : Parser A} {q : Parser B} {L : Language A} {M : Language B}
    → Sound p L → Moves L → Ends n p L → Ends n q M → Has M → Ends n (read.both f p q) (rule.both f L M)
ends-both {A} {B} {C} f {n} {p} {q} {L} {M} sp ml a b h = record { ends = by } where
  by : (ts us : List Token) → length ts < n → (p ts >>= then_joined f q) ≡ Err us → Ended (rule.both f L M) ts us
  by ts us lt e = elim (bind_err (p ts) (then_joined f q) us e) [
    | inl r ↦ first-ended f ts us (a.ends ts us lt r) h
    | inr r ↦
        let v = ml.moves ts r.0.0 r.0.1 (sp.holds ts r.0.0 r.0.1 r.1) in
        second-ended f ts r.0.1 us r.0.0 v (b.ends r.0.1 us (omega (arith, shorter ts v.b r.0.1 v.is)) (made_err (q r.0.1) (λ s. (f r.0.0 s.0, s.1)) us r.2))
  ]

pub tok-eats : (mark : Mark) (ts : List Token) (x : Unit {0}) (us : List Token) → rule.tok mark ts x us → length us < length ts
tok-eats mark [] x us w = absurd w
tok-eats mark (t ∷ ts) x us w = omega (arith, ap length w.1)

-- over a reader for shorter lists
pub ends-inside : {A : Type 0} (mark : Mark) {n : ℕ} {p : Parser A} {L : Language A} → Sound (read.tok mark) (rule.tok mark) → Has (rule.tok mark) → Ends n p L → Has L → Ends (suc n) (before mark p) (rule_before mark L)
ends-inside {A} mark {n} {p} {L} st ht b h = record { ends = by } where
  by : (ts us : List Token) → length ts < suc n → (read.tok mark ts >>= then_read p) ≡ Err us → Ended (rule_before mark L) ts us
  by ts us lt e = elim (bind_err (read.tok mark ts) (then_read p) us e) [
    | inl r ↦ first-ended (λ _ x. x) ts us ((ends-tok mark ht).ends ts us lt r) h
    | inr r ↦
        let l = st.holds ts r.0.0 r.0.1 r.1 in
        second-ended (λ _ x. x) ts r.0.1 us r.0.0 ((moves-marked (only mark)).moves ts r.0.0 r.0.1 l) (b.ends r.0.1 us (omega (arith, tok-eats mark ts r.0.0 r.0.1 l)) r.2)
  ]

pub ends-before : {A : Type 0} (mark : Mark) {n : ℕ} {p : Parser A} {L : Language A} → Sound (read.tok mark) (rule.tok mark) → Has (rule.tok mark) → Ends n p L → Has L → Ends n (before mark p) (rule_before mark L)
ends-before {A} mark {n} {p} {L} st ht b h = record { ends = by } where
  by : (ts us : List Token) → length ts < n → (read.tok mark ts >>= then_read p) ≡ Err us → Ended (rule_before mark L) ts us
  by ts us lt e = elim (bind_err (read.tok mark ts) (then_read p) us e) [
    | inl r ↦ first-ended (λ _ x. x) ts us ((ends-tok {n = n} mark ht).ends ts us lt r) h
    | inr r ↦
        let l = st.holds ts r.0.0 r.0.1 r.1 in
        second-ended (λ _ x. x) ts r.0.1 us r.0.0 ((moves-marked (only mark)).moves ts r.0.0 r.0.1 l) (b.ends r.0.1 us (omega (arith, tok-eats mark ts r.0.0 r.0.1 l)) r.2)
  ]

pub ends-after : {A : Type 0} (mark : Mark) {n : ℕ} {p : Parser A} {L : Language A} → Has (rule.tok mark) → Sound p L → Moves L → Ends n p L → Ends n (after p mark) (rule_after mark L)
ends-after mark {n} {p} {L} ht sp ml a = ends-both (λ x _. x) sp ml a (ends-tok mark ht) ht

pub image-ended : {A B : Type 0} (f : A → B) {L : Language A} (ts us : List Token) → Ended L ts us → Ended (rule.image f L) ts us
image-ended f ts us w = record { b = w.b; more = w.more; x = f w.x; is = w.is; all = λ vs. (w.x, w.all vs, refl) }

pub ends-image : {A B : Type 0} (f : A → B) {n : ℕ} {p : Parser A} {L : Language A} → Ends n p L → Ends n (read.image f p) (rule.image f L)
ends-image f {n} {p} {L} a = record { ends = λ ts us lt e. image-ended f ts us (a.ends ts us lt (made_err (p ts) (λ r. (f r.0, r.1)) us e)) }

pub left-ended : {A : Type 0} {L M : Language A} (ts us : List Token) → Ended L ts us → Ended (rule.either L M) ts us
left-ended ts us w = record { b = w.b; more = w.more; x = w.x; is = w.is; all = λ vs. inl (w.all vs) }

pub right-ended : {A : Type 0} {L M : Language A} (ts us : List Token) → Ended M ts us → Ended (rule.either L M) ts us
right-ended ts us w = record { b = w.b; more = w.more; x = w.x; is = w.is; all = λ vs. inr (w.all vs) }

pub ends-choice : {A : Type 0} (test : Mark → Bool) {n : ℕ} {p q : Parser A} {L M : Language A} → Ends n p L → Ends n q M → Ends n (read.choice test p q) (rule.either L M)
ends-choice test {n} {p} {q} {L} {M} a b = record {
  ends = λ ts us lt e. elim (if_err (test (next ts)) (p ts) (q ts) us e) [ inl h ↦ left-ended ts us (a.ends ts us lt h.1) | inr h ↦ right-ended ts us (b.ends ts us lt h.1) ];
}

pub ends-opt : {A : Type 0} (test : Mark → Bool) {n : ℕ} {p : Parser A} {L : Language A} → Ends n p L → Ends n (read.opt test p) (rule.opt L)
ends-opt {A} test {n} {p} {L} a = record { ends = by } where
  some : (ts us : List Token) → Ended L ts us → Ended (rule.opt L) ts us
  some ts us w = record { b = w.b; more = w.more; x = Some w.x; is = w.is; all = λ vs. w.all vs }

  by : (ts us : List Token) → length ts < n → read.opt test p ts ≡ Err us → Ended (rule.opt L) ts us
  by ts us lt e = elim (if_err (test (next ts)) (p ts >>= somed) (Ok (None, ts)) us e) [
    | inl h ↦ some ts us (a.ends ts us lt (made_err (p ts) (λ r. (Some r.0, r.1)) us h.1))
    | inr h ↦ cc
  ]
