-- What a rule says is read, where the token after it doesn't go on with it.
use Rattle.std.proofs.Common.{◌≡◌, ℕ, ◌<◌, ◌≤◌, zero, suc, Bool, true, false, not, cond, ◌&&◌, ◌||◌, List, [], ◌∷◌, length, Ok, Option, refl, ap, sym, subst, ◌∙◌, inl, inr, ◌⊎◌, arith}
use Rattle.std.specs.Prelude.{Some, None}
use Rattle.std.specs.Option.{is_some}
use Rattle.std.specs.List.{list_all}
use Rattle.std.proofs.lemmas.List.Folds.{list_all_at}
use Rattle.py_subset.specs.declared.token.Token.{Token}
use Rattle.py_subset.specs.declared.token.Mark.{Mark}
use Rattle.py_subset.specs.declared.token.Mark.TheVariants as m
use Rattle.py_subset.specs.declared.tree.Word.{Word}
use Rattle.py_subset.specs.Marks.{same, number}
use Rattle.py_subset.specs.Language.{Language, next}
use Rattle.py_subset.specs.Language as rule
use Rattle.py_subset.specs.Chosen.{chosen}
use Rattle.py_subset.specs.Parsers.{Parser, Reply, rest, ◌>>=◌}
use Rattle.py_subset.specs.Parsers as read
use Rattle.py_subset.proofs.Steps.{before, after, rule_before, rule_after, made, somed, then_joined, then_star, then_further, assigned, then_assigned, if_true, if_false}
use Rattle.py_subset.proofs.MarkNumbers.{marks, same-is, at_number, number_small}

abbrev pub Test : Type 0
Test = Mark → Bool

clash : true ≡ false → ⊥
clash x = cc

each_by : (q : Mark → Bool) (a : Mark) (b : Bool) → list_all q marks ≡ true → q a ≡ b → q a ≡ true
each_by q a true h e = e
each_by q a false h e = absurd (clash (sym h ∙ list_all_at q marks (number a) m.End (number_small a) (ap q (at_number a) ∙ e)))

-- a test of all marks
each : (q : Mark → Bool) → list_all q marks ≡ true → (a : Mark) → q a ≡ true
each q h a = each_by q a (q a) h refl

-- marks that pass the one test don't pass the other
abbrev pub Apart : (Mark → Bool) → (Mark → Bool) → Type 0
Apart g k = (a : Mark) → g a ≡ true → k a ≡ false

-- marks that pass the one test pass the other
abbrev pub Within : (Mark → Bool) → (Mark → Bool) → Type 0
Within g k = (a : Mark) → g a ≡ true → k a ≡ true

-- marks that fail the one test fail the other
abbrev pub Fails : (Mark → Bool) → (Mark → Bool) → Type 0
Fails k g = (a : Mark) → k a ≡ false → g a ≡ false

apart_by : (x y : Bool) → not (x && y) ≡ true → x ≡ true → y ≡ false
apart_by true true h e = cc
apart_by true false h e = refl
apart_by false y h e = cc

within_by : (x y : Bool) → (not x || y) ≡ true → x ≡ true → y ≡ true
within_by true y h e = h
within_by false y h e = cc

fails_by : (x y : Bool) → (x || not y) ≡ true → x ≡ false → y ≡ false
fails_by true y h e = cc
fails_by false true h e = cc
fails_by false false h e = refl

pub apart : (g k : Mark → Bool) → list_all (λ a. not (g a && k a)) marks ≡ true → Apart g k
apart g k h a = apart_by (g a) (k a) (each (λ a. not (g a && k a)) h a)

pub within : (g k : Mark → Bool) → list_all (λ a. not (g a) || k a) marks ≡ true → Within g k
within g k h a = within_by (g a) (k a) (each (λ a. not (g a) || k a) h a)

pub fails : (k g : Mark → Bool) → list_all (λ a. k a || not (g a)) marks ≡ true → Fails k g
fails k g h a = fails_by (k a) (g a) (each (λ a. k a || not (g a)) h a)

-- What isn't empty: it begins with the marks f, takes a token, and is read where the mark after it isn't of k.
pub record Full {A : Type 0} (n : ℕ) (f k : Mark → Bool) (p : Parser A) (L : Language A) : Type 0 where
  pub reads : (ts : List Token) (x : A) (us : List Token) → length ts < n → L ts x us → k (next us) ≡ false → p ts ≡ Ok (x, us)
  pub first : (ts : List Token) (x : A) (us : List Token) → L ts x us → f (next ts) ≡ true
  pub eats : (ts : List Token) (x : A) (us : List Token) → L ts x us → length us < length ts

-- What may be empty.
pub record Maybe {A : Type 0} (n : ℕ) (f k : Mark → Bool) (p : Parser A) (L : Language A) : Type 0 where
  pub reads : (ts : List Token) (x : A) (us : List Token) → length ts < n → L ts x us → k (next us) ≡ false → p ts ≡ Ok (x, us)
  pub first : (ts : List Token) (x : A) (us : List Token) → L ts x us → (us ≡ ts) ⊎ (f (next ts) ≡ true)
  pub eats : (ts : List Token) (x : A) (us : List Token) → L ts x us → length us ≤ length ts

abbrev pub none : Mark → Bool
none a = false

abbrev pub is : Mark → Mark → Bool
is mark other = same other mark

both_reads : {A B C : Type 0} (f : A → B → C) (p : Parser A) (q : Parser B) (ts us vs : List Token) (x : A) (y : B) (z : C)
    → p ts ≡ Ok (x, us) → q us ≡ Ok (y, vs) → z ≡ f x y → (p ts >>= then_joined f q) ≡ Ok (z, vs)
both_reads f p q ts us vs x y z a b c = rw a (rw b (rw c refl))

-- after the first of two, where the second isn't empty
pub full-both : {A B C : Type 0} (f : A → B → C) {n : ℕ} {g h k l : Mark → Bool} {p : Parser A} {q : Parser B} {L : Language A} {M : Language B}
    → Full n g k p L → Full n h l q M → Apart h k → Full n g l (λ ts. p ts >>= then_joined f q) (rule.both f L M)
full-both f {n} {g} {h} {k} {l} {p} {q} {L} {M} a b away = record {
  reads = λ ts z vs lt w stop.
      both_reads f p q ts w.2 vs w.0 w.1 z (a.reads ts w.0 w.2 lt w.3 (away (next w.2) (b.first w.2 w.1 vs w.4))) (b.reads w.2 w.1 vs (omega (arith, a.eats ts w.0 w.2 w.3)) w.4 stop) w.5;
  first = λ ts z vs w. a.first ts w.0 w.2 w.3;
  eats = λ ts z vs w. omega (arith, a.eats ts w.0 w.2 w.3, b.eats w.2 w.1 vs w.4);
}

after_maybe : (h k l : Mark → Bool) (us vs : List Token) → Apart h k → Fails l k → (vs ≡ us) ⊎ (h (next us) ≡ true) → l (next vs) ≡ false → k (next us) ≡ false
after_maybe h k l us vs away less (inl e) stop = less (next us) (subst (λ (w : List Token). l (next w) ≡ false) e stop)
after_maybe h k l us vs away less (inr e) stop = away (next us) e

pub full-both-maybe : {A B C : Type 0} (f : A → B → C) {n : ℕ} {g h k l : Mark → Bool} {p : Parser A} {q : Parser B} {L : Language A} {M : Language B}
    → Full n g k p L → Maybe n h l q M → Apart h k → Fails l k → Full n g l (λ ts. p ts >>= then_joined f q) (rule.both f L M)
full-both-maybe f {n} {g} {h} {k} {l} {p} {q} {L} {M} a b away less = record {
  reads = λ ts z vs lt w stop.
      both_reads f p q ts w.2 vs w.0 w.1 z (a.reads ts w.0 w.2 lt w.3 (after_maybe h k l w.2 vs away less (b.first w.2 w.1 vs w.4) stop)) (b.reads w.2 w.1 vs (omega (arith, a.eats ts w.0 w.2 w.3)) w.4 stop) w.5;
  first = λ ts z vs w. a.first ts w.0 w.2 w.3;
  eats = λ ts z vs w. omega (arith, a.eats ts w.0 w.2 w.3, b.eats w.2 w.1 vs w.4);
}

begins_or : (g h F : Mark → Bool) (ts us : List Token) → Within g F → Within h F → (us ≡ ts) ⊎ (g (next ts) ≡ true) → h (next us) ≡ true → F (next ts) ≡ true
begins_or g h F ts us wg wh (inl e) x = wh (next ts) (subst (λ (w : List Token). h (next w) ≡ true) e x)
begins_or g h F ts us wg wh (inr e) x = wg (next ts) e

pub maybe-both : {A B C : Type 0} (f : A → B → C) {n : ℕ} {g h k l : Mark → Bool} {p : Parser A} {q : Parser B} {L : Language A} {M : Language B} (F : Mark → Bool)
    → Maybe n g k p L → Full n h l q M → Apart h k → Within g F → Within h F → Full n F l (λ ts. p ts >>= then_joined f q) (rule.both f L M)
maybe-both f {n} {g} {h} {k} {l} {p} {q} {L} {M} F a b away wg wh = record {
  reads = λ ts z vs lt w stop.
      both_reads f p q ts w.2 vs w.0 w.1 z (a.reads ts w.0 w.2 lt w.3 (away (next w.2) (b.first w.2 w.1 vs w.4))) (b.reads w.2 w.1 vs (omega (arith, a.eats ts w.0 w.2 w.3)) w.4 stop) w.5;
  first = λ ts z vs w. begins_or g h F ts w.2 wg wh (a.first ts w.0 w.2 w.3) (b.first w.2 w.1 vs w.4);
  eats = λ ts z vs w. omega (arith, a.eats ts w.0 w.2 w.3, b.eats w.2 w.1 vs w.4);
}

-- more marks that stop it, and more that begin it
pub full-wider : {A : Type 0} {n : ℕ} {f k : Mark → Bool} {p : Parser A} {L : Language A} (F K : Mark → Bool) → Within f F → Fails K k → Full n f k p L → Full n F K p L
full-wider F K wf fk a = record {
  reads = λ ts x us lt w stop. a.reads ts x us lt w (fk (next us) stop);
  first = λ ts x us w. wf (next ts) (a.first ts x us w);
  eats = a.eats;
}

made_reads : {A B : Type 0} (f : A → B) (p : Parser A) (ts us : List Token) (x : A) (z : B) → p ts ≡ Ok (x, us) → z ≡ f x → (p ts >>= made f) ≡ Ok (z, us)
made_reads f p ts us x z a c = rw a (rw c refl)

pub full-image : {A B : Type 0} (f : A → B) {n : ℕ} {g k : Mark → Bool} {p : Parser A} {L : Language A} → Full n g k p L → Full n g k (λ ts. p ts >>= made f) (rule.image f L)
full-image f {n} {g} {k} {p} {L} a = record {
  reads = λ ts z us lt w stop. made_reads f p ts us w.0 z (a.reads ts w.0 us lt w.1 stop) w.2;
  first = λ ts z us w. a.first ts w.0 us w.1;
  eats = λ ts z us w. a.eats ts w.0 us w.1;
}

pub maybe-image : {A B : Type 0} (f : A → B) {n : ℕ} {g k : Mark → Bool} {p : Parser A} {L : Language A} → Maybe n g k p L → Maybe n g k (λ ts. p ts >>= made f) (rule.image f L)
maybe-image f {n} {g} {k} {p} {L} a = record {
  reads = λ ts z us lt w stop. made_reads f p ts us w.0 z (a.reads ts w.0 us lt w.1 stop) w.2;
  first = λ ts z us w. a.first ts w.0 us w.1;
  eats = λ ts z us w. a.eats ts w.0 us w.1;
}

only_some : (a mark : Mark) (b : Bool) (x : Unit {0}) → same a mark ≡ b → cond b (Some tt) None ≡ Some x → same a mark ≡ true
only_some a mark true x e w = e
only_some a mark false x e w = cc

pub full-tok : (n : ℕ) (mark : Mark) → Full n (is mark) none (read.tok mark) (rule.tok mark)
full-tok n mark = record { reads = reads; first = first; eats = eats } where
  reads : (ts : List Token) (x : Unit {0}) (us : List Token) → length ts < n → rule.tok mark ts x us → none (next us) ≡ false → read.tok mark ts ≡ Ok (x, us)
  reads [] x us lt w stop = absurd w
  reads (t ∷ ts) x us lt w stop = rw (only_some t.mark mark (same t.mark mark) x refl w.0) (rw w.1 refl)

  first : (ts : List Token) (x : Unit {0}) (us : List Token) → rule.tok mark ts x us → is mark (next ts) ≡ true
  first [] x us w = absurd w
  first (t ∷ ts) x us w = only_some t.mark mark (same t.mark mark) x refl w.0

  eats : (ts : List Token) (x : Unit {0}) (us : List Token) → rule.tok mark ts x us → length us < length ts
  eats [] x us w = absurd w
  eats (t ∷ ts) x us w = omega (arith, ap length w.1)

is_some_of : {A : Type 0} (o : Option A) (x : A) → o ≡ Some x → is_some o ≡ true
is_some_of o x e = rw e refl

pub full-marked : {A : Type 0} (n : ℕ) (f : Mark → Option A) → Full n (λ a. is_some (f a)) none (read.marked f) (rule.marked f)
full-marked {A} n f = record { reads = reads; first = first; eats = eats } where
  reads : (ts : List Token) (x : A) (us : List Token) → length ts < n → rule.marked f ts x us → none (next us) ≡ false → read.marked f ts ≡ Ok (x, us)
  reads [] x us lt w stop = absurd w
  reads (t ∷ ts) x us lt w stop = rw w.0 (rw w.1 refl)

  first : (ts : List Token) (x : A) (us : List Token) → rule.marked f ts x us → is_some (f (next ts)) ≡ true
  first [] x us w = absurd w
  first (t ∷ ts) x us w = is_some_of (f t.mark) x w.0

  eats : (ts : List Token) (x : A) (us : List Token) → rule.marked f ts x us → length us < length ts
  eats [] x us w = absurd w
  eats (t ∷ ts) x us w = omega (arith, ap length w.1)

named : (a : Mark) → a ≡ m.Name → same a m.Name ≡ true
named a e = rw e refl

pub full-name : (n : ℕ) → Full n (is m.Name) none read.name rule.name
full-name n = record { reads = reads; first = first; eats = eats } where
  reads : (ts : List Token) (x : Word) (us : List Token) → length ts < n → rule.name ts x us → none (next us) ≡ false → read.name ts ≡ Ok (x, us)
  reads [] x us lt w stop = absurd w
  reads (t ∷ ts) x us lt w stop = rw (named t.mark w.0) (rw w.1 (rw w.2 refl))

  first : (ts : List Token) (x : Word) (us : List Token) → rule.name ts x us → is m.Name (next ts) ≡ true
  first [] x us w = absurd w
  first (t ∷ ts) x us w = named t.mark w.0

  eats : (ts : List Token) (x : Word) (us : List Token) → rule.name ts x us → length us < length ts
  eats [] x us w = absurd w
  eats (t ∷ ts) x us w = omega (arith, ap length w.2)

-- a token before
before_reads : {A : Type 0} (mark : Mark) (p : Parser A) (ts us vs : List Token) (x y z : _) → read.tok mark ts ≡ Ok (x, us) → p us ≡ Ok (y, vs) → z ≡ y → before mark p ts ≡ Ok (z, vs)
before_reads mark p ts us vs x y z a b c = rw a (rw b (rw c refl))

pub full-before : {A : Type 0} (mark : Mark) {n : ℕ} {h l : Mark → Bool} {p : Parser A} {L : Language A} → Full n h l p L → Full n (is mark) l (before mark p) (rule_before mark L)
full-before mark {n} {h} {l} {p} {L} b = record {
  reads = λ ts z vs lt w stop. before_reads mark p ts w.2 vs w.0 w.1 z ((full-tok n mark).reads ts w.0 w.2 lt w.3 refl) (b.reads w.2 w.1 vs (omega (arith, (full-tok n mark).eats ts w.0 w.2 w.3)) w.4 stop) w.5;
  first = λ ts z vs w. (full-tok n mark).first ts w.0 w.2 w.3;
  eats = λ ts z vs w. omega (arith, (full-tok n mark).eats ts w.0 w.2 w.3, b.eats w.2 w.1 vs w.4);
}

-- the same over a reader for shorter lists
pub full-inside : {A : Type 0} (mark : Mark) {n : ℕ} {h l : Mark → Bool} {p : Parser A} {L : Language A} → Full n h l p L → Full (suc n) (is mark) l (before mark p) (rule_before mark L)
full-inside mark {n} {h} {l} {p} {L} b = record {
  reads = λ ts z vs lt w stop. before_reads mark p ts w.2 vs w.0 w.1 z ((full-tok (suc n) mark).reads ts w.0 w.2 lt w.3 refl) (b.reads w.2 w.1 vs (omega (arith, (full-tok n mark).eats ts w.0 w.2 w.3)) w.4 stop) w.5;
  first = λ ts z vs w. (full-tok n mark).first ts w.0 w.2 w.3;
  eats = λ ts z vs w. omega (arith, (full-tok n mark).eats ts w.0 w.2 w.3, b.eats w.2 w.1 vs w.4);
}

-- a token after
pub full-after : {A : Type 0} (mark : Mark) {n : ℕ} {f k : Mark → Bool} {p : Parser A} {L : Language A} → Full n f k p L → Apart (is mark) k → Full n f none (after p mark) (rule_after mark L)
full-after mark {n} {f} {k} {p} {L} a away = full-both (λ x _. x) a (full-tok n mark) away

pub maybe-after : {A : Type 0} (mark : Mark) {n : ℕ} {f k : Mark → Bool} {p : Parser A} {L : Language A} (F : Mark → Bool) → Maybe n f k p L → Apart (is mark) k → Within f F → Within (is mark) F
    → Full n F none (after p mark) (rule_after mark L)
maybe-after mark {n} {f} {k} {p} {L} F a away wf wm = maybe-both (λ x _. x) F a (full-tok n mark) away wf wm

pub full-choice : {A : Type 0} (test : Mark → Bool) {n : ℕ} {f g k l : Mark → Bool} {p q : Parser A} {L M : Language A} (F K : Mark → Bool)
    → Full n f k p L → Full n g l q M → Within f test → Apart g test → Within f F → Within g F → Fails K k → Fails K l → Full n F K (read.choice test p q) (rule.either L M)
full-choice {A} test {n} {f} {g} {k} {l} {p} {q} {L} {M} F K a b fits misses wf wg kk kl = record { reads = reads; first = first; eats = eats } where
  reads : (ts : List Token) (x : A) (us : List Token) → length ts < n → rule.either L M ts x us → K (next us) ≡ false → read.choice test p q ts ≡ Ok (x, us)
  reads ts x us lt (inl w) stop = if_true (test (next ts)) (p ts) (q ts) (Ok (x, us)) (fits (next ts) (a.first ts x us w)) (a.reads ts x us lt w (kk (next us) stop))
  reads ts x us lt (inr w) stop = if_false (test (next ts)) (p ts) (q ts) (Ok (x, us)) (misses (next ts) (b.first ts x us w)) (b.reads ts x us lt w (kl (next us) stop))

  first : (ts : List Token) (x : A) (us : List Token) → rule.either L M ts x us → F (next ts) ≡ true
  first ts x us (inl w) = wf (next ts) (a.first ts x us w)
  first ts x us (inr w) = wg (next ts) (b.first ts x us w)

  eats : (ts : List Token) (x : A) (us : List Token) → rule.either L M ts x us → length us < length ts
  eats ts x us (inl w) = a.eats ts x us w
  eats ts x us (inr w) = b.eats ts x us w

somed_reads : {A : Type 0} (p : Parser A) (ts us : List Token) (x : A) → p ts ≡ Ok (x, us) → (p ts >>= somed) ≡ Ok (Some x, us)
somed_reads p ts us x a = rw a refl

pub maybe-opt : {A : Type 0} (test : Mark → Bool) {n : ℕ} {f k : Mark → Bool} {p : Parser A} {L : Language A} (K : Mark → Bool)
    → Full n f k p L → Within f test → Fails K test → Fails K k → Maybe n f K (read.opt test p) (rule.opt L)
maybe-opt {A} test {n} {f} {k} {p} {L} K a fits misses kk = record { reads = reads; first = first; eats = eats } where
  reads : (ts : List Token) (o : Option A) (us : List Token) → length ts < n → rule.opt L ts o us → K (next us) ≡ false → read.opt test p ts ≡ Ok (o, us)
  reads ts None us lt w stop = if_false (test (next ts)) (p ts >>= somed) (Ok (None, ts)) (Ok (None, us)) (misses (next ts) (subst (λ (v : List Token). K (next v) ≡ false) w stop)) (rw w refl)
  reads ts (Some x) us lt w stop = if_true (test (next ts)) (p ts >>= somed) (Ok (None, ts)) (Ok (Some x, us)) (fits (next ts) (a.first ts x us w)) (somed_reads p ts us x (a.reads ts x us lt w (kk (next us) stop)))

  first : (ts : List Token) (o : Option A) (us : List Token) → rule.opt L ts o us → (us ≡ ts) ⊎ (f (next ts) ≡ true)
  first ts None us w = inl w
  first ts (Some x) us w = inr (a.first ts x us w)

  eats : (ts : List Token) (o : Option A) (us : List Token) → rule.opt L ts o us → length us ≤ length ts
  eats ts None us w = omega (arith, ap length w)
  eats ts (Some x) us w = omega (arith, a.eats ts x us w)

star_reads : {A : Type 0} (test : Mark → Bool) (p : Parser A) (j : ℕ) (ts us vs : List Token) (x : A) (xs : List A) → p ts ≡ Ok (x, us) → read.star test p j us ≡ Ok (xs, vs) → (p ts >>= then_star test p j) ≡ Ok (x ∷ xs, vs)
star_reads test p j ts us vs x xs a b = rw a (rw b refl)

module _ {A : Type 0} (test : Mark → Bool) (turns n : ℕ) (f k : Mark → Bool) (p : Parser A) (L : Language A) (K : Mark → Bool)
    (a : Full n f k p L) (fits : Within f test) (misses : Fails K test) (away : Apart f k) (kk : Fails K k) (few : n ≤ turns) where
  star_eats : (ts : List Token) (xs : List A) (us : List Token) → rule.star L ts xs us → length us ≤ length ts
  star_eats ts [] us w = omega (arith, ap length w)
  star_eats ts (x ∷ xs) us w = omega (arith, a.eats ts x w.0 w.1, star_eats w.0 xs us w.2)

  -- what comes after one of them
  star_next : (ts : List Token) (xs : List A) (us : List Token) → rule.star L ts xs us → K (next us) ≡ false → k (next ts) ≡ false
  star_next ts [] us w stop = kk (next ts) (subst (λ (v : List Token). K (next v) ≡ false) w stop)
  star_next ts (x ∷ xs) us w stop = away (next ts) (a.first ts x w.0 w.1)

  star_all : (j : ℕ) (ts : List Token) (xs : List A) (us : List Token) → length ts < j → length ts < n → rule.star L ts xs us → K (next us) ≡ false → read.star test p j ts ≡ Ok (xs, us)
  star_all zero ts xs us lt le w stop = absurd (omega arith)
  star_all (suc j) ts [] us lt le w stop = if_false (test (next ts)) (p ts >>= then_star test p j) (Ok ([], ts)) (Ok ([], us)) (misses (next ts) (subst (λ (v : List Token). K (next v) ≡ false) w stop)) (rw w refl)
  star_all (suc j) ts (x ∷ xs) us lt le w stop =
      let shorter = a.eats ts x w.0 w.1 in
      if_true (test (next ts)) (p ts >>= then_star test p j) (Ok ([], ts)) (Ok (x ∷ xs, us)) (fits (next ts) (a.first ts x w.0 w.1))
      (star_reads test p j ts w.0 us x xs (a.reads ts x w.0 le w.1 (star_next w.0 xs us w.2 stop)) (star_all j w.0 xs us (omega (arith, shorter)) (omega (arith, shorter)) w.2 stop))

  star_first : (ts : List Token) (xs : List A) (us : List Token) → rule.star L ts xs us → (us ≡ ts) ⊎ (f (next ts) ≡ true)
  star_first ts [] us w = inl w
  star_first ts (x ∷ xs) us w = inr (a.first ts x w.0 w.1)

  pub maybe-star : Maybe n f K (read.star test p turns) (rule.star L)
  maybe-star = record { reads = λ ts xs us lt w stop. star_all turns ts xs us (omega arith) lt w stop; first = star_first; eats = star_eats }

comma_is : (ts us : List Token) → rule.tok m.Comma ts tt us → (same (next ts) m.Comma ≡ true) × (us ≡ rest ts)
comma_is [] us w = absurd w
comma_is (t ∷ ts) us w = (only_some t.mark m.Comma (same t.mark m.Comma) tt refl w.0, w.1)

comma_eats : (ts us : List Token) → rule.tok m.Comma ts tt us → length us < length ts
comma_eats [] us w = absurd w
comma_eats (t ∷ ts) us w = omega (arith, ap length w.1)

comma_mark : (k : Mark → Bool) (ts us : List Token) → k m.Comma ≡ false → rule.tok m.Comma ts tt us → k (next ts) ≡ false
comma_mark k ts us h w = rw (same-is (next ts) m.Comma (comma_is ts us w).0) h

further_reads : {A : Type 0} (test : Mark → Bool) (p : Parser A) (j : ℕ) (ts us vs : List Token) (x : A) (xs : List A) (c : Bool) → p ts ≡ Ok (x, us) → read.further test p j us ≡ Ok ((xs, c), vs) → (p ts >>= then_further test p j) ≡ Ok ((x ∷ xs, c), vs)
further_reads test p j ts us vs x xs c a b = rw a (rw b refl)

abbrev read_further : {A : Type 0} → (Mark → Bool) → Parser A → ℕ → List Token → Reply (List A × Bool)
read_further test p j ts = cond (test (next (rest ts))) (p (rest ts) >>= then_further test p j) (Ok (([], true), rest ts))

module _ {A : Type 0} (test : Mark → Bool) (turns n : ℕ) (f k : Mark → Bool) (p : Parser A) (L : Language A) (K : Mark → Bool)
    (a : Full n f k p L) (fits : Within f test) (misses : Fails K test) (no_comma : Fails K (is m.Comma)) (kk : Fails K k) (k_comma : k m.Comma ≡ false) (few : n ≤ turns) where
  further_eats : (ts : List Token) (xs : List A) (c : Bool) (us : List Token) → rule.further L xs c ts us → length us ≤ length ts
  further_eats ts [] false us w = omega (arith, ap length w)
  further_eats ts [] true us w = omega (arith, comma_eats ts us w)
  further_eats ts (x ∷ xs) c us w = omega (arith, comma_eats ts w.0 w.2, a.eats w.0 x w.1 w.3, further_eats w.1 xs c us w.4)

  further_next : (ts : List Token) (xs : List A) (c : Bool) (us : List Token) → rule.further L xs c ts us → K (next us) ≡ false → k (next ts) ≡ false
  further_next ts [] false us w stop = kk (next ts) (subst (λ (v : List Token). K (next v) ≡ false) w stop)
  further_next ts [] true us w stop = comma_mark k ts us k_comma w
  further_next ts (x ∷ xs) c us w stop = comma_mark k ts w.0 k_comma w.2

  further_all : (j : ℕ) (ts : List Token) (xs : List A) (c : Bool) (us : List Token) → length ts < j → length ts < n → rule.further L xs c ts us → K (next us) ≡ false → read.further test p j ts ≡ Ok ((xs, c), us)
  further_all zero ts xs c us lt le w stop = absurd (omega arith)
  further_all (suc j) ts [] false us lt le w stop =
      if_false (same (next ts) m.Comma) (read_further test p j ts) (Ok (([], false), ts)) (Ok (([], false), us)) (no_comma (next ts) (subst (λ (v : List Token). K (next v) ≡ false) w stop)) (rw w refl)
  further_all (suc j) ts [] true us lt le w stop =
      let is = comma_is ts us w in
      if_true (same (next ts) m.Comma) (read_further test p j ts) (Ok (([], false), ts)) (Ok (([], true), us)) is.0
      (if_false (test (next (rest ts))) (p (rest ts) >>= then_further test p j) (Ok (([], true), rest ts)) (Ok (([], true), us)) (misses (next (rest ts)) (subst (λ (v : List Token). K (next v) ≡ false) is.1 stop)) (rw is.1 refl))
  further_all (suc j) ts (x ∷ xs) c us lt le w stop =
      let is = comma_is ts w.0 w.2 in
      let shorter = comma_eats ts w.0 w.2 in
      let after_it = a.eats w.0 x w.1 w.3 in
      let it = a.reads w.0 x w.1 (omega (arith, shorter)) w.3 (further_next w.1 xs c us w.4 stop) in
      if_true (same (next ts) m.Comma) (read_further test p j ts) (Ok (([], false), ts)) (Ok ((x ∷ xs, c), us)) is.0
      (if_true (test (next (rest ts))) (p (rest ts) >>= then_further test p j) (Ok (([], true), rest ts)) (Ok ((x ∷ xs, c), us)) (subst (λ (v : List Token). test (next v) ≡ true) is.1 (fits (next w.0) (a.first w.0 x w.1 w.3)))
      (further_reads test p j (rest ts) w.1 us x xs c (subst (λ (v : List Token). p v ≡ Ok (x, w.1)) is.1 it) (further_all j w.1 xs c us (omega (arith, shorter, after_it)) (omega (arith, shorter, after_it)) w.4 stop)))

  several_reads : (ts : List Token) (z : List A × Bool) (us : List Token) → length ts < n → rule.several L ts z us → K (next us) ≡ false → (p ts >>= then_further test p turns) ≡ Ok (z, us)
  several_reads ts z us lt w stop =
      let shorter = a.eats ts w.0 w.3 w.4 in
      rw w.6 (further_reads test p turns ts w.3 us w.0 w.1 w.2 (a.reads ts w.0 w.3 lt w.4 (further_next w.3 w.1 w.2 us w.5 stop)) (further_all turns w.3 w.1 w.2 us (omega (arith, shorter)) (omega (arith, shorter)) w.5 stop))

  pub full-several : Full n f K (read.several test p turns) (rule.several L)
  full-several = record { reads = several_reads; first = λ ts z us w. a.first ts w.0 w.3 w.4; eats = λ ts z us w. omega (arith, a.eats ts w.0 w.3 w.4, further_eats w.3 w.1 w.2 us w.5) }

pub maybe-before : {A : Type 0} (mark : Mark) {n : ℕ} {h l : Mark → Bool} {p : Parser A} {L : Language A} → Maybe n h l p L → Full n (is mark) l (before mark p) (rule_before mark L)
maybe-before mark {n} {h} {l} {p} {L} b = record {
  reads = λ ts z vs lt w stop. before_reads mark p ts w.2 vs w.0 w.1 z ((full-tok n mark).reads ts w.0 w.2 lt w.3 refl) (b.reads w.2 w.1 vs (omega (arith, (full-tok n mark).eats ts w.0 w.2 w.3)) w.4 stop) w.5;
  first = λ ts z vs w. (full-tok n mark).first ts w.0 w.2 w.3;
  eats = λ ts z vs w. omega (arith, (full-tok n mark).eats ts w.0 w.2 w.3, b.eats w.2 w.1 vs w.4);
}

pub full-fewer : {A : Type 0} {n : ℕ} {f k : Mark → Bool} {p : Parser A} {L : Language A} (N : ℕ) → N ≤ n → Full n f k p L → Full N f k p L
full-fewer {A} {n} {f} {k} {p} {L} N le a = record { reads = λ ts x us lt w stop. a.reads ts x us (omega arith) w stop; first = a.first; eats = a.eats }

pub maybe-fewer : {A : Type 0} {n : ℕ} {f k : Mark → Bool} {p : Parser A} {L : Language A} (N : ℕ) → N ≤ n → Maybe n f k p L → Maybe N f k p L
maybe-fewer {A} {n} {f} {k} {p} {L} N le a = record { reads = λ ts x us lt w stop. a.reads ts x us (omega arith) w stop; first = a.first; eats = a.eats }

pub full-unless : {A : Type 0} (mark : Mark) {n : ℕ} {f g k : Mark → Bool} {p q : Parser A} {L M : Language A} (F : Mark → Bool)
    → Full n f k p L → Full n g k q M → Within f (is mark) → Within f F → Within g F → Full n F k (read.choice (λ other. same other mark) p q) (rule.either L (rule.unless mark M))
full-unless {A} mark {n} {f} {g} {k} {p} {q} {L} {M} F a b fits wf wg = record { reads = reads; first = first; eats = eats } where
  reads : (ts : List Token) (x : A) (us : List Token) → length ts < n → rule.either L (rule.unless mark M) ts x us → k (next us) ≡ false → read.choice (λ other. same other mark) p q ts ≡ Ok (x, us)
  reads ts x us lt (inl w) stop = if_true (same (next ts) mark) (p ts) (q ts) (Ok (x, us)) (fits (next ts) (a.first ts x us w)) (a.reads ts x us lt w stop)
  reads ts x us lt (inr w) stop = if_false (same (next ts) mark) (p ts) (q ts) (Ok (x, us)) w.0 (b.reads ts x us lt w.1 stop)

  first : (ts : List Token) (x : A) (us : List Token) → rule.either L (rule.unless mark M) ts x us → F (next ts) ≡ true
  first ts x us (inl w) = wf (next ts) (a.first ts x us w)
  first ts x us (inr w) = wg (next ts) (b.first ts x us w.1)

  eats : (ts : List Token) (x : A) (us : List Token) → rule.either L (rule.unless mark M) ts x us → length us < length ts
  eats ts x us (inl w) = a.eats ts x us w
  eats ts x us (inr w) = b.eats ts x us w.1

-- what is assigned to, where an `=` comes
bind_reads : {A S : Type 0} (p : Parser A) (h : A × List Token → Reply S) (ts us : List Token) (x : A) (y : Reply S) → p ts ≡ Ok (x, us) → h (x, us) ≡ y → (p ts >>= h) ≡ y
bind_reads p h ts us x y a b = rw a b

some_assigned : {A B S : Type 0} (f : B → A → S) (p : Parser A) (o : Option B) (t : B) (us : List Token) (y : Reply S) → o ≡ Some t → assigned f p (Some t) us ≡ y → assigned f p o us ≡ y
some_assigned f p o t us y e h = rw e h

mark_is : (a mark : Mark) (k : Mark → Bool) → same a mark ≡ true → k mark ≡ false → k a ≡ false
mark_is a mark k e h = rw (same-is a mark e) h

pub full-assigned : {A B S : Type 0} (choose : A → Option B) (f : B → A → S) (g : A → S) {n : ℕ} {b k : Mark → Bool} {p : Parser A} {L : Language A} (K : Mark → Bool)
    → Full n b k p L → k m.Assign ≡ false → Fails K k → Fails K (is m.Assign)
    → Full n b K (λ ts. p ts >>= then_assigned choose f g p) (rule.either (rule.both f (chosen choose L) (rule_before m.Assign L)) (rule.image g L))
full-assigned {A} {B} {S} choose f g {n} {b} {k} {p} {L} K a k_assign kk misses = record { reads = reads; first = first; eats = eats } where
  reads : (ts : List Token) (z : S) (us : List Token) → length ts < n → rule.either (rule.both f (chosen choose L) (rule_before m.Assign L)) (rule.image g L) ts z us → K (next us) ≡ false → (p ts >>= then_assigned choose f g p) ≡ Ok (z, us)
  reads ts z us lt (inl w) stop =
      let first_one = a.eats ts w.3.0 w.2 w.3.1 in
      let is_assign = (full-tok n m.Assign).first w.2 w.4.0 w.4.2 w.4.3 in
      let left = a.reads ts w.3.0 w.2 lt w.3.1 (mark_is (next w.2) m.Assign k is_assign k_assign) in
      let value = (full-before m.Assign (full-image (f w.0) a)).reads w.2 z us (omega (arith, first_one)) (w.4.0, z, w.4.2, w.4.3, (w.4.1, w.4.4, w.5 ∙ ap (f w.0) w.4.5), refl) (kk (next us) stop) in
      bind_reads p (then_assigned choose f g p) ts w.2 w.3.0 (Ok (z, us)) left
      (if_true (same (next w.2) m.Assign) (assigned f p (choose w.3.0) w.2) (Ok (g w.3.0, w.2)) (Ok (z, us)) is_assign (some_assigned f p (choose w.3.0) w.0 w.2 (Ok (z, us)) w.3.2 value))
  reads ts z us lt (inr w) stop =
      bind_reads p (then_assigned choose f g p) ts us w.0 (Ok (z, us)) (a.reads ts w.0 us lt w.1 (kk (next us) stop))
      (if_false (same (next us) m.Assign) (assigned f p (choose w.0) us) (Ok (g w.0, us)) (Ok (z, us)) (misses (next us) stop) (rw w.2 refl))

  first : (ts : List Token) (z : S) (us : List Token) → rule.either (rule.both f (chosen choose L) (rule_before m.Assign L)) (rule.image g L) ts z us → b (next ts) ≡ true
  first ts z us (inl w) = a.first ts w.3.0 w.2 w.3.1
  first ts z us (inr w) = a.first ts w.0 us w.1

  eats : (ts : List Token) (z : S) (us : List Token) → rule.either (rule.both f (chosen choose L) (rule_before m.Assign L)) (rule.image g L) ts z us → length us < length ts
  eats ts z us (inl w) = omega (arith, a.eats ts w.3.0 w.2 w.3.1, (full-before m.Assign a).eats w.2 w.1 us w.4)
  eats ts z us (inr w) = a.eats ts w.0 us w.1

-- The same, with the conditions as tests of all marks.
pub choose : {A : Type 0} (test : Mark → Bool) {n : ℕ} {f g k l : Mark → Bool} {p q : Parser A} {L M : Language A} (F K : Mark → Bool) → Full n f k p L → Full n g l q M
    → list_all (λ x. not (f x) || test x) marks ≡ true → list_all (λ x. not (g x && test x)) marks ≡ true → list_all (λ x. not (f x) || F x) marks ≡ true
    → list_all (λ x. not (g x) || F x) marks ≡ true → list_all (λ x. K x || not (k x)) marks ≡ true → list_all (λ x. K x || not (l x)) marks ≡ true
    → Full n F K (read.choice test p q) (rule.either L M)
choose test {n} {f} {g} {k} {l} F K a b h1 h2 h3 h4 h5 h6 = full-choice test F K a b (within f test h1) (apart g test h2) (within f F h3) (within g F h4) (fails K k h5) (fails K l h6)

pub then_full : {A B C : Type 0} (f : A → B → C) {n : ℕ} {g h k l : Mark → Bool} {p : Parser A} {q : Parser B} {L : Language A} {M : Language B}
    → Full n g k p L → Full n h l q M → list_all (λ x. not (h x && k x)) marks ≡ true → Full n g l (λ ts. p ts >>= then_joined f q) (rule.both f L M)
then_full f {n} {g} {h} {k} {l} a b h1 = full-both f a b (apart h k h1)

pub then_maybe : {A B C : Type 0} (f : A → B → C) {n : ℕ} {g h k l : Mark → Bool} {p : Parser A} {q : Parser B} {L : Language A} {M : Language B}
    → Full n g k p L → Maybe n h l q M → list_all (λ x. not (h x && k x)) marks ≡ true → list_all (λ x. l x || not (k x)) marks ≡ true → Full n g l (λ ts. p ts >>= then_joined f q) (rule.both f L M)
then_maybe f {n} {g} {h} {k} {l} a b h1 h2 = full-both-maybe f a b (apart h k h1) (fails l k h2)

pub maybe_then : {A B C : Type 0} (f : A → B → C) {n : ℕ} {g h k l : Mark → Bool} {p : Parser A} {q : Parser B} {L : Language A} {M : Language B} (F : Mark → Bool)
    → Maybe n g k p L → Full n h l q M → list_all (λ x. not (h x && k x)) marks ≡ true → list_all (λ x. not (g x) || F x) marks ≡ true → list_all (λ x. not (h x) || F x) marks ≡ true
    → Full n F l (λ ts. p ts >>= then_joined f q) (rule.both f L M)
maybe_then f {n} {g} {h} {k} {l} F a b h1 h2 h3 = maybe-both f F a b (apart h k h1) (within g F h2) (within h F h3)

pub optional : {A : Type 0} (test : Mark → Bool) {n : ℕ} {f k : Mark → Bool} {p : Parser A} {L : Language A} (K : Mark → Bool) → Full n f k p L
    → list_all (λ x. not (f x) || test x) marks ≡ true → list_all (λ x. K x || not (test x)) marks ≡ true → list_all (λ x. K x || not (k x)) marks ≡ true → Maybe n f K (read.opt test p) (rule.opt L)
optional test {n} {f} {k} K a h1 h2 h3 = maybe-opt test K a (within f test h1) (fails K test h2) (fails K k h3)

pub repeated : {A : Type 0} (test : Mark → Bool) (turns : ℕ) {n : ℕ} {f k : Mark → Bool} {p : Parser A} {L : Language A} (K : Mark → Bool) → Full n f k p L → n ≤ turns
    → list_all (λ x. not (f x) || test x) marks ≡ true → list_all (λ x. K x || not (test x)) marks ≡ true → list_all (λ x. not (f x && k x)) marks ≡ true → list_all (λ x. K x || not (k x)) marks ≡ true
    → Maybe n f K (read.star test p turns) (rule.star L)
repeated test turns {n} {f} {k} {p} {L} K a few h1 h2 h3 h4 = maybe-star test turns n f k p L K a (within f test h1) (fails K test h2) (apart f k h3) (fails K k h4) few

pub listed : {A : Type 0} (test : Mark → Bool) (turns : ℕ) {n : ℕ} {f k : Mark → Bool} {p : Parser A} {L : Language A} (K : Mark → Bool) → Full n f k p L → n ≤ turns
    → list_all (λ x. not (f x) || test x) marks ≡ true → list_all (λ x. K x || not (test x)) marks ≡ true → list_all (λ x. K x || not (same x m.Comma)) marks ≡ true → list_all (λ x. K x || not (k x)) marks ≡ true → k m.Comma ≡ false
    → Full n f K (read.several test p turns) (rule.several L)
listed test turns {n} {f} {k} {p} {L} K a few h1 h2 h3 h4 h5 = full-several test turns n f k p L K a (within f test h1) (fails K test h2) (fails K (is m.Comma) h3) (fails K k h4) h5 few

pub closed : {A : Type 0} (mark : Mark) {n : ℕ} {f k : Mark → Bool} {p : Parser A} {L : Language A} → Full n f k p L → list_all (λ x. not (same x mark && k x)) marks ≡ true → Full n f none (after p mark) (rule_after mark L)
closed mark {n} {f} {k} a h1 = full-after mark a (apart (is mark) k h1)

pub closed_maybe : {A : Type 0} (mark : Mark) {n : ℕ} {f k : Mark → Bool} {p : Parser A} {L : Language A} (F : Mark → Bool) → Maybe n f k p L
    → list_all (λ x. not (same x mark && k x)) marks ≡ true → list_all (λ x. not (f x) || F x) marks ≡ true → list_all (λ x. not (same x mark) || F x) marks ≡ true → Full n F none (after p mark) (rule_after mark L)
closed_maybe mark {n} {f} {k} F a h1 h2 h3 = maybe-after mark F a (apart (is mark) k h1) (within f F h2) (within (is mark) F h3)
