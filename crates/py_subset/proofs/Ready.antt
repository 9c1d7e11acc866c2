-- All that the law of the first fault needs of a reader and its rule, form by form.
use Rattle.std.proofs.Common.{◌≡◌, ℕ, ◌+◌, ◌<◌, ◌≤◌, suc, Bool, true, false, cond, List, length, Ok, Err, arith, inl, inr}
use Rattle.std.specs.Prelude.{Option, Some, None}
use Rattle.py_subset.specs.declared.token.Token.{Token}
use Rattle.py_subset.specs.declared.token.Mark.{Mark}
use Rattle.py_subset.specs.declared.token.Mark.TheVariants as m
use Rattle.py_subset.specs.Marks.{same}
use Rattle.py_subset.specs.Language.{Language, next, only}
use Rattle.py_subset.specs.Language as rule
use Rattle.py_subset.specs.Chosen.{chosen}
use Rattle.py_subset.specs.Parsers.{Parser, rest, ◌>>=◌}
use Rattle.py_subset.specs.Parsers as read
use Rattle.py_subset.proofs.Steps.{before, after, rule_before, rule_after, reply, then_read, assigned, then_assigned}
use Rattle.py_subset.proofs.Sound.{Sound, sound-marked, sound-tok, sound-name, sound-both, sound-before, sound-after, sound-image, sound-choice, sound-unless, sound-assigned, sound-opt, sound-star, sound-several}
use Rattle.py_subset.proofs.Near.{Near, near-pure, near-err, near-if, near-then, near-fewer, near-marked, near-tok, near-name, near-image, near-both, near-before, near-after, near-inside, near-opt, near-star, near-several}
use Rattle.py_subset.proofs.Viable.{Moves, Has, Ended, Ends, has-tok, if_err, bind_err, left-ended, right-ended, second-ended, moves-marked, moves-name, moves-both, moves-image, moves-either, moves-star, moves-opt, moves-several, moves-chosen, moves-unless, tok-eats, ends-marked, ends-tok, ends-name, ends-both, ends-inside, ends-before, ends-after, ends-image, ends-choice, ends-opt}
use Rattle.py_subset.proofs.ViableLists.{Eats, HasOther, ends-star, ends-several, ends-unless, ends-assigned}

pub record Ready {A : Type 0} (n n' : ℕ) (p p' : Parser A) (L : Language A) : Type 0 where
  pub near : Near n n' p p'
  pub sound : Sound p L
  pub moves : Moves L
  pub ends : Ends n p L

pub ready-fewer : {A : Type 0} {n n' : ℕ} {p p' : Parser A} {L : Language A} (N N' : ℕ) → N ≤ n → N' ≤ n' → Ready n n' p p' L → Ready N N' p p' L
ready-fewer N N' le le' a = record { near = near-fewer N N' le le' a.near; sound = a.sound; moves = a.moves; ends = record { ends = λ ts us lt e. a.ends.ends ts us (omega arith) e } }

pub ready-marked : {A : Type 0} {n n' : ℕ} (f : Mark → Option A) → f m.End ≡ None → Has (rule.marked f) → Ready n n' (read.marked f) (read.marked f) (rule.marked f)
ready-marked f no_end h = record { near = near-marked f; sound = sound-marked f no_end; moves = moves-marked f; ends = ends-marked f h }

pub ready-tok : {n n' : ℕ} (mark : Mark) → same m.End mark ≡ false → same mark mark ≡ true → Ready n n' (read.tok mark) (read.tok mark) (rule.tok mark)
ready-tok mark no_end self = record { near = near-tok mark; sound = sound-tok mark no_end; moves = moves-marked (only mark); ends = ends-tok mark (has-tok mark self) }

pub ready-name : {n n' : ℕ} → Ready n n' read.name read.name rule.name
ready-name = record { near = near-name; sound = sound-name; moves = moves-name; ends = ends-name }

pub ready-both : {A B C : Type 0} (f : A → B → C) {n n' : ℕ} {p p' : Parser A} {q q' : Parser B} {L : Language A} {M : Language B} → Ready n n' p p' L → Ready n n' q q' M → Has M → Ready n n' (read.both f p q) (read.both f p' q') (rule.both f L M)
ready-both f a b h = record { near = near-both f a.near b.near; sound = sound-both f a.sound b.sound; moves = moves-both f a.moves b.moves; ends = ends-both f a.sound a.moves a.ends b.ends h }

pub ready-before : {A : Type 0} (mark : Mark) {n n' : ℕ} {p p' : Parser A} {L : Language A} → same m.End mark ≡ false → same mark mark ≡ true → Ready n n' p p' L → Has L → Ready n n' (before mark p) (before mark p') (rule_before mark L)
ready-before mark no_end self a h = record {
  near = near-before mark a.near;
  sound = sound-before mark no_end a.sound;
  moves = moves-both (λ _ x. x) (moves-marked (only mark)) a.moves;
  ends = ends-before mark (sound-tok mark no_end) (has-tok mark self) a.ends h;
}

pub ready-inside : {A : Type 0} (mark : Mark) {n n' : ℕ} {p p' : Parser A} {L : Language A} → same m.End mark ≡ false → same mark mark ≡ true → Ready n n' p p' L → Has L → Ready (suc n) (suc n') (before mark p) (before mark p') (rule_before mark L)
ready-inside mark no_end self a h = record {
  near = near-inside mark no_end a.near;
  sound = sound-before mark no_end a.sound;
  moves = moves-both (λ _ x. x) (moves-marked (only mark)) a.moves;
  ends = ends-inside mark (sound-tok mark no_end) (has-tok mark self) a.ends h;
}

pub ready-after : {A : Type 0} (mark : Mark) {n n' : ℕ} {p p' : Parser A} {L : Language A} → same m.End mark ≡ false → same mark mark ≡ true → Ready n n' p p' L → Ready n n' (after p mark) (after p' mark) (rule_after mark L)
ready-after mark no_end self a = record {
  near = near-after mark a.near;
  sound = sound-after mark no_end a.sound;
  moves = moves-both (λ x _. x) a.moves (moves-marked (only mark));
  ends = ends-after mark (has-tok mark self) a.sound a.moves a.ends;
}

pub ready-image : {A B : Type 0} (f : A → B) {n n' : ℕ} {p p' : Parser A} {L : Language A} → Ready n n' p p' L → Ready n n' (read.image f p) (read.image f p') (rule.image f L)
ready-image f a = record { near = near-image f a.near; sound = sound-image f a.sound; moves = moves-image f a.moves; ends = ends-image f a.ends }

pub ready-choice : {A : Type 0} (test : Mark → Bool) {n n' : ℕ} {p p' q q' : Parser A} {L M : Language A} → Ready n n' p p' L → Ready n n' q q' M → Ready n n' (read.choice test p q) (read.choice test p' q') (rule.either L M)
ready-choice test a b = record { near = near-if test a.near b.near; sound = sound-choice test a.sound b.sound; moves = moves-either a.moves b.moves; ends = ends-choice test a.ends b.ends }

pub ready-unless : {A : Type 0} (mark : Mark) {n n' : ℕ} {p p' q q' : Parser A} {L M : Language A} → Ready n n' p p' L → Ready n n' q q' M → Eats M → HasOther mark M
    → Ready n n' (read.choice (λ other. same other mark) p q) (read.choice (λ other. same other mark) p' q') (rule.either L (rule.unless mark M))
ready-unless mark a b eats h = record {
  near = near-if (λ other. same other mark) a.near b.near;
  sound = sound-unless mark a.sound b.sound;
  moves = moves-either a.moves (moves-unless mark b.moves eats);
  ends = ends-unless mark a.ends b.ends h;
}

pub ready-opt : {A : Type 0} (test : Mark → Bool) {n n' : ℕ} {p p' : Parser A} {L : Language A} → Ready n n' p p' L → Ready n n' (read.opt test p) (read.opt test p') (rule.opt L)
ready-opt test a = record { near = near-opt test a.near; sound = sound-opt test a.sound; moves = moves-opt a.moves; ends = ends-opt test a.ends }

read-eats : {A : Type 0} {p : Parser A} {L : Language A} → Sound p L → Eats L → (n : ℕ) (ts : List Token) (x : A) (us : List Token) → length ts < n → p ts ≡ Ok (x, us) → length us + 1 ≤ length ts
read-eats sp eats n ts x us lt e = omega (arith, eats ts x us (sp.holds ts x us e))

pub ready-star : {A : Type 0} (test : Mark → Bool) (turns turns' : ℕ) {n n' : ℕ} {p p' : Parser A} {L : Language A} → n ≤ turns → n' ≤ turns' → Ready n n' p p' L → Eats L
    → Ready n n' (read.star test p turns) (read.star test p' turns') (rule.star L)
ready-star test turns turns' {n} {n'} {p} {p'} {L} few few' a eats = record {
  near = near-star test n n' p p' a.near (read-eats a.sound eats n) turns turns' n n' few few' (omega arith) (omega arith);
  sound = sound-star test turns a.sound;
  moves = moves-star a.moves;
  ends = ends-star test n p L a.sound a.moves a.ends eats turns few;
}

pub ready-several : {A : Type 0} (test : Mark → Bool) (turns turns' : ℕ) {n n' : ℕ} {p p' : Parser A} {L : Language A} → n ≤ turns → n' ≤ turns' → Ready n n' p p' L → Eats L
    → Ready n n' (read.several test p turns) (read.several test p' turns') (rule.several L)
ready-several test turns turns' {n} {n'} {p} {p'} {L} few few' a eats = record {
  near = near-several test n n' p p' a.near (read-eats a.sound eats n) turns turns' few few';
  sound = sound-several test turns a.sound;
  moves = moves-several a.moves;
  ends = ends-several test n p L a.sound a.moves a.ends eats turns few;
}

near-target : {A B S : Type 0} (f : B → A → S) {n n' : ℕ} {p p' : Parser A} → Near n n' p p' → (o : Option B) → Near n n' (assigned f p o) (assigned f p' o)
near-target f {n} {n'} {p} {p'} a None = record { near = λ ts lt. (near-err {n = n} {n' = n'}).near ts lt }
near-target f {n} {n'} {p} {p'} a (Some t) = record { near = λ ts lt. (near-before m.Assign (near-image (f t) a)).near ts lt }

pub ready-assigned : {A B S : Type 0} (choose : A → Option B) (f : B → A → S) (g : A → S) {n n' : ℕ} {p p' : Parser A} {L : Language A} → Ready n n' p p' L → Has L
    → Ready n n' (λ ts. p ts >>= then_assigned choose f g p) (λ ts. p' ts >>= then_assigned choose f g p') (rule.either (rule.both f (chosen choose L) (rule_before m.Assign L)) (rule.image g L))
ready-assigned choose f g {n} {n'} {p} {p'} {L} a h = record {
  near = near-then a.near (λ x. near-if (λ mark. same mark m.Assign) (near-target f a.near (choose x)) (near-pure (g x)));
  sound = sound-assigned choose f g a.sound;
  moves = moves-either (moves-both f (moves-chosen choose a.moves) (moves-both (λ _ x. x) (moves-marked (only m.Assign)) a.moves)) (moves-image g a.moves);
  ends = ends-assigned choose f g n p L a.sound a.moves a.ends h;
}

-- The first of two begins with its mark and goes on with shorter lists, of which it may need that there is one.
tok_refused : (mark : Mark) (ts us : List Token) → same (next ts) mark ≡ true → read.tok mark ts ≡ Err us → ⊥
tok_refused mark ts us h e = by (same (next ts) mark) h e where
  by : (b : Bool) → b ≡ true → cond b (reply (tt {0}, rest ts)) (Err ts) ≡ Err us → ⊥
  by true h e = cc
  by false h e = cc

pub ends-choice-inside : {A : Type 0} (mark : Mark) {n : ℕ} {p q : Parser A} {L M : Language A} → same m.End mark ≡ false → (0 < n → Ends n p L) → Ends (suc n) q M
    → Ends (suc n) (read.choice (λ other. same other mark) (before mark p) q) (rule.either (rule_before mark L) M)
ends-choice-inside {A} mark {n} {p} {q} {L} {M} no_end a b = record { ends = by } where
  inside : (ts us : List Token) → length ts < suc n → same (next ts) mark ≡ true → (read.tok mark ts >>= then_read p) ≡ Err us → Ended (rule_before mark L) ts us
  inside ts us lt h e = elim (bind_err (read.tok mark ts) (then_read p) us e) [
    | inl r ↦ absurd (tok_refused mark ts us h r)
    | inr r ↦
        let l = (sound-tok mark no_end).holds ts r.0.0 r.0.1 r.1 in
        let less = tok-eats mark ts r.0.0 r.0.1 l in
        second-ended (λ _ x. x) ts r.0.1 us r.0.0 ((moves-marked (only mark)).moves ts r.0.0 r.0.1 l) ((a (omega (arith, less))).ends r.0.1 us (omega (arith, less)) r.2)
  ]

  by : (ts us : List Token) → length ts < suc n → read.choice (λ other. same other mark) (before mark p) q ts ≡ Err us → Ended (rule.either (rule_before mark L) M) ts us
  by ts us lt e = elim (if_err (same (next ts) mark) (before mark p ts) (q ts) us e) [
    | inl h ↦ left-ended ts us (inside ts us lt h.0 h.1)
    | inr h ↦ right-ended ts us (b.ends ts us lt h.1)
  ]
