-- Seats that are brought together, one after the other.
use Rattle.std.proofs.Common.{◌≡◌, ◌≢◌, ◌⊎◌, ℕ, zero, suc, ◌+◌, ◌-◌, ◌<◌, ◌≤◌, List, [], ◌∷◌, length, slice_get, set, refl, ap, sym, ◌∙◌, subst, arith, inl, inr, Option, Some}
use Rattle.std.proofs.lemmas.Option.{same_Some, slice_get_within}
use Rattle.std.proofs.lemmas.List.{length-set}
use Rattle.std.specs.Option.{option_map_or}
use Rattle.version_tree.specs.declared.entry.Entry.{Entry}
use Rattle.version_board.specs.Logs.{own, Begins, IsLater}
use Rattle.shared_board.specs.Seats.{Holder, AreSeats, HasLearnt, HaveLearnt, IsLogOfAll, last_log}
use Rattle.shared_board.specs.Tied.{AllBegin, HavePassed, HaveOwn}
use Rattle.shared_board.proofs.Counted.{own_all}
use Rattle.shared_board.proofs.Fronts.{begins_self, begins_trans, later_self, later_trans}

get_there : (hs : List Holder) (n : ℕ) → n < length hs → (h : Holder) × (slice_get hs n ≡ Some h)
get_there [] n less = absurd (omega arith)
get_there (h ∷ hs) zero less = (h, refl)
get_there (h ∷ hs) (suc n) less = get_there hs n (omega arith)

set_same : (hs : List Holder) (n : ℕ) (new h : Holder) → slice_get hs n ≡ Some h → slice_get (set hs n new) n ≡ Some new
set_same [] n new h is = absurd cc
set_same (x ∷ hs) zero new h is = refl
set_same (x ∷ hs) (suc n) new h is = set_same hs n new h is

set_other : (hs : List Holder) (n k : ℕ) (new : Holder) → n ≢ k → slice_get (set hs n new) k ≡ slice_get hs k
set_other [] n k new not = refl
set_other (x ∷ hs) zero zero new not = absurd (not refl)
set_other (x ∷ hs) zero (suc k) new not = refl
set_other (x ∷ hs) (suc n) zero new not = refl
set_other (x ∷ hs) (suc n) (suc k) new not = set_other hs n k new (λ e. not (ap suc e))

-- learning

learnt_self : (h : Holder) → HasLearnt h h
learnt_self h = record { seat = refl; pin = refl; later = later_self h.seat h.log }

learnt_trans : (a b c : Holder) → HasLearnt a b → HasLearnt b c → HasLearnt a c
learnt_trans a b c p q =
    record {
      seat = q.seat ∙ p.seat;
      pin = q.pin ∙ p.pin;
      later = later_trans a.seat a.log b.log c.log p.later (subst (λ (k : ℕ). IsLater k b.log c.log) p.seat q.later);
    }

pub have_self : (hs : List Holder) → HaveLearnt hs hs
have_self hs =
    record { all = refl; each = λ n old new a b. subst (HasLearnt old) (same_Some old new (sym a ∙ b)) (learnt_self old) }

pub have_trans : (a b c : List Holder) → HaveLearnt a b → HaveLearnt b c → HaveLearnt a c
have_trans a b c p q =
    record {
      all = q.all ∙ p.all;
      each =
          λ n old new e f.
          let mid = get_there b n (let w = slice_get_within a n old e in omega (arith, w, p.all)) in
          learnt_trans old mid.0 new (p.each n old mid.0 e mid.1) (q.each n mid.0 new mid.1 f);
    }

same_or : (k n : ℕ) → (n ≡ k) ⊎ (n ≢ k)
same_or k n = grind arith

have_set_at : (hs : List Holder) (n : ℕ) (mine new : Holder) → slice_get hs n ≡ Some mine → HasLearnt mine new
    → (k : ℕ) (old later : Holder) → (n ≡ k) ⊎ (n ≢ k) → slice_get hs k ≡ Some old → slice_get (set hs n new) k ≡ Some later → HasLearnt old later
have_set_at hs n mine new is learnt k old later (inl same) e f =
    let e' : slice_get hs n ≡ Some old = subst (λ (j : ℕ). slice_get hs j ≡ Some old) (sym same) e in
    let f' : slice_get (set hs n new) n ≡ Some later = subst (λ (j : ℕ). slice_get (set hs n new) j ≡ Some later) (sym same) f in
    let a : mine ≡ old = same_Some mine old (sym is ∙ e') in
    let b : new ≡ later = same_Some new later (sym (set_same hs n new mine is) ∙ f') in
    subst (λ (x : Holder). HasLearnt x later) a (subst (λ (x : Holder). HasLearnt mine x) b learnt)
have_set_at hs n mine new is learnt k old later (inr not) e f =
    subst (HasLearnt old) (same_Some old later (sym e ∙ (sym (set_other hs n k new not) ∙ f))) (learnt_self old)

pub have_set : (hs : List Holder) (n : ℕ) (mine new : Holder) → slice_get hs n ≡ Some mine → HasLearnt mine new → HaveLearnt hs (set hs n new)
have_set hs n mine new is learnt =
    record {
      all = length-set hs n new;
      each = λ k old later e f. have_set_at hs n mine new is learnt k old later (same_or k n) e f;
    }

pub seats_stay : (count : ℕ) (before after : List Holder) → AreSeats count before → HaveLearnt before after → AreSeats count after
seats_stay count before after h learnt =
    record {
      all = learnt.all ∙ h.all;
      names =
          λ seat holder e.
          let old = get_there before seat (let w = slice_get_within after seat holder e in omega (arith, w, learnt.all)) in
          (learnt.each seat old.0 holder old.1 e).seat ∙ h.names seat old.0 old.1;
    }

-- passing on

pub passed_none : (hs : List Holder) → HavePassed 1 hs hs
passed_none hs =
    record {
      learnt = have_self hs;
      begin =
          λ seat old new less e f.
          let first : seat ≡ 0 = omega (arith, less) in
          let same : old ≡ new = same_Some old new (sym e ∙ subst (λ (k : ℕ). slice_get hs k ≡ Some new) (sym first) f) in
          subst (λ (x : Holder). Begins old.log x.log) same (begins_self old.log);
    }

begin_at : (n : ℕ) (before now : List Holder) (told : Holder) (note : List Entry) (mine new : Holder) → HavePassed n before now → slice_get now (n - 1) ≡ Some told → Begins told.log note
    → slice_get now n ≡ Some mine → HasLearnt mine new → Begins note new.log
    → (seat : ℕ) (old : Holder) → seat < n + 1 → (seat ≡ n) ⊎ (seat ≢ n) → slice_get before seat ≡ Some old → Begins old.log new.log
begin_at n before now told note mine new h at_told tells at_mine learnt takes seat old less (inl same) e =
    let e' : slice_get before n ≡ Some old = subst (λ (k : ℕ). slice_get before k ≡ Some old) same e in
    begins_trans old.log mine.log new.log (h.learnt.each n old mine e' at_mine).later.begins learnt.later.begins
begin_at n before now told note mine new h at_told tells at_mine learnt takes seat old less (inr not) e =
    let fewer : seat < n = grind (arith, less, not) in
    begins_trans old.log told.log new.log (h.begin seat old told fewer e at_told) (begins_trans told.log note new.log tells takes)

pub passed_more : (n : ℕ) (before now : List Holder) (told : Holder) (note : List Entry) (mine new : Holder) → HavePassed n before now → slice_get now (n - 1) ≡ Some told → Begins told.log note
    → slice_get now n ≡ Some mine → HasLearnt mine new → Begins note new.log → HavePassed (n + 1) before (set now n new)
passed_more n before now told note mine new h at_told tells at_mine learnt takes =
    record {
      learnt = have_trans before now (set now n new) h.learnt (have_set now n mine new at_mine learnt);
      begin =
          λ seat old last less e f.
          let f' : slice_get (set now n new) n ≡ Some last = subst (λ (k : ℕ). slice_get (set now n new) k ≡ Some last) (omega arith) f in
          let same : new ≡ last = same_Some new last (sym (set_same now n new mine at_mine) ∙ f') in
          subst (λ (x : Holder). Begins old.log x.log) same
          (begin_at n before now told note mine new h at_told tells at_mine learnt takes seat old less (same_or n seat) e);
    }

pub last_is : (hs : List Holder) (h : Holder) → slice_get hs (length hs - 1) ≡ Some h → last_log hs ≡ h.log
last_is hs h e = ap (λ (o : Option Holder). option_map_or (λ (x : Holder). x.log) o []) e

-- after the last, the last one's log begins with what each had seen
pub passed_all : (n : ℕ) (before now : List Holder) → HavePassed n before now → (0 < length now → n ≡ length now) → AllBegin before (last_log now)
passed_all n before now h whole seat old e =
    let w : seat < length before = slice_get_within before seat old e in
    let some : 0 < length now = omega (arith, w, h.learnt.all) in
    let count : n ≡ length now = whole some in
    let last = get_there now (length now - 1) (omega (arith, some)) in
    let at_last : slice_get now (n - 1) ≡ Some last.0 = subst (λ (k : ℕ). slice_get now (k - 1) ≡ Some last.0) (sym count) last.1 in
    subst (Begins old.log) (sym (last_is now last.0 last.1)) (h.begin seat old last.0 (omega (arith, w, h.learnt.all, count)) e at_last)

-- the log of them all
pub tied : (count : ℕ) (before mid after : List Holder) → AreSeats count before → HaveLearnt before mid → HaveLearnt mid after → AllBegin mid (last_log after)
    → HaveOwn after (last_log after) → IsLogOfAll before (last_log after)
tied count before mid after h p q begin own_all_there =
    let learnt : HaveLearnt before after = have_trans before mid after p q in
    let begins : AllBegin before (last_log after) =
    λ seat old e.
    let m = get_there mid seat (let w = slice_get_within before seat old e in omega (arith, w, p.all)) in
    begins_trans old.log m.0.log (last_log after) (p.each seat old m.0 e m.1).later.begins (begin seat m.0 m.1) in
    record {
      begins = begins;
      own_seen =
          λ seat old e.
          let a = get_there after seat (let w = slice_get_within before seat old e in omega (arith, w, learnt.all)) in
          let stay : own old.seat a.0.log ≡ own old.seat old.log = (learnt.each seat old a.0 e a.1).later.own_stay in
          let stays : own seat a.0.log ≡ own seat old.log = subst (λ (k : ℕ). own k a.0.log ≡ own k old.log) (h.names seat old e) stay in
          own_all seat old.log (last_log after) (begins seat old e) (ap length (sym stays) ∙ sym (own_all_there.each seat a.0 a.1));
      named = λ seat more. own_all_there.others seat (subst (λ (k : ℕ). k ≤ seat) (sym learnt.all) more);
    }

-- counting

less_or : (n k : ℕ) → k < n + 1 → (k < n) ⊎ (k ≡ n)
less_or n k less = grind arith

agree_at : (seats : List Holder) (log : List Entry) (n : ℕ) (item : Holder)
    → ((seat : ℕ) (holder : Holder) → seat < n → slice_get seats seat ≡ Some holder → length (own seat log) ≡ length (own seat holder.log))
    → slice_get seats n ≡ Some item → length (own n log) ≡ length (own n item.log)
    → (seat : ℕ) (holder : Holder) → (seat < n) ⊎ (seat ≡ n) → slice_get seats seat ≡ Some holder → length (own seat log) ≡ length (own seat holder.log)
agree_at seats log n item h at_item same seat holder (inl less) e = h seat holder less e
agree_at seats log n item h at_item same seat holder (inr is) e =
    let e' : slice_get seats n ≡ Some holder = subst (λ (k : ℕ). slice_get seats k ≡ Some holder) is e in
    subst (λ (k : ℕ). length (own k log) ≡ length (own k holder.log)) (sym is)
    (subst (λ (x : Holder). length (own n log) ≡ length (own n x.log)) (same_Some item holder (sym at_item ∙ e')) same)

-- one more seat of which the log has as many entries
pub agree_more : (count : ℕ) (seats : List Holder) (log : List Entry) (n name mine theirs : ℕ) (item : Holder) → AreSeats count seats
    → ((seat : ℕ) (holder : Holder) → seat < n → slice_get seats seat ≡ Some holder → length (own seat log) ≡ length (own seat holder.log))
    → slice_get seats n ≡ Some item → name ≡ item.seat → mine ≡ length (own name item.log) → theirs ≡ length (own name log) → mine ≡ theirs
    → (seat : ℕ) (holder : Holder) → seat < n + 1 → slice_get seats seat ≡ Some holder → length (own seat log) ≡ length (own seat holder.log)
agree_more count seats log n name mine theirs item all h at_item named counted there same seat holder less e =
    let is : name ≡ n = named ∙ all.names n item at_item in
    let both : length (own n log) ≡ length (own n item.log) =
    subst (λ (k : ℕ). length (own k log) ≡ length (own k item.log)) is (sym there ∙ (sym same ∙ counted)) in
    agree_at seats log n item h at_item both seat holder (less_or n seat less) e

pub agree_all : (count : ℕ) (seats : List Holder) (last : Holder) (n : ℕ) → AreSeats count seats → slice_get seats (length seats - 1) ≡ Some last → length seats ≤ n
    → ((seat : ℕ) (holder : Holder) → seat < n → slice_get seats seat ≡ Some holder → length (own seat last.log) ≡ length (own seat holder.log))
    → ((other : ℕ) → count ≤ other → own other last.log ≡ []) → HaveOwn seats (last_log seats)
agree_all count seats last n all at_last whole h others =
    let is : last.log ≡ last_log seats = sym (last_is seats last at_last) in
    subst (HaveOwn seats) is
    (record {
      each = λ seat holder e. h seat holder (let w = slice_get_within seats seat holder e in omega (arith, w, whole)) e;
      others = λ other more. others other (subst (λ (k : ℕ). k ≤ other) all.all more);
    })

pub agree_none : (log : List Entry) (seats : List Holder)
    → (seat : ℕ) (holder : Holder) → seat < 0 → slice_get seats seat ≡ Some holder → length (own seat log) ≡ length (own seat holder.log)
agree_none log seats seat holder less e = absurd (omega (arith, less))
