-- A door's loop under way: what was served so far, one connection more, and each way out.
use Rattle.std.proofs.Common.{◌≡◌, ◌≢◌, ℕ, ◌+◌, ◌<◌, ◌≤◌, List, [], ◌∷◌, ◌++◌, length, map, Option, None, Some, refl, ap, sym, subst, ◌∙◌, arith, append_assoc, append-nil, length-append}
use Rattle.std.specs.List.{AllByRecursion}
use Rattle.nav_io.specs.Told.{append_told}
use Rattle.nav_session.specs.Serving.{Standing}
use Rattle.nav_doors.specs.Connections.{Outside, Connection, IsServed, AreServed, ServesDoor, HaveMemory, pairs_given, pairs_back, statuses}
use Rattle.nav_doors.specs.Inside.{ServesNext, FailsNext}

-- so many connections were served, none of which ended for want of memory
pub record IsUnderWay {D S K : Type 0} (o : Outside D S K) (seat n : ℕ) (door door' : D) (log log' : Standing) : Type 0 where
  pub served : List (Connection S K)
  pub gave : o.gave door' ≡ append_told (o.gave door) (pairs_given served)
  pub got_back : o.got_back door' ≡ append_told (o.got_back door) (pairs_back served)
  pub in_order : AreServed o seat log served log'
  pub so_many : length served ≡ n
  pub memory : HaveMemory (statuses served)
  pub count : o.faults door ≤ o.faults door'

told_nothing : {X : Type 0} (told : Option (List X)) → told ≡ append_told told []
told_nothing None = refl
told_nothing (Some xs) = ap Some (sym (append-nil xs))

told_more : {X : Type 0} (told : Option (List X)) (xs ys : List X) → append_told (append_told told xs) ys ≡ append_told told (xs ++ ys)
told_more None xs ys = refl
told_more (Some told) xs ys = ap Some (append_assoc told xs ys)

map_more : {A B : Type 0} (f : A → B) (xs : List A) (x : A) → map f xs ++ f x ∷ [] ≡ map f (xs ++ x ∷ [])
map_more f [] x = refl
map_more f (y ∷ xs) x = ap (λ w. f y ∷ w) (map_more f xs x)

-- what is told after one thing more, where all things are images
told_one_more : {A X : Type 0} (f : A → X) (t0 t1 t2 : Option (List X)) (xs : List A) (x : A)
    → t1 ≡ append_told t0 (map f xs) → t2 ≡ append_told t1 (f x ∷ []) → t2 ≡ append_told t0 (map f (xs ++ x ∷ []))
told_one_more f t0 t1 t2 xs x a b =
    b ∙ (ap (λ w. append_told w (f x ∷ [])) a ∙ (told_more t0 (map f xs) (f x ∷ []) ∙ ap (λ w. append_told t0 w) (map_more f xs x)))

served_more : {D S K : Type 0} (o : Outside D S K) (seat : ℕ) (log : Standing) (cs : List (Connection S K)) (end : Standing) (c : Connection S K)
    → AreServed o seat log cs end → c.before ≡ end → IsServed o seat c → AreServed o seat log (cs ++ c ∷ []) c.after
served_more o seat log [] end c h before served = (before ∙ h, served, refl)
served_more o seat log (x ∷ cs) end c h before served = (h.0, h.1, served_more o seat x.after cs end c h.2 before served)

all_push : {X : Type 0} (P : X → Type 0) (xs : List X) (y : X) → AllByRecursion P xs → P y → AllByRecursion P (xs ++ y ∷ [])
all_push P [] y all one = (one, tt)
all_push P (x ∷ xs) y all one = (all.0, all_push P xs y all.1 one)

pub under_way : {D S K : Type 0} (o : Outside D S K) (seat : ℕ) (door : D) (log : Standing) → IsUnderWay o seat 0 door door log log
under_way o seat door log = record {
  served = [];
  gave = told_nothing (o.gave door);
  got_back = told_nothing (o.got_back door);
  in_order = refl;
  so_many = refl;
  memory = tt;
  count = omega arith;
}

-- one connection more, whatever came of it
record HasOneMore {D S K : Type 0} (o : Outside D S K) (seat n : ℕ) (door door' : D) (log log' : Standing) (earlier : List ℕ) (status : ℕ) : Type 0 where
  served : List (Connection S K)
  gave : o.gave door' ≡ append_told (o.gave door) (pairs_given served)
  got_back : o.got_back door' ≡ append_told (o.got_back door) (pairs_back served)
  in_order : AreServed o seat log served log'
  so_many : length served ≡ n + 1
  told : statuses served ≡ earlier ++ status ∷ []
  count : o.faults door ≤ o.faults door'

has_one_more : {D S K : Type 0} (o : Outside D S K) (seat n : ℕ) (door d d' : D) (log l l' : Standing) (status : ℕ)
    → (u : IsUnderWay o seat n door d log l) → ServesNext o seat d d' l l' status → HasOneMore o seat n door d' log l' (statuses u.served) status
has_one_more o seat n door d d' log l l' status u next = record {
  served = u.served ++ next.next ∷ [];
  gave = told_one_more (λ c. c.given) (o.gave door) (o.gave d) (o.gave d') u.served next.next u.gave next.gave;
  got_back = told_one_more (λ c. c.back) (o.got_back door) (o.got_back d) (o.got_back d') u.served next.next u.got_back next.got_back;
  in_order = subst (λ (w : Standing). AreServed o seat log (u.served ++ next.next ∷ []) w) next.after
      (served_more o seat log u.served l next.next u.in_order next.before next.served);
  so_many = length-append u.served (next.next ∷ []) ∙ ap (λ k. k + 1) u.so_many;
  told = sym (map_more (λ c. c.status) u.served next.next) ∙ ap (λ (s : ℕ). statuses u.served ++ s ∷ []) next.told;
  count = omega (arith, u.count, next.count);
}

pub one_more : {D S K : Type 0} (o : Outside D S K) (seat seat' n : ℕ) (door d d' : D) (log l l' : Standing) (status : ℕ)
    → IsUnderWay o seat n door d log l → seat' ≡ seat → ServesNext o seat' d d' l l' status → status ≢ 5
    → IsUnderWay o seat (n + 1) door d' log l'
one_more o seat seat' n door d d' log l l' status u same next memory =
    let more = has_one_more o seat n door d d' log l l' status u (subst (λ (s : ℕ). ServesNext o s d d' l l' status) same next) in
    record {
      served = more.served;
      gave = more.gave;
      got_back = more.got_back;
      in_order = more.in_order;
      so_many = more.so_many;
      memory = subst HaveMemory (sym more.told) (all_push (λ (s : ℕ). s ≢ 5) (statuses u.served) status u.memory memory);
      count = more.count;
    }

-- the loop ends behind a connection that ended for want of memory
pub stops : {D S K : Type 0} (o : Outside D S K) (seat seat' most n : ℕ) (door d d' : D) (log l l' : Standing) (status : ℕ)
    → IsUnderWay o seat n door d log l → seat' ≡ seat → ServesNext o seat' d d' l l' status → status ≡ 5
    → ServesDoor o seat most door d' log l' 5
stops o seat seat' most n door d d' log l l' status u same next is =
    let more = has_one_more o seat n door d d' log l l' status u (subst (λ (s : ℕ). ServesNext o s d d' l l' status) same next) in
    record {
      served = more.served;
      gave = more.gave;
      got_back = more.got_back;
      in_order = more.in_order;
      ends = refl;
      all = λ e. absurd (omega (arith, e));
      fewer = λ e. absurd (omega (arith, e));
      failed = λ e. absurd (omega (arith, e));
      no_memory = λ e. (statuses u.served, more.told ∙ ap (λ (s : ℕ). statuses u.served ++ s ∷ []) is, u.memory);
      memory = λ ne. absurd (ne refl);
      count = more.count;
    }

-- the door failed
pub fails : {D S K : Type 0} (o : Outside D S K) (seat most n : ℕ) (door d d' : D) (log l l' : Standing)
    → IsUnderWay o seat n door d log l → n < most → FailsNext o d d' l l' → ServesDoor o seat most door d' log l' 8
fails o seat most n door d d' log l l' u less f = record {
  served = u.served;
  gave = f.gave ∙ u.gave;
  got_back = f.got_back ∙ u.got_back;
  in_order = subst (λ (w : Standing). AreServed o seat log u.served w) (sym f.same) u.in_order;
  ends = refl;
  all = λ e. absurd (omega (arith, e));
  fewer = λ e. omega (arith, u.so_many, less);
  failed = λ e. omega (arith, f.failed, u.count);
  no_memory = λ e. absurd (omega (arith, e));
  memory = λ ne. u.memory;
  count = omega (arith, u.count, f.count);
}

-- all were served
pub finished : {D S K : Type 0} (o : Outside D S K) (seat most n : ℕ) (door d : D) (log l : Standing)
    → IsUnderWay o seat n door d log l → n ≡ most → ServesDoor o seat most door d log l 0
finished o seat most n door d log l u is = record {
  served = u.served;
  gave = u.gave;
  got_back = u.got_back;
  in_order = u.in_order;
  ends = refl;
  all = λ e. u.so_many ∙ is;
  fewer = λ e. absurd (omega (arith, e));
  failed = λ e. absurd (omega (arith, e));
  no_memory = λ e. absurd (omega (arith, e));
  memory = λ ne. u.memory;
  count = u.count;
}
