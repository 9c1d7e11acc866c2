-- Rounds that came to nothing, and that the port settles behind these alone.
use Rattle.std.proofs.Common.{◌≡◌, ◌≢◌, ◌⊎◌, inl, inr, ℕ, ◌+◌, ◌<◌, ◌≤◌, ◌||◌, not, Bool, true, false, List, [], ◌∷◌, ◌++◌, length, slice_get, set, zero, suc, Some, Result, Ok, refl, ap, sym, subst, ◌∙◌, arith, length-append}
use Rattle.std.specs.List.{AllByRecursion}
use Rattle.std.proofs.lemmas.Option.{same_Some, slice_get_within}
use Rattle.nav_io.specs.Faults.{counted}
use Rattle.nav_poll.specs.declared.link.Counts.{Counts}
use Rattle.poll_many.specs.Connections.{Outside, links_back}
use Rattle.poll_many.specs.Settling.{HasWaited, CameToNothing, SettledBehind, SettlesBehindRounds}
use Rattle.poll_many.specs.Places.{Stays, TakesLink, TakesTurn, open_at, open_links, is_busy}
use Rattle.poll_many.specs.Waiting.{GaveNone, WaitedAt, WaitsAt, HaveWaited, OneMoreWaits, AllHaveWaited, SettlesOn}
use Rattle.poll_many.specs.Rounds.{IsUnderWay}
use Rattle.poll_many.specs.declared.call.Call.{Call}
use Rattle.poll_many.specs.declared.place.Open.{Open}
use Rattle.poll_many.specs.declared.place.Asked.{Asked}
use Rattle.poll_many.specs.declared.place.Asked.TheVariants.{Unasked, Given, NotYet, Failed}
use Rattle.poll_many.specs.declared.place.Place.{Place}
use Rattle.poll_many.specs.declared.place.Place.TheVariants.{Free, Busy, Lost, Away}
use Rattle.poll_many.specs.declared.place.Turn.TheVariants.{Waits}
use Rattle.poll_many.proofs.PlaceLists.{got, put_there}
use Rattle.poll_many.proofs.PlaceTurns.{out_now}

-- where a poll is pending, a link had to wait, whatever else is told of it
pub waited_anyhow : (A B C : Type 0) → A ⊎ (B × C) → A ⊎ B
waited_anyhow A B C (inl a) = inl a
waited_anyhow A B C (inr b) = inr b.0

-- where no session is open, none has to wait
pub waits_empty : {B K : Type 0} (counts : K → Counts) (p : Place B K) → is_busy p ≡ false → WaitsAt counts p p
waits_empty counts (Free desk board) e = tt
waits_empty counts (Busy s) e = absurd (cc e)
waits_empty counts (Lost board) e = tt
waits_empty counts Away e = tt

-- no link was given out for places one after the other
pub none_at_first : {P B K : Type 0} (o : Outside P B K) (port : P) (places : List (Place B K)) → GaveNone o port port places places
none_at_first o port places = record { same_given = refl; same_back = refl; same_places = refl }

pub none_more : {P B K : Type 0} (o : Outside P B K) (port mid port' : P) (places those places' : List (Place B K))
    → GaveNone o port mid places those → GaveNone o mid port' those places' → GaveNone o port port' places places'
none_more o port mid port' places those places' g h = record {
  same_given = h.same_given ∙ g.same_given;
  same_back = h.same_back ∙ g.same_back;
  same_places = h.same_places ∙ g.same_places;
}

stays_unless : {P B K : Type 0} (o : Outside P B K) (p p' : Place B K) (port port' : P) (asked : Asked)
    → asked ≢ Given → TakesLink o p p' port port' asked → Stays o p p' port port'
stays_unless o p p' port port' Unasked other t = t
stays_unless o p p' port port' Given other t = absurd (other refl)
stays_unless o p p' port port' NotYet other t = t
stays_unless o p p' port port' Failed other t = t

set_same : {X : Type 0} (xs : List X) (n : ℕ) (x y : X) → slice_get xs n ≡ Some x → y ≡ x → set xs n y ≡ xs
set_same [] n x y is same = refl
set_same (z ∷ xs) zero x y is same = ap (λ w. w ∷ xs) (same ∙ sym (same_Some z x is))
set_same (z ∷ xs) (suc n) x y is same = ap (λ ws. z ∷ ws) (set_same xs n x y is same)

-- nor for one of them
pub none_at : {P B K : Type 0} (o : Outside P B K) (port port' : P) (places : List (Place B K)) (n : ℕ) (p p' : Place B K) (asked : Asked)
    → slice_get places n ≡ Some p → TakesLink o p p' port port' asked → (asked ≢ Given → p' ≡ p) → asked ≢ Given
    → GaveNone o port port' places (set places n p')
none_at o port port' places n p p' asked is t same other =
    let s = stays_unless o p p' port port' asked other t in
    record { same_given = s.same_given; same_back = s.same_back; same_places = set_same places n p p' is (same other) }

-- before the first turn
pub waited_at_first : {P B K : Type 0} (o : Outside P B K) (port : P) (places : List (Place B K)) → HaveWaited o 0 port port places places
waited_at_first o port places = record {
  same_given = refl;
  same_back = refl;
  waited = λ k p p' less e f. absurd (omega (arith, less));
  behind = λ k le. refl;
}

before_or : (k n : ℕ) → k < n + 1 → k ≢ n → k < n
before_or k n less other = grind (arith, less, other)

-- the place has its turn, and its session has to wait
pub one_more_waits : {P B K : Type 0} (o : Outside P B K) (port port' : P) (places : List (Place B K)) (n : ℕ) (p p' : Place B K)
    → slice_get places n ≡ Some p → TakesTurn o p p' port port' Waits → WaitsAt o.counts p p' → OneMoreWaits o n port port' places (set places n p')
one_more_waits {P} {B} {K} o port port' places n p p' is s waits before those h = record {
  same_given = s.same_given ∙ h.same_given;
  same_back = s.same_back ∙ h.same_back;
  waited = λ k q q' less e f. elim (got places n p p' k q' is f) [
    | inl here ↦
        let there : slice_get those k ≡ Some p = sym (h.behind k (omega (arith, here.0))) ∙ subst (λ (m : ℕ). slice_get places m ≡ Some p) (sym here.0) is in
        subst (λ (r : Place B K). WaitsAt o.counts q r) (sym here.1)
        (subst (λ (r : Place B K). WaitsAt o.counts r p') (same_Some p q (sym there ∙ e)) waits)
    | inr there ↦ h.waited k q q' (before_or k n less there.0) e there.1
  ];
  behind = λ k le. put_there places n k p' (λ same. omega (arith, le, same)) ∙ h.behind k (omega (arith, le));
}

-- all places had their turns
pub all_waited : {P B K : Type 0} (o : Outside P B K) (n : ℕ) (port port' : P) (places places' : List (Place B K))
    → length places' ≤ n → HaveWaited o n port port' places places' → AllHaveWaited o port port' places places'
all_waited o n port port' places places' le h = record {
  same_given = h.same_given;
  same_back = h.same_back;
  waited = λ k p p' e f. h.waited k p p' (omega (arith, le, slice_get_within places' k p' f)) e f;
}

-- a round in which no link was given out and all had to wait
pub quiet_round : {P B K : Type 0} (o : Outside P B K) (port mid port' : P) (places those places' : List (Place B K))
    → GaveNone o port mid places those → AllHaveWaited o mid port' those places' → AllHaveWaited o port port' places places'
quiet_round {P} {B} {K} o port mid port' places those places' g h = record {
  same_given = h.same_given ∙ g.same_given;
  same_back = h.same_back ∙ g.same_back;
  waited = λ k p p' e f. h.waited k p p' (ap (λ (ps : List (Place B K)). slice_get ps k) g.same_places ∙ e) f;
}

pub ok_same : {E : Type 0} (a b : Bool) → ◌≡◌ {A = Result Bool E} (Ok a) (Ok b) → a ≡ b
ok_same a b e = cc e

pub neither : (a b : Bool) → not (a || b) ≡ true → (a ≡ false) × (b ≡ false)
neither true b e = absurd (cc e)
neither false true e = absurd (cc e)
neither false false e = (refl, refl)

-- the link of a session, as it was and as it is
link_was : {B K : Type 0} → Place B K → Open B K → List (K × K)
link_was (Free desk board) s = []
link_was (Busy was) s = (was.polled.link, s.polled.link) ∷ []
link_was (Lost board) s = []
link_was Away s = []

link_of : {B K : Type 0} → Place B K → Place B K → List (K × K)
link_of p (Free desk board) = []
link_of p (Busy s) = link_was p s
link_of p (Lost board) = []
link_of p Away = []

links_of : {B K : Type 0} → List (Place B K) → List (Place B K) → List (K × K)
links_of [] places' = []
links_of (p ∷ places) [] = []
links_of (p ∷ places) (p' ∷ places') = link_of p p' ++ links_of places places'

-- they had to wait, and are as many as are open
record TellsOf {K : Type 0} (counts : K → Counts) (links : List (K × K)) (those : List K) : Type 0 where
  waited : AllByRecursion (λ (link : K × K). HasWaited (counts link.0) (counts link.1)) links
  all : length links ≡ length those

link_waited : {B K : Type 0} (counts : K → Counts) (p : Place B K) (s : Open B K) → WaitedAt counts p s → TellsOf counts (link_was p s) (s.given.value ∷ [])
unfolding link_was
link_waited counts (Free desk board) s w = absurd w
link_waited counts (Busy was) s w = record { waited = (w, tt); all = refl }
link_waited counts (Lost board) s w = absurd w
link_waited counts Away s w = absurd w

link_waits : {B K : Type 0} (counts : K → Counts) (p p' : Place B K) → WaitsAt counts p p' → TellsOf counts (link_of p p') (open_at p')
unfolding link_of
link_waits counts p (Free desk board) w = record { waited = tt; all = refl }
link_waits counts p (Busy s) w = link_waited counts p s w
link_waits counts p (Lost board) w = record { waited = tt; all = refl }
link_waits counts p Away w = record { waited = tt; all = refl }

all_both : {X : Type 0} (Q : X → Type 0) (xs ys : List X) → AllByRecursion Q xs → AllByRecursion Q ys → AllByRecursion Q (xs ++ ys)
all_both Q [] ys xs_all ys_all = ys_all
all_both Q (x ∷ xs) ys xs_all ys_all = (xs_all.0, all_both Q xs ys xs_all.1 ys_all)

links_wait : {B K : Type 0} (counts : K → Counts) (places places' : List (Place B K)) → length places' ≡ length places
    → ((k : ℕ) (p p' : Place B K) → slice_get places k ≡ Some p → slice_get places' k ≡ Some p' → WaitsAt counts p p')
    → TellsOf counts (links_of places places') (open_links places')
unfolding links_of
links_wait counts [] [] len w = record { waited = tt; all = refl }
links_wait counts [] (p' ∷ places') len w = absurd (omega (arith, len))
links_wait counts (p ∷ places) [] len w = absurd (omega (arith, len))
links_wait {B} {K} counts (p ∷ places) (p' ∷ places') len w =
    let one = link_waits counts p p' (w 0 p p' refl refl) in
    let more = links_wait counts places places' (omega (arith, len)) (λ k q q' e f. w (suc k) q q' e f) in
    record {
      waited = all_both (λ (link : K × K). HasWaited (counts link.0) (counts link.1)) (link_of p p') (links_of places places') one.waited more.waited;
      all =
          let a = length-append (link_of p p') (links_of places places') in
          let b = length-append (open_at p') (open_links places') in
          omega (arith, a, b, one.all, more.all);
    }

-- the port hasn't settled
pub settled_at_first : {P B K : Type 0} (o : Outside P B K) (first port : P) → first ≡ port → SettlesBehindRounds o first port
settled_at_first o first port same = record { rounds = []; settled = ap o.settles (sym same) }

pub unsettled_on : {P B K : Type 0} (o : Outside P B K) (first port port' : P) → o.settles port' ≡ o.settles port → SettlesOn o first port port'
unsettled_on o first port port' same s = record {
  rounds = s.rounds;
  settled = subst (λ (n : ℕ). SettledBehind o first n s.rounds) (sym same) s.settled;
}

came_to_nothing : {P B K : Type 0} (o : Outside P B K) (call : Call P B) (wanted : ℕ) (port port' : P) (places places' : List (Place B K))
    → IsUnderWay o call 0 wanted port' places' → length places' ≡ length places → AllHaveWaited o port port' places places'
    → CameToNothing o call.port.value (record { before = port; after = port'; links = links_of places places' })
came_to_nothing o call wanted port port' places places' u len h =
    let tells = links_wait o.counts places places' len h.waited in
    record {
      same_given = h.same_given;
      same_back = h.same_back;
      waited = tells.waited;
      given = u.given;
      back = links_back u.over;
      gave = u.gave;
      got_back = u.got_back;
      all = let out = out_now o call 0 wanted port' places' u in omega (arith, out, tells.all);
    }

-- behind a round the port settled if that came to nothing
pub settled_on : {P B K : Type 0} (o : Outside P B K) (call : Call P B) (wanted : ℕ) (port mid port' : P) (places places' : List (Place B K)) (quiet : Bool)
    → IsUnderWay o call 0 wanted mid places' → length places' ≡ length places → o.settles mid ≡ o.settles port
    → (quiet ≡ true → AllHaveWaited o port mid places places')
    → (quiet ≡ true → o.settles port' ≡ counted (o.settles mid)) → (quiet ≡ false → port' ≡ mid)
    → SettlesOn o call.port.value port port'
settled_on o call wanted port mid port' places places' true u len same waited settled busy s = record {
  rounds = record { before = port; after = mid; links = links_of places places' } ∷ s.rounds;
  settled = (settled refl, same, came_to_nothing o call wanted port mid places places' u len (waited refl), s.settled);
}
settled_on o call wanted port mid port' places places' false u len same waited settled busy s =
    unsettled_on o call.port.value port port' (ap o.settles (busy refl) ∙ same) s
