-- What is read of lists of places, and what follows for their doors and seats.
use Rattle.std.proofs.Common.{◌≡◌, ℕ, zero, suc, ◌<◌, ◌==◌, ◌||◌, List, [], ◌∷◌, ◌++◌, ◌≤◌, length, map, take, drop, append-nil, slice_get, slice_index_or, None, Some, Bool, refl, ap, sym, subst, ◌∙◌, arith, inl}
use Rattle.std.specs.Prelude.{Result, Ok, Err, OnOk, OnErr, ◌⊎◌}
use Rattle.std.specs.List.{list_any}
use Rattle.version_tree.specs.declared.entry.Entry.{Entry}
use Rattle.shared_board.specs.Seats.{Holder, AreSeats, HaveLearnt, IsLogOfAll, last_log}
use Rattle.nav_doors.specs.declared.place.Place.{Place}
use Rattle.nav_session.specs.Desks.{OnDesk, share}
use Rattle.nav_session.specs.Serving.{standing}
use Rattle.nav_doors.specs.Connections.{Outside, ServesDoor}
use Rattle.nav_doors.specs.Inside.{ServesPlace, doors_of, seats_of, statuses_of}
use Rattle.nav_doors.specs.Doors.{ServesDoors, ServesFromEmptyDesk, ServesTied, IsRefused, status_of_all, worst}

-- whether some place has the status
pub any_status : {D B : Type 0} (status : ℕ) (places : List (Place D B)) → list_any (λ (place : Place D B). place.status == status) places ≡ list_any (λ (told : ℕ). told == status) (statuses_of places)
any_status status [] = refl
any_status {D} {B} status (place ∷ places) = ap (λ (rest : Bool). (place.status == status) || rest) (any_status {D = D} {B = B} status places)

-- the status of places
pub worst_of : {D B : Type 0} (places : List (Place D B))
    → worst (list_any (λ (place : Place D B). place.status == 5) places) (list_any (λ (place : Place D B). place.status == 8) places) ≡ status_of_all (statuses_of places)
worst_of {D} {B} places =
    ap (λ (refused : Bool). worst refused (list_any (λ (place : Place D B). place.status == 8) places)) (any_status 5 places)
    ∙ ap (λ (failed : Bool). worst (list_any (λ (told : ℕ). told == 5) (statuses_of places)) failed) (any_status 8 places)

drop_none : {X : Type 0} (n : ℕ) (ys : List X) → length ys ≤ n → drop n ys ≡ []
drop_none zero [] le = refl
drop_none (suc n) [] le = refl
drop_none zero (y ∷ ys) le = absurd (omega (arith, le))
drop_none (suc n) (y ∷ ys) le = drop_none n ys (omega (arith, le))

take_all : {X : Type 0} (xs : List X) → take (length xs) xs ≡ xs
take_all [] = refl
take_all (x ∷ xs) = ap (λ w. x ∷ w) (take_all xs)

-- what a slice of a whole list leaves there
pub written : {X : Type 0} (n : ℕ) (slice new items : List X) → length new ≡ length slice → slice ≡ items → length slice ≡ n
    → take n (new ++ drop (length new) items) ≡ new
written {X} n slice new items long is count =
    let enough : length items ≤ length new = omega (arith, long, ap length is) in
    ap (λ (w : List X). take n (new ++ w)) (drop_none (length new) items enough)
    ∙ (ap (λ (w : List X). take n w) (append-nil new) ∙ (ap (λ (k : ℕ). take k new) (sym (long ∙ count)) ∙ take_all new))

length_of : {A B : Type 0} (f : A → B) (xs : List A) → length (map f xs) ≡ length xs
length_of f [] = refl
length_of f (x ∷ xs) = ap suc (length_of f xs)

-- an image that stands at a place is that of what stands there
image_at : {A B : Type 0} (f : A → B) (xs : List A) (n : ℕ) (y : B) → slice_get (map f xs) n ≡ Some y → (d : A) → f (slice_index_or xs n d) ≡ y
image_at f [] n y e d = absurd (cc e)
image_at f (x ∷ xs) zero y e d = cc e
image_at f (x ∷ xs) (suc n) y e d = image_at f xs n y e d

some_at : {A B : Type 0} (f : A → B) (xs : List A) (n : ℕ) (y : B) → slice_get (map f xs) n ≡ Some y → A × (n < length xs)
some_at f [] n y e = absurd (cc e)
some_at f (x ∷ xs) zero y e = (x, omega arith)
some_at f (x ∷ xs) (suc n) y e = let r = some_at f xs n y e in (r.0, omega (arith, r.1))

-- what came of a place, as its parts are named
moved : {D S K B : Type 0} (o : Outside D S K) (name : B → ℕ) (log : B → List Entry) (keeps most : ℕ) (p q : Place D B) (door door' : D) (seat seat' : B) (status : ℕ)
    → ServesPlace o name log keeps most p q → p.door ≡ door → q.door ≡ door' → p.seat ≡ seat → q.seat ≡ seat' → q.status ≡ status
    → ServesFromEmptyDesk o (name seat) keeps most door door' (log seat) (log seat') status
moved {D} {S} {K} {B} o name log keeps most p q door door' seat seat' status h e1 e2 e3 e4 e5 =
    subst (λ (w : ℕ). ServesFromEmptyDesk o (name seat) keeps most door door' (log seat) (log seat') w) e5
    (subst (λ (w : B). ServesFromEmptyDesk o (name seat) keeps most door door' (log seat) (log w) q.status) e4
    (subst (λ (w : B). ServesFromEmptyDesk o (name w) keeps most door door' (log w) (log q.seat) q.status) e3
    (subst (λ (w : D). ServesFromEmptyDesk o (name p.seat) keeps most door w (log p.seat) (log q.seat) q.status) e2
    (subst (λ (w : D). ServesFromEmptyDesk o (name p.seat) keeps most w q.door (log p.seat) (log q.seat) q.status) e1 h.door))))

-- what came of all places
pub served_places : {D S K B : Type 0} (o : Outside D S K) (name : B → ℕ) (log : B → List Entry) (most : ℕ) (old new : List (Place D B))
    → length new ≡ length old
    → ((i : ℕ) (d : Place D B) → i < length old → ServesPlace o name log (share (length old)) most (slice_index_or old i d) (slice_index_or new i d))
    → ServesDoors o name log most (doors_of old) (doors_of new) (seats_of old) (seats_of new) (status_of_all (statuses_of new))
served_places {D} {S} {K} {B} o name log most old new long each = record {
  told = statuses_of new;
  all_told = length_of (λ (p : Place D B). p.status) new ∙ (long ∙ sym (length_of (λ (p : Place D B). p.door) old));
  all_doors = length_of (λ (p : Place D B). p.door) new ∙ (long ∙ sym (length_of (λ (p : Place D B). p.door) old));
  all_seats = length_of (λ (p : Place D B). p.seat) new ∙ (long ∙ sym (length_of (λ (p : Place D B). p.seat) old));
  each = λ n door door' seat seat' status e1 e2 e3 e4 e5.
      let r = some_at (λ (p : Place D B). p.door) old n door e1 in
      subst (λ (k : ℕ). ServesFromEmptyDesk o (name seat) (share k) most door door' (log seat) (log seat') status)
      (sym (length_of (λ (p : Place D B). p.door) old))
      (moved o name log (share (length old)) most (slice_index_or old n r.0) (slice_index_or new n r.0) door door' seat seat' status (each n r.0 r.1)
      (image_at (λ (p : Place D B). p.door) old n door e1 r.0) (image_at (λ (p : Place D B). p.door) new n door' e2 r.0)
      (image_at (λ (p : Place D B). p.seat) old n seat e3 r.0) (image_at (λ (p : Place D B). p.seat) new n seat' e4 r.0)
      (image_at (λ (p : Place D B). p.status) new n status e5 r.0));
  names = λ n seat seat' e3 e4.
      let r = some_at (λ (p : Place D B). p.seat) old n seat e3 in
      let h = each n r.0 r.1 in
      sym (ap name (image_at (λ (p : Place D B). p.seat) new n seat' e4 r.0)) ∙ (h.seat ∙ ap name (image_at (λ (p : Place D B). p.seat) old n seat e3 r.0));
  status = refl;
}

-- the same, where the lists have names
pub served_all : {D S K B : Type 0} (o : Outside D S K) (name : B → ℕ) (log : B → List Entry) (most : ℕ) (old new : List (Place D B))
    (doors doors' : List D) (seats seats' : List B) (status : ℕ)
    → length new ≡ length old
    → ((i : ℕ) (d : Place D B) → i < length old → ServesPlace o name log (share (length old)) most (slice_index_or old i d) (slice_index_or new i d))
    → doors_of old ≡ doors → seats_of old ≡ seats → doors' ≡ doors_of new → seats' ≡ seats_of new → status ≡ status_of_all (statuses_of new)
    → ServesDoors o name log most doors doors' seats seats' status
served_all {D} {S} {K} {B} o name log most old new doors doors' seats seats' status long each e1 e2 e3 e4 e5 =
    subst (λ (w : ℕ). ServesDoors o name log most doors doors' seats seats' w) (sym e5)
    (subst (λ (w : List B). ServesDoors o name log most doors doors' seats w (status_of_all (statuses_of new))) (sym e4)
    (subst (λ (w : List D). ServesDoors o name log most doors w seats (seats_of new) (status_of_all (statuses_of new))) (sym e3)
    (subst (λ (w : List B). ServesDoors o name log most doors (doors_of new) w (seats_of new) (status_of_all (statuses_of new))) e2
    (subst (λ (w : List D). ServesDoors o name log most w (doors_of new) (seats_of old) (seats_of new) (status_of_all (statuses_of new))) e1
    (served_places o name log most old new long each)))))

-- what stands in a list stands opposite to something in one as long
opposite : {A B : Type 0} (xs : List A) (ys : List B) (n : ℕ) (y : B) → length ys ≡ length xs → slice_get ys n ≡ Some y → (x : A) × (slice_get xs n ≡ Some x)
opposite [] [] n y long e = absurd (cc e)
opposite [] (z ∷ ys) n y long e = absurd (omega (arith, long))
opposite (x ∷ xs) [] n y long e = absurd (cc e)
opposite (x ∷ xs) (z ∷ ys) zero y long e = (x, refl)
opposite (x ∷ xs) (z ∷ ys) (suc n) y long e = opposite xs ys n y (omega (arith, long)) e

-- the seats that were served are all seats still
pub seats_stay : {D S K : Type 0} (o : Outside D S K) (count most : ℕ) (doors doors' : List D) (seats seats' : List Holder) (status : ℕ)
    → AreSeats count seats → ServesDoors o (λ (h : Holder). h.seat) (λ (h : Holder). h.log) most doors doors' seats seats' status → AreSeats count seats'
seats_stay o count most doors doors' seats seats' status are s = record {
  all = s.all_seats ∙ are.all;
  names = λ n holder e. let r = opposite seats seats' n holder s.all_seats e in s.names n r.0 holder r.1 e ∙ are.names n r.0 r.1;
}

-- a door's loop on a desk that was made for it
pub from_empty : {D S K : Type 0} (o : Outside D S K) (seat keeps most : ℕ) (door door' : D) (log log' : List Entry) (desk desk' : OnDesk) (status : ℕ)
    → desk ≡ record { store = []; user = None; view = None; keeps = keeps }
    → ServesDoor o seat most door door' (standing log desk) (standing log' desk') status
    → ServesFromEmptyDesk o seat keeps most door door' log log' status
from_empty o seat keeps most door door' log log' desk desk' status empty served = record {
  after = standing log' desk';
  served = subst (λ (d : OnDesk). ServesDoor o seat most door door' (standing log d) (standing log' desk') status) empty served;
  seen = refl;
}

-- the doors were served, and then the seats were brought together, or memory for that was refused
pub serves_tied : {D S K T E : Type 0} (o : Outside D S K) (most : ℕ) (doors doors' : List D) (seats ended seats' : List Holder) (looped status : ℕ) (tied : Result T E)
    → ServesDoors o (λ (h : Holder). h.seat) (λ (h : Holder). h.log) most doors doors' seats ended looped
    → HaveLearnt ended seats' → OnOk tied (IsLogOfAll ended (last_log seats')) → OnOk tied (status ≡ looped) → OnErr tied (status ≡ 5)
    → ServesTied o most doors doors' seats seats' status ⊎ IsRefused doors doors' seats seats' status
serves_tied o most doors doors' seats ended seats' looped status (Ok done) served learnt log same five = inl (record {
  ended = ended;
  looped = looped;
  served = served;
  learnt = learnt;
  no_memory = λ e. same ∙ e;
  same_status = λ other. same;
  one_log = λ other. log;
})
serves_tied o most doors doors' seats ended seats' looped status (Err fault) served learnt log same five = inl (record {
  ended = ended;
  looped = looped;
  served = served;
  learnt = learnt;
  no_memory = λ e. five;
  same_status = λ other. absurd (other five);
  one_log = λ other. absurd (other five);
})
