-- The seats of a board before and after the rounds, and what the rounds came to.
use Rattle.std.proofs.Common.{◌≡◌, inl, ℕ, zero, suc, ◌<◌, ◌≤◌, ◌==◌, true, false, List, [], ◌∷◌, ◌++◌, length, take, drop, get_or, slice_get, Some, refl, ap, sym, subst, ◌∙◌, arith, append_assoc, append-nil}
use Rattle.std.proofs.lemmas.List.Concat.{flat_map-append}
use Rattle.nav_session.specs.Desks.{OnDesk}
use Rattle.std.specs.List.Sorted.{IsPermutation}
use Rattle.std.proofs.lemmas.Bool.{eqb-true}
use Rattle.std.proofs.lemmas.Option.{same_Some, slice_get_within}
use Rattle.std.proofs.lemmas.List.{drop_all, take_all}
use Rattle.std.proofs.lemmas.List.Sorted.{IsPermutation-refl}
use Rattle.poll_many.specs.Connections.{Outside}
use Rattle.poll_many.specs.Places.{IsStanding, AllFree, seat_at, log_at, open_at, open_links, board_at, boards_of, is_free, is_busy}
use Rattle.poll_many.specs.Rounds.{IsUnderWay}
use Rattle.poll_many.specs.declared.call.Call.{Call}
use Rattle.poll_many.specs.declared.place.Place.{Place}
use Rattle.poll_many.specs.declared.place.Place.TheVariants.{Free, Busy, Lost, Away}
use Rattle.poll_many.proofs.PlaceLists.{told_nothing, all_last}

-- a seat rests at the place
pub record RestsAt {P B K : Type 0} (o : Outside P B K) (p : Place B K) : Type 0 where
  pub board : B
  pub there : board_at p ≡ board ∷ []
  pub seat : o.seat board ≡ seat_at o p
  pub log : o.log board ≡ log_at o p
  pub none : open_at p ≡ []

pub free_rests : {P B K : Type 0} (o : Outside P B K) (p : Place B K) → is_free p ≡ true → RestsAt o p
free_rests o (Free desk board) e = record { board = board; there = refl; seat = refl; log = refl; none = refl }
free_rests o (Busy s) e = absurd (cc e)
free_rests o (Lost board) e = absurd (cc e)
free_rests o Away e = absurd (cc e)

pub standing_rests : {P B K : Type 0} (o : Outside P B K) (p : Place B K) → IsStanding o p → is_busy p ≡ false → RestsAt o p
standing_rests o (Free desk board) s e = record { board = board; there = refl; seat = refl; log = refl; none = refl }
standing_rests o (Busy s) h e = absurd (cc e)
standing_rests o (Lost board) s e = record { board = board; there = refl; seat = refl; log = refl; none = refl }
standing_rests o Away s e = absurd s

abbrev pub AllRestAt : {P B K : Type 0} → Outside P B K → List (Place B K) → Type 0
AllRestAt {P} {B} {K} o places = (n : ℕ) (p : Place B K) → slice_get places n ≡ Some p → RestsAt o p

pub all_free_rest : {P B K : Type 0} (o : Outside P B K) (places : List (Place B K)) → AllFree places → AllRestAt o places
all_free_rest o [] free n p e = absurd (cc e)
all_free_rest {P} {B} {K} o (q ∷ places) free zero p e = subst (λ (r : Place B K). RestsAt o r) (same_Some q p e) (free_rests o q free.0)
all_free_rest o (q ∷ places) free (suc n) p e = all_free_rest o places free.1 n p e

pub boards_len : {P B K : Type 0} (o : Outside P B K) (places : List (Place B K)) → AllRestAt o places → length (boards_of places) ≡ length places
boards_len o [] rest = refl
boards_len {P} {B} {K} o (q ∷ places) rest =
    let h = rest 0 q refl in
    ap (λ (bs : List B). length (bs ++ boards_of places)) h.there ∙ ap suc (boards_len o places (λ n p e. rest (suc n) p e))

-- the seat that stands there among all seats
pub board_there : {P B K : Type 0} (o : Outside P B K) (places : List (Place B K)) → AllRestAt o places → (n : ℕ) (p : Place B K) (b : B)
    → slice_get places n ≡ Some p → slice_get (boards_of places) n ≡ Some b → (o.seat b ≡ seat_at o p) × (o.log b ≡ log_at o p)
board_there o [] rest n p b e f = absurd (cc e)
board_there {P} {B} {K} o (q ∷ places) rest zero p b e f =
    let h = rest 0 q refl in
    let front : slice_get (h.board ∷ boards_of places) 0 ≡ Some b = subst (λ (bs : List B). slice_get (bs ++ boards_of places) 0 ≡ Some b) h.there f in
    let same : h.board ≡ b = same_Some h.board b front in
    let place : q ≡ p = same_Some q p e in
    (sym (ap o.seat same) ∙ (h.seat ∙ ap (seat_at o) place), sym (ap o.log same) ∙ (h.log ∙ ap (log_at o) place))
board_there {P} {B} {K} o (q ∷ places) rest (suc n) p b e f =
    let h = rest 0 q refl in
    let behind : slice_get (boards_of places) n ≡ Some b = subst (λ (bs : List B). slice_get (bs ++ boards_of places) (suc n) ≡ Some b) h.there f in
    board_there o places (λ m r g. rest (suc m) r g) n p b e behind

pub none_open : {P B K : Type 0} (o : Outside P B K) (places : List (Place B K)) → AllRestAt o places → open_links places ≡ []
none_open o [] rest = refl
none_open {P} {B} {K} o (q ∷ places) rest =
    ap (λ (ls : List K). ls ++ open_links places) (rest 0 q refl).none ∙ none_open o places (λ n p e. rest (suc n) p e)

pub stands_in : {X : Type 0} (xs : List X) (n : ℕ) → n < length xs → (x : X) × (slice_get xs n ≡ Some x)
stands_in [] n less = absurd (omega (arith, less))
stands_in (x ∷ xs) zero less = (x, refl)
stands_in (x ∷ xs) (suc n) less = stands_in xs n (omega (arith, less))

free_stands : {P B K : Type 0} (o : Outside P B K) (p : Place B K) → is_free p ≡ true → IsStanding o p
free_stands o (Free desk board) e = tt
free_stands o (Busy s) e = absurd (cc e)
free_stands o (Lost board) e = tt
free_stands o Away e = absurd (cc e)

free_there : {B K : Type 0} (places : List (Place B K)) → AllFree places → (n : ℕ) (p : Place B K) → slice_get places n ≡ Some p → is_free p ≡ true
free_there [] free n p e = absurd (cc e)
free_there {B} {K} (q ∷ places) free zero p e = subst (λ (r : Place B K). is_free r ≡ true) (same_Some q p e) free.0
free_there (q ∷ places) free (suc n) p e = free_there places free.1 n p e

-- before the first round
pub at_first : {P B K : Type 0} (o : Outside P B K) (call : Call P B) (port : P) (places : List (Place B K))
    → call.port.value ≡ port → boards_of places ≡ call.seats.value.items → AllFree places
    → ((n : ℕ) (seat : B) → slice_get call.seats.value.items n ≡ Some seat → o.seat seat ≡ n)
    → IsUnderWay o call 0 call.most port places
at_first {P} {B} {K} o call port places same seated free names =
    let rest = all_free_rest o places free in
    let there : (n : ℕ) (p : Place B K) → slice_get places n ≡ Some p → (b : B) × (slice_get (boards_of places) n ≡ Some b) =
    λ n p e. stands_in (boards_of places) n (omega (arith, boards_len o places rest, slice_get_within places n p e)) in
    record {
      over = [];
      served = tt;
      got_back = ap o.got_back (sym same) ∙ told_nothing (o.got_back call.port.value);
      given = [];
      gave = ap o.gave (sym same) ∙ told_nothing (o.gave call.port.value);
      all_back = subst (λ (ls : List K). IsPermutation [] ls) (sym (none_open o places rest)) (IsPermutation-refl []);
      so_many = omega arith;
      room = inl refl;
      all_places = sym (boards_len o places rest) ∙ ap length seated;
      standing = λ n p e.
          let b = there n p e in
          let at_seat = subst (λ (bs : List B). slice_get bs n ≡ Some b.0) seated b.1 in
          (free_stands o p (free_there places free n p e), sym (board_there o places rest n p b.0 e b.1).0 ∙ names n b.0 at_seat);
      follow = λ n seat p e f.
          let back = subst (λ (bs : List B). slice_get bs n ≡ Some seat) (sym seated) e in
          sym (board_there o places rest n p seat f back).1;
      of_seats = tt;
      broken = omega arith;
      memory = λ none. tt;
      count = subst (λ (q : P). o.faults call.port.value ≤ o.faults q) same (omega arith);
    }

-- the same of places in another list, of which the seats of the call are the boards
pub first_round : {P B K : Type 0} (o : Outside P B K) (call : Call P B) (port : P) (seats : List B) (places slice : List (Place B K))
    → call.port.value ≡ port → call.seats.value.items ≡ seats → slice ≡ places → boards_of places ≡ seats → AllFree places
    → ((n : ℕ) (seat : B) → slice_get seats n ≡ Some seat → o.seat seat ≡ n)
    → IsUnderWay o call 0 call.most port slice
first_round {P} {B} {K} o call port seats places slice same all is seated free names =
    subst (λ (ps : List (Place B K)). IsUnderWay o call 0 call.most port ps) (sym is)
    (at_first o call port places same (seated ∙ sym all) free (λ n seat e. names n seat (subst (λ (bs : List B). slice_get bs n ≡ Some seat) all e)))

-- a list over all of which another one was written is that one
pub over_all : {X : Type 0} (n : ℕ) (slice new old : List X) → length new ≡ length slice → slice ≡ old → length slice ≡ n
    → take n (new ++ drop (length new) old) ≡ new
over_all {X} n slice new old long same count =
    ap (λ (ys : List X). take n (new ++ ys)) (drop_all (length new) old (omega (arith, long, ap length same)))
    ∙ (ap (λ (ys : List X). take n ys) (append-nil new) ∙ take_all n new (omega (arith, long, count)))

pub nothing_left : {X : Type 0} (rest : List X) (n : ℕ) → length rest ≡ n → (n == 0) ≡ true → rest ≡ []
nothing_left [] n long e = refl
nothing_left (x ∷ rest) n long e = absurd (let zero_is = eqb-true n 0 e in omega (arith, long, zero_is))

-- where no place is left, all seats are back
pub all_put : {B K : Type 0} (boards whole : List B) (rest : List (Place B K)) → rest ≡ [] → boards ++ boards_of rest ≡ whole → boards ≡ whole
all_put {B} {K} boards whole rest none e =
    sym (append-nil boards) ∙ subst (λ (places : List (Place B K)). boards ++ boards_of places ≡ whole) none e

front_is : {X : Type 0} (xs rest : List X) (x : X) → 0 < length xs → x ≡ get_or xs 0 x → rest ≡ drop 1 xs → xs ≡ x ∷ rest
front_is [] rest x some first behind = absurd (omega (arith, some))
front_is (y ∷ xs) rest x some first behind = ap (λ z. z ∷ xs) (sym first) ∙ ap (λ zs. x ∷ zs) (sym behind)

-- a seat more has a place
pub seated_more : {B K : Type 0} (places : List (Place B K)) (desk : OnDesk) (board : B) (seats rest whole : List B) → 0 < length seats → board ≡ get_or seats 0 board → rest ≡ drop 1 seats
    → boards_of places ++ seats ≡ whole → boards_of (places ++ Free desk board ∷ []) ++ rest ≡ whole
seated_more {B} {K} places desk board seats rest whole some first behind e =
    ap (λ (bs : List B). bs ++ rest) (flat_map-append board_at places (Free desk board ∷ []))
    ∙ (append_assoc (boards_of places) (board ∷ []) rest ∙ (ap (λ (bs : List B). boards_of places ++ bs) (sym (front_is seats rest board some first behind)) ∙ e))

pub free_more : {B K : Type 0} (places : List (Place B K)) (desk : OnDesk) (board : B) → AllFree places → AllFree (places ++ Free desk board ∷ [])
free_more {B} {K} places desk board free = all_last (λ (p : Place B K). is_free p ≡ true) places (Free desk board) free refl
