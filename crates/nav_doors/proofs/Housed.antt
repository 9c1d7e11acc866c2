-- What follows of all doors of a house from how they were served.
use Rattle.std.proofs.Common.{◌≡◌, ◌≢◌, ◌⊎◌, inl, inr, ℕ, zero, suc, ◌<◌, ◌≤◌, ◌==◌, ◌||◌, Bool, true, false, List, [], ◌∷◌, length, slice_get, Option, None, Some, IsTrue, refl, ap, sym, subst, ◌∙◌, arith, append-nil}
use Rattle.std.specs.List.{list_any}
use Rattle.std.proofs.lemmas.Bool.{eqb-true}
use Rattle.std.proofs.lemmas.Option.{slice_get_within}
use Rattle.nav_io.specs.Faults.{HasRisen}
use Rattle.nav_io.specs.declared.house.HouseFault.{HouseFault}
use Rattle.nav_io.specs.declared.house.HouseFault.TheVariants as fault
use Rattle.nav_io.specs.Told.{append_told}
use Rattle.shared_board.specs.Seats.{Holder, AreNewcomers, AreSeats, newcomer}
use Rattle.nav_doors.specs.Connections.{Outside, ends_doors}
use Rattle.nav_doors.specs.Doors.{ServesDoors, ServesTied, IsRefused, worst}
use Rattle.nav_doors.specs.Houses.{House, OneFailed, ServesOneBoard, ServesHouse}

same_some : {X : Type 0} (x y : X) → Some x ≡ Some y → x ≡ y
same_some x y e = cc e

-- seats that have seen nothing are all seats of their board
pub newcomers_are_seats : (count : ℕ) (seats : List Holder) → AreNewcomers count seats → AreSeats count seats
newcomers_are_seats count seats are = record {
  all = are.all;
  names = λ n holder e.
      let within : n < count = omega (arith, slice_get_within seats n holder e, are.all) in
      ap (λ (h : Holder). h.seat) (same_some holder (newcomer n) (sym e ∙ are.each n within));
}

-- the place of a status that some door's loop ended with
found_at : (status s : ℕ) (told : List ℕ) (test : Bool) → (s == status) ≡ test → (test || list_any (λ (t : ℕ). t == status) told) ≡ true
    → (list_any (λ (t : ℕ). t == status) told ≡ true → (n : ℕ) × (slice_get told n ≡ Some status))
    → (n : ℕ) × (slice_get (s ∷ told) n ≡ Some status)
found_at status s told true e h rest = (0, ap Some (eqb-true s status e))
found_at status s told false e h rest = let r = rest h in (suc r.0, r.1)

pub place_of : (status : ℕ) (told : List ℕ) → list_any (λ (t : ℕ). t == status) told ≡ true → (n : ℕ) × (slice_get told n ≡ Some status)
place_of status [] h = absurd (cc h)
place_of status (s ∷ told) h = found_at status s told (s == status) refl h (place_of status told)

eight : (refused failed : Bool) → worst refused failed ≡ 8 → failed ≡ true
eight true failed e = absurd (omega (arith, e))
eight false true e = refl
eight false false e = absurd (omega (arith, e))

ends_worst : (refused failed : Bool) → IsTrue (ends_doors (worst refused failed))
ends_worst true failed = cc
ends_worst false true = cc
ends_worst false false = cc

stands_at : {X : Type 0} (xs : List X) (n : ℕ) → n < length xs → (x : X) × (slice_get xs n ≡ Some x)
stands_at [] n lt = absurd (omega (arith, lt))
stands_at (x ∷ xs) zero lt = (x, refl)
stands_at (x ∷ xs) (suc n) lt = stands_at xs n (omega (arith, lt))

-- where all loops ended with 8, one door failed
failed_among : {D S K : Type 0} (o : Outside D S K) (most : ℕ) (doors doors' : List D) (seats seats' : List Holder) (looped : ℕ)
    → length seats ≡ length doors
    → ServesDoors o (λ (h : Holder). h.seat) (λ (h : Holder). h.log) most doors doors' seats seats' looped → looped ≡ 8 → OneFailed o doors doors'
failed_among o most doors doors' seats seats' looped long s e =
    let p = place_of 8 s.told (eight (list_any (λ (t : ℕ). t == 5) s.told) (list_any (λ (t : ℕ). t == 8) s.told) (sym s.status ∙ e)) in
    let within : p.0 < length s.told = slice_get_within s.told p.0 8 p.1 in
    let d = stands_at doors p.0 (omega (arith, within, s.all_told)) in
    let d' = stands_at doors' p.0 (omega (arith, within, s.all_told, s.all_doors)) in
    let h = stands_at seats p.0 (omega (arith, within, s.all_told, long)) in
    let h' = stands_at seats' p.0 (omega (arith, within, s.all_told, s.all_seats, long)) in
    record {
      place = p.0;
      door = d.0;
      door' = d'.0;
      was = d.1;
      is = d'.1;
      failed = (s.each p.0 d.0 d'.0 h.0 h'.0 8 d.1 d'.1 h.1 h'.1 p.1).served.failed refl;
    }

failed_in : {D S K : Type 0} (o : Outside D S K) (count most : ℕ) (doors doors' : List D) (seats seats' : List Holder) (status : ℕ)
    → length doors ≡ count → AreNewcomers count seats → status ≡ 8
    → ServesTied o most doors doors' seats seats' status ⊎ IsRefused doors doors' seats seats' status → OneFailed o doors doors'
failed_in o count most doors doors' seats seats' status all new e (inl t) =
    failed_among o most doors doors' seats t.ended t.looped (new.all ∙ sym all) t.served (sym (t.same_status (λ five. omega (arith, five, e))) ∙ e)
failed_in o count most doors doors' seats seats' status all new e (inr r) = absurd (omega (arith, r.told, e))

-- the same of the whole, where a board's seats were served
pub board_failed : {D S K : Type 0} (o : Outside D S K) (count most : ℕ) (doors doors' : List D) (status : ℕ)
    → ServesOneBoard o count most doors doors' status → status ≡ 8 → OneFailed o doors doors'
board_failed o count most doors doors' status b e = failed_in o count most doors doors' b.seats b.seats' status b.all b.new e b.served

ends_with : (status looped : ℕ) (test : Bool) → (status == 5) ≡ test → IsTrue (ends_doors looped) → (status ≢ 5 → status ≡ looped) → IsTrue (ends_doors status)
ends_with status looped true e h same = subst (λ (s : ℕ). IsTrue (ends_doors s)) (sym (eqb-true status 5 e)) cc
ends_with status looped false e h same =
    subst (λ (s : ℕ). IsTrue (ends_doors s)) (sym (same (λ five. cc (sym e ∙ ap (λ (s : ℕ). s == 5) five)))) h

pub board_ends : {D S K : Type 0} (o : Outside D S K) (most : ℕ) (doors doors' : List D) (seats seats' : List Holder) (status : ℕ)
    → ServesTied o most doors doors' seats seats' status ⊎ IsRefused doors doors' seats seats' status → IsTrue (ends_doors status)
board_ends o most doors doors' seats seats' status (inl t) =
    ends_with status t.looped (status == 5) refl
    (subst (λ (s : ℕ). IsTrue (ends_doors s)) (sym t.served.status)
    (ends_worst (list_any (λ (s : ℕ). s == 5) t.served.told) (list_any (λ (s : ℕ). s == 8) t.served.told)))
    t.same_status
board_ends o most doors doors' seats seats' status (inr r) = subst (λ (s : ℕ). IsTrue (ends_doors s)) (sym r.told) cc

-- as many doors are there as before
pub as_many : {D S K : Type 0} (o : Outside D S K) (most : ℕ) (doors doors' : List D) (seats seats' : List Holder) (status : ℕ)
    → ServesTied o most doors doors' seats seats' status ⊎ IsRefused doors doors' seats seats' status → length doors' ≡ length doors
as_many o most doors doors' seats seats' status (inl t) = t.served.all_doors
as_many {D} o most doors doors' seats seats' status (inr r) = ap (λ (ds : List D). length ds) r.same_doors

-- doors were given out, served for the seats of one board, and went back
pub served_house : {D S K : Type 0} (o : Outside D S K) (count most : ℕ) (house house' : House D) (doors doors' : List D) (status : ℕ)
    → house'.gave ≡ append_told house.gave doors → house'.got_back ≡ append_told house.got_back doors'
    → ServesOneBoard o count most doors doors' status → house.faults ≤ house'.faults → ServesHouse o count most house house' status
served_house o count most house house' doors doors' status gave back b le = record {
  doors = doors;
  doors' = doors';
  gave = gave;
  got_back = back;
  served = inr b;
  ends = board_ends o most doors doors' b.seats b.seats' status b.served;
  failed = λ e. inr (board_failed o count most doors doors' status b e);
  count_stays = le;
}

told_nothing : {X : Type 0} (told : Option (List X)) → told ≡ append_told told []
told_nothing None = refl
told_nothing (Some xs) = ap Some (sym (append-nil xs))

ends_so : (A : Type 0) (status : ℕ) → ((status ≡ 8) × A) ⊎ (status ≡ 5) → IsTrue (ends_doors status)
ends_so A status (inl e) = subst (λ (s : ℕ). IsTrue (ends_doors s)) (sym e.0) cc
ends_so A status (inr e) = subst (λ (s : ℕ). IsTrue (ends_doors s)) (sym e) cc

fails : (A : Type 0) (status : ℕ) → status ≡ 8 → ((status ≡ 8) × A) ⊎ (status ≡ 5) → A
fails A status e (inl both) = both.1
fails A status e (inr five) = absurd (omega (arith, e, five))

-- why there is no door, by the fault that the house told and the status of that
pub none_for : (A : Type 0) (told : HouseFault) (status : ℕ) → (told ≡ fault.Failed → status ≡ 8) → (told ≡ fault.NoMemory → status ≡ 5)
    → (told ≡ fault.Failed → A) → ((status ≡ 8) × A) ⊎ (status ≡ 5)
none_for A fault.Failed status eight five cause = inl (eight refl, cause refl)
none_for A fault.NoMemory status eight five cause = inr (five refl)

-- the house gave out none, since it failed or memory was refused
pub opened_none : {D S K : Type 0} (o : Outside D S K) (count most : ℕ) (house house' : House D) (status : ℕ)
    → house'.gave ≡ house.gave → house'.got_back ≡ house.got_back → house.faults ≤ house'.faults
    → ((status ≡ 8) × HasRisen house.faults house'.faults) ⊎ (status ≡ 5) → ServesHouse o count most house house' status
opened_none {D} {S} {K} o count most house house' status gave back le why = record {
  doors = [];
  doors' = [];
  gave = gave ∙ told_nothing house.gave;
  got_back = back ∙ told_nothing house.got_back;
  served = inl (record { none = refl; none_back = refl; why = why });
  ends = ends_so (HasRisen house.faults house'.faults) status why;
  failed = λ e. inl (fails (HasRisen house.faults house'.faults) status e why);
  count_stays = le;
}

-- a house that is as it was, where memory was refused
pub opened_nothing : {D S K : Type 0} (o : Outside D S K) (count most : ℕ) (house : House D) → ServesHouse o count most house house 5
opened_nothing o count most house = opened_none o count most house house 5 refl refl (omega arith) (inr refl)
