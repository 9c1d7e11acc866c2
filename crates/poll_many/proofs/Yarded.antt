-- What follows of a yard from how the links of its one port were served.
use Rattle.std.proofs.Common.{◌≡◌, ◌⊎◌, inl, inr, ℕ, ◌<◌, ◌≤◌, IsTrue, List, [], ◌∷◌, refl, ap, sym, subst, ◌∙◌, arith}
use Rattle.std.proofs.lemmas.Option.{same_Some, slice_get_within}
use Rattle.nav_io.specs.Faults.{HasRisen}
use Rattle.nav_io.specs.Told.{append_told}
use Rattle.shared_board.specs.Seats.{Holder, AreNewcomers, AreSeats, newcomer}
use Rattle.poll_many.specs.Connections.{Outside, ends_port}
use Rattle.poll_many.specs.Ports.{ServesPort}
use Rattle.poll_many.specs.Settling.{SettlesBehindRounds}
use Rattle.poll_many.specs.Yards.{Yard, ServesYard}

-- seats that have seen nothing are all seats of their board
pub newcomers_are_seats : (count : ℕ) (seats : List Holder) → AreNewcomers count seats → AreSeats count seats
newcomers_are_seats count seats are = record {
  all = are.all;
  names = λ n holder e.
      let within : n < count = omega (arith, slice_get_within seats n holder e, are.all) in
      ap (λ (h : Holder). h.seat) (same_Some holder (newcomer n) (sym e ∙ are.each n within));
}

-- a port was given out, its links were served, and it went back
pub served_one : {P K : Type 0} (o : Outside P Holder K) (count most : ℕ) (yard yard' : Yard P) (port port' : P) (seats : List Holder) (status : ℕ)
    → yard'.gave ≡ append_told yard.gave (port ∷ []) → yard'.got_back ≡ append_told yard.got_back (port' ∷ [])
    → AreNewcomers count seats → ServesPort o most port port' seats status → SettlesBehindRounds o port port' → yard.faults ≤ yard'.faults → ServesYard o count most yard yard' status
served_one o count most yard yard' port port' seats status gave back new served settled le = record {
  served = inr (record { port = port; port' = port'; gave = gave; got_back = back; seats = seats; new = new; served = served; settled = settled });
  ends = served.ends;
  count_stays = le;
}

ends_so : (A : Type 0) (status : ℕ) → ((status ≡ 8) × A) ⊎ (status ≡ 5) → IsTrue (ends_port status)
ends_so A status (inl e) = subst (λ (s : ℕ). IsTrue (ends_port s)) (sym e.0) cc
ends_so A status (inr e) = subst (λ (s : ℕ). IsTrue (ends_port s)) (sym e) cc

-- the yard gave out none, since it failed or memory was refused
pub opened_none : {P K : Type 0} (o : Outside P Holder K) (count most : ℕ) (yard yard' : Yard P) (status : ℕ)
    → yard'.gave ≡ yard.gave → yard'.got_back ≡ yard.got_back → yard.faults ≤ yard'.faults
    → ((status ≡ 8) × HasRisen yard.faults yard'.faults) ⊎ (status ≡ 5) → ServesYard o count most yard yard' status
opened_none o count most yard yard' status gave back le why = record {
  served = inl (record { same_given = gave; same_back = back; why = why });
  ends = ends_so (HasRisen yard.faults yard'.faults) status why;
  count_stays = le;
}

-- a yard that is as it was, where memory was refused
pub opened_nothing : {P K : Type 0} (o : Outside P Holder K) (count most : ℕ) (yard : Yard P) → ServesYard o count most yard yard 5
opened_nothing o count most yard = opened_none o count most yard yard 5 refl refl (omega arith) (inr refl)
