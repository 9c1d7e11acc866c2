-- How the sessions end: all connections were served, no seat is left, or the port failed.
use Rattle.std.proofs.Common.{◌≡◌, ◌⊎◌, inl, inr, ℕ, ◌<◌, Bool, true, false, List, length, if◌then◌else◌, refl, sym, subst, arith}
use Rattle.std.specs.List.{list_any}
use Rattle.nav_io.specs.Faults.{HasRisen}
use Rattle.poll_many.specs.Connections.{Outside}
use Rattle.poll_many.specs.Places.{IsStanding, is_lost, is_free, is_busy}
use Rattle.poll_many.specs.Rounds.{IsUnderWay, AreOver, AreFinished, NoneBusy, NoneFree, NoneLost}
use Rattle.poll_many.specs.declared.call.Call.{Call}
use Rattle.poll_many.specs.declared.place.Place.{Place}
use Rattle.poll_many.specs.declared.place.Place.TheVariants.{Free, Busy, Lost, Away}
use Rattle.poll_many.proofs.PlaceLists.{none_passes}
use Rattle.poll_many.proofs.PortServed.{stands_in}

nothing_there : {P B K : Type 0} (o : Outside P B K) (p : Place B K) → IsStanding o p → is_free p ≡ false → is_busy p ≡ false → is_lost p ≡ false → ⊥
nothing_there o (Free desk board) s free busy lost = cc free
nothing_there o (Busy h) s free busy lost = cc busy
nothing_there o (Lost board) s free busy lost = cc lost
nothing_there o Away s free busy lost = s

-- where no seat is lost and none is left, no link is wanted
none_wanted : {P B K : Type 0} (o : Outside P B K) (call : Call P B) (wanted : ℕ) (port : P) (places : List (Place B K)) → 0 < length places
    → IsUnderWay o call 0 wanted port places → NoneBusy places → NoneLost places → (wanted ≡ 0) ⊎ NoneFree places → wanted ≡ 0
none_wanted o call wanted port places some u busy lost (inl none) = none
none_wanted o call wanted port places some u busy lost (inr free) =
    let p = stands_in places 0 some in
    absurd (nothing_there o p.0 (u.standing 0 p.0 p.1).0 (free 0 p.0 p.1) (busy 0 p.0 p.1) (lost 0 p.0 p.1))

-- the rounds came to their end
pub finished_over : {P B K : Type 0} (o : Outside P B K) (call : Call P B) (wanted : ℕ) (port : P) (places : List (Place B K)) (lost : Bool) (status : ℕ)
    → 0 < length places → IsUnderWay o call 0 wanted port places → AreOver wanted places → list_any is_lost places ≡ lost
    → status ≡ (if lost then 5 else 0) → AreFinished o call port places status
finished_over o call wanted port places true status some u over is told = subst (AreFinished o call port places) (sym told) (record {
  cut = 0;
  wanted = wanted;
  under_way = u;
  few = omega arith;
  rest = over.none_busy;
  ends = cc;
  all = λ e. absurd (omega (arith, e));
  memory = λ not. absurd (not refl);
  failed = λ e. absurd (omega (arith, e));
})
finished_over o call wanted port places false status some u over is told = subst (AreFinished o call port places) (sym told) (record {
  cut = 0;
  wanted = wanted;
  under_way = u;
  few = omega arith;
  rest = over.none_busy;
  ends = cc;
  all = λ e. (none_wanted o call wanted port places some u over.none_busy (none_passes is_lost places is) over.none_wanted, refl);
  memory = λ not. none_passes is_lost places is;
  failed = λ e. absurd (omega (arith, e));
})

-- the port failed, and the open sessions were broken off
pub finished_failed : {P B K : Type 0} (o : Outside P B K) (call : Call P B) (wanted : ℕ) (port : P) (places : List (Place B K)) (lost : Bool) (status : ℕ)
    → IsUnderWay o call (length places) wanted port places → NoneBusy places → HasRisen (o.faults call.port.value) (o.faults port)
    → list_any is_lost places ≡ lost → status ≡ (if lost then 5 else 8) → AreFinished o call port places status
finished_failed o call wanted port places true status u rest risen is told = subst (AreFinished o call port places) (sym told) (record {
  cut = length places;
  wanted = wanted;
  under_way = u;
  few = omega arith;
  rest = rest;
  ends = cc;
  all = λ e. absurd (omega (arith, e));
  memory = λ not. absurd (not refl);
  failed = λ e. risen;
})
finished_failed o call wanted port places false status u rest risen is told = subst (AreFinished o call port places) (sym told) (record {
  cut = length places;
  wanted = wanted;
  under_way = u;
  few = omega arith;
  rest = rest;
  ends = cc;
  all = λ e. absurd (omega (arith, e));
  memory = λ not. none_passes is_lost places is;
  failed = λ e. risen;
})
