-- What was read of a link's bytes, where more of them are pulled.
use Rattle.std.proofs.Common.{◌≡◌, ◌⊎◌, inl, inr, ℕ, ◌+◌, ◌-◌, ◌*◌, ◌<◌, ◌≤◌, Bool, true, false, if◌then◌else◌, IsTrue, List, [], ◌++◌, length, Option, None, IfSome, refl, sym, ap, subst, ◌∙◌, arith, length-append}
use Rattle.std.proofs.lemmas.Bool.{false≢true}
use Rattle.std.proofs.lemmas.Option.{IfSome_then}
use Rattle.std.specs.Io.KnownBytes.{prepend_known, IsAtEnd}
use Rattle.nav_io.specs.Lines.{line_max, ended_lines}
use Rattle.nav_io.specs.Reading.{Reading}
use Rattle.nav_io.proofs.Cuts.{prepend_known-append, prepend_known-moved}
use Rattle.nav_session.specs.UnderWay.{IsReached, HasRead}
use Rattle.nav_session.proofs.Reached.{untold_stays}
use Rattle.nav_poll.specs.Turns.{Pulls}

-- no byte is lost
pub pulled_kept : (r r' : Reading) (left left' : Option (List ℕ)) → Pulls r r' left left' → prepend_known r'.front left' ≡ prepend_known r.front left
pulled_kept r r' left left' p = prepend_known-moved r.front p.pulled r'.front left left' p.front p.split

pulled_end : (r r' : Reading) (left left' : Option (List ℕ)) → Pulls r r' left left' → IsTrue r'.ended → IsAtEnd left'
pulled_end r r' left left' p ended = elim p.more [
  | inl some ↦ absurd (false≢true (sym some.1 ∙ ended))
  | inr end ↦ end.2
]

pulled_reached : (input : List ℕ) (done : List (List ℕ)) (r r' : Reading) (left left' : Option (List ℕ)) → r.ended ≡ false → Pulls r r' left left'
    → IsReached input done r left → IsReached input done r' left'
pulled_reached input done r r' left left' going p h = record {
  text = h.text;
  there = pulled_kept r r' left left' p ∙ h.there;
  others = h.others;
  bytes = elim h.bytes [
    | inl whole ↦ inl whole
    | inr nothing ↦ absurd (false≢true (sym going ∙ nothing.1))
  ];
}

-- the lines that were read still are
pub pulled_read : (done : List (List ℕ)) (input : Option (List ℕ)) (r r' : Reading) (left left' : Option (List ℕ)) → r.ended ≡ false → Pulls r r' left left'
    → HasRead done input r left → HasRead done input r' left'
pulled_read done input r r' left left' going p h = record {
  no_newline = h.no_newline;
  untold = λ none. untold_stays r.front r'.front left left' (pulled_kept r r' left left' p) (h.untold none);
  told = IfSome_then input h.told (λ bytes reached. pulled_reached bytes done r r' left left' going p reached);
  at_end = pulled_end r r' left left' p;
}

-- where they are lost, no byte is in front that wasn't
pub lost_kept : (front pulled : List ℕ) (left left' : Option (List ℕ)) → left ≡ prepend_known pulled left'
    → prepend_known (front ++ pulled) left' ≡ prepend_known front left
lost_kept front pulled left left' split = prepend_known-moved front pulled (front ++ pulled) left left' refl split

-- less is left to do, since more is in front or the end is met
pub less_left : (r r' : Reading) (left left' : Option (List ℕ)) → r.ended ≡ false → length r.front ≤ line_max → Pulls r r' left left'
    → (8388609 - length r'.front) + (if r'.ended then 0 else 1) < (8388609 - length r.front) + (if r.ended then 0 else 1)
less_left r r' left left' going short p =
    let size : length r'.front ≡ length r.front + length p.pulled = ap length p.front ∙ length-append r.front p.pulled in
    elim p.more [
      | inl some ↦ subst (λ (b : Bool). (8388609 - length r'.front) + (if b then 0 else 1) < (8388609 - length r.front) + (if r.ended then 0 else 1)) (sym some.1)
          (subst (λ (b : Bool). (8388609 - length r'.front) + 1 < (8388609 - length r.front) + (if b then 0 else 1)) (sym going)
          (omega (arith, size, some.0, short)))
      | inr end ↦ subst (λ (b : Bool). (8388609 - length r'.front) + (if b then 0 else 1) < (8388609 - length r.front) + (if r.ended then 0 else 1)) (sym end.0)
          (subst (λ (b : Bool). (8388609 - length r'.front) + 0 < (8388609 - length r.front) + (if b then 0 else 1)) (sym going)
          (omega (arith, size)))
    ]
