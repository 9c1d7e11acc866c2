-- What is pushed of a reply, part by part.
use Rattle.std.proofs.Common.{◌≡◌, ℕ, ◌+◌, ◌-◌, ◌≤◌, List, [], ◌++◌, length, take, drop, Option, refl, sym, ap, ◌∙◌, arith, append_assoc, length-drop}
use Rattle.std.proofs.lemmas.List.{take-append-drop, take_all, drop-drop}
use Rattle.std.specs.Io.KnownBytes.{append_known}
use Rattle.nav_io.proofs.Written.{append_known-nil, append_known-append}
use Rattle.nav_poll.specs.declared.link.Counts.{Counts}
use Rattle.nav_poll.specs.Links.{NoneFell}
use Rattle.nav_poll.specs.Turns.{Pushes}

-- a slice up to the end
take_rest : (i : ℕ) (out : List ℕ) → take (length out - i) (drop i out) ≡ drop i out
take_rest i out = take_all (length out - i) (drop i out) (omega (arith, length-drop i out))

-- nothing is pushed
pub pushes_none : (out : List ℕ) (held : Option (List ℕ)) → Pushes out out held held
pushes_none out held = record { pushed = []; split = refl; holds = sym (append_known-nil held) }

-- n bytes more are
pub pushes_more : (out : List ℕ) (from i n : ℕ) (held now new : Option (List ℕ)) → Pushes (drop from out) (drop i out) held now
    → new ≡ append_known now (take n (take (length out - i) (drop i out))) → Pushes (drop from out) (drop (i + n) out) held new
pushes_more out from i n held now new p took = record {
  pushed = p.pushed ++ take n (drop i out);
  split = p.split ∙ ap (λ (t : List ℕ). p.pushed ++ t) (sym (take-append-drop n (drop i out))
      ∙ ap (λ (t : List ℕ). take n (drop i out) ++ t) (drop-drop n i out))
      ∙ sym (append_assoc p.pushed (take n (drop i out)) (drop (i + n) out));
  holds = took ∙ ap (λ (t : List ℕ). append_known now (take n t)) (take_rest i out)
      ∙ ap (λ (k : Option (List ℕ)). append_known k (take n (drop i out))) p.holds
      ∙ sym (append_known-append held p.pushed (take n (drop i out)));
}

-- No count fell in two calls.
pub none_fell : (a b c : Counts) → NoneFell a b → NoneFell b c → NoneFell a c
none_fell a b c h k = record {
  read_faults = omega (arith, h.read_faults, k.read_faults);
  write_faults = omega (arith, h.write_faults, k.write_faults);
  read_waits = omega (arith, h.read_waits, k.read_waits);
  write_waits = omega (arith, h.write_waits, k.write_waits);
}
