-- A text that is written piece by piece.
use Rattle.std.proofs.Common.{◌≡◌, ℕ, List, [], ◌++◌, length, take, drop, refl, sym, ap, ◌-◌, arith, length-drop, ◌∙◌, append_assoc, Option, Some, None}
use Rattle.std.proofs.lemmas.List.{append-nil, take-append-drop, take_all}
use Rattle.std.specs.Io.KnownBytes.{append_known}

-- of the text this is left, and the sink holds what it held, and then what comes before it
pub record IsPartWritten (old : Option (List ℕ)) (text : List ℕ) (now : Option (List ℕ)) (left : List ℕ) : Type 0 where
  pub done : List ℕ
  pub whole : text ≡ done ++ left
  pub holds : now ≡ append_known old done

pub append_known-nil : (known : Option (List ℕ)) → append_known known [] ≡ known
append_known-nil None = refl
append_known-nil (Some xs) = ap Some (append-nil xs)

pub append_known-append : (known : Option (List ℕ)) (xs ys : List ℕ) → append_known known (xs ++ ys) ≡ append_known (append_known known xs) ys
append_known-append None xs ys = refl
append_known-append (Some bs) xs ys = ap Some (sym (append_assoc bs xs ys))

pub IsPartWritten-begins : (old : Option (List ℕ)) (text : List ℕ) → IsPartWritten old text old text
IsPartWritten-begins old text = record { done = []; whole = refl; holds = sym (append_known-nil old) }

pub IsPartWritten-goes_on : (old now new : Option (List ℕ)) (text left : List ℕ) (n : ℕ) →
    IsPartWritten old text now left → new ≡ append_known now (take n left) → IsPartWritten old text new (drop n left)
IsPartWritten-goes_on old now new text left n part wrote = record {
  done = part.done ++ take n left;
  whole = part.whole ∙ ap (λ xs. part.done ++ xs) (sym (take-append-drop n left)) ∙ sym (append_assoc part.done (take n left) (drop n left));
  holds = wrote ∙ ap (λ known. append_known known (take n left)) part.holds ∙ sym (append_known-append old part.done (take n left));
}

take-drop_rest : (n : ℕ) (xs : List ℕ) → take (length xs - n) (drop n xs) ≡ drop n xs
take-drop_rest n xs = take_all (length xs - n) (drop n xs) (omega (arith, length-drop n xs))

-- the same, in the words that a range up to the end of a slice has
pub IsPartWritten-goes_on_range : (old now new : Option (List ℕ)) (text left : List ℕ) (n : ℕ) →
    IsPartWritten old text now left → new ≡ append_known now (take n left) →
    IsPartWritten old text new (take (length left - n) (drop n left))
IsPartWritten-goes_on_range old now new text left n part wrote =
    rw (take-drop_rest n left) (IsPartWritten-goes_on old now new text left n part wrote)
