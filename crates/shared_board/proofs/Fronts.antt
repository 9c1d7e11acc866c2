-- Beginnings of one log.
use Rattle.std.proofs.Common.{◌≡◌, ℕ, ◌≤◌, List, [], ◌∷◌, ◌++◌, length, refl, ap, sym, ◌∙◌, arith, append_assoc, append-nil}
use mathlib.Core.List.{IsPrefix}
use Rattle.version_tree.specs.declared.entry.Entry.{Entry}
use Rattle.version_board.specs.Logs.{Begins, IsLater}

pub begins_self : (log : List Entry) → Begins log log
begins_self log = ([], append-nil log)

pub begins_trans : (a b c : List Entry) → Begins a b → Begins b c → Begins a c
begins_trans a b c p q = (p.0 ++ q.0, sym (append_assoc a p.0 q.0) ∙ (ap (λ (w : List Entry). w ++ q.0) p.1 ∙ q.1))

pub later_self : (seat : ℕ) (log : List Entry) → IsLater seat log log
later_self seat log = record { begins = begins_self log; own_stay = refl }

pub later_trans : (seat : ℕ) (a b c : List Entry) → IsLater seat a b → IsLater seat b c → IsLater seat a c
later_trans seat a b c p q = record { begins = begins_trans a b c p.begins q.begins; own_stay = q.own_stay ∙ p.own_stay }

-- of two beginnings of one list the shorter begins the longer
shorter : {A : Type 0} (xs ys zs : List A) → IsPrefix xs zs → IsPrefix ys zs → length xs ≤ length ys → IsPrefix xs ys
shorter [] ys zs p q le = (ys, refl)
shorter (x ∷ xs) [] zs p q le = absurd (omega arith)
shorter (x ∷ xs) (y ∷ ys) [] p q le = absurd (cc (p.1))
shorter (x ∷ xs) (y ∷ ys) (z ∷ zs) p q le =
    let heads : x ≡ y = cc (p.1, q.1) in
    let rest = shorter xs ys zs (p.0, cc (p.1)) (q.0, cc (q.1)) (omega arith) in (rest.0, cc (heads, rest.1))

pub begins_shorter : (a b whole : List Entry) → IsPrefix a whole → IsPrefix b whole → length a ≤ length b → Begins a b
begins_shorter a b whole p q le = let r = shorter a b whole p q le in (r.0, r.1)

-- a beginning as long as the whole is the whole
pub prefix_whole : {A : Type 0} (xs ys : List A) → IsPrefix xs ys → length ys ≤ length xs → xs ≡ ys
prefix_whole [] [] p le = refl
prefix_whole [] (y ∷ ys) p le = absurd (omega arith)
prefix_whole (x ∷ xs) [] p le = absurd (cc (p.1))
prefix_whole (x ∷ xs) (y ∷ ys) p le = let rest = prefix_whole xs ys (p.0, cc (p.1)) (omega arith) in cc (p.1, rest)
