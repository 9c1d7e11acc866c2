-- Lemmas on the pieces of a text, one after another.
use Rattle.std.proofs.Common.{◌≡◌, ℕ, ◌+◌, ◌<◌, List, [], ◌∷◌, length, take, drop, zero, suc, pred, refl, ap, arith, ◌∙◌, sym, Result, Ok, Err, length-drop}
use Rattle.py_subset.specs.declared.token.Token.{Token}
use Rattle.py_subset.specs.declared.token.PyFault.{PyFault}
use Rattle.py_subset.specs.declared.token.PyFault.TheVariants as fault
use Rattle.py_subset.specs.declared.reading.Reading.{Reading}
use Rattle.py_subset.specs.declared.reading.Place.{Place}
use Rattle.py_subset.specs.declared.piece.Piece.{Piece}
use Rattle.std.proofs.lemmas.List.{drop-drop}
use Rattle.py_subset.specs.Pieces.{piece_at}
use Rattle.py_subset.specs.Layout.{Placed, cut, past, step, layout, ◌>>=◌, Does, Reads}

-- Bytes that are passed over may be dropped.
pub cut-over : (n : ℕ) (place : Place) (bs : List ℕ) → cut n place bs ≡ cut 0 place (drop n bs)
cut-over n place [] = by n where
  by : (n : ℕ) → cut n place [] ≡ cut 0 place (drop n [])
  by zero = refl
  by (suc n) = refl
cut-over zero place (b ∷ bs) = refl
cut-over (suc n) place (b ∷ bs) = cut-over n place bs

front_by : (piece : Piece) (place : Place) (b : ℕ) (bs : List ℕ) (n : ℕ) → piece.len ≡ suc n
    → (record { kind = piece.kind; bytes = take piece.len (b ∷ bs); place = place } ∷ cut (pred piece.len) (past piece.kind piece.len place) bs)
    ≡ (record { kind = piece.kind; bytes = take (suc n) (b ∷ bs); place = place } ∷ cut 0 (past piece.kind (suc n) place) (drop n bs))
front_by piece place b bs n is = rw is (ap (λ (ps : List Placed). record { kind = piece.kind; bytes = b ∷ take n bs; place = place } ∷ ps) (cut-over n (past piece.kind (suc n) place) bs))

-- the piece at the front, and those after it
pub cut-front : (piece : Piece) (place : Place) (bs : List ℕ) → 0 < length bs → piece ≡ piece_at bs → 0 < piece.len
    → cut 0 place bs ≡ (record { kind = piece.kind; bytes = take piece.len bs; place = place }) ∷ cut 0 (past piece.kind piece.len place) (drop piece.len bs)
cut-front piece place [] some is pos = absurd (omega arith)
cut-front piece place (b ∷ bs) some is pos = by piece.len refl where
  by : (n : ℕ) → piece.len ≡ n → cut 0 place (b ∷ bs) ≡ (record { kind = piece.kind; bytes = take piece.len (b ∷ bs); place = place }) ∷ cut 0 (past piece.kind piece.len place) (drop piece.len (b ∷ bs))
  by zero e = absurd (omega arith)
  by (suc n) e = rw (← is) (front_by piece place b bs n e ∙ ap (λ (k : ℕ). record { kind = piece.kind; bytes = take k (b ∷ bs); place = place } ∷ cut 0 (past piece.kind k place) (drop k (b ∷ bs))) (sym e))

-- one turn of the reading
pub layout-front : (line : ℕ) (piece : Piece) (place : Place) (bs : List ℕ) (r : Reading) → 0 < length bs → piece ≡ piece_at bs → 0 < piece.len
    → layout line (cut 0 place bs) r ≡ (step piece.kind (take piece.len bs) place r >>= λ s. layout line (cut 0 (past piece.kind piece.len place) (drop piece.len bs)) s)
layout-front line piece place bs r some is pos = ap (λ (ps : List Placed). layout line ps r) (cut-front piece place bs some is pos)

-- A turn of the reading leaves the answer as it is.
pub turn : (line : ℕ) (piece : Piece) (place next : Place) (bs : List ℕ) (at : ℕ) (r s : Reading) (all : Result (List Token) PyFault)
    → at < length bs → piece ≡ piece_at (drop at bs) → 0 < piece.len → next ≡ past piece.kind piece.len place
    → step piece.kind (take piece.len (drop at bs)) place r ≡ Ok s
    → layout line (cut 0 place (drop at bs)) r ≡ all
    → layout line (cut 0 next (drop (at + piece.len) bs)) s ≡ all
turn line piece place next bs at r s all within is pos goes steps same =
    let some : 0 < length (drop at bs) = omega (arith, length-drop at bs) in
    let front = layout-front line piece place (drop at bs) r some is pos in
    let over = ap (λ (x : Result Reading PyFault). x >>= λ t. layout line (cut 0 (past piece.kind piece.len place) (drop piece.len (drop at bs))) t) steps in
    let place_is = ap (λ (p : Place). layout line (cut 0 p (drop piece.len (drop at bs))) s) goes in
    let where_is = ap (λ (xs : List ℕ). layout line (cut 0 next xs) s) (drop-drop piece.len at bs) in
    sym where_is ∙ place_is ∙ sym over ∙ sym front ∙ same

-- A fault of a turn is the answer.
pub stops : (line : ℕ) (piece : Piece) (place : Place) (bs : List ℕ) (at : ℕ) (r : Reading) (e : PyFault) (all : Result (List Token) PyFault)
    → at < length bs → piece ≡ piece_at (drop at bs) → 0 < piece.len
    → step piece.kind (take piece.len (drop at bs)) place r ≡ Err e
    → layout line (cut 0 place (drop at bs)) r ≡ all
    → all ≡ Err e
stops line piece place bs at r e all within is pos steps same =
    let some : 0 < length (drop at bs) = omega (arith, length-drop at bs) in
    let front = layout-front line piece place (drop at bs) r some is pos in
    let over = ap (λ (x : Result Reading PyFault). x >>= λ t. layout line (cut 0 (past piece.kind piece.len place) (drop piece.len (drop at bs))) t) steps in
    sym same ∙ front ∙ over

-- Where the step's fault is the answer, it may be passed on.
pub passes_on : (e : PyFault) (r : Result Reading PyFault) (after : Reading) (all : Result (List Token) PyFault)
    → Does {A = Unit {0}} (Err e) r after → ((f : PyFault) → r ≡ Err f → all ≡ Err f) → Reads (Err e) all
passes_on fault.NoMemory r after all d h = tt
passes_on (fault.NotAscii n) r after all d h = h _ d
passes_on (fault.BadIndent n) r after all d h = h _ d
passes_on (fault.BadToken n) r after all d h = h _ d
passes_on (fault.Unsupported n) r after all d h = h _ d
passes_on (fault.Expected n) r after all d h = h _ d
passes_on (fault.TooDeep n) r after all d h = h _ d
