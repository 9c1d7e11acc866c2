-- A place in units is one place in bytes.
use Rattle.std.proofs.Common.{◌≡◌, ◌∙◌, ℕ, zero, suc, ◌+◌, ◌≤◌, ◌<◌, List, [], ◌∷◌, take, Option, Some, None, sym, ap, arith}
use Rattle.text_units.specs.Units.{IsColumn, IsBytesAt, units_in}

-- more of a line has no fewer units
units_more : (m n : ℕ) (line : List ℕ) → m ≤ n → units_in (take m line) ≤ units_in (take n line)
units_more zero n line low = omega arith
units_more (suc m) zero line low = absurd (omega (arith, low))
units_more (suc m) (suc n) [] low = omega arith
units_more (suc m) (suc n) (b ∷ line) low =
    let rest = units_more m n line (omega (arith, low)) in omega (arith, rest)

no_less : (line : List ℕ) (units c d : ℕ) → IsColumn line units c → IsColumn line units d → c < d → ⊥
no_less line units c d a b less =
    let inside = b.inside in
    let over = a.longest (omega (arith, inside, less)) in
    let more = units_more (c + 1) d line (omega (arith, less)) in
    let few = b.few in
    omega (arith, over, more, few)

pub one_column : (line : List ℕ) (units c d : ℕ) → IsColumn line units c → IsColumn line units d → c ≡ d
one_column line units c d a b =
    let up = no_less line units c d a b in
    let down = no_less line units d c b a in
    grind (arith, up, down)

pub one_bytes : (o : Option (List ℕ)) (units : ℕ) (a b : Option ℕ) → IsBytesAt o units a → IsBytesAt o units b → a ≡ b
one_bytes None units a b h k = h ∙ sym k
one_bytes (Some line) units a b h k = h.1 ∙ ap Some (one_column line units h.0 k.0 h.2 k.2) ∙ sym k.1
