use Rattle.std.proofs.Common.{◌≡◌, ◌<◌, ◌%◌, ℕ, List, Option, Some, None}
use Rattle.std.specs.Prelude.{IfSome, drop}
use Rattle.std.specs.Option.{option_cmp, option_map}
use Rattle.std.specs.Ordering.{nat_cmp}
use Rattle.std.specs.declared.cmp.Ordering.{Ordering}
use Rattle.std.specs.Cmp.Lexicographic.{slice_cmp}
use Rattle.partial_path.specs.Heads.{IsHeadAt}
use Rattle.root_index.specs.Heads.{IsTailAt}
use Rattle.root_index.proofs.HeadOrders.{tails_told}
use Rattle.root_index.proofs.key_heads.tails_cmp.Goals as goal

abbrev Told : ℕ → ℕ → Option Ordering → Type 0
Told a b found = IfSome found (λ order. (x y : Option (List ℕ)) → IsHeadAt a x → IsHeadAt b y → order ≡ option_cmp (slice_cmp nat_cmp) x y)

by : (head a b : ℕ) (found : Option Ordering) → 8 < head % 256 → Told a b found
    → IfSome found (λ order. (x y : Option (List ℕ)) → IsHeadAt head x → IsHeadAt head y → IsTailAt a x → IsTailAt b y
    → order ≡ option_cmp (slice_cmp nat_cmp) x y)
by head a b None long told = told
by head a b (Some order) long told = λ x y p q r s. tails_told head x y order p q long (told (option_map (λ (t : List ℕ). drop 7 t) x) (option_map (λ (t : List ℕ). drop 7 t) y) r s)

pub returns : goal.returns
returns c = by c.args.head c.args.a c.args.b c.heads_cmp.result c.requires c.heads_cmp.ensures.told
