-- Every start of walks of a file is after the root, before a reference or after a cut node.
use Rattle.std.proofs.Common.{◌≡◌, ℕ, zero, suc, ◌+◌, ◌-◌, ◌<◌, ◌≤◌, List, [], ◌∷◌, ◌++◌, length, Option, Some, None, IsTrue, Contains, ◌⊎◌, inl, inr, refl, sym, ap, ◌∙◌, subst, append_assoc, arith, Bool, true, false, eqb, eqb-true, slice_get, nat_le}
use Rattle.std.specs.Option.{option_map_or}
use Rattle.std.specs.List.{list_any}
use Rattle.std.proofs.lemmas.Option.{slice_get_within}
use Rattle.std.proofs.lemmas.Bool.{false≢true, and_parts, or_cases, ltb-true}
use Rattle.stacks_vars.specs.declared.scopes.NodeAt.{NodeAt}
use Rattle.graph_nodes.specs.Graph.{Graph, has_place, is_reference, is_exported, kind_at, is_exported_kind, is_reference_kind}
use Rattle.graph_nodes.specs.Checked.{IsChecked}
use Rattle.graph_nodes.specs.Cut.{is_cut, is_turning, turns_at, turns_between}
use Rattle.graph_nodes.specs.declared.node.Edge.{Edge}
use Rattle.graph_nodes.specs.declared.node.Node.{Node}
use Rattle.graph_nodes.specs.declared.node.NodeKind.{NodeKind}
use Rattle.graph_nodes.specs.declared.node.Place.{Place}
use Rattle.graph_nodes.specs.declared.node.Place.TheVariants as place
use Rattle.partial_path.specs.declared.config.Spot.TheVariants as spot
use Rattle.partial_path.specs.declared.rule.Start.{Start}
use Rattle.partial_path.specs.declared.rule.Start.TheVariants.{Before, After}
use Rattle.partial_path.specs.Spots.{node_at}
use Rattle.partial_path.specs.Walks.{starts_walks}
use Rattle.partial_path.proofs.Edges.{has_sink}
use Rattle.file_paths.specs.Finding.{after_node, before_node, start_if, after_at, before_at, starts_down, starts_after, starts_rooted, starts_before, all_starts}
use Rattle.list_facts.specs.Members.{IsIn}
use Rattle.list_facts.proofs.Members.{IsIn-append_left, IsIn-append_right, IsIn-append_cases, Contains-from_IsIn, IsIn-from_Contains}
use Rattle.list_facts.proofs.Pairs.{either}

in_start_if : (b : Bool) (start : Start) → b ≡ true → IsIn start (start_if b start)
in_start_if true start t = inl refl
in_start_if false start t = absurd (false≢true t)

from_start_if : (b : Bool) (start s : Start) → IsIn s (start_if b start) → s ≡ start
from_start_if true start s (inl e) = e
from_start_if true start s (inr h) = absurd h
from_start_if false start s h = absurd h

-- the starts given at a node that was looked at are there, and no others
last_or_later : (n k m : ℕ) → n ≤ m + suc k → m < n → (n ≤ m + k) ⊎ (m ≡ n - suc k)
last_or_later n k m far less = grind arith

down_in : (at : ℕ → List Start) (n k m : ℕ) (s : Start) → m < n → n ≤ m + k → IsIn s (at m) → IsIn s (starts_down at n k)
down_in at n zero m s less far h = absurd (let l : m < n = less in let f : n ≤ m + 0 = far in omega arith)
down_in at n (suc k) m s less far h =
    either (n ≤ m + k) (m ≡ n - suc k) (IsIn s (starts_down at n (suc k)))
    (λ f. IsIn-append_left s (starts_down at n k) (at (n - suc k)) (down_in at n k m s less f h))
    (λ e. IsIn-append_right s (starts_down at n k) (at (n - suc k)) (subst (λ (i : ℕ). IsIn s (at i)) e h))
    (last_or_later n k m far less)

-- the start is given at one of the last so many of the first n nodes
abbrev IsGiven : (ℕ → List Start) → ℕ → ℕ → Start → Type 0
IsGiven at n k s = (m : ℕ) × (n ≤ m + k) × IsIn s (at m)

one_later : (n m k : ℕ) → n ≤ m + k → n ≤ m + suc k
one_later n m k far = omega arith

now_far : (n k : ℕ) → n ≤ (n - suc k) + suc k
now_far n k = omega arith

down_from : (at : ℕ → List Start) (n k : ℕ) (s : Start) → IsIn s (starts_down at n k) → IsGiven at n k s
down_from at n zero s h = absurd h
down_from at n (suc k) s h =
    either (IsIn s (starts_down at n k)) (IsIn s (at (n - suc k))) (IsGiven at n (suc k) s)
    (λ i. let r = down_from at n k s i in (r.0, one_later n r.0 k r.1, r.2))
    (λ i. (n - suc k, now_far n k, i))
    (IsIn-append_cases s (starts_down at n k) (at (n - suc k)) h)

-- a node of a kind is there
kind_there : (test : NodeKind → Bool) (nodes : List Node) (n : ℕ) → kind_at test nodes n ≡ true → n < length nodes
kind_there test nodes n t = by (slice_get nodes n) refl t
  where
    by : (o : Option Node) → slice_get nodes n ≡ o → option_map_or (λ (node : Node). test node.kind) o false ≡ true → n < length nodes
    by None e t = absurd (false≢true t)
    by (Some node) e t = slice_get_within nodes n node e

-- an element that passes a test that some element passes
any_at : (test : Edge → Bool) (es : List Edge) → list_any test es ≡ true → (k : ℕ) × (e : Edge) × (slice_get es k ≡ Some e) × (test e ≡ true)
any_at test [] t = absurd (false≢true t)
any_at test (x ∷ es) t =
    either (test x ≡ true) (list_any test es ≡ true) ((k : ℕ) × (e : Edge) × (slice_get (x ∷ es) k ≡ Some e) × (test e ≡ true))
    (λ h. (0, x, refl, h)) (λ h. let r = any_at test es h in (suc r.0, r.1, r.2, r.3)) (or_cases (test x) (list_any test es) t)

turn_sink : (source sink : Place) (n : ℕ) → turns_between source sink n ≡ true → sink ≡ place.At n
turn_sink (place.At m) (place.At k) n t = ap place.At (eqb-true k n (and_parts (eqb k n) (nat_le k m) t).0)
turn_sink (place.At m) place.Root n t = absurd (false≢true t)
turn_sink (place.At m) place.Jump n t = absurd (false≢true t)
turn_sink place.Root sink n t = absurd (false≢true t)
turn_sink place.Jump sink n t = absurd (false≢true t)

turning_there : (g : Graph) (n : ℕ) → IsChecked g → is_turning g.edges n ≡ true → n < length g.nodes
turning_there g n checked t =
    let at = any_at (turns_at n) g.edges t in
    let there = has_sink g at.0 at.1 checked at.2 in
    ltb-true n (length g.nodes) (subst (λ (p : Place). IsTrue (has_place (length g.nodes) p)) (turn_sink at.1.source at.1.sink n at.3) there)

cut_there : (g : Graph) (n : ℕ) → IsChecked g → is_cut g (place.At n) ≡ true → n < length g.nodes
cut_there g n checked t =
    either (is_exported g.nodes n ≡ true) (is_turning g.edges n ≡ true) (n < length g.nodes)
    (kind_there is_exported_kind g.nodes n) (turning_there g n checked) (or_cases (is_exported g.nodes n) (is_turning g.edges n) t)

node_zero : (a : NodeAt) → a.file ≡ 0 → a ≡ node_at 0 a.node
node_zero a h = λ i. record { file = h i; node = a.node }

within : (n m : ℕ) → n ≤ m + n
within n m = omega arith

in_all : (g : Graph) → IsChecked g → (start : Start) → IsTrue (starts_walks g start) → IsIn start (all_starts g)
in_all g checked (After spot.Root) t =
    IsIn-append_left (After spot.Root) (starts_rooted g) (starts_down (before_at g) (length g.nodes) (length g.nodes))
    (IsIn-append_right (After spot.Root) (starts_after g (length g.nodes)) (After spot.Root ∷ []) (inl refl))
in_all g checked (After (spot.At a)) t =
    let parts = and_parts (eqb a.file 0) (is_cut g (place.At a.node)) t in
    subst (λ (x : NodeAt). IsIn (After (spot.At x)) (all_starts g)) (sym (node_zero a (eqb-true a.file 0 parts.0)))
    (IsIn-append_left (after_node a.node) (starts_rooted g) (starts_down (before_at g) (length g.nodes) (length g.nodes))
    (IsIn-append_left (after_node a.node) (starts_after g (length g.nodes)) (After spot.Root ∷ [])
    (down_in (after_at g) (length g.nodes) (length g.nodes) a.node (after_node a.node) (cut_there g a.node checked parts.1) (within (length g.nodes) a.node)
    (in_start_if (is_cut g (place.At a.node)) (after_node a.node) parts.1))))
in_all g checked (Before a) t =
    let parts = and_parts (eqb a.file 0) (is_reference g.nodes a.node) t in
    subst (λ (x : NodeAt). IsIn (Before x) (all_starts g)) (sym (node_zero a (eqb-true a.file 0 parts.0)))
    (IsIn-append_right (before_node a.node) (starts_rooted g) (starts_down (before_at g) (length g.nodes) (length g.nodes))
    (down_in (before_at g) (length g.nodes) (length g.nodes) a.node (before_node a.node) (kind_there is_reference_kind g.nodes a.node parts.1) (within (length g.nodes) a.node)
    (in_start_if (is_reference g.nodes a.node) (before_node a.node) parts.1)))

-- all starts are those at the root and at the file's nodes
pub starts-all : (g : Graph) → IsChecked g → (start : Start) → IsTrue (starts_walks g start) → Contains (all_starts g) start
starts-all g checked start t = Contains-from_IsIn (all_starts g) start (in_all g checked start t)

-- the node at which the start is
abbrev node_in : Start → ℕ
node_in (Before a) = a.node
node_in (After spot.Root) = 0
node_in (After (spot.At a)) = a.node

-- a node with so many before it isn't among those that were looked at
not_yet : (n m i : ℕ) → 0 < m → m ≤ n → m - 1 ≡ i → n ≤ i + (n - m) → ⊥
not_yet n m i some low is far = omega arith

not_root : (n : ℕ) → After spot.Root ≡ after_node n → ⊥
not_root n e = cc

not_before : (n m : ℕ) → before_node n ≡ after_node m → ⊥
not_before n m e = cc

before_root : (n : ℕ) → before_node n ≡ After spot.Root → ⊥
before_root n e = cc

-- the starts that come next aren't there yet
pub after_new : (g : Graph) (m : ℕ) → 0 < m → m ≤ length g.nodes → ¬ Contains (starts_after g (length g.nodes - m)) (after_node (m - 1))
after_new g m some low h =
    let r = down_from (after_at g) (length g.nodes) (length g.nodes - m) (after_node (m - 1)) (IsIn-from_Contains (starts_after g (length g.nodes - m)) (after_node (m - 1)) h) in
    not_yet (length g.nodes) m r.0 some low (ap node_in (from_start_if (is_cut g (place.At r.0)) (after_node r.0) (after_node (m - 1)) r.2)) r.1

pub root_new : (g : Graph) → ¬ Contains (starts_after g (length g.nodes)) (After spot.Root)
root_new g h =
    let r = down_from (after_at g) (length g.nodes) (length g.nodes) (After spot.Root) (IsIn-from_Contains (starts_after g (length g.nodes)) (After spot.Root) h) in
    not_root r.0 (from_start_if (is_cut g (place.At r.0)) (after_node r.0) (After spot.Root) r.2)

not_rooted : (g : Graph) (n : ℕ) → IsIn (before_node n) (starts_rooted g) → ⊥
not_rooted g n h =
    either (IsIn (before_node n) (starts_after g (length g.nodes))) (IsIn (before_node n) (After spot.Root ∷ [])) ⊥
    (λ k.
    let r = down_from (after_at g) (length g.nodes) (length g.nodes) (before_node n) k in
    not_before n r.0 (from_start_if (is_cut g (place.At r.0)) (after_node r.0) (before_node n) r.2))
    (λ k. either (before_node n ≡ After spot.Root) ⊥ ⊥ (before_root n) (λ none. none) k)
    (IsIn-append_cases (before_node n) (starts_after g (length g.nodes)) (After spot.Root ∷ []) h)

pub before_new : (g : Graph) (m : ℕ) → 0 < m → m ≤ length g.nodes → ¬ Contains (starts_before g (length g.nodes - m)) (before_node (m - 1))
before_new g m some low h =
    either (IsIn (before_node (m - 1)) (starts_rooted g)) (IsIn (before_node (m - 1)) (starts_down (before_at g) (length g.nodes) (length g.nodes - m))) ⊥
    (not_rooted g (m - 1))
    (λ k.
    let r = down_from (before_at g) (length g.nodes) (length g.nodes - m) (before_node (m - 1)) k in
    not_yet (length g.nodes) m r.0 some low (ap node_in (from_start_if (is_reference g.nodes r.0) (before_node r.0) (before_node (m - 1)) r.2)) r.1)
    (IsIn-append_cases (before_node (m - 1)) (starts_rooted g) (starts_down (before_at g) (length g.nodes) (length g.nodes - m))
    (IsIn-from_Contains (starts_before g (length g.nodes - m)) (before_node (m - 1)) h))

-- one node more was looked at
starts_down-more : (at : ℕ → List Start) (n m : ℕ) → 0 < m → m ≤ n → starts_down at n (n - (m - 1)) ≡ starts_down at n (n - m) ++ at (m - 1)
starts_down-more at n m some low =
    let e : n - (m - 1) ≡ suc (n - m) = omega arith in
    let f : n - suc (n - m) ≡ m - 1 = omega arith in
    ap (starts_down at n) e ∙ ap (λ (i : ℕ). starts_down at n (n - m) ++ at i) f

pub starts_after-more : (g : Graph) (m : ℕ) → 0 < m → m ≤ length g.nodes → starts_after g (length g.nodes - (m - 1)) ≡ starts_after g (length g.nodes - m) ++ after_at g (m - 1)
starts_after-more g m some low = starts_down-more (after_at g) (length g.nodes) m some low

pub starts_before-more : (g : Graph) (m : ℕ) → 0 < m → m ≤ length g.nodes → starts_before g (length g.nodes - (m - 1)) ≡ starts_before g (length g.nodes - m) ++ before_at g (m - 1)
starts_before-more g m some low =
    ap (λ (ss : List Start). starts_rooted g ++ ss) (starts_down-more (before_at g) (length g.nodes) m some low)
    ∙ sym (append_assoc (starts_rooted g) (starts_down (before_at g) (length g.nodes) (length g.nodes - m)) (before_at g (m - 1)))
