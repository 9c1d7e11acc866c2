-- Nodes kept apart as kinds and spans: they are the nodes again, and a node's span is found by halving.
use Rattle.std.proofs.Common.{◌≡◌, ◌≢◌, ℕ, zero, suc, ◌+◌, ◌<◌, ◌≤◌, List, [], ◌∷◌, ◌++◌, append_assoc, ◌⊎◌, length, get_or, take, append-nil, map, true, false, refl, ap, arith, add-zero, Option, Some, None, slice_get, eqb, inl, inr}
use Rattle.std.specs.Option.{option_map, option_and_then}
use Rattle.std.proofs.lemmas.Bool.{cases_lt}
use Rattle.std.proofs.lemmas.Bool.Decides.{nat_tests}
use Rattle.std.proofs.lemmas.List.{get_or_read, get_or_default, take_more, length-take}
use Rattle.std.proofs.lemmas.Option.{slice_get_past, slice_get-get_or}
use Rattle.graph_nodes.specs.declared.node.Node.{Node}
use Rattle.graph_nodes.specs.declared.node.NodeKind.{NodeKind}
use Rattle.graph_nodes.specs.declared.node.Span.{Span}
use Rattle.graph_nodes.specs.declared.spans.NodeSpan.{NodeSpan}
use Rattle.graph_nodes.specs.Spans.{spanned, spans_from, span_of, nodes_from, AreRising, IsFirstFrom}

-- as many nodes as kinds
pub nodes_length : (n : ℕ) (kinds : List NodeKind) (spans : List NodeSpan) → length (nodes_from n kinds spans) ≡ length kinds
nodes_length n [] spans = refl
nodes_length n (kind ∷ kinds) spans = ap suc (nodes_length (n + 1) kinds spans)

-- the node of the kind with the span
abbrev node_with : Option Span → NodeKind → Node
node_with span kind = record { kind = kind; span = span }

-- the node at a position
nodes_get : (n : ℕ) (kinds : List NodeKind) (spans : List NodeSpan) (k : ℕ)
    → slice_get (nodes_from n kinds spans) k ≡ option_map (node_with (span_of (n + k) spans)) (slice_get kinds k)
nodes_get n [] spans k = refl
nodes_get n (kind ∷ kinds) spans zero = rw add-zero refl
nodes_get n (kind ∷ kinds) spans (suc k) = let e : n + suc k ≡ (n + 1) + k = omega arith in rw e (nodes_get (n + 1) kinds spans k)

-- its kind and its span
pub kind_there : (kinds : List NodeKind) (spans : List NodeSpan) (n : ℕ) (kind : NodeKind) → n < length kinds → kind ≡ get_or kinds n kind
    → option_map (λ (node : Node). node.kind) (slice_get (nodes_from 0 kinds spans) n) ≡ Some kind
kind_there kinds spans n kind lt is = rw (nodes_get 0 kinds spans n, slice_get-get_or kinds n kind lt, ← is) refl

pub span_there : (kinds : List NodeKind) (spans : List NodeSpan) (n : ℕ) → n < length kinds
    → option_and_then (λ (node : Node). node.span) (slice_get (nodes_from 0 kinds spans) n) ≡ span_of n spans
span_there [] spans n lt = absurd (grind arith)
span_there (kind ∷ kinds) spans n lt = let e : 0 + n ≡ n = omega arith in rw (nodes_get 0 (kind ∷ kinds) spans n, slice_get-get_or (kind ∷ kinds) n kind lt, e) refl

pub no_span_there : (kinds : List NodeKind) (spans : List NodeSpan) (n : ℕ) → length kinds ≤ n
    → option_and_then (λ (node : Node). node.span) (slice_get (nodes_from 0 kinds spans) n) ≡ None
no_span_there kinds spans n le = rw (nodes_get 0 kinds spans n, slice_get_past kinds n le) refl

eqb-same : (m n : ℕ) → m ≡ n → eqb m n ≡ true
eqb-same m n e = grind (arith, nat_tests)

eqb-other : (m n : ℕ) → m ≢ n → eqb m n ≡ false
eqb-other m n d = grind (arith, nat_tests)

-- no span is of an earlier node than the first
span_of-before : (n m : ℕ) (nodes : List Node) → m < n → span_of m (spans_from n nodes) ≡ None
span_of-before n m [] lt = refl
span_of-before n m (node ∷ nodes) lt = by node.span (span_of-before (n + 1) m nodes (omega (arith, lt)))
  where
    by : (span : Option Span) → span_of m (spans_from (n + 1) nodes) ≡ None → span_of m (spanned n span ++ spans_from (n + 1) nodes) ≡ None
    by None rest = rest
    by (Some span) rest = rw (eqb-other n m (λ e. grind arith)) rest

-- the span of each node is found among them
span_of-nodes : (n : ℕ) (nodes : List Node) (k : ℕ) → span_of (n + k) (spans_from n nodes) ≡ option_and_then (λ (node : Node). node.span) (slice_get nodes k)
span_of-nodes n [] k = refl
span_of-nodes n (node ∷ nodes) zero = rw add-zero (by node.span)
  where
    by : (span : Option Span) → span_of n (spanned n span ++ spans_from (n + 1) nodes) ≡ span
    by None = span_of-before (n + 1) n nodes (omega arith)
    by (Some span) = rw (eqb-same n n refl) refl
span_of-nodes n (node ∷ nodes) (suc k) =
    by node.span (let e : n + suc k ≡ (n + 1) + k = omega arith in rw e (span_of-nodes (n + 1) nodes k))
  where
    by : (span : Option Span) → span_of (n + suc k) (spans_from (n + 1) nodes) ≡ option_and_then (λ (node : Node). node.span) (slice_get nodes k)
        → span_of (n + suc k) (spanned n span ++ spans_from (n + 1) nodes) ≡ option_and_then (λ (node : Node). node.span) (slice_get nodes k)
    by None rest = rest
    by (Some span) rest = rw (eqb-other n (n + suc k) (λ h. omega (arith, h))) rest

-- kinds and spans are the nodes again
nodes_again : (n : ℕ) (nodes : List Node) (spans : List NodeSpan)
    → ((k : ℕ) → span_of (n + k) spans ≡ option_and_then (λ (node : Node). node.span) (slice_get nodes k))
    → nodes_from n (map (λ (node : Node). node.kind) nodes) spans ≡ nodes
nodes_again n [] spans tells = refl
nodes_again n (node ∷ nodes) spans tells =
    let here : span_of n spans ≡ node.span = rw add-zero at (tells 0) in
    let rest : nodes_from (n + 1) (map (λ (node : Node). node.kind) nodes) spans ≡ nodes = nodes_again (n + 1) nodes spans
    (λ k. let e : n + suc k ≡ (n + 1) + k = omega arith in rw (← e) (tells (suc k))) in
    rw (here, rest) refl

pub nodes_split : (nodes : List Node) (kinds : List NodeKind) (spans : List NodeSpan) → kinds ≡ map (λ (node : Node). node.kind) nodes
    → spans ≡ spans_from 0 nodes → nodes_from 0 kinds spans ≡ nodes
nodes_split nodes kinds spans k s = rw (k, s) (nodes_again 0 nodes (spans_from 0 nodes) (λ i. span_of-nodes 0 nodes i))

-- the spans of one node more
spans_from-append : (n : ℕ) (nodes others : List Node) → spans_from n (nodes ++ others) ≡ spans_from n nodes ++ spans_from (n + length nodes) others
spans_from-append n [] others = rw add-zero refl
spans_from-append n (node ∷ nodes) others =
    let e : n + suc (length nodes) ≡ (n + 1) + length nodes = omega arith in
    rw (e, spans_from-append (n + 1) nodes others, append_assoc) refl

pub spans_more : (nodes : List Node) (n : ℕ) (node : Node) (spans : List NodeSpan) → n < length nodes → node ≡ get_or nodes n node
    → spans ≡ spans_from 0 (take n nodes) → spans ++ spanned n node.span ≡ spans_from 0 (take (n + 1) nodes)
spans_more nodes n node spans lt is was =
    let long : 0 + length (take n nodes) ≡ n = grind (arith, length-take) in
    let one : spans_from n (node ∷ []) ≡ spanned n node.span = append-nil (spanned n node.span) in
    let more : take (n + 1) nodes ≡ take n nodes ++ node ∷ [] = rw (take_more nodes n node lt, ← is) refl in
    rw (was, more, spans_from-append 0 (take n nodes) (node ∷ []), long, one) refl

-- the spans rise
spans_least : (n : ℕ) (nodes : List Node) (k : ℕ) (d : NodeSpan) → k < length (spans_from n nodes) → n ≤ (get_or (spans_from n nodes) k d).node
spans_least n [] k d = λ lt. absurd (grind arith)
spans_least n (node ∷ nodes) k d = by node.span k (λ j. spans_least (n + 1) nodes j d)
  where
    by : (span : Option Span) (k : ℕ) → ((j : ℕ) → j < length (spans_from (n + 1) nodes) → n + 1 ≤ (get_or (spans_from (n + 1) nodes) j d).node)
        → k < length (spanned n span ++ spans_from (n + 1) nodes) → n ≤ (get_or (spanned n span ++ spans_from (n + 1) nodes) k d).node
    by None k rest lt = omega (arith, rest k lt)
    by (Some span) zero rest lt = omega arith
    by (Some span) (suc k) rest lt = omega (arith, rest k (omega (arith, lt)))

spans_rise : (n : ℕ) (nodes : List Node) → AreRising (spans_from n nodes)
spans_rise n [] i j d = λ ij lt. absurd (grind arith)
spans_rise n (node ∷ nodes) i j d = by node.span i j (spans_rise (n + 1) nodes)
  where
    by : (span : Option Span) (i j : ℕ) → AreRising (spans_from (n + 1) nodes) → i < j → j < length (spanned n span ++ spans_from (n + 1) nodes)
        → (get_or (spanned n span ++ spans_from (n + 1) nodes) i d).node < (get_or (spanned n span ++ spans_from (n + 1) nodes) j d).node
    by None i j rest ij lt = rest i j d ij lt
    by (Some span) i zero rest ij lt = absurd (grind arith)
    by (Some span) zero (suc j) rest ij lt = omega (arith, spans_least (n + 1) nodes j d (omega (arith, lt)))
    by (Some span) (suc i) (suc j) rest ij lt = rest i j d (omega (arith, ij)) (omega (arith, lt))

pub rising_spans : (nodes : List Node) (spans : List NodeSpan) → spans ≡ spans_from 0 nodes → AreRising spans
rising_spans nodes spans e = rw e (spans_rise 0 nodes)

-- halving has come so far: the spans before `low` are of earlier nodes, and no span from `high` on is
pub record IsZone (n low high : ℕ) (spans : List NodeSpan) : Type 0 where
  pub order : low ≤ high
  pub within : high ≤ length spans
  pub earlier : (k : ℕ) (d : NodeSpan) → k < low → (get_or spans k d).node < n
  pub later : (k : ℕ) (d : NodeSpan) → high ≤ k → k < length spans → n ≤ (get_or spans k d).node

-- a span in the middle is of an earlier node, or not
pub zone_up : (n low high middle : ℕ) (spans : List NodeSpan) (e : NodeSpan) → AreRising spans → IsZone n low high spans → middle < high
    → (get_or spans middle e).node < n → IsZone n (middle + 1) high spans
zone_up n low high middle spans e rising was lt less =
    let within : middle < length spans = omega (arith, lt, was.within) in
    record {
      order = omega (arith, lt);
      within = was.within;
      earlier = λ k d below. elim (cases_lt k middle) [
        | inl before ↦
            omega (arith, rising k middle d before within, ap (λ (s : NodeSpan). s.node) (get_or_default spans middle d e within), less)
        | inr ge ↦
            let same : k ≡ middle = omega (arith, below, ge) in
            rw same (omega (arith, ap (λ (s : NodeSpan). s.node) (get_or_default spans middle d e within), less))
      ];
      later = was.later;
    }

pub zone_down : (n low high middle : ℕ) (spans : List NodeSpan) (e : NodeSpan) → AreRising spans → IsZone n low high spans → low ≤ middle → middle < high
    → n ≤ (get_or spans middle e).node → IsZone n low middle spans
zone_down n low high middle spans e rising was ge lt more =
    let within : middle < length spans = omega (arith, lt, was.within) in
    record {
      order = ge;
      within = omega (arith, lt, was.within);
      earlier = was.earlier;
      later = λ k d from below. elim (cases_lt middle k) [
        | inl behind ↦
            omega (arith, rising middle k d behind below, ap (λ (s : NodeSpan). s.node) (get_or_default spans middle d e within), more)
        | inr le ↦
            let same : k ≡ middle = omega (arith, from, le) in
            rw same (omega (arith, ap (λ (s : NodeSpan). s.node) (get_or_default spans middle d e within), more))
      ];
    }

-- the span at the first place that is no earlier node's, if it is the node's
pub span_found : (n : ℕ) (place : ℕ) (spans : List NodeSpan) (found : NodeSpan) → ((k : ℕ) (d : NodeSpan) → k < place → (get_or spans k d).node < n)
    → place < length spans → found ≡ get_or spans place found → found.node ≡ n → span_of n spans ≡ Some found.span
span_found n place [] found earlier lt is e = absurd (grind arith)
span_found n zero (s ∷ spans) found earlier lt is e = rw (← is, eqb-same found.node n e) refl
span_found n (suc place) (s ∷ spans) found earlier lt is e =
    let less : s.node < n = earlier 0 found (omega arith) in
    rw (eqb-other s.node n (λ h. grind arith)) (span_found n place spans found (λ k d below. earlier (suc k) d (omega (arith, below))) (omega (arith, lt)) is e)

-- no span is the node's
span_absent : (n : ℕ) (spans : List NodeSpan) → ((k : ℕ) (d : NodeSpan) → k < length spans → (get_or spans k d).node ≢ n) → span_of n spans ≡ None
span_absent n [] other = refl
span_absent n (s ∷ spans) other =
    rw (eqb-other s.node n (other 0 s (omega arith))) (span_absent n spans (λ k d lt. other (suc k) d (omega (arith, lt))))

pub span_missed : (n place : ℕ) (spans : List NodeSpan) (found : NodeSpan) → AreRising spans → IsFirstFrom n place spans
    → place < length spans → found ≡ get_or spans place found → found.node ≢ n → span_of n spans ≡ None
span_missed n place spans found rising first lt is other = span_absent n spans (λ k d below. by k d below (cases_lt k place))
  where
    at_place : (d : NodeSpan) → found ≡ get_or spans place d
    at_place d = get_or_read spans place found lt is d

    more : n < found.node
    more = let le : n ≤ found.node = rw (← is) at (first.later place found (omega arith) lt) in omega (arith, le, other)

    by : (k : ℕ) (d : NodeSpan) → k < length spans → (k < place) ⊎ (place ≤ k) → (get_or spans k d).node ≢ n
    by k d below (inl before) e = let less = first.earlier k d before in omega (arith, less, e)
    by k d below (inr ge) e = elim (cases_lt place k) [
      | inl behind ↦ let up = rising place k d behind below in omega (arith, up, e, more, ap (λ (s : NodeSpan). s.node) (at_place d))
      | inr le ↦ let same : k ≡ place = omega (arith, ge, le) in omega (arith, (rw same at e), more, ap (λ (s : NodeSpan). s.node) (at_place d))
    ]

pub span_past : (n place : ℕ) (spans : List NodeSpan) → IsFirstFrom n place spans → length spans ≤ place → span_of n spans ≡ None
span_past n place spans first le = span_absent n spans (λ k d lt e. let less = first.earlier k d (omega (arith, lt, le)) in omega (arith, less, e))
