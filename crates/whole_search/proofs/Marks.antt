-- The marks of a file's nodes, as they are set from the last node down.
use Rattle.std.proofs.Common.{◌≡◌, ◌≢◌, ℕ, zero, suc, ◌+◌, ◌<◌, ◌≤◌, Bool, true, false, List, [], ◌∷◌, length, Option, Some, IsTrue, ◌↔◌, ◌⊎◌, inl, inr, sym, refl, ap, ◌∙◌, subst, eqb, eqb-true, eq-eqb, leb, leb-false, arith, slice_get, set, get_or-set_same, get_or-set_other}
use Rattle.std.specs.List.{list_any}
use Rattle.std.specs.Option.{option_map_or}
use Rattle.std.proofs.lemmas.Bool.{false≢true, and_cases, or_parts, or_cases, or_left, or_right, both_ways, cases_Bool, cases_eq}
use Rattle.std.proofs.lemmas.Bool.Decides.{nat_tests}
use Rattle.std.proofs.lemmas.Option.{none-some, same_Some}
use Rattle.graph_nodes.specs.Graph.{Graph, is_exported, has_place}
use Rattle.graph_nodes.specs.Checked.{IsChecked}
use Rattle.graph_nodes.specs.Cut.{turns_between, turns_at, is_turning, is_cut}
use Rattle.graph_nodes.specs.Out.{place_eq, edges_from}
use Rattle.graph_nodes.specs.declared.node.Edge.{Edge}
use Rattle.graph_nodes.specs.declared.node.Place.{Place}
use Rattle.graph_nodes.specs.declared.node.Place.TheVariants as place
use Rattle.partial_path.proofs.Edges.{has_sink}
use Rattle.whole_search.specs.Leads.{is_landing, LeadsBy, CanLand, mark_at, leads_on, leads_by}
use Rattle.list_facts.proofs.Members.{passing_member, list_any-from_member}
use Rattle.partial_path.proofs.Positions.{IsIn-edges_from, leaves_from}

-- the last nodes, so many of them, have marks that say whether edges lead from them to a place to land at
abbrev pub AreMarksFrom : Graph → List Bool → ℕ → Type 0
AreMarksFrom g marks done =
    (n : ℕ) → length g.nodes ≤ n + done → n < length g.nodes → IsTrue (mark_at marks n) ↔ CanLand g n

node_place : (source : Place) (n : ℕ) → place_eq source (place.At n) ≡ true → source ≡ place.At n
node_place place.Root n t = absurd (false≢true t)
node_place place.Jump n t = absurd (false≢true t)
node_place (place.At m) n t = ap place.At (eqb-true m n t)

list_any-false : {X : Type 0} (p : X → Bool) (xs : List X) (k : ℕ) (x : X) → list_any p xs ≡ false → slice_get xs k ≡ Some x → p x ≡ false
list_any-false p [] k x f h = absurd (none-some x h)
list_any-false p (y ∷ xs) zero x f h = ap p (sym (same_Some y x h)) ∙ (or_parts (p y) (list_any p xs) f).0
list_any-false p (y ∷ xs) (suc k) x f h = list_any-false p xs k x (or_parts (p y) (list_any p xs) f).1 h

-- an edge between nodes whose sink is no cut place leads to a later one
pub leads_up : (g : Graph) (k : ℕ) (edge : Edge) (n m : ℕ) → slice_get g.edges k ≡ Some edge → edge.source ≡ place.At n → edge.sink ≡ place.At m → is_cut g (place.At m) ≡ false → n < m
leads_up g k edge n m is source sink cut =
    by (and_cases (eqb m m) (leb m n)
    (sym (λ i. turns (source i) (sink i))
    ∙ list_any-false (turns_at m) g.edges k edge (or_parts (is_exported g.nodes m) (is_turning g.edges m) cut).1 is))
  where
    turns : Place → Place → Bool
    turns a b = turns_between a b m

    by : (eqb m m ≡ false) ⊎ (leb m n ≡ false) → n < m
    by (inl x) = absurd (both_ways (eqb m m) x (eq-eqb m m refl))
    by (inr x) = leb-false m n x

-- an edge of the node, and whether it leads on
abbrev LeadsOn : Graph → ℕ → Edge → Type 0
LeadsOn g n edge = IsTrue (is_landing g edge.sink) ⊎ ((m : ℕ) × (edge.sink ≡ place.At m) × CanLand g m)

can_land : (g : Graph) (n k : ℕ) (edge : Edge) → slice_get g.edges k ≡ Some edge → edge.source ≡ place.At n → LeadsOn g n edge → CanLand g n
can_land g n k edge is source (inl t) = (k ∷ [], (edge, is, source, inl t))
can_land g n k edge is source (inr h) = (k ∷ h.2.0, (edge, is, source, inr (h.0, h.1, h.2.1)))

-- the mark of an edge's sink is right where the edge leads up
abbrev IsRightAt : Graph → List Bool → ℕ → Type 0
IsRightAt g marks n = (m : ℕ) → n < m → m < length g.nodes → IsTrue (mark_at marks m) ↔ CanLand g m

sink_leads : (g : Graph) (marks : List Bool) (n k : ℕ) (edge : Edge) → IsRightAt g marks n → slice_get g.edges k ≡ Some edge → edge.source ≡ place.At n → (sink : Place) → edge.sink ≡ sink → IsTrue (has_place (length g.nodes) sink) → leads_on g marks sink ≡ true → LeadsOn g n edge
sink_leads g marks n k edge right is source place.Root s there t = inl (ap (is_landing g) s)
sink_leads g marks n k edge right is source place.Jump s there t = inl (ap (is_landing g) s)
sink_leads g marks n k edge right is source (place.At m) s there t = by (cases_Bool (is_landing g (place.At m)))
  where
    by : (is_landing g (place.At m) ≡ true) ⊎ (is_landing g (place.At m) ≡ false) → LeadsOn g n edge
    by (inl land) = inl (ap (is_landing g) s ∙ land)
    by (inr none) =
        let up : n < m = leads_up g k edge n m is source s (or_parts (is_cut g (place.At m)) _ none).0 in
        let marked = elim (or_cases (is_landing g (place.At m)) (mark_at marks m) t) as (λ _. mark_at marks m ≡ true) [ inl land ↦ absurd (both_ways _ none land) | inr mark ↦ mark ] in
        inr (m, s, (right m up (grind (arith, nat_tests, there))).0 marked)

sink_marked : (g : Graph) (marks : List Bool) (n k : ℕ) (edge : Edge) → IsRightAt g marks n → slice_get g.edges k ≡ Some edge → edge.source ≡ place.At n → (sink : Place) → edge.sink ≡ sink → IsTrue (has_place (length g.nodes) sink) → LeadsOn g n edge → leads_on g marks sink ≡ true
sink_marked g marks n k edge right is source place.Root s there h = refl
sink_marked g marks n k edge right is source place.Jump s there h = refl
sink_marked g marks n k edge right is source (place.At m) s there (inl land) =
    or_left (is_landing g (place.At m)) (mark_at marks m) (ap (is_landing g) (sym s) ∙ land)
sink_marked g marks n k edge right is source (place.At m) s there (inr h) = by (cases_Bool (is_landing g (place.At m)))
  where
    same : (a b : ℕ) → place.At a ≡ place.At b → a ≡ b
    same a b e = cc

    by : (is_landing g (place.At m) ≡ true) ⊎ (is_landing g (place.At m) ≡ false) → leads_on g marks (place.At m) ≡ true
    by (inl land) = or_left (is_landing g (place.At m)) (mark_at marks m) land
    by (inr none) =
        let up : n < m = leads_up g k edge n m is source s (or_parts (is_cut g (place.At m)) _ none).0 in
        let lands : CanLand g m = subst (CanLand g) (same h.0 m (sym h.1 ∙ s)) h.2 in
        or_right (is_landing g (place.At m)) (mark_at marks m) ((right m up (grind (arith, nat_tests, there))).1 lands)

leads_by-found : (g : Graph) (marks : List Bool) (k : ℕ) (edge : Edge) → slice_get g.edges k ≡ Some edge → leads_by g marks k ≡ leads_on g marks edge.sink
leads_by-found g marks k edge is = ap (λ (o : Option Edge). option_map_or (λ (x : Edge). leads_on g marks x.sink) o false) is

-- where the marks of the later nodes are right, some edge leads on exactly where one can land from the node
pub leads_tell : (g : Graph) → IsChecked g → (marks : List Bool) (n : ℕ) → IsRightAt g marks n → IsTrue (list_any (leads_by g marks) (edges_from g (place.At n))) ↔ CanLand g n
leads_tell g checked marks n right = (to, from)
  where
    to : IsTrue (list_any (leads_by g marks) (edges_from g (place.At n))) → CanLand g n
    to t =
        let k = passing_member (leads_by g marks) (edges_from g (place.At n)) t in
        let edge = leaves_from g (place.At n) k.0 k.1 in
        let source = node_place edge.0.source n edge.2 in
        can_land g n k.0 edge.0 edge.1 source
        (sink_leads g marks n k.0 edge.0 right edge.1 source edge.0.sink refl (has_sink g k.0 edge.0 checked edge.1)
        (sym (leads_by-found g marks k.0 edge.0 edge.1) ∙ k.2))

    next_of : (edge : Edge) (es : List ℕ) → IsTrue (is_landing g edge.sink) ⊎ ((m : ℕ) × (edge.sink ≡ place.At m) × LeadsBy g m es) → LeadsOn g n edge
    next_of edge es (inl t) = inl t
    next_of edge es (inr h) = inr (h.0, h.1, (es, h.2))

    by : (es : List ℕ) → LeadsBy g n es → IsTrue (list_any (leads_by g marks) (edges_from g (place.At n)))
    by [] h = absurd h
    by (k ∷ es) h =
        list_any-from_member (leads_by g marks) k (edges_from g (place.At n))
        (IsIn-edges_from g (place.At n) k h.0 h.1 (ap (λ (p : Place). place_eq p (place.At n)) h.2 ∙ eq-eqb n n refl))
        (leads_by-found g marks k h.0 h.1
        ∙ sink_marked g marks n k h.0 right h.1 h.2 h.0.sink refl (has_sink g k h.0 checked h.1) (next_of h.0 es h.3))

    from : CanLand g n → IsTrue (list_any (leads_by g marks) (edges_from g (place.At n)))
    from h = by h.0 h.1

-- one more mark, that of the node before those that have theirs
pub AreMarksFrom-more : (g : Graph) → IsChecked g → (marks : List Bool) (done n : ℕ) (mark : Bool) → length marks ≡ length g.nodes → n + suc done ≡ length g.nodes → mark ≡ list_any (leads_by g marks) (edges_from g (place.At n)) → AreMarksFrom g marks done → AreMarksFrom g (set marks n mark) (done + 1)
AreMarksFrom-more g checked marks done n mark long at is was m last there = by (cases_eq m n)
  where
    within : n < length marks
    within = omega arith

    here : mark_at (set marks n mark) n ≡ list_any (leads_by g marks) (edges_from g (place.At n))
    here = get_or-set_same marks n mark true within ∙ is

    told : IsTrue (mark_at (set marks n mark) n) ↔ CanLand g n
    told =
        subst (λ (b : Bool). IsTrue b ↔ CanLand g n) (sym here)
        (leads_tell g checked marks n (λ k up below. was k (omega arith) below))

    by : (m ≡ n) ⊎ (m ≢ n) → IsTrue (mark_at (set marks n mark) m) ↔ CanLand g m
    by (inl e) = subst (λ k. IsTrue (mark_at (set marks n mark) k) ↔ CanLand g k) (sym e) told
    by (inr d) =
        subst (λ (b : Bool). IsTrue b ↔ CanLand g m) (sym (get_or-set_other marks n m mark true d))
        (was m (omega arith) there)
