-- Every cycle within a file meets a cut node, since along edges to other places the positions rise.
use Rattle.std.proofs.Common.{◌≡◌, ℕ, ◌+◌, ◌<◌, ◌≤◌, List, [], ◌∷◌, Bool, true, false, ◌&&◌, ◌||◌, nat_eq, nat_le, refl, sym, Contains, arith, subst}
use Rattle.std.specs.List.{AllByRecursion, list_any}
use Rattle.std.proofs.lemmas.List.Folds.{list_any_at}
use Rattle.std.proofs.lemmas.Bool.Decides.{nat_tests}
use Rattle.graph_nodes.specs.declared.node.Edge.{Edge}
use Rattle.graph_nodes.specs.declared.node.Place.{Place}
use Rattle.graph_nodes.specs.declared.node.Place.TheVariants.{Root, Jump, At}
use Rattle.graph_nodes.specs.Graph.{Graph, is_exported}
use Rattle.graph_nodes.specs.Cut.{is_cut, turns_between, turns_at, is_turning}
use Rattle.partial_path.specs.Laws.{Leads, IsCycle, CyclesAreCut}

-- whether the edge is a cut edge of the file
abbrev sink_is_cut : Graph → Edge → Bool
sink_is_cut g e = is_cut g e.sink

-- the place is a node at this position or a later one
abbrev IsFrom : ℕ → Place → Type 0
IsFrom low Root = ⊥
IsFrom low Jump = ⊥
IsFrom low (At n) = low ≤ n

or_false : (a b : Bool) → (a || b) ≡ false → (a ≡ false) × (b ≡ false)
or_false true b h = cc
or_false false b h = (refl, h)

-- an edge between nodes that doesn't turn leads to a later position
rises : (m n : ℕ) → (nat_eq n n && nat_le n m) ≡ false → m < n
rises m n h = grind (arith, nat_tests)

-- where the sink of an edge from a node isn't cut, it is a node at a later position
later : (g : Graph) (m : ℕ) (sink : Place) (turns : (n : ℕ) → is_turning g.edges n ≡ false → turns_between (At m) sink n ≡ false)
    → is_cut g sink ≡ false → IsFrom (m + 1) sink
later g m Root turns h = cc
later g m Jump turns h = cc
later g m (At n) turns h =
    let both = or_false (is_exported g.nodes n) (is_turning g.edges n) h in
    let r : m < n = rises m n (turns n both.1) in omega arith

raise : (low high : ℕ) (place : Place) → low ≤ high → IsFrom high place → IsFrom low place
raise low high Root le h = h
raise low high Jump le h = h
raise low high (At n) le h = let k : high ≤ n = h in omega arith

-- the same from a place that is a node at some position or a later one
later_from : (g : Graph) (low : ℕ) (source sink : Place) (turns : (n : ℕ) → is_turning g.edges n ≡ false → turns_between source sink n ≡ false)
    → IsFrom low source → is_cut g sink ≡ false → IsFrom (low + 1) sink
later_from g low Root sink turns from h = absurd from
later_from g low Jump sink turns from h = absurd from
later_from g low (At m) sink turns from h =
    let le : low ≤ m = from in raise (low + 1) (m + 1) sink (omega arith) (later g m sink turns h)

false_unless : (b : Bool) → (b ≡ true → ⊥) → b ≡ false
false_unless true h = absurd (h refl)
false_unless false h = refl

true_unless : (b : Bool) → (b ≡ false → ⊥) → b ≡ true
true_unless true h = refl
true_unless false h = absurd (h refl)

not_both : (b : Bool) → b ≡ true → b ≡ false → ⊥
not_both true is_true is_false = cc
not_both false is_true is_false = cc

-- an edge of the file doesn't turn at a node that isn't turning
turned : (g : Graph) (e : Edge) → Contains g.edges e → (n : ℕ) → is_turning g.edges n ≡ false → turns_between e.source e.sink n ≡ false
turned g e (k, within, is) n none =
    false_unless (turns_at n e) (λ turns. not_both (is_turning g.edges n) (list_any_at (turns_at n) g.edges k e within (rw is turns)) none)

-- along edges whose sinks aren't cut, the positions don't fall
climb : (g : Graph) (es : List Edge) (low : ℕ) (origin target : Place) → Leads origin es target
    → AllByRecursion (Contains g.edges) es → IsFrom low origin → list_any (sink_is_cut g) es ≡ false → IsFrom low target
climb g [] low origin target leads edges from none = let P : Place → Type 0 = IsFrom low in subst P leads from
climb g (e ∷ es) low origin target leads edges from none =
    let both = or_false (is_cut g e.sink) (list_any (sink_is_cut g) es) none in
    let P : Place → Type 0 = IsFrom low in
    let next : IsFrom (low + 1) e.sink = later_from g low e.source e.sink (turned g e edges.0) (subst P (sym leads.0) from) both.0 in
    climb g es low e.sink target leads.1 edges.1 (raise low (low + 1) e.sink (omega arith) next) both.1

-- where no sink is cut, the last one isn't
end_not_cut : (g : Graph) (e : Edge) (es : List Edge) (origin target : Place) → Leads origin (e ∷ es) target
    → list_any (sink_is_cut g) (e ∷ es) ≡ false → is_cut g target ≡ false
end_not_cut g e [] origin target leads none =
    let P : Place → Type 0 = λ place. is_cut g place ≡ false in
    subst P leads.1 (or_false (is_cut g e.sink) false none).0
end_not_cut g e (x ∷ es) origin target leads none =
    end_not_cut g x es e.sink target leads.1 (or_false (is_cut g e.sink) (list_any (sink_is_cut g) (x ∷ es)) none).1

-- no edges lead back to their first place where no sink is cut
no_way_back : (g : Graph) (e : Edge) (es : List Edge) (place : Place) → Leads place (e ∷ es) place
    → AllByRecursion (Contains g.edges) (e ∷ es) → list_any (sink_is_cut g) (e ∷ es) ≡ false → is_cut g place ≡ false → ⊥
no_way_back g e es Root leads edges none uncut = cc
no_way_back g e es Jump leads edges none uncut = cc
no_way_back g e es (At p) leads edges none uncut =
    let both = or_false (is_cut g e.sink) (list_any (sink_is_cut g) es) none in
    let P : Place → Type 0 = IsFrom p in
    let first : IsFrom p (At p) = omega arith in
    let next : IsFrom (p + 1) e.sink = later_from g p e.source e.sink (turned g e edges.0) (subst P (sym leads.0) first) both.0 in
    let last : p + 1 ≤ p = climb g es (p + 1) e.sink (At p) leads.1 edges.1 next both.1 in
    omega arith

cycles_at : (g : Graph) (es : List Edge) → IsCycle g es → list_any (sink_is_cut g) es ≡ false → ⊥
cycles_at g [] cycle none = cycle.nonempty refl
cycles_at g (e ∷ es) cycle none =
    no_way_back g e es cycle.back.0 cycle.back.1 cycle.edges none (end_not_cut g e es cycle.back.0 cycle.back.0 cycle.back.1 none)

pub cycles : CyclesAreCut
cycles g es cycle = true_unless (list_any (sink_is_cut g) es) (cycles_at g es cycle)
