-- What the last edge of a walk tells: where it leads, and how the walk goes on.
use Rattle.std.proofs.Common.{◌≡◌, ℕ, ◌+◌, ◌-◌, ◌<◌, List, [], ◌∷◌, ◌++◌, length, Some, Bool, true, false, if◌then◌else◌, ◌||◌, append-nil, refl, sym, ap, ◌∙◌, subst, arith, length-append, slice_get, slice_index_or}
use Rattle.std.proofs.lemmas.Option.{slice_get_within}
use Rattle.graph_nodes.specs.Graph.{Graph}
use Rattle.graph_nodes.specs.Cut.{is_cut}
use Rattle.graph_nodes.specs.declared.node.Edge.{Edge}
use Rattle.graph_nodes.specs.declared.node.Place.{Place}
use Rattle.partial_path.specs.declared.config.EdgeAt.{EdgeAt}
use Rattle.partial_path.specs.Rules.{Rule}
use Rattle.partial_path.specs.Walks.{alone, is_definition_place, IsWalk}
use Rattle.partial_path.specs.PathSets.{IsRuleOf, walk_of_rule}
use Rattle.path_join.specs.Units.{edge_alone}
use Rattle.file_paths.specs.Walking.{ends_cut}
use Rattle.file_paths.specs.Finding.{EndsWith, LeadsTo, MayGoOn, GoesOnFrom, AddsLonger, if_landing}
use Rattle.file_paths.proofs.StepLaws.{none_longer}
use Rattle.file_paths.proofs.SinkLaws.{sink_leaves, uncut_no_jump}
use Rattle.file_paths.proofs.OnwardLaws.{ends_cut-sink, ends_landing-sink}
use Rattle.file_paths.proofs.GrowingLaws.{walk_may_go_on}

at_last : (before : List EdgeAt) (e d : EdgeAt) → slice_index_or (before ++ e ∷ []) (length before) d ≡ e
at_last [] e d = refl
at_last (x ∷ before) e d = at_last before e d

last_at : (es before : List EdgeAt) (e d : EdgeAt) → es ≡ before ++ e ∷ [] → slice_index_or es (length es - 1) d ≡ e
last_at es before e d is =
    ap (λ (xs : List EdgeAt). slice_index_or xs (length xs - 1) d) is
    ∙ (ap (λ (n : ℕ). slice_index_or (before ++ e ∷ []) n d) (ap (λ (n : ℕ). n - 1) (length-append before (e ∷ [])) ∙ less_one (length before)) ∙ at_last before e d)
  where
    less_one : (n : ℕ) → (n + 1) - 1 ≡ n
    less_one n = omega arith

-- the last edge is found where it lies
last_is : (g : Graph) (es : List EdgeAt) (d : EdgeAt) → (last : EndsWith g es) → (slice_index_or es (length es - 1) d).edge ≡ last.last
last_is g es d last = ap (λ (e : EdgeAt). e.edge) (last_at es last.before (edge_alone last.last) d last.is)

pub last_is_there : (g : Graph) (es : List EdgeAt) (d : EdgeAt) → EndsWith g es → (slice_index_or es (length es - 1) d).edge < length g.edges
last_is_there g es d last =
    subst (λ (n : ℕ). n < length g.edges) (sym (last_is g es d last)) (slice_get_within g.edges last.last last.edge last.there)

pub last_leads : (g : Graph) (es : List EdgeAt) (d : EdgeAt) (edge : Edge) → EndsWith g es
    → slice_get g.edges (slice_index_or es (length es - 1) d).edge ≡ Some edge → LeadsTo g es edge.sink
last_leads g es d edge last found = (
  record {
    before = last.before;
    last = last.last;
    edge = edge;
    is = last.is;
    there = subst (λ (n : ℕ). slice_get g.edges n ≡ Some edge) (last_is g es d last) found;
  },
  refl,
)

-- the same edges lead to the same place, also those of the path that they are put into
pub leads_apart : (g : Graph) (there es : List EdgeAt) (sink : Place) → there ≡ es → LeadsTo g there sink → LeadsTo g es sink
leads_apart g there es sink same leads = subst (λ (xs : List EdgeAt). LeadsTo g xs sink) same leads

pub leads_whole : (g : Graph) (there : List EdgeAt) (p q : Rule) (sink : Place) → there ≡ p.edges → q ≡ p → LeadsTo g there sink → LeadsTo g q.edges sink
leads_whole g there p q sink same is leads =
    subst (λ (r : Rule). LeadsTo g r.edges sink) (sym is) (leads_apart g there p.edges sink same leads)

cut_at : (g : Graph) (es : List EdgeAt) (sink : Place) (leads : LeadsTo g es sink) → ends_cut (alone g) es ≡ is_cut g sink
cut_at g es sink leads = ends_cut-sink g es leads.0 ∙ ap (is_cut g) leads.1

-- behind a cut edge there is no longer path
pub none_onward : (g : Graph) (p : Rule) (sink : Place) (begun : List Rule) → LeadsTo g p.edges sink → is_cut g sink ≡ true
    → AddsLonger g (walk_of_rule p) begun begun
none_onward g p sink begun leads cut =
    ([], record { walks = none_longer g (walk_of_rule p) (cut_at g p.edges sink leads ∙ cut); exact = tt }, sym (append-nil begun))

-- else the walk may go on, by the edges from where the last one leads
pub may_onward : (g : Graph) (p : Rule) (sink : Place) → IsRuleOf g p → IsWalk g p.start p.edges → LeadsTo g p.edges sink → is_cut g sink ≡ false → MayGoOn g p
may_onward g p sink exact walk leads uncut = walk_may_go_on g p exact walk (cut_at g p.edges sink leads ∙ uncut)

pub goes_onward : (g : Graph) (p : Rule) (sink : Place) → LeadsTo g p.edges sink → is_cut g sink ≡ false → GoesOnFrom g (walk_of_rule p) sink
goes_onward g p sink leads uncut =
    let last = leads.0 in
    subst (λ (to : Place). GoesOnFrom g (walk_of_rule p) to) leads.1
    (λ e walk.
    sink_leaves g p.start p.edges last.before last.last last.edge e last.is last.there
    (uncut_no_jump g last.edge.sink (ap (is_cut g) leads.1 ∙ uncut)) walk)

-- where a path may not land there is no cut
pub no_landing_uncut : (cut landing : Bool) → (cut || landing) ≡ false → cut ≡ false
no_landing_uncut true landing is = is
no_landing_uncut false landing is = refl

-- a path that may go on, by the edges from that place
pub record LeadsOn (g : Graph) (p : Rule) (from : Place) : Type 0 where
  pub may : MayGoOn g p
  pub onward : GoesOnFrom g (walk_of_rule p) from

-- so may one that doesn't land, from where its last edge leads
pub leads_on : (g : Graph) (p : Rule) (sink : Place) → IsRuleOf g p → IsWalk g p.start p.edges → LeadsTo g p.edges sink
    → (is_cut g sink || is_definition_place (alone g) 0 sink) ≡ false → LeadsOn g p sink
leads_on g p sink exact walk leads unlanded =
    let uncut = no_landing_uncut (is_cut g sink) (is_definition_place (alone g) 0 sink) unlanded in
    record { may = may_onward g p sink exact walk leads uncut; onward = goes_onward g p sink leads uncut }

lands_at : (g : Graph) (p : Rule) (sink : Place) (b : Bool) → LeadsTo g p.edges sink → (is_cut g sink || is_definition_place (alone g) 0 sink) ≡ b
    → if_landing g p ≡ (if b then p ∷ [] else [])
lands_at g p sink b leads is =
    ap (λ (t : Bool). if t then p ∷ [] else [])
    (ends_landing-sink g p.edges leads.0 ∙ (ap (λ (to : Place). is_cut g to || is_definition_place (alone g) 0 to) leads.1 ∙ is))

-- the path is kept, where the place to which it leads is a cut or a definition
pub keeps_landing : (g : Graph) (p : Rule) (sink : Place) (kept now : List Rule) → LeadsTo g p.edges sink → (is_cut g sink || is_definition_place (alone g) 0 sink) ≡ true
    → now ≡ kept ++ p ∷ [] → now ≡ kept ++ if_landing g p
keeps_landing g p sink kept now leads is pushed = pushed ∙ ap (λ (ps : List Rule). kept ++ ps) (sym (lands_at g p sink true leads is))

pub keeps_none : (g : Graph) (p : Rule) (sink : Place) (kept : List Rule) → LeadsTo g p.edges sink → (is_cut g sink || is_definition_place (alone g) 0 sink) ≡ false
    → kept ≡ kept ++ if_landing g p
keeps_none g p sink kept leads is = sym (append-nil kept) ∙ ap (λ (ps : List Rule). kept ++ ps) (sym (lands_at g p sink false leads is))
