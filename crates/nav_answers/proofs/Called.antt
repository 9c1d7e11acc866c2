-- Who calls a definition: what leads to it, and what was found of that.
use Rattle.std.proofs.Common.{◌≡◌, ◌≢◌, refl, sym, ap, subst, List, [], ◌∷◌, map, Bool, true, false, IsSomeAnd, IsTrue, Contains, ◌↔◌, Result, Ok, Err, inl, inr, eqb, eqb-true}
use Rattle.std.proofs.lemmas.Bool.{and_parts, false≢true}
use Rattle.graph_nodes.specs.Graph.{Graph}
use Rattle.stacks_vars.specs.declared.scopes.NodeAt.{NodeAt}
use Rattle.partial_path.specs.declared.bounds.Bounds.{Bounds}
use Rattle.partial_path.specs.declared.config.Config.{Config}
use Rattle.partial_path.specs.declared.config.Spot.{Spot}
use Rattle.partial_path.specs.declared.config.Spot.TheVariants.{At, Root}
use Rattle.partial_path.specs.declared.config.EdgeAt.{EdgeAt}
use Rattle.partial_path.specs.Spots.{is_node}
use Rattle.partial_path.specs.Step.{start}
use Rattle.partial_path.specs.Runs.{run}
use Rattle.partial_path.specs.Counted.{IsBoundedComplete}
use Rattle.version_tree.specs.declared.row.Answer.{Answer}
use Rattle.version_tree.specs.declared.row.Row.{Row}
use Rattle.version_tree.specs.Contents.{FileRow}
use Rattle.version_tree.specs.Graphs.{GraphRow, graph_rows}
use Rattle.whole_search.specs.declared.found.Hit.{Hit}
use Rattle.whole_search.specs.Answers.{IsRising, AreReferences, IsDefinitionFrom, IsReferenceOf, IsAnyCrowded}
use Rattle.list_facts.specs.Members.{IsIn}
use Rattle.list_facts.proofs.Members.{IsIn-from_Contains, Contains-from_IsIn, at_member}
use Rattle.back_stitch.specs.Lists.{usual, AreThoseThatReach, HasMany, Reaches}
use Rattle.nav_answers.specs.declared.links.Link.{Link}
use Rattle.nav_answers.specs.declared.found.AskFault.{AskFault}
use Rattle.nav_answers.specs.declared.found.AskFault.TheVariants.{Crowded, NoMemory}
use Rattle.nav_answers.specs.Links.{Table, link_of, rows_of_any}
use Rattle.nav_answers.specs.Asking.{AreLinksOf, IsCrowdedAmong, IsReferenceIn, place_of, references_from}
use Rattle.nav_answers.specs.Callers.{IsCallerReply, IsOverrun, LeadsCrowded, TellsUnless}
use Rattle.nav_answers.specs.Replies.{graphs_in, hit_of, row_of, IsReferenceReply}
use Rattle.nav_answers.specs.Sources.{graphs_seen}
use Rattle.nav_answers.proofs.Asked.{all_are, starts_listed}
use Rattle.nav_answers.proofs.Linked.{any_linked, linked_any}
use Rattle.nav_answers.proofs.Numbers.{same_graphs}
use Rattle.nav_answers.proofs.Referred.{some_so}

at_node : (d : NodeAt) (s : Spot) → IsTrue (is_node d.file d.node s) → s ≡ At d
at_node d Root t = absurd (false≢true t)
at_node d (At node) t =
    let p = and_parts (eqb node.file d.file) (eqb node.node d.node) t in
    (λ i. At (record { file = eqb-true node.file d.file p.0 i; node = eqb-true node.node d.node p.1 i }))

-- from here a bounded complete run leads to the node
abbrev LeadsFrom : List Graph → NodeAt → Config → Type 0
LeadsFrom files d c = (es : List EdgeAt) × IsBoundedComplete usual files c es × IsSomeAnd (run files c es) (λ (end : Config). end.spot ≡ At d)

-- a run to a definition of a reference leads to it from there
refers_leads : (files : List Graph) (d : NodeAt) (hit : Hit) → IsReferenceOf usual files (hit_of d) hit → Reaches files d (place_of hit)
refers_leads files d hit h =
    some_so (start files (place_of hit)) (λ c. IsDefinitionFrom usual files c (hit_of d)) (LeadsFrom files d)
    (λ c k. (k.0, k.1.bounded_complete, some_so (run files c k.0) (λ (end : Config). IsTrue (is_node d.file d.node end.spot)) (λ (end : Config). end.spot ≡ At d) (λ end t. at_node d end.spot t) k.2))
    h

-- what leads to a node is a reference
leads_reference : (files : List Graph) (d r : NodeAt) → Reaches files d r → IsReferenceIn files r
leads_reference files d r h =
    at_member (IsReferenceIn files) r (references_from 0 files) (all_are files) (starts_listed files r (LeadsFrom files d) h)

only : (d e : Hit) → IsIn e (d ∷ []) → e ≡ d
only d e (inl same) = same
only d e (inr m) = absurd m

module _ (files : List Graph) (d : NodeAt) (leading : List NodeAt) (are : AreThoseThatReach files d leading) where
  pub all_leading : (r : NodeAt) → IsIn r leading → IsReferenceIn files r
  all_leading r m = leads_reference files d r ((are.exact r).0 (Contains-from_IsIn leading r m))

  pub among_leads : IsCrowdedAmong usual files leading → LeadsCrowded files d
  among_leads h = (h.0, (are.exact h.0).0 (Contains-from_IsIn leading h.0 h.1), h.2)

  module _ (links : Table) (found : AreLinksOf usual files (hit_of d ∷ []) leading links) where
    pub none_leads : LeadsCrowded files d → ⊥
    none_leads h = found.few h.0 (IsIn-from_Contains leading h.0 ((are.exact h.0).1 h.1)) h.2

    pub are_callers : (rows : List Hit) → IsRising rows → ((hit : Hit) → Contains rows hit ↔ Contains (rows_of_any links.list (hit_of d ∷ [])) hit) → AreReferences usual files (hit_of d) rows
    are_callers rows rising exact = record {
      rising = rising;
      exact = λ hit. (
        λ h. refers hit (any_linked links.list (hit_of d ∷ []) hit (IsIn-from_Contains (rows_of_any links.list (hit_of d ∷ [])) hit ((exact hit).0 h))),
        λ h. (exact hit).1 (Contains-from_IsIn (rows_of_any links.list (hit_of d ∷ [])) hit
            (linked_any links.list (hit_of d ∷ []) hit (hit_of d) (inl refl) (IsIn-from_Contains links.list (link_of hit (hit_of d)) (linked hit h)))),
      );
    }
      where
        refers : (hit : Hit) → ((e : Hit) × IsIn e (hit_of d ∷ []) × IsIn (link_of hit e) links.list) → IsReferenceOf usual files (hit_of d) hit
        refers hit k =
            subst (λ (e : Hit). IsReferenceOf usual files e hit) (only (hit_of d) k.0 k.1)
            (found.sound (link_of hit k.0) (Contains-from_IsIn links.list (link_of hit k.0) k.2)).1

        linked : (hit : Hit) → IsReferenceOf usual files (hit_of d) hit → Contains links.list (link_of hit (hit_of d))
        linked hit h =
            found.all (link_of hit (hit_of d)) (inr (inl refl))
            (IsIn-from_Contains leading (place_of hit) ((are.exact (place_of hit)).1 (refers_leads files d hit h))) h

-- the bounds of a query that states none
pub usual_is : (bounds : Bounds) → bounds.edges ≡ 128 → bounds.depth ≡ 48 → bounds ≡ usual
usual_is bounds edges depth = λ i. record { edges = edges i; depth = depth i }

pub links_are : (bounds : Bounds) (files : List Graph) (d : NodeAt) (hit : Hit) (leading : List NodeAt) (links : Table) → bounds ≡ usual → hit ≡ hit_of d
    → AreLinksOf bounds files (hit ∷ []) leading links → AreLinksOf usual files (hit_of d ∷ []) leading links
links_are bounds files d hit leading links same is h =
    subst (λ (b : Bounds). AreLinksOf b files (hit_of d ∷ []) leading links) same
    (subst (λ (x : Hit). AreLinksOf bounds files (x ∷ []) leading links) is h)

-- where the one is so exactly where the other is
pub told_alike : (is_crowded other : Type 0) (rows : List GraphRow) (d : NodeAt) (reply : Result (List Row) AskFault) → is_crowded ↔ other
    → TellsUnless is_crowded rows d reply → TellsUnless other rows d reply
told_alike is_crowded other rows d (Ok told) same h = (λ o. h.0 (same.1 o), h.1)
told_alike is_crowded other rows d (Err fault) same h = (same.0 h.0, h.1)

any_leads : (files : List Graph) (d : NodeAt) → LeadsCrowded files d → IsAnyCrowded usual files
any_leads files d h = (h.0, h.2)

-- where the back lists aren't too many, what leads there decides
pub few_overrun : (files : List Graph) (d : NodeAt) → (HasMany files d → ⊥) → LeadsCrowded files d ↔ IsOverrun files d
few_overrun files d few = (λ h. inl (few, h), back)
  where
    back : IsOverrun files d → LeadsCrowded files d
    back (inl h) = h.1
    back (inr h) = absurd (few h.0)

-- where they are, all references do
pub many_overrun : (files : List Graph) (d : NodeAt) → HasMany files d → IsAnyCrowded usual files ↔ IsOverrun files d
many_overrun files d many = (λ h. inr (many, h), back)
  where
    back : IsOverrun files d → IsAnyCrowded usual files
    back (inl h) = absurd (h.0 many)
    back (inr h) = h.1

-- where none is crowded, either is
pub none_overrun : (files : List Graph) (d : NodeAt) → (IsAnyCrowded usual files → ⊥) → IsAnyCrowded usual files ↔ IsOverrun files d
none_overrun files d none = (λ h. absurd (none h), back)
  where
    back : IsOverrun files d → IsAnyCrowded usual files
    back (inl h) = any_leads files d h.1
    back (inr h) = h.1

-- the same of the files that are seen
pub seen_alike : (view : List FileRow) (Says : List Graph → Type 0) → Says (graphs_seen view) → Says (graphs_in (graph_rows view))
seen_alike view Says h = subst Says (same_graphs view) h

pub rows_tell : (view : List FileRow) (d : NodeAt) (hits : List Hit) (rows : List Row) → (LeadsCrowded (graphs_seen view) d → ⊥)
    → AreReferences usual (graphs_seen view) (hit_of d) hits → rows ≡ map (row_of (graph_rows view)) hits
    → TellsUnless (LeadsCrowded (graphs_in (graph_rows view)) d) (graph_rows view) d (Ok rows)
rows_tell view d hits rows none are told = (
  seen_alike view (λ (gs : List Graph). LeadsCrowded gs d → ⊥) none,
  (hits, seen_alike view (λ (gs : List Graph). AreReferences usual gs (hit_of d) hits) are, told),
)

pub crowded_tells : (view : List FileRow) (d : NodeAt) → LeadsCrowded (graphs_seen view) d → TellsUnless (LeadsCrowded (graphs_in (graph_rows view)) d) (graph_rows view) d (Err Crowded)
crowded_tells view d h = (seen_alike view (λ (gs : List Graph). LeadsCrowded gs d) h, refl)

-- the same where what is seen goes by two names
pub told_among : (view seen : List FileRow) (d : NodeAt) (reply : Result (List Row) AskFault) → view ≡ seen → (HasMany (graphs_seen seen) d → ⊥)
    → TellsUnless (LeadsCrowded (graphs_in (graph_rows view)) d) (graph_rows view) d reply → IsCallerReply (graph_rows seen) d reply
told_among view seen d reply same few h =
    told_alike (LeadsCrowded (graphs_in (graph_rows seen)) d) (IsOverrun (graphs_in (graph_rows seen)) d) (graph_rows seen) d reply
    (few_overrun (graphs_in (graph_rows seen)) d (seen_alike seen (λ (gs : List Graph). HasMany gs d → ⊥) few))
    (subst (λ (v : List FileRow). TellsUnless (LeadsCrowded (graphs_in (graph_rows v)) d) (graph_rows v) d reply) same h)

pub told_after_many : (view seen : List FileRow) (d : NodeAt) (reply : Result (List Row) AskFault) → view ≡ seen → HasMany (graphs_seen seen) d
    → TellsUnless (IsAnyCrowded usual (graphs_in (graph_rows view))) (graph_rows view) d reply → IsCallerReply (graph_rows seen) d reply
told_after_many view seen d reply same many h =
    told_alike (IsAnyCrowded usual (graphs_in (graph_rows seen))) (IsOverrun (graphs_in (graph_rows seen)) d) (graph_rows seen) d reply
    (many_overrun (graphs_in (graph_rows seen)) d (seen_alike seen (λ (gs : List Graph). HasMany gs d) many))
    (subst (λ (v : List FileRow). TellsUnless (IsAnyCrowded usual (graphs_in (graph_rows v))) (graph_rows v) d reply) same h)

pub told_by_all : (bounds : Bounds) (seen : List FileRow) (d : NodeAt) (reply : Result (List Row) AskFault) → bounds ≡ usual → (IsAnyCrowded bounds (graphs_seen seen) → ⊥)
    → TellsUnless (IsAnyCrowded usual (graphs_in (graph_rows seen))) (graph_rows seen) d reply → IsCallerReply (graph_rows seen) d reply
told_by_all bounds seen d reply same none h =
    told_alike (IsAnyCrowded usual (graphs_in (graph_rows seen))) (IsOverrun (graphs_in (graph_rows seen)) d) (graph_rows seen) d reply
    (none_overrun (graphs_in (graph_rows seen)) d
    (seen_alike seen (λ (gs : List Graph). IsAnyCrowded usual gs → ⊥) (subst (λ (b : Bounds). IsAnyCrowded b (graphs_seen seen) → ⊥) same none)))
    h

-- an answer isn't an error
abbrev is_answer : Result Answer AskFault → Bool
is_answer (Ok answer) = true
is_answer (Err fault) = false

no_error : (answer : Answer) (fault : AskFault) → Ok answer ≢ Err fault
no_error answer fault e = false≢true (sym (ap is_answer e))

-- what `references` tells, without its flag
pub rows_alone : (bounds : Bounds) (rows : List GraphRow) (d : NodeAt) (answer : Answer) → bounds ≡ usual
    → (Ok answer ≢ Err NoMemory → IsReferenceReply bounds rows d (Ok answer)) → TellsUnless (IsAnyCrowded usual (graphs_in rows)) rows d (Ok answer.rows)
rows_alone bounds rows d answer same h = by (subst (λ (b : Bounds). IsReferenceReply b rows d (Ok answer)) same (h (no_error answer NoMemory)))
  where
    by : IsReferenceReply usual rows d (Ok answer) → TellsUnless (IsAnyCrowded usual (graphs_in rows)) rows d (Ok answer.rows)
    by k = (k.0, (k.1.hits, k.1.exact, k.1.told))
