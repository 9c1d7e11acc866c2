-- What was found of all references of files tells the references of definitions.
use Rattle.std.proofs.Common.{◌≡◌, refl, sym, ◌∙◌, subst, List, [], ◌∷◌, ◌++◌, map, Bool, true, false, ◌||◌, Option, Some, None, IsSomeAnd, IsTrue, Contains, ◌↔◌, Result, Ok, Err, ◌⊎◌, inl, inr}
use Rattle.std.specs.Prelude.{IfOk, OnOk}
use Rattle.std.specs.List.Sorted.{IsStrictlySortedBy}
use Rattle.std.proofs.lemmas.Bool.{false≢true, or_cases, or_left, or_right}
use Rattle.graph_nodes.specs.Graph.{Graph}
use Rattle.stacks_vars.specs.declared.scopes.NodeAt.{NodeAt}
use Rattle.partial_path.specs.declared.config.Config.{Config}
use Rattle.partial_path.specs.declared.bounds.Bounds.{Bounds}
use Rattle.partial_path.specs.Spots.{node_at}
use Rattle.partial_path.specs.Step.{start}
use Rattle.partial_path.specs.Counted.{IsCrowded, HasLimit}
use Rattle.version_tree.specs.declared.row.Answer.{Answer}
use Rattle.version_tree.specs.Contents.{FileRow}
use Rattle.version_tree.specs.Graphs.{GraphRow, graph_rows}
use Rattle.stitcher.specs.declared.found.StitchFault.{StitchFault}
use Rattle.whole_search.specs.declared.found.Found.{Found}
use Rattle.whole_search.specs.declared.found.Hit.{Hit}
use Rattle.whole_search.specs.Answers.{IsRising, AreRows, IsDefinitionFrom, AreDefinitions, IsReferenceOf, IsAnyCrowded, HasAnyLimit}
use Rattle.list_facts.specs.Members.{IsIn}
use Rattle.list_facts.proofs.Members.{IsIn-append_left, IsIn-append_right, IsIn-append_cases, IsIn-map, IsIn-map_from, IsIn-from_Contains, Contains-from_IsIn}
use Rattle.nav_answers.specs.declared.links.Link.{Link}
use Rattle.nav_answers.specs.declared.links.Links.{Links}
use Rattle.nav_answers.specs.declared.found.AskFault.{AskFault}
use Rattle.nav_answers.specs.declared.found.AskFault.TheVariants.{Crowded}
use Rattle.nav_answers.specs.Replies.{graphs_in, hit_of, row_of, IsReplyAbout, IsReferenceReply}
use Rattle.nav_answers.specs.Links.{link_of, links_of, by_link, rows_of_one, rows_of_any}
use Rattle.nav_answers.specs.Asking.{references_from, IsOneFrom, IsFoundFrom, IsFound, place_of, AreLinks, AreFound, IsHeld, LetsGo, IsTable, IsTold, IsKnownOf, IsKnown, is_each, is_whole, IsReferenceOfAny, IsReplyToAny, HasReferences}
use Rattle.nav_answers.specs.Sources.{graphs_seen}
use Rattle.nav_answers.proofs.Numbers.{same_graphs}
use Rattle.nav_answers.proofs.Asked.{starts_listed}
use Rattle.nav_answers.specs.declared.asked_view.Known.{Known}
use Rattle.nav_answers.specs.declared.asked_view.Told.{Told}
use Rattle.nav_answers.specs.declared.asked_view.Told.TheVariants as said
use Rattle.nav_answers.proofs.Linked.{row_linked, linked_row, any_linked, linked_any, ordered, ordered_rises, in_ordered, ordered_in}

pub some_so : {X : Type 0} (o : Option X) (P Q : X → Type 0) → ((x : X) → P x → Q x) → IsSomeAnd o P → IsSomeAnd o Q
some_so None P Q so h = absurd h
some_so (Some x) P Q so h = so x h

both_so : {X : Type 0} (o : Option X) (P Q : X → Type 0) (R : Type 0) → ((x : X) → P x → Q x → R) → IsSomeAnd o P → IsSomeAnd o Q → R
both_so None P Q R so h k = absurd h
both_so (Some x) P Q R so h k = so x h k

-- what was found of a reference
pub found_is : (bounds : Bounds) (files : List Graph) (rows : List Hit) (limit : Bool) (o : Option Config)
    → IsSomeAnd o (λ c. AreDefinitions bounds files c rows) → IsSomeAnd o (λ c. IsTrue limit ↔ HasLimit bounds files c) → IsSomeAnd o (λ c. IsCrowded bounds files c → ⊥)
    → IsSomeAnd o (IsFoundFrom bounds files rows limit)
found_is bounds files rows limit None are flag few = absurd are
found_is bounds files rows limit (Some c) are flag few = record { exact = are; limit_is = flag; few = few }

-- and so it is told
pub found_told : (bounds : Bounds) (files : List Graph) (reference : NodeAt) (result : Result Found StitchFault)
    → IfOk result (λ found. IsSomeAnd (start files reference) (λ c. AreDefinitions bounds files c found.rows))
    → IfOk result (λ found. IsSomeAnd (start files reference) (λ c. IsTrue found.limit ↔ HasLimit bounds files c))
    → OnOk result (IsSomeAnd (start files reference) (λ c. IsCrowded bounds files c → ⊥))
    → IfOk result (λ found. IsFound bounds files reference found.rows found.limit)
found_told bounds files reference (Ok found) are flag few = found_is bounds files found.rows found.limit (start files reference) are flag few
found_told bounds files reference (Err fault) are flag few = tt

-- the one definition among those, that has this reference
pub one_meant : (bounds : Bounds) (files : List Graph) (definitions : List Hit) (o : Option Config) → IsSomeAnd o (IsOneFrom bounds files definitions)
    → (definition : Hit) × IsIn definition definitions × IsSomeAnd o (λ c. IsDefinitionFrom bounds files c definition)
one_meant bounds files definitions None h = absurd h
one_meant bounds files definitions (Some c) h = (h.0, IsIn-from_Contains definitions h.0 h.1, h.2)

module _ (bounds : Bounds) (files : List Graph) (Held : Hit → Type 0) where
  -- nothing is found of no references
  pub none_linked : (IsAsked : NodeAt → Type 0) → ((at : NodeAt) → IsAsked at → ⊥) → AreLinks bounds files Held IsAsked [] false
  none_linked IsAsked none = record {
    sound = λ link h. absurd (IsIn-from_Contains [] link h);
    all = λ link t asked refers. absurd (none (place_of link.reference) asked);
    limit_is = ((λ t. absurd (false≢true t)), λ h. absurd (none h.0 h.1));
    few = λ at asked h. none at asked;
  }

  -- the same of references that are the same ones
  pub same_asked : (IsAsked IsOther : NodeAt → Type 0) (links : List Link) (limit : Bool) → ((at : NodeAt) → IsAsked at ↔ IsOther at)
      → AreLinks bounds files Held IsAsked links limit → AreLinks bounds files Held IsOther links limit
  same_asked IsAsked IsOther links limit same are = record {
    sound = λ link h. let k = are.sound link h in ((same (place_of link.reference)).0 k.0, k.1);
    all = λ link t asked refers. are.all link t ((same (place_of link.reference)).1 asked) refers;
    limit_is = (
      λ t. let k = are.limit_is.0 t in (k.0, (same k.0).0 k.1, k.2),
      λ h. are.limit_is.1 (h.0, (same h.0).1 h.1, h.2),
    );
    few = λ at asked h. are.few at ((same at).1 asked) h;
  }

  -- one reference alone
  pub one_linked : (reference : NodeAt) (rows : List Hit) (limit : Bool) → IsFound bounds files reference rows limit
      → AreLinks bounds files Held (λ (at : NodeAt). at ≡ reference) (links_of (hit_of reference) rows) limit
  one_linked reference rows limit found = record {
    sound = λ link h. there link (IsIn-map_from (link_of (hit_of reference)) link rows (IsIn-from_Contains (links_of (hit_of reference) rows) link h));
    all = λ link t asked refers. Contains-from_IsIn (links_of (hit_of reference) rows) link (back link asked refers);
    limit_is = (
      λ t. (reference, refl, some_so (start files reference) (IsFoundFrom bounds files rows limit) (HasLimit bounds files) (λ c f. f.limit_is.0 t) found),
      λ h. both_so (start files reference) (IsFoundFrom bounds files rows limit) (HasLimit bounds files) (IsTrue limit) (λ c f k. f.limit_is.1 k) found
          (subst (λ (at : NodeAt). IsSomeAnd (start files at) (HasLimit bounds files)) h.1 h.2),
    );
    few = λ at same h.
        both_so (start files reference) (IsFoundFrom bounds files rows limit) (IsCrowded bounds files) ⊥ (λ c f k. f.few k) found
        (subst (λ (a : NodeAt). IsSomeAnd (start files a) (IsCrowded bounds files)) same h);
  }
    where
      there : (link : Link) → (definition : Hit) × IsIn definition rows × (link_of (hit_of reference) definition ≡ link)
          → (place_of link.reference ≡ reference) × IsReferenceOf bounds files link.definition link.reference
      there link k =
          subst (λ (l : Link). (place_of l.reference ≡ reference) × IsReferenceOf bounds files l.definition l.reference) k.2 (
            refl,
            some_so (start files reference) (IsFoundFrom bounds files rows limit) (λ c. IsDefinitionFrom bounds files c k.0)
                (λ c f. (f.exact.exact k.0).0 (Contains-from_IsIn rows k.0 k.1)) found,
          )

      back : (link : Link) → place_of link.reference ≡ reference → IsReferenceOf bounds files link.definition link.reference → IsIn link (links_of (hit_of reference) rows)
      back link same refers =
          subst (λ (at : NodeAt). IsIn (link_of (hit_of at) link.definition) (links_of (hit_of reference) rows)) (sym same)
          (IsIn-map (link_of (hit_of reference)) link.definition rows
          (IsIn-from_Contains rows link.definition
          (both_so (start files reference) (IsFoundFrom bounds files rows limit) (λ c. IsDefinitionFrom bounds files c link.definition) (Contains rows link.definition)
          (λ c f k. (f.exact.exact link.definition).1 k) found
          (subst (λ (at : NodeAt). IsSomeAnd (start files at) (λ c. IsDefinitionFrom bounds files c link.definition)) same refers))))

  -- those and others
  pub both_linked : (IsAsked IsOther : NodeAt → Type 0) (links others : List Link) (limit other : Bool) → AreLinks bounds files Held IsAsked links limit → AreLinks bounds files Held IsOther others other
      → AreLinks bounds files Held (λ (at : NodeAt). IsAsked at ⊎ IsOther at) (links ++ others) (limit || other)
  both_linked IsAsked IsOther links others limit other are more = record {
    sound = λ link h. joined link (IsIn-append_cases link links others (IsIn-from_Contains (links ++ others) link h));
    all = λ link t asked refers. Contains-from_IsIn (links ++ others) link (parted link t asked refers);
    limit_is = (λ t. left_out (or_cases limit other t), λ h. flagged h.0 h.1 h.2);
    few = λ at asked h. not_crowded at asked h;
  }
    where
      joined : (link : Link) → IsIn link links ⊎ IsIn link others
          → (IsAsked (place_of link.reference) ⊎ IsOther (place_of link.reference)) × IsReferenceOf bounds files link.definition link.reference
      joined link (inl m) = let k = are.sound link (Contains-from_IsIn links link m) in (inl k.0, k.1)
      joined link (inr m) = let k = more.sound link (Contains-from_IsIn others link m) in (inr k.0, k.1)

      parted : (link : Link) → Held link.definition → IsAsked (place_of link.reference) ⊎ IsOther (place_of link.reference) → IsReferenceOf bounds files link.definition link.reference → IsIn link (links ++ others)
      parted link t (inl asked) refers = IsIn-append_left link links others (IsIn-from_Contains links link (are.all link t asked refers))
      parted link t (inr asked) refers = IsIn-append_right link links others (IsIn-from_Contains others link (more.all link t asked refers))

      left_out : (limit ≡ true) ⊎ (other ≡ true) → (at : NodeAt) × (IsAsked at ⊎ IsOther at) × IsSomeAnd (start files at) (HasLimit bounds files)
      left_out (inl t) = let k = are.limit_is.0 t in (k.0, inl k.1, k.2)
      left_out (inr t) = let k = more.limit_is.0 t in (k.0, inr k.1, k.2)

      flagged : (at : NodeAt) → IsAsked at ⊎ IsOther at → IsSomeAnd (start files at) (HasLimit bounds files) → IsTrue (limit || other)
      flagged at (inl asked) h = or_left limit other (are.limit_is.1 (at, asked, h))
      flagged at (inr asked) h = or_right limit other (more.limit_is.1 (at, asked, h))

      not_crowded : (at : NodeAt) → IsAsked at ⊎ IsOther at → IsSomeAnd (start files at) (IsCrowded bounds files) → ⊥
      not_crowded at (inl asked) h = are.few at asked h
      not_crowded at (inr asked) h = more.few at asked h

  -- the links of all references
  pub table_is : (links : List Link) (limit : Bool) → AreLinks bounds files Held (λ (at : NodeAt). IsIn at (references_from 0 files)) links limit → IsTable bounds files Held links limit
  table_is links limit are = record {
    sound = λ link h. (are.sound link h).1;
    all = λ link t refers. are.all link t (starts_listed files (place_of link.reference) (λ c. IsDefinitionFrom bounds files c link.definition) refers) refers;
    limit_is = (
      λ t. let k = are.limit_is.0 t in (k.0, k.2),
      λ h. are.limit_is.1 (h.0, starts_listed files h.0 (HasLimit bounds files) h.1, h.1),
    );
    few = λ h. are.few h.0 (starts_listed files h.0 (IsCrowded bounds files) h.1) h.1;
  }

  module _ (links : List Link) (limit : Bool) (table : IsTable bounds files Held links limit) where
    -- the references of definitions are those of their links
    row_refers : (definitions : List Hit) (hit : Hit) → IsIn hit (rows_of_any links definitions) → IsReferenceOfAny bounds files definitions hit
    row_refers definitions hit m =
        let k = any_linked links definitions hit m in
        some_so (start files (place_of hit)) (λ c. IsDefinitionFrom bounds files c k.0) (IsOneFrom bounds files definitions)
        (λ c d. (k.0, Contains-from_IsIn definitions k.0 k.1, d))
        (table.sound (link_of hit k.0) (Contains-from_IsIn links (link_of hit k.0) k.2))

    refers_row : (definitions : List Hit) (hit : Hit) → ((definition : Hit) → IsIn definition definitions → Held definition) → IsReferenceOfAny bounds files definitions hit → IsIn hit (rows_of_any links definitions)
    refers_row definitions hit covers h =
        let k = one_meant bounds files definitions (start files (place_of hit)) h in
        linked_any links definitions hit k.0 k.1 (IsIn-from_Contains links (link_of hit k.0) (table.all (link_of hit k.0) (covers k.0 k.1) k.2))

    pub are_references : (definitions rows : List Hit) → ((definition : Hit) → IsIn definition definitions → Held definition) → IsRising rows → ((hit : Hit) → Contains rows hit ↔ Contains (rows_of_any links definitions) hit)
        → AreRows (IsReferenceOfAny bounds files definitions) rows
    are_references definitions rows covers rising exact = record {
      rising = rising;
      exact = λ hit. (
        λ h. row_refers definitions hit (IsIn-from_Contains (rows_of_any links definitions) hit ((exact hit).0 h)),
        λ h. (exact hit).1 (Contains-from_IsIn (rows_of_any links definitions) hit (refers_row definitions hit covers h)),
      );
    }

    -- so there is a list of the references of each definition that is held
    pub references_alone : (definition : Hit) → Held definition → HasReferences bounds files definition
    references_alone definition t = (
      ordered (rows_of_one links definition),
      record {
        rising = ordered_rises (rows_of_one links definition);
        exact = λ hit. (
          λ h. table.sound (link_of hit definition) (Contains-from_IsIn links (link_of hit definition) (row_linked links definition hit
              (in_ordered (rows_of_one links definition) hit (IsIn-from_Contains (ordered (rows_of_one links definition)) hit h)))),
          λ h. Contains-from_IsIn (ordered (rows_of_one links definition)) hit (ordered_in (rows_of_one links definition) hit
              (linked_row links definition hit (IsIn-from_Contains links (link_of hit definition) (table.all (link_of hit definition) t h)))),
        );
      },
    )

-- where fewer are held
pub less_held : (bounds : Bounds) (files : List Graph) (Held Fewer : Hit → Type 0) (IsAsked : NodeAt → Type 0) (links : List Link) (limit : Bool)
    → ((definition : Hit) → Fewer definition → Held definition) → AreLinks bounds files Held IsAsked links limit → AreLinks bounds files Fewer IsAsked links limit
less_held bounds files Held Fewer IsAsked links limit so are = record {
  sound = are.sound;
  all = λ link t asked refers. are.all link (so link.definition t) asked refers;
  limit_is = are.limit_is;
  few = are.few;
}

pub kept_held : (bounds : Bounds) (files : List Graph) (definitions : List Hit) (IsAsked : NodeAt → Type 0) (old new : Links) → LetsGo definitions old new
    → AreFound bounds files definitions IsAsked old → AreLinks bounds files (IsHeld false definitions) IsAsked new.list.items old.limit
kept_held bounds files definitions IsAsked old new goes are = record {
  sound = λ link h. are.sound link ((goes.exact link).0 h).0;
  all = λ link t asked refers. left link t asked refers;
  limit_is = are.limit_is;
  few = are.few;
}
  where
    left : (link : Link) → IsHeld false definitions link.definition → IsAsked (place_of link.reference) → IsReferenceOf bounds files link.definition link.reference → Contains new.list.items link
    left link (inl t) asked refers = absurd (false≢true t)
    left link (inr m) asked refers = (goes.exact link).1 (are.all link (inr m) asked refers, m)

-- what tells of all definitions tells of whatever definitions
whole_told : (bounds : Bounds) (files : List Graph) (definitions others : List Hit) (told : Told) → is_whole told ≡ true → IsTold bounds files definitions told → IsTold bounds files others told
whole_told bounds files definitions others (said.Each links) t h = record {
  sound = h.sound;
  all = λ link _ refers. h.all link (inl t) refers;
  limit_is = h.limit_is;
  few = h.few;
}
whole_told bounds files definitions others said.Crowded t h = h

pub whole_known : (files : List Graph) (definitions : List Hit) (known : Known) → is_whole known.told ≡ true → IsKnownOf files definitions known → IsKnown files known
whole_known files definitions known t h = λ others. whole_told known.bounds files definitions others known.told t h

-- where all are kept, none of them is crowded
each_told : (bounds : Bounds) (files : List Graph) (told : Told) → is_each told ≡ true → IsTold bounds files [] told → IsAnyCrowded bounds files → ⊥
each_told bounds files (said.Each links) t h = h.few
each_told bounds files said.Crowded t h = absurd (false≢true t)

each_known : (files : List Graph) (known : Known) (bounds : Bounds) → known.bounds ≡ bounds → is_each known.told ≡ true → IsKnown files known → IsAnyCrowded bounds files → ⊥
each_known files known bounds same t h = subst (λ (b : Bounds). IsAnyCrowded b files → ⊥) same (each_told known.bounds files known.told t (h []))

pub each_seen : (view seen : List FileRow) (known : Known) (bounds : Bounds) → view ≡ seen → known.bounds ≡ bounds → is_each known.told ≡ true → IsKnown (graphs_seen view) known
    → IsAnyCrowded bounds (graphs_seen seen) → ⊥
each_seen view seen known bounds alike same t h =
    subst (λ (v : List FileRow). IsAnyCrowded bounds (graphs_seen v) → ⊥) alike (each_known (graphs_seen view) known bounds same t h)

-- the references that were found are the reply
pub references_told : (bounds : Bounds) (view : List FileRow) (definitions hits : List Hit) (limit : Bool) (answer : Answer)
    → AreRows (IsReferenceOfAny bounds (graphs_seen view) definitions) hits → IsTrue limit ↔ HasAnyLimit bounds (graphs_seen view) → (IsAnyCrowded bounds (graphs_seen view) → ⊥)
    → answer.rows ≡ map (row_of (graph_rows view)) hits → answer.limit ≡ limit → IsReplyToAny bounds (graph_rows view) definitions (Ok answer)
references_told bounds view definitions hits limit answer are flag few told same =
    subst (λ (gs : List Graph). IsReplyAbout (IsReferenceOfAny bounds gs definitions) (HasAnyLimit bounds gs) (IsAnyCrowded bounds gs) (graph_rows view) (Ok answer))
    (same_graphs view)
    (few, record { hits = hits; exact = are; told = told; limit = subst (λ (b : Bool). IsTrue b ↔ HasAnyLimit bounds (graphs_seen view)) (sym same) flag })

pub any_crowded_told : (bounds : Bounds) (view : List FileRow) (definitions : List Hit) → IsAnyCrowded bounds (graphs_seen view)
    → IsReplyToAny bounds (graph_rows view) definitions (Err Crowded)
any_crowded_told bounds view definitions h =
    subst (λ (gs : List Graph). IsReplyAbout (IsReferenceOfAny bounds gs definitions) (HasAnyLimit bounds gs) (IsAnyCrowded bounds gs) (graph_rows view) (Err Crowded))
    (same_graphs view) (h, refl)

pub references_there : (bounds : Bounds) (view : List FileRow) (definition : Hit) → HasReferences bounds (graphs_seen view) definition → HasReferences bounds (graphs_in (graph_rows view)) definition
references_there bounds view definition h = subst (λ (gs : List Graph). HasReferences bounds gs definition) (same_graphs view) h

-- the reply about one definition alone
only_one : (definition other : Hit) → Contains (definition ∷ []) other → other ≡ definition
only_one definition other h = by (IsIn-from_Contains (definition ∷ []) other h)
  where
    by : (other ≡ definition) ⊎ ⊥ → other ≡ definition
    by (inl e) = e
    by (inr m) = absurd m

of_one : (bounds : Bounds) (gs : List Graph) (definition : Hit) (rows : List Hit) → AreRows (IsReferenceOfAny bounds gs (definition ∷ [])) rows → AreRows (IsReferenceOf bounds gs definition) rows
of_one bounds gs definition rows are = record {
  rising = are.rising;
  exact = λ hit. (
    λ h. some_so (start gs (node_at hit.file hit.node)) (IsOneFrom bounds gs (definition ∷ [])) (λ c. IsDefinitionFrom bounds gs c definition)
        (λ c k. subst (IsDefinitionFrom bounds gs c) (only_one definition k.0 k.1) k.2) ((are.exact hit).0 h),
    λ h. (are.exact hit).1 (some_so (start gs (node_at hit.file hit.node)) (λ c. IsDefinitionFrom bounds gs c definition) (IsOneFrom bounds gs (definition ∷ []))
        (λ c k. (definition, Contains-from_IsIn (definition ∷ []) definition (inl refl), k)) h),
  );
}

pub reply_to_one : (bounds : Bounds) (rows : List GraphRow) (node : NodeAt) (reply : Result Answer AskFault)
    → IsReplyToAny bounds rows (hit_of node ∷ []) reply → IsReferenceReply bounds rows node reply
reply_to_one bounds rows node (Ok answer) h = (
  h.0,
  record { hits = h.1.hits; exact = of_one bounds (graphs_in rows) (hit_of node) h.1.hits h.1.exact; told = h.1.told; limit = h.1.limit },
)
reply_to_one bounds rows node (Err fault) h = h

pub told_to_one : (bounds : Bounds) (view : List FileRow) (hit : Hit) (node : NodeAt) (reply : Result Answer AskFault) → hit ≡ hit_of node
    → IsReplyToAny bounds (graph_rows view) (hit ∷ []) reply → IsReferenceReply bounds (graph_rows view) node reply
told_to_one bounds view hit node reply is h =
    reply_to_one bounds (graph_rows view) node reply (subst (λ (d : Hit). IsReplyToAny bounds (graph_rows view) (d ∷ []) reply) is h)

-- the reply about several, where what is kept tells it
pub told_to_any : (asked bounds : Bounds) (view seen : List FileRow) (definitions : List Hit) (reply : Result Answer AskFault) → asked ≡ bounds → view ≡ seen
    → IsReplyToAny asked (graph_rows view) definitions reply → IsReplyToAny bounds (graph_rows seen) definitions reply
told_to_any asked bounds view seen definitions reply same alike h =
    subst (λ (b : Bounds). IsReplyToAny b (graph_rows seen) definitions reply) same
    (subst (λ (v : List FileRow). IsReplyToAny asked (graph_rows v) definitions reply) alike h)

pub told_of_each : (asked bounds : Bounds) (view seen : List FileRow) (definitions : List Hit) (reply : Result Answer AskFault) → asked ≡ bounds → view ≡ seen
    → IfOk reply (λ _. (definition : Hit) → Contains definitions definition → HasReferences asked (graphs_in (graph_rows view)) definition)
    → IfOk reply (λ _. (definition : Hit) → Contains definitions definition → HasReferences bounds (graphs_in (graph_rows seen)) definition)
told_of_each asked bounds view seen definitions reply same alike h =
    subst (λ (b : Bounds). IfOk reply (λ _. (definition : Hit) → Contains definitions definition → HasReferences b (graphs_in (graph_rows seen)) definition)) same
    (subst (λ (v : List FileRow). IfOk reply (λ _. (definition : Hit) → Contains definitions definition → HasReferences asked (graphs_in (graph_rows v)) definition)) alike h)
