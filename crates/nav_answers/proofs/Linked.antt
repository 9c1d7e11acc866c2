-- Links in their order: how they come into it, and that those to one definition stand together.
use Rattle.std.proofs.Common.{◌≡◌, refl, sym, ◌∙◌, ap, subst, ℕ, ◌+◌, ◌<◌, List, [], ◌∷◌, ◌++◌, take, drop, length, get_or, Bool, true, ◌&&◌, Contains, ◌↔◌, append_assoc, inl, inr, ◌⊎◌, map}
use Rattle.std.specs.Global.{Vec}
use Rattle.std.specs.Prelude.{filter, false}
use Rattle.std.specs.List.{AllByRecursion, dedup, prefix_len}
use Rattle.std.specs.List.Sorted.{IsStrictlySortedBy, IsSorted, IsPermutation, IsNonDecreasingBy, IsPartitionedBy}
use Rattle.std.specs.Cmp.{IsTotalOrder, IsEquivalence, tied_then}
use Rattle.std.specs.Ordering.{ordering_then, ordering_reverse, ordering_index, eq_by_cmp, is_lt, is_eq}
use Rattle.std.specs.declared.cmp.Ordering.{Ordering}
use Rattle.std.specs.declared.cmp.Ordering.TheVariants.{Less, Equal, Greater}
use Rattle.std.proofs.lemmas.Bool.{and_parts}
use Rattle.std.proofs.lemmas.Cmp.{then_total, on_total, on_equiv, and_equiv, tied_itself}
use Rattle.std.proofs.lemmas.List.{take_more, append-nil, map-append}
use Rattle.std.proofs.lemmas.List.Concat.{flat_map-append}
use Rattle.std.proofs.lemmas.List.Elements.{filter-append}
use Rattle.std.proofs.lemmas.List.Kept.{Contains-dedup, Contains-from_dedup, IsStrictlySortedBy-dedup}
use Rattle.std.proofs.lemmas.List.Sorted.{Contains-permutation, IsPermutation-sym, searchable_from_sorted}
use Rattle.list_facts.specs.Members.{IsIn}
use Rattle.list_facts.specs.Apart.{Pairs}
use Rattle.list_facts.proofs.Members.{IsIn-filter, IsIn-filter_from, IsIn-map, IsIn-map_from, IsIn-flat_map, IsIn-flat_map_from, IsIn-from_Contains, Contains-from_IsIn, at_member, each_member}
use Rattle.list_facts.proofs.Pairs.{Pairs-filter, Pairs-adjacent}
use Rattle.partial_path.proofs.Halved.{parted_before, parted_there, there_is}
use Rattle.whole_search.specs.declared.found.Hit.{Hit}
use Rattle.whole_search.specs.Answers.{IsRising}
use Rattle.whole_search.proofs.InOrder.{IsRising-from_sorted, by_place_total, same_place, same_place_equiv, same_place_ties, same_place_is}
use Rattle.nav_answers.specs.declared.links.Link.{Link}
use Rattle.nav_answers.specs.Links.{link_of, by_hit, by_link, link_side, is_before, is_link_to, links_in, references_among, rows_of_one, rows_of_any, links_to_one, links_to_any}

-- the order of links
by_link_total : IsTotalOrder by_link
by_link_total = then_total (on_total (λ (l : Link). l.definition) by_place_total) (on_total (λ (l : Link). l.reference) by_place_total)

-- whether two are the same
abbrev pub same_link : Link → Link → Bool
same_link a b = same_place a.definition b.definition && same_place a.reference b.reference

same_link_equiv : IsEquivalence same_link
same_link_equiv = and_equiv (on_equiv (λ (l : Link). l.definition) same_place_equiv) (on_equiv (λ (l : Link). l.reference) same_place_equiv)

same_link_ties : (a b : Link) → same_link a b ≡ eq_by_cmp by_link a b
same_link_ties a b =
    ap (λ x. x && same_place a.reference b.reference) (same_place_ties a.definition b.definition)
    ∙ (ap (λ x. is_eq (by_hit a.definition b.definition) && x) (same_place_ties a.reference b.reference)
    ∙ tied_then (by_hit a.definition b.definition) (by_hit a.reference b.reference))

same_link_is : (a b : Link) → same_link a b ≡ true → a ≡ b
same_link_is a b t =
    let p = and_parts (same_place a.definition b.definition) (same_place a.reference b.reference) t in
    let d = same_place_is a.definition b.definition p.0 in
    let r = same_place_is a.reference b.reference p.1 in
    λ i. record { definition = d i; reference = r i }

-- sorted links, each once, are in order, and are the links that they were
pub sorted_links : (sorted kept : List Link) → IsSorted by_link sorted → kept ≡ dedup same_link sorted → IsStrictlySortedBy by_link kept
sorted_links sorted kept h is =
    subst (IsStrictlySortedBy by_link) (sym is) (IsStrictlySortedBy-dedup by_link_total same_link_ties sorted h)

pub same_links : (list sorted kept : List Link) → IsPermutation list sorted → kept ≡ dedup same_link sorted → (link : Link) → Contains kept link ↔ Contains list link
same_links list sorted kept moved is link = (
  λ h. Contains-permutation sorted list link (IsPermutation-sym list sorted moved) (Contains-from_dedup same_link sorted link (subst (λ (xs : List Link). Contains xs link) is h)),
  λ h. subst (λ (xs : List Link). Contains xs link) (sym is) (Contains-dedup same_link_equiv same_link_is sorted link (Contains-permutation list sorted link moved h)),
)

-- whether a link is to a definition
pub to_it : (definition : Hit) (link : Link) → is_link_to definition link ≡ true → link.definition ≡ definition
to_it definition link t = same_place_is link.definition definition (same_place_ties link.definition definition ∙ t)

pub is_to_it : (definition : Hit) (link : Link) → link.definition ≡ definition → is_link_to definition link ≡ true
is_to_it definition link e = ap (λ (d : Hit). is_eq (by_hit d definition)) e ∙ ap is_eq (tied_itself by_place_total definition)

-- each two of them, the one before the other
abbrev IsBelow : Link → Link → Type 0
IsBelow a b = by_link a b ≡ Less

in_pairs : (list : List Link) → IsStrictlySortedBy by_link list → Pairs IsBelow list
unfolding IsStrictlySortedBy
in_pairs [] h = tt
in_pairs (link ∷ list) h = (h.0, in_pairs list h.1)

not_behind : (o p : Ordering) → ordering_then o p ≡ Less → is_lt (ordering_reverse o) ≡ false
not_behind Less p e = refl
not_behind Equal p e = refl
not_behind Greater p e = cc

definitions_rise : (a b : Link) → IsBelow a b → is_lt (by_hit b.definition a.definition) ≡ false
definitions_rise a b h =
    ap is_lt (by_place_total.antisymm b.definition a.definition) ∙ not_behind (by_hit a.definition b.definition) (by_hit a.reference b.reference) h

module _ (list : List Link) (order : IsStrictlySortedBy by_link list) (definition : Hit) where
  sides_rise : IsNonDecreasingBy (λ (link : Link). ordering_index (by_hit link.definition definition)) list
  sides_rise =
      searchable_from_sorted by_place_total (λ (link : Link). link.definition) list definition
      (λ k d low lt. definitions_rise (get_or list k d) (get_or list (k + 1) d) (Pairs-adjacent IsBelow list (in_pairs list order) k d lt))

  pub first_parted : IsPartitionedBy (is_before definition) list
  first_parted = parted_before (link_side definition) list sides_rise

  pub next_parted : IsPartitionedBy (is_link_to definition) (drop (prefix_len (is_before definition) list) list)
  next_parted = parted_there (link_side definition) list sides_rise

  pub links_found : take (prefix_len (is_link_to definition) (drop (prefix_len (is_before definition) list) list)) (drop (prefix_len (is_before definition) list) list) ≡ filter (is_link_to definition) list
  links_found = there_is (link_side definition) list sides_rise

-- the references of one definition more
pub rows_more : (list : List Link) (definitions : List Hit) (i : ℕ) (definition : Hit) (rows next : List Hit) → i < length definitions → definition ≡ get_or definitions i definition
    → rows ≡ rows_of_any list (take i definitions) → next ≡ rows ++ rows_of_one list definition → next ≡ rows_of_any list (take (i + 1) definitions)
rows_more list definitions i definition rows next inside is so_far more =
    more ∙ ap (λ rs. rs ++ rows_of_one list definition) so_far
    ∙ ap (λ rs. rows_of_any list (take i definitions) ++ rs) (sym (append-nil (rows_of_one list definition)))
    ∙ sym (flat_map-append (rows_of_one list) (take i definitions) (definition ∷ []))
    ∙ ap (λ (d : Hit). rows_of_any list (take i definitions ++ d ∷ [])) is
    ∙ ap (rows_of_any list) (sym (take_more definitions i definition inside))

-- those that one list more has
rows_both : (definition : Hit) (xs ys : List Link) → rows_of_one (xs ++ ys) definition ≡ rows_of_one xs definition ++ rows_of_one ys definition
rows_both definition xs ys =
    ap references_among (filter-append (is_link_to definition) xs ys) ∙ map-append (λ (link : Link). link.reference) (filter (is_link_to definition) xs) (filter (is_link_to definition) ys)

pub rows_in_more : (lists : List (Vec Link)) (i : ℕ) (list : Vec Link) (definition : Hit) (rows so_far next : List Hit) (links : List Link) → i < length lists → list ≡ get_or lists i list
    → so_far ≡ rows ++ rows_of_one (links_in (take i lists)) definition → links ≡ filter (is_link_to definition) list.items → next ≡ so_far ++ references_among links
    → next ≡ rows ++ rows_of_one (links_in (take (i + 1) lists)) definition
rows_in_more lists i list definition rows so_far next links inside is before are more =
    more ∙ ap (λ ls. so_far ++ references_among ls) are ∙ ap (λ rs. rs ++ rows_of_one list.items definition) before
    ∙ append_assoc rows (rows_of_one (links_in (take i lists)) definition) (rows_of_one list.items definition)
    ∙ ap (λ rs. rows ++ rs) (sym (rows_both definition (links_in (take i lists)) list.items))
    ∙ ap (λ ls. rows ++ rows_of_one (links_in (take i lists) ++ ls) definition) (sym (append-nil list.items))
    ∙ ap (λ ls. rows ++ rows_of_one ls definition) (sym (flat_map-append (λ (l : Vec Link). l.items) (take i lists) (list ∷ [])))
    ∙ ap (λ (l : Vec Link). rows ++ rows_of_one (links_in (take i lists ++ l ∷ [])) definition) is
    ∙ ap (λ ls. rows ++ rows_of_one (links_in ls) definition) (sym (take_more lists i list inside))

-- the references of a definition in an order, each once
abbrev put_by : Ordering → Hit → Hit → List Hit → List Hit → List Hit
put_by Less a b bs more = a ∷ b ∷ bs
put_by Equal a b bs more = b ∷ bs
put_by Greater a b bs more = b ∷ more

abbrev put : Hit → List Hit → List Hit
put a [] = a ∷ []
put a (b ∷ bs) = put_by (by_hit a b) a b bs (put a bs)

in_put : (a x : Hit) (bs : List Hit) → IsIn x (put a bs) → (x ≡ a) ⊎ IsIn x bs
in_put a x [] m = m
in_put a x (b ∷ bs) m = by (by_hit a b) (in_put a x bs) m
  where
    behind : (x ≡ a) ⊎ IsIn x bs → (x ≡ a) ⊎ IsIn x (b ∷ bs)
    behind (inl e) = inl e
    behind (inr m) = inr (inr m)

    by : (o : Ordering) → (IsIn x (put a bs) → (x ≡ a) ⊎ IsIn x bs) → IsIn x (put_by o a b bs (put a bs)) → (x ≡ a) ⊎ IsIn x (b ∷ bs)
    by Less rest m = m
    by Equal rest m = inr m
    by Greater rest (inl e) = inr (inl e)
    by Greater rest (inr m) = behind (rest m)

put_there : (a : Hit) (bs : List Hit) → IsIn a (put a bs)
put_there a [] = inl refl
put_there a (b ∷ bs) = by (by_hit a b) refl (put_there a bs)
  where
    by : (o : Ordering) → by_hit a b ≡ o → IsIn a (put a bs) → IsIn a (put_by o a b bs (put a bs))
    by Less e m = inl refl
    by Equal e m = inl (same_place_is a b (same_place_ties a b ∙ ap is_eq e))
    by Greater e m = inr m

put_keeps : (a x : Hit) (bs : List Hit) → IsIn x bs → IsIn x (put a bs)
put_keeps a x [] m = absurd m
put_keeps a x (b ∷ bs) m = by (by_hit a b) (put_keeps a x bs) m
  where
    by : (o : Ordering) → (IsIn x bs → IsIn x (put a bs)) → IsIn x (b ∷ bs) → IsIn x (put_by o a b bs (put a bs))
    by Less rest m = inr m
    by Equal rest m = m
    by Greater rest (inl e) = inl e
    by Greater rest (inr m) = inr (rest m)

-- it stays in order
put_rises : (a : Hit) (bs : List Hit) → IsStrictlySortedBy by_hit bs → IsStrictlySortedBy by_hit (put a bs)
unfolding IsStrictlySortedBy
put_rises a [] h = (tt, tt)
put_rises a (b ∷ bs) h = by (by_hit a b) refl (put_rises a bs h.1)
  where
    after : by_hit a b ≡ Less → (y : Hit) → IsIn y bs → by_hit a y ≡ Less
    after e y m = by_place_total.trans a b y e (at_member (λ (y : Hit). by_hit b y ≡ Less) y bs h.0 m)

    below : by_hit a b ≡ Greater → (y : Hit) → (y ≡ a) ⊎ IsIn y bs → by_hit b y ≡ Less
    below e y (inl same) = ap (by_hit b) same ∙ by_place_total.antisymm b a ∙ ap ordering_reverse e
    below e y (inr m) = at_member (λ (y : Hit). by_hit b y ≡ Less) y bs h.0 m

    by : (o : Ordering) → by_hit a b ≡ o → IsStrictlySortedBy by_hit (put a bs) → IsStrictlySortedBy by_hit (put_by o a b bs (put a bs))
    by Less e rest = ((e, each_member (λ (y : Hit). by_hit a y ≡ Less) bs (after e)), h)
    by Equal e rest = h
    by Greater e rest = (each_member (λ (y : Hit). by_hit b y ≡ Less) (put a bs) (λ y m. below e y (in_put a y bs m)), rest)

-- any nodes in order, each once
pub ordered : List Hit → List Hit
ordered [] = []
ordered (hit ∷ hits) = put hit (ordered hits)

ordered_sorted : (hits : List Hit) → IsStrictlySortedBy by_hit (ordered hits)
unfolding IsStrictlySortedBy ordered
ordered_sorted [] = tt
ordered_sorted (hit ∷ hits) = put_rises hit (ordered hits) (ordered_sorted hits)

pub ordered_rises : (hits : List Hit) → IsRising (ordered hits)
ordered_rises hits = IsRising-from_sorted (ordered hits) (ordered_sorted hits)

pub in_ordered : (hits : List Hit) (x : Hit) → IsIn x (ordered hits) → IsIn x hits
unfolding ordered
in_ordered [] x m = m
in_ordered (hit ∷ hits) x m = by (in_put hit x (ordered hits) m) (in_ordered hits x)
  where
    by : (x ≡ hit) ⊎ IsIn x (ordered hits) → (IsIn x (ordered hits) → IsIn x hits) → IsIn x (hit ∷ hits)
    by (inl e) rest = inl e
    by (inr m) rest = inr (rest m)

pub ordered_in : (hits : List Hit) (x : Hit) → IsIn x hits → IsIn x (ordered hits)
unfolding ordered
ordered_in [] x m = m
ordered_in (hit ∷ hits) x (inl e) = subst (λ (y : Hit). IsIn y (put hit (ordered hits))) (sym e) (put_there hit (ordered hits))
ordered_in (hit ∷ hits) x (inr m) = put_keeps hit x (ordered hits) (ordered_in hits x m)

-- the references of a definition are those of its links, and no others
pub row_linked : (list : List Link) (definition reference : Hit) → IsIn reference (rows_of_one list definition) → IsIn (link_of reference definition) list
row_linked list definition reference m =
    let k = IsIn-map_from (λ (link : Link). link.reference) reference (filter (is_link_to definition) list) m in
    let f = IsIn-filter_from (is_link_to definition) k.0 list k.1 in
    let d = to_it definition k.0 f.1 in
    let same : k.0 ≡ link_of reference definition = λ i. record { definition = d i; reference = k.2 i } in
    subst (λ (link : Link). IsIn link list) same f.0

pub linked_row : (list : List Link) (definition reference : Hit) → IsIn (link_of reference definition) list → IsIn reference (rows_of_one list definition)
linked_row list definition reference m =
    IsIn-map (λ (link : Link). link.reference) (link_of reference definition) (filter (is_link_to definition) list)
    (IsIn-filter (is_link_to definition) (link_of reference definition) list m (is_to_it definition (link_of reference definition) refl))

-- and so it is of several
pub any_linked : (list : List Link) (definitions : List Hit) (reference : Hit) → IsIn reference (rows_of_any list definitions)
    → (definition : Hit) × IsIn definition definitions × IsIn (link_of reference definition) list
any_linked list definitions reference m =
    let k = IsIn-flat_map_from (rows_of_one list) reference definitions m in (k.0, k.1, row_linked list k.0 reference k.2)

pub linked_any : (list : List Link) (definitions : List Hit) (reference definition : Hit) → IsIn definition definitions → IsIn (link_of reference definition) list
    → IsIn reference (rows_of_any list definitions)
linked_any list definitions reference definition m k =
    IsIn-flat_map (rows_of_one list) definition reference definitions m (linked_row list definition reference k)

-- the links to one definition more
pub links_more : (list links : List Link) (definitions : List Hit) (i : ℕ) (d : Hit) (so_far next : List Link) → i < length definitions → so_far ≡ links_to_any list (take i definitions)
    → links ≡ filter (is_link_to (get_or definitions i d)) list → next ≡ so_far ++ links → next ≡ links_to_any list (take (i + 1) definitions)
links_more list links definitions i d so_far next inside before are more =
    more ∙ ap (λ (ls : List Link). so_far ++ ls) are ∙ ap (λ (ls : List Link). ls ++ links_to_one list (get_or definitions i d)) before
    ∙ ap (λ (ls : List Link). links_to_any list (take i definitions) ++ ls) (sym (append-nil (links_to_one list (get_or definitions i d))))
    ∙ sym (flat_map-append (links_to_one list) (take i definitions) (get_or definitions i d ∷ []))
    ∙ ap (links_to_any list) (sym (take_more definitions i d inside))

-- the links to some definitions are those that are to one of them
any_to : (list : List Link) (definitions : List Hit) (link : Link) → IsIn link (links_to_any list definitions) → IsIn link list × IsIn link.definition definitions
any_to list definitions link m =
    let k = IsIn-flat_map_from (links_to_one list) link definitions m in
    let f = IsIn-filter_from (is_link_to k.0) link list k.2 in
    (f.0, subst (λ (d : Hit). IsIn d definitions) (sym (to_it k.0 link f.1)) k.1)

to_any : (list : List Link) (definitions : List Hit) (link : Link) → IsIn link list → IsIn link.definition definitions → IsIn link (links_to_any list definitions)
to_any list definitions link h m =
    IsIn-flat_map (links_to_one list) link.definition link definitions m
    (IsIn-filter (is_link_to link.definition) link list h (is_to_it link.definition link refl))

pub links_left : (definitions : List Hit) (old sorted kept : List Link) → ((link : Link) → Contains sorted link ↔ Contains old link) → kept ≡ links_to_any sorted definitions
    → (link : Link) → Contains kept link ↔ (Contains old link × IsIn link.definition definitions)
links_left definitions old sorted kept same is link = (
  λ h. let k = any_to sorted definitions link (subst (λ (ls : List Link). IsIn link ls) is (IsIn-from_Contains kept link h)) in
      ((same link).0 (Contains-from_IsIn sorted link k.0), k.1),
  λ h. Contains-from_IsIn kept link
      (subst (λ (ls : List Link). IsIn link ls) (sym is) (to_any sorted definitions link (IsIn-from_Contains sorted link ((same link).1 h.0)) h.1)),
)
