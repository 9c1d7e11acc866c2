-- Parts that were put into pools, and what parts behind them change.
use Rattle.std.proofs.Common.{◌≡◌, refl, sym, ◌∙◌, ap, subst, ℕ, ◌+◌, ◌-◌, ◌≤◌, List, [], ◌∷◌, ◌++◌, length, map, take, drop, min, arith, append_assoc, append-nil}
use Rattle.std.specs.Prelude.{All}
use Rattle.std.specs.List.{AllByRecursion}
use Rattle.std.proofs.lemmas.List.{length-append, length-drop, length-map, length-take, take-map, drop-map, drop-append-le, take-append-le, map_push}
use Rattle.std.proofs.lemmas.List.Elements.{All-from_recursion, recursion_from_All, All-push}
use Rattle.partial_path.specs.declared.config.EdgeAt.{EdgeAt}
use Rattle.partial_path.specs.declared.path_row.PathRow.{PathRow}
use Rattle.partial_path.specs.declared.pools.Pools.{Pools}
use Rattle.partial_path.specs.Rules.{Rule, IsRule, rule_of}
use Rattle.partial_path.specs.FileNumbers.{EdgeIn, edge_number, own_edge}
use Rattle.partial_path.specs.Pooled.{part_of, IsPartOf, IsPut, start_of, end_of, kept_tail, pre_of, post_of, rule_in, rules_in, Begins, AreAddedTo, IsRowIn, IsKept}

behind : {X : Type 0} (xs ys : List X) → drop (length xs) (xs ++ ys) ≡ ys
behind [] ys = refl
behind (x ∷ xs) ys = behind xs ys

whole : {X : Type 0} (xs : List X) → take (length xs) xs ≡ xs
whole [] = refl
whole (x ∷ xs) = ap (λ ys. x ∷ ys) (whole xs)

-- what is put behind the others is the part from there on
pub part_put : {X : Type 0} (from len : ℕ) (xs ys : List X) → from ≡ length xs → len ≡ length ys → part_of from len (xs ++ ys) ≡ ys
part_put from len xs ys first size =
    ap (λ n. take len (drop n (xs ++ ys))) first ∙ ap (take len) (behind xs ys) ∙ ap (λ n. take n ys) size ∙ whole ys

pub part_within : {X : Type 0} (from len : ℕ) (xs ys : List X) → from ≡ length xs → len ≡ length ys → IsPartOf from len (xs ++ ys)
part_within from len xs ys first size = let all : length (xs ++ ys) ≡ length xs + length ys = length-append xs ys in omega (arith, first, size, all)

-- the numbers of edges of file 0 tell these edges
pub own_edges : (es : List EdgeAt) → All (EdgeIn (λ file. file ≡ 0)) es → map own_edge (map edge_number es) ≡ es
own_edges es all = by_parts es (recursion_from_All (EdgeIn (λ file. file ≡ 0)) es all)
  where
    by_parts : (es : List EdgeAt) → AllByRecursion (EdgeIn (λ file. file ≡ 0)) es → map own_edge (map edge_number es) ≡ es
    by_parts [] all = refl
    by_parts (e ∷ es) all = λ i. record { file = sym all.0 i; edge = e.edge } ∷ by_parts es all.1 i

pub edges_put : (from len : ℕ) (ns : List ℕ) (es : List EdgeAt) → from ≡ length ns → len ≡ length es → All (EdgeIn (λ file. file ≡ 0)) es
    → map own_edge (part_of from len (ns ++ map edge_number es)) ≡ es
edges_put from len ns es first size own =
    ap (map own_edge) (part_put from len ns (map edge_number es) first (size ∙ sym (length-map es edge_number))) ∙ own_edges es own

pub edges_within : (from len : ℕ) (ns : List ℕ) (es : List EdgeAt) → from ≡ length ns → len ≡ length es → IsPartOf from len (ns ++ map edge_number es)
edges_within from len ns es first size = part_within from len ns (map edge_number es) first (size ∙ sym (length-map es edge_number))

-- a part stays as it is when more is put behind
part_more : {X : Type 0} (from len : ℕ) (xs more : List X) → IsPartOf from len xs → part_of from len (xs ++ more) ≡ part_of from len xs
part_more from len xs more h =
    let rest : length (drop from xs) ≡ length xs - from = length-drop from xs in
    ap (take len) (drop-append-le from xs more (omega (arith, h))) ∙ take-append-le len (drop from xs) more (omega (arith, h, rest))

part_kept : {X : Type 0} (from len : ℕ) (xs ys : List X) → Begins xs ys → IsPartOf from len xs → part_of from len ys ≡ part_of from len xs
part_kept from len xs ys begins h = ap (part_of from len) begins.1 ∙ part_more from len xs begins.0 h

still_within : {X : Type 0} (from len : ℕ) (xs ys : List X) → Begins xs ys → IsPartOf from len xs → IsPartOf from len ys
still_within from len xs ys begins h =
    let all : length ys ≡ length xs + length begins.0 = ap length begins.1 ∙ length-append xs begins.0 in omega (arith, h, all)

-- two lists put one behind the other stand there
pub begins_both : {X : Type 0} (xs mid new ys zs : List X) → mid ≡ xs ++ ys → new ≡ mid ++ zs → Begins xs new
begins_both xs mid new ys zs first second = (ys ++ zs, second ∙ ap (λ ms. ms ++ zs) first ∙ append_assoc xs ys zs)

pub first_put : {X : Type 0} (from len : ℕ) (mid new ys zs : List X) → IsPartOf from len mid → part_of from len mid ≡ ys → new ≡ mid ++ zs
    → IsPut from len new ys
first_put from len mid new ys zs within value more = record {
  within = still_within from len mid new (zs, more) within;
  value = part_kept from len mid new (zs, more) within ∙ value;
}

pub second_put : {X : Type 0} (from len place size : ℕ) (xs mid new ys zs : List X) → from ≡ length xs → len ≡ length ys → mid ≡ xs ++ ys
    → place ≡ length mid → IsPartOf place size new → part_of place size new ≡ zs → IsPut (from + len) size new zs
second_put from len place size xs mid new ys zs first count front behind within value =
    let all : length mid ≡ length xs + length ys = ap length front ∙ length-append xs ys in
    let same : place ≡ from + len = omega (arith, first, count, behind, all) in
    subst (λ (n : ℕ). IsPut n size new zs) same (record { within = within; value = value })

-- so do the paths of rows
row_same : (old new : Pools) (row : PathRow) → AreAddedTo old new → IsRowIn old row → rule_in new row ≡ rule_in old row
row_same old new row added h =
    let asked = part_kept row.asked_from row.asked old.asked.items new.asked.items added.asked h.asked in
    let fixed = part_kept row.nodes_from row.fixed old.nodes.items new.nodes.items added.nodes h.fixed in
    let made = part_kept row.made_from row.made old.made.items new.made.items added.made h.made in
    let scopes = part_kept (row.nodes_from + row.fixed) row.scopes old.nodes.items new.nodes.items added.nodes h.scopes in
    let edges = part_kept row.edges_from row.edges old.edges.items new.edges.items added.edges h.edges in
    λ i. rule_of (start_of row.start) (end_of row.end) (pre_of (asked i) (fixed i)) (post_of (made i) (scopes i) (kept_tail row.tail)) row.peak (map own_edge (edges i))

row_still : (old new : Pools) (row : PathRow) → AreAddedTo old new → IsRowIn old row → IsRowIn new row
row_still old new row added h = record {
  asked = still_within row.asked_from row.asked old.asked.items new.asked.items added.asked h.asked;
  fixed = still_within row.nodes_from row.fixed old.nodes.items new.nodes.items added.nodes h.fixed;
  made = still_within row.made_from row.made old.made.items new.made.items added.made h.made;
  scopes = still_within (row.nodes_from + row.fixed) row.scopes old.nodes.items new.nodes.items added.nodes h.scopes;
  edges = still_within row.edges_from row.edges old.edges.items new.edges.items added.edges h.edges;
  rule = subst IsRule (sym (row_same old new row added h)) h.rule;
}

rows_same : (old new : Pools) (rows : List PathRow) → AreAddedTo old new → AllByRecursion (IsRowIn old) rows → rules_in new rows ≡ rules_in old rows
rows_same old new [] added all = refl
rows_same old new (row ∷ rows) added all = λ i. row_same old new row added all.0 i ∷ rows_same old new rows added all.1 i

rows_still : (old new : Pools) (rows : List PathRow) → AreAddedTo old new → AllByRecursion (IsRowIn old) rows → AllByRecursion (IsRowIn new) rows
rows_still old new [] added all = tt
rows_still old new (row ∷ rows) added all = (row_still old new row added all.0, rows_still old new rows added all.1)

-- the rows are those of the paths, in their order
pub record AreKept (pools : Pools) (rows : List PathRow) (paths : List Rule) : Type 0 where
  pub rules : rules_in pools rows ≡ paths
  pub within : All (IsRowIn pools) rows

pub kept_none : (pools : Pools) (rows : List PathRow) → rows ≡ [] → AreKept pools rows []
kept_none pools rows none =
    subst (λ (rs : List PathRow). AreKept pools rs []) (sym none) (record { rules = refl; within = All-from_recursion (IsRowIn pools) [] tt })

-- a row more is that of the next path
pub kept_more : (old new : Pools) (rows : List PathRow) (row : PathRow) (paths : List Rule) (path : Rule)
    → AreKept old rows paths → AreAddedTo old new → IsKept new row path → AreKept new (rows ++ row ∷ []) (paths ++ path ∷ [])
kept_more old new rows row paths path kept added one = record {
  rules = map_push (rule_in new) rows row
      ∙ ap (λ rs. rs ++ rule_in new row ∷ []) (rows_same old new rows added (recursion_from_All (IsRowIn old) rows kept.within) ∙ kept.rules)
      ∙ ap (λ r. paths ++ r ∷ []) one.same;
  within = All-push (IsRowIn new) rows row (All-from_recursion (IsRowIn new) rows (rows_still old new rows added (recursion_from_All (IsRowIn old) rows kept.within))) one.within;
}

-- a path more that came from those that are left
pub one_came : (done rest next all : List Rule) (path : Rule) → rest ≡ path ∷ next → done ++ rest ≡ all → (done ++ path ∷ []) ++ next ≡ all
one_came done rest next all path is e = append_assoc done (path ∷ []) next ∙ ap (λ rs. done ++ rs) (sym is) ∙ e

-- none is left
pub all_came : (done rest all : List Rule) → length rest ≡ 0 → done ++ rest ≡ all → done ≡ all
all_came done [] all none e = sym (append-nil done) ∙ e
all_came done (path ∷ rest) all none e = absurd (omega arith)

-- the paths of the rows between two places are those of all rows between these places
pub rules_between : (pools : Pools) (rows : List PathRow) (low n : ℕ) → rules_in pools (take n (drop low rows)) ≡ take n (drop low (rules_in pools rows))
rules_between pools rows low n = sym (ap (take n) (drop-map (rule_in pools) low rows) ∙ take-map (rule_in pools) n (drop low rows))

pub length_between : (rules : List Rule) (low high : ℕ) → low ≤ high → high ≤ length rules → length (take (high - low) (drop low rules)) ≡ high - low
length_between rules low high rise within =
    let cut : length (take (high - low) (drop low rules)) ≡ min (high - low) (length (drop low rules)) = length-take (high - low) (drop low rules) in
    let rest : length (drop low rules) ≡ length rules - low = length-drop low rules in
    omega (arith, rise, within, cut, rest)

-- the row of a path whose parts were put into the pools
pub row_kept : (pools : Pools) (row : PathRow) (path : Rule) → IsPartOf row.asked_from row.asked pools.asked.items → IsPartOf row.nodes_from row.fixed pools.nodes.items
    → IsPartOf row.made_from row.made pools.made.items → IsPartOf (row.nodes_from + row.fixed) row.scopes pools.nodes.items → IsPartOf row.edges_from row.edges pools.edges.items
    → rule_in pools row ≡ path → IsRule path → IsKept pools row path
row_kept pools row path asked fixed made scopes edges same rule = record {
  within = record {
    asked = asked;
    fixed = fixed;
    made = made;
    scopes = scopes;
    edges = edges;
    rule = subst IsRule (sym same) rule;
  };
  same = same;
}
