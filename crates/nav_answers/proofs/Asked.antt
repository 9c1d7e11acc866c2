-- The references of files: which they are, in which order, and that the code lists them.
use Rattle.std.proofs.Common.{◌≡◌, refl, sym, ◌∙◌, ap, subst, ℕ, zero, suc, ◌+◌, ◌<◌, ◌≤◌, List, [], ◌∷◌, ◌++◌, length, drop, Bool, true, false, cond, if◌then◌else◌, Option, Some, None, IsSomeAnd, slice_get, inl, inr, ◌⊎◌, append_assoc, take, set, arith}
use Rattle.std.specs.List.{AllByRecursion}
use Rattle.std.specs.Option.{option_and_then, option_map_or}
use Rattle.std.proofs.lemmas.List.{drop_more, append-nil, take-set, take_more_set}
use Rattle.std.proofs.lemmas.Option.{none-some, same_Some, slice_get_within, slice_get_cases, get_or_from_slice_get}
use Rattle.std.proofs.Math.ListN.{drop_of_length-le}
use mir.Val.{bool_byte}
use Rattle.graph_nodes.specs.declared.node.Node.{Node}
use Rattle.graph_nodes.specs.Graph.{Graph, is_reference, is_reference_kind}
use Rattle.stacks_vars.specs.declared.scopes.NodeAt.{NodeAt}
use Rattle.stacks_vars.specs.Enter.{no_stacks}
use Rattle.partial_path.specs.declared.config.Config.{Config}
use Rattle.partial_path.specs.Spots.{node_at}
use Rattle.partial_path.specs.Step.{start, start_at, enter_node}
use Rattle.whole_search.specs.Answers.{ComesBefore}
use Rattle.list_facts.specs.Members.{IsIn}
use Rattle.list_facts.specs.Apart.{Pairs}
use Rattle.list_facts.proofs.Members.{IsIn-append_left, IsIn-append_right, IsIn-append_cases, each_member}
use Rattle.list_facts.proofs.Pairs.{Pairs-append}
use Rattle.nav_answers.specs.Replies.{hit_of}
use Rattle.nav_answers.specs.Asking.{references_in, references_from, IsReferenceIn}

-- listing them
one_node : (file n : ℕ) (nodes : List Node) (node : Node) → slice_get nodes n ≡ Some node
    → references_in file n (drop n nodes) ≡ (if is_reference_kind node.kind then node_at file n ∷ [] else []) ++ references_in file (n + 1) (drop (n + 1) nodes)
one_node file n nodes node e =
    ap (references_in file n) (drop_more nodes n node (slice_get_within nodes n node e))
    ∙ ap (λ (d : Node). (if is_reference_kind d.kind then node_at file n ∷ [] else []) ++ references_in file (n + 1) (drop (n + 1) nodes)) (get_or_from_slice_get nodes n node node e)

-- a node that is a reference, and one that is none
node_listed : (file n : ℕ) (nodes : List Node) (node : Node) (xs : List NodeAt) → slice_get nodes n ≡ Some node → is_reference_kind node.kind ≡ true
    → xs ++ references_in file n (drop n nodes) ≡ (xs ++ node_at file n ∷ []) ++ references_in file (n + 1) (drop (n + 1) nodes)
node_listed file n nodes node xs e is =
    ap (λ ys. xs ++ ys) (one_node file n nodes node e ∙ ap (λ b. cond b (node_at file n ∷ []) [] ++ references_in file (n + 1) (drop (n + 1) nodes)) is)
    ∙ sym (append_assoc xs (node_at file n ∷ []) (references_in file (n + 1) (drop (n + 1) nodes)))

node_passed : (file n : ℕ) (nodes : List Node) (node : Node) (xs : List NodeAt) → slice_get nodes n ≡ Some node → is_reference_kind node.kind ≡ false
    → xs ++ references_in file n (drop n nodes) ≡ xs ++ references_in file (n + 1) (drop (n + 1) nodes)
node_passed file n nodes node xs e is =
    ap (λ ys. xs ++ ys) (one_node file n nodes node e ∙ ap (λ b. cond b (node_at file n ∷ []) [] ++ references_in file (n + 1) (drop (n + 1) nodes)) is)

-- the same by what stands at the position
as_kind : (nodes : List Node) (n : ℕ) (node : Node) (b : Bool) → slice_get nodes n ≡ Some node → is_reference nodes n ≡ b → is_reference_kind node.kind ≡ b
as_kind nodes n node b e is = sym (ap (λ (o : Option Node). option_map_or (λ (x : Node). is_reference_kind x.kind) o false) e) ∙ is

pub place_listed : (file n : ℕ) (nodes : List Node) (xs : List NodeAt) → n < length nodes → is_reference nodes n ≡ true
    → xs ++ references_in file n (drop n nodes) ≡ (xs ++ node_at file n ∷ []) ++ references_in file (n + 1) (drop (n + 1) nodes)
place_listed file n nodes xs lt is = elim (slice_get_cases nodes n).1 [
  | inl found ↦ node_listed file n nodes found.0 xs found.2 (as_kind nodes n found.0 true found.2 is)
  | inr past ↦ absurd (omega (arith, past.0, lt))
]

pub place_passed : (file n : ℕ) (nodes : List Node) (xs : List NodeAt) → n < length nodes → is_reference nodes n ≡ false
    → xs ++ references_in file n (drop n nodes) ≡ xs ++ references_in file (n + 1) (drop (n + 1) nodes)
place_passed file n nodes xs lt is = elim (slice_get_cases nodes n).1 [
  | inl found ↦ node_passed file n nodes found.0 xs found.2 (as_kind nodes n found.0 false found.2 is)
  | inr past ↦ absurd (omega (arith, past.0, lt))
]

-- what is counted for one node
pub counts_one : (b : Bool) → bool_byte b ≤ 1
counts_one true = omega arith
counts_one false = omega arith

-- A node is put down behind those that were found, and counts where it is a reference.
put_one : (file n : ℕ) (nodes : List Node) (found : List NodeAt) (count : ℕ) (b : Bool) → n < length nodes → count < length found → is_reference nodes n ≡ b
    → take (count + bool_byte b) (set found count (node_at file n)) ++ references_in file (n + 1) (drop (n + 1) nodes) ≡ take count found ++ references_in file n (drop n nodes)
put_one file n nodes found count true lt room is =
    ap (λ xs. xs ++ references_in file (n + 1) (drop (n + 1) nodes)) (take_more_set found count (node_at file n) room) ∙ sym (place_listed file n nodes (take count found) lt is)
put_one file n nodes found count false lt room is =
    let none : count + 0 ≡ count = omega arith in
    ap (λ k. take k (set found count (node_at file n)) ++ references_in file (n + 1) (drop (n + 1) nodes)) none
    ∙ ap (λ xs. xs ++ references_in file (n + 1) (drop (n + 1) nodes)) (take-set found count (node_at file n))
    ∙ sym (place_passed file n nodes (take count found) lt is)

pub put_down : (file n : ℕ) (nodes : List Node) (found : List NodeAt) (count more : ℕ) (b : Bool) → n < length nodes → count < length found → is_reference nodes n ≡ b → more ≡ bool_byte b
    → take (count + more) (set found count (node_at file n)) ++ references_in file (n + 1) (drop (n + 1) nodes) ≡ take count found ++ references_in file n (drop n nodes)
put_down file n nodes found count more b lt room is counted =
    ap (λ k. take (count + k) (set found count (node_at file n)) ++ references_in file (n + 1) (drop (n + 1) nodes)) counted ∙ put_one file n nodes found count b lt room is

pub nodes_over : (file n : ℕ) (nodes : List Node) (xs : List NodeAt) → length nodes ≤ n → xs ++ references_in file n (drop n nodes) ≡ xs
nodes_over file n nodes xs h = ap (λ ns. xs ++ references_in file n ns) (drop_of_length-le nodes h) ∙ append-nil xs

-- a file
pub file_listed : (m : ℕ) (files : List Graph) (g : Graph) (xs : List NodeAt) → slice_get files m ≡ Some g
    → xs ++ references_from m (drop m files) ≡ (xs ++ references_in m 0 g.nodes) ++ references_from (m + 1) (drop (m + 1) files)
file_listed m files g xs e =
    ap (λ fs. xs ++ references_from m fs) (drop_more files m g (slice_get_within files m g e))
    ∙ ap (λ (h : Graph). xs ++ (references_in m 0 h.nodes ++ references_from (m + 1) (drop (m + 1) files))) (get_or_from_slice_get files m g g e)
    ∙ sym (append_assoc xs (references_in m 0 g.nodes) (references_from (m + 1) (drop (m + 1) files)))

pub files_over : (m : ℕ) (files : List Graph) (xs : List NodeAt) → length files ≤ m → xs ++ references_from m (drop m files) ≡ xs
files_over m files xs h = ap (λ fs. xs ++ references_from m fs) (drop_of_length-le files h) ∙ append-nil xs

-- where a reference that is listed stands
pub record IsNodeOf (file n : ℕ) (nodes : List Node) (at : NodeAt) : Type 0 where
  pub file_is : at.file ≡ file
  pub place : ℕ
  pub node_is : at.node ≡ n + place
  pub reference : is_reference nodes place ≡ true

later_node : (file n : ℕ) (node : Node) (nodes : List Node) (at : NodeAt) → IsNodeOf file (n + 1) nodes at → IsNodeOf file n (node ∷ nodes) at
later_node file n node nodes at h =
    let far = h.node_is in record { file_is = h.file_is; place = suc h.place; node_is = omega arith; reference = h.reference }

first_node : (file n : ℕ) (node : Node) (nodes : List Node) (at : NodeAt) (b : Bool) → is_reference_kind node.kind ≡ b → IsIn at (cond b (node_at file n ∷ []) []) → IsNodeOf file n (node ∷ nodes) at
first_node file n node nodes at true e (inl same) = record {
  file_is = ap (λ (a : NodeAt). a.file) same;
  place = 0;
  node_is = (let is : at.node ≡ n = ap (λ (a : NodeAt). a.node) same in omega arith);
  reference = e;
}
first_node file n node nodes at true e (inr m) = absurd m
first_node file n node nodes at false e m = absurd m

listed_in : (file n : ℕ) (nodes : List Node) (at : NodeAt) → IsIn at (references_in file n nodes) → IsNodeOf file n nodes at
listed_in file n [] at m = absurd m
listed_in file n (node ∷ nodes) at m =
    by (IsIn-append_cases at (if is_reference_kind node.kind then node_at file n ∷ [] else []) (references_in file (n + 1) nodes) m) (λ k. listed_in file (n + 1) nodes at k)
  where
    by : IsIn at (cond (is_reference_kind node.kind) (node_at file n ∷ []) []) ⊎ IsIn at (references_in file (n + 1) nodes) → (IsIn at (references_in file (n + 1) nodes) → IsNodeOf file (n + 1) nodes at) → IsNodeOf file n (node ∷ nodes) at
    by (inl h) more = first_node file n node nodes at (is_reference_kind node.kind) refl h
    by (inr h) more = later_node file n node nodes at (more h)

pub record IsFileOf (m : ℕ) (files : List Graph) (at : NodeAt) : Type 0 where
  pub place : ℕ
  pub file_is : at.file ≡ m + place
  pub graph : Graph
  pub there : slice_get files place ≡ Some graph
  pub reference : is_reference graph.nodes at.node ≡ true

listed_from : (m : ℕ) (files : List Graph) (at : NodeAt) → IsIn at (references_from m files) → IsFileOf m files at
listed_from m [] at h = absurd h
listed_from m (g ∷ files) at h =
    by (IsIn-append_cases at (references_in m 0 g.nodes) (references_from (m + 1) files) h) (λ k. listed_from (m + 1) files at k)
  where
    by : IsIn at (references_in m 0 g.nodes) ⊎ IsIn at (references_from (m + 1) files) → (IsIn at (references_from (m + 1) files) → IsFileOf (m + 1) files at) → IsFileOf m (g ∷ files) at
    by (inl k) more =
        let node = listed_in m 0 g.nodes at k in
        let here = node.file_is in
        let place : at.node ≡ node.place = (let far = node.node_is in omega arith) in
        record { place = 0; file_is = omega arith; graph = g; there = refl; reference = ap (is_reference g.nodes) place ∙ node.reference }
    by (inr k) more =
        let f = more k in
        let far = f.file_is in
        record { place = suc f.place; file_is = omega arith; graph = f.graph; there = f.there; reference = f.reference }

listed_is : (files : List Graph) (at : NodeAt) → IsFileOf 0 files at → IsReferenceIn files at
listed_is files at f =
    let here : at.file ≡ f.place = (let far = f.file_is in omega arith) in
    ap (λ k. option_map_or (λ (g : Graph). is_reference g.nodes at.node) (slice_get files k) false) here
    ∙ ap (λ o. option_map_or (λ (g : Graph). is_reference g.nodes at.node) o false) f.there ∙ f.reference

-- all that are listed are references
pub all_are : (files : List Graph) → AllByRecursion (IsReferenceIn files) (references_from 0 files)
all_are files = each_member (IsReferenceIn files) (references_from 0 files) (λ at m. listed_is files at (listed_from 0 files at m))

-- a reference is listed
in_nodes : (file n : ℕ) (nodes : List Node) (k : ℕ) (node : Node) → slice_get nodes k ≡ Some node → is_reference_kind node.kind ≡ true → IsIn (node_at file (n + k)) (references_in file n nodes)
in_nodes file n [] zero node e is = absurd (none-some node e)
in_nodes file n [] (suc k) node e is = absurd (none-some node e)
in_nodes file n (x ∷ nodes) zero node e is =
    let same : x ≡ node = same_Some x node e in
    let here : n ≡ n + 0 = omega arith in
    IsIn-append_left (node_at file (n + 0)) (if is_reference_kind x.kind then node_at file n ∷ [] else []) (references_in file (n + 1) nodes)
    (subst (λ (b : Bool). IsIn (node_at file (n + 0)) (cond b (node_at file n ∷ []) [])) (sym (ap (λ (y : Node). is_reference_kind y.kind) same ∙ is)) (inl (ap (node_at file) (sym here))))
in_nodes file n (x ∷ nodes) (suc k) node e is =
    let next : (n + 1) + k ≡ n + suc k = omega arith in
    IsIn-append_right (node_at file (n + suc k)) (if is_reference_kind x.kind then node_at file n ∷ [] else []) (references_in file (n + 1) nodes)
    (subst (λ j. IsIn (node_at file j) (references_in file (n + 1) nodes)) next (in_nodes file (n + 1) nodes k node e is))

in_files : (m : ℕ) (files : List Graph) (k : ℕ) (g : Graph) (n : ℕ) (node : Node) → slice_get files k ≡ Some g → slice_get g.nodes n ≡ Some node → is_reference_kind node.kind ≡ true
    → IsIn (node_at (m + k) n) (references_from m files)
in_files m [] zero g n node e h is = absurd (none-some g e)
in_files m [] (suc k) g n node e h is = absurd (none-some g e)
in_files m (f ∷ files) zero g n node e h is =
    let here : m ≡ m + 0 = omega arith in
    let none : 0 + n ≡ n = omega arith in
    IsIn-append_left (node_at (m + 0) n) (references_in m 0 f.nodes) (references_from (m + 1) files)
    (subst (λ j. IsIn (node_at j n) (references_in m 0 f.nodes)) here
    (subst (λ j. IsIn (node_at m j) (references_in m 0 f.nodes)) none (in_nodes m 0 f.nodes n node (ap (λ (y : Graph). slice_get y.nodes n) (same_Some f g e) ∙ h) is)))
in_files m (f ∷ files) (suc k) g n node e h is =
    let next : (m + 1) + k ≡ m + suc k = omega arith in
    IsIn-append_right (node_at (m + suc k) n) (references_in m 0 f.nodes) (references_from (m + 1) files)
    (subst (λ j. IsIn (node_at j n) (references_from (m + 1) files)) next (in_files (m + 1) files k g n node e h is))

-- a node from which paths start is listed
pub starts_listed : (files : List Graph) (at : NodeAt) (P : Config → Type 0) → IsSomeAnd (start files at) P → IsIn at (references_from 0 files)
starts_listed files at P h = in_graph (slice_get files at.file) refl h
  where
    of_kind : (g : Graph) (node : Node) → slice_get files at.file ≡ Some g → slice_get g.nodes at.node ≡ Some node → (b : Bool) → is_reference_kind node.kind ≡ b
        → IsSomeAnd (cond b (enter_node at node no_stacks) None) P → IsIn at (references_from 0 files)
    of_kind g node there here true is k =
        let none : 0 + at.file ≡ at.file = omega arith in
        subst (λ j. IsIn (node_at j at.node) (references_from 0 files)) none (in_files 0 files at.file g at.node node there here is)
    of_kind g node there here false is k = absurd k

    of_node : (g : Graph) → slice_get files at.file ≡ Some g → (q : Option Node) → slice_get g.nodes at.node ≡ q → IsSomeAnd (option_and_then (start_at at) q) P → IsIn at (references_from 0 files)
    of_node g there None here k = absurd k
    of_node g there (Some node) here k = of_kind g node there here (is_reference_kind node.kind) refl k

    in_graph : (o : Option Graph) → slice_get files at.file ≡ o → IsSomeAnd (option_and_then (start_at at) (option_and_then (λ (g : Graph). slice_get g.nodes at.node) o)) P → IsIn at (references_from 0 files)
    in_graph None there k = absurd k
    in_graph (Some g) there k = of_node g there (slice_get g.nodes at.node) refl k

-- they come in file order
abbrev pub IsBefore : NodeAt → NodeAt → Type 0
IsBefore a b = ComesBefore (hit_of a) (hit_of b)

in_order_in : (file n : ℕ) (nodes : List Node) → Pairs IsBefore (references_in file n nodes)
in_order_in file n [] = tt
in_order_in file n (node ∷ nodes) = by (is_reference_kind node.kind) (in_order_in file (n + 1) nodes) (each_member (IsBefore (node_at file n)) (references_in file (n + 1) nodes) behind)
  where
    behind : (at : NodeAt) → IsIn at (references_in file (n + 1) nodes) → IsBefore (node_at file n) at
    behind at m =
        let h = listed_in file (n + 1) nodes at m in
        let far = h.node_is in
        inr (sym h.file_is, omega arith)

    by : (b : Bool) → Pairs IsBefore (references_in file (n + 1) nodes) → AllByRecursion (IsBefore (node_at file n)) (references_in file (n + 1) nodes) → Pairs IsBefore (cond b (node_at file n ∷ []) [] ++ references_in file (n + 1) nodes)
    by true rest all = (all, rest)
    by false rest all = rest

pub in_order : (m : ℕ) (files : List Graph) → Pairs IsBefore (references_from m files)
in_order m [] = tt
in_order m (g ∷ files) =
    Pairs-append IsBefore (references_in m 0 g.nodes) (references_from (m + 1) files) (in_order_in m 0 g.nodes) (in_order (m + 1) files)
    (λ a b ma mb.
    let p = (listed_in m 0 g.nodes a ma).file_is in
    let f = listed_from (m + 1) files b mb in
    let q = f.file_is in
    inl (omega arith))
