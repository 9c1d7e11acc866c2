-- Which paths may end at a spot: whatever the stack, or by the stack.
use Rattle.std.proofs.Common.{◌≡◌, refl, sym, ◌∙◌, ap, subst, ℕ, zero, suc, ◌+◌, List, [], ◌∷◌, map, filter, Bool, true, false, Some, arith, ◌⊎◌, inl, inr, slice_get, All}
use Rattle.std.specs.Prelude.{◌&&◌, ◌||◌, nat_eq}
use Rattle.std.proofs.lemmas.Bool.{false≢true, and_parts}
use Rattle.std.proofs.lemmas.Bool.Decides.{nat_tests}
use Rattle.std.proofs.lemmas.Option.{none-some, same_Some}
use Rattle.std.proofs.lemmas.List.Elements.{All-tail}
use Rattle.list_facts.specs.Apart.{IsApart}
use Rattle.list_facts.proofs.Apart.{absent, all_differ}
use Rattle.list_facts.specs.Members.{IsIn}
use Rattle.list_facts.proofs.Members.{IsIn-append_left, IsIn-append_right, IsIn-append_cases, IsIn-map, IsIn-map_from, IsIn-filter, IsIn-filter_from}
use Rattle.graph_nodes.specs.Graph.{Graph}
use Rattle.stacks_vars.specs.declared.scopes.NodeAt.{NodeAt}
use Rattle.partial_path.specs.declared.config.Spot.{Spot}
use Rattle.partial_path.specs.declared.config.Spot.TheVariants as spot
use Rattle.partial_path.specs.declared.rule.End.{End}
use Rattle.partial_path.specs.declared.rule.End.TheVariants as end
use Rattle.partial_path.specs.Rules.{Rule}
use Rattle.partial_path.specs.Moved.{moved, moved_end, moved_node}
use Rattle.partial_path.specs.FileNumbers.{IsOfFileZero, EndIn, NodeIn}
use Rattle.partial_path.specs.Same.{spot_eq}
use Rattle.partial_path.specs.PathSets.{FileRules, walk_of_rule}
use Rattle.partial_path.specs.Sources.{IsSourceFile, graphs_of, numbered}
use Rattle.back_stitch.specs.Sources.{is_exported_spot, may_end, may_end_at, rules_to_in, rules_to_after, rules_to}
use Rattle.partial_path.specs.Ends.{is_root_end, is_stack_end, ends_by_stack}
use Rattle.end_index.specs.Looks.{ends_there, ends_inside}

-- a stored path with its file's number
abbrev pub P : Type 0
P = ℕ × Rule

-- the path is one of that file's, and ends there
pub record IsEndingIn (graphs : List Graph) (at : Spot) (i : ℕ) (files : List FileRules) (p : P) : Type 0 where
  pub file : FileRules
  pub found : slice_get files i ≡ Some file
  pub stored : IsIn p.1 file.rules
  pub ends : may_end_at graphs at (moved p.0 p.1) ≡ true

-- the paths that may end at a spot, one by one
module _ (graphs : List Graph) (at : Spot) where
  abbrev Ends_there : ℕ → Rule → Bool
  Ends_there n rule = may_end_at graphs at (moved n rule)

  rules_from : (first : ℕ) (files : List FileRules) (p : P) → IsIn p (rules_to_after graphs first files at)
      → (i : ℕ) × (p.0 ≡ first + i) × IsEndingIn graphs at i files p
  rules_from first [] p h = absurd h
  rules_from first (f ∷ files) p h = by (IsIn-append_cases p (rules_to_in graphs first f at) (rules_to_after graphs (first + 1) files at) h) (λ g. rules_from (first + 1) files p g)
    where
      by : IsIn p (rules_to_in graphs first f at) ⊎ IsIn p (rules_to_after graphs (first + 1) files at)
          → (IsIn p (rules_to_after graphs (first + 1) files at) → (i : ℕ) × (p.0 ≡ (first + 1) + i) × IsEndingIn graphs at i files p)
          → (i : ℕ) × (p.0 ≡ first + i) × IsEndingIn graphs at i (f ∷ files) p
      by (inl g) on =
          let (rule, there, is) = IsIn-map_from (numbered first) p (filter (Ends_there first) f.rules) g in
          let both = IsIn-filter_from (Ends_there first) rule f.rules there in
          let number : first ≡ p.0 = ap (λ (q : P). q.0) is in
          let same : rule ≡ p.1 = ap (λ (q : P). q.1) is in (
            zero,
            omega (arith, number),
            record {
              file = f;
              found = refl;
              stored = subst (λ (r : Rule). IsIn r f.rules) same both.0;
              ends = (λ k. may_end_at graphs at (moved (sym number k) (sym same k))) ∙ both.1;
            },
          )
      by (inr g) on =
          let (i, number, e) = on g in (suc i, omega (arith, number), record { file = e.file; found = e.found; stored = e.stored; ends = e.ends })

  rules_into : (first : ℕ) (files : List FileRules) (i : ℕ) (p : P) → p.0 ≡ first + i → IsEndingIn graphs at i files p → IsIn p (rules_to_after graphs first files at)
  rules_into first [] i p number e = absurd (none-some e.file e.found)
  rules_into first (f ∷ files) zero p number e =
      let same : f ≡ e.file = same_Some f e.file e.found in
      let first_is : p.0 ≡ first = omega (arith, number) in
      IsIn-append_left p (rules_to_in graphs first f at) (rules_to_after graphs (first + 1) files at)
      (subst (λ n. IsIn p (rules_to_in graphs n f at)) first_is
      (IsIn-map (numbered p.0) p.1 (filter (Ends_there p.0) f.rules)
      (IsIn-filter (Ends_there p.0) p.1 f.rules (subst (λ (g : FileRules). IsIn p.1 g.rules) (sym same) e.stored) e.ends)))
  rules_into first (f ∷ files) (suc i) p number e =
      IsIn-append_right p (rules_to_in graphs first f at) (rules_to_after graphs (first + 1) files at)
      (rules_into (first + 1) files i p (omega (arith, number)) (record { file = e.file; found = e.found; stored = e.stored; ends = e.ends }))

pub ending_from : (files : List FileRules) (at : Spot) (p : P) → IsIn p (rules_to files at) → IsEndingIn (graphs_of files) at p.0 files p
ending_from files at p h =
    let (i, number, e) = rules_from (graphs_of files) at 0 files p h in
    let same : i ≡ p.0 = omega (arith, number) in
    subst (λ n. IsEndingIn (graphs_of files) at n files p) same e

pub ending_into : (files : List FileRules) (at : Spot) (p : P) → IsEndingIn (graphs_of files) at p.0 files p → IsIn p (rules_to files at)
ending_into files at p e = rules_into (graphs_of files) at 0 files p.0 p (omega arith) e

-- a path that may end at a spot ends there whatever the stack, or by the stack

may_parts : (graphs : List Graph) (at : Spot) (e : End) (made : List NodeAt) → may_end graphs at e made ≡ ends_there at e made || (is_stack_end e made && is_exported_spot graphs at)
may_parts graphs at (end.At there) made = sym (or_none (spot_eq there at))
  where
    or_none : (b : Bool) → b || false ≡ b
    or_none true = refl
    or_none false = refl
may_parts graphs at end.ByStack (scope ∷ made) = sym (or_none (spot_eq (spot.At scope) at))
  where
    or_none : (b : Bool) → b || false ≡ b
    or_none true = refl
    or_none false = refl
may_parts graphs at end.ByStack [] = refl

stack_moved : (n : ℕ) (e : End) (made : List NodeAt) → is_stack_end (moved_end n e) (map (moved_node n) made) ≡ is_stack_end e made
stack_moved n (end.At there) made = refl
stack_moved n end.ByStack (scope ∷ made) = refl
stack_moved n end.ByStack [] = refl

pub root_moved : (n : ℕ) (e : End) (made : List NodeAt) → ends_there spot.Root (moved_end n e) (map (moved_node n) made) ≡ is_root_end e
root_moved n (end.At spot.Root) made = refl
root_moved n (end.At (spot.At there)) made = refl
root_moved n end.ByStack (scope ∷ made) = refl
root_moved n end.ByStack [] = refl

pub may_is : (graphs : List Graph) (at : Spot) (n : ℕ) (rule : Rule) → may_end_at graphs at (moved n rule) ≡ ends_inside at n rule || (ends_by_stack rule && is_exported_spot graphs at)
may_is graphs at n rule =
    may_parts graphs at (moved_end n rule.end) (map (moved_node n) rule.post.scopes.scopes)
    ∙ ap (λ b. ends_inside at n rule || (b && is_exported_spot graphs at)) (stack_moved n rule.end rule.post.scopes.scopes)

-- one that ends by the stack and makes no scope ends at no spot whatever the stack
pub stack_not_there : (at : Spot) (n : ℕ) (rule : Rule) → ends_by_stack rule ≡ true → ends_inside at n rule ≡ false
stack_not_there at n rule e = by rule.end rule.post.scopes.scopes e
  where
    by : (e : End) (made : List NodeAt) → is_stack_end e made ≡ true → ends_there at (moved_end n e) (map (moved_node n) made) ≡ false
    by (end.At there) made e = absurd (false≢true e)
    by end.ByStack (scope ∷ made) e = absurd (false≢true e)
    by end.ByStack [] e = refl

-- one that ends at a node whatever the stack is of the node's file
pub in_file : (node : NodeAt) (n : ℕ) (rule : Rule) → IsOfFileZero rule → ends_inside (spot.At node) n rule ≡ true → n ≡ node.file
in_file node n rule zero_file e = by rule.end rule.post.scopes.scopes zero_file.end zero_file.made_scopes e
  where
    same : (there : NodeAt) → there.file ≡ 0 → spot_eq (spot.At (moved_node n there)) (spot.At node) ≡ true → n ≡ node.file
    same there none e =
        let parts = and_parts (nat_eq (n + there.file) node.file) (nat_eq there.node node.node) e in
        let numbers : n + there.file ≡ node.file = grind (arith, nat_tests, parts.0) in
        omega (arith, numbers, none)

    by : (e : End) (made : List NodeAt) → EndIn (λ (file : ℕ). file ≡ 0) e → All (NodeIn (λ (file : ℕ). file ≡ 0)) made
        → ends_there (spot.At node) (moved_end n e) (map (moved_node n) made) ≡ true → n ≡ node.file
    by (end.At spot.Root) made of_end of_made e = absurd (false≢true e)
    by (end.At (spot.At there)) made of_end of_made e = same there of_end e
    by end.ByStack (scope ∷ made) of_end of_made e = same scope (of_made 0 scope (omega arith)) e
    by end.ByStack [] of_end of_made e = absurd (false≢true e)

-- what is known of the files of a source

pub source_at : (files : List FileRules) (i : ℕ) (f : FileRules) → All IsSourceFile files → slice_get files i ≡ Some f → IsSourceFile f
source_at [] i f sources found = absurd (none-some f found)
source_at (g ∷ files) zero f sources found = subst IsSourceFile (same_Some g f found) (sources 0 g (omega arith))
source_at (g ∷ files) (suc i) f sources found = source_at files i f (All-tail IsSourceFile g files sources) found

apart_unmapped : {X Y : Type 0} (f : X → Y) (xs : List X) → IsApart (map f xs) → IsApart xs
apart_unmapped f [] h = tt
apart_unmapped f (x ∷ xs) h = (all_differ x xs (λ here. absent (f x) (map f xs) h.0 (IsIn-map f x xs here)), apart_unmapped f xs h.1)

pub rules_apart : (f : FileRules) → IsSourceFile f → IsApart f.rules
rules_apart f source = apart_unmapped walk_of_rule f.rules source.sets.rules.once

pub same_rule : (n : ℕ) (a b : Rule) → numbered n a ≡ numbered n b → a ≡ b
same_rule n a b e = ap (λ (p : P). p.1) e
