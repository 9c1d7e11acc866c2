-- A path that is met leads to a spot of the files; and of one that ends at no cut, with symbols left, no run is told.
use Rattle.std.proofs.Common.{◌≡◌, ℕ, Bool, true, false, ◌&&◌, ◌||◌, List, [], ◌∷◌, ◌++◌, map, drop, length, Option, Some, None, All, is_some, sym, refl, ap, ◌∙◌, subst, filter, nat_eq, arith, if◌then◌else◌, append-nil, ◌≤◌, zero, suc}
use Rattle.std.specs.Prelude.{IfSome}
use Rattle.std.specs.Option.{option_map, option_and_then, unwrap_or}
use Rattle.std.proofs.lemmas.Bool.{false≢true, and_parts, ne_eqb}
use Rattle.std.proofs.lemmas.Bool.Decides.{nat_tests}
use Rattle.std.proofs.lemmas.List.{length-map}
use Rattle.std.proofs.lemmas.Option.{none-some, same_Some, option_and_then_some}
use Rattle.stacks_vars.specs.declared.scopes.NodeAt.{NodeAt}
use Rattle.stacks_vars.specs.declared.stacks.Stacks.{Stacks}
use Rattle.stacks_vars.specs.Enter.{stacks_of}
use Rattle.graph_nodes.specs.Graph.{Graph}
use Rattle.partial_path.specs.declared.config.Config.{Config}
use Rattle.partial_path.specs.declared.rule.End.{End}
use Rattle.partial_path.specs.declared.rule.End.TheVariants.{At, ByStack}
use Rattle.partial_path.specs.Spots.{at_node, is_definition_spot}
use Rattle.partial_path.specs.Step.{start, enter_jump}
use Rattle.partial_path.specs.Same.{spot_eq}
use Rattle.partial_path.specs.Rules.{Rule, start_spot}
use Rattle.partial_path.specs.Apply.{Rests, fill, fill_item, match_stacks, rewrite, end_at, apply}
use Rattle.partial_path.specs.Moved.{moved, moved_start, moved_pre, moved_post, moved_end, moved_symbol, moved_symbol_out}
use Rattle.partial_path.specs.Walks.{is_cut_spot_of}
use Rattle.partial_path.specs.Sources.{IsSourceFile, graphs_of}
use Rattle.partial_path.specs.Laws.{PathsAreRuns, RunsEndInFiles}
use Rattle.stitcher.specs.declared.tally.Progress.{Progress}
use Rattle.stitcher.specs.declared.tally.Tally.{Tally}
use Rattle.stitcher.specs.declared.trail.Level.{Level}
use Rattle.stitcher.specs.Ends.{IsEndOf, end_cut, leaves_none, may_land}
use Rattle.stitcher.specs.Joins.{Asked, Joined, joined, with_path, is_none, is_at_cut, is_at_result, is_bounded, joined_by, goes_on}
use Rattle.stitcher.specs.Opens.{kept_runs, AreTaken, IsNoted}
use Rattle.stitcher.specs.Trail.{paths_of, IsHere, IsOffered}
use Rattle.stitcher.proofs.Joining.{spot_next}
use Rattle.stitcher.proofs.Within.{some_there, and_false, or_false, none_more, none_taken, by_apply}
use Rattle.stitcher.proofs.Noting.{noted, opened_as}

-- the stacks that a rule makes where its variables stand for these
abbrev made : ℕ → Rule → Config → Rests → Stacks
made base rule at rests = fill rests (moved_post base rule.post) (drop (length (moved_pre base rule.pre).symbols) at.stacks.symbols)

-- a path that is met ends as it says, with such stacks
applied : (base : ℕ) (rule : Rule) (at : Config) → (spot_eq (start_spot (moved_start base rule.start)) at.spot && is_some (match_stacks (moved_pre base rule.pre) at.stacks)) ≡ true
    → (rests : Rests) × (apply (moved base rule) at ≡ end_at (moved_end base rule.end) (made base rule at rests))
applied base rule at t =
    let both = and_parts (spot_eq (start_spot (moved_start base rule.start)) at.spot) (is_some (match_stacks (moved_pre base rule.pre) at.stacks)) t in
    let m = some_there (match_stacks (moved_pre base rule.pre) at.stacks) both.1 in (
      m.0,
      λ i. if both.0 i then option_and_then (end_at (moved_end base rule.end)) (option_map (λ (rests : Rests). made base rule at rests) (m.1 i)) else None,
    )

-- and so does one that applies
ended : (base : ℕ) (rule : Rule) (at next : Config) → apply (moved base rule) at ≡ Some next → (rests : Rests) × (end_at (moved_end base rule.end) (made base rule at rests) ≡ Some next)
ended base rule at next e = by (spot_eq (start_spot (moved_start base rule.start)) at.spot) e
  where
    by : (b : Bool) → (if b then option_and_then (end_at (moved_end base rule.end)) (rewrite (moved_pre base rule.pre) (moved_post base rule.post) at.stacks) else None) ≡ Some next → (rests : Rests) × (end_at (moved_end base rule.end) (made base rule at rests) ≡ Some next)
    by false h = absurd (none-some next h)
    by true h =
        option_and_then_some (end_at (moved_end base rule.end)) (rewrite (moved_pre base rule.pre) (moved_post base rule.post) at.stacks) next h
        (λ s is there. from (match_stacks (moved_pre base rule.pre) at.stacks) s is there)
      where
        from : (o : Option Rests) (s : Stacks) → option_map (λ (rests : Rests). made base rule at rests) o ≡ Some s → end_at (moved_end base rule.end) s ≡ Some next → (rests : Rests) × (end_at (moved_end base rule.end) (made base rule at rests) ≡ Some next)
        from None s is there = absurd (none-some s is)
        from (Some rests) s is there = (rests, ap (end_at (moved_end base rule.end)) (same_Some (made base rule at rests) s is) ∙ there)

-- whether the end is a cut is told by the end, where it names a spot; the symbols are those that were made
cut_told : (files : List Graph) (end : End) (s : Stacks) (next : Config) → end_at end s ≡ Some next → IfSome (end_cut files end) (λ (cut : Bool). cut ≡ is_cut_spot_of files next.spot)
cut_told files (At spot) s next e = ap (λ (c : Config). is_cut_spot_of files c.spot) (same_Some (record { spot = spot; stacks = s }) next e)
cut_told files ByStack s next e = tt

symbols_told : (end : End) (s : Stacks) (next : Config) → end_at end s ≡ Some next → next.stacks.symbols ≡ s.symbols
symbols_told (At spot) s next e = ap (λ (c : Config). c.stacks.symbols) (sym (same_Some (record { spot = spot; stacks = s }) next e))
symbols_told ByStack s next e = by s.scopes e
  where
    by : (scopes : List NodeAt) → enter_jump s.symbols scopes ≡ Some next → next.stacks.symbols ≡ s.symbols
    by [] h = absurd (none-some next h)
    by (scope ∷ rest) h = ap (λ (c : Config). c.stacks.symbols) (sym (same_Some (at_node scope (stacks_of s.symbols rest)) next h))

pub cut_is : (files : List Graph) (p : ℕ × Rule) (at next : Config) → apply (moved p.0 p.1) at ≡ Some next → IfSome (end_cut files (moved_end p.0 p.1.end)) (λ (cut : Bool). cut ≡ is_cut_spot_of files next.spot)
cut_is files p at next e =
    let m = ended p.0 p.1 at next e in
    cut_told files (moved_end p.0 p.1.end) (made p.0 p.1 at m.0) next m.1

-- no symbols are left exactly where none are made, and none stay
none_made : {X Y : Type 0} (f : X → Y) (outs : List X) (rest : List Y) → is_none (map f outs ++ rest) ≡ (is_none outs && is_none rest)
none_made f [] rest = refl
none_made f (out ∷ outs) rest = refl

none_mapped : {X Y : Type 0} (f : X → Y) (xs : List X) → is_none (map f xs) ≡ is_none xs
none_mapped f [] = refl
none_mapped f (x ∷ xs) = refl

none_dropped : {X : Type 0} (n : ℕ) (xs : List X) → n ≤ length xs → is_none (drop n xs) ≡ nat_eq n (length xs)
none_dropped zero [] h = refl
none_dropped zero (x ∷ xs) h = sym (ne_eqb zero (suc (length xs)) (λ e. omega (arith, e)))
none_dropped (suc n) [] h = absurd (omega (arith, h))
none_dropped (suc n) (x ∷ xs) h =
    let same : nat_eq n (length xs) ≡ nat_eq (suc n) (suc (length xs)) = grind (arith, nat_tests) in
    none_dropped n xs (omega (arith, h)) ∙ same

left_none : (base : ℕ) (rule : Rule) (at : Config) (rests : Rests) → length rule.pre.symbols ≤ length at.stacks.symbols → is_none (made base rule at rests).symbols ≡ leaves_none rule at
left_none base rule at rests asks =
    let many = length-map rule.pre.symbols (moved_symbol base) in
    none_made (fill_item rests) (moved_post base rule.post).symbols (drop (length (moved_pre base rule.pre).symbols) at.stacks.symbols)
    ∙ (λ i. none_mapped (moved_symbol_out base) rule.post.symbols i && is_none (drop (many i) at.stacks.symbols))
    ∙ ap (λ (b : Bool). is_none rule.post.symbols && b) (none_dropped (length rule.pre.symbols) at.stacks.symbols asks)

-- the parts of the test, where it fails
known_uncut : (cut : Option Bool) (b : Bool) → (unwrap_or cut true || b) ≡ false → (cut ≡ Some false) × (b ≡ false)
known_uncut None b f = absurd (false≢true (sym f))
known_uncut (Some true) b f = absurd (false≢true (sym f))
known_uncut (Some false) b f = (refl, f)

module _ (q : Asked) (trail : List Level) (at : Config) (p : ℕ × Rule) where
  -- where a path that is met ends
  pub end_there : All IsSourceFile q.files → start (graphs_of q.files) q.node ≡ Some q.start → IsHere q trail at → IsOffered q trail at p → PathsAreRuns → RunsEndInFiles
      → (spot_eq (start_spot (moved_start p.0 p.1.start)) at.spot && is_some (match_stacks (moved_pre p.0 p.1.pre) at.stacks)) ≡ true → IsEndOf (graphs_of q.files) (moved_end p.0 p.1.end)
  end_there sources begins here offered runs ends met = let a = applied p.0 p.1 at met in by (moved_end p.0 p.1.end) (made p.0 p.1 at a.0) a.1
    where
      by : (end : End) (s : Stacks) → apply (moved p.0 p.1) at ≡ end_at end s → IsEndOf (graphs_of q.files) end
      by (At spot) s is = spot_next q trail at (record { spot = spot; stacks = s }) p sources begins here offered (sym is) runs ends
      by ByStack s is = tt

  -- where the test fails, the path lands neither at a cut nor at a result
  module _ (cut : Option Bool) (known : cut ≡ end_cut (graphs_of q.files) (moved_end p.0 p.1.end)) (fails : may_land cut p.1 at ≡ false) (asks : length p.1.pre.symbols ≤ length at.stacks.symbols) where
    uncut : (next : Config) → apply (moved p.0 p.1) at ≡ Some next → false ≡ is_at_cut q next
    uncut next e =
        let is : end_cut (graphs_of q.files) (moved_end p.0 p.1.end) ≡ Some false = sym known ∙ (known_uncut cut (leaves_none p.1 at) fails).0 in
        subst (λ (o : Option Bool). IfSome o (λ (c : Bool). c ≡ is_cut_spot_of (graphs_of q.files) next.spot)) is (cut_is (graphs_of q.files) p at next e)

    no_result : (next : Config) → apply (moved p.0 p.1) at ≡ Some next → false ≡ is_at_result q next
    no_result next e =
        let m = ended p.0 p.1 at next e in
        let some : is_none next.stacks.symbols ≡ false =
        ap is_none (symbols_told (moved_end p.0 p.1.end) (made p.0 p.1 at m.0) next m.1) ∙ (left_none p.0 p.1 at m.0 asks ∙ (known_uncut cut (leaves_none p.1 at) fails).1) in
        sym (ap (λ (b : Bool). is_definition_spot (graphs_of q.files) next.spot && b) some ∙ and_false (is_definition_spot (graphs_of q.files) next.spot))

    one_pruned : (next : Config) (t : Tally) → apply (moved p.0 p.1) at ≡ Some next → IsNoted q (joined (with_path (paths_of trail) p) next ∷ []) t t
    one_pruned next t e =
        noted q (paths_of trail) p next false false (is_bounded q (with_path (paths_of trail) p)) (uncut next e) (no_result next e) refl t t
        (omega arith) (sym (append-nil (kept_runs t.complete.items))) (or_false t.limit)

    one_shut : (next : Config) → apply (moved p.0 p.1) at ≡ Some next → [] ≡ filter (goes_on q) (joined (with_path (paths_of trail) p) next ∷ [])
    one_shut next e =
        opened_as q (paths_of trail) p next false false (is_bounded q (with_path (paths_of trail) p)) (uncut next e) (no_result next e) refl [] [] refl

    -- so nothing is noted of it, and it isn't gone on from
    pub pruned_taken : (a : Progress) → AreTaken q trail (joined_by q (joined (paths_of trail) at) p) a a
    pruned_taken a =
        by_apply q trail at p (λ (xs : List Joined). AreTaken q trail xs a a) (apply (moved p.0 p.1) at) refl (none_taken q trail a)
        (λ next e. none_more q trail (joined (with_path (paths_of trail) p) next ∷ []) a (one_pruned next a.tally e) (one_shut next e))
