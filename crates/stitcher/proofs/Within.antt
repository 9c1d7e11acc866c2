-- What the tests before a path is applied tell, and that nothing is noted of a run past the bounds once one is known.
use Rattle.std.proofs.Common.{◌≡◌, ℕ, ◌+◌, ◌<◌, ◌≤◌, ◌^◌, Bool, true, false, ◌&&◌, ◌||◌, List, [], ◌∷◌, ◌++◌, map, length, Option, Some, None, All, is_some, sym, refl, ap, ◌∙◌, subst, filter, nat_le, arith, if◌then◌else◌, append-nil}
use Rattle.std.specs.Option.{option_map, option_map_or}
use Rattle.std.proofs.lemmas.Bool.{false≢true, and_parts, or_left}
use Rattle.std.proofs.lemmas.List.{length-map}
use Rattle.std.proofs.lemmas.List.Elements.{recursion_from_All}
use Rattle.std.proofs.lemmas.Option.{option_and_then_some}
use Rattle.stacks_vars.specs.declared.scopes.NodeAt.{NodeAt}
use Rattle.stacks_vars.specs.declared.stacks.Stacks.{Stacks}
use Rattle.stacks_vars.specs.declared.patterns.Pre.{Pre}
use Rattle.partial_path.specs.declared.config.Config.{Config}
use Rattle.partial_path.specs.Rules.{Rule, IsRule}
use Rattle.partial_path.specs.Apply.{rests_of, after_fixed, match_items, match_stacks, apply, height}
use Rattle.partial_path.specs.Moved.{moved, moved_pre, moved_symbol}
use Rattle.partial_path.specs.FileNumbers.{FileZeroMoves}
use Rattle.partial_path.specs.PathSets.{IsLandingRule}
use Rattle.partial_path.specs.Sources.{IsSourceFile}
use Rattle.partial_path.specs.Cutting.{edge_count, heights, path_edges}
use Rattle.stitcher.specs.declared.tally.Progress.{Progress}
use Rattle.stitcher.specs.declared.tally.Tally.{Tally}
use Rattle.stitcher.specs.declared.trail.Level.{Level}
use Rattle.stitcher.specs.Joins.{Asked, Joined, joined, with_path, origin, is_at_cut, is_at_result, is_bounded, keeps_straight, landed, joined_by, goes_on}
use Rattle.stitcher.specs.Opens.{kept_runs, opens_of, those, AreTaken, IsNoted}
use Rattle.stitcher.specs.Trail.{Moves, paths_of, IsHere, IsOffered}
use Rattle.list_facts.proofs.Members.{at_member, IsIn-from_Contains}
use Rattle.stitcher.proofs.Offered.{source_at}
use Rattle.stitcher.proofs.Heights.{symbols_met, mapped_some, moved_reaches, bounded-with}
use Rattle.stitcher.proofs.Noting.{noted, opened_as}

pub some_there : {X : Type 0} (o : Option X) → is_some o ≡ true → (x : X) × (o ≡ Some x)
some_there None h = absurd (false≢true h)
some_there (Some x) h = (x, refl)

-- a path whose precondition is met asks for no more symbols than there are
pub met_asks : (base : ℕ) (pre : Pre) (s : Stacks) (b : Bool) → (b && is_some (match_stacks (moved_pre base pre) s)) ≡ true → length pre.symbols ≤ length s.symbols
met_asks base pre s b t =
    let m = some_there (match_stacks (moved_pre base pre) s) (and_parts b (is_some (match_stacks (moved_pre base pre) s)) t).1 in
    let le : length (map (moved_symbol base) pre.symbols) ≤ length s.symbols =
    option_and_then_some (λ (front : List NodeAt). option_map (rests_of front) (match_items (moved_pre base pre).symbols s.symbols)) (after_fixed (moved_pre base pre).scopes.fixed s.scopes) m.0 m.1
    (λ front there more.
    let k = mapped_some (rests_of front) (match_items (moved_pre base pre).symbols s.symbols) m.0 more in
    symbols_met (moved_pre base pre).symbols s.symbols k.0 k.1) in
    let same = length-map pre.symbols (moved_symbol base) in
    omega arith

-- the edges of a stored path can be moved to its file
pub stored_moves : FileZeroMoves → (q : Asked) (trail : List Level) (at : Config) (p : ℕ × Rule) → All IsSourceFile q.files → p.0 < 2 ^ 32 → IsOffered q trail at p → Moves p.0 p.1
stored_moves moves q trail at p sources lt o =
    let source = source_at q.files p.0 o.stored.0 (recursion_from_All IsSourceFile q.files sources) o.stored.1 in
    let rule = at_member (IsLandingRule o.stored.0.graph) p.1 o.stored.0.rules source.sets.rules.sound (IsIn-from_Contains o.stored.0.rules p.1 o.stored.2) in
    (moves p.0 p.1 lt rule.exact.files).0.edges

-- the test before a path is applied tells whether the run is bounded with it
pub within_is : (q : Asked) (trail : List Level) (at next : Config) (p : ℕ × Rule) (edges : ℕ) (within : Bool) → IsHere q trail at → apply (moved p.0 p.1) at ≡ Some next → IsRule p.1 → edges ≡ edge_count (paths_of trail) → heights (origin q) (paths_of trail) ≤ q.bounds.depth → within ≡ (nat_le (edges + length p.1.edges) q.bounds.edges && nat_le (height (moved p.0 p.1) at) q.bounds.depth) → within ≡ is_bounded q (with_path (paths_of trail) p)
within_is q trail at next p edges within here applies rule count low tells =
    tells ∙ (λ i. nat_le (count i + length p.1.edges) q.bounds.edges && nat_le (height (moved p.0 p.1) at) q.bounds.depth)
    ∙ sym (bounded-with q (joined (paths_of trail) at) p next here.leads applies (moved_reaches p.0 p.1 rule) low)

pub and_false : (b : Bool) → (b && false) ≡ false
and_false true = refl
and_false false = refl

pub or_false : (b : Bool) → b ≡ (b || false)
or_false true = refl
or_false false = refl

pub none_noted : (q : Asked) (t : Tally) → IsNoted q [] t t
none_noted q t = record {
  counted = omega arith;
  complete = sym (append-nil (kept_runs t.complete.items));
  limit = or_false t.limit;
}

-- what is noted as nothing was, and isn't gone on from, changes nothing
pub none_more : (q : Asked) (trail : List Level) (xs : List Joined) (a : Progress) → IsNoted q xs a.tally a.tally → [] ≡ filter (goes_on q) xs → AreTaken q trail xs a a
none_more q trail xs a noted none = record {
  noted = noted;
  opens = sym (append-nil (opens_of trail a.work.items)) ∙ ap (λ (js : List Joined). opens_of trail a.work.items ++ js) none;
}

pub none_taken : (q : Asked) (trail : List Level) (a : Progress) → AreTaken q trail [] a a
none_taken q trail a = none_more q trail [] a (none_noted q a.tally) refl

module _ (q : Asked) (trail : List Level) (at : Config) (p : ℕ × Rule) where
  j : Joined
  j = joined (paths_of trail) at

  -- a run past the bounds changes nothing once one is known
  one_past : (next : Config) (t : Tally) → t.limit ≡ true → is_bounded q (with_path (paths_of trail) p) ≡ false → IsNoted q (joined (with_path (paths_of trail) p) next ∷ []) t t
  one_past next t limit f =
      let lands : Bool = is_at_cut q next || is_at_result q next in
      noted q (paths_of trail) p next (is_at_cut q next) (is_at_result q next) false refl refl (sym f) t t
      (counted (and_false lands)) (kept (is_at_result q next && false) (path_edges (with_path (paths_of trail) p), next.spot) (kept_runs t.complete.items) (and_false (is_at_result q next))) (limited (lands && true))
    where
      counted : {b : Bool} → b ≡ false → t.counted ≡ t.counted + (if b then 1 else 0)
      counted {b} e = subst (λ (x : Bool). t.counted ≡ t.counted + (if x then 1 else 0)) (sym e) (omega arith)

      kept : {X : Type 0} (b : Bool) (x : X) (xs : List X) → b ≡ false → xs ≡ xs ++ those b x
      kept b x xs e = sym (append-nil xs) ∙ ap (λ (c : Bool). xs ++ those c x) (sym e)

      limited : (b : Bool) → t.limit ≡ (t.limit || b)
      limited b = limit ∙ sym (or_left t.limit b limit)

  one_stops : (next : Config) → is_bounded q (with_path (paths_of trail) p) ≡ false → [] ≡ filter (goes_on q) (joined (with_path (paths_of trail) p) next ∷ [])
  one_stops next f =
      opened_as q (paths_of trail) p next (is_at_cut q next) (is_at_result q next) false refl refl (sym f) [] []
      (ap (λ (b : Bool). those b (joined (with_path (paths_of trail) p) next)) (sym (and_false (is_at_cut q next))))

  by_keeps : (P : List Joined → Type 0) (next : Config) (b : Bool) → P [] → P (joined (with_path (paths_of trail) p) next ∷ []) → P (if b then joined (with_path (paths_of trail) p) next ∷ [] else [])
  by_keeps P next true none one = one
  by_keeps P next false none one = none

  pub by_apply : (P : List Joined → Type 0) (o : Option Config) → apply (moved p.0 p.1) at ≡ o → P [] → ((next : Config) → apply (moved p.0 p.1) at ≡ Some next → P (joined (with_path (paths_of trail) p) next ∷ [])) → P (option_map_or (landed q (joined (paths_of trail) at) p) o [])
  by_apply P None e none one = none
  by_apply P (Some next) e none one = by_keeps P next (keeps_straight q (paths_of trail) next) none (one next e)

  pub past_taken : (a : Progress) → a.tally.limit ≡ true → ((next : Config) → apply (moved p.0 p.1) at ≡ Some next → is_bounded q (with_path (paths_of trail) p) ≡ false) → AreTaken q trail (joined_by q (joined (paths_of trail) at) p) a a
  past_taken a limit past =
      by_apply (λ (xs : List Joined). AreTaken q trail xs a a) (apply (moved p.0 p.1) at) refl (none_taken q trail a)
      (λ next e. none_more q trail (joined (with_path (paths_of trail) p) next ∷ []) a (one_past next a.tally limit (past next e)) (one_stops next (past next e)))
