-- Once no open one is left, what was found tells of the runs; and a part of it that is too much tells that the
-- reference is crowded.
use Rattle.std.proofs.Common.{◌≡◌, ◌+◌, ◌<◌, ◌≤◌, Bool, List, [], map, length, Some, All, Contains, IsTrue, ◌↔◌, sym, subst, arith, filter, append-nil}
use Rattle.std.specs.List.{list_any}
use Rattle.partial_path.specs.declared.config.EdgeAt.{EdgeAt}
use Rattle.partial_path.specs.Limits.{max_runs}
use Rattle.partial_path.specs.Step.{start}
use Rattle.partial_path.specs.Runs.{IsApart}
use Rattle.partial_path.specs.Counted.{IsBoundedComplete, IsCrowded, HasLimit}
use Rattle.partial_path.specs.Sources.{IsSourceFile, graphs_of}
use Rattle.stitcher.specs.Joins.{Asked, Joined, none_joined, met, is_bounded_complete, is_bounded_counted, is_past_bounds, complete_met, counted_met}
use Rattle.stitcher.specs.Laws.{joined_edges, CutLaws}
use Rattle.list_facts.specs.Members.{IsIn}
use Rattle.list_facts.proofs.Members.{IsIn-map, IsIn-map_from, IsIn-filter, IsIn-filter_from, IsIn-from_Contains, Contains-from_IsIn}
use Rattle.list_facts.proofs.Apart.{IsApart-filter}
use Rattle.list_facts.proofs.Sums.{length-apart_le}
use Rattle.stitcher.proofs.Same.{AreSame, length-same, same_filter, same_any}
use Rattle.stitcher.proofs.Meeting.{apart_meets}
use Rattle.stitcher.proofs.Telling.{same_edges, apart_images, told_by_met}
use Rattle.stitcher.proofs.UnderWay.{IsUnderWay}

images_there : {X Y : Type 0} (f : X → Y) (xs ys : List X) (y : Y) → ((x : X) → IsIn x xs → IsIn x ys) → Contains (map f xs) y → Contains (map f ys) y
images_there f xs ys y each h =
    let m = IsIn-map_from f y xs (IsIn-from_Contains (map f xs) y h) in
    Contains-from_IsIn (map f ys) y (subst (λ z. IsIn z (map f ys)) m.2 (IsIn-map f m.0 ys (each m.0 m.1)))

module _ (laws : CutLaws) (q : Asked) (sources : All IsSourceFile q.files) (begins : start (graphs_of q.files) q.node ≡ Some q.start) where
  -- all that is met was found, each once
  pub record AreAllMet (done : List Joined) : Type 0 where
    pub apart : IsApart done
    pub same : AreSame done (met q)

  pub ended : (done : List Joined) → IsUnderWay q done [] → AreAllMet done
  ended done w = record {
    apart = subst IsApart (append-nil done) w.apart;
    same = subst (λ (xs : List Joined). AreSame xs (met q)) (append-nil done) w.same;
  }

  -- the complete ones that were found are the bounded complete runs, each once
  pub complete_once : (done : List Joined) → AreAllMet done → IsApart (map joined_edges (filter (is_bounded_complete q) done))
  complete_once done e =
      apart_images joined_edges (filter (is_bounded_complete q) done)
      (λ a b ga gb.
      same_edges laws q sources begins a b
      (e.same.there a (IsIn-filter_from (is_bounded_complete q) a done ga).0)
      (e.same.there b (IsIn-filter_from (is_bounded_complete q) b done gb).0))
      (IsApart-filter (is_bounded_complete q) done e.apart)

  pub complete_exact : (done : List Joined) → AreAllMet done → (es : List EdgeAt) → Contains (map joined_edges (filter (is_bounded_complete q) done)) es ↔ IsBoundedComplete q.bounds (graphs_of q.files) q.start es
  complete_exact done e es =
      let s = same_filter (is_bounded_complete q) done (met q) e.same in
      let t = (told_by_met laws q sources begins).complete es in (
        λ h. t.0 (images_there joined_edges (filter (is_bounded_complete q) done) (complete_met q) es s.there h),
        λ h. images_there joined_edges (complete_met q) (filter (is_bounded_complete q) done) es s.back (t.1 h),
      )

  -- one past the bounds was found exactly where some counted run isn't bounded
  pub limit_exact : (done : List Joined) → AreAllMet done → IsTrue (list_any (is_past_bounds q) done) ↔ HasLimit q.bounds (graphs_of q.files) q.start
  limit_exact done e =
      subst (λ (b : Bool). IsTrue b ↔ HasLimit q.bounds (graphs_of q.files) q.start) (sym (same_any (is_past_bounds q) done (met q) e.same))
      (told_by_met laws q sources begins).limit

  -- few enough that are counted and bounded were found: the reference isn't crowded
  pub not_crowded : (done : List Joined) → AreAllMet done → length (filter (is_bounded_counted q) done) ≤ max_runs → ¬ IsCrowded q.bounds (graphs_of q.files) q.start
  not_crowded done e few h =
      let all : length (filter (is_bounded_counted q) done) ≡ length (counted_met q) =
      length-same (filter (is_bounded_counted q) done) (counted_met q) (IsApart-filter (is_bounded_counted q) done e.apart)
      (IsApart-filter (is_bounded_counted q) (met q) (apart_meets (q.bounds.edges + 1) q (none_joined q) sources))
      (same_filter (is_bounded_counted q) done (met q) e.same) in
      let more : max_runs < length (counted_met q) = (told_by_met laws q sources begins).crowded.1 h in
      omega arith

  -- too many were found, be it by a part alone
  pub crowded : (part : List Joined) → IsApart part → ((x : Joined) → IsIn x part → IsIn x (met q)) → max_runs < length (filter (is_bounded_counted q) part) → IsCrowded q.bounds (graphs_of q.files) q.start
  crowded part apart each more =
      let fits : length (filter (is_bounded_counted q) part) ≤ length (counted_met q) =
      length-apart_le (filter (is_bounded_counted q) part) (counted_met q) (IsApart-filter (is_bounded_counted q) part apart)
      (λ x h. let k = IsIn-filter_from (is_bounded_counted q) x part h in IsIn-filter (is_bounded_counted q) x (met q) (each x k.0) k.1) in
      (told_by_met laws q sources begins).crowded.0 (omega arith)
