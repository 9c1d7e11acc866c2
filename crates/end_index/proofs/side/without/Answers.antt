-- What is left of one share more.
use Rattle.std.proofs.Common.{◌≡◌, sym, ◌∙◌, ap, subst, List, [], ◌∷◌, ◌++◌, filter, All}
use Rattle.std.proofs.lemmas.List.Elements.{All-head, All-push, All-tail}
use Rattle.std.proofs.lemmas.List.Kept.{IsSortedBy-filter}
use Rattle.std.specs.Ordering.{is_lt}
use Rattle.end_index.specs.declared.place.EndPlace.{EndPlace}
use Rattle.end_index.specs.Ends.{all_of, is_of_other}
use Rattle.end_index.specs.Runs.{AreByRank, rank, rank_cmp}
use Rattle.end_index.proofs.Fitted.{without_more}
use Rattle.end_index.proofs.Ordered.{order_of_ranks}
use Rattle.end_index.proofs.side.without.Goals as goal

pub loop-share-preserved : goal.loop-share-preserved
loop-share-preserved c =
    let left : c.leave_out.new.places.items ≡ filter (is_of_other c.args.file) c.in-Some.share =
    c.leave_out.ensures ∙ ap (filter (is_of_other c.args.file)) c.into_items-places.ensures in
    let pushed : c.push.new.self.items ≡ c.loop-share.left.items ++ c.leave_out.new.places.items ∷ [] = c.in_ok-push.ensures.items ∙ ap (λ (ps : List EndPlace). c.loop-share.left.items ++ ps ∷ []) c.of.ensures in
    let rest : All AreByRank (c.in-Some.share ∷ c.next.new.self.rest.items) = subst (All AreByRank) c.in-Some.ensures.steps.0 c.loop-share.invariant.rest in
    record {
      all = without_more c.args.file [] c.next.new.self.rest.items c.in-Some.share c.leave_out.new.places.items c.loop-share.left.items c.push.new.self.items c.args.shares.items left pushed
          (ap (λ (ps : List (List EndPlace)). all_of c.loop-share.left.items ++ filter (is_of_other c.args.file) (all_of ps)) (sym c.in-Some.ensures.steps.0) ∙ c.loop-share.invariant.all);
      order = subst (All AreByRank) (sym pushed)
          (All-push AreByRank c.loop-share.left.items c.leave_out.new.places.items c.loop-share.invariant.order
          (subst AreByRank (sym left) (IsSortedBy-filter (λ (a b : EndPlace). is_lt (rank_cmp (rank a) (rank b))) order_of_ranks (is_of_other c.args.file) c.in-Some.share (All-head AreByRank c.in-Some.share c.next.new.self.rest.items rest))));
      rest = All-tail AreByRank c.in-Some.share c.next.new.self.rest.items rest;
    }
