-- What no place has, none has.
use Rattle.std.proofs.Common.{inl, inr, ◌∙◌, sym}
use Rattle.std.proofs.lemmas.Bool.{eqb-true}
use Rattle.poll_many.specs.Places.{is_busy, is_free}
use Rattle.poll_many.proofs.PlaceLists.{none_passes, not_true}
use Rattle.poll_many.proofs.rounds.are_over.Goals as goal

pub returns-then-wanted-eq0 : goal.returns-then-wanted-eq0
returns-then-wanted-eq0 g c e = record {
  none_busy = none_passes is_busy c.args.places.now (sym c.any_busy.ensures ∙ c.if-not-any_busy.true);
  none_wanted = inl (eqb-true c.args.wanted 0 e);
}

pub returns-else-wanted-eq0 : goal.returns-else-wanted-eq0
returns-else-wanted-eq0 g c e = record {
  none_busy = none_passes is_busy c.args.places.now (sym c.any_busy.ensures ∙ c.if-not-any_busy.true);
  none_wanted = inr (none_passes is_free c.args.places.now (sym c.any_free.ensures ∙ not_true c.any_free.result e));
}
