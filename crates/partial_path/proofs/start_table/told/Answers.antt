use Rattle.std.proofs.Common.{sym, ◌∙◌, ap, ◌+◌, arith}
use Rattle.std.specs.Prelude.{slice_index}
use Rattle.partial_path.proofs.start_table.told.Goals as goal

pub returns : goal.returns
returns c = record {
  placed = sym c.has_place.ensures ∙ c.if-not-has_place.false;
  within = omega (arith, c.place_in-place.ensures.value, c.if-next-count.false);
  low = ap (slice_index c.args.before.now) c.place_in-place.ensures.value;
  high = ap (λ p. slice_index c.args.before.now (p + 1)) c.place_in-place.ensures.value;
}
