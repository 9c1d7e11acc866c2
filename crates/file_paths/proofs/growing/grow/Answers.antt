-- Each edge makes the walk longer or doesn't; with the last one all were tried.
use Rattle.std.proofs.Common.{List, ℕ, ◌∷◌, refl, sym, ap, ◌∙◌, subst}
use Rattle.std.proofs.lemmas.Result.{on_ok_weaker}
use Rattle.partial_path.specs.PathSets.{walk_of_rule}
use Rattle.file_paths.proofs.GrowingLaws.{IsAdding, adding_begins, adding_there, adding_rule, adding_ends}
use Rattle.file_paths.proofs.growing.grow.Goals as goal

pub returns-in_default-clause-longer : goal.returns-in_default-clause-longer
returns-in_default-clause-longer c =
    adding_ends c.args.graph.now (walk_of_rule c.args.path) c.args.from c.edges_from-left.result c.args.begun.now.items c.args.begun.now.items
    (adding_begins c.args.graph.now (walk_of_rule c.args.path) c.args.from c.edges_from-left.result c.args.begun.now.items c.edges_from-left.ensures)
    c.in_default.ensures.steps.0 c.requires.onward

pub loop-next-init : goal.loop-next-init
loop-next-init c = record {
  adding =
      adding_begins c.args.graph.now (walk_of_rule c.args.path) c.args.from (c.in-Some.last ∷ c.into_iter-next-iterator.result) c.args.begun.now.items
      (ap (λ (xs : List ℕ). c.in-Some.last ∷ xs) c.into_iter-next-iterator.ensures.into_iter_gives ∙ (sym c.in-Some.ensures.steps ∙ c.edges_from-left.ensures));
  short = c.requires.begun;
}

pub begin_copy-requires-clause-edge : goal.begin_copy-requires-clause-edge
begin_copy-requires-clause-edge c =
    adding_there c.args.graph.now (walk_of_rule c.args.path) c.args.from (c.loop-next.last ∷ c.loop-next.next-iterator) c.loop-next.next-iterator c.loop-next.last
    c.args.begun.now.items c.loop-next.begun.items c.loop-next.invariant.adding refl

pub loop-next-preserved : goal.loop-next-preserved
loop-next-preserved c = record {
  adding =
      subst (λ (xs : List ℕ). IsAdding c.args.graph.now (walk_of_rule c.args.path) c.args.from xs c.args.begun.now.items c.begin_copy.new.begun.items) c.in-Some-next.ensures.steps
      (adding_rule c.args.graph.now (walk_of_rule c.args.path) c.args.from (c.loop-next.last ∷ c.loop-next.next-iterator) c.loop-next.next-iterator c.loop-next.last
      c.args.begun.now.items c.loop-next.begun.items c.begin_copy.new.begun.items c.loop-next.invariant.adding refl c.in_ok-begin_copy.ensures.found);
  short = c.in_ok-begin_copy.ensures.begun;
}

pub begin_itself-requires-clause-edge : goal.begin_itself-requires-clause-edge
begin_itself-requires-clause-edge c =
    adding_there c.args.graph.now (walk_of_rule c.args.path) c.args.from (c.loop-next.last ∷ c.loop-next.next-iterator) c.loop-next.next-iterator c.loop-next.last
    c.args.begun.now.items c.loop-next.begun.items c.loop-next.invariant.adding refl

pub returns-clause-longer : goal.returns-clause-longer
returns-clause-longer c =
    on_ok_weaker c.begin_itself.result
    (λ found.
    adding_ends c.args.graph.now (walk_of_rule c.args.path) c.args.from c.loop-next.next-iterator c.args.begun.now.items c.begin_itself.new.begun.items
    (adding_rule c.args.graph.now (walk_of_rule c.args.path) c.args.from (c.loop-next.last ∷ c.loop-next.next-iterator) c.loop-next.next-iterator c.loop-next.last
    c.args.begun.now.items c.loop-next.begun.items c.begin_itself.new.begun.items c.loop-next.invariant.adding refl found)
    c.in-None.ensures.steps.0 c.requires.onward) c.begin_itself.ensures.found
