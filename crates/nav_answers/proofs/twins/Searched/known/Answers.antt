use Rattle.std.proofs.Common.{sym, subst}
use Rattle.std.proofs.lemmas.List.Elements.{All-get_or, All-same}
use Rattle.root_index.specs.Offers.{files_of}
use Rattle.nav_answers.specs.Sources.{graphs_seen}
use Rattle.nav_answers.specs.Twins.{IsKept}
use Rattle.nav_answers.proofs.Alike.{known_too}
use Rattle.nav_answers.proofs.twins.Searched.known.Goals as goal

pub returns-then-is_twin : goal.returns-then-is_twin
returns-then-is_twin c =
    let all =
    All-same (IsKept c.args.query.now.bounds (graphs_seen c.args.query.now.view.now)) c.deref-kept-items.result.now c.args.self.now.list.items c.deref-kept-items.ensures.value c.requires.kept in
    known_too c.args.query.now.bounds (files_of c.args.query.now.view.now) c.kept-item.result c.args.reference c.args.lead.now.symbol.now c.args.lead.now.sink c.are_sources.ensures
    (subst (IsKept c.args.query.now.bounds (graphs_seen c.args.query.now.view.now)) (sym c.kept-item.is)
    (All-get_or (IsKept c.args.query.now.bounds (graphs_seen c.args.query.now.view.now)) c.deref-kept-items.result.now c.loop-kept.kept-index c.kept-item.result c.loop-kept-test.true all))
    c.requires.lead (c.is_twin.ensures.file c.if-is_twin.true) (c.is_twin.ensures.sink c.if-is_twin.true) (c.is_twin.ensures.symbol c.if-is_twin.true)
