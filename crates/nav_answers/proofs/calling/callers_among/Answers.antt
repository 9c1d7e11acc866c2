use Rattle.std.proofs.Common.{ap, sym, subst, ◌∙◌, map, Err, List}
use Rattle.partial_path.specs.declared.bounds.Bounds.{Bounds}
use Rattle.version_tree.specs.Graphs.{graph_rows}
use Rattle.whole_search.specs.declared.found.Hit.{Hit}
use Rattle.nav_answers.specs.declared.found.AskFault.{AskFault}
use Rattle.nav_answers.specs.Asking.{IsCrowdedAmong}
use Rattle.nav_answers.specs.Callers.{LeadsCrowded, TellsUnless}
use Rattle.nav_answers.specs.Replies.{graphs_in, row_of}
use Rattle.nav_answers.specs.Sources.{graphs_seen}
use Rattle.nav_answers.proofs.Called.{among_leads, crowded_tells, links_are, none_leads, rows_tell, usual_is}
use Rattle.nav_answers.proofs.Told.{was_crowded}
use Rattle.nav_answers.proofs.calling.callers_among.Goals as goal

pub callers_by-requires-clause-parts : goal.callers_by-requires-clause-parts
callers_by-requires-clause-parts g c =
    links_are c.usual.result (graphs_seen c.args.view.now) c.args.node c.hit_of.result c.args.leading.now c.in-Ok.parts
    (usual_is c.usual.result c.usual.ensures.edges c.usual.ensures.depth) c.hit_of.ensures c.in-Ok.ensures.found

pub returns-in-Ok : goal.returns-in-Ok
returns-in-Ok g c _ =
    rows_tell c.args.view.now c.args.node c.in_ok-hits-in-Ok.hits.items c.in_ok-rows_told-in-Ok.field-0
    (none_leads (graphs_seen c.args.view.now) c.args.node c.args.leading.now c.requires.leading c.in-Ok.parts
    (links_are c.usual.result (graphs_seen c.args.view.now) c.args.node c.hit_of.result c.args.leading.now c.in-Ok.parts
    (usual_is c.usual.result c.usual.ensures.edges c.usual.ensures.depth) c.hit_of.ensures c.in-Ok.ensures.found))
    c.in_ok-hits-in-Ok.ensures
    (c.in_ok-rows_told-in-Ok.ensures ∙ ap (λ (hits : List Hit). map (row_of (graph_rows c.args.view.now)) hits) c.deref.ensures.value)

pub returns : goal.returns
returns g c h =
    let p = was_crowded c.in-Err.fault c.ask_fault.result c.ask_fault.ensures (λ e. h (ap (λ x. Err x) e)) in
    subst (λ (told : AskFault). TellsUnless (LeadsCrowded (graphs_in (graph_rows c.args.view.now)) c.args.node) (graph_rows c.args.view.now) c.args.node (Err told)) (sym p.1)
    (crowded_tells c.args.view.now c.args.node
    (among_leads (graphs_seen c.args.view.now) c.args.node c.args.leading.now c.requires.leading
    (subst (λ (b : Bounds). IsCrowdedAmong b (graphs_seen c.args.view.now) c.args.leading.now) (usual_is c.usual.result c.usual.ensures.edges c.usual.ensures.depth)
    (c.in-Err.ensures.crowded (ap (λ x. Err x) p.0)))))
