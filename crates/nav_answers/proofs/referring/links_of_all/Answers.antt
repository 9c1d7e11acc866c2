use Rattle.std.proofs.Common.{sym, subst, ◌∙◌, All, IfOk, List}
use Rattle.std.proofs.lemmas.List.Elements.{All-from_recursion}
use Rattle.stacks_vars.specs.declared.scopes.NodeAt.{NodeAt}
use Rattle.nav_answers.specs.Links.{Table}
use Rattle.nav_answers.specs.Asking.{references_from, AreLinksOf, IsReferenceIn}
use Rattle.nav_answers.specs.Sources.{graphs_seen}
use Rattle.nav_answers.proofs.Asked.{all_are}
use Rattle.nav_answers.proofs.referring.links_of_all.Goals as goal

pub ask_all-requires-clause-references : goal.ask_all-requires-clause-references
ask_all-requires-clause-references g c _ _ =
    subst (λ (all : List NodeAt). All (IsReferenceIn (graphs_seen c.args.query.now.view.now)) all) (sym (c.deref.ensures.value ∙ c.in_ok-all.ensures))
    (All-from_recursion (IsReferenceIn (graphs_seen c.args.query.now.view.now)) (references_from 0 (graphs_seen c.args.query.now.view.now)) (all_are (graphs_seen c.args.query.now.view.now)))

pub returns-clause-found : goal.returns-clause-found
returns-clause-found g c =
    subst (λ (all : List NodeAt). IfOk c.ask_all.result (λ (parts : Table). AreLinksOf c.args.query.now.bounds (graphs_seen c.args.query.now.view.now) c.args.query.now.definitions.now all parts))
    (c.deref.ensures.value ∙ c.in_ok-all.ensures) c.ask_all.ensures.found
