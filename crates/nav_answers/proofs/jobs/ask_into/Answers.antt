use Rattle.std.proofs.Common.{◌∙◌, ap, ◌++◌}
use Rattle.whole_search.specs.declared.found.Hit.{Hit}
use Rattle.nav_answers.specs.Links.{links_of}
use Rattle.nav_answers.proofs.jobs.ask_into.Goals as goal

pub returns-clause-found : goal.returns-clause-found
returns-clause-found g c = record {
  rows = c.in_ok-found.found.rows;
  flag = c.in_ok-found.found.limit;
  found = c.in_ok-found.ensures.found;
  list_is = c.in_ok-add.ensures.list ∙ ap (λ (h : Hit). c.args.links.now.list.items ++ links_of h c.in_ok-found.found.rows) c.hit_of.ensures;
  limit_is = c.in_ok-add.ensures.limit;
  whole_is = c.in_ok-add.ensures.whole;
}
