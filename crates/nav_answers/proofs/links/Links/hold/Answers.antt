use Rattle.std.proofs.Common.{refl, ◌∙◌, ap, List, inr}
use Rattle.nav_answers.specs.declared.links.Link.{Link}
use Rattle.nav_answers.specs.Links.{links_to_any}
use Rattle.nav_answers.proofs.Linked.{links_left}
use Rattle.nav_answers.proofs.links.Links.hold.Goals as goal

pub returns : goal.returns
returns c = inr (record {
  exact = links_left c.args.definitions.now c.args.self.now.list.items c.sort.new.list.items c.in_ok-self.field-0.items c.sort.ensures.exact
      (c.in_ok-self.ensures ∙ ap (λ (list : List Link). links_to_any list c.args.definitions.now) c.deref.ensures.value);
  limit_is = refl;
  whole_is = refl;
})
