use Rattle.std.proofs.Common.{sym, ◌∙◌, ap, subst, List, take, drop}
use Rattle.std.specs.List.{prefix_len}
use Rattle.std.specs.List.Sorted.{IsPartitionedBy}
use Rattle.std.proofs.lemmas.List.{take_rest}
use Rattle.nav_answers.specs.declared.links.Link.{Link}
use Rattle.nav_answers.specs.Links.{is_before, is_link_to}
use Rattle.nav_answers.proofs.Linked.{first_parted, next_parted, links_found}
use Rattle.nav_answers.proofs.links.links_to.Goals as goal

pub count_before-low-requires : goal.count_before-low-requires
count_before-low-requires c = first_parted c.args.list.now c.requires c.args.definition

pub count_at-many-requires : goal.count_at-many-requires
count_at-many-requires c =
    let rest = take_rest c.args.list.now c.count_before-low.result ∙ ap (λ n. drop n c.args.list.now) c.count_before-low.ensures.value in
    subst (IsPartitionedBy (is_link_to c.args.definition)) (sym rest) (next_parted c.args.list.now c.requires c.args.definition)

pub returns : goal.returns
returns c =
    let rest = take_rest c.args.list.now c.count_before-low.result ∙ ap (λ n. drop n c.args.list.now) c.count_before-low.ensures.value in
    ap (λ (ls : List Link). take c.count_at-many.result ls) rest
    ∙ ap (λ n. take n (drop (prefix_len (is_before c.args.definition) c.args.list.now) c.args.list.now))
    (c.count_at-many.ensures.value ∙ ap (prefix_len (is_link_to c.args.definition)) rest)
    ∙ links_found c.args.list.now c.requires c.args.definition
