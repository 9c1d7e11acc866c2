use Rattle.std.proofs.Common.{◌∙◌, ap}
use Rattle.std.specs.Prelude.{filter}
use Rattle.partial_path.specs.Sources.{is_offered}
use Rattle.root_index.specs.Offers.{files_of}
use Rattle.nav_answers.proofs.Own.{offers_alone}
use Rattle.nav_answers.proofs.in_file.offers_inside.Goals as goal

pub returns : goal.returns
returns c =
    offers_alone (files_of c.args.source.now.rows) c.args.node.file c.args.start c.args._symbols.now c.at.result c.are_sources.ensures c.requires.alone c.requires.file
    (λ rules. c.at.ensures.all c.args._symbols.now rules ∙ ap (λ s. filter (is_offered s c.args._symbols.now) rules) c.inside.ensures)
    (c.at.ensures.start ∙ c.inside.ensures)
