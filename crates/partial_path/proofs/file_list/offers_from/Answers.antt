use Rattle.std.proofs.Common.{◌∙◌, ap}
use Rattle.std.specs.Prelude.{filter}
use Rattle.partial_path.specs.Sources.{is_offered}
use Rattle.partial_path.specs.Offers.{list_offers_left}
use Rattle.partial_path.proofs.Listing.{list_offers, offers_from_is}
use Rattle.partial_path.proofs.file_list.offers_from.Goals as goal

pub returns : goal.returns
returns c files symbols sources =
    ap (λ n. list_offers_left files symbols (list_offers n c.at.result)) c.in_its_file-file.ensures.file
    ∙ offers_from_is files symbols c.args.start c.at.result sources
    (λ rules. c.at.ensures.all symbols rules ∙ ap (λ s. filter (is_offered s symbols) rules) c.in_its_file-file.ensures.start)
    (c.at.ensures.start ∙ c.in_its_file-file.ensures.start)
