use Rattle.partial_path.proofs.Listing.{own_offers}
use Rattle.partial_path.proofs.laws.files_offer_their_own.Goals as goal

pub returns : goal.returns
returns c = own_offers
