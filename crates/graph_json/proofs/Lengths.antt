-- How long an array of a value is in its data.
use Rattle.serde_json.proofs.Views.{items_len-items_view}

pub ruleset lengths = (items_len-items_view)
