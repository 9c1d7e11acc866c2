-- A query of a session is a question to its seat, at the pin.
use Rattle.std.proofs.Common.{◌≡◌, ℕ, List}
use Rattle.nav_proto.specs.declared.request.Request.{Request}
use Rattle.nav_proto.specs.declared.request.Request.TheVariants.{Define, References, Callers}
use Rattle.nav_session.specs.Exchanges.{QueriesAreAskedAtPin}

pub asked_at_pin : QueriesAreAskedAtPin
asked_at_pin seat seen pin log user (Define path point bounds) reply after is h = (h.found, h.exact, h.stays.told)
asked_at_pin seat seen pin log user (References path point bounds) reply after is h = (h.found, h.exact, h.stays.told)
asked_at_pin seat seen pin log user (Callers path point) reply after is h = (h.found, h.exact, h.stays.told)
asked_at_pin seat seen pin log user _ reply after is h = absurd is
