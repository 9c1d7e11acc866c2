-- Which bounds the queries among the requests state.
use Rattle.partial_path.specs.Limits.{IsInRange}
use Rattle.nav_proto.specs.declared.request.Request.{Request}
use Rattle.nav_proto.specs.declared.request.Request.TheVariants.{Hello, Pin, Commit, Grant, Revoke, Deny, Undeny, Define, References, Callers, Quit}

-- a query's bounds are in range
abbrev pub IsBounded : Request → Type 0
IsBounded (Hello user) = Unit {0}
IsBounded Pin = Unit {0}
IsBounded (Commit base edits) = Unit {0}
IsBounded (Grant user prefix) = Unit {0}
IsBounded (Revoke user prefix) = Unit {0}
IsBounded (Deny user prefix) = Unit {0}
IsBounded (Undeny user prefix) = Unit {0}
IsBounded (Define path at bounds) = IsInRange bounds
IsBounded (References path at bounds) = IsInRange bounds
IsBounded (Callers path at) = Unit {0}
IsBounded Quit = Unit {0}
