-- The request of a line, by what its value is.
use Rattle.std.proofs.Common.{◌≡◌, ℕ, List, Some, None, Result, Err, refl, sym, ap, ◌∙◌, subst, option_and_then}
use Rattle.std.specs.Prelude.{codes, ok_or}
use Rattle.serde_json.specs.Data.{Data, null, boolean, number, string, array, object}
use Rattle.serde_json.specs.Find.{get, as_object, as_str}
use Rattle.json_values.specs.Text.{json_of, IsNoObject}
use Rattle.nav_proto.specs.declared.request.Request.{Request}
use Rattle.nav_proto.specs.declared.proto_fault.ProtoFault.{ProtoFault}
use Rattle.nav_proto.specs.declared.proto_fault.ProtoFault.TheVariants.{BadJson, BadRequest}
use Rattle.nav_proto.specs.Members.{◌>>=◌}
use Rattle.nav_proto.specs.Requests.{form_of, request_of, request_from}
use Rattle.nav_proto.specs.Answers.{LineGives, Names}
use Rattle.nav_proto.proofs.Named.{gives-named}

-- what is no object has no member
no_member : (name : List ℕ) (d : Data) → as_object d ≡ None → get name d ≡ None
no_member name null e = refl
no_member name (boolean b) e = refl
no_member name (number n) e = refl
no_member name (string s) e = refl
no_member name (array ds) e = refl
no_member name (object ms) e = absurd (cc)

request_from-value : (line : List ℕ) (d : Data) → json_of line ≡ Some d → request_from line ≡ request_of d
unfolding request_from
request_from-value line d e = ap (λ o. ok_or o BadJson >>= request_of) e

request_of-no_object : (d : Data) → as_object d ≡ None → request_of d ≡ Err (BadRequest (codes "do"))
unfolding request_of
request_of-no_object d n = ap (λ o. ok_or (option_and_then as_str o) (BadRequest (codes "do")) >>= (λ word. form_of word d)) (no_member (codes "do") d n)

pub gives-value : (line : List ℕ) (d : Data) (r : Result Request ProtoFault) → json_of line ≡ Some d → LineGives r (request_of d) → LineGives r (request_from line)
gives-value line d r e g = subst (LineGives r) (sym (request_from-value line d e)) g

pub gives-no_object : (line : List ℕ) (e : ProtoFault) → IsNoObject line → Names (codes "do") e → LineGives (Err e) (request_from line)
gives-no_object line e h named = gives-named (codes "do") e (request_from line) named (request_from-value line h.0 h.1 ∙ request_of-no_object h.0 h.2)

pub request_from-bad : (line : List ℕ) → json_of line ≡ None → request_from line ≡ Err BadJson
unfolding request_from
request_from-bad line e = ap (λ o. ok_or o BadJson >>= request_of) e

pub ruleset whole = (gives-value, gives-no_object, request_from-bad)
