use Rattle.std.proofs.Common.{arith, ap, ◌++◌, ◌∙◌, codes}
use Rattle.std.proofs.lemmas.List.Elements.{All-from_get_or}
use Rattle.percent_encoding.proofs.PercentLemmas.{IsByte}
use Rattle.lsp_wire.proofs.Escapes.{encodes}
use Rattle.lsp_wire.proofs.uris.uri_of_path.Goals as goal

pub returns : goal.returns
returns c =
    let small = All-from_get_or IsByte c.args.path.now 0 (λ i within. omega (arith, c.type_inv.path i)) in
    rw (c.in_ok-append_to.ensures.ok, c.percent_encode.ensures.text, c.in_ok-uri.ensures.ok) (ap (λ bytes. codes "file://" ++ bytes) (encodes c.args.path.now small))
