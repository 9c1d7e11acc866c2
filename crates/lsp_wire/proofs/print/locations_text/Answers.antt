use Rattle.std.proofs.Common.{◌∙◌, string_bytes}
use Rattle.lsp_wire.proofs.Joining.{one_more}
use Rattle.lsp_wire.proofs.print.locations_text.Goals as goal

pub loop-location-preserved : goal.loop-location-preserved
loop-location-preserved c =
    one_more (string_bytes c.loop-location.text) (string_bytes c.push_str.new.self) (string_bytes c.push_str-in-loop-location.new.self)
    (string_bytes c.in_ok-text.text) c.in-Some.rest.now c.loop-location.location-index c.location-item.result c.loop-location-test.true c.location-item.is
    c.loop-location.invariant c.in_ok-push_str.ensures.bytes (rw (← c.in_ok-location_text.ensures, ← c.as_str.ensures.value) c.in_ok-push_str-2.ensures.bytes)
