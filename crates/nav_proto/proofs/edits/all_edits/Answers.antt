use Rattle.std.proofs.Common.{sym, ◌∙◌, ap, map, Some}
use Rattle.serde_json.specs.View.{view}
use Rattle.nav_proto.specs.Edits.{edit_of, all_some}
use Rattle.nav_proto.proofs.edits.all_edits.Goals as goal
use Rattle.nav_proto.proofs.Collecting as collecting

pub loop-value-init : goal.loop-value-init
loop-value-init c = rw (c.new-edits.ensures.items, c.into_iter-value-iterator.ensures.into_iter_gives.0) (collecting.begins (map edit_of (map view c.args.values.items)))

pub loop-value-preserved : goal.loop-value-preserved
loop-value-preserved c =
    collecting.taken edit_of view (all_some (map edit_of (map view c.args.values.items))) c.loop-value.edits.items c.push.new.self.items c.in-Some.value c.loop-value.value-iterator.rest.items c.next.new.self.rest.items c.in-Some-2.edit c.in-Some.ensures.steps.0
    (sym c.in_ok-edit.ensures ∙ c.in-Some-2.is) c.in_ok-push-in-Some-2.ensures.items c.loop-value.invariant

pub returns-in-None-2 : goal.returns-in-None-2
returns-in-None-2 c =
    collecting.refused edit_of view (all_some (map edit_of (map view c.args.values.items))) c.loop-value.edits.items c.in-Some.value c.loop-value.value-iterator.rest.items c.next.new.self.rest.items c.in-Some.ensures.steps.0
    (sym c.in_ok-edit.ensures ∙ c.in-None-2.is) c.loop-value.invariant

pub returns : goal.returns
returns c =
    ap Some c.of.ensures ∙ collecting.done edit_of view (all_some (map edit_of (map view c.args.values.items))) c.loop-value.edits.items c.loop-value.value-iterator.rest.items
    (sym c.loop-value.value-iterator.rest.ok.0 ∙ c.in-None.ensures.steps.0) c.loop-value.invariant
