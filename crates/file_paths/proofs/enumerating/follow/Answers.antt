-- The path is the last of those begun. Where one edge alone leads on, what it becomes is begun in its place, or nothing is.
use Rattle.std.proofs.Common.{◌+◌, [], ◌∷◌, ◌++◌, length, refl, sym, ◌∙◌, subst, arith}
use Rattle.partial_path.specs.Rules.{Rule, IsRule}
use Rattle.partial_path.specs.Walks.{IsWalk}
use Rattle.partial_path.specs.PathSets.{IsRuleOf}
use Rattle.path_join.specs.Extended.{rule_apart}
use Rattle.file_paths.specs.declared.fault.TheConstants.{MAX_WEIGHT}
use Rattle.file_paths.specs.Finding.{IsShort}
use Rattle.file_paths.proofs.CountingLaws.{takes_apart, taken_rule, taken_walk, taken_last, taken_few, taken_within, taken_heavy, taken_heavier, taken_short, taken_smaller, taken_passed, whole_kept, short_fits, alike}
use Rattle.file_paths.proofs.LastLaws.{keeps_landing, keeps_none, may_onward, goes_onward, no_landing_uncut, leads_apart, leads_whole}
use Rattle.file_paths.proofs.OnlyLaws.{only_there, only_none, only_some, only_short}
use Rattle.file_paths.proofs.enumerating.follow.Goals as goal

pub loop-found-init : goal.loop-found-init
loop-found-init c =
    let same = c.into_parts-parts.ensures.value in
    record {
      finding = takes_apart c.args.graph.now c.args.found.now.paths.items c.args.found.now.begun.items c.args.path (rule_apart c.into_parts-parts.result)
          c.args.found.now.weight c.args.steps.now same c.requires.finding;
      rule = subst IsRule (sym same) c.into_parts-parts.ensures.rule;
      short = subst (IsShort (MAX_WEIGHT + 1)) (sym same) c.requires.short;
      begun = c.requires.begun;
      light = c.requires.light;
      heavier = alike c.args.found.now.weight;
      few = taken_few c.args.graph.now c.args.found.now.paths.items c.args.found.now.begun.items c.args.path c.args.found.now.weight c.args.steps.now
          c.requires.finding MAX_WEIGHT c.requires.light;
      fewer = λ whole weighs. taken_within c.args.graph.now c.args.found.now.paths.items c.args.found.now.begun.items c.args.path c.args.found.now.weight c.args.steps.now
          c.requires.finding whole weighs;
    }

pub overflow_add-steps : goal.overflow_add-steps
overflow_add-steps c = omega (arith, c.loop-found.invariant.few)

pub overflow_cast-found : goal.overflow_cast-found
overflow_cast-found c =
    omega (arith, short_fits (MAX_WEIGHT + 1) c.loop-found.parts.edges.items c.as_slice-edges.result.now c.loop-found.invariant.short.edges c.as_slice-edges.ensures.value)

pub overflow_add-found : goal.overflow_add-found
overflow_add-found c =
    omega (arith, c.loop-found.invariant.light, short_fits (MAX_WEIGHT + 1) c.loop-found.parts.edges.items c.as_slice-edges.result.now c.loop-found.invariant.short.edges c.as_slice-edges.ensures.value)

pub returns-then-found-gt-MAX_WEIGHT-clause-fault : goal.returns-then-found-gt-MAX_WEIGHT-clause-fault
returns-then-found-gt-MAX_WEIGHT-clause-fault c = (
  refl,
  taken_heavy c.args.graph.now c.loop-found.found.paths.items c.loop-found.found.begun.items (rule_apart c.loop-found.parts) c.loop-found.found.weight c.loop-found.steps
      c.loop-found.invariant.finding c.as_slice-edges.result.now c.as_slice-edges.ensures.value
      MAX_WEIGHT c.if-found-gt-MAX_WEIGHT.true,
)

pub last_sink-sink-requires : goal.last_sink-sink-requires
last_sink-sink-requires c =
    taken_last c.args.graph.now c.loop-found.found.paths.items c.loop-found.found.begun.items (rule_apart c.loop-found.parts) c.loop-found.found.weight c.loop-found.steps
    c.loop-found.invariant.finding c.as_slice-edges.result.now c.as_slice-edges.ensures.value

pub whole-path-requires : goal.whole-path-requires
whole-path-requires c = c.loop-found.invariant.rule

pub onward-requires-clause-walk : goal.onward-requires-clause-walk
onward-requires-clause-walk c =
    subst (λ (r : Rule). IsWalk c.args.graph.now r.start r.edges) (sym c.whole-path.ensures)
    (taken_walk c.args.graph.now c.loop-found.found.paths.items c.loop-found.found.begun.items (rule_apart c.loop-found.parts) c.loop-found.found.weight c.loop-found.steps
    c.loop-found.invariant.finding)

pub onward-requires-clause-exact : goal.onward-requires-clause-exact
onward-requires-clause-exact c =
    subst (IsRuleOf c.args.graph.now) (sym c.whole-path.ensures)
    (taken_rule c.args.graph.now c.loop-found.found.paths.items c.loop-found.found.begun.items (rule_apart c.loop-found.parts) c.loop-found.found.weight c.loop-found.steps
    c.loop-found.invariant.finding)

pub onward-requires-clause-short : goal.onward-requires-clause-short
onward-requires-clause-short c =
    subst (IsShort MAX_WEIGHT) (sym c.whole-path.ensures)
    (taken_short c.args.graph.now c.loop-found.found.paths.items c.loop-found.found.begun.items (rule_apart c.loop-found.parts) c.loop-found.found.weight c.loop-found.steps
    c.loop-found.invariant.finding c.as_slice-edges.result.now c.as_slice-edges.ensures.value
    MAX_WEIGHT c.loop-found.invariant.short c.if-found-gt-MAX_WEIGHT.false)

pub onward-requires-clause-leads : goal.onward-requires-clause-leads
onward-requires-clause-leads c =
    leads_whole c.args.graph.now c.as_slice-edges.result.now (rule_apart c.loop-found.parts) c.whole-path.result c.last_sink-sink.result c.as_slice-edges.ensures.value c.whole-path.ensures c.last_sink-sink.ensures.leads

pub onward-requires-clause-begun : goal.onward-requires-clause-begun
onward-requires-clause-begun c = c.loop-found.invariant.begun

pub returns-then-lands-clause-finding : goal.returns-then-lands-clause-finding
returns-then-lands-clause-finding c =
    whole_kept c.args.graph.now c.loop-found.found.paths.items c.loop-found.found.begun.items (rule_apart c.loop-found.parts) c.whole-path.result c.loop-found.found.weight c.loop-found.steps
    c.as_slice-edges.result.now c.as_slice-edges.ensures.value c.loop-found.invariant.finding c.whole-path.ensures
    c.onward.new.begun.items c.put.new.paths.items c.in_ok-onward.ensures.longer
    (keeps_landing c.args.graph.now c.whole-path.result c.last_sink-sink.result c.loop-found.found.paths.items c.put.new.paths.items
    (leads_whole c.args.graph.now c.as_slice-edges.result.now (rule_apart c.loop-found.parts) c.whole-path.result c.last_sink-sink.result c.as_slice-edges.ensures.value c.whole-path.ensures c.last_sink-sink.ensures.leads)
    (sym c.lands.ensures ∙ c.if-lands.true) c.in_ok-put.ensures)

pub returns-then-lands-clause-heavier : goal.returns-then-lands-clause-heavier
returns-then-lands-clause-heavier c =
    let more = taken_heavier c.args.graph.now c.loop-found.found.paths.items c.loop-found.found.begun.items (rule_apart c.loop-found.parts) c.loop-found.found.weight c.loop-found.steps
    c.loop-found.invariant.finding c.as_slice-edges.result.now c.as_slice-edges.ensures.value in
    omega (arith, c.loop-found.invariant.heavier, more)

pub whole-requires : goal.whole-requires
whole-requires c = c.loop-found.invariant.rule

pub grow-requires-clause-may : goal.grow-requires-clause-may
grow-requires-clause-may c =
    may_onward c.args.graph.now c.whole.result c.last_sink-sink.result
    (subst (IsRuleOf c.args.graph.now) (sym c.whole.ensures)
    (taken_rule c.args.graph.now c.loop-found.found.paths.items c.loop-found.found.begun.items (rule_apart c.loop-found.parts) c.loop-found.found.weight c.loop-found.steps
    c.loop-found.invariant.finding))
    (subst (λ (r : Rule). IsWalk c.args.graph.now r.start r.edges) (sym c.whole.ensures)
    (taken_walk c.args.graph.now c.loop-found.found.paths.items c.loop-found.found.begun.items (rule_apart c.loop-found.parts) c.loop-found.found.weight c.loop-found.steps
    c.loop-found.invariant.finding))
    (leads_whole c.args.graph.now c.as_slice-edges.result.now (rule_apart c.loop-found.parts) c.whole.result c.last_sink-sink.result c.as_slice-edges.ensures.value c.whole.ensures c.last_sink-sink.ensures.leads) (no_landing_uncut _ _ (sym c.lands.ensures ∙ c.if-lands.false))

pub grow-requires-clause-onward : goal.grow-requires-clause-onward
grow-requires-clause-onward c =
    goes_onward c.args.graph.now c.whole.result c.last_sink-sink.result
    (leads_whole c.args.graph.now c.as_slice-edges.result.now (rule_apart c.loop-found.parts) c.whole.result c.last_sink-sink.result c.as_slice-edges.ensures.value c.whole.ensures c.last_sink-sink.ensures.leads) (no_landing_uncut _ _ (sym c.lands.ensures ∙ c.if-lands.false))

pub grow-requires-clause-short : goal.grow-requires-clause-short
grow-requires-clause-short c =
    subst (IsShort MAX_WEIGHT) (sym c.whole.ensures)
    (taken_short c.args.graph.now c.loop-found.found.paths.items c.loop-found.found.begun.items (rule_apart c.loop-found.parts) c.loop-found.found.weight c.loop-found.steps
    c.loop-found.invariant.finding c.as_slice-edges.result.now c.as_slice-edges.ensures.value
    MAX_WEIGHT c.loop-found.invariant.short c.if-found-gt-MAX_WEIGHT.false)

pub grow-requires-clause-begun : goal.grow-requires-clause-begun
grow-requires-clause-begun c = c.loop-found.invariant.begun

pub returns-in_default-clause-finding : goal.returns-in_default-clause-finding
returns-in_default-clause-finding c =
    whole_kept c.args.graph.now c.loop-found.found.paths.items c.loop-found.found.begun.items (rule_apart c.loop-found.parts) c.whole.result c.loop-found.found.weight c.loop-found.steps
    c.as_slice-edges.result.now c.as_slice-edges.ensures.value c.loop-found.invariant.finding c.whole.ensures
    c.grow.new.begun.items c.loop-found.found.paths.items c.in_ok-grow.ensures.longer
    (keeps_none c.args.graph.now c.whole.result c.last_sink-sink.result c.loop-found.found.paths.items
    (leads_whole c.args.graph.now c.as_slice-edges.result.now (rule_apart c.loop-found.parts) c.whole.result c.last_sink-sink.result c.as_slice-edges.ensures.value c.whole.ensures c.last_sink-sink.ensures.leads)
    (sym c.lands.ensures ∙ c.if-lands.false))

pub returns-in_default-clause-heavier : goal.returns-in_default-clause-heavier
returns-in_default-clause-heavier c =
    let more = taken_heavier c.args.graph.now c.loop-found.found.paths.items c.loop-found.found.begun.items (rule_apart c.loop-found.parts) c.loop-found.found.weight c.loop-found.steps
    c.loop-found.invariant.finding c.as_slice-edges.result.now c.as_slice-edges.ensures.value in
    omega (arith, c.loop-found.invariant.heavier, more)

pub extend_in_place-requires-clause-edge : goal.extend_in_place-requires-clause-edge
extend_in_place-requires-clause-edge c = only_there c.args.graph.now (rule_apart c.loop-found.parts) c.last_sink-sink.result c.in-Some.edge c.in-Some.ensures

pub extend_in_place-requires-clause-rule : goal.extend_in_place-requires-clause-rule
extend_in_place-requires-clause-rule c = c.loop-found.invariant.rule

pub extend_in_place-requires-clause-peak : goal.extend_in_place-requires-clause-peak
extend_in_place-requires-clause-peak c =
    let short = (taken_short c.args.graph.now c.loop-found.found.paths.items c.loop-found.found.begun.items (rule_apart c.loop-found.parts) c.loop-found.found.weight c.loop-found.steps
    c.loop-found.invariant.finding c.as_slice-edges.result.now c.as_slice-edges.ensures.value
    MAX_WEIGHT c.loop-found.invariant.short c.if-found-gt-MAX_WEIGHT.false) in
    omega (arith, short.edges, short.peak)

pub returns-then-not-branch-clause-finding : goal.returns-then-not-branch-clause-finding
returns-then-not-branch-clause-finding c =
    taken_passed c.args.graph.now c.loop-found.found.paths.items c.loop-found.found.begun.items (rule_apart c.loop-found.parts) c.loop-found.found.weight c.loop-found.steps
    c.loop-found.invariant.finding c.as_slice-edges.result.now c.as_slice-edges.ensures.value c.last_sink-sink.result
    (leads_apart c.args.graph.now c.as_slice-edges.result.now c.loop-found.parts.edges.items c.last_sink-sink.result c.as_slice-edges.ensures.value c.last_sink-sink.ensures.leads)
    (sym c.lands.ensures ∙ c.if-lands.false) c.loop-found.found.begun.items
    (λ on. only_none c.args.graph.now (rule_apart c.loop-found.parts) c.last_sink-sink.result c.in-Some.edge c.in-Some.ensures c.in_ok-extend_in_place.field-0 c.extend_in_place.new.parts
    c.in_ok-extend_in_place.ensures.extended c.loop-found.found.begun.items on c.if-not-branch.true)

pub returns-then-not-branch-clause-begun : goal.returns-then-not-branch-clause-begun
returns-then-not-branch-clause-begun c = c.loop-found.invariant.begun

pub returns-then-not-branch-clause-heavier : goal.returns-then-not-branch-clause-heavier
returns-then-not-branch-clause-heavier c =
    let more = taken_heavier c.args.graph.now c.loop-found.found.paths.items c.loop-found.found.begun.items (rule_apart c.loop-found.parts) c.loop-found.found.weight c.loop-found.steps
    c.loop-found.invariant.finding c.as_slice-edges.result.now c.as_slice-edges.ensures.value in
    omega (arith, c.loop-found.invariant.heavier, more)

pub loop-found-smaller : goal.loop-found-smaller
loop-found-smaller c =
    taken_smaller c.args.graph.now c.loop-found.found.paths.items c.loop-found.found.begun.items (rule_apart c.loop-found.parts) c.loop-found.found.weight c.loop-found.steps
    c.loop-found.invariant.finding c.as_slice-edges.result.now c.as_slice-edges.ensures.value
    MAX_WEIGHT c.loop-found.invariant.light

pub loop-found-preserved : goal.loop-found-preserved
loop-found-preserved c =
    let finding = taken_passed c.args.graph.now c.loop-found.found.paths.items c.loop-found.found.begun.items (rule_apart c.loop-found.parts) c.loop-found.found.weight c.loop-found.steps
    c.loop-found.invariant.finding c.as_slice-edges.result.now c.as_slice-edges.ensures.value c.last_sink-sink.result
    (leads_apart c.args.graph.now c.as_slice-edges.result.now c.loop-found.parts.edges.items c.last_sink-sink.result c.as_slice-edges.ensures.value c.last_sink-sink.ensures.leads)
    (sym c.lands.ensures ∙ c.if-lands.false) (c.loop-found.found.begun.items ++ rule_apart c.extend_in_place.new.parts ∷ [])
    (λ on. only_some c.args.graph.now (rule_apart c.loop-found.parts) c.last_sink-sink.result c.in-Some.edge c.in-Some.ensures c.in_ok-extend_in_place.field-0 c.extend_in_place.new.parts
    c.in_ok-extend_in_place.ensures.extended c.loop-found.found.begun.items on c.if-not-branch.false) in
    let more = taken_heavier c.args.graph.now c.loop-found.found.paths.items c.loop-found.found.begun.items (rule_apart c.loop-found.parts) c.loop-found.found.weight c.loop-found.steps
    c.loop-found.invariant.finding c.as_slice-edges.result.now c.as_slice-edges.ensures.value in
    record {
      finding = finding;
      rule = c.in_ok-extend_in_place.ensures.rule c.if-not-branch.false;
      short = only_short c.args.graph.now (rule_apart c.loop-found.parts) c.last_sink-sink.result c.in-Some.edge c.in-Some.ensures c.in_ok-extend_in_place.field-0 c.extend_in_place.new.parts
          c.in_ok-extend_in_place.ensures.extended MAX_WEIGHT
          (taken_short c.args.graph.now c.loop-found.found.paths.items c.loop-found.found.begun.items (rule_apart c.loop-found.parts) c.loop-found.found.weight c.loop-found.steps
          c.loop-found.invariant.finding c.as_slice-edges.result.now c.as_slice-edges.ensures.value
          MAX_WEIGHT c.loop-found.invariant.short c.if-found-gt-MAX_WEIGHT.false) c.loop-found.invariant.rule c.if-not-branch.false;
      begun = c.loop-found.invariant.begun;
      light = c.if-found-gt-MAX_WEIGHT.false;
      heavier = omega (arith, c.loop-found.invariant.heavier, more);
      few = taken_few c.args.graph.now c.loop-found.found.paths.items c.loop-found.found.begun.items (rule_apart c.extend_in_place.new.parts) (c.loop-found.found.weight + length c.as_slice-edges.result.now) (c.loop-found.steps + 1) finding MAX_WEIGHT c.if-found-gt-MAX_WEIGHT.false;
      fewer = λ whole weighs. taken_within c.args.graph.now c.loop-found.found.paths.items c.loop-found.found.begun.items (rule_apart c.extend_in_place.new.parts) (c.loop-found.found.weight + length c.as_slice-edges.result.now) (c.loop-found.steps + 1) finding whole weighs;
    }
