use Rattle.std.proofs.Common.{rules, ◌≡◌, sym, ◌∙◌, ap, true, take, slice_get, arith}
use Rattle.partial_path.specs.Keys.{key_cmp, texts}
use Rattle.std.proofs.lemmas.Option.{slice_get_within}
use Rattle.root_index.specs.Roots.{root_key}
use Rattle.root_index.proofs.Meeting.{met_longer, met_before, met_behind, met_alike, text_there, some_text}
use Rattle.root_index.proofs.met.meet.Goals as goal

pub returns-in-Less : goal.returns-in-Less
returns-in-Less c =
    let found = text_there (root_key c.args.slot.now) c.loop-i.i c.wanted_at-wanted.result.now c.in-Some.order c.in-Some.ensures in (
      omega (arith, c.loop-i-test.true),
      met_longer (root_key c.args.slot.now) (texts c.args.symbols.now) c.loop-i.i found.text c.loop-i.invariant.same found.there,
      met_before (root_key c.args.slot.now) (texts c.args.symbols.now) c.loop-i.i found.text c.wanted_at-wanted.result.now c.loop-i.invariant.same found.there c.wanted_at-wanted.ensures (found.side ∙ c.in-Less.is),
    )

pub returns-in-Greater : goal.returns-in-Greater
returns-in-Greater c =
    let found = text_there (root_key c.args.slot.now) c.loop-i.i c.wanted_at-wanted.result.now c.in-Some.order c.in-Some.ensures in
    met_behind (root_key c.args.slot.now) (texts c.args.symbols.now) c.loop-i.i c.args.most found.text c.wanted_at-wanted.result.now c.loop-i.invariant.same found.there c.wanted_at-wanted.ensures (found.side ∙ c.in-Greater.is)
    (omega (arith, c.loop-i-test.true))

pub loop-i-preserved : goal.loop-i-preserved
loop-i-preserved c =
    let found = text_there (root_key c.args.slot.now) c.loop-i.i c.wanted_at-wanted.result.now c.in-Some.order c.in-Some.ensures in
    let inside = slice_get_within (root_key c.args.slot.now) c.loop-i.i found.text found.there in
    record {
      same = met_alike (root_key c.args.slot.now) (texts c.args.symbols.now) c.loop-i.i found.text c.wanted_at-wanted.result.now c.loop-i.invariant.same found.there c.wanted_at-wanted.ensures (found.side ∙ c.in-Equal.is);
      long = omega (arith, inside);
    }

pub returns : goal.returns
returns c =
    let end : c.loop-i.i ≡ c.args.most = omega (arith, c.loop-i-test.false, c.loop-i.auto.i-end) in
    let found = some_text (root_key c.args.slot.now) c.args.most (search rules) in
    ap (λ n. key_cmp (root_key c.args.slot.now) (take n (texts c.args.symbols.now))) (sym end)
    ∙ met_longer (root_key c.args.slot.now) (texts c.args.symbols.now) c.loop-i.i found.0 c.loop-i.invariant.same (ap (slice_get (root_key c.args.slot.now)) end ∙ found.1)
