use Rattle.std.proofs.Common.{◌≡◌, ◌≤◌, ◌+◌, ◌-◌, ◌++◌, sym, ◌∙◌, ap, subst, ℕ, length, take, replicate, true, arith}
use Rattle.partial_path.specs.Tables.{AreTold, has_place, place_in}
use Rattle.partial_path.proofs.Tabled.{told_none, told_more, filled, filled_size}
use Rattle.partial_path.proofs.start_table.counts_begun.Goals as goal

pub loop-i-init : goal.loop-i-init
loop-i-init c = told_none c.in_ok-before.before.items c.args.nodes c.args.paths.now c.in_ok-before.ensures.items

pub loop-i-preserved : goal.loop-i-preserved
loop-i-preserved c =
    let le : length c.loop-i.before.items ≤ c.place_in-place.result + 1 = omega (arith, c.if-next-count.false, c.len-count.ensures, c.loop-i.before.ok.0) in
    let is : c.resize.new.self.items ≡ take (c.place_in-place.result + 1) c.loop-i.before.items ++ replicate ((c.place_in-place.result + 1) - length c.loop-i.before.items) c.loop-i.i
    = c.in_ok-resize.ensures.items ∙ ap (λ n. take (c.place_in-place.result + 1) c.loop-i.before.items ++ replicate ((c.place_in-place.result + 1) - n) c.loop-i.i) c.loop-i.before.ok.0 in
    let placed : has_place c.args.nodes c.at.result.start ≡ true
    = ap (has_place c.args.nodes) (sym c.start-start.ensures.value) ∙ sym c.has_place.ensures ∙ c.if-not-has_place.false in
    let place : c.place_in-place.result ≡ place_in c.args.nodes c.at.result.start = c.place_in-place.ensures.value ∙ ap (place_in c.args.nodes) c.start-start.ensures.value in
    told_more c.resize.new.self.items c.args.nodes c.loop-i.i c.args.paths.now c.at.result (omega (arith, c.loop-i-test.true, c.len-i-end.ensures)) c.at.ensures.is placed
    (filled_size c.loop-i.before.items c.resize.new.self.items c.args.nodes c.loop-i.i (c.place_in-place.result + 1) c.args.paths.now c.loop-i.invariant le is
    ∙ ap (λ p. p + 1) place)
    (filled c.loop-i.before.items c.resize.new.self.items c.args.nodes c.loop-i.i (c.place_in-place.result + 1) c.args.paths.now c.loop-i.invariant le is)

pub returns : goal.returns
returns c =
    let all : c.loop-i.i ≡ length c.args.paths.now = omega (arith, c.loop-i-test.false, c.loop-i.auto.i-end, c.len-i-end.ensures) in
    subst (λ (n : ℕ). AreTold c.loop-i.before.items c.args.nodes n c.args.paths.now) all c.loop-i.invariant
