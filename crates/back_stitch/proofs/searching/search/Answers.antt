-- The search goes on from one rule to the next, until none is left.
use Rattle.std.proofs.Common.{◌≡◌, ◌∙◌, ◌-◌, ◌<◌, ◌+◌, ◌++◌, ℕ, Err, List, [], refl, take, length, append-nil, ap, sym, subst}
use Rattle.std.specs.Vec.{vec_len}
use Rattle.std.proofs.lemmas.Result.{err_from_is_err_and}
use Rattle.stacks_vars.specs.declared.scopes.NodeAt.{NodeAt}
use Rattle.partial_path.specs.Rules.{Rule}
use Rattle.back_stitch.specs.declared.fault.BackFault.TheVariants.{Many}
use Rattle.back_stitch.specs.Held.{HasExtended, IsOverfull}
use Rattle.back_stitch.specs.Lists.{most_lists}
use Rattle.back_stitch.proofs.Going.{IsGoing, going_first, going_on, open_last, falls, many_first, many_on, all_begin, all_few}
use Rattle.back_stitch.proofs.searching.search.Goals as goal

-- where none can be taken, none is open
none_open : (n : ℕ) (work rest : List Rule) → n ≡ 0 → work ≡ rest ++ [] → rest ≡ take (n - 1) work → work ≡ []
none_open n work rest none is left = is ∙ append-nil rest ∙ left ∙ ap (λ (m : ℕ). take (m - 1) work) none

pub returns-in_err-extend-clause-many : goal.returns-in_err-extend-clause-many
returns-in_err-extend-clause-many g c h =
    let files = g.P.BackSource.files c.args.source.now in
    let d = c.args.definition in
    let fault = err_from_is_err_and c.from_residual.result c.from_residual.ensures.1 in
    let was : c.extend.result ≡ Err Many = cc (fault.1, fault.2, c.in_err-extend.was, h) in
    let t = c.extend.ensures.many was in
    many_first files d c.are_sources.ensures c.requires.definition t.listed t.ends
    (subst (λ (n : ℕ). IsOverfull files d [] t.listed n) c.new-tally.ensures.count (t.past d [] c.requires.definition (refl, refl)))

pub loop-path-init : goal.loop-path-init
loop-path-init g c =
    let files = g.P.BackSource.files c.args.source.now in
    let d = c.args.definition in
    let t = c.in_ok-extend.ensures.tried in record {
      few = c.in_ok-extend.ensures.few;
      going = λ sources at.
          going_first files d sources at t.listed c.extend.new.tally.count c.extend.new.tally.rows.items c.extend.new.work.items t.ends
          (subst (λ (w : List Rule). HasExtended files d [] t.listed 0 c.extend.new.tally.count [] c.extend.new.tally.rows.items w c.extend.new.work.items) c.new-work.ensures.items
          (subst (λ (r : List NodeAt). HasExtended files d [] t.listed 0 c.extend.new.tally.count r c.extend.new.tally.rows.items c.new-work.result.items c.extend.new.work.items) c.new-tally.ensures.rows
          (subst (λ (n : ℕ). HasExtended files d [] t.listed n c.extend.new.tally.count c.new-tally.result.rows.items c.extend.new.tally.rows.items c.new-work.result.items c.extend.new.work.items) c.new-tally.ensures.count
          (t.extended d [] at (refl, refl)))));
    }

pub extend-requires-in-Some-clause-open : goal.extend-requires-in-Some-clause-open
extend-requires-in-Some-clause-open g c =
    let files = g.P.BackSource.files c.args.source.now in
    let d = c.args.definition in
    open_last files d c.are_sources.ensures c.requires.definition c.pop.new.self.items c.in-Some.path c.loop-path.tally.count c.loop-path.tally.rows.items
    (subst (λ (w : List Rule). IsGoing files d c.are_sources.ensures c.requires.definition w c.loop-path.tally.count c.loop-path.tally.rows.items) c.in-Some.ensures.items
    (c.loop-path.invariant.going c.are_sources.ensures c.requires.definition))

pub loop-path-smaller : goal.loop-path-smaller
loop-path-smaller g c =
    let files = g.P.BackSource.files c.args.source.now in
    let d = c.args.definition in
    subst (λ (w : List Rule). (most_lists - c.extend-in-Some.new.tally.count) + length c.extend-in-Some.new.work.items < (most_lists - c.loop-path.tally.count) + length w) (sym c.in-Some.ensures.items)
    (falls files d c.are_sources.ensures c.requires.definition c.pop.new.self.items c.extend-in-Some.new.work.items c.in-Some.path c.begin_of-spot.result c.loop-path.tally.count c.extend-in-Some.new.tally.count c.loop-path.tally.rows.items c.extend-in-Some.new.tally.rows.items
    (subst (λ (w : List Rule). IsGoing files d c.are_sources.ensures c.requires.definition w c.loop-path.tally.count c.loop-path.tally.rows.items) c.in-Some.ensures.items
    (c.loop-path.invariant.going c.are_sources.ensures c.requires.definition))
    c.begin_of-spot.ensures c.in_ok-extend-2.ensures.tried c.in_ok-extend-2.ensures.few)

pub loop-path-preserved : goal.loop-path-preserved
loop-path-preserved g c =
    let files = g.P.BackSource.files c.args.source.now in
    let d = c.args.definition in record {
      few = c.in_ok-extend-2.ensures.few;
      going = λ sources at.
          going_on files d sources at c.pop.new.self.items c.extend-in-Some.new.work.items c.in-Some.path c.begin_of-spot.result c.loop-path.tally.count c.extend-in-Some.new.tally.count c.loop-path.tally.rows.items c.extend-in-Some.new.tally.rows.items
          (subst (λ (w : List Rule). IsGoing files d sources at w c.loop-path.tally.count c.loop-path.tally.rows.items) c.in-Some.ensures.items (c.loop-path.invariant.going sources at))
          c.begin_of-spot.ensures c.in_ok-extend-2.ensures.tried;
    }

pub returns-in_err-extend-2-clause-many : goal.returns-in_err-extend-2-clause-many
returns-in_err-extend-2-clause-many g c h =
    let files = g.P.BackSource.files c.args.source.now in
    let d = c.args.definition in
    let fault = err_from_is_err_and c.from_residual-in_err-extend-2.result c.from_residual-in_err-extend-2.ensures.1 in
    let was : c.extend-in-Some.result ≡ Err Many = cc (fault.1, fault.2, c.in_err-extend-2.was, h) in
    many_on files d c.are_sources.ensures c.requires.definition c.pop.new.self.items c.in-Some.path c.begin_of-spot.result c.loop-path.tally.count c.loop-path.tally.rows.items
    (subst (λ (w : List Rule). IsGoing files d c.are_sources.ensures c.requires.definition w c.loop-path.tally.count c.loop-path.tally.rows.items) c.in-Some.ensures.items
    (c.loop-path.invariant.going c.are_sources.ensures c.requires.definition))
    c.begin_of-spot.ensures (c.extend-in-Some.ensures.many was)

pub returns-clause-begin : goal.returns-clause-begin
returns-clause-begin g c =
    all_begin (g.P.BackSource.files c.args.source.now) c.args.definition c.are_sources.ensures c.requires.definition c.loop-path.work.items c.loop-path.tally.count c.loop-path.tally.rows.items
    (none_open (vec_len c.loop-path.work) c.loop-path.work.items c.pop.new.self.items c.in_default.ensures.cases.0 c.in_default.ensures.items c.in_default.ensures.rest)
    (c.loop-path.invariant.going c.are_sources.ensures c.requires.definition)

pub returns-clause-few : goal.returns-clause-few
returns-clause-few g c =
    all_few (g.P.BackSource.files c.args.source.now) c.args.definition c.are_sources.ensures c.requires.definition c.loop-path.work.items c.loop-path.tally.count c.loop-path.tally.rows.items
    (none_open (vec_len c.loop-path.work) c.loop-path.work.items c.pop.new.self.items c.in_default.ensures.cases.0 c.in_default.ensures.items c.in_default.ensures.rest)
    (c.loop-path.invariant.going c.are_sources.ensures c.requires.definition) c.loop-path.invariant.few
