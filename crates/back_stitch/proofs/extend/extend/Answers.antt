-- Each path that the look-up gives is tried, one after the other.
use Rattle.std.proofs.Common.{◌≡◌, Err, ℕ, List, [], ◌∷◌, ◌++◌, refl, sym, ap, ◌∙◌, subst, append_assoc}
use Rattle.std.proofs.lemmas.Result.{err_from_is_err_and}
use Rattle.stacks_vars.specs.declared.patterns.SymPat.{SymPat}
use Rattle.partial_path.specs.Rules.{Rule}
use Rattle.back_stitch.specs.declared.fault.BackFault.TheVariants.{Many}
use Rattle.back_stitch.specs.Sources.{AreEnds}
use Rattle.back_stitch.proofs.Listed.{listed_next, extended_none, extended_more, extended_all, overfull}
use Rattle.back_stitch.proofs.extend.extend.Goals as goal

pub loop-found-init : goal.loop-found-init
loop-found-init g c = record {
  few = c.requires.few;
  so_far = (
    [],
    refl,
    λ d paths there behind. extended_none (g.P.BackSource.files c.args.source.now) d paths c.args.tally.now.count c.args.tally.now.rows.items c.args.work.now.items,
  );
}

pub try_path-requires-clause-stored : goal.try_path-requires-clause-stored
try_path-requires-clause-stored g c =
    (listed_next (g.P.BackSource.files c.args.source.now) (record { file = 0; node = 0 }) c.requires.sources c.args.spot c.asked-symbols.result.now
    (g.P.BackSource.given c.args.source.now c.asked-symbols.result.now c.ends-next.result) c.loop-found.invariant.so_far.0
    (g.P.BackSource.given c.args.source.now c.asked-symbols.result.now c.in-Some.found.2) (c.in-Some.found.0, c.in-Some.found.1) c.ends-next.ensures.exact
    (ap (λ (xs : List (ℕ × Rule)). c.loop-found.invariant.so_far.0 ++ xs) (sym c.in-Some.ensures) ∙ c.loop-found.invariant.so_far.1)).0

pub loop-found-preserved : goal.loop-found-preserved
loop-found-preserved g c =
    let files = g.P.BackSource.files c.args.source.now in
    let given = g.P.BackSource.given c.args.source.now c.asked-symbols.result.now in
    let p : ℕ × Rule = (c.in-Some.found.0, c.in-Some.found.1) in
    let gone = c.loop-found.invariant.so_far.0 in
    let whole : gone ++ p ∷ given c.in-Some.found.2 ≡ given c.ends-next.result =
    ap (λ (xs : List (ℕ × Rule)). gone ++ xs) (sym c.in-Some.ensures) ∙ c.loop-found.invariant.so_far.1 in record {
      few = c.in_ok-try_path.ensures.few;
      so_far = (
        gone ++ p ∷ [],
        append_assoc gone (p ∷ []) (given c.in-Some.found.2) ∙ whole,
        λ d paths there behind.
            let may = (listed_next files d c.requires.sources c.args.spot c.asked-symbols.result.now (given c.ends-next.result) gone (given c.in-Some.found.2) p c.ends-next.ensures.exact whole).1 in
            extended_more files d paths gone (p ∷ []) c.args.tally.now.count c.loop-found.tally.count c.try_path.new.tally.count
            c.args.tally.now.rows.items c.loop-found.tally.rows.items c.try_path.new.tally.rows.items c.args.work.now.items c.loop-found.work.items c.try_path.new.work.items
            (c.loop-found.invariant.so_far.2 d paths there behind) (c.in_ok-try_path.ensures.tried d paths c.args.spot there behind may),
      );
    }

pub returns-in_err-try_path-clause-many : goal.returns-in_err-try_path-clause-many
returns-in_err-try_path-clause-many g c h =
    let files = g.P.BackSource.files c.args.source.now in
    let given = g.P.BackSource.given c.args.source.now c.asked-symbols.result.now in
    let p : ℕ × Rule = (c.in-Some.found.0, c.in-Some.found.1) in
    let gone = c.loop-found.invariant.so_far.0 in
    let whole : gone ++ p ∷ given c.in-Some.found.2 ≡ given c.ends-next.result =
    ap (λ (xs : List (ℕ × Rule)). gone ++ xs) (sym c.in-Some.ensures) ∙ c.loop-found.invariant.so_far.1 in
    let fault = err_from_is_err_and c.from_residual.result c.from_residual.ensures.1 in
    let was : c.try_path.result ≡ Err Many = cc (fault.1, fault.2, c.in_err-try_path.was, h) in record {
      listed = given c.ends-next.result;
      ends = subst (λ (xs : List SymPat). AreEnds files c.args.spot xs (given c.ends-next.result)) c.asked-symbols.ensures c.ends-next.ensures.exact;
      past = λ d paths there behind.
          let may = (listed_next files d c.requires.sources c.args.spot c.asked-symbols.result.now (given c.ends-next.result) gone (given c.in-Some.found.2) p c.ends-next.ensures.exact whole).1 in
          overfull files d paths gone (given c.in-Some.found.2) p c.args.tally.now.count c.loop-found.tally.count c.args.tally.now.rows.items c.loop-found.tally.rows.items
          c.args.work.now.items c.loop-found.work.items (given c.ends-next.result)
          (c.loop-found.invariant.so_far.2 d paths there behind) (sym whole) (c.try_path.ensures.full was) (c.try_path.ensures.back was d paths c.args.spot there behind may);
    }

pub returns-clause-tried : goal.returns-clause-tried
returns-clause-tried g c =
    let files = g.P.BackSource.files c.args.source.now in
    let given = g.P.BackSource.given c.args.source.now c.asked-symbols.result.now in
    let gone = c.loop-found.invariant.so_far.0 in record {
      listed = given c.ends-next.result;
      ends = subst (λ (xs : List SymPat). AreEnds files c.args.spot xs (given c.ends-next.result)) c.asked-symbols.ensures c.ends-next.ensures.exact;
      extended = λ d paths there behind.
          extended_all files d paths gone (given c.ends-next.result) c.args.tally.now.count c.loop-found.tally.count
          c.args.tally.now.rows.items c.loop-found.tally.rows.items c.args.work.now.items c.loop-found.work.items
          (ap (λ (xs : List (ℕ × Rule)). gone ++ xs) (sym c.in_default.ensures) ∙ c.loop-found.invariant.so_far.1) (c.loop-found.invariant.so_far.2 d paths there behind);
    }
