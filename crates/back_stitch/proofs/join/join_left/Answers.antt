-- A path in front of one that is known: both as one path, which is kept, or no back list.
use Rattle.std.proofs.Common.{◌∙◌, refl, sym, subst, Option}
use Rattle.std.specs.Option.{IfSome}
use Rattle.std.proofs.lemmas.Bool.{false≢true}
use Rattle.partial_path.specs.Rules.{Rule}
use Rattle.partial_path.specs.Moved.{moved}
use Rattle.path_join.specs.Joins.{IsJoin}
use Rattle.back_stitch.proofs.Longer.{stored_moves, small_edges, small_peak, past_back, none_joined, joined_held, joined_unkept}
use Rattle.back_stitch.proofs.join.join_left.Goals as goal

pub returns-then-not-is_within : goal.returns-then-not-is_within
returns-then-not-is_within g c = λ d paths there held back.
    past_back (g.P.BackSource.files c.args.source.now) d (c.args.file, c.args.path.now) paths c.args.behind.now held
    (c.is_within.ensures.past (λ h. false≢true (sym c.if-not-is_within.true ∙ h))) back

pub join_stored-requires-clause-moves : goal.join_stored-requires-clause-moves
join_stored-requires-clause-moves g c =
    stored_moves c.file_zero_moves.ensures (g.P.BackSource.files c.args.source.now) c.args.file c.args.path.now c.requires.sources c.requires.stored c.ranges.file.fits

pub join_stored-requires-clause-edges : goal.join_stored-requires-clause-edges
join_stored-requires-clause-edges g c =
    small_edges c.args.file c.args.path.now c.args.behind.now (moved c.args.file c.args.path.now) refl (c.is_within.ensures.within c.if-not-is_within.false).0

pub join_stored-requires-clause-peak : goal.join_stored-requires-clause-peak
join_stored-requires-clause-peak g c =
    small_peak c.args.file c.args.path.now c.args.behind.now (moved c.args.file c.args.path.now) refl c.is_within.ensures.rules.0 c.is_within.ensures.rules.1
    (c.is_within.ensures.within c.if-not-is_within.false).1 c.requires.low

pub returns-in_default : goal.returns-in_default
returns-in_default g c = λ d paths there held.
    none_joined (g.P.BackSource.files c.args.source.now) d (c.args.file, c.args.path.now) paths c.args.behind.now (moved c.args.file c.args.path.now) refl held
    (c.in_ok-joined.ensures.none c.in_default.is)

pub returns-then-is_kept : goal.returns-then-is_kept
returns-then-is_kept g c = λ d paths there held.
    joined_held (g.P.BackSource.files c.args.source.now) d (c.args.file, c.args.path.now) paths c.args.behind.now (moved c.args.file c.args.path.now) c.in-Some.joined refl held c.requires.stored c.requires.after
    (subst (λ (o : Option Rule). IfSome o (IsJoin (moved c.args.file c.args.path.now) c.args.behind.now)) c.in-Some.is c.in_ok-joined.ensures.joined) c.is_kept.ensures.rule
    (sym c.is_kept.ensures.value ∙ c.if-is_kept.true)

pub returns-else-is_kept : goal.returns-else-is_kept
returns-else-is_kept g c = λ d paths there held.
    joined_unkept (g.P.BackSource.files c.args.source.now) d (c.args.file, c.args.path.now) paths c.args.behind.now (moved c.args.file c.args.path.now) c.in-Some.joined there refl held c.requires.stored c.requires.after
    (subst (λ (o : Option Rule). IfSome o (IsJoin (moved c.args.file c.args.path.now) c.args.behind.now)) c.in-Some.is c.in_ok-joined.ensures.joined) c.is_kept.ensures.rule
    (sym c.is_kept.ensures.value ∙ c.if-is_kept.false)
