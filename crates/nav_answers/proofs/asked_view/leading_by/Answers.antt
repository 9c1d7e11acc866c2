use Rattle.std.proofs.Common.{◌≡◌, subst, Err, IfOk}
use Rattle.partial_path.specs.Sources.{graphs_of}
use Rattle.root_index.specs.Offers.{files_of}
use Rattle.back_stitch.specs.Lists.{AreThoseThatReach, HasMany}
use Rattle.back_stitch.specs.declared.fault.BackFault.TheVariants.{Many}
use Rattle.end_index.specs.Looks.{Seen}
use Rattle.nav_answers.proofs.asked_view.leading_by.Goals as goal

pub returns-clause-leading : goal.returns-clause-leading
returns-clause-leading c =
    subst (λ (s : Seen). IfOk c.back.result (λ rows. AreThoseThatReach (graphs_of (files_of s.rows)) c.args.node rows.items)) c.of-source.ensures c.back.ensures.references

pub returns-clause-many : goal.returns-clause-many
returns-clause-many c =
    subst (λ (s : Seen). c.back.result ≡ Err Many → HasMany (graphs_of (files_of s.rows)) c.args.node) c.of-source.ensures c.back.ensures.many
