use Rattle.std.proofs.Common.{rules}
use Rattle.path_store.specs.Buckets.{in_bucket}
use Rattle.path_store.proofs.Kept.{same_at_each, on_err}
use Rattle.path_store.proofs.buckets.Buckets.add.Goals as goal

-- What was written back are the numbers that were there.
pub returns-in_err-push-clause-err : goal.returns-in_err-push-clause-err
returns-in_err-push-clause-err c = on_err c.from_residual.result (same_at_each c.args.digest.now (in_bucket c.args.self.now) _ (λ d. search rules))
