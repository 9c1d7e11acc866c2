use Rattle.std.proofs.Common.{ℕ, ◌≡◌, Result, Ok, Err, IfOk, IfErr, sym, ◌∙◌, List}
use Rattle.std.specs.Result.{is_ok}
use Rattle.grants.specs.Pairs.{Pair, pair, has_pair}
use Rattle.list_facts.specs.Places.{IsAt, IsGapFor}
use Rattle.grants.specs.Places.{beside}
use Rattle.grants.proofs.Found as found
use Rattle.grants.proofs.rule_set.RuleSet.has.Goals as goal

answers : (p : Pair) (ps : List Pair) (r : Result ℕ ℕ) → IfOk r (IsAt (beside p) ps) → IfErr r (IsGapFor (beside p) ps) → is_ok r ≡ has_pair p ps
answers p ps (Ok i) at gap = sym (found.at-has p ps i at)
answers p ps (Err i) at gap = sym (found.gap-has p ps i gap)

pub returns : goal.returns
returns c = c.is_ok.ensures.value ∙ answers (pair c.args.user.now c.args.prefix.now) c.args.self.now c.place.result c.place.ensures.found c.place.ensures.absent
