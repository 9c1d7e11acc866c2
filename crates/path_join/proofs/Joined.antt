-- The join of two paths does what the one and then the other does, and is a rule; where there is none, no
-- configuration passes both.
use Rattle.std.proofs.Common.{◌≡◌, ℕ, true, Some, None, refl, subst}
use Rattle.partial_path.specs.declared.config.Config.{Config}
use Rattle.partial_path.specs.Rules.{Rule, IsRule}
use Rattle.path_join.specs.Joins.{IsJoin, NonePasses}
use Rattle.path_join.specs.Joining.{join_rules}
use Rattle.path_join.proofs.GoodLaws.{good_post, good_post-from}
use Rattle.path_join.proofs.AppliesLaws.{the_join, joined-applies, no-join, IsMade, made}
use Rattle.path_join.proofs.HeightsLaws.{joined-high}
use Rattle.path_join.proofs.RuledLaws.{good-joined, joined-ruled}
use Rattle.path_join.proofs.PassedLaws.{some-passes}
use Rattle.path_join.proofs.FilesLaws.{made_in}

-- the variables of a rule are good
good-rule : (p : Rule) → IsRule p → good_post p.pre.symbols p.post ≡ true
good-rule p h = good_post-from p.pre p.post h.tails

is_join : (p q j : Rule) → IsRule p → (m : IsMade p q j) → IsJoin p q (the_join p q m.asked m.known)
is_join p q j h m = record {
  start = refl;
  edges = refl;
  files = λ first second. made_in (λ (file : ℕ). file ≡ 0) p q m.asked m.known first second m.asks m.knows;
  peak = refl;
  applies = λ (c : Config). joined-applies p q m.asked m.known c (good-rule p h) m.asks m.knows;
  high = joined-high p q m.asked m.known (good-rule p h) m.knows;
  passed = some-passes (the_join p q m.asked m.known) (good-joined p q m.asked m.known (good-rule p h) m.knows) m.ends;
}

pub joined : (p q j : Rule) → IsRule p → IsRule q → join_rules p q ≡ Some j → IsJoin p q j
joined p q j h k is =
    let m = made p q j is in subst (λ (r : Rule). IsJoin p q r) m.is (is_join p q j h m)

pub joined_is_rule : (p q j : Rule) → IsRule p → IsRule q → join_rules p q ≡ Some j → IsRule j
joined_is_rule p q j h k is =
    let m = made p q j is in subst (λ (r : Rule). IsRule r) m.is (joined-ruled p q m.asked m.known h k (good-rule p h) m.knows)

pub never : (p q : Rule) → IsRule p → IsRule q → join_rules p q ≡ None → NonePasses p q
never p q h k is = no-join p q (good-rule p h) is
