use Rattle.std.proofs.Common.{◌≡◌, drop, map, None}
use Rattle.std.specs.Option.{option_map}
use Rattle.version_tree.specs.Repeats.{repeat_from}
use Rattle.version_tree.proofs.repeats.first_repeat.Given as goal

abbrev pub invariant-loop-path : goal.invariant-loop-path
invariant-loop-path l = repeat_from None (map (λ p. p.now) l.paths) ≡ repeat_from (option_map (λ p. p.now) l.last) (map (λ p. p.now) (drop l.path-index l.paths))
