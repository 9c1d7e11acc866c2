use Rattle.std.proofs.Common.{subst, sym}
use Rattle.std.specs.Prelude.{All, IsPermutation}
use Rattle.std.proofs.lemmas.List.Sorted.{IsPermutation-refl}
use Rattle.partial_path.specs.Sources.{IsSourceFile, rules_offered}
use Rattle.partial_path.proofs.file_list.FileListPathSource.offers.Goals as goal

pub returns-clause-exact : goal.returns-clause-exact
returns-clause-exact c =
    subst (IsPermutation (rules_offered c.args.self.now c.args.start.now c.args._symbols.now))
    (sym (c.offers_from.ensures c.args.self.now c.args._symbols.now (subst (All IsSourceFile) c.self.view_is c.self.invariant.sets)))
    (IsPermutation-refl (rules_offered c.args.self.now c.args.start.now c.args._symbols.now))
