use Rattle.std.proofs.Common.{subst, ℕ, List}
use Rattle.partial_path.specs.Tables.{IsTold}
use Rattle.partial_path.proofs.Tabled.{told_run}
use Rattle.partial_path.proofs.start_table.StartTable.told.Goals as goal

pub returns-in-Some-clause-run : goal.returns-in-Some-clause-run
returns-in-Some-clause-run c =
    (told_run c.args.self.now.before.items c.args.self.now.nodes c.args._paths.now c.args.start c.in-Some.found.0 c.in-Some.found.1 c.requires.table
    (subst (λ (before : List ℕ). IsTold before c.args.self.now.nodes c.args.start c.in-Some.found.0 c.in-Some.found.1) c.as_slice.ensures.value c.in-Some.ensures)).0

pub returns-in-Some-clause-bounds : goal.returns-in-Some-clause-bounds
returns-in-Some-clause-bounds c =
    let told = told_run c.args.self.now.before.items c.args.self.now.nodes c.args._paths.now c.args.start c.in-Some.found.0 c.in-Some.found.1 c.requires.table
    (subst (λ (before : List ℕ). IsTold before c.args.self.now.nodes c.args.start c.in-Some.found.0 c.in-Some.found.1) c.as_slice.ensures.value c.in-Some.ensures) in
    (told.1, told.2)
