use Rattle.std.specs.Prelude.{option_copied}
use Rattle.root_index.specs.Offers.{files_of}
use Rattle.root_index.proofs.Looked.{all_looked}
use Rattle.root_index.proofs.index.RootIndex.look.Goals as goal

pub returns : goal.returns
returns c = all_looked (files_of c.args.view.now) (option_copied c.args._symbol)
