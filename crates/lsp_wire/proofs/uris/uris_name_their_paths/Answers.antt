use Rattle.lsp_wire.proofs.Escapes.{names_its_path}
use Rattle.lsp_wire.proofs.uris.uris_name_their_paths.Goals as goal

pub returns : goal.returns
returns c path small = names_its_path path small
