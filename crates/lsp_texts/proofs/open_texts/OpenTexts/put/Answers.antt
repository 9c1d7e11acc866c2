-- The text at the path is the one that was put, and each other one is as it was.
use Rattle.std.proofs.Common.{rules, arith, Some}
use Rattle.std.proofs.lemmas.Map.Text.{text_keys, btree_map_updates_text}
use Rattle.lsp_texts.proofs.open_texts.OpenTexts.put.Goals as goal

pub returns-in-Some : goal.returns-in-Some
returns-in-Some c = λ q.
    let sets = btree_map_updates_text c.args.path.now c.args.self.now.rooms (c.get_mut.follows.lender (Some c.args.text)) _ ((c.get_mut.follows.holds (Some c.args.text)).3 (search rules)) q in
    grind (arith, text_keys, sets)
