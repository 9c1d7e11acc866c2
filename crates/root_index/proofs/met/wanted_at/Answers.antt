use Rattle.std.proofs.Common.{sym, ap, Some, ◌∙◌, ◌<◌, ◌+◌, arith, length}
use Rattle.partial_path.specs.Keys.{texts}
use Rattle.partial_path.proofs.KeyOrders.{front_text, get_taken, turned_back, turned_length}
use Rattle.root_index.proofs.met.wanted_at.Goals as goal

pub returns : goal.returns
returns c =
    let len = turned_length c.reversed-items.result.now c.args.symbols.now c.reversed-items.ensures in
    let here : c.args.i < length c.reversed-items.result.now = omega (arith, len, c.requires) in
    sym (get_taken (texts c.args.symbols.now) (c.args.i + 1) c.args.i (omega arith))
    ∙ front_text c.reversed-items.result.now c.args.symbols.now (c.args.i + 1) c.args.i c.index-items-items.result (turned_back _ _ c.reversed-items.ensures) (omega arith) here
    ∙ ap Some (sym (c.symbol.ensures ∙ ap (λ item. item.symbol) c.index-items-items.is))
