use Rattle.std.proofs.Common.{ap, ◌∙◌, get_or}
use Rattle.root_index.proofs.Starts.{first_there}
use Rattle.root_index.proofs.slot_list.SlotList.first.Goals as goal

pub returns : goal.returns
returns c =
    let here = c.index-blocks-0.is ∙ ap (λ bs. get_or bs 0 c.index-blocks-0.result) c.blocks-2.ensures.blocks in
    rw (← c.self.view_is) (first_there c.self.inside.blocks c.index-blocks-0.result c.first.result.now here (rw (← c.self.view_is) at c.requires) c.first.ensures)
