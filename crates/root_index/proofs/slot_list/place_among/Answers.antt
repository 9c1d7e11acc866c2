use Rattle.root_index.proofs.Starts.{starts_parted, one_begins, start_below, place_in}
use Rattle.root_index.proofs.slot_list.place_among.Goals as goal

pub blocks_near-block-requires : goal.blocks_near-block-requires
blocks_near-block-requires c = starts_parted c.args.starts.now c.requires.blocks c.args.place c.requires.begin

pub overflow_sub-block : goal.overflow_sub-block
overflow_sub-block c =
    one_begins c.args.starts.now c.requires.blocks c.args.place c.blocks_near-block.result c.requires.begin c.requires.inside c.blocks_near-block.ensures.value

pub overflow_sub-result : goal.overflow_sub-result
overflow_sub-result c =
    start_below c.args.starts.now c.requires.blocks c.args.place c.blocks_near-block.result c.requires.begin c.requires.inside c.blocks_near-block.ensures.value

pub returns : goal.returns
returns c blocks begin inside =
    place_in c.args.starts.now blocks c.args.place c.blocks_near-block.result begin inside c.blocks_near-block.ensures.value
