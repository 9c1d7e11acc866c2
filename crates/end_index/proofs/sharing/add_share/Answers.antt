use Rattle.std.proofs.Common.{◌+◌, subst, IfOk}
use Rattle.partial_path.specs.Ends.{ends_at_root, ends_by_stack}
use Rattle.end_index.specs.Shares.{IsShareOf, first_of}
use Rattle.end_index.proofs.Dealt.{bounds_rise, part_added}
use Rattle.end_index.proofs.sharing.add_share.Goals as goal

pub returns : goal.returns
returns c =
    let from = first_of c.args._view.now c.args._step c.args._place in
    let to = first_of c.args._view.now c.args._step (c.args._place + 1) in
    let low = bounds_rise c.args._view.now c.args._step c.args._place in
    let parts = subst (λ share. IfOk share (IsShareOf c.args._view.now from to)) c.in_ok-root.was c.requires.share in (
      part_added ends_at_root c.args._view.now from to c.args.all.now.root c.add.new.self.root c.in_ok-root.root low c.requires.before.0 parts.0 c.in_ok-add.ensures.root,
      part_added ends_by_stack c.args._view.now from to c.args.all.now.stack c.add.new.self.stack c.in_ok-root.stack low c.requires.before.1 parts.1 c.in_ok-add.ensures.stack,
    )
