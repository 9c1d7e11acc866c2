-- Where either list is at its end, nothing is left to be put behind the others.
use Rattle.std.proofs.Common.{sym, ◌∙◌}
use Rattle.std.proofs.lemmas.Slice.Zip.{either_empty_from_Zip}
use Rattle.path_join.proofs.CodeWritten.{longer-end}
use Rattle.path_join.proofs.writing.add_longer.Goals as goal

pub returns : goal.returns
returns c =
    sym (longer-end c.loop-pat.symbols.items _ _ (either_empty_from_Zip c.loop-pat.pat-iterator c.next.new.self c.next.result c.in-None.is c.next.ensures.steps))
    ∙ c.loop-pat.invariant.left
