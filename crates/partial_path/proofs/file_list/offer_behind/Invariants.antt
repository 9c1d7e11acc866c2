use Rattle.std.proofs.Common.{◌≡◌, drop}
use Rattle.partial_path.specs.Sources.{rules_offered_after}
use Rattle.partial_path.specs.Offers.{offers_behind}
use Rattle.partial_path.proofs.file_list.offer_behind.Given as goal

-- what the files behind offer is what those left offer
abbrev pub invariant-loop-file : goal.invariant-loop-file
invariant-loop-file l =
    offers_behind l.files l.symbols l.fn.at ≡ rules_offered_after l.file (drop l.file l.files) l.fn.at.inside.start l.symbols
