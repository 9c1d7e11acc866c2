use Rattle.std.proofs.Common.{◌≡◌, map, take}
use Rattle.lsp_texts.specs.Texts.{texts_in}
use Rattle.lsp_answers.specs.Queries.{location_of}
use Rattle.lsp_answers.proofs.outcomes.located.Given as goal

-- the rows so far
abbrev pub invariant-loop-row : goal.invariant-loop-row
invariant-loop-row l = l.found.items ≡ map (location_of l.project.root.now (texts_in l.project.texts.now)) (take l.row-index l.rows)
