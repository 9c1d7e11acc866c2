use Rattle.std.proofs.Common.{◌+◌, ◌∷◌, List, ℕ, sym, ap, ◌∙◌, subst}
use Rattle.lsp_frames.specs.Blocks.{lengths_in}
use Rattle.lsp_frames.specs.Inside.{StatesSoFar, lines_left}
use Rattle.lsp_frames.proofs.Lines.{line_goes_on, line_ends}
use Rattle.lsp_frames.proofs.lengths.with_byte.Goals as goal

pub returns-in-Some-clause-stated : goal.returns-in-Some-clause-stated
returns-in-Some-clause-stated c all h =
    let rest = lines_left (c.args.n + 1) (c.args.n + 1) c.args.block.now in
    let ends = line_ends c.args.block.now c.args.start c.args.n c.requires.0 c.requires.1 c.in-Some.ensures.0 in
    c.with_line.ensures all rest
    (subst (λ (lines : List (List ℕ)). StatesSoFar c.args.stated all (lengths_in lines)) (ends ∙ ap (λ (line : List ℕ). line ∷ rest) (sym c.in-Some.ensures.1)) h)

pub returns-in-None-clause-stated : goal.returns-in-None-clause-stated
returns-in-None-clause-stated c all h =
    subst (λ (lines : List (List ℕ)). StatesSoFar c.args.stated all (lengths_in lines))
    (line_goes_on c.args.block.now c.args.start c.args.n c.requires.0 c.requires.1 c.in-None.ensures) h
