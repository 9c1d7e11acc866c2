-- The lines of a block, byte by byte.
use Rattle.std.proofs.Common.{◌≡◌, ℕ, ◌+◌, ◌-◌, ◌<◌, ◌≤◌, true, false, List, [], ◌∷◌, ◌++◌, length, take, drop, get_or, if◌then◌else◌, sym, ap, ◌∙◌, arith, length-take}
use Rattle.std.proofs.lemmas.List.{drop_more, take_more, drop-append-le, drop-take, drop_all}
use Rattle.lsp_frames.specs.Blocks.{ends_line, without_end, lines_from}
use Rattle.lsp_frames.specs.Inside.{lines_left}

-- the line that began, with one byte more
begun : (block : List ℕ) (start n : ℕ) → start ≤ n → n < length block
    → drop start (take n block) ++ get_or block n 0 ∷ [] ≡ take (n + 1 - start) (drop start block)
begun block start n h within =
    let size : length (take n block) ≡ n = omega (arith, length-take n block, within) in
    let all : start + (n + 1 - start) ≡ n + 1 = omega (arith, h) in
    sym (drop-append-le start (take n block) (get_or block n 0 ∷ []) (omega (arith, size, h)))
    ∙ ap (drop start) (sym (take_more block n 0 within))
    ∙ ap (λ m. drop start (take m block)) (sym all)
    ∙ drop-take start (n + 1 - start) block

one_more : (block : List ℕ) (start n : ℕ) → start ≤ n → n < length block → lines_left start n block
    ≡ (if ends_line (take (n + 1 - start) (drop start block))
    then without_end (take (n + 1 - start) (drop start block)) ∷ lines_from [] (drop (n + 1) block)
    else lines_from (take (n + 1 - start) (drop start block)) (drop (n + 1) block))
one_more block start n h within =
    ap (lines_from (drop start (take n block))) (drop_more block n 0 within)
    ∙ ap (λ bytes. if ends_line bytes then without_end bytes ∷ lines_from [] (drop (n + 1) block) else lines_from bytes (drop (n + 1) block)) (begun block start n h within)

pub line_goes_on : (block : List ℕ) (start n : ℕ) → start ≤ n → n < length block → ends_line (take (n + 1 - start) (drop start block)) ≡ false
    → lines_left start n block ≡ lines_left start (n + 1) block
line_goes_on block start n h within e =
    let all : start + (n + 1 - start) ≡ n + 1 = omega (arith, h) in
    one_more block start n h within
    ∙ ap (λ b. if b then without_end (take (n + 1 - start) (drop start block)) ∷ lines_from [] (drop (n + 1) block) else lines_from (take (n + 1 - start) (drop start block)) (drop (n + 1) block)) e
    ∙ ap (λ bytes. lines_from bytes (drop (n + 1) block)) (sym (drop-take start (n + 1 - start) block) ∙ ap (λ m. drop start (take m block)) all)

pub line_ends : (block : List ℕ) (start n : ℕ) → start ≤ n → n < length block → ends_line (take (n + 1 - start) (drop start block)) ≡ true
    → lines_left start n block ≡ without_end (take (n + 1 - start) (drop start block)) ∷ lines_left (n + 1) (n + 1) block
line_ends block start n h within e =
    one_more block start n h within
    ∙ ap (λ b. if b then without_end (take (n + 1 - start) (drop start block)) ∷ lines_from [] (drop (n + 1) block) else lines_from (take (n + 1 - start) (drop start block)) (drop (n + 1) block)) e
    ∙ ap (λ bytes. without_end (take (n + 1 - start) (drop start block)) ∷ lines_from bytes (drop (n + 1) block))
    (sym (drop_all (n + 1) (take (n + 1) block) (omega (arith, length-take (n + 1) block))))
