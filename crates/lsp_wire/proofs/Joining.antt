-- The text of locations, one by one.
use Rattle.std.proofs.Common.{◌≡◌, ℕ, ◌+◌, ◌<◌, List, [], ◌∷◌, ◌++◌, length, take, get_or, refl, sym, ap, ◌∙◌, append_assoc, flat_map, codes}
use Rattle.std.proofs.lemmas.List.{take_more, flat_map_more}
use Rattle.lsp_wire.specs.declared.reply.Location.{Location}
use Rattle.lsp_wire.specs.Replies.{location_text, next_text}

pub one_more : (text comma text' first : List ℕ) (rest : List Location) (i : ℕ) (x : Location) → i < length rest → x ≡ get_or rest i x
    → text ≡ first ++ flat_map next_text (take i rest) → comma ≡ text ++ codes "," → text' ≡ comma ++ location_text x
    → text' ≡ first ++ flat_map next_text (take (i + 1) rest)
one_more text comma text' first rest i x h is so_far with_comma with_text =
    with_text ∙ ap (λ t. t ++ location_text x) with_comma ∙ append_assoc text (codes ",") (location_text x)
    ∙ ap (λ t. t ++ next_text x) so_far ∙ flat_map_more next_text first (take i rest) x
    ∙ ap (λ (ls : List Location). first ++ flat_map next_text ls) (ap (λ (y : Location). take i rest ++ y ∷ []) is ∙ sym (take_more rest i x h))
