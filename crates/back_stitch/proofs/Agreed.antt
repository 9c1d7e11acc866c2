-- A path behind which another applies makes symbols that agree with those that the other asks for.
use Rattle.std.proofs.Common.{◌≡◌, ◌≤◌, refl, sym, subst, ap, ◌∙◌, ℕ, ◌+◌, ◌-◌, List, [], ◌∷◌, ◌++◌, map, length, Bool, true, Some, arith, length-append}
use Rattle.std.proofs.lemmas.List.{length-drop, length-map}
use Rattle.std.specs.Prelude.{◌&&◌}
use Rattle.std.specs.Option.{option_map}
use Rattle.std.specs.Str.{bytes_eq}
use Rattle.std.proofs.lemmas.Bool.{and_from}
use Rattle.std.proofs.lemmas.Option.{option_and_then_some}
use Rattle.stacks_vars.specs.declared.scopes.NodeAt.{NodeAt}
use Rattle.stacks_vars.specs.declared.items.SymbolItem.{SymbolItem}
use Rattle.stacks_vars.specs.declared.patterns.SymPat.{SymPat}
use Rattle.stacks_vars.specs.declared.patterns.SymOut.{SymOut}
use Rattle.partial_path.specs.declared.config.Config.{Config}
use Rattle.partial_path.specs.declared.rule.Start.{Start}
use Rattle.partial_path.specs.declared.rule.Start.TheVariants.{After}
use Rattle.partial_path.specs.Rules.{Rule}
use Rattle.partial_path.specs.Apply.{Rests, after_fixed, fill_item, match_attached, match_item, match_items, rests_of, apply}
use Rattle.partial_path.specs.Moved.{moved, moved_symbol_out}
use Rattle.partial_path.specs.PathSets.{FileRules}
use Rattle.partial_path.proofs.Followed.{if_some}
use Rattle.back_stitch.specs.Lists.{at_start}
use Rattle.back_stitch.specs.Sources.{agrees}
use Rattle.back_stitch.specs.Paths.{IsBackPath}
use Rattle.back_stitch.specs.Held.{IsHeld}
use Rattle.back_stitch.proofs.Matched.{mapped}
use Rattle.back_stitch.proofs.Applied.{applied_by, left_of, end_made, none_made}
use Rattle.back_stitch.proofs.Stood.{leads_chain}

made_agree : (rests : Rests) (made : List SymOut) (left : List SymbolItem) (pats : List SymPat) (found : List (List NodeAt)) → length made ≤ length pats
    → match_items pats (map (fill_item rests) made ++ left) ≡ Some found → agrees pats made ≡ true
made_agree rests [] left [] found few h = refl
made_agree rests (out ∷ made) left [] found few h = absurd (omega arith)
made_agree rests [] left (pat ∷ pats) found few h = refl
made_agree rests (out ∷ made) left (pat ∷ pats) found few h =
    option_and_then_some (λ (rest : List NodeAt). option_map (λ (others : List (List NodeAt)). rest ∷ others) (match_items pats (map (fill_item rests) made ++ left)))
    (match_item pat (fill_item rests out)) found h
    (λ rest met more.
    let one = if_some (bytes_eq pat.symbol out.symbol) (match_attached pat.scopes (fill_item rests out).scopes) rest met in
    let (others, two, is) = mapped (λ (xs : List (List NodeAt)). rest ∷ xs) (match_items pats (map (fill_item rests) made ++ left)) found more in
    and_from (bytes_eq pat.symbol out.symbol) (agrees pats made) one.0 (made_agree rests made left pats others (omega arith) two))

-- where the other leaves none, the path makes no more symbols than the other asks for
made_few : (p j : Rule) (c next end : Config) → apply p c ≡ Some next → apply j next ≡ Some end → end.stacks.symbols ≡ [] → length p.post.symbols ≤ length j.pre.symbols
made_few p j c next end first second none =
    let a = applied_by p c next first in
    let b = applied_by j next end second in
    let all : length end.stacks.symbols ≡ length (map (fill_item b.rests) j.post.symbols) + length (left_of j next)
    = ap length (end_made j next end b) ∙ length-append (map (fill_item b.rests) j.post.symbols) (left_of j next) in
    let zero_left : length end.stacks.symbols ≡ 0 = ap length none in
    let below : length (left_of j next) ≡ length next.stacks.symbols - length j.pre.symbols = length-drop (length j.pre.symbols) next.stacks.symbols in
    let here : length next.stacks.symbols ≡ length (map (fill_item a.rests) p.post.symbols) + length (left_of p c)
    = ap length (end_made p c next a) ∙ length-append (map (fill_item a.rests) p.post.symbols) (left_of p c) in
    let made : length (map (fill_item a.rests) p.post.symbols) ≡ length p.post.symbols = length-map p.post.symbols (fill_item a.rests) in
    omega (arith, all, zero_left, below, here, made)

behind_agrees : (p j : Rule) (c next end : Config) → apply p c ≡ Some next → apply j next ≡ Some end → end.stacks.symbols ≡ [] → agrees j.pre.symbols p.post.symbols ≡ true
behind_agrees p j c next end first second none =
    let a = applied_by p c next first in
    let b = applied_by j next end second in
    option_and_then_some (λ (front : List NodeAt). option_map (rests_of front) (match_items j.pre.symbols next.stacks.symbols)) (after_fixed j.pre.scopes.fixed next.stacks.scopes) b.rests b.met
    (λ front fixed more.
    let (found, met, is) = mapped (rests_of front) (match_items j.pre.symbols next.stacks.symbols) b.rests more in
    made_agree a.rests p.post.symbols (left_of p c) j.pre.symbols found (made_few p j c next end first second none)
    (subst (λ (items : List SymbolItem). match_items j.pre.symbols items ≡ Some found) (end_made p c next a) met))

-- moving a path leaves the texts of its symbols
moved_agrees : (k : ℕ) (pats : List SymPat) (made : List SymOut) → agrees pats (map (moved_symbol_out k) made) ≡ agrees pats made
moved_agrees k [] [] = refl
moved_agrees k [] (out ∷ made) = refl
moved_agrees k (pat ∷ pats) [] = refl
moved_agrees k (pat ∷ pats) (out ∷ made) = ap (λ (b : Bool). bytes_eq pat.symbol out.symbol && b) (moved_agrees k pats made)

-- the first path of a back list, and the rule that does what the others do
pub front_agrees : (files : List FileRules) (d : NodeAt) (start : Start) (p : ℕ × Rule) (paths : List (ℕ × Rule)) (j : Rule) → IsHeld files d paths j → IsBackPath files d start (p ∷ paths)
    → agrees j.pre.symbols p.1.post.symbols ≡ true
front_agrees files d start p paths j held back =
    let (stored, is, next, applied, others) = back.leads in
    let behind : apply j next ≡ Some back.end = held.joined.applies next ∙ leads_chain files (After next.spot) next back.end paths others in
    sym (moved_agrees p.0 j.pre.symbols p.1.post.symbols) ∙ behind_agrees (moved p.0 p.1) j (at_start start back.stacks) next back.end applied behind back.resolved

-- a path that is a back list alone makes none
pub alone_agrees : (files : List FileRules) (d : NodeAt) (start : Start) (p : ℕ × Rule) → IsBackPath files d start (p ∷ []) → agrees [] p.1.post.symbols ≡ true
alone_agrees files d start p back =
    let (stored, is, next, applied, over) = back.leads in
    let none : next.stacks.symbols ≡ [] = ap (λ (c : Config). c.stacks.symbols) over ∙ back.resolved in
    sym (moved_agrees p.0 [] p.1.post.symbols) ∙ ap (agrees []) (none_made (moved p.0 p.1) (at_start start back.stacks) next applied none).0
