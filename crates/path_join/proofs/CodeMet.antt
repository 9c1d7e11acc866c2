-- Symbols that the first path hands on meet what the second asks for, and tell nothing.
use Rattle.std.proofs.Common.{◌≡◌, refl, ap, ◌∙◌, sym, ℕ, zero, suc, ◌-◌, ◌+◌, List, [], ◌∷◌, ◌++◌, length, set, drop, Bool, Option, Some, None, slice_get, cond}
use Rattle.std.specs.Option.{option_and_then, option_map_or, option_map}
use Rattle.std.proofs.lemmas.List.{append-nil, length-append, length-drop}
use Rattle.std.proofs.lemmas.Slice.Eq.{bytes_eq-Decides}
use Rattle.stacks_vars.specs.declared.scopes.NodeAt.{NodeAt}
use Rattle.stacks_vars.specs.declared.patterns.ScopePat.{ScopePat}
use Rattle.stacks_vars.specs.declared.patterns.SymPat.{SymPat}
use Rattle.stacks_vars.specs.declared.patterns.SymOut.{SymOut}
use Rattle.stacks_vars.specs.declared.patterns.Tail.TheVariants.{Item}
use Rattle.stacks_vars.proofs.SameLaws.{node_eq-Decides}
use Rattle.partial_path.specs.Rules.{Rule}
use Rattle.partial_path.specs.Apply.{Rests, rests_of, tail_scopes}
use Rattle.path_join.specs.Joining.{past, grow, meet_scopes, meet_attached, meet_symbol, meet_symbols, handed, handed_symbol, handed_scopes, asked_symbols, wide_pre, wide_post, known_with, nothing_known}
use Rattle.path_join.specs.Tables.{meet_made}

-- scopes ask for no more where they begin those that are there
past-own : (fixed more : List NodeAt) → past fixed (fixed ++ more) ≡ Some []
past-own [] [] = refl
past-own [] (m ∷ more) = refl
past-own (f ∷ fixed) more =
    ap (λ (b : Bool). cond b (past fixed (fixed ++ more)) None) ((node_eq-Decides f f).1 refl) ∙ past-own fixed more

-- a variable that grows by nothing stays as it is
at_or_nil : (lists : List (List NodeAt)) (i : ℕ) → set lists i (option_map_or (λ (scopes : List NodeAt). scopes) (slice_get lists i) [] ++ []) ≡ lists
at_or_nil [] i = refl
at_or_nil (x ∷ lists) zero = ap (λ y. y ∷ lists) (append-nil x)
at_or_nil (x ∷ lists) (suc i) = ap (λ ys. x ∷ ys) (at_or_nil lists i)

pub grow-nothing : (known : Rests) (i : ℕ) → grow (Item i) [] known ≡ Some known
grow-nothing known i = ap (λ items. Some (rests_of known.front items)) (at_or_nil known.items i)

met-handed_scopes : (known : Rests) (i : ℕ) (pat : ScopePat) → meet_scopes known pat.fixed (handed_scopes i pat) ≡ Some known
met-handed_scopes known i pat =
    ap (option_and_then (λ (more : List NodeAt). grow (Item i) more known)) (past-own pat.fixed (tail_scopes known (Item i))) ∙ grow-nothing known i

met-handed_attached : (known : Rests) (i : ℕ) (pat : Option ScopePat) → meet_attached known pat (option_map (handed_scopes i) pat) ≡ Some known
met-handed_attached known i None = refl
met-handed_attached known i (Some pat) = met-handed_scopes known i pat

met-handed_symbol : (known : Rests) (i : ℕ) (pat : SymPat) → meet_symbol known pat (handed_symbol i pat) ≡ Some known
met-handed_symbol known i pat =
    ap (λ (b : Bool). cond b (meet_attached known pat.scopes (option_map (handed_scopes i) pat.scopes)) None) ((bytes_eq-Decides pat.symbol pat.symbol).1 refl)
    ∙ met-handed_attached known i pat.scopes

pub met-handed : (known : Rests) (i : ℕ) (pats : List SymPat) → meet_symbols known pats (handed i pats) ≡ Some known
met-handed known i [] = refl
met-handed known i (pat ∷ pats) =
    ap (option_and_then (λ (grown : Rests). meet_symbols grown pats (handed (suc i) pats))) (met-handed_symbol known i pat) ∙ met-handed known (suc i) pats

-- one symbol more of both
onward : (o : Option Rests) (f g : Rests → Option Rests) → ((known : Rests) → f known ≡ g known) → option_and_then f o ≡ option_and_then g o
onward None f g e = refl
onward (Some known) f g e = e known

-- all symbols asked for are met where those that the first path makes are
pub met-made : (known : Rests) (i : ℕ) (pats : List SymPat) (outs : List SymOut)
    → meet_made known pats outs ≡ meet_symbols known pats (outs ++ handed i (drop (length outs) pats))
met-made known i [] [] = refl
met-made known i [] (out ∷ outs) = refl
met-made known i (pat ∷ pats) [] = sym (met-handed known i (pat ∷ pats))
met-made known i (pat ∷ pats) (out ∷ outs) =
    onward (meet_symbol known pat out) (λ (grown : Rests). meet_made grown pats outs)
    (λ (grown : Rests). meet_symbols grown pats (outs ++ handed i (drop (length outs) pats)))
    (λ grown. met-made grown i pats outs)

-- how many symbols the joined path asks for
pub length-wide_pre : (p q : Rule) → length (wide_pre p q) ≡ length p.pre.symbols + (length q.pre.symbols - length p.post.symbols)
length-wide_pre p q =
    length-append p.pre.symbols (asked_symbols p q) ∙ ap (λ n. length p.pre.symbols + n) (length-drop (length p.post.symbols) q.pre.symbols)

-- what is known once all is met, by the symbols that the first path makes
known-made : (p q : Rule) (asked : List NodeAt) (n : ℕ) → n ≡ length p.pre.symbols + (length q.pre.symbols - length p.post.symbols)
    → known_with p q asked ≡ option_and_then (λ (known : Rests). meet_scopes known asked p.post.scopes) (meet_made (nothing_known n) q.pre.symbols p.post.symbols)
known-made p q asked n e =
    ap (option_and_then (λ (known : Rests). meet_scopes known asked p.post.scopes))
    (ap (λ m. meet_symbols (nothing_known m) q.pre.symbols (wide_post p q)) (length-wide_pre p q ∙ sym e)
    ∙ sym (met-made (nothing_known n) (length p.pre.symbols) q.pre.symbols p.post.symbols))

pub known-unmade : (p q : Rule) (asked : List NodeAt) (n : ℕ) (known : Rests) (pats : List SymPat) (outs : List SymOut)
    → known ≡ nothing_known n → pats ≡ q.pre.symbols → outs ≡ p.post.symbols → meet_made known pats outs ≡ None
    → n ≡ length p.pre.symbols + (length q.pre.symbols - length p.post.symbols) → known_with p q asked ≡ None
known-unmade p q asked n known pats outs k a b none e =
    let there : meet_made (nothing_known n) q.pre.symbols p.post.symbols ≡ None = cc in
    known-made p q asked n e ∙ ap (option_and_then (λ (known : Rests). meet_scopes known asked p.post.scopes)) there

pub known-met : (p q : Rule) (asked : List NodeAt) (n : ℕ) (known grown : Rests) (pats : List SymPat) (outs : List SymOut)
    → known ≡ nothing_known n → pats ≡ q.pre.symbols → outs ≡ p.post.symbols → meet_made known pats outs ≡ Some grown
    → n ≡ length p.pre.symbols + (length q.pre.symbols - length p.post.symbols) → known_with p q asked ≡ meet_scopes grown asked p.post.scopes
known-met p q asked n known grown pats outs k a b some e =
    let there : meet_made (nothing_known n) q.pre.symbols p.post.symbols ≡ Some grown = cc in
    known-made p q asked n e ∙ ap (option_and_then (λ (known : Rests). meet_scopes known asked p.post.scopes)) there
