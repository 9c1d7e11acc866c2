-- A rule that is moved is still a rule.
use Rattle.std.proofs.Common.{◌≡◌, ◌≤◌, refl, sym, ap, subst, ◌∙◌, ℕ, zero, suc, List, [], ◌∷◌, ◌++◌, map, max, Bool, Option, Some, None, if◌then◌else◌}
use Rattle.std.specs.Option.{option_map, option_map_or, is_some}
use Rattle.std.specs.List.{flat_map}
use Rattle.std.proofs.lemmas.List.{length-map}
use Rattle.stacks_vars.specs.declared.patterns.SymPat.{SymPat}
use Rattle.stacks_vars.specs.declared.patterns.Pre.{Pre}
use Rattle.stacks_vars.specs.declared.patterns.Tail.{Tail}
use Rattle.stacks_vars.specs.declared.patterns.Tail.TheVariants.{Nil, Front, Item}
use Rattle.stacks_vars.specs.declared.patterns.ScopePat.{ScopePat}
use Rattle.stacks_vars.specs.declared.patterns.ScopeOut.{ScopeOut}
use Rattle.stacks_vars.specs.declared.patterns.SymOut.{SymOut}
use Rattle.stacks_vars.specs.declared.patterns.Post.{Post}
use Rattle.partial_path.specs.declared.config.EdgeAt.{EdgeAt}
use Rattle.partial_path.specs.declared.rule.Start.{Start}
use Rattle.partial_path.specs.declared.rule.End.{End}
use Rattle.partial_path.specs.Rules.{Rule, rule_of, IsRule, has_scopes, tail_of, bad_place, bad_places, peak_reaches}
use Rattle.partial_path.specs.Moved.{moved_scopes, moved_symbol, moved_pre, moved_scopes_out, moved_symbol_out, moved_post}

same_some : (base : ℕ) (o : Option ScopePat) → is_some (option_map (moved_scopes base) o) ≡ is_some o
same_some base None = refl
same_some base (Some s) = refl

same_scopes : (base : ℕ) (pats : List SymPat) (i : ℕ) → has_scopes (map (moved_symbol base) pats) i ≡ has_scopes pats i
same_scopes base [] i = refl
same_scopes base (pat ∷ pats) zero = same_some base pat.scopes
same_scopes base (pat ∷ pats) (suc i) = same_scopes base pats i

same_place : (base : ℕ) (pats : List SymPat) (tail : Tail) → bad_place (map (moved_symbol base) pats) tail ≡ bad_place pats tail
same_place base pats Nil = refl
same_place base pats Front = refl
same_place base pats (Item i) = ap (λ (b : Bool). if b then [] else i ∷ []) (same_scopes base pats i)

same_places : (base : ℕ) (pats : List SymPat) (all : List Tail) → flat_map (bad_place (map (moved_symbol base) pats)) all ≡ flat_map (bad_place pats) all
same_places base pats [] = refl
same_places base pats (tail ∷ all) = λ i. same_place base pats tail i ++ same_places base pats all i

same_tail : (base : ℕ) (o : Option ScopeOut)
    → option_map_or (λ (s : ScopeOut). s.tail ∷ []) (option_map (moved_scopes_out base) o) [] ≡ option_map_or (λ (s : ScopeOut). s.tail ∷ []) o []
same_tail base None = refl
same_tail base (Some s) = refl

same_tails : (base : ℕ) (outs : List SymOut) → flat_map tail_of (map (moved_symbol_out base) outs) ≡ flat_map tail_of outs
same_tails base [] = refl
same_tails base (out ∷ outs) = λ i. same_tail base out.scopes i ++ same_tails base outs i

same_bad : (base : ℕ) (pre : Pre) (post : Post) → bad_places (moved_pre base pre) (moved_post base post) ≡ bad_places pre post
same_bad base pre post =
    same_places base pre.symbols (flat_map tail_of (map (moved_symbol_out base) post.symbols) ++ post.scopes.tail ∷ [])
    ∙ ap (λ (all : List Tail). flat_map (bad_place pre.symbols) (all ++ post.scopes.tail ∷ [])) (same_tails base post.symbols)

same_reach : (base : ℕ) (pre : Pre) (post : Post) → peak_reaches (moved_pre base pre) (moved_post base post) ≡ peak_reaches pre post
same_reach base pre post =
    λ i. max (length-map pre.symbols (moved_symbol base) i) (length-map post.symbols (moved_symbol_out base) i)

-- parts that are the moved ones of a rule make a rule
pub moved-ruled : (base : ℕ) (rule : Rule) (start : Start) (end : End) (pre : Pre) (post : Post) (peak : ℕ) (edges : List EdgeAt) → IsRule rule
    → pre ≡ moved_pre base rule.pre → post ≡ moved_post base rule.post → peak ≡ rule.peak → IsRule (rule_of start end pre post peak edges)
moved-ruled base rule start end pre post peak edges h p q r = record {
  tails = (λ i. bad_places (p i) (q i)) ∙ same_bad base rule.pre rule.post ∙ h.tails;
  peak = subst (λ (n : ℕ). n ≤ peak) (sym ((λ i. peak_reaches (p i) (q i)) ∙ same_reach base rule.pre rule.post))
      (subst (λ (n : ℕ). peak_reaches rule.pre rule.post ≤ n) (sym r) h.peak);
}
