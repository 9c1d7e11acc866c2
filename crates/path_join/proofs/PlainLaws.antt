-- Two plain paths as one: the join by its definition.
use Rattle.std.proofs.Common.{◌≡◌, ◌≤◌, refl, sym, ◌∙◌, ap, ℕ, zero, suc, ◌+◌, ◌-◌, max, min, List, [], ◌∷◌, ◌++◌, length, map, drop, Bool, true, false, Option, Some, None, cond, arith}
use Rattle.std.specs.Prelude.{◌&&◌, is_none}
use Rattle.std.specs.List.{list_all}
use Rattle.std.specs.Option.{option_and_then, option_map}
use Rattle.std.specs.Str.{bytes_eq}
use Rattle.std.proofs.lemmas.Bool.{false≢true, and_parts}
use Rattle.std.proofs.lemmas.List.{drop_all, length-map}
use Rattle.stacks_vars.specs.declared.scopes.NodeAt.{NodeAt}
use Rattle.stacks_vars.specs.declared.patterns.ScopePat.{ScopePat}
use Rattle.stacks_vars.specs.declared.patterns.SymPat.{SymPat}
use Rattle.stacks_vars.specs.declared.patterns.ScopeOut.{ScopeOut}
use Rattle.stacks_vars.specs.declared.patterns.SymOut.{SymOut}
use Rattle.stacks_vars.specs.declared.patterns.Tail.TheVariants.{Front}
use Rattle.partial_path.specs.declared.config.Spot.{Spot}
use Rattle.partial_path.specs.declared.rule.End.{End}
use Rattle.partial_path.specs.declared.rule.End.TheVariants.{At, ByStack}
use Rattle.partial_path.specs.Same.{spot_eq}
use Rattle.partial_path.specs.Rules.{Rule, rule_of, start_spot}
use Rattle.partial_path.specs.Apply.{Rests}
use Rattle.partial_path.specs.Moved.{moved, moved_end, moved_symbol, moved_symbol_out, moved_scopes, moved_scopes_out, moved_node}
use Rattle.path_join.specs.Joins.{joined_peak}
use Rattle.path_join.specs.Joining.{asked_scopes, asked_symbols, bound_by, can_end, handed, if_ends, join_rules, joined_by, known_with, meet_attached, meet_scopes, meet_symbols, put_scopes, put_symbol, wide_post, wide_pre}
use Rattle.path_join.specs.Tables.{meet_made}
use Rattle.path_join.specs.Units.{asks, makes, pat_of, out_of, scopes_out}
use Rattle.path_join.specs.Plain.{IsPlainBack, IsPlainFront, ends_there, is_plain_out, is_plain_pat, is_spot, meets, plain_join}
use Rattle.path_join.proofs.FitsLaws.{same_cons}
use Rattle.path_join.proofs.LengthsLaws.{length-wide_post}
use Rattle.path_join.proofs.CodeMet.{met-made}
use Rattle.path_join.proofs.CodeExtended.{bound_plain, fixed_of, joined-plain, joined_plain, met-nothing, nothing_of}

-- plain symbols tell nothing where they are met
meet_plain : (known : Rests) (pats : List SymPat) (outs : List SymOut) → list_all is_plain_pat pats ≡ true → list_all is_plain_out outs ≡ true
    → meet_made known pats outs ≡ cond (meets pats outs) (Some known) None
meet_plain known [] outs h k = refl
meet_plain known (pat ∷ pats) [] h k = refl
meet_plain known (pat ∷ pats) (out ∷ outs) h k =
    let a = and_parts (is_none pat.scopes) (list_all is_plain_pat pats) h in
    let b = and_parts (is_none out.scopes) (list_all is_plain_out outs) k in
    by (bytes_eq pat.symbol out.symbol) pat.scopes out.scopes a.0 b.0 (meet_plain known pats outs a.1 b.1)
  where
    by : (same : Bool) (x : Option ScopePat) (y : Option ScopeOut) → is_none x ≡ true → is_none y ≡ true → meet_made known pats outs ≡ cond (meets pats outs) (Some known) None
        → option_and_then (λ (grown : Rests). meet_made grown pats outs) (cond same (meet_attached known x y) None) ≡ cond (same && meets pats outs) (Some known) None
    by false x y e f rest = refl
    by true None None e f rest = rest
    by true (Some s) y e f rest = absurd (false≢true e)
    by true None (Some o) e f rest = absurd (false≢true f)

plain_known : (p q : Rule) → IsPlainFront p → IsPlainBack q → known_with p q [] ≡ cond (meets q.pre.symbols p.post.symbols) (Some (nothing_of p q)) None
plain_known p q h k =
    ap (option_and_then (λ (known : Rests). meet_scopes known [] p.post.scopes))
    (sym (met-made (nothing_of p q) (length p.pre.symbols) q.pre.symbols p.post.symbols) ∙ meet_plain (nothing_of p q) q.pre.symbols p.post.symbols k.asked h.made)
    ∙ by (meets q.pre.symbols p.post.symbols)
  where
    by : (b : Bool) → option_and_then (λ (known : Rests). meet_scopes known [] p.post.scopes) (cond b (Some (nothing_of p q)) None) ≡ cond b (Some (nothing_of p q)) None
    by true = met-nothing (length (wide_pre p q)) p.post.scopes
    by false = refl

-- a path that leaves the scope stack as it is can end anywhere
ends_anywhere : (e : End) → can_end e (scopes_out [] Front) ≡ true
ends_anywhere (At spot) = refl
ends_anywhere ByStack = refl

plain_joined : (p q : Rule) → IsPlainFront p → IsPlainBack q → length p.post.symbols ≤ length q.pre.symbols → if_ends (joined_plain p q) ≡ Some (plain_join p q)
plain_joined p q h k enough =
    let left : drop (length q.pre.symbols) (wide_post p q) ≡ [] = drop_all (length q.pre.symbols) (wide_post p q) (omega (arith, enough, length-wide_post p q)) in
    let symbols : map (put_symbol (bound_plain p q)) q.post.symbols ++ drop (length q.pre.symbols) (wide_post p q) ≡ [] =
    (λ i. map (put_symbol (bound_plain p q)) (k.made i) ++ left i) in
    let scopes : put_scopes (bound_plain p q) q.post.scopes ≡ scopes_out [] Front =
    (λ i. put_scopes (bound_plain p q) (scopes_out (k.scopes i) (k.tail i))) ∙ (λ i. scopes_out (h.scopes i) (h.tail i)) in
    (λ i. if_ends (rule_of p.start q.end (record { symbols = wide_pre p q; scopes = fixed_of (h.fixed i) }) (record { symbols = symbols i; scopes = scopes i }) (joined_peak p q) (p.edges ++ q.edges)))
    ∙ ap (λ b. cond b (Some (plain_join p q)) None) (ends_anywhere q.end)

-- what the join is
pub plain_is : (p q : Rule) → IsPlainFront p → IsPlainBack q → length p.post.symbols ≤ length q.pre.symbols
    → join_rules p q ≡ cond (ends_there p.end (start_spot q.start) && meets q.pre.symbols p.post.symbols) (Some (plain_join p q)) None
plain_is p q h k enough =
    ap (λ (fixed : List NodeAt). option_and_then Known (asked_scopes p.end (start_spot q.start) fixed)) k.fixed ∙ by p.end h.end
  where
    Known : List NodeAt → Option Rule
    Known asked = option_and_then (λ (known : Rests). if_ends (joined_by p q known (bound_by p q asked known))) (known_with p q asked)

    met : (b : Bool) → option_and_then (λ (known : Rests). if_ends (joined_by p q known (bound_by p q [] known))) (cond b (Some (nothing_of p q)) None) ≡ cond b (Some (plain_join p q)) None
    met true = ap if_ends (joined-plain p q) ∙ plain_joined p q h k enough
    met false = refl

    here : (b : Bool) → option_and_then Known (cond b (Some []) None) ≡ cond (b && meets q.pre.symbols p.post.symbols) (Some (plain_join p q)) None
    here true =
        ap (option_and_then (λ (known : Rests). if_ends (joined_by p q known (bound_by p q [] known)))) (plain_known p q h k) ∙ met (meets q.pre.symbols p.post.symbols)
    here false = refl

    by : (e : End) → is_spot e ≡ true → option_and_then Known (asked_scopes e (start_spot q.start) []) ≡ cond (ends_there e (start_spot q.start) && meets q.pre.symbols p.post.symbols) (Some (plain_join p q)) None
    by (At spot) at = here (spot_eq spot (start_spot q.start))
    by ByStack at = absurd (false≢true at)

-- a plain path that is moved asks for the same symbols and makes the same, and is plain

pub same_asked : (base : ℕ) (pats : List SymPat) → list_all is_plain_pat pats ≡ true → map (moved_symbol base) pats ≡ pats
same_asked base [] h = refl
same_asked base (pat ∷ pats) h =
    let parts = and_parts (is_none pat.scopes) (list_all is_plain_pat pats) h in
    same_cons _ _ _ _ (ap (pat_of pat.symbol) (one pat.scopes parts.0)) (same_asked base pats parts.1)
  where
    one : (x : Option ScopePat) → is_none x ≡ true → option_map (moved_scopes base) x ≡ x
    one None e = refl
    one (Some s) e = absurd (false≢true e)

pub same_made : (base : ℕ) (outs : List SymOut) → list_all is_plain_out outs ≡ true → map (moved_symbol_out base) outs ≡ outs
same_made base [] h = refl
same_made base (out ∷ outs) h =
    let parts = and_parts (is_none out.scopes) (list_all is_plain_out outs) h in
    same_cons _ _ _ _ (ap (out_of out.symbol) (one out.scopes parts.0)) (same_made base outs parts.1)
  where
    one : (x : Option ScopeOut) → is_none x ≡ true → option_map (moved_scopes_out base) x ≡ x
    one None e = refl
    one (Some s) e = absurd (false≢true e)

pub moved_plain : (base : ℕ) (p : Rule) → IsPlainFront p → IsPlainFront (moved base p)
moved_plain base p h = record {
  end = end_moved p.end h.end;
  asked = ap (list_all is_plain_pat) (same_asked base p.pre.symbols h.asked) ∙ h.asked;
  fixed = ap (map (moved_node base)) h.fixed;
  made = ap (list_all is_plain_out) (same_made base p.post.symbols h.made) ∙ h.made;
  scopes = ap (map (moved_node base)) h.scopes;
  tail = h.tail;
}
  where
    end_moved : (e : End) → is_spot e ≡ true → is_spot (moved_end base e) ≡ true
    end_moved (At spot) at = refl
    end_moved ByStack at = at

-- the join of a stored path, moved to its file, and another one

no_more : (pats : List SymPat) → meets pats [] ≡ true
no_more [] = refl
no_more (pat ∷ pats) = refl

-- behind the shorter of two lists all is met
pub meets_over : (pats : List SymPat) (outs : List SymOut) (n : ℕ) → min (length pats) (length outs) ≤ n → meets (drop n pats) (drop n outs) ≡ true
meets_over [] outs zero h = refl
meets_over [] outs (suc n) h = refl
meets_over (pat ∷ pats) [] zero h = refl
meets_over (pat ∷ pats) [] (suc n) h = no_more (drop n pats)
meets_over (pat ∷ pats) (out ∷ outs) zero h = absurd (omega (arith, h))
meets_over (pat ∷ pats) (out ∷ outs) (suc n) h = meets_over pats outs n (omega (arith, h))

module _ (base : ℕ) (p q : Rule) (front : IsPlainFront p) (back : IsPlainBack q) (enough : length p.post.symbols ≤ length q.pre.symbols) where
  as_many : length (map (moved_symbol_out base) p.post.symbols) ≡ length p.post.symbols
  as_many = length-map p.post.symbols (moved_symbol_out base)

  stored : join_rules (moved base p) q
      ≡ cond (ends_there (moved_end base p.end) (start_spot q.start) && meets q.pre.symbols p.post.symbols) (Some (plain_join (moved base p) q)) None
  stored =
      plain_is (moved base p) q (moved_plain base p front) back (omega (arith, enough, as_many))
      ∙ ap (λ (outs : List SymOut). cond (ends_there (moved_end base p.end) (start_spot q.start) && meets q.pre.symbols outs) (Some (plain_join (moved base p) q)) None)
      (same_made base p.post.symbols front.made)

  pub not_there : ends_there (moved_end base p.end) (start_spot q.start) ≡ false → join_rules (moved base p) q ≡ None
  not_there e = stored ∙ ap (λ b. cond (b && meets q.pre.symbols p.post.symbols) (Some (plain_join (moved base p) q)) None) e

  pub not_met : meets q.pre.symbols p.post.symbols ≡ false → join_rules (moved base p) q ≡ None
  not_met e =
      stored ∙ ap (λ b. cond (ends_there (moved_end base p.end) (start_spot q.start) && b) (Some (plain_join (moved base p) q)) None) e
      ∙ by (ends_there (moved_end base p.end) (start_spot q.start))
    where
      by : (b : Bool) → cond (b && false) (Some (plain_join (moved base p) q)) None ≡ None
      by true = refl
      by false = refl

  pub both_plain : ends_there (moved_end base p.end) (start_spot q.start) ≡ true → meets q.pre.symbols p.post.symbols ≡ true
      → join_rules (moved base p) q ≡ Some (plain_join (moved base p) q)
  both_plain e f = stored ∙ (λ i. cond (e i && f i) (Some (plain_join (moved base p) q)) None)

  -- what the joined one asks for, by the stored path
  pub wide_stored : wide_pre (moved base p) q ≡ p.pre.symbols ++ asked_symbols p q
  wide_stored = λ i. same_asked base p.pre.symbols front.asked i ++ drop (as_many i) q.pre.symbols

  pub peak_stored : joined_peak (moved base p) q ≡ max (p.peak + (length q.pre.symbols - length p.post.symbols)) (q.peak + (length p.post.symbols - length q.pre.symbols))
  peak_stored = ap (λ n. max (p.peak + (length q.pre.symbols - n)) (q.peak + (n - length q.pre.symbols))) as_many
