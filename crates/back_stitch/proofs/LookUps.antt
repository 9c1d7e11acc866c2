-- A look-up that goes over all paths, file by file.
use Rattle.std.proofs.Common.{◌≡◌, ◌≤◌, ◌<◌, refl, sym, ap, ◌∙◌, subst, ℕ, zero, suc, ◌+◌, List, [], ◌∷◌, ◌++◌, map, filter, drop, length, get_or, Bool, true, false, Option, Some, None, arith}
use Rattle.std.specs.Prelude.{slice_get, option_map, ◌&&◌}
use Rattle.std.specs.Str.{bytes_eq}
use Rattle.std.specs.Option.{option_map_or}
use Rattle.std.proofs.Common.{drop_of_length-le}
use Rattle.std.proofs.lemmas.Option.{none-some, same_Some, slice_get-map, slice_get_past}
use Rattle.graph_nodes.specs.declared.node.NodeKind.{NodeKind}
use Rattle.graph_nodes.specs.Graph.{Graph, kind_at}
use Rattle.stacks_vars.specs.declared.patterns.SymPat.{SymPat}
use Rattle.stacks_vars.specs.declared.patterns.SymOut.{SymOut}
use Rattle.partial_path.specs.declared.config.Spot.{Spot}
use Rattle.partial_path.specs.Rules.{Rule}
use Rattle.partial_path.specs.PathSets.{FileRules}
use Rattle.partial_path.specs.Sources.{graphs_of, numbered}
use Rattle.back_stitch.specs.declared.plain.PlainEnds.{PlainEnds}
use Rattle.list_facts.specs.Members.{IsIn}
use Rattle.list_facts.specs.Apart.{IsApart}
use Rattle.list_facts.proofs.Members.{IsIn-filter, IsIn-filter_from}
use Rattle.list_facts.proofs.Apart.{IsApart-filter}
use Rattle.back_stitch.specs.Sources.{rules_to_after, rules_to, agrees, AreEnds}
use Rattle.back_stitch.specs.Plain.{ends_in, ends_here, ends_left, makes}

-- files

drop_at : {X : Type 0} (xs : List X) (n : ℕ) (x : X) → slice_get xs n ≡ Some x → drop n xs ≡ x ∷ drop (suc n) xs
drop_at [] n x h = absurd (none-some x h)
drop_at (y ∷ xs) zero x h = ap (λ z. z ∷ xs) (same_Some y x h)
drop_at (y ∷ xs) (suc n) x h = drop_at xs n x h

pub at_index : {X : Type 0} (xs : List X) (n : ℕ) (d : X) → n < length xs → slice_get xs n ≡ Some (get_or xs n d)
at_index [] n d h = absurd (omega (arith, h))
at_index (x ∷ xs) zero d h = refl
at_index (x ∷ xs) (suc n) d h = at_index xs n d (omega (arith, h))

-- where a look-up stands
abbrev ends_at : Spot → ℕ → ℕ → PlainEnds
ends_at spot file place = record { spot = spot; file = file; place = place }

module _ (files : List FileRules) (spot : Spot) where
  from_file : (n : ℕ) (o : Option FileRules) → slice_get files n ≡ o → ends_left files (ends_at spot n 0) ≡ rules_to_after (graphs_of files) n (drop n files) spot
  from_file n None is =
      let past : drop n files ≡ [] = drop_past files n is in
      let one : n + 1 ≡ suc n = omega arith in
      let behind : drop (n + 1) files ≡ [] = ap (λ (k : ℕ). drop k files) one ∙ drop_past_more files n is in
      ap (λ (o : Option FileRules). option_map_or (λ (f : FileRules). map (numbered n) (filter (ends_in files spot n) (drop 0 f.rules))) o [] ++ rules_to_after (graphs_of files) (n + 1) (drop (n + 1) files) spot) is
      ∙ ap (λ (fs : List FileRules). rules_to_after (graphs_of files) (n + 1) fs spot) behind
      ∙ ap (λ (fs : List FileRules). rules_to_after (graphs_of files) n fs spot) (sym past)
    where
      drop_past : {X : Type 0} (xs : List X) (n : ℕ) → slice_get xs n ≡ None → drop n xs ≡ []
      drop_past [] zero h = refl
      drop_past [] (suc n) h = refl
      drop_past (x ∷ xs) zero h = absurd (none-some x (sym h))
      drop_past (x ∷ xs) (suc n) h = drop_past xs n h

      drop_past_more : {X : Type 0} (xs : List X) (n : ℕ) → slice_get xs n ≡ None → drop (suc n) xs ≡ []
      drop_past_more [] n h = refl
      drop_past_more (x ∷ xs) zero h = absurd (none-some x (sym h))
      drop_past_more (x ∷ xs) (suc n) h = drop_past_more xs n h
  from_file n (Some f) is =
      let one : suc n ≡ n + 1 = omega arith in
      ap (λ (o : Option FileRules). option_map_or (λ (g : FileRules). map (numbered n) (filter (ends_in files spot n) (drop 0 g.rules))) o [] ++ rules_to_after (graphs_of files) (n + 1) (drop (n + 1) files) spot) is
      ∙ ap (λ (fs : List FileRules). rules_to_after (graphs_of files) n fs spot) (sym (drop_at files n f is ∙ ap (λ (k : ℕ). f ∷ drop k files) one))

  -- at first all are left
  pub from_first : ends_left files (ends_at spot 0 0) ≡ rules_to files spot
  from_first = from_file 0 (slice_get files 0) refl

  here_is : (n place : ℕ) (f : FileRules) → slice_get files n ≡ Some f → ends_here files (ends_at spot n place) ≡ map (numbered n) (filter (ends_in files spot n) (drop place f.rules))
  here_is n place f is = ap (λ (o : Option FileRules). option_map_or (λ (g : FileRules). map (numbered n) (filter (ends_in files spot n) (drop place g.rules))) o []) is

  -- it stands in a later one
  pub left_passed : (n place : ℕ) (f : FileRules) → slice_get files n ≡ Some f → filter (ends_in files spot n) (drop place f.rules) ≡ []
      → ends_left files (ends_at spot n place) ≡ ends_left files (ends_at spot (n + 1) 0)
  left_passed n place f is none =
      ap (λ (xs : List (ℕ × Rule)). xs ++ rules_to_after (graphs_of files) (n + 1) (drop (n + 1) files) spot) (here_is n place f is ∙ ap (map (numbered n)) none)
      ∙ sym (from_file (n + 1) (slice_get files (n + 1)) refl)

  -- there is none
  pub left_none : (n place : ℕ) → length files ≤ n → ends_left files (ends_at spot n place) ≡ []
  left_none n place past =
      ap (λ (o : Option FileRules). option_map_or (λ (f : FileRules). map (numbered n) (filter (ends_in files spot n) (drop place f.rules))) o [] ++ rules_to_after (graphs_of files) (n + 1) (drop (n + 1) files) spot)
      (slice_get_past files n past)
      ∙ ap (λ (fs : List FileRules). rules_to_after (graphs_of files) (n + 1) fs spot) (drop_of_length-le files (omega (arith, past)))

-- of all that may end there those that make what is asked for are given
pub agreed_ends : (files : List FileRules) (at : Spot) (all : List (ℕ × Rule)) → all ≡ rules_to files at → (symbols : List SymPat) → AreEnds files at symbols (filter (makes symbols) all)
agreed_ends files at all is symbols = record {
  sound = λ p h. subst (IsIn p) is (IsIn-filter_from (makes symbols) p all h).0;
  complete = λ p h agree. IsIn-filter (makes symbols) p all (subst (IsIn p) (sym is) h) agree;
  apart = λ h. IsApart-filter (makes symbols) all (subst IsApart (sym is) h);
}

-- whether a path makes what is asked for, symbol by symbol

agrees_none : (pats : List SymPat) → agrees pats [] ≡ true
agrees_none [] = refl
agrees_none (p ∷ pats) = refl

pub agrees_end : (pats : List SymPat) (made : List SymOut) (k : ℕ) → length made ≤ k → agrees (drop k pats) (drop k made) ≡ true
agrees_end pats made k h = ap (agrees (drop k pats)) (drop_of_length-le made h) ∙ agrees_none (drop k pats)

-- one that makes more doesn't
pub agrees_over : (pats : List SymPat) (made : List SymOut) → length pats < length made → agrees pats made ≡ false
agrees_over [] [] h = absurd (omega arith)
agrees_over [] (m ∷ made) h = refl
agrees_over (p ∷ pats) [] h = absurd (omega arith)
agrees_over (p ∷ pats) (m ∷ made) h = ap (λ (b : Bool). bytes_eq p.symbol m.symbol && b) (agrees_over pats made (omega arith)) ∙ and_false (bytes_eq p.symbol m.symbol)
  where
    and_false : (b : Bool) → b && false ≡ false
    and_false true = refl
    and_false false = refl

-- the node of a file

graph_at : (files : List FileRules) (k : ℕ) → slice_get (graphs_of files) k ≡ option_map (λ (f : FileRules). f.graph) (slice_get files k)
graph_at files k = slice_get-map (λ (f : FileRules). f.graph) files k

pub told_nowhere : (p : NodeKind → Bool) (files : List FileRules) (k n : ℕ) → slice_get files k ≡ None
    → option_map_or (λ (g : Graph). kind_at p g.nodes n) (slice_get (graphs_of files) k) false ≡ false
told_nowhere p files k n none =
    ap (λ (o : Option Graph). option_map_or (λ (g : Graph). kind_at p g.nodes n) o false)
    (graph_at files k ∙ ap (option_map (λ (f : FileRules). f.graph)) none)

pub told_there : (p : NodeKind → Bool) (files : List FileRules) (k n : ℕ) (f : FileRules) → slice_get files k ≡ Some f
    → option_map_or (λ (g : Graph). kind_at p g.nodes n) (slice_get (graphs_of files) k) false ≡ kind_at p f.graph.nodes n
told_there p files k n f found =
    ap (λ (o : Option Graph). option_map_or (λ (g : Graph). kind_at p g.nodes n) o false)
    (graph_at files k ∙ ap (option_map (λ (x : FileRules). x.graph)) found)
