-- A path of an index as one that a look-up gives.
use Rattle.std.proofs.Common.{◌≡◌, refl, sym, ◌∙◌, ap, subst, ℕ, zero, suc, List, [], ◌∷◌, ◌++◌, take, drop, true, Option, Some, ◌⊎◌, inl, inr, All}
use Rattle.std.specs.List.{AllByRecursion}
use Rattle.std.specs.List.{flat_map, prefix_len}
use Rattle.std.specs.Option.{option_map_or, is_some}
use Rattle.std.proofs.lemmas.List.Elements.{All-from_recursion}
use Rattle.list_facts.specs.Members.{IsIn}
use Rattle.list_facts.proofs.Members.{IsIn-append_left, IsIn-append_right, IsIn-append_cases}
use Rattle.partial_path.specs.Rules.{Rule}
use Rattle.partial_path.specs.PathSets.{FileRules}
use Rattle.partial_path.specs.Sources.{IsSourceFile, numbered}
use Rattle.version_tree.specs.Contents.{FileRow}
use Rattle.root_index.specs.Offers.{files_of}
use Rattle.end_index.specs.declared.place.EndPlace.{EndPlace}
use Rattle.end_index.specs.declared.runs.EndRuns.{EndRuns}
use Rattle.end_index.specs.Ends.{all_of}
use Rattle.end_index.specs.Runs.{is_in_run, here, runs, runs_behind, runs_left, left_of, shares_left}
use Rattle.end_index.specs.Looks.{rule_in, rules_of, AreThere, outside_left}
use Rattle.end_index.proofs.Marked.{behind_among, all_among}

in_drop : {X : Type 0} (x : X) (n : ℕ) (xs : List X) → IsIn x (drop n xs) → IsIn x xs
in_drop x zero xs h = h
in_drop x (suc n) [] h = h
in_drop x (suc n) (y ∷ xs) h = inr (in_drop x n xs h)

in_take : {X : Type 0} (x : X) (n : ℕ) (xs : List X) → IsIn x (take n xs) → IsIn x xs
in_take x zero xs h = absurd h
in_take x (suc n) [] h = h
in_take x (suc n) (y ∷ xs) (inl e) = inl e
in_take x (suc n) (y ∷ xs) (inr h) = inr (in_take x n xs h)

-- what a look-up meets is one of the index's
left_among : (asked : List (List ℕ)) (at : EndRuns) (places : List EndPlace) (p : EndPlace) → IsIn p (runs_left asked at places) → IsIn p places
left_among asked at places p h = by (IsIn-append_cases p (here at places) (runs_behind at.mark at.asked (drop at.asked asked) places) h)
  where
    by : IsIn p (here at places) ⊎ IsIn p (runs_behind at.mark at.asked (drop at.asked asked) places) → IsIn p places
    by (inl g) = in_drop p at.place places (in_take p (prefix_len (is_in_run at.key) (drop at.place places)) (drop at.place places) g)
    by (inr g) = behind_among at.mark at.asked (drop at.asked asked) p places g

shares_among : (asked : List (List ℕ)) (at : EndRuns) (shares : List (List EndPlace)) (p : EndPlace) → IsIn p (left_of asked at shares) → IsIn p (all_of shares)
shares_among asked at [] p h = absurd h
shares_among asked at (places ∷ shares) p h = by (IsIn-append_cases p (runs_left asked at places) (flat_map (runs asked) shares) h)
  where
    by : IsIn p (runs_left asked at places) ⊎ IsIn p (flat_map (runs asked) shares) → IsIn p (places ++ all_of shares)
    by (inl g) = IsIn-append_left p places (all_of shares) (left_among asked at places p g)
    by (inr g) = IsIn-append_right p places (all_of shares) (all_among asked p shares g)

in_shares : (n : ℕ) (shares : List (List EndPlace)) (p : EndPlace) → IsIn p (all_of (drop n shares)) → IsIn p (all_of shares)
in_shares zero shares p h = h
in_shares (suc n) [] p h = h
in_shares (suc n) (places ∷ shares) p h = IsIn-append_right p places (all_of shares) (in_shares n shares p h)

pub next_there : (files : List FileRules) (asked : List (List ℕ)) (at after : EndRuns) (shares : List (List EndPlace)) (p : EndPlace) → AreThere files (all_of shares)
    → shares_left asked at shares ≡ p ∷ shares_left asked after shares → (o : Option Rule) → o ≡ rule_in files p → is_some o ≡ true
next_there files asked at after shares p there next o is =
    ap is_some is ∙ there p (in_shares at.share shares p (shares_among asked at (drop at.share shares) p (subst (λ (ps : List EndPlace). IsIn p ps) (sym next) (inl refl))))

pub next_given : (files : List FileRules) (asked : List (List ℕ)) (at after : EndRuns) (shares : List (List EndPlace)) (p : EndPlace) (rule : Rule)
    → shares_left asked at shares ≡ p ∷ shares_left asked after shares → Some rule ≡ rule_in files p
    → outside_left files asked shares at ≡ numbered p.file rule ∷ outside_left files asked shares after
next_given files asked at after shares p rule next is =
    ap (flat_map (rules_of files)) next
    ∙ sym (ap (λ (o : Option Rule). option_map_or (λ (r : Rule). numbered p.file r ∷ []) o [] ++ outside_left files asked shares after) is)

-- what is said of the files of rows in a row's words
pub sources_of : (rows : List FileRow) → AllByRecursion (λ (row : FileRow). IsSourceFile row.file) rows → All IsSourceFile (files_of rows)
sources_of rows h = All-from_recursion IsSourceFile (files_of rows) (each rows h)
  where
    each : (rows : List FileRow) → AllByRecursion (λ (row : FileRow). IsSourceFile row.file) rows → AllByRecursion IsSourceFile (files_of rows)
    each [] h = tt
    each (row ∷ rows) h = (h.0, each rows h.1)
