-- What a look-up by where paths end gives: paths that may end there, of those that may make what is asked for all, and
-- each once.
use Rattle.std.proofs.Common.{◌≡◌, refl, sym, ◌∙◌, ap, subst, ℕ, ◌+◌, List, [], ◌∷◌, ◌++◌, map, filter, Bool, true, false, Option, Some, None, arith, ◌⊎◌, inl, inr, slice_get, All, IsSome, append-nil, take, length, ◌<◌}
use Rattle.std.specs.Prelude.{◌&&◌, ◌||◌}
use Rattle.std.specs.List.{flat_map}
use Rattle.std.specs.List.Sorted.{IsPermutation}
use Rattle.std.specs.Option.{option_map_or, option_and_then}
use Rattle.std.proofs.lemmas.Bool.{false≢true, and_parts, and_from, or_cases, or_left, or_right}
use Rattle.std.proofs.lemmas.List.{length-map, length-take}
use Rattle.std.proofs.lemmas.Option.{same_Some}
use Rattle.list_facts.specs.Members.{IsIn}
use Rattle.list_facts.specs.Apart.{IsApart}
use Rattle.list_facts.proofs.Members.{at_member, IsIn-append_left, IsIn-append_right, IsIn-append_cases, IsIn-map, IsIn-map_from, IsIn-filter, IsIn-filter_from, IsIn-flat_map, IsIn-flat_map_from}
use Rattle.list_facts.proofs.Apart.{IsApart-append, IsApart-map, IsApart-filter, IsApart-flat_map}
use Rattle.stacks_vars.specs.declared.scopes.NodeAt.{NodeAt}
use Rattle.stacks_vars.specs.declared.patterns.SymPat.{SymPat}
use Rattle.partial_path.specs.declared.config.Spot.TheVariants as spot
use Rattle.partial_path.specs.Rules.{Rule}
use Rattle.partial_path.specs.Keys.{asked_texts, key_size}
use Rattle.partial_path.specs.PathSets.{FileRules, IsLandingRule}
use Rattle.partial_path.specs.Sources.{IsSourceFile, graphs_of, numbered}
use Rattle.back_stitch.specs.Sources.{is_exported_spot, rules_to, agrees, AreEnds}
use Rattle.end_index.specs.declared.place.EndPlace.{EndPlace}
use Rattle.end_index.specs.declared.runs.EndRuns.{EndRuns}
use Rattle.end_index.specs.Runs.{runs, shares_left}
use Rattle.partial_path.specs.declared.end_table.EndMark.{EndMark}
use Rattle.partial_path.specs.Ends.{end_mark, ends_at_root, ends_by_stack}
use Rattle.end_index.specs.Ends.{SideView, AreListed, IsSideOf, AreEndsOf, all_of, end_place, ends_after}
use Rattle.end_index.specs.Looks.{ends_inside, inside_in, inside_left, rule_in, rules_of, AreThere, outside_left}
use Rattle.end_index.proofs.Places.{place_of, at_place, one_place, kept_from, kept_into, kept_apart}
use Rattle.end_index.proofs.Marked.{all_among, all_apart, all_hold}
use Rattle.end_index.proofs.Ending.{P, IsEndingIn, ending_from, ending_into, may_is, root_moved, stack_not_there, in_file, source_at, rules_apart, same_rule}

-- the paths of an index

-- a path stored in the file with its number, of those that pass
pub record IsPassing (passes : Rule → Bool) (files : List FileRules) (p : P) : Type 0 where
  pub file : FileRules
  pub found : slice_get files p.0 ≡ Some file
  pub stored : IsIn p.1 file.rules
  pub passing : passes p.1 ≡ true

module _ (files : List FileRules) (passes : Rule → Bool) (shares : List (List EndPlace)) (same : IsPermutation (ends_after passes 0 files) (all_of shares)) where
  abbrev places : List EndPlace
  places = all_of shares

  -- where an index's path stands
  pub record IsPlaced (e : EndPlace) : Type 0 where
    pub file : FileRules
    pub rule : Rule
    pub found : slice_get files e.file ≡ Some file
    pub there : slice_get file.rules e.place ≡ Some rule
    pub passing : passes rule ≡ true
    pub is : e ≡ end_place e.file (end_mark e.place rule)

  placed : (e : EndPlace) → IsIn e places → IsPlaced e
  placed e h =
      let o = kept_from passes files places same e h in
      let file_is : o.i ≡ e.file = (let n : 0 + o.i ≡ o.i = omega arith in sym (ap (λ (p : EndPlace). p.file) o.here.is ∙ n)) in
      let place_is : o.here.k ≡ e.place = sym (ap (λ (p : EndPlace). p.place) o.here.is) in
      let file_whole : 0 + o.i ≡ e.file = sym (ap (λ (p : EndPlace). p.file) o.here.is) in
      record {
        file = o.file;
        rule = o.here.rule;
        found = ap (slice_get files) (sym file_is) ∙ o.found;
        there = ap (slice_get o.file.rules) (sym place_is) ∙ o.here.there;
        passing = o.here.passing;
        is = o.here.is ∙ (λ j. end_place (file_whole j) (end_mark (place_is j) o.here.rule));
      }

  rule_there : (e : EndPlace) (r : IsPlaced e) → rule_in files e ≡ Some r.rule
  rule_there e r = ap (option_and_then (λ (f : FileRules). slice_get f.rules e.place)) r.found ∙ r.there

  rules_are : (e : EndPlace) (r : IsPlaced e) → rules_of files e ≡ numbered e.file r.rule ∷ []
  rules_are e r = ap (λ (o : Option Rule). option_map_or (λ (rule : Rule). numbered e.file rule ∷ []) o []) (rule_there e r)

  pub are_there : AreThere files places
  are_there e h = let r = placed e h in subst (λ (o : Option Rule). IsSome o) (sym (rule_there e r)) refl

  few_texts : (symbols : List SymPat) → length (asked_texts (take key_size symbols)) < 8
  few_texts symbols = omega (arith, length-map (take key_size symbols) (λ (pat : SymPat). pat.symbol), length-take key_size symbols)

  -- what the runs of texts give
  module _ (symbols : List SymPat) where
    abbrev Asked : List EndPlace
    Asked = flat_map (runs (asked_texts (take key_size symbols))) shares

    abbrev Given : List P
    Given = flat_map (rules_of files) Asked

    given_of : (e : EndPlace) (p : P) (r : IsPlaced e) → IsIn p (rules_of files e) → p ≡ numbered e.file r.rule
    given_of e p r h = only (subst (IsIn p) (rules_are e r) h)
      where
        only : IsIn p (numbered e.file r.rule ∷ []) → p ≡ numbered e.file r.rule
        only (inl e) = e
        only (inr h) = absurd h

    pub given_from : (p : P) → IsIn p Given → IsPassing passes files p
    given_from p h =
        let (e, among, g) = IsIn-flat_map_from (rules_of files) p Asked h in
        let r = placed e (all_among (asked_texts (take key_size symbols)) e shares among) in
        let is = given_of e p r g in
        let number : p.0 ≡ e.file = ap (λ (q : P). q.0) is in
        let rule : p.1 ≡ r.rule = ap (λ (q : P). q.1) is in
        record {
          file = r.file;
          found = ap (slice_get files) number ∙ r.found;
          stored = subst (λ (x : Rule). IsIn x r.file.rules) (sym rule) (at_place r.rule r.file.rules e.place r.there);
          passing = ap passes rule ∙ r.passing;
        }

    pub given_into : (p : P) → IsPassing passes files p → agrees symbols p.1.post.symbols ≡ true → IsIn p Given
    given_into p g agreed =
        let (k, there) = place_of p.1 g.file.rules g.stored in
        let among : IsIn (end_place p.0 (end_mark k p.1)) places = kept_into passes files places same p.0 g.file k p.1 g.found there g.passing in
        let rule : rule_in files (end_place p.0 (end_mark k p.1)) ≡ Some p.1 = ap (option_and_then (λ (f : FileRules). slice_get f.rules k)) g.found ∙ there in
        IsIn-flat_map (rules_of files) (end_place p.0 (end_mark k p.1)) p Asked (all_hold symbols p.1.post.symbols (end_place p.0 (end_mark k p.1)) shares agreed among refl)
        (subst (IsIn p) (sym (ap (λ (o : Option Rule). option_map_or (λ (r : Rule). numbered p.0 r ∷ []) o []) rule)) (inl refl))

    one_given : (n : ℕ) (o : Option Rule) → IsApart (option_map_or (λ (r : Rule). numbered n r ∷ []) o [])
    one_given n None = tt
    one_given n (Some r) = (tt, tt)

    pub given_apart : All IsSourceFile files → IsApart Given
    given_apart sources =
        IsApart-flat_map (rules_of files) Asked (all_apart (asked_texts (take key_size symbols)) shares (few_texts symbols) (kept_apart passes files places same))
        (λ e h. one_given e.file (rule_in files e)) share
      where
        share : (a b : EndPlace) (p : P) → IsIn a Asked → IsIn b Asked → IsIn p (rules_of files a) → IsIn p (rules_of files b) → a ≡ b
        share a b p in_a in_b by_a by_b =
            let r = placed a (all_among (asked_texts (take key_size symbols)) a shares in_a) in
            let s = placed b (all_among (asked_texts (take key_size symbols)) b shares in_b) in
            let both : numbered a.file r.rule ≡ numbered b.file s.rule = sym (given_of a p r by_a) ∙ given_of b p s by_b in
            let number : a.file ≡ b.file = ap (λ (q : P). q.0) both in
            let rule : r.rule ≡ s.rule = ap (λ (q : P). q.1) both in
            let file : s.file ≡ r.file = same_Some s.file r.file (sym s.found ∙ ap (slice_get files) (sym number) ∙ r.found) in
            let there : slice_get r.file.rules b.place ≡ Some r.rule = ap (λ (f : FileRules). slice_get f.rules b.place) (sym file) ∙ s.there ∙ ap Some (sym rule) in
            let place : a.place ≡ b.place = one_place r.rule r.file.rules a.place b.place (rules_apart r.file (source_at files a.file r.file sources r.found)) r.there there in
            r.is ∙ (λ j. end_place (number j) (end_mark (place j) (rule j))) ∙ sym s.is

-- the paths that end at a node whatever the stack

module _ (files : List FileRules) (node : NodeAt) where
  abbrev Here : Rule → Bool
  Here rule = ends_inside (spot.At node) node.file rule

  -- a path of the node's file that ends there
  pub record IsInside (p : P) : Type 0 where
    pub number : p.0 ≡ node.file
    pub file : FileRules
    pub found : slice_get files p.0 ≡ Some file
    pub stored : IsIn p.1 file.rules
    pub ends : ends_inside (spot.At node) p.0 p.1 ≡ true

  pub inside_from : (p : P) → IsIn p (inside_left files node 0) → IsInside p
  inside_from p h = by (slice_get files node.file) refl h
    where
      by : (o : Option FileRules) → slice_get files node.file ≡ o → IsIn p (option_map_or (inside_in node 0) o []) → IsInside p
      by None found h = absurd h
      by (Some f) found h =
          let (rule, there, is) = IsIn-map_from (numbered node.file) p (filter Here f.rules) h in
          let both = IsIn-filter_from Here rule f.rules there in
          let number : p.0 ≡ node.file = ap (λ (q : P). q.0) (sym is) in
          let same : p.1 ≡ rule = ap (λ (q : P). q.1) (sym is) in
          record {
            number = number;
            file = f;
            found = ap (slice_get files) number ∙ found;
            stored = subst (λ (r : Rule). IsIn r f.rules) (sym same) both.0;
            ends = (λ j. ends_inside (spot.At node) (number j) (same j)) ∙ both.1;
          }

  pub inside_into : (p : P) → IsInside p → IsIn p (inside_left files node 0)
  inside_into p e =
      let found : slice_get files node.file ≡ Some e.file = ap (slice_get files) (sym e.number) ∙ e.found in
      let ends : Here p.1 ≡ true = ap (λ n. ends_inside (spot.At node) n p.1) (sym e.number) ∙ e.ends in
      let is : numbered node.file p.1 ≡ p = λ j. (sym e.number j, p.1) in
      subst (IsIn p) (sym (ap (λ (o : Option FileRules). option_map_or (inside_in node 0) o []) found))
      (subst (λ (q : P). IsIn q (map (numbered node.file) (filter Here e.file.rules))) is
      (IsIn-map (numbered node.file) p.1 (filter Here e.file.rules) (IsIn-filter Here p.1 e.file.rules e.stored ends)))

  pub inside_apart : All IsSourceFile files → IsApart (inside_left files node 0)
  inside_apart sources = by (slice_get files node.file) refl
    where
      by : (o : Option FileRules) → slice_get files node.file ≡ o → IsApart (option_map_or (inside_in node 0) o [])
      by None found = tt
      by (Some f) found =
          IsApart-map (numbered node.file) (same_rule node.file) (filter Here f.rules)
          (IsApart-filter Here f.rules (rules_apart f (source_at files node.file f sources found)))

-- what a look-up gives

module _ (files : List FileRules) (sources : All IsSourceFile files) (symbols : List SymPat) where
  -- a look-up in an index stands before all its runs
  abbrev pub IsBefore : EndRuns → List (List EndPlace) → Type 0
  IsBefore at shares = shares_left (asked_texts (take key_size symbols)) at shares ≡ flat_map (runs (asked_texts (take key_size symbols))) shares

  pub given_at_root : (shares : List (List EndPlace)) (at : EndRuns) → AreEndsOf ends_at_root files shares → IsBefore at shares
      → AreEnds files spot.Root symbols (outside_left files (asked_texts (take key_size symbols)) shares at)
  given_at_root shares at of before = subst (λ (ps : List EndPlace). AreEnds files spot.Root symbols (flat_map (rules_of files) ps)) (sym before) (record {
    sound = λ p h.
        let g = given_from files ends_at_root shares of.all symbols p h in
        ending_into files spot.Root p (record {
          file = g.file;
          found = g.found;
          stored = g.stored;
          ends = may_is (graphs_of files) spot.Root p.0 p.1
              ∙ or_left (ends_inside spot.Root p.0 p.1) (ends_by_stack p.1 && false) (root_moved p.0 p.1.end p.1.post.scopes.scopes ∙ g.passing);
        });
    complete = λ p h e.
        let g = ending_from files spot.Root p h in
        given_into files ends_at_root shares of.all symbols p
        (record {
          file = g.file;
          found = g.found;
          stored = g.stored;
          passing = sym (root_moved p.0 p.1.end p.1.post.scopes.scopes)
              ∙ whatever (ends_inside spot.Root p.0 p.1) (ends_by_stack p.1) (sym (may_is (graphs_of files) spot.Root p.0 p.1) ∙ g.ends);
        })
        e;
    apart = λ h. given_apart files ends_at_root shares of.all symbols sources;
  })
    where
      whatever : (a b : Bool) → a || (b && false) ≡ true → a ≡ true
      whatever true b e = refl
      whatever false true e = absurd (false≢true e)
      whatever false false e = absurd (false≢true e)

  module _ (node : NodeAt) where
    inside_sound : (p : P) → IsIn p (inside_left files node 0) → IsIn p (rules_to files (spot.At node))
    inside_sound p h =
        let g = inside_from files node p h in
        ending_into files (spot.At node) p (record {
          file = g.file;
          found = g.found;
          stored = g.stored;
          ends = may_is (graphs_of files) (spot.At node) p.0 p.1
              ∙ or_left (ends_inside (spot.At node) p.0 p.1) (ends_by_stack p.1 && is_exported_spot (graphs_of files) (spot.At node)) g.ends;
        })

    inside_complete : (p : P) (g : IsEndingIn (graphs_of files) (spot.At node) p.0 files p) → ends_inside (spot.At node) p.0 p.1 ≡ true → IsIn p (inside_left files node 0)
    inside_complete p g e =
        let landing = at_member (IsLandingRule g.file.graph) p.1 g.file.rules (source_at files p.0 g.file sources g.found).sets.rules.sound g.stored in
        inside_into files node p (record { number = in_file node p.0 p.1 landing.exact.files e; file = g.file; found = g.found; stored = g.stored; ends = e })

    pub given_at_other : (runs : List P) → runs ≡ [] → is_exported_spot (graphs_of files) (spot.At node) ≡ false
        → AreEnds files (spot.At node) symbols (inside_left files node 0 ++ runs)
    given_at_other runs none other = subst (λ (rs : List P). AreEnds files (spot.At node) symbols rs) (sym (ap (λ (rs : List P). inside_left files node 0 ++ rs) none ∙ append-nil (inside_left files node 0))) (record {
      sound = inside_sound;
      complete = λ p h e.
          let g = ending_from files (spot.At node) p h in
          inside_complete p g (whatever (ends_inside (spot.At node) p.0 p.1) (ends_by_stack p.1) (is_exported_spot (graphs_of files) (spot.At node)) other (sym (may_is (graphs_of files) (spot.At node) p.0 p.1) ∙ g.ends));
      apart = λ h. inside_apart files node sources;
    })
      where
        whatever : (a b d : Bool) → d ≡ false → a || (b && d) ≡ true → a ≡ true
        whatever true b d none e = refl
        whatever false true d none e = absurd (false≢true (sym none ∙ e))
        whatever false false d none e = absurd (false≢true e)

    pub given_at_exported : (shares : List (List EndPlace)) (at : EndRuns) → AreEndsOf ends_by_stack files shares → IsBefore at shares
        → is_exported_spot (graphs_of files) (spot.At node) ≡ true
        → AreEnds files (spot.At node) symbols (inside_left files node 0 ++ outside_left files (asked_texts (take key_size symbols)) shares at)
    given_at_exported shares at of before exported = subst (λ (ps : List EndPlace). AreEnds files (spot.At node) symbols (inside_left files node 0 ++ flat_map (rules_of files) ps)) (sym before) (record {
      sound = λ p h. sound p (IsIn-append_cases p (inside_left files node 0) (Given files ends_by_stack shares of.all symbols) h);
      complete = λ p h e.
          let g = ending_from files (spot.At node) p h in
          complete p g e (or_cases (ends_inside (spot.At node) p.0 p.1) (ends_by_stack p.1 && is_exported_spot (graphs_of files) (spot.At node)) (sym (may_is (graphs_of files) (spot.At node) p.0 p.1) ∙ g.ends));
      apart = λ h.
          IsApart-append (inside_left files node 0) (Given files ends_by_stack shares of.all symbols) (inside_apart files node sources)
          (given_apart files ends_by_stack shares of.all symbols sources)
          (λ p here there.
          let a = inside_from files node p here in
          let b = given_from files ends_by_stack shares of.all symbols p there in
          false≢true (sym (stack_not_there (spot.At node) p.0 p.1 b.passing) ∙ a.ends));
    })
      where
        sound : (p : P) → IsIn p (inside_left files node 0) ⊎ IsIn p (Given files ends_by_stack shares of.all symbols) → IsIn p (rules_to files (spot.At node))
        sound p (inl h) = inside_sound p h
        sound p (inr h) =
            let g = given_from files ends_by_stack shares of.all symbols p h in
            ending_into files (spot.At node) p (record {
              file = g.file;
              found = g.found;
              stored = g.stored;
              ends = may_is (graphs_of files) (spot.At node) p.0 p.1
                  ∙ or_right (ends_inside (spot.At node) p.0 p.1) (ends_by_stack p.1 && is_exported_spot (graphs_of files) (spot.At node))
                  (and_from (ends_by_stack p.1) (is_exported_spot (graphs_of files) (spot.At node)) g.passing exported);
            })

        complete : (p : P) (g : IsEndingIn (graphs_of files) (spot.At node) p.0 files p) → agrees symbols p.1.post.symbols ≡ true
            → (ends_inside (spot.At node) p.0 p.1 ≡ true) ⊎ ((ends_by_stack p.1 && is_exported_spot (graphs_of files) (spot.At node)) ≡ true)
            → IsIn p (inside_left files node 0 ++ Given files ends_by_stack shares of.all symbols)
        complete p g e (inl ends) = IsIn-append_left p (inside_left files node 0) (Given files ends_by_stack shares of.all symbols) (inside_complete p g ends)
        complete p g e (inr ends) =
            let parts = and_parts (ends_by_stack p.1) (is_exported_spot (graphs_of files) (spot.At node)) ends in
            IsIn-append_right p (inside_left files node 0) (Given files ends_by_stack shares of.all symbols)
            (given_into files ends_by_stack shares of.all symbols p (record { file = g.file; found = g.found; stored = g.stored; passing = parts.0 }) e)

-- what a side of the index has is there
pub side_there : (files : List FileRules) (passes : Rule → Bool) (side : SideView) (read : List (List EndPlace)) → IsSideOf passes files side → AreListed side.marks side.shares → read ≡ side.shares
    → AreThere files (all_of read)
side_there files passes side read of listed is =
    let ends : AreEndsOf passes files side.shares = subst (λ (ms : List (List EndMark)). AreListed ms side.shares) of listed in
    subst (λ (shares : List (List EndPlace)). AreThere files (all_of shares)) (sym is) (are_there files passes side.shares ends.all)
