-- One path more is tried.
use Rattle.std.proofs.Common.{◌≡◌, ℕ, ◌+◌, Bool, true, false, ◌||◌, List, [], ◌∷◌, ◌++◌, map, length, sym, refl, ap, ◌∙◌, subst, filter, flat_map, append_assoc, append-nil, length-append, arith, inl, IsPermutation}
use Rattle.std.specs.List.{list_any}
use Rattle.std.proofs.lemmas.List.{map-append}
use Rattle.std.proofs.lemmas.List.Elements.{filter-append}
use Rattle.std.proofs.lemmas.List.Concat.{flat_map-append}
use Rattle.std.proofs.lemmas.List.Folds.{list_any-append}
use Rattle.std.proofs.lemmas.List.Sorted.{IsPermutation-sym, Contains-permutation}
use Rattle.stacks_vars.specs.declared.items.SymbolItem.{SymbolItem}
use Rattle.partial_path.specs.declared.config.Config.{Config}
use Rattle.partial_path.specs.declared.rule.Start.{Start}
use Rattle.partial_path.specs.PathSets.{FileRules}
use Rattle.partial_path.specs.Sources.{rules_offered}
use Rattle.partial_path.specs.Rules.{Rule}
use Rattle.stitcher.specs.declared.tally.Progress.{Progress}
use Rattle.stitcher.specs.declared.tally.Tally.{Tally}
use Rattle.stitcher.specs.declared.trail.Level.{Level}
use Rattle.stitcher.specs.declared.trail.Standing.{Standing}
use Rattle.stitcher.specs.Joins.{Asked, Joined, joined, joined_by, goes_on, offered_to, next_start, is_bounded_complete, is_bounded_counted, is_past_bounds}
use Rattle.stitcher.specs.Opens.{opens_of, kept_runs, joined_run, IsNoted, AreTaken}
use Rattle.stitcher.specs.Trail.{paths_of, stood, IsOffered, IsStanding}
use Rattle.list_facts.specs.Members.{IsIn}
use Rattle.list_facts.proofs.Members.{IsIn-append_right, IsIn-from_Contains, Contains-from_IsIn}
use Rattle.stitcher.proofs.Offered.{offered_stored}

or_assoc : (a b c : Bool) → ((a || b) || c) ≡ (a || (b || c))
or_assoc true b c = refl
or_assoc false b c = refl

pub noted_after : (q : Asked) (xs ys : List Joined) (a b c : Tally) → IsNoted q xs a b → IsNoted q ys b c → IsNoted q (xs ++ ys) a c
noted_after q xs ys a b c m n = record {
  counted =
      (let k = m.counted in
      let l = n.counted in
      let s : length (filter (is_bounded_counted q) (xs ++ ys)) ≡ length (filter (is_bounded_counted q) xs) + length (filter (is_bounded_counted q) ys) =
      ap length (filter-append (is_bounded_counted q) xs ys) ∙ length-append (filter (is_bounded_counted q) xs) (filter (is_bounded_counted q) ys) in
      omega arith);
  complete =
      n.complete ∙ (ap (λ es. es ++ map joined_run (filter (is_bounded_complete q) ys)) m.complete
      ∙ (append_assoc (kept_runs a.complete.items) (map joined_run (filter (is_bounded_complete q) xs)) (map joined_run (filter (is_bounded_complete q) ys))
      ∙ ap (λ es. kept_runs a.complete.items ++ es)
      (sym (ap (map joined_run) (filter-append (is_bounded_complete q) xs ys) ∙ map-append joined_run (filter (is_bounded_complete q) xs) (filter (is_bounded_complete q) ys)))));
  limit =
      n.limit ∙ (ap (λ (t : Bool). t || list_any (is_past_bounds q) ys) m.limit
      ∙ (or_assoc a.limit (list_any (is_past_bounds q) xs) (list_any (is_past_bounds q) ys)
      ∙ ap (λ (t : Bool). a.limit || t) (sym (list_any-append (is_past_bounds q) xs ys))));
}

pub taken_more : (q : Asked) (trail : List Level) (from : Joined) (gone : List (ℕ × Rule)) (p : ℕ × Rule) (a b c : Progress) → AreTaken q trail (flat_map (joined_by q from) gone) a b → AreTaken q trail (joined_by q from p) b c → AreTaken q trail (flat_map (joined_by q from) (gone ++ p ∷ [])) a c
taken_more q trail from gone p a b c t n =
    let whole : flat_map (joined_by q from) (gone ++ p ∷ []) ≡ flat_map (joined_by q from) gone ++ joined_by q from p =
    flat_map-append (joined_by q from) gone (p ∷ []) ∙ ap (λ (xs : List Joined). flat_map (joined_by q from) gone ++ xs) (append-nil (joined_by q from p)) in record {
      noted = subst (λ (xs : List Joined). IsNoted q xs a.tally c.tally) (sym whole) (noted_after q (flat_map (joined_by q from) gone) (joined_by q from p) a.tally b.tally c.tally t.noted n.noted);
      opens =
          n.opens ∙ (ap (λ (xs : List Joined). xs ++ filter (goes_on q) (joined_by q from p)) t.opens
          ∙ (append_assoc (opens_of trail a.work.items) (filter (goes_on q) (flat_map (joined_by q from) gone)) (filter (goes_on q) (joined_by q from p))
          ∙ ap (λ (xs : List Joined). opens_of trail a.work.items ++ xs) (sym (ap (filter (goes_on q)) whole ∙ filter-append (goes_on q) (flat_map (joined_by q from) gone) (joined_by q from p)))));
    }

-- what the look-up offers is what is offered where the search stands
pub offered_there : (q : Asked) (here : Standing) (files : List FileRules) (symbols : List SymbolItem) (all : List (ℕ × Rule)) → IsStanding q here → files ≡ q.files → symbols ≡ here.at.now.stacks.symbols → IsPermutation (rules_offered files here.begin symbols) all → IsPermutation (offered_to q (stood here)) all
offered_there q here files symbols all h f s p =
    subst (λ (begin : Start). IsPermutation (rules_offered q.files begin here.at.now.stacks.symbols) all) h.begin
    (subst (λ (fs : List FileRules). IsPermutation (rules_offered fs here.begin here.at.now.stacks.symbols) all) f
    (subst (λ (xs : List SymbolItem). IsPermutation (rules_offered files here.begin xs) all) s p))

-- each path of the look-up is offered
pub one_offered : (q : Asked) (trail : List Level) (at : Config) (gone left all : List (ℕ × Rule)) (p : ℕ × Rule) → gone ++ p ∷ left ≡ all → IsPermutation (offered_to q (joined (paths_of trail) at)) all → IsOffered q trail at p
one_offered q trail at gone left all p is perm =
    let j = joined (paths_of trail) at in
    let there = Contains-permutation all (offered_to q j) p (IsPermutation-sym (offered_to q j) all perm)
    (Contains-from_IsIn all p (subst (IsIn p) is (IsIn-append_right p gone (p ∷ left) (inl refl)))) in
    let o = offered_stored q.files (next_start q j) j.at.stacks.symbols p (IsIn-from_Contains (offered_to q j) p there) in
    record { stored = o.0; begins = o.1; texts = o.2 }
