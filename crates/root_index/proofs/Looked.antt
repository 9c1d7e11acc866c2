-- Going over files from the root: what is passed over, what comes next, and what is left behind it.
use Rattle.std.proofs.Common.{◌≡◌, refl, sym, ◌∙◌, ap, ℕ, ◌+◌, ◌<◌, ◌≤◌, List, [], ◌∷◌, ◌++◌, length, map, drop, get_or, Bool, true, false, cond, Option, arith}
use Rattle.std.specs.Prelude.{filter, ◌&&◌}
use Rattle.std.specs.Option.{option_map_or}
use Rattle.std.proofs.Math.ListN.{drop_of_length-le}
use Rattle.std.proofs.lemmas.List.{drop_more}
use Rattle.std.proofs.lemmas.Option.{slice_get-get_or}
use Rattle.partial_path.specs.Rules.{Rule}
use Rattle.partial_path.specs.PathSets.{FileRules}
use Rattle.partial_path.specs.Starts.{begins_at}
use Rattle.partial_path.specs.Sources.{asks_rule, is_asked, numbered, rules_in, rules_after, rules_from}
use Rattle.partial_path.proofs.Halved.{filter_same}
use Rattle.root_index.specs.Roots.{root}
use Rattle.root_index.specs.declared.looks.RootLook.{RootLook}
use Rattle.root_index.specs.Looks.{asked_from, look_at, look_here, look_behind, look_left}
use Rattle.root_index.proofs.Seen.{root_moved}
use Rattle.root_index.proofs.WithoutFile.{twice_is}

pub skipped : {X : Type 0} (p : X → Bool) (xs : List X) (i : ℕ) (d : X) → i < length xs → p (get_or xs i d) ≡ false → filter p (drop i xs) ≡ filter p (drop (i + 1) xs)
skipped p xs i d h fails = ap (filter p) (drop_more xs i d h) ∙ ap (λ b. cond b (get_or xs i d ∷ filter p (drop (i + 1) xs)) (filter p (drop (i + 1) xs))) fails

pub kept : {X : Type 0} (p : X → Bool) (xs : List X) (i : ℕ) (x : X) → i < length xs → x ≡ get_or xs i x → p (get_or xs i x) ≡ true → filter p (drop i xs) ≡ x ∷ filter p (drop (i + 1) xs)
kept p xs i x h is passes =
    ap (filter p) (drop_more xs i x h) ∙ ap (λ b. cond b (get_or xs i x ∷ filter p (drop (i + 1) xs)) (filter p (drop (i + 1) xs))) passes
    ∙ ap (λ y. y ∷ filter p (drop (i + 1) xs)) (sym is)

pub none_kept_from : {X : Type 0} (p : X → Bool) (xs : List X) (i : ℕ) → length xs ≤ i → filter p (drop i xs) ≡ []
none_kept_from p xs i h = ap (filter p) (drop_of_length-le xs h)

-- a file's rules from the root, whatever its number
root_rules : (n : ℕ) (first : Option (List ℕ)) (f : FileRules) → rules_in n f root first ≡ map (numbered n) (asked_from first 0 f.rules)
root_rules n first f =
    ap (map (numbered n)) (filter_same (is_asked n root first) (λ rule. begins_at root rule && asks_rule first rule) (λ rule. ap (λ b. b && asks_rule first rule) (sym (root_moved n rule.start))) f.rules
    ∙ sym (twice_is (begins_at root) (asks_rule first) f.rules))

-- the files from one on: that one, and those behind it
pub files_from : (files : List FileRules) (n : ℕ) (first : Option (List ℕ)) → n < length files → rules_after n (drop n files) root first ≡ look_left files first (look_at n 0)
files_from [] n first h = absurd (omega (arith, h))
files_from (f ∷ files) n first h =
    ap (λ fs. rules_after n fs root first) (drop_more (f ∷ files) n f h)
    ∙ ap (λ rs. rs ++ rules_after (n + 1) (drop (n + 1) (f ∷ files)) root first)
    (root_rules n first (get_or (f ∷ files) n f)
    ∙ sym (ap (λ (o : Option FileRules). option_map_or (λ (g : FileRules). map (numbered n) (asked_from first 0 g.rules)) o []) (slice_get-get_or (f ∷ files) n f h)))

-- at first all are left
pub all_looked : (files : List FileRules) (first : Option (List ℕ)) → look_left files first (look_at 0 0) ≡ rules_from files root first
all_looked [] first = refl
all_looked (f ∷ files) first = sym (files_from (f ∷ files) 0 first (omega arith))

-- the next is in the file where the look stands
pub still_here : (files : List FileRules) (first : Option (List ℕ)) (at after : RootLook) (x : ℕ × Rule) → look_here files first at ≡ x ∷ look_here files first after → after.file ≡ at.file
    → look_left files first at ≡ x ∷ look_left files first after
still_here files first at after x next same =
    ap (λ rs. rs ++ look_behind files first at) next
    ∙ ap (λ n. x ∷ (look_here files first after ++ rules_after (n + 1) (drop (n + 1) files) root first)) (sym same)
