-- Where the rules of a file that begin at the root stand: together, behind those that begin before it.
use Rattle.std.proofs.Common.{◌≡◌, refl, sym, ◌∙◌, ap, ℕ, zero, suc, ◌+◌, ◌-◌, ◌<◌, ◌≤◌, Bool, true, false, cond, List, [], ◌∷◌, ◌++◌, length, get_or, drop, Some, arith, inl, inr}
use Rattle.std.specs.Ordering.{is_lt, is_eq}
use Rattle.std.specs.declared.cmp.Ordering.{Ordering}
use Rattle.std.specs.declared.cmp.Ordering.TheVariants.{Less, Equal, Greater}
use Rattle.std.specs.List.{prefix_len}
use Rattle.std.proofs.lemmas.Bool.{false≢true, cases_Bool}
use Rattle.std.proofs.lemmas.List.{get_or-drop, get_or_default, length-drop}
use Rattle.partial_path.specs.Rules.{Rule}
use Rattle.partial_path.specs.Starts.{start_cmp, IsByStart, is_before, begins_at}
use Rattle.partial_path.proofs.Orders.{start_eq_is}
use Rattle.partial_path.proofs.Halved.{parted_at}
use Rattle.root_index.specs.Roots.{root, root_path, roots_from}

less_is_other : (c : Ordering) → is_lt c ≡ true → is_eq c ≡ false
less_is_other Less e = refl
less_is_other Equal e = absurd (false≢true e)
less_is_other Greater e = refl

before_is_other : (rule : Rule) → is_before root rule ≡ true → begins_at root rule ≡ false
before_is_other rule e = start_eq_is rule.start root ∙ less_is_other (start_cmp rule.start root) e

-- how many rules begin before the root
abbrev pub before_root : List Rule → ℕ
before_root rules = prefix_len (is_before root) rules

-- those that begin before the root may be passed over
behind_these : (path : List ℕ) (place : ℕ) (rules : List Rule)
    → roots_from path place rules ≡ roots_from path (place + before_root rules) (drop (before_root rules) rules)
behind_these path place [] = refl
behind_these path place (rule ∷ rules) = behind_case (is_before root rule) refl (behind_these path (place + 1) rules)
  where
    behind_case : (b : Bool) → is_before root rule ≡ b
        → roots_from path (place + 1) rules ≡ roots_from path (place + 1 + before_root rules) (drop (before_root rules) rules)
        → roots_from path place (rule ∷ rules) ≡ roots_from path (place + before_root (rule ∷ rules)) (drop (before_root (rule ∷ rules)) (rule ∷ rules))
    behind_case true e rest =
        let more : 1 + before_root rules ≡ suc (before_root rules) = omega arith in
        let next : place + 1 + before_root rules ≡ place + suc (before_root rules) = omega arith in
        ap (λ b. cond b (root_path path place (Some rule) ∷ []) [] ++ roots_from path (place + 1) rules) (before_is_other rule e) ∙ rest
        ∙ ap (λ n. roots_from path n (drop (before_root rules) rules)) next
        ∙ sym (ap (λ n. roots_from path (place + n) (drop n (rule ∷ rules))) (ap (λ b. cond b (1 + before_root rules) 0) e ∙ more))
    behind_case false e rest =
        let here : place ≡ place + 0 = omega arith in
        ap (λ n. roots_from path n (rule ∷ rules)) here
        ∙ sym (ap (λ n. roots_from path (place + n) (drop n (rule ∷ rules))) (ap (λ b. cond b (1 + before_root rules) 0) e))

pub behind_first : (path : List ℕ) (rules : List Rule) → roots_from path (before_root rules) (drop (before_root rules) rules) ≡ roots_from path 0 rules
behind_first path rules =
    let none : 0 + before_root rules ≡ before_root rules = omega arith in
    sym (behind_these path 0 rules ∙ ap (λ n. roots_from path n (drop (before_root rules) rules)) none)

none_of : (path : List ℕ) (place : ℕ) (rules : List Rule) → ((k : ℕ) (d : Rule) → k < length rules → begins_at root (get_or rules k d) ≡ false) → roots_from path place rules ≡ []
none_of path place [] none = refl
none_of path place (rule ∷ rules) none =
    ap (λ b. cond b (root_path path place (Some rule) ∷ []) [] ++ roots_from path (place + 1) rules) (none zero rule (omega arith))
    ∙ none_of path (place + 1) rules (λ k d h. none (suc k) d (omega (arith, h)))

-- behind those of the root no rule begins there
pub none_behind : (path : List ℕ) (rules : List Rule) (place : ℕ) (rule : Rule) → IsByStart rules → before_root rules ≤ place → place < length rules
    → begins_at root (get_or rules place rule) ≡ false → roots_from path place (drop place rules) ≡ []
none_behind path rules place rule sorted low inside other = none_of path place (drop place rules) each
  where
    first : ℕ
    first = before_root rules

    at : (n : ℕ) (d : Rule) → first ≤ n → get_or (drop first rules) (n - first) d ≡ get_or rules n d
    at n d h = let whole : first + (n - first) ≡ n = omega (arith, h) in get_or-drop first rules (n - first) d ∙ ap (λ m. get_or rules m d) whole

    each : (k : ℕ) (d : Rule) → k < length (drop place rules) → begins_at root (get_or (drop place rules) k d) ≡ false
    each k d h = elim (cases_Bool (begins_at root (get_or (drop place rules) k d))) [
      | inl passed ↦
          let long : length (drop place rules) ≡ length rules - place = length-drop place rules in
          let later : begins_at root (get_or (drop first rules) (place + k - first) d) ≡ true = ap (begins_at root) (at (place + k) d (omega (arith, low)) ∙ sym (get_or-drop place rules k d)) ∙ passed in
          let same : get_or rules place d ≡ get_or rules place rule = get_or_default rules place d rule inside in
          let all : length (drop first rules) ≡ length rules - first = length-drop first rules in
          absurd (false≢true (sym other ∙ ap (begins_at root) (sym same ∙ sym (at place d low)) ∙ parted_at rules root sorted (place - first) (place + k - first) d (omega (arith, low)) (omega (arith, low, all, long, h, inside)) later))
      | inr failed ↦ failed
    ]
