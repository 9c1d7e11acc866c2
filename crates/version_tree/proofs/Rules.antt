-- What a pass over edits makes of rules, one edit after the other.
use Rattle.std.proofs.Common.{◌≡◌, ℕ, ◌+◌, ◌<◌, List, [], ◌∷◌, length, get_or, drop, false, Option, None, Some, refl, ap, sym, ◌∙◌}
use Rattle.std.specs.List.{list_any}
use Rattle.std.specs.Option.{option_map}
use Rattle.std.specs.Ordering.{is_eq}
use Rattle.std.proofs.lemmas.List.{at_drop_more}
use Rattle.grants.specs.Pairs.{Pair, pair, pair_cmp, has_pair, without_pair}
use Rattle.grants.specs.Covers.{Rules}
use Rattle.version_tree.specs.declared.edit.Edit.{Edit}
use Rattle.version_tree.specs.declared.edit.Edit.TheVariants.{Put, Remove, Grant, Revoke, Deny, Undeny}
use Rattle.version_tree.specs.declared.edit.EditFault.{EditFault}
use Rattle.version_tree.specs.Contents.{FileRow, ruled, rowed}
use Rattle.version_tree.specs.Verdict.{first_of, misses_grant, misses_deny, grant_absent, deny_absent, no_grant, no_deny}
use Rattle.list_facts.proofs.Tests.{others-kept}
use Rattle.version_tree.proofs.Least.{or-false}
use Rattle.version_tree.specs.Passes.{is_of_rules, ruled_all, rowed_all, rule_fault}

-- a set without a pair that it hasn't
pub without-absent : (p : Pair) (ps : List Pair) → has_pair p ps ≡ false → without_pair p ps ≡ ps
unfolding has_pair without_pair
without-absent p ps e = others-kept (λ (q : Pair). is_eq (pair_cmp q p)) ps e

pub undeny-absent : (rules : Rules) (edit : Edit) (user prefix user' prefix' : List ℕ) → edit ≡ Undeny user prefix → user' ≡ user → prefix' ≡ prefix → has_pair (pair user' prefix') rules.denied ≡ false → rules ≡ ruled edit rules
undeny-absent rules edit user prefix user' prefix' is u p e =
    let gone : without_pair (pair user prefix) rules.denied ≡ rules.denied = without-absent (pair user prefix) rules.denied ((λ j. has_pair (pair (sym u j) (sym p j)) rules.denied) ∙ e) in
    (λ j. record rules { denied = sym gone j }) ∙ ap (λ x. ruled x rules) (sym is)

pub first-assoc : {X : Type 0} (a b c : Option X) → first_of a (first_of b c) ≡ first_of (first_of a b) c
first-assoc None b c = refl
first-assoc (Some x) b c = refl

pub mapped-first : {X Y : Type 0} (f : X → Y) (a b : Option X) → option_map f (first_of a b) ≡ first_of (option_map f a) (option_map f b)
mapped-first f None b = refl
mapped-first f (Some x) b = refl

pub first-none : {X : Type 0} (a b : Option X) → a ≡ None → first_of a b ≡ b
first-none None b e = refl
first-none (Some x) b e = cc

pub first-some : {X : Type 0} (a b : Option X) (x : X) → a ≡ Some x → first_of a b ≡ Some x
first-some None b x e = cc
first-some (Some y) b x e = e

module _ (edits : List Edit) (i : ℕ) (edit : Edit) (lt : i < length edits) (is : edit ≡ get_or edits i edit) where
  left : {Y : Type 0} (f : List Edit → Y) → f (drop i edits) ≡ f (edit ∷ drop (i + 1) edits)
  left f = at_drop_more f edits i edit lt ∙ ap (λ e. f (e ∷ drop (i + 1) edits)) (sym is)

  pub ruled-next : (rules : Rules) → ruled_all (drop i edits) rules ≡ ruled_all (drop (i + 1) edits) (ruled edit rules)
  ruled-next rules = left (λ es. ruled_all es rules)

  pub rowed-next : (rows : List FileRow) → rowed_all (drop i edits) rows ≡ rowed_all (drop (i + 1) edits) (rowed edit rows)
  rowed-next rows = left (λ es. rowed_all es rows)

  pub grant-next : (rules : Rules) → misses_grant rules edit ≡ None → grant_absent rules (drop i edits) ≡ grant_absent (ruled edit rules) (drop (i + 1) edits)
  grant-next rules none = left (grant_absent rules) ∙ first-none _ _ none

  pub grant-told : (rules : Rules) (fault : EditFault) → option_map no_grant (misses_grant rules edit) ≡ Some fault → option_map no_grant (grant_absent rules (drop i edits)) ≡ Some fault
  grant-told rules fault some = ap (option_map no_grant) (left (grant_absent rules)) ∙ mapped-first no_grant _ _ ∙ first-some _ _ fault some

  pub deny-next : (rules : Rules) (noted : Option EditFault) → first_of noted (option_map no_deny (deny_absent rules (drop i edits))) ≡ first_of (first_of noted (option_map no_deny (misses_deny rules edit))) (option_map no_deny (deny_absent (ruled edit rules) (drop (i + 1) edits)))
  deny-next rules noted = ap (λ d. first_of noted (option_map no_deny d)) (left (deny_absent rules)) ∙ ap (first_of noted) (mapped-first no_deny (misses_deny rules edit) (deny_absent (ruled edit rules) (drop (i + 1) edits))) ∙ first-assoc noted _ _

-- edits of files leave the rules as they are, and miss no rule
pub unruled-edit : (edit : Edit) (rules : Rules) → is_of_rules edit ≡ false → (ruled edit rules ≡ rules) × (misses_grant rules edit ≡ None) × (misses_deny rules edit ≡ None)
unruled-edit (Put path paths) rules e = (refl, refl, refl)
unruled-edit (Remove path) rules e = (refl, refl, refl)
unruled-edit (Grant user prefix) rules e = cc
unruled-edit (Revoke user prefix) rules e = cc
unruled-edit (Deny user prefix) rules e = cc
unruled-edit (Undeny user prefix) rules e = cc

-- what edits of files alone make of rules, and what they miss
pub record AreUnruled (edits : List Edit) (rules : Rules) : Type 0 where
  pub stays : ruled_all edits rules ≡ rules
  pub grants : grant_absent rules edits ≡ None
  pub denies : deny_absent rules edits ≡ None

pub unruled-all : (edits : List Edit) (rules : Rules) → list_any is_of_rules edits ≡ false → AreUnruled edits rules
unruled-all [] rules e = record { stays = refl; grants = refl; denies = refl }
unruled-all (edit ∷ edits) rules e =
    let both = or-false (is_of_rules edit) (list_any is_of_rules edits) e in
    let first = unruled-edit edit rules both.0 in
    let rest = unruled-all edits rules both.1 in
    record {
      stays = ap (ruled_all edits) first.0 ∙ rest.stays;
      grants = first-none _ _ first.1 ∙ ap (λ r. grant_absent r edits) first.0 ∙ rest.grants;
      denies = first-none _ _ first.2 ∙ ap (λ r. deny_absent r edits) first.0 ∙ rest.denies;
    }

pub unruled-stays : (edits : List Edit) (rules : Rules) → list_any is_of_rules edits ≡ false → ruled_all edits rules ≡ rules
unruled-stays edits rules e = (unruled-all edits rules e).stays

pub unruled-fault : (edits : List Edit) (rules : Rules) → list_any is_of_rules edits ≡ false → rule_fault rules edits ≡ None
unruled-fault edits rules e = let all = unruled-all edits rules e in rw (all.grants, all.denies) refl

pub ruleset unruled = (unruled-stays, unruled-fault)
