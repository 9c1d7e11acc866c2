-- The verdict on edits, put together from its parts.
use Rattle.std.proofs.Common.{◌≡◌, ◌≤◌, ◌<◌, true, false, arith, ℕ, List, [], ◌∷◌, length, Option, None, Some, refl, ap, sym, ◌∙◌}
use Rattle.std.specs.Option.{option_map}
use Rattle.version_tree.specs.declared.edit.Edit.{Edit}
use Rattle.version_tree.specs.declared.edit.EditFault.{EditFault}
use Rattle.version_tree.specs.declared.edit.EditFault.TheVariants.{Twice, Absent, TooManyFiles, TooHeavy, Spent}
use Rattle.version_tree.specs.Limits.{max_files, max_weight, max_number}
use Rattle.grants.specs.Covers.{Rules}
use Rattle.std.specs.Prelude.{nat_le}
use Rattle.std.proofs.lemmas.Bool.Decides.{nat_tests}
use Rattle.version_tree.specs.Contents.{FileRow, Content, content, edited, edited_all}
use Rattle.version_tree.specs.Verdict.{first_of, twice, absent, spent, edit_fault, no_grant, no_deny, grant_absent, deny_absent, above, weight_of}
use Rattle.version_tree.specs.Passes.{ruled_all, rowed_all, rule_fault, size_fault}
use Rattle.version_tree.specs.Refused.{Refuses}
use Rattle.version_tree.proofs.Rules.{first-assoc, first-none, first-some}

pub edited-parts : (edits : List Edit) (v : Content) → edited_all edits v ≡ content (rowed_all edits v.rows) (ruled_all edits v.rules)
edited-parts [] v = refl
edited-parts (edit ∷ edits) v = edited-parts edits (edited edit v)

-- the verdict in five parts
abbrev pub whole : Option EditFault → Option EditFault → Option EditFault → Option EditFault → Option EditFault → Option EditFault
whole t a r z s = first_of t (first_of a (first_of r (first_of z s)))

regroup : (t a g d n w s : Option EditFault) → first_of t (first_of a (first_of g (first_of d (first_of n (first_of w s))))) ≡ whole t a (first_of g d) (first_of n w) s
regroup t a g d n w s = ap (λ x. first_of t (first_of a x)) (first-assoc g d (first_of n (first_of w s)) ∙ ap (first_of (first_of g d)) (first-assoc n w s))

pub verdict : (number : ℕ) (v : Content) (edits : List Edit) → edit_fault number v edits ≡ whole (option_map Twice (twice edits)) (option_map Absent (absent v.rows edits)) (rule_fault v.rules edits) (size_fault (rowed_all edits v.rows)) (spent number)
verdict number v edits =
    regroup (option_map Twice (twice edits)) (option_map Absent (absent v.rows edits)) (option_map no_grant (grant_absent v.rules edits)) (option_map no_deny (deny_absent v.rules edits))
    (option_map TooManyFiles (above max_files (length (edited_all edits v).rows))) (option_map TooHeavy (above max_weight (weight_of (edited_all edits v).rows))) (spent number)
    ∙ ap (λ (w : Content). whole (option_map Twice (twice edits)) (option_map Absent (absent v.rows edits)) (rule_fault v.rules edits) (size_fault w.rows) (spent number)) (edited-parts edits v)

to-size : (t a r z s : Option EditFault) → t ≡ None → a ≡ None → r ≡ None → whole t a r z s ≡ first_of z s
to-size t a r z s et ea er = first-none t _ et ∙ first-none a _ ea ∙ first-none r _ er

spent-some : (number : ℕ) → max_number ≤ number → spent number ≡ Some Spent
spent-some number le = let e : nat_le max_number number ≡ true = grind (arith, nat_tests) in rw e refl

spent-none : (number : ℕ) → number < max_number → spent number ≡ None
spent-none number lt = let e : nat_le max_number number ≡ false = grind (arith, nat_tests) in rw e refl

module _ (number : ℕ) (v : Content) (edits : List Edit) (after : List FileRow)
    (t : option_map Twice (twice edits) ≡ None) (a : option_map Absent (absent v.rows edits) ≡ None) (r : rule_fault v.rules edits ≡ None) (is : after ≡ rowed_all edits v.rows) where
  left : edit_fault number v edits ≡ first_of (size_fault after) (spent number)
  left = verdict number v edits ∙ to-size (option_map Twice (twice edits)) (option_map Absent (absent v.rows edits)) (rule_fault v.rules edits) (size_fault (rowed_all edits v.rows)) (spent number) t a r ∙ ap (λ rows. first_of (size_fault rows) (spent number)) (sym is)

  pub size-told : (e : EditFault) → Refuses (size_fault after) e → Refuses (edit_fault number v edits) e
  size-told e told = λ ne. left ∙ first-some (size_fault after) (spent number) e (told ne)

  pub spent-told : size_fault after ≡ None → max_number ≤ number → edit_fault number v edits ≡ Some Spent
  spent-told few le = left ∙ first-none _ _ few ∙ spent-some number le

  pub fits : size_fault after ≡ None → number < max_number → edit_fault number v edits ≡ None
  fits few lt = left ∙ first-none _ _ few ∙ spent-none number lt

pub holds : (v : Content) (edits : List Edit) (after : List FileRow) (rules : Rules) → after ≡ rowed_all edits v.rows → rules ≡ ruled_all edits v.rules → content after rules ≡ edited_all edits v
holds v edits after rules is ru = (λ i. content (is i) (ru i)) ∙ sym (edited-parts edits v)
