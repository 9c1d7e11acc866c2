-- What a pass over edits tells, and what all of them make of rules and of rows; no public clause cites this.
use Rattle.std.specs.Prelude.{List, [], ◌∷◌, Bool, true, false, Option, length, ◌≤◌}
use Rattle.std.specs.Option.{option_map}
use Rattle.grants.specs.Covers.{Rules}
use Rattle.version_tree.specs.declared.edit.Edit.{Edit}
use Rattle.version_tree.specs.declared.edit.Edit.TheVariants.{Put, Remove, Grant, Revoke, Deny, Undeny}
use Rattle.version_tree.specs.declared.edit.EditFault.{EditFault}
use Rattle.version_tree.specs.declared.edit.EditFault.TheVariants.{TooManyFiles, TooHeavy}
use Rattle.version_tree.specs.Limits.{max_files, max_weight}
use Rattle.version_tree.specs.Contents.{FileRow, ruled, rowed}
use Rattle.version_tree.specs.Verdict.{first_of, grant_absent, deny_absent, no_grant, no_deny, above, weight_of}

-- whether the edit changes who may see what, and no file
abbrev pub is_of_rules : Edit → Bool
is_of_rules (Put path paths) = false
is_of_rules (Remove path) = false
is_of_rules (Grant user prefix) = true
is_of_rules (Revoke user prefix) = true
is_of_rules (Deny user prefix) = true
is_of_rules (Undeny user prefix) = true

-- what edits make of rules, one after the other
abbrev pub ruled_all : List Edit → Rules → Rules
ruled_all [] rules = rules
ruled_all (edit ∷ edits) rules = ruled_all edits (ruled edit rules)

-- what edits make of rows, one after the other
abbrev pub rowed_all : List Edit → List FileRow → List FileRow
rowed_all [] rows = rows
rowed_all (edit ∷ edits) rows = rowed_all edits (rowed edit rows)

-- the first grant that isn't there, else the first deny that isn't there, as a fault
abbrev pub rule_fault : Rules → List Edit → Option EditFault
rule_fault rules edits = first_of (option_map no_grant (grant_absent rules edits)) (option_map no_deny (deny_absent rules edits))

-- too many rows, else rows that are too heavy, as a fault
abbrev pub size_fault : List FileRow → Option EditFault
size_fault rows = first_of (option_map TooManyFiles (above max_files (length rows))) (option_map TooHeavy (above max_weight (weight_of rows)))

-- rows that a version may have
pub record AreFew (rows : List FileRow) : Type 0 where
  pub count : length rows ≤ max_files
  pub weight : weight_of rows ≤ max_weight
