-- References of several targets, of which each is told once.
use Rattle.std.proofs.Common.{◌≡◌, ℕ, Bool, true, false, List, ◌++◌, Contains, ◌↔◌, ◌⊎◌, inl, inr, if◌then◌else◌, Result, Ok, Err, IfOk}
use Rattle.std.proofs.lemmas.List.Elements.{Contains-append_left, Contains-append_right, Contains-append_cases}
use Rattle.version_tree.specs.declared.row.Row.{Row}
use Rattle.version_tree.specs.Graphs.{GraphRow}
use Rattle.lsp_wire.specs.declared.reply.Outcome.{Outcome}
use Rattle.lsp_texts.specs.Texts.{Texts}
use Rattle.row_sets.specs.Rows.{AreInOrder}
use Rattle.nav_answers.specs.Replies.{ReferToAny}
use Rattle.lsp_answers.specs.Queries.{usual, located, IsUnion}

abbrev AreSame : List Row → List Row → Type 0
AreSame found all = (row : Row) → Contains found row ↔ Contains all row

with_same : (found all targets : List Row) (row : Row) → (Contains found row → Contains all row) → Contains (found ++ targets) row → Contains (all ++ targets) row
with_same found all targets row so h = by (Contains-append_cases found targets row h)
  where
    by : Contains found row ⊎ Contains targets row → Contains (all ++ targets) row
    by (inl m) = Contains-append_left all targets row (so m)
    by (inr m) = Contains-append_right all targets row m

targets_same : (found all targets : List Row) (declaration : Bool) → AreSame found all → AreSame (if declaration then found ++ targets else found) (if declaration then all ++ targets else all)
targets_same found all targets true same row = (with_same found all targets row (same row).0, with_same all found targets row (same row).1)
targets_same found all targets false same row = same row

-- rows in order are so of each list with the same rows
in_order_same : (found all rows : List Row) → AreSame found all → AreInOrder found rows → AreInOrder all rows
in_order_same found all rows same are = record {
  rising = are.rising;
  among = λ row h. (same row).0 (are.among row h);
  whole = λ row h. are.whole row ((same row).1 h);
}

pub union_if : {E : Type 0} (files : List GraphRow) (root : List ℕ) (texts : Texts) (targets found rows : List Row) (declaration : Bool) (r : Result Outcome E)
    → ReferToAny usual files targets found → AreInOrder (if declaration then found ++ targets else found) rows → IfOk r (λ outcome. outcome ≡ located root texts rows)
    → IfOk r (λ outcome. IsUnion files root texts targets declaration outcome)
union_if files root texts targets found rows declaration (Ok outcome) refer order told = record {
  all = refer.all;
  rows = rows;
  referred = refer.each;
  in_order = in_order_same (if declaration then found ++ targets else found) (if declaration then refer.all ++ targets else refer.all) rows (targets_same found refer.all targets declaration refer.same) order;
  told = told;
}
union_if files root texts targets found rows declaration (Err e) refer order told = tt
