-- What is drawn for one file after the other.
use Rattle.std.proofs.Common.{◌≡◌, ◌∙◌, ℕ, suc, ◌+◌, ◌-◌, ◌*◌, List, [], ◌∷◌, ◌++◌, None, refl, sym, ap, arith}
use Rattle.std.specs.Prelude.{min}
use Rattle.std.proofs.lemmas.List.FromFn.{map-range_with_len_more}
use Rattle.graph_json.specs.Printed.{graph_text}
use Rattle.nav_proto.specs.declared.request.FileEdit.{FileEdit}
use Rattle.nav_proto.specs.declared.request.FileEdit.TheVariants.{Put}
use Rattle.nav_proto.specs.declared.request.Request.TheVariants.{Commit}
use Rattle.nav_demo.specs.MadeTree.{next_value, value_after, number_from, made_graph, made_path, made_file, made_files, made_commit}

-- two values later
pub value_two : (start k value first second : ℕ) → value ≡ value_after start (2 * k) → first ≡ next_value value → second ≡ next_value first
    → second ≡ value_after start (2 * (k + 1))
value_two start k value first second e f s =
    let n : 2 * (k + 1) ≡ suc (suc (2 * k)) = omega arith in
    s ∙ ap next_value (f ∙ ap next_value e) ∙ sym (ap (value_after start) n)

-- the edit that puts file k
pub put_file : (files start k value first second j t : ℕ) (path text : List ℕ) → value ≡ value_after start (2 * k)
    → first ≡ next_value value → second ≡ next_value first → j ≡ number_from files first → t ≡ number_from files second
    → path ≡ made_path k → text ≡ graph_text (made_graph k j t) → Put path text ≡ made_file files start k
put_file files start k value first second j t path text e f s ej et ep text_is =
    let one : first ≡ value_after start (suc (2 * k)) = f ∙ ap next_value e in
    let two : second ≡ value_after start (suc (suc (2 * k))) = s ∙ ap next_value one in
    let drawn_j = ej ∙ ap (number_from files) one in
    let drawn_t = et ∙ ap (number_from files) two in
    ap (λ (p : List ℕ). Put p text) ep
    ∙ ap (λ (x : List ℕ). Put (made_path k) x) (text_is
    ∙ ap (λ (n : ℕ). graph_text (made_graph k n t)) drawn_j
    ∙ ap (λ (n : ℕ). graph_text (made_graph k (number_from files (value_after start (suc (2 * k)))) n)) drawn_t)

-- one edit more
pub files_more : (files files' start start' k n j : ℕ) (edit : FileEdit) (items items' : List FileEdit) → items' ≡ items ++ edit ∷ []
    → items ≡ made_files files start k n → edit ≡ made_file files' start' j → files' ≡ files → start' ≡ start → j ≡ k + n
    → items' ≡ made_files files start k (n + 1)
files_more files files' start start' k n j edit items items' pushed before e ef es ej =
    let edit_is : edit ≡ made_file files start (k + n) =
    e ∙ ap (λ (x : ℕ). made_file x start' j) ef ∙ ap (λ (x : ℕ). made_file files x j) es ∙ ap (λ (x : ℕ). made_file files start x) ej in
    pushed ∙ ap (λ (xs : List FileEdit). xs ++ edit ∷ []) before ∙ ap (λ (x : FileEdit). made_files files start k n ++ x ∷ []) edit_is
    ∙ sym (map-range_with_len_more (made_file files start) k n (k + n) refl)

-- the commit of this number
pub commit_is : (files start next n : ℕ) (edits : List FileEdit) → edits ≡ made_files files start next (min (files - next) 64) → next ≡ 64 * n
    → Commit None edits ≡ made_commit files start n
commit_is files start next n edits e at_n =
    ap (λ (xs : List FileEdit). Commit None xs) (e ∙ ap (λ (m : ℕ). made_files files start m (min (files - m) 64)) at_n)
