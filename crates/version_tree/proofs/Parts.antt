-- Rows in parts: what they are with a row and without one, where what stands before a part is lower and what
-- stands after it is higher.
use Rattle.std.proofs.Common.{◌≡◌, ℕ, List, [], ◌∷◌, ◌++◌, Bool, true, refl, ap, ◌∙◌}
use Rattle.std.specs.List.{AllByRecursion, filter}
use Rattle.std.specs.Ordering.{is_lt, is_gt}
use Rattle.std.specs.declared.cmp.Ordering.TheVariants.{Less, Greater}
use Rattle.partial_path.specs.PathSets.{FileRules}
use Rattle.partial_path.specs.Sources.{IsSourceFile}
use Rattle.version_tree.specs.Contents.{FileRow, file_row, path_cmp, IsInOrder, AreRows, has_path, with_row, without_row}
use Rattle.version_tree.specs.Places.{beside}
use Rattle.list_facts.specs.Sets.{AreLess, AreGreater}
use Rattle.list_facts.proofs.Each.{each, all-append, all-filter, all_passed}
use Rattle.list_facts.proofs.Orders.{is_less, is_greater}
use Rattle.list_facts.proofs.Pairs.{Pairs-filter}
use Rattle.list_facts.proofs.Sets as sets
use Rattle.version_tree.proofs.Order.{path_total, greater_flipped}

abbrev pub IsLow : List ℕ → List FileRow → Type 0
IsLow path rows = AreLess (beside path) rows

abbrev pub IsHigh : List ℕ → List FileRow → Type 0
IsHigh path rows = AreGreater (beside path) rows

-- rows by the order of their paths: what they are with a row and without one, and whether one has the path, by a part
module _ (path : List ℕ) (f m b : List FileRow) (low : IsLow path f) (high : IsHigh path b) where
  pub with-part : (file : FileRules) → with_row path file (f ++ (m ++ b)) ≡ f ++ (with_row path file m ++ b)
  with-part file = sets.with-part (beside path) f m b low high (file_row path file)

  pub without-part : without_row path (f ++ (m ++ b)) ≡ f ++ (without_row path m ++ b)
  without-part = sets.without-part (beside path) f m b low high

  pub has-part : has_path path (f ++ (m ++ b)) ≡ has_path path m
  has-part = sets.has-part (beside path) f m b low high

-- order stays
-- the path of the one row comes before that of the other
abbrev pub Comes : FileRow → FileRow → Type 0
Comes row later = path_cmp row.path later.path ≡ Less

pub filter-in-order : (t : FileRow → Bool) (rows : List FileRow) → IsInOrder rows → IsInOrder (filter t rows)
filter-in-order t rows up = Pairs-filter Comes t rows up

pub above-all : (path : List ℕ) (row : FileRow) (b : List FileRow) → path_cmp row.path path ≡ Less → IsHigh path b → AllByRecursion (λ (later : FileRow). path_cmp row.path later.path ≡ Less) b
above-all path row b lt high = each (λ (later : FileRow). beside path later ≡ Greater) (λ (later : FileRow). path_cmp row.path later.path ≡ Less) (λ later g. path_total.trans row.path path later.path lt (greater_flipped later.path path g)) b high

pub join-in-order : (path : List ℕ) (f m b : List FileRow) → IsInOrder f → IsInOrder (m ++ b) → IsLow path f → AllByRecursion (λ (row : FileRow). path_cmp path row.path ≡ Less) b → AllByRecursion (λ (row : FileRow). row.path ≡ path) m → IsInOrder (f ++ (m ++ b))
join-in-order path [] m b up up2 low high same = up2
join-in-order path (row ∷ f) m b up up2 low high same = (
  all-append (λ (later : FileRow). path_cmp row.path later.path ≡ Less) f (m ++ b) up.0
      (all-append (λ (later : FileRow). path_cmp row.path later.path ≡ Less) m b
      (each (λ (later : FileRow). later.path ≡ path) (λ (later : FileRow). path_cmp row.path later.path ≡ Less) (λ later e. ap (λ p. path_cmp row.path p) e ∙ low.0) m same)
      (each (λ (later : FileRow). path_cmp path later.path ≡ Less) (λ (later : FileRow). path_cmp row.path later.path ≡ Less) (λ later e. path_total.trans row.path path later.path low.0 e) b high)),
  join-in-order path f m b up.1 up2 low.1 high same,
)

pub with-in-order : (path : List ℕ) (file : FileRules) (rows : List FileRow) → IsInOrder rows → IsInOrder (with_row path file rows)
with-in-order path file rows up =
    let low : IsLow path (filter (λ (row : FileRow). is_lt (beside path row)) rows) = each (λ (row : FileRow). is_lt (beside path row) ≡ true) (λ (row : FileRow). beside path row ≡ Less) (λ row e. is_less (beside path row) e) _ (all_passed (λ (row : FileRow). is_lt (beside path row)) rows) in
    let high : AllByRecursion (λ (row : FileRow). path_cmp path row.path ≡ Less) (filter (λ (row : FileRow). is_gt (beside path row)) rows) = each (λ (row : FileRow). is_gt (beside path row) ≡ true) (λ (row : FileRow). path_cmp path row.path ≡ Less) (λ row e. greater_flipped row.path path (is_greater (beside path row) e)) _ (all_passed (λ (row : FileRow). is_gt (beside path row)) rows) in
    join-in-order path (filter (λ (row : FileRow). is_lt (beside path row)) rows) (file_row path file ∷ []) (filter (λ (row : FileRow). is_gt (beside path row)) rows)
    (filter-in-order (λ (row : FileRow). is_lt (beside path row)) rows up)
    (high, filter-in-order (λ (row : FileRow). is_gt (beside path row)) rows up) low high (refl, tt)

-- rows that are kept stay so
abbrev pub HasSet : FileRow → Type 0
HasSet row = IsSourceFile row.file

pub filter-rows : (t : FileRow → Bool) (rows : List FileRow) → AreRows rows → AreRows (filter t rows)
filter-rows t rows kept = record { order = filter-in-order t rows kept.order; sets = all-filter HasSet t rows kept.sets }

pub with-rows : (path : List ℕ) (file : FileRules) (rows : List FileRow) → IsSourceFile file → AreRows rows → AreRows (with_row path file rows)
with-rows path file rows set kept = record {
  order = with-in-order path file rows kept.order;
  sets = all-append HasSet (filter (λ (row : FileRow). is_lt (beside path row)) rows) (file_row path file ∷ filter (λ (row : FileRow). is_gt (beside path row)) rows)
      (all-filter HasSet (λ (row : FileRow). is_lt (beside path row)) rows kept.sets)
      (set, all-filter HasSet (λ (row : FileRow). is_gt (beside path row)) rows kept.sets);
}
