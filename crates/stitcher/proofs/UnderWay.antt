-- What was found so far, with what is met behind the open ones, is what is met in all.
use Rattle.std.proofs.Common.{◌≡◌, ℕ, zero, suc, ◌+◌, ◌-◌, ◌<◌, ◌≤◌, Bool, true, false, cond, List, [], ◌∷◌, ◌++◌, length, Some, All, sym, refl, ap, ◌∙◌, subst, arith, filter, flat_map, if◌then◌else◌, append-nil, length-append, ◌⊎◌, inl, inr}
use Rattle.std.proofs.lemmas.List.Concat.{flat_map-append}
use Rattle.partial_path.specs.Step.{start}
use Rattle.partial_path.specs.Runs.{IsApart}
use Rattle.partial_path.specs.Rules.{Rule}
use Rattle.partial_path.specs.Apply.{apply}
use Rattle.partial_path.specs.Moved.{moved}
use Rattle.partial_path.specs.Sources.{IsSourceFile, graphs_of}
use Rattle.stitcher.specs.Joins.{Asked, Joined, none_joined, joined_by, goes_on, offered_to, longer, meets, met, ahead}
use Rattle.stitcher.specs.Laws.{CutLaws}
use Rattle.list_facts.specs.Members.{IsIn}
use Rattle.list_facts.proofs.Members.{IsIn-append_left, IsIn-append_right, IsIn-append_cases, IsIn-flat_map, IsIn-flat_map_from}
use Rattle.list_facts.proofs.Apart.{all_differ, IsApart-flat_map}
use Rattle.stitcher.proofs.Same.{AreSame, length-same, apart_of_many}
use Rattle.stitcher.proofs.Meeting.{Stands, longer_of, same_longer, length_longer, same_front, no_room, meets_begin, piece_begins, apart_meets, apart_landed, path_of_joined}
use Rattle.stitcher.proofs.Reached.{count_of}
use Rattle.std.proofs.lemmas.List.{same_from_push}

-- the one itself, and what is met behind it
abbrev pub onward : Asked → Joined → List Joined
onward q j = j ∷ ahead q j

-- found by one path more from there: exactly what is longer, each once
pub record AreFound (q : Asked) (j : Joined) (found : List Joined) : Type 0 where
  pub apart : IsApart found
  pub same : AreSame found (longer q j)

-- what is joined by the paths of a list that offers the same, each once, is so found
pub found_by : (q : Asked) (j : Joined) (paths : List (ℕ × Rule)) → goes_on q j ≡ true → IsApart paths → AreSame paths (offered_to q j) → AreFound q j (flat_map (joined_by q j) paths)
found_by q j paths goes apart same = record {
  apart =
      IsApart-flat_map (joined_by q j) paths apart
      (λ p h. apart_landed q j p (apply (moved p.0 p.1) j.at))
      (λ p r y hp hr gp gr. (same_from_push j.paths j.paths p r (path_of_joined q j y p gp ∙ sym (path_of_joined q j y r gr))).1);
  same = subst (AreSame (flat_map (joined_by q j) paths))
      (ap (λ (b : Bool). if b then flat_map (joined_by q j) (offered_to q j) else []) (sym goes))
      (record {
        there = λ x h. let r = IsIn-flat_map_from (joined_by q j) x paths h in IsIn-flat_map (joined_by q j) r.0 x (offered_to q j) (same.there r.0 r.1) r.2;
        back = λ x h. let r = IsIn-flat_map_from (joined_by q j) x (offered_to q j) h in IsIn-flat_map (joined_by q j) r.0 x paths (same.back r.0 r.1) r.2;
      });
}

-- pieces one after the other have the same members where each piece has
same_pieces : {X Y : Type 0} (f g : X → List Y) (xs ys : List X) → AreSame xs ys → ((x : X) → IsIn x ys → f x ≡ g x) → AreSame (flat_map f xs) (flat_map g ys)
same_pieces {X} {Y} f g xs ys s each = record {
  there = λ y h. let r = IsIn-flat_map_from f y xs h in
      IsIn-flat_map g r.0 y ys (s.there r.0 r.1) (subst (IsIn y) (each r.0 (s.there r.0 r.1)) r.2);
  back = λ y h. let r = IsIn-flat_map_from g y ys h in
      IsIn-flat_map f r.0 y xs (s.back r.0 r.1) (subst (IsIn y) (sym (each r.0 r.1)) r.2);
}

-- each with what is behind it: as many, and the same ones, as they and what is behind them
length-onward : (q : Asked) (xs : List Joined) → length (flat_map (onward q) xs) ≡ length xs + length (flat_map (ahead q) xs)
length-onward q [] = refl
length-onward q (x ∷ xs) =
    let one : length (ahead q x ++ flat_map (onward q) xs) ≡ length (ahead q x) + length (flat_map (onward q) xs) = length-append (ahead q x) (flat_map (onward q) xs) in
    let two : length (ahead q x ++ flat_map (ahead q) xs) ≡ length (ahead q x) + length (flat_map (ahead q) xs) = length-append (ahead q x) (flat_map (ahead q) xs) in
    let rest = length-onward q xs in
    omega arith

same_onward : (q : Asked) (xs : List Joined) → AreSame (flat_map (onward q) xs) (xs ++ flat_map (ahead q) xs)
same_onward q xs = record {
  there = λ y h. let r = IsIn-flat_map_from (onward q) y xs h in at y r.0 r.1 r.2;
  back = λ y h. of y (IsIn-append_cases y xs (flat_map (ahead q) xs) h);
}
  where
    at : (y x : Joined) → IsIn x xs → (y ≡ x) ⊎ IsIn y (ahead q x) → IsIn y (xs ++ flat_map (ahead q) xs)
    at y x g (inl e) = IsIn-append_left y xs (flat_map (ahead q) xs) (subst (λ z. IsIn z xs) (sym e) g)
    at y x g (inr k) = IsIn-append_right y xs (flat_map (ahead q) xs) (IsIn-flat_map (ahead q) x y xs g k)

    of : (y : Joined) → IsIn y xs ⊎ IsIn y (flat_map (ahead q) xs) → IsIn y (flat_map (onward q) xs)
    of y (inl g) = IsIn-flat_map (onward q) y y xs g (inl refl)
    of y (inr g) = let r = IsIn-flat_map_from (ahead q) y xs g in IsIn-flat_map (onward q) r.0 y xs r.1 (inr r.2)

-- nothing is met behind what isn't gone on with
pub stopped : (q : Asked) (j : Joined) → goes_on q j ≡ false → (n : ℕ) → meets n q j ≡ []
stopped q j f zero = refl
stopped q j f (suc n) =
    ap (λ (b : Bool). flat_map (λ (next : Joined). next ∷ meets n q next) (if b then flat_map (joined_by q j) (offered_to q j) else [])) f

ahead-going : (q : Asked) (xs : List Joined) → flat_map (ahead q) (filter (goes_on q) xs) ≡ flat_map (ahead q) xs
ahead-going q [] = refl
ahead-going q (x ∷ xs) = by (goes_on q x) refl (ahead-going q xs)
  where
    by : (b : Bool) → goes_on q x ≡ b → flat_map (ahead q) (filter (goes_on q) xs) ≡ flat_map (ahead q) xs → flat_map (ahead q) (cond b (x ∷ filter (goes_on q) xs) (filter (goes_on q) xs)) ≡ ahead q x ++ flat_map (ahead q) xs
    by true t r = ap (λ (ys : List Joined). ahead q x ++ ys) r
    by false t r = r ∙ ap (λ (ys : List Joined). ys ++ flat_map (ahead q) xs) (sym (stopped q x t ((q.bounds.edges + 1) - length x.paths)))

onward-going : (q : Asked) (xs : List Joined) → length (flat_map (onward q) (filter (goes_on q) xs)) ≤ length (flat_map (onward q) xs)
onward-going q [] = omega arith
onward-going q (x ∷ xs) = by (goes_on q x) (onward-going q xs)
  where
    by : (b : Bool) → length (flat_map (onward q) (filter (goes_on q) xs)) ≤ length (flat_map (onward q) xs) → length (flat_map (onward q) (cond b (x ∷ filter (goes_on q) xs) (filter (goes_on q) xs))) ≤ length (flat_map (onward q) (x ∷ xs))
    by true r =
        let one : length (ahead q x ++ flat_map (onward q) (filter (goes_on q) xs)) ≡ length (ahead q x) + length (flat_map (onward q) (filter (goes_on q) xs)) = length-append (ahead q x) (flat_map (onward q) (filter (goes_on q) xs)) in
        let two : length (ahead q x ++ flat_map (onward q) xs) ≡ length (ahead q x) + length (flat_map (onward q) xs) = length-append (ahead q x) (flat_map (onward q) xs) in
        omega arith
    by false r =
        let two : length (ahead q x ++ flat_map (onward q) xs) ≡ length (ahead q x) + length (flat_map (onward q) xs) = length-append (ahead q x) (flat_map (onward q) xs) in
        omega arith

-- so many paths more may be joined
pub fuel-of : (n k m : ℕ) → k ≤ n → m ≡ k + 1 → ((n + 1) - k ≡ suc ((n + 1) - m))
fuel-of n k m le e = omega arith

-- what was found, and what is met behind the open ones, is what is met, each once
pub record IsUnderWay (q : Asked) (done opens : List Joined) : Type 0 where
  pub apart : IsApart (done ++ flat_map (ahead q) opens)
  pub same : AreSame (done ++ flat_map (ahead q) opens) (met q)

module _ (laws : CutLaws) (q : Asked) (sources : All IsSourceFile q.files) (begins : start (graphs_of q.files) q.node ≡ Some q.start) where
  abbrev fuel : Joined → ℕ
  fuel j = (q.bounds.edges + 1) - length j.paths

  -- behind one that is gone on with come those that are found, each with what is behind it
  pub same_ahead : (j : Joined) (found : List Joined) → Stands q j → goes_on q j ≡ true → AreFound q j found → AreSame (flat_map (onward q) found) (ahead q j)
  same_ahead j found s goes f =
      subst (λ (n : ℕ). AreSame (flat_map (onward q) found) (meets n q j)) (sym one_less)
      (same_pieces (onward q) (λ (next : Joined). next ∷ meets (pred_fuel) q next) found (longer q j) f.same
      (λ x h. ap (λ (n : ℕ). x ∷ meets n q x) (less x (length_longer q j x (longer_of q j x h)))))
    where
      pred_fuel : ℕ
      pred_fuel = (q.bounds.edges + 1) - (length j.paths + 1)

      few : length j.paths ≤ q.bounds.edges
      few = count_of laws q sources begins j s j.paths refl goes

      one_less : (q.bounds.edges + 1) - length j.paths ≡ suc pred_fuel
      one_less = fuel-of q.bounds.edges (length j.paths) (length j.paths + 1) few refl

      less : (x : Joined) → length x.paths ≡ length j.paths + 1 → (q.bounds.edges + 1) - length x.paths ≡ pred_fuel
      less x e = ap (λ (n : ℕ). (q.bounds.edges + 1) - n) e

  pub apart_found : (j : Joined) (found : List Joined) → AreFound q j found → IsApart (flat_map (onward q) found)
  apart_found j found f =
      IsApart-flat_map (onward q) found f.apart
      (λ x h. (
        all_differ x (ahead q x) (λ g. let m = meets_begin (fuel x) q x x g in no_room x.paths m.0 m.1 m.2),
        apart_meets (fuel x) q x sources,
      ))
      (λ x z y hx hz gx gz.
      let lx = longer_of q j x (f.same.there x hx) in
      let lz = longer_of q j z (f.same.there z hz) in
      let mx = piece_begins (fuel x) q x y gx in
      let mz = piece_begins (fuel z) q z y gz in
      same_longer q j x z lx lz
      (same_front x.paths z.paths mx.0 mz.0 (length_longer q j x lx ∙ sym (length_longer q j z lz)) (mx.1 ∙ sym mz.1)))

  pub length-ahead : (j : Joined) (found : List Joined) → Stands q j → goes_on q j ≡ true → AreFound q j found → length (flat_map (onward q) found) ≡ length (ahead q j)
  length-ahead j found s goes f =
      length-same (flat_map (onward q) found) (ahead q j) (apart_found j found f) (apart_meets (fuel j) q j sources) (same_ahead j found s goes f)

  pub begins_under_way : IsUnderWay q [] (none_joined q ∷ [])
  begins_under_way =
      let none : (q.bounds.edges + 1) - 0 ≡ q.bounds.edges + 1 = omega arith in
      let is : met q ≡ ahead q (none_joined q) ++ [] =
      ap (λ (n : ℕ). meets n q (none_joined q)) (sym none) ∙ sym (append-nil (ahead q (none_joined q))) in record {
        apart = subst IsApart is (apart_meets (q.bounds.edges + 1) q (none_joined q) sources);
        same = subst (λ (xs : List Joined). AreSame xs (met q)) is (record { there = λ x h. h; back = λ x h. h });
      }

  -- the lists before and after one is gone on from
  abbrev before_it : (done rest : List Joined) (j : Joined) → List Joined
  before_it done rest j = done ++ (ahead q j ++ flat_map (ahead q) rest)

  abbrev after_it : (done rest found : List Joined) → List Joined
  after_it done rest found = (done ++ found) ++ (flat_map (ahead q) rest ++ flat_map (ahead q) (filter (goes_on q) found))

  after_there : (done rest found : List Joined) (j x : Joined) → AreSame (flat_map (onward q) found) (ahead q j) → IsIn x (before_it done rest j) → IsIn x (after_it done rest found)
  after_there done rest found j x s h = from (IsIn-append_cases x done (ahead q j ++ flat_map (ahead q) rest) h)
    where
      front : IsIn x (done ++ found) → IsIn x (after_it done rest found)
      front g = IsIn-append_left x (done ++ found) (flat_map (ahead q) rest ++ flat_map (ahead q) (filter (goes_on q) found)) g

      back : IsIn x (flat_map (ahead q) rest ++ flat_map (ahead q) (filter (goes_on q) found)) → IsIn x (after_it done rest found)
      back g = IsIn-append_right x (done ++ found) (flat_map (ahead q) rest ++ flat_map (ahead q) (filter (goes_on q) found)) g

      deeper : IsIn x found ⊎ IsIn x (flat_map (ahead q) found) → IsIn x (after_it done rest found)
      deeper (inl g) = front (IsIn-append_right x done found g)
      deeper (inr g) =
          back (IsIn-append_right x (flat_map (ahead q) rest) (flat_map (ahead q) (filter (goes_on q) found))
          (subst (IsIn x) (sym (ahead-going q found)) g))

      later : IsIn x (ahead q j) ⊎ IsIn x (flat_map (ahead q) rest) → IsIn x (after_it done rest found)
      later (inl g) = deeper (IsIn-append_cases x found (flat_map (ahead q) found) ((same_onward q found).there x (s.back x g)))
      later (inr g) = back (IsIn-append_left x (flat_map (ahead q) rest) (flat_map (ahead q) (filter (goes_on q) found)) g)

      from : IsIn x done ⊎ IsIn x (ahead q j ++ flat_map (ahead q) rest) → IsIn x (after_it done rest found)
      from (inl g) = front (IsIn-append_left x done found g)
      from (inr g) = later (IsIn-append_cases x (ahead q j) (flat_map (ahead q) rest) g)

  after_back : (done rest found : List Joined) (j x : Joined) → AreSame (flat_map (onward q) found) (ahead q j) → IsIn x (after_it done rest found) → IsIn x (before_it done rest j)
  after_back done rest found j x s h = from (IsIn-append_cases x (done ++ found) (flat_map (ahead q) rest ++ flat_map (ahead q) (filter (goes_on q) found)) h)
    where
      back : IsIn x (ahead q j ++ flat_map (ahead q) rest) → IsIn x (before_it done rest j)
      back g = IsIn-append_right x done (ahead q j ++ flat_map (ahead q) rest) g

      met_there : IsIn x (found ++ flat_map (ahead q) found) → IsIn x (before_it done rest j)
      met_there g = back (IsIn-append_left x (ahead q j) (flat_map (ahead q) rest) (s.there x ((same_onward q found).back x g)))

      early : IsIn x done ⊎ IsIn x found → IsIn x (before_it done rest j)
      early (inl g) = IsIn-append_left x done (ahead q j ++ flat_map (ahead q) rest) g
      early (inr g) = met_there (IsIn-append_left x found (flat_map (ahead q) found) g)

      later : IsIn x (flat_map (ahead q) rest) ⊎ IsIn x (flat_map (ahead q) (filter (goes_on q) found)) → IsIn x (before_it done rest j)
      later (inl g) = back (IsIn-append_right x (ahead q j) (flat_map (ahead q) rest) g)
      later (inr g) = met_there (IsIn-append_right x found (flat_map (ahead q) found) (subst (IsIn x) (ahead-going q found) g))

      from : IsIn x (done ++ found) ⊎ IsIn x (flat_map (ahead q) rest ++ flat_map (ahead q) (filter (goes_on q) found)) → IsIn x (before_it done rest j)
      from (inl g) = early (IsIn-append_cases x done found g)
      from (inr g) = later (IsIn-append_cases x (flat_map (ahead q) rest) (flat_map (ahead q) (filter (goes_on q) found)) g)

  no_longer : (done rest found : List Joined) (j : Joined) → length (flat_map (onward q) found) ≡ length (ahead q j) → length (after_it done rest found) ≤ length (before_it done rest j)
  no_longer done rest found j many =
      let a = length-append done (ahead q j ++ flat_map (ahead q) rest) in
      let b = length-append (ahead q j) (flat_map (ahead q) rest) in
      let c = length-append (done ++ found) (flat_map (ahead q) rest ++ flat_map (ahead q) (filter (goes_on q) found)) in
      let d = length-append done found in
      let e = length-append (flat_map (ahead q) rest) (flat_map (ahead q) (filter (goes_on q) found)) in
      let f : length (flat_map (ahead q) (filter (goes_on q) found)) ≡ length (flat_map (ahead q) found) = ap length (ahead-going q found) in
      let g = length-onward q found in
      omega arith

  -- the first open one is gone on from: what is found is done, and those of it that are gone on with are open
  pub goes_on_under_way : (done rest found : List Joined) (j : Joined) → IsUnderWay q done (j ∷ rest) → Stands q j → goes_on q j ≡ true → AreFound q j found → IsUnderWay q (done ++ found) (rest ++ filter (goes_on q) found)
  goes_on_under_way done rest found j w s goes f =
      let whole : (done ++ found) ++ flat_map (ahead q) (rest ++ filter (goes_on q) found) ≡ after_it done rest found =
      ap (λ (xs : List Joined). (done ++ found) ++ xs) (flat_map-append (ahead q) rest (filter (goes_on q) found)) in
      let same = same_ahead j found s goes f in record {
        apart = subst IsApart (sym whole)
            (apart_of_many (before_it done rest j) (after_it done rest found) w.apart (λ x h. after_there done rest found j x same h)
            (no_longer done rest found j (length-ahead j found s goes f)));
        same = subst (λ (xs : List Joined). AreSame xs (met q)) (sym whole) (record {
          there = λ x h. w.same.there x (after_back done rest found j x same h);
          back = λ x h. after_there done rest found j x same (w.same.back x h);
        });
      }

  -- then fewer are ahead of the open ones, each counted with what is behind it
  pub fewer_ahead : (rest found : List Joined) (j : Joined) → Stands q j → goes_on q j ≡ true → AreFound q j found → length (flat_map (onward q) (rest ++ filter (goes_on q) found)) < length (flat_map (onward q) (j ∷ rest))
  fewer_ahead rest found j s goes f =
      let a = length-append (ahead q j) (flat_map (onward q) rest) in
      let b = ap length (flat_map-append (onward q) rest (filter (goes_on q) found)) in
      let c = length-append (flat_map (onward q) rest) (flat_map (onward q) (filter (goes_on q) found)) in
      let d = onward-going q found in
      let e = length-ahead j found s goes f in
      omega arith
