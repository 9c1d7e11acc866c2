-- What a precondition that is met tells, and the least stacks that meet it.
use Rattle.std.proofs.Common.{◌≡◌, ◌≤◌, refl, ap, ◌∙◌, subst, List, [], ◌∷◌, map, length, Bool, true, false, Option, Some, None, if◌then◌else◌, arith}
use Rattle.std.specs.Option.{option_map, option_and_then, option_map_or}
use Rattle.std.specs.List.{AllByRecursion, list_all}
use Rattle.std.specs.Str.{bytes_eq}
use Rattle.std.proofs.lemmas.Bool.{and_parts, and_from}
use Rattle.std.proofs.lemmas.Option.{none-some, same_Some, option_and_then_some}
use Rattle.std.proofs.lemmas.Slice.Eq.{bytes_eq-Decides}
use Rattle.graph_nodes.specs.Graph.{Graph}
use Rattle.stacks_vars.specs.declared.scopes.NodeAt.{NodeAt}
use Rattle.stacks_vars.specs.declared.items.SymbolItem.{SymbolItem}
use Rattle.stacks_vars.specs.declared.stacks.Stacks.{Stacks}
use Rattle.stacks_vars.specs.declared.patterns.ScopePat.{ScopePat}
use Rattle.stacks_vars.specs.declared.patterns.SymPat.{SymPat}
use Rattle.stacks_vars.specs.declared.patterns.Pre.{Pre}
use Rattle.stacks_vars.specs.Enter.{item_of, stacks_of}
use Rattle.stacks_vars.specs.Same.{node_eq}
use Rattle.stacks_vars.proofs.SameLaws.{node_eq-Decides}
use Rattle.partial_path.specs.Apply.{Rests, rests_of, after_fixed, match_attached, match_item, match_items, match_stacks}
use Rattle.back_stitch.specs.Cuts.{IsExportedScope, AreExportedScopes, AttachesExported, HoldExported}
use Rattle.back_stitch.specs.Joined.{is_exported_node, asks_exported, all_exported}

-- what maps to something is something
pub mapped : {X Y : Type 0} (f : X → Y) (o : Option X) (y : Y) → option_map f o ≡ Some y → (x : X) × (o ≡ Some x) × (f x ≡ y)
mapped f None y h = absurd (none-some y h)
mapped f (Some x) y h = (x, refl, same_Some (f x) y h)

-- the scopes that stand behind the fixed ones, and the fixed ones themselves, are on the stack

module _ (files : List Graph) where
  after_exported : (fixed scopes rest : List NodeAt) → after_fixed fixed scopes ≡ Some rest → AllByRecursion (IsExportedScope files) scopes → AllByRecursion (IsExportedScope files) rest
  after_exported [] scopes rest h all = subst (AllByRecursion (IsExportedScope files)) (same_Some scopes rest h) all
  after_exported (f ∷ fixed) [] rest h all = absurd (none-some rest h)
  after_exported (f ∷ fixed) (s ∷ scopes) rest h all = by (node_eq f s) h (λ k. after_exported fixed scopes rest k all.1)
    where
      by : (b : Bool) → (if b then after_fixed fixed scopes else None) ≡ Some rest → (after_fixed fixed scopes ≡ Some rest → AllByRecursion (IsExportedScope files) rest)
          → AllByRecursion (IsExportedScope files) rest
      by true k on = on k
      by false k on = absurd (none-some rest k)

  fixed_exported : (fixed scopes rest : List NodeAt) → after_fixed fixed scopes ≡ Some rest → AllByRecursion (IsExportedScope files) scopes → list_all (is_exported_node files) fixed ≡ true
  fixed_exported [] scopes rest h all = refl
  fixed_exported (f ∷ fixed) [] rest h all = absurd (none-some rest h)
  fixed_exported (f ∷ fixed) (s ∷ scopes) rest h all = by (node_eq f s) refl h (λ k. fixed_exported fixed scopes rest k all.1)
    where
      by : (b : Bool) → node_eq f s ≡ b → (if b then after_fixed fixed scopes else None) ≡ Some rest
          → (after_fixed fixed scopes ≡ Some rest → list_all (is_exported_node files) fixed ≡ true) → list_all (is_exported_node files) (f ∷ fixed) ≡ true
      by true is k on =
          let same : f ≡ s = (node_eq-Decides f s).0 is in
          and_from (is_exported_node files f) (list_all (is_exported_node files) fixed) (ap (is_exported_node files) same ∙ all.0) (on k)
      by false is k on = absurd (none-some rest k)

  attached_exported : (pat : Option ScopePat) (scopes : Option (List NodeAt)) (rest : List NodeAt) → match_attached pat scopes ≡ Some rest → AreExportedScopes files scopes
      → AllByRecursion (IsExportedScope files) rest × (option_map_or (λ (s : ScopePat). list_all (is_exported_node files) s.fixed) pat true ≡ true)
  attached_exported None None rest h all = (subst (AllByRecursion (IsExportedScope files)) (same_Some [] rest h) tt, refl)
  attached_exported None (Some scopes) rest h all = absurd (none-some rest h)
  attached_exported (Some pat) None rest h all = absurd (none-some rest h)
  attached_exported (Some pat) (Some scopes) rest h all = (after_exported pat.fixed scopes rest h all, fixed_exported pat.fixed scopes rest h all)

  item_exported : (pat : SymPat) (item : SymbolItem) (rest : List NodeAt) → match_item pat item ≡ Some rest → AttachesExported files item
      → AllByRecursion (IsExportedScope files) rest × (asks_exported files pat ≡ true)
  item_exported pat item rest h all = by (bytes_eq pat.symbol item.symbol) h
    where
      by : (b : Bool) → (if b then match_attached pat.scopes item.scopes else None) ≡ Some rest → AllByRecursion (IsExportedScope files) rest × (asks_exported files pat ≡ true)
      by true k = attached_exported pat.scopes item.scopes rest k all
      by false k = absurd (none-some rest k)

  -- of the symbols that are asked for: as many stand there, and their scopes are exported
  pub record AreMet (pats : List SymPat) (items : List SymbolItem) (rests : List (List NodeAt)) : Type 0 where
    pub exported : AllByRecursion (AllByRecursion (IsExportedScope files)) rests
    pub asked : list_all (asks_exported files) pats ≡ true

  items_exported : (pats : List SymPat) (items : List SymbolItem) (rests : List (List NodeAt)) → match_items pats items ≡ Some rests → AllByRecursion (AttachesExported files) items
      → AreMet pats items rests
  items_exported [] items rests h all = record { exported = subst (AllByRecursion (AllByRecursion (IsExportedScope files))) (same_Some [] rests h) tt; asked = refl }
  items_exported (pat ∷ pats) [] rests h all = absurd (none-some rests h)
  items_exported (pat ∷ pats) (item ∷ items) rests h all =
      option_and_then_some (λ (rest : List NodeAt). option_map (λ (more : List (List NodeAt)). rest ∷ more) (match_items pats items)) (match_item pat item) rests h
      (λ rest met others.
      let (more, is, whole) = mapped (λ (more : List (List NodeAt)). rest ∷ more) (match_items pats items) rests others in
      let first = item_exported pat item rest met all.0 in
      let behind = items_exported pats items more is all.1 in record {
        exported = subst (AllByRecursion (AllByRecursion (IsExportedScope files))) whole (first.0, behind.exported);
        asked = and_from (asks_exported files pat) (list_all (asks_exported files) pats) first.1 behind.asked;
      })

  -- what the variables stand for is exported, and so is what is asked for
  pub record IsMet (pre : Pre) (rests : Rests) : Type 0 where
    pub front : AllByRecursion (IsExportedScope files) rests.front
    pub items : AllByRecursion (AllByRecursion (IsExportedScope files)) rests.items
    pub asked : all_exported files pre ≡ true

  pub stacks_exported : (pre : Pre) (s : Stacks) (rests : Rests) → match_stacks pre s ≡ Some rests → HoldExported files s → IsMet pre rests
  stacks_exported pre s rests h all =
      option_and_then_some (λ (front : List NodeAt). option_map (rests_of front) (match_items pre.symbols s.symbols)) (after_fixed pre.scopes.fixed s.scopes) rests h
      (λ front met others.
      let (items, is, whole) = mapped (rests_of front) (match_items pre.symbols s.symbols) rests others in
      let symbols = items_exported pre.symbols s.symbols items is all.0 in
      subst (IsMet pre) whole record {
        front = after_exported pre.scopes.fixed s.scopes front met all.1;
        items = symbols.exported;
        asked = and_from (list_all (asks_exported files) pre.symbols) (list_all (is_exported_node files) pre.scopes.fixed) symbols.asked (fixed_exported pre.scopes.fixed s.scopes front met all.1);
      })

-- as many symbols stand there as are asked for

items_many : (pats : List SymPat) (items : List SymbolItem) (rests : List (List NodeAt)) → match_items pats items ≡ Some rests → length pats ≤ length items
items_many [] items rests h = omega arith
items_many (pat ∷ pats) [] rests h = absurd (none-some rests h)
items_many (pat ∷ pats) (item ∷ items) rests h =
    option_and_then_some (λ (rest : List NodeAt). option_map (λ (more : List (List NodeAt)). rest ∷ more) (match_items pats items)) (match_item pat item) rests h
    (λ rest met others.
    let (more, is, whole) = mapped (λ (more : List (List NodeAt)). rest ∷ more) (match_items pats items) rests others in
    let n : length pats ≤ length items = items_many pats items more is in omega (arith, n))

pub met_many : (pre : Pre) (s : Stacks) (rests : Rests) → match_stacks pre s ≡ Some rests → length pre.symbols ≤ length s.symbols
met_many pre s rests h =
    option_and_then_some (λ (front : List NodeAt). option_map (rests_of front) (match_items pre.symbols s.symbols)) (after_fixed pre.scopes.fixed s.scopes) rests h
    (λ front met others.
    let (items, is, whole) = mapped (rests_of front) (match_items pre.symbols s.symbols) rests others in items_many pre.symbols s.symbols items is)

-- the least stacks that meet a precondition

abbrev pub least_item : SymPat → SymbolItem
least_item pat = item_of pat.symbol (option_map (λ (s : ScopePat). s.fixed) pat.scopes)

abbrev pub least : Pre → Stacks
least pre = stacks_of (map least_item pre.symbols) pre.scopes.fixed

after_itself : (fixed : List NodeAt) → after_fixed fixed fixed ≡ Some []
after_itself [] = refl
after_itself (f ∷ fixed) = ap (λ (b : Bool). if b then after_fixed fixed fixed else None) ((node_eq-Decides f f).1 refl) ∙ after_itself fixed

attached_least : (pat : Option ScopePat) → match_attached pat (option_map (λ (s : ScopePat). s.fixed) pat) ≡ Some []
attached_least None = refl
attached_least (Some pat) = after_itself pat.fixed

item_least : (pat : SymPat) → match_item pat (least_item pat) ≡ Some []
item_least pat = ap (λ (b : Bool). if b then match_attached pat.scopes (option_map (λ (s : ScopePat). s.fixed) pat.scopes) else None) ((bytes_eq-Decides pat.symbol pat.symbol).1 refl) ∙ attached_least pat.scopes

items_least : (pats : List SymPat) → (rests : List (List NodeAt)) × (match_items pats (map least_item pats) ≡ Some rests)
items_least [] = ([], refl)
items_least (pat ∷ pats) =
    let more = items_least pats in (
      [] ∷ more.0,
      ap (option_and_then (λ (rest : List NodeAt). option_map (λ (others : List (List NodeAt)). rest ∷ others) (match_items pats (map least_item pats)))) (item_least pat)
          ∙ ap (option_map (λ (others : List (List NodeAt)). [] ∷ others)) more.1,
    )

pub least_met : (pre : Pre) → (rests : Rests) × (match_stacks pre (least pre) ≡ Some rests)
least_met pre =
    let items = items_least pre.symbols in (
      rests_of [] items.0,
      ap (option_and_then (λ (front : List NodeAt). option_map (rests_of front) (match_items pre.symbols (map least_item pre.symbols)))) (after_itself pre.scopes.fixed)
          ∙ ap (option_map (rests_of [])) items.1,
    )

module _ (files : List Graph) where
  scopes_each : (fixed : List NodeAt) → list_all (is_exported_node files) fixed ≡ true → AllByRecursion (IsExportedScope files) fixed
  scopes_each [] h = tt
  scopes_each (f ∷ fixed) h = let both = and_parts (is_exported_node files f) (list_all (is_exported_node files) fixed) h in (both.0, scopes_each fixed both.1)

  attached_each : (pat : Option ScopePat) → option_map_or (λ (s : ScopePat). list_all (is_exported_node files) s.fixed) pat true ≡ true
      → AreExportedScopes files (option_map (λ (s : ScopePat). s.fixed) pat)
  attached_each None h = tt
  attached_each (Some pat) h = scopes_each pat.fixed h

  items_each : (pats : List SymPat) → list_all (asks_exported files) pats ≡ true → AllByRecursion (AttachesExported files) (map least_item pats)
  items_each [] h = tt
  items_each (pat ∷ pats) h =
      let both = and_parts (asks_exported files pat) (list_all (asks_exported files) pats) h in (attached_each pat.scopes both.0, items_each pats both.1)

  pub least_exported : (pre : Pre) → all_exported files pre ≡ true → HoldExported files (least pre)
  least_exported pre h =
      let both = and_parts (list_all (asks_exported files) pre.symbols) (list_all (is_exported_node files) pre.scopes.fixed) h in
      (items_each pre.symbols both.0, scopes_each pre.scopes.fixed both.1)
