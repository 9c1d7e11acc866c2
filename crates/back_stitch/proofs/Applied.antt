-- What a rule that applies tells: what it was met by, and where it ends.
use Rattle.std.proofs.Common.{◌≡◌, ◌≤◌, refl, sym, ap, ◌∙◌, ℕ, zero, suc, ◌+◌, ◌-◌, max, List, [], ◌∷◌, ◌++◌, map, drop, length, Bool, true, false, Option, Some, None, if◌then◌else◌, arith, length-append}
use Rattle.std.specs.Prelude.{slice_get, IsTrue}
use Rattle.std.specs.Option.{option_map, option_and_then, option_map_or}
use Rattle.std.specs.List.{AllByRecursion}
use Rattle.std.proofs.lemmas.Bool.{false≢true}
use Rattle.std.proofs.lemmas.Option.{none-some, same_Some, option_and_then_some}
use Rattle.std.proofs.lemmas.List.{length-map, length-drop}
use Rattle.graph_nodes.specs.declared.node.Node.{Node}
use Rattle.graph_nodes.specs.declared.node.NodeKind.{NodeKind}
use Rattle.graph_nodes.specs.declared.node.NodeKind.TheVariants.{Scope, Push, PushScoped, Pop, PopScoped, Drops}
use Rattle.graph_nodes.specs.Graph.{Graph, is_exported, is_definition, is_exported_kind, is_definition_kind}
use Rattle.graph_nodes.specs.Whole.{is_definition_of}
use Rattle.stacks_vars.specs.declared.scopes.NodeAt.{NodeAt}
use Rattle.stacks_vars.specs.declared.items.SymbolItem.{SymbolItem}
use Rattle.stacks_vars.specs.declared.stacks.Stacks.{Stacks}
use Rattle.stacks_vars.specs.declared.patterns.Tail.{Tail}
use Rattle.stacks_vars.specs.declared.patterns.Tail.TheVariants.{Nil, Front, Item}
use Rattle.stacks_vars.specs.Enter.{stacks_of}
use Rattle.partial_path.specs.declared.config.Spot.TheVariants as spot
use Rattle.partial_path.specs.declared.config.Config.{Config}
use Rattle.partial_path.specs.declared.rule.End.{End}
use Rattle.partial_path.specs.declared.rule.End.TheVariants as end
use Rattle.partial_path.specs.Spots.{at_node}
use Rattle.partial_path.specs.Step.{enter_jump}
use Rattle.partial_path.specs.Same.{spot_eq}
use Rattle.partial_path.specs.Rules.{Rule, IsRule, start_spot}
use Rattle.partial_path.specs.Apply.{Rests, match_stacks, tail_scopes, fill_item, fill, rewrite, end_at, apply, height}
use Rattle.partial_path.proofs.Followed.{if_some}
use Rattle.partial_path.proofs.Equals.{spot_eq-Decides, spot_eq-refl}
use Rattle.back_stitch.specs.Cuts.{is_exported_of, IsExportedScope, HoldExported}
use Rattle.back_stitch.specs.Lists.{at_start}
use Rattle.back_stitch.specs.Sources.{is_exported_spot, may_end, may_end_at}
use Rattle.back_stitch.specs.Joined.{is_certain, all_exported}
use Rattle.back_stitch.proofs.Matched.{mapped, stacks_exported, met_many, least, least_item, least_met}

-- the symbols that are left as they are
abbrev pub left_of : Rule → Config → List SymbolItem
left_of rule c = drop (length rule.pre.symbols) c.stacks.symbols

-- the rule applies: it stands at its start, what it asks for is met, and it ends there
pub record IsApplied (rule : Rule) (c next : Config) : Type 0 where
  pub stands : spot_eq (start_spot rule.start) c.spot ≡ true
  pub rests : Rests
  pub met : match_stacks rule.pre c.stacks ≡ Some rests
  pub ended : end_at rule.end (fill rests rule.post (left_of rule c)) ≡ Some next

pub applied_by : (rule : Rule) (c next : Config) → apply rule c ≡ Some next → IsApplied rule c next
applied_by rule c next h =
    let at = if_some (spot_eq (start_spot rule.start) c.spot) (option_and_then (end_at rule.end) (rewrite rule.pre rule.post c.stacks)) next h in
    option_and_then_some (end_at rule.end) (rewrite rule.pre rule.post c.stacks) next at.1
    (λ made rewritten ended.
    let (rests, met, whole) = mapped (λ (rests : Rests). fill rests rule.post (left_of rule c)) (match_stacks rule.pre c.stacks) made rewritten in record {
      stands = at.0;
      rests = rests;
      met = met;
      ended = ap (end_at rule.end) whole ∙ ended;
    })

-- ending leaves the symbols
jump_symbols : (symbols : List SymbolItem) (scopes : List NodeAt) (next : Config) → enter_jump symbols scopes ≡ Some next → next.stacks.symbols ≡ symbols
jump_symbols symbols [] next h = absurd (none-some next h)
jump_symbols symbols (s ∷ scopes) next h = ap (λ (c : Config). c.stacks.symbols) (sym (same_Some (at_node s (stacks_of symbols scopes)) next h))

end_symbols : (e : End) (s : Stacks) (next : Config) → end_at e s ≡ Some next → next.stacks.symbols ≡ s.symbols
end_symbols (end.At at) s next h = ap (λ (c : Config). c.stacks.symbols) (sym (same_Some (record { spot = at; stacks = s }) next h))
end_symbols end.ByStack s next h = jump_symbols s.symbols s.scopes next h

-- what stands on the stack in the end: what the rule makes, and what is left
pub end_made : (rule : Rule) (c next : Config) (a : IsApplied rule c next) → next.stacks.symbols ≡ map (fill_item a.rests) rule.post.symbols ++ left_of rule c
end_made rule c next a = end_symbols rule.end (fill a.rests rule.post (left_of rule c)) next a.ended

-- the end isn't higher than the rule
pub end_low : (rule : Rule) (c next : Config) → IsRule rule → apply rule c ≡ Some next → length next.stacks.symbols ≤ height rule c
end_low rule c next is h =
    let a = applied_by rule c next h in
    let made : length next.stacks.symbols ≡ length (map (fill_item a.rests) rule.post.symbols) + length (left_of rule c)
    = ap length (end_made rule c next a) ∙ length-append (map (fill_item a.rests) rule.post.symbols) (left_of rule c) in
    let one : length (map (fill_item a.rests) rule.post.symbols) ≡ length rule.post.symbols = length-map rule.post.symbols (fill_item a.rests) in
    let two : length (left_of rule c) ≡ length c.stacks.symbols - length rule.pre.symbols = length-drop (length rule.pre.symbols) c.stacks.symbols in
    let many : length rule.pre.symbols ≤ length c.stacks.symbols = met_many rule.pre c.stacks a.rests a.met in
    let reach : max (length rule.pre.symbols) (length rule.post.symbols) ≤ rule.peak = is.peak in
    omega (arith, made, one, two, many, reach)

-- where it ends, no symbols are left exactly where it makes none and none stood below those that it asks for

nil_both : {X : Type 0} (xs ys : List X) → xs ++ ys ≡ [] → (xs ≡ []) × (ys ≡ [])
nil_both [] ys h = (refl, h)
nil_both (x ∷ xs) ys h = cc

map_nil : {X Y : Type 0} (f : X → Y) (xs : List X) → map f xs ≡ [] → xs ≡ []
map_nil f [] h = refl
map_nil f (x ∷ xs) h = cc

pub none_made : (rule : Rule) (c next : Config) → apply rule c ≡ Some next → next.stacks.symbols ≡ [] → (rule.post.symbols ≡ []) × (height rule c ≡ rule.peak)
none_made rule c next h none =
    let a = applied_by rule c next h in
    let both = nil_both (map (fill_item a.rests) rule.post.symbols) (left_of rule c) (sym (end_made rule c next a) ∙ none) in
    let two : length (left_of rule c) ≡ length c.stacks.symbols - length rule.pre.symbols = length-drop (length rule.pre.symbols) c.stacks.symbols in
    let zero_left : length (left_of rule c) ≡ 0 = ap length both.1 in
    let many : length rule.pre.symbols ≤ length c.stacks.symbols = met_many rule.pre c.stacks a.rests a.met in
    (map_nil (fill_item a.rests) rule.post.symbols both.0, omega (arith, two, zero_left, many))

-- a rule is at least as high as its peak
pub peak_low : (rule : Rule) (c next : Config) → apply rule c ≡ Some next → rule.peak ≤ height rule c
peak_low rule c next h =
    let a = applied_by rule c next h in
    let many : length rule.pre.symbols ≤ length c.stacks.symbols = met_many rule.pre c.stacks a.rests a.met in
    omega (arith, many)

-- where a rule may end on stacks that hold exported scopes alone

place_exported : (files : List Graph) (items : List (List NodeAt)) (i : ℕ) → AllByRecursion (AllByRecursion (IsExportedScope files)) items
    → AllByRecursion (IsExportedScope files) (option_map_or (λ (scopes : List NodeAt). scopes) (slice_get items i) [])
place_exported files [] i h = tt
place_exported files (x ∷ items) zero h = h.0
place_exported files (x ∷ items) (suc i) h = place_exported files items i h.1

tail_exported : (files : List Graph) (rests : Rests) (tail : Tail) → AllByRecursion (IsExportedScope files) rests.front → AllByRecursion (AllByRecursion (IsExportedScope files)) rests.items
    → AllByRecursion (IsExportedScope files) (tail_scopes rests tail)
tail_exported files rests Nil front items = tt
tail_exported files rests Front front items = front
tail_exported files rests (Item i) front items = place_exported files rests.items i items

jump_first : (files : List Graph) (symbols : List SymbolItem) (scopes : List NodeAt) (next : Config) → enter_jump symbols scopes ≡ Some next → AllByRecursion (IsExportedScope files) scopes
    → is_exported_spot files next.spot ≡ true
jump_first files symbols [] next h all = absurd (none-some next h)
jump_first files symbols (s ∷ scopes) next h all =
    ap (λ (c : Config). is_exported_spot files c.spot) (sym (same_Some (at_node s (stacks_of symbols scopes)) next h)) ∙ all.0

end_there : (files : List Graph) (e : End) (made rest : List NodeAt) (symbols : List SymbolItem) (next : Config) → AllByRecursion (IsExportedScope files) rest
    → end_at e (stacks_of symbols (made ++ rest)) ≡ Some next → may_end files next.spot e made ≡ true
end_there files (end.At at) made rest symbols next all h =
    (spot_eq-Decides at next.spot).1 (ap (λ (c : Config). c.spot) (same_Some (record { spot = at; stacks = stacks_of symbols (made ++ rest) }) next h))
end_there files end.ByStack (s ∷ made) rest symbols next all h =
    (spot_eq-Decides (spot.At s) next.spot).1 (ap (λ (c : Config). c.spot) (same_Some (at_node s (stacks_of symbols (made ++ rest))) next h))
end_there files end.ByStack [] rest symbols next all h = jump_first files symbols rest next h all

pub ends_there : (files : List Graph) (rule : Rule) (c next : Config) → HoldExported files c.stacks → apply rule c ≡ Some next → may_end_at files next.spot rule ≡ true
ends_there files rule c next all h =
    let a = applied_by rule c next h in
    let met = stacks_exported files rule.pre c.stacks a.rests a.met all in
    end_there files rule.end rule.post.scopes.scopes (tail_scopes a.rests rule.post.scopes.tail) (map (fill_item a.rests) rule.post.symbols ++ left_of rule c) next
    (tail_exported files a.rests rule.post.scopes.tail met.front met.items) a.ended

-- what is asked for is exported too
pub asks_there : (files : List Graph) (rule : Rule) (c next : Config) → HoldExported files c.stacks → apply rule c ≡ Some next → all_exported files rule.pre ≡ true
asks_there files rule c next all h =
    let a = applied_by rule c next h in (stacks_exported files rule.pre c.stacks a.rests a.met all).asked

-- a definition is no exported scope

no_kind : (kind : NodeKind) → is_exported_kind kind ≡ true → is_definition_kind kind ≡ true → ⊥
no_kind (Scope exported) h k = false≢true k
no_kind (Push symbol reference) h k = false≢true h
no_kind (PushScoped symbol scope reference) h k = false≢true h
no_kind (Pop symbol definition) h k = false≢true h
no_kind (PopScoped symbol definition) h k = false≢true h
no_kind Drops h k = false≢true h

no_node : (o : Option Node) → option_map_or (λ (node : Node). is_exported_kind node.kind) o false ≡ true → option_map_or (λ (node : Node). is_definition_kind node.kind) o false ≡ true → ⊥
no_node None h k = false≢true h
no_node (Some node) h k = no_kind node.kind h k

no_file : (o : Option Graph) (n : ℕ) → option_map_or (λ (g : Graph). is_exported g.nodes n) o false ≡ true → option_map_or (λ (g : Graph). is_definition g.nodes n) o false ≡ true → ⊥
no_file None n h k = false≢true h
no_file (Some g) n h k = no_node (slice_get g.nodes n) h k

no_scope : (files : List Graph) (d : NodeAt) → IsTrue (is_definition_of files d.file d.node) → is_exported_of files d.file d.node ≡ true → ⊥
no_scope files d at h = no_file (slice_get files d.file) d.node h at

-- so a rule that may end at a definition ends there wherever it applies
pub certain_there : (files : List Graph) (d : NodeAt) (e : End) (made : List NodeAt) → IsTrue (is_definition_of files d.file d.node) → may_end files (spot.At d) e made ≡ true
    → is_certain e made ≡ true
certain_there files d (end.At at) made is h = refl
certain_there files d end.ByStack (s ∷ made) is h = refl
certain_there files d end.ByStack [] is h = absurd (no_scope files d is h)

certain_spot : (files : List Graph) (d : NodeAt) (e : End) (made rest : List NodeAt) (symbols : List SymbolItem) (next : Config) → IsTrue (is_definition_of files d.file d.node)
    → may_end files (spot.At d) e made ≡ true → end_at e (stacks_of symbols (made ++ rest)) ≡ Some next → next.spot ≡ spot.At d
certain_spot files d (end.At at) made rest symbols next is may h =
    ap (λ (c : Config). c.spot) (sym (same_Some (record { spot = at; stacks = stacks_of symbols (made ++ rest) }) next h)) ∙ (spot_eq-Decides at (spot.At d)).0 may
certain_spot files d end.ByStack (s ∷ made) rest symbols next is may h =
    ap (λ (c : Config). c.spot) (sym (same_Some (at_node s (stacks_of symbols (made ++ rest))) next h)) ∙ (spot_eq-Decides (spot.At s) (spot.At d)).0 may
certain_spot files d end.ByStack [] rest symbols next is may h = absurd (no_scope files d is may)

pub lands_there : (files : List Graph) (d : NodeAt) (rule : Rule) (c next : Config) → IsTrue (is_definition_of files d.file d.node) → may_end_at files (spot.At d) rule ≡ true
    → apply rule c ≡ Some next → next.spot ≡ spot.At d
lands_there files d rule c next is may h =
    let a = applied_by rule c next h in
    certain_spot files d rule.end rule.post.scopes.scopes (tail_scopes a.rests rule.post.scopes.tail) (map (fill_item a.rests) rule.post.symbols ++ left_of rule c) next is may a.ended

-- the least stacks on which a rule applies that makes no symbols and ends for certain

drop_mapped : {X Y : Type 0} (f : X → Y) (xs : List X) → drop (length xs) (map f xs) ≡ []
drop_mapped f [] = refl
drop_mapped f (x ∷ xs) = drop_mapped f xs

certain_end : (e : End) (made rest : List NodeAt) (symbols : List SymbolItem) → is_certain e made ≡ true
    → (next : Config) × (end_at e (stacks_of symbols (made ++ rest)) ≡ Some next) × (next.stacks.symbols ≡ symbols)
certain_end (end.At at) made rest symbols h = (record { spot = at; stacks = stacks_of symbols (made ++ rest) }, refl, refl)
certain_end end.ByStack [] rest symbols h = absurd (false≢true h)
certain_end end.ByStack (s ∷ made) rest symbols h = (at_node s (stacks_of symbols (made ++ rest)), refl, refl)

pub least_applies : (rule : Rule) → rule.post.symbols ≡ [] → is_certain rule.end rule.post.scopes.scopes ≡ true
    → (next : Config) × (apply rule (at_start rule.start (least rule.pre)) ≡ Some next) × (next.stacks.symbols ≡ [])
least_applies rule none certain =
    let c = at_start rule.start (least rule.pre) in
    let (rests, met) = least_met rule.pre in
    let symbols : List SymbolItem = map (fill_item rests) rule.post.symbols ++ left_of rule c in
    let empty : symbols ≡ [] = (λ i. map (fill_item rests) (none i) ++ drop_mapped least_item rule.pre.symbols i) in
    let (next, ended, is) = certain_end rule.end rule.post.scopes.scopes (tail_scopes rests rule.post.scopes.tail) symbols certain in (
      next,
      ap (λ (b : Bool). if b then option_and_then (end_at rule.end) (rewrite rule.pre rule.post (least rule.pre)) else None) (spot_eq-refl (start_spot rule.start))
          ∙ ap (λ (o : Option Rests). option_and_then (end_at rule.end) (option_map (λ (r : Rests). fill r rule.post (left_of rule c)) o)) met
          ∙ ended,
      is ∙ empty,
    )
