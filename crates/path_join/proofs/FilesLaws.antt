-- A join, and the path of one edge, name only files that their parts name.
use Rattle.std.proofs.Common.{◌≡◌, subst, ℕ, zero, suc, List, [], ◌∷◌, ◌++◌, length, map, drop, Bool, true, false, Option, Some, None, if◌then◌else◌, slice_get, option_and_then, option_map}
use Rattle.std.specs.Prelude.{All, ⊤}
use Rattle.std.specs.Option.{IfSome, option_map_or}
use Rattle.std.specs.Str.{bytes_eq}
use Rattle.std.proofs.lemmas.List.Elements.{All-nil, All-cons, All-head, All-tail, All-append, All-drop, All-map, All-set, All-replicate, All-weaker}
use Rattle.graph_nodes.specs.declared.node.Node.{Node}
use Rattle.graph_nodes.specs.declared.node.NodeKind.{NodeKind}
use Rattle.graph_nodes.specs.declared.node.NodeKind.TheVariants as kind
use Rattle.graph_nodes.specs.declared.node.Place.{Place}
use Rattle.graph_nodes.specs.declared.node.Place.TheVariants as place
use Rattle.graph_nodes.specs.Graph.{Graph}
use Rattle.stacks_vars.specs.declared.scopes.NodeAt.{NodeAt}
use Rattle.stacks_vars.specs.declared.action.Action.{Action}
use Rattle.stacks_vars.specs.declared.action.Action.TheVariants.{Pass, Push, PushScoped, Pop, PopScoped, Drops}
use Rattle.stacks_vars.specs.declared.patterns.ScopePat.{ScopePat}
use Rattle.stacks_vars.specs.declared.patterns.SymPat.{SymPat}
use Rattle.stacks_vars.specs.declared.patterns.Tail.{Tail}
use Rattle.stacks_vars.specs.declared.patterns.Tail.TheVariants.{Nil, Front, Item}
use Rattle.stacks_vars.specs.declared.patterns.ScopeOut.{ScopeOut}
use Rattle.stacks_vars.specs.declared.patterns.SymOut.{SymOut}
use Rattle.stacks_vars.specs.Same.{node_eq}
use Rattle.partial_path.specs.declared.config.Spot.{Spot}
use Rattle.partial_path.specs.declared.config.Spot.TheVariants as spot
use Rattle.partial_path.specs.declared.config.EdgeAt.{EdgeAt}
use Rattle.partial_path.specs.declared.rule.Start.{Start}
use Rattle.partial_path.specs.declared.rule.Start.TheVariants.{Before, After}
use Rattle.partial_path.specs.declared.rule.End.{End}
use Rattle.partial_path.specs.declared.rule.End.TheVariants.{At, ByStack}
use Rattle.partial_path.specs.Same.{spot_eq}
use Rattle.partial_path.specs.Step.{action_of}
use Rattle.partial_path.specs.Rules.{Rule, start_spot}
use Rattle.partial_path.specs.Apply.{Rests, tail_scopes, fill_scopes}
use Rattle.partial_path.specs.FileNumbers.{NodeIn, EdgeIn, SpotIn, StartIn, EndIn, AskedIn, MadeIn, RuleIn}
use Rattle.path_join.specs.Joining.{asked_symbols, handed_scopes, handed_symbol, handed, wide_pre, wide_post, past, grow, meet_scopes, meet_attached, meet_symbol, meet_symbols, asked_scopes, nothing_known, known_with, grown_scopes, grown_symbol, longer_scopes, longer_symbol, longer_symbols, rest_past, no_scopes, Bound, bound_item, bound_items, bound_by, bound_tail, put_scopes, put_symbol, joined_by}
use Rattle.path_join.specs.Units.{asked_by, made_by, place_spot, place_end, place_action, place_rule}

-- what is there of an option that was tested, and of one that goes on from another
if_in : {X : Type 0} (P : X → Type 0) (b : Bool) (o : Option X) → IfSome o P → IfSome (if b then o else None) P
if_in P true o h = h
if_in P false o h = tt

then_in : {X Y : Type 0} (P : X → Type 0) (Q : Y → Type 0) (o : Option X) (f : X → Option Y) → IfSome o P
    → ((x : X) → P x → IfSome (f x) Q) → IfSome (option_and_then f o) Q
then_in P Q None f h next = tt
then_in P Q (Some x) f h next = next x h

-- what there is of an option, or else what stands for nothing; and what is there of one that is mapped
or_in : {X : Type 0} (P : X → Type 0) (nothing : X) → P nothing → (o : Option X) → IfSome o P → P (option_map_or (λ (x : X). x) o nothing)
or_in P nothing h None k = h
or_in P nothing h (Some x) k = k

mapped_in : {X Y : Type 0} (P : X → Type 0) (Q : Y → Type 0) (f : X → Y) → ((x : X) → P x → Q (f x)) → (o : Option X) → IfSome o P → IfSome (option_map f o) Q
mapped_in P Q f each None h = tt
mapped_in P Q f each (Some x) h = each x h

place_in_list : {X : Type 0} (P : X → Type 0) (xs : List X) (i : ℕ) → All P xs → IfSome (slice_get xs i) P
place_in_list P [] i h = tt
place_in_list P (x ∷ xs) zero h = All-head P x xs h
place_in_list P (x ∷ xs) (suc i) h = place_in_list P xs i (All-tail P x xs h)

module _ (F : ℕ → Type 0) where
  -- scopes of files that meet the condition, those asked for and those made
  abbrev Scopes : List NodeAt → Type 0
  Scopes = All (NodeIn F)

  abbrev PatIn : ScopePat → Type 0
  PatIn pat = Scopes pat.fixed

  abbrev OutIn : ScopeOut → Type 0
  OutIn out = Scopes out.scopes

  -- symbols that are made, each from one
  made_all : (f : SymOut → SymOut) → ((out : SymOut) → MadeIn F out → MadeIn F (f out)) → (outs : List SymOut) → All (MadeIn F) outs → All (MadeIn F) (map f outs)
  made_all f each outs o = All-map (MadeIn F) f outs (All-weaker (MadeIn F) (λ (out : SymOut). MadeIn F (f out)) each outs o)

  -- what is known of the variables
  record KnownIn (known : Rests) : Type 0 where
    front : Scopes known.front
    items : All Scopes known.items

  tail_in : (known : Rests) → KnownIn known → (tail : Tail) → Scopes (tail_scopes known tail)
  tail_in known h Nil = All-nil (NodeIn F)
  tail_in known h Front = h.front
  tail_in known h (Item i) = or_in Scopes [] (All-nil (NodeIn F)) (slice_get known.items i) (place_in_list Scopes known.items i h.items)

  past_in : (fixed there : List NodeAt) → Scopes fixed → IfSome (past fixed there) Scopes
  past_in [] there h = All-nil (NodeIn F)
  past_in (f ∷ fixed) [] h = h
  past_in (f ∷ fixed) (s ∷ there) h =
      if_in Scopes (node_eq f s) (past fixed there) (past_in fixed there (All-tail (NodeIn F) f fixed h))

  grow_in : (tail : Tail) (more : List NodeAt) → Scopes more → (known : Rests) → KnownIn known → IfSome (grow tail more known) KnownIn
  grow_in Nil [] m known h = h
  grow_in Nil (s ∷ more) m known h = tt
  grow_in Front more m known h = record { front = All-append (NodeIn F) known.front more h.front m; items = h.items }
  grow_in (Item i) more m known h = record {
    front = h.front;
    items = All-set Scopes known.items i (tail_scopes known (Item i) ++ more)
        (All-append (NodeIn F) (tail_scopes known (Item i)) more (tail_in known h (Item i)) m) h.items;
  }

  meet_scopes_in : (known : Rests) → KnownIn known → (fixed : List NodeAt) → Scopes fixed → (out : ScopeOut)
      → IfSome (meet_scopes known fixed out) KnownIn
  meet_scopes_in known h fixed f out =
      then_in Scopes KnownIn (past fixed (fill_scopes known out)) (λ (more : List NodeAt). grow out.tail more known)
      (past_in fixed (fill_scopes known out) f) (λ more m. grow_in out.tail more m known h)

  meet_attached_in : (known : Rests) → KnownIn known → (pat : Option ScopePat) → IfSome pat (λ (s : ScopePat). Scopes s.fixed)
      → (out : Option ScopeOut) → IfSome (meet_attached known pat out) KnownIn
  meet_attached_in known h None a None = h
  meet_attached_in known h None a (Some out) = tt
  meet_attached_in known h (Some pat) a None = tt
  meet_attached_in known h (Some pat) a (Some out) = meet_scopes_in known h pat.fixed a out

  meet_symbol_in : (known : Rests) → KnownIn known → (pat : SymPat) → AskedIn F pat → (out : SymOut)
      → IfSome (meet_symbol known pat out) KnownIn
  meet_symbol_in known h pat a out =
      if_in KnownIn (bytes_eq pat.symbol out.symbol) (meet_attached known pat.scopes out.scopes)
      (meet_attached_in known h pat.scopes a out.scopes)

  meet_symbols_in : (pats : List SymPat) → All (AskedIn F) pats → (outs : List SymOut) (known : Rests) → KnownIn known
      → IfSome (meet_symbols known pats outs) KnownIn
  meet_symbols_in [] a outs known h = h
  meet_symbols_in (pat ∷ pats) a [] known h = tt
  meet_symbols_in (pat ∷ pats) a (out ∷ outs) known h =
      then_in KnownIn KnownIn (meet_symbol known pat out) (λ (grown : Rests). meet_symbols grown pats outs)
      (meet_symbol_in known h pat (All-head (AskedIn F) pat pats a) out)
      (λ grown g. meet_symbols_in pats (All-tail (AskedIn F) pat pats a) outs grown g)

  nothing_in : (n : ℕ) → KnownIn (nothing_known n)
  nothing_in n = record { front = All-nil (NodeIn F); items = All-replicate Scopes n [] (All-nil (NodeIn F)) }

  known_in : (p q : Rule) (asked : List NodeAt) → All (AskedIn F) q.pre.symbols → Scopes asked → IfSome (known_with p q asked) KnownIn
  known_in p q asked pats a =
      then_in KnownIn KnownIn (meet_symbols (nothing_known (length (wide_pre p q))) q.pre.symbols (wide_post p q))
      (λ (known : Rests). meet_scopes known asked p.post.scopes)
      (meet_symbols_in q.pre.symbols pats (wide_post p q) (nothing_known (length (wide_pre p q))) (nothing_in (length (wide_pre p q))))
      (λ known h. meet_scopes_in known h asked a p.post.scopes)

  start_in : (start : Start) → StartIn F start → SpotIn F (start_spot start)
  start_in (Before node) h = h
  start_in (After spot) h = h

  asked_in : (end : End) (start : Spot) (fixed : List NodeAt) → SpotIn F start → Scopes fixed → IfSome (asked_scopes end start fixed) Scopes
  asked_in (At spot) start fixed s f = if_in Scopes (spot_eq spot start) (Some fixed) f
  asked_in ByStack spot.Root fixed s f = tt
  asked_in ByStack (spot.At node) fixed s f = All-cons (NodeIn F) node fixed s f

  -- what is handed on, and what is written with what is known
  handed_in : (i : ℕ) (pats : List SymPat) → All (AskedIn F) pats → All (MadeIn F) (handed i pats)
  handed_in i [] h = All-nil (MadeIn F)
  handed_in i (pat ∷ pats) h =
      All-cons (MadeIn F) (handed_symbol i pat) (handed (suc i) pats) (mapped_in PatIn OutIn (handed_scopes i) (λ s k. k) pat.scopes (All-head (AskedIn F) pat pats h))
      (handed_in (suc i) pats (All-tail (AskedIn F) pat pats h))

  grown_in : (known : Rests) → KnownIn known → (out : ScopeOut) → Scopes out.scopes → Scopes (fill_scopes known out)
  grown_in known h out o = All-append (NodeIn F) out.scopes (tail_scopes known out.tail) o (tail_in known h out.tail)

  grown_all : (known : Rests) → KnownIn known → (outs : List SymOut) → All (MadeIn F) outs → All (MadeIn F) (map (grown_symbol known) outs)
  grown_all known h outs o =
      made_all (grown_symbol known) (λ (out : SymOut). mapped_in OutIn OutIn (grown_scopes known) (grown_in known h) out.scopes) outs o

  longer_in : (pats : List SymPat) → All (AskedIn F) pats → (lists : List (List NodeAt)) → All Scopes lists
      → All (AskedIn F) (longer_symbols pats lists)
  longer_in [] h lists l = All-nil (AskedIn F)
  longer_in (pat ∷ pats) h [] l = All-nil (AskedIn F)
  longer_in (pat ∷ pats) h (more ∷ lists) l =
      All-cons (AskedIn F) (longer_symbol pat more) (longer_symbols pats lists)
      (mapped_in PatIn PatIn (longer_scopes more) (λ s k. All-append (NodeIn F) s.fixed more k (All-head Scopes more lists l)) pat.scopes (All-head (AskedIn F) pat pats h))
      (longer_in pats (All-tail (AskedIn F) pat pats h) lists (All-tail Scopes more lists l))

  -- what the second path's variables stand for
  record BoundIn (bound : Bound) : Type 0 where
    front : OutIn bound.front
    items : All OutIn bound.items

  rest_in : (n : ℕ) (known : Rests) → KnownIn known → (out : ScopeOut) → OutIn out → OutIn (rest_past n (grown_scopes known out))
  rest_in n known h out o = All-drop (NodeIn F) n (fill_scopes known out) (grown_in known h out o)

  bound_one : (known : Rests) → KnownIn known → (pat : Option ScopePat) (out : Option ScopeOut) → IfSome out OutIn
      → OutIn (option_map_or (λ (s : ScopePat). option_map_or (λ (o : ScopeOut). rest_past (length s.fixed) (grown_scopes known o)) out no_scopes) pat no_scopes)
  bound_one known h None out o = All-nil (NodeIn F)
  bound_one known h (Some pat) None o = All-nil (NodeIn F)
  bound_one known h (Some pat) (Some out) o = rest_in (length pat.fixed) known h out o

  bound_all : (known : Rests) → KnownIn known → (pats : List SymPat) (outs : List SymOut) → All (MadeIn F) outs → All OutIn (bound_items known pats outs)
  bound_all known h [] outs o = All-nil OutIn
  bound_all known h (pat ∷ pats) [] o = All-nil OutIn
  bound_all known h (pat ∷ pats) (out ∷ outs) o =
      All-cons OutIn (bound_item known pat out) (bound_items known pats outs)
      (bound_one known h pat.scopes out.scopes (All-head (MadeIn F) out outs o))
      (bound_all known h pats outs (All-tail (MadeIn F) out outs o))

  bound_tail_in : (bound : Bound) → BoundIn bound → (tail : Tail) → OutIn (bound_tail bound tail)
  bound_tail_in bound h Nil = All-nil (NodeIn F)
  bound_tail_in bound h Front = h.front
  bound_tail_in bound h (Item i) = or_in OutIn no_scopes (All-nil (NodeIn F)) (slice_get bound.items i) (place_in_list OutIn bound.items i h.items)

  put_in : (bound : Bound) → BoundIn bound → (out : ScopeOut) → OutIn out → OutIn (put_scopes bound out)
  put_in bound h out o = All-append (NodeIn F) out.scopes (bound_tail bound out.tail).scopes o (bound_tail_in bound h out.tail)

  put_all : (bound : Bound) → BoundIn bound → (outs : List SymOut) → All (MadeIn F) outs → All (MadeIn F) (map (put_symbol bound) outs)
  put_all bound h outs o =
      made_all (put_symbol bound) (λ (out : SymOut). mapped_in OutIn OutIn (put_scopes bound) (put_in bound h) out.scopes) outs o

  wide_pre_in : (p q : Rule) → RuleIn F p → RuleIn F q → All (AskedIn F) (wide_pre p q)
  wide_pre_in p q h k =
      All-append (AskedIn F) p.pre.symbols (asked_symbols p q) h.asked (All-drop (AskedIn F) (length p.post.symbols) q.pre.symbols k.asked)

  wide_post_in : (p q : Rule) → RuleIn F p → RuleIn F q → All (MadeIn F) (wide_post p q)
  wide_post_in p q h k =
      All-append (MadeIn F) p.post.symbols (handed (length p.pre.symbols) (asked_symbols p q)) h.made
      (handed_in (length p.pre.symbols) (asked_symbols p q) (All-drop (AskedIn F) (length p.post.symbols) q.pre.symbols k.asked))

  bound_in : (p q : Rule) → RuleIn F p → RuleIn F q → (asked : List NodeAt) (known : Rests) → KnownIn known → BoundIn (bound_by p q asked known)
  bound_in p q h k asked known in_known = record {
    front = rest_in (length asked) known in_known p.post.scopes h.made_scopes;
    items = bound_all known in_known q.pre.symbols (wide_post p q) (wide_post_in p q h k);
  }

  parts_in : (p q : Rule) → RuleIn F p → RuleIn F q → (asked : List NodeAt) (known : Rests) → KnownIn known
      → RuleIn F (joined_by p q known (bound_by p q asked known))
  parts_in p q h k asked known in_known =
      let bound : Bound = bound_by p q asked known in
      let in_bound : BoundIn bound = bound_in p q h k asked known in_known in
      record {
        start = h.start;
        end = k.end;
        asked = longer_in (wide_pre p q) (wide_pre_in p q h k) known.items in_known.items;
        asked_scopes = All-append (NodeIn F) p.pre.scopes.fixed known.front h.asked_scopes in_known.front;
        made = All-append (MadeIn F) (map (put_symbol bound) q.post.symbols) (map (grown_symbol known) (drop (length q.pre.symbols) (wide_post p q)))
            (put_all bound in_bound q.post.symbols k.made)
            (grown_all known in_known (drop (length q.pre.symbols) (wide_post p q)) (All-drop (MadeIn F) (length q.pre.symbols) (wide_post p q) (wide_post_in p q h k)));
        made_scopes = put_in bound in_bound q.post.scopes k.made_scopes;
        edges = All-append (EdgeIn F) p.edges q.edges h.edges k.edges;
      }

  known_of : (p q : Rule) (asked : List NodeAt) (known : Rests) → RuleIn F p → RuleIn F q
      → asked_scopes p.end (start_spot q.start) q.pre.scopes.fixed ≡ Some asked → known_with p q asked ≡ Some known → KnownIn known
  known_of p q asked known h k asks knows =
      let a : Scopes asked = subst (λ (o : Option (List NodeAt)). IfSome o Scopes) asks
      (asked_in p.end (start_spot q.start) q.pre.scopes.fixed (start_in q.start k.start) k.asked_scopes) in
      subst (λ (o : Option Rests). IfSome o KnownIn) knows (known_in p q asked k.asked a)

  -- a join names only files that meet a condition which those of both paths meet
  pub made_in : (p q : Rule) (asked : List NodeAt) (known : Rests) → RuleIn F p → RuleIn F q
      → asked_scopes p.end (start_spot q.start) q.pre.scopes.fixed ≡ Some asked → known_with p q asked ≡ Some known
      → RuleIn F (joined_by p q known (bound_by p q asked known))
  made_in p q asked known h k asks knows = parts_in p q h k asked known (known_of p q asked known h k asks knows)

  -- what an action asks for and makes
  abbrev ActionIn : Action → Type 0
  ActionIn Pass = ⊤
  ActionIn (Push symbol) = ⊤
  ActionIn (PushScoped symbol scope) = NodeIn F scope
  ActionIn (Pop symbol) = ⊤
  ActionIn (PopScoped symbol) = ⊤
  ActionIn Drops = ⊤

  asked_by_in : (action : Action) → All (AskedIn F) (asked_by action).symbols
  asked_by_in Pass = All-nil (AskedIn F)
  asked_by_in (Push symbol) = All-nil (AskedIn F)
  asked_by_in (PushScoped symbol scope) = All-nil (AskedIn F)
  asked_by_in (Pop symbol) = All-cons (AskedIn F) _ [] tt (All-nil (AskedIn F))
  asked_by_in (PopScoped symbol) = All-cons (AskedIn F) _ [] (All-nil (NodeIn F)) (All-nil (AskedIn F))
  asked_by_in Drops = All-nil (AskedIn F)

  asked_scopes_by_in : (action : Action) → Scopes (asked_by action).scopes.fixed
  asked_scopes_by_in Pass = All-nil (NodeIn F)
  asked_scopes_by_in (Push symbol) = All-nil (NodeIn F)
  asked_scopes_by_in (PushScoped symbol scope) = All-nil (NodeIn F)
  asked_scopes_by_in (Pop symbol) = All-nil (NodeIn F)
  asked_scopes_by_in (PopScoped symbol) = All-nil (NodeIn F)
  asked_scopes_by_in Drops = All-nil (NodeIn F)

  made_by_in : (action : Action) → ActionIn action → All (MadeIn F) (made_by action).symbols
  made_by_in Pass h = All-nil (MadeIn F)
  made_by_in (Push symbol) h = All-cons (MadeIn F) _ [] tt (All-nil (MadeIn F))
  made_by_in (PushScoped symbol scope) h =
      All-cons (MadeIn F) _ [] (All-cons (NodeIn F) scope [] h (All-nil (NodeIn F))) (All-nil (MadeIn F))
  made_by_in (Pop symbol) h = All-nil (MadeIn F)
  made_by_in (PopScoped symbol) h = All-nil (MadeIn F)
  made_by_in Drops h = All-nil (MadeIn F)

  made_scopes_by_in : (action : Action) → Scopes (made_by action).scopes.scopes
  made_scopes_by_in Pass = All-nil (NodeIn F)
  made_scopes_by_in (Push symbol) = All-nil (NodeIn F)
  made_scopes_by_in (PushScoped symbol scope) = All-nil (NodeIn F)
  made_scopes_by_in (Pop symbol) = All-nil (NodeIn F)
  made_scopes_by_in (PopScoped symbol) = All-nil (NodeIn F)
  made_scopes_by_in Drops = All-nil (NodeIn F)

  kind_in : F 0 → (k : NodeKind) → ActionIn (action_of 0 k)
  kind_in z (kind.Scope exported) = tt
  kind_in z (kind.Push symbol reference) = tt
  kind_in z (kind.PushScoped symbol scope reference) = z
  kind_in z (kind.Pop symbol definition) = tt
  kind_in z (kind.PopScoped symbol definition) = tt
  kind_in z kind.Drops = tt

  node_in : F 0 → (o : Option Node) → ActionIn (option_map_or (λ (node : Node). action_of 0 node.kind) o Pass)
  node_in z None = tt
  node_in z (Some node) = kind_in z node.kind

  action_in : F 0 → (g : Graph) (sink : Place) → ActionIn (place_action g sink)
  action_in z g place.Root = tt
  action_in z g place.Jump = tt
  action_in z g (place.At n) = node_in z (slice_get g.nodes n)

  end_in : F 0 → (sink : Place) → EndIn F (place_end sink)
  end_in z place.Root = tt
  end_in z place.Jump = tt
  end_in z (place.At n) = z

  -- the path that enters a place of a file alone names that file alone, where its start and its edges do
  pub place_in : F 0 → (g : Graph) (start : Start) (sink : Place) (edges : List EdgeAt) → StartIn F start → All (EdgeIn F) edges
      → RuleIn F (place_rule g start sink edges)
  place_in z g start sink edges s e = record {
    start = s;
    end = end_in z sink;
    asked = asked_by_in (place_action g sink);
    asked_scopes = asked_scopes_by_in (place_action g sink);
    made = made_by_in (place_action g sink) (action_in z g sink);
    made_scopes = made_scopes_by_in (place_action g sink);
    edges = e;
  }

  pub source_in : F 0 → (source : Place) (here : Spot) → place_spot source ≡ Some here → SpotIn F here
  source_in z place.Root here e = let f : spot.Root ≡ here = cc in subst (SpotIn F) f tt
  source_in z place.Jump here e = cc
  source_in z (place.At n) here e = let f : spot.At (record { file = 0; node = n }) ≡ here = cc in subst (SpotIn F) f z
