-- How two partial paths are joined. No public clause cites this: what a join is is said by what it does.
use Rattle.std.specs.Prelude.{ℕ, suc, List, [], ◌∷◌, ◌++◌, length, map, drop, replicate, set, Bool, true, false, Option, Some, None, if◌then◌else◌, slice_get}
use Rattle.std.specs.Option.{option_map, option_and_then, option_map_or}
use Rattle.std.specs.Str.{bytes_eq}
use Rattle.stacks_vars.specs.declared.scopes.NodeAt.{NodeAt}
use Rattle.stacks_vars.specs.declared.patterns.ScopePat.{ScopePat}
use Rattle.stacks_vars.specs.declared.patterns.SymPat.{SymPat}
use Rattle.stacks_vars.specs.declared.patterns.Pre.{Pre}
use Rattle.stacks_vars.specs.declared.patterns.Tail.{Tail}
use Rattle.stacks_vars.specs.declared.patterns.Tail.TheVariants.{Nil, Front, Item}
use Rattle.stacks_vars.specs.declared.patterns.ScopeOut.{ScopeOut}
use Rattle.stacks_vars.specs.declared.patterns.SymOut.{SymOut}
use Rattle.stacks_vars.specs.declared.patterns.Post.{Post}
use Rattle.stacks_vars.specs.Same.{node_eq}
use Rattle.partial_path.specs.declared.config.Spot.{Spot}
use Rattle.partial_path.specs.declared.config.Spot.TheVariants as spot
use Rattle.partial_path.specs.declared.rule.End.{End}
use Rattle.partial_path.specs.declared.rule.End.TheVariants.{At, ByStack}
use Rattle.partial_path.specs.Same.{spot_eq}
use Rattle.partial_path.specs.Rules.{Rule, start_spot}
use Rattle.partial_path.specs.Apply.{Rests, rests_of, tail_scopes, fill_scopes}
use Rattle.path_join.specs.Joins.{joined_peak}

-- Where the second path asks for more symbols than the first makes, the first asks for them and hands them on.

-- the symbols that the first path doesn't make
abbrev pub asked_symbols : Rule → Rule → List SymPat
asked_symbols p q = drop (length p.post.symbols) q.pre.symbols

-- a symbol handed on as it is asked for, its scopes the fixed ones and then the variable of this place
abbrev pub handed_scopes : ℕ → ScopePat → ScopeOut
handed_scopes i pat = record { scopes = pat.fixed; tail = Item i }

-- the symbol, plain or with those scopes
abbrev pub handed_symbol : ℕ → SymPat → SymOut
handed_symbol i pat = record { symbol = pat.symbol; scopes = option_map (handed_scopes i) pat.scopes }

-- the symbols handed on, the first of them at this place
abbrev pub handed : ℕ → List SymPat → List SymOut
handed i [] = []
handed i (pat ∷ pats) = handed_symbol i pat ∷ handed (suc i) pats

-- all symbols that the first path then asks for, and all that it makes
abbrev pub wide_pre : Rule → Rule → List SymPat
wide_pre p q = p.pre.symbols ++ asked_symbols p q

abbrev pub wide_post : Rule → Rule → List SymOut
wide_post p q = p.post.symbols ++ handed (length p.pre.symbols) (asked_symbols p q)

-- What the second path asks for tells with which scopes the variables of the first begin: they are known so far.

-- what is asked for past the scopes that are there; None where these differ from it
abbrev pub past : List NodeAt → List NodeAt → Option (List NodeAt)
past [] there = Some []
past (f ∷ fixed) [] = Some (f ∷ fixed)
past (f ∷ fixed) (s ∷ there) = if node_eq f s then past fixed there else None

-- more scopes with which the variable goes on; with no variable there can be none
abbrev pub grow : Tail → List NodeAt → Rests → Option Rests
grow Nil [] known = Some known
grow Nil (s ∷ more) known = None
grow Front more known = Some (rests_of (known.front ++ more) known.items)
grow (Item i) more known = Some (rests_of known.front (set known.items i (tail_scopes known (Item i) ++ more)))

-- the scopes asked for are met by those that an output makes
abbrev pub meet_scopes : Rests → List NodeAt → ScopeOut → Option Rests
meet_scopes known fixed out =
    option_and_then (λ (more : List NodeAt). grow out.tail more known) (past fixed (fill_scopes known out))

-- a plain symbol meets a plain one, attached scopes meet attached ones
abbrev pub meet_attached : Rests → Option ScopePat → Option ScopeOut → Option Rests
meet_attached known None None = Some known
meet_attached known None (Some out) = None
meet_attached known (Some pat) None = None
meet_attached known (Some pat) (Some out) = meet_scopes known pat.fixed out

-- a symbol meets one of the same text, where so do their attached scopes
abbrev pub meet_symbol : Rests → SymPat → SymOut → Option Rests
meet_symbol known pat out = if bytes_eq pat.symbol out.symbol then meet_attached known pat.scopes out.scopes else None

-- the symbols asked for are met one by one
abbrev pub meet_symbols : Rests → List SymPat → List SymOut → Option Rests
meet_symbols known [] outs = Some known
meet_symbols known (pat ∷ pats) [] = None
meet_symbols known (pat ∷ pats) (out ∷ outs) =
    option_and_then (λ (grown : Rests). meet_symbols grown pats outs) (meet_symbol known pat out)

-- the scopes asked for of the scope stack that the first path leaves, where it ends at this spot: those of
-- the second path, and before them the spot itself where the first ends by the stack
abbrev pub asked_scopes : End → Spot → List NodeAt → Option (List NodeAt)
asked_scopes (At end) start fixed = if spot_eq end start then Some fixed else None
asked_scopes ByStack spot.Root fixed = None
asked_scopes ByStack (spot.At node) fixed = Some (node ∷ fixed)

-- nothing is known of the variables of so many symbols
abbrev pub nothing_known : ℕ → Rests
nothing_known n = rests_of [] (replicate n [])

-- what is known once all is met that the second path asks for, its scopes being these
abbrev pub known_with : Rule → Rule → List NodeAt → Option Rests
known_with p q asked =
    option_and_then (λ (known : Rests). meet_scopes known asked p.post.scopes)
    (meet_symbols (nothing_known (length (wide_pre p q))) q.pre.symbols (wide_post p q))

-- What is known goes into the first path, and what the second path's variables stand for into the second.

-- an output with what is known of its variable
abbrev pub grown_scopes : Rests → ScopeOut → ScopeOut
grown_scopes known out = record { scopes = fill_scopes known out; tail = out.tail }

-- a made symbol, with what is known of the variable behind its attached scopes
abbrev pub grown_symbol : Rests → SymOut → SymOut
grown_symbol known out = record { symbol = out.symbol; scopes = option_map (grown_scopes known) out.scopes }

-- a pattern that asks for more scopes
abbrev pub longer_scopes : List NodeAt → ScopePat → ScopePat
longer_scopes more pat = record { fixed = pat.fixed ++ more }

-- a symbol that is asked for with more attached scopes
abbrev pub longer_symbol : SymPat → List NodeAt → SymPat
longer_symbol pat more = record { symbol = pat.symbol; scopes = option_map (longer_scopes more) pat.scopes }

-- each symbol with the scopes at its place among the lists, as far as both go
abbrev pub longer_symbols : List SymPat → List (List NodeAt) → List SymPat
longer_symbols [] lists = []
longer_symbols (pat ∷ pats) [] = []
longer_symbols (pat ∷ pats) (more ∷ lists) = longer_symbol pat more ∷ longer_symbols pats lists

-- what an output still has past so many scopes
abbrev pub rest_past : ℕ → ScopeOut → ScopeOut
rest_past n out = record { scopes = drop n out.scopes; tail = out.tail }

-- no scopes at all
abbrev pub no_scopes : ScopeOut
no_scopes = record { scopes = []; tail = Nil }

-- what the second path's variables stand for, in those of the first
pub record Bound : Type 0 where
  pub front : ScopeOut
  pub items : List ScopeOut

-- what the variable of one symbol stands for
abbrev pub bound_item : Rests → SymPat → SymOut → ScopeOut
bound_item known pat out =
    option_map_or (λ (s : ScopePat). option_map_or (λ (o : ScopeOut). rest_past (length s.fixed) (grown_scopes known o)) out.scopes no_scopes) pat.scopes no_scopes

-- the same of each symbol that is asked for and made
abbrev pub bound_items : Rests → List SymPat → List SymOut → List ScopeOut
bound_items known [] outs = []
bound_items known (pat ∷ pats) [] = []
bound_items known (pat ∷ pats) (out ∷ outs) = bound_item known pat out ∷ bound_items known pats outs

-- what all of them stand for: what the first path's scope stack and symbols still have past what is asked for
abbrev pub bound_by : Rule → Rule → List NodeAt → Rests → Bound
bound_by p q asked known =
    record { front = rest_past (length asked) (grown_scopes known p.post.scopes); items = bound_items known q.pre.symbols (wide_post p q) }

-- what a variable of the second path stands for
abbrev pub bound_tail : Bound → Tail → ScopeOut
bound_tail bound Nil = no_scopes
bound_tail bound Front = bound.front
bound_tail bound (Item i) = option_map_or (λ (out : ScopeOut). out) (slice_get bound.items i) no_scopes

-- an output of the second path, in the variables of the first
abbrev pub put_scopes : Bound → ScopeOut → ScopeOut
put_scopes bound out =
    record { scopes = out.scopes ++ (bound_tail bound out.tail).scopes; tail = (bound_tail bound out.tail).tail }

-- a made symbol of the second path, in the variables of the first
abbrev pub put_symbol : Bound → SymOut → SymOut
put_symbol bound out = record { symbol = out.symbol; scopes = option_map (put_scopes bound) out.scopes }

-- the joined precondition and postcondition
abbrev pub joined_pre : Rule → Rule → Rests → Pre
joined_pre p q known =
    record { symbols = longer_symbols (wide_pre p q) known.items; scopes = longer_scopes known.front p.pre.scopes }

abbrev pub joined_post : Rule → Rule → Rests → Bound → Post
joined_post p q known bound =
    record { symbols = map (put_symbol bound) q.post.symbols ++ map (grown_symbol known) (drop (length q.pre.symbols) (wide_post p q)); scopes = put_scopes bound q.post.scopes }

-- the joined path: from the first one's start to the second one's end, with the edges of both
abbrev pub joined_by : Rule → Rule → Rests → Bound → Rule
joined_by p q known bound =
    record { start = p.start; end = q.end; pre = joined_pre p q known; post = joined_post p q known bound; peak = joined_peak p q; edges = p.edges ++ q.edges }

-- whether a path with this scope stack can end so: by the stack only where there can be a scope
abbrev pub can_have : List NodeAt → Tail → Bool
can_have (s ∷ scopes) tail = true
can_have [] Nil = false
can_have [] Front = true
can_have [] (Item i) = true

-- whether a path that leaves these scopes can have that end: at a spot any can
abbrev pub can_end : End → ScopeOut → Bool
can_end (At spot) out = true
can_end ByStack out = can_have out.scopes out.tail

-- the joined path, where it can end
abbrev pub if_ends : Rule → Option Rule
if_ends j = if can_end j.end j.post.scopes then Some j else None

-- the join of two paths; None where no configuration passes both
abbrev pub join_rules : Rule → Rule → Option Rule
join_rules p q =
    option_and_then (λ (asked : List NodeAt).
    option_and_then (λ (known : Rests). if_ends (joined_by p q known (bound_by p q asked known))) (known_with p q asked))
    (asked_scopes p.end (start_spot q.start) q.pre.scopes.fixed)
