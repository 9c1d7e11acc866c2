-- A path made longer where it stands is the join with the edge's unit: such a unit asks for no scope of which
-- something could become known.
use Rattle.std.proofs.Common.{◌≡◌, ◌≤◌, refl, ap, ◌∙◌, sym, subst, ℕ, zero, suc, ◌+◌, ◌-◌, List, [], ◌∷◌, ◌++◌, length, max, map, drop, replicate, Bool, true, false, Option, Some, None, slice_get, cond, arith, IsTrue}
use Rattle.std.specs.Option.{option_and_then, option_map_or, option_map, IfSome}
use Rattle.std.specs.Str.{bytes_eq}
use Rattle.std.proofs.lemmas.List.{append-nil, length-append}
use Rattle.graph_nodes.specs.declared.node.Edge.{Edge}
use Rattle.graph_nodes.specs.Graph.{Graph, has_place}
use Rattle.stacks_vars.specs.declared.scopes.NodeAt.{NodeAt}
use Rattle.stacks_vars.specs.declared.action.Action.{Action}
use Rattle.stacks_vars.specs.declared.action.Action.TheVariants.{Pass, Push, PushScoped, Pop, PopScoped, Drops}
use Rattle.stacks_vars.specs.declared.patterns.ScopePat.{ScopePat}
use Rattle.stacks_vars.specs.declared.patterns.SymPat.{SymPat}
use Rattle.stacks_vars.specs.declared.patterns.Pre.{Pre}
use Rattle.stacks_vars.specs.declared.patterns.Tail.{Tail}
use Rattle.stacks_vars.specs.declared.patterns.Tail.TheVariants.{Nil, Front, Item}
use Rattle.stacks_vars.specs.declared.patterns.ScopeOut.{ScopeOut}
use Rattle.stacks_vars.specs.declared.patterns.SymOut.{SymOut}
use Rattle.stacks_vars.specs.declared.patterns.Post.{Post}
use Rattle.partial_path.specs.declared.config.Spot.{Spot}
use Rattle.partial_path.specs.declared.config.EdgeAt.{EdgeAt}
use Rattle.partial_path.specs.declared.path.PathParts.{PathParts}
use Rattle.partial_path.specs.declared.rule.Start.{Start}
use Rattle.partial_path.specs.declared.rule.Start.TheVariants.{After}
use Rattle.partial_path.specs.declared.rule.End.{End}
use Rattle.partial_path.specs.declared.rule.End.TheVariants.{At}
use Rattle.partial_path.specs.Rules.{Rule, IsRule, rule_of}
use Rattle.partial_path.specs.Apply.{Rests, tail_scopes}
use Rattle.partial_path.specs.FileNumbers.{IsOfFileZero}
use Rattle.partial_path.specs.PathSets.{IsRuleOf}
use Rattle.partial_path.proofs.Equals.{spot_eq-refl}
use Rattle.path_join.specs.Joins.{IsJoin, NonePasses, joined_peak}
use Rattle.path_join.specs.Joining.{grow, meet_scopes, meet_attached, asked_scopes, nothing_known, known_with, grown_scopes, grown_symbol, longer_scopes, longer_symbols, handed, wide_pre, wide_post, Bound, bound_items, bound_by, put_scopes, put_symbol, joined_by, if_ends, join_rules}
use Rattle.path_join.specs.Units.{IsUnit, after_source, edge_alone, place_spot, place_end, place_action, place_rule, entry_rule, asks, makes, pat_of, out_of, any_scopes, scopes_out}
use Rattle.path_join.specs.Extended.{IsExtended, rule_apart, rule_if}
use Rattle.path_join.specs.Extending.{post_of, with_front, asks_more, taken_plain, taken_attached, longer_by, extended_by}
use Rattle.path_join.proofs.FitsLaws.{same_cons}
use Rattle.path_join.proofs.CodeMet.{grow-nothing, met-handed}
use Rattle.path_join.proofs.CodeUnits.{entry-ruled, peak-low}
use Rattle.path_join.proofs.CodeExact.{unit-exact}
use Rattle.path_join.proofs.Joined.{joined, joined_is_rule, never}

-- Where nothing is known all stays as it is.

item-nothing : (n i : ℕ) → option_map_or (λ (scopes : List NodeAt). scopes) (slice_get (replicate n []) i) [] ≡ []
item-nothing zero i = refl
item-nothing (suc n) zero = refl
item-nothing (suc n) (suc i) = item-nothing n i

tail-nothing : (n : ℕ) (tail : Tail) → tail_scopes (nothing_known n) tail ≡ []
tail-nothing n Nil = refl
tail-nothing n Front = refl
tail-nothing n (Item i) = item-nothing n i

grown_scopes-nothing : (n : ℕ) (out : ScopeOut) → grown_scopes (nothing_known n) out ≡ out
grown_scopes-nothing n out =
    ap (λ (more : List NodeAt). scopes_out (out.scopes ++ more) out.tail) (tail-nothing n out.tail)
    ∙ ap (λ (scopes : List NodeAt). scopes_out scopes out.tail) (append-nil out.scopes)

grown_attached-nothing : (n : ℕ) (out : Option ScopeOut) → option_map (grown_scopes (nothing_known n)) out ≡ out
grown_attached-nothing n None = refl
grown_attached-nothing n (Some out) = ap Some (grown_scopes-nothing n out)

grown_symbols-nothing : (n : ℕ) (outs : List SymOut) → map (grown_symbol (nothing_known n)) outs ≡ outs
grown_symbols-nothing n [] = refl
grown_symbols-nothing n (out ∷ outs) =
    same_cons _ _ _ _ (ap (out_of out.symbol) (grown_attached-nothing n out.scopes)) (grown_symbols-nothing n outs)

abbrev pub fixed_of : List NodeAt → ScopePat
fixed_of scopes = record { fixed = scopes }

longer_scopes-nothing : (pat : ScopePat) → longer_scopes [] pat ≡ pat
longer_scopes-nothing pat = ap fixed_of (append-nil pat.fixed)

longer_attached-nothing : (pat : Option ScopePat) → option_map (longer_scopes []) pat ≡ pat
longer_attached-nothing None = refl
longer_attached-nothing (Some pat) = ap Some (longer_scopes-nothing pat)

longer_symbols-nothing : (pats : List SymPat) → longer_symbols pats (replicate (length pats) []) ≡ pats
longer_symbols-nothing [] = refl
longer_symbols-nothing (pat ∷ pats) =
    same_cons _ _ _ _ (ap (pat_of pat.symbol) (longer_attached-nothing pat.scopes)) (longer_symbols-nothing pats)

grow_nothing-nothing : (n : ℕ) (tail : Tail) → grow tail [] (nothing_known n) ≡ Some (nothing_known n)
grow_nothing-nothing n Nil = refl
grow_nothing-nothing n Front = refl
grow_nothing-nothing n (Item i) = grow-nothing (nothing_known n) i

pub met-nothing : (n : ℕ) (out : ScopeOut) → meet_scopes (nothing_known n) [] out ≡ Some (nothing_known n)
met-nothing n out = grow_nothing-nothing n out.tail

drop-nil : {X : Type 0} (n : ℕ) → drop {A = X} n [] ≡ []
drop-nil zero = refl
drop-nil (suc n) = refl

-- The join of two paths of which nothing becomes known.

abbrev pre_of : List SymPat → ScopePat → Pre
pre_of symbols scopes = record { symbols = symbols; scopes = scopes }

abbrev bound_of : ScopeOut → List ScopeOut → Bound
bound_of front items = record { front = front; items = items }

abbrev pub nothing_of : Rule → Rule → Rests
nothing_of p q = nothing_known (length (wide_pre p q))

abbrev pub bound_plain : Rule → Rule → Bound
bound_plain p q = bound_of p.post.scopes (bound_items (nothing_of p q) q.pre.symbols (wide_post p q))

abbrev post_with : Rule → Rule → Bound → List SymOut → Post
post_with p q bound left = post_of (map (put_symbol bound) q.post.symbols ++ left) (put_scopes bound q.post.scopes)

abbrev pub joined_plain : Rule → Rule → Rule
joined_plain p q =
    rule_of p.start q.end (pre_of (wide_pre p q) p.pre.scopes) (post_with p q (bound_plain p q) (drop (length q.pre.symbols) (wide_post p q))) (joined_peak p q) (p.edges ++ q.edges)

pub joined-plain : (p q : Rule) → joined_by p q (nothing_of p q) (bound_by p q [] (nothing_of p q)) ≡ joined_plain p q
joined-plain p q =
    let items : List ScopeOut = bound_items (nothing_of p q) q.pre.symbols (wide_post p q) in
    let left : List SymOut = drop (length q.pre.symbols) (wide_post p q) in
    λ i. rule_of p.start q.end (pre_of (longer_symbols-nothing (wide_pre p q) i) (longer_scopes-nothing p.pre.scopes i))
    (post_with p q (bound_of (grown_scopes-nothing (length (wide_pre p q)) p.post.scopes i) items) (grown_symbols-nothing (length (wide_pre p q)) left i))
    (joined_peak p q) (p.edges ++ q.edges)

-- a path of one edge from the spot on
abbrev step_of : Spot → End → List SymPat → Post → ℕ → EdgeAt → Rule
step_of s end pats made peak e = rule_of (After s) end (asks pats) made peak (e ∷ [])

asks-at : (p : Rule) (s : Spot) → p.end ≡ At s → asked_scopes p.end s [] ≡ Some []
asks-at p s h = ap (λ (end : End). asked_scopes end s []) h ∙ ap (λ (b : Bool). cond b (Some []) None) (spot_eq-refl s)

join-at : (p : Rule) (s : Spot) (end : End) (pats : List SymPat) (made : Post) (peak : ℕ) (e : EdgeAt) → p.end ≡ At s
    → join_rules p (step_of s end pats made peak e)
    ≡ option_and_then (λ (known : Rests). if_ends (joined_by p (step_of s end pats made peak e) known (bound_by p (step_of s end pats made peak e) [] known)))
    (known_with p (step_of s end pats made peak e) [])
join-at p s end pats made peak e h =
    let q : Rule = step_of s end pats made peak e in
    ap (option_and_then (λ (asked : List NodeAt).
    option_and_then (λ (known : Rests). if_ends (joined_by p q known (bound_by p q asked known))) (known_with p q asked))) (asks-at p s h)

join-met : (p : Rule) (s : Spot) (end : End) (pats : List SymPat) (made : Post) (peak : ℕ) (e : EdgeAt) → p.end ≡ At s
    → known_with p (step_of s end pats made peak e) [] ≡ Some (nothing_of p (step_of s end pats made peak e))
    → join_rules p (step_of s end pats made peak e) ≡ if_ends (joined_plain p (step_of s end pats made peak e))
join-met p s end pats made peak e h k =
    let q : Rule = step_of s end pats made peak e in
    join-at p s end pats made peak e h
    ∙ ap (option_and_then (λ (known : Rests). if_ends (joined_by p q known (bound_by p q [] known)))) k
    ∙ ap if_ends (joined-plain p q)

join-unmet : (p : Rule) (s : Spot) (end : End) (pats : List SymPat) (made : Post) (peak : ℕ) (e : EdgeAt) → p.end ≡ At s
    → known_with p (step_of s end pats made peak e) [] ≡ None → join_rules p (step_of s end pats made peak e) ≡ None
join-unmet p s end pats made peak e h k =
    let q : Rule = step_of s end pats made peak e in
    join-at p s end pats made peak e h
    ∙ ap (option_and_then (λ (known : Rests). if_ends (joined_by p q known (bound_by p q [] known)))) k

-- what is asked for and made in front of nothing more
wide-asked : (pats : List SymPat) (n : ℕ) → pats ++ drop n [] ≡ pats
wide-asked pats n = ap (λ (more : List SymPat). pats ++ more) (drop-nil n) ∙ append-nil pats

wide-made : (outs : List SymOut) (i n : ℕ) → outs ++ handed i (drop n []) ≡ outs
wide-made outs i n = ap (λ (more : List SymPat). outs ++ handed i more) (drop-nil n) ∙ append-nil outs

-- Nodes that ask for no symbol.

-- the peak where the path asks for no more and makes as many, or one more, or one fewer, or where it asks for one more
peak-same : (peak a b : ℕ) → max (peak + (0 - b)) (0 + (b - 0)) ≡ max (peak + (a - a)) b
peak-same peak a b = omega arith

peak-pushed : (peak a b : ℕ) → max (peak + (0 - b)) (1 + (b - 0)) ≡ max (peak + (a - a)) (suc b)
peak-pushed peak a b = omega arith

peak-popped : (peak a b : ℕ) → suc b ≤ peak → max (peak + (1 - suc b)) (1 + (suc b - 1)) ≡ max (peak + (a - a)) b
peak-popped peak a b h = omega arith

peak-asked : (peak : ℕ) (pats : List SymPat) (pat : SymPat) → max (peak + (1 - 0)) (1 + (0 - 1)) ≡ max (peak + (length (pats ++ pat ∷ []) - length pats)) 0
peak-asked peak pats pat = let e : length (pats ++ pat ∷ []) ≡ length pats + 1 = length-append pats (pat ∷ []) in omega (arith, e)

unasked : (p : Rule) (s : Spot) (end : End) (made : Post) (peak : ℕ) (e : EdgeAt) → p.end ≡ At s
    → join_rules p (step_of s end [] made peak e)
    ≡ if_ends (rule_of p.start end p.pre (post_with p (step_of s end [] made peak e) (bound_of p.post.scopes []) p.post.symbols) (joined_peak p (step_of s end [] made peak e)) (p.edges ++ e ∷ []))
unasked p s end made peak e h =
    let q : Rule = step_of s end [] made peak e in
    join-met p s end [] made peak e h (met-nothing (length (wide_pre p q)) p.post.scopes)
    ∙ (λ i. if_ends (rule_of p.start end (pre_of (wide-asked p.pre.symbols (length p.post.symbols) i) p.pre.scopes)
    (post_with p q (bound_of p.post.scopes []) (wide-made p.post.symbols (length p.pre.symbols) (length p.post.symbols) i)) (joined_peak p q) (p.edges ++ e ∷ [])))

-- with this peak
abbrev peaked : Rule → End → EdgeAt → Post → ℕ → Option Rule
peaked p end e post peak = if_ends (rule_of p.start end p.pre post peak (p.edges ++ e ∷ []))

-- Nodes that pop a symbol where the path makes none.

asked-known : (start : Start) (s : Spot) (end : End) (pre : Pre) (scopes : ScopeOut) (top : ℕ) (edges : List EdgeAt) (pat : SymPat) (made : Post) (e : EdgeAt)
    → known_with (rule_of start (At s) pre (post_of [] scopes) top edges) (step_of s end (pat ∷ []) made 1 e) []
    ≡ Some (nothing_known (length (pre.symbols ++ pat ∷ [])))
asked-known start s end pre scopes top edges pat made e =
    let n = length (pre.symbols ++ pat ∷ []) in
    ap (option_and_then (λ (known : Rests). meet_scopes known [] scopes)) (met-handed (nothing_known n) (length pre.symbols) (pat ∷ []))
    ∙ met-nothing n scopes

-- Nodes that pop a symbol where the path makes some.

-- what is known once the front is met
abbrev known_if : ScopeOut → Option Rests → Bool → Option Rests
known_if scopes met b =
    option_and_then (λ (known : Rests). meet_scopes known [] scopes) (option_and_then (λ (grown : Rests). Some grown) (cond b met None))

abbrev made_front : Start → Spot → Pre → SymOut → List SymOut → ScopeOut → ℕ → List EdgeAt → Rule
made_front start s pre front rest scopes top edges = rule_of start (At s) pre (post_of (front ∷ rest) scopes) top edges

-- the path that is left, by what the scope stack becomes
popped-is : (start : Start) (s : Spot) (end : End) (pre : Pre) (front : SymOut) (rest : List SymOut) (scopes : ScopeOut) (top : ℕ) (edges : List EdgeAt)
    (pat : SymPat) (tail : Tail) (e : EdgeAt) (there : ScopeOut) → suc (length rest) ≤ top
    → put_scopes (bound_plain (made_front start s pre front rest scopes top edges) (step_of s end (pat ∷ []) (makes [] tail) 1 e)) (scopes_out [] tail) ≡ there
    → joined_plain (made_front start s pre front rest scopes top edges) (step_of s end (pat ∷ []) (makes [] tail) 1 e)
    ≡ longer_by (made_front start s pre front rest scopes top edges) end e (pre, post_of rest there)
popped-is start s end pre front rest scopes top edges pat tail e there low is =
    λ i. rule_of start end (pre_of (wide-asked pre.symbols (length rest) i) pre.scopes)
    (post_of (wide-made rest (length pre.symbols) (length rest) i) (is i)) (peak-popped top (length pre.symbols) (length rest) low i) (edges ++ e ∷ [])

pop-front : (start : Start) (s : Spot) (end : End) (pre : Pre) (text : List ℕ) (attached : Option ScopeOut) (rest : List SymOut) (scopes : ScopeOut) (top : ℕ) (edges : List EdgeAt)
    (symbol : List ℕ) (e : EdgeAt) (b : Bool) → suc (length rest) ≤ top → bytes_eq symbol text ≡ b
    → join_rules (made_front start s pre (out_of text attached) rest scopes top edges) (step_of s end (pat_of symbol None ∷ []) (makes [] Front) 1 e)
    ≡ option_and_then (λ (sides : Pre × Post). if_ends (longer_by (made_front start s pre (out_of text attached) rest scopes top edges) end e sides)) (cond b (taken_plain pre rest scopes attached) None)
pop-front start s end pre text attached rest scopes top edges symbol e false low same =
    let p : Rule = made_front start s pre (out_of text attached) rest scopes top edges in
    let q : Rule = step_of s end (pat_of symbol None ∷ []) (makes [] Front) 1 e in
    join-unmet p s end (pat_of symbol None ∷ []) (makes [] Front) 1 e refl (ap (known_if scopes (meet_attached (nothing_of p q) None attached)) same)
pop-front start s end pre text (Some attached) rest scopes top edges symbol e true low same =
    let p : Rule = made_front start s pre (out_of text (Some attached)) rest scopes top edges in
    join-unmet p s end (pat_of symbol None ∷ []) (makes [] Front) 1 e refl (ap (known_if scopes None) same)
pop-front start s end pre text None rest scopes top edges symbol e true low same =
    let p : Rule = made_front start s pre (out_of text None) rest scopes top edges in
    let q : Rule = step_of s end (pat_of symbol None ∷ []) (makes [] Front) 1 e in
    join-met p s end (pat_of symbol None ∷ []) (makes [] Front) 1 e refl
    (ap (known_if scopes (Some (nothing_of p q))) same ∙ met-nothing (length (wide_pre p q)) scopes)
    ∙ ap if_ends (popped-is start s end pre (out_of text None) rest scopes top edges (pat_of symbol None) Front e scopes low refl)

pop : (start : Start) (s : Spot) (end : End) (pre : Pre) (outs : List SymOut) (scopes : ScopeOut) (top : ℕ) (edges : List EdgeAt)
    (symbol : List ℕ) (e : EdgeAt) → length outs ≤ top
    → join_rules (rule_of start (At s) pre (post_of outs scopes) top edges) (entry_rule (After s) end (Pop symbol) (e ∷ []))
    ≡ extended_by (rule_of start (At s) pre (post_of outs scopes) top edges) (Pop symbol) end e
pop start s end pre [] scopes top edges symbol e low =
    let p : Rule = rule_of start (At s) pre (post_of [] scopes) top edges in
    join-met p s end (pat_of symbol None ∷ []) (makes [] Front) 1 e refl (asked-known start s end pre scopes top edges (pat_of symbol None) (makes [] Front) e)
    ∙ ap (λ (peak : ℕ). if_ends (rule_of start end (asks_more pre (pat_of symbol None)) (post_of [] scopes) peak (edges ++ e ∷ [])))
    (peak-asked top pre.symbols (pat_of symbol None))
pop start s end pre (front ∷ rest) scopes top edges symbol e low =
    pop-front start s end pre front.symbol front.scopes rest scopes top edges symbol e (bytes_eq symbol front.symbol) low refl

pop_scoped-front : (start : Start) (s : Spot) (end : End) (pre : Pre) (text : List ℕ) (attached : Option ScopeOut) (rest : List SymOut) (scopes : ScopeOut) (top : ℕ) (edges : List EdgeAt)
    (symbol : List ℕ) (e : EdgeAt) (b : Bool) → suc (length rest) ≤ top → bytes_eq symbol text ≡ b
    → join_rules (made_front start s pre (out_of text attached) rest scopes top edges) (step_of s end (pat_of symbol (Some any_scopes) ∷ []) (makes [] (Item 0)) 1 e)
    ≡ option_and_then (λ (sides : Pre × Post). if_ends (longer_by (made_front start s pre (out_of text attached) rest scopes top edges) end e sides)) (cond b (taken_attached pre rest attached) None)
pop_scoped-front start s end pre text attached rest scopes top edges symbol e false low same =
    let p : Rule = made_front start s pre (out_of text attached) rest scopes top edges in
    let q : Rule = step_of s end (pat_of symbol (Some any_scopes) ∷ []) (makes [] (Item 0)) 1 e in
    join-unmet p s end (pat_of symbol (Some any_scopes) ∷ []) (makes [] (Item 0)) 1 e refl (ap (known_if scopes (meet_attached (nothing_of p q) (Some any_scopes) attached)) same)
pop_scoped-front start s end pre text None rest scopes top edges symbol e true low same =
    let p : Rule = made_front start s pre (out_of text None) rest scopes top edges in
    join-unmet p s end (pat_of symbol (Some any_scopes) ∷ []) (makes [] (Item 0)) 1 e refl (ap (known_if scopes None) same)
pop_scoped-front start s end pre text (Some attached) rest scopes top edges symbol e true low same =
    let p : Rule = made_front start s pre (out_of text (Some attached)) rest scopes top edges in
    let q : Rule = step_of s end (pat_of symbol (Some any_scopes) ∷ []) (makes [] (Item 0)) 1 e in
    let n = length (wide_pre p q) in
    join-met p s end (pat_of symbol (Some any_scopes) ∷ []) (makes [] (Item 0)) 1 e refl
    (ap (known_if scopes (meet_scopes (nothing_known n) [] attached)) same
    ∙ ap (λ (met : Option Rests). known_if scopes met true) (met-nothing n attached) ∙ met-nothing n scopes)
    ∙ ap if_ends (popped-is start s end pre (out_of text (Some attached)) rest scopes top edges (pat_of symbol (Some any_scopes)) (Item 0) e attached low (grown_scopes-nothing n attached))

pop_scoped : (start : Start) (s : Spot) (end : End) (pre : Pre) (outs : List SymOut) (scopes : ScopeOut) (top : ℕ) (edges : List EdgeAt)
    (symbol : List ℕ) (e : EdgeAt) → length outs ≤ top
    → join_rules (rule_of start (At s) pre (post_of outs scopes) top edges) (entry_rule (After s) end (PopScoped symbol) (e ∷ []))
    ≡ extended_by (rule_of start (At s) pre (post_of outs scopes) top edges) (PopScoped symbol) end e
pop_scoped start s end pre [] scopes top edges symbol e low =
    let p : Rule = rule_of start (At s) pre (post_of [] scopes) top edges in
    let pat : SymPat = pat_of symbol (Some any_scopes) in
    join-met p s end (pat ∷ []) (makes [] (Item 0)) 1 e refl (asked-known start s end pre scopes top edges pat (makes [] (Item 0)) e)
    ∙ (λ i. if_ends (rule_of start end (asks_more pre pat)
    (post_of [] (grown_scopes-nothing (length (pre.symbols ++ pat ∷ [])) (scopes_out [] (Item (length pre.symbols))) i))
    (peak-asked top pre.symbols pat i) (edges ++ e ∷ [])))
pop_scoped start s end pre (front ∷ rest) scopes top edges symbol e low =
    pop_scoped-front start s end pre front.symbol front.scopes rest scopes top edges symbol e (bytes_eq symbol front.symbol) low refl

right_le : (a b n : ℕ) → max a b ≤ n → b ≤ n
right_le a b n h = omega arith

makes-low : (p : Rule) → IsRule p → length p.post.symbols ≤ p.peak
makes-low p r = right_le (length p.pre.symbols) (length p.post.symbols) p.peak r.peak

-- The join with the path of one edge that enters a node with this action.
pub extends : (p : Rule) (s : Spot) (end : End) (action : Action) (e : EdgeAt) → IsRule p → p.end ≡ At s
    → join_rules p (entry_rule (After s) end action (e ∷ [])) ≡ extended_by p action end e
extends p s end Pass e r h =
    unasked p s end (makes [] Front) 0 e h
    ∙ ap (peaked p end e p.post) (peak-same p.peak (length p.pre.symbols) (length p.post.symbols))
extends p s end (Push symbol) e r h =
    unasked p s end (makes (out_of symbol None ∷ []) Front) 1 e h
    ∙ ap (peaked p end e (with_front (out_of symbol None) p.post)) (peak-pushed p.peak (length p.pre.symbols) (length p.post.symbols))
extends p s end (PushScoped symbol scope) e r h =
    unasked p s end (makes (out_of symbol (Some (scopes_out (scope ∷ []) Front)) ∷ []) Front) 1 e h
    ∙ ap (peaked p end e (with_front (out_of symbol (Some (scopes_out (scope ∷ p.post.scopes.scopes) p.post.scopes.tail))) p.post))
    (peak-pushed p.peak (length p.pre.symbols) (length p.post.symbols))
extends p s end (Pop symbol) e r h =
    ap (λ (at : End). join_rules (rule_of p.start at p.pre p.post p.peak p.edges) (entry_rule (After s) end (Pop symbol) (e ∷ []))) h
    ∙ pop p.start s end p.pre p.post.symbols p.post.scopes p.peak p.edges symbol e (makes-low p r)
extends p s end (PopScoped symbol) e r h =
    ap (λ (at : End). join_rules (rule_of p.start at p.pre p.post p.peak p.edges) (entry_rule (After s) end (PopScoped symbol) (e ∷ []))) h
    ∙ pop_scoped p.start s end p.pre p.post.symbols p.post.scopes p.peak p.edges symbol e (makes-low p r)
extends p s end Drops e r h =
    unasked p s end (makes [] Nil) 0 e h
    ∙ ap (peaked p end e (post_of p.post.symbols (scopes_out [] Nil))) (peak-same p.peak (length p.pre.symbols) (length p.post.symbols))

extended_is_rule : (p : Rule) (s : Spot) (end : End) (action : Action) (e : EdgeAt) (j : Rule) → IsRule p → p.end ≡ At s
    → extended_by p action end e ≡ Some j → IsRule j
extended_is_rule p s end action e j r h is =
    joined_is_rule p (entry_rule (After s) end action (e ∷ [])) j r (entry-ruled (After s) end action (e ∷ [])) (extends p s end action e r h ∙ is)

-- the same of parts that are made longer where they lie
pub longer_is_rule : (p : Rule) (s : Spot) (end : End) (action : Action) (e : EdgeAt) (longer : Bool) (parts : PathParts) → IsRule p → p.end ≡ At s
    → rule_if longer parts ≡ extended_by p action end e → longer ≡ true → IsRule (rule_apart parts)
longer_is_rule p s end action e longer parts r h is goes =
    extended_is_rule p s end action e (rule_apart parts) r h (sym is ∙ ap (λ (b : Bool). rule_if b parts) goes)

-- The unit of an edge, and the path with the edge more.

unit-is : (g : Graph) (e : ℕ) (edge : Edge) (here : Spot) → slice_get g.edges e ≡ Some edge → place_spot edge.source ≡ Some here
    → IsTrue (has_place (length g.nodes) edge.sink) → IsUnit g e (place_rule g (After here) edge.sink (edge_alone e ∷ []))
unit-is g e edge here is source there = record {
  start = ap (option_and_then (λ (edge : Edge). option_map After (place_spot edge.source))) is ∙ ap (option_map After) source;
  edges = refl;
  low = peak-low (place_action g edge.sink);
  rule = unit-exact g e edge here is source there;
  files = (unit-exact g e edge here is source there).files;
}

found-joins : (p q : Rule) → IsRule p → IsRule q → (found : Option Rule) → found ≡ join_rules p q → IfSome found (IsJoin p q)
found-joins p q h k None e = tt
found-joins p q h k (Some j) e = joined p q j h k (sym e)

pub is_extended : (g : Graph) (p : Rule) (e : ℕ) (edge : Edge) (here : Spot) (found : Option Rule) → IsRule p → slice_get g.edges e ≡ Some edge
    → place_spot edge.source ≡ Some here → IsTrue (has_place (length g.nodes) edge.sink) → p.end ≡ At here
    → found ≡ extended_by p (place_action g edge.sink) (place_end edge.sink) (edge_alone e) → IsExtended g p e found
is_extended g p e edge here found r is source there ends f =
    let q : Rule = place_rule g (After here) edge.sink (edge_alone e ∷ []) in
    let k : IsRule q = entry-ruled (After here) (place_end edge.sink) (place_action g edge.sink) (edge_alone e ∷ []) in
    let j : found ≡ join_rules p q = f ∙ sym (extends p here (place_end edge.sink) (place_action g edge.sink) (edge_alone e) r ends) in
    record { step = q; unit = unit-is g e edge here is source there; joined = found-joins p q r k found j; none = λ none. never p q r k (sym j ∙ none) }

-- The join with a path that is said to be the edge's unit.
pub unit-joined : (g : Graph) (p : Rule) (e : ℕ) (step path : Rule) (found there : Option Rule) → path ≡ p → there ≡ found
    → after_source g e ≡ Some step.start → step.edges ≡ edge_alone e ∷ [] → step.peak ≤ 1 → IsRuleOf g step → IsOfFileZero step
    → IfSome there (IsJoin path step) → (there ≡ None → NonePasses path step) → IsExtended g p e found
unit-joined g p e step path found there same is start edges low rule files joined none =
    subst (λ (q : Rule). IsExtended g q e found) same (subst (IsExtended g path e) is (record {
      step = step;
      unit = record { start = start; edges = edges; low = low; rule = rule; files = files };
      joined = joined;
      none = none;
    }))
