-- A path made longer by one edge where it stands. No public clause cites this: it is the join with the edge's unit.
use Rattle.std.specs.Prelude.{ℕ, ◌+◌, ◌-◌, List, [], ◌∷◌, ◌++◌, length, max, Bool, Option, Some, None, if◌then◌else◌}
use Rattle.std.specs.Option.{option_and_then}
use Rattle.std.specs.Str.{bytes_eq}
use Rattle.stacks_vars.specs.declared.scopes.NodeAt.{NodeAt}
use Rattle.stacks_vars.specs.declared.action.Action.{Action}
use Rattle.stacks_vars.specs.declared.action.Action.TheVariants.{Pass, Push, PushScoped, Pop, PopScoped, Drops}
use Rattle.stacks_vars.specs.declared.patterns.SymPat.{SymPat}
use Rattle.stacks_vars.specs.declared.patterns.Pre.{Pre}
use Rattle.stacks_vars.specs.declared.patterns.Tail.TheVariants.{Nil, Item}
use Rattle.stacks_vars.specs.declared.patterns.ScopeOut.{ScopeOut}
use Rattle.stacks_vars.specs.declared.patterns.SymOut.{SymOut}
use Rattle.stacks_vars.specs.declared.patterns.Post.{Post}
use Rattle.partial_path.specs.declared.config.EdgeAt.{EdgeAt}
use Rattle.partial_path.specs.declared.rule.End.{End}
use Rattle.partial_path.specs.Rules.{Rule, rule_of}
use Rattle.path_join.specs.Joining.{if_ends}
use Rattle.path_join.specs.Units.{pat_of, out_of, any_scopes, scopes_out}

-- a postcondition of these symbols and this scope stack
abbrev pub post_of : List SymOut → ScopeOut → Post
post_of symbols scopes = record { symbols = symbols; scopes = scopes }

-- the same postcondition with this symbol in front
abbrev pub with_front : SymOut → Post → Post
with_front out post = post_of (out ∷ post.symbols) post.scopes

-- the same scopes with this one in front
abbrev pub with_scope : NodeAt → ScopeOut → ScopeOut
with_scope scope out = scopes_out (scope ∷ out.scopes) out.tail

-- the same precondition that asks for one symbol more, behind the others
abbrev pub asks_more : Pre → SymPat → Pre
asks_more pre pat = record { symbols = pre.symbols ++ pat ∷ []; scopes = pre.scopes }

-- a made symbol is popped that has to be plain, these being its attached scopes
abbrev pub taken_plain : Pre → List SymOut → ScopeOut → Option ScopeOut → Option (Pre × Post)
taken_plain pre rest scopes None = Some (pre, post_of rest scopes)
taken_plain pre rest scopes (Some attached) = None

-- a plain symbol is popped: the front of those that the path makes, or one more that it asks for
abbrev pub taken : List ℕ → Pre → List SymOut → ScopeOut → Option (Pre × Post)
taken symbol pre [] scopes = Some (asks_more pre (pat_of symbol None), post_of [] scopes)
taken symbol pre (front ∷ rest) scopes = if bytes_eq symbol front.symbol then taken_plain pre rest scopes front.scopes else None

-- a made symbol is popped that has to have attached scopes, which become the scope stack
abbrev pub taken_attached : Pre → List SymOut → Option ScopeOut → Option (Pre × Post)
taken_attached pre rest None = None
taken_attached pre rest (Some attached) = Some (pre, post_of rest attached)

-- a symbol with attached scopes is popped: the front of those that the path makes, or one more that it asks for
abbrev pub taken_scoped : List ℕ → Pre → List SymOut → Option (Pre × Post)
taken_scoped symbol pre [] =
    Some (asks_more pre (pat_of symbol (Some any_scopes)), post_of [] (scopes_out [] (Item (length pre.symbols))))
taken_scoped symbol pre (front ∷ rest) = if bytes_eq symbol front.symbol then taken_attached pre rest front.scopes else None

-- what a path asks for and makes once it enters a node with this action besides; None where entry is refused
abbrev pub entered : Action → Pre → Post → Option (Pre × Post)
entered Pass pre post = Some (pre, post)
entered (Push symbol) pre post = Some (pre, with_front (out_of symbol None) post)
entered (PushScoped symbol scope) pre post = Some (pre, with_front (out_of symbol (Some (with_scope scope post.scopes))) post)
entered (Pop symbol) pre post = taken symbol pre post.symbols post.scopes
entered (PopScoped symbol) pre post = taken_scoped symbol pre post.symbols
entered Drops pre post = Some (pre, post_of post.symbols (scopes_out [] Nil))

-- the peak of a path that then asks for and makes these, where it asked for so many symbols: higher by those
-- that it asks for besides, and at least as high as those that it makes
abbrev pub longer_peak : ℕ → ℕ → Pre → Post → ℕ
longer_peak peak asked pre post = max (peak + (length pre.symbols - asked)) (length post.symbols)

-- the path with this end and this edge more that asks for and makes these
abbrev pub longer_by : Rule → End → EdgeAt → Pre × Post → Rule
longer_by p end e sides =
    rule_of p.start end sides.0 sides.1 (longer_peak p.peak (length p.pre.symbols) sides.0 sides.1) (p.edges ++ e ∷ [])

-- the path that enters a node with this action besides, by this edge; None where entry is refused, or it can't
-- end so
abbrev pub extended_by : Rule → Action → End → EdgeAt → Option Rule
extended_by p action end e =
    option_and_then (λ (sides : Pre × Post). if_ends (longer_by p end e sides)) (entered action p.pre p.post)

-- what a path asks for and makes, where it does
abbrev pub sides_if : Bool → Pre → Post → Option (Pre × Post)
sides_if there pre post = if there then Some (pre, post) else None

-- the symbols that a path makes, the front of which is told apart, where there is one
abbrev pub front_and_rest : Option SymOut → List SymOut → List SymOut
front_and_rest None rest = rest
front_and_rest (Some front) rest = front ∷ rest
