-- What becomes known suits the symbols: of a plain one nothing does.
use Rattle.std.proofs.Common.{◌≡◌, List, [], ◌∷◌, length, Bool, true, false, Option, Some, None, if◌then◌else◌, option_and_then}
use Rattle.std.specs.Str.{bytes_eq}
use Rattle.stacks_vars.specs.declared.scopes.NodeAt.{NodeAt}
use Rattle.stacks_vars.specs.declared.patterns.ScopePat.{ScopePat}
use Rattle.stacks_vars.specs.declared.patterns.SymPat.{SymPat}
use Rattle.stacks_vars.specs.declared.patterns.Tail.{Tail}
use Rattle.stacks_vars.specs.declared.patterns.Tail.TheVariants.{Nil, Front, Item}
use Rattle.stacks_vars.specs.declared.patterns.ScopeOut.{ScopeOut}
use Rattle.stacks_vars.specs.declared.patterns.SymOut.{SymOut}
use Rattle.partial_path.specs.Rules.{Rule}
use Rattle.partial_path.specs.Apply.{Rests, fill_scopes}
use Rattle.path_join.specs.Joining.{past, grow, meet_scopes, meet_attached, meet_symbol, meet_symbols, nothing_known, known_with, wide_pre, wide_post}
use Rattle.path_join.proofs.AndLaws.{and_first, and_second}
use Rattle.path_join.proofs.GoodLaws.{good_tail, good_scopes, good_outs}
use Rattle.path_join.proofs.SuitsLaws.{Suits, Suits-set, Suits-nothing}

-- what is known, if anything, suits the symbols
abbrev pub Keeps : List SymPat → Option Rests → Type 0
Keeps symbols None = Unit {0}
Keeps symbols (Some known) = Suits symbols known.items

keeps-then : (symbols : List SymPat) (o : Option Rests) (f : Rests → Option Rests) → Keeps symbols o
    → ((known : Rests) → Suits symbols known.items → Keeps symbols (f known)) → Keeps symbols (option_and_then f o)
keeps-then symbols None f h next = tt
keeps-then symbols (Some known) f h next = next known h

keeps-grow : (symbols : List SymPat) (tail : Tail) (more : List NodeAt) (known : Rests) → good_tail symbols tail ≡ true → Suits symbols known.items
    → Keeps symbols (grow tail more known)
keeps-grow symbols Nil [] known good h = h
keeps-grow symbols Nil (s ∷ more) known good h = tt
keeps-grow symbols Front more known good h = h
keeps-grow symbols (Item i) more known good h = Suits-set symbols known.items i _ h good

keeps-past : (symbols : List SymPat) (tail : Tail) (known : Rests) (o : Option (List NodeAt)) → good_tail symbols tail ≡ true → Suits symbols known.items
    → Keeps symbols (option_and_then (λ (more : List NodeAt). grow tail more known) o)
keeps-past symbols tail known None good h = tt
keeps-past symbols tail known (Some more) good h = keeps-grow symbols tail more known good h

keeps-scopes : (symbols : List SymPat) (known : Rests) (fixed : List NodeAt) (out : ScopeOut) → good_tail symbols out.tail ≡ true
    → Suits symbols known.items → Keeps symbols (meet_scopes known fixed out)
keeps-scopes symbols known fixed out good h = keeps-past symbols out.tail known (past fixed (fill_scopes known out)) good h

keeps-attached : (symbols : List SymPat) (known : Rests) (pat : Option ScopePat) (out : Option ScopeOut) → good_scopes symbols out ≡ true
    → Suits symbols known.items → Keeps symbols (meet_attached known pat out)
keeps-attached symbols known None None good h = h
keeps-attached symbols known None (Some out) good h = tt
keeps-attached symbols known (Some pat) None good h = tt
keeps-attached symbols known (Some pat) (Some out) good h = keeps-scopes symbols known pat.fixed out good h

keeps-under : (symbols : List SymPat) (a : Bool) (o : Option Rests) → Keeps symbols o → Keeps symbols (if a then o else None)
keeps-under symbols true o h = h
keeps-under symbols false o h = tt

keeps-symbols : (symbols : List SymPat) (pats : List SymPat) (outs : List SymOut) (known : Rests) → good_outs symbols outs ≡ true
    → Suits symbols known.items → Keeps symbols (meet_symbols known pats outs)
keeps-symbols symbols [] outs known good h = h
keeps-symbols symbols (pat ∷ pats) [] known good h = tt
keeps-symbols symbols (pat ∷ pats) (out ∷ outs) known good h =
    keeps-then symbols (meet_symbol known pat out) (λ (grown : Rests). meet_symbols grown pats outs)
    (keeps-under symbols (bytes_eq pat.symbol out.symbol) (meet_attached known pat.scopes out.scopes)
    (keeps-attached symbols known pat.scopes out.scopes (and_first (good_scopes symbols out.scopes) (good_outs symbols outs) good) h))
    (λ (grown : Rests) (k : Suits symbols grown.items).
    keeps-symbols symbols pats outs grown (and_second (good_scopes symbols out.scopes) (good_outs symbols outs) good) k)

keeps-known : (p q : Rule) (asked : List NodeAt) → good_outs (wide_pre p q) (wide_post p q) ≡ true → good_tail (wide_pre p q) p.post.scopes.tail ≡ true
    → Keeps (wide_pre p q) (known_with p q asked)
keeps-known p q asked outs last =
    keeps-then (wide_pre p q) (meet_symbols (nothing_known (length (wide_pre p q))) q.pre.symbols (wide_post p q))
    (λ (known : Rests). meet_scopes known asked p.post.scopes)
    (keeps-symbols (wide_pre p q) q.pre.symbols (wide_post p q) (nothing_known (length (wide_pre p q))) outs (Suits-nothing (wide_pre p q)))
    (λ (known : Rests) (k : Suits (wide_pre p q) known.items). keeps-scopes (wide_pre p q) known asked p.post.scopes last k)

keeps_at : (symbols : List SymPat) (o : Option Rests) (known : Rests) → o ≡ Some known → Keeps symbols o → Suits symbols known.items
keeps_at symbols o known is h = rw is at h

pub suits-known : (p q : Rule) (asked : List NodeAt) (known : Rests) → good_outs (wide_pre p q) (wide_post p q) ≡ true
    → good_tail (wide_pre p q) p.post.scopes.tail ≡ true → known_with p q asked ≡ Some known → Suits (wide_pre p q) known.items
suits-known p q asked known outs last is = keeps_at (wide_pre p q) (known_with p q asked) known is (keeps-known p q asked outs last)
