-- What conditions on file numbers tell of one another.
use Rattle.std.proofs.Common.{◌≡◌, ◌<◌, ◌+◌, ◌^◌, ℕ, List, map, Option, Some, None, arith}
use Rattle.std.specs.Prelude.{All}
use Rattle.std.specs.Option.{IfSome, option_map}
use Rattle.std.proofs.lemmas.List.Elements.{All-map, All-weaker}
use Rattle.stacks_vars.specs.declared.scopes.NodeAt.{NodeAt}
use Rattle.stacks_vars.specs.declared.patterns.ScopePat.{ScopePat}
use Rattle.stacks_vars.specs.declared.patterns.SymPat.{SymPat}
use Rattle.stacks_vars.specs.declared.patterns.ScopeOut.{ScopeOut}
use Rattle.stacks_vars.specs.declared.patterns.SymOut.{SymOut}
use Rattle.partial_path.specs.declared.config.Spot.{Spot}
use Rattle.partial_path.specs.declared.config.Spot.TheVariants as spot
use Rattle.partial_path.specs.declared.config.EdgeAt.{EdgeAt}
use Rattle.partial_path.specs.declared.rule.Start.{Start}
use Rattle.partial_path.specs.declared.rule.Start.TheVariants.{Before, After}
use Rattle.partial_path.specs.declared.rule.End.{End}
use Rattle.partial_path.specs.declared.rule.End.TheVariants as end
use Rattle.partial_path.specs.Rules.{Rule}
use Rattle.partial_path.specs.Moved.{moved, moved_node, moved_edge, moved_spot, moved_start, moved_end, moved_scopes, moved_symbol, moved_scopes_out, moved_symbol_out, Fits, FitsEnd}
use Rattle.partial_path.specs.FileNumbers.{NodeIn, EdgeIn, SpotIn, StartIn, EndIn, AskedIn, MadeIn, RuleIn, IsOfFileZero, FitsFile, CanMove, FileZeroMoves}

module _ (F G : ℕ → Type 0) (weaker : (n : ℕ) → F n → G n) where
  spot_in : (spot : Spot) → SpotIn F spot → SpotIn G spot
  spot_in spot.Root h = h
  spot_in (spot.At node) h = weaker node.file h

  start_in : (start : Start) → StartIn F start → StartIn G start
  start_in (Before node) h = weaker node.file h
  start_in (After spot) h = spot_in spot h

  end_in : (end : End) → EndIn F end → EndIn G end
  end_in (end.At spot) h = spot_in spot h
  end_in end.ByStack h = h

  scopes_in : (scopes : List NodeAt) → All (NodeIn F) scopes → All (NodeIn G) scopes
  scopes_in scopes h = All-weaker (NodeIn F) (NodeIn G) (λ node. weaker node.file) scopes h

  asked_in : (scopes : Option ScopePat) → IfSome scopes (λ (s : ScopePat). All (NodeIn F) s.fixed)
      → IfSome scopes (λ (s : ScopePat). All (NodeIn G) s.fixed)
  asked_in None h = h
  asked_in (Some s) h = scopes_in s.fixed h

  made_in : (scopes : Option ScopeOut) → IfSome scopes (λ (s : ScopeOut). All (NodeIn F) s.scopes)
      → IfSome scopes (λ (s : ScopeOut). All (NodeIn G) s.scopes)
  made_in None h = h
  made_in (Some s) h = scopes_in s.scopes h

  pub RuleIn-weaker : (rule : Rule) → RuleIn F rule → RuleIn G rule
  RuleIn-weaker rule h = record {
    start = start_in rule.start h.start;
    end = end_in rule.end h.end;
    asked = All-weaker (AskedIn F) (AskedIn G) (λ (pat : SymPat). asked_in pat.scopes) rule.pre.symbols h.asked;
    asked_scopes = scopes_in rule.pre.scopes.fixed h.asked_scopes;
    made = All-weaker (MadeIn F) (MadeIn G) (λ (out : SymOut). made_in out.scopes) rule.post.symbols h.made;
    made_scopes = scopes_in rule.post.scopes.scopes h.made_scopes;
    edges = All-weaker (EdgeIn F) (EdgeIn G) (λ (e : EdgeAt). weaker e.file) rule.edges h.edges;
  }

-- conditions on the file numbers of a moved path
module _ (F : ℕ → Type 0) (base : ℕ) where
  abbrev Unmoved : ℕ → Type 0
  Unmoved n = F (base + n)

  moved_spot_in : (spot : Spot) → SpotIn Unmoved spot → SpotIn F (moved_spot base spot)
  moved_spot_in spot.Root h = h
  moved_spot_in (spot.At node) h = h

  moved_start_in : (start : Start) → StartIn Unmoved start → StartIn F (moved_start base start)
  moved_start_in (Before node) h = h
  moved_start_in (After spot) h = moved_spot_in spot h

  moved_end_in : (end : End) → EndIn Unmoved end → EndIn F (moved_end base end)
  moved_end_in (end.At spot) h = moved_spot_in spot h
  moved_end_in end.ByStack h = h

  moved_scopes_in : (scopes : List NodeAt) → All (NodeIn Unmoved) scopes → All (NodeIn F) (map (moved_node base) scopes)
  moved_scopes_in scopes h = All-map (NodeIn F) (moved_node base) scopes h

  moved_asked_in : (scopes : Option ScopePat) → IfSome scopes (λ (s : ScopePat). All (NodeIn Unmoved) s.fixed)
      → IfSome (option_map (moved_scopes base) scopes) (λ (s : ScopePat). All (NodeIn F) s.fixed)
  moved_asked_in None h = h
  moved_asked_in (Some s) h = moved_scopes_in s.fixed h

  moved_made_in : (scopes : Option ScopeOut) → IfSome scopes (λ (s : ScopeOut). All (NodeIn Unmoved) s.scopes)
      → IfSome (option_map (moved_scopes_out base) scopes) (λ (s : ScopeOut). All (NodeIn F) s.scopes)
  moved_made_in None h = h
  moved_made_in (Some s) h = moved_scopes_in s.scopes h

  pub RuleIn-moved : (rule : Rule) → RuleIn Unmoved rule → RuleIn F (moved base rule)
  RuleIn-moved rule h = record {
    start = moved_start_in rule.start h.start;
    end = moved_end_in rule.end h.end;
    asked = All-map (AskedIn F) (moved_symbol base) rule.pre.symbols
        (All-weaker (AskedIn Unmoved) (λ (pat : SymPat). AskedIn F (moved_symbol base pat)) (λ (pat : SymPat). moved_asked_in pat.scopes) rule.pre.symbols h.asked);
    asked_scopes = moved_scopes_in rule.pre.scopes.fixed h.asked_scopes;
    made = All-map (MadeIn F) (moved_symbol_out base) rule.post.symbols
        (All-weaker (MadeIn Unmoved) (λ (out : SymOut). MadeIn F (moved_symbol_out base out)) (λ (out : SymOut). moved_made_in out.scopes) rule.post.symbols h.made);
    made_scopes = moved_scopes_in rule.post.scopes.scopes h.made_scopes;
    edges = All-map (EdgeIn F) (moved_edge base) rule.edges h.edges;
  }

-- what can be moved fits
fits_end : (base : ℕ) (end : End) → EndIn (FitsFile base) end → FitsEnd base end
fits_end base (end.At spot.Root) h = h
fits_end base (end.At (spot.At node)) h = h
fits_end base end.ByStack h = h

pub moves-fits : (base : ℕ) (rule : Rule) → CanMove base rule → Fits base rule
moves-fits base rule h = record { end = fits_end base rule.end h.end; symbols = h.made; scopes = h.made_scopes }

below : (base : ℕ) → base < 2 ^ 32 → (n : ℕ) → n ≡ 0 → FitsFile base n
below base h n e = omega arith

pub zero-moves : (base : ℕ) (rule : Rule) → base < 2 ^ 32 → IsOfFileZero rule → CanMove base rule
zero-moves base rule h zero =
    RuleIn-weaker (λ (file : ℕ). file ≡ 0) (FitsFile base) (below base h) rule zero

pub file_zero_moves : FileZeroMoves
file_zero_moves base rule h zero =
    let moves = zero-moves base rule h zero in (moves, moves-fits base rule moves)

still_below : (base n : ℕ) → FitsFile base n → FitsFile 0 (base + n)
still_below base n h = omega arith

-- what was moved fits where it is
pub moved-fits : (base : ℕ) (rule : Rule) → CanMove base rule → Fits 0 (moved base rule)
moved-fits base rule h =
    moves-fits 0 (moved base rule)
    (RuleIn-moved (FitsFile 0) base rule (RuleIn-weaker (FitsFile base) (λ (n : ℕ). FitsFile 0 (base + n)) (still_below base) rule h))
