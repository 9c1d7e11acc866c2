-- A path moved by 0 is itself.
use Rattle.std.proofs.Common.{◌≡◌, refl, ap, ◌+◌, List, [], ◌∷◌, map, Option, Some, None, arith}
use Rattle.std.specs.Option.{option_map}
use Rattle.stacks_vars.specs.declared.scopes.NodeAt.{NodeAt}
use Rattle.stacks_vars.specs.declared.patterns.ScopePat.{ScopePat}
use Rattle.stacks_vars.specs.declared.patterns.SymPat.{SymPat}
use Rattle.stacks_vars.specs.declared.patterns.ScopeOut.{ScopeOut}
use Rattle.stacks_vars.specs.declared.patterns.SymOut.{SymOut}
use Rattle.partial_path.specs.declared.config.EdgeAt.{EdgeAt}
use Rattle.partial_path.specs.declared.config.Spot.{Spot}
use Rattle.partial_path.specs.declared.config.Spot.TheVariants as spot
use Rattle.partial_path.specs.declared.rule.Start.{Start}
use Rattle.partial_path.specs.declared.rule.Start.TheVariants.{Before, After}
use Rattle.partial_path.specs.declared.rule.End.{End}
use Rattle.partial_path.specs.declared.rule.End.TheVariants as end
use Rattle.partial_path.specs.Moved.{moved_node, moved_edge, moved_spot, moved_start, moved_end, moved_scopes, moved_symbol, moved_scopes_out, moved_symbol_out}
use Rattle.back_stitch.specs.Cuts.{MovedByNothingStays}

each_stays : {X : Type 0} (f : X → X) → ((x : X) → f x ≡ x) → (xs : List X) → map f xs ≡ xs
each_stays f stays [] = refl
each_stays f stays (x ∷ xs) = λ i. stays x i ∷ each_stays f stays xs i

any_stays : {X : Type 0} (f : X → X) → ((x : X) → f x ≡ x) → (o : Option X) → option_map f o ≡ o
any_stays f stays None = refl
any_stays f stays (Some x) = ap Some (stays x)

node_stays : (node : NodeAt) → moved_node 0 node ≡ node
node_stays node = let sum : 0 + node.file ≡ node.file = omega arith in λ i. record { file = sum i; node = node.node }

edge_stays : (e : EdgeAt) → moved_edge 0 e ≡ e
edge_stays e = let sum : 0 + e.file ≡ e.file = omega arith in λ i. record { file = sum i; edge = e.edge }

spot_stays : (at : Spot) → moved_spot 0 at ≡ at
spot_stays spot.Root = refl
spot_stays (spot.At node) = ap spot.At (node_stays node)

start_stays : (s : Start) → moved_start 0 s ≡ s
start_stays (Before node) = ap Before (node_stays node)
start_stays (After at) = ap After (spot_stays at)

end_stays : (e : End) → moved_end 0 e ≡ e
end_stays (end.At at) = ap end.At (spot_stays at)
end_stays end.ByStack = refl

scopes_stay : (pat : ScopePat) → moved_scopes 0 pat ≡ pat
scopes_stay pat = λ i. record { fixed = each_stays (moved_node 0) node_stays pat.fixed i }

symbol_stays : (pat : SymPat) → moved_symbol 0 pat ≡ pat
symbol_stays pat = λ i. record { symbol = pat.symbol; scopes = any_stays (moved_scopes 0) scopes_stay pat.scopes i }

scopes_out_stay : (out : ScopeOut) → moved_scopes_out 0 out ≡ out
scopes_out_stay out = λ i. record { scopes = each_stays (moved_node 0) node_stays out.scopes i; tail = out.tail }

symbol_out_stays : (out : SymOut) → moved_symbol_out 0 out ≡ out
symbol_out_stays out = λ i. record { symbol = out.symbol; scopes = any_stays (moved_scopes_out 0) scopes_out_stay out.scopes i }

pub moved_by_nothing_stays : MovedByNothingStays
moved_by_nothing_stays rule = λ i. record {
  start = start_stays rule.start i;
  end = end_stays rule.end i;
  pre = record { symbols = each_stays (moved_symbol 0) symbol_stays rule.pre.symbols i; scopes = scopes_stay rule.pre.scopes i };
  post = record { symbols = each_stays (moved_symbol_out 0) symbol_out_stays rule.post.symbols i; scopes = scopes_out_stay rule.post.scopes i };
  peak = rule.peak;
  edges = each_stays (moved_edge 0) edge_stays rule.edges i;
}
