-- File 0 and another file changing numbers: done twice, it changes nothing; and a node of file 0 then has the
-- number to which a path of that file is moved.
use Rattle.std.proofs.Common.{◌≡◌, refl, ap, ℕ, ◌+◌, List, [], ◌∷◌, map, Bool, true, false, cond, Option, Some, None, if◌then◌else◌, arith}
use Rattle.std.specs.Prelude.{◌&&◌, nat_eq}
use Rattle.std.specs.Option.{option_map, is_some}
use Rattle.std.specs.List.{AllByRecursion}
use Rattle.std.proofs.lemmas.Bool.Decides.{nat_tests}
use Rattle.stacks_vars.specs.declared.scopes.NodeAt.{NodeAt}
use Rattle.stacks_vars.specs.declared.items.SymbolItem.{SymbolItem}
use Rattle.stacks_vars.specs.declared.stacks.Stacks.{Stacks}
use Rattle.stacks_vars.specs.Enter.{item_of, stacks_of}
use Rattle.stacks_vars.specs.Same.{node_eq}
use Rattle.partial_path.specs.declared.config.Spot.{Spot}
use Rattle.partial_path.specs.declared.config.Spot.TheVariants.{Root, At}
use Rattle.partial_path.specs.declared.config.Config.{Config}
use Rattle.partial_path.specs.Moved.{moved_node}
use Rattle.partial_path.specs.FileNumbers.{NodeIn}

-- 0 and b change places
abbrev pub swap : ℕ → ℕ → ℕ
swap b n = cond (nat_eq n 0) b (cond (nat_eq n b) 0 n)

abbrev pub sw_node : ℕ → NodeAt → NodeAt
sw_node b node = record { file = swap b node.file; node = node.node }

abbrev pub sw_nodes : ℕ → List NodeAt → List NodeAt
sw_nodes b nodes = map (sw_node b) nodes

abbrev pub sw_item : ℕ → SymbolItem → SymbolItem
sw_item b item = item_of item.symbol (option_map (sw_nodes b) item.scopes)

abbrev pub sw_stacks : ℕ → Stacks → Stacks
sw_stacks b s = stacks_of (map (sw_item b) s.symbols) (sw_nodes b s.scopes)

abbrev pub sw_spot : ℕ → Spot → Spot
sw_spot b Root = Root
sw_spot b (At node) = At (sw_node b node)

abbrev pub sw_config : ℕ → Config → Config
sw_config b c = record { spot = sw_spot b c.spot; stacks = sw_stacks b c.stacks }

-- number 0
abbrev pub IsZero : ℕ → Type 0
IsZero file = file ≡ 0

swap_twice : (b n : ℕ) → swap b (swap b n) ≡ n
swap_twice b n = grind (arith, nat_tests)

-- how the numbers of nodes compare
pub numbers_met : (b n m : ℕ) → n ≡ 0 → nat_eq (b + n) m ≡ nat_eq n (swap b m)
numbers_met b n m e = grind (arith, nat_tests, e)

pub numbers_stand : (b m : ℕ) → nat_eq m b ≡ nat_eq (swap b m) 0
numbers_stand b m = grind (arith, nat_tests)

number_moved : (b n : ℕ) → n ≡ 0 → b + n ≡ swap b n
number_moved b n e = grind (arith, nat_tests, e)

pub node_twice : (b : ℕ) (a : NodeAt) → sw_node b (sw_node b a) ≡ a
node_twice b a = λ i. record { file = swap_twice b a.file i; node = a.node }

pub nodes_twice : (b : ℕ) (xs : List NodeAt) → sw_nodes b (sw_nodes b xs) ≡ xs
nodes_twice b [] = refl
nodes_twice b (x ∷ xs) = λ i. node_twice b x i ∷ nodes_twice b xs i

attached_twice : (b : ℕ) (o : Option (List NodeAt)) → option_map (sw_nodes b) (option_map (sw_nodes b) o) ≡ o
attached_twice b None = refl
attached_twice b (Some xs) = ap Some (nodes_twice b xs)

item_twice : (b : ℕ) (it : SymbolItem) → sw_item b (sw_item b it) ≡ it
item_twice b it = λ i. item_of it.symbol (attached_twice b it.scopes i)

pub items_twice : (b : ℕ) (xs : List SymbolItem) → map (sw_item b) (map (sw_item b) xs) ≡ xs
items_twice b [] = refl
items_twice b (x ∷ xs) = λ i. item_twice b x i ∷ items_twice b xs i

pub stacks_twice : (b : ℕ) (s : Stacks) → sw_stacks b (sw_stacks b s) ≡ s
stacks_twice b s = λ i. stacks_of (items_twice b s.symbols i) (nodes_twice b s.scopes i)

spot_twice : (b : ℕ) (s : Spot) → sw_spot b (sw_spot b s) ≡ s
spot_twice b Root = refl
spot_twice b (At node) = ap At (node_twice b node)

pub config_twice : (b : ℕ) (c : Config) → sw_config b (sw_config b c) ≡ c
config_twice b c = λ i. record { spot = spot_twice b c.spot i; stacks = stacks_twice b c.stacks i }

-- a node of file 0, moved
pub node_moved : (b : ℕ) (a : NodeAt) → NodeIn IsZero a → moved_node b a ≡ sw_node b a
node_moved b a e = λ i. record { file = number_moved b a.file e i; node = a.node }

pub nodes_moved : (b : ℕ) (xs : List NodeAt) → AllByRecursion (NodeIn IsZero) xs → map (moved_node b) xs ≡ sw_nodes b xs
nodes_moved b [] zeros = refl
nodes_moved b (x ∷ xs) zeros = λ i. node_moved b x zeros.0 i ∷ nodes_moved b xs zeros.1 i

pub node_met : (b : ℕ) (a s : NodeAt) → NodeIn IsZero a → node_eq (moved_node b a) s ≡ node_eq a (sw_node b s)
node_met b a s e = λ i. numbers_met b a.file s.file e i && nat_eq a.node s.node

-- what a test lets through, changed before or after
pub tested : {X Y : Type 0} (f : X → Y) (t : Bool) (x : Option X) → (if t then option_map f x else None) ≡ option_map f (if t then x else None)
tested f true x = refl
tested f false x = refl

pub some_mapped : {X Y : Type 0} (f : X → Y) (o : Option X) → is_some (option_map f o) ≡ is_some o
some_mapped f None = refl
some_mapped f (Some x) = refl
