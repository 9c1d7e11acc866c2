-- The tests of equal stacks tell what their names say.
use Rattle.std.proofs.Common.{◌≡◌, Bool, List, reverse, ap, sym, ◌∙◌, refl, Option, Some, None}
use Rattle.std.specs.Bool.{Decides}
use Rattle.std.proofs.lemmas.Bool.Decides.{Decides-at, Decides-and, Decides-eqb, Decides-like}
use Rattle.std.proofs.lemmas.Slice.Eq.{bytes_eq-Decides, slice_eq-Decides}
use Rattle.std.proofs.lemmas.List.{reverse-reverse}
use Rattle.std.specs.Cmp.Lexicographic.{pointwise}
use Rattle.stacks_vars.specs.declared.scopes.NodeAt.{NodeAt}
use Rattle.stacks_vars.specs.declared.items.SymbolItem.{SymbolItem}
use Rattle.stacks_vars.specs.declared.stacks.Stacks.{Stacks}
use Rattle.stacks_vars.specs.Same.{node_eq, scopes_eq, attached_eq, item_eq, stacks_eq}

pub node_eq-Decides : (a b : NodeAt) → Decides (node_eq a b) (a ≡ b)
node_eq-Decides a b =
    Decides-like (node_eq a b) (λ p. λ i. record { file = p.0 i; node = p.1 i }) (λ e. (ap (λ x. x.file) e, ap (λ x. x.node) e))
    (Decides-and _ _ (Decides-eqb a.file b.file) (Decides-eqb a.node b.node))

pub scopes_eq-Decides : (xs ys : List NodeAt) → Decides (scopes_eq xs ys) (xs ≡ ys)
scopes_eq-Decides xs ys = slice_eq-Decides node_eq-Decides xs ys (scopes_eq xs ys) refl

pub attached_eq-Decides : (a b : Option (List NodeAt)) → Decides (attached_eq a b) (a ≡ b)
attached_eq-Decides None None = (λ _. refl, λ _. refl)
attached_eq-Decides None (Some b) = (λ e. cc, λ e. cc)
attached_eq-Decides (Some a) None = (λ e. cc, λ e. cc)
attached_eq-Decides (Some a) (Some b) =
    Decides-like (scopes_eq a b) (λ e. ap Some e) (λ e. cc) (scopes_eq-Decides a b)

pub item_eq-Decides : (a b : SymbolItem) → Decides (item_eq a b) (a ≡ b)
item_eq-Decides a b =
    Decides-like (item_eq a b) (λ p. λ i. record { symbol = p.0 i; scopes = p.1 i }) (λ e. (ap (λ x. x.symbol) e, ap (λ x. x.scopes) e))
    (Decides-and _ _ (bytes_eq-Decides a.symbol b.symbol) (attached_eq-Decides a.scopes b.scopes))

pub items_eq-Decides : (xs ys : List SymbolItem) → Decides (pointwise item_eq xs ys) (xs ≡ ys)
items_eq-Decides xs ys = slice_eq-Decides item_eq-Decides xs ys (pointwise item_eq xs ys) refl

pub stacks_eq-Decides : (a b : Stacks) → Decides (stacks_eq a b) (a ≡ b)
stacks_eq-Decides a b =
    Decides-like (stacks_eq a b) (λ p. λ i. record { symbols = p.0 i; scopes = p.1 i }) (λ e. (ap (λ x. x.symbols) e, ap (λ x. x.scopes) e))
    (Decides-and _ _ (items_eq-Decides a.symbols b.symbols) (scopes_eq-Decides a.scopes b.scopes))

-- the order in which two lists are compared doesn't matter
pub reversed-Decides : {X : Type 0} (r : Bool) (xs ys : List X) → Decides r (reverse xs ≡ reverse ys) → Decides r (xs ≡ ys)
reversed-Decides r xs ys d =
    Decides-like r (λ e. sym (reverse-reverse xs) ∙ ap reverse e ∙ reverse-reverse ys) (λ e. ap reverse e) d

-- a test of two reversed lists tells whether the lists are equal
pub scopes_told : (r : Bool) (xs ys us vs : List NodeAt) → r ≡ scopes_eq us vs → us ≡ reverse xs → vs ≡ reverse ys → Decides r (xs ≡ ys)
scopes_told r xs ys us vs told u v =
    reversed-Decides r xs ys
    (Decides-like r (λ e. sym u ∙ e ∙ v) (λ e. u ∙ e ∙ sym v) (Decides-at r (scopes_eq us vs) told (scopes_eq-Decides us vs)))

pub item_told : (r : Bool) (a b : SymbolItem) → r ≡ item_eq a b → Decides r (a ≡ b)
item_told r a b told = Decides-at r (item_eq a b) told (item_eq-Decides a b)

pub stacks_told : (r : Bool) (a b : Stacks) → r ≡ stacks_eq a b → Decides r (a ≡ b)
stacks_told r a b told = Decides-at r (stacks_eq a b) told (stacks_eq-Decides a b)

-- a test of two reversed lists of symbols tells whether the lists are equal
pub items_told : (r : Bool) (xs ys us vs : List SymbolItem) → Decides r (us ≡ vs) → us ≡ reverse xs → vs ≡ reverse ys → Decides r (xs ≡ ys)
items_told r xs ys us vs told u v =
    reversed-Decides r xs ys (Decides-like r (λ e. sym u ∙ e ∙ v) (λ e. u ∙ e ∙ sym v) told)
