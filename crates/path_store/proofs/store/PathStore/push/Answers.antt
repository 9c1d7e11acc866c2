use Rattle.std.proofs.Common.{rules, subst, ℕ, List, ◌≡◌, [], ◌∷◌, ◌++◌, ◌+◌, None}
use Rattle.path_store.specs.Buckets.{SetsBucket, in_bucket}
use Rattle.path_store.specs.Documents.{digest_of}
use Rattle.path_store.specs.Store.{cost_of_pair, find_doc}
use Rattle.path_store.proofs.Pushed.{store_push}
use Rattle.path_store.proofs.store.PathStore.push.Goals as goal

-- The store's parts with the pair put last.
pub invariant_of-self-2 : goal.invariant_of-self-2
invariant_of-self-2 c =
    let items : c.push_back.new.self.items ≡ c.self.inside.kept.items ++ c.args.held ∷ [] = search rules in
    let next : c.in_ok-next.next ≡ c.self.inside.next + 1 = search rules in
    let total : c.in_ok-total.total ≡ c.self.inside.total + cost_of_pair c.args.held = search rules in
    let none : find_doc c.args.held.doc c.self.inside.kept.items ≡ None = search rules in
    let filed : SetsBucket c.self.inside.buckets c.add.new.self (digest_of c.args.held.doc) (in_bucket c.self.inside.buckets (digest_of c.args.held.doc) ++ c.self.inside.next ∷ [])
    = subst (λ (g : List ℕ). SetsBucket c.self.inside.buckets c.add.new.self g (in_bucket c.self.inside.buckets g ++ c.self.inside.next ∷ [])) c.digest.ensures c.in_ok-add.ensures.ok in
    rw (items, next, total) (store_push c.self.inside.kept.items c.self.inside.first c.self.inside.next c.self.inside.total c.self.inside.buckets c.add.new.self c.args.held c.self.invariant none filed)
