-- What is left of documents that are kept.
use Rattle.std.proofs.Common.{◌≡◌, ◌∙◌, ℕ, Bool, true, false, cond, List, [], ◌∷◌, ◌++◌, Err, refl, ap, sym, subst, append-nil, if◌then◌else◌}
use Rattle.std.specs.Prelude.{nat_le, MatchBool}
use Rattle.path_store.specs.Store.{Kept, cost_of, swept}
use Rattle.path_store.specs.Documents.{Doc}
use Rattle.index_gate.specs.Indexed.{AddsMissing, AddsSome, AreIndexed}
use Rattle.nav_proto.specs.Requests.{request_from}
use Rattle.nav_proto.specs.declared.reply.Reply.{Reply}
use Rattle.nav_proto.specs.declared.request.Request.{Request}
use Rattle.nav_proto.specs.declared.request.Request.TheVariants as request
use Rattle.nav_session.specs.Requests.{docs_in}
use Rattle.nav_session.specs.declared.halt.Halt.{Halt}
use Rattle.nav_session.specs.declared.halt.Halt.TheVariants.{NoMemory}
use Rattle.nav_session.specs.Halts.{status_of}
use Rattle.nav_session.specs.Desks.{AddsDocs, AddsOnly, AreKept, KeepsDocs, KeepsDocsOf, is_accepted, is_indexed}
use Rattle.nav_session.specs.Turns.{LeavesStore}
use Rattle.nav_session.proofs.Chains.{chain_more}

swept_if : (b : Bool) (k : Kept) (ks rest : List Kept) → AreIndexed (k ∷ ks) → AreIndexed rest → AreIndexed (cond b (k ∷ ks) rest)
swept_if true k ks rest a r = a
swept_if false k ks rest a r = r

-- without the oldest they still are indexed
pub swept_indexed : (limit : ℕ) (ks : List Kept) → AreIndexed ks → AreIndexed (swept limit ks)
swept_indexed limit [] a = tt
swept_indexed limit (k ∷ ks) a = swept_if (nat_le (cost_of (k ∷ ks)) limit) k ks (swept limit ks) a (swept_indexed limit ks a.1)

-- a store that stays, and one to which the documents of a commit were added
pub adds_none : (old new : List Kept) → new ≡ old → AddsOnly old new
adds_none old new same = record { added = []; all = same ∙ sym (append-nil old) }

pub adds_some : (docs : List Doc) (old new : List Kept) → AddsSome docs old new → AddsOnly old new
adds_some docs old new h = record { added = h.0; all = h.2 }

pub adds_missing : (docs : List Doc) (old new : List Kept) → AddsMissing docs old new → AddsOnly old new
adds_missing docs old new h = record { added = h.0; all = h.1 }

pub ruleset adds = (adds_none, adds_some, adds_missing)

-- where no line was answered
pub stays_at : (reason : Halt) (ks : List Kept) → LeavesStore (Err reason) ks ks
stays_at NoMemory ks = adds_none ks ks refl
stays_at _ ks = refl

pub left_by : (reason : Halt) (old new : List Kept) → LeavesStore (Err reason) old new → AddsOnly old new
left_by NoMemory old new h = h
left_by _ old new h = adds_none old new h

pub stays_by : (reason : Halt) (old new : List Kept) → LeavesStore (Err reason) old new → (status_of reason ≡ 5 → ⊥) → new ≡ old
stays_by NoMemory old new h other = absurd (other refl)
stays_by _ old new h other = h

-- one line more
pub kept_more : (keeps : ℕ) (lines : List (List ℕ)) (replies : List Reply) (line : List ℕ) (reply : Reply) (a b c : List Kept)
    → AreKept keeps lines replies a b → KeepsDocsOf keeps (request_from line) reply b c → AreKept keeps (lines ++ line ∷ []) (replies ++ reply ∷ []) a c
kept_more keeps lines replies line reply a b c h one =
    chain_more (λ was line reply is. KeepsDocsOf keeps (request_from line) reply was is) a lines replies b line reply c h one

-- a reply that accepts nothing drops no document
all_added : (keeps : ℕ) (b : Bool) (docs : List Doc) (reply : Reply) (old new : List Kept) → is_accepted reply ≡ false
    → MatchBool b (AddsDocs keeps docs reply old new) (new ≡ old) → AddsOnly old new
all_added keeps true docs reply old new none h = record {
  added = h.adds.0;
  all = h.kept ∙ ap (λ (b : Bool). if b then swept keeps h.all else h.all) none ∙ h.adds.1;
}
all_added keeps false docs reply old new none h = adds_none old new h

pub kept_adds : (keeps : ℕ) (request : Request) (reply : Reply) (old new : List Kept) → KeepsDocs keeps request reply old new → is_accepted reply ≡ false
    → AddsOnly old new
kept_adds keeps (request.Commit base edits) reply old new h none = all_added keeps (is_indexed reply) (docs_in edits) reply old new none h
kept_adds keeps _ reply old new h none = adds_none old new h
