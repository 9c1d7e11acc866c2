-- A session that is asked one request after the other, and the totals of the replies.
use Rattle.std.proofs.Common.{◌≡◌, ◌∙◌, ℕ, ◌+◌, ◌*◌, ◌/◌, ◌<◌, append-nil, List, [], ◌∷◌, ◌++◌, length, map, None, refl, sym, ap, subst, arith, length-append}
use Rattle.std.specs.Prelude.{min}
use Rattle.std.proofs.Math.Nat.{mod-add-div}
use Rattle.std.proofs.lemmas.List.{take_all}
use Rattle.std.proofs.lemmas.List.FromFn.{map-range_with_len_more, length-map-range_with_len}
use Rattle.std.specs.List.{range_with_len}
use Rattle.version_tree.specs.declared.entry.Entry.{Entry}
use Rattle.version_board.specs.Logs.{Begins, own}
use Rattle.nav_proto.specs.declared.request.Request.{Request}
use Rattle.nav_proto.specs.declared.reply.Reply.{Reply}
use Rattle.nav_session.specs.Sessions.{Session, opened, IsAnswered}
use Rattle.nav_session.specs.Desks.{Moment, session_of, session_at, HasItsView, GoesOn, Replies}
use Rattle.nav_session.proofs.CallerLemmas.{answered_later}
use Rattle.nav_session.proofs.Chains.{chain_by, chain_more}
use Rattle.nav_demo.specs.declared.totals.Totals.{Totals}
use Rattle.nav_demo.specs.MadeTree.{made_commit, made_commits, committing, query, queries}
use Rattle.nav_demo.specs.Summary.{AreAnswered, IsSummary, nothing, totals_with, totals_after, summary_text}
use Rattle.nav_demo.specs.Inside.{Answered, Totalled}

-- what is replied over a log is replied over each longer one
all_later : (seat : ℕ) (log log' : List Entry) (before : Session) (requests : List Request) (replies : List Reply) (after : Session)
    → Begins log log' → AreAnswered seat log before requests replies after → AreAnswered seat log' before requests replies after
all_later seat log log' before requests replies after b h =
    chain_by (IsAnswered seat log) (IsAnswered seat log') (λ was request reply is one. answered_later seat log log' was request reply is b one)
    before requests replies after h

-- that reply at a later moment
abbrev pub RepliesTo : Request → Moment → Moment → Reply → Type 0
RepliesTo request old new reply = Replies (λ log before told after. IsAnswered old.seat log before request told after) old new reply

more_each : (requests : List Request) (request : Request) (replies : List Reply) (reply : Reply) (a b c : Moment)
    → AreAnswered a.seat b.log (session_of a) requests replies (session_of b) → GoesOn a b → GoesOn b c → RepliesTo request b c reply
    → AreAnswered a.seat c.log (session_of a) (requests ++ request ∷ []) (replies ++ reply ∷ []) (session_of c)
more_each requests request replies reply a b c each g h r =
    chain_more (IsAnswered a.seat c.log) (session_of a) requests replies (session_of b) request reply (session_of c)
    (all_later a.seat b.log c.log (session_of a) requests replies (session_of b) h.begins each)
    (subst (λ (n : ℕ). IsAnswered n c.log (session_of b) request reply (session_of c)) g.seat r.due)

-- before the first request, and with one more
pub answered_none : (m : Moment) → HasItsView m.desk m.log m.pin → Answered [] m m
answered_none m v = record { replies = []; each = refl; view = v }

pub answered_more : (requests all : List Request) (request : Request) (reply : Reply) (a b c : Moment) → requests ++ request ∷ [] ≡ all
    → Answered requests a b → GoesOn a b → GoesOn b c → RepliesTo request b c reply → Answered all a c
answered_more requests all request reply a b c e done g h r =
    subst (λ (qs : List Request). Answered qs a c) e (record {
      replies = done.replies ++ reply ∷ [];
      each = more_each requests request done.replies reply a b c done.each g h r;
      view = r.view;
    })

-- the operator named itself
pub goes_nowhere : (m : Moment) → GoesOn m m
goes_nowhere m = record { seat = refl; begins = ([], append-nil m.log); keeps = refl }

pub answered_first : (request first : Request) (reply : Reply) (a b : Moment) → request ≡ first → HasItsView a.desk a.log a.pin
    → GoesOn a b → RepliesTo request a b reply → Answered (first ∷ []) a b
answered_first request first reply a b e v g r =
    subst (λ (q : Request). Answered (q ∷ []) a b) e
    (answered_more [] (request ∷ []) request reply a a b refl (answered_none a v) (goes_nowhere a) g r)

-- one commit more was answered
commits_more : (files start n : ℕ) → made_commits files start (n + 1) ≡ made_commits files start n ++ made_commit files start n ∷ []
commits_more files start n = map-range_with_len_more (made_commit files start) 0 n n (omega arith)

pub answered_commit : (files start n : ℕ) (hello request : Request) (reply : Reply) (a b c : Moment) → request ≡ made_commit files start n
    → Answered (hello ∷ made_commits files start n) a b → GoesOn a b → GoesOn b c → RepliesTo request b c reply
    → Answered (hello ∷ made_commits files start (n + 1)) a c
answered_commit files start n hello request reply a b c e done g h r =
    answered_more (hello ∷ made_commits files start n) (hello ∷ made_commits files start (n + 1)) request reply a b c
    (ap (λ (q : Request). hello ∷ (made_commits files start n ++ q ∷ [])) e ∙ ap (λ (qs : List Request). hello ∷ qs) (sym (commits_more files start n)))
    done g h r

-- a commit of a tree that isn't at its end puts the files from 64 for each before it
pub commit_begins : (files count n next : ℕ) → count ≡ (files + 63) / 64 → n < count → next ≡ min (64 * n) files → next ≡ 64 * n
commit_begins files count n next e within is =
    let h = mod-add-div (files + 63) 64 in omega (arith, e, within, is, h)

-- the totals with one reply more
totals_more : (files k j : ℕ) (t : Totals) (replies : List Reply) (reply : Reply) → k + length replies ≡ j
    → totals_after files k t (replies ++ reply ∷ []) ≡ totals_with files j (totals_after files k t replies) reply
totals_more files k j t [] reply e =
    let same : k ≡ j = omega (arith, e) in ap (λ (n : ℕ). totals_with files n t reply) same
totals_more files k j t (r ∷ replies) reply e =
    totals_more files (k + 1) j (totals_with files k t r) replies reply (omega (arith, e))

pub totalled_first : (files : ℕ) (totals : Totals) (m : Moment) → HasItsView m.desk m.log m.pin → totals ≡ nothing → Totalled files [] m m totals
totalled_first files totals m v e = record { replies = []; each = refl; view = v; totals_are = e; count = refl }

queries_more : (k : ℕ) → map query (range_with_len 0 (k + 1)) ≡ map query (range_with_len 0 k) ++ query k ∷ []
queries_more k = map-range_with_len_more query 0 k k (omega arith)

pub totalled_more : (files k : ℕ) (request : Request) (reply : Reply) (totals more : Totals) (a b c : Moment)
    → Totalled files (map query (range_with_len 0 k)) a b totals → more ≡ totals_with files k totals reply
    → GoesOn a b → GoesOn b c → request ≡ query k → RepliesTo request b c reply → Totalled files (map query (range_with_len 0 (k + 1))) a c more
totalled_more files k request reply totals more a b c done e g h q r' =
    let r : RepliesTo (query k) b c reply = subst (λ (x : Request). RepliesTo x b c reply) q r' in
    let so_many : length done.replies ≡ k = done.count ∙ length-map-range_with_len query 0 k in
    subst (λ (qs : List Request). Totalled files qs a c more) (sym (queries_more k)) (record {
      replies = done.replies ++ reply ∷ [];
      each = more_each (map query (range_with_len 0 k)) (query k) done.replies reply a b c done.each g h r;
      view = r.view;
      totals_are = e ∙ ap (λ (t : Totals). totals_with files k t reply) done.totals_are
          ∙ sym (totals_more files 0 k nothing done.replies reply (omega (arith, so_many)));
      count = longer done.replies (map query (range_with_len 0 k)) done.count;
    })
  where
    longer : (replies : List Reply) (requests : List Request) → length replies ≡ length requests
        → length (replies ++ reply ∷ []) ≡ length (requests ++ query k ∷ [])
    longer replies requests e =
        let x = length-append replies (reply ∷ []) in
        let y = length-append requests (query k ∷ []) in
        omega (arith, e, x, y)

-- the summary of a session
opened_of : (m : Moment) → m.desk.user ≡ None → session_of m ≡ opened (length m.log)
opened_of m e = ap (session_at (length m.log) m.pin) e

pub summed : (files start : ℕ) (a b c : Moment) (totals : Totals) (text : List ℕ) → a.desk.user ≡ None → GoesOn a b → GoesOn b c
    → Answered (committing files start) a b → Totalled files (queries files) b c totals → text ≡ summary_text files totals
    → IsSummary a.seat (length a.log) c.log files start text
summed files start a b c totals text nobody g h p q e = record {
  committed = p.replies;
  mid = session_of b;
  commits = subst (λ (s : Session). AreAnswered a.seat c.log s (committing files start) p.replies (session_of b)) (opened_of a nobody)
      (all_later a.seat b.log c.log (session_of a) (committing files start) p.replies (session_of b) h.begins p.each);
  replies = q.replies;
  last = session_of c;
  asked = subst (λ (n : ℕ). AreAnswered n c.log (session_of b) (queries files) q.replies (session_of c)) g.seat q.each;
  no_other = ap (own a.seat) (take_all (length c.log) c.log (omega arith));
  tells = e ∙ ap (summary_text files) q.totals_are;
}
