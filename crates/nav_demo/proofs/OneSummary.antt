-- Over logs of its own entries alone the session of a made tree has one reply to each request.
use Rattle.std.proofs.Common.{◌≡◌, ◌∙◌, ℕ, List, [], ◌∷◌, refl, sym, ap, subst}
use Rattle.version_tree.specs.declared.entry.Entry.{Entry}
use Rattle.version_board.specs.Logs.{own}
use Rattle.nav_proto.specs.declared.request.Request.{Request}
use Rattle.nav_proto.specs.declared.reply.Reply.{Reply}
use Rattle.nav_session.specs.Sessions.{Session, opened}
use Rattle.nav_session.proofs.OneScript.{IsSame, answered_same, same_opened}
use Rattle.nav_demo.specs.MadeTree.{committing, queries}
use Rattle.nav_demo.specs.Summary.{AreAnswered, nothing, summary_text, totals_after}
use Rattle.nav_demo.specs.Laws.{TreesHaveOneSummary}

-- two sessions that stood alike are replied the same, and stand alike
record StayAlike (a b : List Entry) (rs qs : List Reply) (t u : Session) : Type 0 where
  replies : rs ≡ qs
  sessions : t ≡ u
  same : IsSame a b t

all_same : (seat : ℕ) (a b : List Entry) (s : Session) (requests : List Request) (rs qs : List Reply) (t u : Session)
    → own seat a ≡ a → own seat b ≡ b → IsSame a b s → AreAnswered seat a s requests rs t → AreAnswered seat b s requests qs u → StayAlike a b rs qs t u
all_same seat a b s [] [] [] t u oa ob same h k = record { replies = refl; sessions = h ∙ sym k; same = subst (IsSame a b) (sym h) same }
all_same seat a b s [] [] (q ∷ qs) t u oa ob same h k = absurd k
all_same seat a b s [] (r ∷ rs) qs t u oa ob same h k = absurd h
all_same seat a b s (request ∷ requests) [] qs t u oa ob same h k = absurd h
all_same seat a b s (request ∷ requests) (r ∷ rs) [] t u oa ob same h k = absurd k
all_same seat a b s (request ∷ requests) (r ∷ rs) (q ∷ qs) t u oa ob same (next, h, hs) (other, k, ks) =
    let one = answered_same seat a b s request r q next other oa ob same h k in
    let rest = all_same seat a b next requests rs qs t u oa ob one.same hs (subst (λ (x : Session). AreAnswered seat b x requests qs u) (sym one.sessions) ks) in
    record {
      replies = ap (λ (x : Reply). x ∷ rs) one.replies ∙ ap (λ (xs : List Reply). q ∷ xs) rest.replies;
      sessions = rest.sessions;
      same = rest.same;
    }

pub one_summary : TreesHaveOneSummary
one_summary seat log other files start text others oa ob h k =
    let commits = all_same seat log other (opened 0) (committing files start) h.committed k.committed h.mid k.mid oa ob (same_opened log other) h.commits k.commits in
    let asked = all_same seat log other h.mid (queries files) h.replies k.replies h.last k.last oa ob commits.same h.asked
    (subst (λ (x : Session). AreAnswered seat other x (queries files) k.replies k.last) (sym commits.sessions) k.asked) in
    h.tells ∙ ap (λ (rs : List Reply). summary_text files (totals_after files 0 nothing rs)) asked.replies ∙ sym k.tells
