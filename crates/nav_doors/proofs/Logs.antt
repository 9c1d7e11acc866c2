-- The logs of connections, one after the other.
use Rattle.std.proofs.Common.{◌≡◌, ℕ, zero, suc, List, [], ◌∷◌, ◌++◌, ap, sym, subst, ◌∙◌, append_assoc, append-nil}
use Rattle.version_tree.specs.declared.entry.Entry.{Entry}
use Rattle.version_board.specs.Logs.{Begins}
use Rattle.nav_session.specs.Serving.{Standing}
use Rattle.nav_doors.specs.Connections.{Outside, Connection, AreServed, ConnectionsLieOnOneLog}

begins_same : (a b : List Entry) → b ≡ a → Begins a b
begins_same a b e = ([], append-nil a ∙ sym e)

begins_trans : (a b c : List Entry) → Begins a b → Begins b c → Begins a c
begins_trans a b c p q = (p.0 ++ q.0, sym (append_assoc a p.0 q.0) ∙ (ap (λ (w : List Entry). w ++ q.0) p.1 ∙ q.1))

-- what was seen at first begins what is seen at the end
same_log : (a b : Standing) → b ≡ a → Begins a.log b.log
same_log a b e = begins_same a.log b.log (ap (λ (w : Standing). w.log) e)

chained : {D S K : Type 0} (o : Outside D S K) (seat : ℕ) (before after : Standing) (cs : List (Connection S K)) → AreServed o seat before cs after
    → Begins before.log after.log
chained o seat before after [] h = same_log before after h
chained o seat before after (c ∷ cs) h =
    begins_trans before.log c.before.log after.log (same_log before c.before h.0)
    (begins_trans c.before.log c.after.log after.log h.1.session.served.begins (chained o seat c.after after cs h.2))

pub on_one_log : {D S K : Type 0} (o : Outside D S K) → ConnectionsLieOnOneLog o
on_one_log o seat n before after [] c h e = absurd (cc e)
on_one_log o seat zero before after (x ∷ cs) c h e =
    let same : x ≡ c = cc e in (
      subst (λ w. Begins before.log w.before.log) same (same_log before x.before h.0),
      subst (λ w. Begins w.before.log w.after.log) same h.1.session.served.begins,
      subst (λ w. Begins w.after.log after.log) same (chained o seat x.after after cs h.2),
    )
on_one_log o seat (suc n) before after (x ∷ cs) c h e =
    let r = on_one_log o seat n x.after after cs c h.2 e in (
      begins_trans before.log x.after.log c.before.log
          (begins_trans before.log x.before.log x.after.log (same_log before x.before h.0) h.1.session.served.begins) r.0,
      r.1,
      r.2,
    )
