-- What holds after any allowed steps of the core machine, whatever may be asked.
use Rattle.std.proofs.Common.{◌≡◌, ℕ, zero, suc, ◌+◌, ◌-◌, ◌≤◌, ◌==◌, Bool, true, false, List, [], ◌∷◌, ◌++◌, length, take, drop, Option, None, Some, refl, ap, sym, ◌∙◌, subst, arith, length-append, append_assoc, append-nil, inl, inr, if◌then◌else◌}
use Rattle.std.proofs.lemmas.Bool.{false≢true, false_from_ne_true}
use Rattle.std.proofs.lemmas.Bool.Decides.{Decides-eqb}
use Rattle.std.proofs.lemmas.List.{drop-append-le, drop-drop, drop_all, take-append-le}
use Rattle.std.proofs.lemmas.List.Elements.{filter-append}
use Rattle.version_tree.specs.declared.edit.Edit.{Edit}
use Rattle.version_tree.specs.declared.entry.Entry.{Entry}
use Rattle.version_tree.specs.Contents.{replay, granted_rows}
use Rattle.version_tree.specs.Graphs.{graph_rows}
use Rattle.version_board.specs.Logs.{Begins, own, entry}
use Rattle.version_board.specs.Core.{Machine, opening, Step, Pin, Accept, Refuse, Want, Learn, Ask, at_seat, after, DueOver, IsDueAt, IsAllowed, after_all, AreAllowed, accepted_by, accepted, numbered_from, IsNoLess, IsSound, IsOnward, IsReplied, Holds, CoreLaw}

-- pins that are no less
less_itself : (o : Option ℕ) → IsNoLess o o
less_itself None = tt
less_itself (Some n) = omega arith

less_after : (a b c : Option ℕ) → IsNoLess a b → IsNoLess b c → IsNoLess a c
less_after None b c h g = tt
less_after (Some a) None c h g = absurd h
less_after (Some a) (Some b) None h g = absurd g
less_after (Some a) (Some b) (Some c) h g = let p : a ≤ b = h in let q : b ≤ c = g in omega arith

onward_after : (seat : ℕ) (a b c : Machine) → IsOnward seat a b → IsOnward seat b c → IsOnward seat a c
onward_after seat a b c h g = record {
  seen = (let p = h.seen in let q = g.seen in omega arith);
  pin = less_after (a.pin seat) (b.pin seat) (c.pin seat) h.pin g.pin;
}

onward_itself : (seat : ℕ) (a : Machine) → IsOnward seat a a
onward_itself seat a = record { seen = omega arith; pin = less_itself (a.pin seat) }

-- with one step more
accepted_push : {E : Type 0} → (seat : ℕ) (steps : List (Step E)) (x : Step E) → accepted seat (steps ++ x ∷ []) ≡ accepted seat steps ++ accepted_by seat x
accepted_push seat [] x = append-nil (accepted_by seat x)
accepted_push seat (step ∷ steps) x =
    ap (λ (es : List (List Edit)). accepted_by seat step ++ es) (accepted_push seat steps x)
    ∙ sym (append_assoc (accepted_by seat step) (accepted seat steps) (accepted_by seat x))

none_accepted : {E : Type 0} → (seat : ℕ) (steps : List (Step E)) (x : Step E) → accepted_by seat x ≡ [] → accepted seat (steps ++ x ∷ []) ≡ accepted seat steps
none_accepted seat steps x none =
    accepted_push seat steps x ∙ (ap (λ (es : List (List Edit)). accepted seat steps ++ es) none ∙ append-nil (accepted seat steps))

numbered_push : (seat serial : ℕ) (all : List (List Edit)) (edits : List Edit) → numbered_from seat serial (all ++ edits ∷ []) ≡ numbered_from seat serial all ++ entry seat (serial + length all) edits ∷ []
numbered_push seat serial [] edits = let e : serial ≡ serial + 0 = omega arith in ap (λ (n : ℕ). entry seat n edits ∷ []) e
numbered_push seat serial (x ∷ all) edits =
    let e : (serial + 1) + length all ≡ serial + length (x ∷ all) = omega arith in
    ap (λ (es : List Entry). entry seat serial x ∷ es)
    (numbered_push seat (serial + 1) all edits ∙ ap (λ (n : ℕ). numbered_from seat (serial + 1) all ++ entry seat n edits ∷ []) e)

length-numbered : (seat serial : ℕ) (all : List (List Edit)) → length (numbered_from seat serial all) ≡ length all
length-numbered seat serial [] = refl
length-numbered seat serial (x ∷ all) = let r = length-numbered seat (serial + 1) all in omega arith

-- the entries of a seat in a log with one entry more
own_one : (seat : ℕ) (e : Entry) → (b : Bool) → (e.seat == seat) ≡ b → own seat (e ∷ []) ≡ (if b then e ∷ [] else [])
own_one seat e true t = ap (λ (b : Bool). if b then e ∷ [] else []) t
own_one seat e false t = ap (λ (b : Bool). if b then e ∷ [] else []) t

own_with : (seat : ℕ) (log : List Entry) (e : Entry) (b : Bool) → (e.seat == seat) ≡ b → own seat (log ++ e ∷ []) ≡ own seat log ++ (if b then e ∷ [] else [])
own_with seat log e b t =
    filter-append (λ (x : Entry). x.seat == seat) log (e ∷ []) ∙ ap (λ (es : List Entry). own seat log ++ es) (own_one seat e b t)

-- further on there is no entry of the seat either
head_none : (b : Bool) (x : Entry) (xs : List Entry) → (if b then x ∷ xs else xs) ≡ [] → xs ≡ []
head_none true x xs h = absurd (no h)
  where
    no : x ∷ xs ≡ [] → ⊥
    no e = cc
head_none false x xs h = h

none_dropped : (seat k : ℕ) (xs : List Entry) → own seat xs ≡ [] → own seat (drop k xs) ≡ []
none_dropped seat zero xs h = h
none_dropped seat (suc k) [] h = refl
none_dropped seat (suc k) (x ∷ xs) h = none_dropped seat k xs (head_none (x.seat == seat) x (own seat xs) h)

none_further : (seat m n : ℕ) (log : List Entry) → m ≤ n → own seat (drop m log) ≡ [] → own seat (drop n log) ≡ []
none_further seat m n log le h =
    let e : m + (n - m) ≡ n = omega arith in
    ap (λ (k : ℕ). own seat (drop k log)) (sym e) ∙ (ap (own seat) (sym (drop-drop (n - m) m log)) ∙ none_dropped seat (n - m) (drop m log) h)

-- a step that keeps the log
kept : {E : Type 0} → (steps : List (Step E)) (x : Step E) (m next : Machine) (seat : ℕ) → accepted_by seat x ≡ [] → IsSound steps m seat → next.log ≡ m.log → m.seen seat ≤ next.seen seat → next.seen seat ≤ length m.log → IsNoLess (m.pin seat) (next.pin seat) → IsNoLess (next.pin seat) (Some (next.seen seat)) → IsSound (steps ++ x ∷ []) next seat × IsOnward seat m next
kept steps x m next seat none h log up few pin low = (
  record {
    seen = subst (λ (l : List Entry). next.seen seat ≤ length l) (sym log) few;
    pinned = low;
    own_entries = ap (own seat) log ∙ (h.own_entries ∙ ap (numbered_from seat 0) (sym (none_accepted seat steps x none)));
    all_seen = ap (λ (l : List Entry). own seat (drop (next.seen seat) l)) log ∙ none_further seat (m.seen seat) (next.seen seat) m.log up h.all_seen;
  },
  record { seen = up; pin = pin },
)

-- what a seat has, told apart from the others
seat_of : (a b : ℕ) → (a == b) ≡ true → a ≡ b
seat_of a b t = (Decides-eqb a b).0 t

other_of : (a b : ℕ) → (a == b) ≡ false → (b == a) ≡ false
other_of a b f = false_from_ne_true (b == a) (λ t. false≢true (sym f ∙ (Decides-eqb a b).1 (sym (seat_of b a t))))

mine : {X : Type 0} (seat other : ℕ) (x : X) (f : ℕ → X) → (other == seat) ≡ true → at_seat seat x f other ≡ x
mine seat other x f t = ap (λ (b : Bool). if b then x else f other) t

theirs : {X : Type 0} (seat other : ℕ) (x : X) (f : ℕ → X) → (other == seat) ≡ false → at_seat seat x f other ≡ f other
theirs seat other x f t = ap (λ (b : Bool). if b then x else f other) t

-- one seat sees so many, and pins these or what it pinned
sees : {E : Type 0} → (steps : List (Step E)) (x : Step E) (m : Machine) (seat other n : ℕ) (b : Bool) → (other == seat) ≡ b → accepted_by other x ≡ [] → IsSound steps m other → m.seen seat ≤ n → n ≤ length m.log → after x m ≡ record { log = m.log; seen = at_seat seat n m.seen; pin = m.pin } → IsSound (steps ++ x ∷ []) (after x m) other × IsOnward other m (after x m)
sees steps x m seat other n true t none h up few is =
    let next : Machine = record { log = m.log; seen = at_seat seat n m.seen; pin = m.pin } in
    let there : next.seen other ≡ n = mine seat other n m.seen t in
    let from : m.seen other ≤ n = subst (λ (k : ℕ). m.seen k ≤ n) (sym (seat_of other seat t)) up in
    subst (λ (z : Machine). IsSound (steps ++ x ∷ []) z other × IsOnward other m z) (sym is)
    (kept steps x m next other none h refl (subst (λ (k : ℕ). m.seen other ≤ k) (sym there) from) (subst (λ (k : ℕ). k ≤ length m.log) (sym there) few) (less_itself (m.pin other))
    (less_after (m.pin other) (Some (m.seen other)) (Some (next.seen other)) h.pinned (subst (λ (k : ℕ). m.seen other ≤ k) (sym there) from)))
sees steps x m seat other n false t none h up few is =
    let next : Machine = record { log = m.log; seen = at_seat seat n m.seen; pin = m.pin } in
    let there : next.seen other ≡ m.seen other = theirs seat other n m.seen t in
    subst (λ (z : Machine). IsSound (steps ++ x ∷ []) z other × IsOnward other m z) (sym is)
    (kept steps x m next other none h refl (let e = there in omega arith) (subst (λ (k : ℕ). k ≤ length m.log) (sym there) h.seen) (less_itself (m.pin other))
    (subst (λ (k : ℕ). IsNoLess (m.pin other) (Some k)) (sym there) h.pinned))

pins : {E : Type 0} → (steps : List (Step E)) (m : Machine) (seat other n : ℕ) (b : Bool) → (other == seat) ≡ b → IsSound steps m other → m.seen seat ≤ n → n ≤ length m.log → IsSound (steps ++ Pin seat n ∷ []) (after {E = E} (Pin seat n) m) other × IsOnward other m (after {E = E} (Pin seat n) m)
pins {E} steps m seat other n true t h up few =
    let there : at_seat seat n m.seen other ≡ n = mine seat other n m.seen t in
    let pin : at_seat seat (Some n) m.pin other ≡ Some n = mine seat other (Some n) m.pin t in
    let from : m.seen other ≤ n = subst (λ (k : ℕ). m.seen k ≤ n) (sym (seat_of other seat t)) up in
    kept steps (Pin seat n) m (after {E = E} (Pin seat n) m) other refl h refl (subst (λ (k : ℕ). m.seen other ≤ k) (sym there) from) (subst (λ (k : ℕ). k ≤ length m.log) (sym there) few)
    (subst (IsNoLess (m.pin other)) (sym pin) (less_after (m.pin other) (Some (m.seen other)) (Some n) h.pinned from))
    (subst (λ (o : Option ℕ). IsNoLess o (Some (at_seat seat n m.seen other))) (sym pin) (let e : at_seat seat n m.seen other ≡ n = there in omega arith))
pins {E} steps m seat other n false t h up few =
    let there : at_seat seat n m.seen other ≡ m.seen other = theirs seat other n m.seen t in
    let pin : at_seat seat (Some n) m.pin other ≡ m.pin other = theirs seat other (Some n) m.pin t in
    kept steps (Pin seat n) m (after {E = E} (Pin seat n) m) other refl h refl (let e = there in omega arith) (subst (λ (k : ℕ). k ≤ length m.log) (sym there) h.seen)
    (subst (IsNoLess (m.pin other)) (sym pin) (less_itself (m.pin other)))
    (subst (λ (o : Option ℕ). IsNoLess o (Some (at_seat seat n m.seen other))) (sym pin) (subst (λ (k : ℕ). IsNoLess (m.pin other) (Some k)) (sym there) h.pinned))

accepts : {E : Type 0} → (steps : List (Step E)) (m : Machine) (seat other : ℕ) (base : Option ℕ) (edits : List Edit) (b : Bool) → (other == seat) ≡ b → IsSound steps m other → IsSound (steps ++ Accept seat base edits ∷ []) (after {E = E} (Accept seat base edits) m) other × IsOnward other m (after {E = E} (Accept seat base edits) m)
accepts {E} steps m seat other base edits true t h =
    let same : other ≡ seat = seat_of other seat t in
    let e = entry seat (length (own seat m.log)) edits in
    let n = length m.log + 1 in
    let there : at_seat seat n m.seen other ≡ n = mine seat other n m.seen t in
    let pin : at_seat seat (Some n) m.pin other ≡ Some n = mine seat other (Some n) m.pin t in
    let longer : length (m.log ++ e ∷ []) ≡ n = length-append m.log (e ∷ []) in
    let mark : (seat == other) ≡ true = (Decides-eqb seat other).1 (sym same) in
    let counted : length (own seat m.log) ≡ length (accepted other steps) =
    ap (λ (k : ℕ). length (own k m.log)) (sym same) ∙ (ap length h.own_entries ∙ length-numbered other 0 (accepted other steps)) in
    let serial : length (own seat m.log) ≡ 0 + length (accepted other steps) = omega (arith, counted) in
    let one : accepted_by {E = E} other (Accept seat base edits) ≡ edits ∷ [] = ap (λ (c : Bool). if c then edits ∷ [] else []) mark in
    let low : m.seen other ≤ length m.log = h.seen in (
      record {
        seen = (let a = there in let c = longer in omega arith);
        pinned = subst (λ (o : Option ℕ). IsNoLess o (Some (at_seat seat n m.seen other))) (sym pin) (let a = there in omega arith);
        own_entries =
            own_with other m.log e true mark
            ∙ (ap (λ (es : List Entry). es ++ e ∷ []) h.own_entries
            ∙ ((λ i. numbered_from other 0 (accepted other steps) ++ entry (sym same i) (serial i) edits ∷ [])
            ∙ (sym (numbered_push other 0 (accepted other steps) edits)
            ∙ ap (numbered_from other 0) (sym (accepted_push other steps (Accept seat base edits) ∙ ap (λ (es : List (List Edit)). accepted other steps ++ es) one)))));
        all_seen = ap (λ (k : ℕ). own other (drop k (m.log ++ e ∷ []))) there ∙ ap (own other) (drop_all n (m.log ++ e ∷ []) (omega (arith, longer)));
      },
      record {
        seen = (let a = there in omega arith);
        pin = subst (IsNoLess (m.pin other)) (sym pin) (less_after (m.pin other) (Some (m.seen other)) (Some n) h.pinned (omega arith));
      },
    )
accepts {E} steps m seat other base edits false t h =
    let e = entry seat (length (own seat m.log)) edits in
    let n = length m.log + 1 in
    let there : at_seat seat n m.seen other ≡ m.seen other = theirs seat other n m.seen t in
    let pin : at_seat seat (Some n) m.pin other ≡ m.pin other = theirs seat other (Some n) m.pin t in
    let longer : length (m.log ++ e ∷ []) ≡ n = length-append m.log (e ∷ []) in
    let mark : (seat == other) ≡ false = other_of other seat t in
    let none : accepted_by {E = E} other (Accept seat base edits) ≡ [] = ap (λ (c : Bool). if c then edits ∷ [] else []) mark in
    let low : m.seen other ≤ length m.log = h.seen in (
      record {
        seen = (let a = there in let c = longer in omega arith);
        pinned = subst (λ (o : Option ℕ). IsNoLess o (Some (at_seat seat n m.seen other))) (sym pin) (subst (λ (k : ℕ). IsNoLess (m.pin other) (Some k)) (sym there) h.pinned);
        own_entries =
            own_with other m.log e false mark
            ∙ (append-nil (own other m.log) ∙ (h.own_entries ∙ ap (numbered_from other 0) (sym (none_accepted other steps (Accept seat base edits) none))));
        all_seen =
            ap (λ (k : ℕ). own other (drop k (m.log ++ e ∷ []))) there
            ∙ (ap (own other) (drop-append-le (m.seen other) m.log (e ∷ []) low)
            ∙ (own_with other (drop (m.seen other) m.log) e false mark ∙ (append-nil (own other (drop (m.seen other) m.log)) ∙ h.all_seen)));
      },
      record {
        seen = (let a = there in omega arith);
        pin = subst (IsNoLess (m.pin other)) (sym pin) (less_itself (m.pin other));
      },
    )

-- each step keeps what holds
stepped : {E : Type 0} (IsDue : DueOver E) (steps : List (Step E)) (x : Step E) (m : Machine) (other : ℕ) → ((seat : ℕ) → IsSound steps m seat)
    → IsAllowed IsDue x m → IsSound (steps ++ x ∷ []) (after x m) other × IsOnward other m (after x m)
stepped IsDue steps (Pin seat n) m other h a = pins steps m seat other n (other == seat) refl (h other) a.0 a.1
stepped IsDue steps (Accept seat base edits) m other h a = accepts steps m seat other base edits (other == seat) refl (h other)
stepped IsDue steps (Refuse seat base edits) m other h a =
    sees steps (Refuse seat base edits) m seat other (length m.log) (other == seat) refl refl (h other) (h seat).seen (omega arith) refl
stepped IsDue steps (Want seat n) m other h (inl e) =
    sees steps (Want seat n) m seat other n (other == seat) refl refl (h other) (let f : n ≡ m.seen seat = e in omega arith) (let f : n ≡ m.seen seat = e in let g = (h seat).seen in omega arith) refl
stepped IsDue steps (Want seat n) m other h (inr e) =
    sees steps (Want seat n) m seat other n (other == seat) refl refl (h other) (let f : n ≡ length m.log = e in let g = (h seat).seen in omega arith) (let f : n ≡ length m.log = e in omega arith) refl
stepped IsDue steps (Learn seat note n) m other h a = sees steps (Learn seat note n) m seat other n (other == seat) refl refl (h other) a.0 a.2 refl
stepped IsDue steps (Ask seat user exchange) m other h a =
    kept steps (Ask seat user exchange) m m other refl (h other) refl (omega arith) (h other).seen (less_itself (m.pin other)) (h other).pinned

all_stepped : {E : Type 0} (IsDue : DueOver E) (done steps : List (Step E)) (m : Machine) → ((seat : ℕ) → IsSound done m seat)
    → AreAllowed IsDue steps m → (seat : ℕ) → IsSound (done ++ steps) (after_all steps m) seat × IsOnward seat m (after_all steps m)
all_stepped {E} IsDue done [] m h a seat = (subst (λ (xs : List (Step E)). IsSound xs m seat) (sym (append-nil done)) (h seat), onward_itself seat m)
all_stepped {E} IsDue done (x ∷ steps) m h a seat =
    let r = all_stepped IsDue (done ++ x ∷ []) steps (after x m) (λ other. (stepped IsDue done x m other h a.0).0) a.1 seat in (
      subst (λ (xs : List (Step E)). IsSound xs (after_all steps (after x m)) seat) (append_assoc done (x ∷ []) steps) r.0,
      onward_after seat m (after x m) (after_all steps (after x m)) (stepped IsDue done x m seat h a.0).1 r.1,
    )

opened : {E : Type 0} (seat : ℕ) → IsSound {E = E} [] opening seat
opened seat = record { seen = omega arith; pinned = tt; own_entries = refl; all_seen = refl }

allowed_front : {E : Type 0} (IsDue : DueOver E) (steps more : List (Step E)) (m : Machine) → AreAllowed IsDue (steps ++ more) m
    → AreAllowed IsDue steps m × AreAllowed IsDue more (after_all steps m)
allowed_front IsDue [] more m a = (tt, a)
allowed_front IsDue (x ∷ steps) more m a = let r = allowed_front IsDue steps more (after x m) a.1 in ((a.0, r.0), r.1)

after_both : {E : Type 0} (steps more : List (Step E)) (m : Machine) → after_all (steps ++ more) m ≡ after_all more (after_all steps m)
after_both [] more m = refl
after_both (x ∷ steps) more m = after_both steps more (after x m)

-- the log only grows, so a version of it stays what it was
grown : {E : Type 0} (x : Step E) (m : Machine) → Begins m.log (after x m).log
grown (Pin seat n) m = ([], append-nil m.log)
grown (Accept seat base edits) m = (entry seat (length (own seat m.log)) edits ∷ [], refl)
grown (Refuse seat base edits) m = ([], append-nil m.log)
grown (Want seat n) m = ([], append-nil m.log)
grown (Learn seat note n) m = ([], append-nil m.log)
grown (Ask seat user exchange) m = ([], append-nil m.log)

grown_all : {E : Type 0} (steps : List (Step E)) (m : Machine) → Begins m.log (after_all steps m).log
grown_all [] m = ([], append-nil m.log)
grown_all (x ∷ steps) m =
    let one = grown x m in
    let all = grown_all steps (after x m) in
    (one.0 ++ all.0, sym (append_assoc m.log one.0 all.0) ∙ ap (λ (l : List Entry). l ++ all.0) one.1 ∙ all.1)

due_later : {E : Type 0} (IsDue : DueOver E) (log log' : List Entry) (pin : Option ℕ) (user : List ℕ) (exchange : E)
    → IsNoLess pin (Some (length log)) → Begins log log' → IsDueAt IsDue log pin user exchange → IsDueAt IsDue log' pin user exchange
due_later IsDue log log' None user exchange low begins due = due
due_later IsDue log log' (Some n) user exchange low (more, e) due =
    let same : take n log' ≡ take n log = ap (take n) (sym e) ∙ take-append-le n log more low in
    subst (λ (es : List Entry). IsDue (graph_rows (granted_rows user (replay es))) exchange) (sym same) due

-- a question that is next is one of the steps that are allowed
asked_next : {E : Type 0} (IsDue : DueOver E) (seat : ℕ) (more : List (Step E)) (m : Machine) → IsNoLess (m.pin seat) (Some (length m.log))
    → AreAllowed IsDue more m → IsReplied IsDue seat more m (after_all more m)
asked_next {E} IsDue seat more m low a user exchange others e =
    let next : AreAllowed IsDue (Ask seat user exchange ∷ others) m = subst (λ (xs : List (Step E)). AreAllowed IsDue xs m) e a in
    due_later IsDue m.log (after_all more m).log (m.pin seat) user exchange low (grown_all more m) next.0

pub core_law : {E : Type 0} (IsDue : DueOver E) → CoreLaw IsDue
core_law IsDue steps more seat a =
    let f = allowed_front IsDue steps more opening a in
    let front : (other : ℕ) → IsSound steps (after_all steps opening) other = λ other. (all_stepped IsDue [] steps opening opened f.0 other).0 in
    let rest = all_stepped IsDue steps more (after_all steps opening) front f.1 seat in
    let mid : Machine = after_all steps opening in
    let low : IsNoLess (mid.pin seat) (Some (length mid.log)) =
    less_after (mid.pin seat) (Some (mid.seen seat)) (Some (length mid.log)) (front seat).pinned (front seat).seen in
    subst (λ (z : Machine). Holds IsDue seat steps more mid z) (sym (after_both steps more opening))
    (record { sound = rest.0; onward = rest.1; replied = asked_next IsDue seat more mid low f.1 })
