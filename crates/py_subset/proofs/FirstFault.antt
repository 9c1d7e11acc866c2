-- The reading refuses the first token such that no module begins with the tokens up to and including it.
use Rattle.std.proofs.Common.{◌≡◌, ℕ, ◌+◌, ◌<◌, suc, List, [], ◌∷◌, ◌++◌, length, Result, Ok, Err, refl, ap, sym, subst, ◌∙◌, arith, append_assoc}
use Rattle.std.proofs.lemmas.List.{append_cancel_right, append-nil}
use Rattle.py_subset.specs.declared.token.Token.{Token}
use Rattle.py_subset.specs.declared.token.PyFault.{PyFault}
use Rattle.py_subset.specs.declared.token.PyFault.TheVariants as fault
use Rattle.py_subset.specs.declared.tree.Stmt.{Stmt}
use Rattle.py_subset.specs.declared.tree.Module.{Module}
use Rattle.py_subset.specs.Language.{star}
use Rattle.py_subset.specs.Layout.{tokens_of, end_line, Reads, ◌>>=◌}
use Rattle.py_subset.specs.Grammar.{stmt, block}
use Rattle.py_subset.specs.Parsers.{Reply}
use Rattle.py_subset.specs.Statements.{module_of}
use Rattle.py_subset.specs.Whole.{parse_of, whole}
use Rattle.py_subset.specs.Refusals.{refusal}
use Rattle.py_subset.specs.FirstFault.{BeginsModule, IsFirstFault, TellsFirst}
use Rattle.py_subset.proofs.CompleteGrammar.{f-module}
use Rattle.py_subset.proofs.Near.{left, moved, Alike}
use Rattle.py_subset.proofs.ReadyGrammar.{r-module}

abbrev reply : List Stmt × List Token → Reply (List Stmt)
reply x = Ok x

abbrev refused : List Token → Reply (List Stmt)
refused us = Err us

-- the reading of a list with as many turns as it needs
abbrev reading : List Token → Reply (List Stmt)
reading ts = module_of (suc (length ts)) (suc (length ts)) ts

-- With the refused token no module goes on: it would be read, and so would be the refused list.
not_beginning : (ts b us : List Token) (t : Token) (r : Reply (List Stmt)) → reading ts ≡ r → ts ≡ b ++ t ∷ us → left r ≡ t ∷ us → BeginsModule (b ++ t ∷ []) → moved r (t ∷ us) ≡ moved r (t ∷ us)
    → (more : List Token) × (whole : Module) × (moved r (t ∷ more) ≡ Ok (whole.body, []))
not_beginning ts b us t r is cut stops w same =
    let other = b ++ t ∷ w.0 in
    let near = (r-module (length ts) (length other)).near.near ts (omega arith) in
    let stop : left (reading ts) ≡ t ∷ us = ap left is ∙ stops in
    let b_is : near.0 ≡ b = append_cancel_right near.0 b (t ∷ us) (ap (λ zs. near.0 ++ zs) (sym stop) ∙ sym near.1 ∙ cut) in
    let alike : near.0 ++ t ∷ w.0 ≡ other = ap (λ zs. zs ++ t ∷ w.0) b_is in
    let short : length (near.0 ++ t ∷ w.0) < suc (length other) = omega (arith, ap length alike) in
    let does = near.2 (t ∷ w.0) (subst (λ (zs : List Token). Alike zs (t ∷ w.0)) (sym stop) refl) short in
    let list : (b ++ t ∷ []) ++ w.0 ≡ other = append_assoc b (t ∷ []) w.0 in
    let reads = f-module (length other) w.2.0 w.2.1 other w.1.body (omega arith) (subst (λ (zs : List Token). star (stmt w.2.0 (block w.2.0 w.2.1)) zs w.1.body []) list w.2.2) in
    (w.0, w.1, sym (ap (λ (x : Reply (List Stmt)). moved x (t ∷ w.0)) is) ∙ sym does ∙ ap (λ zs. module_of (suc (length other)) (suc (length other)) zs) alike ∙ reads)

not_both : (body other : List Stmt) (t : Token) (ts : List Token) → reply (body, t ∷ ts) ≡ reply (other, []) → ⊥
not_both body other t ts e =
    let pairs : (body, t ∷ ts) ≡ (other, []) = cc in
    no (ap (λ (r : List Stmt × List Token). r.1) pairs) where
      no : t ∷ ts ≡ [] → ⊥
      no h = cc

not_read : (us : List Token) (x : List Stmt × List Token) → refused us ≡ reply x → ⊥
not_read us x e = cc

abbrev pub told : PyFault → Result Module PyFault
told e = Err e

pub fault_is : (a b : PyFault) → told a ≡ told b → a ≡ b
fault_is a b e = cc

module _ (end : ℕ) (ts : List Token) (why : PyFault) where
  -- statements are read, and a token is left
  by_left : (body : List Stmt) (t : Token) (us : List Token) → reading ts ≡ Ok (body, t ∷ us) → why ≡ refusal end (t ∷ us) → IsFirstFault end ts why
  by_left body t us is e =
      let r = r-module (length ts) (length ts) in
      let v = r.moves.moves ts body (t ∷ us) (r.sound.holds ts body (t ∷ us) is) in (
        v.b,
        t ∷ us,
        v.is,
        ([], record { body = body }, (suc (length ts), suc (length ts), v.all [])),
        λ w.
            let k = not_beginning ts v.b us t (Ok (body, t ∷ us)) is v.is refl w refl in not_both body k.1.body t k.0 k.2,
        e,
      )

  -- the end is refused
  by_end : (b more : List Token) (body : List Stmt) → reading ts ≡ Err [] → ts ≡ b ++ [] → star (stmt (suc (length ts)) (block (suc (length ts)) (suc (length ts)))) (b ++ (more ++ [])) body [] → why ≡ refusal end [] → IsFirstFault end ts why
  by_end b more body is cut w e = (
    b,
    [],
    cut,
    (more ++ [], record { body = body }, (suc (length ts), suc (length ts), w)),
    λ whole d.
        let list : b ≡ ts = sym (append-nil b) ∙ sym cut in
        let reads = f-module (length ts) d.0 d.1 ts whole.body (omega arith) (subst (λ (zs : List Token). star (stmt d.0 (block d.0 d.1)) zs whole.body []) list d.2) in
        not_read [] (whole.body, []) (sym is ∙ reads),
    e,
  )

  -- a token is refused
  by_token : (b more : List Token) (body : List Stmt) (t : Token) (us : List Token) → reading ts ≡ Err (t ∷ us) → ts ≡ b ++ t ∷ us → star (stmt (suc (length ts)) (block (suc (length ts)) (suc (length ts)))) (b ++ (more ++ [])) body []
      → why ≡ refusal end (t ∷ us) → IsFirstFault end ts why
  by_token b more body t us is cut w e = (
    b,
    t ∷ us,
    cut,
    (more ++ [], record { body = body }, (suc (length ts), suc (length ts), w)),
    λ z.
        let k = not_beginning ts b us t (Err (t ∷ us)) is cut refl z refl in not_read (t ∷ k.0) (k.1.body, []) k.2,
    e,
  )

  by_reply : (r : Reply (List Stmt)) → reading ts ≡ r → whole end r ≡ Err why → IsFirstFault end ts why
  by_reply (Ok (body, [])) is e = cc
  by_reply (Ok (body, t ∷ us)) is e = by_left body t us is (sym (fault_is (refusal end (t ∷ us)) why e))
  by_reply (Err []) is e =
      let v = (r-module (length ts) (length ts)).ends.ends ts [] (omega arith) is in by_end v.b v.more v.x is v.is (v.all []) (sym (fault_is (refusal end []) why e))
  by_reply (Err (t ∷ us)) is e =
      let v = (r-module (length ts) (length ts)).ends.ends ts (t ∷ us) (omega arith) is in by_token v.b v.more v.x t us is v.is (v.all []) (sym (fault_is (refusal end (t ∷ us)) why e))

  by_reading : whole end (module_of (length ts + 1) (length ts + 1) ts) ≡ Err why → IsFirstFault end ts why
  by_reading e =
      let one : length ts + 1 ≡ suc (length ts) = omega arith in
      by_reply (reading ts) refl (ap (λ (n : ℕ). whole end (module_of n n ts)) (sym one) ∙ e)

read_of : (end : ℕ) (r : Result (List Token) PyFault) (ts : List Token) → r ≡ Ok ts → (r >>= λ ts. whole end (module_of (length ts + 1) (length ts + 1) ts)) ≡ whole end (module_of (length ts + 1) (length ts + 1) ts)
read_of end r ts e = rw e refl

-- A fault of the grammar is the first one.
pub first_fault : (text : List ℕ) (why : PyFault) → parse_of text ≡ Err why → (ts : List Token) → tokens_of text ≡ Ok ts → IsFirstFault (end_line text) ts why
unfolding parse_of
first_fault text why e ts is = by_reading (end_line text) ts why (sym (read_of (end_line text) (tokens_of text) ts is) ∙ e)

pub tells_first : (result : Result Module PyFault) (text : List ℕ) → Reads result (parse_of text) → TellsFirst text result
tells_first (Ok m) text h = tt
tells_first (Err fault.NoMemory) text h = tt
tells_first (Err (fault.NotAscii n)) text h = first_fault text (fault.NotAscii n) h
tells_first (Err (fault.BadIndent n)) text h = first_fault text (fault.BadIndent n) h
tells_first (Err (fault.BadToken n)) text h = first_fault text (fault.BadToken n) h
tells_first (Err (fault.Unsupported n)) text h = first_fault text (fault.Unsupported n) h
tells_first (Err (fault.Expected n)) text h = first_fault text (fault.Expected n) h
tells_first (Err (fault.TooDeep n)) text h = first_fault text (fault.TooDeep n) h

pub tokens_err : (end : ℕ) (r : Result (List Token) PyFault) (why : PyFault) → r ≡ Err why → (r >>= λ ts. whole end (module_of (length ts + 1) (length ts + 1) ts)) ≡ Err why
tokens_err end r why e = rw e refl

-- A fault of the tokens is the answer.
pub tells_tokens : (result : Result Module PyFault) (text : List ℕ) → Reads result (parse_of text) → (why : PyFault) → tokens_of text ≡ Err why → Reads result (Err why)
unfolding parse_of
tells_tokens result text h why e = subst (λ (r : Result Module PyFault). Reads result r) (tokens_err (end_line text) (tokens_of text) why e) h
