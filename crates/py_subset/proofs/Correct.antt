-- What is read is a module of the grammar.
use Rattle.std.proofs.Common.{◌≡◌, ℕ, ◌+◌, List, [], ◌∷◌, length, Result, Ok, Err, refl, ap, subst, suc, arith}
use Rattle.py_subset.specs.declared.token.Token.{Token}
use Rattle.py_subset.specs.declared.token.PyFault.{PyFault}
use Rattle.py_subset.specs.declared.tree.Stmt.{Stmt}
use Rattle.py_subset.specs.declared.tree.Module.{Module}
use Rattle.py_subset.specs.Layout.{tokens_of, end_line, Reads, ◌>>=◌}
use Rattle.py_subset.specs.Parsers.{Reply}
use Rattle.py_subset.specs.Statements.{module_of}
use Rattle.py_subset.specs.Whole.{parse_of, whole}
use Rattle.py_subset.specs.Correct.{IsModule}
use Rattle.py_subset.proofs.SoundGrammar.{s-module}
use Rattle.py_subset.proofs.CompleteGrammar.{f-module}
use Rattle.py_subset.specs.Dotted.{HasDotted}
use Rattle.py_subset.proofs.FirstFault.{tells_first, tells_tokens}
use Rattle.py_subset.proofs.DottedGrammar.{module-dotted}

whole_ok : (end : ℕ) (r : Reply (List Stmt)) (m : Module) → whole end r ≡ Ok m → r ≡ Ok (m.body, [])
whole_ok end (Ok (body, [])) m e = let p : record { body = body } ≡ m = cc in ap (λ (x : Module). Ok (x.body, [])) p
whole_ok end (Ok (body, t ∷ ts)) m e = cc
whole_ok end (Err ts) m e = cc

by_tokens : (text : List ℕ) (r : Result (List Token) PyFault) (m : Module) → tokens_of text ≡ r
    → (r >>= λ ts. whole (end_line text) (module_of (length ts + 1) (length ts + 1) ts)) ≡ Ok m → IsModule text m
by_tokens text (Ok ts) m is e = (ts, is, (length ts + 1, length ts + 1, s-module (length ts + 1) (length ts + 1) ts [] m.body (whole_ok (end_line text) (module_of (length ts + 1) (length ts + 1) ts) m e)))
by_tokens text (Err f) m is e = cc

-- The module that is read is derived by the grammar from the text's tokens.
pub derived : (text : List ℕ) (m : Module) → parse_of text ≡ Ok m → IsModule text m
unfolding parse_of
derived text m e = by_tokens text (tokens_of text) m refl e

-- It has no empty dotted name.
pub named : (text : List ℕ) (m : Module) → parse_of text ≡ Ok m → HasDotted m
named text m e = module-dotted text m (derived text m e)

run_ok : (end : ℕ) (r : Result (List Token) PyFault) (ts : List Token) (body : List Stmt) → r ≡ Ok ts → module_of (length ts + 1) (length ts + 1) ts ≡ Ok (body, [])
    → (r >>= λ ts. whole end (module_of (length ts + 1) (length ts + 1) ts)) ≡ Ok (record { body = body })
run_ok end r ts body a b = rw a (rw b refl)

-- A module that the grammar derives from the text's tokens is read.
pub found : (text : List ℕ) (m : Module) → IsModule text m → parse_of text ≡ Ok m
unfolding parse_of
found text m w =
    let ts = w.0 in
    let one : suc (length ts) ≡ length ts + 1 = omega arith in
    let run = subst (λ (n : ℕ). module_of n n ts ≡ Ok (m.body, [])) one (f-module (length ts) w.2.0 w.2.1 ts m.body (omega arith) w.2.2) in
    run_ok (end_line text) (tokens_of text) ts m.body w.1 run

reads_by : (result : Result Module PyFault) (r : Result Module PyFault) (m : Module) → Reads result r → r ≡ Ok m → Reads result (Ok m)
reads_by result r m h e = subst (λ (x : Result Module PyFault). Reads result x) e h

-- So it is the answer.
pub answered : (result : Result Module PyFault) (text : List ℕ) → Reads result (parse_of text) → (m : Module) → IsModule text m → Reads result (Ok m)
answered result text h m w = reads_by result (parse_of text) m h (found text m w)

same_ok : (a b : Module) (r : Result Module PyFault) → r ≡ Ok a → r ≡ Ok b → a ≡ b
same_ok a b r x y = cc

-- Two modules of one text are one.
pub one : (text : List ℕ) (a b : Module) → IsModule text a → IsModule text b → a ≡ b
one text a b x y = same_ok a b (parse_of text) (found text a x) (found text b y)

pub ruleset whole_texts = (derived, named, answered, tells_first, tells_tokens)
