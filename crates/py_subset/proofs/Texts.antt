-- A text is read as one module or one fault, which the reading with one token of lookahead gives.
use Rattle.std.proofs.Common.{◌≡◌, ◌⊎◌, ◌↔◌, inl, inr, ℕ, List, [], ◌∷◌, ◌++◌, Result, Ok, Err, refl, ap, sym, subst, ◌∙◌, append_assoc}
use Rattle.std.proofs.lemmas.List.{append-nil}
use Rattle.py_subset.specs.declared.token.Token.{Token}
use Rattle.py_subset.specs.declared.token.PyFault.{PyFault}
use Rattle.py_subset.specs.declared.token.PyFault.TheVariants as fault
use Rattle.py_subset.specs.declared.tree.Module.{Module}
use Rattle.py_subset.specs.Grammar.{Derives}
use Rattle.py_subset.specs.Layout.{tokens_of, end_line, Reads}
use Rattle.py_subset.specs.Whole.{parse_of}
use Rattle.py_subset.specs.Refusals.{refusal}
use Rattle.py_subset.specs.Correct.{IsModule}
use Rattle.py_subset.specs.FirstFault.{BeginsModule, IsRefused, IsFirstFault}
use Rattle.py_subset.specs.Texts.{HasFault, IsRead, Answers}
use Rattle.py_subset.proofs.Correct.{derived, one}
use Rattle.py_subset.proofs.FirstFault.{first_fault, fault_is, tokens_err}

-- the second list begins with the first one and the first token that is left behind that
abbrev IsLonger : List Token → List Token → List Token → Type 0
IsLonger a x b = (t : Token) × (us : List Token) × (more : List Token) × (x ≡ t ∷ us) × (b ≡ a ++ t ∷ more)

-- how two cuts of one list lie
abbrev Cuts : List Token → List Token → List Token → List Token → Type 0
Cuts a x b y = ((a ≡ b) × (x ≡ y)) ⊎ (IsLonger a x b ⊎ IsLonger b y a)

head_is : (t u : Token) (ts us : List Token) → t ∷ ts ≡ u ∷ us → t ≡ u
head_is t u ts us e = cc

tail_is : (t u : Token) (ts us : List Token) → t ∷ ts ≡ u ∷ us → ts ≡ us
tail_is t u ts us e = cc

longer_more : (t u : Token) (a x b : List Token) → t ≡ u → IsLonger a x b → IsLonger (t ∷ a) x (u ∷ b)
longer_more t u a x b e (v, us, more, is, at) = (v, us, more, is, cc (e, at))

cuts_more : (t u : Token) (a x b y : List Token) → t ≡ u → Cuts a x b y → Cuts (t ∷ a) x (u ∷ b) y
cuts_more t u a x b y e (inl (p, q)) = inl (cc (e, p), q)
cuts_more t u a x b y e (inr (inl l)) = inr (inl (longer_more t u a x b e l))
cuts_more t u a x b y e (inr (inr l)) = inr (inr (longer_more u t b y a (sym e) l))

cuts : (a x b y : List Token) → a ++ x ≡ b ++ y → Cuts a x b y
cuts [] x [] y e = inl (refl, e)
cuts [] x (t ∷ b) y e = inr (inl (t, b ++ y, b, e, refl))
cuts (t ∷ a) x [] y e = inr (inr (t, a ++ x, a, sym e, refl))
cuts (t ∷ a) x (u ∷ b) y e = cuts_more t u a x b y (head_is t u (a ++ x) (b ++ y) e) (cuts a x b y (tail_is t u (a ++ x) (b ++ y) e))

-- No module begins with a token that is refused.
begins_less : (a more : List Token) (t : Token) → BeginsModule (a ++ t ∷ more) → BeginsModule (a ++ t ∷ [])
begins_less a more t (zs, m, d) =
    let is : (a ++ t ∷ more) ++ zs ≡ (a ++ t ∷ []) ++ (more ++ zs) = append_assoc a (t ∷ more) zs ∙ sym (append_assoc a (t ∷ []) (more ++ zs)) in
    (more ++ zs, m, subst (λ (ts : List Token). Derives ts m) is d)

not_longer : (a x b : List Token) → IsRefused a x → BeginsModule b → IsLonger a x b → ⊥
not_longer a x b stops begins (t, us, more, is, at) =
    subst (λ (zs : List Token). IsRefused a zs) is stops (begins_less a more t (subst (λ (zs : List Token). BeginsModule zs) at begins))

-- A list of tokens has one first fault.
one_fault : (end : ℕ) (ts : List Token) (v w : PyFault) → IsFirstFault end ts v → IsFirstFault end ts w → v ≡ w
one_fault end ts v w (a, x, p, begins_a, stops_a, is_v) (b, y, q, begins_b, stops_b, is_w) = by (cuts a x b y (sym p ∙ q)) where
  by : Cuts a x b y → v ≡ w
  by (inl (s, t)) = is_v ∙ ap (λ (zs : List Token). refusal end zs) t ∙ sym is_w
  by (inr (inl l)) = absurd (not_longer a x b stops_a begins_b l)
  by (inr (inr l)) = absurd (not_longer b y a stops_b begins_a l)

-- The tokens of a module have none.
no_fault : (end : ℕ) (ts : List Token) (why : PyFault) (m : Module) → Derives ts m → IsFirstFault end ts why → ⊥
no_fault end ts why m d (a, [], p, begins, stops, is) = stops m (subst (λ (zs : List Token). Derives zs m) (p ∙ append-nil a) d)
no_fault end ts why m d (a, t ∷ us, p, begins, stops, is) =
    stops (us, m, subst (λ (zs : List Token). Derives zs m) (p ∙ sym (append_assoc a (t ∷ []) us)) d)

tokens_are : (r : Result (List Token) PyFault) (ts us : List Token) → r ≡ Ok ts → r ≡ Ok us → ts ≡ us
tokens_are r ts us e f = cc

fault_are : (r : Result (List Token) PyFault) (v w : PyFault) → r ≡ Err v → r ≡ Err w → v ≡ w
fault_are r v w e f = cc

not_both : (r : Result (List Token) PyFault) (ts : List Token) (why : PyFault) → r ≡ Ok ts → r ≡ Err why → ⊥
not_both r ts why e f = cc

-- A text has one fault,
faults_are_one : (text : List ℕ) (v w : PyFault) → HasFault text v → HasFault text w → v ≡ w
faults_are_one text v w (inl e) (inl f) = fault_are (tokens_of text) v w e f
faults_are_one text v w (inl e) (inr (ts, is, h)) = absurd (not_both (tokens_of text) ts v is e)
faults_are_one text v w (inr (ts, is, h)) (inl f) = absurd (not_both (tokens_of text) ts w is f)
faults_are_one text v w (inr (ts, is, h)) (inr (us, at, k)) =
    one_fault (end_line text) ts v w h (subst (λ (zs : List Token). IsFirstFault (end_line text) zs w) (tokens_are (tokens_of text) us ts at is) k)

-- and none where it is a module.
faultless : (text : List ℕ) (m : Module) (why : PyFault) → IsModule text m → HasFault text why → ⊥
faultless text m why (ts, is, d) (inl f) = not_both (tokens_of text) ts why is f
faultless text m why (ts, is, d) (inr (us, at, k)) =
    no_fault (end_line text) ts why m d (subst (λ (zs : List Token). IsFirstFault (end_line text) zs why) (tokens_are (tokens_of text) us ts at is) k)

-- A text is read as one thing alone.
pub unique : (text : List ℕ) (r s : Result Module PyFault) → IsRead text r → IsRead text s → r ≡ s
unique text (Ok a) (Ok b) x y = ap (λ (m : Module). Ok m) (one text a b x y)
unique text (Ok a) (Err w) x y = absurd (faultless text a w x y)
unique text (Err v) (Ok b) x y = absurd (faultless text b v y x)
unique text (Err v) (Err w) x y = ap (λ (e : PyFault). Err e) (faults_are_one text v w x y)

tokens_told : (text : List ℕ) (why f : PyFault) → tokens_of text ≡ Err f → parse_of text ≡ Err why → f ≡ why
unfolding parse_of
tokens_told text why f is e = fault_is f why (sym (tokens_err (end_line text) (tokens_of text) f is) ∙ e)

by_tokens : (text : List ℕ) (why : PyFault) (r : Result (List Token) PyFault) → tokens_of text ≡ r → parse_of text ≡ Err why → HasFault text why
by_tokens text why (Ok ts) is e = inr (ts, is, first_fault text why e ts is)
by_tokens text why (Err f) is e = inl (is ∙ ap (λ (v : PyFault). Err v) (tokens_told text why f is e))

-- The reading gives what the text is read as.
given : (text : List ℕ) (r : Result Module PyFault) → parse_of text ≡ r → IsRead text r
given text (Ok m) e = derived text m e
given text (Err why) e = by_tokens text why (tokens_of text) refl e

pub by_lookahead : (text : List ℕ) (r : Result Module PyFault) → IsRead text r ↔ (parse_of text ≡ r)
by_lookahead text r = (λ h. unique text (parse_of text) r (given text (parse_of text) refl) h, λ e. given text r e)

-- So an answer that the reading gives is the text's.
pub answers : (result : Result Module PyFault) (text : List ℕ) → Reads result (parse_of text) → Answers text result
answers (Ok m) text h = given text (Ok m) h
answers (Err fault.NoMemory) text h = tt
answers (Err (fault.NotAscii n)) text h = given text (Err (fault.NotAscii n)) h
answers (Err (fault.BadIndent n)) text h = given text (Err (fault.BadIndent n)) h
answers (Err (fault.BadToken n)) text h = given text (Err (fault.BadToken n)) h
answers (Err (fault.Unsupported n)) text h = given text (Err (fault.Unsupported n)) h
answers (Err (fault.Expected n)) text h = given text (Err (fault.Expected n)) h
answers (Err (fault.TooDeep n)) text h = given text (Err (fault.TooDeep n)) h

pub ruleset read_texts = (answers)
