-- The path of a module, by whether it is UTF-8.
use Rattle.std.proofs.Common.{◌≡◌, ℕ, Bool, true, false, List, Option, Some, None, Result, IfOk, if◌then◌else◌, ◌&&◌, refl, sym, ap, subst, ◌∙◌}
use Rattle.std.specs.Str.{IsUtf8, is_utf8}
use Rattle.std.proofs.lemmas.Str.{IsUtf8-from_is_utf8, is_utf8-from_IsUtf8}
use Rattle.lsp_answers.specs.Documents.{names_module, module_path}

utf8_path : (path : List ℕ) → IsUtf8 path → (if names_module path then Some path else None) ≡ module_path path
utf8_path path u = ap (λ b. if b && names_module path then Some path else None) (sym (is_utf8-from_IsUtf8 path u))

module _ {E : Type 0} where
  in_utf8_by : (r : Result (Option (List ℕ)) E) (path text : List ℕ) → text ≡ path → IsUtf8 path
      → IfOk r (λ found. found ≡ if names_module text then Some text else None) → IfOk r (λ found. found ≡ module_path path)
  in_utf8_by r path text same u h =
      let e : (if names_module text then Some text else None) ≡ module_path path = ap (λ t. if names_module t then Some t else None) same ∙ utf8_path path u in
      subst (λ (o : Option (List ℕ)). IfOk r (λ found. found ≡ o)) e h

pub not_utf8 : (path : List ℕ) → (IsUtf8 path → ⊥) → None ≡ module_path path
not_utf8 path other = by (is_utf8 path) refl
  where
    by : (b : Bool) → is_utf8 path ≡ b → None ≡ module_path path
    by true e = absurd (other (IsUtf8-from_is_utf8 path e))
    by false e = ap (λ b. if b && names_module path then Some path else None) (sym e)

pub in_utf8 : {E : Type 0} (r : Result (Option (List ℕ)) E) (path text : List ℕ) → text ≡ path → IsUtf8 path
    → IfOk r (λ found. found ≡ if names_module text then Some text else None) → IfOk r (λ found. found ≡ module_path path)
in_utf8 r path text same u h = in_utf8_by r path text same u h
