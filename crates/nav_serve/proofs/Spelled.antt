-- What words that spell `serve` tell of its numbers.
use Rattle.std.proofs.Common.{◌≡◌, ℕ, ◌≤◌, ◌&&◌, nat_le, Bool, true, false, List, [], ◌∷◌, Option, None, Some, if◌then◌else◌, codes, refl, subst}
use Rattle.std.specs.Str.{bytes_eq}
use Rattle.std.proofs.lemmas.Bool.{leb-true}
use Rattle.nav_serve.specs.declared.words.Command.{Command}
use Rattle.nav_serve.specs.declared.words.Command.TheVariants.{Once, Upgrade, Run, Lsp, Demo, Serve}
use Rattle.nav_serve.specs.Words.{command_of, command_named, demo_of, serve_of, number_of}

if_some : (test : Bool) (given : Command) (wanted : Command) → (if test then Some given else None) ≡ Some wanted → (test ≡ true) × (given ≡ wanted)
if_some true given wanted e = (refl, cc e)
if_some false given wanted e = absurd (cc e)

both : (a b : Bool) → (a && b) ≡ true → (a ≡ true) × (b ≡ true)
both true b e = (refl, e)
both false b e = absurd (cc e)

-- `serve` has 1 to 32 doors
few_doors : (port doors connections : Option ℕ) (p d c : ℕ) → serve_of port doors connections ≡ Some (Serve p d c) → (1 ≤ d) × (d ≤ 32)
few_doors None doors connections p d c e = absurd (cc e)
few_doors (Some port) None connections p d c e = absurd (cc e)
few_doors (Some port) (Some doors) None p d c e = absurd (cc e)
few_doors (Some port) (Some doors) (Some connections) p d c e =
    let h = if_some (nat_le 1 port && nat_le port 65535 && nat_le 1 doors && nat_le doors 32 && nat_le 1 connections && nat_le connections 1000) (Serve port doors connections) (Serve p d c) e in
    let same : doors ≡ d = cc h.1 in
    let t1 = both _ (nat_le connections 1000) h.0 in
    let t2 = both _ (nat_le 1 connections) t1.0 in
    let t3 = both _ (nat_le doors 32) t2.0 in
    let t4 = both _ (nat_le 1 doors) t3.0 in
    subst (λ (n : ℕ). (1 ≤ n) × (n ≤ 32)) same (leb-true 1 doors t4.1, leb-true doors 32 t3.1)

none_is_serve : (once upgrade run lsp : Bool) (p d c : ℕ)
    → (if once then Some Once else if upgrade then Some Upgrade else if run then Some Run else if lsp then Some Lsp else None) ≡ Some (Serve p d c) → ⊥
none_is_serve true upgrade run lsp p d c e = cc e
none_is_serve false true run lsp p d c e = cc e
none_is_serve false false true lsp p d c e = cc e
none_is_serve false false false true p d c e = cc e
none_is_serve false false false false p d c e = cc e

named_is_short : (word : List ℕ) (p d c : ℕ) → command_named word ≡ Some (Serve p d c) → ⊥
named_is_short word p d c e = none_is_serve (bytes_eq word (codes "once")) (bytes_eq word (codes "upgrade")) (bytes_eq word (codes "run")) (bytes_eq word (codes "lsp")) p d c e

demo_is_other : (files start : Option ℕ) (p d c : ℕ) → demo_of files start ≡ Some (Serve p d c) → ⊥
demo_is_other None start p d c e = cc e
demo_is_other (Some files) None p d c e = cc e
demo_is_other (Some files) (Some start) p d c e =
    let h = if_some (nat_le 1 files && nat_le files 2048) (Demo files start) (Serve p d c) e in cc h.1

if_none : (test : Bool) (given : Option Command) (p d c : ℕ) → (if test then given else None) ≡ Some (Serve p d c) → given ≡ Some (Serve p d c)
if_none true given p d c e = e
if_none false given p d c e = absurd (cc e)

pub serves_by_few : (words : List (List ℕ)) (p d c : ℕ) → command_of words ≡ Some (Serve p d c) → (1 ≤ d) × (d ≤ 32)
serves_by_few [] p d c e = absurd (cc e)
serves_by_few (word ∷ []) p d c e = absurd (named_is_short word p d c e)
serves_by_few (word ∷ files ∷ []) p d c e = absurd (cc e)
serves_by_few (word ∷ files ∷ start ∷ []) p d c e =
    absurd (demo_is_other (number_of files) (number_of start) p d c (if_none (bytes_eq word (codes "demo")) (demo_of (number_of files) (number_of start)) p d c e))
serves_by_few (word ∷ port ∷ doors ∷ connections ∷ []) p d c e =
    few_doors (number_of port) (number_of doors) (number_of connections) p d c
    (if_none (bytes_eq word (codes "serve")) (serve_of (number_of port) (number_of doors) (number_of connections)) p d c e)
serves_by_few (word ∷ port ∷ doors ∷ connections ∷ more ∷ words) p d c e = absurd (cc e)
