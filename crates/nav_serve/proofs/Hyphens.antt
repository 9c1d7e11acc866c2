-- Words that are no command: more of them than a command has, and ones that begin with a hyphen.
use Rattle.std.proofs.Common.{◌≡◌, ◌||◌, ℕ, Bool, true, false, List, [], ◌∷◌, Option, None, Some, if◌then◌else◌, codes, refl, ap}
use Rattle.std.specs.List.{list_any}
use Rattle.std.specs.Str.{bytes_eq}
use Rattle.std.proofs.lemmas.Bool.{eqb-true}
use Rattle.clap.specs.Words.{Text}
use Rattle.nav_serve.specs.declared.words.Command.{Command}
use Rattle.nav_serve.specs.Words.{command_of, command_named, demo_of, serve_of, number_of}
use Rattle.nav_serve.specs.CommandLine.{has_hyphen}

-- two words or more are a command only where the first is `demo` or `serve`
pub alone_only : (word x : Text) (xs : List Text) → bytes_eq word (codes "demo") ≡ false → bytes_eq word (codes "serve") ≡ false
    → command_of (word ∷ x ∷ xs) ≡ None
alone_only word x [] d s = refl
alone_only word x (y ∷ []) d s = rw d refl
alone_only word x (y ∷ z ∷ []) d s = rw s refl
alone_only word x (y ∷ z ∷ a ∷ more) d s = refl

-- a word that begins with a hyphen is the name of no command and no number
hyphen_first : (word : Text) → has_hyphen word ≡ true → (rest : Text) × (word ≡ 45 ∷ rest)
hyphen_first [] h = absurd (cc h)
hyphen_first (byte ∷ bytes) h = (bytes, ap (λ (b : ℕ). b ∷ bytes) (eqb-true byte 45 h))

no_name : (word : Text) → has_hyphen word ≡ true → command_named word ≡ None
no_name word h = let w = hyphen_first word h in rw w.1 refl

no_number : (word : Text) → has_hyphen word ≡ true → number_of word ≡ None
no_number word h = let w = hyphen_first word h in rw w.1 refl

is_neither : (word : Text) → has_hyphen word ≡ true → (bytes_eq word (codes "demo") ≡ false) × (bytes_eq word (codes "serve") ≡ false)
is_neither word h = let w = hyphen_first word h in (rw w.1 refl, rw w.1 refl)

if_none : (test : Bool) (given : Option Command) → given ≡ None → (if test then given else None) ≡ None
if_none true given e = e
if_none false given e = refl

demo_start : (files : Option ℕ) → demo_of files None ≡ None
demo_start None = refl
demo_start (Some files) = refl

serve_doors : (port connections : Option ℕ) → serve_of port None connections ≡ None
serve_doors None connections = refl
serve_doors (Some port) connections = refl

serve_connections : (port doors : Option ℕ) → serve_of port doors None ≡ None
serve_connections None doors = refl
serve_connections (Some port) None = refl
serve_connections (Some port) (Some doors) = refl

demo_none : (x y : Text) (a b : Bool) → has_hyphen x ≡ a → has_hyphen y ≡ b → (a || (b || false)) ≡ true → demo_of (number_of x) (number_of y) ≡ None
demo_none x y true b ea eb e = rw (no_number x ea) refl
demo_none x y false true ea eb e = rw (no_number y eb) (demo_start (number_of x))
demo_none x y false false ea eb e = absurd (cc e)

serve_none : (x y z : Text) (a b c : Bool) → has_hyphen x ≡ a → has_hyphen y ≡ b → has_hyphen z ≡ c → (a || (b || (c || false))) ≡ true
    → serve_of (number_of x) (number_of y) (number_of z) ≡ None
serve_none x y z true b c ea eb ec e = rw (no_number x ea) refl
serve_none x y z false true c ea eb ec e = rw (no_number y eb) (serve_doors (number_of x) (number_of z))
serve_none x y z false false true ea eb ec e = rw (no_number z ec) (serve_connections (number_of x) (number_of y))
serve_none x y z false false false ea eb ec e = absurd (cc e)

first_or_more : (word : Text) (words : List Text) (a : Bool) → has_hyphen word ≡ a → (a || list_any has_hyphen words) ≡ true → command_of (word ∷ words) ≡ None
first_or_more word [] true ea e = no_name word ea
first_or_more word [] false ea e = absurd (cc e)
first_or_more word (x ∷ xs) true ea e = let n = is_neither word ea in alone_only word x xs n.0 n.1
first_or_more word (x ∷ []) false ea e = refl
first_or_more word (x ∷ y ∷ []) false ea e = if_none (bytes_eq word (codes "demo")) _ (demo_none x y _ _ refl refl e)
first_or_more word (x ∷ y ∷ z ∷ []) false ea e = if_none (bytes_eq word (codes "serve")) _ (serve_none x y z _ _ _ refl refl refl e)
first_or_more word (x ∷ y ∷ z ∷ a ∷ more) false ea e = refl

-- words of which one begins with a hyphen are no command
pub hyphen_none : (words : List Text) → list_any has_hyphen words ≡ true → command_of words ≡ None
hyphen_none [] h = refl
hyphen_none (word ∷ words) h = first_or_more word words _ refl h
