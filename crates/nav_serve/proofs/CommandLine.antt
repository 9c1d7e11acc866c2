-- What `clap` makes of the words.
use Rattle.std.proofs.Common.{◌≡◌, ◌∙◌, ◌||◌, ℕ, Bool, true, false, List, [], ◌∷◌, ◌++◌, Option, None, Some, codes, refl, inl, inr, sym, ap, ap₂, subst}
use Rattle.std.specs.Prelude.{fold, find, unwrap_or, is_some, ⊤}
use Rattle.std.specs.List.{list_any}
use Rattle.std.specs.Str.{bytes_eq}
use Rattle.std.proofs.lemmas.Slice.Eq.{bytes_eq-Decides}
use Rattle.std.proofs.lemmas.List.{append-nil, append_assoc}
use Rattle.clap.specs.Words.{App, Shape, Row, Rule, Text, subcommand_of, subcommand_rows_of, Kinds, HasKind, HasMatchesOf, kind_of}
use Rattle.clap.specs.Kinds.{or_else}
use Rattle.clap.specs.Lexer.{strip_byte}
use Rattle.clap.specs.Faults.{fault_of, walk_fault, turn_fault, is_simple_and_free, step_fault, level_fault, entered_fault, settle_fault, defaults_fault, check_fault}
use Rattle.clap.specs.Simple.{is_simple, built, names_of, entered, label_of}
use Rattle.clap.specs.Walk.{Held, Names, Walk, idle, value, answers_to, arg_by_index, rows_after, to_positional, walked, walk_from, nothing_held, settled, finished}
use Rattle.clap.specs.declared.error.Error.{Error}
use Rattle.clap.specs.declared.parser.matches.ArgMatches.{ArgMatches}
use Rattle.clap.specs.declared.error.kind.ErrorKind.{ErrorKind}
use Rattle.clap.specs.declared.error.kind.ErrorKind.TheVariants as kind
use Rattle.clap.proofs.OnLiterals.{clap_on_literals}
use Rattle.nav_serve.specs.declared.words.Command.{Command}
use Rattle.nav_serve.specs.Words.{command_of}
use Rattle.nav_serve.specs.CommandLine.{command_line, chosen_of, has_hyphen}
use Rattle.nav_serve.proofs.Hyphens.{alone_only}

-- the command that the faults and the subcommand tell
abbrev told : Kinds → Option (Text × List Row) → Option Command
told [] found = chosen_of found
told (kind ∷ kinds) found = None

simple : is_simple command_line ≡ true
unfolding clap_on_literals
simple = refl

free : is_simple_and_free command_line ≡ true
unfolding clap_on_literals
free = refl

-- behind the name of a subcommand the walk keeps the words, and finds no fault
keeps : (rules : List Rule) (names : Names) (w : Walk) (name : Text) (seen words : List Text)
    → fold (walked rules names) (record w { stopped = Some (name, seen) }) words ≡ record w { stopped = Some (name, seen ++ words) }
unfolding walked
keeps rules names w name seen [] = rw (append-nil seen) refl
keeps rules names w name seen (word ∷ words) = keeps rules names w name (seen ++ word ∷ []) words
    ∙ ap (λ (all : List Text). record w { stopped = Some (name, all) }) (append_assoc seen (word ∷ []) words)

silent : (s : Shape) (names : Names) (w : Walk) (name : Text) (seen words : List Text)
    → walk_fault s names (record w { stopped = Some (name, seen) }) words ≡ []
unfolding walked walk_fault
silent s names w name seen [] = refl
silent s names w name seen (word ∷ words) = silent s names w name (seen ++ word ∷ []) words

or_else-nil : (kinds : Kinds) → or_else kinds [] ≡ kinds
or_else-nil [] = refl
or_else-nil (kind ∷ kinds) = refl

abbrev line : App
line = built command_line

-- what a walk that ends so tells, where it had these faults
abbrev ended : Walk → Kinds → Option Command
ended end faults = told
    (or_else faults (or_else (entered_fault line end.stopped)
    (or_else (settle_fault line.top.rules line.top.args_override_self end.held)
    (or_else (defaults_fault (settled line.top.rules end.held).rows line.top.rules)
    (check_fault line.top (finished line.top.rules end.held) (is_some (entered line end.stopped)))))))
    (entered line end.stopped)

abbrev stopped_at : Text → List Text → Walk
stopped_at name words = record (walk_from nothing_held) { stopped = Some (name, words) }

abbrev line_told : List Text → Option Command
line_told words = told (fault_of command_line words) (subcommand_of command_line words)

-- the word doesn't begin with a hyphen
abbrev IsPlain : Text → Type 0
IsPlain x = (strip_byte 45 x ≡ None) × (bytes_eq x (45 ∷ 45 ∷ []) ≡ false)

plain : (x : Text) → has_hyphen x ≡ false → IsPlain x
plain [] h = (refl, refl)
plain (byte ∷ bytes) h = (rw h refl, rw h refl)

abbrev ArePlain : List Text → Type 0
ArePlain [] = ⊤
ArePlain (x ∷ xs) = IsPlain x × ArePlain xs

neither : (a b : Bool) → (a || b) ≡ false → (a ≡ false) × (b ≡ false)
neither true b e = absurd (cc e)
neither false true e = absurd (cc e)
neither false false e = (refl, refl)

are_plain : (xs : List Text) → list_any has_hyphen xs ≡ false → ArePlain xs
are_plain [] h = tt
are_plain (x ∷ xs) h =
    let both = neither (has_hyphen x) (list_any has_hyphen xs) h in
    (plain x both.0, are_plain xs both.1)

-- behind the name of a subcommand: a walk that stands before the positional of this number
abbrev before : Held → ℕ → Walk
before h position = record { held = h; waiting = idle; position = position; is_trailing = false; stopped = None }

-- what the walk through a subcommand of this shape tells, where it ends so and had these faults
abbrev leaf_ended : Shape → Walk → Kinds → Option Command
leaf_ended s end faults = told
    (or_else faults (or_else (settle_fault s.rules s.args_override_self end.held)
    (or_else (defaults_fault (settled s.rules end.held).rows s.rules) (check_fault s (finished s.rules end.held) false))))
    (Some (s.name, finished s.rules end.held))

abbrev leaf_told : Shape → Walk → List Text → Option Command
leaf_told s w words = leaf_ended s (fold (walked s.rules []) w words) (walk_fault s [] w words)

-- a word goes to the positional before which the walk stands
abbrev onward : Shape → Held → ℕ → Text → Walk
onward s h position word = to_positional s.rules (arg_by_index s.rules position) word (before h position) h

one_word : (s : Shape) (h : Held) (position : ℕ) (word : Text) → IsPlain word
    → (turn_fault s [] (before h position) word ≡ step_fault s position h value) × (walked s.rules [] (before h position) word ≡ onward s h position word)
unfolding walked
one_word s h position word p = (simp (p.0, p.1) refl, simp (p.0, p.1) refl)

more_words : (s : Shape) (h : Held) (position : ℕ) (word : Text) (words : List Text) → IsPlain word → step_fault s position h value ≡ []
    → leaf_told s (before h position) (word ∷ words) ≡ leaf_told s (onward s h position word) words
unfolding walk_fault
more_words s h position word words p e =
    let one = one_word s h position word p in
    let quiet : turn_fault s [] (before h position) word ≡ [] = one.0 ∙ e in
    ap₂ (λ (w : Walk) (kinds : Kinds). leaf_ended s (fold (walked s.rules []) w words) (or_else kinds (walk_fault s [] w words))) one.1 quiet

stray_word : (s : Shape) (h : Held) (position : ℕ) (word : Text) (words : List Text) (kind : ErrorKind) (kinds : Kinds) → IsPlain word
    → step_fault s position h value ≡ kind ∷ kinds → leaf_told s (before h position) (word ∷ words) ≡ None
unfolding walk_fault
stray_word s h position word words kind kinds p e =
    let one = one_word s h position word p in
    let stray : turn_fault s [] (before h position) word ≡ kind ∷ kinds = one.0 ∙ e in
    ap (λ (faults : Kinds). leaf_ended s (fold (walked s.rules []) (walked s.rules [] (before h position) word) words)
    (or_else faults (walk_fault s [] (walked s.rules [] (before h position) word) words))) stray

abbrev leaf_of : Text → Shape
leaf_of name = unwrap_or (find (λ s. answers_to name (label_of s)) line.subs) line.top

abbrev at_start : Walk
at_start = before nothing_held 1

-- nothing is asked of the words beyond what the subcommand asks
no_more : (s : Shape) (words : List Text)
    → told (or_else (level_fault s [] nothing_held words false []) []) (Some (s.name, rows_after s.rules [] words)) ≡ leaf_told s at_start words
no_more s words = rw (or_else-nil (level_fault s [] nothing_held words false [])) refl

-- a first word that names a subcommand leads into it
enters : (name : Text) (words : List Text)
    → line_told (name ∷ words) ≡ ended (fold (walked line.top.rules (names_of line)) (stopped_at name []) words) (walk_fault line.top (names_of line) (stopped_at name []) words)
    → ended (stopped_at name words) [] ≡ told (or_else (level_fault (leaf_of name) [] nothing_held words false []) []) (Some ((leaf_of name).name, rows_after (leaf_of name).rules [] words))
    → line_told (name ∷ words) ≡ leaf_told (leaf_of name) at_start words
enters name words walks stops =
    walks ∙ ap₂ ended (keeps line.top.rules (names_of line) (walk_from nothing_held) name [] words)
    (silent line.top (names_of line) (walk_from nothing_held) name [] words)
    ∙ stops ∙ no_more (leaf_of name) words

-- a subcommand that takes no words
takes_none : (name : Text) (words : List Text) → ArePlain words → leaf_told (leaf_of name) at_start [] ≡ command_of (name ∷ [])
    → step_fault (leaf_of name) 1 nothing_held value ≡ kind.UnknownArgument ∷ [] → bytes_eq name (codes "demo") ≡ false → bytes_eq name (codes "serve") ≡ false
    → leaf_told (leaf_of name) at_start words ≡ command_of (name ∷ words)
takes_none name [] p none stray demo serve = none
takes_none name (x ∷ xs) p none stray demo serve =
    stray_word (leaf_of name) nothing_held 1 x xs kind.UnknownArgument [] p.0 stray ∙ sym (alone_only name x xs demo serve)

abbrev Tells : List Text → Text → Type 0
Tells words word = line_told (word ∷ words) ≡ command_of (word ∷ words)

once_tells : (words : List Text) → ArePlain words → Tells words (codes "once")
unfolding clap_on_literals
once_tells words p = enters (codes "once") words refl refl ∙ takes_none (codes "once") words p refl refl refl refl

upgrade_tells : (words : List Text) → ArePlain words → Tells words (codes "upgrade")
unfolding clap_on_literals
upgrade_tells words p = enters (codes "upgrade") words refl refl ∙ takes_none (codes "upgrade") words p refl refl refl refl

run_tells : (words : List Text) → ArePlain words → Tells words (codes "run")
unfolding clap_on_literals
run_tells words p = enters (codes "run") words refl refl ∙ takes_none (codes "run") words p refl refl refl refl

lsp_tells : (words : List Text) → ArePlain words → Tells words (codes "lsp")
unfolding clap_on_literals
lsp_tells words p = enters (codes "lsp") words refl refl ∙ takes_none (codes "lsp") words p refl refl refl refl

-- what is held once a word has gone to the positional of this number
abbrev next_held : Shape → Held → ℕ → Text → Held
next_held s h position word = (onward s h position word).held

abbrev demo : Shape
demo = leaf_of (codes "demo")

demo_many : (x y z : Text) (more : List Text) → command_of (codes "demo" ∷ x ∷ y ∷ z ∷ more) ≡ None
demo_many x y z [] = refl
demo_many x y z (a ∷ more) = refl

demo_told : (words : List Text) → ArePlain words → leaf_told demo at_start words ≡ command_of (codes "demo" ∷ words)
unfolding clap_on_literals
demo_told [] p = refl
demo_told (x ∷ []) p = more_words demo nothing_held 1 x [] p.0 refl
demo_told (x ∷ y ∷ []) p =
    more_words demo nothing_held 1 x (y ∷ []) p.0 refl ∙ more_words demo (next_held demo nothing_held 1 x) 2 y [] p.1.0 refl
demo_told (x ∷ y ∷ z ∷ more) p =
    let first : Held = next_held demo nothing_held 1 x in
    let second : Held = next_held demo first 2 y in
    more_words demo nothing_held 1 x (y ∷ z ∷ more) p.0 refl ∙ more_words demo first 2 y (z ∷ more) p.1.0 refl
    ∙ stray_word demo second 3 z more kind.UnknownArgument [] p.1.1.0 refl ∙ sym (demo_many x y z more)

demo_tells : (words : List Text) → ArePlain words → Tells words (codes "demo")
unfolding clap_on_literals
demo_tells words p = enters (codes "demo") words refl refl ∙ demo_told words p

abbrev serve : Shape
serve = leaf_of (codes "serve")

serve_told : (words : List Text) → ArePlain words → leaf_told serve at_start words ≡ command_of (codes "serve" ∷ words)
unfolding clap_on_literals
serve_told [] p = refl
serve_told (x ∷ []) p = more_words serve nothing_held 1 x [] p.0 refl
serve_told (x ∷ y ∷ []) p =
    more_words serve nothing_held 1 x (y ∷ []) p.0 refl ∙ more_words serve (next_held serve nothing_held 1 x) 2 y [] p.1.0 refl
serve_told (x ∷ y ∷ z ∷ []) p =
    let first : Held = next_held serve nothing_held 1 x in
    let second : Held = next_held serve first 2 y in
    more_words serve nothing_held 1 x (y ∷ z ∷ []) p.0 refl ∙ more_words serve first 2 y (z ∷ []) p.1.0 refl
    ∙ more_words serve second 3 z [] p.1.1.0 refl
serve_told (x ∷ y ∷ z ∷ a ∷ more) p =
    let first : Held = next_held serve nothing_held 1 x in
    let second : Held = next_held serve first 2 y in
    let third : Held = next_held serve second 3 z in
    more_words serve nothing_held 1 x (y ∷ z ∷ a ∷ more) p.0 refl ∙ more_words serve first 2 y (z ∷ a ∷ more) p.1.0 refl
    ∙ more_words serve second 3 z (a ∷ more) p.1.1.0 refl ∙ stray_word serve third 4 a more kind.UnknownArgument [] p.1.1.1.0 refl

serve_tells : (words : List Text) → ArePlain words → Tells words (codes "serve")
unfolding clap_on_literals
serve_tells words p = enters (codes "serve") words refl refl ∙ serve_told words p

-- the word is the name of no command
record IsUnknown (word : Text) : Type 0 where
  once : bytes_eq (codes "once") word ≡ false
  upgrade : bytes_eq (codes "upgrade") word ≡ false
  run : bytes_eq (codes "run") word ≡ false
  lsp : bytes_eq (codes "lsp") word ≡ false
  demo : bytes_eq (codes "demo") word ≡ false
  serve : bytes_eq (codes "serve") word ≡ false

unknown_told : (word : Text) (words : List Text) → IsPlain word → IsUnknown word → line_told (word ∷ words) ≡ None
unfolding clap_on_literals
unknown_told word words p u = simp (p.0, p.1, u.once, u.upgrade, u.run, u.lsp, u.demo, u.serve) refl

turned : (a b : Text) → bytes_eq a b ≡ false → bytes_eq b a ≡ false
turned a b h = go (bytes_eq b a) refl
  where
    go : (t : Bool) → bytes_eq b a ≡ t → bytes_eq b a ≡ false
    go false e = e
    go true e =
        let same : b ≡ a = (bytes_eq-Decides b a).0 e in
        let bad : bytes_eq b a ≡ false = rw same (rw same at h) in
        bad

unknown_none : (word : Text) (words : List Text) → IsUnknown word → command_of (word ∷ words) ≡ None
unknown_none word [] u =
    rw (turned (codes "once") word u.once, turned (codes "upgrade") word u.upgrade, turned (codes "run") word u.run, turned (codes "lsp") word u.lsp) refl
unknown_none word (x ∷ xs) u = alone_only word x xs (turned (codes "demo") word u.demo) (turned (codes "serve") word u.serve)

is_it : (word name : Text) → bytes_eq name word ≡ true → name ≡ word
is_it word name h = (bytes_eq-Decides name word).0 h

named : (word : Text) (words : List Text) (o u r l d s : Bool) → ArePlain (word ∷ words)
    → bytes_eq (codes "once") word ≡ o → bytes_eq (codes "upgrade") word ≡ u → bytes_eq (codes "run") word ≡ r
    → bytes_eq (codes "lsp") word ≡ l → bytes_eq (codes "demo") word ≡ d → bytes_eq (codes "serve") word ≡ s → Tells words word
named word words true u r l d s p eo eu er el ed es = subst (Tells words) (is_it word _ eo) (once_tells words p.1)
named word words false true r l d s p eo eu er el ed es = subst (Tells words) (is_it word _ eu) (upgrade_tells words p.1)
named word words false false true l d s p eo eu er el ed es = subst (Tells words) (is_it word _ er) (run_tells words p.1)
named word words false false false true d s p eo eu er el ed es = subst (Tells words) (is_it word _ el) (lsp_tells words p.1)
named word words false false false false true s p eo eu er el ed es = subst (Tells words) (is_it word _ ed) (demo_tells words p.1)
named word words false false false false false true p eo eu er el ed es = subst (Tells words) (is_it word _ es) (serve_tells words p.1)
named word words false false false false false false p eo eu er el ed es =
    let u : IsUnknown word = record { once = eo; upgrade = eu; run = er; lsp = el; demo = ed; serve = es } in
    unknown_told word words p.0 u ∙ sym (unknown_none word words u)

-- the words tell the command that they are, where none begins with a hyphen
tells : (words : List Text) → list_any has_hyphen words ≡ false
    → told (fault_of command_line words) (subcommand_of command_line words) ≡ command_of words
unfolding clap_on_literals
tells [] h = refl
tells (word ∷ words) h = named word words _ _ _ _ _ _ (are_plain (word ∷ words) h) refl refl refl refl refl refl

-- matches of words of which none begins with a hyphen tell the command that they are
pub matches_tell : (app : App) (words : List Text) (m : ArgMatches) → app ≡ command_line → list_any has_hyphen words ≡ false
    → (is_simple_and_free app ≡ true → fault_of app words ≡ []) → HasMatchesOf app words m → chosen_of (subcommand_rows_of m) ≡ command_of words
matches_tell app words m is plain none has =
    let faultless : fault_of command_line words ≡ [] = subst (λ (a : App). is_simple_and_free a ≡ true → fault_of a words ≡ []) is none free in
    let found : HasMatchesOf command_line words m = subst (λ (a : App). HasMatchesOf a words m) is has in
    let rows : subcommand_rows_of m ≡ subcommand_of command_line words = (found simple).1 in
    ap chosen_of rows ∙ (ap (λ (kinds : Kinds). told kinds (subcommand_of command_line words)) (sym faultless) ∙ tells words plain)

none_told : (kinds : Kinds) (found : Option (Text × List Row)) (command : Option Command) (e : Error) → told kinds found ≡ command → HasKind kinds e
    → (kind_of e ≡ kind.OutOfMemory → ⊥) → command ≡ None
none_told [] found command e t (inl memory) other = absurd (other memory)
none_told [] found command e t (inr among) other = absurd among
none_told (kind ∷ kinds) found command e t h other = sym t

-- and where they are refused for another cause than memory, they are no command
pub error_tells : (app : App) (words : List Text) (e : Error) → app ≡ command_line → list_any has_hyphen words ≡ false
    → (is_simple_and_free app ≡ true → HasKind (fault_of app words) e) → (kind_of e ≡ kind.OutOfMemory → ⊥) → command_of words ≡ None
error_tells app words e is plain has other =
    let kinds : HasKind (fault_of command_line words) e = subst (λ (a : App). is_simple_and_free a ≡ true → HasKind (fault_of a words) e) is has free in
    none_told (fault_of command_line words) (subcommand_of command_line words) (command_of words) e (tells words plain) kinds other
