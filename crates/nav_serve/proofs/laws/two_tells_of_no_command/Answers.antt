use Rattle.std.proofs.Common.{◌≡◌, Option, None, Some, IsTrue, refl, sym, true≢false}
use Rattle.nav_serve.specs.declared.words.Command.{Command}
use Rattle.nav_serve.specs.declared.words.Command.TheVariants.{Once, Upgrade, Run, Lsp, Demo, Serve}
use Rattle.nav_serve.specs.Headline.{may_end}
use Rattle.nav_serve.proofs.laws.two_tells_of_no_command.Goals as goal

none_at_two : (command : Option Command) → IsTrue (may_end command 2) → command ≡ None
none_at_two None h = refl
none_at_two (Some Once) h = absurd (true≢false (sym h))
none_at_two (Some Upgrade) h = absurd (true≢false (sym h))
none_at_two (Some Run) h = absurd (true≢false (sym h))
none_at_two (Some Lsp) h = absurd (true≢false (sym h))
none_at_two (Some (Demo files start)) h = absurd (true≢false (sym h))
none_at_two (Some (Serve port doors connections)) h = absurd (true≢false (sym h))

pub returns : goal.returns
returns c = none_at_two
