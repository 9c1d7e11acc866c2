use Rattle.std.proofs.Common.{rules, ◌≡◌, false, codes}
use Rattle.std.proofs.lemmas.Result.{IfOk-weaker}
use Rattle.clap.specs.Words.{rule_of}
use Rattle.nav_serve.specs.CommandLine.{alone, and_word, wanted}
use Rattle.nav_serve.proofs.Builders.{IsLine, with_arg}
use Rattle.nav_serve.proofs.parser.demo_line.Goals as goal

pub returns : goal.returns
returns c =
    let files_is : rule_of c.required.result ≡ wanted (codes "files") = search rules in
    let files_stays : c.required.result.global ≡ false = search rules in
    let start_is : rule_of c.required-2.result ≡ wanted (codes "start") = search rules in
    let start_stays : c.required-2.result.global ≡ false = search rules in
    let line_1 : IsLine (and_word (alone (codes "demo")) (codes "files")) c.in_ok-arg.field-0 =
    with_arg (alone (codes "demo")) (wanted (codes "files")) c.new.result c.in_ok-arg.field-0 c.required.result c.in_ok-arg.ensures (c.new.ensures.app, c.new.ensures.local) files_is files_stays in
    IfOk-weaker c.arg-2.result _ _
    (λ line adds. with_arg (and_word (alone (codes "demo")) (codes "files")) (wanted (codes "start")) c.in_ok-arg.field-0 line c.required-2.result adds line_1 start_is start_stays)
    c.arg-2.ensures
