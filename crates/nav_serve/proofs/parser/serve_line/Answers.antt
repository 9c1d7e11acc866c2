use Rattle.std.proofs.Common.{rules, ◌≡◌, false, codes}
use Rattle.std.proofs.lemmas.Result.{IfOk-weaker}
use Rattle.clap.specs.Words.{rule_of}
use Rattle.nav_serve.specs.CommandLine.{alone, and_word, wanted}
use Rattle.nav_serve.proofs.Builders.{IsLine, with_arg}
use Rattle.nav_serve.proofs.parser.serve_line.Goals as goal

pub returns : goal.returns
returns c =
    let port_is : rule_of c.required.result ≡ wanted (codes "port") = search rules in
    let port_stays : c.required.result.global ≡ false = search rules in
    let doors_is : rule_of c.required-2.result ≡ wanted (codes "doors") = search rules in
    let doors_stays : c.required-2.result.global ≡ false = search rules in
    let connections_is : rule_of c.required-3.result ≡ wanted (codes "connections") = search rules in
    let connections_stays : c.required-3.result.global ≡ false = search rules in
    let line_1 : IsLine (and_word (alone (codes "serve")) (codes "port")) c.in_ok-arg.field-0 =
    with_arg (alone (codes "serve")) (wanted (codes "port")) c.new.result c.in_ok-arg.field-0 c.required.result c.in_ok-arg.ensures (c.new.ensures.app, c.new.ensures.local) port_is port_stays in
    let line_2 : IsLine (and_word (and_word (alone (codes "serve")) (codes "port")) (codes "doors")) c.in_ok-arg-2.field-0 =
    with_arg (and_word (alone (codes "serve")) (codes "port")) (wanted (codes "doors")) c.in_ok-arg.field-0 c.in_ok-arg-2.field-0 c.required-2.result c.in_ok-arg-2.ensures line_1 doors_is doors_stays in
    IfOk-weaker c.arg-3.result _ _
    (λ line adds. with_arg (and_word (and_word (alone (codes "serve")) (codes "port")) (codes "doors")) (wanted (codes "connections")) c.in_ok-arg-2.field-0 line c.required-3.result adds line_2 connections_is connections_stays)
    c.arg-3.ensures
