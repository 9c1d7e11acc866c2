-- Where there is no command nothing is done. A demonstration uses no source, so whatever that tells stays.
use Rattle.std.proofs.Common.{◌≡◌, Some}
use Rattle.nav_doors.specs.Connections.{outside}
use Rattle.nav_doors.specs.Houses.{house_with}
use Rattle.nav_serve.specs.declared.words.Command.TheVariants.{Demo, Serve}
use Rattle.nav_serve.specs.Words.{command_of, texts}
use Rattle.nav_serve.specs.Outside.{scene, seen_at}
use Rattle.nav_serve.proofs.CallerLemmas.{blames_sink, keeps_one, keeps_without, no_source_in_demo}
use Rattle.nav_serve.proofs.Spelled.{serves_by_few}
use Rattle.nav_serve.proofs.running.run.Goals as goal

pub returns-in-Err-clause-keeps : goal.returns-in-Err-clause-keeps
returns-in-Err-clause-keeps g c =
    let o = outside g.H.D.Door.gave g.H.D.Door.got_back g.H.D.Door.faults g.H.D.S.Source.left g.H.D.S.Source.faults g.H.D.K.Sink.held g.H.D.K.Sink.faults in
    let house = house_with (g.H.House.gave c.args.house.now) (g.H.House.got_back c.args.house.now) (g.H.House.faults c.args.house.now) in
    keeps_without o (command_of (texts c.args.words.now)) (g.S.Source.left c.args.source.now) (g.K.Sink.held c.args.sink.now)
    (g.S.Source.faults c.args.source.now) (g.K.Sink.faults c.args.sink.now) house (g.B.Pins.seat c.args.board.now)
    (g.B.Pins.log c.args.board.now) c.in-Err.status c.in-Err.ensures.none

pub returns-in-Ok-Demo-clause-keeps : goal.returns-in-Ok-Demo-clause-keeps
returns-in-Ok-Demo-clause-keeps g c =
    let o = outside g.H.D.Door.gave g.H.D.Door.got_back g.H.D.Door.faults g.H.D.S.Source.left g.H.D.S.Source.faults g.H.D.K.Sink.held g.H.D.K.Sink.faults in
    let house = house_with (g.H.House.gave c.args.house.now) (g.H.House.got_back c.args.house.now) (g.H.House.faults c.args.house.now) in
    let before = scene (seen_at g.S.Source g.K.Sink c.args.source.now c.args.sink.now) house (g.B.Pins.seat c.args.board.now) (g.B.Pins.log c.args.board.now) in
    let after = scene (seen_at g.S.Source g.K.Sink c.args.source.now c.demo.new.sink) house (g.B.Pins.seat c.demo.new.board) (g.B.Pins.log c.demo.new.board) in
    let is : command_of (texts c.args.words.now) ≡ Some (Demo c.in-Ok-Demo.files c.in-Ok-Demo.start) = cc (c.in-Ok-Demo.ensures.command, c.in-Ok-Demo.field-0-is) in
    keeps_one o (command_of (texts c.args.words.now)) (Demo c.in-Ok-Demo.files c.in-Ok-Demo.start) before after c.demo.result
    is c.demo.ensures.statuses
    (blames_sink (g.S.Source.left c.args.source.now) (g.K.Sink.held c.args.sink.now) (g.K.Sink.held c.demo.new.sink) (g.S.Source.faults c.args.source.now)
    (g.K.Sink.faults c.args.sink.now) (g.K.Sink.faults c.demo.new.sink) c.demo.result
    (no_source_in_demo c.demo.result c.demo.ensures.statuses) c.demo.ensures.sink_failed c.demo.ensures.sink_count)
    (λ none. c.demo.ensures.unhindered none.sink)
    c.demo.ensures.demonstrates c.demo.ensures.seat

pub serve_house-requires-clause-some : goal.serve_house-requires-clause-some
serve_house-requires-clause-some g c = λ κs lives.
    let is : command_of (texts c.args.words.now) ≡ Some (Serve c.in-Ok-Serve.port c.in-Ok-Serve.doors c.in-Ok-Serve.connections) =
    cc (c.in-Ok-Serve.ensures.command, c.in-Ok-Serve.field-0-is) in
    (serves_by_few (texts c.args.words.now) c.in-Ok-Serve.port c.in-Ok-Serve.doors c.in-Ok-Serve.connections is).0

pub serve_house-requires-clause-few : goal.serve_house-requires-clause-few
serve_house-requires-clause-few g c = λ κs lives.
    let is : command_of (texts c.args.words.now) ≡ Some (Serve c.in-Ok-Serve.port c.in-Ok-Serve.doors c.in-Ok-Serve.connections) =
    cc (c.in-Ok-Serve.ensures.command, c.in-Ok-Serve.field-0-is) in
    (serves_by_few (texts c.args.words.now) c.in-Ok-Serve.port c.in-Ok-Serve.doors c.in-Ok-Serve.connections is).1
