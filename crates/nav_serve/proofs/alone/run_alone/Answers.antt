-- Where no board is made, nothing is done; where one is, what was written is by what `run` did.
use Rattle.std.proofs.Common.{ap, refl}
use Rattle.nav_doors.specs.Connections.{outside}
use Rattle.nav_doors.specs.Houses.{house_with}
use Rattle.nav_serve.specs.Words.{command_in, command_of, texts}
use Rattle.nav_serve.proofs.NoBoard.{found_in, none_in, no_words, refused, without}
use Rattle.nav_serve.proofs.Given.{keeps_alone}
use Rattle.nav_serve.proofs.alone.run_alone.Goals as goal

pub returns-in-Err-clause-keeps : goal.returns-in-Err-clause-keeps
returns-in-Err-clause-keeps g c =
    let o = outside g.H.D.Door.gave g.H.D.Door.got_back g.H.D.Door.faults g.H.D.S.Source.left g.H.D.S.Source.faults g.H.D.K.Sink.held g.H.D.K.Sink.faults in
    let house = house_with (g.H.House.gave c.args.house.now) (g.H.House.got_back c.args.house.now) (g.H.House.faults c.args.house.now) in
    no_words o (command_in c.args.words.now) (g.S.Source.left c.args.source.now) (g.K.Sink.held c.args.sink.now)
    (g.S.Source.faults c.args.source.now) (g.K.Sink.faults c.args.sink.now) house c.status_without_words.result
    (none_in c.args.words.now c.in-Err.error (cc (c.in-Err.is))) c.status_without_words.ensures.status

pub returns-in-Err-command_or_status-clause-keeps : goal.returns-in-Err-command_or_status-clause-keeps
returns-in-Err-command_or_status-clause-keeps g c =
    let o = outside g.H.D.Door.gave g.H.D.Door.got_back g.H.D.Door.faults g.H.D.S.Source.left g.H.D.S.Source.faults g.H.D.K.Sink.held g.H.D.K.Sink.faults in
    let house = house_with (g.H.House.gave c.args.house.now) (g.H.House.got_back c.args.house.now) (g.H.House.faults c.args.house.now) in
    without o (command_of (texts c.as_slice-words.result.now)) (command_in c.args.words.now) (g.S.Source.left c.args.source.now) (g.K.Sink.held c.args.sink.now)
    (g.S.Source.faults c.args.source.now) (g.K.Sink.faults c.args.sink.now) house c.in-Err-command_or_status.status
    (found_in c.args.words.now c.in-Ok.words c.as_slice-words.result.now (command_of (texts c.as_slice-words.result.now)) (cc (c.in-Ok.is)) (cc (c.as_slice-words.ensures.value)) refl)
    c.in-Err-command_or_status.ensures.none

pub returns-in_default-new-clause-keeps : goal.returns-in_default-new-clause-keeps
returns-in_default-new-clause-keeps g c =
    let o = outside g.H.D.Door.gave g.H.D.Door.got_back g.H.D.Door.faults g.H.D.S.Source.left g.H.D.S.Source.faults g.H.D.K.Sink.held g.H.D.K.Sink.faults in
    let house = house_with (g.H.House.gave c.args.house.now) (g.H.House.got_back c.args.house.now) (g.H.House.faults c.args.house.now) in
    refused o (command_in c.args.words.now) (g.S.Source.left c.args.source.now) (g.K.Sink.held c.args.sink.now)
    (g.S.Source.faults c.args.source.now) (g.K.Sink.faults c.args.sink.now) house c.status.result c.status.ensures

pub returns-clause-keeps : goal.returns-clause-keeps
returns-clause-keeps g c =
    let o = outside g.H.D.Door.gave g.H.D.Door.got_back g.H.D.Door.faults g.H.D.S.Source.left g.H.D.S.Source.faults g.H.D.K.Sink.held g.H.D.K.Sink.faults in
    let before = house_with (g.H.House.gave c.args.house.now) (g.H.House.got_back c.args.house.now) (g.H.House.faults c.args.house.now) in
    let after = house_with (g.H.House.gave c.run-status.new.house) (g.H.House.got_back c.run-status.new.house) (g.H.House.faults c.run-status.new.house) in
    keeps_alone o c.first_lines_have_one_script.ensures c.messages_have_one_script.ensures c.trees_have_one_summary.ensures
    (command_of (texts c.as_slice-words.result.now)) (command_in c.args.words.now) c.in-Ok-new.board c.run-status.new.board
    (g.S.Source.left c.args.source.now) (g.S.Source.left c.run-status.new.source) (g.K.Sink.held c.args.sink.now) (g.K.Sink.held c.run-status.new.sink)
    (g.S.Source.faults c.args.source.now) (g.K.Sink.faults c.args.sink.now) (g.S.Source.faults c.run-status.new.source) (g.K.Sink.faults c.run-status.new.sink)
    before after c.run-status.result
    (found_in c.args.words.now c.in-Ok.words c.as_slice-words.result.now (command_of (texts c.as_slice-words.result.now)) (cc (c.in-Ok.is)) (cc (c.as_slice-words.ensures.value)) refl)
    (cc (c.in-Ok-new.ensures)) (cc (c.len-entries.ensures.all_own)) c.run-status.ensures.keeps
    (λ none. ap g.K.Sink.held (c.run-status.ensures.unused_sink none))
