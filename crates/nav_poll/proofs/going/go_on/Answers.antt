-- Each step leaves less to do.
use Rattle.std.proofs.Common.{rules, ◌≡◌, None}
use Rattle.nav_poll.specs.declared.went.Went.TheVariants.{On}
use Rattle.nav_poll.specs.Turns.{work_left}
use Rattle.nav_poll.proofs.Turned.{weight_falls}
use Rattle.nav_poll.proofs.going.go_on.Goals as goal

pub loop-polled-smaller : goal.loop-polled-smaller
loop-polled-smaller g c =
    let went : c.step.result ≡ On = search rules in
    let going : c.loop-polled.polled.ended ≡ None = search rules in
    weight_falls c.loop-polled.polled.ended c.step.new.polled.ended (work_left c.loop-polled.polled) (work_left c.step.new.polled) going (c.step.ensures.part.on went)
