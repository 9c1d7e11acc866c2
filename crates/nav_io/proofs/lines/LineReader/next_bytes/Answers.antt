-- The bytes in front are those of the text ahead, since they are enough or the end was met.
use Rattle.std.proofs.Common.{◌≡◌, ◌<◌, refl, drop, length, true}
use Rattle.nav_io.specs.Reading.{reading_of}
use Rattle.nav_io.proofs.FrontLaws.{bytes-ahead, bytes-exact, after_bytes}
use Rattle.nav_io.proofs.lines.LineReader.next_bytes.Goals as goal

pub returns : goal.returns
returns g c =
    let search = c.in_ok-find_bytes.ensures in
    let n = c.args.n in
    let old = reading_of c.self.inside.start c.self.inside.held.items c.self.inside.ended in
    let mid = reading_of c.find_bytes.new.start c.find_bytes.new.held.items c.find_bytes.new.ended in
    let left = g.S.Source.left c.args.source.now in
    let left' = g.S.Source.left c.find_bytes.new.source in
    let end : length mid.front < n → mid.ended ≡ true = search.ok in
    let bytes = rw c.deref.ensures.value at c.take_bytes.ensures.bytes in
    let rest = rw c.deref.ensures.value at c.take_bytes.ensures.rest in
    rw (← c.self.view_is) (
      (refl, λ _. tt, after_bytes n old mid _ left left' _ search.finds end bytes rest),
      record {
        bytes = bytes-ahead n old mid left left' _ search.finds end bytes;
        exact = bytes-exact n mid.front _ bytes;
        not_long = λ e. cc;
        unread = search.unread;
        rest = tt;
        count = search.count;
        cause = λ e. cc;
      },
    )
