use Rattle.std.proofs.Common.{arith, drop, length-drop, eqb}
use Rattle.std.proofs.lemmas.Bool.{eqb-true, eqb-false}
use Rattle.nav_io.specs.Reading.{Reading}
use Rattle.lsp_frames.proofs.Finding.{place_found}
use Rattle.lsp_frames.proofs.reader.FrameReader.find_frame.Goals as goal

pub returns-clause-found : goal.returns-clause-found
returns-clause-found g c =
    let reader = c.self.inside in
    let items = reader.held.items in
    let mid : Reading = record { front = drop reader.start items; ended = reader.ended } in
    let search = rw (← c.self.view_is) at c.in_ok-front.ensures.found in
    rw (← c.self.view_is) (place_found c.args.self.now mid (g.S.Source.left c.args.source.now) (g.S.Source.left c.settle.new.source) c.in_ok-front.front
    (eqb c.len.result reader.start) c.place_of.result search
    (λ same. omega (arith, eqb-true _ _ same, c.len.ensures, reader.held.ok.0, length-drop reader.start items))
    (λ apart. omega (arith, eqb-false _ _ apart, c.len.ensures, c.self.invariant.0, reader.held.ok.0, length-drop reader.start items))
    c.place_of.ensures)
