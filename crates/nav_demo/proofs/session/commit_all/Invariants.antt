use Rattle.std.proofs.Common.{◌≡◌, ◌*◌, ◌∷◌}
use Rattle.std.specs.Prelude.{min, codes}
use Rattle.nav_proto.specs.declared.request.Request.TheVariants.{Hello}
use Rattle.nav_session.specs.Desks.{GoesOn, moment}
use Rattle.nav_demo.specs.MadeTree.{made_commits}
use Rattle.nav_demo.specs.Inside.{Answered}
use Rattle.nav_demo.proofs.session.commit_all.Given as goal

-- So many commits were answered, behind the operator's naming itself.
abbrev pub invariant-loop : goal.invariant-loop
invariant-loop g l = record {
  goes_on : GoesOn (moment (g.B.Pins.seat l.fn.board) (g.B.Pins.log l.fn.board) (g.B.Pins.pin_at l.fn.board) l.fn.desk)
      (moment (g.B.Pins.seat l.board) (g.B.Pins.log l.board) (g.B.Pins.pin_at l.board) l.desk);
  answered : Answered (Hello (codes "operator") ∷ made_commits l.files l.start l.counter)
      (moment (g.B.Pins.seat l.fn.board) (g.B.Pins.log l.fn.board) (g.B.Pins.pin_at l.fn.board) l.fn.desk)
      (moment (g.B.Pins.seat l.board) (g.B.Pins.log l.board) (g.B.Pins.pin_at l.board) l.desk);
  next : l.tree.next ≡ min (64 * l.counter) l.files;
  files : l.tree.files ≡ l.files;
  start : l.tree.start ≡ l.start;
}
