-- A door over sockets tells nothing, so what is said of what it tells holds.
use Rattle.std.proofs.Common.{refl}
use Rattle.nav_io.proofs.Untold.{if_ok-all, on_ok-all, on_err-all}
use Rattle.nav_io.proofs.tcp.TcpDoorDoor.TheImpl.Goals as goal

pub accept-tells : goal.accept-tells
accept-tells g c = record {
  ok = if_ok-all c.result _ (λ pair. refl);
  out = on_ok-all c.result _ tt;
  err = on_err-all c.result _ refl;
  back = refl;
  no_more_back = tt;
  count = c.ensures.count;
  cause = c.ensures.cause;
}

pub done-tells : goal.done-tells
done-tells g c = record {
  back = refl;
  given = refl;
  no_more_back = tt;
  count = c.ensures.count;
}
