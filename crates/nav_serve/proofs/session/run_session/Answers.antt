use Rattle.nav_serve.proofs.session.run_session.Goals as goal

pub returns-clause-serves : goal.returns-clause-serves
returns-clause-serves g c = c.serve_session.ensures.served.served
