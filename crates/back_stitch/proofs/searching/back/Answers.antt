-- The references that begin a back list are those from which a bounded complete run leads to the definition.
use Rattle.back_stitch.proofs.searching.back.Goals as goal

pub returns-clause-references : goal.returns-clause-references
returns-clause-references g c = record {
  rising = c.in_order.ensures.rising;
  exact = λ r.
      let here = c.in_order.ensures.exact r in
      let begins = c.in_ok-tally.ensures.begin r in
      let reaches = c.rounds_can_be_cut.ensures _ (record { file = c.args.file; node = c.args.node }) r c.requires.definition in
      (λ h. reaches.0 (begins.0 (here.0 h)), λ h. here.1 (begins.1 (reaches.1 h)));
}
