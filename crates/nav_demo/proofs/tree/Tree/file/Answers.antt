use Rattle.nav_demo.proofs.Drawn.{value_two, put_file}
use Rattle.nav_demo.proofs.tree.Tree.file.Goals as goal

-- the generator is behind two values more
pub invariant_of-self : goal.invariant_of-self
invariant_of-self c = record {
  there = value_two c.args.self.now.start c.args.self.now.next c.args.self.now.value c.next_value-first.result c.next_value-second.result
      c.args.self.now.there c.next_value-first.ensures.value c.next_value-second.ensures.value;
  below = c.next_value-second.ensures.below;
}

-- the file that was drawn
pub returns-clause-edit : goal.returns-clause-edit
returns-clause-edit c =
    put_file c.args.self.now.files c.args.self.now.start c.args.self.now.next c.args.self.now.value c.next_value-first.result
    c.next_value-second.result c.number_from.result c.number_from-2.result c.in_ok-path.path c.in_ok-text.text
    c.args.self.now.there c.next_value-first.ensures.value c.next_value-second.ensures.value c.number_from.ensures c.number_from-2.ensures
    c.in_ok-path.ensures c.in_ok-text.ensures
