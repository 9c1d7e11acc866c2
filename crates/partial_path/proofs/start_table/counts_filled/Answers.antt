use Rattle.std.proofs.Common.{◌≡◌, ◌≤◌, ◌+◌, ◌*◌, ◌-◌, ◌++◌, ◌∙◌, ap, ℕ, length, take, replicate, arith}
use Rattle.partial_path.proofs.Tabled.{no_table, filled}
use Rattle.partial_path.proofs.start_table.counts_filled.Goals as goal

pub returns-then-places-count : goal.returns-then-places-count
returns-then-places-count c = no_table c.new.result.items c.args.nodes c.args.paths.now c.new.ensures.items

pub returns : goal.returns
returns c =
    let places : ℕ = 2 * c.args.nodes + 2 in
    let le : length c.args.before.items ≤ places = omega (arith, c.if-places-count.false, c.len-count.ensures, c.args.before.ok.0) in
    let is : c.resize.new.self.items ≡ take places c.args.before.items ++ replicate (places - length c.args.before.items) (length c.args.paths.now)
    = c.in_ok-resize.ensures.items
    ∙ ap (λ n. take places c.args.before.items ++ replicate (places - n) c.len-size.result) c.args.before.ok.0
    ∙ ap (λ n. take places c.args.before.items ++ replicate (places - length c.args.before.items) n) c.len-size.ensures in
    λ some. (filled c.args.before.items c.resize.new.self.items c.args.nodes (length c.args.paths.now) places c.args.paths.now c.requires.told le is).counts
