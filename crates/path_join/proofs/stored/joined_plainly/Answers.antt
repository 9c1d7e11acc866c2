-- Two plain paths joined as the definition has it.
use Rattle.std.proofs.Common.{◌≡◌, ◌∙◌, sym, ap, subst, ℕ, ◌+◌, ◌-◌, ◌++◌, length, max, map}
use Rattle.partial_path.specs.Rules.{Rule, rule_of, start_spot}
use Rattle.partial_path.specs.Moved.{moved, moved_edge}
use Rattle.stacks_vars.specs.declared.patterns.Tail.TheVariants.{Front}
use Rattle.path_join.specs.Joins.{IsJoin}
use Rattle.path_join.specs.Units.{asks, makes}
use Rattle.path_join.specs.Plain.{ends_there, meets, plain_join}
use Rattle.path_join.proofs.Joined.{joined, never}
use Rattle.path_join.proofs.PlainLaws.{both_plain, not_met, not_there, peak_stored, wide_stored}
use Rattle.path_join.proofs.stored.joined_plainly.Goals.{then-not-ends_there-via-then-not-ends_there, then-not-ends_there-via-else-not-ends_there+then-not-meets}
use Rattle.path_join.proofs.stored.joined_plainly.Goals as goal

-- the peak of the join by the peaks of both and the numbers of symbols made and asked for
abbrev of_peaks : ℕ → ℕ → ℕ → ℕ → ℕ
of_peaks first made asked second = max (first + (asked - made)) (second + (made - asked))

pub returns-then-not-ends_there-clause-none : goal.returns-then-not-ends_there-clause-none
returns-then-not-ends_there-clause-none c none =
    never (moved c.args.file c.args.p.now) c.args.q.now c.moved_ends-start.ensures.rule c.start.ensures.rule (elim c.then-not-ends_there.branch [
      | then-not-ends_there-via-then-not-ends_there w ↦
          not_there c.args.file c.args.p.now c.args.q.now c.requires.front c.requires.back c.requires.enough
          (sym (λ i. ends_there (c.moved_ends-start.ensures.end i) ((c.start_spot-there.ensures ∙ ap start_spot c.start.ensures.value) i)) ∙ sym c.ends_there.ensures ∙ w.if-not-ends_there.true)
      | then-not-ends_there-via-else-not-ends_there+then-not-meets w ↦
          not_met c.args.file c.args.p.now c.args.q.now c.requires.front c.requires.back c.requires.enough
          (sym (λ i. meets ((w.items.ensures ∙ ap (λ pre. pre.symbols) w.pre.ensures.value) i) (w.made.ensures.value i)) ∙ sym w.meets.ensures ∙ w.if-not-meets.true)
    ])

pub returns-clause-joined : goal.returns-clause-joined
returns-clause-joined c =
    let there = sym (λ i. ends_there (c.moved_ends-start.ensures.end i) ((c.start_spot-there.ensures ∙ ap start_spot c.start.ensures.value) i)) ∙ sym c.ends_there.ensures ∙ c.if-not-ends_there.false in
    let met = sym (λ i. meets ((c.items.ensures ∙ ap (λ pre. pre.symbols) c.pre.ensures.value) i) (c.made.ensures.value i)) ∙ sym c.meets.ensures ∙ c.if-not-meets.false in
    let P : Rule = moved c.args.file c.args.p.now in
    let peak = peak_stored c.args.file c.args.p.now c.args.q.now c.requires.front c.requires.back c.requires.enough
    ∙ (λ i. of_peaks (sym c.peak.ensures.value i) (ap length (sym c.made-2.ensures.value) i) (sym (c.len.ensures ∙ ap (λ pre. length pre.symbols) c.pre-2.ensures.value) i) (sym c.peak-2.ensures.value i))
    ∙ sym c.peak_of-peak.ensures in
    let pre = ap asks (wide_stored c.args.file c.args.p.now c.args.q.now c.requires.front c.requires.back c.requires.enough) ∙ sym c.in_ok-pre.ensures in
    let post = (λ i. makes (sym c.new.ensures.items i) Front) ∙ sym c.makes-post.ensures in
    let edges = (λ i. map (moved_edge c.args.file) c.args.p.now.edges ++ sym c.edges.ensures.value i) ∙ sym c.in_ok-edges.ensures in
    let is : plain_join P c.args.q.now ≡ c.of.result =
    (λ i. rule_of (sym c.moved_ends-start.ensures.start i) (sym c.end.ensures.value i) (pre i) (post i) (peak i) (edges i)) ∙ sym c.of.ensures in
    subst (IsJoin P c.args.q.now) is
    (joined P c.args.q.now (plain_join P c.args.q.now) c.moved_ends-start.ensures.rule c.start.ensures.rule
    (both_plain c.args.file c.args.p.now c.args.q.now c.requires.front c.requires.back c.requires.enough there met))
