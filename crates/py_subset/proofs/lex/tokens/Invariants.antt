use Rattle.std.proofs.Common.{◌≡◌, ◌≤◌, ◌+◌, ◌-◌, drop, length}
use Rattle.py_subset.specs.Layout.{layout, cut, end_line, tokens_of}
use Rattle.py_subset.proofs.lex.tokens.Given as goal

abbrev pub invariant-loop-at : goal.invariant-loop-at
invariant-loop-at l = record {
  same : layout (end_line l.text) (cut 0 l.place (drop l.at l.text)) l.reading ≡ tokens_of l.text;
  within : l.at ≤ length l.text;
  room : l.place.line + l.place.column ≤ l.at;
}

abbrev pub decreases-loop-at : goal.decreases-loop-at
decreases-loop-at l = length l.text - l.at
