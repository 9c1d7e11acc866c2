-- What is seen of things that are given out in order and come back.
use Rattle.std.specs.Prelude.{◌≡◌, ℕ, ◌-◌, ◌≤◌, List, ◌++◌, length, take, drop}

-- the things that are to be given out, those that were given out, and those that came back
pub record Lending (X : Type 0) : Type 0 where
  pub waiting : List X
  pub gave : List X
  pub back : List X

-- the first n of those that wait were given out
abbrev pub lend : {X : Type 0} → ℕ → Lending X → Lending X
lend n things = record {
  waiting = drop n things.waiting;
  gave = things.gave ++ take n things.waiting;
  back = things.back;
}

-- these came back
abbrev pub take_back : {X : Type 0} → Lending X → List X → Lending X
take_back things returned = record things { back = things.back ++ returned }

-- The kept things are the last ones of all, and then others, for which there is room. It is what a list in memory keeps.
pub record IsLending {X : Type 0} (all kept : List X) (waiting capacity : ℕ) : Type 0 where
  pub few : waiting ≤ length kept
  pub waits : take waiting kept ≡ drop (length all - waiting) all
  pub no_more : length kept ≤ length all
  pub room : length all ≤ capacity
