-- Which clause rests on which file. `join`: joined and none on Joined: what the join is by its definition does what
-- both paths do. AppliesLaws, HeightsLaws, RuledLaws, PassedLaws and FilesLaws serve it; under AppliesLaws stand
-- PassesLaws and MakesLaws, and under all of them the other files whose names end with Laws.
-- That the code makes the join of the definition: CodePast and CodeTables (what is known), CodeMet (symbols that
-- are handed on), CodeBound (what variables stand for), CodeWritten (the joined conditions). `unit` and `opening`:
-- rule and files on CodeExact, which FilesLaws serves, and peak on CodeUnits. `extend_in_place`: both clauses on
-- CodeExtended: a path made longer where it lies is the join by its definition, and so on Joined. `extend` and
-- `extended` call it. `join_stored`: PlainLaws, which CodeExtended serves, and Joined.
pub mod CodePast
pub mod CodeTables
pub mod CodeMet
pub mod CodeBound
pub mod AndLaws
pub mod BeginsLaws
pub mod FitsLaws
pub mod MeetsLaws
pub mod ItemsLaws
pub mod GoodLaws
pub mod SuitsLaws
pub mod KnownLaws
pub mod LongerLaws
pub mod KeptLaws
pub mod HandedLaws
pub mod WidenedLaws
pub mod PutLaws
pub mod EndsLaws
pub mod LengthsLaws
pub mod PassesLaws
pub mod MakesLaws
pub mod AppliesLaws
pub mod HeightsLaws
pub mod RuledLaws
pub mod PassedLaws
pub mod Joined
pub mod CodeWritten
pub mod CodeUnits
pub mod CodeExact
pub mod FilesLaws
pub mod CodeExtended
pub mod PlainLaws
