-- Which clause rests on which file. `find_paths`, which `enumerate` calls: file, walks, fault, few and fewer on
-- CountingLaws, which has what its loop keeps, from FindingLaws and FirstLaws; light on WalkingLaws.
-- The paths with which the search begins: BeginningLaws. What one path adds, and those of one edge more: LastLaws,
-- GrowingLaws, NextLaws and OnlyLaws.
-- Only these cite the others: PairsLaws, PrefixLaws, BegunLaws, StepLaws, SumsLaws and SetLaws are about walks;
-- UnitLaws, SourceLaws and JoinedLaws about the rules of edges; LeavingLaws, EdgesLaws, PassableLaws, SinkLaws and
-- OnwardLaws about the edges that go on; GatherLaws, StartsLaws and EachStartLaws about all starts. WalkingLaws is
-- also for `nav_session`, StoredLaws for `aux_tests` alone.
pub mod PairsLaws
pub mod PrefixLaws
pub mod BegunLaws
pub mod StepLaws
pub mod SumsLaws
pub mod SetLaws
pub mod UnitLaws
pub mod JoinedLaws
pub mod LeavingLaws
pub mod GatherLaws
pub mod StartsLaws
pub mod EdgesLaws
pub mod PassableLaws
pub mod SinkLaws
pub mod SourceLaws
pub mod GrowingLaws
pub mod FindingLaws
pub mod EachStartLaws
pub mod FirstLaws
pub mod OnwardLaws
pub mod NextLaws
pub mod BeginningLaws
pub mod CountingLaws
pub mod LastLaws
pub mod OnlyLaws
pub mod WalkingLaws
pub mod StoredLaws
