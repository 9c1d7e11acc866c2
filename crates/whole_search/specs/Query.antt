-- What a search finds of the runs that it meets. No public clause cites this.
use Rattle.std.specs.Prelude.{◌≡◌, ◌⊎◌, List, [], ◌++◌, Bool, not, ◌&&◌, ◌||◌, if◌then◌else◌}
use Rattle.std.specs.List.{list_any, filter}
use Rattle.partial_path.specs.declared.config.EdgeAt.{EdgeAt}
use Rattle.whole_search.specs.declared.open.Open.{Open}
use Rattle.whole_search.specs.declared.query.Query.{Query}
use Rattle.whole_search.specs.Leads.{live_at}
use Rattle.whole_search.specs.Open.{IsOpen, runs_of, longer_by, open_goes_on}
use Rattle.whole_search.specs.Refusals.{IsDeadEnd}
use Rattle.whole_search.specs.Walk.{out, met_runs, is_bounded_complete, is_bounded_counted, is_past_bounds}

-- the runs that the search meets: it goes on from live spots only
abbrev pub met : Query → List (List EdgeAt)
met q = met_runs (live_at q.leads.now) q.bounds q.files.now q.start.now

-- those that are complete and bounded; that are counted and bounded
abbrev pub complete_met : Query → List (List EdgeAt)
complete_met q = filter (is_bounded_complete q.bounds q.files.now q.start.now) (met q)

abbrev pub counted_met : Query → List (List EdgeAt)
counted_met q = filter (is_bounded_counted q.bounds q.files.now q.start.now) (met q)

-- whether some are counted and not bounded
abbrev pub meets_past : Query → Bool
meets_past q = list_any (is_past_bounds q.bounds q.files.now q.start.now) (met q)

-- the open run is one of the search's
abbrev pub IsOpenIn : Query → Open → Type 0
IsOpenIn q o = IsOpen q.bounds q.files.now q.start.now o

-- the straight runs that are longer than the open run by one of these edges
abbrev pub longer_in : Query → Open → List EdgeAt → List (List EdgeAt)
longer_in q o edges = longer_by q.files.now q.start.now o.run o.at edges

-- whether the search goes on from the open run
abbrev pub goes_on_in : Query → Open → Bool
goes_on_in q o = open_goes_on (live_at q.leads.now) q.bounds q.files.now o

-- the straight runs that are longer than the open run were added, where the search goes on from it; or none, at a dead end
abbrev pub IsFollowedIn : Query → Open → Bool → List Open → List Open → Type 0
IsFollowedIn q o limit old new =
    (runs_of new ≡ runs_of old
    ++ (if goes_on_in q o && (o.bounded || not limit)
    then longer_in q o (out q.files.now o.at.spot) else []))
    ⊎ (IsDeadEnd q.files.now o.at × (runs_of new ≡ runs_of old))
