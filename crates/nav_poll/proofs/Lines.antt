-- What comes of the line in front.
use Rattle.std.proofs.Common.{◌≡◌, inr, ℕ, ◌<◌, ◌≤◌, List, Option, Some, refl, sym, subst}
use Rattle.version_board.specs.Logs.{own}
use Rattle.nav_io.specs.Lines.{line_max, line_len}
use Rattle.nav_io.specs.Reading.{Reading, whole_line, past_whole_line}
use Rattle.nav_session.specs.declared.halt.Halt.TheVariants.{NoMemory, LongLine}
use Rattle.nav_session.specs.Desks.{Moment, GoesOn}
use Rattle.nav_session.specs.Turns.{spot, ReadsLine, StopsNext}
use Rattle.nav_session.proofs.Turned.{no_entry}
use Rattle.nav_poll.proofs.Fronts.{reads_whole, long_ahead}

-- it is the next one
pub reads_front : (r r' : Reading) (left : Option (List ℕ)) (line : List ℕ) → Some line ≡ whole_line r → r' ≡ past_whole_line r → line_len r.front ≤ line_max
    → ReadsLine r r' left left (Some line)
reads_front r r' left line e past short =
    subst (λ (x : Reading). ReadsLine r x left left (Some line)) (sym past) (reads_whole r left line e short)

-- memory is refused to its answer
pub stops_memory : (m m' : Moment) (r r' : Reading) (left : Option (List ℕ)) (line : List ℕ) → Some line ≡ whole_line r → r' ≡ past_whole_line r
    → line_len r.front ≤ line_max → GoesOn m m' → own m.seat m'.log ≡ own m.seat m.log
    → StopsNext (spot m r left) (spot m' r' left) NoMemory
stops_memory m m' r r' left line e past short goes same = record {
  why = inr (line, reads_front r r' left line e past short);
  stays = record { goes_on = goes; no_entry = same };
}

-- it is too long
pub stops_long : (m : Moment) (r r' : Reading) (left : Option (List ℕ)) → r' ≡ r → line_max < line_len r.front
    → StopsNext (spot m r left) (spot m r' left) LongLine
stops_long m r r' left same long =
    subst (λ (x : Reading). StopsNext (spot m r left) (spot m x left) LongLine) (sym same)
    (record { why = long_ahead r left long; stays = no_entry m r r left left })
