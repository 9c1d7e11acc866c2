-- What a turn makes of a session where no line was answered.
use Rattle.std.proofs.Common.{◌≡◌, ℕ, ◌<◌, inl, List, [], Option, None, IfSome, refl, subst, sym, append-nil}
use Rattle.nav_io.specs.declared.lines.LineError.{LineError}
use Rattle.nav_io.specs.declared.lines.LineError.TheVariants.{ReadFault, TooLong, NoMemory}
use Rattle.nav_io.specs.Lines.{line_max, line_len}
use Rattle.nav_io.specs.Reading.{Reading, ahead, AfterError}
use Rattle.nav_session.specs.declared.halt.Halt.{Halt}
use Rattle.nav_session.specs.Halts.{halt_of_line}
use Rattle.nav_session.specs.Desks.{Moment}
use Rattle.nav_session.specs.Turns.{Spot, spot, ReadsLine, HasNoEntry, FindsEnd, StopsNext}

-- the session stays, where only the reader and the source went on
pub no_entry : (m : Moment) (old new : Reading) (left left' : Option (List ℕ)) → HasNoEntry (spot m old left) (spot m new left')
no_entry m old new left left' = record {
  goes_on = record { seat = refl; begins = ([], append-nil m.log); keeps = refl };
  no_entry = refl;
}

pub finds_end : (next : Option (List ℕ)) (m : Moment) (old new : Reading) (left left' : Option (List ℕ))
    → next ≡ None → ReadsLine old new left left' next → FindsEnd (spot m old left) (spot m new left')
finds_end next m old new left left' e read = record {
  read = subst (λ (o : Option (List ℕ)). ReadsLine old new left left' o) e read;
  stays = no_entry m old new left left';
}

stops_by : (error : LineError) (m : Moment) (old new : Reading) (left left' : Option (List ℕ))
    → AfterError old new left left' error → (error ≡ TooLong → IfSome (ahead old left) (λ text. line_max < line_len text))
    → StopsNext (spot m old left) (spot m new left') (halt_of_line error)
stops_by ReadFault m old new left left' after long = record { why = after; stays = no_entry m old new left left' }
stops_by TooLong m old new left left' after long = record { why = (after, long refl); stays = no_entry m old new left left' }
stops_by NoMemory m old new left left' after long = record { why = inl after; stays = no_entry m old new left left' }

pub stops_at : (reason : Halt) (error : LineError) (m : Moment) (old new : Reading) (left left' : Option (List ℕ))
    → reason ≡ halt_of_line error → AfterError old new left left' error
    → (error ≡ TooLong → IfSome (ahead old left) (λ text. line_max < line_len text))
    → StopsNext (spot m old left) (spot m new left') reason
stops_at reason error m old new left left' is after long =
    subst (λ (h : Halt). StopsNext (spot m old left) (spot m new left') h) (sym is) (stops_by error m old new left left' after long)
