-- What a task writes, from what answered its input and how the writing went.
use Rattle.std.proofs.Common.{◌≡◌, ℕ, List, [], inr, refl, sym, subst, append-nil, Option, Some, None, Result, Ok, Err, IfSome, OnOk, OnErr}
use Rattle.std.specs.Io.KnownBytes.{append_known}
use Rattle.nav_io.specs.Write.{HoldsPrefix}
use Rattle.nav_serve.specs.declared.tasks.Task.{Task}
use Rattle.nav_session.specs.declared.halt.Halt.{Halt}
use Rattle.nav_session.specs.declared.halt.Halt.TheVariants.{SourceFailed, SinkFailed, NoMemory, LongLine}
use Rattle.nav_serve.specs.Serving.{Serves}
use Rattle.nav_serve.specs.Taken.{IsOutput, IsBeginning, WritesOutput, WritesBeginning, HasLongLine}

-- what holds where the input is told, from what else does
if_some-map : {X : Type 0} (P Q : X → Type 0) (o : Option X) → ((x : X) → P x → Q x) → IfSome o P → IfSome o Q
if_some-map P Q None f h = h
if_some-map P Q (Some x) f h = f x h

-- the whole output is a beginning of it
pub beginning-whole : (task : Task) (left held held' : Option (List ℕ))
    → WritesOutput task left held held' → WritesBeginning task left held held'
beginning-whole task left held held' h = (
  h.0,
  h.1,
  if_some-map (λ input. IsOutput task input h.0) (λ input. IsBeginning task input h.0) left
      (λ input is. inr ([], subst (λ (output : List ℕ). IsOutput task input output) (sym (append-nil h.0)) is)) h.2,
)

-- a prefix of the output is a beginning of it
beginning-prefix : (task : Task) (output : List ℕ) (left held held' : Option (List ℕ))
    → IfSome left (λ input. IsOutput task input output) → HoldsPrefix held output held' → WritesBeginning task left held held'
beginning-prefix task output left held held' is h = (
  h.0,
  h.3,
  if_some-map (λ input. IsOutput task input output) (λ input. IsBeginning task input h.0) left
      (λ input one. inr (h.1, subst (λ (bytes : List ℕ). IsOutput task input bytes) h.2 one)) is,
)

-- the output was written, in full or up to where the writing stopped
pub served : (task : Task) (output : List ℕ) (left left' held held' : Option (List ℕ)) (r : Result (Unit {0}) Halt)
    → IfSome left (λ input. IsOutput task input output × ¬ HasLongLine task input)
    → OnOk r (held' ≡ append_known held output) → OnErr r (HoldsPrefix held output held')
    → (r ≡ Err SourceFailed → ⊥) → (r ≡ Err LongLine → ⊥)
    → Serves task left left' held held' r
served task output left left' held held' r answered = by r
  where
    answers : IfSome left (λ input. IsOutput task input output)
    answers = if_some-map _ (λ input. IsOutput task input output) left (λ input h. h.0) answered

    by : (r : Result (Unit {0}) Halt) → OnOk r (held' ≡ append_known held output) → OnErr r (HoldsPrefix held output held')
        → (r ≡ Err SourceFailed → ⊥) → (r ≡ Err LongLine → ⊥) → Serves task left left' held held' r
    by (Ok done) ok err no_source no_long = record {
      written = (output, ok, answers);
      not_long = if_some-map _ (λ input. ¬ HasLongLine task input) left (λ input h. h.1) answered;
    }
    by (Err SourceFailed) ok err no_source no_long = absurd (no_source refl)
    by (Err LongLine) ok err no_source no_long = absurd (no_long refl)
    by (Err SinkFailed) ok err no_source no_long = beginning-prefix task output left held held' answers err
    by (Err NoMemory) ok err no_source no_long = beginning-prefix task output left held held' answers err
