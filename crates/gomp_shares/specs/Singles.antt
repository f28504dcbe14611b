-- Singles: what a call on one is tested for, answered and gives. OpenMP API 5.2, sections 11.1 and 5.7.2.
use Rattle.std.specs.Prelude.{ℕ, not, ◌&&◌, is_some, ◌≡◌, Bool, true, false, List, [], ◌∷◌, ◌++◌, Option, Some, None}
use Rattle.gomp_types.specs.declared.refusal.Refusal.TheVariants.{NotInside}
use Rattle.gomp_types.specs.declared.reply.Reply.{Reply}
use Rattle.gomp_types.specs.declared.reply.Reply.TheVariants.{Executor, Copied, Wait}
use Rattle.gomp_types.specs.declared.shape.Shape.{Shape}
use Rattle.gomp_events.specs.declared.seen.Seen.{Seen}
use Rattle.gomp_events.specs.declared.event.Event.{Event}
use Rattle.gomp_events.specs.declared.event.Event.TheVariants.{Take, Drained, End, Put, Got}
use Rattle.gomp_types.specs.Tests.{Test}
use Rattle.gomp_types.specs.Shapes.{is_copy}
use Rattle.gomp_types.specs.Deals.{schedule}
use Rattle.gomp_events.specs.Takes.{next_for}
use Rattle.gomp_events.specs.Events.{shares_entered, in_kind, open_number, payload_at}
use Rattle.gomp_types.specs.declared.limits.Limits.{Limits}
use Rattle.gomp_types.specs.Singles.{single_shape}
use Rattle.gomp_shares.specs.Starts.{AnswersStart, entry_and}

-- who takes the piece of a single executes it
abbrev pub DealsSingle : ℕ → ℕ → Option (ℕ × Shape) → Reply → List Event → Type 0
DealsSingle members m None reply h = ⊥
DealsSingle members m (Some share) (Executor true) h = next_for (schedule members) share.1 share.0 m h ≡ Some (0, 1)
DealsSingle members m (Some share) (Executor false) h = next_for (schedule members) share.1 share.0 m h ≡ None
DealsSingle members m (Some share) _ h = ⊥

-- of one with words, the others wait until the executor has put them, and are given these
abbrev pub DealsCopy : ℕ → ℕ → Option (ℕ × Shape) → Reply → List Event → Type 0
DealsCopy members m None reply h = ⊥
DealsCopy members m (Some share) (Executor true) h = next_for (schedule members) share.1 share.0 m h ≡ Some (0, 1)
DealsCopy members m (Some share) (Copied payload) h = (next_for (schedule members) share.1 share.0 m h ≡ None) × (payload_at share.0 h ≡ Some payload)
DealsCopy members m (Some share) Wait h = (next_for (schedule members) share.1 share.0 m h ≡ None) × (payload_at share.0 h ≡ None)
DealsCopy members m (Some share) _ h = ⊥

-- a single is left at once, save by the executor that is to put words
abbrev pub single_given : ℕ → Shape → ℕ → Reply → List Event
single_given share shape m (Executor true) = End share m ∷ Take share m 0 1 ∷ []
single_given share shape m (Executor false) = End share m ∷ Drained share m ∷ []
single_given share shape m _ = []

-- a member that is given the words has then left it
abbrev pub copy_given : ℕ → Shape → ℕ → Reply → List Event
copy_given share shape m (Executor true) = Take share m 0 1 ∷ []
copy_given share shape m (Copied payload) = End share m ∷ Got share m payload ∷ Drained share m ∷ []
copy_given share shape m _ = []

-- the executor of a single with words is in it, and has its piece
abbrev pub is_executor : Seen → Bool
is_executor seen = in_kind is_copy seen.current && is_some seen.piece

-- the words are put by the executor alone
abbrev pub put_tests : Seen → List Test
put_tests seen = (not (is_executor seen), NotInside) ∷ []

-- it puts them in its share, and leaves that
abbrev pub words_put : List ℕ → ℕ → List Event → List Event
words_put payload m h = End (open_number m h) m ∷ Put (open_number m h) m payload ∷ []

-- The answers, and the events after them

-- the answer to the start of a single without words
abbrev pub AnswersSingle : Limits → ℕ → ℕ → Reply → List Event → Type 0
AnswersSingle limits members m reply h = AnswersStart [] (single_shape false) DealsSingle limits members m reply h

-- the events after it
abbrev pub single_started : ℕ → Reply → List Event → List Event
single_started m reply h = entry_and single_given (single_shape false) m h reply ++ h

-- the answer to the start of a single with words
abbrev pub AnswersCopy : Limits → ℕ → ℕ → Reply → List Event → Type 0
AnswersCopy limits members m reply h = AnswersStart [] (single_shape true) DealsCopy limits members m reply h

-- an answer by these words, if they are what was put in the member's next share
abbrev pub ByWords : Option (List ℕ) → ℕ → (Reply → List Event → Type 0) → Reply → List Event → Type 0
ByWords words m May reply h = payload_at (shares_entered m h) h ≡ words → May reply h

-- the events after the start of a single with words
abbrev pub copy_started : ℕ → Reply → List Event → List Event
copy_started m reply h = entry_and copy_given (single_shape true) m h reply ++ h
