-- Sections: what a call on them is tested for, answered and gives. OpenMP API 5.2, section 11.3.
use Rattle.std.specs.Prelude.{ℕ, zero, suc, not, ◌≡◌, List, [], ◌∷◌, ◌++◌, Option, Some, None}
use Rattle.gomp_types.specs.declared.loop_desc.EndKind.{EndKind}
use Rattle.gomp_types.specs.declared.refusal.Refusal.TheVariants.{OutsideShare, EndDiffers, Drained as DrainedAlready}
use Rattle.gomp_types.specs.declared.reply.Reply.{Reply}
use Rattle.gomp_types.specs.declared.reply.Reply.TheVariants.{Section, Finished}
use Rattle.gomp_types.specs.declared.shape.Shape.{Shape}
use Rattle.gomp_events.specs.declared.seen.Seen.{Seen}
use Rattle.gomp_events.specs.declared.event.Event.{Event}
use Rattle.gomp_events.specs.declared.event.Event.TheVariants.{Take, Drained}
use Rattle.gomp_types.specs.Tests.{Test}
use Rattle.gomp_types.specs.Shapes.{is_sections}
use Rattle.gomp_types.specs.Compare.{end_differs}
use Rattle.gomp_types.specs.Deals.{schedule}
use Rattle.gomp_events.specs.Takes.{next_for}
use Rattle.gomp_events.specs.Events.{in_kind, open_share}
use Rattle.gomp_types.specs.declared.limits.Limits.{Limits}
use Rattle.gomp_types.specs.Least.{Answers}
use Rattle.gomp_events.specs.Seen.{seen_of}
use Rattle.gomp_types.specs.Sections.{sections_shape, sections_tests}
use Rattle.gomp_shares.specs.Starts.{AnswersStart, entry_and, drained_tests}

-- the first section that nobody took, by its number from 1, and 0 if none is left
abbrev pub DealsSections : ℕ → ℕ → Option (ℕ × Shape) → Reply → List Event → Type 0
DealsSections members m None reply h = ⊥
DealsSections members m (Some share) (Section zero) h = next_for (schedule members) share.1 share.0 m h ≡ None
DealsSections members m (Some share) (Section (suc k)) h = next_for (schedule members) share.1 share.0 m h ≡ Some (k, suc k)
DealsSections members m (Some share) _ h = ⊥

-- section k + 1 is iteration k of the share; 0 tells that none is left
abbrev pub section_given : ℕ → Shape → ℕ → Reply → List Event
section_given share shape m (Section zero) = Drained share m ∷ []
section_given share shape m (Section (suc k)) = Take share m k (suc k) ∷ []
section_given share shape m _ = []

-- the same, in the share that the member is in
abbrev pub section_next_given : Option (ℕ × Shape) → ℕ → Reply → List Event
section_next_given None m reply = []
section_next_given (Some share) m reply = section_given share.0 share.1 m reply

-- the next section
abbrev pub section_next_tests : Seen → List Test
section_next_tests seen = (not (in_kind is_sections seen.current), OutsideShare) ∷ (seen.drained, DrainedAlready) ∷ []

-- the end, by the call for this end kind; whether anything is left is tested behind these
abbrev pub sections_end_tests : EndKind → Seen → List Test
sections_end_tests kind seen =
    (not (in_kind is_sections seen.current), OutsideShare) ∷ (end_differs kind seen.current, EndDiffers) ∷ []

-- The answers, and the events after them

-- the answer to the start of a sections construct
abbrev pub AnswersSectionsStart : ℕ → EndKind → Limits → ℕ → ℕ → Reply → List Event → Type 0
AnswersSectionsStart count end_kind limits members m reply h =
    AnswersStart (sections_tests count) (sections_shape count end_kind) DealsSections limits members m reply h

-- the events after it
abbrev pub sections_started : ℕ → EndKind → ℕ → Reply → List Event → List Event
sections_started count end_kind m reply h = entry_and section_given (sections_shape count end_kind) m h reply ++ h

-- after the start of a construct of this shape that its member's own tests let through
abbrev pub sections_begun : Shape → ℕ → Reply → List Event → List Event
sections_begun shape m reply h = entry_and section_given shape m h reply ++ h

-- the answer to a call for the next section
abbrev pub AnswersSectionsNext : ℕ → ℕ → Reply → List Event → Type 0
AnswersSectionsNext members m reply h =
    Answers (section_next_tests (seen_of m h)) (λ given. DealsSections members m (open_share m h) given h) reply

-- the answer to a member that its own tests let ask for the next section: its share deals so
abbrev pub TakesSection : ℕ → ℕ → Reply → List Event → Type 0
TakesSection members m reply h = DealsSections members m (open_share m h) reply h

-- the events after it
abbrev pub section_next_taken : ℕ → Reply → List Event → List Event
section_next_taken m reply h = section_next_given (open_share m h) m reply ++ h

-- of the end by this call
abbrev pub AnswersSectionsEnd : EndKind → ℕ → Reply → List Event → Type 0
AnswersSectionsEnd kind m reply h = Answers (sections_end_tests kind (seen_of m h) ++ drained_tests m h) (λ given. given ≡ Finished) reply
