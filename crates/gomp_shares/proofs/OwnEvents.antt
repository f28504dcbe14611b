-- A member's own events tell what it sees of its place.
use Rattle.std.proofs.Common.{◌≡◌, ◌≢◌, ℕ, ◌+◌, List, [], ◌∷◌, true, false, Some, None, refl, ap, sym, ◌∙◌, inl, inr}
use Rattle.std.specs.Prelude.{◌==◌, ◌&&◌, ◌||◌, if◌then◌else◌}
use Rattle.std.proofs.lemmas.Bool.{cases_Bool}
use Rattle.gomp_events.specs.declared.event.Event.{Event}
use Rattle.gomp_events.specs.declared.event.Event.TheVariants.{Enter, Take, Drained, End, Part, PartEnd, See}
use Rattle.gomp_types.specs.declared.cancel.CancelKind.TheVariants.{Loop, Sections}
use Rattle.gomp_events.specs.Cancels.{same_cancel}
use Rattle.gomp_events.specs.Events.{member_of}
use Rattle.gomp_events.specs.Seen.{seen_of}
use Rattle.gomp_events.specs.declared.seen.Seen.{Seen}
use Rattle.gomp_types.proofs.Booleans.{other_number, unequal_numbers}
use Rattle.gomp_shares.specs.Only.{own_of}

-- an event of another member is not among them
pub own_else : (m : ℕ) (event : Event) (h : List Event) → m ≢ member_of event → own_of m (event ∷ h) ≡ own_of m h
own_else m event h other = rw (other_number (member_of event) m (λ e. other (sym e))) refl

-- and an event comes to both, or to none
pub own_more : (m : ℕ) (event : Event) (a b : List Event) → own_of m a ≡ own_of m b → own_of m (event ∷ a) ≡ own_of m (event ∷ b)
own_more m event a b same = ap (λ (rest : List Event). if member_of event == m then event ∷ rest else rest) same

-- an event of another says the same of it
pub seen_apart : (event : Event) (k : ℕ) (h : List Event) → k ≢ member_of event → seen_of k (event ∷ h) ≡ seen_of k h
seen_apart (Enter share m shape) k h other = rw (other_number m k (λ e. other (sym e))) refl
seen_apart (Take share m low high) k h other = rw (other_number m k (λ e. other (sym e))) refl
seen_apart (Drained share m) k h other = rw (other_number m k (λ e. other (sym e))) refl
seen_apart (End share m) k h other = rw (other_number m k (λ e. other (sym e))) refl
seen_apart (Part share m iteration) k h other = rw (other_number m k (λ e. other (sym e))) refl
seen_apart (PartEnd share m) k h other = rw (other_number m k (λ e. other (sym e))) refl
seen_apart (See m kind) k h other = rw (other_number m k (λ e. other (sym e))) refl
seen_apart _ k h other = refl

-- what a member sees after an event follows from what it saw before
abbrev seen_after_own_event : Event → ℕ → Seen → Seen
seen_after_own_event (Enter share m shape) k s = if m == k then record { entered = s.entered + 1; current = Some (share, shape); drained = false; piece = None; next_part = 0; in_part = false; leaving = false } else s
seen_after_own_event (Take share m low high) k s = if m == k then record s { piece = Some (low, high) } else s
seen_after_own_event (Drained share m) k s = if m == k then record s { drained = true; piece = None } else s
seen_after_own_event (End share m) k s = if m == k then record s { current = None; leaving = false } else s
seen_after_own_event (Part share m iteration) k s = if m == k then record s { next_part = iteration + 1; in_part = true } else s
seen_after_own_event (PartEnd share m) k s = if m == k then record s { in_part = false } else s
seen_after_own_event (See m kind) k s = record s { leaving = (m == k && (same_cancel kind Loop || same_cancel kind Sections)) || s.leaving }
seen_after_own_event _ k s = s

seen_after : (event : Event) (k : ℕ) (h : List Event) → seen_of k (event ∷ h) ≡ seen_after_own_event event k (seen_of k h)
seen_after (Enter share m shape) k h = elim (cases_Bool (m == k)) [ inl e ↦ rw e refl | inr e ↦ rw e refl ]
seen_after (Take share m low high) k h = elim (cases_Bool (m == k)) [ inl e ↦ rw e refl | inr e ↦ rw e refl ]
seen_after (Drained share m) k h = elim (cases_Bool (m == k)) [ inl e ↦ rw e refl | inr e ↦ rw e refl ]
seen_after (End share m) k h = elim (cases_Bool (m == k)) [ inl e ↦ rw e refl | inr e ↦ rw e refl ]
seen_after (Part share m iteration) k h = elim (cases_Bool (m == k)) [ inl e ↦ rw e refl | inr e ↦ rw e refl ]
seen_after (PartEnd share m) k h = elim (cases_Bool (m == k)) [ inl e ↦ rw e refl | inr e ↦ rw e refl ]
seen_after _ k h = refl

pub seen_own : (m : ℕ) (h : List Event) → seen_of m (own_of m h) ≡ seen_of m h
seen_own m [] = refl
seen_own m (event ∷ h) = elim (cases_Bool (member_of event == m)) [
  | inl is ↦ rw is (seen_after event m (own_of m h) ∙ ap (seen_after_own_event event m) (seen_own m h) ∙ sym (seen_after event m h))
  | inr other ↦ rw other (seen_own m h ∙ sym (seen_apart event m h (λ e. unequal_numbers _ _ other (sym e))))
]
