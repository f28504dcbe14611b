-- The seat that stands for all members keeps the laws of the trait. (own)
use Rattle.std.specs.Prelude.{ℕ, ◌<◌, ◌≡◌, false, List, ◌∷◌, Some, refl}
use Rattle.std.proofs.Common.{sym, ap, ◌∙◌}
use Rattle.gomp_events.specs.declared.event.Event.{Event}
use Rattle.gomp_events.specs.declared.event.Event.TheVariants.{Enter, Take, Drained, End, HandOn, Part, PartEnd, Cancel, See}
use Rattle.gomp_types.specs.declared.cancel.CancelKind.TheVariants.{Parallel, Loop, Sections, Taskgroup}
use Rattle.gomp_types.specs.declared.cancel.Scope.TheVariants.{OneShare}
use Rattle.gomp_types.specs.declared.shape.Shape.{Shape}
use Rattle.gomp_types.specs.Values.{IsShape}
use Rattle.gomp_types.specs.Deals.{schedule}
use Rattle.gomp_events.specs.Events.{open_share}
use Rattle.gomp_events.specs.Seen.{seen_of}
use Rattle.gomp_shares.specs.Calls.{is_of_shares, IsNoShareEvent}
use Rattle.gomp_shares.specs.Rules.{ShareRule}
use Rattle.gomp_shares.proofs.Only.{seen_only, open_only}
use Rattle.gomp_share_ring.specs.AllShares.{AllView, StandsForAll, all_seen}

-- a member sees what the events say
pub all_agrees : (s : AllView) (h : List Event) (m : ℕ) → StandsForAll s.members s.seats s.did h → m < s.members → all_seen s.seats m ≡ seen_of m h
all_agrees s h m st lt = st.sees m lt ∙ ap (seen_of m) (sym st.same) ∙ seen_only m h

-- the shape of a share that a member is in is one that a construct has
pub all_valid : (s : AllView) (h : List Event) (m i : ℕ) (shape : Shape) → StandsForAll s.members s.seats s.did h → open_share m h ≡ Some (i, shape) → IsShape shape
all_valid s h m i shape st there = st.valid m (i, shape) (ap (open_share m) (sym st.same) ∙ open_only m h ∙ there)

-- the shares do not see such an event, and the rule asks nothing of it
pub record IsUnseen (members : ℕ) (event : Event) (h : List Event) : Type 0 where
  pub other : is_of_shares event ≡ false
  pub rule : ShareRule (schedule members) members event h

-- each such event is one of these
aside_is_unseen : (members : ℕ) (event : Event) (h : List Event) → IsNoShareEvent event → IsUnseen members event h
aside_is_unseen members (Enter share k shape) h is = absurd is
aside_is_unseen members (Take share k low high) h is = absurd is
aside_is_unseen members (Drained share k) h is = absurd is
aside_is_unseen members (End share k) h is = absurd is
aside_is_unseen members (HandOn share k piece) h is = absurd is
aside_is_unseen members (Part share k iteration) h is = absurd is
aside_is_unseen members (PartEnd share k) h is = absurd is
aside_is_unseen members (Cancel k (OneShare share)) h is = absurd is
aside_is_unseen members (See k Loop) h is = absurd is
aside_is_unseen members (See k Sections) h is = absurd is
aside_is_unseen members (See k Parallel) h is = record { other = refl; rule = tt }
aside_is_unseen members (See k Taskgroup) h is = record { other = refl; rule = tt }
aside_is_unseen members _ h is = record { other = refl; rule = tt }

-- so nothing that is kept depends on arrivals and the like
pub all_aside : (s : AllView) (h : List Event) (event : Event) → IsNoShareEvent event → StandsForAll s.members s.seats s.did h → StandsForAll s.members s.seats s.did (event ∷ h)
all_aside s h event is st =
    let nothing = aside_is_unseen s.members event h is in record {
      same = rw nothing.other st.same;
      rule = (nothing.rule, st.rule);
      sees = st.sees;
      valid = st.valid;
    }
