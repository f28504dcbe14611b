-- Laws that no other file cites, each refuted otherwise in its whole generality.
use Rattle.std.proofs.Common.{◌≡◌, ◌≢◌, ℕ, true, false, List, [], ◌∷◌}
use Rattle.gomp_events.specs.declared.event.Event.{Event}
use Rattle.gomp_events.specs.declared.event.Event.TheVariants.{Hold, Free}
use Rattle.gomp_types.specs.declared.key.Key.{Key}
use Rattle.gomp_types.specs.declared.task.Owner.{Owner}
use Rattle.gomp_types.specs.declared.task.Task.{Task}
use Rattle.gomp_events.specs.Cancels.{share_cancelled}
use Rattle.gomp_events.specs.Takes.{taken_in}
use Rattle.gomp_events.specs.Events.{shape_at, has_room, has_ended, turn, member_of}
use Rattle.gomp_types.specs.Owners.{same_owner}
use Rattle.gomp_events.specs.Seen.{seen_of}
use Rattle.gomp_types.specs.Shapes.{same_shape}
use Rattle.gomp_types.specs.declared.shape.Shape.{Shape}
use Rattle.gomp_types.proofs.Compared.{same_shape_itself}
use Rattle.gomp_shares.specs.Only.{shares_only, own_of}
use Rattle.gomp_shares.proofs.Only.{seen_only, shape_only, taken_only, ended_only, turn_only, cancelled_only, room_only}
use Rattle.gomp_shares.proofs.OwnEvents.{own_else, own_more, seen_apart, seen_own}
use Rattle.gomp_locks.specs.Holders.{owner_of, held_names}
use Rattle.gomp_locks.proofs.HoldsKeep.{names_of_another_stay_held, names_of_another_stay_freed}
use Rattle.gomp_ompt.specs.declared.record.Endpoint.TheVariants.{Begin}
use Rattle.gomp_ompt.specs.declared.record.Record.{Record}
use Rattle.gomp_trace.proofs.Laws.{AllBegin}

-- Shapes

-- no shape compares as another than itself
pub shape_never_compares_as_another : (shape : Shape) → same_shape shape shape ≢ true → ⊥
shape_never_compares_as_another shape other = other (same_shape_itself shape)

-- The events of the shares alone

-- they never tell a member another place
pub place_never_told_by_others : (m : ℕ) (h : List Event) → seen_of m (shares_only h) ≢ seen_of m h → ⊥
place_never_told_by_others m h other = other (seen_only m h)

-- nor another shape of a share
pub shape_never_told_by_others : (share : ℕ) (h : List Event) → shape_at share (shares_only h) ≢ shape_at share h → ⊥
shape_never_told_by_others share h other = other (shape_only share h)

-- nor another number of pieces that were taken
pub takes_never_told_by_others : (queue_of : ℕ → ℕ) (share queue : ℕ) (h : List Event) → taken_in queue_of share queue (shares_only h) ≢ taken_in queue_of share queue h → ⊥
takes_never_told_by_others queue_of share queue h other = other (taken_only queue_of share queue h)

-- nor another member that left it
pub ends_never_told_by_others : (share m : ℕ) (h : List Event) → has_ended share m (shares_only h) ≢ has_ended share m h → ⊥
ends_never_told_by_others share m h other = other (ended_only share m h)

-- nor another turn
pub turn_never_told_by_others : (share : ℕ) (h : List Event) → turn share (shares_only h) ≢ turn share h → ⊥
turn_never_told_by_others share h other = other (turn_only share h)

-- nor another cancellation
pub cancellation_never_told_by_others : (share : ℕ) (h : List Event) → share_cancelled share (shares_only h) ≢ share_cancelled share h → ⊥
cancellation_never_told_by_others share h other = other (cancelled_only share h)

-- nor other room
pub room_never_told_by_others : (members share : ℕ) (h : List Event) → has_room members share (shares_only h) ≢ has_room members share h → ⊥
room_never_told_by_others members share h other = other (room_only members share h)

-- A member's own events

-- no event of another member is among them
pub own_events_never_of_another : (m : ℕ) (event : Event) (h : List Event) → m ≢ member_of event → own_of m (event ∷ h) ≢ own_of m h → ⊥
own_events_never_of_another m event h apart other = other (own_else m event h apart)

-- no event makes two lists differ that have the same of them
pub own_events_never_part : (m : ℕ) (event : Event) (a b : List Event) → own_of m a ≡ own_of m b → own_of m (event ∷ a) ≢ own_of m (event ∷ b) → ⊥
own_events_never_part m event a b same other = other (own_more m event a b same)

-- another member's event never changes what a member sees of its place
pub place_never_changed_by_another : (event : Event) (k : ℕ) (h : List Event) → k ≢ member_of event → seen_of k (event ∷ h) ≢ seen_of k h → ⊥
place_never_changed_by_another event k h apart other = other (seen_apart event k h apart)

-- its own events never tell it another place
pub place_never_told_by_own_events : (m : ℕ) (h : List Event) → seen_of m (own_of m h) ≢ seen_of m h → ⊥
place_never_told_by_own_events m h other = other (seen_own m h)

-- Names

-- no hold of another owner changes which names an owner holds
pub names_never_held_by_another : (key : Key) (owner : Owner) (n : ℕ) (task : Task) (h : List Event) → same_owner (owner_of n task) owner ≡ false → held_names owner (Hold key n task ∷ h) ≢ held_names owner h → ⊥
names_never_held_by_another key owner n task h apart other = other (names_of_another_stay_held key owner n task h apart)

-- nor does a release
pub names_never_freed_by_another : (key : Key) (owner : Owner) (n : ℕ) (task : Task) (h : List Event) → same_owner (owner_of n task) owner ≡ false → held_names owner (Free key n task ∷ h) ≢ held_names owner h → ⊥
names_never_freed_by_another key owner n task h apart other = other (names_of_another_stay_freed key owner n task h apart)

-- Lanes

-- on a lane on which nothing has begun only what begins has
pub nothing_begun_is_all_begun : AllBegin []
nothing_begun_is_all_begun = tt

-- and on one on which something begins besides
pub one_more_begun_is_all_begun : (event : Record) (begun : List Record) → event.scope ≡ Begin → AllBegin begun → AllBegin (event ∷ begun)
one_more_begun_is_all_begun event begun is all = (is, all)
