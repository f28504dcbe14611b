-- What is asked of a list of events about the work-shares, its events of the shares alone tell.
use Rattle.std.proofs.Common.{◌≡◌, ℕ, zero, suc, ◌-◌, Bool, true, false, List, [], ◌∷◌, refl, sym, ap, ◌∙◌}
use Rattle.std.specs.Prelude.{◌==◌, ◌&&◌, ◌||◌, nat_lt}
use Rattle.gomp_events.specs.declared.event.Event.{Event}
use Rattle.gomp_events.specs.declared.event.Event.TheVariants.{Enter, Take, Drained, End, HandOn, Part, PartEnd, Cancel, See}
use Rattle.gomp_types.specs.declared.cancel.CancelKind.TheVariants.{Parallel, Loop, Sections, Taskgroup}
use Rattle.gomp_types.specs.declared.cancel.Scope.TheVariants.{OneShare}
use Rattle.gomp_events.specs.Cancels.{share_cancelled, leaves_share}
use Rattle.gomp_types.specs.declared.limits.TheConstants.{OPEN_SHARES}
use Rattle.gomp_events.specs.Events.{shares_entered, open_share, has_drained, last_piece, next_part, in_part, shape_at, has_ended, turn, has_room}
use Rattle.gomp_types.specs.Members.{every_member}
use Rattle.gomp_events.specs.Takes.{taken_in}
use Rattle.gomp_events.specs.Seen.{seen_of}
use Rattle.gomp_shares.specs.Only.{shares_only}

-- what is seen of another region says nothing of the share
pub sees_another : (a b : Bool) → (a && false || b) ≡ b
sees_another true b = refl
sees_another false b = refl

-- Where a member is

pub entered_only : (m : ℕ) (h : List Event) → shares_entered m (shares_only h) ≡ shares_entered m h
entered_only m [] = refl
entered_only m (Enter share k shape ∷ h) = rw (entered_only m h) refl
entered_only m (Cancel k (OneShare share) ∷ h) = entered_only m h
entered_only m (See k Loop ∷ h) = entered_only m h
entered_only m (See k Sections ∷ h) = entered_only m h
entered_only m (_ ∷ h) = entered_only m h

pub open_only : (m : ℕ) (h : List Event) → open_share m (shares_only h) ≡ open_share m h
open_only m [] = refl
open_only m (Enter share k shape ∷ h) = rw (open_only m h) refl
open_only m (End share k ∷ h) = rw (open_only m h) refl
open_only m (Cancel k (OneShare share) ∷ h) = open_only m h
open_only m (See k Loop ∷ h) = open_only m h
open_only m (See k Sections ∷ h) = open_only m h
open_only m (_ ∷ h) = open_only m h

pub drained_only : (m : ℕ) (h : List Event) → has_drained m (shares_only h) ≡ has_drained m h
drained_only m [] = refl
drained_only m (Enter share k shape ∷ h) = rw (drained_only m h) refl
drained_only m (Drained share k ∷ h) = rw (drained_only m h) refl
drained_only m (Cancel k (OneShare share) ∷ h) = drained_only m h
drained_only m (See k Loop ∷ h) = drained_only m h
drained_only m (See k Sections ∷ h) = drained_only m h
drained_only m (_ ∷ h) = drained_only m h

pub piece_only : (m : ℕ) (h : List Event) → last_piece m (shares_only h) ≡ last_piece m h
piece_only m [] = refl
piece_only m (Enter share k shape ∷ h) = rw (piece_only m h) refl
piece_only m (Take share k low high ∷ h) = rw (piece_only m h) refl
piece_only m (Drained share k ∷ h) = rw (piece_only m h) refl
piece_only m (Cancel k (OneShare share) ∷ h) = piece_only m h
piece_only m (See k Loop ∷ h) = piece_only m h
piece_only m (See k Sections ∷ h) = piece_only m h
piece_only m (_ ∷ h) = piece_only m h

pub part_only : (m : ℕ) (h : List Event) → next_part m (shares_only h) ≡ next_part m h
part_only m [] = refl
part_only m (Enter share k shape ∷ h) = rw (part_only m h) refl
part_only m (Part share k iteration ∷ h) = rw (part_only m h) refl
part_only m (Cancel k (OneShare share) ∷ h) = part_only m h
part_only m (See k Loop ∷ h) = part_only m h
part_only m (See k Sections ∷ h) = part_only m h
part_only m (_ ∷ h) = part_only m h

pub in_part_only : (m : ℕ) (h : List Event) → in_part m (shares_only h) ≡ in_part m h
in_part_only m [] = refl
in_part_only m (Enter share k shape ∷ h) = rw (in_part_only m h) refl
in_part_only m (Part share k iteration ∷ h) = rw (in_part_only m h) refl
in_part_only m (PartEnd share k ∷ h) = rw (in_part_only m h) refl
in_part_only m (Cancel k (OneShare share) ∷ h) = in_part_only m h
in_part_only m (See k Loop ∷ h) = in_part_only m h
in_part_only m (See k Sections ∷ h) = in_part_only m h
in_part_only m (_ ∷ h) = in_part_only m h

pub leaving_only : (m : ℕ) (h : List Event) → leaves_share m (shares_only h) ≡ leaves_share m h
leaving_only m [] = refl
leaving_only m (Enter share k shape ∷ h) = rw (leaving_only m h) refl
leaving_only m (End share k ∷ h) = rw (leaving_only m h) refl
leaving_only m (Cancel k (OneShare share) ∷ h) = leaving_only m h
leaving_only m (See k Loop ∷ h) = rw (leaving_only m h) refl
leaving_only m (See k Sections ∷ h) = rw (leaving_only m h) refl
leaving_only m (See k Parallel ∷ h) = leaving_only m h ∙ sym (sees_another (k == m) (leaves_share m h))
leaving_only m (See k Taskgroup ∷ h) = leaving_only m h ∙ sym (sees_another (k == m) (leaves_share m h))
leaving_only m (_ ∷ h) = leaving_only m h

-- so a member sees the same of its place
pub seen_only : (m : ℕ) (h : List Event) → seen_of m (shares_only h) ≡ seen_of m h
seen_only m h = rw (entered_only m h, open_only m h, drained_only m h, piece_only m h, part_only m h, in_part_only m h, leaving_only m h) refl

-- What is known of a share

pub shape_only : (i : ℕ) (h : List Event) → shape_at i (shares_only h) ≡ shape_at i h
shape_only i [] = refl
shape_only i (Enter share k shape ∷ h) = rw (shape_only i h) refl
shape_only i (Cancel k (OneShare share) ∷ h) = shape_only i h
shape_only i (See k Loop ∷ h) = shape_only i h
shape_only i (See k Sections ∷ h) = shape_only i h
shape_only i (_ ∷ h) = shape_only i h

pub taken_only : (queue_of : ℕ → ℕ) (i q : ℕ) (h : List Event) → taken_in queue_of i q (shares_only h) ≡ taken_in queue_of i q h
taken_only queue_of i q [] = refl
taken_only queue_of i q (Take share k low high ∷ h) = rw (taken_only queue_of i q h) refl
taken_only queue_of i q (Cancel k (OneShare share) ∷ h) = taken_only queue_of i q h
taken_only queue_of i q (See k Loop ∷ h) = taken_only queue_of i q h
taken_only queue_of i q (See k Sections ∷ h) = taken_only queue_of i q h
taken_only queue_of i q (_ ∷ h) = taken_only queue_of i q h

pub ended_only : (i m : ℕ) (h : List Event) → has_ended i m (shares_only h) ≡ has_ended i m h
ended_only i m [] = refl
ended_only i m (End share k ∷ h) = rw (ended_only i m h) refl
ended_only i m (Cancel k (OneShare share) ∷ h) = ended_only i m h
ended_only i m (See k Loop ∷ h) = ended_only i m h
ended_only i m (See k Sections ∷ h) = ended_only i m h
ended_only i m (_ ∷ h) = ended_only i m h

every_same : (count : ℕ) (f g : ℕ → Bool) → ((m : ℕ) → f m ≡ g m) → every_member count f ≡ every_member count g
every_same zero f g same = refl
every_same (suc count) f g same = rw (same count, every_same count f g same) refl

pub room_only : (members i : ℕ) (h : List Event) → has_room members i (shares_only h) ≡ has_room members i h
room_only members i h =
    let all = every_same members (λ m. has_ended (i - OPEN_SHARES) m (shares_only h)) (λ m. has_ended (i - OPEN_SHARES) m h) (λ m. ended_only (i - OPEN_SHARES) m h) in
    ap (λ (b : Bool). nat_lt i OPEN_SHARES || b) all

pub turn_only : (i : ℕ) (h : List Event) → turn i (shares_only h) ≡ turn i h
turn_only i [] = refl
turn_only i (HandOn share k piece ∷ h) = rw (turn_only i h) refl
turn_only i (Cancel k (OneShare share) ∷ h) = turn_only i h
turn_only i (See k Loop ∷ h) = turn_only i h
turn_only i (See k Sections ∷ h) = turn_only i h
turn_only i (_ ∷ h) = turn_only i h

pub cancelled_only : (i : ℕ) (h : List Event) → share_cancelled i (shares_only h) ≡ share_cancelled i h
cancelled_only i [] = refl
cancelled_only i (Cancel k (OneShare share) ∷ h) = rw (cancelled_only i h) refl
cancelled_only i (See k Loop ∷ h) = cancelled_only i h
cancelled_only i (See k Sections ∷ h) = cancelled_only i h
cancelled_only i (_ ∷ h) = cancelled_only i h
