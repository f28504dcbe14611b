-- The parts of a board joined: for what it stands after a stored event, and that it is a board then.
use Rattle.std.proofs.Common.{◌≡◌, ℕ, ◌+◌, ◌-◌, ◌<◌, ◌≤◌, true, inl, inr, List, [], ◌∷◌, ◌++◌, Some, None, length, length-set, refl, ap, ◌∙◌, arith}
use Rattle.std.proofs.lemmas.Bool.{cases_Bool}
use Rattle.std.specs.Prelude.{reverse, sum, slice_set, nat_le}
use Rattle.std.proofs.lemmas.Bool.Decides.{nat_tests}
use Rattle.std.proofs.lemmas.List.{length-reverse}
use Rattle.gomp_types.specs.declared.refusal.Place.{Place}
use Rattle.gomp_events.specs.declared.event.Tag.{Tag}
use Rattle.gomp_events.specs.declared.event.Event.{Event}
use Rattle.gomp_events.specs.declared.event.Event.TheVariants.{Arrive, Pass, Break}
use Rattle.gomp_events.specs.Events.{barriers_passed, at_barrier}
use Rattle.gomp_types.specs.Limits.{shown_number}
use Rattle.gomp_scheduler.specs.Schedulers.{SchedulerView, Stands as SchedulerStands, SchedulerHasMembers as SchedulerHas, scheduler_members}
use Rattle.gomp_scheduler.proofs.Laws.{events_aside_keep_scheduler}
use Rattle.gomp_board.specs.Owed.{owed}
use Rattle.gomp_board.specs.Ops.{arrival_asks, arrival_keeps, given_back}
use Rattle.gomp_board.specs.Boards.{BoardView, Stands, HasMembers, HasSpare, IsBoard, ArrivesFirst, members_of, kept_by}
use Rattle.gomp_board.proofs.BarrierNumbers.{passed_within, shown_exactly}
use Rattle.gomp_board.proofs.BoardEvents.{event_stands, members_after}
use Rattle.gomp_board.proofs.PayloadsKeep.{payloads_stay}
use Rattle.gomp_board.proofs.Sealed.{sealed_aside}
use Rattle.gomp_board.proofs.StoredKeeps.{stored_with, history_after}
use Rattle.gomp_board.proofs.RoomKeeps.{room_within, sum_with, kept_within}
use Rattle.gomp_board.proofs.OwedKeeps.{arrival_owes, pass_owes, break_owes}

-- room changes nothing of what it stands for
pub roomy_stands : (b : BoardView) (room : ℕ) (h : List Event) → Stands b h → Stands (record b { room = room }) h
roomy_stands b room h st = record { scheduler = st.scheduler; sealed = st.sealed; clash = st.clash; payloads = st.payloads; history = st.history }

pub stands_before : (b : BoardView) (room : ℕ) (h : List Event) → Stands (record b { room = room }) h → Stands b h
stands_before b room h st = record { scheduler = st.scheduler; sealed = st.sealed; clash = st.clash; payloads = st.payloads; history = st.history }

-- nor does what a member keeps
pub keeping_stands : (b : BoardView) (room : ℕ) (kept : List ℕ) (h : List Event) → Stands b h → Stands (record b { room = room; kept = kept }) h
keeping_stands b room kept h st = record { scheduler = st.scheduler; sealed = st.sealed; clash = st.clash; payloads = st.payloads; history = st.history }

pub keeping_board : (space m more : ℕ) (b : BoardView) → IsBoard space b → m < members_of b → HasSpare more b → IsBoard space (record b { kept = slice_set b.kept m (kept_by m b + more) })
keeping_board space m more b is low spare =
    let kept = sum_with b.kept m (kept_by m b + more) low in
    let same : length (slice_set b.kept m (kept_by m b + more)) ≡ length b.kept = length-set b.kept m (kept_by m b + more) in
    record {
      stands = keeping_stands b b.room (slice_set b.kept m (kept_by m b + more)) (reverse b.history) is.stands;
      members = rw same is.members;
      room = rw same (omega (arith, kept, spare));
      space = is.space;
      limits = is.limits;
    }

-- room that a member gives back, of what it keeps
pub returning_board : (space m back : ℕ) (b : BoardView) → IsBoard space b → m < members_of b → back ≤ kept_by m b → IsBoard space (record b { room = b.room - back; kept = slice_set b.kept m (kept_by m b - back) })
returning_board space m back b is low enough =
    let kept = sum_with b.kept m (kept_by m b - back) low in
    let within = kept_within b.kept m low in
    let same : length (slice_set b.kept m (kept_by m b - back)) ≡ length b.kept = length-set b.kept m (kept_by m b - back) in
    let old = is.room in
    let fits = is.space in
    record {
      stands = keeping_stands b (b.room - back) (slice_set b.kept m (kept_by m b - back)) (reverse b.history) is.stands;
      members = rw same is.members;
      room = rw same (omega (arith, kept, old, within, enough));
      space = omega (arith, fits);
      limits = is.limits;
    }

-- which is no more than it keeps
pub given_within : (back kept : ℕ) → given_back back kept ≤ kept
given_within back kept =
    elim (cases_Bool (nat_le back kept)) [
      | inl enough ↦ rw enough (grind (arith, nat_tests, enough))
      | inr little ↦ rw little (omega arith)
    ]

-- nor than all the room
pub given_fits : (space m back : ℕ) (b : BoardView) → IsBoard space b → m < members_of b → given_back back (kept_by m b) ≤ b.room
given_fits space m back b is low = let given = given_within back (kept_by m b) in let within = kept_within b.kept m low in let enough = is.room in omega (arith, given, within, enough)

-- the number that a member sees of its next barrier is that number itself
pub barrier_number_is : (space m : ℕ) (b : BoardView) (number : ℕ) (h : List Event) → IsBoard space b → b.room < 4294967296 → ((g : List Event) → SchedulerStands b.scheduler g → number ≡ shown_number (barriers_passed m g)) → Stands b h → number ≡ barriers_passed m h
barrier_number_is space m b number h is small sees st =
    let few = passed_within m (reverse b.history) in
    let size = length-reverse b.history in
    let enough = is.room in
    shown_exactly number (barriers_passed m h) (barriers_passed m (reverse b.history)) (sees h st.scheduler) (sees (reverse b.history) is.stands.scheduler) (omega (arith, few, size, enough, small))

-- A stored event

-- after an arrival, which is at the member's next barrier
pub arrived_stands : (b : BoardView) (history : List Event) (s : SchedulerView) (kept : List ℕ) (m barrier : ℕ) (tag : Tag) (h : List Event) → history ≡ b.history ++ Arrive barrier m tag ∷ [] →
    SchedulerStands s (Arrive barrier m tag ∷ h) → Stands b h → Stands (record b { history = history; scheduler = s; kept = kept }) (Arrive barrier m tag ∷ h)
arrived_stands b history s kept m barrier tag h more next st = event_stands b history b.room kept s (Arrive barrier m tag) h refl tt refl (sealed_aside (Arrive barrier m tag) h tt st.sealed) more next st

pub arrived_stands_next : (b : BoardView) (history : List Event) (s : SchedulerView) (kept : List ℕ) (m barrier : ℕ) (tag : Tag) (h : List Event) → barrier ≡ barriers_passed m h → history ≡ b.history ++ Arrive barrier m tag ∷ [] →
    SchedulerStands s (Arrive (barriers_passed m h) m tag ∷ h) → Stands b h → Stands (record b { history = history; scheduler = s; kept = kept }) (Arrive (barriers_passed m h) m tag ∷ h)
arrived_stands_next b history s kept m barrier tag h number more next st =
    arrived_stands b history s kept m (barriers_passed m h) tag h (more ∙ ap (λ (g : ℕ). b.history ++ Arrive g m tag ∷ []) number) next st

-- after a pass
pub passed_stands : (b : BoardView) (history : List Event) (s : SchedulerView) (m barrier : ℕ) (h : List Event) → history ≡ b.history ++ Pass barrier m ∷ [] →
    SchedulerStands s (Pass barrier m ∷ h) → Stands b h → Stands (record b { history = history; scheduler = s }) (Pass barrier m ∷ h)
passed_stands b history s m barrier h more next st = event_stands b history b.room b.kept s (Pass barrier m) h refl tt refl (sealed_aside (Pass barrier m) h tt st.sealed) more next st

pub passed_stands_next : (b : BoardView) (history : List Event) (s : SchedulerView) (m barrier : ℕ) (h : List Event) → barrier ≡ barriers_passed m h → history ≡ b.history ++ Pass barrier m ∷ [] →
    SchedulerStands s (Pass (barriers_passed m h) m ∷ h) → Stands b h → Stands (record b { history = history; scheduler = s }) (Pass (barriers_passed m h) m ∷ h)
passed_stands_next b history s m barrier h number more next st =
    passed_stands b history s m (barriers_passed m h) h (more ∙ ap (λ (g : ℕ). b.history ++ Pass g m ∷ []) number) next st

-- after the first break
pub broken_stands : (b : BoardView) (history : List Event) (m : ℕ) (place : Place) (h : List Event) → history ≡ b.history ++ Break m place ∷ [] → b.clash ≡ None →
    Stands b h → Stands (record b { history = history; clash = Some (record { member = m; place = place }) }) (Break m place ∷ h)
broken_stands b history m place h more whole st = record {
  scheduler = events_aside_keep_scheduler b.scheduler h (Break m place) tt tt tt st.scheduler;
  sealed = sealed_aside (Break m place) h tt st.sealed;
  clash = rw (st.clash ∙ whole) refl;
  payloads = payloads_stay b.payloads (Break m place) h tt st.payloads;
  history = stored_with b.history history (Break m place) h refl more st.history;
}

-- it is a board afterwards: it stands for its own history, with the room that there was
pub board_with : (space more new_space : ℕ) (b after : BoardView) (event : Event) → IsBoard space b → after.history ≡ b.history ++ event ∷ [] → Stands after (event ∷ reverse b.history) → HasMembers after →
    members_of after ≡ members_of b → after.limits ≡ b.limits → after.room ≡ b.room → owed (members_of b) (event ∷ reverse b.history) + 1 + sum after.kept ≤ owed (members_of b) (reverse b.history) + more + sum b.kept →
    HasSpare more b → b.room ≤ new_space → IsBoard new_space after
board_with space more new_space b after event is longer st members size limits room owes spare within = record {
  stands = history_after (λ h. Stands after h) b.history after.history event longer st;
  members = members;
  room = rw (size, room) (room_within (members_of b) b.room more (sum b.kept) (sum after.kept) b.history after.history event longer owes spare).1;
  space = rw room within;
  limits = rw limits is.limits;
}

-- after the first break
broken_board_with : (space new_space m : ℕ) (place : Place) (b : BoardView) (history : List Event) → IsBoard space b → b.clash ≡ None → history ≡ b.history ++ Break m place ∷ [] → new_space ≡ space →
    IsBoard new_space (record b { history = history; clash = Some (record { member = m; place = place }) })
broken_board_with space new_space m place b history is whole more memory =
    let owes = break_owes (members_of b) m place (reverse b.history) (is.stands.clash ∙ whole) in
    let enough = is.room in
    let within = is.space in
    board_with space 0 new_space b (record b { history = history; clash = Some (record { member = m; place = place }) }) (Break m place) is more (broken_stands b history m place (reverse b.history) more whole is.stands)
    is.members refl refl refl (omega (arith, owes)) (omega (arith, enough)) (omega (arith, within, memory))

-- at which room was given back
pub broken_board : (space new_space m back : ℕ) (place : Place) (b : BoardView) (history : List Event) → IsBoard space b → m < members_of b → b.clash ≡ None → history ≡ b.history ++ Break m place ∷ [] → new_space ≡ space →
    IsBoard new_space (record b { room = b.room - given_back back (kept_by m b); kept = slice_set b.kept m (kept_by m b - given_back back (kept_by m b)); history = history; clash = Some (record { member = m; place = place }) })
broken_board space new_space m back place b history is low whole more memory =
    let given = given_back back (kept_by m b) in
    broken_board_with space new_space m place (record b { room = b.room - given; kept = slice_set b.kept m (kept_by m b - given) }) history (returning_board space m given b is low (given_within back (kept_by m b))) whole more memory

pub broken_stands_with : (b : BoardView) (history : List Event) (room m : ℕ) (kept : List ℕ) (place : Place) (h : List Event) → history ≡ b.history ++ Break m place ∷ [] → b.clash ≡ None →
    Stands b h → Stands (record b { room = room; kept = kept; history = history; clash = Some (record { member = m; place = place }) }) (Break m place ∷ h)
broken_stands_with b history room m kept place h more whole st = broken_stands (record b { room = room; kept = kept }) history m place h more whole (keeping_stands b room kept h st)

-- after a pass
pub passed_board : (space new_space m barrier : ℕ) (b : BoardView) (history : List Event) (s : SchedulerView) → IsBoard space b → m < members_of b → at_barrier m (reverse b.history) ≡ true → history ≡ b.history ++ Pass barrier m ∷ [] →
    SchedulerHas (scheduler_members b.scheduler) s → SchedulerStands s (Pass barrier m ∷ reverse b.history) → new_space ≡ space → IsBoard new_space (record b { history = history; scheduler = s })
passed_board space new_space m barrier b history s is low there more has next memory =
    let owes = pass_owes (members_of b) m barrier (reverse b.history) low there in
    let enough = is.room in
    let within = is.space in
    board_with space 0 new_space b (record b { history = history; scheduler = s }) (Pass barrier m) is more (passed_stands b history s m barrier (reverse b.history) more next is.stands)
    (members_after b b.kept s is.members refl has) refl refl refl (omega (arith, owes)) (omega (arith, enough)) (omega (arith, within, memory))

-- after an arrival, for which the room is there
pub arrived_board : (space new_space m barrier : ℕ) (tag : Tag) (b : BoardView) (history : List Event) (s : SchedulerView) → IsBoard space b → m < members_of b → ArrivesFirst m tag (reverse b.history) →
    HasSpare (arrival_asks tag.kind (kept_by m b)) b → history ≡ b.history ++ Arrive barrier m tag ∷ [] → SchedulerHas (scheduler_members b.scheduler) s → SchedulerStands s (Arrive barrier m tag ∷ reverse b.history) → new_space ≡ space →
    IsBoard new_space (record b { history = history; scheduler = s; kept = slice_set b.kept m (arrival_keeps tag.kind (kept_by m b)) })
arrived_board space new_space m barrier tag b history s is low first spare more has next memory =
    let owes = arrival_owes (members_of b) m barrier (kept_by m b) tag (reverse b.history) low first in
    let kept = sum_with b.kept m (arrival_keeps tag.kind (kept_by m b)) low in
    let same : length (slice_set b.kept m (arrival_keeps tag.kind (kept_by m b))) ≡ length b.kept = length-set b.kept m (arrival_keeps tag.kind (kept_by m b)) in
    let within = is.space in
    let after = record b { history = history; scheduler = s; kept = slice_set b.kept m (arrival_keeps tag.kind (kept_by m b)) } in
    board_with space (arrival_asks tag.kind (kept_by m b)) new_space b after (Arrive barrier m tag) is more
    (arrived_stands b history s (slice_set b.kept m (arrival_keeps tag.kind (kept_by m b))) m barrier tag (reverse b.history) more next is.stands) (members_after b (slice_set b.kept m (arrival_keeps tag.kind (kept_by m b))) s is.members same has) same refl refl (omega (arith, owes, kept)) spare (omega (arith, within, memory))

-- there was memory for it
pub arrival_fits : (space m barrier : ℕ) (tag : Tag) (b : BoardView) → IsBoard space b → m < members_of b → ArrivesFirst m tag (reverse b.history) → HasSpare (arrival_asks tag.kind (kept_by m b)) b → length b.history < space
arrival_fits space m barrier tag b is low first spare =
    let owes = arrival_owes (members_of b) m barrier (kept_by m b) tag (reverse b.history) low first in
    let few = kept_within b.kept m low in
    let within = is.space in
    omega (arith, owes, few, spare, within)

pub pass_fits : (space m barrier : ℕ) (b : BoardView) → IsBoard space b → m < members_of b → at_barrier m (reverse b.history) ≡ true → length b.history < space
pass_fits space m barrier b is low there =
    let owes = pass_owes (members_of b) m barrier (reverse b.history) low there in
    let enough = is.room in
    let within = is.space in
    omega (arith, owes, enough, within)
