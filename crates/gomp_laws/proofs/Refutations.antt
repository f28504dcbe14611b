-- What the headline and the laws of replies forbid, of any team, member, share, task, key and list: each lemma takes a law of what happened and what one clause of it forbids.
use Rattle.std.proofs.Common.{◌≡◌, ◌<◌, ◌≤◌, ℕ, Bool, true, false, List, [], ◌∷◌, Some, None, refl, arith, inl, inr, slice_get, length}
use Rattle.std.specs.Prelude.{ℤ, ◌⊎◌, ◌≢◌, ◌++◌, ◌%◌, is_some, not}
use Rattle.gomp_types.specs.declared.call.Step.{Step}
use Rattle.gomp_types.specs.declared.cancel.CancelKind.{CancelKind}
use Rattle.gomp_types.specs.declared.cancel.Scope.{Scope}
use Rattle.gomp_types.specs.declared.cancel.Scope.TheVariants.{OneShare}
use Rattle.gomp_events.specs.declared.event.Event.{Event}
use Rattle.gomp_events.specs.declared.event.Event.TheVariants.{Enter, Take, End, HandOn, Put, Got, Arrive, Pass, Free, Create, Start, Done, Cancel, See, Break}
use Rattle.gomp_events.specs.declared.event.Tag.{Tag}
use Rattle.gomp_types.specs.declared.key.Key.{Key}
use Rattle.gomp_types.specs.declared.loop_desc.EndKind.TheVariants.{Cancellable}
use Rattle.gomp_types.specs.declared.key.Key.TheVariants.{Critical}
use Rattle.gomp_types.specs.declared.refusal.Place.{Place}
use Rattle.gomp_types.specs.declared.refusal.Refusal.{Refusal}
use Rattle.gomp_types.specs.declared.refusal.Refusal.TheVariants.{NoMemory}
use Rattle.gomp_types.specs.declared.reply.Reply.{Reply}
use Rattle.gomp_types.specs.declared.reply.Reply.TheVariants.{Chunk, Wait, Count, Created, Run, TaskDone, Cancelled, Dropped, Refused}
use Rattle.gomp_types.specs.declared.shape.Shape.{Shape}
use Rattle.gomp_types.specs.declared.task.Owner.{Owner}
use Rattle.gomp_types.specs.declared.task.Task.{Task}
use Rattle.gomp_types.specs.declared.task.Task.TheVariants.{Explicit}
use Rattle.gomp_types.specs.declared.task.TaskDesc.{TaskDesc}
use Rattle.gomp_events.specs.Arrivals.{SameArrivals, PassesAfterAll, EndsAfterAll}
use Rattle.gomp_events.specs.Cancels.{is_cancelled, leaves_region, scope_of, names_cancelled, share_cancelled, would_be_covered}
use Rattle.gomp_types.specs.Deals.{schedule}
use Rattle.gomp_events.specs.Takes.{next_for}
use Rattle.gomp_events.specs.Events.{member_of, at_region_end, has_left_region, shares_entered, times_taken}
use Rattle.gomp_events.specs.Laws.{Always, Happened}
use Rattle.gomp_types.specs.Owners.{same_owner}
use Rattle.gomp_types.specs.Pieces.{pieces_of}
use Rattle.gomp_types.specs.Shapes.{is_copy, is_static}
use Rattle.gomp_events.specs.TaskLaws.{IsCreated, IsTaskDone, TaskLaws}
use Rattle.gomp_events.specs.Tasks.{epoch, executed_task, is_undeferred}
use Rattle.gomp_types.proofs.Booleans.{not_both}
use Rattle.gomp_shares.specs.Laws.{IsOver, TakenOnce, TakesNext, TakesWithin, LeavesNothing, TakesItsOwn, EntersOneByOne, EndsInside, EntersWithRoom, SameShares, OrderedLaws, CancelsCancellable, LeavesCancelled}
use Rattle.gomp_locks.specs.HoldLaws.{holds_left, AtEachMoment, OneOwner, HeldOnce, FreesItsOwn, PassesFree}
use Rattle.gomp_locks.specs.Holders.{asker, is_nestable, owner_of}
use Rattle.gomp_model.specs.Past.{Terms, Past}
use Rattle.gomp_model.specs.Team.{Record, row_at, past_after, past_of, events, Caused, OneReply, MayAnswer, ChoosesTask, refusal_of}
use Rattle.gomp_laws.specs.Headline.{Headline}
use Rattle.gomp_laws.specs.Laws.{LeavesHandedOn, PutsOnce, GetsWhatWasPut, LeavesWithWords, ArrivesOnce, ArrivesOutside, HappensUnbroken, HappensInside, TellsShares, ClosesShares, CancelsNamed, SeesCancelled}
use Rattle.gomp_laws.specs.Replies.{EachReply, HoldReplies, TaskReplies, TellsCancelledRegion, DropsCovered, CancelReplies}
use Rattle.gomp_laws.proofs.Laws.{headline_holds, at_most_one_reply_has_its_cause, some_reply_has_its_cause, replies_on_names_and_locks, replies_on_tasks, replies_on_cancellation, chunk_has_an_iteration, least_refusal_is_an_answer}

-- The headline. Its records of laws are the whole ones: what these forbid stands with them, in gomp_types and gomp_shares

pub headline_takes_once : (members : ℕ) (h : List Event) → Headline members h → TakenOnce (schedule members) h
headline_takes_once members h headline = headline.taken_once

pub headline_orders_parts : (members : ℕ) (h : List Event) → Headline members h → OrderedLaws members h
headline_orders_parts members h headline = headline.ordered

pub headline_shares_alike : (members : ℕ) (h : List Event) → Headline members h → SameShares members h
headline_shares_alike members h headline = headline.same_shares

pub headline_arrives_alike : (members : ℕ) (h : List Event) → Headline members h → SameArrivals h
headline_arrives_alike members h headline = headline.same_arrivals

pub headline_keeps_tasks : (members : ℕ) (h : List Event) → Headline members h → TaskLaws h
headline_keeps_tasks members h headline = headline.tasks

-- a law of each event is of those that happened before too, and one of each moment of those before
pub headline_of_shares_held_before : (members : ℕ) (event : Event) (h : List Event) → Headline members (event ∷ h) → Always (TakesItsOwn members) h × Always (LeavesHandedOn members) h × Always PutsOnce h × Always GetsWhatWasPut h × Always LeavesWithWords h
headline_of_shares_held_before members event h headline = (headline.owned.1, headline.none_held.1, headline.puts.1, headline.gets.1, headline.served.1)

pub headline_of_takes_held_before : (members : ℕ) (event : Event) (h : List Event) → Headline members (event ∷ h) → Always (TakesNext (schedule members)) h × Always TakesWithin h × Always (LeavesNothing (schedule members)) h
headline_of_takes_held_before members event h headline = (headline.taken_once.pieces.1, headline.taken_once.within.1, headline.taken_once.left.1)

pub headline_of_entries_held_before : (members : ℕ) (event : Event) (h : List Event) → Headline members (event ∷ h) → Always (EntersOneByOne members) h × Always EndsInside h × Always (EntersWithRoom members) h
headline_of_entries_held_before members event h headline = (headline.same_shares.one_by_one.1, headline.same_shares.ends.1, headline.same_shares.room.1)

pub headline_of_parts_held_before : (members : ℕ) (event : Event) (h : List Event) → Headline members (event ∷ h) → OrderedLaws members h
headline_of_parts_held_before members event h headline = let laws = headline.ordered in record { rise = laws.rise.1; in_turn = laws.in_turn.1; handed_on = laws.handed_on.1; apart = laws.apart.1 }

pub headline_of_tags_held_before : (members : ℕ) (event : Event) (h : List Event) → Headline members (event ∷ h) → SameArrivals h
headline_of_tags_held_before members event h headline = let laws = headline.same_arrivals in record { one_by_one = laws.one_by_one.1; tags = laws.tags.1; ends = laws.ends.1 }

pub headline_of_tasks_held_before : (members : ℕ) (event : Event) (h : List Event) → Headline members (event ∷ h) → TaskLaws h
headline_of_tasks_held_before members event h headline = let laws = headline.tasks in record {
  created_once = laws.created_once.1;
  created_in = laws.created_in.1;
  started_once = laws.started_once.1;
  after_named = laws.after_named.1;
  own = laws.own.1;
  descendants = laws.descendants.1;
  ended_once = laws.ended_once.1;
  started_uncovered = laws.started_uncovered.1;
  created_uncovered = laws.created_uncovered.1;
  discarded = laws.discarded.1;
  waits = laws.waits.1;
  opened_once = laws.opened_once.1;
  groups_ended = laws.groups_ended.1;
  passes = laws.passes.1;
  later = laws.later.1;
  region = laws.region.1;
}

pub headline_of_arrivals_held_before : (members : ℕ) (event : Event) (h : List Event) → Headline members (event ∷ h) → Always (ArrivesOnce members) h × Always ArrivesOutside h × Always TellsShares h × Always HappensUnbroken h × Always HappensInside h
headline_of_arrivals_held_before members event h headline = (headline.arrive_once.1, headline.arrive_outside.1, headline.one_order.1, headline.unbroken.1, headline.in_region.1)

pub headline_of_passes_held_before : (members : ℕ) (event : Event) (h : List Event) → Headline members (event ∷ h) → Always (PassesAfterAll members) h × Always (EndsAfterAll members) h × Always (ClosesShares members) h × Always PassesFree h
headline_of_passes_held_before members event h headline = (headline.passes.1, headline.ends.1, headline.closes.1, headline.passes_free.1)

pub headline_of_holds_held_before : (members : ℕ) (event : Event) (h : List Event) → Headline members (event ∷ h) → AtEachMoment OneOwner h × AtEachMoment HeldOnce h × Always FreesItsOwn h
headline_of_holds_held_before members event h headline = (headline.one_owner.1, headline.held_once.1, headline.frees.1)

pub headline_of_cancellations_held_before : (members : ℕ) (event : Event) (h : List Event) → Headline members (event ∷ h) → Always (CancelsNamed members) h × Always CancelsCancellable h × Always (LeavesCancelled (schedule members)) h × Always (SeesCancelled members) h
headline_of_cancellations_held_before members event h headline = (headline.cancels.1, headline.cancelled.1, headline.left_early.1, headline.sees.1)

-- an iteration, a section or a single that is taken twice
pub nothing_taken_twice : (members share k : ℕ) (h : List Event) → 1 < times_taken share k h → Headline members h → ⊥
nothing_taken_twice members share k h twice headline = absurd (let once = headline.taken_once.once share k in omega (arith, twice, once))

-- a piece of a static loop whose number does not count round to its member
pub never_takes_anothers_piece : (members share m low high : ℕ) (shape : Shape) (h : List Event) → Happened (Enter share m shape) h → is_static shape.kind ≡ true
    → ((number : ℕ) → slice_get (pieces_of members shape) number ≡ Some (low, high) → number % members ≡ m → ⊥) → Headline members (Take share m low high ∷ h) → ⊥
never_takes_anothers_piece members share m low high shape h entered static other headline = let own = headline.owned.0 shape entered static in other own.0 own.1 own.2

-- an iteration of a share that all members left, and nobody cancelled, that nobody took
pub no_share_over_with_an_iteration_left : (members share m k : ℕ) (shape : Shape) (h : List Event) → Happened (Enter share m shape) h → IsOver members share h → share_cancelled share h ≡ false → k < shape.trips → times_taken share k h ≡ 0 → Headline members h → ⊥
no_share_over_with_an_iteration_left members share m k shape h entered over kept low none headline = absurd (let once = headline.whole share m shape entered over kept k low in omega (arith, none, once))

-- a member leaves an ordered loop, and a piece that it took was not handed on
pub never_leaves_with_a_piece_held : (members share m low high : ℕ) (shape : Shape) (h : List Event) → Happened (Enter share m shape) h → shape.ordered ≡ true → Happened (Take share m low high) h
    → ((piece : ℕ) → Happened (HandOn share m piece) h → slice_get (pieces_of members shape) piece ≡ Some (low, high) → ⊥) → Headline members (End share m ∷ h) → ⊥
never_leaves_with_a_piece_held members share m low high shape h entered ordered took held headline = let on = headline.none_held.0 shape low high entered ordered took in held on.0 on.1 on.2

-- a piece of an ordered loop that all members left was not handed on
pub never_over_with_a_piece_held : (members share m piece : ℕ) (shape : Shape) (h : List Event) → Happened (Enter share m shape) h → shape.ordered ≡ true → IsOver members share h → piece < length (pieces_of members shape)
    → ((n : ℕ) → Happened (HandOn share n piece) h → ⊥) → Headline members h → ⊥
never_over_with_a_piece_held members share m piece shape h entered ordered over low held headline = let on = headline.all_handed_on share m piece shape entered ordered over low in held on.0 on.1

-- Words of a single

-- words are put in a share that has none, by one that did not enter it, that left it, or that did not take its piece, or twice
pub never_puts_without_words : (members share m : ℕ) (payload : List ℕ) (h : List Event) → ((shape : Shape) → Happened (Enter share m shape) h → is_copy shape.kind ≡ true → ⊥) → Headline members (Put share m payload ∷ h) → ⊥
never_puts_without_words members share m payload h never headline = let put = headline.puts.0 in never put.0 put.4 put.3

pub never_puts_outside : (members share m : ℕ) (payload : List ℕ) (h : List Event) → ((shape : Shape) → Happened (Enter share m shape) h → ⊥) → Headline members (Put share m payload ∷ h) → ⊥
never_puts_outside members share m payload h never headline = let put = headline.puts.0 in never put.0 put.4

pub never_puts_when_left : (members share m : ℕ) (payload : List ℕ) (h : List Event) → Happened (End share m) h → Headline members (Put share m payload ∷ h) → ⊥
never_puts_when_left members share m payload h left headline = headline.puts.0.5 left

pub never_puts_untaken : (members share m : ℕ) (payload : List ℕ) (h : List Event) → ((low high : ℕ) → Happened (Take share m low high) h → ⊥) → Headline members (Put share m payload ∷ h) → ⊥
never_puts_untaken members share m payload h never headline = let put = headline.puts.0 in never put.1 put.2 put.6

pub never_puts_twice : (members share m n : ℕ) (payload other : List ℕ) (h : List Event) → Happened (Put share n other) h → Headline members (Put share m payload ∷ h) → ⊥
never_puts_twice members share m n payload other h before headline = headline.puts.0.7 n other before

-- a member is given words that nobody put, outside of the single, when it left, or as its executor
pub never_given_other_words : (members share m : ℕ) (payload : List ℕ) (h : List Event) → ((n : ℕ) → Happened (Put share n payload) h → ⊥) → Headline members (Got share m payload ∷ h) → ⊥
never_given_other_words members share m payload h never headline = let got = headline.gets.0 in never got.1 got.5

pub never_given_outside : (members share m : ℕ) (payload : List ℕ) (h : List Event) → ((shape : Shape) → Happened (Enter share m shape) h → ⊥) → Headline members (Got share m payload ∷ h) → ⊥
never_given_outside members share m payload h never headline = let got = headline.gets.0 in never got.0 got.2

pub never_given_when_left : (members share m : ℕ) (payload : List ℕ) (h : List Event) → Happened (End share m) h → Headline members (Got share m payload ∷ h) → ⊥
never_given_when_left members share m payload h left headline = headline.gets.0.3 left

pub never_given_to_the_executor : (members share m low high : ℕ) (payload : List ℕ) (h : List Event) → Happened (Take share m low high) h → Headline members (Got share m payload ∷ h) → ⊥
never_given_to_the_executor members share m low high payload h took headline = headline.gets.0.4 low high took

-- a member leaves a single with words, and neither put nor was given any
pub never_leaves_without_words : (members share m : ℕ) (shape : Shape) (h : List Event) → Happened (Enter share m shape) h → is_copy shape.kind ≡ true
    → ((payload : List ℕ) → Happened (Put share m payload) h → ⊥) → ((payload : List ℕ) → Happened (Got share m payload) h → ⊥) → Headline members (End share m ∷ h) → ⊥
never_leaves_without_words members share m shape h entered copies unput ungiven headline =
    let served = headline.served.0 shape entered copies in
    elim (served.1) [ inl put ↦ unput served.0 put | inr got ↦ ungiven served.0 got ]

-- Arrivals and passes

-- somebody arrives or passes who is no member of the team
pub never_arrives_from_outside : (members barrier m : ℕ) (tag : Tag) (h : List Event) → members ≤ m → Headline members (Arrive barrier m tag ∷ h) → ⊥
never_arrives_from_outside members barrier m tag h outside headline = absurd (let member = headline.arrive_once.0.0 in omega (arith, outside, member))

pub never_passes_from_outside : (members barrier m : ℕ) (h : List Event) → members ≤ m → Headline members (Pass barrier m ∷ h) → ⊥
never_passes_from_outside members barrier m h outside headline = absurd (let member = headline.arrive_once.0 in omega (arith, outside, member))

-- a member arrives twice at one barrier, and has not seen that the region is cancelled
pub never_arrives_twice : (members barrier m : ℕ) (tag other : Tag) (h : List Event) → leaves_region m h ≡ false → Happened (Arrive barrier m other) h → Headline members (Arrive barrier m tag ∷ h) → ⊥
never_arrives_twice members barrier m tag other h stays before headline = headline.arrive_once.0.1 stays other before

-- it arrives from a share that it has not left
pub never_arrives_inside : (members barrier m share : ℕ) (tag : Tag) (shape : Shape) (h : List Event) → leaves_region m h ≡ false → Happened (Enter share m shape) h → (Happened (End share m) h → ⊥) → Headline members (Arrive barrier m tag ∷ h) → ⊥
never_arrives_inside members barrier m share tag shape h stays entered inside headline = inside (headline.arrive_outside.0 stays share shape entered)

-- it tells another number of shares than it has entered
pub never_tells_other_shares : (members barrier m : ℕ) (tag : Tag) (h : List Event) → tag.shares ≢ shares_entered m h → Headline members (Arrive barrier m tag ∷ h) → ⊥
never_tells_other_shares members barrier m tag h differ headline = differ headline.one_order.0

-- something happens in a broken team
pub nothing_happens_once_broken : (members m : ℕ) (place : Place) (event : Event) (h : List Event) → Happened (Break m place) h → Headline members (event ∷ h) → ⊥
nothing_happens_once_broken members m place event h broken headline = headline.unbroken.0 m place broken

-- a member does something that has passed the region's end
pub nothing_done_after_the_end : (members : ℕ) (event : Event) (h : List Event) → has_left_region (member_of event) h ≡ true → Headline members (event ∷ h) → ⊥
nothing_done_after_the_end members event h left headline = not_both (has_left_region (member_of event) h) left headline.in_region.0

-- a member passes a barrier at which another has not arrived
pub no_pass_before_all_arrived : (members barrier m x : ℕ) (h : List Event) → is_cancelled h ≡ false → x < members → ((tag : Tag) → Happened (Arrive barrier x tag) h → ⊥) → Headline members (Pass barrier m ∷ h) → ⊥
no_pass_before_all_arrived members barrier m x h goes member away headline = let there = headline.passes.0 goes x member in away there.0 there.1

-- it passes the region's end, cancelled or not, and another is not there
pub never_ends_before_all : (members barrier m x : ℕ) (h : List Event) → at_region_end m h ≡ true → x < members → at_region_end x h ≡ false → Headline members (Pass barrier m ∷ h) → ⊥
never_ends_before_all members barrier m x h ends member away headline = not_both (at_region_end x h) (headline.ends.0 ends x member) away

-- it passes a barrier while another is in a share before it
pub never_passes_an_open_share : (members barrier m share x : ℕ) (tag : Tag) (h : List Event) → is_cancelled h ≡ false → Happened (Arrive barrier m tag) h → share < tag.shares → x < members → (Happened (End share x) h → ⊥) → Headline members (Pass barrier m ∷ h) → ⊥
never_passes_an_open_share members barrier m share x tag h goes arrived low member inside headline = inside (headline.closes.0 goes tag arrived share low x member)

-- Critical names and locks

-- two owners hold one key
pub no_key_with_two_owners : (members : ℕ) (key : Key) (one other : Owner) (h : List Event) → 0 < holds_left one key h → 0 < holds_left other key h → one ≢ other → Headline members h → ⊥
no_key_with_two_owners members key one other [] held also differ headline = differ (headline.one_owner key one other held also)
no_key_with_two_owners members key one other (event ∷ h) held also differ headline = differ (headline.one_owner.0 key one other held also)

-- a name or a simple lock is held twice
pub never_held_twice : (members : ℕ) (key : Key) (owner : Owner) (h : List Event) → is_nestable key ≡ false → 1 < holds_left owner key h → Headline members h → ⊥
never_held_twice members key owner [] single twice headline = absurd (let once = headline.held_once key owner single in omega (arith, twice, once))
never_held_twice members key owner (event ∷ h) single twice headline = absurd (let once = headline.held_once.0 key owner single in omega (arith, twice, once))

-- somebody frees what it does not hold
pub never_frees_unheld : (members m : ℕ) (key : Key) (task : Task) (h : List Event) → holds_left (owner_of m task) key h ≡ 0 → Headline members (Free key m task ∷ h) → ⊥
never_frees_unheld members m key task h none headline = absurd (let held = headline.frees.0 in omega (arith, none, held))

-- a member passes a barrier while one of its tasks holds a critical name
pub never_passes_with_a_name : (members barrier m : ℕ) (name : List ℕ) (owner : Owner) (h : List Event) → owner.member ≡ m → 0 < holds_left owner (Critical name) h → Headline members (Pass barrier m ∷ h) → ⊥
never_passes_with_a_name members barrier m name owner h own held headline = absurd (let none = headline.passes_free.0 name owner own in omega (arith, none, held))

-- Tasks

-- a task that is bound to a barrier, or to an earlier one, was not done when a member passed it, whatever happened later
pub never_passed_before_a_bound_task : (members barrier m t : ℕ) (later earlier h : List Event) → h ≡ later ++ Pass barrier m ∷ earlier → IsCreated t h → epoch t h ≤ barrier → (IsTaskDone t earlier → ⊥) → Headline members h → ⊥
never_passed_before_a_bound_task members barrier m t later earlier h is made bound undone headline = undone (headline.bound_done later earlier barrier m is t made bound)

-- Cancellation

-- somebody cancels who is no member, or what no construct of its names
pub never_cancels_from_outside : (members m : ℕ) (scope : Scope) (h : List Event) → members ≤ m → Headline members (Cancel m scope ∷ h) → ⊥
never_cancels_from_outside members m scope h outside headline = absurd (let member = headline.cancels.0.0 in omega (arith, outside, member))

pub never_cancels_unnamed : (members m : ℕ) (scope : Scope) (h : List Event) → ((kind : CancelKind) → scope_of kind m h ≡ Some scope → ⊥) → Headline members (Cancel m scope ∷ h) → ⊥
never_cancels_unnamed members m scope h unnamed headline = let named = headline.cancels.0 in unnamed named.1 named.2

-- a share is cancelled by one that is not in it
pub never_cancels_anothers_share : (members share m : ℕ) (h : List Event) → ((shape : Shape) → Happened (Enter share m shape) h → ⊥) → Headline members (Cancel m (OneShare share) ∷ h) → ⊥
never_cancels_anothers_share members share m h outside headline = let inside = headline.cancelled.0 in outside inside.0 inside.1

pub never_cancels_a_left_share : (members share m : ℕ) (h : List Event) → Happened (End share m) h → Headline members (Cancel m (OneShare share) ∷ h) → ⊥
never_cancels_a_left_share members share m h left headline = headline.cancelled.0.2 left

-- a member cancels a share whose end may not be cancelled
pub never_cancels_against_the_end_kind : (members share m : ℕ) (h : List Event) → ((shape : Shape) → Happened (Enter share m shape) h → shape.end_kind ≡ Cancellable → ⊥) → Headline members (Cancel m (OneShare share) ∷ h) → ⊥
never_cancels_against_the_end_kind members share m h apart headline = let inside = headline.cancelled.0 in apart inside.0 inside.1 inside.3

-- a member leaves a share with a piece left for it that nobody cancelled
pub never_leaves_uncancelled_pieces : (members share m : ℕ) (shape : Shape) (h : List Event) → Happened (Enter share m shape) h → (next_for (schedule members) shape share m h ≡ None → ⊥)
    → ((n : ℕ) → Happened (Cancel n (OneShare share)) h → ⊥) → Headline members (End share m ∷ h) → ⊥
never_leaves_uncancelled_pieces members share m shape h entered piece uncancelled headline = let by = headline.left_early.0 shape entered piece in uncancelled by.0 by.1

-- it sees something cancelled that is not, or sees it as no member
pub never_sees_uncancelled : (members m : ℕ) (kind : CancelKind) (h : List Event) → names_cancelled kind m h ≡ false → Headline members (See m kind ∷ h) → ⊥
never_sees_uncancelled members m kind h goes headline = not_both (names_cancelled kind m h) headline.sees.0.1 goes

pub never_sees_from_outside : (members m : ℕ) (kind : CancelKind) (h : List Event) → members ≤ m → Headline members (See m kind ∷ h) → ⊥
never_sees_from_outside members m kind h outside headline = absurd (let member = headline.sees.0.0 in omega (arith, outside, member))

-- The replies to calls on names and locks

-- a member is to wait for a key that no other owner holds
pub never_waits_for_a_free_key : (terms : Terms) (run : Record) (step : Step) (key : Key) → (row_at (past_of terms run) step).holds ≡ Some key
    → ((owner : Owner) → 0 < holds_left owner key (events terms run) → same_owner owner (asker step.member (events terms run)) ≡ false → ⊥) → HoldReplies terms ((step, Wait) ∷ run) → ⊥
never_waits_for_a_free_key terms run step key names free replies = let held = replies.waits.0 key names in free held.0 held.1 held.2

-- a count is answered that is not the number of its open holds
pub never_tells_another_count : (terms : Terms) (run : Record) (step : Step) (key : Key) (count : ℕ) → (row_at (past_of terms run) step).holds ≡ Some key
    → count ≢ holds_left (asker step.member (events terms run)) key (past_after (past_of terms run) step (Count count)).events → HoldReplies terms ((step, Count count) ∷ run) → ⊥
never_tells_another_count terms run step key count names differ replies = differ (replies.counts.0 key names)

-- The replies to calls on tasks

-- a creator is answered the number of a task that it has not created so
pub never_tells_another_number : (terms : Terms) (run : Record) (step : Step) (task : ℕ)
    → ((desc : TaskDesc) → (row_at (past_of terms run) step).creates ≡ Some desc
    → Happened (Create task step.member (executed_task step.member (events terms run)) desc) (past_after (past_of terms run) step (Created task)).events → ⊥)
    → TaskReplies terms ((step, Created task) ∷ run) → ⊥
never_tells_another_number terms run step task never replies = let made = replies.created.0 in never made.0 made.1 made.2

-- a member is to run a task that nobody created with this code and this argument
pub never_runs_unasked : (terms : Terms) (run : Record) (step : Step) (task code arg : ℕ) (own : Bool)
    → ((creator : ℕ) (parent : Task) (desc : TaskDesc) → desc.code ≡ code → desc.arg ≡ arg
    → Happened (Create task creator parent desc) (past_after (past_of terms run) step (Run task code arg own)).events → ⊥)
    → TaskReplies terms ((step, Run task code arg own) ∷ run) → ⊥
never_runs_unasked terms run step task code arg own never replies = let asked = replies.runs.0 in never asked.creator asked.parent asked.desc asked.same_code asked.same_arg asked.created

-- that it has not started
pub never_runs_unstarted : (terms : Terms) (run : Record) (step : Step) (task code arg : ℕ) (own : Bool)
    → (Happened (Start task step.member) (past_after (past_of terms run) step (Run task code arg own)).events → ⊥) → TaskReplies terms ((step, Run task code arg own) ∷ run) → ⊥
never_runs_unstarted terms run step task code arg own never replies = never replies.runs.0.started

-- as its own, though it is deferred, or as another's, though it is not
pub never_runs_as_anothers : (terms : Terms) (run : Record) (step : Step) (task code arg : ℕ) (own : Bool)
    → own ≢ is_undeferred task (past_after (past_of terms run) step (Run task code arg own)).events → TaskReplies terms ((step, Run task code arg own) ∷ run) → ⊥
never_runs_as_anothers terms run step task code arg own differ replies = differ replies.runs.0.undeferred

-- as its own, though this call did not create it
pub never_runs_anothers_creation : (terms : Terms) (run : Record) (step : Step) (task code arg : ℕ)
    → ((desc : TaskDesc) → (row_at (past_of terms run) step).creates ≡ Some desc
    → Happened (Create task step.member (executed_task step.member (events terms run)) desc) (past_after (past_of terms run) step (Run task code arg true)).events → ⊥)
    → TaskReplies terms ((step, Run task code arg true) ∷ run) → ⊥
never_runs_anothers_creation terms run step task code arg never replies = let made = replies.own.0 in never made.0 made.1 made.2

-- the end of another task than the member executes is answered, or of one that is not done then
pub never_ends_another_task : (terms : Terms) (run : Record) (step : Step) (task : ℕ) (waiting : Bool) → executed_task step.member (events terms run) ≢ Explicit task → TaskReplies terms ((step, TaskDone task waiting) ∷ run) → ⊥
never_ends_another_task terms run step task waiting differ replies = differ replies.returns.0.0

pub never_ends_undone : (terms : Terms) (run : Record) (step : Step) (task : ℕ) (waiting : Bool)
    → (Happened (Done task step.member) (past_after (past_of terms run) step (TaskDone task waiting)).events → ⊥) → TaskReplies terms ((step, TaskDone task waiting) ∷ run) → ⊥
never_ends_undone terms run step task waiting undone replies = undone replies.returns.0.1

-- the call at which a deferred task was started does not wait again, or that of an undeferred one does
pub never_returns_otherwise : (terms : Terms) (run : Record) (step : Step) (task : ℕ) (waiting : Bool) → waiting ≢ not (is_undeferred task (events terms run)) → TaskReplies terms ((step, TaskDone task waiting) ∷ run) → ⊥
never_returns_otherwise terms run step task waiting differ replies = differ replies.returns.0.2

pub never_waits_otherwise : (terms : Terms) (run : Record) (step : Step) (task : ℕ) (waiting : Bool)
    → is_some ((past_after (past_of terms run) step (TaskDone task waiting)).waits step.member).open_call ≢ waiting → TaskReplies terms ((step, TaskDone task waiting) ∷ run) → ⊥
never_waits_otherwise terms run step task waiting differ replies = differ replies.returns.0.3

-- The replies in a team of which something is cancelled

-- a member is answered that the region is cancelled, and it is not
pub never_tells_an_uncancelled_region : (terms : Terms) (run : Record) (step : Step) → is_cancelled (events terms run) ≡ false → CancelReplies terms ((step, Cancelled) ∷ run) → ⊥
never_tells_an_uncancelled_region terms run step goes replies = not_both (is_cancelled (events terms run)) replies.cancelled.0 goes

-- a task is dropped that no cancellation would reach
pub never_drops_uncovered : (terms : Terms) (run : Record) (step : Step) → would_be_covered (executed_task step.member (events terms run)) (events terms run) ≡ false → CancelReplies terms ((step, Dropped) ∷ run) → ⊥
never_drops_uncovered terms run step goes replies = not_both (would_be_covered (executed_task step.member (events terms run)) (events terms run)) replies.dropped.0 goes

-- something is cancelled, and the control variable allows none
pub never_cancels_disallowed : (terms : Terms) (run : Record) (m : ℕ) (scope : Scope) → terms.cancellation ≡ false → Happened (Cancel m scope) (events terms run) → CancelReplies terms run → ⊥
never_cancels_disallowed terms run m scope denied happened replies = replies.allowed denied m scope happened

-- a law on replies is of each of them, not of the newest alone
pub earlier_holds_replied : (terms : Terms) (run : Record) (pair : Step × Reply) → HoldReplies terms (pair ∷ run) → HoldReplies terms run
earlier_holds_replied terms run pair replies = record { waits = replies.waits.1; counts = replies.counts.1 }

pub earlier_tasks_replied : (terms : Terms) (run : Record) (pair : Step × Reply) → TaskReplies terms (pair ∷ run) → TaskReplies terms run
earlier_tasks_replied terms run pair replies = record { created = replies.created.1; runs = replies.runs.1; own = replies.own.1; returns = replies.returns.1 }

pub earlier_cancellations_replied : (terms : Terms) (run : Record) (pair : Step × Reply) → CancelReplies terms (pair ∷ run) → EachReply terms TellsCancelledRegion run × EachReply terms DropsCovered run
earlier_cancellations_replied terms run pair replies = (replies.cancelled.1, replies.dropped.1)

-- One reply

-- two replies to one step have their cause, of which neither is to run a task or want of memory
pub never_two_replies : (p : Past) (step : Step) (one other : Reply) → MayAnswer p step one → MayAnswer p step other → one ≢ other
    → ((task code arg : ℕ) (own : Bool) → one ≢ Run task code arg own) → one ≢ Refused NoMemory → other ≢ Refused NoMemory → ⊥
never_two_replies p step one other may also differ no_run lacks also_lacks = by_reply one (at_most_one_reply_has_its_cause p step one other may also) differ no_run lacks
  where
    by_reply : (one : Reply) → (one ≡ other) ⊎ ChoosesTask one other ⊎ (one ≡ Refused NoMemory) ⊎ (other ≡ Refused NoMemory) → one ≢ other → ((task code arg : ℕ) (own : Bool) → one ≢ Run task code arg own) → one ≢ Refused NoMemory → ⊥
    by_reply one (inl same) differ no_run lacks = differ same
    by_reply (Run task code arg own) (inr (inl runs)) differ no_run lacks = no_run task code arg own refl
    by_reply _ (inr (inl runs)) differ no_run lacks = absurd runs
    by_reply one (inr (inr (inl lack))) differ no_run lacks = lacks lack
    by_reply one (inr (inr (inr lack))) differ no_run lacks = also_lacks lack

-- one task with two codes, or two arguments
pub never_two_codes : (p : Past) (step : Step) (task code arg other_code other_arg : ℕ) → MayAnswer p step (Run task code arg false) → MayAnswer p step (Run task other_code other_arg false) → (code ≡ other_code) × (arg ≡ other_arg)
never_two_codes p step task code arg other_code other_arg may also = elim (at_most_one_reply_has_its_cause p step (Run task code arg false) (Run task other_code other_arg false) may also) [
  | inl same ↦ (cc, cc)
  | inr rest ↦ elim rest [
    | inl runs ↦ absurd (runs refl)
    | inr rest ↦ elim rest [ inl lack ↦ absurd (cc) | inr lack ↦ absurd (cc) ]
  ]
]

-- a creator's own task beside any other that it is to run
pub never_two_own_tasks : (p : Past) (step : Step) (task code arg other other_code other_arg : ℕ) (own : Bool) → MayAnswer p step (Run task code arg true) → MayAnswer p step (Run other other_code other_arg own)
    → ◌≡◌ {A = Reply} (Run task code arg true) (Run other other_code other_arg own)
never_two_own_tasks p step task code arg other other_code other_arg own may also = elim (at_most_one_reply_has_its_cause p step (Run task code arg true) (Run other other_code other_arg own) may also) [
  | inl same ↦ same
  | inr rest ↦ elim rest [
    | inl runs ↦ absurd (runs)
    | inr rest ↦ elim rest [ inl lack ↦ absurd (cc) | inr lack ↦ absurd (cc) ]
  ]
]

-- a step to which no reply but want of memory has its cause
pub never_without_a_reply : (terms : Terms) (run : Record) (step : Step) → Caused terms run → ((reply : Reply) → reply ≢ Refused NoMemory → MayAnswer (past_of terms run) step reply → ⊥) → ⊥
never_without_a_reply terms run step caused never = let some = some_reply_has_its_cause terms run step caused in never some.0 some.1 some.2

-- a chunk without an iteration
pub never_an_empty_chunk : (terms : Terms) (run : Record) (step : Step) (first : ℤ) → Caused terms run → MayAnswer (past_of terms run) step (Chunk first 0) → ⊥
never_an_empty_chunk terms run step first caused may = absurd (let some = chunk_has_an_iteration terms run step first 0 caused may in omega (arith, some))

-- a test that holds, of the least number, and is no answer
pub never_refused_otherwise : (p : Past) (step : Step) (refusal : Refusal) → refusal_of p step ≡ Some refusal → (MayAnswer p step (Refused refusal) → ⊥) → ⊥
never_refused_otherwise p step refusal is never = never (least_refusal_is_an_answer p step refusal is)

-- The laws themselves, of all terms and records

-- the replies of a team have their causes, and its events break the headline
pub never_without_the_headline : (terms : Terms) (run : Record) → Caused terms run → (Headline terms.members (events terms run) → ⊥) → ⊥
never_without_the_headline terms run caused broken = broken (headline_holds terms run caused)

-- or the replies break the laws of replies
pub never_replied_otherwise_on_names_and_locks : (terms : Terms) (run : Record) → Caused terms run → (HoldReplies terms run → ⊥) → ⊥
never_replied_otherwise_on_names_and_locks terms run caused broken = broken (replies_on_names_and_locks terms run caused)

pub never_replied_otherwise_on_tasks : (terms : Terms) (run : Record) → Caused terms run → (TaskReplies terms run → ⊥) → ⊥
never_replied_otherwise_on_tasks terms run caused broken = broken (replies_on_tasks terms run caused)

pub never_replied_otherwise_on_cancellation : (terms : Terms) (run : Record) → Caused terms run → (CancelReplies terms run → ⊥) → ⊥
never_replied_otherwise_on_cancellation terms run caused broken = broken (replies_on_cancellation terms run caused)

-- two replies have their cause that are more than one reply
pub never_more_than_one_reply : (p : Past) (step : Step) (one other : Reply) → MayAnswer p step one → MayAnswer p step other → (OneReply one other → ⊥) → ⊥
never_more_than_one_reply p step one other may also more = more (at_most_one_reply_has_its_cause p step one other may also)
