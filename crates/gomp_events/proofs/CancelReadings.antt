-- What is cancelled, which tasks that reaches, and what a member leaves, by what happened: of any member, task, group, share and list of events.
use Rattle.std.proofs.Common.{◌≡◌, ◌≢◌, ℕ, ◌<◌, ◌≤◌, Bool, true, false, List, [], ◌∷◌, ◌++◌, Some, None, refl, sym, arith, suc, zero, inl, inr}
use Rattle.std.specs.Prelude.{◌&&◌, ◌||◌, ◌==◌, if◌then◌else◌}
use Rattle.std.proofs.lemmas.Bool.{cases_Bool, cases_lt}
use Rattle.gomp_types.specs.declared.cancel.CancelKind.{CancelKind}
use Rattle.gomp_types.specs.declared.cancel.CancelKind.TheVariants.{Parallel, Loop, Sections, Taskgroup}
use Rattle.gomp_types.specs.declared.cancel.Scope.{Scope}
use Rattle.gomp_types.specs.declared.cancel.Scope.TheVariants.{Region, OneShare, OneGroup}
use Rattle.gomp_types.specs.declared.loop_desc.EndKind.{EndKind}
use Rattle.gomp_types.specs.declared.loop_desc.EndKind.TheVariants.{Cancellable}
use Rattle.gomp_types.specs.declared.reply.Reply.TheVariants.{Cancelled, Cancelling}
use Rattle.gomp_types.specs.declared.shape.Shape.{Shape}
use Rattle.gomp_types.specs.declared.task.Task.{Task}
use Rattle.gomp_types.specs.declared.task.Task.TheVariants.{Implicit, Explicit}
use Rattle.gomp_events.specs.declared.event.Event.{Event}
use Rattle.gomp_events.specs.declared.event.Event.TheVariants.{Start, Done, Enter, End, Cancel, Discard, See}
use Rattle.gomp_events.specs.Events.{open_share}
use Rattle.gomp_types.specs.Shapes.{is_loop, is_sections}
use Rattle.gomp_events.specs.Tasks.{contains, tasks_created, is_created, executed_task}
use Rattle.gomp_events.specs.Groups.{open_groups, groups_around, in_group}
use Rattle.gomp_events.specs.Goals.{is_unstarted}
use Rattle.gomp_events.specs.Cancels.{same_cancel, is_cancelled, own_cancelled, some_cancelled, groups_over, groups_within, is_covered, would_be_covered, scope_of, names_cancelled, may_be_cancelled, leaves_region, leaves_share, leaves_task, is_leaving}
use Rattle.gomp_events.specs.CancelCalls.{creates_covered, sees_cancelled, discards_to, discards, cancels, tells_cancelled}
use Rattle.gomp_events.specs.Laws.{Happened}
use Rattle.gomp_types.proofs.Booleans.{and_left, and_right, or_left, or_right, same_number, other_number, is_equal}
use Rattle.gomp_events.proofs.OpenTasks.{created_low, created_high}
use Rattle.gomp_events.proofs.Refutations.{NobodyCancelled, happened_anywhere, cancelled_by_any, cancelled_by_none, group_reached, contained_first, contained_later}

-- What a construct names

-- a construct of the region names the region, wherever the member is
pub region_is_named : (m : ℕ) (h : List Event) → scope_of Parallel m h ≡ Some Region
region_is_named m h = refl

-- one of a loop names the loop that the member is in, and one of sections the sections
pub own_loop_is_named : (m i : ℕ) (shape : Shape) (h : List Event) → open_share m h ≡ Some (i, shape) → is_loop shape.kind ≡ true → scope_of Loop m h ≡ Some (OneShare i)
own_loop_is_named m i shape h inside loop = rw (inside, loop) refl

pub own_sections_are_named : (m i : ℕ) (shape : Shape) (h : List Event) → open_share m h ≡ Some (i, shape) → is_sections shape.kind ≡ true → scope_of Sections m h ≡ Some (OneShare i)
own_sections_are_named m i shape h inside sections = rw (inside, sections) refl

-- neither names a share of another kind
pub no_other_share_is_named :
    (m i : ℕ) (shape : Shape) (h : List Event) → open_share m h ≡ Some (i, shape) → (is_loop shape.kind ≡ false → scope_of Loop m h ≡ None) × (is_sections shape.kind ≡ false → scope_of Sections m h ≡ None)
no_other_share_is_named m i shape h inside = ((λ other. rw (inside, other) refl), (λ other. rw (inside, other) refl))

-- nor anything outside of a share
pub no_share_is_named_outside : (m : ℕ) (h : List Event) → open_share m h ≡ None → (scope_of Loop m h ≡ None) × (scope_of Sections m h ≡ None)
no_share_is_named_outside m h outside = (rw outside refl, rw outside refl)

-- and one of a group the innermost of those around the task that the member executes
pub innermost_group_is_named : (m t q : ℕ) (outer : List ℕ) (h : List Event) → executed_task m h ≡ Explicit t → groups_around t h ≡ q ∷ outer → scope_of Taskgroup m h ≡ Some (OneGroup q)
innermost_group_is_named m t q outer h executes around = rw (executes, around) refl

pub no_group_is_named : (m t : ℕ) (h : List Event) → executed_task m h ≡ Explicit t → groups_around t h ≡ [] → scope_of Taskgroup m h ≡ None
no_group_is_named m t h executes around = rw (executes, around) refl

pub implicit_names_no_group : (m x : ℕ) (h : List Event) → executed_task m h ≡ Implicit x → scope_of Taskgroup m h ≡ None
implicit_names_no_group m x h executes = rw executes refl

-- Whether it is cancelled

-- a construct of the region finds that cancelled once any member has cancelled it
pub named_region_once_cancelled : (m n : ℕ) (h : List Event) → Happened (Cancel n Region) h → names_cancelled Parallel m h ≡ true
named_region_once_cancelled m n h cancelled = cancelled_by_any Region n h cancelled

-- and by nothing else, whatever became of the shares and the groups
pub named_region_by_no_other : (m : ℕ) (h : List Event) → NobodyCancelled Region h → names_cancelled Parallel m h ≡ false
named_region_by_no_other m h never = cancelled_by_none Region h never

-- one of a loop or of sections finds the share cancelled in which the member is, once any member has cancelled that
pub named_loop_once_cancelled : (m n i : ℕ) (shape : Shape) (h : List Event) → open_share m h ≡ Some (i, shape) → is_loop shape.kind ≡ true → Happened (Cancel n (OneShare i)) h → names_cancelled Loop m h ≡ true
named_loop_once_cancelled m n i shape h inside loop cancelled = rw (inside, loop) (cancelled_by_any (OneShare i) n h cancelled)

pub named_sections_once_cancelled : (m n i : ℕ) (shape : Shape) (h : List Event) → open_share m h ≡ Some (i, shape) → is_sections shape.kind ≡ true → Happened (Cancel n (OneShare i)) h → names_cancelled Sections m h ≡ true
named_sections_once_cancelled m n i shape h inside sections cancelled = rw (inside, sections) (cancelled_by_any (OneShare i) n h cancelled)

-- and by nothing else: a cancellation of the region, of a group or of another share is none of it
pub named_share_by_no_other : (m i : ℕ) (shape : Shape) (h : List Event) → open_share m h ≡ Some (i, shape) → NobodyCancelled (OneShare i) h → (names_cancelled Loop m h ≡ false) × (names_cancelled Sections m h ≡ false)
named_share_by_no_other m i shape h inside never = (
  elim (cases_Bool (is_loop shape.kind)) [
    | inl is ↦ rw (inside, is) (cancelled_by_none (OneShare i) h never)
    | inr other ↦ rw (inside, other) refl
  ],
  elim (cases_Bool (is_sections shape.kind)) [
    | inl is ↦ rw (inside, is) (cancelled_by_none (OneShare i) h never)
    | inr other ↦ rw (inside, other) refl
  ],
)

-- one of a group finds the task cancelled by any group around it, and by the region
pub named_group_once_cancelled : (m n t q : ℕ) (h : List Event) → executed_task m h ≡ Explicit t → in_group q t h ≡ true → Happened (Cancel n (OneGroup q)) h → names_cancelled Taskgroup m h ≡ true
named_group_once_cancelled m n t q h executes there cancelled = rw executes (or_right (is_cancelled h) (some_cancelled (groups_around t h) h) (group_reached q (groups_around t h) h there (cancelled_by_any (OneGroup q) n h cancelled)))

pub named_group_with_the_region : (m n : ℕ) (h : List Event) → Happened (Cancel n Region) h → names_cancelled Taskgroup m h ≡ true
named_group_with_the_region m n h cancelled = or_left (is_cancelled h) _ (cancelled_by_any Region n h cancelled)

none_of_these : (qs : List ℕ) (h : List Event) → ((q : ℕ) → contains q qs ≡ true → NobodyCancelled (OneGroup q) h) → some_cancelled qs h ≡ false
none_of_these [] h never = refl
none_of_these (q ∷ qs) h never =
    rw (cancelled_by_none (OneGroup q) h (never q (or_left (q == q) (contains q qs) (same_number q)))) (none_of_these qs h (λ x there. never x (or_right (q == x) (contains x qs) there)))

-- and by no group that it is not in
pub named_group_by_no_other :
    (m t : ℕ) (h : List Event) → executed_task m h ≡ Explicit t → NobodyCancelled Region h → ((q : ℕ) → in_group q t h ≡ true → NobodyCancelled (OneGroup q) h) → names_cancelled Taskgroup m h ≡ false
named_group_by_no_other m t h executes whole never = rw (executes, cancelled_by_none Region h whole) (none_of_these (groups_around t h) h never)

-- the share that a member is in is cancelled once a member has cancelled that, and by nothing else
pub own_share_once_cancelled : (m n i : ℕ) (shape : Shape) (h : List Event) → open_share m h ≡ Some (i, shape) → Happened (Cancel n (OneShare i)) h → own_cancelled m h ≡ true
own_share_once_cancelled m n i shape h inside cancelled = rw inside (cancelled_by_any (OneShare i) n h cancelled)

pub own_share_by_no_other : (m i : ℕ) (shape : Shape) (h : List Event) → open_share m h ≡ Some (i, shape) → NobodyCancelled (OneShare i) h → own_cancelled m h ≡ false
own_share_by_no_other m i shape h inside never = rw inside (cancelled_by_none (OneShare i) h never)

pub no_own_share_outside : (m : ℕ) (h : List Event) → open_share m h ≡ None → own_cancelled m h ≡ false
no_own_share_outside m h outside = rw outside refl

-- a share may be cancelled if its end says so, and only then
pub cancellable_by_its_end : (i : ℕ) (shape : Shape) → shape.end_kind ≡ Cancellable → may_be_cancelled (Some (i, shape)) ≡ true
cancellable_by_its_end i shape is = rw is refl

pub cancellable_by_no_other_end : (i : ℕ) (shape : Shape) → may_be_cancelled (Some (i, shape)) ≡ true → shape.end_kind ≡ Cancellable
cancellable_by_no_other_end i shape may = by shape.end_kind may
  where
    by : (kind : EndKind) → may_be_cancelled (Some (i, record shape { end_kind = kind })) ≡ true → kind ≡ Cancellable
    by Cancellable e = refl
    by EndKind.Wait e = absurd (cc)
    by EndKind.Nowait e = absurd (cc)

-- Tasks to come

-- a cancellation of the region would reach a task that is created in this one now
pub region_would_cover : (n : ℕ) (p : Task) (h : List Event) → Happened (Cancel n Region) h → would_be_covered p h ≡ true
region_would_cover n p h cancelled = or_left (is_cancelled h) _ (cancelled_by_any Region n h cancelled)

-- so would one of a group that is open in it
pub open_group_would_cover : (n q : ℕ) (p : Task) (h : List Event) → contains q (open_groups p h) ≡ true → Happened (Cancel n (OneGroup q)) h → would_be_covered p h ≡ true
open_group_would_cover n q p h there cancelled =
    or_right (is_cancelled h) (some_cancelled (groups_within p h) h) (group_reached q (groups_within p h) h (contained_first q (open_groups p h) (groups_over p h) there) (cancelled_by_any (OneGroup q) n h cancelled))

-- and one of a group that it is in
pub group_around_would_cover : (n q p : ℕ) (h : List Event) → in_group q p h ≡ true → Happened (Cancel n (OneGroup q)) h → would_be_covered (Explicit p) h ≡ true
group_around_would_cover n q p h there cancelled =
    or_right (is_cancelled h) (some_cancelled (groups_within (Explicit p) h) h)
    (group_reached q (groups_within (Explicit p) h) h (contained_later q (open_groups (Explicit p) h) (groups_around p h) there) (cancelled_by_any (OneGroup q) n h cancelled))

in_one_of_two : (q : ℕ) (ps qs : List ℕ) → contains q (ps ++ qs) ≡ true → contains q ps ≡ false → contains q qs ≡ true
in_one_of_two q [] qs there away = there
in_one_of_two q (p ∷ ps) qs there away = elim (cases_Bool (p == q)) [
  | inl here ↦ let found : true ≡ false = rw here at away in absurd (cc)
  | inr other ↦ in_one_of_two q ps qs (rw other at there) (rw other at away)
]

-- and no other: a group of another task that is cancelled does not
pub no_other_group_would_cover :
    (p : ℕ) (h : List Event) → NobodyCancelled Region h → ((q : ℕ) → contains q (open_groups (Explicit p) h) ≡ true → NobodyCancelled (OneGroup q) h) →
    ((q : ℕ) → in_group q p h ≡ true → NobodyCancelled (OneGroup q) h) → would_be_covered (Explicit p) h ≡ false
no_other_group_would_cover p h whole own around =
    rw (cancelled_by_none Region h whole) (none_of_these (groups_within (Explicit p) h) h (λ q there. elim (cases_Bool (contains q (open_groups (Explicit p) h))) [
      | inl is ↦ own q is
      | inr away ↦ around q (in_one_of_two q (open_groups (Explicit p) h) (groups_around p h) there away)
    ]))

pub no_other_group_would_cover_in_implicit :
    (x : ℕ) (h : List Event) → NobodyCancelled Region h → ((q : ℕ) → contains q (open_groups (Implicit x) h) ≡ true → NobodyCancelled (OneGroup q) h) → would_be_covered (Implicit x) h ≡ false
no_other_group_would_cover_in_implicit x h whole own =
    rw (cancelled_by_none Region h whole) (none_of_these (groups_within (Implicit x) h) h (λ q there. elim (cases_Bool (contains q (open_groups (Implicit x) h))) [
      | inl is ↦ own q is
      | inr away ↦ absurd (let found : false ≡ true = in_one_of_two q (open_groups (Implicit x) h) [] there away in cc)
    ]))

-- a member's next task would be covered if the task that it executes is such a one
pub creates_covered_in_its_task : (m : ℕ) (p : Task) (h : List Event) → executed_task m h ≡ p → creates_covered m h ≡ would_be_covered p h
creates_covered_in_its_task m p h executes = rw executes refl

pub creates_covered_in_cancelled_region : (m n : ℕ) (h : List Event) → Happened (Cancel n Region) h → creates_covered m h ≡ true
creates_covered_in_cancelled_region m n h cancelled = region_would_cover n (executed_task m h) h cancelled

-- Discarded tasks

-- of the tasks up to a number each is discarded that nobody has started and that a cancellation reaches
pub discarded_once_reached : (k t m : ℕ) (h : List Event) → 0 < t → t ≤ k → is_unstarted t h ≡ true → is_covered t h ≡ true → Happened (Discard t m) (discards_to k m h)
discarded_once_reached zero t m h low high new reached = absurd (omega arith)
discarded_once_reached (suc k) t m h low high new reached = elim (cases_lt t (suc k)) [
  | inl below ↦ further (is_unstarted (suc k) h && is_covered (suc k) h) (discarded_once_reached k t m h low (omega arith) new reached)
  | inr past ↦ let last : t ≡ suc k = omega arith in here last
]
  where
    further : (b : Bool) → Happened (Discard t m) (discards_to k m h) → Happened (Discard t m) (if b then Discard (suc k) m ∷ discards_to k m h else discards_to k m h)
    further true was = inr was
    further false was = was

    here : t ≡ suc k → Happened (Discard t m) (discards_to (suc k) m h)
    here last =
        let first : is_unstarted (suc k) h ≡ true = rw (← last) new in
        let second : is_covered (suc k) h ≡ true = rw (← last) reached in
        rw (first, second, last) (inl refl)

-- the task was not started, and is reached, and this is its discard
abbrev pub IsDiscardOf : ℕ → ℕ → Event → List Event → Type 0
IsDiscardOf t m event h = (event ≡ Discard t m) × (is_unstarted t h ≡ true) × (is_covered t h ≡ true)

-- and none else
pub discarded_only_if_reached : (k m : ℕ) (event : Event) (h : List Event) → Happened event (discards_to k m h) → (t : ℕ) × IsDiscardOf t m event h
discarded_only_if_reached zero m event h never = absurd never
discarded_only_if_reached (suc k) m event h was = elim (cases_Bool (is_unstarted (suc k) h && is_covered (suc k) h)) [
  | inl is ↦ by is (rw is at was) (λ rest. discarded_only_if_reached k m event h rest)
  | inr isnt ↦ discarded_only_if_reached k m event h (rw isnt at was)
]
  where
    by : (is_unstarted (suc k) h && is_covered (suc k) h) ≡ true → Happened event (Discard (suc k) m ∷ discards_to k m h) → (Happened event (discards_to k m h) → (t : ℕ) × IsDiscardOf t m event h) → (t : ℕ) × IsDiscardOf t m event h
    by is (inl e) before = (suc k, (sym e, and_left (is_unstarted (suc k) h) (is_covered (suc k) h) is, and_right (is_unstarted (suc k) h) (is_covered (suc k) h) is))
    by is (inr rest) before = before rest

-- so a cancellation discards each such task that was created
pub discarded_by_its_cancellation :
    (t m : ℕ) (scope : Scope) (h : List Event) → is_created t h ≡ true → is_unstarted t (Cancel m scope ∷ h) ≡ true → is_covered t (Cancel m scope ∷ h) ≡ true → Happened (Discard t m) (discards m scope h)
discarded_by_its_cancellation t m scope h made new reached = discarded_once_reached (tasks_created h) t m (Cancel m scope ∷ h) (created_low t h made) (created_high t h made) new reached

-- and happens itself
pub cancellation_happens : (m : ℕ) (scope : Scope) (h : List Event) → Happened (Cancel m scope) (cancels m (Some scope) h)
cancellation_happens m scope h = happened_anywhere (Cancel m scope) (discards m scope h) []

-- a member whose reply is that the region is cancelled has seen that
pub sees_what_it_is_answered : (m : ℕ) (events : List Event) → Happened (See m Parallel) (sees_cancelled m Cancelled events)
sees_what_it_is_answered m events = inl refl

-- and one whose reply is that what its construct names is cancelled has seen that
pub sees_what_its_construct_names : (kind : CancelKind) (clause : Bool) (m : ℕ) (h : List Event) → Happened (See m kind) (tells_cancelled kind clause m h (Cancelling true))
sees_what_its_construct_names kind clause m h = inl refl

-- Members that leave

-- a member leaves the region only if it has seen the region cancelled: not by what it has seen of a share or a group
pub stays_in_the_region_unseen : (m : ℕ) (h : List Event) → (Happened (See m Parallel) h → ⊥) → leaves_region m h ≡ false
stays_in_the_region_unseen m [] never = refl
stays_in_the_region_unseen m (See n kind ∷ earlier) never = elim (cases_Bool (n == m && same_cancel kind Parallel)) [
  | inl both ↦
      let who = is_equal n m (and_left (n == m) (same_cancel kind Parallel) both) in
      let what = names_the_region kind (and_right (n == m) (same_cancel kind Parallel) both) in
      absurd (never (inl (rw (who, what) refl)))
  | inr other ↦ rw other (stays_in_the_region_unseen m earlier (λ was. never (inr was)))
]
  where
    names_the_region : (kind : CancelKind) → same_cancel kind Parallel ≡ true → kind ≡ Parallel
    names_the_region Parallel e = refl
    names_the_region Loop e = absurd (cc)
    names_the_region Sections e = absurd (cc)
    names_the_region Taskgroup e = absurd (cc)
stays_in_the_region_unseen m (_ ∷ earlier) never = stays_in_the_region_unseen m earlier (λ was. never (inr was))

-- what it has seen of the region or a group says nothing of its share, and what it has seen of the region or a share nothing of its task
pub share_stays_unseen : (m n : ℕ) (h : List Event) → (leaves_share m (See n Parallel ∷ h) ≡ leaves_share m h) × (leaves_share m (See n Taskgroup ∷ h) ≡ leaves_share m h)
share_stays_unseen m n h = elim (cases_Bool (n == m)) [ inl who ↦ (rw who refl, rw who refl) | inr other ↦ (rw other refl, rw other refl) ]

pub task_stays_unseen : (m n : ℕ) (h : List Event) → (leaves_task m (See n Parallel ∷ h) ≡ leaves_task m h) × (leaves_task m (See n Loop ∷ h) ≡ leaves_task m h) × (leaves_task m (See n Sections ∷ h) ≡ leaves_task m h)
task_stays_unseen m n h = elim (cases_Bool (n == m)) [ inl who ↦ (rw who refl, rw who refl, rw who refl) | inr other ↦ (rw other refl, rw other refl, rw other refl) ]

-- what others see, enter, end and start moves nobody
pub sights_of_others_move_nobody :
    (m n : ℕ) (kind : CancelKind) (h : List Event) → n ≢ m → (leaves_region m (See n kind ∷ h) ≡ leaves_region m h) × (leaves_share m (See n kind ∷ h) ≡ leaves_share m h) × (leaves_task m (See n kind ∷ h) ≡ leaves_task m h)
sights_of_others_move_nobody m n kind h differ = let other = other_number n m differ in (rw other refl, rw other refl, rw other refl)

pub shares_of_others_keep_leaving : (m n i : ℕ) (shape : Shape) (h : List Event) → n ≢ m → (leaves_share m (Enter i n shape ∷ h) ≡ leaves_share m h) × (leaves_share m (End i n ∷ h) ≡ leaves_share m h)
shares_of_others_keep_leaving m n i shape h differ = let other = other_number n m differ in (rw other refl, rw other refl)

pub tasks_of_others_keep_leaving : (m n t : ℕ) (h : List Event) → n ≢ m → (leaves_task m (Start t n ∷ h) ≡ leaves_task m h) × (leaves_task m (Done t n ∷ h) ≡ leaves_task m h)
tasks_of_others_keep_leaving m n t h differ = let other = other_number n m differ in (rw other refl, rw other refl)

-- a member leaves something if it leaves one of the three, and only then
pub leaving_by_one : (m : ℕ) (h : List Event) → (leaves_region m h ≡ true → is_leaving m h ≡ true) × (leaves_share m h ≡ true → is_leaving m h ≡ true) × (leaves_task m h ≡ true → is_leaving m h ≡ true)
leaving_by_one m h = (
  (λ is. or_left (leaves_region m h || leaves_share m h) (leaves_task m h) (or_left (leaves_region m h) (leaves_share m h) is)),
  (λ is. or_left (leaves_region m h || leaves_share m h) (leaves_task m h) (or_right (leaves_region m h) (leaves_share m h) is)),
  (λ is. or_right (leaves_region m h || leaves_share m h) (leaves_task m h) is),
)

pub leaving_by_none : (m : ℕ) (h : List Event) → leaves_region m h ≡ false → leaves_share m h ≡ false → leaves_task m h ≡ false → is_leaving m h ≡ false
leaving_by_none m h region share task = rw (region, share, task) refl
