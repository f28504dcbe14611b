-- What the rule of a team forbids, of any team, member, share, task, key and list: where a line of it is the rule of shares, of arrivals, of tasks, of names or of cancellation,
-- it has that rule whole, of the event's own member, and what that forbids stands in gomp_shares, gomp_types and gomp_locks.
use Rattle.std.proofs.Common.{◌≡◌, ◌≤◌, ℕ, true, false, List, Option, Some, None, ap, sym, subst, ◌∙◌, arith}
use Rattle.std.specs.Prelude.{◌≢◌}
use Rattle.gomp_types.specs.declared.cancel.CancelKind.{CancelKind}
use Rattle.gomp_types.specs.declared.cancel.Scope.{Scope}
use Rattle.gomp_types.specs.declared.depend.Dep.{Dep}
use Rattle.gomp_events.specs.declared.event.Event.{Event}
use Rattle.gomp_events.specs.declared.event.Event.TheVariants.{Enter, Take, Drained, End, HandOn, Part, PartEnd, Put, Got, Arrive, Pass, Hold, Free, Create, Start, Done, Discard, Cancel, See, Group, GroupEnd, Waited}
use Rattle.gomp_events.specs.declared.event.Tag.{Tag}
use Rattle.gomp_types.specs.declared.key.Key.{Key}
use Rattle.gomp_types.specs.declared.shape.Shape.{Shape}
use Rattle.gomp_types.specs.declared.task.Task.{Task}
use Rattle.gomp_types.specs.declared.task.TaskDesc.{TaskDesc}
use Rattle.gomp_events.specs.Arrivals.{MayArrive, MayPass}
use Rattle.gomp_events.specs.CancelRules.{MayCancel, MaySee}
use Rattle.gomp_events.specs.Cancels.{leaves_region}
use Rattle.gomp_types.specs.Deals.{schedule}
use Rattle.gomp_events.specs.Events.{arrival, has_piece, has_words, holds_piece, last_piece, open_share, payload_at, shares_entered}
use Rattle.gomp_types.specs.Shapes.{is_copy}
use Rattle.gomp_events.specs.TaskRules.{MayCreate, MayDiscard, MayEnd, MayEndGroup, MayEndTaskwait, MayOpenGroup, MayStart}
use Rattle.gomp_events.specs.Tasks.{in_task}
use Rattle.gomp_types.proofs.Booleans.{not_both}
use Rattle.gomp_shares.specs.Rules.{HasNone, MayLeaveShare, MayTake, ShareRule}
use Rattle.gomp_locks.specs.HoldRules.{MayFree, MayHold}
use Rattle.gomp_locks.specs.NameRules.{NameRule}
use Rattle.gomp_laws.specs.Rules.{TeamRule}

-- Shares

-- a member is in one share, of one shape
one_shape : (share m : ℕ) (one other : Shape) (h : List Event) → open_share m h ≡ Some (share, one) → open_share m h ≡ Some (share, other) → one ≡ other
one_shape share m one other h is also =
    let same : ◌≡◌ {A = Option (ℕ × Shape)} (Some (share, one)) (Some (share, other)) = sym is ∙ also in
    let pair : ◌≡◌ {A = ℕ × Shape} (share, one) (share, other) = cc in
    ap (λ (found : ℕ × Shape). found.1) pair

pub team_takes_as_shares_do : (members share m low high : ℕ) (h : List Event) → TeamRule members (Take share m low high) h → MayTake (schedule members) share m low high h
team_takes_as_shares_do members share m low high h rule = rule.takes

-- a member takes a piece of an ordered loop, or is answered that nothing is left of it, while it holds its last one
pub team_never_takes_with_a_piece_held : (members share m low high : ℕ) (shape : Shape) (h : List Event) → open_share m h ≡ Some (share, shape) → shape.ordered ≡ true → holds_piece m h ≡ true → TeamRule members (Take share m low high) h → ⊥
team_never_takes_with_a_piece_held members share m low high shape h inside ordered held rule =
    not_both (holds_piece m h) held (rule.handed_on (subst (λ (s : Shape). s.ordered ≡ true) (sym (one_shape share m rule.takes.shape shape h rule.takes.inside inside)) ordered))

pub team_drains_as_shares_do : (members share m : ℕ) (h : List Event) → TeamRule members (Drained share m) h → HasNone (schedule members) share m h
team_drains_as_shares_do members share m h rule = rule.done

pub team_never_drained_with_a_piece_held : (members share m : ℕ) (shape : Shape) (h : List Event) → open_share m h ≡ Some (share, shape) → shape.ordered ≡ true → holds_piece m h ≡ true → TeamRule members (Drained share m) h → ⊥
team_never_drained_with_a_piece_held members share m shape h inside ordered held rule =
    not_both (holds_piece m h) held (rule.handed_on (subst (λ (s : Shape). s.ordered ≡ true) (sym (one_shape share m rule.done.shape shape h rule.done.inside inside)) ordered))

pub team_leaves_as_shares_do : (members share m : ℕ) (h : List Event) → TeamRule members (End share m) h → MayLeaveShare (schedule members) share m h
team_leaves_as_shares_do members share m h rule = rule.done

-- it leaves an ordered loop with a piece held, or a single with words without them
pub team_never_leaves_with_a_piece_held : (members share m : ℕ) (shape : Shape) (h : List Event) → open_share m h ≡ Some (share, shape) → shape.ordered ≡ true → holds_piece m h ≡ true → TeamRule members (End share m) h → ⊥
team_never_leaves_with_a_piece_held members share m shape h inside ordered held rule =
    not_both (holds_piece m h) held (rule.handed_on (subst (λ (s : Shape). s.ordered ≡ true) (sym (one_shape share m rule.done.shape shape h rule.done.inside inside)) ordered))

pub team_never_leaves_without_words : (members share m : ℕ) (shape : Shape) (h : List Event) → open_share m h ≡ Some (share, shape) → is_copy shape.kind ≡ true → has_words share m h ≡ false → TeamRule members (End share m) h → ⊥
team_never_leaves_without_words members share m shape h inside copies none rule =
    not_both (has_words share m h) (rule.words (subst (λ (s : Shape). is_copy s.kind ≡ true) (sym (one_shape share m rule.done.shape shape h rule.done.inside inside)) copies)) none

-- every other event of a share is by the rule of the shares
pub team_enters_as_shares_do : (members share m : ℕ) (shape : Shape) (h : List Event) → TeamRule members (Enter share m shape) h → ShareRule (schedule members) members (Enter share m shape) h
team_enters_as_shares_do members share m shape h rule = rule

pub team_hands_on_as_shares_do : (members share m piece : ℕ) (h : List Event) → TeamRule members (HandOn share m piece) h → ShareRule (schedule members) members (HandOn share m piece) h
team_hands_on_as_shares_do members share m piece h rule = rule

pub team_begins_parts_as_shares_do : (members share m iteration : ℕ) (h : List Event) → TeamRule members (Part share m iteration) h → ShareRule (schedule members) members (Part share m iteration) h
team_begins_parts_as_shares_do members share m iteration h rule = rule

pub team_ends_parts_as_shares_do : (members share m : ℕ) (h : List Event) → TeamRule members (PartEnd share m) h → ShareRule (schedule members) members (PartEnd share m) h
team_ends_parts_as_shares_do members share m h rule = rule

-- Words

-- words are put outside of a single that has some, by a member that did not take its piece, or twice
pub team_never_puts_outside : (members share m : ℕ) (payload : List ℕ) (h : List Event) → ((shape : Shape) → open_share m h ≡ Some (share, shape) → is_copy shape.kind ≡ true → ⊥) → TeamRule members (Put share m payload) h → ⊥
team_never_puts_outside members share m payload h outside rule = outside rule.shape rule.inside rule.copies

pub team_never_puts_without_a_piece : (members share m : ℕ) (payload : List ℕ) (h : List Event) → last_piece m h ≡ None → TeamRule members (Put share m payload) h → ⊥
team_never_puts_without_a_piece members share m payload h none rule = absurd (let never : false ≡ true = rw none at rule.executor in cc)

pub team_never_puts_twice : (members share m : ℕ) (payload other : List ℕ) (h : List Event) → payload_at share h ≡ Some other → TeamRule members (Put share m payload) h → ⊥
team_never_puts_twice members share m payload other h there rule = absurd (let never : Some other ≡ None = sym there ∙ rule.once in cc)

-- words are given outside of the single, to a member that took its piece, or other words than those that were put
pub team_never_gives_outside : (members share m : ℕ) (payload : List ℕ) (h : List Event) → ((shape : Shape) → open_share m h ≡ Some (share, shape) → ⊥) → TeamRule members (Got share m payload) h → ⊥
team_never_gives_outside members share m payload h outside rule = outside rule.shape rule.inside

pub team_never_gives_to_the_executor : (members share m : ℕ) (payload : List ℕ) (h : List Event) → has_piece share m h ≡ true → TeamRule members (Got share m payload) h → ⊥
team_never_gives_to_the_executor members share m payload h took rule = not_both (has_piece share m h) took rule.other

pub team_never_gives_other_words : (members share m : ℕ) (payload : List ℕ) (h : List Event) → payload_at share h ≢ Some payload → TeamRule members (Got share m payload) h → ⊥
team_never_gives_other_words members share m payload h differ rule = differ rule.words

-- Arrivals and passes

pub team_arrives_as_all_do : (members barrier m : ℕ) (tag : Tag) (h : List Event) → TeamRule members (Arrive barrier m tag) h → MayArrive barrier m tag h × NameRule (Arrive barrier m tag) h
team_arrives_as_all_do members barrier m tag h rule = (rule.arrives, rule.names)

pub team_never_arrives_from_outside : (members barrier m : ℕ) (tag : Tag) (h : List Event) → members ≤ m → TeamRule members (Arrive barrier m tag) h → ⊥
team_never_arrives_from_outside members barrier m tag h outside rule = absurd (let member = rule.member in omega (arith, outside, member))

-- a member that stays in the region arrives from a share, or twice at one barrier
pub team_never_arrives_inside : (members barrier m : ℕ) (tag : Tag) (share : ℕ × Shape) (h : List Event) → leaves_region m h ≡ false → open_share m h ≡ Some share → TeamRule members (Arrive barrier m tag) h → ⊥
team_never_arrives_inside members barrier m tag share h stays inside rule = absurd (let never : Some share ≡ None = sym inside ∙ rule.outside stays in cc)

pub team_never_arrives_again : (members barrier m : ℕ) (tag other : Tag) (h : List Event) → leaves_region m h ≡ false → arrival barrier m h ≡ Some other → TeamRule members (Arrive barrier m tag) h → ⊥
team_never_arrives_again members barrier m tag other h stays before rule = absurd (let never : Some other ≡ None = sym before ∙ rule.once stays in cc)

pub team_never_tells_other_shares : (members barrier m : ℕ) (tag : Tag) (h : List Event) → tag.shares ≢ shares_entered m h → TeamRule members (Arrive barrier m tag) h → ⊥
team_never_tells_other_shares members barrier m tag h differ rule = differ rule.shares

pub team_passes_as_all_do : (members barrier m : ℕ) (h : List Event) → TeamRule members (Pass barrier m) h → MayPass members barrier m h
team_passes_as_all_do members barrier m h rule = rule.passes

pub team_never_passes_from_outside : (members barrier m : ℕ) (h : List Event) → members ≤ m → TeamRule members (Pass barrier m) h → ⊥
team_never_passes_from_outside members barrier m h outside rule = absurd (let member = rule.member in omega (arith, outside, member))

pub team_never_passes_in_a_task : (members barrier m : ℕ) (h : List Event) → in_task m h ≡ true → TeamRule members (Pass barrier m) h → ⊥
team_never_passes_in_a_task members barrier m h within rule = not_both (in_task m h) within rule.outside

-- Names and locks

pub team_holds_as_owners_do : (members m : ℕ) (key : Key) (task : Task) (h : List Event) → TeamRule members (Hold key m task) h → MayHold key m task h × NameRule (Hold key m task) h
team_holds_as_owners_do members m key task h rule = (rule.holds, rule.names)

pub team_never_holds_from_outside : (members m : ℕ) (key : Key) (task : Task) (h : List Event) → members ≤ m → TeamRule members (Hold key m task) h → ⊥
team_never_holds_from_outside members m key task h outside rule = absurd (let member = rule.member in omega (arith, outside, member))

pub team_frees_as_owners_do : (members m : ℕ) (key : Key) (task : Task) (h : List Event) → TeamRule members (Free key m task) h → MayFree key m task h
team_frees_as_owners_do members m key task h rule = rule

-- Tasks and groups

pub team_creates_as_tasks_are : (members t m : ℕ) (parent : Task) (desc : TaskDesc) (h : List Event) → TeamRule members (Create t m parent desc) h → MayCreate members t m parent h
team_creates_as_tasks_are members t m parent desc h rule = rule

pub team_starts_as_tasks_are : (members t m : ℕ) (h : List Event) → TeamRule members (Start t m) h → MayStart members t m h
team_starts_as_tasks_are members t m h rule = rule

pub team_ends_as_tasks_are : (members t m : ℕ) (h : List Event) → TeamRule members (Done t m) h → MayEnd members t m h × NameRule (Done t m) h
team_ends_as_tasks_are members t m h rule = (rule.ends, rule.names)

pub team_discards_as_tasks_are : (members t m : ℕ) (h : List Event) → TeamRule members (Discard t m) h → MayDiscard members t m h
team_discards_as_tasks_are members t m h rule = rule

pub team_opens_as_groups_are : (members q m : ℕ) (h : List Event) → TeamRule members (Group q m) h → MayOpenGroup members q m h
team_opens_as_groups_are members q m h rule = rule

pub team_ends_as_groups_are : (members q m : ℕ) (h : List Event) → TeamRule members (GroupEnd q m) h → MayEndGroup members q m h
team_ends_as_groups_are members q m h rule = rule

pub team_waits_as_tasks_are : (members m : ℕ) (items : List Dep) (h : List Event) → TeamRule members (Waited m items) h → MayEndTaskwait members m items h
team_waits_as_tasks_are members m items h rule = rule

-- Cancellation

pub team_cancels_as_named : (members m : ℕ) (scope : Scope) (h : List Event) → TeamRule members (Cancel m scope) h → MayCancel members m scope h × ShareRule (schedule members) members (Cancel m scope) h
team_cancels_as_named members m scope h rule = (rule.cancels, rule.share)

pub team_sees_as_named : (members m : ℕ) (kind : CancelKind) (h : List Event) → TeamRule members (See m kind) h → MaySee members m kind h × ShareRule (schedule members) members (See m kind) h
team_sees_as_named members m kind h rule = (rule.sees, rule.share)
