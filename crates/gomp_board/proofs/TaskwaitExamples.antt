-- A taskwait and its items: whoever waits, whatever has happened, more than 16 are refused, and 16 are not.
use Rattle.std.proofs.Common.{◌≡◌, ℕ, false, true, List, [], ◌∷◌, ◌++◌, Some, None, refl}
use Rattle.std.specs.Prelude.{map, nat_lt, length, replicate}
use Rattle.gomp_types.specs.declared.depend.Dep.{Dep}
use Rattle.gomp_types.specs.declared.depend.DepKind.TheVariants.{DepIn}
use Rattle.gomp_types.specs.declared.limits.Limits.{Limits}
use Rattle.gomp_types.specs.declared.limits.TheConstants.{MAX_DEPENDS}
use Rattle.gomp_types.specs.declared.refusal.Refusal.TheVariants.{Waiting, TooManyDepends}
use Rattle.gomp_types.specs.declared.reply.Reply.{Reply}
use Rattle.gomp_events.specs.declared.event.Event.{Event}
use Rattle.gomp_events.specs.TaskExamples.{item}
use Rattle.gomp_events.specs.TaskCalls.{items_tests}
use Rattle.gomp_types.proofs.LeastTests.{all_fail, fail_later}
use Rattle.gomp_board.specs.declared.op.Op.TheVariants.{Taskwait, AwaitChildren}
use Rattle.gomp_board.specs.Ops.{op_member_tests, busy_tests, op_tests, op_asks, op_keeps, op_begins, op_gives, op_refusal, OpReply, op_may_lack, goes_on_waiting}
use Rattle.gomp_board.specs.Examples.{first_waits, usual_refusal}

-- so many items
abbrev items_by_count : ℕ → List Dep
items_by_count count = replicate count (item DepIn 7)

-- 16 are allowed, and no more
pub items_of_a_taskwait_counted : map (λ count. usual_refusal (Taskwait (items_by_count count)) []) (0 ∷ 1 ∷ 16 ∷ 17 ∷ 18 ∷ []) ≡ None ∷ None ∷ None ∷ Some TooManyDepends ∷ Some TooManyDepends ∷ []
items_of_a_taskwait_counted = refl

-- at a wait that goes on they are not counted again
pub items_of_a_wait_uncounted : map (λ count. usual_refusal (AwaitChildren (items_by_count count)) []) (0 ∷ 16 ∷ 17 ∷ 18 ∷ []) ≡ None ∷ None ∷ None ∷ None ∷ []
items_of_a_wait_uncounted = refl

-- a member that waits at a barrier makes neither, and is told that first
pub taskwait_at_a_barrier_refused : map (λ count. usual_refusal (Taskwait (items_by_count count)) first_waits) (0 ∷ 17 ∷ []) ≡ Some Waiting ∷ Some Waiting ∷ []
taskwait_at_a_barrier_refused = refl

-- no member is admitted with more items, by any limits and after any events
pub many_items_are_refused : (limits : Limits) (room kept m : ℕ) (items : List Dep) (h : List Event) → nat_lt MAX_DEPENDS (length items) ≡ true → op_refusal limits room kept m (Taskwait items) h ≡ None → ⊥
many_items_are_refused limits room kept m items h many fine =
    let all = all_fail (op_member_tests m h ++ op_tests limits room kept m (Taskwait items) h) fine in
    let own = fail_later (busy_tests m h) (items_tests items) (fail_later (op_member_tests m h) (op_tests limits room kept m (Taskwait items) h) all) in
    let few : nat_lt MAX_DEPENDS (length items) ≡ false = own.0 in
    let both = rw many at few in cc

-- It is answered as the wait that goes on, and gives the same events

pub taskwait_is_answered : (members m : ℕ) (items : List Dep) (h : List Event) (reply : Reply) → OpReply members m (Taskwait items) h reply ≡ OpReply members m (AwaitChildren items) h reply
taskwait_is_answered members m items h reply = refl

pub taskwait_gives_events : (m : ℕ) (items : List Dep) (h : List Event) (reply : Reply) → (op_begins m (Taskwait items) h ≡ []) × (op_gives m (Taskwait items) h reply ≡ op_gives m (AwaitChildren items) h reply)
taskwait_gives_events m items h reply = (refl, refl)

-- it asks for no room and no memory, uses nothing that is kept, and goes on
pub taskwait_takes_nothing : (items : List Dep) (kept m : ℕ) (h : List Event) → (op_asks (Taskwait items) kept ≡ 0) × (op_keeps (Taskwait items) kept ≡ kept) × (op_may_lack (Taskwait items) kept m h ≡ false) × (goes_on_waiting (Taskwait items) ≡ true)
taskwait_takes_nothing items kept m h = (refl, refl, refl, refl)
