-- What an answer at open waits never is, of any members, operations, waits and boards.
use Rattle.std.proofs.Common.{◌≡◌, ◌≢◌, ◌<◌, ◌≤◌, ℕ, Bool, true, false, List, [], ◌∷◌, Some, None, refl, sym, ◌∙◌, inl, inr, arith, length}
use Rattle.std.specs.Prelude.{◌&&◌, ◌||◌, not}
use Rattle.std.proofs.lemmas.List.{get_or-set_same}
use Rattle.gomp_types.specs.declared.depend.Dep.{Dep}
use Rattle.gomp_types.specs.declared.limits.Limits.{Limits}
use Rattle.gomp_types.specs.declared.refusal.Place.TheVariants.{Stopped as AtStop}
use Rattle.gomp_types.specs.declared.refusal.Refusal.{Refusal}
use Rattle.gomp_types.specs.declared.refusal.Refusal.TheVariants.{Waiting, NotInside, NoMemory}
use Rattle.gomp_types.specs.declared.reply.Reply.{Reply}
use Rattle.gomp_types.specs.declared.reply.Reply.TheVariants.{Wait, TaskDone, Refused}
use Rattle.gomp_events.specs.declared.event.Event.{Event}
use Rattle.gomp_types.specs.RefusalTexts.{number_of}
use Rattle.gomp_types.specs.Least.{least}
use Rattle.gomp_types.proofs.Booleans.{other_number, same_number}
use Rattle.gomp_board.specs.declared.op.Op.{Op}
use Rattle.gomp_board.specs.declared.op.Op.TheVariants.{AwaitOwn, AwaitChildren, AwaitGroup, AwaitBarrier, Break}
use Rattle.gomp_board.specs.Ops.{op_may_lack, op_refusal, op_after}
use Rattle.gomp_board.specs.Boards.{Performs, Stands, kept_by, members_of}
use Rattle.gomp_waits.specs.Runs.{Asked, Leads, of_others, KeepsWaiting, HoldsOff, AreHeldOff, StaysWaiting}
use Rattle.gomp_waits.specs.Waits.{WaitBoardView, is_waiting, resumes_wait, stops_team, comes_amid_wait, open_wait_refusal, asked_refusal, waits_on, AskedAnswer, PerformsOrWaits}
use Rattle.gomp_waits.proofs.Answered.{board_refusal_is_asked}
use Rattle.gomp_waits.proofs.Laws.{open_wait_refuses, open_wait_allows, wait_is_answered_low, wait_keeps_all, others_wait_on}

-- What goes on with a wait

-- each operation that awaits something does, whatever its items are
pub own_task_always_awaited : resumes_wait AwaitOwn ≡ false → ⊥
own_task_always_awaited never = cc

pub children_always_awaited : (items : List Dep) → resumes_wait (AwaitChildren items) ≡ false → ⊥
children_always_awaited items never = cc

pub group_always_awaited : resumes_wait AwaitGroup ≡ false → ⊥
group_always_awaited never = cc

pub barrier_always_awaited : resumes_wait AwaitBarrier ≡ false → ⊥
barrier_always_awaited never = cc

-- and no other
pub never_resumes_otherwise : (op : Op) → op ≢ AwaitOwn → ((items : List Dep) → op ≢ AwaitChildren items) → op ≢ AwaitGroup → op ≢ AwaitBarrier → resumes_wait op ≡ true → ⊥
never_resumes_otherwise AwaitOwn own children group barrier goes = own refl
never_resumes_otherwise (AwaitChildren items) own children group barrier goes = children items refl
never_resumes_otherwise AwaitGroup own children group barrier goes = group refl
never_resumes_otherwise AwaitBarrier own children group barrier goes = barrier refl
never_resumes_otherwise _ own children group barrier goes = cc

-- a stop stops the team
pub stop_never_missed : (back : ℕ) → stops_team (Break AtStop back) ≡ false → ⊥
stop_never_missed back never = cc

-- and nothing else does, a construct that differs neither
pub never_stopped_otherwise : (op : Op) → ((back : ℕ) → op ≢ Break AtStop back) → stops_team op ≡ true → ⊥
never_stopped_otherwise (Break AtStop back) differs stops = differs back refl
never_stopped_otherwise (Break _ back) differs stops = cc
never_stopped_otherwise _ differs stops = cc

-- What the wait refuses

-- amid an open wait no operation that neither goes on with it nor stops the team is let through
pub never_let_through_amid_wait : (op : Op) → resumes_wait op ≡ false → stops_team op ≡ false → open_wait_refusal true op ≡ None → ⊥
never_let_through_amid_wait op goes stops none =
    let away : comes_amid_wait op ≡ false = neither (resumes_wait op) (stops_team op) goes stops in
    let refuses = open_wait_refuses true op refl away in let both : Some Waiting ≡ None = sym refuses ∙ none in cc
  where
    neither : (one other : Bool) → one ≡ false → other ≡ false → (one || other) ≡ false
    neither false false one other = refl
    neither true other one two = absurd (cc)
    neither false true one other = absurd (cc)

-- none that goes on with it or stops the team is refused
pub never_refused_going_on : (op : Op) (refusal : Refusal) → comes_amid_wait op ≡ true → open_wait_refusal true op ≡ Some refusal → ⊥
never_refused_going_on op refusal comes refuses = let allows = open_wait_allows true op refl comes in let both : None ≡ Some refusal = sym allows ∙ refuses in cc

-- without a wait none that goes on with one is let through
without_wait : (amid resumes : Bool) → resumes ≡ true → least ((false && not amid, Waiting) ∷ (not false && resumes, NotInside) ∷ []) ≡ Some NotInside
without_wait amid true goes = refl
without_wait amid false goes = absurd (cc)

beside_wait : (amid resumes : Bool) → resumes ≡ false → least ((false && not amid, Waiting) ∷ (not false && resumes, NotInside) ∷ []) ≡ None
beside_wait amid false goes = refl
beside_wait amid true goes = absurd (cc)

pub never_goes_on_without_wait : (op : Op) → resumes_wait op ≡ true → open_wait_refusal false op ≡ None → ⊥
never_goes_on_without_wait op goes none = let refuses = without_wait (comes_amid_wait op) (resumes_wait op) goes in let both : Some NotInside ≡ None = sym refuses ∙ none in cc

-- and no other is refused
pub never_refused_without_wait : (op : Op) (refusal : Refusal) → resumes_wait op ≡ false → open_wait_refusal false op ≡ Some refusal → ⊥
never_refused_without_wait op refusal goes refuses = let allows = beside_wait (comes_amid_wait op) (resumes_wait op) goes in let both : None ≡ Some refusal = sym allows ∙ refuses in cc

-- What a member is answered

-- an operation that the wait refuses is answered no reply but a refusal
pub never_answered_amid_wait : (op : Op) (m : ℕ) (view after : WaitBoardView) (reply : Reply) (h : List Event) (refusal : Refusal)
    → Stands view.board h → open_wait_refusal (is_waiting m view) op ≡ Some refusal → ((other : Refusal) → reply ≢ Refused other) → PerformsOrWaits op m view after reply → ⊥
never_answered_amid_wait op m view after reply h refusal st refuses differs performs = let (found, is, low) = wait_is_answered_low op m view after reply h refusal st performs refuses in differs found is

-- by none above the wait's, be it want of memory
pub never_refused_above_wait : (op : Op) (m : ℕ) (view after : WaitBoardView) (h : List Event) (refusal found : Refusal)
    → Stands view.board h → open_wait_refusal (is_waiting m view) op ≡ Some refusal → number_of refusal < number_of found → PerformsOrWaits op m view after (Refused found) → ⊥
never_refused_above_wait op m view after h refusal found st refuses above performs =
    let (other, is, low) = wait_is_answered_low op m view after (Refused found) h refusal st performs refuses in
    let same : found ≡ other = cc in let within : number_of found ≤ number_of refusal = rw same low in absurd (omega arith)

-- nor is one that no test refuses, unless memory is wanted
pub never_refused_without_cause : (op : Op) (m : ℕ) (view after : WaitBoardView) (h : List Event) (found : Refusal)
    → Stands view.board h → open_wait_refusal (is_waiting m view) op ≡ None → op_refusal view.board.limits view.board.room (kept_by m view.board) m op h ≡ None → found ≢ NoMemory → PerformsOrWaits op m view after (Refused found) → ⊥
never_refused_without_cause op m view after h NoMemory st none fine differs performs = differs refl
never_refused_without_cause op m view after h _ st none fine differs performs =
    let least_is = board_refusal_is_asked view.board.limits view.board.room (kept_by m view.board) m (is_waiting m view) op h none ∙ fine in let refused = performs.answer h st in let both = sym least_is ∙ refused in cc

-- the answer is that of the wait's tests and the board's, whatever the wait is
pub never_answered_by_other_tests : (op : Op) (m : ℕ) (view after : WaitBoardView) (reply : Reply) (h : List Event) → Stands view.board h → PerformsOrWaits op m view after reply
    → AskedAnswer view.board.limits view.board.room (kept_by m view.board) (members_of view.board) m (is_waiting m view) op h reply
never_answered_by_other_tests op m view after reply h st performs = performs.answer h st

-- by that a refusal is the least of both, and want of memory is none of an operation that asks for no room
pub never_asked_in_vain : (limits : Limits) (room kept members m : ℕ) (waiting : Bool) (op : Op) (h : List Event) (refusal : Refusal)
    → refusal ≢ NoMemory → asked_refusal (record { limits = limits; room = room; kept = kept }) m waiting op h ≢ Some refusal → AskedAnswer limits room kept members m waiting op h (Refused refusal) → ⊥
never_asked_in_vain limits room kept members m waiting op h NoMemory other differs answer = other refl
never_asked_in_vain limits room kept members m waiting op h _ other differs answer = differs answer

pub never_wants_memory_unasked : (limits : Limits) (room kept members m : ℕ) (waiting : Bool) (op : Op) (h : List Event)
    → op_may_lack op kept m h ≡ false → AskedAnswer limits room kept members m waiting op h (Refused NoMemory) → ⊥
never_wants_memory_unasked limits room kept members m waiting op h none answer = let asks : op_may_lack op kept m h ≡ true = answer.1 in let both : true ≡ false = sym asks ∙ none in cc

-- What a step changes

-- an operation that the wait does not refuse is performed as the board performs it, room and all
pub never_performed_otherwise : (op : Op) (m : ℕ) (view after : WaitBoardView) (reply : Reply) → open_wait_refusal (is_waiting m view) op ≡ None → PerformsOrWaits op m view after reply → Performs op m view.board after.board reply
never_performed_otherwise op m view after reply none performs = performs.performs none

-- an operation that the wait refuses changes nothing, no wait either
pub never_changed_amid_wait : (op : Op) (m : ℕ) (view after : WaitBoardView) (reply : Reply) (h : List Event) (refusal : Refusal)
    → Stands view.board h → open_wait_refusal (is_waiting m view) op ≡ Some refusal → after ≢ view → PerformsOrWaits op m view after reply → ⊥
never_changed_amid_wait op m view after reply h refusal st refuses changed performs = changed (wait_keeps_all op m view after reply h refusal st performs refuses)

-- one that it does not refuse is never left undone
pub never_left_undone : (op : Op) (m : ℕ) (view after : WaitBoardView) (reply : Reply) (h : List Event)
    → Stands view.board h → open_wait_refusal (is_waiting m view) op ≡ None → (Stands after.board (op_after m op reply h) → ⊥) → PerformsOrWaits op m view after reply → ⊥
never_left_undone op m view after reply h st none undone performs = undone ((performs.performs none).stands h st)

-- the member's own wait is as its reply has it
own_wait : (op : Op) (m : ℕ) (view after : WaitBoardView) (reply : Reply) → m < length view.waiting → PerformsOrWaits op m view after reply → is_waiting m after ≡ waits_on reply (is_waiting m view)
own_wait op m view after reply low performs = rw performs.waits (get_or-set_same view.waiting m _ false low)

-- Wait never leaves it closed
pub never_closed_by_wait : (op : Op) (m : ℕ) (view after : WaitBoardView) → m < length view.waiting → PerformsOrWaits op m view after Wait → is_waiting m after ≡ false → ⊥
never_closed_by_wait op m view after low performs closed = let own = own_wait op m view after Wait low performs in let both : false ≡ true = sym closed ∙ own in cc

-- nor does the end of a task that was started at a wait
pub never_closed_behind_a_task : (op : Op) (m task : ℕ) (view after : WaitBoardView) → m < length view.waiting → PerformsOrWaits op m view after (TaskDone task true) → is_waiting m after ≡ false → ⊥
never_closed_behind_a_task op m task view after low performs closed = let own = own_wait op m view after (TaskDone task true) low performs in let both : false ≡ true = sym closed ∙ own in cc

-- that of an undeferred task never leaves it open
pub never_open_behind_undeferred : (op : Op) (m task : ℕ) (view after : WaitBoardView) → m < length view.waiting → PerformsOrWaits op m view after (TaskDone task false) → is_waiting m after ≡ true → ⊥
never_open_behind_undeferred op m task view after low performs opened = let own = own_wait op m view after (TaskDone task false) low performs in let both : true ≡ false = sym opened ∙ own in cc

-- a refusal never opens or closes it
pub never_moved_by_refusal : (op : Op) (m : ℕ) (view after : WaitBoardView) (refusal : Refusal) → m < length view.waiting → PerformsOrWaits op m view after (Refused refusal) → is_waiting m after ≢ is_waiting m view → ⊥
never_moved_by_refusal op m view after refusal low performs moved = moved (own_wait op m view after (Refused refusal) low performs)

-- and every other reply leaves it closed
closed_by_any_other : (reply : Reply) (before : Bool) → reply ≢ Wait → ((task : ℕ) (again : Bool) → reply ≢ TaskDone task again) → ((refusal : Refusal) → reply ≢ Refused refusal) → waits_on reply before ≡ false
closed_by_any_other Wait before wait done refused = absurd (wait refl)
closed_by_any_other (TaskDone task again) before wait done refused = absurd (done task again refl)
closed_by_any_other (Refused refusal) before wait done refused = absurd (refused refusal refl)
closed_by_any_other _ before wait done refused = refl

pub never_open_otherwise : (op : Op) (m : ℕ) (view after : WaitBoardView) (reply : Reply)
    → m < length view.waiting → reply ≢ Wait → ((task : ℕ) (again : Bool) → reply ≢ TaskDone task again) → ((refusal : Refusal) → reply ≢ Refused refusal) → PerformsOrWaits op m view after reply → is_waiting m after ≡ true → ⊥
never_open_otherwise op m view after reply low wait done refused performs opened =
    let own = own_wait op m view after reply low performs ∙ closed_by_any_other reply (is_waiting m view) wait done refused in let both : true ≡ false = sym opened ∙ own in cc

-- no step opens or closes another member's wait
pub never_moves_anothers_wait : (op : Op) (m k : ℕ) (view after : WaitBoardView) (reply : Reply) → k ≢ m → PerformsOrWaits op m view after reply → is_waiting k after ≢ is_waiting k view → ⊥
never_moves_anothers_wait op m k view after reply other performs moved = moved (others_wait_on op m k view after reply performs other)

-- Runs

-- each operation is performed in its turn, on the board that the earlier ones have left
pub no_operation_leads_nowhere : (view after : WaitBoardView) → Leads [] view after → after ≡ view
no_operation_leads_nowhere view after leads = leads

pub first_operation_leads_on : (asked : Asked) (later : List Asked) (view after : WaitBoardView) → Leads (asked ∷ later) view after → (next : WaitBoardView) × PerformsOrWaits asked.op asked.member view next asked.reply × Leads later next after
first_operation_leads_on asked later view after leads = leads

pub operations_lead_on : (asked : Asked) (later : List Asked) (view next after : WaitBoardView) → PerformsOrWaits asked.op asked.member view next asked.reply → Leads later next after → Leads (asked ∷ later) view after
operations_lead_on asked later view next after performs rest = (next, performs, rest)

-- of the others' operations none is left out, and of the member's own all are
pub own_operation_is_left_out : (m : ℕ) (asked : Asked) (later : List Asked) → asked.member ≡ m → of_others m (asked ∷ later) ≡ of_others m later
own_operation_is_left_out m asked later own = rw (own, same_number m) refl

pub others_operation_is_left_in : (m : ℕ) (asked : Asked) (later : List Asked) → asked.member ≢ m → of_others m (asked ∷ later) ≡ asked ∷ of_others m later
others_operation_is_left_in m asked later other = rw (other_number asked.member m other) refl

-- a member keeps waiting whatever the others ask, and whatever it asks that does not come amid a wait or is answered to wait
pub waits_on_beside_others : (m : ℕ) (asked : Asked) (later : List Asked) → asked.member ≢ m → KeepsWaiting m later → KeepsWaiting m (asked ∷ later)
waits_on_beside_others m asked later other keeps = ((λ own. absurd (other own)), keeps)

pub waits_on_asking_otherwise : (m : ℕ) (asked : Asked) (later : List Asked) → comes_amid_wait asked.op ≡ false → KeepsWaiting m later → KeepsWaiting m (asked ∷ later)
waits_on_asking_otherwise m asked later away keeps = ((λ own. inl away), keeps)

pub waits_on_answered_to_wait : (m : ℕ) (asked : Asked) (later : List Asked) → asked.reply ≡ Wait → KeepsWaiting m later → KeepsWaiting m (asked ∷ later)
waits_on_answered_to_wait m asked later waits keeps = ((λ own. inr waits), keeps)

-- it is held off by nothing but to wait, and refusals up to that of a member that waits
pub never_held_off_by_a_later_refusal : (refusal : Refusal) → 4 < number_of refusal → HoldsOff (Refused refusal) → ⊥
never_held_off_by_a_later_refusal refusal late held = absurd (omega (arith, late, held))

pub never_held_off_otherwise : (reply : Reply) → reply ≢ Wait → ((refusal : Refusal) → reply ≢ Refused refusal) → HoldsOff reply → ⊥
never_held_off_otherwise Wait waits refused held = waits refl
never_held_off_otherwise (Refused refusal) waits refused held = refused refusal refl
never_held_off_otherwise _ waits refused held = held

-- each of its operations is, the later ones too, its wait stays open, and the others' operations alone lead to the same board
pub each_own_operation_is_held_off : (m : ℕ) (asked : Asked) (later : List Asked) → AreHeldOff m (asked ∷ later) → (asked.member ≡ m → HoldsOff asked.reply) × AreHeldOff m later
each_own_operation_is_held_off m asked later held = held

pub never_stops_waiting : (m : ℕ) (steps : List Asked) (view after : WaitBoardView) → StaysWaiting m steps view after → is_waiting m after ≡ false → ⊥
never_stops_waiting m steps view after stays closed = let opened = stays.waits in let both : true ≡ false = sym opened ∙ closed in cc

pub own_operations_are_all_held_off : (m : ℕ) (steps : List Asked) (view after : WaitBoardView) → StaysWaiting m steps view after → AreHeldOff m steps
own_operations_are_all_held_off m steps view after stays = stays.answers

pub own_operations_change_nothing : (m : ℕ) (steps : List Asked) (view after : WaitBoardView) → StaysWaiting m steps view after → Leads (of_others m steps) view after
own_operations_change_nothing m steps view after stays = stays.changes
