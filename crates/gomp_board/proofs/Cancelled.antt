-- What a construct that cancels names, as the groups tell it, and what its member is answered.
use Rattle.std.specs.Prelude.{◌&&◌, ◌||◌}
use Rattle.std.proofs.Common.{◌≡◌, ℕ, ◌+◌, ◌++◌, arith, Bool, true, false, List, [], ◌∷◌, Option, Some, None, refl, ap, ◌∙◌, sym, subst}
use Rattle.gomp_events.specs.declared.event.Event.{Event}
use Rattle.gomp_events.specs.Tasks.{executed_task}
use Rattle.gomp_events.specs.Cancels.{first_in, groups_over, scope_of, names_cancelled}
use Rattle.gomp_events.specs.TaskCalls.{has_some}
use Rattle.gomp_types.specs.declared.cancel.CancelKind.{CancelKind}
use Rattle.gomp_types.specs.declared.cancel.CancelKind.TheVariants.{Taskgroup}
use Rattle.gomp_types.specs.declared.cancel.Scope.{Scope}
use Rattle.gomp_types.specs.declared.cancel.Scope.TheVariants.{OneGroup}
use Rattle.gomp_types.specs.declared.refusal.Refusal.TheVariants.{NoMemory}
use Rattle.gomp_types.specs.declared.reply.Reply.TheVariants.{Cancelling, Refused}
use Rattle.gomp_types.specs.Tests.{Test}
use Rattle.gomp_types.specs.Least.{least}
use Rattle.gomp_events.specs.CancelCalls.{cancel_tests, cancel_room, keeps_cancel, cancels}
use Rattle.gomp_types.proofs.Booleans.{and_left, and_right, not_both, not_false}
use Rattle.gomp_types.proofs.LeastTests.{AllFail, all_fail}
use Rattle.gomp_board.specs.declared.op.Op.TheVariants.{Cancel, Point}
use Rattle.gomp_board.specs.declared.op.TeamCancel.{TeamCancel}
use Rattle.gomp_board.specs.Ops.{named_kind, cancelled_by}
use Rattle.gomp_board.specs.Boards.{BoardView, Stands, IsOpAdmitted, Performs, kept_by}
use Rattle.gomp_board.proofs.AdmittedArrivals.{cancel_is_placed}
use Rattle.gomp_board.proofs.Joined.{roomy_stands}
use Rattle.gomp_board.proofs.Performed.{nothing_changed, nothing_performed, op_performed}
use Rattle.gomp_board.proofs.BoardEvents.{set_same}

-- what a construct names that may name it there

least_of_failed : (tests : List Test) → AllFail tests → least tests ≡ None
least_of_failed [] all = refl
least_of_failed ((true, refusal) ∷ tests) all = absurd (let never = all.0 in cc)
least_of_failed ((false, refusal) ∷ tests) all = least_of_failed tests all.1

pub cancel_may_name : (named : TeamCancel) (clause allowed : Bool) (m : ℕ) (board : BoardView) → IsOpAdmitted (Cancel named clause allowed) m board → (h : List Event) → Stands board h → least (cancel_tests (named_kind named) m h) ≡ None
cancel_may_name named clause allowed m board admitted h st = least_of_failed (cancel_tests (named_kind named) m h) (cancel_is_placed board.limits board.room (kept_by m board) m named clause allowed h (admitted h st))

no_group : (qs : List ℕ) → first_in qs ≡ None → has_some qs ≡ false
no_group [] none = refl
no_group (q ∷ qs) none = absurd (cc)

pub never_without_group : (m : ℕ) (found : Option ℕ) (h : List Event) → found ≡ first_in (groups_over (executed_task m h) h) → found ≡ None → least (cancel_tests Taskgroup m h) ≡ None → ⊥
never_without_group m found h first none may =
    let has = not_false (has_some (groups_over (executed_task m h) h)) (all_fail (cancel_tests Taskgroup m h) may).1.0 in
    not_both (has_some (groups_over (executed_task m h) h)) has (no_group (groups_over (executed_task m h) h) (sym first ∙ none))

pub group_is_named : (m : ℕ) (found : Option ℕ) (q : ℕ) (h : List Event) → found ≡ first_in (groups_over (executed_task m h) h) → found ≡ Some q → scope_of Taskgroup m h ≡ Some (OneGroup q)
group_is_named m found q h first some = let is : first_in (groups_over (executed_task m h) h) ≡ Some q = sym first ∙ some in rw is refl

-- What is told

no_cancel_given : (allowed clause told : Bool) (kind : CancelKind) (m : ℕ) (h : List Event) → (allowed && clause) ≡ false → cancelled_by clause kind m h (Cancelling (allowed && told)) ≡ []
no_cancel_given true true told kind m h e = absurd (cc)
no_cancel_given true false true kind m h e = refl
no_cancel_given true false false kind m h e = refl
no_cancel_given false clause told kind m h e = refl

nothing_kept : (allowed clause told : Bool) → (allowed && clause) ≡ false → keeps_cancel clause (Cancelling (allowed && told)) ≡ false
nothing_kept true true told e = absurd (cc)
nothing_kept true false true e = refl
nothing_kept true false false e = refl
nothing_kept false clause told e = refl

told_so : (allowed clause told names : Bool) → (allowed && clause) ≡ false → told ≡ names → Cancelling (allowed && told) ≡ Cancelling (allowed && (clause || names))
told_so true true told names e is = absurd (cc)
told_so true false told names e is = ap Cancelling is
told_so false clause told names e is = refl

pub cancel_told : (named : TeamCancel) (clause allowed told : Bool) (m : ℕ) (board : BoardView) → IsOpAdmitted (Cancel named clause allowed) m board → (allowed && clause) ≡ false → ((h : List Event) → Stands board h → told ≡ names_cancelled (named_kind named) m h) →
    Performs (Cancel named clause allowed) m board board (Cancelling (allowed && told))
cancel_told named clause allowed told m board admitted never names =
    nothing_changed (Cancel named clause allowed) m board (Cancelling (allowed && told)) tt admitted
    (λ h st. told_so allowed clause told (names_cancelled (named_kind named) m h) never (names h st)) (λ h st. refl) (λ h st. no_cancel_given allowed clause told (named_kind named) m h never)
    (let off = nothing_kept allowed clause told never in rw off refl) refl

pub point_told : (named : TeamCancel) (allowed told : Bool) (m : ℕ) (board : BoardView) → IsOpAdmitted (Point named allowed) m board → ((h : List Event) → Stands board h → told ≡ names_cancelled (named_kind named) m h) → Performs (Point named allowed) m board board (Cancelling (allowed && told))
point_told named allowed told m board admitted names =
    nothing_changed (Point named allowed) m board (Cancelling (allowed && told)) tt admitted (λ h st. let is = names h st in rw is refl) (λ h st. refl) (λ h st. refl) (omega arith) refl

-- What is cancelled

cancel_asks_one : (named : TeamCancel) → ◌≡◌ {A = ℕ} 1 (cancel_room (named_kind named))
cancel_asks_one TeamCancel.Parallel = refl
cancel_asks_one TeamCancel.Taskgroup = refl

pub cancel_without_memory : (named : TeamCancel) (clause allowed : Bool) (m : ℕ) (board after : BoardView) → IsOpAdmitted (Cancel named clause allowed) m board → after ≡ board → (◌≡◌ {A = ℕ} 1 0 → false ≡ true) → Performs (Cancel named clause allowed) m board after (Refused NoMemory)
cancel_without_memory named clause allowed m board after admitted same some = nothing_performed (Cancel named clause allowed) m board after 1 (cancel_asks_one named) (λ h. refl) admitted same some

pub cancel_performed : (named : TeamCancel) (clause allowed : Bool) (scope : Scope) (m : ℕ) (old made after : BoardView) → IsOpAdmitted (Cancel named clause allowed) m old → (allowed && clause) ≡ true → ((h : List Event) → Stands old h → scope_of (named_kind named) m h ≡ Some scope) →
    made ≡ record old { room = old.room + 1 } → ((h : List Event) → Stands made h → Stands after (cancels m (Some scope) h ++ h)) → after.limits ≡ made.limits → after.room ≡ made.room → after.kept ≡ made.kept → Performs (Cancel named clause allowed) m old after (Cancelling true)
cancel_performed named clause allowed scope m old made after admitted both names room_made stands limits room kept =
    let may = and_left allowed clause both in let on = and_right allowed clause both in
    op_performed (Cancel named clause allowed) m old after (Cancelling true) tt on admitted
    (λ h st. rw (may, on) refl)
    (λ h st. let is = names h st in rw (on, is) (stands h (subst (λ (v : BoardView). Stands v h) (sym room_made) (roomy_stands old (old.room + 1) h st))))
    (limits ∙ ap (λ (v : BoardView). v.limits) room_made) (room ∙ ap (λ (v : BoardView). v.room) room_made ∙ ap (λ (n : ℕ). old.room + n) (cancel_asks_one named))
    (kept ∙ ap (λ (v : BoardView). v.kept) room_made ∙ sym (set_same old.kept m)) (λ wait goes. absurd (cc))
