-- A member whose wait is open changes nothing until it is answered otherwise than to wait, or stops the team.
use Rattle.std.proofs.Common.{◌≡◌, ◌≢◌, ◌≤◌, ℕ, Bool, true, false, List, [], ◌∷◌, Option, Some, None, refl, ap, sym, ◌∙◌, subst, ◌⊎◌, inl, inr}
use Rattle.std.specs.Prelude.{◌&&◌, ◌==◌, not, slice_set}
use Rattle.std.proofs.lemmas.Bool.{cases_Bool}
use Rattle.std.proofs.lemmas.List.{set-get_or, get_or-set_other}
use Rattle.gomp_types.specs.declared.limits.Limits.{Limits}
use Rattle.gomp_types.specs.declared.refusal.Refusal.{Refusal}
use Rattle.gomp_types.specs.declared.refusal.Refusal.TheVariants.{Waiting, NotInside, NoMemory}
use Rattle.gomp_types.specs.declared.reply.Reply.{Reply}
use Rattle.gomp_types.specs.declared.reply.Reply.TheVariants.{Wait, Refused}
use Rattle.gomp_events.specs.declared.event.Event.{Event}
use Rattle.gomp_types.specs.RefusalTexts.{number_of}
use Rattle.gomp_types.specs.Least.{lesser, least}
use Rattle.gomp_types.proofs.Booleans.{is_equal, unequal_numbers}
use Rattle.gomp_types.proofs.LeastTests.{some_stays, lesser_low}
use Rattle.gomp_board.specs.declared.op.Op.{Op}
use Rattle.gomp_board.specs.declared.op.Op.TheVariants.{AwaitOwn, AwaitChildren, AwaitGroup, AwaitBarrier, Break}
use Rattle.gomp_board.specs.Ops.{op_refusal, op_after, goes_on_waiting, OpAnswer}
use Rattle.gomp_board.specs.Boards.{Stands, members_of, kept_by}
use Rattle.gomp_waits.specs.Waits.{WaitBoardView, is_waiting, comes_amid_wait, resumes_wait, open_wait_refusal, asked_refusal, waits_on, AskedAnswer, PerformsOrWaits}
use Rattle.gomp_waits.specs.Runs.{Asked, Leads, KeepsWaiting, HoldsOff, StaysWaiting}
use Rattle.gomp_waits.proofs.Answered.{asked_is_lesser}

-- What the wait refuses

refused_of_both : (waiting amid resumes : Bool) → waiting ≡ true → amid ≡ false → least ((waiting && not amid, Waiting) ∷ (not waiting && resumes, NotInside) ∷ []) ≡ Some Waiting
refused_of_both true false resumes waits away = refl
refused_of_both true true resumes waits away = absurd (cc)
refused_of_both false amid resumes waits away = absurd (cc)

allowed_by_both : (waiting amid resumes : Bool) → waiting ≡ true → amid ≡ true → least ((waiting && not amid, Waiting) ∷ (not waiting && resumes, NotInside) ∷ []) ≡ None
allowed_by_both true true resumes waits comes = refl
allowed_by_both true false resumes waits comes = absurd (cc)
allowed_by_both false amid resumes waits comes = absurd (cc)

-- an open wait refuses what does not come amid it
pub open_wait_refuses : (waiting : Bool) (op : Op) → waiting ≡ true → comes_amid_wait op ≡ false → open_wait_refusal waiting op ≡ Some Waiting
open_wait_refuses waiting op waits away = refused_of_both waiting (comes_amid_wait op) (resumes_wait op) waits away

-- and nothing else
pub open_wait_allows : (waiting : Bool) (op : Op) → waiting ≡ true → comes_amid_wait op ≡ true → open_wait_refusal waiting op ≡ None
open_wait_allows waiting op waits comes = allowed_by_both waiting (comes_amid_wait op) (resumes_wait op) waits comes

-- what comes amid a wait goes on with it, or is a break
amid_goes_on : (op : Op) → comes_amid_wait op ≡ true → (goes_on_waiting op ≡ true) ⊎ ((place : _) × (back : _) × (op ≡ Break place back))
amid_goes_on AwaitOwn comes = inl refl
amid_goes_on (AwaitChildren items) comes = inl refl
amid_goes_on AwaitGroup comes = inl refl
amid_goes_on AwaitBarrier comes = inl refl
amid_goes_on (Break place back) comes = inr (place, back, refl)
amid_goes_on _ comes = absurd (cc)

-- What a member whose wait is open is answered

-- a refusal, if there is one beside a wait's
refused_below : (limits : Limits) (room kept members m : ℕ) (waiting : Bool) (op : Op) (h : List Event) (reply : Reply) (refusal : Refusal) (other : Option Refusal)
    → asked_refusal (record { limits = limits; room = room; kept = kept }) m waiting op h ≡ lesser (Some refusal) other → AskedAnswer limits room kept members m waiting op h reply
    → (found : Refusal) × (reply ≡ Refused found) × (number_of found ≤ number_of refusal)
refused_below limits room kept members m waiting op h (Refused NoMemory) refusal other is answer = absurd (some_stays refusal other (sym is ∙ answer.0))
refused_below limits room kept members m waiting op h (Refused found) refusal other is answer = (found, refl, lesser_low refusal found other (sym is ∙ answer))
refused_below limits room kept members m waiting op h _ refusal other is answer = absurd (some_stays refusal other (sym is ∙ answer.0))

-- the wait's refusal, or one with a lesser number
pub wait_is_answered_low :
    (op : Op) (m : ℕ) (view after : WaitBoardView) (reply : Reply) (h : List Event) (refusal : Refusal) → Stands view.board h → PerformsOrWaits op m view after reply → open_wait_refusal (is_waiting m view) op ≡ Some refusal
    → (found : Refusal) × (reply ≡ Refused found) × (number_of found ≤ number_of refusal)
wait_is_answered_low op m view after reply h refusal st performs refuses =
    let limits = view.board.limits in let room = view.board.room in let kept = kept_by m view.board in let own = op_refusal limits room kept m op h in
    refused_below limits room kept (members_of view.board) m (is_waiting m view) op h reply refusal own
    (asked_is_lesser limits room kept m (is_waiting m view) op h ∙ ap (λ (one : Option Refusal). lesser one own) refuses) (performs.answer h st)

-- What that changes

same_view : (view after : WaitBoardView) → after.board ≡ view.board → after.waiting ≡ view.waiting → after ≡ view
same_view view after board waiting = let same : record { board = after.board; waiting = after.waiting } ≡ view = rw (board, waiting) refl in same

-- a refusal by the wait changes nothing
pub wait_keeps_all : (op : Op) (m : ℕ) (view after : WaitBoardView) (reply : Reply) (h : List Event) (refusal : Refusal) → Stands view.board h → PerformsOrWaits op m view after reply → open_wait_refusal (is_waiting m view) op ≡ Some refusal → after ≡ view
wait_keeps_all op m view after reply h refusal st performs refuses =
    let (found, is, low) = wait_is_answered_low op m view after reply h refusal st performs refuses in
    same_view view after (performs.stays refusal refuses) (performs.waits ∙ ap (λ (r : Reply). slice_set view.waiting m (waits_on r (is_waiting m view))) is ∙ set-get_or view.waiting m false)

-- nor does a wait that goes on
never_waits_at_break : (limits : Limits) (room kept members m : ℕ) (op : Op) (place back : _) (h : List Event) → op ≡ Break place back → OpAnswer limits room kept members m op h Wait → ⊥
never_waits_at_break limits room kept members m op place back h is answer = let broken = subst (λ (o : Op). OpAnswer limits room kept members m o h Wait) is answer in absurd (let stops = broken.1 in cc)

pub waiting_on_keeps_all : (op : Op) (m : ℕ) (view after : WaitBoardView) (h : List Event) → Stands view.board h → PerformsOrWaits op m view after Wait → is_waiting m view ≡ true → comes_amid_wait op ≡ true → after ≡ view
waiting_on_keeps_all op m view after h st performs waits comes =
    let done = performs.performs (open_wait_allows (is_waiting m view) op waits comes) in
    elim (amid_goes_on op comes) [
      | inl goes ↦ same_view view after (done.waits refl goes) (performs.waits ∙ ap (λ (b : Bool). slice_set view.waiting m b) (sym waits) ∙ set-get_or view.waiting m false)
      | inr at ↦ absurd (never_waits_at_break view.board.limits view.board.room (kept_by m view.board) (members_of view.board) m op at.0 at.1 h at.2 (done.answer h st))
    ]

-- so a member whose wait is open changes nothing, unless it goes on otherwise than to wait, or stops the team
pub wait_changes_nothing :
    (op : Op) (m : ℕ) (view after : WaitBoardView) (reply : Reply) (h : List Event) → Stands view.board h → PerformsOrWaits op m view after reply → is_waiting m view ≡ true → (comes_amid_wait op ≡ false) ⊎ (reply ≡ Wait)
    → (after ≡ view) × HoldsOff reply
wait_changes_nothing op m view after reply h st performs waits keeps =
    elim (cases_Bool (comes_amid_wait op)) [
      | inr away ↦ refused away
      | inl comes ↦ elim keeps [
        | inl away ↦ refused away
        | inr is ↦ (waiting_on_keeps_all op m view after h st (subst (λ (r : Reply). PerformsOrWaits op m view after r) is performs) waits comes, rw is tt)
      ]
    ]
  where
    refused : comes_amid_wait op ≡ false → (after ≡ view) × HoldsOff reply
    refused away =
        let refuses = open_wait_refuses (is_waiting m view) op waits away in
        let (found, is, low) = wait_is_answered_low op m view after reply h Waiting st performs refuses in
        (wait_keeps_all op m view after reply h Waiting st performs refuses, rw is low)

-- Over runs

-- there is a list of events for which the board stands then
wait_or_none : (one : Option Refusal) → (one ≡ None) ⊎ ((refusal : Refusal) × (one ≡ Some refusal))
wait_or_none None = inl refl
wait_or_none (Some refusal) = inr (refusal, refl)

pub still_stands : (op : Op) (m : ℕ) (view after : WaitBoardView) (reply : Reply) (h : List Event) → Stands view.board h → PerformsOrWaits op m view after reply → (later : List Event) × Stands after.board later
still_stands op m view after reply h st performs =
    elim (wait_or_none (open_wait_refusal (is_waiting m view) op)) [
      | inl none ↦ (op_after m op reply h, (performs.performs none).stands h st)
      | inr at ↦ (h, rw (performs.stays at.0 at.1) st)
    ]

-- the waits of the others stay as they are
pub others_wait_on : (op : Op) (m k : ℕ) (view after : WaitBoardView) (reply : Reply) → PerformsOrWaits op m view after reply → k ≢ m → is_waiting k after ≡ is_waiting k view
others_wait_on op m k view after reply performs other = rw performs.waits (get_or-set_other view.waiting m k _ false other)

-- a member whose wait is open may ask what it will: until it is answered otherwise than to wait, or stops the team, its operations can be left out
pub waiting_member_changes_nothing : (m : ℕ) (steps : List Asked) (view after : WaitBoardView) (h : List Event) → Stands view.board h → is_waiting m view ≡ true → KeepsWaiting m steps → Leads steps view after → StaysWaiting m steps view after
waiting_member_changes_nothing m [] view after h st waits keeps leads = record { waits = rw leads waits; answers = tt; changes = leads }
waiting_member_changes_nothing m (asked ∷ later) view after h st waits keeps leads =
    let (next, performs, rest) = leads in
    elim (cases_Bool (asked.member == m)) [
      | inl same ↦
          let is = is_equal asked.member m same in
          let held = wait_changes_nothing asked.op m view next asked.reply h st (subst (λ (k : ℕ). PerformsOrWaits asked.op k view next asked.reply) is performs) waits (keeps.0 is) in
          let stays = waiting_member_changes_nothing m later view after h st waits keeps.1 (subst (λ (v : WaitBoardView). Leads later v after) held.0 rest) in
          record { waits = stays.waits; answers = ((λ e. held.1), stays.answers); changes = rw same stays.changes }
      | inr apart ↦
          let other = unequal_numbers asked.member m apart in
          let (more, stands) = still_stands asked.op asked.member view next asked.reply h st performs in
          let open_still = others_wait_on asked.op asked.member m view next asked.reply performs (λ e. other (sym e)) ∙ waits in
          let stays = waiting_member_changes_nothing m later next after more stands open_still keeps.1 rest in
          record { waits = stays.waits; answers = ((λ e. absurd (other e)), stays.answers); changes = rw apart (next, performs, stays.changes) }
    ]
