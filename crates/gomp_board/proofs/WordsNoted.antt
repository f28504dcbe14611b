-- What words do to a board: their room is made, and they are noted.
use Rattle.std.proofs.Common.{◌≡◌, ℕ, true, ◌+◌, ◌<◌, List, [], ◌∷◌, ◌++◌, Option, length, length-set, refl, ap, ◌∙◌, sym, subst, arith}
use Rattle.std.specs.Prelude.{reverse, sum, slice_set}
use Rattle.gomp_events.specs.declared.event.Event.{Event}
use Rattle.gomp_events.specs.declared.event.Event.TheVariants.{Put as PutEvent, Got as GotEvent}
use Rattle.gomp_types.specs.declared.reply.Reply.TheVariants.{Finished}
use Rattle.gomp_scheduler.specs.Schedulers.{SchedulerView, SchedulerHasMembers as SchedulerHas}
use Rattle.gomp_scheduler.proofs.Laws.{events_aside_keep_scheduler}
use Rattle.gomp_board.specs.declared.op.Op.{Op}
use Rattle.gomp_board.specs.declared.payloads.Put.{Put as Kept}
use Rattle.gomp_board.specs.Ops.{op_asks, keeps_room, op_keeps, op_gives, begun, words_ask, words_keep, OpReply}
use Rattle.gomp_board.specs.Payloads.{PayloadsStand}
use Rattle.gomp_board.specs.Owed.{owed}
use Rattle.gomp_board.specs.Boards.{BoardView, Stands, HasSpare, IsBoard, IsOpAdmitted, Performs, members_of, kept_by}
use Rattle.gomp_board.proofs.Joined.{roomy_stands, board_with}
use Rattle.gomp_board.proofs.OwedKeeps.{words_enough}
use Rattle.gomp_board.proofs.PayloadsKeep.{payloads_stay}
use Rattle.gomp_board.proofs.Performed.{op_performed}
use Rattle.gomp_board.proofs.RoomKeeps.{sum_with, kept_within}
use Rattle.gomp_board.proofs.Sealed.{sealed_aside}
use Rattle.gomp_board.proofs.StoredKeeps.{stored_with}

-- For what a board stands then

pub put_words_stand : (b : BoardView) (history : List Event) (kept : List ℕ) (payloads : List (Option Kept)) (share m : ℕ) (words : List ℕ) (h : List Event) → history ≡ b.history ++ PutEvent share m words ∷ [] →
    PayloadsStand payloads (PutEvent share m words ∷ h) → Stands b h → Stands (record b { history = history; kept = kept; payloads = payloads }) (PutEvent share m words ∷ h)
put_words_stand b history kept payloads share m words h longer next st = record {
  scheduler = events_aside_keep_scheduler b.scheduler h (PutEvent share m words) tt tt tt st.scheduler;
  sealed = sealed_aside (PutEvent share m words) h tt st.sealed;
  clash = st.clash;
  payloads = next;
  history = stored_with b.history history (PutEvent share m words) h refl longer st.history;
}

pub given_words_stand : (b : BoardView) (history : List Event) (kept : List ℕ) (share m : ℕ) (words : List ℕ) (h : List Event) → history ≡ b.history ++ GotEvent share m words ∷ [] →
    Stands b h → Stands (record b { history = history; kept = kept }) (GotEvent share m words ∷ h)
given_words_stand b history kept share m words h longer st = record {
  scheduler = events_aside_keep_scheduler b.scheduler h (GotEvent share m words) tt tt tt st.scheduler;
  sealed = sealed_aside (GotEvent share m words) h tt st.sealed;
  clash = st.clash;
  payloads = payloads_stay b.payloads (GotEvent share m words) h tt st.payloads;
  history = stored_with b.history history (GotEvent share m words) h refl longer st.history;
}

-- There is room

module _ (space m : ℕ) (b : BoardView) (is : IsBoard space b) (low : m < members_of b) (spare : HasSpare (words_ask (kept_by m b)) b) where
  pub words_fit : length b.history < space
  words_fit =
      let few = kept_within b.kept m low in
      let enough = words_enough (kept_by m b) in
      let within = is.space in
      omega (arith, few, enough, spare, within)

  -- and it is a board afterwards, if nothing more is owed
  pub words_board : (new_space : ℕ) (after : BoardView) (event : Event) → owed (members_of b) (event ∷ reverse b.history) ≡ owed (members_of b) (reverse b.history) → after.history ≡ b.history ++ event ∷ [] → Stands after (event ∷ reverse b.history) →
      after.kept ≡ slice_set b.kept m (words_keep (kept_by m b)) → after.scheduler ≡ b.scheduler → after.limits ≡ b.limits → after.room ≡ b.room → new_space ≡ space → IsBoard new_space after
  words_board new_space after event owes longer st kept same limits room memory =
      let all = sum_with b.kept m (words_keep (kept_by m b)) low in
      let enough = words_enough (kept_by m b) in
      let now : sum after.kept ≡ sum (slice_set b.kept m (words_keep (kept_by m b))) = ap sum kept in
      let size : members_of after ≡ members_of b = ap {A = List ℕ} length kept ∙ length-set b.kept m (words_keep (kept_by m b)) in
      let within = is.space in
      board_with space (words_ask (kept_by m b)) new_space b after event is longer st
      (subst (λ (s : SchedulerView). SchedulerHas (members_of after) s) (sym same) (subst (λ (n : ℕ). SchedulerHas n b.scheduler) (sym size) is.members)) size limits room
      (omega (arith, owes, all, enough, now)) spare (omega (arith, within, memory))

-- What the operation does

pub words_performed : (op : Op) (m more : ℕ) (old made noted : BoardView) → keeps_room op Finished ≡ true → IsOpAdmitted op m old → ((h : List Event) → OpReply (members_of old) m op (begun m op h) Finished) → more ≡ op_asks op (kept_by m old) → made ≡ record old { room = old.room + more } →
    ((h : List Event) → Stands made h → Stands noted (op_gives m op (begun m op h) Finished ++ begun m op h)) → noted.limits ≡ made.limits → noted.room ≡ made.room → noted.kept ≡ slice_set made.kept m (op_keeps op (kept_by m made)) →
    Performs op m old noted Finished
words_performed op m more old made noted keeps admitted finishes asks room_made notes limits room kept =
    op_performed op m old noted Finished tt keeps admitted (λ h st. finishes h)
    (λ h st. notes h (subst (λ (v : BoardView). Stands v h) (sym room_made) (roomy_stands old (old.room + more) h st)))
    (limits ∙ ap (λ (v : BoardView). v.limits) room_made)
    (room ∙ ap (λ (v : BoardView). v.room) room_made ∙ ap (λ (n : ℕ). old.room + n) asks)
    (kept ∙ ap (λ (v : BoardView). slice_set v.kept m (op_keeps op (kept_by m v))) room_made)
    (λ wait goes. absurd (cc))
