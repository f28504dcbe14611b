-- What an arrival does to a board, in its three steps: room is made, the arrival is noted, and the member passes, executes a task or waits.
use Rattle.std.proofs.Common.{◌≡◌, ℕ, ◌+◌, Bool, true, false, List, ◌∷◌, ◌++◌, refl, arith, length, length-set, ap, ◌∙◌, sym, subst}
use Rattle.std.specs.Prelude.{reverse, slice_set, ◌&&◌, ◌||◌, not}
use Rattle.gomp_types.specs.declared.reply.Reply.TheVariants.{Cancelled}
use Rattle.gomp_events.specs.declared.event.Event.TheVariants.{Arrive as ArriveEvent}
use Rattle.gomp_events.specs.Events.{barriers_passed, is_region_end, at_region_end}
use Rattle.gomp_events.specs.Cancels.{is_cancelled}
use Rattle.gomp_events.specs.CancelCalls.{OrIsCancelled}
use Rattle.gomp_types.proofs.Booleans.{and_left, same_number}
use Rattle.gomp_types.specs.declared.reply.Reply.{Reply}
use Rattle.gomp_events.specs.declared.event.Tag.{Tag}
use Rattle.gomp_events.specs.declared.event.Event.{Event}
use Rattle.gomp_events.specs.Goals.{may_pass}
use Rattle.gomp_events.specs.TaskCalls.{AwaitsTasks}
use Rattle.gomp_board.specs.declared.op.Op.TheVariants.{Arrive, AwaitBarrier}
use Rattle.gomp_board.specs.Ops.{arrival_asks, arrival_keeps, goes_to_the_end, begun, passes_barrier, AwaitsPass}
use Rattle.gomp_board.specs.Boards.{BoardView, Stands, IsOpAdmitted, Performs, members_of, kept_by}
use Rattle.gomp_board.proofs.Waiting.{IsReply}
use Rattle.gomp_board.proofs.Joined.{roomy_stands, keeping_stands}
use Rattle.gomp_board.proofs.AdmittedArrivals.{awaits_is_reply}
use Rattle.gomp_board.proofs.Performed.{op_performed, nothing_changed}

-- an arrival that is one is not cut short
arrived_not_cut : (barrier m : ℕ) (tag : Tag) (h : List Event) → (is_cancelled h && not (is_region_end tag.kind)) ≡ false → goes_to_the_end m (ArriveEvent barrier m tag ∷ h) ≡ false
arrived_not_cut barrier m tag h somewhere = rw (same_number m) (by (is_cancelled h) (is_region_end tag.kind) (at_region_end m h) somewhere)
  where
    by : (a b c : Bool) → (a && not b) ≡ false → (a && not (b || c)) ≡ false
    by true true c e = refl
    by true false c e = absurd (cc)
    by false b c e = refl

pub arrival_performed : (tag : Tag) (leaving : Bool) (m more : ℕ) (old made noted after : BoardView) (reply : Reply) → IsOpAdmitted (Arrive tag leaving) m old → more ≡ arrival_asks tag.kind (kept_by m old) → made ≡ record old { room = old.room + more } →
    ((h : List Event) → Stands old h → (is_cancelled h && not (is_region_end tag.kind)) ≡ false) →
    ((h : List Event) → Stands made h → Stands noted (ArriveEvent (barriers_passed m h) m tag ∷ h)) → noted.limits ≡ made.limits → noted.room ≡ made.room → noted.kept ≡ slice_set made.kept m (arrival_keeps tag.kind (kept_by m made)) →
    Stands noted (reverse noted.history) → ((h : List Event) → Stands noted h → AwaitsTasks m (may_pass (members_of noted) m h) h reply) → ((h : List Event) → Stands noted h → Stands after (passes_barrier m h reply ++ h)) →
    after.limits ≡ noted.limits → after.room ≡ noted.room → after.kept ≡ noted.kept → Performs (Arrive tag leaving) m old after reply
arrival_performed tag leaving m more old made noted after reply admitted asks room_made somewhere notes limits_noted room_noted kept_noted own answer passes limits room kept =
    let kept_is : noted.kept ≡ slice_set old.kept m (arrival_keeps tag.kind (kept_by m old)) = kept_noted ∙ ap (λ (v : BoardView). slice_set v.kept m (arrival_keeps tag.kind (kept_by m v))) room_made in
    let size : members_of noted ≡ members_of old = ap length kept_is ∙ length-set old.kept m (arrival_keeps tag.kind (kept_by m old)) in
    let arrived : (h : List Event) → Stands old h → Stands noted (ArriveEvent (barriers_passed m h) m tag ∷ h) = λ h st. notes h (subst (λ (v : BoardView). Stands v h) (sym room_made) (roomy_stands old (old.room + more) h st)) in
    let begins : (h : List Event) → Stands old h → begun m (Arrive tag leaving) h ≡ ArriveEvent (barriers_passed m h) m tag ∷ h = λ h st. let here = somewhere h st in rw here refl in
    let reply_is : IsReply reply = awaits_is_reply m (may_pass (members_of noted) m (reverse noted.history)) (reverse noted.history) reply (answer (reverse noted.history) own) in
    op_performed (Arrive tag leaving) m old after reply reply_is refl admitted
    (λ h st.
    let g = ArriveEvent (barriers_passed m h) m tag ∷ h in
    let awaits = subst (λ (n : ℕ). AwaitsTasks m (may_pass n m g) g reply) size (answer g (arrived h st)) in
    let uncut = arrived_not_cut (barriers_passed m h) m tag h (somewhere h st) in
    let answers : AwaitsPass (members_of old) m g reply = subst (λ (b : Bool). OrIsCancelled b (AwaitsTasks m (may_pass (members_of old) m g) g) reply) (sym uncut) awaits in
    subst (λ (e : List Event). AwaitsPass (members_of old) m e reply) (sym (begins h st)) answers)
    (λ h st. subst (λ (e : List Event). Stands after (passes_barrier m e reply ++ e)) (sym (begins h st)) (passes (ArriveEvent (barriers_passed m h) m tag ∷ h) (arrived h st))) (limits ∙ limits_noted ∙ ap (λ (v : BoardView). v.limits) room_made)
    (room ∙ room_noted ∙ ap (λ (v : BoardView). v.room) room_made ∙ ap (λ (n : ℕ). old.room + n) asks) (kept ∙ kept_is) (λ wait goes. absurd (cc))

-- one that is none, in a cancelled region
pub arrival_cancelled : (tag : Tag) (leaving : Bool) (m more : ℕ) (old made after : BoardView) → IsOpAdmitted (Arrive tag leaving) m old → more ≡ arrival_asks tag.kind (kept_by m old) → made ≡ record old { room = old.room + more } →
    after ≡ record made { kept = slice_set made.kept m (arrival_keeps tag.kind (kept_by m made)) } → ((h : List Event) → Stands old h → (is_cancelled h && not (is_region_end tag.kind)) ≡ true) → ((h : List Event) → Stands old h → at_region_end m h ≡ false) →
    Performs (Arrive tag leaving) m old after Cancelled
arrival_cancelled tag leaving m more old made after admitted asks room_made used nowhere before =
    let k = arrival_keeps tag.kind (kept_by m old) in
    let all : after ≡ record old { room = old.room + more; kept = slice_set old.kept m k } = used ∙ ap (λ (v : BoardView). record v { kept = slice_set v.kept m (arrival_keeps tag.kind (kept_by m v)) }) room_made in
    let begins : (h : List Event) → Stands old h → begun m (Arrive tag leaving) h ≡ h = λ h st. let here = nowhere h st in rw here refl in
    op_performed (Arrive tag leaving) m old after Cancelled tt refl admitted
    (λ h st.
    let cut : goes_to_the_end m h ≡ true = let cancelled = and_left (is_cancelled h) (not (is_region_end tag.kind)) (nowhere h st) in rw (cancelled, before h st) refl in
    let answers : AwaitsPass (members_of old) m h Cancelled = subst (λ (b : Bool). OrIsCancelled b (AwaitsTasks m (may_pass (members_of old) m h) h) Cancelled) (sym cut) refl in
    subst (λ (e : List Event). AwaitsPass (members_of old) m e Cancelled) (sym (begins h st)) answers)
    (λ h st. subst (λ (e : List Event). Stands after e) (sym (begins h st)) (subst (λ (v : BoardView). Stands v h) (sym all) (keeping_stands old (old.room + more) (slice_set old.kept m k) h st)))
    (ap (λ (v : BoardView). v.limits) all) (ap (λ (v : BoardView). v.room) all ∙ ap (λ (n : ℕ). old.room + n) asks) (ap (λ (v : BoardView). v.kept) all) (λ wait goes. absurd (cc))

-- and a wait that a cancelled region cuts short
pub wait_cancelled : (m : ℕ) (board : BoardView) → IsOpAdmitted AwaitBarrier m board → ((h : List Event) → Stands board h → goes_to_the_end m h ≡ true) → Performs AwaitBarrier m board board Cancelled
wait_cancelled m board admitted cut =
    nothing_changed AwaitBarrier m board Cancelled tt admitted
    (λ h st. subst (λ (b : Bool). OrIsCancelled b (AwaitsTasks m (may_pass (members_of board) m h) h) Cancelled) (sym (cut h st)) refl)
    (λ h st. refl) (λ h st. refl) (omega arith) refl

pub wait_uncut : (members m : ℕ) (h : List Event) (reply : Reply) → goes_to_the_end m h ≡ false → AwaitsTasks m (may_pass members m h) h reply → AwaitsPass members m h reply
wait_uncut members m h reply uncut awaits = subst (λ (b : Bool). OrIsCancelled b (AwaitsTasks m (may_pass members m h) h) reply) (sym uncut) awaits
