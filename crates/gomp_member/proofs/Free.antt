-- A member that nothing of its own refuses a call on the work-shares: what it knows, and what moves nothing of it.
use Rattle.std.proofs.Common.{ℕ, ◌≡◌, Bool, true, false, List, Option, Some, None, refl, ◌∙◌, ap}
use Rattle.std.specs.Prelude.{◌||◌, ◌&&◌, not, is_some}
use Rattle.gomp_types.specs.declared.call.Call.{Call}
use Rattle.gomp_types.specs.declared.call.Call.TheVariants.{RegionEnd, Resume, Stop}
use Rattle.gomp_types.specs.declared.reply.Reply.{Reply}
use Rattle.gomp_types.specs.declared.reply.Reply.TheVariants.{Chunk, Executor, Finished, NoChunk, Section}
use Rattle.gomp_types.specs.Least.{least}
use Rattle.gomp_types.specs.Resumes.{is_resume}
use Rattle.gomp_events.specs.Cancels.{is_leaving}
use Rattle.gomp_model.specs.Past.{Past, Waits}
use Rattle.gomp_model.specs.Row.{leaving_tests}
use Rattle.gomp_model.specs.Calls.{row_of}
use Rattle.gomp_dispatch.specs.declared.leaving.Leaving.{Leaving}
use Rattle.gomp_dispatch.specs.Leaves.{leaving_after}
use Rattle.gomp_member.specs.Own.{OwnView, executes_implicit, is_free, is_next_reply, names_after, own_after, own_meant, passes_end}
use Rattle.gomp_member.specs.Refused.{own_refusal, task_refusal}
use Rattle.gomp_member.specs.Tests.{KnowsPast, own_tests}
use Rattle.gomp_member.proofs.OwnTests.{leaving_answers, stop_answers}

-- what these are if all of it holds, or none
all_hold : (ended waits task leaves : Bool) → (not ended && (not waits && (task && not leaves))) ≡ true → (ended ≡ false) × (waits ≡ false) × (task ≡ true) × (leaves ≡ false)
all_hold false false true false holds = (refl, refl, refl, refl)
all_hold true waits task leaves holds = absurd (cc)
all_hold false true task leaves holds = absurd (cc)
all_hold false false false leaves holds = absurd (cc)
all_hold false false true true holds = absurd (cc)

neither_holds : (region share task : Bool) → (region || (share || task)) ≡ false → (region ≡ false) × (share ≡ false) × (task ≡ false)
neither_holds false false false holds = (refl, refl, refl)
neither_holds true share task holds = absurd (cc)
neither_holds false true task holds = absurd (cc)
neither_holds false false true holds = absurd (cc)

no_call : (call : Option Call) → is_some call ≡ false → call ≡ None
no_call None none = refl
no_call (Some call) none = absurd (cc)

-- what a free member knows
record IsFree (own : OwnView) : Type 0 where
  inside : own.ended ≡ false
  waits : is_some own.waits.open_call ≡ false
  leaves_region : own.leaving.region ≡ false
  leaves_share : own.leaves_share ≡ false
  leaves_task : own.leaving.task ≡ false

known_of_free : (own : OwnView) → is_free own ≡ true → IsFree own
known_of_free own free =
    let all = all_hold own.ended (is_some own.waits.open_call) (executes_implicit own) (own.leaving.region || (own.leaves_share || own.leaving.task)) free in
    let none = neither_holds own.leaving.region own.leaves_share own.leaving.task all.3 in
    record { inside = all.0; waits = all.1; leaves_region = none.0; leaves_share = none.1; leaves_task = none.2 }

-- The tests of what it knows

leaves_nothing_then : (own : OwnView) (p : Past) → IsFree own → KnowsPast own p → is_leaving own.number p.events ≡ false
leaves_nothing_then own p free knows = rw (knows.leaving.region, knows.share, knows.leaving.task, free.leaves_region, free.leaves_share, free.leaves_task) refl

no_leaving_test : (call : Call) (own : OwnView) (p : Past) → is_leaving own.number p.events ≡ false → least (leaving_tests false (row_of call) own.number p) ≡ None
no_leaving_test call own p none = rw none refl

-- none of them refuses a call that is no resume
pub free_is_never_refused : (own : OwnView) (call : Call) (p : Past) → is_free own ≡ true → is_resume call ≡ false → KnowsPast own p → least (own_tests own call p) ≡ None
free_is_never_refused own Resume p free made knows = absurd (cc)
free_is_never_refused own Stop p free made knows = stop_answers own p (knows.ended ∙ (known_of_free own free).inside)
free_is_never_refused own call p free made knows =
    let known = known_of_free own free in
    leaving_answers call (λ is. absurd (let first = ap is_resume is in cc)) (λ is. absurd (cc)) own p (knows.ended ∙ known.inside) (ap (λ (waits : Waits). is_some waits.open_call) knows.waits ∙ known.waits)
    ∙ no_leaving_test call own p (leaves_nothing_then own p known knows)

-- nor is it by itself, whatever its place says,
pub free_refuses_itself_nothing : (placed : Bool) (own : OwnView) (call : Call) → is_free own ≡ true → is_resume call ≡ false → own_refusal placed own call ≡ None
free_refuses_itself_nothing placed own Resume free made = absurd (cc)
free_refuses_itself_nothing placed own Stop free made = rw ((known_of_free own free).inside) refl
free_refuses_itself_nothing placed own call free made =
    let known = known_of_free own free in
    rw (known.inside, known.waits, known.leaves_region, known.leaves_share, known.leaves_task) refl

-- it leaves no share,
pub free_leaves_no_share : (own : OwnView) → is_free own ≡ true → own.leaves_share ≡ false
free_leaves_no_share own free = (known_of_free own free).leaves_share

-- and it executes its implicit task
pub free_is_in_no_task : (own : OwnView) → is_free own ≡ true → task_refusal own ≡ None
free_is_in_no_task own free = rw ((all_hold own.ended (is_some own.waits.open_call) (executes_implicit own) (own.leaving.region || (own.leaves_share || own.leaving.task)) free).2) refl

-- What the next piece moves: nothing

no_piece_ends : (call : Call) (reply : Reply) → is_next_reply reply ≡ true → passes_end call reply ≡ false
no_piece_ends RegionEnd (Chunk first count) next = refl
no_piece_ends RegionEnd NoChunk next = refl
no_piece_ends RegionEnd (Section number) next = refl
no_piece_ends RegionEnd reply next = absurd (cc)
no_piece_ends call reply next = refl

as_it_was : (own : OwnView) (ended : Bool) (waits : Waits) (tasks : List ℕ) (leaving : Leaving) (share : Bool) (names : ℕ) → ended ≡ own.ended → waits ≡ own.waits → tasks ≡ own.tasks → leaving ≡ own.leaving → share ≡ own.leaves_share → names ≡ own.names
    → own ≡ record own { ended = ended; waits = waits; tasks = tasks; leaving = leaving; leaves_share = share; names = names }
as_it_was own ended waits tasks leaving share names e w t l s n = rw (e, w, t, l, s, n) refl

no_wait_closed : (waits : Waits) → is_some waits.open_call ≡ false → record waits { open_call = None } ≡ waits
no_wait_closed waits none = rw (no_call waits.open_call none) refl

-- of a free member nothing is changed by it, whatever was called
pub next_moves_nothing : (reply : Reply) (call : Call) (own : OwnView) → is_next_reply reply ≡ true → is_free own ≡ true → own ≡ own_after reply call own
next_moves_nothing (Chunk first count) call own next free =
    let known = known_of_free own free in
    as_it_was own _ _ _ _ _ _ (rw known.inside (no_piece_ends (own_meant own call) (Chunk first count) next)) (no_wait_closed own.waits known.waits) refl refl (rw known.leaves_share refl) refl
next_moves_nothing NoChunk call own next free =
    let known = known_of_free own free in
    as_it_was own _ _ _ _ _ _ (rw known.inside (no_piece_ends (own_meant own call) NoChunk next)) (no_wait_closed own.waits known.waits) refl refl (rw known.leaves_share refl) refl
next_moves_nothing (Section number) call own next free =
    let known = known_of_free own free in
    as_it_was own _ _ _ _ _ _ (rw known.inside (no_piece_ends (own_meant own call) (Section number) next)) (no_wait_closed own.waits known.waits) refl refl (rw known.leaves_share refl) refl
next_moves_nothing reply call own next free = absurd (cc)

-- Whether the member executes a single moves nothing either

no_single_ends : (call : Call) (executes : Bool) → passes_end call (Executor executes) ≡ false
no_single_ends RegionEnd executes = refl
no_single_ends call executes = refl

pub executor_moves_nothing : (call : Call) (executes : Bool) (own : OwnView) → is_free own ≡ true → own ≡ own_after (Executor executes) call own
executor_moves_nothing call executes own free =
    let known = known_of_free own free in
    as_it_was own _ _ _ _ _ _ (rw known.inside (no_single_ends (own_meant own call) executes)) (no_wait_closed own.waits known.waits) refl refl (rw known.leaves_share refl) refl

-- Nor does a call that is done at once, if it is not on names, ends no region and leaves nothing
pub done_moves_nothing : (call : Call) (own : OwnView) → is_free own ≡ true
    → passes_end (own_meant own call) Finished ≡ false → leaving_after Finished (own_meant own call) own.leaving ≡ own.leaving → names_after Finished (own_meant own call) own.names ≡ own.names
    → own ≡ own_after Finished call own
done_moves_nothing call own free inside leaves names =
    let known = known_of_free own free in
    as_it_was own _ _ _ _ _ _ (rw known.inside inside) (no_wait_closed own.waits known.waits) refl leaves (rw known.leaves_share refl) names
