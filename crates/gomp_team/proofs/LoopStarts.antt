-- A construct that a member starts by its seat: what it is given, and that it waits for no words there.
use Rattle.std.proofs.Common.{◌≡◌, ℕ, ℤ, Bool, true, false, None, pos, refl, sym, subst}
use Rattle.std.specs.Prelude.{nat_lt, if◌then◌else◌}
use Rattle.std.specs.Ordering.{int_eq}
use Rattle.gomp_types.specs.declared.loop_desc.EndKind.{EndKind}
use Rattle.gomp_types.specs.declared.loop_desc.LoopDesc.{LoopDesc}
use Rattle.gomp_types.specs.declared.loop_desc.Sched.{Sched}
use Rattle.gomp_types.specs.declared.loop_desc.Sched.TheVariants.{Static}
use Rattle.gomp_types.specs.declared.reply.Reply.TheVariants.{Chunk, NoChunk}
use Rattle.gomp_types.specs.declared.shape.ShareKind.TheVariants.{StaticChunked, StaticEven}
use Rattle.gomp_types.specs.Pieces.{resolved_loop, shape_of, share_kind_of}
use Rattle.gomp_types.specs.declared.loop_desc.EndKind.TheVariants.{Nowait}
use Rattle.gomp_team_shares.specs.declared.start.ShareStart.TheVariants.{Loop}
use Rattle.gomp_team_calls.specs.Starts.{start_room}
use Rattle.gomp_types.specs.Sections.{sections_shape}
use Rattle.gomp_types.specs.Shapes.{is_copy}
use Rattle.gomp_events.specs.declared.seen.Seen.{Seen}
use Rattle.gomp_shares.specs.Calls.{IsIn}
use Rattle.gomp_seat_calls.specs.Chunks.{reply_of_chunk}
use Rattle.gomp_seat_calls.specs.Starts.{awaits_payload}
use Rattle.gomp_team.specs.Seats.{is_given}

given_or_none : (first : ℤ) (count : ℕ) (some : Bool) → is_given (if some then Chunk first count else NoChunk) ≡ true
given_or_none first count true = refl
given_or_none first count false = refl

-- it is given a chunk, or that there is none
pub chunk_is_given : (first : ℤ) (count : ℕ) → is_given (reply_of_chunk first count) ≡ true
chunk_is_given first count = given_or_none first count (nat_lt 0 count)

static_is_no_copy : (even : Bool) → is_copy (if even then StaticEven else StaticChunked) ≡ false
static_is_no_copy true = refl
static_is_no_copy false = refl

started_loop_is_no_copy : (sched : Sched) (chunk : ℤ) → is_copy (share_kind_of sched chunk) ≡ false
started_loop_is_no_copy Static chunk = static_is_no_copy (int_eq chunk (pos 0))
started_loop_is_no_copy sched chunk = refl

-- the board keeps no room for a loop without a barrier at its end, whichever schedule counts
keeps_its_end : (runtime : Bool) (sched : Sched) (chunk : ℤ) (desc : LoopDesc) → desc.end_kind ≡ Nowait → start_room (Loop (if runtime then record desc { sched = sched; chunk = chunk } else desc)) ≡ 0
keeps_its_end true sched chunk desc nowait = rw nowait refl
keeps_its_end false sched chunk desc nowait = rw nowait refl

pub loop_has_no_room : (sched : Sched) (chunk : ℤ) (desc counts : LoopDesc) → counts ≡ resolved_loop sched chunk desc → desc.end_kind ≡ Nowait → start_room (Loop counts) ≡ 0
loop_has_no_room sched chunk desc counts is nowait = subst (λ (loop : LoopDesc). start_room (Loop loop) ≡ 0) (sym is) (keeps_its_end _ sched chunk desc nowait)

-- and in a loop no member waits for the words of a single
pub loop_awaits_no_words : (desc : LoopDesc) (seen : Seen) → IsIn (shape_of desc) seen → awaits_payload seen ≡ false
loop_awaits_no_words desc seen inside = rw (inside.1, started_loop_is_no_copy desc.sched desc.chunk) refl

-- nor in sections, or outside of every share
pub sections_await_no_words : (count : ℕ) (end_kind : EndKind) (seen : Seen) → IsIn (sections_shape count end_kind) seen → awaits_payload seen ≡ false
sections_await_no_words count end_kind seen inside = rw inside.1 refl

pub outside_awaits_no_words : (seen : Seen) → seen.current ≡ None → awaits_payload seen ≡ false
outside_awaits_no_words seen outside = rw outside refl
