-- The next chunk of a loop as two numbers. (own; OpenMP API 5.2, section 11.5)
use Rattle.std.specs.Prelude.{ℕ, ℤ, pos, ◌≡◌, ◌&&◌, not, nat_lt, if◌then◌else◌, Bool}
use Rattle.gomp_types.specs.declared.reply.Reply.{Reply}
use Rattle.gomp_types.specs.declared.reply.Reply.TheVariants.{Chunk, NoChunk}
use Rattle.gomp_types.specs.Shapes.{is_loop}
use Rattle.gomp_events.specs.declared.seen.Seen.{Seen}
use Rattle.gomp_events.specs.Events.{in_kind}
use Rattle.gomp_events.specs.Ordered.{is_ordered}
use Rattle.gomp_ring.specs.RingSeats.{may_claim}

-- whether a member that sees this may claim its next chunk with no other test: it is in a loop that is not ordered, and may claim
abbrev pub claims_alone : Seen → Bool
claims_alone seen = in_kind is_loop seen.current && not (is_ordered seen.current) && may_claim seen

-- of a chunk of no iterations the value is 0
abbrev pub NoneIsZero : ℤ → ℕ → Type 0
NoneIsZero first count = count ≡ 0 → first ≡ pos 0

-- the reply that says the same as two numbers: so many iterations from this value on, or that none is left
abbrev pub reply_of_chunk : ℤ → ℕ → Reply
reply_of_chunk first count = if nat_lt 0 count then Chunk first count else NoChunk
