-- The numbers of each reply, computed from the table of the README. (own)
use Rattle.std.proofs.Common.{◌≡◌, ℕ, true, false, List, [], ◌∷◌, Some, refl}
use Rattle.std.specs.Prelude.{pos, negsuc, map}
use Rattle.gomp_types.specs.declared.reply.Reply.{Reply}
use Rattle.gomp_types.specs.declared.reply.Reply.TheVariants.{Chunk, NoChunk, Section, Executor, Copied, Finished, Passed, Cancelled, Wait, Created, Dropped, Cancelling, Run, TaskDone, Lock, Got, Count, Stopped, Refused}
use Rattle.gomp_types.specs.declared.refusal.Refusal.TheVariants.{Broken, BadMember, Mismatch, BadTeam}
use Rattle.gomp_types.specs.declared.refusal.Place.{Place}
use Rattle.gomp_types.specs.declared.refusal.Place.TheVariants as places
use Rattle.gomp_words.specs.declared.numbers.Numbers.{Numbers}
use Rattle.gomp_words.specs.Replies.{numbers_of, reply_of}

-- the numbers of a kind with these eight words, of which so many count
abbrev numbers : ℕ → ℕ → List ℕ → Numbers
numbers kind count words = record { kind = kind; count = count; words = words }

-- replies have these numbers, and are what these are
abbrev AreTold : List Reply → List Numbers → Type 0
AreTold replies told = (map numbers_of replies ≡ told) × (map reply_of told ≡ map Some replies)

abbrev zeros : List ℕ
zeros = 0 ∷ 0 ∷ 0 ∷ 0 ∷ 0 ∷ 0 ∷ 0 ∷ 0 ∷ []

pub bare_replies_are_told : AreTold
    (NoChunk ∷ Finished ∷ Passed ∷ Cancelled ∷ Wait ∷ Dropped ∷ Stopped ∷ [])
    (numbers 11 0 zeros ∷ numbers 15 0 zeros ∷ numbers 16 0 zeros ∷ numbers 17 0 zeros ∷ numbers 18 0 zeros ∷ numbers 20 0 zeros ∷ numbers 27 0 zeros ∷ [])
bare_replies_are_told = (refl, refl)

pub counts_are_told : AreTold
    (Chunk (pos 3) 4 ∷ Chunk (negsuc 0) 549755813888 ∷ Section 0 ∷ Section 65536 ∷ Created 7 ∷ Lock 4294967294 ∷ Count 65535 ∷ [])
    (numbers 10 2 (3 ∷ 4 ∷ 0 ∷ 0 ∷ 0 ∷ 0 ∷ 0 ∷ 0 ∷ []) ∷ numbers 10 2 (18446744073709551615 ∷ 549755813888 ∷ 0 ∷ 0 ∷ 0 ∷ 0 ∷ 0 ∷ 0 ∷ [])
    ∷ numbers 12 1 zeros ∷ numbers 12 1 (65536 ∷ 0 ∷ 0 ∷ 0 ∷ 0 ∷ 0 ∷ 0 ∷ 0 ∷ []) ∷ numbers 19 1 (7 ∷ 0 ∷ 0 ∷ 0 ∷ 0 ∷ 0 ∷ 0 ∷ 0 ∷ [])
    ∷ numbers 24 1 (4294967294 ∷ 0 ∷ 0 ∷ 0 ∷ 0 ∷ 0 ∷ 0 ∷ 0 ∷ []) ∷ numbers 26 1 (65535 ∷ 0 ∷ 0 ∷ 0 ∷ 0 ∷ 0 ∷ 0 ∷ 0 ∷ []) ∷ [])
counts_are_told = (refl, refl)

pub flags_are_told : AreTold
    (Executor false ∷ Executor true ∷ Cancelling false ∷ Cancelling true ∷ Got false ∷ Got true ∷ [])
    (numbers 13 1 zeros ∷ numbers 13 1 (1 ∷ 0 ∷ 0 ∷ 0 ∷ 0 ∷ 0 ∷ 0 ∷ 0 ∷ []) ∷ numbers 21 1 zeros ∷ numbers 21 1 (1 ∷ 0 ∷ 0 ∷ 0 ∷ 0 ∷ 0 ∷ 0 ∷ 0 ∷ [])
    ∷ numbers 25 1 zeros ∷ numbers 25 1 (1 ∷ 0 ∷ 0 ∷ 0 ∷ 0 ∷ 0 ∷ 0 ∷ 0 ∷ []) ∷ [])
flags_are_told = (refl, refl)

-- a payload of zeros is told from a shorter one by the count
pub payloads_are_told : AreTold
    (Copied [] ∷ Copied (0 ∷ []) ∷ Copied (0 ∷ 0 ∷ []) ∷ Copied (1 ∷ 2 ∷ 3 ∷ 4 ∷ 5 ∷ 6 ∷ 7 ∷ 18446744073709551615 ∷ []) ∷ [])
    (numbers 14 0 zeros ∷ numbers 14 1 zeros ∷ numbers 14 2 zeros ∷ numbers 14 8 (1 ∷ 2 ∷ 3 ∷ 4 ∷ 5 ∷ 6 ∷ 7 ∷ 18446744073709551615 ∷ []) ∷ [])
payloads_are_told = (refl, refl)

pub tasks_are_told : AreTold
    (Run 5 60 70 false ∷ Run 5 60 70 true ∷ TaskDone 5 false ∷ TaskDone 5 true ∷ [])
    (numbers 22 4 (5 ∷ 60 ∷ 70 ∷ 0 ∷ 0 ∷ 0 ∷ 0 ∷ 0 ∷ []) ∷ numbers 22 4 (5 ∷ 60 ∷ 70 ∷ 1 ∷ 0 ∷ 0 ∷ 0 ∷ 0 ∷ [])
    ∷ numbers 23 2 (5 ∷ 0 ∷ 0 ∷ 0 ∷ 0 ∷ 0 ∷ 0 ∷ 0 ∷ []) ∷ numbers 23 2 (5 ∷ 1 ∷ 0 ∷ 0 ∷ 0 ∷ 0 ∷ 0 ∷ 0 ∷ []) ∷ [])
tasks_are_told = (refl, refl)

-- refusals, of a broken team with its member and place
abbrev broken : Place → Reply
broken place = Refused (Broken (record { member = 63; place = place }))

pub refusals_are_told : AreTold
    (Refused BadMember ∷ Refused Mismatch ∷ Refused BadTeam ∷ broken (places.Share 9) ∷ broken (places.Barrier 9) ∷ broken places.Stopped ∷ [])
    (numbers 28 1 (1 ∷ 0 ∷ 0 ∷ 0 ∷ 0 ∷ 0 ∷ 0 ∷ 0 ∷ []) ∷ numbers 28 1 (35 ∷ 0 ∷ 0 ∷ 0 ∷ 0 ∷ 0 ∷ 0 ∷ 0 ∷ []) ∷ numbers 28 1 (38 ∷ 0 ∷ 0 ∷ 0 ∷ 0 ∷ 0 ∷ 0 ∷ 0 ∷ [])
    ∷ numbers 28 4 (3 ∷ 63 ∷ 0 ∷ 9 ∷ 0 ∷ 0 ∷ 0 ∷ 0 ∷ []) ∷ numbers 28 4 (3 ∷ 63 ∷ 1 ∷ 9 ∷ 0 ∷ 0 ∷ 0 ∷ 0 ∷ []) ∷ numbers 28 3 (3 ∷ 63 ∷ 2 ∷ 0 ∷ 0 ∷ 0 ∷ 0 ∷ 0 ∷ []) ∷ [])
refusals_are_told = (refl, refl)
