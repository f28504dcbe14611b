-- Each reply is read back from its numbers.
use Rattle.std.proofs.Common.{ℕ, ◌≡◌, ◌≤◌, Bool, false, List, length, take, drop, replicate, Some, refl, sym, ◌∙◌, arith, ap, lit≤, w64}
use Rattle.std.proofs.Math.Seq.{take-append_seam}
use Rattle.std.proofs.lemmas.Int.{to_z-of_z}
use Rattle.std.specs.Int.{from_bool}
use Rattle.std.specs.Option.{option_map}
use Rattle.gomp_types.specs.declared.reply.Reply.{Reply}
use Rattle.gomp_types.specs.declared.reply.Reply.TheVariants.{Chunk, NoChunk, Section, Executor, Copied, Finished, Passed, Cancelled, Wait, Created, Dropped, Cancelling, Run, TaskDone, Lock, Got, Count, Stopped, Refused}
use Rattle.gomp_types.specs.declared.refusal.Refusal.{Refusal}
use Rattle.gomp_types.specs.declared.refusal.Refusal.TheVariants.{Broken, BadEnv, BadMember, Ended, Waiting, Leaving, InsideTask, NotInTask, InsideShare, OutsideShare, InOrdered, HoldsCritical, ZeroStep, BadChunk, LoopTooLong, BadSections, OrderedLoop, EndDiffers, NotDrained, Drained, NotOrdered, OrderedBackwards, NotInside, NotCancellable, NoGroup, GroupOpen, TooDeep, TooManyTasks, TooManyDepends, NameTooLong, AlreadyHeld, NotHolder, NoLock, CountTooLarge, TooManyShares, Mismatch, TraceFull, NoMemory, BadTeam, TooManyLevels}
use Rattle.gomp_types.specs.declared.refusal.Clash.{Clash}
use Rattle.gomp_types.specs.declared.refusal.Place.{Place}
use Rattle.gomp_types.specs.declared.refusal.Place.TheVariants as places
use Rattle.gomp_words.specs.Kinds.{flag_of}
use Rattle.gomp_words.specs.Replies.{numbers_of, reply_of, padded, IsTellable, is_ignored_word, refusal_words, refusal_of, place_words, place_of}
use Rattle.gomp_words.proofs.ReadBack.{flag_read_back}
use Rattle.gomp_words.proofs.Readings.{padded_is}

-- the words of a payload, out of eight
unpadded_words : (words : List ℕ) → length words ≤ 8 → take (length words) (padded words) ≡ words
unpadded_words words few = ap (take (length words)) (sym (padded_is words few)) ∙ take-append_seam words (drop (length words) (replicate 8 0))

place_told : (place : Place) → place_of (place_words place) ≡ Some place
place_told (places.Share number) = refl
place_told (places.Barrier number) = refl
place_told places.Stopped = refl

pub broken_told : (clash : Clash) → refusal_of (refusal_words (Broken clash)) ≡ Some (Broken clash)
broken_told clash = ap (λ found. option_map (λ place. Broken (record { member = clash.member; place = place })) found) (place_told clash.place)

few_words : (place : Place) → length (place_words place) ≤ 6
few_words (places.Share number) = lit≤ tt
few_words (places.Barrier number) = lit≤ tt
few_words places.Stopped = lit≤ tt

refusal_told : (refusal : Refusal) → is_ignored_word (Refused refusal) ≡ false → reply_of (numbers_of (Refused refusal)) ≡ Some (Refused refusal)
refusal_told (Broken clash) teams =
    let few : length (refusal_words (Broken clash)) ≤ 8 = omega (arith, few_words clash.place) in
    ap (λ words. option_map Refused (refusal_of words)) (unpadded_words (refusal_words (Broken clash)) few) ∙ ap (λ found. option_map Refused found) (broken_told clash)
refusal_told (BadEnv name) teams = cc
refusal_told BadMember teams = refl
refusal_told Ended teams = refl
refusal_told Waiting teams = refl
refusal_told Leaving teams = refl
refusal_told InsideTask teams = refl
refusal_told NotInTask teams = refl
refusal_told InsideShare teams = refl
refusal_told OutsideShare teams = refl
refusal_told InOrdered teams = refl
refusal_told HoldsCritical teams = refl
refusal_told ZeroStep teams = refl
refusal_told BadChunk teams = refl
refusal_told LoopTooLong teams = refl
refusal_told BadSections teams = refl
refusal_told OrderedLoop teams = refl
refusal_told EndDiffers teams = refl
refusal_told NotDrained teams = refl
refusal_told Drained teams = refl
refusal_told NotOrdered teams = refl
refusal_told OrderedBackwards teams = refl
refusal_told NotInside teams = refl
refusal_told NotCancellable teams = refl
refusal_told NoGroup teams = refl
refusal_told GroupOpen teams = refl
refusal_told TooDeep teams = refl
refusal_told TooManyTasks teams = refl
refusal_told TooManyDepends teams = refl
refusal_told NameTooLong teams = refl
refusal_told AlreadyHeld teams = refl
refusal_told NotHolder teams = refl
refusal_told NoLock teams = refl
refusal_told CountTooLarge teams = refl
refusal_told TooManyShares teams = refl
refusal_told Mismatch teams = refl
refusal_told TraceFull teams = refl
refusal_told NoMemory teams = refl
refusal_told BadTeam teams = refl
refusal_told TooManyLevels teams = refl

-- a reply of a flag
flag_told : (make : Bool → Reply) (flag : Bool) → option_map make (flag_of (from_bool flag)) ≡ Some (make flag)
flag_told make flag = ap (λ found. option_map make found) (flag_read_back flag)

pub reply_told : (reply : Reply) → IsTellable reply → is_ignored_word reply ≡ false → reply_of (numbers_of reply) ≡ Some reply
reply_told (Chunk first count) fits teams = ap (λ value. Some (Chunk value count)) (to_z-of_z w64 first fits)
reply_told (Copied payload) few teams = ap (λ words. Some (Copied words)) (unpadded_words payload few)
reply_told (Executor flag) any teams = flag_told Executor flag
reply_told (Cancelling flag) any teams = flag_told Cancelling flag
reply_told (Got flag) any teams = flag_told Got flag
reply_told (Run task code arg own) any teams = flag_told (λ own. Run task code arg own) own
reply_told (TaskDone task waiting) any teams = flag_told (λ waiting. TaskDone task waiting) waiting
reply_told (Refused refusal) any teams = refusal_told refusal teams
reply_told (Section number) any teams = refl
reply_told (Created task) any teams = refl
reply_told (Lock number) any teams = refl
reply_told (Count count) any teams = refl
reply_told NoChunk any teams = refl
reply_told Finished any teams = refl
reply_told Passed any teams = refl
reply_told Cancelled any teams = refl
reply_told Wait any teams = refl
reply_told Dropped any teams = refl
reply_told Stopped any teams = refl
