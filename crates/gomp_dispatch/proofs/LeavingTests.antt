-- Why a member that leaves something cancelled does not make a call.
use Rattle.std.proofs.Common.{◌≡◌, ℕ, Bool, true, false, List, [], ◌∷◌, Option, Some, None, refl}
use Rattle.std.specs.Prelude.{◌&&◌, ◌||◌, not, is_none, is_some}
use Rattle.gomp_events.specs.declared.event.Event.{Event}
use Rattle.gomp_types.specs.declared.refusal.Refusal.{Refusal}
use Rattle.gomp_types.specs.declared.refusal.Refusal.TheVariants.{Leaving as LeavingRefusal}
use Rattle.gomp_events.specs.declared.seen.Seen.{Seen}
use Rattle.gomp_events.specs.Cancels.{is_leaving}
use Rattle.gomp_types.specs.Least.{least}
use Rattle.gomp_events.specs.Seen.{seen_of}
use Rattle.gomp_dispatch.specs.declared.leaving.Leaving.{Leaving}
use Rattle.gomp_dispatch.specs.Leaves.{LeavesAs}

-- what its place and the flags show is what the events say
pub leaves_alike : (leaving : Leaving) (seen : Seen) (m : ℕ) (h : List Event) → seen ≡ seen_of m h → LeavesAs leaving m h → (leaving.region || seen.leaving || leaving.task) ≡ is_leaving m h
leaves_alike leaving seen m h e leaves = rw (e, leaves.region, leaves.task) refl

-- a member that leaves nothing is not refused
pub stays_unrefused : (leaves lets : Bool) → leaves ≡ false → None ≡ least ((leaves && not lets, LeavingRefusal) ∷ [])
stays_unrefused leaves lets e = rw e refl

-- nor is a call that lets it leave
pub let_unrefused : (leaves lets : Bool) → lets ≡ true → None ≡ least ((leaves && not lets, LeavingRefusal) ∷ [])
let_unrefused true lets e = rw e refl
let_unrefused false lets e = refl

pub bound_refused : (leaves lets : Bool) → leaves ≡ true → lets ≡ false → Some LeavingRefusal ≡ least ((leaves && not lets, LeavingRefusal) ∷ [])
bound_refused leaves lets e other = rw (e, other) refl

-- an end that its place lets, and that leaves its share alone
pub end_let : (share more placed found : Bool) → found ≡ (share && not more) → found ≡ true → placed ≡ (share && not more && placed)
end_let true true placed found is e = absurd (cc)
end_let true false placed found is e = refl
end_let false more placed found is e = absurd (cc)

pub is_none_so : (b : Bool) (found : Option Refusal) → not b ≡ is_some found → b ≡ is_none found
is_none_so true None e = refl
is_none_so false (Some refusal) e = refl
is_none_so true (Some refusal) e = absurd (cc)
is_none_so false None e = absurd (cc)
