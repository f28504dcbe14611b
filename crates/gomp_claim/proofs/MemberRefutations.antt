-- What no call of C does to the member behind the pointer: what each clause of its contract forbids, of any member, piece and answer.
use Rattle.std.proofs.Common.{◌≡◌, ℕ, Bool, true, false, None, subst}
use Rattle.gomp_events.specs.declared.event.Event.TheVariants.{Enter, End}
use Rattle.gomp_events.specs.Events.{share_number}
use Rattle.gomp_ring.specs.RingSeats.{SeatActs, SeatClaims, SeatClaimsNext, SeatGoesThrough, may_claim, piece_in}
use Rattle.gomp_claim.specs.declared.member.ClaimMember.{ClaimMember}
use Rattle.gomp_claim.specs.Members.{IsSameMember, TakesPiece, EntersShare, LeavesShare, PassesSingle}

-- no call moves a member to another ring, or changes the shape of its loops
pub never_on_another_ring : (before now : ClaimMember) → IsSameMember before now → (now.ring ≡ before.ring → ⊥) → ⊥
never_on_another_ring before now same other = other same.ring

pub never_in_loops_of_another_shape : (before now : ClaimMember) → IsSameMember before now → (now.shape ≡ before.shape → ⊥) → ⊥
never_in_loops_of_another_shape before now same other = other same.shape

pub no_piece_of_another_member : (before now : ClaimMember) (first end : ℕ) → TakesPiece before now first end → (IsSameMember before now → ⊥) → ⊥
no_piece_of_another_member before now first end takes other = other takes.member

pub no_entry_of_another_member : (before now : ClaimMember) (answer : Bool) → EntersShare before now answer → (IsSameMember before now → ⊥) → ⊥
no_entry_of_another_member before now answer enters other = other enters.member

pub no_leave_of_another_member : (before now : ClaimMember) (answer : Bool) → LeavesShare before now answer → (IsSameMember before now → ⊥) → ⊥
no_leave_of_another_member before now answer leaves other = other leaves.member

-- a member that may claim does so by its seat, and one that may not has no piece and changes nothing
pub member_that_may_claim_claims : (before now : ClaimMember) (first end : ℕ) → TakesPiece before now first end → may_claim before.seat.seen ≡ true → SeatClaims before.seat (piece_in first end) now.seat
member_that_may_claim_claims before now first end takes may = subst (λ (b : Bool). SeatClaimsNext b before.seat (piece_in first end) now.seat) may takes.claims

pub member_that_may_not_claim_has_none : (before now : ClaimMember) (first end : ℕ) → TakesPiece before now first end → may_claim before.seat.seen ≡ false → (piece_in first end ≡ None) × (now.seat ≡ before.seat)
member_that_may_not_claim_has_none before now first end takes may_not = subst (λ (b : Bool). SeatClaimsNext b before.seat (piece_in first end) now.seat) may_not takes.claims

-- one that is told that it entered has, and left has; else nothing changes
pub member_that_entered_has : (before now : ClaimMember) → EntersShare before now true → SeatActs (Enter before.seat.seen.entered before.seat.member before.shape) before.seat now.seat
member_that_entered_has before now enters = enters.enters

pub never_changed_without_an_entry : (before now : ClaimMember) → EntersShare before now false → (now.seat ≡ before.seat → ⊥) → ⊥
never_changed_without_an_entry before now enters changed = changed enters.enters

pub member_that_left_has : (before now : ClaimMember) → LeavesShare before now true → SeatActs (End (share_number before.seat.seen.current) before.seat.member) before.seat now.seat
member_that_left_has before now leaves = leaves.leaves

pub never_changed_without_a_leave : (before now : ClaimMember) → LeavesShare before now false → (now.seat ≡ before.seat → ⊥) → ⊥
never_changed_without_a_leave before now leaves changed = changed leaves.leaves

-- one that is told that it went through a single has, and executes it as it is told; else nothing changes, and it executes nothing
pub no_passage_of_another_member : (before now : ClaimMember) (done executes : Bool) → PassesSingle before now done executes → (IsSameMember before now → ⊥) → ⊥
no_passage_of_another_member before now done executes passes other = other passes.member

pub member_that_passed_has : (before now : ClaimMember) (executes : Bool) → PassesSingle before now true executes → SeatGoesThrough executes before.seat now.seat
member_that_passed_has before now executes passes = passes.passes

pub never_changed_without_a_passage : (before now : ClaimMember) (executes : Bool) → PassesSingle before now false executes → (now.seat ≡ before.seat → ⊥) → ⊥
never_changed_without_a_passage before now executes passes changed = changed passes.passes.1

pub never_executes_without_a_passage : (before now : ClaimMember) → PassesSingle before now false true → ⊥
never_executes_without_a_passage before now passes = absurd (cc)
