-- Which calls on the work-shares are made, and which tests a construct has, of any member, place and list of events: each call that may be made, and no other.
use Rattle.std.proofs.Common.{◌≡◌, ℕ, ◌<◌, ◌≤◌, Bool, true, false, List, Option, Some, None, refl, arith}
use Rattle.std.specs.Prelude.{◌&&◌, ◌||◌, is_some, is_none, nat_lt}
use Rattle.std.proofs.lemmas.Bool.Decides.{nat_tests}
use Rattle.gomp_events.specs.declared.seen.Seen.{Seen}
use Rattle.gomp_types.specs.declared.shape.Shape.{Shape}
use Rattle.gomp_types.specs.declared.shape.ShareKind.{ShareKind}
use Rattle.gomp_types.specs.declared.loop_desc.EndKind.{EndKind}
use Rattle.gomp_types.specs.declared.cancel.CancelKind.TheVariants.{Loop, Sections}
use Rattle.gomp_types.specs.declared.refusal.Refusal.{Refusal}
use Rattle.gomp_events.specs.declared.event.Event.{Event}
use Rattle.gomp_types.specs.Tests.{Test, first_holding}
use Rattle.gomp_types.specs.Shapes.{is_loop, is_sections, is_single}
use Rattle.gomp_events.specs.Events.{in_kind}
use Rattle.gomp_events.specs.Cancels.{may_be_cancelled}
use Rattle.gomp_events.specs.Ordered.{is_ordered, is_in_rest}
use Rattle.gomp_events.specs.Seen.{seen_of}
use Rattle.gomp_types.proofs.Booleans.{and_false, or_right}
use Rattle.gomp_shares.specs.declared.calls.ShareCall.TheVariants.{Claim, Leave, Begin, EndPart, HandOn, Cancel as CancelShare, See as SeeCancelled}
use Rattle.gomp_shares.specs.declared.calls.ShareStep.{ShareStep}
use Rattle.gomp_shares.specs.declared.admission.Construct.TheVariants as constructs
use Rattle.gomp_shares.specs.Admission.{kinds_of, in_part_of, next_tests_of, end_tests_of}
use Rattle.gomp_shares.specs.Loops.{next_tests, end_tests}
use Rattle.gomp_shares.specs.Sections.{section_next_tests, sections_end_tests}
use Rattle.gomp_shares.specs.Calls.{most_shares, is_done, is_free_construct, kind_in}
use Rattle.gomp_shares.specs.Runs.{may_open, may_make, is_made}

-- a member opens a share outside of every other one, up to the most, if the construct is not refused
pub share_may_be_opened : (seen : Seen) (tests : List Test) → seen.current ≡ None → seen.entered < most_shares → first_holding tests ≡ None → may_open seen tests ≡ true
share_may_be_opened seen tests outside few fine = let below : nat_lt seen.entered most_shares ≡ true = grind (arith, nat_tests, few) in rw (outside, below, fine) refl

pub no_share_opened_inside_another : (seen : Seen) (tests : List Test) (i : ℕ) (shape : Shape) → seen.current ≡ Some (i, shape) → may_open seen tests ≡ false
no_share_opened_inside_another seen tests i shape inside = rw inside refl

pub no_share_opened_if_refused : (seen : Seen) (tests : List Test) (refusal : Refusal) → first_holding tests ≡ Some refusal → may_open seen tests ≡ false
no_share_opened_if_refused seen tests refusal refused = rw refused (and_false (is_none seen.current && nat_lt seen.entered most_shares) false refl)

pub most_shares_of_a_member : most_shares ≡ 281474976710656
most_shares_of_a_member = refl

-- it asks for a piece in a share, unless it was told that none is left or is in an ordered part
pub piece_may_be_claimed : (seen : Seen) → is_some seen.current ≡ true → seen.drained ≡ false → seen.in_part ≡ false → may_make seen Claim ≡ true
piece_may_be_claimed seen inside more apart = rw (inside, more, apart) refl

-- it leaves a share in which nothing is left for it, or which it has seen cancelled
pub share_may_be_left : (seen : Seen) → is_some seen.current ≡ true → is_free_construct seen ≡ true → seen.in_part ≡ false → may_make seen Leave ≡ true
share_may_be_left seen inside free apart = rw (inside, free, apart) refl

pub free_once_told_or_leaving : (seen : Seen) → (seen.drained ≡ true → is_free_construct seen ≡ true) × (seen.leaving ≡ true → is_free_construct seen ≡ true)
free_once_told_or_leaving seen = ((λ told. rw told refl), (λ leaves. or_right (is_done seen) seen.leaving leaves))

pub free_once_a_single_was_taken : (seen : Seen) → in_kind is_single seen.current ≡ true → is_some seen.piece ≡ true → is_free_construct seen ≡ true
free_once_a_single_was_taken seen single taken = rw (single, taken) (by_told seen.drained)
  where
    by_told : (b : Bool) → ((b || true) || seen.leaving) ≡ true
    by_told true = refl
    by_told false = refl

pub not_free_in_another_construct : (seen : Seen) → seen.drained ≡ false → seen.leaving ≡ false → in_kind is_single seen.current ≡ false → is_free_construct seen ≡ false
not_free_in_another_construct seen more stays other = rw (more, stays, other) refl

pub not_free_before_the_piece : (seen : Seen) → seen.drained ≡ false → seen.leaving ≡ false → seen.piece ≡ None → is_free_construct seen ≡ false
not_free_before_the_piece seen more stays none = rw (more, stays, none) (by_kind (in_kind is_single seen.current))
  where
    by_kind : (b : Bool) → ((b && false) || false) ≡ false
    by_kind true = refl
    by_kind false = refl

-- it begins the part of an iteration that comes next in its piece of an ordered loop, ends the part that it is in, and hands its piece on outside of each
pub part_may_be_begun : (seen : Seen) (iteration : ℕ) → is_ordered seen.current ≡ true → seen.in_part ≡ false → is_in_rest seen.piece seen.next_part (Some iteration) ≡ true → may_make seen (Begin iteration) ≡ true
part_may_be_begun seen iteration ordered apart rest = rw (ordered, apart, rest) refl

pub part_may_be_ended : (seen : Seen) → may_make seen EndPart ≡ seen.in_part
part_may_be_ended seen = refl

pub piece_may_be_handed_on : (seen : Seen) → is_ordered seen.current ≡ true → seen.in_part ≡ false → may_make seen HandOn ≡ true
piece_may_be_handed_on seen ordered apart = rw (ordered, apart) refl

-- it cancels a share that may be cancelled, and looks whether its loop or its sections are
pub share_may_be_cancelled : (seen : Seen) → may_make seen CancelShare ≡ may_be_cancelled seen.current
share_may_be_cancelled seen = refl

pub loop_or_sections_may_be_looked_at : (seen : Seen) → (in_kind is_loop seen.current ≡ true → may_make seen SeeCancelled ≡ true) × (in_kind is_sections seen.current ≡ true → may_make seen SeeCancelled ≡ true)
loop_or_sections_may_be_looked_at seen = ((λ loop. rw loop refl), (λ sections. or_right (in_kind is_loop seen.current) (in_kind is_sections seen.current) sections))

pub nothing_else_is_looked_at : (seen : Seen) → in_kind is_loop seen.current ≡ false → in_kind is_sections seen.current ≡ false → may_make seen SeeCancelled ≡ false
nothing_else_is_looked_at seen loop sections = rw (loop, sections) refl

-- which a cancellation names by what the share is
pub cancellation_names_what_it_is : (own : Option (ℕ × Shape)) → (in_kind is_sections own ≡ true → kind_in own ≡ Sections) × (in_kind is_sections own ≡ false → kind_in own ≡ Loop)
cancellation_names_what_it_is own = ((λ sections. rw sections refl), (λ other. rw other refl))

-- a step is made if its member is in the team and may make its call, and no outsider makes one
pub step_is_made : (members : ℕ) (step : ShareStep) (h : List Event) → step.member < members → may_make (seen_of step.member h) step.call ≡ true → is_made members step h ≡ true
step_is_made members step h within may = let inside : nat_lt step.member members ≡ true = grind (arith, nat_tests, within) in rw (inside, may) refl

pub no_step_by_an_outsider : (members : ℕ) (step : ShareStep) (h : List Event) → members ≤ step.member → is_made members step h ≡ false
no_step_by_an_outsider members step h outside = let out : nat_lt step.member members ≡ false = grind (arith, nat_tests, outside) in rw out refl

-- Loops and sections have their own tests, of whatever place

pub loops_have_their_tests :
    (kind : ShareKind) (end_kind : EndKind) (seen : Seen) →
    (kinds_of constructs.Loop kind ≡ is_loop kind) × (in_part_of constructs.Loop seen ≡ seen.in_part) × (next_tests_of constructs.Loop seen ≡ next_tests seen) × (end_tests_of constructs.Loop end_kind seen ≡ end_tests end_kind seen)
loops_have_their_tests kind end_kind seen = (refl, refl, refl, refl)

pub sections_have_their_tests :
    (kind : ShareKind) (end_kind : EndKind) (seen : Seen) →
    (kinds_of constructs.Sections kind ≡ is_sections kind) × (in_part_of constructs.Sections seen ≡ false) × (next_tests_of constructs.Sections seen ≡ section_next_tests seen) × (end_tests_of constructs.Sections end_kind seen ≡ sections_end_tests end_kind seen)
sections_have_their_tests kind end_kind seen = (refl, refl, refl, refl)
