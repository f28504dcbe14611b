-- What a new team, its members and a history that is handed out never are, of any members, counts and events.
use Rattle.std.proofs.Common.{ℕ, ◌≡◌, ◌≢◌, ◌+◌, ◌++◌, ◌<◌, true, false, List, [], ◌∷◌, Some, None, refl, ap, ◌∙◌, subst, arith, length, reverse}
use Rattle.std.proofs.lemmas.Bool.Decides.{nat_tests}
use Rattle.std.specs.Prelude.{codes, nat_le}
use Rattle.std.specs.Fmt.{digits}
use Rattle.gomp_types.specs.declared.refusal.Clash.{Clash}
use Rattle.gomp_types.specs.declared.refusal.Place.TheVariants as places
use Rattle.gomp_icv.specs.Variables.{Variables}
use Rattle.gomp_types.proofs.Booleans.{and_left, and_right}
use Rattle.gomp_events.specs.declared.event.Event.{Event}
use Rattle.gomp_events.specs.declared.event.Event.TheVariants.{Arrive}
use Rattle.gomp_events.specs.declared.event.Tag.{Tag}
use Rattle.gomp_events.specs.Cancels.{is_cancelled}
use Rattle.gomp_events.specs.Events.{clash_of, has_left_region}
use Rattle.gomp_member.specs.Own.{new_member}
use Rattle.gomp_team.specs.Members.{TeamView, MemberView}
use Rattle.gomp_team_board.specs.declared.part.PartCounts.{PartCounts}
use Rattle.gomp_team_board.specs.Counts.{counted_events}
use Rattle.gomp_team_board.specs.Locked.{KeptLaws}
use Rattle.gomp_team_board.specs.Parts.{PartView, part_of, no_counts, counts_in}
use Rattle.gomp_team_book.specs.Parts.{BookPartView}
use Rattle.gomp_ring.specs.RingSeats.{SeatView}
use Rattle.gomp_team_region.specs.declared.settle.SettleError.{SettleError}
use Rattle.gomp_team_region.specs.declared.settle.SettleError.TheVariants.{Broken, Unsettled}
use Rattle.gomp_team_region.specs.Regions.{RegionView, IsNewMember, AreNewMembers, IsNewRegion, GivesParts, with_parts, with_book_parts}
use Rattle.gomp_team_region.specs.Settled.{HasNotSettled, HasReturned, HaveReturned, IsSettled, IsHistory, IsCounted, ComesBack, LeftShares, all_arrive_within, arrives_within, settle_error, error_text}

-- A history that is handed out

each_has_returned : (m : ℕ) (before after : List PartCounts) (counts : PartCounts) (history : List Event) → HaveReturned m (before ++ counts ∷ after) history → HasReturned (m + length before) counts history
each_has_returned m [] after counts history (one, others) =
    let here : m ≡ m + 0 = omega arith in
    subst (λ k. HasReturned k counts history) here one
each_has_returned m (first ∷ before) after counts history (one, others) =
    let there : m + 1 + length before ≡ m + length (first ∷ before) = omega arith in
    subst (λ k. HasReturned k counts history) there (each_has_returned (m + 1) before after counts history others)

returned_in : (before after : List PartCounts) (counts : PartCounts) (history : List Event) → IsHistory (before ++ counts ∷ after) history → HasReturned (length before) counts history
returned_in before after counts history whole =
    let place : 0 + length before ≡ length before = omega arith in
    subst (λ k. HasReturned k counts history) place (each_has_returned 0 before after counts history whole.settled.returned)

-- without the pass of the region's end of a member
pub never_before_a_member_ended : (before after : List PartCounts) (counts : PartCounts) (history : List Event) → IsHistory (before ++ counts ∷ after) history → has_left_region (length before) (reverse history) ≡ false → ⊥
never_before_a_member_ended before after counts history whole stays = absurd (cc ((returned_in before after counts history whole).left, stays))

-- with other events than a member was answered
pub never_with_other_counts : (before after : List PartCounts) (counts : PartCounts) (history : List Event) → IsHistory (before ++ counts ∷ after) history → counts_in (length before) history ≢ counts → ⊥
never_with_other_counts before after counts history whole differ = differ (returned_in before after counts history whole).counts_are

-- of a broken team
pub never_of_a_broken_team : (counts : List PartCounts) (history : List Event) (clash : Clash) → IsHistory counts history → clash_of (reverse history) ≡ Some clash → ⊥
never_of_a_broken_team counts history clash whole broken = absurd (cc (whole.settled.unbroken, broken))

-- against the laws
pub never_against_the_laws : (counts : List PartCounts) (history : List Event) → IsHistory counts history → (KeptLaws (length counts) (reverse history) → ⊥) → ⊥
never_against_the_laws counts history whole against = against whole.laws

-- of another number of members
pub never_settled_for_others : (members : ℕ) (counts : List PartCounts) (history : List Event) → IsSettled members counts history → members ≢ length counts → ⊥
never_settled_for_others members counts history settled differ = differ settled.size

-- with fewer or more events than the whole ledger
pub no_event_is_missing_of_the_whole : (part : PartView) (history : List Event) → IsCounted part history → part.amount ≢ counted_events history → ⊥
no_event_is_missing_of_the_whole part history counts differ = differ counts

-- without a cancellation of the region, with an arrival after a share that not all have left
pub no_arrival_past_a_share_not_left : (shares barrier member : ℕ) (tag : Tag) (before after : List Event) → LeftShares shares (before ++ Arrive barrier member tag ∷ after)
    → is_cancelled (reverse (before ++ Arrive barrier member tag ∷ after)) ≡ false → shares < tag.shares → ⊥
no_arrival_past_a_share_not_left shares barrier member tag before after left stays more = past_all before (left stays)
  where
    past_all : (events : List Event) → all_arrive_within shares (events ++ Arrive barrier member tag ∷ after) ≡ true → ⊥
    past_all [] within = let first = and_left (nat_le tag.shares shares) (all_arrive_within shares after) within in grind (arith, nat_tests)
    past_all (event ∷ events) within = past_all events (and_right (arrives_within shares event) _ within)

-- A ledger that comes back without some of its parts, or with others

pub no_part_is_missing_of_a_ledger : (parts ledger : ℕ) → ComesBack parts (Some ledger) → ledger ≢ parts → ⊥
no_part_is_missing_of_a_ledger parts ledger back differ = differ back

-- Why none is handed out

pub never_unsettled_if_broken : (clash : Clash) → settle_error (Some clash) ≡ Unsettled → ⊥
never_unsettled_if_broken clash is = absurd (cc is)

pub never_broken_if_nobody_broke_it : (clash : Clash) → settle_error None ≡ Broken clash → ⊥
never_broken_if_nobody_broke_it clash is = absurd (cc is)

-- without a cause: nothing is handed out of a history that is broken or not settled, or of which an arrival counts a share that not all have left
pub never_kept_back_if_settled : (members : ℕ) (seats : List SeatView) (counts : List PartCounts) (whole : PartView) (error : SettleError) (kept : HasNotSettled members seats counts whole error)
    → IsSettled kept.size counts kept.history → LeftShares kept.shares kept.history → ⊥
never_kept_back_if_settled members seats counts whole error kept settled left = kept.cause settled left

pub never_called_broken_by_nobody : (members : ℕ) (seats : List SeatView) (counts : List PartCounts) (whole : PartView) (clash : Clash) (kept : HasNotSettled members seats counts whole (Broken clash))
    → clash_of (reverse kept.history) ≡ None → ⊥
never_called_broken_by_nobody members seats counts whole clash kept none = absurd (let is : Broken clash ≡ settle_error None = kept.error_is ∙ ap settle_error none in cc)

unsettled_prints : error_text Unsettled ≡ codes "E42 Unsettled"
unsettled_prints = refl

breaker_and_place_print : error_text (Broken (record { member = 1; place = places.Barrier 0 })) ≡ codes "E3 Broken 1 barrier 0"
unfolding digits
breaker_and_place_print = refl

-- A new team and its members

each_is_new : {T : Type 0} (team : TeamView) (m : ℕ) (before after : List (MemberView T)) (member : MemberView T) → AreNewMembers team m (before ++ member ∷ after) → IsNewMember team (m + length before) member
each_is_new team m [] after member (one, others) =
    let here : m ≡ m + 0 = omega arith in
    subst (λ k. IsNewMember team k member) here one
each_is_new team m (first ∷ before) after member (one, others) =
    let there : m + 1 + length before ≡ m + length (first ∷ before) = omega arith in
    subst (λ k. IsNewMember team k member) there (each_is_new team (m + 1) before after member others)

-- a member of another number than its place, or that knows more than a new one
pub no_other_member_is_made : {T : Type 0} (team : TeamView) (m : ℕ) (before after : List (MemberView T)) (member : MemberView T) → AreNewMembers team m (before ++ member ∷ after) → member.own ≢ new_member team.number (m + length before) → ⊥
no_other_member_is_made team m before after member news differs = differs (each_is_new team m before after member news).own

-- one whose part has an event, or that has another number of parts
pub never_with_an_event : {T : Type 0} (team : TeamView) (m : ℕ) (member : MemberView T) → IsNewMember team m member → member.events.amount ≢ 0 → ⊥
never_with_an_event team m member new some = some (ap (λ part. part.amount) new.events)

pub never_without_one_part_each : {T : Type 0} (team : TeamView) (m : ℕ) (member : MemberView T) → IsNewMember team m member → member.held.parts + member.freed.parts ≢ 2 → ⊥
never_without_one_part_each team m member new others =
    let held : member.held.parts ≡ 1 = ap (λ part. part.parts) new.held in
    let freed : member.freed.parts ≡ 1 = ap (λ part. part.parts) new.freed in
    others (omega (arith, held, freed))

-- one with other control variables than its team
pub never_by_other_variables : {T : Type 0} (team : TeamView) (m : ℕ) (member : MemberView T) → IsNewMember team m member → member.icv ≢ team.icv → ⊥
never_by_other_variables team m member new differ = differ new.icv

-- a team of another size, or that keeps more of its ledger than its members leave
pub never_of_another_size : (number : ℕ) (icv : Variables) (size parts : ℕ) (region : RegionView) → IsNewRegion number icv size parts region → region.size ≢ size → ⊥
never_of_another_size number icv size parts region new differs = differs new.size_is

pub never_with_parts_lost : (number : ℕ) (icv : Variables) (size parts : ℕ) (region : RegionView) → IsNewRegion number icv size parts region → region.rest.parts + size ≢ parts → ⊥
never_with_parts_lost number icv size parts region new lost = lost new.left

-- parts of the book's ledgers that are lost, or what was counted on them
pub never_lost_from_the_book : (given : ℕ) (before after : BookPartView) → GivesParts given before after → after.parts + given ≢ before.parts → ⊥
never_lost_from_the_book given before after gives lost = lost gives.parts

pub never_given_with_its_count : (given : ℕ) (before after : BookPartView) → GivesParts given before after → after.amount ≢ before.amount → ⊥
never_given_with_its_count given before after gives differs = differs gives.amount

-- Parts that are taken back

parts_are_taken_back : with_parts (part_of 60 1 no_counts) (part_of 1 7 no_counts ∷ part_of 4 30 no_counts ∷ []) ≡ part_of 65 38 no_counts
parts_are_taken_back = refl

book_parts_are_taken_back : with_book_parts (record { parts = 60; amount = 1 }) (record { parts = 1; amount = 7 } ∷ record { parts = 4; amount = 30 } ∷ []) ≡ record { parts = 65; amount = 38 }
book_parts_are_taken_back = refl
