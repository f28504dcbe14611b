use Rattle.std.proofs.Common.{◌≡◌, ◌++◌, ◌∙◌, Some, ap, sym, subst, reverse}
use Rattle.std.proofs.lemmas.List.{reverse-reverse}
use Rattle.gomp_ring.specs.RingSeats.{AreAllSeats, Gathers}
use Rattle.gomp_ring.specs.Rings.{ring_members}
use Rattle.gomp_team.specs.Members.{SharedView}
use Rattle.gomp_team_region.specs.Regions.{RegionView, events_parts, seats_of, counts_on, with_parts}
use Rattle.gomp_team_region.specs.Settled.{IsHistory, IsCounted}
use Rattle.gomp_team_region.proofs.Handed.{handed_gathered, handed_history, handed_refusal, handed_whole, handed_with_work}
use Rattle.gomp_team_region.proofs.region_team.RegionTeam.settle.Goals as goal

pub returns-clause-history : goal.returns-clause-history
returns-clause-history g c =
    let counts = counts_on (events_parts c.args.members.items) in
    let taken = c.take_back.ensures.counts ∙ ap (λ before. before ++ reverse counts) c.self.invariant.1 in
    let given : c.as_slice.result.now ≡ counts = c.as_slice.ensures.value ∙ (c.into_lists-tools.ensures.counts ∙ (ap reverse taken ∙ reverse-reverse counts)) in
    handed_with_work (λ history. history.items) (λ work. work.history.items) c.region_history-history.result c.region_work.result (IsHistory counts) c.region_work.ensures.settled c.region_work.ensures.history
    (handed_history (λ history. history.items) c.region_history-history.result counts c.as_slice.result.now c.close-board.result.0 given c.region_history-history.ensures.settled c.region_history-history.ensures.history c.close-board.ensures.laws)

pub returns-clause-whole : goal.returns-clause-whole
returns-clause-whole g c =
    let parts = events_parts c.args.members.items in
    let taken = c.take_back.ensures.rest ∙ ap (λ region. with_parts region.rest parts) c.self.view_is in
    handed_with_work (λ history. history.items) (λ work. work.history.items) c.region_history-history.result c.region_work.result (IsCounted (with_parts c.args.self.rest parts)) c.region_work.ensures.settled c.region_work.ensures.history
    (handed_whole (λ history. history.items) c.region_history-history.result c.take_back.new.rest (with_parts c.args.self.rest parts) c.close-board.result.0 taken c.close-board.ensures.counted c.region_history-history.ensures.history)

pub gather-gathered-requires-clause-seats : goal.gather-gathered-requires-clause-seats
gather-gathered-requires-clause-seats g c =
    let seats = seats_of c.args.members.items in
    let taken = c.take_back.ensures.seats ∙ ap (λ before. before ++ reverse seats) c.self.invariant.2 in
    let given : c.into_lists-tools.result.seats.items ≡ seats = c.into_lists-tools.ensures.seats ∙ (ap reverse taken ∙ reverse-reverse seats) in
    let ring : c.in-Some.team.ring ≡ c.args.self.ring = ap (λ (team : SharedView). team.ring) c.in-Some.ensures ∙ ap (λ (region : RegionView). region.ring) c.self.view_is in
    subst (λ list. AreAllSeats c.in-Some.team.ring list) (sym given) (subst (λ other. AreAllSeats other seats) (sym ring) c.requires.seats)

pub returns-clause-gathered : goal.returns-clause-gathered
returns-clause-gathered g c =
    let seats = seats_of c.args.members.items in
    let taken = c.take_back.ensures.seats ∙ ap (λ before. before ++ reverse seats) c.self.invariant.2 in
    let given : c.into_lists-tools.result.seats.items ≡ seats = c.into_lists-tools.ensures.seats ∙ (ap reverse taken ∙ reverse-reverse seats) in
    let ring : c.in-Some.team.ring ≡ c.args.self.ring = ap (λ (team : SharedView). team.ring) c.in-Some.ensures ∙ ap (λ (region : RegionView). region.ring) c.self.view_is in
    let gathered = c.gather-gathered.result in
    handed_gathered (λ work. work.shares) (λ work. work.taken.items) c.region_work.result (ring_members c.args.self.ring) seats gathered.shares gathered.taken.items
    (subst (λ list. Gathers (ring_members c.args.self.ring) list gathered.shares gathered.taken.items) given
    (subst (λ other. Gathers (ring_members other) c.into_lists-tools.result.seats.items gathered.shares gathered.taken.items) ring c.gather-gathered.ensures.gathered))
    c.region_work.ensures.shares c.region_work.ensures.taken

pub returns-clause-refused : goal.returns-clause-refused
returns-clause-refused g c =
    let parts = events_parts c.args.members.items in
    let counts = counts_on parts in
    let seats = seats_of c.args.members.items in
    let counts_taken = c.take_back.ensures.counts ∙ ap (λ before. before ++ reverse counts) c.self.invariant.1 in
    let counts_given : c.as_slice.result.now ≡ counts = c.as_slice.ensures.value ∙ (c.into_lists-tools.ensures.counts ∙ (ap reverse counts_taken ∙ reverse-reverse counts)) in
    let seats_taken = c.take_back.ensures.seats ∙ ap (λ before. before ++ reverse seats) c.self.invariant.2 in
    let seats_given : c.into_lists-tools.result.seats.items ≡ seats = c.into_lists-tools.ensures.seats ∙ (ap reverse seats_taken ∙ reverse-reverse seats) in
    let ring : c.in-Some.team.ring ≡ c.args.self.ring = ap (λ (team : SharedView). team.ring) c.in-Some.ensures ∙ ap (λ (region : RegionView). region.ring) c.self.view_is in
    let gathered = c.gather-gathered.result in
    let rest = c.take_back.ensures.rest ∙ ap (λ region. with_parts region.rest parts) c.self.view_is in
    handed_refusal (λ history. history.items) c.region_history-history.result c.region_work.result (Some c.close-board.result.1) (ring_members c.args.self.ring) seats gathered.shares gathered.taken.items
    counts c.as_slice.result.now c.take_back.new.rest (with_parts c.args.self.rest parts) c.close-board.result.0
    (subst (λ list. Gathers (ring_members c.args.self.ring) list gathered.shares gathered.taken.items) seats_given
    (subst (λ other. Gathers (ring_members other) c.into_lists-tools.result.seats.items gathered.shares gathered.taken.items) ring c.gather-gathered.ensures.gathered))
    counts_given rest c.close-board.ensures.counted c.close-board.ensures.laws c.region_history-history.ensures.settled c.region_history-history.ensures.history c.region_history-history.ensures.refused
    c.region_work.ensures.refused c.region_work.ensures.stayed
