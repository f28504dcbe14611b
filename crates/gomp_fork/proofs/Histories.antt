-- The history of a region, and what its members were answered.
use Rattle.std.proofs.Common.{◌≡◌, List, [], ◌∷◌, refl, sym, ◌∙◌, sum_by, arith}
use Rattle.std.proofs.lemmas.List.Sums.{sum_by-cons}
use Rattle.gomp_events.specs.declared.event.Event.{Event}
use Rattle.gomp_team.specs.Members.{MemberView}
use Rattle.gomp_team_board.specs.Parts.{PartView}
use Rattle.gomp_team_region.specs.Regions.{counts_on, events_parts, with_parts}
use Rattle.gomp_team_region.specs.Settled.{IsCounted, IsHistory}
use Rattle.gomp_fork.specs.Teams.{EndView, IsHistoryOf, members_of}

module _ {P T : Type 0} where
  -- what was counted on their parts is what was counted by them
  all_on_parts : (ends : List (EndView P T)) → sum_by (λ part. part.amount) (events_parts (members_of ends)) ≡ sum_by (λ end. end.member.events.amount) ends
  all_on_parts [] = refl
  all_on_parts (end ∷ ends) =
      omega (arith, all_on_parts ends, sum_by-cons (λ (part : PartView). part.amount) end.member.events (events_parts (members_of ends)), sum_by-cons (λ (runner : EndView P T). runner.member.events.amount) end ends)

  -- a settled history is that of the members that came back
  pub history_of : (ends : List (EndView P T)) (members : List (MemberView T)) (rest : PartView) (history : List Event)
      → members ≡ members_of ends → rest.amount ≡ 0
      → IsHistory (counts_on (events_parts members)) history → IsCounted (with_parts rest (events_parts members)) history → IsHistoryOf ends history
  history_of ends members rest history members_are none is counted = record {
    history_is = rw (sym members_are) is;
    all_given = sym (all_on_parts ends) ∙ omega (arith, none, rw members_are at counted);
  }
