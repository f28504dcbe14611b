-- A member that has one part of each ledger keeps it at each call, whatever it is answered.
use Rattle.std.proofs.Common.{◌≡◌, ◌++◌, ◌∙◌, List, [], ◌∷◌, Some}
use Rattle.std.specs.Prelude.{All}
use Rattle.std.proofs.lemmas.List.Elements.{All-pop}
use Rattle.gomp_types.specs.declared.call.Call.{Call}
use Rattle.gomp_types.specs.declared.reply.Reply.{Reply}
use Rattle.gomp_ompt.specs.declared.record.Record.{Record}
use Rattle.gomp_team.specs.Members.{MemberView, Called, CalledWhole}
use Rattle.gomp_team.proofs.PartsStay.{call_keeps_events_parts, call_keeps_holds_parts, call_keeps_releases_parts, whole_call_keeps_events_parts, whole_call_keeps_holds_parts, whole_call_keeps_releases_parts}
use Rattle.gomp_team_region.specs.Regions.{HasOneOfEach}

module _ {T : Type 0} (gives : T → Record → T → Type 0) where
  pub call_keeps_one_of_each : (call : Call) (reply : Reply) (before after : MemberView T) → Called gives call reply before after → HasOneOfEach before → HasOneOfEach after
  call_keeps_one_of_each call reply before after called has = record {
    events = call_keeps_events_parts gives call reply before after called ∙ has.events;
    held = call_keeps_holds_parts gives call reply before after called ∙ has.held;
    freed = call_keeps_releases_parts gives call reply before after called ∙ has.freed;
  }

  pub whole_call_keeps_one_of_each : (call : Call) (reply : Reply) (before after : MemberView T) → CalledWhole gives call reply before after → HasOneOfEach before → HasOneOfEach after
  whole_call_keeps_one_of_each call reply before after called has = record {
    events = whole_call_keeps_events_parts gives call reply before after called ∙ has.events;
    held = whole_call_keeps_holds_parts gives call reply before after called ∙ has.held;
    freed = whole_call_keeps_releases_parts gives call reply before after called ∙ has.freed;
  }

-- the last of a list of these is one, and so are those before it
pub last_has_one_of_each : {T : Type 0} (members rest : List (MemberView T)) (member : MemberView T) → members ≡ rest ++ member ∷ [] → All HasOneOfEach members → HasOneOfEach member
last_has_one_of_each members rest member is each = (All-pop HasOneOfEach members rest (Some member) is each).1

pub others_have_one_of_each : {T : Type 0} (members rest : List (MemberView T)) (member : MemberView T) → members ≡ rest ++ member ∷ [] → All HasOneOfEach members → All HasOneOfEach rest
others_have_one_of_each members rest member is each = (All-pop HasOneOfEach members rest (Some member) is each).0
