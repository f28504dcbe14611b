-- Which tests of a member's call its own knowledge decides. (own; OpenMP API 5.2, sections 16.1 and 16.2)
use Rattle.std.specs.Prelude.{◌≡◌, ◌&&◌, is_none, Bool, true, List, [], ◌∷◌, ◌++◌}
use Rattle.gomp_types.specs.declared.call.Call.{Call}
use Rattle.gomp_types.specs.declared.refusal.Refusal.TheVariants.{Ended, NotInside}
use Rattle.gomp_types.specs.Tests.{Test}
use Rattle.gomp_types.specs.Least.{least}
use Rattle.gomp_types.specs.Resumes.{is_resume}
use Rattle.gomp_events.specs.Events.{has_left_region}
use Rattle.gomp_events.specs.Seen.{seen_of}
use Rattle.gomp_events.specs.Tasks.{executed_task}
use Rattle.gomp_events.specs.Cancels.{leaves_share}
use Rattle.gomp_model.specs.Past.{Past}
use Rattle.gomp_model.specs.Row.{Row, leaving_tests}
use Rattle.gomp_model.specs.Calls.{row_of}
use Rattle.gomp_model.specs.Team.{wait_tests}
use Rattle.gomp_dispatch.specs.Leaves.{LeavesAs}
use Rattle.gomp_member.specs.Own.{OwnView, own_task, own_meant}

-- what the member knows is what was before its call
pub record KnowsPast (own : OwnView) (p : Past) : Type 0 where
  pub ended : has_left_region own.number p.events ≡ own.ended
  pub waits : p.waits own.number ≡ own.waits
  pub task : executed_task own.number p.events ≡ own_task own
  pub leaving : LeavesAs own.leaving own.number p.events
  pub share : leaves_share own.number p.events ≡ own.leaves_share

-- whether the tests of its place let a member that leaves its share end that by this call
abbrev pub LetsEnd : Bool → OwnView → Row → Past → Type 0
LetsEnd placed own row p = own.leaves_share ≡ true → row.drains ≡ true → placed ≡ is_none (least (row.by_place p.terms.limits (seen_of own.number p.events)))

-- its member waits, or leaves something; a resume has nothing to repeat
abbrev pub inside_region_tests : OwnView → Call → Past → List Test
inside_region_tests own call p =
    wait_tests call (p.waits own.number).open_call
    ++ (leaving_tests (is_resume call) (row_of (own_meant own call)) own.number p
    ++ (is_resume call && is_none (p.waits own.number).open_call, NotInside) ∷ [])

-- whatever the call is: its member has passed the region's end, or is refused inside of the region
abbrev pub own_tests : OwnView → Call → Past → List Test
own_tests own call p = (has_left_region own.number p.events, Ended) ∷ inside_region_tests own call p
